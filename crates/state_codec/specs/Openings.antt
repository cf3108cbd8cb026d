-- What a journal opens to, and why it is refused: by its header or a length, or by a snapshot or a record that can't be there.
use Rattle.std.specs.Prelude.{◌≡◌, ◌⊎◌, ℕ, ◌+◌, ⊤, Option, Some, None, List, length}
use Rattle.ground_io.specs.Trace.{Told, disk_of}
use Rattle.alarm_journal.specs.Journal.{Content, IsRefused, OpensTo}
use Rattle.alarm_journal.specs.Opened.{LieBetween, StandsAt, content_in}
use Rattle.alarm_journal.specs.Press.{StandsFor, start_of}
use Rattle.alarm_journal.specs.declared.layout.Layout.{Layout}
use Rattle.alarm_journal.specs.declared.open_fault.OpenFault.{OpenFault}
use Rattle.alarm_journal.specs.declared.open_fault.OpenFault.TheVariants.{Damaged, NoMemory}
use Rattle.alarm_journal.specs.declared.opened.Opened.{Opened}
use Rattle.alarm_core.specs.declared.site.Site.{Site}
use Rattle.alarm_core.specs.State.{CoreState}
use Rattle.state_codec.specs.Damage.{ContentLeadsTo, IsDamagedAt}
use Rattle.state_codec.specs.declared.recovering.RecoverFault.{RecoverFault}
use Rattle.state_codec.specs.declared.recovering.RecoverFault.TheVariants as recovering
use Rattle.state_codec.specs.Keeping.{journal_of}

-- The octets opened, and stand where a journal has its snapshot and its bodies, one behind the other; but a snapshot or a record at this place can't be there.
pub record IsDamagedWithin (site : Site) (text : List ℕ) (old new : Told) (at : ℕ) : Type 0 where
  pub opened : Opened
  pub layout : Layout
  pub opens : OpensTo (journal_of site text) (disk_of old).contents (content_in opened)
  pub laid : StandsFor (journal_of site text) layout (disk_of new).contents (content_in opened)
  pub snapshot : opened.snapshot_place ≡ start_of layout + 4
  pub bodies : LieBetween (start_of layout + 4 + length opened.snapshot) opened.bodies layout.next
  pub stands : StandsAt opened (disk_of new).contents
  pub damaged : IsDamagedAt site opened at

-- A snapshot or a record that can't be there is damage; want of memory stays one.
abbrev pub open_fault_of : RecoverFault → OpenFault
open_fault_of (recovering.Damaged at) = Damaged at
open_fault_of recovering.NoMemory = NoMemory

-- where it tells, and goes on telling
abbrev pub IsRefusedFor : Site → List ℕ → Option Told → Option Told → OpenFault → Type 0
IsRefusedFor site text (Some old) (Some new) fault =
    IsRefused (journal_of site text) (disk_of old).contents fault ⊎ ((at : ℕ) × (fault ≡ Damaged at) × IsDamagedWithin site text old new at)
IsRefusedFor site text None new fault = ⊤
IsRefusedFor site text old None fault = ⊤

-- the octets of a device opened to a content that leads to this state of its site, where its ground told them and still tells
abbrev pub OpenedTo : Site → List ℕ → Option Told → Option Told → CoreState → Type 0
OpenedTo site text (Some old) (Some new) state = (content : Content) × OpensTo (journal_of site text) (disk_of old).contents content × ContentLeadsTo site content state
OpenedTo site text None new state = ⊤
OpenedTo site text old None state = ⊤

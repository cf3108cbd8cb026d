-- What a journal holds of a history, and what a crash leaves of one commit.
use Rattle.std.specs.Prelude.{◌⊎◌, ℕ, All, Option, Some, None, List, length}
use Rattle.ground_io.specs.Trace.{Told, disk_of}
use Rattle.alarm_journal.specs.Journal.{Content}
use Rattle.alarm_journal.specs.Journal.{Site as Journal}
use Rattle.alarm_journal.specs.Press.{Lasts, Settled}
use Rattle.alarm_journal.specs.Protocol.{Leads}
use Rattle.alarm_journal.specs.declared.layout.Layout.{Layout}
use Rattle.alarm_core.specs.Fits.{FitsEvent}
use Rattle.alarm_core.specs.declared.event.Event.{Event}
use Rattle.alarm_core.specs.declared.site.Site.{Site}
use Rattle.state_codec.specs.Contents.{ImageStands, SpellsEvents, StandsForHistory}
use Rattle.state_codec.specs.Sizes.{need}

-- the journal of a site whose text is given
abbrev pub journal_of : Site → List ℕ → Journal
journal_of site text = record { text = text; need = need site (length text) }

-- A press holds this content, and so does each image that a crash may leave now, where its ground tells.
abbrev pub Rests : Journal → Layout → Option Told → Content → Type 0
Rests journal layout told content = Settled journal layout told content × Lasts journal told content

-- what a press holds stands for a history
abbrev pub HoldsHistory : Journal → Site → List Event → Layout → Option Told → Type 0
HoldsHistory journal site history layout told = (content : Content) × Rests journal layout told content × StandsForHistory site content history

-- On the way from one to the other nothing is sent, and each image that a crash may leave stands for the one history or for the other; where it tells.
abbrev pub Commits : Journal → Site → List Event → List Event → Option Told → Option Told → Type 0
Commits journal site before after old new = Leads (λ image. ImageStands journal site image before ⊎ ImageStands journal site image after) old new

-- The octets of a device stood for a history, where its ground told them and still tells.
abbrev pub StoodFor : Journal → Site → List Event → Option Told → Option Told → Type 0
StoodFor journal site history (Some old) (Some new) = ImageStands journal site (disk_of old).contents history
StoodFor journal site history None new = ⊥
StoodFor journal site history old None = ⊥

-- octets are the records of events, each of which has one, and whose values fit their types
pub record AreRecordsOf (octets : List ℕ) (events : List Event) : Type 0 where
  pub spell : SpellsEvents octets events
  pub fit : All FitsEvent events

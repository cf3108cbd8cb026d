-- A server on a site: what it leaves of its journal, and what it did, or why no desk was opened.
use Rattle.std.specs.Prelude.{◌≡◌, ◌⊎◌, ◌≤◌, ℕ, List, [], ◌∷◌, length, map, reverse, take, Option, Some}
use Rattle.ground_io.specs.Counts.{HasCause}
use Rattle.ground_io.specs.Sent.{Along, emissions}
use Rattle.ground_io.specs.Trace.{Told, Adds, disk_of}
use Rattle.ground_io.specs.declared.entry.Entry.{Entry}
use Rattle.ground_io.specs.declared.entry.Entry.TheVariants.{Synced}
use Rattle.bac_values.specs.declared.note.Send.{Send}
use Rattle.alarm_core.specs.Allowed.{Represents}
use Rattle.alarm_core.specs.State.{CoreState}
use Rattle.alarm_core.specs.declared.event.Event.{Event}
use Rattle.alarm_core.specs.declared.site.Site.{Site}
use Rattle.alarm_journal.specs.Journal.{Site as Journal}
use Rattle.alarm_journal.specs.Press.{PressState}
use Rattle.alarm_journal.specs.Protocol.{IfToldOn}
use Rattle.floor_desk.specs.Accounts.{Due}
use Rattle.floor_desk.specs.LookingBack.{before_returned, dues_over, events_over, reach_over}
use Rattle.state_codec.specs.Keeping.{StoodFor, journal_of}
use Rattle.state_codec.specs.Openings.{OpenedTo}
use Rattle.state_codec.specs.Sizes.{need}
use Rattle.floor_desk.specs.Prefixes.{CountsLost, LeavesPrefix, GoOut}
use Rattle.floor_desk.specs.Serving.{LeavesDisk, Serves}
use Rattle.floor_desk.specs.declared.serve.Closed.{Closed}
use Rattle.floor_desk.specs.declared.serve.End.{End}
use Rattle.floor_desk.specs.declared.serve.End.TheVariants as end
use Rattle.alarm_server.specs.declared.serve.Served.{Served}
use Rattle.alarm_server.specs.declared.status.Status.{Status}
use Rattle.alarm_server.specs.declared.status.Status.TheVariants.{Done, LinkFault, NoMemory}
use Rattle.alarm_server.specs.declared.status.Status.TheVariants as status

-- From the opening's first sync on, at each moment each image that a crash may leave stands for the history and the first events of the order: of as many, at least, as what was sent until then rests on. Just the first of the dues were sent, so many, each once and in their order. Where it tells.
abbrev pub KeepsServed : Journal → Site → List Event → List Event → List Due → ℕ → Option Told → Option Told → Type 0
KeepsServed journal site history order dues sent old new = IfToldOn old new (λ before now.
    (entries : List Entry) × Adds (Some before) (Some now) (Synced ∷ entries)
    × GoOut (map (λ due. due.send) (take sent dues)) (emissions entries)
    × Along (LeavesPrefix journal site history order dues) [] (record { contents = (disk_of before).contents; loose = [] }) entries)

-- how a program ends whose server ended so
abbrev pub of_end : End → Status
of_end end.Done = Done
of_end end.DiskFault = status.DiskFault
of_end end.LinkFault = LinkFault
of_end end.NoMemory = NoMemory

abbrev pub served_of : Closed → Served
served_of closed = record { status = of_end closed.end; received = closed.received; events = closed.events; durable = closed.durable; lost = closed.lost }

-- LinkFault comes only where the link's count rose; where it rose, it comes, but for a disk that failed too
pub record LeavesLink (before now : ℕ) (ended : Status) : Type 0 where
  pub cause : HasCause before now (ended ≡ LinkFault)
  pub counted : (ended ≡ LinkFault) ⊎ ((ended ≡ status.DiskFault) ⊎ (now ≡ before))

-- no desk was opened: the four numbers are 0
abbrev pub IsUnserved : Served → Status → Type 0
IsUnserved served status = served ≡ record { status = status; received = 0; events = 0; durable = 0; lost = 0 }

module _ {G : Type 0} (told : G → Option Told) (size disk_faults emit_faults : G → ℕ) where
  -- The device is as large as it must be; its octets opened, and lead to the state that a desk began with, which served at most so many datagrams; Done, it was so many. Of what was sent, datagrams were lost just where emissions of the ground failed. Of each history that the octets of the device stood for, the desk began with it, and a crash leaves it with a prefix of the order.
  pub record HasServedSite (shows : ℕ → Type 0) (site : Site) (text : List ℕ) (count : ℕ) (old new : Option (List Send)) (before after : G) (served : Served) : Type 0 where
    pub origin : CoreState × PressState G
    pub of_site : origin.0.site ≡ site
    pub closed : Closed
    pub is : served ≡ served_of closed
    pub most : closed.received ≤ count
    pub all : closed.end ≡ end.Done → closed.received ≡ count
    pub serves : Serves told size disk_faults emit_faults shows old new origin after closed
    pub enough : need site (length text) ≤ size before
    pub opens : OpenedTo site text (told before) (told origin.1.device) origin.0
    pub disk : LeavesDisk (disk_faults before) (disk_faults after) closed.end
    pub counted : CountsLost (emit_faults before) (emit_faults after) serves.floor.lost
    pub begins : (history : List Event) → StoodFor (journal_of site text) site history (told before) (told origin.1.device) → Represents origin.0 history
    pub keeps : (history : List Event) → StoodFor (journal_of site text) site history (told before) (told after)
        → KeepsServed (journal_of site text) site history (events_over origin.0 (reverse serves.history)) (dues_over origin.0 (reverse serves.history)) (reach_over origin.0 (before_returned (reverse serves.history))).dues (told before) (told after)

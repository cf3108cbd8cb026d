-- What is so of a program over its real ends where they tell to the end, in the words of the one who runs it: premises first.
use Rattle.std.specs.Prelude.{◌≡◌, ◌+◌, ◌<◌, ◌≤◌, ℕ, List, [], ◌++◌, length, reverse, take, Option, Some, Ok}
use Rattle.std.specs.Borrow.{Bor}
use Rattle.bac_values.specs.Moments.{IsMoment}
use Rattle.bac_values.specs.declared.note.Send.{Send}
use Rattle.ground_io.specs.Disk.{MayLeave, disk_after}
use Rattle.ending_link.specs.Ending.{NotingGroundState}
use Rattle.ending_link.specs.declared.flag.SharedFlag.{SharedFlag as Raised}
use Rattle.floor_desk.specs.Accounts.{Due}
use Rattle.floor_desk.specs.LookingBack.{before_returned, dues_over, events_over, reach_over}
use Rattle.floor_desk.specs.Prefixes.{LeavesPrefix, with_first}
use Rattle.ground_io.specs.InMemory.{FileGroundState, StdSourceState, file_size}
use Rattle.ground_io.specs.Record.{Supposed}
use Rattle.ground_io.specs.Sent.{emissions}
use Rattle.ground_io.specs.Trace.{Told}
use Rattle.ground_io.specs.declared.entry.Entry.{Entry}
use Rattle.script_lines.specs.declared.line.Grammar.TheVariants as grammar
use Rattle.script_lines.specs.declared.line.Line.{Line}
use Rattle.script_lines.specs.Line.{line_says}
use Rattle.script_lines.specs.Script.{lines_of}
use Rattle.alarm_core.specs.Allowed.{Represents}
use Rattle.alarm_core.specs.declared.event.Event.{Event}
use Rattle.alarm_core.specs.declared.site.Site.{Site}
use Rattle.site_config.specs.Sites.{site_of}
use Rattle.state_codec.specs.Contents.{ImageStands}
use Rattle.state_codec.specs.Emission.{Emits}
use Rattle.state_codec.specs.Keeping.{journal_of}
use Rattle.alarm_server.specs.declared.command.Command.TheVariants.{Session}
use Rattle.alarm_server.specs.declared.serve.Served.{Served}
use Rattle.alarm_server.specs.declared.status.Status.{Status}
use Rattle.alarm_server.specs.Emission.{Ends}
use Rattle.alarm_server.specs.Keeping.{KeepsFromSync, KeepsOpened}
use Rattle.alarm_server.specs.Pieces.{piece_text}
use Rattle.alarm_server.specs.Real.{RunEnds, RunsReal, ServerEnds, ServesReal}
use Rattle.alarm_server.specs.Report.{history_over, report_of}
use Rattle.alarm_server.specs.Script.{spelled_in}
use Rattle.alarm_server.specs.ServedSites.{HasServedSite, IsUnserved, KeepsServed}

-- a disk as a run finds it: its contents, and nothing that has happened
abbrev pub found : Supposed → Told
found disk = record { first = disk.first; trace = [] }

-- the lines of a session's script
abbrev pub script_of : RunEnds → List Line
script_of ends = spelled_in (line_says grammar.Session) 0 (lines_of ends.script)

-- A session ran, its readers gave the text and the script that they were supposed to have as far as they were read, and each read of the file gave what the disk has that had those contents at first: what it tells now is this.
pub record RanToTheEnd (ends : RunEnds) (status : Status) (now : Told) : Type 0 where
  pub bytes : ℕ
  pub text : StdSourceState
  pub script : StdSourceState
  pub device : FileGroundState
  pub runs : RunsReal (Some Session) ends bytes text script device status
  pub text_left : List ℕ
  pub text_tells : text.left ≡ Some text_left
  pub script_left : List ℕ
  pub script_tells : script.left ≡ Some script_left
  pub device_tells : device.told ≡ Some now

-- the contents of the file stand for a history of the site that its text is
pub record HoldsFirst (ends : RunEnds) (site : Site) (history : List Event) : Type 0 where
  pub is_site : site_of ends.site ≡ Ok site
  pub stands : ImageStands (journal_of site ends.site) site ends.disk.first history

-- What a session did from a history on: its report, or a front of it, as its status says, is all that went out; and at each moment from the opening's first sync on, each image that a crash may leave stands for that history and the events of the first lines, of each line among them whose piece was sent by then, and of at most one more.
pub record PlaysFrom (ends : RunEnds) (site : Site) (history : List Event) (status : Status) (now : Told) : Type 0 where
  pub first : now.first ≡ ends.disk.first
  pub report : Ends Emits piece_text status (report_of site history ends.script) (Some (found ends.disk)) (Some now)
  pub kept : KeepsOpened (journal_of site ends.site) site history (script_of ends) 1 (Some (found ends.disk)) (Some now)

-- Sessions: where the ends told to the end, a session did this from the history on that its file held.
abbrev pub SessionsAreTold : Type 0
SessionsAreTold =
    (ends : RunEnds) (site : Site) (history : List Event) (status : Status) (now : Told) → RanToTheEnd ends status now → HoldsFirst ends site history → PlaysFrom ends site history status now

-- A crash came behind these entries of what a program tells over such a disk, and left this image.
pub record CrashLeaves (disk : Supposed) (now : Told) (before behind : List Entry) (image : List ℕ) : Type 0 where
  pub parts : now.trace ≡ before ++ behind
  pub leaves : MayLeave (disk_after before (record { contents = disk.first; loose = [] })) image

-- Two sessions: where the second finds an image that a crash may have left of the first, it goes on from the first's history and the events of its first lines, each line among them whose piece was sent before the crash.
abbrev pub SessionsGoOn : Type 0
SessionsGoOn =
    (ends later : RunEnds) (site : Site) (history : List Event) (status status' : Status) (now now' : Told) (before behind : List Entry)
    → RanToTheEnd ends status now → HoldsFirst ends site history → CrashLeaves ends.disk now before behind later.disk.first
    → later.site ≡ ends.site → RanToTheEnd later status' now'
    → (count : ℕ) × (count ≤ length (script_of ends))
    × ((line : ℕ) → line < length (script_of ends) → 1 + line < length (emissions before) → line < count)
    × PlaysFrom later site (history_over site history (take count (script_of ends))) status' now'

-- ---- servers

-- the ground of a server as its calls see it: that over the file, and a flag that it raises
abbrev pub ServedGround : Type 0
ServedGround = NotingGroundState FileGroundState (Bor Raised)

-- A server served, its reader gave the text that it was supposed to have as far as it was read, the file has as many octets as the contents that it is supposed to have had at first, and each read of it gave what the disk has that had these: what it tells now is this.
pub record ServedToTheEnd {L : Type 0} (left : L → Option (List Send)) (faults : L → ℕ) (ends : ServerEnds) (count : ℕ) (link : L) (served : Served) (now : Told) : Type 0 where
  pub bytes : ℕ
  pub text : StdSourceState
  pub device : FileGroundState
  pub serves : ServesReal left faults ends (Some count) bytes text device link served
  pub text_left : List ℕ
  pub text_tells : text.left ≡ Some text_left
  pub size : length ends.disk.first ≡ bytes
  pub device_tells : device.told ≡ Some now

-- A desk was opened on the journal of the site, with a state that stands for the history, and served: one order of what its callers did, each answer what the state before it gives, from these datagrams on. What was sent is a front of what that order owes, and at each moment from the opening's first sync on, each image that a crash may leave stands for the history with the first events of the order, with each event at least on which something rests that was sent by then.
pub record ServesOrder (ends : ServerEnds) (site : Site) (history : List Event) (count : ℕ) (later : Option (List Send)) (served : Served) (now : Told) : Type 0 where
  pub before : ServedGround
  pub after : ServedGround
  pub desk : HasServedSite (λ (n : ServedGround). n.inner.told) (λ n. file_size n.inner) (λ n. n.inner.disk_faults) (λ n. n.inner.emit_faults) IsMoment site ends.site count (Some ends.datagrams) later before after served
  pub begins : Represents desk.origin.0 history
  pub order : List Event
  pub is_order : order ≡ events_over desk.origin.0 (reverse desk.serves.history)
  pub dues : List Due
  pub are_dues : dues ≡ dues_over desk.origin.0 (reverse desk.serves.history)
  pub keeps : KeepsServed (journal_of site ends.site) site history order dues (reach_over desk.origin.0 (before_returned (reverse desk.serves.history))).dues (Some (found ends.disk)) (Some now)

-- What a server did from a history on: no desk was opened, nothing was sent, and each image that a crash may leave stands for that history; or one was.
pub data ServesFrom (ends : ServerEnds) (site : Site) (history : List Event) (count : ℕ) (later : Option (List Send)) (served : Served) (now : Told) : Type 0 where
  Unserved : (status : Status) → IsUnserved served status → Emits (Some (found ends.disk)) (Some now) []
      → KeepsFromSync (LeavesPrefix (journal_of site ends.site) site history [] []) (Some (found ends.disk)) (Some now) → ServesFrom ends site history count later served now
  Ordered : ServesOrder ends site history count later served now → ServesFrom ends site history count later served now

-- Servers: where the ends told to the end, a server did this from the history on that its file held.
abbrev pub ServersAreTold : {L : Type 0} → (L → Option (List Send)) → (L → ℕ) → Type 0
ServersAreTold {L} left faults =
    (ends : ServerEnds) (site : Site) (history : List Event) (count : ℕ) (link : L) (served : Served) (now : Told)
    → ServedToTheEnd left faults ends count link served now → site_of ends.site ≡ Ok site → ImageStands (journal_of site ends.site) site ends.disk.first history
    → ServesFrom ends site history count (left link) served now

-- What the second of two servers did, which finds what a crash left of the first behind these entries: from the same history on, where the first had opened no desk; else from that history and the first events of its order, of which each one is among them on which something rests that was sent before the crash.
pub data ServesOn (ends later : ServerEnds) (site : Site) (history : List Event) (before : List Entry) (From : List Event → Type 0) (count : ℕ) (rest : Option (List Send)) (served : Served) (now : Told) : Type 0 where
  FromTheSame : (status : Status) → IsUnserved served status → From history → ServesOn ends later site history before From count rest served now
  FromItsOrder : (first : ServesOrder ends site history count rest served now) → (left : LeavesPrefix (journal_of site ends.site) site history first.order first.dues (emissions before) later.disk.first)
      → From (with_first history left.count first.order) → ServesOn ends later site history before From count rest served now

-- Two servers: where the second finds an image that a crash may have left of the first, it goes on so.
abbrev pub ServersGoOn : {L : Type 0} → (L → Option (List Send)) → (L → ℕ) → Type 0
ServersGoOn {L} left faults =
    (ends later : ServerEnds) (site : Site) (history : List Event) (count count' : ℕ) (link link' : L) (served served' : Served) (now now' : Told) (before behind : List Entry)
    → ServedToTheEnd left faults ends count link served now → site_of ends.site ≡ Ok site → ImageStands (journal_of site ends.site) site ends.disk.first history
    → CrashLeaves ends.disk now before behind later.disk.first → later.site ≡ ends.site → ServedToTheEnd left faults later count' link' served' now'
    → ServesOn ends later site history before (λ held. ServesFrom later site held count' (left link') served' now') count (left link) served now

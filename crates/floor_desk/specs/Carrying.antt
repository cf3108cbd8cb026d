-- What leaves a floor with the press, and what comes back.
use Rattle.std.specs.Prelude.{◌≡◌, ℕ, ◌-◌, ⊤, List, drop, length, map, take, Option, Some, None}
use Rattle.ground_io.specs.Counts.{Rose}
use Rattle.ground_io.specs.Disk.{Always}
use Rattle.ground_io.specs.Trace.{Told, Adds, disk_of}
use Rattle.ground_io.specs.declared.entry.Entry.{Entry as GroundEntry}
use Rattle.bac_values.specs.declared.note.Send.{Send}
use Rattle.noted.specs.declared.noted.Noted.{Noted}
use Rattle.alarm_core.specs.Allowed.{Represents}
use Rattle.alarm_core.specs.State.{CoreState}
use Rattle.alarm_core.specs.declared.event.Event.{Event}
use Rattle.alarm_core.specs.declared.site.Site.{Site}
use Rattle.alarm_journal.specs.Emissions.{EmitsAll}
use Rattle.alarm_journal.specs.Journal.{Content}
use Rattle.alarm_journal.specs.Journal.{Site as Journal}
use Rattle.alarm_journal.specs.Press.{PressState, room_of}
use Rattle.alarm_journal.specs.Protocol.{IfToldOn}
use Rattle.state_codec.specs.Contents.{ImageStands, records_of}
use Rattle.state_codec.specs.Keeping.{Commits, HoldsHistory, Rests}
use Rattle.state_codec.specs.Work.{IsWorkOf}
use Rattle.floor_desk.specs.Accounts.{Account, Front, step}
use Rattle.floor_desk.specs.Courses.{KeepsCourse, KeepsFronts}
use Rattle.floor_desk.specs.Prefixes.{CountsLost, HasLost, with_first}
use Rattle.floor_desk.specs.Holding.{KeptOrder, HoldsOrder, pending_events, pending_sends}
use Rattle.floor_desk.specs.declared.entry.Entry.{Entry}
use Rattle.floor_desk.specs.declared.entry.Entry.TheVariants.{Taken, Returned, Failed}
use Rattle.floor_desk.specs.declared.load.Carried.{Carried}
use Rattle.floor_desk.specs.declared.load.Carried.TheVariants.{Home, Broken}
use Rattle.floor_desk.specs.declared.load.Load.{Load}
use Rattle.state_codec.specs.declared.work.Work.{Work}

module _ {G : Type 0} where
  -- the work of what is pending
  abbrev pub IsWorkFor : Account G → ℕ → Work → Type 0
  IsWorkFor a room work = IsWorkOf a.state (records_of (pending_events a)) room work

  -- the entry tells of what came back
  abbrev pub TellsCarried : Carried G → Entry G → Type 0
  TellsCarried (Home press upto more) entry = (memo : Noted (PressState G)) × (memo.value ≡ press) × (entry ≡ Returned upto memo)
  TellsCarried (Broken device upto) entry = (memo : Noted G) × (memo.value ≡ device) × (entry ≡ Failed upto memo)

module _ {G : Type 0} (told : G → Option Told) where
  -- a load leaves at the end of a history: with the press, which was at home as it last came back, and with all that was pending
  pub record Lends (origin : CoreState × PressState G) (a : Account G) (load : Load G) : Type 0 where
    pub none : a.loan ≡ None
    pub works : a.failed ≡ None
    pub upto : load.upto ≡ a.state.events
    pub press : load.press ≡ a.press
    pub sends : load.sends ≡ pending_sends a
    pub work : IsWorkFor a (room_of load.press.layout) load.work
    pub holds : HoldsOrder told origin a a.durable a.back a.press
    pub course : KeepsCourse origin a
    pub fronts : KeepsFronts origin a

  -- the account is the one that a load left behind it
  abbrev pub LeftWith : CoreState × PressState G → Account G → Load G → Type 0
  LeftWith origin b load = (a : Account G) × (n : ℕ) × (b ≡ step a n (Taken load.upto)) × Lends origin a load

-- From one to the other each image that a crash may leave stands for one history, where it tells.
abbrev pub Stays : Journal → Site → List Event → Option Told → Option Told → Type 0
Stays journal site history old new = IfToldOn old new (λ before now. (entries : List GroundEntry) × Adds (Some before) (Some now) entries × Always (λ image. ImageStands journal site image history) (disk_of before) entries)

-- First nothing is sent, and each image that a crash may leave stands for the one history or for the other. Only behind that these datagrams are sent, of which so many are lost, and each image stands for the other.
pub record WritesThenSends (journal : Journal) (site : Site) (before after : List Event) (sends : List Send) (lost : ℕ) (old new : Option Told) : Type 0 where
  pub written : Option Told
  pub commits : Commits journal site before after old written
  pub stays : Stays journal site after written new
  pub emits : EmitsAll sends (length sends - lost) lost written new

module _ {G : Type 0} (told : G → Option Told) where
  -- Of each history that the press held at the opening: while a loan is carried out, each image stands for the events that were durable, or for those up to the loan's last one, and nothing is sent before the latter. So what was told durable is never gone.
  abbrev pub KeepsLoan : CoreState × PressState G → Account G → ℕ → Front → ℕ → PressState G → Type 0
  KeepsLoan origin a upto front lost press = (journal : Journal) (history : List Event) → Represents origin.0 history → HoldsHistory journal origin.0.site history origin.1.layout (told origin.1.device)
      → WritesThenSends journal origin.0.site (with_first history (a.durable - origin.0.events) a.order) (with_first history (upto - origin.0.events) a.order) (map (λ due. due.send) (drop a.back.dues (take front.dues a.dues))) lost (told a.press.device) (told press.device)

  -- the same where the disk failed: nothing was sent
  abbrev pub BreaksLoan : CoreState × PressState G → Account G → ℕ → G → Type 0
  BreaksLoan origin a upto device = (journal : Journal) (history : List Event) → Represents origin.0 history → HoldsHistory journal origin.0.site history origin.1.layout (told origin.1.device)
      → Commits journal origin.0.site (with_first history (a.durable - origin.0.events) a.order) (with_first history (upto - origin.0.events) a.order) (told a.press.device) (told device)

  -- Just these datagrams went out, of which so many were lost: nothing was written, no sync came, and the journal lies where it lay. No press is lost by that.
  abbrev pub SendsAlone : List Send → PressState G → Carried G → Type 0
  SendsAlone sends before (Home press upto lost) = (press.layout ≡ before.layout) × EmitsAll sends (length sends - lost) lost (told before.device) (told press.device)
  SendsAlone sends before (Broken device upto) = ⊥

  -- a loan for which no event waited writes nothing: just the datagrams go out that the history owed up to a front
  abbrev pub WritesEventsAlone : Account G → ℕ → Front → Carried G → Type 0
  WritesEventsAlone a upto front carried = upto ≡ a.durable → SendsAlone (map (λ due. due.send) (drop a.back.dues (take front.dues a.dues))) a.press carried

module _ {G : Type 0} (size disk_faults emit_faults : G → ℕ) where
  -- What the ground counts behind a load, whoever made that. Home, no call of the disk has failed, and emissions failed just where datagrams were lost. Lost, a call of the disk has failed, and no emission. The device has its size.
  abbrev pub CountsCarried : G → Carried G → Type 0
  CountsCarried before (Home press upto lost) = (size press.device ≡ size before) × (disk_faults press.device ≡ disk_faults before) × CountsLost (emit_faults before) (emit_faults press.device) lost
  CountsCarried before (Broken device upto) = (size device ≡ size before) × Rose (disk_faults before) (disk_faults device) × (emit_faults device ≡ emit_faults before)

module _ {G : Type 0} (told : G → Option Told) where
  -- home, the journal rests on this content
  abbrev pub RestsCarried : Journal → Content → Carried G → Type 0
  RestsCarried journal content (Home press upto lost) = Rests journal press.layout (told press.device) content
  RestsCarried journal content (Broken device upto) = ⊤

module _ {G : Type 0} (told : G → Option Told) (size disk_faults emit_faults : G → ℕ) where
  -- What comes back belongs to a load that left with the press to write up to an event, when the history reached to a front of what it comes to now. Home, the order up to that event is written, and just the dues up to that front were sent, of which so many more were lost. Lost, none was sent behind those that were sent before the load. The ground counts so, and where no event waited nothing is written.
  abbrev pub IsCarriedOut : CoreState × PressState G → Account G → ℕ → Front → Carried G → Type 0
  IsCarriedOut origin a upto front (Home press event more) =
      (event ≡ upto) × CountsCarried size disk_faults emit_faults a.press.device (Home press event more) × HoldsOrder told origin a upto front press × HasLost more (told a.press.device) (told press.device) × KeepsLoan told origin a upto front more press × WritesEventsAlone told a upto front (Home press event more)
  IsCarriedOut origin a upto front (Broken device event) =
      (event ≡ upto) × CountsCarried size disk_faults emit_faults a.press.device (Broken device event) × KeptOrder told origin a a.back device × HasLost 0 (told a.press.device) (told device) × BreaksLoan told origin a upto device × WritesEventsAlone told a upto front (Broken device event)

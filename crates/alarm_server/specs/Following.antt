-- What a standby answers to the packets of a script, and what a crash leaves of it.
use Rattle.std.specs.Prelude.{◌≡◌, ◌⊎◌, ◌<◌, ◌≤◌, ℕ, ◌+◌, ⊤, All, Option, Some, None, Result, Ok, Err, List, [], ◌∷◌, ◌++◌, length, position}
use Rattle.std.specs.List.{flat_map}
use Rattle.bac_values.specs.declared.report.ReportLine.{ReportLine}
use Rattle.bac_values.specs.declared.report.ReportLine.TheVariants as say
use Rattle.bac_values.specs.Limits.{most_events}
use Rattle.ground_io.specs.Trace.{Told, Adds}
use Rattle.ground_io.specs.declared.entry.Entry.{Entry}
use Rattle.script_lines.specs.declared.packet_line.PacketLine.{PacketLine}
use Rattle.script_lines.specs.PacketLine.{packet_says}
use Rattle.script_lines.specs.Report.{report_text}
use Rattle.script_lines.specs.Script.{is_line_feed, IsWholeLines, lines_of}
use Rattle.alarm_journal.specs.Journal.{Site as Journal}
use Rattle.alarm_core.specs.declared.event.Event.{Event}
use Rattle.alarm_core.specs.declared.site.Site.{Site}
use Rattle.alarm_core.specs.State.{CoreState}
use Rattle.state_codec.specs.Contents.{ImageStands}
use Rattle.state_codec.specs.Sizes.{snapshot_bound}
use Rattle.standby.specs.Leads.{MayBe, MayBeTaken}
use Rattle.standby.specs.Packets.{PieceData, SpellsPiece, SpellsRecords}
use Rattle.standby.specs.Runs.{GoesBackTo, IsOffered}
use Rattle.standby.specs.Takes.{Following, Takes, following}
use Rattle.standby.specs.declared.took.Took.{Took}
use Rattle.standby.specs.declared.took.Took.TheVariants.{Malformed, Gap, Repeat, Part, Taken}
use Rattle.alarm_server.specs.Emission.{Ends, Going, lost, sent}
use Rattle.alarm_server.specs.Script.{refused_line, spelled_in}
use Rattle.alarm_server.specs.declared.emission.Unsent.{Unsent}
use Rattle.alarm_server.specs.declared.emission.Unsent.TheVariants.{Lost, NoMemory}
use Rattle.alarm_server.specs.declared.status.Status.{Status}
use Rattle.alarm_server.specs.declared.status.Status.TheVariants as status

-- ---- the report

-- the packets that a script spells, in order
abbrev pub packets_of : List ℕ → List PacketLine
packets_of script = spelled_in packet_says 0 (lines_of script)

-- the line that answers the packet of the script's line with this number
abbrev pub line_of : ℕ → Took → ReportLine
line_of number Malformed = say.Malformed number
line_of number (Gap known) = say.Gap number known
line_of number (Repeat known) = say.Repeat number known
line_of number (Part place) = say.Part number place
line_of number (Taken known) = say.Taken number known

-- Each packet has the line by which the table answers it, from how far the follower has come before it to how far it has come then.
abbrev pub Reports : Following → List PacketLine → List ReportLine → Following → Type 0
Reports old [] [] new = new ≡ old
Reports old [] (line ∷ lines) new = ⊥
Reports old (packet ∷ packets) [] new = ⊥
Reports old (packet ∷ packets) (line ∷ lines) new =
    (took : Took) × (between : Following) × Takes old packet.packet took between × (line ≡ line_of packet.number took) × Reports between packets lines new

-- the first line tells how many events the journal held
abbrev pub opening_line : CoreState → ReportLine
opening_line state = say.Open state.events

-- The last line tells how many lines the script has, and how many events the follower; there is none where packets are left, or a line is refused.
abbrev pub closing_lines : List PacketLine → Option ℕ → ℕ → Following → List ReportLine
closing_lines [] None lines reached = say.End lines reached.core.events ∷ []
closing_lines [] (Some refused) lines reached = []
closing_lines (packet ∷ packets) refused lines reached = []

-- with these no packet is left
abbrev pub TakesEach : Status → List PacketLine → Type 0
TakesEach status.Done left = left ≡ []
TakesEach (status.ScriptRefused line) left = left ≡ []
TakesEach ended left = ⊤

-- What went out of a standby that began in a state: the table's lines over the first packets of its script, or a front of them, as the status says; and the end, where no packet is left.
pub record Follows (Goes : Going) (ended : Status) (state : CoreState) (script : List ℕ) (old new : Option Told) : Type 0 where
  pub packets : List PacketLine
  pub left : List PacketLine
  pub split : packets_of script ≡ packets ++ left
  pub each : TakesEach ended left
  pub lines : List ReportLine
  pub reached : Following
  pub reports : Reports (following state None) packets lines reached
  pub went : Ends Goes report_text ended (opening_line state ∷ (lines ++ closing_lines left (refused_line packet_says script) (length (lines_of script)) reached)) old new

-- A script was read up to here: some whole lines, none of them outside the grammar, and the beginning of one whose line feed wasn't read. The table's lines over the packets of those whole lines went out, and no more.
pub record StopsFollowing (Goes : Going) (state : CoreState) (script rest : List ℕ) (old new : Option Told) : Type 0 where
  pub whole : List ℕ
  pub begun : List ℕ
  pub read : script ≡ whole ++ begun ++ rest
  pub whole_lines : IsWholeLines whole
  pub accepted : refused_line packet_says whole ≡ None
  pub no_line_feed : position is_line_feed begun ≡ None
  pub lines : List ReportLine
  pub reached : Following
  pub reports : Reports (following state None) (packets_of whole) lines reached
  pub went : Goes old new (sent report_text (opening_line state ∷ lines))

-- one line was to go out, and it did; or it was lost, in part or whole; or memory was refused, and nothing went out
abbrev pub TellsUpTo : Unsent → ReportLine → Option Told → Option Told → Type 0
TellsUpTo Lost line old new = Adds old new (lost report_text line)
TellsUpTo NoMemory line old new = Adds old new []

abbrev pub Tells : {A : Type 0} → Result A Unsent → ReportLine → Option Told → Option Told → Type 0
Tells (Ok x) line old new = Adds old new (sent report_text (line ∷ []))
Tells (Err fault) line old new = TellsUpTo fault line old new

-- ---- what a crash leaves

-- the number that a line acknowledges
abbrev pub acknowledged_in : ReportLine → List ℕ
acknowledged_in (say.Taken line events) = events ∷ []
acknowledged_in (say.Repeat line events) = events ∷ []
acknowledged_in line = []

-- what was sent is these lines, of which the last may have gone out in part, or not at all
abbrev pub AreSentAs : List Entry → List ReportLine → Type 0
AreSentAs entries lines =
    (entries ≡ sent report_text lines)
    ⊎ ((front : List ReportLine) × (last : ReportLine) × (lines ≡ front ++ last ∷ []) × (entries ≡ sent report_text front ++ lost report_text last))

-- who sent the packets of a script: a leader whose history this is, or anybody
pub data Sender : Type 0 where
  Leader : List Event → Sender
  Anybody : Sender

-- The octets are no piece of a snapshot; and where they are records of events, the last of these has a number that the program can hold.
pub record BringsEvents (site : Site) (octets : List ℕ) : Type 0 where
  pub no_piece : (piece : PieceData) → ¬ SpellsPiece (snapshot_bound site) octets piece
  pub few : (before : ℕ) (events : List Event) → SpellsRecords octets before events → before + length events < most_events

-- octets that may be sent: what a leader offers; of anybody, all but what brings a snapshot
abbrev pub MaySend : Site → Sender → List ℕ → Type 0
MaySend site (Leader history) octets = IsOffered site history octets
MaySend site Anybody octets = BringsEvents site octets

-- with which history a follower may begin: with one to which its leader's goes back; or with any
abbrev pub MayBegin : Site → Sender → List Event → Type 0
MayBegin site (Leader history) begun = MayBe site history × GoesBackTo history begun
MayBegin site Anybody begun = MayBe site begun

-- to which history it may come then: to one to which its leader's goes back; or to one that goes back to that with which it began
abbrev pub MayReach : Sender → List Event → List Event → Type 0
MayReach (Leader history) begun reached = GoesBackTo history reached
MayReach Anybody begun reached = GoesBackTo reached begun

-- The packets of the script were sent so to a follower that began with this history.
pub record IsSent (site : Site) (sender : Sender) (begun : List Event) (script : List ℕ) : Type 0 where
  pub begins : MayBegin site sender begun
  pub packets : All (λ (line : PacketLine). MaySend site sender line.packet) (packets_of script)

-- The image stands for a history to which the follower may come, and which is at least as long as each number that was acknowledged in a line that was sent so far.
pub record LeavesFollower (journal : Journal) (site : Site) (sender : Sender) (begun : List Event) (entries : List Entry) (image : List ℕ) : Type 0 where
  pub lines : List ReportLine
  pub went : AreSentAs entries lines
  pub reached : List Event
  pub there : MayReach sender begun reached
  pub covers : All (λ (known : ℕ). known ≤ length reached) (flat_map acknowledged_in lines)
  pub stands : ImageStands journal site image reached

-- ---- where a packet isn't taken

-- with this status it isn't: memory was refused, and nothing happened, or the disk failed at a packet that the table takes
abbrev pub BreaksOff : Following → List ℕ → Status → Option Told → Option Told → Type 0
BreaksOff old octets status.NoMemory before after = after ≡ before
BreaksOff old octets status.DiskFault before after = MayBeTaken old octets
BreaksOff old octets ended before after = ⊥

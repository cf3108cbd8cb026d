-- What a packet comes to, before anything is written.
use Rattle.std.specs.Prelude.{◌≡◌, ◌<◌, ◌≤◌, ℕ, nat_lt, if◌then◌else◌, Option, Some, None, List, length, ⊤}
use Rattle.alarm_core.specs.Allowed.{Represents}
use Rattle.alarm_core.specs.Following.{AreAllowed}
use Rattle.alarm_core.specs.State.{CoreState}
use Rattle.alarm_core.specs.declared.event.Event.{Event}
use Rattle.alarm_core.specs.declared.site.Site.{Site}
use Rattle.alarm_journal.specs.Journal.{Content}
use Rattle.state_codec.specs.Contents.{SpellsEvents, StandsForHistory}
use Rattle.state_codec.specs.Damage.{LeadsTo}
use Rattle.state_codec.specs.Spelled.{SpellsState}
use Rattle.state_codec.specs.Work.{FitsPress, IsWorkOf, content_with}
use Rattle.state_codec.specs.declared.work.Work.TheVariants.{Snapshot}
use Rattle.standby.specs.Leads.{IsTaken, LeadsOn, MayBe}
use Rattle.standby.specs.Packets.{PieceData}
use Rattle.standby.specs.Takes.{Following, Gathering, IsTriedOn, Takes, following}
use Rattle.standby.specs.declared.judging.Judged.{Judged}
use Rattle.standby.specs.declared.judging.Judged.TheVariants.{Answers, Writes}
use Rattle.standby.specs.declared.took.Took.{Took}
use Rattle.standby.specs.declared.took.Took.TheVariants.{Gap, Malformed, Part, Taken}

-- the answer
abbrev pub took_by : Judged → Took
took_by (Answers took) = took
took_by (Writes core work) = Taken core.events

-- the core then
abbrev pub core_by : Judged → CoreState → CoreState
core_by (Answers took) core = core
core_by (Writes next work) core = next

-- nothing is taken where nothing is written
abbrev pub TellsNothing : Judged → Type 0
TellsNothing (Answers took) = IsTaken took → ⊥
TellsNothing (Writes core work) = ⊤

-- what is written fits a press with this room, whose areas have so many octets
abbrev pub FitsIfWritten : ℕ → ℕ → Judged → Type 0
FitsIfWritten room half (Answers took) = ⊤
FitsIfWritten room half (Writes core work) = FitsPress room half work

-- what is known where a packet leads a follower that stands for the one history to the other one
abbrev pub IfLedOn : Following → List ℕ → CoreState → Option Gathering → List Event → List Event → Type 0 → Type 0
IfLedOn old packet core gathering before after Fact =
    Represents old.core before → MayBe old.core.site before → MayBe old.core.site after → LeadsOn old packet (Taken core.events) (following core gathering) before after → Fact

-- the core that is written represents the history to which the packet leads
abbrev pub RepresentsBy : Following → List ℕ → Option Gathering → List Event → List Event → Judged → Type 0
RepresentsBy old packet gathering before after (Answers took) = ⊤
RepresentsBy old packet gathering before after (Writes core work) = IfLedOn old packet core gathering before after (Represents core after)

-- and the journal that stood for the history before then stands for that one
abbrev pub StandsBy : Following → List ℕ → Option Gathering → List Event → List Event → Content → Judged → Type 0
StandsBy old packet gathering before after content (Answers took) = ⊤
StandsBy old packet gathering before after content (Writes core work) =
    StandsForHistory old.core.site content before → IfLedOn old packet core gathering before after (StandsForHistory old.core.site (content_with work content) after)

-- What a packet comes to for a follower with this core, which gathers the one thing, and the other then: what the table says; and what is written leads to the history to which the packet leads.
pub record ComesTo (core : CoreState) (packet : List ℕ) (gathering left : Option Gathering) (judged : Judged) : Type 0 where
  pub takes : Takes (following core gathering) packet (took_by judged) (following (core_by judged core) left)
  pub nothing : TellsNothing judged
  pub site : (core_by judged core).site ≡ core.site
  pub represents : (before after : List Event) → RepresentsBy (following core gathering) packet left before after judged
  pub stands : (before after : List Event) (content : Content) → StandsBy (following core gathering) packet left before after content judged

-- ---- step by step

-- what fresh records come to: they are malformed, or the core is the one that they lead to, and they are written, or its state
abbrev pub TriesFresh : CoreState → List ℕ → ℕ → Judged → Type 0
TriesFresh core fresh room (Answers took) =
    (took ≡ Malformed) × ((base : CoreState) × IsTriedOn core base × ((events : List Event) → SpellsEvents fresh events → AreAllowed base events → ⊥))
TriesFresh core fresh room (Writes next work) = (base : CoreState) × IsTriedOn core base × LeadsTo base fresh next × IsWorkOf next fresh room work

-- what a whole snapshot comes to: it is malformed where it is that of no state of the site with so many events, and else it is written
abbrev pub WholeIs : Site → Gathering → Judged → Type 0
WholeIs site whole (Answers took) = (took ≡ Malformed) × ((state : CoreState) → SpellsState site whole.octets state → state.events ≡ whole.events → ⊥)
WholeIs site whole (Writes state work) = SpellsState site whole.octets state × (state.events ≡ whole.events) × (work ≡ Snapshot whole.octets)

-- what a gathering comes to: it is a part of its whole, or whole
pub data GatheredIs (site : Site) (gathering : Gathering) (judged : Judged) : Type 0 where
  IsPart : length gathering.octets < gathering.whole → judged ≡ Answers (Part (length gathering.octets)) → GatheredIs site gathering judged
  IsWhole : gathering.whole ≤ length gathering.octets → WholeIs site gathering judged → GatheredIs site gathering judged

-- what is gathered behind it: it, unless it is whole
abbrev pub gathered_behind : Gathering → Option Gathering
gathered_behind gathering = if nat_lt (length gathering.octets) gathering.whole then Some gathering else None

abbrev pub gathering_with : PieceData → List ℕ → Gathering
gathering_with piece octets = record { events = piece.events; whole = piece.whole; octets = octets }

-- what a piece comes to by which the octets so far become these, or which doesn't go on from them
abbrev pub PieceIs : CoreState → PieceData → Option (List ℕ) → Option Gathering → Option Gathering → Judged → Type 0
PieceIs core piece None old new judged = (judged ≡ Answers (Gap core.events)) × (new ≡ old)
PieceIs core piece (Some octets) old new judged = GatheredIs core.site (gathering_with piece octets) judged × (new ≡ gathered_behind (gathering_with piece octets))

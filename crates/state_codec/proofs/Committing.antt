-- What is left of a history once its last events are written.
use Rattle.std.proofs.Common.{◌≡◌, ℕ, Option, Some, None, List, [], ◌∷◌, ◌++◌, reverse, ap, ◌∙◌, sym, subst, inl}
use Rattle.std.proofs.lemmas.List.{append-nil}
use Rattle.std.proofs.lemmas.List.Elements.{All-append, All-cons, All-nil}
use Rattle.ground_io.specs.Trace.{Told}
use Rattle.ground_io.proofs.Crashes.{adds_none}
use Rattle.alarm_journal.specs.Journal.{Content, with_batch}
use Rattle.alarm_journal.specs.Journal.{Site as Journal}
use Rattle.alarm_journal.specs.declared.layout.Layout.{Layout}
use Rattle.alarm_core.specs.declared.event.Event.{Event}
use Rattle.alarm_core.specs.declared.site.Site.{Site}
use Rattle.alarm_core.specs.Allowed.{Represents}
use Rattle.alarm_core.specs.Fits.{FitsEvent}
use Rattle.alarm_core.specs.State.{CoreState}
use Rattle.state_codec.specs.Contents.{StandsForHistory}
use Rattle.state_codec.specs.Records.{HasRecord, written_event}
use Rattle.state_codec.proofs.Committed.{batch_stands}
use Rattle.state_codec.specs.Work.{IsWorkOf, content_with}
use Rattle.state_codec.specs.Keeping.{AreRecordsOf, Commits, HoldsHistory}
use Rattle.state_codec.specs.declared.work.Work.{Work}
use Rattle.state_codec.specs.declared.work.Work.TheVariants.{Nothing, Batch, Snapshot}
use Rattle.state_codec.proofs.Works.{All-reverse, batch_of_events, no_events}

-- nothing is done
pub nothing_committed : (journal : Journal) (site : Site) (before after : List Event) (layout : Layout) (told : Option Told) → HoldsHistory journal site before layout told → Commits journal site before after told told
nothing_committed journal site before after layout None holds = tt
nothing_committed journal site before after layout (Some told) (content, rests, stands) = record {
  entries = [];
  adds = adds_none (Some told);
  quiet = tt;
  always = λ image may. inl (record { content = content; opens = rests.1 image may; stands = stands });
}

-- the work of some events' records leaves what stands for the history with them
pub works_stand : (core : CoreState) (octets : List ℕ) (events older : List Event) (room : ℕ) (work : Work) (content : Content) → AreRecordsOf octets events → Represents core (reverse events ++ older) → IsWorkOf core octets room work
    → StandsForHistory core.site content older → StandsForHistory core.site (content_with work content) (reverse events ++ older)
works_stand core octets events older room Nothing content are stands none stood =
    let same : reverse events ++ older ≡ older = ap (λ (l : List Event). reverse l ++ older) (no_events events (sym are.spell.octets_are ∙ none)) in
    subst (λ (h : List Event). StandsForHistory core.site content h) (sym same) stood
works_stand core octets events older room (Batch job) content are stands same stood =
    batch_of_events core.site content events older job stood stands.is_history are.spell.have are.fit (same ∙ are.spell.octets_are)
works_stand core octets events older room (Snapshot job) content are stands is stood =
    is.0.stands (reverse events ++ older) stands (All-append FitsEvent (reverse events) older (All-reverse FitsEvent events are.fit) stood.fit)

-- the record of one event
pub one_record : (octets : List ℕ) (event : Event) → octets ≡ written_event event → HasRecord event → FitsEvent event → AreRecordsOf octets (event ∷ [])
one_record octets event is has fits = record {
  spell = record { octets_are = is ∙ sym (append-nil (written_event event)); have = All-cons HasRecord event [] has (All-nil HasRecord) };
  fit = All-cons FitsEvent event [] fits (All-nil FitsEvent);
}

-- What a press at rest holds, and what is written in one commit.
use Rattle.std.proofs.Common.{◌≡◌, ◌⊎◌, ℕ, ◌+◌, ◌-◌, ◌^◌, ◌<◌, ◌≤◌, Option, Some, None, List, [], ◌∷◌, ◌++◌, All, length, reverse, refl, ap, ◌∙◌, sym, subst, inl, inr, arith, append_assoc, length-append}
use Rattle.std.specs.Int.{w64, to_be_bytes}
use Rattle.std.proofs.lemmas.List.{get_or-reverse, length-reverse, reverse-append}
use Rattle.std.proofs.lemmas.List.Elements.{All-append}
use Rattle.ground_io.specs.Trace.{Told, disk_of}
use Rattle.ground_io.proofs.Crashes.{adds_none, always_weaker}
use Rattle.alarm_core.specs.Allowed.{IsHistory}
use Rattle.alarm_core.specs.Fits.{FitsEvent, FitsSite}
use Rattle.alarm_core.specs.Sites.{IsSite}
use Rattle.alarm_core.specs.State.{CoreState, state_of}
use Rattle.alarm_core.specs.declared.event.Event.{Event}
use Rattle.alarm_core.specs.declared.site.Site.{Site}
use Rattle.alarm_journal.specs.Journal.{Content, OpensTo, with_batch}
use Rattle.alarm_journal.specs.Journal.{Site as Journal}
use Rattle.alarm_journal.specs.Press.{Between, Lasts}
use Rattle.state_codec.specs.Contents.{ImageStands, StandsForHistory, records_of}
use Rattle.state_codec.specs.Records.{HasRecord, written_act, written_event}
use Rattle.state_codec.specs.Snapshots.{written_state}
use Rattle.state_codec.specs.Spelled.{FitsState}
use Rattle.state_codec.proofs.Committed.{snapshot_stands}
use Rattle.state_codec.proofs.Following.{spell_more}
use Rattle.state_codec.specs.Work.{IsSnapshotOf}
use Rattle.state_codec.specs.Keeping.{Commits}

-- ---- a press at rest

pub between_now : (journal : Journal) (before after : Content) (told : Option Told) → Lasts journal told before → Between journal before after told told
between_now journal before after None lasts = tt
between_now journal before after (Some told) lasts = record { entries = []; adds = adds_none (Some told); quiet = tt; always = λ image may. inl (lasts image may) }

-- from a content that stands for the one history to a content that stands for the other
pub content_committed : (journal : Journal) (site : Site) (before after : List Event) (first second : Content) (old new : Option Told) → StandsForHistory site first before → StandsForHistory site second after → Between journal first second old new → Commits journal site before after old new
content_committed journal site before after first second old None one two between = tt
content_committed journal site before after first second None (Some new) one two between = absurd between
content_committed journal site before after first second (Some old) (Some new) one two between = record {
  entries = between.entries;
  adds = between.adds;
  quiet = between.quiet;
  always = always_weaker P Q to (disk_of old) between.entries between.always;
}
  where
    P : List ℕ → Type 0
    P image = OpensTo journal image first ⊎ OpensTo journal image second

    Q : List ℕ → Type 0
    Q image = ImageStands journal site image before ⊎ ImageStands journal site image after

    to : (image : List ℕ) → P image → Q image
    to image (inl opens) = inl (record { content = first; opens = opens; stands = one })
    to image (inr opens) = inr (record { content = second; opens = opens; stands = two })

-- ---- what the work stands for

pub record_is_some : (event : Event) → 0 < length (written_event event)
record_is_some event = omega (arith, length-append (to_be_bytes w64 event.moment) (written_act event.act))

-- no records are those of no events
pub no_events : (events : List Event) → records_of events ≡ [] → events ≡ []
no_events [] none = refl
no_events (event ∷ events) none = absurd (omega (arith, record_is_some event, ap (λ (l : List ℕ). length l) none, length-append (written_event event) (records_of events)))

pub All-reverse : {X : Type 0} (P : X → Type 0) (xs : List X) → All P xs → All P (reverse xs)
All-reverse P xs all k d few =
    let size = length-reverse xs in
    let here : k < length xs = omega arith in
    subst P (sym (get_or-reverse xs k d here)) (all (length xs - 1 - k) d (omega arith))

-- a batch with the records of the next events
pub batch_of_events : (site : Site) (content : Content) (events older : List Event) (octets : List ℕ) → StandsForHistory site content older → IsHistory site (reverse events ++ older) → All HasRecord events → All FitsEvent events → octets ≡ records_of events
    → StandsForHistory site (with_batch content octets) (reverse events ++ older)
batch_of_events site content events older octets stood is have fit same = record {
  is_history = is;
  fit = All-append FitsEvent (reverse events) older (All-reverse FitsEvent events fit) stood.fit;
  older = stood.older;
  later = stood.later ++ events;
  together = ap (λ (l : List Event). reverse events ++ l) stood.together ∙ (sym (append_assoc (reverse events) (reverse stood.later) stood.older) ∙ ap (λ (l : List Event). l ++ stood.older) (sym (reverse-append stood.later events)));
  snapshot = stood.snapshot;
  records = spell_more content.bodies stood.later octets events stood.records (record { octets_are = same; have = have });
}

-- the snapshot of a core's state stands for what the core does
pub snapshot_of_core : (core : CoreState) (octets : List ℕ) → IsSite core.site → FitsSite core.site → core.events < 2 ^ 63 → 1 ≤ length (written_state core) → octets ≡ written_state core → FitsState core → IsSnapshotOf core octets
snapshot_of_core core octets is fits few some same typed = record {
  octets_are = same;
  stands = λ history stands fit.
      let left = state_of core.site history in
      let shows : core ≡ left = stands.shows in
      let count : core.events ≡ length history = ap (λ (s : CoreState). s.events) shows in
      let brief : length history < 2 ^ 63 = omega (arith, few, count) in
      let long : 0 < length octets = omega (arith, some, ap (λ (l : List ℕ). length l) same) in
      snapshot_stands core.site history octets is fits stands.is_history fit brief long (same ∙ ap written_state shows) (subst (λ (s : CoreState). FitsState s) shows typed);
}

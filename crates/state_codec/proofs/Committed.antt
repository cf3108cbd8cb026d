-- What a journal stands for with one more event, and with a snapshot alone.
use Rattle.std.proofs.Common.{◌≡◌, ℕ, ◌<◌, ◌^◌, List, [], ◌∷◌, ◌++◌, length, All, refl, ap, ◌∙◌, sym, arith}
use Rattle.std.proofs.lemmas.List.{append-nil, reverse-append}
use Rattle.std.proofs.lemmas.List.Elements.{All-cons, All-nil}
use Rattle.alarm_journal.specs.Journal.{Content, only_snapshot, with_batch}
use Rattle.alarm_core.specs.declared.event.Event.{Event}
use Rattle.alarm_core.specs.declared.site.Site.{Site}
use Rattle.alarm_core.specs.Allowed.{IsHistory}
use Rattle.alarm_core.specs.Fits.{FitsEvent, FitsSite}
use Rattle.alarm_core.specs.Sites.{IsSite}
use Rattle.alarm_core.specs.State.{state_of}
use Rattle.alarm_core.proofs.KeptSites.{keeps_to_its_site}
use Rattle.state_codec.specs.Contents.{IsSnapshotAfter, SpellsEvents, StandsForHistory}
use Rattle.state_codec.specs.Records.{HasRecord, written_event}
use Rattle.state_codec.specs.Snapshots.{written_state}
use Rattle.state_codec.specs.Spelled.{FitsState, SpellsState}
use Rattle.state_codec.proofs.Following.{spell_more}

one_record : (event : Event) → HasRecord event → SpellsEvents (written_event event) (event ∷ [])
one_record event has = record { octets_are = sym (append-nil (written_event event)); have = All-cons HasRecord event [] has (All-nil HasRecord) }

-- a batch with the record of the next event
pub batch_stands : (site : Site) (content : Content) (event : Event) (older : List Event) → StandsForHistory site content older → IsHistory site (event ∷ older) → HasRecord event → FitsEvent event
    → StandsForHistory site (with_batch content (written_event event)) (event ∷ older)
batch_stands site content event older stood is has fits = record {
  is_history = is;
  fit = All-cons FitsEvent event older fits stood.fit;
  older = stood.older;
  later = stood.later ++ event ∷ [];
  together = ap (λ (h : List Event). event ∷ h) stood.together ∙ sym (ap (λ (l : List Event). l ++ stood.older) (reverse-append stood.later (event ∷ [])));
  snapshot = stood.snapshot;
  records = spell_more content.bodies stood.later (written_event event) (event ∷ []) stood.records (one_record event has);
}

after_history : (site : Site) (history : List Event) (octets : List ℕ) → 0 < length octets → SpellsState site octets (state_of site history) → IsSnapshotAfter site history octets
after_history site history [] some spells = absurd (omega (arith, some))
after_history site history (octet ∷ octets) some spells = spells

-- the snapshot of the state that a history leaves
pub snapshot_stands : (site : Site) (history : List Event) (octets : List ℕ) → IsSite site → FitsSite site → IsHistory site history → All FitsEvent history → length history < 2 ^ 63
    → 0 < length octets → octets ≡ written_state (state_of site history) → FitsState (state_of site history) → StandsForHistory site (only_snapshot octets) history
snapshot_stands site history octets is_site fits is fit few some same typed = record {
  is_history = is;
  fit = fit;
  older = history;
  later = [];
  together = refl;
  snapshot = after_history site history octets some (record { octets_are = same; own = keeps_to_its_site.keeps site is_site fits history is fit few; fits = typed });
  records = refl;
}

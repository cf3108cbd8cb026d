-- Records, one behind the other.
use Rattle.std.proofs.Common.{◌≡◌, ℕ, ◌+◌, ◌≤◌, ◌<◌, Bool, true, false, ltb, cond, List, [], ◌∷◌, ◌++◌, length, take, drop, All, refl, ap, ◌∙◌, sym, subst, arith}
use Rattle.std.proofs.lemmas.Bool.{ltb-true, ltb-false}
use Rattle.std.proofs.lemmas.List.{append-nil, drop_at, length-append, length-take, length-drop, take_all, take-append-drop, take-append-le}
use Rattle.std.proofs.lemmas.List.Elements.{All-append, All-cons, All-drop, All-head, All-nil}
use Rattle.std.proofs.lemmas.Grind.{flat_map-append}
use Rattle.bac_tags.specs.Places.{IsSpelledAt}
use Rattle.alarm_core.specs.declared.event.Event.{Event}
use Rattle.state_codec.specs.Contents.{SpellsEvents, records_of}
use Rattle.state_codec.specs.Records.{HasRecord, SpellsEvent, written_event}
use Rattle.state_codec.proofs.Following.{ends_later, taken_to}
use Rattle.state_codec.proofs.Recovered.{begins_with}
use Rattle.standby.specs.Walks.{IsWalked, NoEvents}

-- so far
pub record IsWalking (octets : List ℕ) (skip at count place : ℕ) : Type 0 where
  pub events : List Event
  pub spells : SpellsEvents (take at octets) events
  pub count_is : count ≡ length events
  pub place_is : place ≡ length (records_of (take skip events))
  pub within : at ≤ length octets
  pub fewer : count ≤ at

pub none_walked : (octets : List ℕ) (skip : ℕ) → IsWalking octets skip 0 0 0
none_walked octets skip = record {
  events = [];
  spells = record { octets_are = refl; have = All-nil HasRecord };
  count_is = refl;
  place_is = by skip;
  within = omega arith;
  fewer = omega arith;
}
  where
    by : (n : ℕ) → 0 ≡ length (records_of (take n []))
    by n = ap (λ (l : List Event). length (records_of l)) (sym (take_all n [] (omega arith)))

records-behind : (events : List Event) (event : Event) → records_of (events ++ event ∷ []) ≡ records_of events ++ written_event event
records-behind events event = rw (flat_map-append, append-nil) refl

pub spells_more : (octets piece : List ℕ) (events : List Event) (event : Event) → SpellsEvents octets events → SpellsEvent piece event → SpellsEvents (octets ++ piece) (events ++ event ∷ [])
spells_more octets piece events event many one = record {
  octets_are = ap (λ (l : List ℕ). l ++ piece) many.octets_are ∙ (ap (λ (l : List ℕ). records_of events ++ l) one.0 ∙ sym (records-behind events event));
  have = All-append HasRecord events (event ∷ []) many.have (All-cons HasRecord event [] one.1 (All-nil HasRecord));
}

-- the place behind the records that are skipped, with one more
place_more : (less : Bool) (skip end place : ℕ) (events : List Event) (event : Event) → ltb (length events) skip ≡ less → place ≡ length (records_of (take skip events)) → end ≡ length (records_of (events ++ event ∷ []))
    → cond less end place ≡ length (records_of (take skip (events ++ event ∷ [])))
place_more true skip end place events event is so here =
    here ∙ ap (λ (l : List Event). length (records_of l)) (sym (take_all skip (events ++ event ∷ []) (omega (arith, ltb-true _ _ is, length-append events (event ∷ [])))))
place_more false skip end place events event is so here =
    so ∙ ap (λ (l : List Event). length (records_of l)) (sym (take-append-le skip events (event ∷ []) (ltb-false _ _ is)))

pub walked_on : (octets : List ℕ) (skip at count place end : ℕ) (event : Event) → at < length octets → IsWalking octets skip at count place → (spelled : IsSpelledAt SpellsEvent octets at event end)
    → IsWalking octets skip end (count + 1) (cond (ltb count skip) end place)
walked_on octets skip at count place end event within so spelled =
    let on = ends_later octets at end event spelled so.within in
    let taken : take end octets ≡ take at octets ++ spelled.octets = taken_to octets at end event spelled so.within in
    let spells : SpellsEvents (take end octets) (so.events ++ event ∷ []) = subst (λ (l : List ℕ). SpellsEvents l (so.events ++ event ∷ [])) (sym taken) (spells_more (take at octets) spelled.octets so.events event so.spells spelled.spelled) in
    let end_is : end ≡ length (records_of (so.events ++ event ∷ [])) = omega (arith, on.1, length-take end octets, ap (λ (l : List ℕ). length l) spells.octets_are) in
    record {
      events = so.events ++ event ∷ [];
      spells = spells;
      count_is = omega (arith, so.count_is, length-append so.events (event ∷ []));
      place_is = ap (λ (n : ℕ). cond (ltb n skip) end place) so.count_is ∙ place_more (ltb (length so.events) skip) skip end place so.events event refl so.place_is end_is;
      within = on.1;
      fewer = omega (arith, so.fewer, on.0);
    }

pub walked_all : (octets : List ℕ) (skip at count place : ℕ) → length octets ≤ at → IsWalking octets skip at count place → IsWalked octets skip count place
walked_all octets skip at count place all so = record {
  events = so.events;
  spells = subst (λ (l : List ℕ). SpellsEvents l so.events) (take_all at octets all) so.spells;
  count_is = so.count_is;
  place = so.place_is;
}

-- where no record is, there are no events
pub no_events : (octets : List ℕ) (skip at count place : ℕ) → at < length octets → IsWalking octets skip at count place
    → ((event : Event) (end : ℕ) → IsSpelledAt SpellsEvent octets at event end → ⊥) → NoEvents octets
no_events octets skip at count place within so none events spells =
    let e : records_of so.events ++ drop at octets ≡ records_of events = ap (λ (l : List ℕ). l ++ drop at octets) (sym so.spells.octets_are) ∙ (take-append-drop at octets ∙ spells.octets_are) in
    let begins = begins_with so.events events (drop at octets) so.spells.have spells.have e in
    by begins.more begins.rest_is begins.have
  where
    by : (more : List Event) → drop at octets ≡ records_of more → All HasRecord more → ⊥
    by [] is have = absurd (omega (arith, within, length-drop at octets, ap (λ (l : List ℕ). length l) is))
    by (event ∷ more) is have = none event (at + length (written_event event)) (record { octets = written_event event; rest = records_of more; spelled = (refl, All-head HasRecord event more have); there = is; ends = refl })

-- ---- the records past those that are skipped

pub fresh_records : (octets : List ℕ) (skip at : ℕ) (events : List Event) → SpellsEvents octets events → at ≡ length (records_of (take skip events)) → SpellsEvents (drop at octets) (drop skip events)
fresh_records octets skip at events spells place =
    let split : octets ≡ records_of (take skip events) ++ records_of (drop skip events) =
    spells.octets_are ∙ (ap (λ (l : List Event). records_of l) (sym (take-append-drop skip events)) ∙ rw flat_map-append refl) in
    record {
      octets_are = ap (λ (l : List ℕ). drop at l) split ∙ drop_at (records_of (take skip events)) (records_of (drop skip events)) at (sym place);
      have = All-drop HasRecord skip events spells.have;
    }

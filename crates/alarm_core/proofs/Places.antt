-- Alarms by their places: what a search finds, and what is made of the one that it finds.
use Rattle.std.proofs.Common.{arith, ◌≡◌, ℕ, zero, suc, ◌<◌, ◌≤◌, Bool, true, false, if◌then◌else◌, Option, Some, None, Result, Ok, Err, get_or, set, List, [], ◌∷◌, length, map, refl, sym, subst, ap, ◌∙◌, inl, inr, IfOk, OnErr}
use Rattle.std.specs.List.{All, AllPairs, filter}
use Rattle.std.specs.List.Sorted.{IsBinarySearchResult, IsSearchInRange}
use Rattle.std.specs.Ordering.{ordering_index}
use Rattle.std.specs.declared.cmp.Ordering.TheVariants.{Less, Equal, Greater}
use Rattle.std.proofs.lemmas.Bool.Decides.{leb_tells}
use Rattle.std.proofs.lemmas.List.{get_or-map, length-map}
use Rattle.std.proofs.lemmas.List.Elements.{All-cons, All-head, All-map, All-nil, All-tail}
use Rattle.std.proofs.lemmas.List.Kept.{AllPairs-cons, AllPairs-filter}
use Rattle.std.proofs.lemmas.Cmp.{alike_right}
use Rattle.bac_values.specs.Identifier.{ObjectIdData}
use Rattle.bac_values.specs.Orders.{identifier_order}
use Rattle.bac_values.specs.declared.transition.Transition.{Transition}
use Rattle.bac_values.proofs.OrderLemmas.{identifiers_are_total, rises}
use Rattle.object_table.specs.Rows.{Ascends, is_object}
use Rattle.object_table.proofs.Order.{above, equal_is_object, less_is_other, greater_is_other}
use Rattle.object_table.proofs.Places.{find_at, find_none}
use Rattle.event_machine.specs.AlarmSteps.{acknowledged}
use Rattle.alarm_core.specs.CoreSteps.{acked}
use Rattle.alarm_core.specs.Found.{detected_object_in}
use Rattle.alarm_core.specs.State.{DetectedObjectState}
use Rattle.alarm_core.specs.DueSteps.{AscendByObject, StandsAt, object_of, once}

-- each alarm is below every later one
pub below : (alarms : List DetectedObjectState) → AscendByObject alarms → (i j : ℕ) (d : DetectedObjectState) → i < j → j < length alarms →
    identifier_order (get_or alarms i d).object (get_or alarms j d).object ≡ Less
below alarms ascending i j d lt high =
    let in_range : j < length (map object_of alarms) = rw (length-map alarms object_of) high in
    let h = ascending i j (object_of d) lt in_range in
    rw (← get_or-map object_of alarms i d (object_of d) (omega (arith, lt, high)), ← get_or-map object_of alarms j d (object_of d) high) h

no_more : (m n : ℕ) → m ≡ n → m ≤ n
no_more m n e = omega arith

-- what a binary search among ascending alarms says
pub record Searched (object : ObjectIdData) (alarms : List DetectedObjectState) (answer : Result ℕ ℕ) : Type 0 where
  pub found : IfOk answer (StandsAt object alarms)
  pub absent : OnErr answer (detected_object_in object alarms ≡ None)

pub searched : (object : ObjectIdData) (alarms : List DetectedObjectState) (answer : Result ℕ ℕ) → AscendByObject alarms → IsSearchInRange answer (length alarms) →
    IsBinarySearchResult (λ (detected : DetectedObjectState). identifier_order detected.object object) alarms answer → Searched object alarms answer
searched object alarms (Ok place) ascending within equal = record {
  found = record {
    within = within;
    here = λ d. equal_is_object _ object (equal d);
    others = λ k d low other. elim (leb_tells (suc k) place) [
      | inl before ↦ less_is_other _ object (other_side (get_or alarms k d).object (get_or alarms place d).object (below alarms ascending k place d before.1 within) (equal d))
      | inr after ↦ let past = after.1 in greater_is_other _ object (this_side (get_or alarms place d).object (get_or alarms k d).object (below alarms ascending place k d (omega arith) low) (equal d))
    ];
  };
  absent = tt;
}
  where
    other_side : (a b : ObjectIdData) → identifier_order a b ≡ Less → identifier_order b object ≡ Equal → identifier_order a object ≡ Less
    other_side a b lt same = sym (alike_right identifiers_are_total b object a same) ∙ lt

    this_side : (a b : ObjectIdData) → identifier_order a b ≡ Less → identifier_order a object ≡ Equal → identifier_order b object ≡ Greater
    this_side a b lt same = sym (alike_right identifiers_are_total a object b same) ∙ above a b lt
searched object alarms (Err place) ascending within parted =
    let point = parted (λ i j d low high. elim (leb_tells (suc i) j) [
      | inl before ↦ rises identifiers_are_total _ _ object (below alarms ascending i j d before.1 high)
      | inr same ↦ let after = same.1 in let e : i ≡ j = omega arith in no_more _ _ (ap (λ n. ordering_index (identifier_order (get_or alarms n d).object object)) e)
    ]) in
    record {
      found = tt;
      absent = find_none (λ (detected : DetectedObjectState). is_object object detected.object) alarms (λ k d high. elim (leb_tells (suc k) place) [
        | inl before ↦ less_is_other _ object (point.0 k d (omega arith) before.1)
        | inr after ↦ let past = after.1 in greater_is_other _ object (point.1 k d (omega arith) high)
      ]);
    }

-- the alarm at the object's place is the object's
pub alarm_at : (object : ObjectIdData) (alarms : List DetectedObjectState) (place : ℕ) (d : DetectedObjectState) → StandsAt object alarms place → detected_object_in object alarms ≡ Some (get_or alarms place d)
alarm_at object alarms place d h =
    find_at (λ (detected : DetectedObjectState). is_object object detected.object) alarms place d h.within (h.here d) (λ k low. h.others k d (omega (arith, h.within)) (λ same. omega arith))

-- where no alarm is the object's, a change of its alarm changes nothing
abbrev pub changed_one : ObjectIdData → (DetectedObjectState → DetectedObjectState) → DetectedObjectState → DetectedObjectState
changed_one object f detected = if is_object object detected.object then f detected else detected

pub unchanged : (object : ObjectIdData) (f : DetectedObjectState → DetectedObjectState) (alarms : List DetectedObjectState) →
    ((k : ℕ) (d : DetectedObjectState) → k < length alarms → is_object object (get_or alarms k d).object ≡ false) → map (changed_one object f) alarms ≡ alarms
unchanged object f [] h = refl
unchanged object f (detected ∷ alarms) h =
    let first : is_object object detected.object ≡ false = h 0 detected (omega arith) in
    let rest = unchanged object f alarms (λ k d lt. h (suc k) d (omega arith)) in
    rw (first, rest) refl

later_stands : (object : ObjectIdData) (first : DetectedObjectState) (alarms : List DetectedObjectState) (place : ℕ) → StandsAt object (first ∷ alarms) (suc place) → StandsAt object alarms place
later_stands object first alarms place h = record {
  within = omega (arith, h.within);
  here = h.here;
  others = λ k e lt other. h.others (suc k) e (omega arith) (λ same. other (omega arith));
}

-- a change of an object's alarm is one at its place
pub changed_at : (object : ObjectIdData) (f : DetectedObjectState → DetectedObjectState) (alarms : List DetectedObjectState) (place : ℕ) (d : DetectedObjectState) → StandsAt object alarms place →
    map (changed_one object f) alarms ≡ set alarms place (f (get_or alarms place d))
changed_at object f [] place d h = absurd (omega (arith, h.within))
changed_at object f (detected ∷ alarms) zero d h =
    let first : is_object object detected.object ≡ true = h.here d in
    let rest = unchanged object f alarms (λ k e lt. h.others (suc k) e (omega arith) (λ same. omega arith)) in
    rw (first, rest) refl
changed_at object f (detected ∷ alarms) (suc place) d h =
    let first : is_object object detected.object ≡ false = h.others 0 detected (omega arith) (λ same. omega arith) in
    let rest = changed_at object f alarms place d (later_stands object detected alarms place h) in
    rw (first, rest) refl

-- where an object isn't found, no alarm is its
found_head : (b : Bool) (detected : DetectedObjectState) (rest : Option DetectedObjectState) → (if b then Some detected else rest) ≡ None → (b ≡ false) × (rest ≡ None)
found_head true detected rest e = absurd cc
found_head false detected rest e = (refl, e)

pub nobody : (object : ObjectIdData) (alarms : List DetectedObjectState) → detected_object_in object alarms ≡ None → (k : ℕ) (d : DetectedObjectState) → k < length alarms →
    is_object object (get_or alarms k d).object ≡ false
nobody object [] none k d lt = absurd (omega (arith, lt))
nobody object (detected ∷ alarms) none zero d lt = let parts = found_head (is_object object detected.object) detected (detected_object_in object alarms) none in parts.0
nobody object (detected ∷ alarms) none (suc k) d lt =
    let parts = found_head (is_object object detected.object) detected (detected_object_in object alarms) none in nobody object alarms parts.1 k d (omega arith)

-- an acknowledgement changes the alarm at the object's place, or none
acked_by : (is : Bool) (object : ObjectIdData) (transition : Transition) (detected : DetectedObjectState) → is_object object detected.object ≡ is → is ≡ true →
    acked object transition detected ≡ record detected { alarm = acknowledged transition detected.alarm }
acked_by true object transition detected is e = ap (λ b. if b then record detected { alarm = acknowledged transition detected.alarm } else detected) is
acked_by false object transition detected is e = absurd cc

pub acked_at : (object : ObjectIdData) (transition : Transition) (alarms : List DetectedObjectState) (place : ℕ) (d : DetectedObjectState) → StandsAt object alarms place →
    map (acked object transition) alarms ≡ set alarms place (acked object transition (get_or alarms place d))
acked_at object transition alarms place d h =
    let one = get_or alarms place d in
    changed_at object (λ (detected : DetectedObjectState). record detected { alarm = acknowledged transition detected.alarm }) alarms place d h
    ∙ ap (set alarms place) (sym (acked_by (is_object object one.object) object transition one refl (h.here d)))

pub acked_nobody : (object : ObjectIdData) (transition : Transition) (alarms : List DetectedObjectState) → detected_object_in object alarms ≡ None → map (acked object transition) alarms ≡ alarms
acked_nobody object transition alarms none = unchanged object (λ (detected : DetectedObjectState). record detected { alarm = acknowledged transition detected.alarm }) alarms (nobody object alarms none)

-- a timer that is set at once, at the object's place or nowhere
pub once_nobody : (object : ObjectIdData) (alarms : List DetectedObjectState) (timers : List (Option ℕ)) → length timers ≡ length alarms →
    ((k : ℕ) (d : DetectedObjectState) → k < length alarms → is_object object (get_or alarms k d).object ≡ false) → once object alarms timers ≡ timers
once_nobody object [] [] many h = refl
once_nobody object [] (due ∷ timers) many h = absurd (omega (arith, many))
once_nobody object (detected ∷ alarms) [] many h = absurd (omega (arith, many))
once_nobody object (detected ∷ alarms) (due ∷ timers) many h =
    let first : is_object object detected.object ≡ false = h 0 detected (omega arith) in
    let rest = once_nobody object alarms timers (omega (arith, many)) (λ k d lt. h (suc k) d (omega arith)) in
    rw (first, rest) refl

pub once_at : (object : ObjectIdData) (alarms : List DetectedObjectState) (timers : List (Option ℕ)) (place : ℕ) → length timers ≡ length alarms → StandsAt object alarms place →
    once object alarms timers ≡ set timers place (Some 0)
once_at object [] timers place many h = absurd (omega (arith, h.within))
once_at object (detected ∷ alarms) [] place many h = absurd (omega (arith, many))
once_at object (detected ∷ alarms) (due ∷ timers) zero many h =
    let first : is_object object detected.object ≡ true = h.here detected in
    let rest = once_nobody object alarms timers (omega (arith, many)) (λ k e lt. h.others (suc k) e (omega arith) (λ same. omega arith)) in
    rw (first, rest) refl
once_at object (detected ∷ alarms) (due ∷ timers) (suc place) many h =
    let first : is_object object detected.object ≡ false = h.others 0 detected (omega arith) (λ same. omega arith) in
    let rest = once_at object alarms timers place (omega (arith, many)) (later_stands object detected alarms place h) in
    rw (first, rest) refl

-- some of a list that ascends by a key
module _ {X Y : Type 0} (R : X → X → Type 0) (f : Y → X) where
  pairs_map : (ys : List Y) → AllPairs (λ a b. R (f a) (f b)) ys → AllPairs R (map f ys)
  pairs_map [] h = λ i j d before low. absurd (omega (arith, low))
  pairs_map (y ∷ ys) h =
      AllPairs-cons R (f y) (map f ys) (All-map (R (f y)) f ys (λ j d low. h 0 (suc j) d (omega arith) (omega (arith, low))))
      (pairs_map ys (λ i j d before low. h (suc i) (suc j) d (omega (arith, before)) (omega (arith, low))))

  unmapped : (x : X) (ys : List Y) → All (R x) (map f ys) → All (λ y. R x (f y)) ys
  unmapped x [] h = All-nil (λ y. R x (f y))
  unmapped x (y ∷ ys) h = All-cons (λ z. R x (f z)) y ys (All-head (R x) (f y) (map f ys) h) (unmapped x ys (All-tail (R x) (f y) (map f ys) h))

  pub map_pairs : (ys : List Y) → AllPairs R (map f ys) → AllPairs (λ a b. R (f a) (f b)) ys
  map_pairs [] h = λ i j d before low. absurd (omega (arith, low))
  map_pairs (y ∷ ys) h =
      AllPairs-cons (λ a b. R (f a) (f b)) y ys (unmapped (f y) ys (λ j d low. h 0 (suc j) d (omega arith) (omega (arith, low))))
      (map_pairs ys (λ i j d before low. h (suc i) (suc j) d (omega (arith, before)) (omega (arith, low))))

pub some_ascend : {X : Type 0} (key : X → ObjectIdData) (test : X → Bool) (xs : List X) → Ascends (map key xs) → Ascends (map key (filter test xs))
some_ascend key test xs ascending =
    pairs_map (λ a b. identifier_order a b ≡ Less) key (filter test xs)
    (AllPairs-filter (λ a b. identifier_order (key a) (key b) ≡ Less) test xs (map_pairs (λ a b. identifier_order a b ≡ Less) key xs ascending))

-- alarms of the same objects
pub ascend_still : (before after : List DetectedObjectState) → map object_of after ≡ map object_of before → AscendByObject before → AscendByObject after
ascend_still before after same ascending = subst Ascends (sym same) ascending

pub as_many_objects : (before after : List DetectedObjectState) → map object_of after ≡ map object_of before → length after ≡ length before
as_many_objects before after same = sym (length-map after object_of) ∙ (ap length same ∙ length-map before object_of)

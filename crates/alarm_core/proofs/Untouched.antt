-- An object that a write doesn't touch is due when it was.
use Rattle.std.proofs.Common.{◌≡◌, inl, inr, Bool, true, false, true≢false, ◌||◌, if◌then◌else◌, List, [], ◌∷◌, ℕ, zero, suc, ◌<◌, length, map, slice_index_or, arith, Some, refl, sym, subst, Option, option_map, ap, ◌∙◌}
use Rattle.std.proofs.lemmas.Bool.Decides.{nat_tests}
use Rattle.bac_values.specs.Identifier.{ObjectIdData}
use Rattle.bac_values.specs.declared.reliability.Reliability.{Reliability}
use Rattle.algorithm_rules.specs.Facts.{Facts}
use Rattle.object_table.specs.declared.change.Change.{Change}
use Rattle.std.specs.List.{list_any}
use Rattle.object_table.specs.Rows.{is_object}
use Rattle.enrollment.specs.Watchers.{referrers_in, watchers}
use Rattle.enrollment.specs.Laws.{IsUntouched}
use Rattle.enrollment.specs.Objects.{ObjectsState, facts_at, reliability_at, written}
use Rattle.enrollment.specs.Subjects.{is_inhibited}
use Rattle.enrollment.proofs.Untouched.{watchers_are_all_that_refer}
use Rattle.alarm_core.specs.State.{DetectedObjectState}
use Rattle.alarm_core.specs.DueSteps.{AreEarly, IsEarly, all_once, due_by, due_of, is_among, once, sight_with, touched_by}

pub record SeesTheSame (object : ObjectIdData) (values others : ObjectsState) : Type 0 where
  pub facts : facts_at object others ≡ facts_at object values
  pub reliability : reliability_at object others ≡ reliability_at object values
  pub inhibited : is_inhibited object others ≡ is_inhibited object values

pub sees_the_same : (change : Change) (object : ObjectIdData) (values : ObjectsState) → IsUntouched change object values → SeesTheSame object values (written change values)
sees_the_same change object values untouched =
    let same = watchers_are_all_that_refer change object values untouched in
    record { facts = same.facts; reliability = same.reliability; inhibited = same.inhibited }

pub due_untouched : (change : Change) (detected : DetectedObjectState) (values : ObjectsState) → IsUntouched change detected.object values → due_of (written change values) detected ≡ due_of values detected
due_untouched change detected values untouched =
    let same = sees_the_same change detected.object values untouched in
    let point = λ (reliability : Reliability) (inhibited : Bool) (facts : Facts). record (sight_with detected.object values facts) { reliability = reliability; inhibited = inhibited } in
    let due = λ (reliability : Reliability) (inhibited : Bool) (facts : Option Facts). due_by detected.algorithm (option_map (point reliability inhibited) facts) detected.alarm in
    ap (λ r. due r (is_inhibited detected.object (written change values)) (facts_at detected.object (written change values))) same.reliability
    ∙ (ap (λ b. due (reliability_at detected.object values) b (facts_at detected.object (written change values))) same.inhibited
    ∙ ap (due (reliability_at detected.object values) (is_inhibited detected.object values)) same.facts)

or_none : (one other : Bool) → (one || other) ≡ false → (one ≡ false) × (other ≡ false)
or_none true other none = absurd (true≢false none)
or_none false other none = (refl, none)

any_none : {X : Type 0} (test : X → Bool) (xs : List X) → list_any test xs ≡ false → (k : ℕ) (d : X) → k < length xs → test (slice_index_or xs k d) ≡ false
any_none test [] none k d within = absurd (omega (arith, within))
any_none test (x ∷ xs) none zero d within = let parts = or_none (test x) (list_any test xs) none in parts.0
any_none test (x ∷ xs) none (suc k) d within = let parts = or_none (test x) (list_any test xs) none in any_none test xs parts.1 k d (omega arith)

-- identifiers are one whichever of them comes first
pub alike : (one other : ObjectIdData) → is_object one other ≡ is_object other one
alike one other = grind (arith, nat_tests)

-- the timer of one object, after some objects are set at once
abbrev pub one_once : List ObjectIdData → ObjectIdData → Option ℕ → Option ℕ
one_once [] object due = due
one_once (touched ∷ later) object due = one_once later object (if is_object touched object then Some 0 else due)

pub all_once-cons : (touched : List ObjectIdData) (detected : DetectedObjectState) (alarms : List DetectedObjectState) (due : Option ℕ) (timers : List (Option ℕ)) →
    all_once touched (detected ∷ alarms) (due ∷ timers) ≡ one_once touched detected.object due ∷ all_once touched alarms timers
all_once-cons [] detected alarms due timers = refl
all_once-cons (first ∷ touched) detected alarms due timers = all_once-cons touched detected alarms (if is_object first detected.object then Some 0 else due) (once first alarms timers)

pub all_once-nil : (touched : List ObjectIdData) → all_once touched [] [] ≡ []
all_once-nil [] = refl
all_once-nil (first ∷ touched) = all_once-nil touched

once_by : (is : Bool) (touched : List ObjectIdData) (object : ObjectIdData) (due : Option ℕ) → one_once touched object (Some 0) ≡ Some 0 →
    one_once touched object due ≡ (if is_among touched object then Some 0 else due) →
    one_once touched object (if is then Some 0 else due) ≡ (if is || is_among touched object then Some 0 else due)
once_by true touched object due stays rest = stays
once_by false touched object due stays rest = rest

same_once : (is : Bool) (due : Option ℕ) → (if is then due else due) ≡ due
same_once true due = refl
same_once false due = refl

stays_once : (touched : List ObjectIdData) (object : ObjectIdData) → one_once touched object (Some 0) ≡ Some 0
stays_once [] object = refl
stays_once (first ∷ touched) object = ap (one_once touched object) (same_once (is_object first object) (Some 0)) ∙ stays_once touched object

pub one_once-is : (touched : List ObjectIdData) (object : ObjectIdData) (due : Option ℕ) → one_once touched object due ≡ (if is_among touched object then Some 0 else due)
one_once-is [] object due = refl
one_once-is (first ∷ touched) object due = once_by (is_object first object) touched object due (stays_once touched object) (one_once-is touched object due)

pub untouched_by : (change : Change) (detected : DetectedObjectState) (values : ObjectsState) → is_among (touched_by change.object values) detected.object ≡ false →
    IsUntouched change detected.object values
untouched_by change detected values is =
    let sites = watchers change.object (referrers_in values) in
    let parts = or_none (is_object change.object detected.object) (is_among sites detected.object) is in
    record {
      other = parts.0;
      no_watcher = λ k d within. alike detected.object (slice_index_or sites k d) ∙ any_none (λ (one : ObjectIdData). is_object one detected.object) sites parts.1 k d within;
    }

early_one : (change : Change) (values : ObjectsState) (detected : DetectedObjectState) (is : Bool) → is_among (touched_by change.object values) detected.object ≡ is →
    IsEarly (written change values) detected (if is then Some 0 else due_of values detected)
early_one change values detected true is = inr refl
early_one change values detected false is = inl (sym (due_untouched change detected values (untouched_by change detected values is)))

-- with the touched ones set at once, no timer is late after the write
pub early_touched : (change : Change) (values : ObjectsState) (alarms : List DetectedObjectState) →
    AreEarly (written change values) alarms (all_once (touched_by change.object values) alarms (map (due_of values) alarms))
early_touched change values [] = subst (AreEarly (written change values) []) (sym (all_once-nil (touched_by change.object values))) tt
early_touched change values (detected ∷ alarms) =
    let touched = touched_by change.object values in
    let due = due_of values detected in
    let one = early_one change values detected (is_among touched detected.object) refl in
    subst (AreEarly (written change values) (detected ∷ alarms)) (sym (all_once-cons touched detected alarms due (map (due_of values) alarms)))
    (subst (IsEarly (written change values) detected) (sym (one_once-is touched detected.object due)) one, early_touched change values alarms)

-- How many looks a round makes: as many as there are timers that are due as it begins.
use Rattle.std.proofs.Common.{◌≡◌, ℕ, zero, suc, ◌+◌, ◌-◌, ◌≤◌, Bool, true, false, if◌then◌else◌, Option, Some, List, [], ◌∷◌, take, drop, set, length, refl, ap, ◌∙◌, sym, subst, arith}
use Rattle.std.specs.List.{position_from}
use Rattle.std.proofs.lemmas.List.{drop-drop, drop-set-lt, length-map}
use Rattle.held_timers.specs.Dues.{first_due_from, is_due}
use Rattle.bac_values.specs.Identifier.{ObjectIdData}
use Rattle.object_table.specs.Rows.{is_object}
use Rattle.alarm_core.specs.State.{DetectedObjectState}
use Rattle.alarm_core.proofs.Dues.{due_at_once}
use Rattle.alarm_core.specs.DueSteps.{DetectionsState, all_once, due_count, due_of, dues_of, once}

-- the next one that is due is one more
pub record CountsNext (moment from offset next : ℕ) (timers : List (Option ℕ)) : Type 0 where
  pub index : ℕ
  pub is : next ≡ offset + index
  pub low : from ≤ index
  pub more : due_count moment (take from timers) + 1 ≤ due_count moment (take (suc index) timers)

counts_first : (moment offset next : ℕ) (due : Option ℕ) (timers : List (Option ℕ)) →
    (position_from (is_due moment) (offset + 1) timers ≡ Some next → CountsNext moment 0 (offset + 1) next timers) →
    (is : Bool) → is_due moment due ≡ is → (if is then Some offset else position_from (is_due moment) (offset + 1) timers) ≡ Some next → CountsNext moment 0 offset next (due ∷ timers)
counts_first moment offset next due timers rest true is found =
    let here : offset ≡ next = cc in
    let counted : due_count moment (due ∷ []) ≡ 1 = ap (λ (b : Bool). (if b then 1 else 0) + due_count moment []) is in
    record { index = 0; is = omega (arith, here); low = omega arith; more = omega (arith, counted) }
counts_first moment offset next due timers rest false is found =
    let counts = rest found in
    let counted : due_count moment (due ∷ take (suc counts.index) timers) ≡ 0 + due_count moment (take (suc counts.index) timers) = ap (λ (b : Bool). (if b then 1 else 0) + due_count moment (take (suc counts.index) timers)) is in
    record { index = suc counts.index; is = omega (arith, counts.is); low = omega arith; more = omega (arith, counts.more, counted) }

counts_next : (moment from offset next : ℕ) (timers : List (Option ℕ)) → position_from (is_due moment) (offset + from) (drop from timers) ≡ Some next → CountsNext moment from offset next timers
counts_next moment zero offset next [] found = absurd cc
counts_next moment (suc i) offset next [] found = absurd cc
counts_next moment zero offset next (due ∷ timers) found =
    let rest = λ (e : position_from (is_due moment) (offset + 1) timers ≡ Some next).
    counts_next moment zero (offset + 1) next timers (ap (λ k. position_from (is_due moment) k timers) (let same : offset + 1 + 0 ≡ offset + 1 = omega arith in same) ∙ e) in
    let none : offset + 0 ≡ offset = omega arith in
    counts_first moment offset next due timers rest (is_due moment due) refl (ap (λ k. position_from (is_due moment) k (due ∷ timers)) (sym none) ∙ found)
counts_next moment (suc i) offset next (due ∷ timers) found =
    let same : offset + 1 + i ≡ offset + suc i = omega arith in
    let counts = counts_next moment i (offset + 1) next timers (ap (λ k. position_from (is_due moment) k (drop i timers)) same ∙ found) in
    let before : due_count moment (due ∷ take i timers) ≡ (if is_due moment due then 1 else 0) + due_count moment (take i timers) = refl in
    let after : due_count moment (due ∷ take (suc counts.index) timers) ≡ (if is_due moment due then 1 else 0) + due_count moment (take (suc counts.index) timers) = refl in
    record { index = suc counts.index; is = omega (arith, counts.is); low = omega (arith, counts.low); more = omega (arith, counts.more, before, after) }

-- never more than all
pub count_take : (moment i : ℕ) (timers : List (Option ℕ)) → due_count moment (take i timers) ≤ due_count moment timers
count_take moment zero timers = omega arith
count_take moment (suc i) [] = omega arith
count_take moment (suc i) (due ∷ timers) =
    let rest = count_take moment i timers in
    let before : due_count moment (due ∷ take i timers) ≡ (if is_due moment due then 1 else 0) + due_count moment (take i timers) = refl in
    let after : due_count moment (due ∷ timers) ≡ (if is_due moment due then 1 else 0) + due_count moment timers = refl in
    omega (arith, rest, before, after)

-- the loop's steps, as the code has them
pub record CountsOn (moment from next : ℕ) (first dues : List (Option ℕ)) : Type 0 where
  pub more : due_count moment (take from first) + 1 ≤ due_count moment (take (next + 1) first)
  pub waits : drop (next + 1) dues ≡ drop (next + 1) first

pub counts_on : (moment time from next : ℕ) (first timers dues : List (Option ℕ)) (due : Option ℕ) → moment ≡ time → Some next ≡ first_due_from timers moment from → drop from timers ≡ drop from first →
    dues ≡ set timers next due → CountsOn time from next first dues
counts_on moment time from next first timers dues due is found waits new =
    let start : 0 + from ≡ from = omega arith in
    let here : position_from (is_due time) (0 + from) (drop from first) ≡ Some next =
    ap (λ k. position_from (is_due time) k (drop from first)) start ∙ (ap (position_from (is_due time) from) (sym waits) ∙ (ap (λ m. first_due_from timers m from) (sym is) ∙ sym found)) in
    let counts = counts_next time from 0 next first here in
    let at : suc counts.index ≡ next + 1 = omega (arith, counts.is) in
    let many = ap (λ k. due_count time (take k first)) at in
    let back = next + 1 - from in
    let apart : from + back ≡ next + 1 = omega (arith, counts.is, counts.low) in
    let one : drop (next + 1) timers ≡ drop (next + 1) first =
    ap (λ k. drop k timers) (sym apart) ∙ (sym (drop-drop back from timers) ∙ (ap (drop back) waits ∙ (drop-drop back from first ∙ ap (λ k. drop k first) apart))) in
    record {
      more = omega (arith, counts.more, many);
      waits = ap (drop (next + 1)) new ∙ (drop-set-lt (next + 1) timers next due (omega arith) ∙ one);
    }

pub at_most_one : (b : Bool) → (if b then 1 else 0) ≤ 1
at_most_one true = omega arith
at_most_one false = omega arith

-- what is set at once is due
once_first : (is : Bool) (moment : ℕ) (due : Option ℕ) → (if is_due moment due then 1 else 0) ≤ (if is_due moment (if is then Some 0 else due) then 1 else 0)
once_first true moment due = subst (λ (b : Bool). (if is_due moment due then 1 else 0) ≤ (if b then 1 else 0)) (sym (due_at_once moment)) (at_most_one (is_due moment due))
once_first false moment due = omega arith

pub once_raises : (moment : ℕ) (object : ObjectIdData) (alarms : List DetectedObjectState) (timers : List (Option ℕ)) → length timers ≡ length alarms →
    due_count moment timers ≤ due_count moment (once object alarms timers)
once_raises moment object [] [] many = omega arith
once_raises moment object [] (due ∷ timers) many = absurd (omega (arith, many))
once_raises moment object (detected ∷ alarms) [] many = absurd (omega (arith, many))
once_raises moment object (detected ∷ alarms) (due ∷ timers) many =
    let first = once_first (is_object object detected.object) moment due in
    let rest = once_raises moment object alarms timers (omega (arith, many)) in
    omega (arith, first, rest)

once_long : (object : ObjectIdData) (alarms : List DetectedObjectState) (timers : List (Option ℕ)) → length timers ≡ length alarms → length (once object alarms timers) ≡ length alarms
once_long object [] [] many = refl
once_long object [] (due ∷ timers) many = absurd (omega (arith, many))
once_long object (detected ∷ alarms) [] many = absurd (omega (arith, many))
once_long object (detected ∷ alarms) (due ∷ timers) many = let rest = once_long object alarms timers (omega (arith, many)) in omega (arith, rest)

pub all_once_raises : (moment : ℕ) (touched : List ObjectIdData) (alarms : List DetectedObjectState) (timers : List (Option ℕ)) → length timers ≡ length alarms →
    due_count moment timers ≤ due_count moment (all_once touched alarms timers)
all_once_raises moment [] alarms timers many = omega arith
all_once_raises moment (object ∷ touched) alarms timers many =
    let one = once_raises moment object alarms timers many in
    let rest = all_once_raises moment touched alarms (once object alarms timers) (once_long object alarms timers many) in
    omega (arith, one, rest)

pub touching_raises : (moment : ℕ) (touched : List ObjectIdData) (state : DetectionsState) → due_count moment (dues_of state) ≤ due_count moment (all_once touched state.alarms (dues_of state))
touching_raises moment touched state = all_once_raises moment touched state.alarms (dues_of state) (length-map state.alarms (due_of state.values))

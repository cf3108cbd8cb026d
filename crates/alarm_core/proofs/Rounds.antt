-- A round of looks at the objects that are due: how far it has come, and what undoes it.
use Rattle.std.proofs.Common.{◌≡◌, ◌⊎◌, inl, inr, ℕ, zero, suc, pred, ◌+◌, ◌<◌, ◌≤◌, Bool, true, false, true≢false, if◌then◌else◌, Option, Some, None, List, [], ◌∷◌, ◌++◌, length, map, set, take, drop, get_or, slice_get, refl, ap, ◌∙◌, sym, subst, append_assoc, append-nil, arith}
use Rattle.std.specs.Prelude.{⊤}
use Rattle.std.specs.List.{flat_map, position_from}
use Rattle.std.proofs.lemmas.List.{length-set, map-set, set-get_or, set-set}
use Rattle.std.proofs.lemmas.List.Concat.{flat_map-cons}
use Rattle.civil_stamp.specs.LocalTime.{LocalMomentData}
use Rattle.held_timers.specs.Dues.{first_due_from, is_due}
use Rattle.enrollment.specs.Objects.{ObjectsState}
use Rattle.alarm_core.specs.declared.due_looks.Former.{Former}
use Rattle.alarm_core.specs.declared.transition.ObjectTransition.{ObjectTransition}
use Rattle.alarm_core.specs.State.{DetectedObjectState}
use Rattle.alarm_core.specs.CoreSteps.{evaluated, transitions_by}
use Rattle.alarm_core.specs.DueSteps.{AreEarly, DetectionsState, IsAmong, IsEarly, Undoes, due_of, restored}
use Rattle.alarm_core.proofs.Still.{back_none, front_none}
use Rattle.alarm_core.proofs.Dues.{due_at_once, quiet_evaluated, quiet_transitions}

-- one that was looked at has its due moment; one that wasn't is as it was
pub record Looked (at : LocalMomentData) (values : ObjectsState) (old new : DetectedObjectState) (due : Option ℕ) : Type 0 where
  pub alarm : new ≡ evaluated at values old
  pub timer : due ≡ due_of values new

pub record Waits (values : ObjectsState) (old new : DetectedObjectState) (due : Option ℕ) : Type 0 where
  pub alarm : new ≡ old
  pub timer : IsEarly values old due

abbrev pub StandsAt : LocalMomentData → ObjectsState → ℕ → DetectedObjectState → DetectedObjectState → Option ℕ → Type 0
StandsAt at values zero old new due = Waits values old new due
StandsAt at values (suc i) old new due = Looked at values old new due

-- a round has come to an index: those below it were looked at, and the others weren't
abbrev pub HasCome : LocalMomentData → ObjectsState → ℕ → List DetectedObjectState → List DetectedObjectState → List (Option ℕ) → Type 0
HasCome at values i [] [] [] = ⊤
HasCome at values i (old ∷ before) (new ∷ after) (due ∷ timers) = StandsAt at values i old new due × HasCome at values (pred i) before after timers
HasCome at values i _ _ _ = ⊥

pub comes_first : (at : LocalMomentData) (values : ObjectsState) (alarms : List DetectedObjectState) (timers : List (Option ℕ)) → AreEarly values alarms timers → HasCome at values 0 alarms alarms timers
comes_first at values [] [] early = tt
comes_first at values (detected ∷ alarms) (due ∷ timers) early = (record { alarm = refl; timer = early.0 }, comes_first at values alarms timers early.1)
comes_first at values [] (due ∷ timers) early = absurd early
comes_first at values (detected ∷ alarms) [] early = absurd early

pub as_many : (at : LocalMomentData) (values : ObjectsState) (i : ℕ) (before after : List DetectedObjectState) (timers : List (Option ℕ)) → HasCome at values i before after timers → length timers ≡ length after
as_many at values i [] [] [] come = refl
as_many at values i (old ∷ before) (new ∷ after) (due ∷ timers) come = ap suc (as_many at values (pred i) before after timers come.1)
as_many at values i [] [] (due ∷ timers) come = absurd come
as_many at values i [] (new ∷ after) timers come = absurd come
as_many at values i (old ∷ before) [] timers come = absurd come
as_many at values i (old ∷ before) (new ∷ after) [] come = absurd come

-- one that isn't due has its due moment
kept_due : (at : LocalMomentData) (values : ObjectsState) (old : DetectedObjectState) (due : Option ℕ) → IsEarly values old due → is_due at.moment due ≡ false → due ≡ due_of values old
kept_due at values old due (inl same) quiet = same
kept_due at values old due (inr once) quiet = absurd (true≢false (sym (due_at_once at.moment) ∙ (ap (is_due at.moment) (sym once) ∙ quiet)))

-- so a look would leave it as it was
pub record Quiet (at : LocalMomentData) (values : ObjectsState) (old new : DetectedObjectState) (due : Option ℕ) : Type 0 where
  pub looked : Looked at values old new due
  pub none : transitions_by at values old ≡ []

is_quiet : (at : LocalMomentData) (values : ObjectsState) (old new : DetectedObjectState) (due : Option ℕ) → Waits values old new due → is_due at.moment due ≡ false → Quiet at values old new due
is_quiet at values old new due waits quiet =
    let kept = kept_due at values old due waits.timer quiet in
    let not_due : is_due at.moment (due_of values old) ≡ false = ap (is_due at.moment) (sym kept) ∙ quiet in
    record {
      looked = record { alarm = waits.alarm ∙ sym (quiet_evaluated at values old not_due); timer = kept ∙ ap (due_of values) (sym waits.alarm) };
      none = quiet_transitions at values old not_due;
    }

-- the transitions of the first few
abbrev pub made_of : LocalMomentData → ObjectsState → List DetectedObjectState → List ObjectTransition
made_of at values alarms = flat_map (transitions_by at values) alarms

made_cons : (at : LocalMomentData) (values : ObjectsState) (old : DetectedObjectState) (one other : List DetectedObjectState) → made_of at values one ≡ made_of at values other →
    made_of at values (old ∷ one) ≡ made_of at values (old ∷ other)
made_cons at values old one other same =
    flat_map-cons (transitions_by at values) old one ∙ (ap (λ made. transitions_by at values old ++ made) same ∙ sym (flat_map-cons (transitions_by at values) old other))

made_quiet : (at : LocalMomentData) (values : ObjectsState) (old : DetectedObjectState) (rest : List DetectedObjectState) → transitions_by at values old ≡ [] → made_of at values (old ∷ rest) ≡ made_of at values rest
made_quiet at values old rest none = flat_map-cons (transitions_by at values) old rest ∙ ap (λ made. made ++ made_of at values rest) none

-- the next one that is due: what lies between is quiet
pub record Reaches (at : LocalMomentData) (values : ObjectsState) (from offset next : ℕ) (before after : List DetectedObjectState) (timers : List (Option ℕ)) : Type 0 where
  pub index : ℕ
  pub is : next ≡ offset + index
  pub low : from ≤ index
  pub come : HasCome at values index before after timers
  pub within : index < length timers
  pub same : made_of at values (take index before) ≡ made_of at values (take from before)

skips_one : (at : LocalMomentData) (values : ObjectsState) (offset next : ℕ) (old new : DetectedObjectState) (due : Option ℕ) (before after : List DetectedObjectState) (timers : List (Option ℕ)) →
    Waits values old new due → HasCome at values 0 before after timers →
    (position_from (is_due at.moment) (offset + 1) timers ≡ Some next → Reaches at values 0 (offset + 1) next before after timers) →
    (is : Bool) → is_due at.moment due ≡ is → (if is then Some offset else position_from (is_due at.moment) (offset + 1) timers) ≡ Some next →
    Reaches at values 0 offset next (old ∷ before) (new ∷ after) (due ∷ timers)
skips_one at values offset next old new due before after timers waits come rest true is found =
    let here : offset ≡ next = cc in
    record { index = 0; is = omega (arith, here); low = omega arith; come = (waits, come); within = omega arith; same = refl }
skips_one at values offset next old new due before after timers waits come rest false is found =
    let reached = rest found in
    let quiet = is_quiet at values old new due waits is in
    record {
      index = suc reached.index;
      is = omega (arith, reached.is);
      low = omega arith;
      come = (quiet.looked, reached.come);
      within = omega (arith, reached.within);
      same = made_quiet at values old (take reached.index before) quiet.none ∙ reached.same;
    }

pub skips : (at : LocalMomentData) (values : ObjectsState) (from offset next : ℕ) (before after : List DetectedObjectState) (timers : List (Option ℕ)) → HasCome at values from before after timers →
    position_from (is_due at.moment) (offset + from) (drop from timers) ≡ Some next → Reaches at values from offset next before after timers
skips at values zero offset next [] [] [] come found = absurd cc
skips at values (suc i) offset next [] [] [] come found = absurd cc
skips at values zero offset next (old ∷ before) (new ∷ after) (due ∷ timers) come found =
    let rest = λ (e : position_from (is_due at.moment) (offset + 1) timers ≡ Some next).
    skips at values zero (offset + 1) next before after timers come.1 (ap (λ k. position_from (is_due at.moment) k timers) (let same : offset + 1 + 0 ≡ offset + 1 = omega arith in same) ∙ e) in
    let none : offset + 0 ≡ offset = omega arith in
    skips_one at values offset next old new due before after timers come.0 come.1 rest (is_due at.moment due) refl
    (ap (λ k. position_from (is_due at.moment) k (due ∷ timers)) (sym none) ∙ found)
skips at values (suc i) offset next (old ∷ before) (new ∷ after) (due ∷ timers) come found =
    let same : offset + 1 + i ≡ offset + suc i = omega arith in
    let reached = skips at values i (offset + 1) next before after timers come.1 (ap (λ k. position_from (is_due at.moment) k (drop i timers)) same ∙ found) in
    record {
      index = suc reached.index;
      is = omega (arith, reached.is);
      low = omega (arith, reached.low);
      come = (come.0, reached.come);
      within = omega (arith, reached.within);
      same = made_cons at values old (take reached.index before) (take i before) reached.same;
    }
skips at values from offset next [] [] (due ∷ timers) come found = absurd come
skips at values from offset next [] (new ∷ after) timers come found = absurd come
skips at values from offset next (old ∷ before) [] timers come found = absurd come
skips at values from offset next (old ∷ before) (new ∷ after) [] come found = absurd come

-- no further one is due: the round is over
pub record Finishes (at : LocalMomentData) (values : ObjectsState) (from : ℕ) (before after : List DetectedObjectState) (timers : List (Option ℕ)) : Type 0 where
  pub alarms : after ≡ map (evaluated at values) before
  pub dues : timers ≡ map (due_of values) after
  pub made : made_of at values before ≡ made_of at values (take from before)

ends_one : (at : LocalMomentData) (values : ObjectsState) (offset : ℕ) (old new : DetectedObjectState) (due : Option ℕ) (before after : List DetectedObjectState) (timers : List (Option ℕ)) →
    Waits values old new due → (position_from (is_due at.moment) (offset + 1) timers ≡ None → Finishes at values 0 before after timers) →
    (is : Bool) → is_due at.moment due ≡ is → (if is then Some offset else position_from (is_due at.moment) (offset + 1) timers) ≡ None →
    Finishes at values 0 (old ∷ before) (new ∷ after) (due ∷ timers)
ends_one at values offset old new due before after timers waits rest true is found = absurd cc
ends_one at values offset old new due before after timers waits rest false is found =
    let over = rest found in
    let quiet = is_quiet at values old new due waits is in
    record {
      alarms = ap (λ d. d ∷ after) quiet.looked.alarm ∙ ap (λ ds. evaluated at values old ∷ ds) over.alarms;
      dues = ap (λ d. d ∷ timers) quiet.looked.timer ∙ ap (λ ds. due_of values new ∷ ds) over.dues;
      made = made_quiet at values old before quiet.none ∙ over.made;
    }

pub finishes : (at : LocalMomentData) (values : ObjectsState) (from offset : ℕ) (before after : List DetectedObjectState) (timers : List (Option ℕ)) → HasCome at values from before after timers →
    position_from (is_due at.moment) offset (drop from timers) ≡ None → Finishes at values from before after timers
finishes at values zero offset [] [] [] come found = record { alarms = refl; dues = refl; made = refl }
finishes at values (suc i) offset [] [] [] come found = record { alarms = refl; dues = refl; made = refl }
finishes at values zero offset (old ∷ before) (new ∷ after) (due ∷ timers) come found =
    ends_one at values offset old new due before after timers come.0 (λ (e : position_from (is_due at.moment) (offset + 1) timers ≡ None). finishes at values zero (offset + 1) before after timers come.1 e)
    (is_due at.moment due) refl found
finishes at values (suc i) offset (old ∷ before) (new ∷ after) (due ∷ timers) come found =
    let over = finishes at values i offset before after timers come.1 found in
    record {
      alarms = ap (λ d. d ∷ after) come.0.alarm ∙ ap (λ ds. evaluated at values old ∷ ds) over.alarms;
      dues = ap (λ d. d ∷ timers) come.0.timer ∙ ap (λ ds. due_of values new ∷ ds) over.dues;
      made = made_cons at values old before (take i before) over.made;
    }
finishes at values from offset [] [] (due ∷ timers) come found = absurd come
finishes at values from offset [] (new ∷ after) timers come found = absurd come
finishes at values from offset (old ∷ before) [] timers come found = absurd come
finishes at values from offset (old ∷ before) (new ∷ after) [] come found = absurd come

-- one look more
pub record GoesOn (at : LocalMomentData) (values : ObjectsState) (i : ℕ) (x : DetectedObjectState) (before after : List DetectedObjectState) (timers : List (Option ℕ)) : Type 0 where
  pub come : HasCome at values (suc i) before (set after i (evaluated at values x)) (set timers i (due_of values (evaluated at values x)))
  pub made : made_of at values (take (suc i) before) ≡ made_of at values (take i before) ++ transitions_by at values x

pub goes_on : (at : LocalMomentData) (values : ObjectsState) (i : ℕ) (x : DetectedObjectState) (before after : List DetectedObjectState) (timers : List (Option ℕ)) → HasCome at values i before after timers →
    i < length after → x ≡ get_or after i x → GoesOn at values i x before after timers
goes_on at values i x [] [] [] come within is = absurd (omega (arith, within))
goes_on at values zero x (old ∷ before) (new ∷ after) (due ∷ timers) come within is =
    let same : x ≡ old = is ∙ come.0.alarm in
    record {
      come = (record { alarm = ap (evaluated at values) same; timer = refl }, come.1);
      made = flat_map-cons (transitions_by at values) old [] ∙ (append-nil (transitions_by at values old) ∙ ap (transitions_by at values) (sym same));
    }
goes_on at values (suc i) x (old ∷ before) (new ∷ after) (due ∷ timers) come within is =
    let next = goes_on at values i x before after timers come.1 (omega arith) is in
    record {
      come = (come.0, next.come);
      made = flat_map-cons (transitions_by at values) old (take (suc i) before)
          ∙ (ap (λ made. transitions_by at values old ++ made) next.made
          ∙ (sym (append_assoc (transitions_by at values old) (made_of at values (take i before)) (transitions_by at values x))
          ∙ ap (λ made. made ++ transitions_by at values x) (sym (flat_map-cons (transitions_by at values) old (take i before)))));
    }
goes_on at values i x [] [] (due ∷ timers) come within is = absurd come
goes_on at values i x [] (new ∷ after) timers come within is = absurd come
goes_on at values i x (old ∷ before) [] timers come within is = absurd come
goes_on at values i x (old ∷ before) (new ∷ after) [] come within is = absurd come

-- what undoes one look more
pub restored_more : (formers : List Former) (former : Former) (alarms : List DetectedObjectState) → restored (formers ++ former ∷ []) alarms ≡ restored formers (set alarms former.index former.detected)
restored_more [] former alarms = refl
restored_more (first ∷ formers) former alarms = ap (λ ds. set ds first.index first.detected) (restored_more formers former alarms)

among_last : (formers : List Former) (former : Former) → IsAmong former.index (formers ++ former ∷ [])
among_last [] former = inl refl
among_last (first ∷ formers) former = inr (among_last formers former)

pub among_more : (index : ℕ) (formers : List Former) (former : Former) → IsAmong index formers → IsAmong index (formers ++ former ∷ [])
among_more index [] former among = absurd among
among_more index (first ∷ formers) former (inl same) = inl same
among_more index (first ∷ formers) former (inr among) = inr (among_more index formers former among)

later_place : {X : Type 0} (xs ys : List X) (i j : ℕ) → (i ≡ j) ⊎ (slice_get xs j ≡ slice_get ys j) → (suc i ≡ suc j) ⊎ (slice_get xs j ≡ slice_get ys j)
later_place xs ys i j (inl same) = inl (ap suc same)
later_place xs ys i j (inr other) = inr other

-- another place is as it was
pub set_elsewhere : {X : Type 0} (xs : List X) (i j : ℕ) (x : X) → (i ≡ j) ⊎ (slice_get (set xs i x) j ≡ slice_get xs j)
set_elsewhere [] i j x = inr refl
set_elsewhere (y ∷ xs) zero zero x = inl refl
set_elsewhere (y ∷ xs) zero (suc j) x = inr refl
set_elsewhere (y ∷ xs) (suc i) zero x = inr refl
set_elsewhere (y ∷ xs) (suc i) (suc j) x = later_place (set xs i x) xs i j (set_elsewhere xs i j x)

split_later : (index : ℕ) (first : Former) (formers : List Former) (former : Former) → IsAmong index formers ⊎ (former.index ≡ index) → IsAmong index (first ∷ formers) ⊎ (former.index ≡ index)
split_later index first formers former (inl among) = inl (inr among)
split_later index first formers former (inr same) = inr same

pub among_split : (index : ℕ) (formers : List Former) (former : Former) → IsAmong index (formers ++ former ∷ []) → IsAmong index formers ⊎ (former.index ≡ index)
among_split index [] former (inl same) = inr same
among_split index [] former (inr among) = absurd among
among_split index (first ∷ formers) former (inl same) = inl (inl same)
among_split index (first ∷ formers) former (inr among) = split_later index first formers former (among_split index formers former among)

within_more : (formers : List Former) (former : Former) (n : ℕ) → ((index : ℕ) → IsAmong index formers → index < n) → former.index < n →
    (index : ℕ) → IsAmong index formers ⊎ (former.index ≡ index) → index < n
within_more formers former n within there index (inl among) = within index among
within_more formers former n within there index (inr same) = subst (λ k. k < n) same there

-- there are as many
pub as_long : (formers : List Former) (alarms : List DetectedObjectState) → length (restored formers alarms) ≡ length alarms
as_long [] alarms = refl
as_long (former ∷ formers) alarms = length-set (restored formers alarms) former.index former.detected ∙ as_long formers alarms

undone_at : (formers : List Former) (former : Former) (index : ℕ) (due : Option (Option ℕ)) (timers : List (Option ℕ)) (new : Option ℕ) →
    IsAmong index formers ⊎ (slice_get timers index ≡ due) → (former.index ≡ index) ⊎ (slice_get (set timers former.index new) index ≡ slice_get timers index) →
    IsAmong index (formers ++ former ∷ []) ⊎ (slice_get (set timers former.index new) index ≡ due)
undone_at formers former index due timers new (inl among) place = inl (among_more index formers former among)
undone_at formers former index due timers new (inr kept) (inl same) = inl (subst (λ k. IsAmong k (formers ++ former ∷ [])) same (among_last formers former))
undone_at formers former index due timers new (inr kept) (inr other) = inr (other ∙ kept)

pub undoes_more : (formers : List Former) (former : Former) (before : DetectionsState) (alarms : List DetectedObjectState) (timers : List (Option ℕ)) (changed : DetectedObjectState) (new : Option ℕ) →
    Undoes formers before alarms timers → former.index < length alarms → former.detected ≡ get_or alarms former.index former.detected →
    Undoes (formers ++ former ∷ []) before (set alarms former.index changed) (set timers former.index new)
undoes_more formers former before alarms timers changed new undoes there is = record {
  puts_back = restored_more formers former (set alarms former.index changed)
      ∙ (ap (restored formers) (set-set alarms former.index changed former.detected
      ∙ (ap (set alarms former.index) is ∙ set-get_or alarms former.index former.detected))
      ∙ undoes.puts_back);
  keeps = λ index. undone_at formers former index (slice_get (map (due_of before.values) before.alarms) index) timers new (undoes.keeps index) (set_elsewhere timers former.index index new);
  within = λ index among. within_more formers former (length before.alarms) undoes.within (omega (arith, there, as_long formers alarms, ap length undoes.puts_back)) index (among_split index formers former among);
  many = length-set timers former.index new ∙ undoes.many;
}

-- the loop's steps, as the code has them
pub record NextDue (at : LocalMomentData) (values : ObjectsState) (from next : ℕ) (before after : List DetectedObjectState) (timers : List (Option ℕ)) : Type 0 where
  pub come : HasCome at values next before after timers
  pub within : next < length timers
  pub there : next < length after
  pub low : from ≤ next
  pub same : made_of at values (take next before) ≡ made_of at values (take from before)

pub next_due : (at : LocalMomentData) (values : ObjectsState) (moment from next : ℕ) (before after : List DetectedObjectState) (timers : List (Option ℕ)) → moment ≡ at.moment →
    HasCome at values from before after timers → Some next ≡ first_due_from timers moment from → NextDue at values from next before after timers
next_due at values moment from next before after timers is come found =
    let start : 0 + from ≡ from = omega arith in
    let reached = skips at values from 0 next before after timers come (ap (λ k. position_from (is_due at.moment) k (drop from timers)) start ∙ (ap (λ m. first_due_from timers m from) (sym is) ∙ sym found)) in
    let here : next ≡ reached.index = omega (arith, reached.is) in
    let many = as_many at values from before after timers come in
    record {
      come = subst (λ k. HasCome at values k before after timers) (sym here) reached.come;
      within = omega (arith, here, reached.within);
      there = omega (arith, here, reached.within, many);
      low = omega (arith, here, reached.low);
      same = ap (λ k. made_of at values (take k before)) here ∙ reached.same;
    }

pub round_over : (at : LocalMomentData) (values : ObjectsState) (moment from : ℕ) (before after : List DetectedObjectState) (timers : List (Option ℕ)) → moment ≡ at.moment →
    HasCome at values from before after timers → first_due_from timers moment from ≡ None → Finishes at values from before after timers
round_over at values moment from before after timers is come none =
    finishes at values from from before after timers come (ap (λ m. first_due_from timers m from) (sym is) ∙ none)

pub record StepsOn (at : LocalMomentData) (values : ObjectsState) (i : ℕ) (x : DetectedObjectState) (before alarms : List DetectedObjectState) (timers dues : List (Option ℕ)) : Type 0 where
  pub come : HasCome at values (i + 1) before alarms dues
  pub made : made_of at values (take (i + 1) before) ≡ made_of at values (take i before) ++ transitions_by at values x
  pub many : length dues ≡ length timers

pub steps_on : (at : LocalMomentData) (values : ObjectsState) (i : ℕ) (x : DetectedObjectState) (before after alarms : List DetectedObjectState) (timers dues : List (Option ℕ)) →
    HasCome at values i before after timers → i < length after → x ≡ get_or after i x →
    alarms ≡ set after i (evaluated at values x) → dues ≡ set timers i (due_of values (evaluated at values x)) → StepsOn at values i x before alarms timers dues
steps_on at values i x before after alarms timers dues come within is a t =
    let on = goes_on at values i x before after timers come within is in
    let more : suc i ≡ i + 1 = omega arith in
    record {
      come = subst (λ k. HasCome at values k before alarms dues) more
          (subst (λ ds. HasCome at values (suc i) before ds dues) (sym a) (subst (λ ts. HasCome at values (suc i) before (set after i (evaluated at values x)) ts) (sym t) on.come));
      made = ap (λ k. made_of at values (take k before)) (sym more) ∙ on.made;
      many = ap length t ∙ length-set timers i (due_of values (evaluated at values x));
    }

pub undoes_on : (formers : List Former) (former : Former) (before : DetectionsState) (alarms : List DetectedObjectState) (timers : List (Option ℕ)) (changed : DetectedObjectState) (new : Option ℕ)
    (later : List Former) (after : List DetectedObjectState) (dues : List (Option ℕ)) →
    Undoes formers before alarms timers → former.index < length alarms → former.detected ≡ get_or alarms former.index former.detected →
    later ≡ formers ++ former ∷ [] → after ≡ set alarms former.index changed → dues ≡ set timers former.index new → Undoes later before after dues
undoes_on formers former before alarms timers changed new later after dues undoes there is f a t =
    subst (λ fs. Undoes fs before after dues) (sym f)
    (subst (λ ds. Undoes (formers ++ former ∷ []) before ds dues) (sym a)
    (subst (λ ts. Undoes (formers ++ former ∷ []) before (set alarms former.index changed) ts) (sym t) (undoes_more formers former before alarms timers changed new undoes there is)))

pub undoes_same : (formers later : List Former) (before : DetectionsState) (alarms after : List DetectedObjectState) (timers dues : List (Option ℕ)) →
    later ≡ formers → after ≡ alarms → dues ≡ timers → Undoes formers before alarms timers → Undoes later before after dues
undoes_same formers later before alarms after timers dues f a t undoes =
    subst (λ fs. Undoes fs before after dues) (sym f) (subst (λ ds. Undoes formers before ds dues) (sym a) (subst (λ ts. Undoes formers before alarms ts) (sym t) undoes))

-- a list to which some more came
pub joined_more : {X : Type 0} (first made one old new whole : List X) → new ≡ old ++ one → old ≡ first ++ made → whole ≡ made ++ one → new ≡ first ++ whole
joined_more first made one old new whole n o w = n ∙ (ap (λ xs. xs ++ one) o ∙ (append_assoc first made one ∙ ap (λ xs. first ++ xs) (sym w)))

-- exact timers stay exact
pub exact_more : (values : ObjectsState) (i : ℕ) (alarms new_alarms : List DetectedObjectState) (timers dues : List (Option ℕ)) (changed : DetectedObjectState) →
    new_alarms ≡ set alarms i changed → dues ≡ set timers i (due_of values changed) → timers ≡ map (due_of values) alarms → dues ≡ map (due_of values) new_alarms
exact_more values i alarms new_alarms timers dues changed a t exact =
    t ∙ (ap (λ ts. set ts i (due_of values changed)) exact ∙ (sym (map-set (due_of values) alarms i changed) ∙ ap (map (due_of values)) (sym a)))

pub exact_early : (values : ObjectsState) (alarms : List DetectedObjectState) → AreEarly values alarms (map (due_of values) alarms)
exact_early values [] = tt
exact_early values (detected ∷ alarms) = (inl refl, exact_early values alarms)

pub as_before : (at : LocalMomentData) (values : ObjectsState) (i : ℕ) (before after : List DetectedObjectState) (timers : List (Option ℕ)) → HasCome at values i before after timers → length after ≡ length before
as_before at values i [] [] [] come = refl
as_before at values i (old ∷ before) (new ∷ after) (due ∷ timers) come = ap suc (as_before at values (pred i) before after timers come.1)
as_before at values i [] [] (due ∷ timers) come = absurd come
as_before at values i [] (new ∷ after) timers come = absurd come
as_before at values i (old ∷ before) [] timers come = absurd come
as_before at values i (old ∷ before) (new ∷ after) [] come = absurd come

-- the next one that is due among some that nobody has looked at: those between would make no transition
pub record NextMover (at : LocalMomentData) (values : ObjectsState) (from next : ℕ) (alarms : List DetectedObjectState) : Type 0 where
  pub within : next < length alarms
  pub low : from ≤ next
  pub same : made_of at values (take next alarms) ≡ made_of at values (take from alarms)
  pub due : (d : DetectedObjectState) → is_due at.moment (due_of values (get_or alarms next d)) ≡ true

pub record MovesNext (at : LocalMomentData) (values : ObjectsState) (from offset next : ℕ) (alarms : List DetectedObjectState) : Type 0 where
  pub index : ℕ
  pub is : next ≡ offset + index
  pub low : from ≤ index
  pub within : index < length alarms
  pub same : made_of at values (take index alarms) ≡ made_of at values (take from alarms)
  pub due : (d : DetectedObjectState) → is_due at.moment (due_of values (get_or alarms index d)) ≡ true

moves_one : (at : LocalMomentData) (values : ObjectsState) (offset next : ℕ) (detected : DetectedObjectState) (alarms : List DetectedObjectState) →
    (position_from (is_due at.moment) (offset + 1) (map (due_of values) alarms) ≡ Some next → MovesNext at values 0 (offset + 1) next alarms) →
    (is : Bool) → is_due at.moment (due_of values detected) ≡ is → (if is then Some offset else position_from (is_due at.moment) (offset + 1) (map (due_of values) alarms)) ≡ Some next →
    MovesNext at values 0 offset next (detected ∷ alarms)
moves_one at values offset next detected alarms rest true is found =
    let here : offset ≡ next = cc in
    record { index = 0; is = omega (arith, here); low = omega arith; within = omega arith; same = refl; due = λ d. is }
moves_one at values offset next detected alarms rest false is found =
    let moves = rest found in
    record {
      index = suc moves.index;
      is = omega (arith, moves.is);
      low = omega arith;
      within = omega (arith, moves.within);
      same = made_quiet at values detected (take moves.index alarms) (quiet_transitions at values detected is) ∙ moves.same;
      due = λ d. moves.due d;
    }

moves_next : (at : LocalMomentData) (values : ObjectsState) (from offset next : ℕ) (alarms : List DetectedObjectState) →
    position_from (is_due at.moment) (offset + from) (drop from (map (due_of values) alarms)) ≡ Some next → MovesNext at values from offset next alarms
moves_next at values zero offset next [] found = absurd cc
moves_next at values (suc i) offset next [] found = absurd cc
moves_next at values zero offset next (detected ∷ alarms) found =
    let rest = λ (e : position_from (is_due at.moment) (offset + 1) (map (due_of values) alarms) ≡ Some next).
    moves_next at values zero (offset + 1) next alarms (ap (λ k. position_from (is_due at.moment) k (map (due_of values) alarms)) (let same : offset + 1 + 0 ≡ offset + 1 = omega arith in same) ∙ e) in
    let none : offset + 0 ≡ offset = omega arith in
    moves_one at values offset next detected alarms rest (is_due at.moment (due_of values detected)) refl
    (ap (λ k. position_from (is_due at.moment) k (map (due_of values) (detected ∷ alarms))) (sym none) ∙ found)
moves_next at values (suc i) offset next (detected ∷ alarms) found =
    let same : offset + 1 + i ≡ offset + suc i = omega arith in
    let moves = moves_next at values i (offset + 1) next alarms (ap (λ k. position_from (is_due at.moment) k (drop i (map (due_of values) alarms))) same ∙ found) in
    record {
      index = suc moves.index;
      is = omega (arith, moves.is);
      low = omega (arith, moves.low);
      within = omega (arith, moves.within);
      same = made_cons at values detected (take moves.index alarms) (take i alarms) moves.same;
      due = λ d. moves.due d;
    }

pub next_mover : (at : LocalMomentData) (values : ObjectsState) (moment from next : ℕ) (alarms : List DetectedObjectState) (timers : List (Option ℕ)) → moment ≡ at.moment →
    timers ≡ map (due_of values) alarms → Some next ≡ first_due_from timers moment from → NextMover at values from next alarms
next_mover at values moment from next alarms timers is exact found =
    let start : 0 + from ≡ from = omega arith in
    let moves = moves_next at values from 0 next alarms
    (ap (λ k. position_from (is_due at.moment) k (drop from (map (due_of values) alarms))) start
    ∙ (ap (λ ts. first_due_from ts at.moment from) (sym exact) ∙ (ap (λ m. first_due_from timers m from) (sym is) ∙ sym found))) in
    let here : next ≡ moves.index = omega (arith, moves.is) in
    record {
      within = omega (arith, here, moves.within);
      low = omega (arith, here, moves.low);
      same = ap (λ k. made_of at values (take k alarms)) here ∙ moves.same;
      due = λ d. ap (λ k. is_due at.moment (due_of values (get_or alarms k d))) here ∙ moves.due d;
    }

no_one : (at : LocalMomentData) (values : ObjectsState) (offset : ℕ) (detected : DetectedObjectState) (alarms : List DetectedObjectState) →
    (position_from (is_due at.moment) (offset + 1) (map (due_of values) alarms) ≡ None → made_of at values alarms ≡ []) →
    (is : Bool) → is_due at.moment (due_of values detected) ≡ is → (if is then Some offset else position_from (is_due at.moment) (offset + 1) (map (due_of values) alarms)) ≡ None →
    made_of at values (detected ∷ alarms) ≡ []
no_one at values offset detected alarms rest true is none = absurd cc
no_one at values offset detected alarms rest false is none = made_quiet at values detected alarms (quiet_transitions at values detected is) ∙ rest none

none_moves : (at : LocalMomentData) (values : ObjectsState) (from offset : ℕ) (alarms : List DetectedObjectState) →
    position_from (is_due at.moment) offset (drop from (map (due_of values) alarms)) ≡ None → made_of at values (take from alarms) ≡ [] → made_of at values alarms ≡ []
none_moves at values zero offset [] none before = refl
none_moves at values (suc i) offset [] none before = refl
none_moves at values zero offset (detected ∷ alarms) none before =
    no_one at values offset detected alarms (λ (e : position_from (is_due at.moment) (offset + 1) (map (due_of values) alarms) ≡ None). none_moves at values zero (offset + 1) alarms e refl)
    (is_due at.moment (due_of values detected)) refl none
none_moves at values (suc i) offset (detected ∷ alarms) none before =
    let e = sym (flat_map-cons (transitions_by at values) detected (take i alarms)) ∙ before in
    flat_map-cons (transitions_by at values) detected alarms
    ∙ (ap (λ made. made ++ made_of at values alarms) (front_none (transitions_by at values detected) (made_of at values (take i alarms)) e)
    ∙ none_moves at values i offset alarms none (back_none (transitions_by at values detected) (made_of at values (take i alarms)) e))

pub nobody_moves : (at : LocalMomentData) (values : ObjectsState) (moment from : ℕ) (alarms : List DetectedObjectState) (timers : List (Option ℕ)) → moment ≡ at.moment →
    timers ≡ map (due_of values) alarms → first_due_from timers moment from ≡ None → made_of at values (take from alarms) ≡ [] → made_of at values alarms ≡ []
nobody_moves at values moment from alarms timers is exact none before =
    none_moves at values from from alarms (ap (λ ts. first_due_from ts at.moment from) (sym exact) ∙ (ap (λ m. first_due_from timers m from) (sym is) ∙ none)) before

pub none_yet : (at : LocalMomentData) (values : ObjectsState) (next : ℕ) (alarms : List DetectedObjectState) (detected : DetectedObjectState) → next < length alarms → detected ≡ get_or alarms next detected →
    made_of at values (take next alarms) ≡ [] → transitions_by at values detected ≡ [] → made_of at values (take (next + 1) alarms) ≡ []
none_yet at values next [] detected within is before none = absurd (omega (arith, within))
none_yet at values zero (first ∷ alarms) detected within is before none = flat_map-cons (transitions_by at values) first [] ∙ (append-nil (transitions_by at values first) ∙ (ap (transitions_by at values) (sym is) ∙ none))
none_yet at values (suc i) (first ∷ alarms) detected within is before none =
    let e = sym (flat_map-cons (transitions_by at values) first (take i alarms)) ∙ before in
    let more : suc i + 1 ≡ suc (i + 1) = omega arith in
    ap (λ k. made_of at values (take k (first ∷ alarms))) more
    ∙ (flat_map-cons (transitions_by at values) first (take (i + 1) alarms)
    ∙ (ap (λ made. made ++ made_of at values (take (i + 1) alarms)) (front_none (transitions_by at values first) (made_of at values (take i alarms)) e)
    ∙ none_yet at values i alarms detected (omega arith) is (back_none (transitions_by at values first) (made_of at values (take i alarms)) e) none))

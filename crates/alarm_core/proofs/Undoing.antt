-- Former alarms that are put back, the last one first; and timers that acknowledgements leave as they are.
use Rattle.std.proofs.Common.{◌≡◌, ◌⊎◌, inl, inr, ℕ, zero, suc, ◌<◌, Bool, true, false, if◌then◌else◌, Result, Ok, Err, OnErr, Option, Some, None, List, [], ◌∷◌, ◌++◌, length, map, set, slice_get, option_map, refl, ap, ◌∙◌, sym, subst, arith}
use Rattle.std.proofs.lemmas.List.{length-map, length-set}
use Rattle.std.proofs.lemmas.Option.{same_Some, slice_get-map}
use Rattle.algorithm_rules.specs.Facts.{Facts}
use Rattle.bac_values.specs.Identifier.{ObjectIdData}
use Rattle.bac_values.specs.declared.transition.Transition.{Transition}
use Rattle.event_machine.specs.AlarmSteps.{acknowledged}
use Rattle.event_machine.specs.Due.{next_due_of}
use Rattle.event_machine.specs.SettledSteps.{is_settled}
use Rattle.event_machine.proofs.Settling.{looks_are_skipped}
use Rattle.object_table.specs.Rows.{is_object}
use Rattle.enrollment.specs.Objects.{ObjectsState, facts_at}
use Rattle.alarm_core.specs.declared.due_looks.Former.{Former}
use Rattle.alarm_core.specs.State.{CoreState, DetectedObjectState}
use Rattle.alarm_core.specs.CoreSteps.{acked}
use Rattle.alarm_core.specs.DueSteps.{DetectionsState, IsAmong, LeadsBack, Undoes, detections_of, due_by, due_of, object_of, restored, sight_with, start_of}
use Rattle.alarm_core.proofs.Rounds.{among_more, among_split, as_long, restored_more, set_elsewhere}

pub get_set : {X : Type 0} (xs : List X) (i : ℕ) (x : X) → i < length xs → slice_get (set xs i x) i ≡ Some x
get_set [] i x within = absurd (omega (arith, within))
get_set (y ∷ xs) zero x within = refl
get_set (y ∷ xs) (suc i) x within = get_set xs i x (omega arith)

-- an index that isn't among them is as it was
else_later : (index : ℕ) (former : Former) (formers : List Former) (alarms : List DetectedObjectState) →
    (former.index ≡ index) ⊎ (slice_get (set (restored formers alarms) former.index former.detected) index ≡ slice_get (restored formers alarms) index) →
    IsAmong index formers ⊎ (slice_get (restored formers alarms) index ≡ slice_get alarms index) →
    IsAmong index (former ∷ formers) ⊎ (slice_get (restored (former ∷ formers) alarms) index ≡ slice_get alarms index)
else_later index former formers alarms (inl same) before = inl (inl same)
else_later index former formers alarms (inr other) (inl among) = inl (inr among)
else_later index former formers alarms (inr other) (inr kept) = inr (other ∙ kept)

restored_else : (index : ℕ) (formers : List Former) (alarms : List DetectedObjectState) → IsAmong index formers ⊎ (slice_get (restored formers alarms) index ≡ slice_get alarms index)
restored_else index [] alarms = inr refl
restored_else index (former ∷ formers) alarms =
    else_later index former formers alarms (set_elsewhere (restored formers alarms) former.index index former.detected) (restored_else index formers alarms)

-- at the index of the one that is put back
back_by : (formers : List Former) (former : Former) (before : DetectionsState) (alarms : List DetectedObjectState) (timers : List (Option ℕ)) →
    restored formers (set alarms former.index former.detected) ≡ before.alarms → former.index < length alarms → former.index < length timers →
    IsAmong former.index formers ⊎ (slice_get (restored formers (set alarms former.index former.detected)) former.index ≡ slice_get (set alarms former.index former.detected) former.index) →
    IsAmong former.index formers ⊎ (slice_get (set timers former.index (due_of before.values former.detected)) former.index ≡ slice_get (map (due_of before.values) before.alarms) former.index)
back_by formers former before alarms timers back there within (inl among) = inl among
back_by formers former before alarms timers back there within (inr kept) =
    let i = former.index in
    let here : slice_get before.alarms i ≡ Some former.detected = ap (λ ds. slice_get ds i) (sym back) ∙ (kept ∙ get_set alarms i former.detected there) in
    inr (get_set timers i (due_of before.values former.detected) within
    ∙ (sym (ap (option_map (due_of before.values)) here) ∙ sym (slice_get-map (due_of before.values) before.alarms i)))

less_among : (formers : List Former) (former : Former) (before : DetectionsState) (timers : List (Option ℕ)) (due : Option ℕ) (index : ℕ) →
    IsAmong former.index formers ⊎ (slice_get (set timers former.index due) former.index ≡ slice_get (map (due_of before.values) before.alarms) former.index) →
    IsAmong index formers ⊎ (former.index ≡ index) →
    IsAmong index formers ⊎ (slice_get (set timers former.index due) index ≡ slice_get (map (due_of before.values) before.alarms) index)
less_among formers former before timers due index here (inl among) = inl among
less_among formers former before timers due index here (inr same) =
    subst (λ k. IsAmong k formers ⊎ (slice_get (set timers former.index due) k ≡ slice_get (map (due_of before.values) before.alarms) k)) same here

less_at : (formers : List Former) (former : Former) (before : DetectionsState) (timers : List (Option ℕ)) (due : Option ℕ) (index : ℕ) →
    IsAmong former.index formers ⊎ (slice_get (set timers former.index due) former.index ≡ slice_get (map (due_of before.values) before.alarms) former.index) →
    IsAmong index (formers ++ former ∷ []) ⊎ (slice_get timers index ≡ slice_get (map (due_of before.values) before.alarms) index) →
    (former.index ≡ index) ⊎ (slice_get (set timers former.index due) index ≡ slice_get timers index) →
    IsAmong index formers ⊎ (slice_get (set timers former.index due) index ≡ slice_get (map (due_of before.values) before.alarms) index)
less_at formers former before timers due index here kept (inl same) =
    subst (λ k. IsAmong k formers ⊎ (slice_get (set timers former.index due) k ≡ slice_get (map (due_of before.values) before.alarms) k)) same here
less_at formers former before timers due index here (inr kept) (inr other) = inr (other ∙ kept)
less_at formers former before timers due index here (inl among) (inr other) = less_among formers former before timers due index here (among_split index formers former among)

-- the last former alarm is put back
put_last : (formers : List Former) (former : Former) (before : DetectionsState) (alarms : List DetectedObjectState) (timers : List (Option ℕ)) →
    Undoes (formers ++ former ∷ []) before alarms timers → former.index < length alarms → former.index < length timers →
    Undoes formers before (set alarms former.index former.detected) (set timers former.index (due_of before.values former.detected))
put_last formers former before alarms timers undoes there within =
    let i = former.index in
    let due = due_of before.values former.detected in
    let back = sym (restored_more formers former alarms) ∙ undoes.puts_back in
    let here = back_by formers former before alarms timers back there within (restored_else i formers (set alarms i former.detected)) in
    record {
      puts_back = back;
      keeps = λ index. less_at formers former before timers due index here (undoes.keeps index) (set_elsewhere timers i index due);
      within = λ index among. undoes.within index (among_more index formers former among);
      many = length-set timers i due ∙ undoes.many;
    }

among_end : (formers : List Former) (former : Former) → IsAmong former.index (formers ++ former ∷ [])
among_end [] former = inl refl
among_end (first ∷ formers) former = inr (among_end formers former)

pub record HasPlace (former : Former) (alarms : List DetectedObjectState) (timers : List (Option ℕ)) : Type 0 where
  pub alarm : former.index < length alarms
  pub timer : former.index < length timers

pub has_place : (formers rest : List Former) (former : Former) (before : DetectionsState) (alarms : List DetectedObjectState) (timers : List (Option ℕ)) →
    Undoes formers before alarms timers → formers ≡ rest ++ former ∷ [] → HasPlace former alarms timers
has_place formers rest former before alarms timers undoes is =
    let within = undoes.within former.index (subst (IsAmong former.index) (sym is) (among_end rest former)) in
    let long = sym (as_long formers alarms) ∙ ap length undoes.puts_back in
    record { alarm = omega (arith, within, long); timer = omega (arith, within, undoes.many) }

pub undoes_less : (formers rest : List Former) (former : Former) (before : DetectionsState) (alarms after : List DetectedObjectState) (timers dues : List (Option ℕ)) →
    Undoes formers before alarms timers → formers ≡ rest ++ former ∷ [] →
    after ≡ set alarms former.index former.detected → dues ≡ set timers former.index (due_of before.values former.detected) → Undoes rest before after dues
undoes_less formers rest former before alarms after timers dues undoes is a t =
    let place = has_place formers rest former before alarms timers undoes is in
    subst (λ ds. Undoes rest before ds dues) (sym a)
    (subst (λ ts. Undoes rest before (set alarms former.index former.detected) ts) (sym t)
    (put_last rest former before alarms timers (subst (λ fs. Undoes fs before alarms timers) is undoes) place.alarm place.timer))

-- lists that are the same at each index
same_lists : {X : Type 0} (xs ys : List X) → ((i : ℕ) → slice_get xs i ≡ slice_get ys i) → xs ≡ ys
same_lists [] [] same = refl
same_lists [] (y ∷ ys) same = let e = same 0 in absurd cc
same_lists (x ∷ xs) [] same = let e = same 0 in absurd cc
same_lists (x ∷ xs) (y ∷ ys) same = ap (λ z. z ∷ xs) (same_Some x y (same 0)) ∙ ap (λ zs. y ∷ zs) (same_lists xs ys (λ i. same (suc i)))

only_other : {A : Type 0} → ⊥ ⊎ A → A
only_other (inl never) = absurd never
only_other (inr a) = a

pub undone_timers : (before : DetectionsState) (alarms : List DetectedObjectState) (timers : List (Option ℕ)) → Undoes [] before alarms timers → timers ≡ map (due_of before.values) before.alarms
undone_timers before alarms timers undoes = same_lists timers (map (due_of before.values) before.alarms) (λ i. only_other (undoes.keeps i))

-- an acknowledgement changes no due moment
acked_facts : (values : ObjectsState) (detected : DetectedObjectState) (transition : Transition) (facts : Option Facts) →
    due_by detected.algorithm (option_map (sight_with detected.object values) facts) (acknowledged transition detected.alarm)
    ≡ due_by detected.algorithm (option_map (sight_with detected.object values) facts) detected.alarm
acked_facts values detected transition None = refl
acked_facts values detected transition (Some facts) =
    let point = sight_with detected.object values facts in
    ap (λ (settled : Bool). if settled then next_due_of detected.algorithm facts (acknowledged transition detected.alarm) else Some 0) (looks_are_skipped.acknowledges detected.algorithm point transition detected.alarm)
    ∙ ap (λ (due : Option ℕ). if is_settled detected.algorithm point detected.alarm then due else Some 0) (looks_are_skipped.acknowledges_due detected.algorithm facts transition detected.alarm)

acked_by : (same : Bool) (values : ObjectsState) (transition : Transition) (detected : DetectedObjectState) →
    due_of values (if same then record detected { alarm = acknowledged transition detected.alarm } else detected) ≡ due_of values detected
acked_by true values transition detected = acked_facts values detected transition (facts_at detected.object values)
acked_by false values transition detected = refl

pub dues_acked : (values : ObjectsState) (object : ObjectIdData) (transition : Transition) (alarms : List DetectedObjectState) → map (due_of values) (map (acked object transition) alarms) ≡ map (due_of values) alarms
dues_acked values object transition [] = refl
dues_acked values object transition (detected ∷ alarms) =
    ap (λ due. due ∷ map (due_of values) (map (acked object transition) alarms)) (acked_by (is_object object detected.object) values transition detected)
    ∙ ap (λ dues. due_of values detected ∷ dues) (dues_acked values object transition alarms)

-- nor an object
acked_object : (same : Bool) (transition : Transition) (detected : DetectedObjectState) → (if same then record detected { alarm = acknowledged transition detected.alarm } else detected).object ≡ detected.object
acked_object true transition detected = refl
acked_object false transition detected = refl

pub acked_objects : (object : ObjectIdData) (transition : Transition) (alarms : List DetectedObjectState) → map object_of (map (acked object transition) alarms) ≡ map object_of alarms
acked_objects object transition [] = refl
acked_objects object transition (detected ∷ alarms) =
    ap (λ (one : ObjectIdData). one ∷ map object_of (map (acked object transition) alarms)) (acked_object (is_object object detected.object) transition detected)
    ∙ ap (λ objects. detected.object ∷ objects) (acked_objects object transition alarms)

-- what undoes a round leads to the alarms that it makes
pub undoes_here : (formers : List Former) (before : DetectionsState) (values : ObjectsState) (alarms : List DetectedObjectState) (timers : List (Option ℕ)) → values ≡ before.values →
    Undoes formers before alarms timers → Undoes formers (record { values = values; alarms = restored formers alarms }) alarms timers
undoes_here formers before values alarms timers same undoes =
    subst (λ (s : DetectionsState). Undoes formers s alarms timers) (λ k. record { values = sym same k; alarms = sym undoes.puts_back k }) undoes

-- nothing is to be undone
pub leads_nowhere : (formers : List Former) (before after : DetectionsState) → formers ≡ [] → before ≡ after → LeadsBack formers before after
leads_nowhere formers before after none same =
    subst (λ fs. LeadsBack fs before after) (sym none)
    (subst (LeadsBack [] before) same
    (record { undoes = record { puts_back = refl; keeps = λ index. inr refl; within = λ index among. absurd among; many = length-map before.alarms (due_of before.values) }; objects = refl }))

-- a state from which nothing was written is the one to which the formers lead back
pub starts_from : (formers : List Former) (before after : DetectionsState) → before.values ≡ after.values → LeadsBack formers before after → before ≡ start_of formers after
starts_from formers before after same led = λ k. record { values = same k; alarms = sym led.undoes.puts_back k }

pub leads_here : (formers : List Former) (before after : DetectionsState) → before.values ≡ after.values → LeadsBack formers before after → LeadsBack formers (start_of formers after) after
leads_here formers before after same led = subst (λ (s : DetectionsState). LeadsBack formers s after) (starts_from formers before after same led) led

-- so it is where a fault left a core as it was
pub same_leads_back : {A E : Type 0} (result : Result A E) (formers : List Former) (old new : CoreState) → formers ≡ [] → OnErr result (new ≡ old) → OnErr result (LeadsBack formers (detections_of old) (detections_of new))
same_leads_back (Ok done) formers old new none same = same
same_leads_back (Err fault) formers old new none same = leads_nowhere formers (detections_of old) (detections_of new) none (ap detections_of (sym same))

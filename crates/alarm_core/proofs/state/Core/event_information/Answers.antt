use Rattle.std.proofs.Common.{◌≡◌, ℕ, zero, ◌+◌, ◌-◌, ◌/◌, ◌<◌, length, Bool, true, false, if◌then◌else◌, nat_lt, List, [], ◌∷◌, ◌++◌, suc, map, take, drop, filter, get_or, refl, sym, ap, subst, ◌∙◌, arith}
use Rattle.std.proofs.lemmas.Bool.{ltb-false, ltb-true}
use Rattle.std.proofs.lemmas.List.{append_assoc, append-nil, at_drop_more, drop_all}
use Rattle.std.proofs.lemmas.Result.{IfOk-from_err}
use Rattle.event_services.specs.declared.information.EventSummary.{EventSummary}
use Rattle.alarm_core.specs.Information.{is_told, summary_of}
use Rattle.alarm_core.specs.State.{CoreState, DetectedObjectState}
use Rattle.alarm_core.proofs.state.Core.event_information.Goals as goal

-- what is kept of the elements from a place on, where the one at the place is kept
kept_here : {X : Type 0} (p : X → Bool) (xs : List X) (i : ℕ) (x : X) → i < length xs → x ≡ get_or xs i x → p x ≡ true →
    filter p (drop i xs) ≡ x ∷ filter p (drop (i + 1) xs)
kept_here p xs i x h e t =
    at_drop_more (filter p) xs i x h ∙ (ap (λ y. filter p (y ∷ drop (i + 1) xs)) (sym e)
    ∙ ap (λ b. if b then x ∷ filter p (drop (i + 1) xs) else filter p (drop (i + 1) xs)) t)

-- and where it isn't
passed_here : {X : Type 0} (p : X → Bool) (xs : List X) (i : ℕ) (x : X) → i < length xs → x ≡ get_or xs i x → p x ≡ false →
    filter p (drop i xs) ≡ filter p (drop (i + 1) xs)
passed_here p xs i x h e t =
    at_drop_more (filter p) xs i x h ∙ (ap (λ y. filter p (y ∷ drop (i + 1) xs)) (sym e)
    ∙ ap (λ b. if b then x ∷ filter p (drop (i + 1) xs) else filter p (drop (i + 1) xs)) t)

-- none is told where none is left, or where there is no room
none_left : {X Y : Type 0} (f : X → Y) (left : ℕ) (done : List Y) → done ++ map f (take left []) ≡ done
none_left f zero done = append-nil done
none_left f (suc left) done = append-nil done

no_more : (left : ℕ) → nat_lt left 0 ≡ false
no_more left = by_test (nat_lt left 0) refl
  where
    by_test : (b : Bool) → nat_lt left 0 ≡ b → b ≡ false
    by_test false f = refl
    by_test true f = let below = ltb-true left 0 f in absurd (omega (arith, below))

some_more : (n : ℕ) → nat_lt 0 (suc n) ≡ true
some_more n = by_test (nat_lt 0 (suc n)) refl
  where
    by_test : (b : Bool) → nat_lt 0 (suc n) ≡ b → b ≡ true
    by_test true f = refl
    by_test false f = let above = ltb-false 0 (suc n) f in absurd (omega (arith, above))

-- one that is told goes behind the others, and takes a place
told_one : {X Y : Type 0} (f : X → Y) (left : ℕ) (x : X) (rest : List X) (done : List Y) →
    (done ++ f x ∷ []) ++ map f (take left rest) ≡ done ++ map f (take (suc left) (x ∷ rest))
told_one f left x rest done = append_assoc done (f x ∷ []) (map f (take left rest))

more_than : {X : Type 0} (left : ℕ) (x : X) (rest : List X) → nat_lt left (length rest) ≡ nat_lt (suc left) (length (x ∷ rest))
more_than left x rest = by_tests (nat_lt left (length rest)) (nat_lt (suc left) (length (x ∷ rest))) refl refl
  where
    by_tests : (a b : Bool) → nat_lt left (length rest) ≡ a → nat_lt (suc left) (length (x ∷ rest)) ≡ b → a ≡ b
    by_tests true true f g = refl
    by_tests false false f g = refl
    by_tests true false f g =
        let below = ltb-true left (length rest) f in
        let above = ltb-false (suc left) (length (x ∷ rest)) g in
        absurd (omega (arith, below, above))
    by_tests false true f g =
        let above = ltb-false left (length rest) f in
        let below = ltb-true (suc left) (length (x ∷ rest)) g in
        absurd (omega (arith, below, above))

pub loop-detected-init : goal.loop-detected-init
loop-detected-init c =
    let told = is_told c.args.last in
    let tell = summary_of c.args.self.now in
    let behind = c.behind_last-behind.result.now in
    let same : c.alarms.result.now ≡ c.args.self.now.alarms = c.alarms.ensures.alarms ∙ ap (λ (s : CoreState). s.alarms) c.self.view_is in
    let kept : filter told behind ≡ filter told c.args.self.now.alarms = subst (λ last. filter (is_told last) behind ≡ filter (is_told last) c.alarms.result.now) c.as_ref-last.ensures.value c.behind_last-behind.ensures.told ∙ ap (filter told) same in (
      ap (λ (front : List EventSummary). front ++ map tell (take (c.args.room / 61) (filter told behind))) c.new-summaries.ensures.items ∙ ap (λ items. map tell (take (c.args.room / 61) items)) kept,
      ap (λ items. nat_lt (c.args.room / 61) (length items)) kept,
    )

pub loop-detected-preserved-then-not-is_told : goal.loop-detected-preserved-then-not-is_told
loop-detected-preserved-then-not-is_told c =
    let alarms = c.behind_last-behind.result.now in
    let index = c.loop-detected.detected-index in
    let told = is_told c.args.last in
    let item = c.detected-item.result in
    let within : index < length alarms = c.loop-detected-test.true in
    let is : item ≡ get_or alarms index item = c.detected-item.is in
    let left = c.loop-detected.left in
    let active : told item ≡ false = ap (λ last. is_told last item) (sym c.as_ref-last.ensures.value) ∙ sym c.is_told.ensures.told ∙ c.if-not-is_told.true in
    let rest : filter told (drop index alarms) ≡ filter told (drop (index + 1) alarms) = passed_here told alarms index item within is active in (
      ap (λ items. c.loop-detected.summaries.items ++ map (summary_of c.args.self.now) (take left items)) (sym rest) ∙ c.loop-detected.invariant.0,
      ap (λ items. nat_lt left (length items)) (sym rest) ∙ c.loop-detected.invariant.1,
    )

pub loop-detected-preserved : goal.loop-detected-preserved
loop-detected-preserved c =
    let alarms = c.behind_last-behind.result.now in
    let index = c.loop-detected.detected-index in
    let told = is_told c.args.last in
    let item = c.detected-item.result in
    let within : index < length alarms = c.loop-detected-test.true in
    let is : item ≡ get_or alarms index item = c.detected-item.is in
    let left = c.loop-detected.left in
    let now = c.loop-detected.summaries.items in
    let tell = summary_of c.args.self.now in
    let rest = filter told (drop (index + 1) alarms) in
    let active : told item ≡ true = ap (λ last. is_told last item) (sym c.as_ref-last.ensures.value) ∙ sym c.is_told.ensures.told ∙ c.if-not-is_told.false in
    let room : left ≡ suc (left - 1) = omega arith in
    let here : filter told (drop index alarms) ≡ item ∷ rest = kept_here told alarms index item within is active in
    let added : c.push.new.items.items ≡ now ++ tell item ∷ [] = c.in_ok-push.ensures.added ∙ ap (λ (summary : EventSummary). now ++ summary ∷ []) c.summary_of.ensures.summary in (
      ap (λ items. items ++ map tell (take (left - 1) rest)) added
          ∙ (told_one tell (left - 1) item rest now
          ∙ (ap (λ n. now ++ map tell (take n (item ∷ rest))) (sym room)
          ∙ (ap (λ items. now ++ map tell (take left items)) (sym here)
          ∙ c.loop-detected.invariant.0))),
      more_than (left - 1) item rest ∙ (ap (λ n. nat_lt n (length (item ∷ rest))) (sym room)
          ∙ (ap (λ items. nat_lt left (length items)) (sym here) ∙ c.loop-detected.invariant.1)),
    )

pub returns-then-left-eq0 : goal.returns-then-left-eq0
returns-then-left-eq0 c =
    let alarms = c.behind_last-behind.result.now in
    let index = c.loop-detected.detected-index in
    let told = is_told c.args.last in
    let item = c.detected-item.result in
    let within : index < length alarms = c.loop-detected-test.true in
    let is : item ≡ get_or alarms index item = c.detected-item.is in
    let now = c.loop-detected.summaries.items in
    let active : told item ≡ true = ap (λ last. is_told last item) (sym c.as_ref-last.ensures.value) ∙ sym c.is_told.ensures.told ∙ c.if-not-is_told.false in
    let here : filter told (drop index alarms) ≡ item ∷ filter told (drop (index + 1) alarms) = kept_here told alarms index item within is active in
    record {
      summaries = sym (append-nil now) ∙ ap (λ n. now ++ map (summary_of c.args.self.now) (take n (filter told (drop index alarms)))) (sym c.if-left-eq0.true) ∙ c.loop-detected.invariant.0;
      more = sym (some_more (length (filter told (drop (index + 1) alarms)))) ∙ ap (λ items. nat_lt 0 (length items)) (sym here) ∙ ap (λ n. nat_lt n (length (filter told (drop index alarms)))) (sym c.if-left-eq0.true) ∙ c.loop-detected.invariant.1;
    }

pub returns-in_err-push : goal.returns-in_err-push
returns-in_err-push c = record {
  summaries = IfOk-from_err c.from_residual.result _ c.from_residual.ensures.0;
  more = IfOk-from_err c.from_residual.result _ c.from_residual.ensures.0;
}

pub returns : goal.returns
returns c =
    let alarms = c.behind_last-behind.result.now in
    let index = c.loop-detected.detected-index in
    let told = is_told c.args.last in
    let left = c.loop-detected.left in
    let now = c.loop-detected.summaries.items in
    let tell = summary_of c.args.self.now in
    let none : drop index alarms ≡ [] = drop_all index alarms c.loop-detected-test.false in
    record {
      summaries = sym (none_left tell left now) ∙ ap (λ items. now ++ map tell (take left (filter told items))) (sym none) ∙ c.loop-detected.invariant.0;
      more = sym (no_more left) ∙ ap (λ items. nat_lt left (length (filter told items))) (sym none) ∙ c.loop-detected.invariant.1;
    }

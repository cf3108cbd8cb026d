-- Who stands up to a place isn't told of behind it.
use Rattle.std.proofs.Common.{arith, ◌≡◌, ◌+◌, ℕ, zero, suc, ◌<◌, ◌≤◌, Bool, false, ◌&&◌, Some, Err, get_or, List, [], ◌∷◌, length, drop, refl, sym, ap, ◌∙◌, inl, inr}
use Rattle.std.specs.List.{filter}
use Rattle.std.specs.List.Sorted.{IsBinarySearchResult, IsSearchInRange}
use Rattle.std.specs.Ordering.{is_lt, ordering_index, ordering_reverse}
use Rattle.std.specs.declared.cmp.Ordering.{Ordering}
use Rattle.std.specs.declared.cmp.Ordering.TheVariants.{Less, Equal, Greater}
use Rattle.std.proofs.lemmas.Bool.Decides.{leb_tells}
use Rattle.std.proofs.lemmas.Cmp.{alike_right}
use Rattle.bac_values.specs.Identifier.{ObjectIdData}
use Rattle.bac_values.specs.Orders.{identifier_order}
use Rattle.bac_values.proofs.OrderLemmas.{identifiers_are_total, rises}
use Rattle.alarm_core.specs.DueSteps.{AscendByObject}
use Rattle.alarm_core.specs.Information.{is_active, is_told}
use Rattle.alarm_core.specs.State.{DetectedObjectState}
use Rattle.alarm_core.proofs.Places.{below}

no_more : (m n : ℕ) → m ≡ n → m ≤ n
no_more m n e = omega arith

-- those up to a place that don't pass are passed over
pub front_passed : {X : Type 0} (test : X → Bool) (xs : List X) (n : ℕ) → n ≤ length xs → ((k : ℕ) (d : X) → k < n → test (get_or xs k d) ≡ false) → filter test xs ≡ filter test (drop n xs)
front_passed test xs zero le none = refl
front_passed test [] (suc n) le none = refl
front_passed test (x ∷ xs) (suc n) le none =
    let first : test x ≡ false = none 0 x (omega arith) in
    let rest = front_passed test xs n (omega arith) (λ k d lt. none (suc k) d (omega arith)) in
    rw first rest

-- who is below the last one, or is it, isn't told behind it
module _ (last : ObjectIdData) where
  untold : (detected : DetectedObjectState) (o : Ordering) → identifier_order detected.object last ≡ o → is_lt (ordering_reverse o) ≡ false → is_told (Some last) detected ≡ false
  untold detected o e n = ap (λ b. b && is_active detected) (ap is_lt (identifiers_are_total.antisymm last detected.object ∙ ap ordering_reverse e) ∙ n)

  -- up to the place of the last one, and it too
  pub passed_through : (alarms : List DetectedObjectState) (place : ℕ) → AscendByObject alarms → place < length alarms → ((d : DetectedObjectState) → identifier_order (get_or alarms place d).object last ≡ Equal) →
      filter (is_told (Some last)) alarms ≡ filter (is_told (Some last)) (drop (place + 1) alarms)
  passed_through alarms place ascending within equal =
      front_passed (is_told (Some last)) alarms (place + 1) (omega arith) (λ k d low. elim (leb_tells (suc k) place) [
        | inl before ↦ untold (get_or alarms k d) Less (sym (alike_right identifiers_are_total (get_or alarms place d).object last (get_or alarms k d).object (equal d)) ∙ below alarms ascending k place d before.1 within) refl
        | inr after ↦ let past = after.1 in
            let here : place ≡ k = omega arith in
            untold (get_or alarms k d) Equal (sym (ap (λ n. identifier_order (get_or alarms n d).object last) here) ∙ equal d) refl
      ])

  -- up to the place at which it would stand
  pub passed_up_to : (alarms : List DetectedObjectState) (place : ℕ) → AscendByObject alarms → IsSearchInRange (Err place) (length alarms) → IsBinarySearchResult (λ detected. identifier_order detected.object last) alarms (Err place) →
      filter (is_told (Some last)) alarms ≡ filter (is_told (Some last)) (drop place alarms)
  passed_up_to alarms place ascending within parted =
      let point = parted (λ i j d low high. elim (leb_tells (suc i) j) [
        | inl before ↦ rises identifiers_are_total _ _ last (below alarms ascending i j d before.1 high)
        | inr same ↦ let after = same.1 in let e : i ≡ j = omega arith in no_more _ _ (ap (λ n. ordering_index (identifier_order (get_or alarms n d).object last)) e)
      ]) in
      front_passed (is_told (Some last)) alarms place within (λ k d low. untold (get_or alarms k d) Less (point.0 k d (omega arith) low) refl)

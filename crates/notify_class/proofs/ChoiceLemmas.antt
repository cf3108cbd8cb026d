-- The next recipient that is chosen, by the first element that passes the test of its window.
use Rattle.std.proofs.Common.{rules, arith, ◌≡◌, ◌↔◌, ℕ, suc, ◌+◌, ◌-◌, ◌<◌, ◌≤◌, Bool, true, false, true≢false, List, ◌∷◌, length, length-drop, drop, Option, Some, None, IsTrue, refl, sym, ap, ◌∙◌, inl, inr}
use Rattle.std.specs.List.{filter, slice_get, position_or_len, position}
use Rattle.std.specs.Option.{IfSome, IsSomeAnd, option_map}
use Rattle.std.proofs.lemmas.Bool.Decides.{leb_tells}
use Rattle.std.proofs.lemmas.Option.{slice_get_past}
use Rattle.bac_values.specs.declared.transition.Transition.{Transition}
use Rattle.civil_stamp.specs.LocalTime.{ZoneData}
use Rattle.notify_class.specs.Recipients.{DestinationData}
use Rattle.notify_class.specs.Windows.{IsInWindow, is_in_window}
use Rattle.notify_class.specs.Chosen.{IsChosenAt, IsNextChosen, GoesOn}
use Rattle.notify_class.proofs.Positions.{before, none_kept, first_kept, slice_get-drop, drop-drop}

window_tested : (recipient : DestinationData) (transition : Transition) (moment : ℕ) (zone : ZoneData) → IsTrue (is_in_window recipient transition moment zone) ↔ IsInWindow recipient transition moment zone
window_tested recipient transition moment zone = search rules

-- nothing both fails and passes
apart : {X : Type 0} (P Q : X → Type 0) → ((x : X) → P x → Q x → ⊥) → (o : Option X) → IfSome o P → IsSomeAnd o Q → ⊥
apart P Q never None a b = b
apart P Q never (Some x) a b = never x a b

one_of : {X : Type 0} (P Q : X → Type 0) → ((x : X) → P x → Q x) → (o : Option X) → IsSomeAnd o P → IsSomeAnd o Q
one_of P Q step None a = a
one_of P Q step (Some x) a = step x a

module _ (recipients : List DestinationData) (transition : Transition) (moment : ℕ) (zone : ZoneData) (from : ℕ) where
  abbrev test : DestinationData → Bool
  test recipient = is_in_window recipient transition moment zone

  abbrev rest : List DestinationData
  rest = drop from recipients

  abbrev first : ℕ
  first = position_or_len test rest

  outside : (recipient : DestinationData) → test recipient ≡ false → IsInWindow recipient transition moment zone → ⊥
  outside recipient fails inside = true≢false (sym ((window_tested recipient transition moment zone).1 inside) ∙ fails)

  at : (place : ℕ) → from ≤ place → slice_get rest (place - from) ≡ slice_get recipients place
  at place low =
      let back : from + (place - from) ≡ place = omega arith in
      slice_get-drop from (place - from) recipients ∙ ap (slice_get recipients) back

  not_before : (place : ℕ) → from ≤ place → place < from + first → IsChosenAt recipients transition moment zone place → ⊥
  not_before place low high =
      apart _ _ outside (slice_get recipients place) (rw (← at place low) (before test rest (place - from) (omega arith)))

  not_past : (place : ℕ) → from ≤ place → length rest ≤ place - from → IsChosenAt recipients transition moment zone place → ⊥
  not_past place low high is = let none = sym (at place low) ∙ slice_get_past rest (place - from) high in rw none at is

  none_chosen : length rest ≤ first → IsNextChosen recipients transition moment zone from None × GoesOn recipients transition moment zone from None
  none_chosen h = (
    λ place low. elim (leb_tells (length rest) (place - from)) [
      | inl past ↦ not_past place low past.1
      | inr within ↦ let less = within.1 in not_before place low (omega arith)
    ],
    none_kept test rest h,
  )

  abbrev IsFirst : DestinationData → Type 0
  IsFirst recipient = (test recipient ≡ true) × (filter test rest ≡ recipient ∷ filter test (drop (suc first) rest))

  next_chosen : first < length rest → IsNextChosen recipients transition moment zone from (Some (from + first)) × GoesOn recipients transition moment zone from (Some (from + first))
  next_chosen h =
      let there = slice_get-drop from first recipients in
      let found : IsSomeAnd (slice_get recipients (from + first)) IsFirst = rw (← there) (first_kept test rest h) in
      let further : from + suc first ≡ from + first + 1 = omega arith in
      let behind : drop (suc first) rest ≡ drop (from + first + 1) recipients = drop-drop from (suc first) recipients ∙ ap (λ n. drop n recipients) further in (
        (omega arith, one_of IsFirst _ (λ recipient kept. (window_tested recipient transition moment zone).0 kept.0) _ found, not_before),
        one_of IsFirst _ (λ recipient kept. kept.1 ∙ ap (λ xs. recipient ∷ filter test xs) behind) _ found,
      )

  -- what the position of the first that passes says
  pub chosen_by_position : (place : Option ℕ) → place ≡ option_map (λ k. from + k) (position test rest)
      → IsNextChosen recipients transition moment zone from place × GoesOn recipients transition moment zone from place
  chosen_by_position place e = elim (leb_tells (suc first) (length rest)) [
    | inl inside ↦ let is : place ≡ Some (from + first) = e ∙ rw inside.0 refl in rw is (next_chosen inside.1)
    | inr past ↦ let is : place ≡ None = e ∙ rw past.0 refl in let more = past.1 in rw is (none_chosen (omega arith))
  ]

  -- a place that is chosen is one of the list's
  pub chosen_within : (place : Option ℕ) → place ≡ option_map (λ k. from + k) (position test rest) → IfSome place (λ next. next < length recipients)
  chosen_within place e = elim (leb_tells (suc first) (length rest)) [
    | inl inside ↦
        let is : place ≡ Some (from + first) = e ∙ rw inside.0 refl in
        let less = inside.1 in
        let left = length-drop from recipients in
        rw is (omega arith)
    | inr past ↦ let is : place ≡ None = e ∙ rw past.0 refl in rw is tt
  ]

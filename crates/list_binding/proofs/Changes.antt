-- What adding and removing come to.
use Rattle.std.proofs.Common.{rules, ◌≡◌, ◌⊎◌, ℕ, suc, ◌+◌, ◌<◌, ◌≤◌, Bool, true, false, true≢false, not, ◌&&◌, Option, Some, None, [], ◌∷◌, ◌++◌, length, take, drop, get_or, Result, Ok, Err, refl, sym, ap, subst, ◌∙◌, append_assoc, append-nil, arith, inl, inr}
use Rattle.std.specs.Prelude.{position}
use Rattle.std.specs.List.{position_or_len}
use Rattle.std.proofs.lemmas.Bool.{cases_Bool, cases_lt, le-ltb, lt-ltb}
use Rattle.std.proofs.lemmas.List.{drop_all, drop_more, take_all, take_more}
use Rattle.std.proofs.lemmas.List.Sums.{fold-append}
use Rattle.bac_values.specs.Errors.{list_element_not_found_error, no_space_to_add_list_element_error}
use Rattle.bac_values.specs.declared.service_error.ServiceError.{ServiceError}
use Rattle.notify_class.specs.Edits.{edit_verdict}
use Rattle.notify_class.specs.declared.edit.EditFault.{EditFault}
use Rattle.list_binding.specs.Edits.{AddsTo, ChangesTo, EditAnswer, HasNoSpace, HasRoom, IsNotFound, LimitsData, RemovesTo, is_in, list_and, list_with, list_without}
use Rattle.list_binding.specs.EditSteps.{added_of, at_element, changed_of, first_failing, has_no_space, has_room, is_not_found, is_ok, removed_of, unless}
use Rattle.list_binding.proofs.Firsts.{Many, One, fails_first, fails_here, fails_later, fails_none, first_fails, no_more, none_fails}

-- ---- tests

both_true : (a b : Bool) → (a && b) ≡ true → (a ≡ true) × (b ≡ true)
both_true true b e = (refl, e)
both_true false b e = absurd cc

not_true : (a : Bool) → not a ≡ true → a ≡ false
not_true true e = absurd cc
not_true false e = refl

not_false : (a : Bool) → not a ≡ false → a ≡ true
not_false true e = refl
not_false false e = absurd cc

second_false : (a b : Bool) → (a && b) ≡ false → a ≡ true → b ≡ false
second_false true b e here = e
second_false false b e here = absurd cc

ok_is_so : (r : Result (Unit {0}) EditFault) → is_ok r ≡ true → r ≡ Ok tt
ok_is_so (Ok tt) e = refl
ok_is_so (Err fault) e = absurd cc

so_is_ok : (r : Result (Unit {0}) EditFault) → r ≡ Ok tt → is_ok r ≡ true
so_is_ok r e = ap is_ok e

module _ (limits : LimitsData) (list : Many) where
  abbrev verdict : Many → Result (Unit {0}) EditFault
  verdict left = edit_verdict limits.known left limits.members limits.room

  pub space_is : (before : Many) (element : One) → has_no_space limits list before element ≡ true → HasNoSpace limits list before element
  space_is before element e =
      let both = both_true (not (is_in (list_with list before) element)) (not (has_room limits (list_with list before ++ element ∷ []))) e in (
        not_true (is_in (list_with list before) element) both.0,
        λ room. true≢false (sym (so_is_ok (verdict (list_with list before ++ element ∷ [])) room) ∙ not_true (has_room limits (list_with list before ++ element ∷ [])) both.1),
      )

  pub space_is_not : (before : Many) (element : One) → has_no_space limits list before element ≡ false → ¬ HasNoSpace limits list before element
  space_is_not before element e h =
      let new : not (is_in (list_with list before) element) ≡ true = ap not h.0 in
      let room = not_false (has_room limits (list_with list before ++ element ∷ [])) (second_false (not (is_in (list_with list before) element)) (not (has_room limits (list_with list before ++ element ∷ []))) e new) in
      h.1 (ok_is_so (verdict (list_with list before ++ element ∷ [])) room)

  pub missing_is : (before : Many) (element : One) → is_not_found list before element ≡ true → IsNotFound list before element
  missing_is before element e = not_true (is_in list element) e

  pub missing_is_not : (before : Many) (element : One) → is_not_found list before element ≡ false → ¬ IsNotFound list before element
  missing_is_not before element e h = true≢false (sym (not_false (is_in list element) e) ∙ h)

  -- ---- what is told

  adds_told : (elements : Many) → AddsTo limits list elements (added_of limits list elements)
  adds_told elements = go (first_failing (has_no_space limits list) [] 1 elements) refl
    where
      go : (o : Option ℕ) → first_failing (has_no_space limits list) [] 1 elements ≡ o → AddsTo limits list elements (unless no_space_to_add_list_element_error o (list_with list elements))
      go None e = (refl, none_fails (has_no_space limits list) (HasNoSpace limits list) space_is space_is_not elements e)
      go (Some number) e = (refl, first_fails (has_no_space limits list) (HasNoSpace limits list) space_is space_is_not elements number e)

  adds_only : (elements : Many) (answer : EditAnswer) → AddsTo limits list elements answer → answer ≡ added_of limits list elements
  adds_only elements (Ok left) h =
      ap (λ (l : Many). Ok l) h.0 ∙ sym (ap (λ (o : Option ℕ). unless no_space_to_add_list_element_error o (list_with list elements)) (fails_none (has_no_space limits list) (HasNoSpace limits list) space_is space_is_not elements h.1))
  adds_only elements (Err refused) h =
      ap (λ (error : ServiceError). Err (at_element error refused.element)) h.0
      ∙ sym (ap (λ (o : Option ℕ). unless no_space_to_add_list_element_error o (list_with list elements)) (fails_first (has_no_space limits list) (HasNoSpace limits list) space_is space_is_not elements refused.element h.1))

  removes_told : (elements : Many) → RemovesTo list elements (removed_of list elements)
  removes_told elements = go (first_failing (is_not_found list) [] 1 elements) refl
    where
      go : (o : Option ℕ) → first_failing (is_not_found list) [] 1 elements ≡ o → RemovesTo list elements (unless list_element_not_found_error o (list_without list elements))
      go None e = (refl, none_fails (is_not_found list) (IsNotFound list) missing_is missing_is_not elements e)
      go (Some number) e = (refl, first_fails (is_not_found list) (IsNotFound list) missing_is missing_is_not elements number e)

  removes_only : (elements : Many) (answer : EditAnswer) → RemovesTo list elements answer → answer ≡ removed_of list elements
  removes_only elements (Ok left) h =
      ap (λ (l : Many). Ok l) h.0 ∙ sym (ap (λ (o : Option ℕ). unless list_element_not_found_error o (list_without list elements)) (fails_none (is_not_found list) (IsNotFound list) missing_is missing_is_not elements h.1))
  removes_only elements (Err refused) h =
      ap (λ (error : ServiceError). Err (at_element error refused.element)) h.0
      ∙ sym (ap (λ (o : Option ℕ). unless list_element_not_found_error o (list_without list elements)) (fails_first (is_not_found list) (IsNotFound list) missing_is missing_is_not elements refused.element h.1))

  pub changes_told : (adding : Bool) (elements : Many) → ChangesTo limits list adding elements (changed_of limits list adding elements)
  changes_told true elements = adds_told elements
  changes_told false elements = removes_told elements

  pub changes_only : (adding : Bool) (elements : Many) (answer : EditAnswer) → ChangesTo limits list adding elements answer → answer ≡ changed_of limits list adding elements
  changes_only true elements answer h = adds_only elements answer h
  changes_only false elements answer h = removes_only elements answer h

-- ---- the list, one element more

pub with_last : (list before : Many) (element : One) → list_with list (before ++ element ∷ []) ≡ list_and (list_with list before) element
with_last list before element = fold-append list_and list before (element ∷ [])

module _ (list before : Many) (element : One) where
  pub there : is_in (list_with list before) element ≡ true → list_with list (before ++ element ∷ []) ≡ list_with list before
  there e = with_last list before element ∙ rw e refl

  pub new : is_in (list_with list before) element ≡ false → list_with list (before ++ element ∷ []) ≡ list_with list before ++ element ∷ []
  new e = with_last list before element ∙ rw e refl

  -- whether it fails
  pub passes_there : (limits : LimitsData) → is_in (list_with list before) element ≡ true → has_no_space limits list before element ≡ false
  passes_there limits e = rw e refl

  pub fails_where : (limits : LimitsData) (left : Many) → is_in (list_with list before) element ≡ false → left ≡ list_with list before ++ element ∷ [] → has_room limits left ≡ false → has_no_space limits list before element ≡ true
  fails_where limits left e same room =
      let full : has_room limits (list_with list before ++ element ∷ []) ≡ false = ap (has_room limits) (sym same) ∙ room in
      rw (e, full) refl

  pub passes_where : (limits : LimitsData) (left : Many) → is_in (list_with list before) element ≡ false → left ≡ list_with list before ++ element ∷ [] → has_room limits left ≡ true → has_no_space limits list before element ≡ false
  passes_where limits left e same room =
      let free : has_room limits (list_with list before ++ element ∷ []) ≡ true = ap (has_room limits) (sym same) ∙ room in
      rw (e, free) refl

-- a list that grew is within its limits
abbrev IsKept : LimitsData → Many → Many → Type 0
IsKept limits list left = (left ≡ list) ⊎ HasRoom limits left

kept_on : (limits : LimitsData) (list before : Many) (number : ℕ) (elements : Many) → first_failing (has_no_space limits list) before number elements ≡ None → IsKept limits list (list_with list before) → IsKept limits list (list_with list (before ++ elements))
kept_on limits list before number [] none h = subst (λ (o : Many). IsKept limits list (list_with list o)) (sym (append-nil before)) h
kept_on limits list before number (x ∷ xs) none h =
    subst (λ (o : Many). IsKept limits list (list_with list o)) (append_assoc before (x ∷ []) xs) (kept_on limits list (before ++ x ∷ []) (suc number) xs later one)
  where
    passes : has_no_space limits list before x ≡ false
    passes =
        elim (cases_Bool (has_no_space limits list before x)) [
          | inl hit ↦ absurd (let bad = sym (fails_here (has_no_space limits list) before number x xs hit) ∙ none in cc)
          | inr miss ↦ miss
        ]

    later : first_failing (has_no_space limits list) (before ++ x ∷ []) (suc number) xs ≡ None
    later = sym (fails_later (has_no_space limits list) before number x xs passes) ∙ none

    one : IsKept limits list (list_with list (before ++ x ∷ []))
    one =
        elim (cases_Bool (is_in (list_with list before) x)) [
          | inl hit ↦ subst (IsKept limits list) (sym (there list before x hit)) h
          | inr miss ↦
              let absent : not (is_in (list_with list before) x) ≡ true = ap not miss in
              let room = not_false (has_room limits (list_with list before ++ x ∷ [])) (second_false (not (is_in (list_with list before) x)) (not (has_room limits (list_with list before ++ x ∷ []))) passes absent) in
              subst (IsKept limits list) (sym (new list before x miss)) (inr (ok_is_so (edit_verdict limits.known (list_with list before ++ x ∷ []) limits.members limits.room) room))
        ]

pub added_kept : (limits : LimitsData) (list elements left : Many) → added_of limits list elements ≡ Ok left → IsKept limits list left
added_kept limits list elements left e = go (first_failing (has_no_space limits list) [] 1 elements) refl e
  where
    go : (o : Option ℕ) → first_failing (has_no_space limits list) [] 1 elements ≡ o → unless no_space_to_add_list_element_error o (list_with list elements) ≡ Ok left → IsKept limits list left
    go None none e = let same : list_with list elements ≡ left = cc in subst (IsKept limits list) same (kept_on limits list [] 1 elements none (inl refl))
    go (Some number) found e = absurd cc

pub removed_is : (list elements left : Many) → removed_of list elements ≡ Ok left → left ≡ list_without list elements
removed_is list elements left e = go (first_failing (is_not_found list) [] 1 elements) e
  where
    go : (o : Option ℕ) → unless list_element_not_found_error o (list_without list elements) ≡ Ok left → left ≡ list_without list elements
    go None e = cc
    go (Some number) e = absurd cc

-- ---- one element more

-- what is added so far, and that none of the elements failed
pub record Goes (limits : LimitsData) (list elements left : Many) (place : ℕ) : Type 0 where
  pub list_is : left ≡ list_with list (take place elements)
  pub passed : first_failing (has_no_space limits list) [] 1 elements ≡ first_failing (has_no_space limits list) (take place elements) (place + 1) (drop place elements)

module _ (limits : LimitsData) (list elements so_far : Many) (place : ℕ) (element : One) (within : place < length elements) (is : element ≡ get_or elements place element) (goes : Goes limits list elements so_far place) where
  front : Many
  front = take place elements

  longer : take (place + 1) elements ≡ take place elements ++ element ∷ []
  longer = take_more elements place element within ∙ ap (λ (it : One). take place elements ++ it ∷ []) (sym is)

  rest : drop place elements ≡ element ∷ drop (place + 1) elements
  rest = drop_more elements place element within ∙ ap (λ (it : One). it ∷ drop (place + 1) elements) (sym is)

  on : has_no_space limits list (take place elements) element ≡ false → first_failing (has_no_space limits list) [] 1 elements ≡ first_failing (has_no_space limits list) (take (place + 1) elements) (place + 1 + 1) (drop (place + 1) elements)
  on passes =
      let next : suc (place + 1) ≡ place + 1 + 1 = omega arith in
      goes.passed
      ∙ (ap (first_failing (has_no_space limits list) (take place elements) (place + 1)) rest
      ∙ (fails_later (has_no_space limits list) (take place elements) (place + 1) element (drop (place + 1) elements) passes
      ∙ (ap (λ (before : Many). first_failing (has_no_space limits list) before (suc (place + 1)) (drop (place + 1) elements)) (sym longer)
      ∙ ap (λ (n : ℕ). first_failing (has_no_space limits list) (take (place + 1) elements) n (drop (place + 1) elements)) next)))

  in_list : (b : Bool) → is_in so_far element ≡ b → is_in (list_with list (take place elements)) element ≡ b
  in_list b e = ap (λ (l : Many). is_in l element) (sym goes.list_is) ∙ e

  grown : (left : Many) → left ≡ so_far ++ element ∷ [] → left ≡ list_with list (take place elements) ++ element ∷ []
  grown left e = e ∙ ap (λ (l : Many). l ++ element ∷ []) goes.list_is

  pub goes_there : is_in so_far element ≡ true → Goes limits list elements so_far (place + 1)
  goes_there e =
      let here = in_list true e in
      record {
        list_is = goes.list_is ∙ (sym (there list (take place elements) element here) ∙ ap (list_with list) (sym longer));
        passed = on (passes_there list (take place elements) element limits here);
      }

  pub goes_on : (left : Many) → is_in so_far element ≡ false → left ≡ so_far ++ element ∷ [] → has_room limits left ≡ true → Goes limits list elements left (place + 1)
  goes_on left e same room =
      let here = in_list false e in
      record {
        list_is = grown left same ∙ (sym (new list (take place elements) element here) ∙ ap (list_with list) (sym longer));
        passed = on (passes_where list (take place elements) element limits left here (grown left same) room);
      }

  pub stops : (left : Many) → is_in so_far element ≡ false → left ≡ so_far ++ element ∷ [] → has_room limits left ≡ false → added_of limits list elements ≡ Err (at_element no_space_to_add_list_element_error (place + 1))
  stops left e same room =
      let here = in_list false e in
      ap (λ (o : Option ℕ). unless no_space_to_add_list_element_error o (list_with list elements))
      (goes.passed
      ∙ (ap (first_failing (has_no_space limits list) (take place elements) (place + 1)) rest
      ∙ fails_here (has_no_space limits list) (take place elements) (place + 1) element (drop (place + 1) elements) (fails_where list (take place elements) element limits left here (grown left same) room)))

-- at the first place nothing is added, and at the last all
pub begins : (limits : LimitsData) (list elements left : Many) → left ≡ list → Goes limits list elements left 0
begins limits list elements left e = record { list_is = e; passed = refl }

pub ends : (limits : LimitsData) (list elements left : Many) (place : ℕ) → length elements ≤ place → Goes limits list elements left place → added_of limits list elements ≡ Ok left
ends limits list elements left place past goes =
    let all : take place elements ≡ elements = take_all place elements past in
    let none : first_failing (has_no_space limits list) [] 1 elements ≡ None =
    goes.passed ∙ (ap (first_failing (has_no_space limits list) (take place elements) (place + 1)) (drop_all place elements past) ∙ no_more (has_no_space limits list) (take place elements) (place + 1)) in
    ap (λ (o : Option ℕ). unless no_space_to_add_list_element_error o (list_with list elements)) none ∙ ap (λ (l : Many). Ok l) (sym (goes.list_is ∙ ap (list_with list) all))

-- ---- the first that isn't in the list, by its place

module _ (q : One → Bool) where
  abbrev by_itself : Many → One → Bool
  by_itself before element = q element

  here_first : (x : One) (xs : Many) → q x ≡ true → position_or_len q (x ∷ xs) ≡ 0
  here_first x xs e = rw e refl

  there_first : (x : One) (xs : Many) → q x ≡ false → position_or_len q (x ∷ xs) ≡ suc (position_or_len q xs)
  there_first x xs e = rw e (search rules)

  some_first : (before : Many) (number : ℕ) (xs : Many) → position_or_len q xs < length xs → first_failing by_itself before number xs ≡ Some (number + position_or_len q xs)
  some_first before number [] lt = absurd (omega (arith, lt))
  some_first before number (x ∷ xs) lt =
      elim (cases_Bool (q x)) [
        | inl hit ↦
            let zero_is = here_first x xs hit in
            let same : number ≡ number + position_or_len q (x ∷ xs) = omega (arith, zero_is) in
            fails_here by_itself before number x xs hit ∙ ap (λ (n : ℕ). Some n) same
        | inr miss ↦
            let one_is = there_first x xs miss in
            let same : suc number + position_or_len q xs ≡ number + position_or_len q (x ∷ xs) = omega (arith, one_is) in
            fails_later by_itself before number x xs miss ∙ (some_first (before ++ x ∷ []) (suc number) xs (omega (arith, lt, one_is)) ∙ ap (λ (n : ℕ). Some n) same)
      ]

  none_first : (before : Many) (number : ℕ) (xs : Many) → length xs ≤ position_or_len q xs → first_failing by_itself before number xs ≡ None
  none_first before number [] le = no_more by_itself before number
  none_first before number (x ∷ xs) le =
      elim (cases_Bool (q x)) [
        | inl hit ↦ let zero_is = here_first x xs hit in absurd (omega (arith, le, zero_is))
        | inr miss ↦ let one_is = there_first x xs miss in fails_later by_itself before number x xs miss ∙ none_first (before ++ x ∷ []) (suc number) xs (omega (arith, le, one_is))
      ]

  some_place : (xs : Many) (place : ℕ) → position q xs ≡ Some place → (position_or_len q xs < length xs) × (position_or_len q xs ≡ place)
  some_place xs place e =
      elim (cases_lt (position_or_len q xs) (length xs)) [
        | inl lt ↦ (lt, let both : Some (position_or_len q xs) ≡ Some place = sym (is_there lt) ∙ e in cc)
        | inr ge ↦ absurd (let bad = sym (is_absent ge) ∙ e in cc)
      ]
    where
      is_there : position_or_len q xs < length xs → position q xs ≡ Some (position_or_len q xs)
      is_there lt = rw (lt-ltb (position_or_len q xs) (length xs) lt) refl

      is_absent : length xs ≤ position_or_len q xs → position q xs ≡ None
      is_absent ge = rw (le-ltb (position_or_len q xs) (length xs) ge) refl

  no_place : (xs : Many) → position q xs ≡ None → length xs ≤ position_or_len q xs
  no_place xs e =
      elim (cases_lt (position_or_len q xs) (length xs)) [
        | inl lt ↦ absurd (let there : position q xs ≡ Some (position_or_len q xs) = rw (lt-ltb (position_or_len q xs) (length xs) lt) refl in let bad = sym there ∙ e in cc)
        | inr ge ↦ ge
      ]

pub refused_at : (list elements : Many) (place : ℕ) → position (λ (element : One). not (is_in list element)) elements ≡ Some place → removed_of list elements ≡ Err (at_element list_element_not_found_error (place + 1))
refused_at list elements place e =
    let h = some_place (λ (element : One). not (is_in list element)) elements place e in
    let same : 1 + position_or_len (λ (element : One). not (is_in list element)) elements ≡ place + 1 = omega (arith, h.1) in
    ap (λ (o : Option ℕ). unless list_element_not_found_error o (list_without list elements))
    (some_first (λ (element : One). not (is_in list element)) [] 1 elements h.0 ∙ ap (λ (n : ℕ). Some n) same)

pub removed_at : (list elements : Many) → position (λ (element : One). not (is_in list element)) elements ≡ None → removed_of list elements ≡ Ok (list_without list elements)
removed_at list elements e =
    ap (λ (o : Option ℕ). unless list_element_not_found_error o (list_without list elements))
    (none_first (λ (element : One). not (is_in list element)) [] 1 elements (no_place (λ (element : One). not (is_in list element)) elements e))

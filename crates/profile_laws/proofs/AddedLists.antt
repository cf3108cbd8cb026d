-- A list without the elements that were added to it is the list before, where none of them was in it.
use Rattle.std.proofs.Common.{◌≡◌, Bool, true, false, true≢false, not, ◌||◌, List, [], ◌∷◌, ◌++◌, refl, sym, ap, subst, ◌∙◌, append-nil, inl, inr}
use Rattle.std.specs.List.{All, filter}
use Rattle.std.proofs.lemmas.Bool.{cases_Bool}
use Rattle.std.proofs.lemmas.List.Elements.{All-cons, All-head, All-nil, All-tail, All-weaker}
use Rattle.std.proofs.lemmas.List.Folds.{list_any-append}
use Rattle.notify_class.specs.Recipients.{DestinationData}
use Rattle.list_binding.specs.Edits.{IsNotFound, NoneFails, is_equal, is_in, list_and, list_with, list_without}
use Rattle.list_binding.proofs.SameLists.{equal_decides, equal_itself}

abbrev pub One : Type 0
One = DestinationData

abbrev pub Many : Type 0
Many = List DestinationData

-- all of some elements are in a list
abbrev pub AreIn : Many → Many → Type 0
AreIn list elements = All (λ element. is_in list element ≡ true) elements

or_true : (a b : Bool) → b ≡ true → (a || b) ≡ true
or_true true b e = refl
or_true false b e = e

first_true : (a b : Bool) → a ≡ true → (a || b) ≡ true
first_true true b e = refl
first_true false b e = absurd cc

-- ---- what is in a list

in_longer : (list : Many) (element one : One) → is_in list one ≡ true → is_in (list ++ element ∷ []) one ≡ true
in_longer list element one e = list_any-append (is_equal one) list (element ∷ []) ∙ first_true (is_in list one) (is_in (element ∷ []) one) e

in_at_end : (list : Many) (element : One) → is_in (list ++ element ∷ []) element ≡ true
in_at_end list element =
    list_any-append (is_equal element) list (element ∷ []) ∙ or_true (is_in list element) (is_in (element ∷ []) element) (first_true (is_equal element element) false (equal_itself element))

stays_in : (list : Many) (element one : One) → is_in list one ≡ true → is_in (list_and list element) one ≡ true
stays_in list element one e =
    elim (cases_Bool (is_in list element)) [
      | inl there ↦ rw there e
      | inr new ↦ rw new (in_longer list element one e)
    ]

is_added : (list : Many) (element : One) → is_in (list_and list element) element ≡ true
is_added list element =
    elim (cases_Bool (is_in list element)) [
      | inl there ↦ rw there there
      | inr new ↦ rw new (in_at_end list element)
    ]

stay_in : (elements list : Many) (one : One) → is_in list one ≡ true → is_in (list_with list elements) one ≡ true
stay_in [] list one e = e
stay_in (element ∷ elements) list one e = stay_in elements (list_and list element) one (stays_in list element one e)

pub are_added : (elements list : Many) → AreIn (list_with list elements) elements
are_added [] list = All-nil (λ element. is_in list element ≡ true)
are_added (element ∷ elements) list =
    let all = list_with (list_and list element) elements in
    All-cons (λ one. is_in all one ≡ true) element elements (stay_in elements (list_and list element) element (is_added list element)) (are_added elements (list_and list element))

in_itself : (elements : Many) → AreIn elements elements
in_itself [] = All-nil (λ element. is_in [] element ≡ true)
in_itself (element ∷ elements) =
    All-cons (λ one. is_in (element ∷ elements) one ≡ true) element elements (first_true (is_equal element element) (is_in elements element) (equal_itself element))
    (All-weaker (λ one. is_in elements one ≡ true) (λ one. is_in (element ∷ elements) one ≡ true) (λ one e. or_true (is_equal one element) (is_in elements one) e) elements (in_itself elements))

-- ---- what is left of it

filter-append : (test : One → Bool) (list others : Many) → filter test (list ++ others) ≡ filter test list ++ filter test others
filter-append test [] others = refl
filter-append test (one ∷ list) others =
    elim (cases_Bool (test one)) [
      | inl stays ↦ rw stays (ap (λ (xs : Many). one ∷ xs) (filter-append test list others))
      | inr goes ↦ rw goes (filter-append test list others)
    ]

filter-all : (test : One → Bool) (list : Many) → All (λ one. test one ≡ true) list → filter test list ≡ list
filter-all test [] all = refl
filter-all test (one ∷ list) all = rw (All-head (λ one. test one ≡ true) one list all) (ap (λ (xs : Many). one ∷ xs) (filter-all test list (All-tail (λ one. test one ≡ true) one list all)))

one_goes : (all list : Many) (element : One) → is_in all element ≡ true → list_without (list ++ element ∷ []) all ≡ list_without list all
one_goes all list element e =
    let test : One → Bool = λ one. not (is_in all one) in
    let none : filter test (element ∷ []) ≡ [] = rw e refl in
    filter-append test list (element ∷ []) ∙ ap (λ (xs : Many). filter test list ++ xs) none ∙ append-nil (filter test list)

added_goes : (all list : Many) (element : One) → is_in all element ≡ true → list_without (list_and list element) all ≡ list_without list all
added_goes all list element e =
    elim (cases_Bool (is_in list element)) [
      | inl there ↦ rw there refl
      | inr new ↦ rw new (one_goes all list element e)
    ]

all_go : (elements all list : Many) → AreIn all elements → list_without (list_with list elements) all ≡ list_without list all
all_go [] all list are = refl
all_go (element ∷ elements) all list are =
    all_go elements all (list_and list element) (All-tail (λ one. is_in all one ≡ true) element elements are) ∙ added_goes all list element (All-head (λ one. is_in all one ≡ true) element elements are)

second_false : (a b : Bool) → (a || b) ≡ false → (a ≡ false) × (b ≡ false)
second_false true b e = absurd cc
second_false false b e = (refl, e)

turned : (one other : One) → is_equal one other ≡ false → is_equal other one ≡ false
turned one other e =
    elim (cases_Bool (is_equal other one)) [
      | inl same ↦ absurd (true≢false (sym ((equal_decides one other).1 (sym ((equal_decides other one).0 same))) ∙ e))
      | inr differs ↦ differs
    ]

-- an element that isn't in a list equals none of it
differ : (list : Many) (element : One) → is_in list element ≡ false → All (λ one. is_equal one element ≡ false) list
differ [] element e = All-nil (λ one. is_equal one element ≡ false)
differ (one ∷ list) element e =
    let parts = second_false (is_equal element one) (is_in list element) e in
    All-cons (λ other. is_equal other element ≡ false) one list (turned element one parts.0) (differ list element parts.1)

both_false : (a b : Bool) → a ≡ false → b ≡ false → (a || b) ≡ false
both_false true b e f = absurd cc
both_false false b e f = f

zip_false : (list elements : Many) (element : One) → All (λ one. is_equal one element ≡ false) list → All (λ one. is_in elements one ≡ false) list → All (λ one. is_in (element ∷ elements) one ≡ false) list
zip_false [] elements element a b = All-nil (λ one. is_in (element ∷ elements) one ≡ false)
zip_false (one ∷ list) elements element a b =
    All-cons (λ other. is_in (element ∷ elements) other ≡ false) one list
    (both_false (is_equal one element) (is_in elements one) (All-head (λ other. is_equal other element ≡ false) one list a) (All-head (λ other. is_in elements other ≡ false) one list b))
    (zip_false list elements element (All-tail (λ other. is_equal other element ≡ false) one list a) (All-tail (λ other. is_in elements other ≡ false) one list b))

none_of : (list : Many) → All (λ one. is_in [] one ≡ false) list
none_of [] = All-nil (λ one. is_in [] one ≡ false)
none_of (one ∷ list) = All-cons (λ other. is_in [] other ≡ false) one list refl (none_of list)

none_in : (elements list : Many) → All (λ element. is_in list element ≡ false) elements → All (λ one. is_in elements one ≡ false) list
none_in [] list are = none_of list
none_in (element ∷ elements) list are =
    zip_false list elements element (differ list element (All-head (λ e. is_in list e ≡ false) element elements are)) (none_in elements list (All-tail (λ e. is_in list e ≡ false) element elements are))

pub as_before : (elements list : Many) → All (λ element. is_in list element ≡ false) elements → list_without (list_with list elements) elements ≡ list
as_before elements list are =
    all_go elements elements list (in_itself elements)
    ∙ filter-all (λ one. not (is_in elements one)) list (All-weaker (λ one. is_in elements one ≡ false) (λ one. not (is_in elements one) ≡ true) (λ one e. ap not e) list (none_in elements list are))

-- ---- each is found

at_place : (list before : Many) (element : One) (later : Many) → AreIn list (before ++ element ∷ later) → is_in list element ≡ true
at_place list [] element later are = All-head (λ e. is_in list e ≡ true) element later are
at_place list (one ∷ before) element later are = at_place list before element later (All-tail (λ e. is_in list e ≡ true) one (before ++ element ∷ later) are)

pub each_found : (list elements : Many) → AreIn list elements → NoneFails (IsNotFound list) elements
each_found list elements are before element later parts missing =
    true≢false (sym (at_place list before element later (subst (AreIn list) parts are)) ∙ missing)

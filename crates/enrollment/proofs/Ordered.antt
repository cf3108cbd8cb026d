-- References in the order of what they refer to: a stretch of them is to one object.
use Rattle.std.proofs.Common.{arith, ◌≡◌, ℕ, zero, suc, ◌-◌, ◌<◌, ◌≤◌, Bool, true, false, true≢false, cond, if◌then◌else◌, List, [], ◌∷◌, length, map, take, drop, get_or, refl, sym, ap, ap₂, ◌∙◌, inl, inr, not, ◌&&◌}
use Rattle.std.specs.List.{filter}
use Rattle.std.specs.List.Sorted.{IsPartitionPoint, IsPartitionedBy, IsSortedByKey, IsStableByKey, ties}
use Rattle.std.specs.Ordering.{is_le, is_lt}
use Rattle.std.proofs.lemmas.Bool.{cond-false}
use Rattle.std.proofs.lemmas.Bool.Decides.{leb_tells, nat_tests}
use Rattle.std.proofs.lemmas.List.{drop-map, take-map}
use Rattle.std.proofs.lemmas.List.Elements.{filter_agree}
use Rattle.std.proofs.lemmas.List.Sorted.{ranks_by, sorted_far}
use Rattle.bac_values.specs.Identifier.{ObjectIdData}
use Rattle.bac_values.specs.Orders.{identifier_order}
use Rattle.bac_values.proofs.OrderLemmas.{identifiers_are_total}
use Rattle.object_table.specs.Rows.{is_object}
use Rattle.enrollment.specs.declared.references.Reference.{Reference}
use Rattle.enrollment.specs.References.{in_order as references_in_order, is_below, is_to, is_up_to, placed, referred_by, watcher_of, watchers_in}

-- identifiers of which neither is below the other are one
ties_are_one : (a b : ObjectIdData) → (not (is_lt (identifier_order a b)) && not (is_lt (identifier_order b a))) ≡ is_object a b
ties_are_one a b = grind (arith, nat_tests)

-- a stable sort leaves those to an object as they were
sorted_stretch : (object : ObjectIdData) (xs ys : List Reference) → IsStableByKey referred_by identifier_order xs ys → filter (is_to object) ys ≡ filter (is_to object) xs
sorted_stretch object xs ys stable =
    let one : Reference = record { referred = object; watcher = object } in
    sym (filter_agree (ties (λ x y. is_lt (identifier_order (referred_by x) (referred_by y))) one) (is_to object) (λ r. ties_are_one object r.referred) ys)
    ∙ (stable one
    ∙ filter_agree (ties (λ x y. is_lt (identifier_order (referred_by x) (referred_by y))) one) (is_to object) (λ r. ties_are_one object r.referred) xs)

-- what isn't above an identifier is below whatever this one is below
below_down : (a b object : ObjectIdData) → is_lt (identifier_order b a) ≡ false → is_lt (identifier_order b object) ≡ true → is_lt (identifier_order a object) ≡ true
below_down a b object h below = grind (arith, nat_tests)

up_to_down : (a b object : ObjectIdData) → is_lt (identifier_order b a) ≡ false → is_le (identifier_order b object) ≡ true → is_le (identifier_order a object) ≡ true
up_to_down a b object h below = grind (arith, nat_tests)

module _ (object : ObjectIdData) (references : List Reference) (ascending : IsSortedByKey referred_by identifier_order references) where
  pub parted_below : IsPartitionedBy (is_below object) references
  parted_below i j d le high below =
      below_down _ _ object (sorted_far (λ x y. is_lt (identifier_order (referred_by x) (referred_by y))) (ranks_by identifiers_are_total referred_by) references ascending i j d le high) below

  pub parted_up_to : IsPartitionedBy (is_up_to object) references
  parted_up_to i j d le high up_to =
      up_to_down _ _ object (sorted_far (λ x y. is_lt (identifier_order (referred_by x) (referred_by y))) (ranks_by identifiers_are_total referred_by) references ascending i j d le high) up_to

-- a list whose elements up to a place alone pass a test
filter_none : {X : Type 0} (p : X → Bool) (xs : List X) → ((k : ℕ) (d : X) → k < length xs → p (get_or xs k d) ≡ false) → filter p xs ≡ []
filter_none p [] h = refl
filter_none p (x ∷ xs) h =
    let first : p x ≡ false = h 0 x (omega arith) in
    let rest = filter_none p xs (λ k d low. h (suc k) d (omega arith)) in
    rw (first, rest) refl

filter_front : {X : Type 0} (p : X → Bool) (xs : List X) (end : ℕ) → end ≤ length xs → ((k : ℕ) (d : X) → k < end → p (get_or xs k d) ≡ true) → ((k : ℕ) (d : X) → end ≤ k → k < length xs → p (get_or xs k d) ≡ false) → filter p xs ≡ take end xs
filter_front p xs zero within front back = filter_none p xs (λ k d low. back k d (omega arith) low)
filter_front p [] (suc end) within front back = absurd (omega (arith, within))
filter_front p (x ∷ xs) (suc end) within front back =
    let first : p x ≡ true = front 0 x (omega arith) in
    let rest = filter_front p xs end (omega (arith, within)) (λ k d low. front (suc k) d (omega arith)) (λ k d high low. back (suc k) d (omega arith) (omega arith)) in
    rw (first, rest) refl

-- a list whose elements from one place up to another alone pass a test
filter_range : {X : Type 0} (p : X → Bool) (xs : List X) (start end : ℕ) → start ≤ end → end ≤ length xs → ((k : ℕ) (d : X) → k < start → p (get_or xs k d) ≡ false) → ((k : ℕ) (d : X) → start ≤ k → k < end → p (get_or xs k d) ≡ true) → ((k : ℕ) (d : X) → end ≤ k → k < length xs → p (get_or xs k d) ≡ false) → filter p xs ≡ take (end - start) (drop start xs)
filter_range p xs zero end order within before here after =
    let e : end - 0 ≡ end = omega arith in
    rw e (filter_front p xs end within (λ k d low. here k d (omega arith) low) after)
filter_range p [] (suc start) end order within before here after = absurd (omega (arith, order, within))
filter_range p (x ∷ xs) (suc start) zero order within before here after = absurd (omega (arith, order))
filter_range p (x ∷ xs) (suc start) (suc end) order within before here after =
    let first : p x ≡ false = before 0 x (omega arith) in
    let e : suc end - suc start ≡ end - start = omega arith in
    let rest = filter_range p xs start end (omega (arith, order)) (omega (arith, within)) (λ k d low. before (suc k) d (omega arith)) (λ k d high low. here (suc k) d (omega arith) (omega arith)) (λ k d high low. after (suc k) d (omega arith) (omega arith)) in
    rw (first, e) rest

below_is_up_to : (a object : ObjectIdData) → is_lt (identifier_order a object) ≡ true → is_le (identifier_order a object) ≡ true
below_is_up_to a object h = grind (arith, nat_tests)

below_is_other : (a object : ObjectIdData) → is_lt (identifier_order a object) ≡ true → is_object object a ≡ false
below_is_other a object h = grind (arith, nat_tests)

between_is_one : (a object : ObjectIdData) → is_lt (identifier_order a object) ≡ false → is_le (identifier_order a object) ≡ true → is_object object a ≡ true
between_is_one a object h g = grind (arith, nat_tests)

above_is_other : (a object : ObjectIdData) → is_le (identifier_order a object) ≡ false → is_object object a ≡ false
above_is_other a object h = grind (arith, nat_tests)

module _ (object : ObjectIdData) (references : List Reference) (start end : ℕ)
    (from : IsPartitionPoint (λ r. is_below object r ≡ true) (λ r. is_below object r ≡ false) references start)
    (upto : IsPartitionPoint (λ r. is_up_to object r ≡ true) (λ r. is_up_to object r ≡ false) references end)
    (within_start : start ≤ length references) (within_end : end ≤ length references) where
  -- the stretch begins where it ends, or before
  pub in_order : start ≤ end
  in_order = elim (leb_tells start end) [
    | inl le ↦ le.1
    | inr gt ↦
        let past = gt.1 in
        let one : Reference = record { referred = object; watcher = object } in
        let below = below_is_up_to _ object (from.0 end one (omega arith) (omega arith)) in
        absurd (true≢false (sym below ∙ upto.1 end one (omega arith) (omega (arith, within_start))))
  ]

  pub stretch : filter (is_to object) references ≡ take (end - start) (drop start references)
  stretch = filter_range (is_to object) references start end in_order within_end
      (λ k d low. below_is_other _ object (from.0 k d (omega arith) low))
      (λ k d high low. between_is_one _ object (from.1 k d high (omega (arith, within_end))) (upto.0 k d (omega arith) low))
      (λ k d high low. above_is_other _ object (upto.1 k d high low))

-- the watchers of a stretch of references are a stretch of the watchers
pub watchers_of_stretch : (object : ObjectIdData) (references : List Reference) (watchers : List ObjectIdData) (start end : ℕ) → watchers ≡ map watcher_of references → filter (is_to object) references ≡ take (end - start) (drop start references) → take (end - start) (drop start watchers) ≡ watchers_in object references
watchers_of_stretch object references watchers start end all is =
    ap (λ ws. take (end - start) (drop start ws)) all
    ∙ (ap (take (end - start)) (drop-map watcher_of start references)
    ∙ (take-map watcher_of (end - start) (drop start references)
    ∙ ap (map watcher_of) (sym is)))

pub as_many : (references : List Reference) (watchers : List ObjectIdData) → watchers ≡ map watcher_of references → length watchers ≡ length references
as_many references watchers all = ap length all ∙ sizes references
  where
    sizes : (rs : List Reference) → length (map watcher_of rs) ≡ length rs
    sizes [] = refl
    sizes (r ∷ rs) = ap suc (sizes rs)

-- ---- references in order are told by those to each object

less_is_other : (a b object : ObjectIdData) → is_lt (identifier_order a b) ≡ true → is_object object a ≡ true → is_object object b ≡ false
less_is_other a b object less same = grind (arith, nat_tests)

-- one more, in its place: of two that aren't to the same object the order is none of that object's
swapped : (here there : Bool) (reference other : Reference) (more rest : List Reference) → (here ≡ true → there ≡ true → ⊥) → more ≡ cond here (reference ∷ rest) rest →
    cond there (other ∷ more) more ≡ cond here (reference ∷ cond there (other ∷ rest) rest) (cond there (other ∷ rest) rest)
swapped true true reference other more rest apart same = absurd (apart refl refl)
swapped true false reference other more rest apart same = same
swapped false true reference other more rest apart same = ap (λ rs. other ∷ rs) same
swapped false false reference other more rest apart same = same

placed_by : (object : ObjectIdData) (reference other : Reference) (others : List Reference) (below : Bool) → is_below reference.referred other ≡ below → filter (is_to object) (placed reference others) ≡ filter (is_to object) (reference ∷ others) →
    filter (is_to object) (if below then other ∷ placed reference others else reference ∷ other ∷ others) ≡ filter (is_to object) (reference ∷ other ∷ others)
placed_by object reference other others false b rest = refl
placed_by object reference other others true b rest =
    swapped (is_to object reference) (is_to object other) reference other (filter (is_to object) (placed reference others)) (filter (is_to object) others)
    (λ here there. true≢false (sym here ∙ less_is_other other.referred reference.referred object b there)) rest

placed_stretch : (object : ObjectIdData) (reference : Reference) (others : List Reference) → filter (is_to object) (placed reference others) ≡ filter (is_to object) (reference ∷ others)
placed_stretch object reference [] = refl
placed_stretch object reference (other ∷ others) =
    placed_by object reference other others (is_below reference.referred other) refl (placed_stretch object reference others)

pub same_stretches : (object : ObjectIdData) (references : List Reference) → filter (is_to object) (references_in_order references) ≡ filter (is_to object) references
same_stretches object [] = refl
same_stretches object (reference ∷ references) =
    placed_stretch object reference (references_in_order references) ∙ ap (λ rs. cond (is_to object reference) (reference ∷ rs) rs) (same_stretches object references)

-- each of a list
abbrev Each : (Reference → Type 0) → List Reference → Type 0
Each P [] = Unit {0}
Each P (r ∷ rs) = P r × Each P rs

each_weaker : (P Q : Reference → Type 0) → ((r : Reference) → P r → Q r) → (rs : List Reference) → Each P rs → Each Q rs
each_weaker P Q weaker [] h = tt
each_weaker P Q weaker (r ∷ rs) h = (weaker r h.0, each_weaker P Q weaker rs h.1)

-- the second isn't to an object below that of the first
abbrev IsNotBelow : Reference → Reference → Type 0
IsNotBelow first second = is_below first.referred second ≡ false

abbrev Rises : List Reference → Type 0
Rises [] = Unit {0}
Rises (r ∷ rs) = Each (IsNotBelow r) rs × Rises rs

below_is_not_above : (a b : ObjectIdData) → is_lt (identifier_order a b) ≡ true → is_lt (identifier_order b a) ≡ false
below_is_not_above a b less = grind (arith, nat_tests)

not_below_both : (a b c : ObjectIdData) → is_lt (identifier_order b a) ≡ false → is_lt (identifier_order c b) ≡ false → is_lt (identifier_order c a) ≡ false
not_below_both a b c first second = grind (arith, nat_tests)

each_placed_by : (P : Reference → Type 0) (reference other : Reference) (others : List Reference) (below : Bool) → P reference → P other → Each P others → Each P (placed reference others) → Each P (if below then other ∷ placed reference others else reference ∷ other ∷ others)
each_placed_by P reference other others true here there all rest = (there, rest)
each_placed_by P reference other others false here there all rest = (here, (there, all))

each_placed : (P : Reference → Type 0) (reference : Reference) (others : List Reference) → P reference → Each P others → Each P (placed reference others)
each_placed P reference [] here all = (here, tt)
each_placed P reference (other ∷ others) here all = each_placed_by P reference other others (is_below reference.referred other) here all.0 all.1 (each_placed P reference others here all.1)

rises_by : (reference other : Reference) (others : List Reference) (below : Bool) → is_below reference.referred other ≡ below → Each (IsNotBelow other) others → Rises others → Rises (placed reference others) → Rises (if below then other ∷ placed reference others else reference ∷ other ∷ others)
rises_by reference other others true b above risen rest = (each_placed (IsNotBelow other) reference others (below_is_not_above other.referred reference.referred b) above, rest)
rises_by reference other others false b above risen rest =
    ((b, each_weaker (IsNotBelow other) (IsNotBelow reference) (λ r h. not_below_both reference.referred other.referred r.referred b h) others above), (above, risen))

rises_placed : (reference : Reference) (others : List Reference) → Rises others → Rises (placed reference others)
rises_placed reference [] risen = (tt, tt)
rises_placed reference (other ∷ others) risen = rises_by reference other others (is_below reference.referred other) refl risen.0 risen.1 (rises_placed reference others risen.1)

rises_in_order : (references : List Reference) → Rises (references_in_order references)
rises_in_order [] = tt
rises_in_order (reference ∷ references) = rises_placed reference (references_in_order references) (rises_in_order references)

-- sorted references rise
abbrev IsFar : List Reference → Type 0
IsFar rs = (i j : ℕ) (d : Reference) → i ≤ j → j < length rs → is_lt (identifier_order (referred_by (get_or rs j d)) (referred_by (get_or rs i d))) ≡ false

each_of : (P : Reference → Type 0) (rs : List Reference) → ((k : ℕ) (d : Reference) → k < length rs → P (get_or rs k d)) → Each P rs
each_of P [] h = tt
each_of P (r ∷ rs) h = (h 0 r (omega arith), each_of P rs (λ k d low. h (suc k) d (omega arith)))

rises_far : (rs : List Reference) → IsFar rs → Rises rs
rises_far [] far = tt
rises_far (r ∷ rs) far = (each_of (IsNotBelow r) rs (λ k d low. far 0 (suc k) d (omega arith) (omega arith)), rises_far rs (λ i j d le low. far (suc i) (suc j) d (omega arith) (omega arith)))

rises_sorted : (rs : List Reference) → IsSortedByKey referred_by identifier_order rs → Rises rs
rises_sorted rs sorted = rises_far rs (λ i j d le low. sorted_far (λ x y. is_lt (identifier_order (referred_by x) (referred_by y))) (ranks_by identifiers_are_total referred_by) rs sorted i j d le low)

-- ---- those that rise are one list where those to each object are

abbrev Alike : List Reference → List Reference → Type 0
Alike xs ys = (object : ObjectIdData) → filter (is_to object) xs ≡ filter (is_to object) ys

itself : (object : ObjectIdData) → is_object object object ≡ true
itself object = grind (arith, nat_tests)

abbrev first_of : Reference → List Reference → Reference
first_of d [] = d
first_of d (r ∷ rs) = r

abbrev rest_of : List Reference → List Reference
rest_of [] = []
rest_of (r ∷ rs) = rs

not_none : (here : Bool) (x : Reference) (xs : List Reference) → here ≡ true → cond here (x ∷ xs) xs ≡ [] → ⊥
not_none true x xs h e = cc
not_none false x xs h e = true≢false (sym h)

none_of : (object : ObjectIdData) (rs : List Reference) → Each (λ r. is_to object r ≡ false) rs → filter (is_to object) rs ≡ []
none_of object [] h = refl
none_of object (r ∷ rs) h = cond-false _ _ _ h.0 ∙ none_of object rs h.1

less_is_not : (a b : ObjectIdData) → is_lt (identifier_order a b) ≡ true → is_object a b ≡ false
less_is_not a b less = grind (arith, nat_tests)

less_is_none : (a b c : ObjectIdData) → is_lt (identifier_order a b) ≡ true → is_lt (identifier_order c b) ≡ false → is_object a c ≡ false
less_is_none a b c less above = grind (arith, nat_tests)

-- the first of one list isn't to a lower object than the first of the other
not_lower : (x y : Reference) (xs ys : List Reference) → Each (IsNotBelow y) ys → filter (is_to x.referred) (x ∷ xs) ≡ filter (is_to x.referred) (y ∷ ys) → is_below y.referred x ≡ true → ⊥
not_lower x y xs ys above same less =
    let none : filter (is_to x.referred) (y ∷ ys) ≡ [] = none_of x.referred (y ∷ ys) (less_is_not x.referred y.referred less, each_weaker (IsNotBelow y) (λ r. is_to x.referred r ≡ false) (λ r h. less_is_none x.referred y.referred r.referred less h) ys above) in
    not_none (is_to x.referred x) x (filter (is_to x.referred) xs) (itself x.referred) (same ∙ none)

same_first : (here there : Bool) (x y : Reference) (xs ys : List Reference) → here ≡ true → there ≡ true → cond here (x ∷ xs) xs ≡ cond there (y ∷ ys) ys → x ≡ y
same_first true true x y xs ys h t e = ap (first_of x) e
same_first false there x y xs ys h t e = absurd (true≢false (sym h))
same_first true false x y xs ys h t e = absurd (true≢false (sym t))

same_rest : (here : Bool) (x y : Reference) (xs ys : List Reference) → cond here (x ∷ xs) xs ≡ cond here (y ∷ ys) ys → xs ≡ ys
same_rest true x y xs ys e = ap rest_of e
same_rest false x y xs ys e = e

one_by : (x y : Reference) (xs ys : List Reference) (less greater : Bool) → is_below y.referred x ≡ less → is_below x.referred y ≡ greater → Rises (x ∷ xs) → Rises (y ∷ ys) → Alike (x ∷ xs) (y ∷ ys) → (Alike xs ys → xs ≡ ys) → x ∷ xs ≡ y ∷ ys
one_by x y xs ys true greater l g first second same later = absurd (not_lower x y xs ys second.0 (same x.referred) l)
one_by x y xs ys false true l g first second same later = absurd (not_lower y x ys xs first.0 (sym (same y.referred)) g)
one_by x y xs ys false false l g first second same later =
    let one : is_object x.referred y.referred ≡ true = sym (ties_are_one x.referred y.referred) ∙ ap₂ (λ a b. not a && not b) l g in
    let head : x ≡ y = same_first (is_to x.referred x) (is_to x.referred y) x y (filter (is_to x.referred) xs) (filter (is_to x.referred) ys) (itself x.referred) one (same x.referred) in
    let tail : Alike xs ys = λ object.
    same_rest (is_to object x) x y (filter (is_to object) xs) (filter (is_to object) ys)
    (same object ∙ ap (λ (r : Reference). cond (is_to object r) (y ∷ filter (is_to object) ys) (filter (is_to object) ys)) (sym head)) in
    ap₂ (λ r rs. r ∷ rs) head (later tail)

one_list : (xs ys : List Reference) → Rises xs → Rises ys → Alike xs ys → xs ≡ ys
one_list [] [] first second same = refl
one_list [] (y ∷ ys) first second same = absurd (not_none (is_to y.referred y) y (filter (is_to y.referred) ys) (itself y.referred) (sym (same y.referred)))
one_list (x ∷ xs) [] first second same = absurd (not_none (is_to x.referred x) x (filter (is_to x.referred) xs) (itself x.referred) (same x.referred))
one_list (x ∷ xs) (y ∷ ys) first second same = one_by x y xs ys (is_below y.referred x) (is_below x.referred y) refl refl first second same (one_list xs ys first.1 second.1)

-- what a stable sort leaves
pub sorted_is : (references ordered : List Reference) → IsSortedByKey referred_by identifier_order ordered → IsStableByKey referred_by identifier_order references ordered → ordered ≡ references_in_order references
sorted_is references ordered sorted stable =
    one_list ordered (references_in_order references) (rises_sorted ordered sorted) (rises_in_order references) (λ object. sorted_stretch object references ordered stable ∙ sym (same_stretches object references))

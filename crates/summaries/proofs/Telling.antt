-- What is told of a request goes on behind what was told: the properties of an object, and objects.
use Rattle.std.proofs.Common.{◌≡◌, ℕ, suc, Option, Some, None, List, [], ◌∷◌, ◌++◌, length, Result, Ok, refl, sym, ap, ◌∙◌, append_assoc}
use Rattle.std.specs.List.{flat_map}
use Rattle.std.proofs.lemmas.List.{append-nil}
use Rattle.bac_tags.specs.declared.malformed.Malformed.{Malformed}
use Rattle.bac_tags.specs.ReadingSteps.{◌>>=◌}
use Rattle.bac_tags.proofs.Steps.{bind_ok, ok_is}
use Rattle.summaries.specs.declared.requested.PropertyAsked.{PropertyAsked}
use Rattle.bac_values.specs.Identifier.{ObjectIdData}
use Rattle.summaries.specs.ManyRequests.{ObjectAsked}
use Rattle.summaries.specs.ManySteps.{closes_at, each_within, entry_at, group_at, group_of, one_or_more, properties_at, property_at}
use Rattle.summaries.proofs.Counting.{none_left}
use Rattle.summaries.proofs.Each.{ended, goes_on}

-- ---- what is told of things one after the other

flat_append : {X Y : Type 0} (f : X → List Y) (xs ys : List X) → flat_map f (xs ++ ys) ≡ flat_map f xs ++ flat_map f ys
flat_append f [] ys = refl
flat_append f (x ∷ xs) ys = ap (λ zs. f x ++ zs) (flat_append f xs ys) ∙ sym (append_assoc (f x) (flat_map f xs) (flat_map f ys))

-- one more is told
pub told_more : {X : Type 0} (f : X → List ℕ) (done : List X) (x : X) (old out now : List ℕ) → out ≡ old ++ flat_map f done → now ≡ out ++ f x → now ≡ old ++ flat_map f (done ++ x ∷ [])
told_more f done x old out now so_far more =
    more
    ∙ (ap (λ zs. zs ++ f x) so_far
    ∙ (append_assoc old (flat_map f done) (f x)
    ∙ ap (λ zs. old ++ zs) (sym (flat_append f done (x ∷ []) ∙ ap (λ zs. flat_map f done ++ zs) (append-nil (f x))))))

-- and those that are left are what is missing
pub told_part : {X : Type 0} (f : X → List ℕ) (done left : List X) (old now : List ℕ) → now ≡ old ++ flat_map f done → now ++ flat_map f left ≡ old ++ flat_map f (done ++ left)
told_part f done left old now so_far =
    ap (λ zs. zs ++ flat_map f left) so_far
    ∙ (append_assoc old (flat_map f done) (flat_map f left)
    ∙ ap (λ zs. old ++ zs) (sym (flat_append f done left)))

-- ---- things that are left

-- what is left of a list that is read
pub record Left {X : Type 0} (read : ℕ → Result (X × ℕ) Malformed) (ends : ℕ → Option ℕ) (more place : ℕ) (left : List X) (end : ℕ) : Type 0 where
  pub first : X
  pub next : ℕ
  pub rest : List X
  pub parts : left ≡ first ∷ rest
  pub is : read place ≡ Ok (first, next)
  pub later : each_within ends read more next ≡ Ok (rest, end)

pub left_of : {X : Type 0} (ends : ℕ → Option ℕ) (read : ℕ → Result (X × ℕ) Malformed) (more place : ℕ) (left : List X) (end : ℕ) → each_within ends read (suc more) place ≡ Ok (left, end) → ends place ≡ None → Left read ends more place left end
left_of {X} ends read more place left end e none =
    let a = bind_ok (read place) behind (left, end) (sym (goes_on ends read more place none) ∙ e) in
    let b = bind_ok (each_within ends read more a.0.1) (λ rest. Ok (a.0.0 ∷ rest.0, rest.1)) (left, end) a.2 in
    let same = ok_is (a.0.0 ∷ b.0.0, b.0.1) (left, end) b.2 in
    record {
      first = a.0.0;
      next = a.0.1;
      rest = b.0.0;
      parts = ap (λ (t : List X × ℕ). t.0) (sym same);
      is = a.1;
      later = b.1 ∙ ap (λ (t : List X × ℕ). Ok (b.0.0, t.1)) same;
    }
  where
    behind : X × ℕ → Result (List X × ℕ) Malformed
    behind x = each_within ends read more x.1 >>= λ rest. Ok (x.0 ∷ rest.0, rest.1)

-- nothing is left where the list ends
pub nothing_left : {X : Type 0} (ends : ℕ → Option ℕ) (read : ℕ → Result (X × ℕ) Malformed) (more place stop : ℕ) (left : List X) (end : ℕ) → each_within ends read (suc more) place ≡ Ok (left, end) → ends place ≡ Some stop → (left ≡ []) × (stop ≡ end)
nothing_left {X} ends read more place stop left end e s =
    let same = ok_is ([], stop) (left, end) (sym (ended ends read more place stop s) ∙ e) in
    (ap (λ (t : List X × ℕ). t.0) (sym same), ap (λ (t : List X × ℕ). t.1) same)

pub never_none : {X : Type 0} (ends : ℕ → Option ℕ) (read : ℕ → Result (X × ℕ) Malformed) (place : ℕ) (x : List X × ℕ) → each_within ends read 0 place ≡ Ok x → ⊥
never_none ends read place x e = let bad = sym (none_left ends read place) ∙ e in cc

-- the properties of an object are such a list
pub list_of : (input : List ℕ) (start : ℕ) (properties : List PropertyAsked) (end : ℕ) → properties_at input start ≡ Ok (properties, end) → each_within (closes_at input) (property_at input) (length input) start ≡ Ok (properties, end)
unfolding properties_at
list_of input start properties end e =
    let a = bind_ok (each_within (closes_at input) (property_at input) (length input) start) (one_or_more start) (properties, end) e in
    a.1 ∙ ap (λ (t : List PropertyAsked × ℕ). Ok t) (go a.0.0 a.0.1 a.2)
  where
    go : (xs : List PropertyAsked) (stop : ℕ) → one_or_more start (xs, stop) ≡ Ok (properties, end) → ◌≡◌ {A = List PropertyAsked × ℕ} (xs, stop) (properties, end)
    go [] stop h = absurd cc
    go (x ∷ xs) stop h = ok_is (x ∷ xs, stop) (properties, end) h

-- ---- an object with its properties

-- how an object that is asked is read
pub record GroupParts (input : List ℕ) (place : ℕ) (group : ObjectAsked) (end : ℕ) : Type 0 where
  pub start : ℕ
  pub entry : entry_at input place ≡ Ok (group.object, start)
  pub properties : properties_at input start ≡ Ok (group.properties, end)

abbrev after_entry : List ℕ → ObjectIdData × ℕ → Result (ObjectAsked × ℕ) Malformed
after_entry input entry = properties_at input entry.1 >>= λ properties. Ok (group_of entry.0 properties.0, properties.1)

pub group_parts : (input : List ℕ) (place : ℕ) (group : ObjectAsked) (end : ℕ) → group_at input place ≡ Ok (group, end) → GroupParts input place group end
unfolding group_at
group_parts input place group end e =
    let a = bind_ok (entry_at input place) (after_entry input) (group, end) e in
    let b = bind_ok (properties_at input a.0.1) (λ properties. Ok (group_of a.0.0 properties.0, properties.1)) (group, end) a.2 in
    let same = ok_is (group_of a.0.0 b.0.0, b.0.1) (group, end) b.2 in
    record {
      start = a.0.1;
      entry = a.1 ∙ ap (λ (t : ObjectAsked × ℕ). Ok (t.0.object, a.0.1)) same;
      properties = b.1 ∙ ap (λ (t : ObjectAsked × ℕ). Ok (t.0.properties, t.1)) same;
    }

-- the object, its properties between their tags
pub group_part : (old object opened inside close now rest : List ℕ) → now ++ rest ≡ ((old ++ object) ++ opened) ++ inside → now ++ (rest ++ close) ≡ old ++ (object ++ (opened ++ inside ++ close))
group_part old object opened inside close now rest so_far =
    let right : (((old ++ object) ++ opened) ++ inside) ++ close ≡ old ++ (object ++ (opened ++ inside ++ close)) = simp append_assoc in
    sym (append_assoc now rest close) ∙ (ap (λ zs. zs ++ close) so_far ∙ right)

pub group_whole : (old object opened inside close first second third last : List ℕ) → first ≡ old ++ object → second ≡ first ++ opened → third ≡ second ++ inside → last ≡ third ++ close → last ≡ old ++ (object ++ (opened ++ inside ++ close))
group_whole old object opened inside close first second third last a b c d =
    let right : (((old ++ object) ++ opened) ++ inside) ++ close ≡ old ++ (object ++ (opened ++ inside ++ close)) = simp append_assoc in
    d ∙ (ap (λ zs. zs ++ close) (c ∙ ap (λ zs. zs ++ inside) (b ∙ ap (λ zs. zs ++ opened) a)) ∙ right)

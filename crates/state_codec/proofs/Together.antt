-- Parts one behind the other: each is read exactly as it is written.
use Rattle.std.proofs.Common.{◌≡◌, ℕ, zero, suc, Bool, true, cond, List, [], ◌∷◌, ◌++◌, length, All, Option, Some, None, refl, sym, ap, subst, ◌∙◌, append_assoc, append-nil}
use Rattle.std.specs.List.{AllZip, flat_map}
use Rattle.std.proofs.lemmas.List.Concat.{flat_map-cons}
use Rattle.std.proofs.lemmas.List.Elements.{All-nil, All-cons, All-head, All-tail}
use Rattle.std.proofs.lemmas.Option.{cond_some}
use Rattle.state_codec.specs.ReadingSteps.{◌>>=◌, last_at, done_at, value_if}
use Rattle.state_codec.specs.SnapshotSteps.{and_at, made_at, where_at, each_at, times_at, three_at}
use Rattle.state_codec.proofs.Behind.{AreOctets, Takes, Reads, bind_some, some_is, reads_then, reads_last}

pub reads_pair : {A B : Type 0} (ra : List ℕ → Option (A × List ℕ)) (rb : A → List ℕ → Option (B × List ℕ)) (wa : A → List ℕ) (wb : B → List ℕ) (Fa : A → Type 0) (Fb : A → B → Type 0)
    → Reads ra wa Fa → ((a : A) → Fa a → Reads (rb a) wb (Fb a)) → Reads {X = A × B} (and_at ra rb) (λ x. wa x.0 ++ wb x.1) (λ x. Fa x.0 × Fb x.0 x.1)
reads_pair {A = A} {B = B} ra rb wa wb Fa Fb first second =
    reads_then ra (λ a. last_at (rb a) λ b. Some (a, b)) wa Fa (λ (x : A × B). x.0) (λ x. wb x.1) (λ x. Fa x.0 × Fb x.0 x.1) first (λ x f. f.0)
    (λ a fa. reads_last (rb a) (λ b. Some (a, b)) wb (Fb a) (λ (x : A × B). wb x.1) (λ x. (Fa x.0 × Fb x.0 x.1) × (x.0 ≡ a)) (second a fa)
    (λ b x fb e. subst (λ (y : A × B). ((Fa y.0 × Fb y.0 y.1) × (y.0 ≡ a)) × (wb y.1 ≡ wb b)) (some_is (a, b) x e) (((fa, fb), refl), refl))
    (λ x f. (x.1, subst (λ (o : A). Fb o x.1) f.1 f.0.1, ap (λ (o : A). Some (o, x.1)) (sym f.1), refl)))

-- a part of which something else is made
pub reads_made : {A C : Type 0} (ra : List ℕ → Option (A × List ℕ)) (make : A → C) (part : C → A) (wa : A → List ℕ) (Fa : A → Type 0) (w : C → List ℕ) (F : C → Type 0)
    → Reads ra wa Fa → ((a : A) → Fa a → F (make a) × (w (make a) ≡ wa a)) → ((c : C) → F c → Fa (part c) × (make (part c) ≡ c) × (w c ≡ wa (part c)))
    → Reads (made_at ra make) w F
reads_made {C = C} ra make part wa Fa w F first forth back =
    reads_last ra (λ a. Some (make a)) wa Fa w F first
    (λ a c fa e. subst (λ (x : C). F x × (w x ≡ wa a)) (some_is (make a) c e) (forth a fa))
    (λ c f. let b = back c f in (part c, b.0, ap (λ (x : C). Some x) b.1, b.2))

-- a part that passes a test
pub reads_where : {A : Type 0} (ra : List ℕ → Option (A × List ℕ)) (test : A → Bool) (wa : A → List ℕ) (Fa F : A → Type 0)
    → Reads ra wa Fa → ((a : A) → Fa a → test a ≡ true → F a) → ((a : A) → F a → Fa a × (test a ≡ true)) → Reads (where_at ra test) wa F
reads_where {A = A} ra test wa Fa F first forth back =
    reads_last ra (λ a. value_if (test a) a) wa Fa wa F first
    (λ a c fa e. let g = cond_some (test a) a c e in subst (λ (x : A). F x × (wa x ≡ wa a)) g.1 (forth a fa g.0, refl))
    (λ c f. let b = back c f in (c, b.0, ap (λ (t : Bool). cond t (Some c) None) b.1, refl))

-- the same part, said otherwise
pub reads_as : {A : Type 0} (ra : List ℕ → Option (A × List ℕ)) (w v : A → List ℕ) (F G : A → Type 0)
    → Reads ra w F → ((a : A) → F a → G a × (w a ≡ v a)) → ((a : A) → G a → F a × (w a ≡ v a)) → Reads ra v G
reads_as ra w v F G first forth back = record {
  takes = λ octets a rest are e.
      let one = first.takes octets a rest are e in
      let f = forth a one.1 in
      (record { parts = one.0.parts ∙ ap (λ (t : List ℕ). t ++ rest) f.1; rest_are = one.0.rest_are }, f.0);
  again = λ a rest g.
      let f = back a g in
      ap (λ (t : List ℕ). ra (t ++ rest)) (sym f.1) ∙ first.again a rest f.0;
}

-- nothing is read where one value alone fits
pub reads_done : {A : Type 0} (value : A) (w : A → List ℕ) (F : A → Type 0) → w value ≡ [] → F value → ((a : A) → F a → a ≡ value) → Reads (done_at value) w F
reads_done {A = A} value w F none fits only = record {
  takes = λ octets a rest are e.
      subst (λ (x : A × List ℕ). Takes octets (w x.0) x.1 × F x.0) (some_is (value, octets) (a, rest) e) (record { parts = ap (λ (t : List ℕ). t ++ octets) (sym none); rest_are = are }, fits);
  again = λ a rest f.
      let is = only a f in
      ap (λ (x : A). done_at value (w x ++ rest)) is ∙ ap (λ (t : List ℕ). done_at value (t ++ rest)) none ∙ ap (λ (x : A). Some (x, rest)) (sym is);
}

-- ---- lists

each_takes : {S X : Type 0} (read : S → List ℕ → Option (X × List ℕ)) (w : X → List ℕ) (P : S → Type 0) (F : S → X → Type 0) → ((s : S) → P s → Reads (read s) w (F s))
    → (guides : List S) → All P guides → (octets : List ℕ) (xs : List X) (rest : List ℕ) → AreOctets octets → each_at read guides octets ≡ Some (xs, rest) → Takes octets (flat_map w xs) rest × AllZip F guides xs
unfolding each_at
each_takes {X = X} read w P F each [] all octets xs rest are e =
    subst (λ (y : List X × List ℕ). Takes octets (flat_map w y.0) y.1 × AllZip F [] y.0) (some_is ([], octets) (xs, rest) e) (record { parts = refl; rest_are = are }, tt)
each_takes {X = X} read w P F each (s ∷ guides) all octets xs rest are e =
    let a = bind_some (read s octets) (λ first. each_at read guides first.1 >>= λ others. Some (first.0 ∷ others.0, others.1)) (xs, rest) e in
    let b = bind_some (each_at read guides a.0.1) (λ others. Some (a.0.0 ∷ others.0, others.1)) (xs, rest) a.2 in
    let one = (each s (All-head P s guides all)).takes octets a.0.0 a.0.1 are a.1 in
    let two = each_takes read w P F each guides (All-tail P s guides all) a.0.1 b.0.0 b.0.1 one.0.rest_are b.1 in
    let whole : octets ≡ flat_map w (a.0.0 ∷ b.0.0) ++ b.0.1 =
    one.0.parts ∙ ap (λ (t : List ℕ). w a.0.0 ++ t) two.0.parts ∙ sym (append_assoc (w a.0.0) (flat_map w b.0.0) b.0.1) ∙ ap (λ (t : List ℕ). t ++ b.0.1) (sym (flat_map-cons w a.0.0 b.0.0)) in
    subst (λ (y : List X × List ℕ). Takes octets (flat_map w y.0) y.1 × AllZip F (s ∷ guides) y.0) (some_is (a.0.0 ∷ b.0.0, b.0.1) (xs, rest) b.2)
    (record { parts = whole; rest_are = two.0.rest_are }, (one.1, two.1))

each_again : {S X : Type 0} (read : S → List ℕ → Option (X × List ℕ)) (w : X → List ℕ) (P : S → Type 0) (F : S → X → Type 0) → ((s : S) → P s → Reads (read s) w (F s))
    → (guides : List S) → All P guides → (xs : List X) (rest : List ℕ) → AllZip F guides xs → each_at read guides (flat_map w xs ++ rest) ≡ Some (xs, rest)
unfolding each_at
each_again read w P F each [] all [] rest fits = refl
each_again read w P F each [] all (x ∷ xs) rest fits = absurd fits
each_again read w P F each (s ∷ guides) all [] rest fits = absurd fits
each_again {X = X} read w P F each (s ∷ guides) all (x ∷ xs) rest fits =
    let regrouped : flat_map w (x ∷ xs) ++ rest ≡ w x ++ (flat_map w xs ++ rest) = ap (λ (t : List ℕ). t ++ rest) (flat_map-cons w x xs) ∙ append_assoc (w x) (flat_map w xs) rest in
    let one = (each s (All-head P s guides all)).again x (flat_map w xs ++ rest) fits.0 in
    let two = each_again read w P F each guides (All-tail P s guides all) xs rest fits.1 in
    ap (each_at read (s ∷ guides)) regrouped
    ∙ ap (λ (o : Option (X × List ℕ)). o >>= λ first. each_at read guides first.1 >>= λ others. Some (first.0 ∷ others.0, others.1)) one
    ∙ ap (λ (o : Option (List X × List ℕ)). o >>= λ others. Some (x ∷ others.0, others.1)) two

-- a part for each of some guides
pub reads_each : {S X : Type 0} (read : S → List ℕ → Option (X × List ℕ)) (w : X → List ℕ) (P : S → Type 0) (F : S → X → Type 0) → ((s : S) → P s → Reads (read s) w (F s))
    → (guides : List S) → All P guides → Reads (each_at read guides) (flat_map w) (AllZip F guides)
reads_each read w P F each guides all = record { takes = each_takes read w P F each guides all; again = each_again read w P F each guides all }

abbrev pub AreSoMany : {X : Type 0} → (X → Type 0) → ℕ → List X → Type 0
AreSoMany F count xs = All F xs × (length xs ≡ count)

times_takes : {X : Type 0} (read : List ℕ → Option (X × List ℕ)) (w : X → List ℕ) (F : X → Type 0) → Reads read w F
    → (count : ℕ) (octets : List ℕ) (xs : List X) (rest : List ℕ) → AreOctets octets → times_at read count octets ≡ Some (xs, rest) → Takes octets (flat_map w xs) rest × AreSoMany F count xs
unfolding times_at
times_takes {X = X} read w F reads zero octets xs rest are e =
    subst (λ (y : List X × List ℕ). Takes octets (flat_map w y.0) y.1 × AreSoMany F 0 y.0) (some_is ([], octets) (xs, rest) e) (record { parts = refl; rest_are = are }, (All-nil F, refl))
times_takes {X = X} read w F reads (suc count) octets xs rest are e =
    let a = bind_some (read octets) (λ first. times_at read count first.1 >>= λ others. Some (first.0 ∷ others.0, others.1)) (xs, rest) e in
    let b = bind_some (times_at read count a.0.1) (λ others. Some (a.0.0 ∷ others.0, others.1)) (xs, rest) a.2 in
    let one = reads.takes octets a.0.0 a.0.1 are a.1 in
    let two = times_takes read w F reads count a.0.1 b.0.0 b.0.1 one.0.rest_are b.1 in
    let whole : octets ≡ flat_map w (a.0.0 ∷ b.0.0) ++ b.0.1 =
    one.0.parts ∙ ap (λ (t : List ℕ). w a.0.0 ++ t) two.0.parts ∙ sym (append_assoc (w a.0.0) (flat_map w b.0.0) b.0.1) ∙ ap (λ (t : List ℕ). t ++ b.0.1) (sym (flat_map-cons w a.0.0 b.0.0)) in
    subst (λ (y : List X × List ℕ). Takes octets (flat_map w y.0) y.1 × AreSoMany F (suc count) y.0) (some_is (a.0.0 ∷ b.0.0, b.0.1) (xs, rest) b.2)
    (record { parts = whole; rest_are = two.0.rest_are }, (All-cons F a.0.0 b.0.0 one.1 two.1.0, ap suc two.1.1))

times_again : {X : Type 0} (read : List ℕ → Option (X × List ℕ)) (w : X → List ℕ) (F : X → Type 0) → Reads read w F → (xs : List X) (rest : List ℕ) → All F xs → times_at read (length xs) (flat_map w xs ++ rest) ≡ Some (xs, rest)
unfolding times_at
times_again read w F reads [] rest is = refl
times_again {X = X} read w F reads (x ∷ xs) rest is =
    let regrouped : flat_map w (x ∷ xs) ++ rest ≡ w x ++ (flat_map w xs ++ rest) = ap (λ (t : List ℕ). t ++ rest) (flat_map-cons w x xs) ∙ append_assoc (w x) (flat_map w xs) rest in
    let one = reads.again x (flat_map w xs ++ rest) (All-head F x xs is) in
    let two = times_again read w F reads xs rest (All-tail F x xs is) in
    ap (times_at read (suc (length xs))) regrouped
    ∙ ap (λ (o : Option (X × List ℕ)). o >>= λ first. times_at read (length xs) first.1 >>= λ others. Some (first.0 ∷ others.0, others.1)) one
    ∙ ap (λ (o : Option (List X × List ℕ)). o >>= λ others. Some (x ∷ others.0, others.1)) two

-- so many alike
pub reads_times : {X : Type 0} (read : List ℕ → Option (X × List ℕ)) (w : X → List ℕ) (F : X → Type 0) → Reads read w F → (count : ℕ) → Reads (times_at read count) (flat_map w) (AreSoMany F count)
reads_times read w F reads count = record {
  takes = times_takes read w F reads count;
  again = λ xs rest are. ap (λ (n : ℕ). times_at read n (flat_map w xs ++ rest)) (sym are.1) ∙ times_again read w F reads xs rest are.0;
}

-- one for each of three
three_written : {X : Type 0} (w : X → List ℕ) (x y z : X) → flat_map w (x ∷ y ∷ z ∷ []) ≡ w x ++ (w y ++ w z)
three_written w x y z =
    flat_map-cons w x (y ∷ z ∷ []) ∙ ap (λ (t : List ℕ). w x ++ t) (flat_map-cons w y (z ∷ []) ∙ ap (λ (t : List ℕ). w y ++ t) (flat_map-cons w z [] ∙ append-nil (w z)))

abbrev three_of : {X : Type 0} → X × (X × X) → List X
three_of x = x.0 ∷ x.1.0 ∷ x.1.1 ∷ []

three_back : {S X : Type 0} (w : X → List ℕ) (F : S → X → Type 0) (a b c : S) (xs : List X) → AllZip F (a ∷ b ∷ c ∷ []) xs
    → (x : X × (X × X)) × (F a x.0 × (F b x.1.0 × F c x.1.1)) × (◌≡◌ {A = Option (List X)} (Some (three_of x)) (Some xs)) × (flat_map w xs ≡ w x.0 ++ (w x.1.0 ++ w x.1.1))
three_back w F a b c (x ∷ y ∷ z ∷ []) fits = ((x, (y, z)), (fits.0, (fits.1.0, fits.1.1.0)), refl, three_written w x y z)
three_back w F a b c [] fits = absurd fits
three_back w F a b c (x ∷ []) fits = absurd fits.1
three_back w F a b c (x ∷ y ∷ []) fits = absurd fits.1.1
three_back w F a b c (x ∷ y ∷ z ∷ u ∷ more) fits = absurd fits.1.1.1

pub reads_three : {S X : Type 0} (read : S → List ℕ → Option (X × List ℕ)) (w : X → List ℕ) (F : S → X → Type 0) → ((s : S) → Reads (read s) w (F s)) → (a b c : S) → Reads (three_at read a b c) (flat_map w) (AllZip F (a ∷ b ∷ c ∷ []))
reads_three {X = X} read w F each a b c =
    reads_last (and_at (read a) λ x. and_at (read b) λ y. read c) (λ x. Some (three_of x)) (λ x. w x.0 ++ (w x.1.0 ++ w x.1.1)) (λ x. F a x.0 × (F b x.1.0 × F c x.1.1)) (flat_map w) (AllZip F (a ∷ b ∷ c ∷ []))
    (reads_pair (read a) (λ x. and_at (read b) λ y. read c) w (λ (x : X × X). w x.0 ++ w x.1) (F a) (λ z x. F b x.0 × F c x.1) (each a)
    (λ x fx. reads_pair (read b) (λ y. read c) w w (F b) (λ y. F c) (each b) (λ y fy. each c)))
    (λ x xs f e. subst (λ (ys : List X). AllZip F (a ∷ b ∷ c ∷ []) ys × (flat_map w ys ≡ w x.0 ++ (w x.1.0 ++ w x.1.1))) (some_is (three_of x) xs e) ((f.0, (f.1.0, (f.1.1, tt))), three_written w x.0 x.1.0 x.1.1))
    (three_back w F a b c)

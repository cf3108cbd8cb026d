-- One part behind another: what is read is what was written, and what was written is read again, whatever follows it.
use Rattle.std.proofs.Common.{◌≡◌, ℕ, suc, ◌<◌, Bool, true, false, ◌&&◌, List, [], ◌∷◌, ◌++◌, get_or, Option, Some, None, refl, sym, ap, subst, ◌∙◌, append_assoc}
use Rattle.state_codec.specs.ReadingSteps.{◌>>=◌, then_at, last_at, either_at, nothing_at, octet_at}

abbrev pub AreOctets : List ℕ → Type 0
AreOctets octets = (i : ℕ) → get_or octets i 0 < 256

-- a part that stands at the front, and what is behind it
pub record Takes (octets front rest : List ℕ) : Type 0 where
  pub parts : octets ≡ front ++ rest
  pub rest_are : AreOctets rest

-- a reader reads exactly what is written of the values that fit
pub record Reads {X : Type 0} (read : List ℕ → Option (X × List ℕ)) (written : X → List ℕ) (Fits : X → Type 0) : Type 0 where
  pub takes : (octets : List ℕ) (x : X) (rest : List ℕ) → AreOctets octets → read octets ≡ Some (x, rest) → Takes octets (written x) rest × Fits x
  pub again : (x : X) (rest : List ℕ) → Fits x → read (written x ++ rest) ≡ Some (x, rest)

pub bind_some : {A B : Type 0} (o : Option A) (f : A → Option B) (y : B) → (o >>= f) ≡ Some y → (x : A) × (o ≡ Some x) × (f x ≡ Some y)
bind_some None f y e = absurd cc
bind_some (Some x) f y e = (x, refl, e)

abbrev made : {A : Type 0} → A → Option A
made x = Some x

pub some_is : {A : Type 0} (x y : A) → made x ≡ made y → x ≡ y
some_is x y e = cc

pub both_true : (a b : Bool) → (a && b) ≡ true → (a ≡ true) × (b ≡ true)
both_true true b e = (refl, e)
both_true false b e = absurd cc

-- a part of the value, and then the others
pub reads_then : {A C : Type 0} (ra : List ℕ → Option (A × List ℕ)) (next : A → List ℕ → Option (C × List ℕ)) (wa : A → List ℕ) (Fa : A → Type 0) (part : C → A) (wn : C → List ℕ) (F : C → Type 0)
    → Reads ra wa Fa → ((c : C) → F c → Fa (part c)) → ((a : A) → Fa a → Reads (next a) wn (λ c. F c × (part c ≡ a)))
    → Reads (then_at ra next) (λ c. wa (part c) ++ wn c) F
reads_then {A = A} ra next wa Fa part wn F first fits others = record {
  takes = λ octets c rest are e.
      let b = bind_some (ra octets) (λ found. next found.0 found.1) (c, rest) e in
      let one = first.takes octets b.0.0 b.0.1 are b.1 in
      let two = (others b.0.0 one.1).takes b.0.1 c rest one.0.rest_are b.2 in
      let front : wa b.0.0 ++ wn c ≡ wa (part c) ++ wn c = ap (λ a. wa a ++ wn c) (sym two.1.1) in
      (record { parts = one.0.parts ∙ ap (λ (t : List ℕ). wa b.0.0 ++ t) two.0.parts ∙ sym (append_assoc (wa b.0.0) (wn c) rest) ∙ ap (λ (t : List ℕ). t ++ rest) front; rest_are = two.0.rest_are }, two.1.0);
  again = λ c rest f.
      ap (then_at ra next) (append_assoc (wa (part c)) (wn c) rest)
      ∙ ap (λ (o : Option (A × List ℕ)). o >>= λ found. next found.0 found.1) (first.again (part c) (wn c ++ rest) (fits c f))
      ∙ (others (part c) (fits c f)).again c rest (f, refl);
}

-- the last part, of which the value is made
pub reads_last : {A C : Type 0} (ra : List ℕ → Option (A × List ℕ)) (make : A → Option C) (wa : A → List ℕ) (Fa : A → Type 0) (w : C → List ℕ) (F : C → Type 0)
    → Reads ra wa Fa → ((a : A) (c : C) → Fa a → make a ≡ Some c → F c × (w c ≡ wa a)) → ((c : C) → F c → (a : A) × Fa a × (make a ≡ Some c) × (w c ≡ wa a))
    → Reads (last_at ra make) w F
reads_last {A = A} {C = C} ra make wa Fa w F first forth back = record {
  takes = λ octets c rest are e.
      let b = bind_some (ra octets) (λ found. make found.0 >>= λ value. Some (value, found.1)) (c, rest) e in
      let m = bind_some (make b.0.0) (λ value. Some (value, b.0.1)) (c, rest) b.2 in
      let one = first.takes octets b.0.0 b.0.1 are b.1 in
      let is = forth b.0.0 m.0 one.1 m.1 in
      subst (λ (y : C × List ℕ). Takes octets (w y.0) y.1 × F y.0) (some_is (m.0, b.0.1) (c, rest) m.2) (record { parts = one.0.parts ∙ ap (λ (t : List ℕ). t ++ b.0.1) (sym is.1); rest_are = one.0.rest_are }, is.0);
  again = λ c rest f.
      let b = back c f in
      ap (λ (t : List ℕ). last_at ra make (t ++ rest)) b.3
      ∙ ap (λ (o : Option (A × List ℕ)). o >>= λ found. make found.0 >>= λ value. Some (value, found.1)) (first.again b.0 rest b.1)
      ∙ ap (λ (o : Option C). o >>= λ value. Some (value, rest)) b.2;
}

-- ---- parts behind a number that says which they are

-- behind the number, what is read is the rest of what is written
abbrev pub TakesBehind : {C : Type 0} → (C → List ℕ) → (C → Type 0) → ℕ → (List ℕ → Option (C × List ℕ)) → Type 0
TakesBehind {C = C} w F tag read =
    (octets : List ℕ) (c : C) (rest : List ℕ) → AreOctets octets → read octets ≡ Some (c, rest) → Takes (tag ∷ octets) (w c) rest × F c

pub takes_none : {C : Type 0} (w : C → List ℕ) (F : C → Type 0) (tag : ℕ) → TakesBehind w F tag nothing_at
takes_none w F tag octets c rest are e = absurd cc

pub takes_either : {C : Type 0} (w : C → List ℕ) (F : C → Type 0) (tag : ℕ) (first : Bool) (read other : List ℕ → Option (C × List ℕ))
    → (first ≡ true → TakesBehind w F tag read) → TakesBehind w F tag other → TakesBehind w F tag (either_at first read other)
takes_either w F tag true read other one two octets c rest are e = one refl octets c rest are e
takes_either w F tag false read other one two octets c rest are e = two octets c rest are e

pub takes_last : {A C : Type 0} (w : C → List ℕ) (F : C → Type 0) (tag : ℕ) (ra : List ℕ → Option (A × List ℕ)) (make : A → C) (wa : A → List ℕ) (Fa : A → Type 0)
    → Reads ra wa Fa → ((a : A) → Fa a → F (make a) × (w (make a) ≡ tag ∷ wa a)) → TakesBehind w F tag (last_at ra (λ a. Some (make a)))
takes_last {C = C} w F tag ra make wa Fa first forth octets c rest are e =
    let b = bind_some (ra octets) (λ found. Some (make found.0, found.1)) (c, rest) e in
    let one = first.takes octets b.0.0 b.0.1 are b.1 in
    let is = forth b.0.0 one.1 in
    subst (λ (y : C × List ℕ). Takes (tag ∷ octets) (w y.0) y.1 × F y.0) (some_is (make b.0.0, b.0.1) (c, rest) b.2) (record { parts = ap (λ (t : List ℕ). tag ∷ t) one.0.parts ∙ ap (λ (t : List ℕ). t ++ b.0.1) (sym is.1); rest_are = one.0.rest_are }, is.0)

AreOctets-behind : (octet : ℕ) (octets : List ℕ) → AreOctets (octet ∷ octets) → AreOctets octets
AreOctets-behind octet octets are i = are (suc i)

pub reads_behind : {C : Type 0} (w : C → List ℕ) (F : C → Type 0) (content : ℕ → List ℕ → Option (C × List ℕ))
    → ((tag : ℕ) → TakesBehind w F tag (content tag)) → ((c : C) (rest : List ℕ) → F c → then_at octet_at content (w c ++ rest) ≡ Some (c, rest))
    → Reads (then_at octet_at content) w F
unfolding octet_at
reads_behind {C = C} w F content takes again = record { takes = taking; again = again }
  where
    taking : (octets : List ℕ) (c : C) (rest : List ℕ) → AreOctets octets → then_at octet_at content octets ≡ Some (c, rest) → Takes octets (w c) rest × F c
    taking [] c rest are e = absurd cc
    taking (tag ∷ octets) c rest are e = takes tag octets c rest (AreOctets-behind tag octets are) e

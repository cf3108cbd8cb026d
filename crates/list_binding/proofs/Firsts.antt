-- The first element that fails, and that none does.
use Rattle.std.proofs.Common.{◌≡◌, ℕ, suc, ◌+◌, Bool, true, false, Some, None, List, [], ◌∷◌, ◌++◌, length, refl, sym, ap, subst, ◌∙◌, append_assoc, append-nil, arith, inl, inr}
use Rattle.std.proofs.lemmas.Bool.{cases_Bool}
use Rattle.notify_class.specs.Recipients.{DestinationData}
use Rattle.list_binding.specs.Edits.{IsFirst, NoneFails}
use Rattle.list_binding.specs.EditSteps.{first_failing}

abbrev pub One : Type 0
One = DestinationData

abbrev pub Many : Type 0
Many = List DestinationData

module _ (fails : Many → One → Bool) where
  pub no_more : (before : Many) (number : ℕ) → first_failing fails before number [] ≡ None
  unfolding first_failing
  no_more before number = refl

  pub fails_here : (before : Many) (number : ℕ) (element : One) (later : Many) → fails before element ≡ true → first_failing fails before number (element ∷ later) ≡ Some number
  unfolding first_failing
  fails_here before number element later e = rw e refl

  pub fails_later : (before : Many) (number : ℕ) (element : One) (later : Many) → fails before element ≡ false → first_failing fails before number (element ∷ later) ≡ first_failing fails (before ++ element ∷ []) (suc number) later
  unfolding first_failing
  fails_later before number element later e = rw e refl

head_is : (x y : One) (xs ys : Many) → x ∷ xs ≡ y ∷ ys → x ≡ y
head_is x y xs ys e = cc

tail_is : (x y : One) (xs ys : Many) → x ∷ xs ≡ y ∷ ys → xs ≡ ys
tail_is x y xs ys e = cc

behind_one : (before : Many) (x : One) (b : Many) → (before ++ x ∷ []) ++ b ≡ before ++ x ∷ b
behind_one before x b = append_assoc before (x ∷ []) b

module _ (fails : Many → One → Bool) (Fails : Many → One → Type 0)
    (is : (before : Many) (element : One) → fails before element ≡ true → Fails before element)
    (is_not : (before : Many) (element : One) → fails before element ≡ false → ¬ Fails before element) where
  -- none fails, of those behind some others
  abbrev NoneBehind : Many → Many → Type 0
  NoneBehind before elements = (b : Many) (e : One) (l : Many) → elements ≡ b ++ e ∷ l → ¬ Fails (before ++ b) e

  none_behind : (before : Many) (number : ℕ) (elements : Many) → first_failing fails before number elements ≡ None → NoneBehind before elements
  none_behind before number [] none [] e l parts = absurd cc
  none_behind before number [] none (y ∷ b) e l parts = absurd cc
  none_behind before number (x ∷ xs) none b e l parts =
      elim (cases_Bool (fails before x)) [
        | inl hit ↦ absurd (let bad = sym (fails_here fails before number x xs hit) ∙ none in cc)
        | inr miss ↦ go miss (none_behind (before ++ x ∷ []) (suc number) xs (sym (fails_later fails before number x xs miss) ∙ none)) b parts
      ]
    where
      go : fails before x ≡ false → NoneBehind (before ++ x ∷ []) xs → (b : Many) → x ∷ xs ≡ b ++ e ∷ l → ¬ Fails (before ++ b) e
      go miss behind [] parts =
          let same : x ≡ e = head_is x e xs l parts in
          subst (λ (o : Many). ¬ Fails o e) (sym (append-nil before)) (subst (λ (y : One). ¬ Fails before y) same (is_not before x miss))
      go miss behind (y ∷ b) parts =
          let same : x ≡ y = head_is x y xs (b ++ e ∷ l) parts in
          let later = behind b e l (tail_is x y xs (b ++ e ∷ l) parts) in
          let joined : (before ++ x ∷ []) ++ b ≡ before ++ y ∷ b = behind_one before x b ∙ ap (λ (z : One). before ++ z ∷ b) same in
          subst (λ (o : Many). ¬ Fails o e) joined later

  none_first : (before : Many) (number : ℕ) (elements : Many) → NoneBehind before elements → first_failing fails before number elements ≡ None
  none_first before number [] never = no_more fails before number
  none_first before number (x ∷ xs) never =
      elim (cases_Bool (fails before x)) [
        | inl hit ↦ absurd (never [] x xs refl (subst (λ (o : Many). Fails o x) (sym (append-nil before)) (is before x hit)))
        | inr miss ↦ fails_later fails before number x xs miss ∙ none_first (before ++ x ∷ []) (suc number) xs (λ b e l parts.
            subst (λ (o : Many). ¬ Fails o e) (sym (behind_one before x b)) (never (x ∷ b) e l (ap (λ (o : Many). x ∷ o) parts)))
      ]

  -- the first that fails behind some others
  record FirstBehind (before elements : Many) (number found : ℕ) : Type 0 where
    front : Many
    element : One
    later : Many
    parts : elements ≡ front ++ element ∷ later
    numbered : found ≡ number + length front
    failing : Fails (before ++ front) element
    none_before : NoneBehind before front

  first_behind : (before : Many) (number : ℕ) (elements : Many) (found : ℕ) → first_failing fails before number elements ≡ Some found → FirstBehind before elements number found
  first_behind before number [] found e = absurd (let bad = sym (no_more fails before number) ∙ e in cc)
  first_behind before number (x ∷ xs) found e =
      elim (cases_Bool (fails before x)) [
        | inl hit ↦
            let here : number ≡ found = some_is number found (sym (fails_here fails before number x xs hit) ∙ e) in
            record {
              front = [];
              element = x;
              later = xs;
              parts = refl;
              numbered = omega (arith, here);
              failing = subst (λ (o : Many). Fails o x) (sym (append-nil before)) (is before x hit);
              none_before = λ b y l parts. absurd (nothing b y l parts);
            }
        | inr miss ↦ on miss (first_behind (before ++ x ∷ []) (suc number) xs found (sym (fails_later fails before number x xs miss) ∙ e))
      ]
    where
      some_is : (a b : ℕ) → Some a ≡ Some b → a ≡ b
      some_is a b e = cc

      nothing : (b : Many) (y : One) (l : Many) → [] ≡ b ++ y ∷ l → ⊥
      nothing [] y l e = absurd cc
      nothing (z ∷ b) y l e = absurd cc

      on : fails before x ≡ false → FirstBehind (before ++ x ∷ []) xs (suc number) found → FirstBehind before (x ∷ xs) number found
      on miss h =
          record {
            front = x ∷ h.front;
            element = h.element;
            later = h.later;
            parts = ap (λ (o : Many). x ∷ o) h.parts;
            numbered = omega (arith, h.numbered);
            failing = subst (λ (o : Many). Fails o h.element) (behind_one before x h.front) h.failing;
            none_before = λ b y l parts. go b y l parts;
          }
        where
          go : (b : Many) (y : One) (l : Many) → x ∷ h.front ≡ b ++ y ∷ l → ¬ Fails (before ++ b) y
          go [] y l parts =
              let same : x ≡ y = head_is x y h.front l parts in
              subst (λ (o : Many). ¬ Fails o y) (sym (append-nil before)) (subst (λ (z : One). ¬ Fails before z) same (is_not before x miss))
          go (z ∷ b) y l parts =
              let same : x ≡ z = head_is x z h.front (b ++ y ∷ l) parts in
              let joined : (before ++ x ∷ []) ++ b ≡ before ++ z ∷ b = behind_one before x b ∙ ap (λ (w : One). before ++ w ∷ b) same in
              subst (λ (o : Many). ¬ Fails o y) joined (h.none_before b y l (tail_is x z h.front (b ++ y ∷ l) parts))

  is_first : (before : Many) (number : ℕ) (front : Many) (element : One) (later : Many) → Fails (before ++ front) element → NoneBehind before front → first_failing fails before number (front ++ element ∷ later) ≡ Some (number + length front)
  is_first before number [] element later failing never =
      elim (cases_Bool (fails before element)) [
        | inl hit ↦ let same : number ≡ number + 0 = omega arith in fails_here fails before number element later hit ∙ ap (λ (n : ℕ). Some n) same
        | inr miss ↦ absurd (is_not before element miss (subst (λ (o : Many). Fails o element) (append-nil before) failing))
      ]
  is_first before number (x ∷ front) element later failing never =
      elim (cases_Bool (fails before x)) [
        | inl hit ↦ absurd (never [] x front refl (subst (λ (o : Many). Fails o x) (sym (append-nil before)) (is before x hit)))
        | inr miss ↦
            let same : suc number + length front ≡ number + length (x ∷ front) = omega arith in
            fails_later fails before number x (front ++ element ∷ later) miss
            ∙ (is_first (before ++ x ∷ []) (suc number) front element later (subst (λ (o : Many). Fails o element) (sym (behind_one before x front)) failing)
            (λ b e l parts. subst (λ (o : Many). ¬ Fails o e) (sym (behind_one before x b)) (never (x ∷ b) e l (ap (λ (o : Many). x ∷ o) parts)))
            ∙ ap (λ (n : ℕ). Some n) same)
      ]

  -- ---- of all elements

  pub none_fails : (elements : Many) → first_failing fails [] 1 elements ≡ None → NoneFails Fails elements
  none_fails elements none before element later parts = none_behind [] 1 elements none before element later parts

  pub fails_none : (elements : Many) → NoneFails Fails elements → first_failing fails [] 1 elements ≡ None
  fails_none elements never = none_first [] 1 elements never

  pub first_fails : (elements : Many) (number : ℕ) → first_failing fails [] 1 elements ≡ Some number → IsFirst Fails elements number
  first_fails elements number e =
      let h = first_behind [] 1 elements number e in
      record { before = h.front; element = h.element; later = h.later; parts = h.parts; numbered = omega (arith, h.numbered); fails = h.failing; none_before = h.none_before }

  pub fails_first : (elements : Many) (number : ℕ) → IsFirst Fails elements number → first_failing fails [] 1 elements ≡ Some number
  fails_first elements number h =
      let same : 1 + length h.before ≡ number = omega (arith, h.numbered) in
      ap (first_failing fails [] 1) h.parts ∙ (is_first [] 1 h.before h.element h.later h.fails h.none_before ∙ ap (λ (n : ℕ). Some n) same)

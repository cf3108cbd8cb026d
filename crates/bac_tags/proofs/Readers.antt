-- The clauses of a reader whose answer is the value of a content.
use Rattle.std.proofs.Common.{◌≡◌, ℕ, ◌+◌, ◌≤◌, Option, Some, None, List, ◌++◌, length, get_or, drop, Result, Ok, Err, refl, sym, ap, subst, ◌∙◌, append_assoc, arith, inl, inr}
use Rattle.std.specs.Prelude.{◌↔◌, ◌⊎◌, IfOk, ok_or}
use Rattle.std.proofs.lemmas.Bool.{cases_lt}
use Rattle.std.proofs.lemmas.List.{get_or-drop, get_or-append-add, get_or_append_left, get_or_past}
use Rattle.bac_tags.specs.declared.fault.TagFault.{TagFault}
use Rattle.bac_tags.specs.declared.fault.TagFault.TheVariants.{Truncated, WrongTag, BadLength}
use Rattle.bac_tags.specs.Places.{IsSpelledAt}
use Rattle.bac_tags.specs.Elements.{SpellsElement, IsBetween, EndsInElement, HasOtherTag, HasOtherLength, HasOtherForm}
use Rattle.bac_tags.specs.ReadingSteps.{◌>>=◌, valued, formed, content_at}
use Rattle.bac_tags.proofs.Steps.{bind_ok, bind_err, ok_is}
use Rattle.bac_tags.proofs.Standing.{IsBytes, Stands, Stands-from}
use Rattle.bac_tags.proofs.Answered.{Spelled, is_found, is_only}
use Rattle.bac_tags.proofs.ElementLaws.{StandsContent, content_found, content_again, content_truncated, content_wrong_tag, content_bad_length}

-- octets that stand in the input are below 256
pub part_bytes : (input : List ℕ) (place : ℕ) (xs ys : List ℕ) (end : ℕ) → IsBytes input → Stands input place (xs ++ ys) end → IsBytes ys
part_bytes input place xs ys end bytes p i =
    elim (cases_lt i (length ys)) [
      | inl lt ↦
          let whole : drop place input ≡ xs ++ (ys ++ drop end input) = p.parts ∙ append_assoc xs ys (drop end input) in
          let here : get_or input (place + (length xs + i)) 0 ≡ get_or ys i 0 = sym (get_or-drop place input (length xs + i) 0) ∙ ap (λ (zs : List ℕ). get_or zs (length xs + i) 0) whole ∙ get_or-append-add xs (ys ++ drop end input) i 0 ∙ get_or_append_left ys (drop end input) 0 i lt in
          omega (arith, here, bytes (place + (length xs + i)))
      | inr le ↦ omega (arith, get_or_past ys i 0 le)
    ]

-- a step that can't fail changes no fault
valued_err : {X : Type 0} (value : List ℕ → X) (read : Result (List ℕ × ℕ) TagFault) (e : TagFault) → (valued value read ≡ Err e) ↔ (read ≡ Err e)
valued_err value (Ok x) e = (λ h. absurd cc, λ h. absurd cc)
valued_err value (Err d) e = (λ h. let same : d ≡ e = cc in ap Err same, λ h. let same : d ≡ e = cc in ap Err same)

-- what is known of a reader
pub record Reads {X : Type 0} (type : ℕ) (context : Option ℕ) (least most : ℕ) (IsContent : List ℕ → X → Type 0) (input : List ℕ) (place : ℕ) (answer : Result (X × ℕ) TagFault) : Type 0 where
  pub found : IfOk answer (λ x. IsSpelledAt (SpellsElement type context IsContent) input place x.0 x.1)
  pub only : (value : X) (end : ℕ) → IsSpelledAt (SpellsElement type context IsContent) input place value end → answer ≡ Ok (value, end)
  pub truncated : (answer ≡ Err (Truncated (length input))) ↔ EndsInElement type context least most (drop place input)
  pub wrong_tag : (answer ≡ Err (WrongTag place)) ↔ HasOtherTag type context (drop place input)
  pub bad_length : (answer ≡ Err (BadLength place)) ↔ HasOtherLength type context least most (drop place input)

-- a value of each content of a right length, and of no other
pub record Values {X : Type 0} (least most : ℕ) (value : List ℕ → X) (IsContent : List ℕ → X → Type 0) : Type 0 where
  pub is : (content : List ℕ) → IsBytes content → IsBetween least most (length content) → IsContent content (value content)
  pub right : (content : List ℕ) (x : X) → IsContent content x → IsBetween least most (length content)
  pub one : (content : List ℕ) (x : X) → IsContent content x → value content ≡ x

value_found : {X : Type 0} (type : ℕ) (context : Option ℕ) (least most : ℕ) (value : List ℕ → X) (IsContent : List ℕ → X → Type 0) (v : Values least most value IsContent) (input : List ℕ) (place : ℕ) (x : X × ℕ)
    → IsBytes input → place ≤ length input → valued value (content_at input place type context least most) ≡ Ok x → Spelled (SpellsElement type context IsContent) input place x.0 x.1
value_found {X = X} type context least most value IsContent v input place x bytes le e =
    let b = bind_ok (content_at input place type context least most) (λ c. Ok (value c.0, c.1)) x e in
    let s = content_found input place type context least most b.0 bytes le b.1 in
    subst (λ (y : X × ℕ). Spelled (SpellsElement type context IsContent) input place y.0 y.1) (ok_is (value b.0.0, b.0.1) x b.2) (record {
      octets = s.header ++ b.0.0;
      stands = s.stands;
      spells = record { header = s.header; content = b.0.0; parts = refl; tagged = s.tagged; is = v.is b.0.0 (part_bytes input place s.header b.0.0 b.0.1 bytes s.stands) s.right };
    })

pub value_again : {X : Type 0} (type : ℕ) (context : Option ℕ) (least most : ℕ) (value : List ℕ → X) (IsContent : List ℕ → X → Type 0) (v : Values least most value IsContent) (input : List ℕ) (place : ℕ) → place ≤ length input
    → (octets : List ℕ) (x : X) (end : ℕ) → SpellsElement type context IsContent octets x → Stands input place octets end → valued value (content_at input place type context least most) ≡ Ok (x, end)
value_again type context least most value IsContent v input place le octets x end s p =
    let stands : StandsContent input place type context least most s.content end = record { header = s.header; stands = subst (λ (o : List ℕ). Stands input place o end) s.parts p; tagged = s.tagged; right = v.right s.content x s.is } in
    rw (content_again input place type context least most s.content end le stands, v.one s.content x s.is) refl

pub reads : {X : Type 0} (type : ℕ) (context : Option ℕ) (least most : ℕ) (value : List ℕ → X) (IsContent : List ℕ → X → Type 0) → Values least most value IsContent → (input : List ℕ) (place : ℕ) (answer : Result (X × ℕ) TagFault)
    → IsBytes input → place ≤ length input → answer ≡ valued value (content_at input place type context least most) → Reads type context least most IsContent input place answer
reads type context least most value IsContent v input place answer bytes le e =
    let read = content_at input place type context least most in
    let same : (f : TagFault) → (answer ≡ Err f) ↔ (read ≡ Err f) = λ f. (λ h. (valued_err value read f).0 (sym e ∙ h), λ h. e ∙ (valued_err value read f).1 h) in
    let t = content_truncated input place type context least most bytes le in
    let w = content_wrong_tag input place type context least most bytes le in
    let b = content_bad_length input place type context least most bytes le in
    record {
      found = is_found (SpellsElement type context IsContent) input place answer (valued value read) e (λ x h. value_found type context least most value IsContent v input place x bytes le h);
      only = λ x end s. e ∙ is_only (SpellsElement type context IsContent) input place (valued value read) (value_again type context least most value IsContent v input place le) x end s;
      truncated = (λ h. t.0 ((same (Truncated (length input))).0 h), λ h. (same (Truncated (length input))).1 (t.1 h));
      wrong_tag = (λ h. w.0 ((same (WrongTag place)).0 h), λ h. (same (WrongTag place)).1 (w.1 h));
      bad_length = (λ h. b.0 ((same (BadLength place)).0 h), λ h. (same (BadLength place)).1 (b.1 h));
    }

-- ---- a content that may have another form

-- what is known of a reader that looks at the content's form
pub record ReadsForm {X : Type 0} (type : ℕ) (context : Option ℕ) (least most : ℕ) (IsContent : List ℕ → X → Type 0) (input : List ℕ) (place : ℕ) (answer : Result (X × ℕ) TagFault) : Type 0 where
  pub found : IfOk answer (λ x. IsSpelledAt (SpellsElement type context IsContent) input place x.0 x.1)
  pub only : (value : X) (end : ℕ) → IsSpelledAt (SpellsElement type context IsContent) input place value end → answer ≡ Ok (value, end)
  pub truncated : (answer ≡ Err (Truncated (length input))) ↔ EndsInElement type context least most (drop place input)
  pub wrong_tag : (answer ≡ Err (WrongTag place)) ↔ HasOtherTag type context (drop place input)
  pub bad_length : (answer ≡ Err (BadLength place)) ↔ (HasOtherLength type context least most (drop place input) ⊎ HasOtherForm type context least most IsContent (drop place input))

-- a value of each content of its form, and of no other
pub record Forms {X : Type 0} (least most : ℕ) (value : List ℕ → Option X) (IsContent : List ℕ → X → Type 0) : Type 0 where
  pub is : (content : List ℕ) (x : X) → IsBytes content → IsBetween least most (length content) → value content ≡ Some x → IsContent content x
  pub right : (content : List ℕ) (x : X) → IsContent content x → IsBetween least most (length content)
  pub one : (content : List ℕ) (x : X) → IsContent content x → value content ≡ Some x

abbrev after_form : {X : Type 0} → (List ℕ → Option X) → ℕ → List ℕ × ℕ → Result (X × ℕ) TagFault
after_form value place x = ok_or (value x.0) (BadLength place) >>= λ v. Ok (v, x.1)

abbrev pub ends_at : {X : Type 0} → ℕ → X → Result (X × ℕ) TagFault
ends_at end v = Ok (v, end)

-- what a form's test fails with
pub form_err : {X : Type 0} (o : Option X) (place end : ℕ) (e : TagFault) → (ok_or o (BadLength place) >>= ends_at end) ≡ Err e → (o ≡ None) × (e ≡ BadLength place)
form_err (Some v) place end e h = absurd cc
form_err None place end e h = (refl, cc)

pub form_ok : {X : Type 0} (o : Option X) (place end : ℕ) (y : X × ℕ) → (ok_or o (BadLength place) >>= ends_at end) ≡ Ok y → (o ≡ Some y.0) × (end ≡ y.1)
form_ok {X = X} (Some v) place end y h = let same = ok_is (v, end) y h in (ap (λ (x : X × ℕ). Some x.0) same, ap (λ (x : X × ℕ). x.1) same)
form_ok None place end y h = absurd cc

form_found : {X : Type 0} (type : ℕ) (context : Option ℕ) (least most : ℕ) (value : List ℕ → Option X) (IsContent : List ℕ → X → Type 0) (v : Forms least most value IsContent) (input : List ℕ) (place : ℕ) (y : X × ℕ)
    → IsBytes input → place ≤ length input → formed value place (content_at input place type context least most) ≡ Ok y → Spelled (SpellsElement type context IsContent) input place y.0 y.1
form_found type context least most value IsContent v input place y bytes le e =
    let b = bind_ok (content_at input place type context least most) (after_form value place) y e in
    let s = content_found input place type context least most b.0 bytes le b.1 in
    let f = form_ok (value b.0.0) place b.0.1 y b.2 in
    record {
      octets = s.header ++ b.0.0;
      stands = subst (Stands input place (s.header ++ b.0.0)) f.1 s.stands;
      spells = record { header = s.header; content = b.0.0; parts = refl; tagged = s.tagged; is = v.is b.0.0 y.0 (part_bytes input place s.header b.0.0 b.0.1 bytes s.stands) s.right f.0 };
    }

pub form_again : {X : Type 0} (type : ℕ) (context : Option ℕ) (least most : ℕ) (value : List ℕ → Option X) (IsContent : List ℕ → X → Type 0) (v : Forms least most value IsContent) (input : List ℕ) (place : ℕ) → place ≤ length input
    → (octets : List ℕ) (x : X) (end : ℕ) → SpellsElement type context IsContent octets x → Stands input place octets end → formed value place (content_at input place type context least most) ≡ Ok (x, end)
form_again type context least most value IsContent v input place le octets x end s p =
    let stands : StandsContent input place type context least most s.content end = record { header = s.header; stands = subst (λ (o : List ℕ). Stands input place o end) s.parts p; tagged = s.tagged; right = v.right s.content x s.is } in
    rw (content_again input place type context least most s.content end le stands, v.one s.content x s.is) refl

-- a reading of a content that has another form
form_other : {X : Type 0} (type : ℕ) (context : Option ℕ) (least most : ℕ) (value : List ℕ → Option X) (IsContent : List ℕ → X → Type 0) (v : Forms least most value IsContent) (input : List ℕ) (place : ℕ) → IsBytes input → place ≤ length input
    → HasOtherForm type context least most IsContent (drop place input) → formed value place (content_at input place type context least most) ≡ Err (BadLength place)
form_other {X = X} type context least most value IsContent v input place bytes le h =
    let stands = Stands-from input place (h.header ++ h.content) h.rest h.parts in
    let s : StandsContent input place type context least most h.content (place + length (h.header ++ h.content)) = record { header = h.header; stands = stands; tagged = h.tagged; right = h.right } in
    rw (content_again input place type context least most h.content (place + length (h.header ++ h.content)) le s) (none (value h.content) (λ x e. h.wrong x (v.is h.content x (part_bytes input place h.header h.content (place + length (h.header ++ h.content)) bytes stands) h.right e)))
  where
    none : (o : Option X) → ((x : X) → o ≡ Some x → ⊥) → (ok_or o (BadLength place) >>= ends_at (place + length (h.header ++ h.content))) ≡ Err (BadLength place)
    none (Some x) never = absurd (never x refl)
    none None never = refl

form_bad : {X : Type 0} (type : ℕ) (context : Option ℕ) (least most : ℕ) (value : List ℕ → Option X) (IsContent : List ℕ → X → Type 0) (v : Forms least most value IsContent) (input : List ℕ) (place : ℕ) (x : List ℕ × ℕ) → IsBytes input → place ≤ length input
    → content_at input place type context least most ≡ Ok x → value x.0 ≡ None → HasOtherForm type context least most IsContent (drop place input)
form_bad type context least most value IsContent v input place x bytes le e none =
    let s = content_found input place type context least most x bytes le e in
    record { header = s.header; content = x.0; rest = drop x.1 input; parts = s.stands.parts; tagged = s.tagged; right = s.right; wrong = λ y h. let some = v.one x.0 y h in cc }

pub reads_form : {X : Type 0} (type : ℕ) (context : Option ℕ) (least most : ℕ) (value : List ℕ → Option X) (IsContent : List ℕ → X → Type 0) → Forms least most value IsContent → (input : List ℕ) (place : ℕ) (answer : Result (X × ℕ) TagFault)
    → IsBytes input → place ≤ length input → answer ≡ formed value place (content_at input place type context least most) → ReadsForm type context least most IsContent input place answer
reads_form {X = X} type context least most value IsContent v input place answer bytes le e =
    record {
      found = is_found (SpellsElement type context IsContent) input place answer read e (λ x h. form_found type context least most value IsContent v input place x bytes le h);
      only = λ x end s. e ∙ is_only (SpellsElement type context IsContent) input place read (form_again type context least most value IsContent v input place le) x end s;
      truncated = (λ h. t.0 (elim (causes (Truncated (length input)) (sym e ∙ h)) [ inl a ↦ a | inr a ↦ absurd (let bad = a.2 in cc) ]), λ h. e ∙ passes (Truncated (length input)) (t.1 h));
      wrong_tag = (λ h. w.0 (elim (causes (WrongTag place) (sym e ∙ h)) [ inl a ↦ a | inr a ↦ absurd (let bad = a.2 in cc) ]), λ h. e ∙ passes (WrongTag place) (w.1 h));
      bad_length = (λ h. elim (causes (BadLength place) (sym e ∙ h)) [ inl a ↦ inl (b.0 a) | inr a ↦ inr (form_bad type context least most value IsContent v input place a.0 bytes le a.1.0 a.1.1) ], λ h. e ∙ bad h);
    }
  where
    content : Result (List ℕ × ℕ) TagFault
    content = content_at input place type context least most

    read : Result (X × ℕ) TagFault
    read = formed value place content

    t : (content ≡ Err (Truncated (length input))) ↔ EndsInElement type context least most (drop place input)
    t = content_truncated input place type context least most bytes le

    w : (content ≡ Err (WrongTag place)) ↔ HasOtherTag type context (drop place input)
    w = content_wrong_tag input place type context least most bytes le

    b : (content ≡ Err (BadLength place)) ↔ HasOtherLength type context least most (drop place input)
    b = content_bad_length input place type context least most bytes le

    passes : (f : TagFault) → content ≡ Err f → read ≡ Err f
    passes f h = ap (formed value place) h

    causes : (f : TagFault) → read ≡ Err f → (content ≡ Err f) ⊎ ((x : List ℕ × ℕ) × ((content ≡ Ok x) × (value x.0 ≡ None)) × (f ≡ BadLength place))
    causes f h = elim (bind_err content (after_form value place) f h) [
      | inl a ↦ inl a
      | inr a ↦ let c = form_err (value a.0.0) place a.0.1 f a.2 in inr (a.0, (a.1, c.0), c.1)
    ]

    bad : HasOtherLength type context least most (drop place input) ⊎ HasOtherForm type context least most IsContent (drop place input) → read ≡ Err (BadLength place)
    bad (inl h) = passes (BadLength place) (b.1 h)
    bad (inr h) = form_other type context least most value IsContent v input place bytes le h

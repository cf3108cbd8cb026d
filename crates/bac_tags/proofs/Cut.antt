-- Where a tag isn't read, the octets end within it.
use Rattle.std.proofs.Common.{◌≡◌, ℕ, ◌+◌, ◌-◌, ◌/◌, ◌%◌, ◌<◌, ◌≢◌, false, cond, eqb, ltb, List, [], ◌∷◌, ◌++◌, length, drop, replicate, Ok, Err, refl, sym, ap, ◌∙◌, append_assoc, arith, inl, inr}
use Rattle.std.specs.Prelude.{◌↔◌, slice_index}
use Rattle.std.proofs.lemmas.Bool.{eqb-true, ltb-false, cases_lt, cases_eq}
use Rattle.std.proofs.lemmas.List.{length-append, length-replicate, length-drop, drop_all, nil_from_length, append-nil}
use Rattle.byteorder.specs.Endian.{big_number}
use Rattle.bac_tags.specs.declared.fault.TagFault.{TagFault}
use Rattle.bac_tags.specs.declared.fault.TagFault.TheVariants.{Truncated}
use Rattle.bac_tags.specs.declared.tag.Tag.{Tag}
use Rattle.bac_tags.specs.declared.tag.Shape.{Shape}
use Rattle.bac_tags.specs.declared.tag.Shape.TheVariants.{Primitive, Opening, Closing}
use Rattle.bac_tags.specs.Tags.{SpellsLength, SpellsShape, SpellsTag, EndsInTag}
use Rattle.bac_tags.specs.ReadingSteps.{◌>>=◌, octet_at, octets_at, number_at, extended_at, shape_at, tag_at}
use Rattle.bac_tags.proofs.Steps.{bind_err, chosen, ok_is, fails}
use Rattle.bac_tags.proofs.Standing.{IsBytes, Stands-from, octet_found, octet_small, octets_cut}
use Rattle.bac_tags.proofs.TagLaws.{number_found, tag_found, tag_again}

octet_cut : (input : List ℕ) (place : ℕ) (e : TagFault) → octet_at input place ≡ Err e → (drop place input ≡ []) × (e ≡ Truncated (length input))
unfolding octet_at
octet_cut input place e h =
    elim (chosen (ltb place (length input)) (Ok (slice_index input place)) (Err (Truncated (length input))) (Err e) h) [
      | inl g ↦ absurd cc
      | inr g ↦ (drop_all place input (ltb-false _ _ g.0), cc)
    ]

-- what is missing behind a front of octets
pub record Missing {X : Type 0} (Spells : List ℕ → X → Type 0) (front : List ℕ) : Type 0 where
  pub missing : List ℕ
  pub some : missing ≢ []
  pub value : X
  pub spelled : Spells (front ++ missing) value

abbrev padding : ℕ → List ℕ → List ℕ
padding n front = replicate (n - length front) 0

length-padding : (n : ℕ) (front : List ℕ) → length front < n → length (front ++ padding n front) ≡ n
length-padding n front lt = omega (arith, length-append front (padding n front), length-replicate {A = ℕ} (n - length front) 0)

some_padding : (n : ℕ) (front : List ℕ) → length front < n → padding n front ≢ []
some_padding n front lt e = omega (arith, ap length e, length-replicate {A = ℕ} (n - length front) 0)

number_cut : (input : List ℕ) (place high : ℕ) (e : TagFault) → number_at input place high ≡ Err e → (high ≡ 15) × (drop place input ≡ []) × (e ≡ Truncated (length input))
unfolding number_at
number_cut input place high e h =
    elim (chosen (eqb high 15) (octet_at input place >>= λ number. Ok (number, place + 1)) (Ok (high, place)) (Err e) h) [
      | inl g ↦
          elim (bind_err (octet_at input place) (λ number. Ok (number, place + 1)) e g.1) [
            | inl o ↦ let c = octet_cut input place e o in (eqb-true _ _ g.0, c.0, c.1)
            | inr o ↦ absurd (let bad = o.2 in cc)
          ]
      | inr g ↦ absurd cc
    ]

extended_cut : (input : List ℕ) (place : ℕ) (e : TagFault) → extended_at input place ≡ Err e → Missing SpellsLength (drop place input) × (e ≡ Truncated (length input))
unfolding extended_at
extended_cut input place e h =
    elim (bind_err (octet_at input place) (λ first. cond (eqb first 254) (octets_at input (place + 1) 2 >>= λ octets. Ok (big_number 2 octets, place + 3)) (cond (eqb first 255) (octets_at input (place + 1) 4 >>= λ octets. Ok (big_number 4 octets, place + 5)) (Ok (first, place + 1)))) e h) [
      | inl o ↦
          let c = octet_cut input place e o in
          (record { missing = 0 ∷ []; some = λ bad. cc; value = 0; spelled = rw c.0 (inl (omega arith, refl, refl)) }, c.1)
      | inr b ↦
          let o = octet_found input place b.0 b.1 in
          let rest = drop (place + 1) input in
          elim (chosen (eqb b.0 254) (octets_at input (place + 1) 2 >>= λ octets. Ok (big_number 2 octets, place + 3)) (cond (eqb b.0 255) (octets_at input (place + 1) 4 >>= λ octets. Ok (big_number 4 octets, place + 5)) (Ok (b.0, place + 1))) (Err e) b.2) [
            | inl g ↦
                elim (bind_err (octets_at input (place + 1) 2) (λ octets. Ok (big_number 2 octets, place + 3)) e g.1) [
                  | inl two ↦
                      let c = octets_cut input (place + 1) 2 e two in
                      let lt : length rest < 2 = omega (arith, c.0, o.1, length-drop (place + 1) input) in
                      (record { missing = padding 2 rest; some = some_padding 2 rest lt; value = big_number 2 (rest ++ padding 2 rest); spelled = rw o.0.parts (inr (inl (eqb-true _ _ g.0, length-padding 2 rest lt, refl))) }, c.1)
                  | inr two ↦ absurd (let bad = two.2 in cc)
                ]
            | inr g ↦
                elim (chosen (eqb b.0 255) (octets_at input (place + 1) 4 >>= λ octets. Ok (big_number 4 octets, place + 5)) (Ok (b.0, place + 1)) (Err e) g.1) [
                  | inl k ↦
                      elim (bind_err (octets_at input (place + 1) 4) (λ octets. Ok (big_number 4 octets, place + 5)) e k.1) [
                        | inl four ↦
                            let c = octets_cut input (place + 1) 4 e four in
                            let lt : length rest < 4 = omega (arith, c.0, o.1, length-drop (place + 1) input) in
                            (record { missing = padding 4 rest; some = some_padding 4 rest lt; value = big_number 4 (rest ++ padding 4 rest); spelled = rw o.0.parts (inr (inr (eqb-true _ _ k.0, length-padding 4 rest lt, refl))) }, c.1)
                        | inr four ↦ absurd (let bad = four.2 in cc)
                      ]
                  | inr k ↦ absurd (let bad = k.1 in cc)
                ]
          ]
    ]

shape_cut : (input : List ℕ) (place low : ℕ) (e : TagFault) → shape_at input place low ≡ Err e → Missing (SpellsShape low) (drop place input) × (e ≡ Truncated (length input))
unfolding shape_at
shape_cut input place low e h =
    elim (chosen (eqb low 5) (extended_at input place >>= λ long. Ok (Primitive long.0, long.1)) (cond (eqb low 6) (Ok (Opening, place)) (cond (eqb low 7) (Ok (Closing, place)) (Ok (Primitive low, place)))) (Err e) h) [
      | inl g ↦
          elim (bind_err (extended_at input place) (λ long. Ok (Primitive long.0, long.1)) e g.1) [
            | inl long ↦
                let c = extended_cut input place e long in
                (record { missing = c.0.missing; some = c.0.some; value = Primitive c.0.value; spelled = inr (eqb-true _ _ g.0, c.0.spelled) }, c.1)
            | inr long ↦ absurd (let bad = long.2 in cc)
          ]
      | inr g5 ↦
          elim (chosen (eqb low 6) (Ok (Opening, place)) (cond (eqb low 7) (Ok (Closing, place)) (Ok (Primitive low, place))) (Err e) g5.1) [
            | inl g ↦ absurd (let bad = g.1 in cc)
            | inr g6 ↦
                elim (chosen (eqb low 7) (Ok (Closing, place)) (Ok (Primitive low, place)) (Err e) g6.1) [
                  | inl g ↦ absurd (let bad = g.1 in cc)
                  | inr g ↦ absurd (let bad = g.1 in cc)
                ]
          ]
    ]

-- some octets spell some shape
some_shape : (low : ℕ) → low < 8 → (octets : List ℕ) × ((shape : Shape) × SpellsShape low octets shape)
some_shape low small =
    elim (cases_lt low 5) [
      | inl lt ↦ ([], (Primitive low, inl (lt, refl, refl)))
      | inr le ↦
          elim (cases_eq low 5) [
            | inl five ↦ (0 ∷ [], (Primitive 0, inr (five, inl (omega arith, refl, refl))))
            | inr not5 ↦
                elim (cases_eq low 6) [
                  | inl six ↦ ([], (Opening, (six, refl)))
                  | inr not6 ↦ ([], (Closing, (omega arith, refl)))
                ]
          ]
    ]

pub tag_cut : (input : List ℕ) (place : ℕ) (e : TagFault) → IsBytes input → tag_at input place ≡ Err e → EndsInTag (drop place input) × (e ≡ Truncated (length input))
unfolding tag_at
tag_cut input place e bytes h =
    elim (bind_err (octet_at input place) (λ first. number_at input (place + 1) (first / 16) >>= λ number. shape_at input number.1 (first % 8) >>= λ shape. Ok (record { number = number.0; context = eqb (first / 8 % 2) 1; shape = shape.0 }, shape.1)) e h) [
      | inl o ↦
          let c = octet_cut input place e o in
          let zero_tag : SpellsTag (0 ∷ []) (record { number = 0; context = false; shape = Primitive 0 }) = record { initial = 0; number = []; length = []; parts = refl; numbered = inl (omega arith, refl, refl); class = refl; shaped = inl (omega arith, refl, refl) } in
          (record { tag = record { number = 0; context = false; shape = Primitive 0 }; missing = 0 ∷ []; some = λ bad. cc; spelled = rw c.0 zero_tag }, c.1)
      | inr a ↦
          let o = octet_found input place a.0 a.1 in
          let small : a.0 < 256 = octet_small input place a.0 (place + 1) bytes o.0 in
          elim (bind_err (number_at input (place + 1) (a.0 / 16)) (λ number. shape_at input number.1 (a.0 % 8) >>= λ shape. Ok (record { number = number.0; context = eqb (a.0 / 8 % 2) 1; shape = shape.0 }, shape.1)) e a.2) [
            | inl n ↦
                let c = number_cut input (place + 1) (a.0 / 16) e n in
                let s = some_shape (a.0 % 8) (omega arith) in
                let spells : SpellsTag (a.0 ∷ (0 ∷ s.0)) (record { number = 0; context = eqb (a.0 / 8 % 2) 1; shape = s.1.0 }) = record { initial = a.0; number = 0 ∷ []; length = s.0; parts = refl; numbered = inr (c.0, refl); class = refl; shaped = s.1.1 } in
                (record { tag = record { number = 0; context = eqb (a.0 / 8 % 2) 1; shape = s.1.0 }; missing = 0 ∷ s.0; some = λ bad. cc; spelled = rw (o.0.parts, c.1) spells }, c.2)
            | inr b ↦
                let n = number_found input (place + 1) (a.0 / 16) b.0 (omega (arith, small)) b.1 in
                elim (bind_err (shape_at input b.0.1 (a.0 % 8)) (λ shape. Ok (record { number = b.0.0; context = eqb (a.0 / 8 % 2) 1; shape = shape.0 }, shape.1)) e b.2) [
                  | inl s ↦
                      let c = shape_cut input b.0.1 (a.0 % 8) e s in
                      let whole : drop place input ++ c.0.missing ≡ a.0 ∷ (n.octets ++ (drop b.0.1 input ++ c.0.missing)) = ap (λ (r : List ℕ). r ++ c.0.missing) (o.0.parts ∙ ap (λ (r : List ℕ). a.0 ∷ r) n.stands.parts) ∙ ap (λ (r : List ℕ). a.0 ∷ r) (append_assoc n.octets (drop b.0.1 input) c.0.missing) in
                      (record { tag = record { number = b.0.0; context = eqb (a.0 / 8 % 2) 1; shape = c.0.value }; missing = c.0.missing; some = c.0.some; spelled = record { initial = a.0; number = n.octets; length = drop b.0.1 input ++ c.0.missing; parts = whole; numbered = n.spells; class = refl; shaped = c.0.spelled } }, c.1)
                  | inr s ↦ absurd (let bad = s.2 in cc)
                ]
          ]
    ]

-- a tag that is read doesn't end later
pub tag_whole : (input : List ℕ) (place : ℕ) (x : Tag × ℕ) → IsBytes input → tag_at input place ≡ Ok x → EndsInTag (drop place input) → ⊥
tag_whole input place x bytes e cut =
    let f = tag_found input place x bytes e in
    let longer = drop place input ++ cut.missing in
    let front : longer ≡ f.octets ++ (drop x.1 input ++ cut.missing) = ap (λ (r : List ℕ). r ++ cut.missing) f.stands.parts ∙ append_assoc f.octets (drop x.1 input) cut.missing in
    let one = tag_again longer 0 f.octets x.0 (0 + length f.octets) f.spells (Stands-from longer 0 f.octets (drop x.1 input ++ cut.missing) front) in
    let all = tag_again longer 0 longer cut.tag (0 + length longer) cut.spelled (Stands-from longer 0 longer [] (sym (append-nil longer))) in
    let same : 0 + length f.octets ≡ 0 + length longer = ap (λ (y : Tag × ℕ). y.1) (ok_is (x.0, 0 + length f.octets) (cut.tag, 0 + length longer) (sym one ∙ all)) in
    let none : cut.missing ≡ [] = nil_from_length cut.missing (omega (arith, same, ap length front, length-append f.octets (drop x.1 input ++ cut.missing), length-append (drop x.1 input) cut.missing, length-append (drop place input) cut.missing, ap length f.stands.parts, length-append f.octets (drop x.1 input))) in
    cut.some none

-- exactly where a tag isn't read
pub tag_truncated : (input : List ℕ) (place : ℕ) → IsBytes input → (tag_at input place ≡ Err (Truncated (length input))) ↔ EndsInTag (drop place input)
tag_truncated input place bytes =
    (λ h. (tag_cut input place (Truncated (length input)) bytes h).0, λ cut. fails (tag_at input place) (Truncated (length input)) (λ x e. tag_whole input place x bytes e cut) (λ e h. (tag_cut input place e bytes h).1))

-- A tag that is read is spelled so, and a tag that is spelled so is read.
use Rattle.std.proofs.Common.{◌≡◌, ℕ, ◌+◌, ◌/◌, ◌%◌, ◌<◌, ◌≤◌, true, false, cond, eqb, List, [], ◌∷◌, ◌++◌, length, Ok, refl, ap, subst, arith, inl, inr}
use Rattle.std.proofs.lemmas.Bool.{eqb-true, eqb-false, eq-eqb, ne_eqb}
use Rattle.byteorder.specs.Endian.{big_number}
use Rattle.bac_tags.specs.declared.tag.Tag.{Tag}
use Rattle.bac_tags.specs.declared.tag.Shape.{Shape}
use Rattle.bac_tags.specs.declared.tag.Shape.TheVariants.{Primitive, Opening, Closing}
use Rattle.bac_tags.specs.Tags.{SpellsTagNumber, SpellsLength, SpellsShape, SpellsTag}
use Rattle.bac_tags.specs.ReadingSteps.{◌>>=◌, octet_at, octets_at, number_at, extended_at, shape_at, tag_at}
use Rattle.bac_tags.proofs.Steps.{bind_ok, chosen, ok_is}
use Rattle.bac_tags.proofs.Answered.{Spelled}
use Rattle.bac_tags.proofs.Standing.{IsBytes, Stands, Stands-nil, Stands-then, Stands-front, Stands-back, octet_found, octet_small, octet_again, octets_found, octets_again}

pub number_found : (input : List ℕ) (place high : ℕ) (x : ℕ × ℕ) → high ≤ 15 → number_at input place high ≡ Ok x → Spelled (SpellsTagNumber high) input place x.0 x.1
unfolding number_at
number_found input place high x small e =
    elim (chosen (eqb high 15) (octet_at input place >>= λ number. Ok (number, place + 1)) (Ok (high, place)) (Ok x) e) [
      | inl h ↦
          let b = bind_ok (octet_at input place) (λ number. Ok (number, place + 1)) x h.1 in
          let o = octet_found input place b.0 b.1 in
          subst (λ (y : ℕ × ℕ). Spelled (SpellsTagNumber high) input place y.0 y.1) (ok_is (b.0, place + 1) x b.2) (record { octets = b.0 ∷ []; stands = o.0; spells = inr (eqb-true _ _ h.0, refl) })
      | inr h ↦
          let ne = eqb-false _ _ h.0 in
          let below : high < 15 = omega arith in
          subst (λ (y : ℕ × ℕ). Spelled (SpellsTagNumber high) input place y.0 y.1) (ok_is (high, place) x h.1) (record { octets = []; stands = Stands-nil input place; spells = inl (below, refl, refl) })
    ]

number_again : (input : List ℕ) (place high : ℕ) (octets : List ℕ) (n end : ℕ) → SpellsTagNumber high octets n → Stands input place octets end → number_at input place high ≡ Ok (n, end)
unfolding number_at
number_again input place high octets n end (inl h) p =
    let no : eqb high 15 ≡ false = ne_eqb _ _ (λ e. omega arith) in
    let here : end ≡ place = omega (arith, p.ends, ap length h.1) in
    rw (no, h.2, here) refl
number_again input place high octets n end (inr h) p =
    let yes : eqb high 15 ≡ true = eq-eqb _ _ h.0 in
    let q : Stands input place (n ∷ []) end = subst (λ (o : List ℕ). Stands input place o end) h.1 p in
    let here : end ≡ place + 1 = omega (arith, q.ends) in
    rw (yes, octet_again input place n end q, here) refl

extended_found : (input : List ℕ) (place : ℕ) (x : ℕ × ℕ) → IsBytes input → extended_at input place ≡ Ok x → Spelled SpellsLength input place x.0 x.1
unfolding extended_at
extended_found input place x bytes e =
    let b = bind_ok (octet_at input place) (λ first. cond (eqb first 254) (octets_at input (place + 1) 2 >>= λ octets. Ok (big_number 2 octets, place + 3)) (cond (eqb first 255) (octets_at input (place + 1) 4 >>= λ octets. Ok (big_number 4 octets, place + 5)) (Ok (first, place + 1)))) x e in
    let o = octet_found input place b.0 b.1 in
    let small : b.0 < 256 = octet_small input place b.0 (place + 1) bytes o.0 in
    elim (chosen (eqb b.0 254) (octets_at input (place + 1) 2 >>= λ octets. Ok (big_number 2 octets, place + 3)) (cond (eqb b.0 255) (octets_at input (place + 1) 4 >>= λ octets. Ok (big_number 4 octets, place + 5)) (Ok (b.0, place + 1))) (Ok x) b.2) [
      | inl h ↦
          let two = bind_ok (octets_at input (place + 1) 2) (λ octets. Ok (big_number 2 octets, place + 3)) x h.1 in
          let q = octets_found input (place + 1) 2 two.0 (omega (arith, o.1)) two.1 in
          let k : place + 1 + 2 ≡ place + 3 = omega arith in
          let both = Stands-then input place (b.0 ∷ []) (place + 1) two.0 (place + 3) o.0 (subst (λ (m : ℕ). Stands input (place + 1) two.0 m) k q.0) in
          subst (λ (y : ℕ × ℕ). Spelled SpellsLength input place y.0 y.1) (ok_is (big_number 2 two.0, place + 3) x two.2) (record { octets = b.0 ∷ two.0; stands = both; spells = inr (inl (eqb-true _ _ h.0, q.1, refl)) })
      | inr h ↦
          let not254 = eqb-false _ _ h.0 in
          elim (chosen (eqb b.0 255) (octets_at input (place + 1) 4 >>= λ octets. Ok (big_number 4 octets, place + 5)) (Ok (b.0, place + 1)) (Ok x) h.1) [
            | inl g ↦
                let four = bind_ok (octets_at input (place + 1) 4) (λ octets. Ok (big_number 4 octets, place + 5)) x g.1 in
                let q = octets_found input (place + 1) 4 four.0 (omega (arith, o.1)) four.1 in
                let k : place + 1 + 4 ≡ place + 5 = omega arith in
                let both = Stands-then input place (b.0 ∷ []) (place + 1) four.0 (place + 5) o.0 (subst (λ (m : ℕ). Stands input (place + 1) four.0 m) k q.0) in
                subst (λ (y : ℕ × ℕ). Spelled SpellsLength input place y.0 y.1) (ok_is (big_number 4 four.0, place + 5) x four.2) (record { octets = b.0 ∷ four.0; stands = both; spells = inr (inr (eqb-true _ _ g.0, q.1, refl)) })
            | inr g ↦
                let not255 = eqb-false _ _ g.0 in
                let below : b.0 < 254 = omega arith in
                subst (λ (y : ℕ × ℕ). Spelled SpellsLength input place y.0 y.1) (ok_is (b.0, place + 1) x g.1) (record { octets = b.0 ∷ []; stands = o.0; spells = inl (below, refl, refl) })
          ]
    ]

extended_again : (input : List ℕ) (place : ℕ) (octets : List ℕ) (n end : ℕ) → SpellsLength octets n → Stands input place octets end → extended_at input place ≡ Ok (n, end)
unfolding extended_at
extended_again input place [] n end h p = absurd h
extended_again input place (first ∷ octets) n end h p =
    let front : Stands input place (first ∷ []) (place + 1) = Stands-front input place (first ∷ []) octets end p in
    let back : Stands input (place + 1) octets end = Stands-back input place (first ∷ []) octets end p in
    let here = octet_again input place first (place + 1) front in
    let within : place + 1 ≤ length input = omega (arith, (octet_found input place first here).1) in
    elim h [
      | inl a ↦
          let no4 : eqb first 254 ≡ false = ne_eqb _ _ (λ e. omega arith) in
          let no5 : eqb first 255 ≡ false = ne_eqb _ _ (λ e. omega arith) in
          let ends : end ≡ place + 1 = omega (arith, back.ends, ap length a.1) in
          rw (here, no4, no5, a.2, ends) refl
      | inr rest ↦
          elim rest [
            | inl a ↦
                let yes : eqb first 254 ≡ true = eq-eqb _ _ a.0 in
                let ends : end ≡ place + 3 = omega (arith, back.ends, a.1) in
                rw (here, yes, octets_again input (place + 1) octets end 2 within back a.1, a.2, ends) refl
            | inr a ↦
                let no4 : eqb first 254 ≡ false = ne_eqb _ _ (λ e. omega arith) in
                let yes : eqb first 255 ≡ true = eq-eqb _ _ a.0 in
                let ends : end ≡ place + 5 = omega (arith, back.ends, a.1) in
                rw (here, no4, yes, octets_again input (place + 1) octets end 4 within back a.1, a.2, ends) refl
          ]
    ]

shape_found : (input : List ℕ) (place low : ℕ) (x : Shape × ℕ) → IsBytes input → low < 8 → shape_at input place low ≡ Ok x → Spelled (SpellsShape low) input place x.0 x.1
unfolding shape_at
shape_found input place low x bytes small e =
    elim (chosen (eqb low 5) (extended_at input place >>= λ long. Ok (Primitive long.0, long.1)) (cond (eqb low 6) (Ok (Opening, place)) (cond (eqb low 7) (Ok (Closing, place)) (Ok (Primitive low, place)))) (Ok x) e) [
      | inl h ↦
          let long = bind_ok (extended_at input place) (λ long. Ok (Primitive long.0, long.1)) x h.1 in
          let q = extended_found input place long.0 bytes long.1 in
          subst (λ (y : Shape × ℕ). Spelled (SpellsShape low) input place y.0 y.1) (ok_is (Primitive long.0.0, long.0.1) x long.2) (record { octets = q.octets; stands = q.stands; spells = inr (eqb-true _ _ h.0, q.spells) })
      | inr h5 ↦
          let not5 = eqb-false _ _ h5.0 in
          elim (chosen (eqb low 6) (Ok (Opening, place)) (cond (eqb low 7) (Ok (Closing, place)) (Ok (Primitive low, place))) (Ok x) h5.1) [
            | inl h ↦
                subst (λ (y : Shape × ℕ). Spelled (SpellsShape low) input place y.0 y.1) (ok_is (Opening, place) x h.1) (record { octets = []; stands = Stands-nil input place; spells = (eqb-true _ _ h.0, refl) })
            | inr h6 ↦
                let not6 = eqb-false _ _ h6.0 in
                elim (chosen (eqb low 7) (Ok (Closing, place)) (Ok (Primitive low, place)) (Ok x) h6.1) [
                  | inl h ↦
                      subst (λ (y : Shape × ℕ). Spelled (SpellsShape low) input place y.0 y.1) (ok_is (Closing, place) x h.1) (record { octets = []; stands = Stands-nil input place; spells = (eqb-true _ _ h.0, refl) })
                  | inr h7 ↦
                      let not7 = eqb-false _ _ h7.0 in
                      let below : low < 5 = omega arith in
                      subst (λ (y : Shape × ℕ). Spelled (SpellsShape low) input place y.0 y.1) (ok_is (Primitive low, place) x h7.1) (record { octets = []; stands = Stands-nil input place; spells = inl (below, refl, refl) })
                ]
          ]
    ]

shape_again : (input : List ℕ) (place low : ℕ) (octets : List ℕ) (shape : Shape) (end : ℕ) → SpellsShape low octets shape → Stands input place octets end → shape_at input place low ≡ Ok (shape, end)
unfolding shape_at
shape_again input place low octets (Primitive n) end (inl h) p =
    let no5 : eqb low 5 ≡ false = ne_eqb _ _ (λ e. omega arith) in
    let no6 : eqb low 6 ≡ false = ne_eqb _ _ (λ e. omega arith) in
    let no7 : eqb low 7 ≡ false = ne_eqb _ _ (λ e. omega arith) in
    let ends : end ≡ place = omega (arith, p.ends, ap length h.1) in
    rw (no5, no6, no7, h.2, ends) refl
shape_again input place low octets (Primitive n) end (inr h) p =
    let yes : eqb low 5 ≡ true = eq-eqb _ _ h.0 in
    rw (yes, extended_again input place octets n end h.1 p) refl
shape_again input place low octets Opening end h p =
    let no5 : eqb low 5 ≡ false = ne_eqb _ _ (λ e. omega arith) in
    let yes : eqb low 6 ≡ true = eq-eqb _ _ h.0 in
    let ends : end ≡ place = omega (arith, p.ends, ap length h.1) in
    rw (no5, yes, ends) refl
shape_again input place low octets Closing end h p =
    let no5 : eqb low 5 ≡ false = ne_eqb _ _ (λ e. omega arith) in
    let no6 : eqb low 6 ≡ false = ne_eqb _ _ (λ e. omega arith) in
    let yes : eqb low 7 ≡ true = eq-eqb _ _ h.0 in
    let ends : end ≡ place = omega (arith, p.ends, ap length h.1) in
    rw (no5, no6, yes, ends) refl

-- the parts of a tag that is read
pub record TagParts (input : List ℕ) (place : ℕ) (x : Tag × ℕ) : Type 0 where
  pub first : ℕ
  pub number : ℕ × ℕ
  pub shape : Shape × ℕ
  pub first-is : octet_at input place ≡ Ok first
  pub number-is : number_at input (place + 1) (first / 16) ≡ Ok number
  pub shape-is : shape_at input number.1 (first % 8) ≡ Ok shape
  pub whole : (record { number = number.0; context = eqb (first / 8 % 2) 1; shape = shape.0 }, shape.1) ≡ x

tag_parts : (input : List ℕ) (place : ℕ) (x : Tag × ℕ) → tag_at input place ≡ Ok x → TagParts input place x
unfolding tag_at
tag_parts input place x e =
    let a = bind_ok (octet_at input place) (λ first. number_at input (place + 1) (first / 16) >>= λ number. shape_at input number.1 (first % 8) >>= λ shape. Ok (record { number = number.0; context = eqb (first / 8 % 2) 1; shape = shape.0 }, shape.1)) x e in
    let b = bind_ok (number_at input (place + 1) (a.0 / 16)) (λ number. shape_at input number.1 (a.0 % 8) >>= λ shape. Ok (record { number = number.0; context = eqb (a.0 / 8 % 2) 1; shape = shape.0 }, shape.1)) x a.2 in
    let c = bind_ok (shape_at input b.0.1 (a.0 % 8)) (λ shape. Ok (record { number = b.0.0; context = eqb (a.0 / 8 % 2) 1; shape = shape.0 }, shape.1)) x b.2 in
    record {
      first = a.0;
      number = b.0;
      shape = c.0;
      first-is = a.1;
      number-is = b.1;
      shape-is = c.1;
      whole = ok_is (record { number = b.0.0; context = eqb (a.0 / 8 % 2) 1; shape = c.0.0 }, c.0.1) x c.2;
    }

pub tag_found : (input : List ℕ) (place : ℕ) (x : Tag × ℕ) → IsBytes input → tag_at input place ≡ Ok x → Spelled SpellsTag input place x.0 x.1
tag_found input place x bytes e =
    let t = tag_parts input place x e in
    let o = octet_found input place t.first t.first-is in
    let small : t.first < 256 = octet_small input place t.first (place + 1) bytes o.0 in
    let n = number_found input (place + 1) (t.first / 16) t.number (omega (arith, small)) t.number-is in
    let s = shape_found input t.number.1 (t.first % 8) t.shape bytes (omega arith) t.shape-is in
    let both = Stands-then input (place + 1) n.octets t.number.1 s.octets t.shape.1 n.stands s.stands in
    let all = Stands-then input place (t.first ∷ []) (place + 1) (n.octets ++ s.octets) t.shape.1 o.0 both in
    subst (λ (y : Tag × ℕ). Spelled SpellsTag input place y.0 y.1) t.whole (record {
      octets = t.first ∷ (n.octets ++ s.octets);
      stands = all;
      spells = record { initial = t.first; number = n.octets; length = s.octets; parts = refl; numbered = n.spells; class = refl; shaped = s.spells };
    })

pub tag_again : (input : List ℕ) (place : ℕ) (octets : List ℕ) (tag : Tag) (end : ℕ) → SpellsTag octets tag → Stands input place octets end → tag_at input place ≡ Ok (tag, end)
unfolding tag_at
tag_again input place octets tag end t p =
    let q : Stands input place (t.initial ∷ (t.number ++ t.length)) end = subst (λ (o : List ℕ). Stands input place o end) t.parts p in
    let front : Stands input place (t.initial ∷ []) (place + 1) = Stands-front input place (t.initial ∷ []) (t.number ++ t.length) end q in
    let back : Stands input (place + 1) (t.number ++ t.length) end = Stands-back input place (t.initial ∷ []) (t.number ++ t.length) end q in
    let number : Stands input (place + 1) t.number (place + 1 + length t.number) = Stands-front input (place + 1) t.number t.length end back in
    let shape : Stands input (place + 1 + length t.number) t.length end = Stands-back input (place + 1) t.number t.length end back in
    rw (octet_again input place t.initial (place + 1) front, number_again input (place + 1) (t.initial / 16) t.number tag.number (place + 1 + length t.number) t.numbered number, shape_again input (place + 1 + length t.number) (t.initial % 8) t.length tag.shape end t.shaped shape, ← t.class) refl

-- What is written spells what it was written for.
use Rattle.std.proofs.Common.{◌≡◌, ℕ, ◌/◌, ◌%◌, ◌^◌, ◌<◌, Bool, true, false, eqb, ltb, min, [], ◌∷◌, refl, sym, subst, arith, inl, inr}
use Rattle.std.proofs.lemmas.Bool.{cases_lt, lt-ltb, le-ltb, cond-true, cond-false, eq-eqb, ne_eqb}
use Rattle.byteorder.specs.Endian.{big_number, big_bytes}
use Rattle.byteorder.specs.Numbers.{big_number-reads_back}
use Rattle.bac_tags.specs.declared.tag.Tag.{Tag}
use Rattle.bac_tags.specs.declared.tag.Shape.{Shape}
use Rattle.bac_tags.specs.declared.tag.Shape.TheVariants.{Primitive, Opening, Closing}
use Rattle.bac_tags.specs.Tags.{SpellsTagNumber, SpellsShape, SpellsTag, FitsShape}
use Rattle.bac_tags.specs.Writing.{written_low, written_initial, written_number, written_length, written_shape, written_tag}

number_written : (number : ℕ) → SpellsTagNumber (min number 15) (written_number number) number
number_written number =
    elim (cases_lt number 15) [
      | inl lt ↦ inl (omega arith, cond-true (ltb number 15) [] (number ∷ []) (lt-ltb number 15 lt), omega arith)
      | inr le ↦ inr (omega arith, cond-false (ltb number 15) [] (number ∷ []) (le-ltb number 15 le))
    ]

two_read_back : (n : ℕ) → n < 65536 → n ≡ big_number 2 (big_bytes 2 n)
two_read_back n lt = sym (big_number-reads_back 2 n [] lt)

four_read_back : (n : ℕ) → n < 2 ^ 32 → n ≡ big_number 4 (big_bytes 4 n)
four_read_back n lt = sym (big_number-reads_back 4 n [] lt)

length_written : (n : ℕ) → n < 2 ^ 32 → SpellsShape (min n 5) (written_length n) (Primitive n)
length_written n fits =
    elim (cases_lt n 5) [
      | inl lt ↦ rw (lt-ltb n 5 lt) (inl (omega arith, refl, omega arith))
      | inr le5 ↦
          elim (cases_lt n 254) [
            | inl lt ↦ rw (le-ltb n 5 le5, lt-ltb n 254 lt) (inr (omega arith, inl (lt, refl, refl)))
            | inr le254 ↦
                elim (cases_lt n 65536) [
                  | inl lt ↦ rw (le-ltb n 5 le5, le-ltb n 254 le254, lt-ltb n 65536 lt) (inr (omega arith, inr (inl (refl, refl, two_read_back n lt))))
                  | inr le ↦ rw (le-ltb n 5 le5, le-ltb n 254 le254, le-ltb n 65536 le) (inr (omega arith, inr (inr (refl, refl, four_read_back n fits))))
                ]
          ]
    ]

shape_written : (shape : Shape) → FitsShape shape → SpellsShape (written_low shape) (written_shape shape) shape
shape_written (Primitive n) fits = length_written n fits
shape_written Opening fits = (refl, refl)
shape_written Closing fits = (refl, refl)

low_small : (shape : Shape) → written_low shape < 8
low_small (Primitive n) = omega arith
low_small Opening = omega arith
low_small Closing = omega arith

-- the three parts of the initial octet
initial_high : (high : ℕ) (context : Bool) (low : ℕ) → low < 8 → written_initial high context low / 16 ≡ high
initial_high high true low lt = omega arith
initial_high high false low lt = omega arith

initial_low : (high : ℕ) (context : Bool) (low : ℕ) → low < 8 → written_initial high context low % 8 ≡ low
initial_low high true low lt = omega arith
initial_low high false low lt = omega arith

initial_class : (high : ℕ) (context : Bool) (low : ℕ) → low < 8 → context ≡ eqb (written_initial high context low / 8 % 2) 1
initial_class high true low lt = sym (eq-eqb _ _ (omega arith))
initial_class high false low lt = sym (ne_eqb _ _ (λ e. omega arith))

pub tag_written : (tag : Tag) → FitsShape tag.shape → SpellsTag (written_tag tag) tag
unfolding written_tag
tag_written tag fits =
    let high = min tag.number 15 in
    let low = written_low tag.shape in
    let small : low < 8 = low_small tag.shape in
    record {
      initial = written_initial high tag.context low;
      number = written_number tag.number;
      length = written_shape tag.shape;
      parts = refl;
      numbered = subst (λ (h : ℕ). SpellsTagNumber h (written_number tag.number) tag.number) (sym (initial_high high tag.context low small)) (number_written tag.number);
      class = initial_class high tag.context low small;
      shaped = subst (λ (l : ℕ). SpellsShape l (written_shape tag.shape) tag.shape) (sym (initial_low high tag.context low small)) (shape_written tag.shape fits);
    }

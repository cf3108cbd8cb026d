-- What numbers, flags and lists of a document keep to.
use Rattle.std.proofs.Common.{◌≡◌, ◌≤◌, ◌&&◌, ℤ, pos, negsuc, ◌≤ℤ◌, ℕ, List, [], ◌∷◌, length, true, false, if◌then◌else◌, nat_le, Bool, Option, Some, None, refl, arith}
use Rattle.std.specs.Prelude.{int_le, unsigned_abs}
use Rattle.std.specs.List.{AllByRecursion}
use Rattle.std.proofs.lemmas.Bool.Decides.{nat_tests}
use Rattle.std.proofs.lemmas.Int.{ints}
use lib.Signed.{le_z_yes}
use Rattle.toml.specs.Data.{Data, Items, no_items, item, as_integer, as_str, as_array}
use Rattle.bac_values.specs.Moments.{IsMoment, first_moment, last_moment}
use Rattle.toml_items.specs.Lists.{items_count, sized, all_in, list_in}
use Rattle.toml_items.specs.Values.{◌>>=◌, number_within, whole_in, unsigned_in, moment_in, flag_of, three_flags, three_flags_in, two_flags, two_flags_in}
use Rattle.toml_items.proofs.Steps.{found, mapped}

within_is : (least most number z : ℤ) → number_within least most number ≡ Some z → (least ≤ℤ z) × (z ≤ℤ most)
within_is least most number z h = by (int_le least number) (int_le number most) refl refl h
  where
    by : (a b : Bool) → int_le least number ≡ a → int_le number most ≡ b → (if a && b then Some number else None) ≡ Some z → (least ≤ℤ z) × (z ≤ℤ most)
    by true true p q e =
        let same : number ≡ z = cc in
        (rw (← same) (le_z_yes (rw p tt)), rw (← same) (le_z_yes (rw q tt)))
    by true false p q e = absurd cc
    by false b p q e = absurd cc

pub whole_kept : (least most : ℤ) (d : Data) (z : ℤ) → whole_in least most d ≡ Some z → (least ≤ℤ z) × (z ≤ℤ most)
whole_kept least most d z h =
    let f = found (as_integer d) (number_within least most) z h in
    within_is least most f.value z f.next_is

abs_within : (least most n : ℕ) (z : ℤ) → pos least ≤ℤ z → z ≤ℤ pos most → unsigned_abs z ≡ n → (least ≤ n) × (n ≤ most)
abs_within least most n (pos k) low high e = (omega (arith, ints), omega (arith, ints))
abs_within least most n (negsuc k) low high e = absurd (omega (arith, ints))

pub unsigned_kept : (least most : ℕ) (d : Data) (n : ℕ) → unsigned_in least most d ≡ Some n → (least ≤ n) × (n ≤ most)
unsigned_kept least most d n h =
    let m = mapped unsigned_abs (whole_in (pos least) (pos most) d) n h in
    let (low, high) = whole_kept (pos least) (pos most) d m.value m.part_is in
    abs_within least most n m.value low high m.is

pub moment_kept : (d : Data) (n : ℕ) → moment_in d ≡ Some n → IsMoment n
moment_kept d n h = unsigned_kept first_moment last_moment d n h

-- ---- flags

two_flags_length : (text : List ℕ) (flags : List Bool) → two_flags text ≡ Some flags → length flags ≡ 2
two_flags_length (a ∷ b ∷ []) flags h =
    let x = found (flag_of a) _ flags h in
    let y = found (flag_of b) _ flags x.next_is in
    let is : x.value ∷ y.value ∷ [] ≡ flags = cc in
    rw (← is) refl
two_flags_length [] flags h = absurd cc
two_flags_length (a ∷ []) flags h = absurd cc
two_flags_length (a ∷ b ∷ c ∷ rest) flags h = absurd cc

pub two_flags_kept : (d : Data) (flags : List Bool) → two_flags_in d ≡ Some flags → length flags ≡ 2
two_flags_kept d flags h = let f = found (as_str d) two_flags flags h in two_flags_length f.value flags f.next_is

three_flags_length : (text : List ℕ) (flags : List Bool) → three_flags text ≡ Some flags → length flags ≡ 3
three_flags_length (a ∷ b ∷ c ∷ []) flags h =
    let x = found (flag_of a) _ flags h in
    let y = found (flag_of b) _ flags x.next_is in
    let z = found (flag_of c) _ flags y.next_is in
    let is : x.value ∷ y.value ∷ z.value ∷ [] ≡ flags = cc in
    rw (← is) refl
three_flags_length [] flags h = absurd cc
three_flags_length (a ∷ []) flags h = absurd cc
three_flags_length (a ∷ b ∷ []) flags h = absurd cc
three_flags_length (a ∷ b ∷ c ∷ e ∷ rest) flags h = absurd cc

pub three_flags_kept : (d : Data) (flags : List Bool) → three_flags_in d ≡ Some flags → length flags ≡ 3
three_flags_kept d flags h = let f = found (as_str d) three_flags flags h in three_flags_length f.value flags f.next_is

-- ---- lists

pub record KeptList {A : Type 0} (P : A → Type 0) (least most : ℕ) (xs : List A) : Type 0 where
  pub all : AllByRecursion P xs
  pub enough : least ≤ length xs
  pub few : length xs ≤ most

module _ {A : Type 0} (P : A → Type 0) (read : Data → Option A) (each : (d : Data) (x : A) → read d ≡ Some x → P x) where
  all_kept : (ds : Items) (xs : List A) → all_in read ds ≡ Some xs → AllByRecursion P xs × (length xs ≡ items_count ds)
  all_kept no_items xs h = let none : [] ≡ xs = cc in rw (← none) (tt, refl)
  all_kept (item d ds) xs h =
      let first = found (read d) _ xs h in
      let rest = found (all_in read ds) _ xs first.next_is in
      let is : first.value ∷ rest.value ≡ xs = cc in
      let (all, count) = all_kept ds rest.value rest.part_is in
      rw (← is) ((each d first.value first.part_is, all), omega arith)

  sized_is : (least most : ℕ) (ds es : Items) → sized least most ds ≡ Some es → (least ≤ items_count es) × (items_count es ≤ most)
  sized_is least most ds es h = by (nat_le least (items_count ds)) (nat_le (items_count ds) most) refl refl h
    where
      by : (a b : Bool) → nat_le least (items_count ds) ≡ a → nat_le (items_count ds) most ≡ b → (if a && b then Some ds else None) ≡ Some es → (least ≤ items_count es) × (items_count es ≤ most)
      by true true p q e = let same : ds ≡ es = cc in rw (← same) (grind (arith, nat_tests), grind (arith, nat_tests))
      by true false p q e = absurd cc
      by false b p q e = absurd cc

  pub list_kept : (least most : ℕ) (d : Data) (xs : List A) → list_in least most read d ≡ Some xs → KeptList P least most xs
  list_kept least most d xs h =
      let whole = found (as_array d >>= sized least most) (all_in read) xs h in
      let own = found (as_array d) (sized least most) whole.value whole.part_is in
      let (low, high) = sized_is least most own.value whole.value own.next_is in
      let (all, count) = all_kept whole.value xs whole.next_is in
      record { all = all; enough = omega arith; few = omega arith }

-- Octets that stand at a place, one part after another.
use Rattle.std.proofs.Common.{◌≡◌, ℕ, ◌+◌, ◌-◌, ◌<◌, ◌≤◌, ltb, List, [], ◌∷◌, ◌++◌, length, get_or, take, drop, Ok, Err, refl, sym, ap, ◌∙◌, append_assoc, arith, inl, inr}
use Rattle.std.specs.Prelude.{slice_range, slice_index}
use Rattle.std.proofs.lemmas.Bool.{ltb-false, le-ltb, lt-ltb, ltb-true}
use Rattle.std.proofs.lemmas.List.{drop_more, drop-drop, drop_at, take_at, take-append-drop, length-append, length-take, length-drop}
use Rattle.bac_tags.specs.declared.fault.TagFault.{TagFault}
use Rattle.bac_tags.specs.declared.fault.TagFault.TheVariants.{Truncated}
use Rattle.bac_tags.specs.ReadingSteps.{octet_at, octets_at}
use Rattle.bac_tags.proofs.Steps.{chosen, guard_ok}

abbrev pub IsBytes : List ℕ → Type 0
IsBytes input = (i : ℕ) → get_or input i 0 < 256

-- the octets stand at the place, and `end` is the place after them
pub record Stands (input : List ℕ) (place : ℕ) (octets : List ℕ) (end : ℕ) : Type 0 where
  pub parts : drop place input ≡ octets ++ drop end input
  pub ends : end ≡ place + length octets

pub Stands-from : (input : List ℕ) (place : ℕ) (octets rest : List ℕ) → drop place input ≡ octets ++ rest → Stands input place octets (place + length octets)
Stands-from input place octets rest e =
    let left : drop (place + length octets) input ≡ rest = sym (drop-drop (length octets) place input) ∙ ap (drop (length octets)) e ∙ drop_at octets rest (length octets) refl in
    record { parts = e ∙ ap (λ (r : List ℕ). octets ++ r) (sym left); ends = refl }

pub Stands-nil : (input : List ℕ) (place : ℕ) → Stands input place [] place
Stands-nil input place = record { parts = refl; ends = omega arith }

pub Stands-then : (input : List ℕ) (a : ℕ) (xs : List ℕ) (b : ℕ) (ys : List ℕ) (c : ℕ) → Stands input a xs b → Stands input b ys c → Stands input a (xs ++ ys) c
Stands-then input a xs b ys c p q =
    record { parts = p.parts ∙ ap (λ (r : List ℕ). xs ++ r) q.parts ∙ sym (append_assoc xs ys (drop c input)); ends = omega (arith, p.ends, q.ends, length-append xs ys) }

pub Stands-front : (input : List ℕ) (a : ℕ) (xs ys : List ℕ) (c : ℕ) → Stands input a (xs ++ ys) c → Stands input a xs (a + length xs)
Stands-front input a xs ys c p = Stands-from input a xs (ys ++ drop c input) (p.parts ∙ append_assoc xs ys (drop c input))

pub Stands-back : (input : List ℕ) (a : ℕ) (xs ys : List ℕ) (c : ℕ) → Stands input a (xs ++ ys) c → Stands input (a + length xs) ys c
Stands-back input a xs ys c p =
    let whole : drop a input ≡ xs ++ (ys ++ drop c input) = p.parts ∙ append_assoc xs ys (drop c input) in
    record {
      parts = sym (drop-drop (length xs) a input) ∙ ap (drop (length xs)) whole ∙ drop_at xs (ys ++ drop c input) (length xs) refl;
      ends = omega (arith, p.ends, length-append xs ys);
    }

-- what stands within the input ends within it
pub Stands-within : (input : List ℕ) (a : ℕ) (xs : List ℕ) (b : ℕ) → a ≤ length input → Stands input a xs b → b ≤ length input
Stands-within input a xs b le p = omega (arith, p.ends, ap length p.parts, length-drop a input, length-append xs (drop b input))

pub octet_found : (input : List ℕ) (place x : ℕ) → octet_at input place ≡ Ok x → Stands input place (x ∷ []) (place + 1) × (place < length input)
unfolding octet_at
octet_found input place x e =
    elim (chosen (ltb place (length input)) (Ok (slice_index input place)) (Err (Truncated (length input))) (Ok x) e) [
      | inl h ↦
          let lt : place < length input = ltb-true _ _ h.0 in
          let same : get_or input place 0 ≡ x = cc in
          (record { parts = drop_more input place 0 lt ∙ ap (λ (y : ℕ). y ∷ drop (place + 1) input) same; ends = refl }, lt)
      | inr h ↦ absurd cc
    ]

-- an octet of the input is below 256
pub octet_small : (input : List ℕ) (place x end : ℕ) → IsBytes input → Stands input place (x ∷ []) end → x < 256
octet_small input place x end bytes p =
    let lt : place < length input = omega (arith, ap length p.parts, length-drop place input) in
    let both : get_or input place 0 ∷ drop (place + 1) input ≡ x ∷ drop end input = sym (drop_more input place 0 lt) ∙ p.parts in
    let same : get_or input place 0 ≡ x = cc in
    omega (arith, bytes place, same)

pub octet_again : (input : List ℕ) (place x end : ℕ) → Stands input place (x ∷ []) end → octet_at input place ≡ Ok x
unfolding octet_at
octet_again input place x end p =
    let lt : place < length input = omega (arith, ap length p.parts, length-drop place input) in
    let both : get_or input place 0 ∷ drop (place + 1) input ≡ x ∷ drop end input = sym (drop_more input place 0 lt) ∙ p.parts in
    let same : get_or input place 0 ≡ x = cc in
    rw (lt-ltb place (length input) lt, same) refl

pub octets_found : (input : List ℕ) (place n : ℕ) (xs : List ℕ) → place ≤ length input → octets_at input place n ≡ Ok xs → Stands input place xs (place + n) × (length xs ≡ n)
unfolding octets_at
octets_found input place n xs le e =
    let g = guard_ok (ltb (length input) (place + n)) (Truncated (length input)) (slice_range input place (place + n)) xs e in
    let long : place + n ≤ length input = ltb-false _ _ g.0 in
    let k : place + n - place ≡ n = omega arith in
    let front : take n (drop place input) ≡ xs = ap (λ (m : ℕ). take m (drop place input)) (sym k) ∙ g.1 in
    let size : length xs ≡ n = sym (ap length front) ∙ omega (arith, length-take n (drop place input), length-drop place input) in (
      record {
        parts = sym (take-append-drop n (drop place input)) ∙ ap (λ (r : List ℕ). take n (drop place input) ++ r) (drop-drop n place input) ∙ ap (λ (r : List ℕ). r ++ drop (place + n) input) front;
        ends = omega (arith, size);
      },
      size,
    )

pub octets_again : (input : List ℕ) (place : ℕ) (xs : List ℕ) (end n : ℕ) → place ≤ length input → Stands input place xs end → length xs ≡ n → octets_at input place n ≡ Ok xs
unfolding octets_at
octets_again input place xs end n le p size =
    let long : place + n ≤ length input = omega (arith, size, ap length p.parts, length-drop place input, length-append xs (drop end input)) in
    let k : place + n - place ≡ n = omega arith in
    let front : slice_range input place (place + n) ≡ xs = ap (λ (m : ℕ). take m (drop place input)) k ∙ ap (take n) p.parts ∙ take_at xs (drop end input) n size in
    rw (le-ltb (length input) (place + n) long, front) refl

pub octets_cut : (input : List ℕ) (place n : ℕ) (e : TagFault) → octets_at input place n ≡ Err e → (length input < place + n) × (e ≡ Truncated (length input))
unfolding octets_at
octets_cut input place n e h =
    elim (chosen (ltb (length input) (place + n)) (Err (Truncated (length input))) (Ok (slice_range input place (place + n))) (Err e) h) [
      | inl g ↦ (ltb-true _ _ g.0, cc)
      | inr g ↦ absurd cc
    ]

pub octets_short : (input : List ℕ) (place n : ℕ) → length input < place + n → octets_at input place n ≡ Err (Truncated (length input))
unfolding octets_at
octets_short input place n lt = rw (lt-ltb (length input) (place + n) lt) refl

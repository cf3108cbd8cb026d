-- A text occurs in another exactly where it stands at some place of it.
use Rattle.std.proofs.Common.{◌≡◌, ℕ, zero, suc, ◌+◌, ◌≤◌, true, List, [], ◌∷◌, length, take, get_or, refl, sym, ap, ◌∙◌, arith, ⊎_elim}
use Rattle.std.specs.Prelude.{nat_eq}
use Rattle.std.specs.List.{starts_with}
use Rattle.std.proofs.lemmas.List.{length-take}
use Rattle.std.proofs.lemmas.Bool.{or_cases, or_left, or_right}
use Rattle.std.proofs.lemmas.Slice.Eq.{bytes_eq-Decides}
use Rattle.memchr.specs.Find.{OccursAt}
use Rattle.memchr.proofs.lemmas.MatchLemmas.{OccursAt-part, OccursAt-from_part}
use Rattle.algorithm_rules.specs.Matches.{occurs_in}

-- a text begins with what stands at its first place
starts_with-true : (part whole : List ℕ) → OccursAt whole part 0 → starts_with nat_eq whole part ≡ true
starts_with-true part whole h = (bytes_eq-Decides part (take (length part) whole)).1 (sym (OccursAt-part whole part 0 h))

OccursAt-start : (part whole : List ℕ) → starts_with nat_eq whole part ≡ true → OccursAt whole part 0
OccursAt-start part whole e =
    let same : part ≡ take (length part) whole = (bytes_eq-Decides part (take (length part) whole)).0 e in
    let fits : 0 + length part ≤ length whole = omega (arith, ap length same, length-take (length part) whole) in
    OccursAt-from_part whole part 0 fits (sym same)

-- a place behind the first octet is a place of the octets behind it
OccursAt-behind : (part : List ℕ) (octet : ℕ) (octets : List ℕ) (k : ℕ) → OccursAt (octet ∷ octets) part (suc k) → OccursAt octets part k
OccursAt-behind part octet octets k h =
    record {
      fits = omega (arith, h.fits);
      reads = λ j l. let next : suc (k + j) ≡ suc k + j = omega arith in ap (λ n. get_or (octet ∷ octets) n 0) next ∙ h.reads j l;
    }

OccursAt-before : (part : List ℕ) (octet : ℕ) (octets : List ℕ) (k : ℕ) → OccursAt octets part k → OccursAt (octet ∷ octets) part (suc k)
OccursAt-before part octet octets k h =
    record {
      fits = omega (arith, h.fits);
      reads = λ j l. let next : suc k + j ≡ suc (k + j) = omega arith in ap (λ n. get_or (octet ∷ octets) n 0) next ∙ h.reads j l;
    }

pub occurs_in-true : (part whole : List ℕ) (k : ℕ) → OccursAt whole part k → occurs_in part whole ≡ true
occurs_in-true [] [] k h = refl
occurs_in-true (first ∷ others) [] k h = absurd (omega (arith, h.fits))
occurs_in-true part (octet ∷ octets) zero h = or_left _ _ (starts_with-true part (octet ∷ octets) h)
occurs_in-true part (octet ∷ octets) (suc k) h = or_right _ _ (occurs_in-true part octets k (OccursAt-behind part octet octets k h))

pub occurs_in-place : (part whole : List ℕ) → occurs_in part whole ≡ true → (k : ℕ) × OccursAt whole part k
occurs_in-place part [] e = (0, OccursAt-start part [] e)
occurs_in-place part (octet ∷ octets) e =
    ⊎_elim
    (λ starts. (0, OccursAt-start part (octet ∷ octets) starts))
    (λ behind. let place = occurs_in-place part octets behind in (suc place.0, OccursAt-before part octet octets place.0 place.1))
    (or_cases _ _ e)

-- What stands among octets, as octets one after the other.
use Rattle.std.proofs.Common.{◌≡◌, ℕ, Option, Some, None, Bool, true, false, List, [], ◌++◌, length, drop, refl, sym, ap, subst, ◌∙◌, arith, inr}
use Rattle.std.proofs.lemmas.List.{append-nil, drop_all}
use Rattle.bac_tags.specs.declared.tag.Shape.{Shape}
use Rattle.bac_tags.specs.declared.tag.Shape.TheVariants.{Primitive, Opening, Closing}
use Rattle.bac_tags.specs.declared.tag.Tag.{Tag}
use Rattle.bac_tags.specs.Elements.{element_tag}
use Rattle.bac_tags.specs.EnclosingTags.{opening}
use Rattle.bac_tags.specs.Parameters.{IsAbsent, IsOptionalAt, SpellsIfGiven}
use Rattle.bac_tags.specs.Places.{IsSpelledAt}
use Rattle.bac_tags.specs.Tags.{SpellsTag}
use Rattle.bac_tags.proofs.Standing.{Stands, Stands-from}

-- octets that spell something stand at the place
pub stands : {X : Type 0} (Spells : List ℕ → X → Type 0) (input : List ℕ) (place : ℕ) (x : X) (end : ℕ) (s : IsSpelledAt Spells input place x end) → Stands input place s.octets end
stands Spells input place x end s = subst (λ (e : ℕ). Stands input place s.octets e) (sym s.ends) (Stands-from input place s.octets s.rest s.there)

pub spelled_at : {X : Type 0} (Spells : List ℕ → X → Type 0) (input : List ℕ) (place : ℕ) (x : X) (end : ℕ) (octets : List ℕ) → Spells octets x → Stands input place octets end → IsSpelledAt Spells input place x end
spelled_at Spells input place x end octets s p = record { octets = octets; rest = drop end input; spelled = s; there = p.parts; ends = p.ends }

-- an optional parameter has octets, or none
pub record Given {X : Type 0} (Spells : List ℕ → X → Type 0) (input : List ℕ) (place : ℕ) (x : Option X) (end : ℕ) : Type 0 where
  pub octets : List ℕ
  pub stands : Stands input place octets end
  pub spelled : SpellsIfGiven Spells octets x

pub given_of : {X : Type 0} (Spells : List ℕ → X → Type 0) (number : ℕ) (input : List ℕ) (place : ℕ) (x : Option X) (end : ℕ) → IsOptionalAt Spells number input place x end → Given Spells input place x end
given_of Spells number input place None end h = record { octets = []; stands = record { parts = ap (λ (n : ℕ). drop n input) (sym h.0); ends = omega (arith, h.0) }; spelled = refl }
given_of Spells number input place (Some x) end h = record { octets = h.octets; stands = stands Spells input place x end h; spelled = h.spelled }

pub optional_of : {X : Type 0} (Spells : List ℕ → X → Type 0) (number : ℕ) (input : List ℕ) (place : ℕ) (x : Option X) (end : ℕ) → Given Spells input place x end → (x ≡ None → IsAbsent number input place) → IsOptionalAt Spells number input place x end
optional_of Spells number input place None end g absent = (omega (arith, g.stands.ends, ap length g.spelled), absent refl)
optional_of Spells number input place (Some x) end g absent = spelled_at Spells input place x end g.octets g.spelled g.stands

-- octets that stand from the first place to the end are all
pub all_of : (input octets : List ℕ) → Stands input 0 octets (length input) → input ≡ octets
all_of input octets p = p.parts ∙ ap (λ (r : List ℕ). octets ++ r) (drop_all (length input) input (omega arith)) ∙ append-nil octets

pub all_stand : (input : List ℕ) → Stands input 0 input (length input)
all_stand input = record { parts = sym (ap (λ (r : List ℕ). input ++ r) (drop_all (length input) input (omega arith)) ∙ append-nil input); ends = omega arith }

is_opening : Shape → Bool
is_opening (Primitive n) = false
is_opening Opening = true
is_opening Closing = false

abbrev opens : Tag → Bool
opens tag = is_opening tag.shape

-- a tag that opens is none of a number
pub opening_is_absent : (number k : ℕ) (input : List ℕ) (place : ℕ) (front rest : List ℕ) → SpellsTag front (opening k) → drop place input ≡ front ++ rest → IsAbsent number input place
opening_is_absent number k input place front rest s e =
    inr (record { header = front; rest = rest; tag = opening k; parts = e; tagged = s; other = λ n same. let shape : opens (opening k) ≡ opens (element_tag 0 (Some number) n) = ap opens same in cc })

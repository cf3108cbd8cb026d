-- What a ReadPropertyMultiple asks for can be asked by a ReadProperty.
use Rattle.std.proofs.Common.{◌≡◌, ℕ, zero, suc, ◌<◌, ◌≤◌, ◌/◌, ◌%◌, ◌==◌, true, Option, Some, None, List, [], ◌∷◌, ◌++◌, length, get_or, refl, sym, subst, arith, inl}
use Rattle.std.specs.Prelude.{Contains}
use Rattle.bac_tags.proofs.Standing.{IsBytes}
use Rattle.bac_tags.specs.Contents.{SpellsObject, SpellsUnsigned}
use Rattle.bac_tags.specs.Elements.{element_tag}
use Rattle.bac_tags.specs.Parameters.{SpellsEach, SpellsIfGiven}
use Rattle.bac_tags.specs.Tags.{SpellsTag}
use Rattle.property_services.specs.Requests.{SpellsReadProperty}
use Rattle.summaries.specs.declared.requested.PropertyAsked.{PropertyAsked}
use Rattle.summaries.specs.ManyRequests.{ObjectAsked, SpellsObjectAsked, SpellsProperty}
use Rattle.profile_laws.specs.ErrorTables.{AreOctets}
use Rattle.profile_laws.specs.ManyLaws.{EachCanBeRead, read_of_one}

-- ---- octets that are parts

front_bytes : (xs ys : List ℕ) → IsBytes (xs ++ ys) → (i : ℕ) → get_or xs i 0 < 256
front_bytes [] ys h i = omega arith
front_bytes (x ∷ xs) ys h zero = h zero
front_bytes (x ∷ xs) ys h (suc i) = front_bytes xs ys (λ j. h (suc j)) i

back_bytes : (xs ys : List ℕ) → IsBytes (xs ++ ys) → (i : ℕ) → get_or ys i 0 < 256
back_bytes [] ys h i = h i
back_bytes (x ∷ xs) ys h i = back_bytes xs ys (λ j. h (suc j)) i

joined_bytes : (xs ys : List ℕ) → IsBytes xs → IsBytes ys → (i : ℕ) → get_or (xs ++ ys) i 0 < 256
joined_bytes [] ys front back i = back i
joined_bytes (x ∷ xs) ys front back zero = front zero
joined_bytes (x ∷ xs) ys front back (suc i) = joined_bytes xs ys (λ j. front (suc j)) back i

-- one of some things that are spelled one after the other
record Part {X : Type 0} (Spells : List ℕ → X → Type 0) (x : X) : Type 0 where
  octets : List ℕ
  bytes : IsBytes octets
  spells : Spells octets x

part : {X : Type 0} (Spells : List ℕ → X → Type 0) (octets : List ℕ) (xs : List X) (x : X) → SpellsEach Spells octets xs → IsBytes octets → Contains xs x → Part Spells x
part Spells octets [] x s bytes (k, within, same) = absurd (omega (arith, within))
part Spells octets (y ∷ ys) x s bytes (zero, within, same) =
    record { octets = s.0; bytes = λ i. front_bytes s.0 s.1 (subst IsBytes s.2 bytes) i; spells = subst (Spells s.0) same s.3 }
part Spells octets (y ∷ ys) x s bytes (suc k, within, same) =
    part Spells s.1 ys x s.4 (λ i. back_bytes s.0 s.1 (subst IsBytes s.2 bytes) i) (k, omega (arith, within), same)

-- ---- a number in another context

abbrev Header : ℕ → ℕ → Type 0
Header number n = Part SpellsTag (element_tag 2 (Some number) n)

header : (number n initial : ℕ) → initial / 16 ≡ number → true ≡ (initial / 8 % 2 == 1) → initial % 8 ≡ n → number < 15 → n < 5 → initial < 256 → Header number n
header number n initial is class size low short octet =
    record {
      octets = initial ∷ [];
      bytes = λ i. one i;
      spells = record {
        initial = initial;
        number = [];
        length = [];
        parts = refl;
        numbered = inl (subst (λ (k : ℕ). k < 15) (sym is) low, refl, sym is);
        class = class;
        shaped = inl (subst (λ (k : ℕ). k < 5) (sym size) short, refl, sym size);
      };
    }
  where
    one : (i : ℕ) → get_or (initial ∷ []) i 0 < 256
    one zero = octet
    one (suc i) = omega arith

-- of one to four octets, in the contexts of a property and of an index
property_header : (n : ℕ) → 1 ≤ n → n ≤ 4 → Header 1 n
property_header zero some few = absurd (omega (arith, some))
property_header (suc zero) some few = header 1 1 25 refl refl refl (omega arith) (omega arith) (omega arith)
property_header (suc (suc zero)) some few = header 1 2 26 refl refl refl (omega arith) (omega arith) (omega arith)
property_header (suc (suc (suc zero))) some few = header 1 3 27 refl refl refl (omega arith) (omega arith) (omega arith)
property_header (suc (suc (suc (suc zero)))) some few = header 1 4 28 refl refl refl (omega arith) (omega arith) (omega arith)
property_header (suc (suc (suc (suc (suc n))))) some few = absurd (omega (arith, few))

index_header : (n : ℕ) → 1 ≤ n → n ≤ 4 → Header 2 n
index_header zero some few = absurd (omega (arith, some))
index_header (suc zero) some few = header 2 1 41 refl refl refl (omega arith) (omega arith) (omega arith)
index_header (suc (suc zero)) some few = header 2 2 42 refl refl refl (omega arith) (omega arith) (omega arith)
index_header (suc (suc (suc zero))) some few = header 2 3 43 refl refl refl (omega arith) (omega arith) (omega arith)
index_header (suc (suc (suc (suc zero)))) some few = header 2 4 44 refl refl refl (omega arith) (omega arith) (omega arith)
index_header (suc (suc (suc (suc (suc n))))) some few = absurd (omega (arith, few))

moved : (from to : ℕ) → ((n : ℕ) → 1 ≤ n → n ≤ 4 → Header to n) → (octets : List ℕ) (number : ℕ) → SpellsUnsigned (Some from) octets number → IsBytes octets → Part (SpellsUnsigned (Some to)) number
moved from to header_of octets number s bytes =
    let header = header_of (length s.content) s.is.0.0 s.is.0.1 in
    let content = λ (i : ℕ). back_bytes s.header s.content (subst IsBytes s.parts bytes) i in
    record {
      octets = header.octets ++ s.content;
      bytes = λ i. joined_bytes header.octets s.content header.bytes content i;
      spells = record { header = header.octets; content = s.content; parts = refl; tagged = header.spells; is = s.is };
    }

moved_if_given : (octets : List ℕ) (index : Option ℕ) → SpellsIfGiven (SpellsUnsigned (Some 1)) octets index → IsBytes octets → Part (SpellsIfGiven (SpellsUnsigned (Some 2))) index
moved_if_given octets None s bytes = record { octets = []; bytes = λ i. subst (λ (o : List ℕ). get_or o i 0 < 256) s (bytes i); spells = refl }
moved_if_given octets (Some index) s bytes =
    let there = moved 1 2 index_header octets index s bytes in record { octets = there.octets; bytes = there.bytes; spells = there.spells }

-- ---- a property of an object

joined : (group : ObjectAsked) (one : PropertyAsked) → Part (SpellsObject (Some 0)) group.object → Part (SpellsUnsigned (Some 1)) one.property → Part (SpellsIfGiven (SpellsUnsigned (Some 2))) one.index →
    (octets : List ℕ) × AreOctets octets × SpellsReadProperty octets (read_of_one group.object one.property one.index)
joined group one object property index = (
  object.octets ++ (property.octets ++ index.octets),
  λ i. joined_bytes object.octets (property.octets ++ index.octets) object.bytes (λ k. joined_bytes property.octets index.octets property.bytes index.bytes k) i,
  record { object_octets = object.octets; property_octets = property.octets; index_octets = index.octets; parts = refl; object = object.spells; property = property.spells; index = index.spells },
)

pub each_can_be_read : EachCanBeRead
each_can_be_read parameters asked group one octets spelled group_there one_there =
    let g = part SpellsObjectAsked parameters asked group spelled.0 (λ i. octets i) group_there in
    let two = subst IsBytes g.spells.parts g.bytes in
    let list = subst IsBytes g.spells.properties.parts (λ (i : ℕ). back_bytes g.spells.object_octets g.spells.list_octets two i) in
    let l = g.spells.properties in
    let inner = λ (i : ℕ). back_bytes l.front (l.inside ++ l.back) list i in
    let p = part SpellsProperty l.inside group.properties one l.spelled.0 (λ i. front_bytes l.inside l.back inner i) one_there in
    let both = subst IsBytes p.spells.parts p.bytes in
    let property = moved 0 1 property_header p.spells.property_octets one.property p.spells.property (λ i. front_bytes p.spells.property_octets p.spells.index_octets both i) in
    let index = moved_if_given p.spells.index_octets one.index p.spells.index (λ i. back_bytes p.spells.property_octets p.spells.index_octets both i) in
    let object = λ (i : ℕ). front_bytes g.spells.object_octets g.spells.list_octets two i in
    joined group one (record { octets = g.spells.object_octets; bytes = object; spells = g.spells.object }) property index

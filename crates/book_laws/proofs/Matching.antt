-- Values match by the book exactly where they do by the code, and the same alarm value is the first that does.
use Rattle.std.proofs.Common.{◌≡◌, ℕ, ◌==◌, ◌+◌, suc, ℤ, Bool, true, false, cond, not, ◌&&◌, ◌||◌, nat_lt, Option, Some, None, IfSome, List, [], ◌∷◌, length, take, map, refl, ap, ◌∙◌, arith}
use Rattle.std.specs.Prelude.{int_lt, position, option_map, bytes_eq, All}
use Rattle.std.specs.Bool.{beq}
use Rattle.std.specs.List.{prefix_len, position_or_len}
use Rattle.std.specs.Ordering.{int_eq, is_eq}
use Rattle.std.specs.declared.cmp.Ordering.TheVariants.{Less, Equal, Greater}
use Rattle.std.proofs.lemmas.List.Elements.{All-head, All-tail, All-cons, All-nil}
use Rattle.std.proofs.lemmas.Bool.Decides.{nat_tests}
use Rattle.bac_values.specs.BitString.{BitsData}
use Rattle.bac_values.specs.declared.value.Value.{Value}
use Rattle.bac_values.specs.declared.value.Value.TheVariants.{Bool as Truth, Unsigned, Signed, Text, Bits, Enumerated}
use Rattle.algorithm_rules.specs.Facts.{Facts}
use Rattle.algorithm_rules.specs.Matches as code
use Rattle.profile.specs.Rules as book
use Rattle.profile.specs.Sites.{Detection as Settings}
use Rattle.book_laws.specs.Values.{value_in_book, bits_in_book}
use Rattle.book_laws.specs.RuleLaws.{IsString, IsKnown, AreKnown}
use Rattle.book_laws.specs.Points.{seen_in_book}
use Rattle.book_laws.proofs.Bits.{masked, unmasked}

pub truths : (a b : Bool) → book.same a b ≡ beq a b
truths true true = refl
truths true false = refl
truths false true = refl
truths false false = refl

wholes_by : (less more : Bool) → (not less && not more) ≡ is_eq (cond less Less (cond more Greater Equal))
wholes_by true true = refl
wholes_by true false = refl
wholes_by false true = refl
wholes_by false false = refl

pub wholes : (a b : ℤ) → (not (int_lt a b) && not (int_lt b a)) ≡ int_eq a b
wholes a b = wholes_by (int_lt a b) (int_lt b a)

some : (octets : List ℕ) → (suc (length octets) == 0) ≡ false
some octets = grind (arith, nat_tests)

occurs : (part text : List ℕ) → book.occurs_in part text ≡ code.occurs_in part text
occurs [] [] = refl
occurs (octet ∷ octets) [] = some octets
occurs part (octet ∷ octets) = ap (λ b. bytes_eq part (take (length part) (octet ∷ octets)) || b) (occurs part octets)

texts : (alarm text : List ℕ) → book.text_matches alarm text ≡ code.matches_text alarm text
texts [] [] = refl
texts [] (octet ∷ octets) = some octets
texts (octet ∷ octets) text = occurs (octet ∷ octets) text

strings : (mask : Option BitsData) (alarm value : BitsData) → IfSome mask IsString → IsString alarm → IsString value →
    book.bits_match (option_map bits_in_book mask) (bits_in_book alarm) (bits_in_book value) ≡ code.matches_bits mask alarm value
strings None alarm value hm ha hv = unmasked alarm.size value.size alarm.bits value.bits ha hv
strings (Some mask) alarm value hm ha hv = masked mask.size alarm.size value.size mask.bits alarm.bits value.bits hm ha hv

pub values : (mask : Option BitsData) (alarm value : Value) → IfSome mask IsString → IsKnown alarm → IsKnown value →
    book.matches (option_map bits_in_book mask) (value_in_book alarm) (value_in_book value) ≡ code.matches mask alarm value
values mask (Truth a) (Truth b) hm ha hv = truths a b
values mask (Unsigned a) (Unsigned b) hm ha hv = refl
values mask (Signed a) (Signed b) hm ha hv = wholes a b
values mask (Enumerated a) (Enumerated b) hm ha hv = refl
values mask (Bits a) (Bits b) hm ha hv = strings mask a b hm ha hv
values mask (Text a) (Text b) hm ha hv = texts a b
values mask _ _ hm ha hv = refl

-- the first alarm value that matches

lengths : {X Y : Type 0} (f : X → Y) (xs : List X) → length (map f xs) ≡ length xs
lengths f [] = refl
lengths f (x ∷ xs) = ap suc (lengths f xs)

prefixes : {X Y : Type 0} (P : X → Type 0) (f : X → Y) (p : Y → Bool) (q : X → Bool) → ((x : X) → P x → p (f x) ≡ q x) → (xs : List X) → All P xs → prefix_len p (map f xs) ≡ prefix_len q xs
prefixes P f p q each [] all = refl
prefixes P f p q each (x ∷ xs) all =
    ap (λ b. cond b (1 + prefix_len p (map f xs)) 0) (each x (All-head P x xs all))
    ∙ ap (λ n. cond (q x) (1 + n) 0) (prefixes P f p q each xs (All-tail P x xs all))

pub positions : {X Y : Type 0} (P : X → Type 0) (f : X → Y) (p : Y → Bool) (q : X → Bool) → ((x : X) → P x → p (f x) ≡ q x) → (xs : List X) → All P xs → position p (map f xs) ≡ position q xs
positions P f p q each xs all =
    let same = prefixes P f (λ y. not (p y)) (λ x. not (q x)) (λ x h. ap not (each x h)) xs all in
    ap (λ n. cond (nat_lt n (length (map f xs))) (Some n) None) same
    ∙ ap (λ n. cond (nat_lt (position_or_len q xs) n) (Some (position_or_len q xs)) None) (lengths f xs)

first_among : (mask : Option BitsData) (value : Value) → IfSome mask IsString → IsKnown value → (alarms : List Value) → All IsKnown alarms →
    position (λ alarm. book.matches (option_map bits_in_book mask) alarm (value_in_book value)) (map value_in_book alarms) ≡ position (λ alarm. code.matches mask alarm value) alarms
first_among mask value hm hv alarms all =
    positions IsKnown value_in_book (λ alarm. book.matches (option_map bits_in_book mask) alarm (value_in_book value)) (λ alarm. code.matches mask alarm value)
    (λ alarm known. values mask alarm value hm known hv) alarms all

known_among : (alarm : Option Value) (alarms : List Value) → IfSome alarm IsKnown → All IsKnown alarms → All IsKnown (code.alarms_among alarm alarms)
known_among None alarms one all = all
known_among (Some alarm) alarms one all = All-cons IsKnown alarm [] one (All-nil IsKnown)

pub first_matches : (others : Settings) (facts : Facts) → AreKnown facts → book.first_match (seen_in_book others facts) ≡ code.matched_in facts
first_matches others facts known =
    first_among facts.mask facts.value known.mask known.value (code.alarms_among facts.alarm_value facts.alarm_values)
    (known_among facts.alarm_value facts.alarm_values known.alarm_value known.alarm_values)

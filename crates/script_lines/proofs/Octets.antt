-- Octets that digits spell, in a room of their own, and the lines that hold some.
use Rattle.std.proofs.Common.{◌≡◌, ℕ, ◌*◌, ◌/◌, ◌<◌, List, length, Option, Some, None, Result, Ok, Err, refl, arith}
use Rattle.std.specs.Result.{result_ok}
use Rattle.std.proofs.lemmas.Bool.Decides.{nat_tests}
use Rattle.hex.specs.Hex.{decode_of, decode_sized}
use Rattle.hex.specs.declared.error.FromHexError.{FromHexError}
use Rattle.hex.proofs.HexLemmas.{decode_of-ok}
use Rattle.std.specs.Prelude.{IsSomeAnd}
use Rattle.bac_values.specs.Limits.{most_datagram_octets}
use Rattle.bac_values.specs.Identifier.{ObjectIdData}
use Rattle.bac_values.specs.declared.input.Input.TheVariants.{Set}
use Rattle.bac_values.specs.declared.value.Value.{Value}
use Rattle.script_lines.specs.declared.line.Line.{Line}
use Rattle.script_lines.specs.SessionLine.{◌>>=◌, IsOfOctets, IsText, datagram_from, datagram_of, object_of, text_from, text_of, value_line, value_of}
use Rattle.script_lines.specs.Words.{first_word, moment_of, other_words}

-- in a room for half as many octets as there are digits, digits spell what they spell
pub sized_halves : (digits : List ℕ) (n : ℕ) → n ≡ length digits / 2 → decode_sized digits n ≡ decode_of digits
sized_halves digits n half = grind (arith, nat_tests)

-- octets that are too many, whatever reads them
none_of : (read : List ℕ → Option (List ℕ)) (most : ℕ) (digits : List ℕ) (decoded : Result (List ℕ) FromHexError) → decode_of digits ≡ decoded
    → ((octets : List ℕ) → most < length octets → read octets ≡ None) → 2 * most < length digits → (result_ok decoded >>= read) ≡ None
none_of read most digits (Ok octets) is refuses long = let size = decode_of-ok digits octets is in refuses octets (omega (arith, size.2, long))
none_of read most digits (Err fault) is refuses long = refl

pub long_text : (digits : List ℕ) → 512 < length digits → text_of digits ≡ None
long_text digits long = none_of text_from 256 digits (decode_of digits) refl (λ octets more. grind (arith, nat_tests)) long

pub long_datagram : (digits : List ℕ) → 2994 < length digits → datagram_of digits ≡ None
long_datagram digits long = none_of datagram_from most_datagram_octets digits (decode_of digits) refl (λ octets more. grind (arith, nat_tests)) long

abbrev set_line : ℕ → ℕ → ObjectIdData → Value → Line
set_line number moment object value = record { number = number; moment = moment; input = Set object value }

sets_text : (number moment : ℕ) (object : ObjectIdData) (value : Option Value) → IsSomeAnd value IsText → IsSomeAnd (value >>= λ x. Some (set_line number moment object x)) IsOfOctets
sets_text number moment object (Some value) text = text
sets_text number moment object None text = absurd text

-- a line that sets an object to a text
pub value_wants : (number moment : ℕ) (object : ObjectIdData) (words : List ℕ) → moment_of (first_word words) ≡ Some moment → object_of (first_word (other_words words)) ≡ Some object
    → IsSomeAnd (value_of (other_words (other_words words))) IsText → IsSomeAnd (value_line number words) IsOfOctets
unfolding value_line
value_wants number moment object words at_moment of_object text = rw (at_moment, of_object) (sets_text number moment object (value_of (other_words (other_words words))) text)

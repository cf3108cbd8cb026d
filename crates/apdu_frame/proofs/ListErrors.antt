-- How long an error of a service that edits a list is.
use Rattle.std.proofs.Common.{◌≡◌, ℕ, ◌+◌, ◌<◌, ◌≤◌, Some, None, List, ◌++◌, length, refl, ap, lit≤, arith, inl, inr}
use Rattle.std.proofs.lemmas.Bool.{cases_lt, lt-ltb, le-ltb}
use Rattle.std.proofs.lemmas.List.{length-append}
use Rattle.bac_tags.specs.EnclosingTags.{opening, closing}
use Rattle.bac_tags.specs.Writing.{written_tag, written_enumerated, written_unsigned}

enumerated_length : (n : ℕ) → n < 256 → length (written_enumerated None n) ≡ 2
unfolding written_tag
enumerated_length n small = rw (lt-ltb n 256 small) refl

number_length : (n : ℕ) → length (written_unsigned (Some 1) n) ≤ 5
unfolding written_tag
number_length n =
    elim (cases_lt n 256) [
      | inl one ↦ rw (lt-ltb n 256 one) (lit≤ tt)
      | inr more ↦ elim (cases_lt n 65536) [
        | inl two ↦ rw (le-ltb n 256 more, lt-ltb n 65536 two) (lit≤ tt)
        | inr much ↦ elim (cases_lt n 16777216) [
          | inl three ↦ rw (le-ltb n 256 more, le-ltb n 65536 much, lt-ltb n 16777216 three) (lit≤ tt)
          | inr four ↦ rw (le-ltb n 256 more, le-ltb n 65536 much, le-ltb n 16777216 four) (lit≤ tt)
        ]
      ]
    ]

opening_length : length (written_tag (opening 0)) ≡ 1
unfolding written_tag
opening_length = refl

closing_length : length (written_tag (closing 0)) ≡ 1
unfolding written_tag
closing_length = refl

-- a header of three octets, and the parameters one behind the other
pub list_error_short : (header opened first second shut whole : List ℕ) (class code element : ℕ) → length header ≡ 3 → opened ≡ header ++ written_tag (opening 0) → first ≡ opened ++ written_enumerated None class → second ≡ first ++ written_enumerated None code → shut ≡ second ++ written_tag (closing 0) → whole ≡ shut ++ written_unsigned (Some 1) element → class < 256 → code < 256
    → length whole ≤ 14
list_error_short header opened first second shut whole class code element three a b c d e small few =
    omega (
      arith,
      ap length a,
      ap length b,
      ap length c,
      ap length d,
      ap length e,
      length-append header (written_tag (opening 0)),
      length-append opened (written_enumerated None class),
      length-append first (written_enumerated None code),
      length-append second (written_tag (closing 0)),
      length-append shut (written_unsigned (Some 1) element),
      opening_length,
      closing_length,
      enumerated_length class small,
      enumerated_length code few,
      number_length element,
    )

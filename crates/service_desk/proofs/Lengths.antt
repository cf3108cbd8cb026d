-- How long an I-Am is.
use Rattle.std.proofs.Common.{◌≡◌, ℕ, ◌≤◌, Bool, true, false, None, ◌++◌, length, refl, lit≤, arith}
use Rattle.std.specs.Prelude.{nat_lt}
use Rattle.std.proofs.lemmas.List.{length-append}
use Rattle.bac_values.specs.Identifier.{ObjectIdData}
use Rattle.bac_tags.specs.Writing.{written_enumerated, written_object, written_tag, written_unsigned}
use Rattle.property_services.specs.Writing.{written_i_am}

by_case : {P : Type 0} (test : Bool) → (test ≡ true → P) → (test ≡ false → P) → P
by_case true holds fails = holds refl
by_case false holds fails = fails refl

unsigned_length : (n : ℕ) → length (written_unsigned None n) ≤ 5
unfolding written_tag
unsigned_length n =
    by_case (nat_lt n 256) (λ one. rw one (lit≤ tt)) (λ more. rw more (by_case (nat_lt n 65536) (λ two. rw two (lit≤ tt)) (λ much.
    rw much (by_case (nat_lt n 16777216) (λ three. rw three (lit≤ tt)) (λ four. rw four (lit≤ tt))))))

enumerated_length : length (written_enumerated None 3) ≡ 2
unfolding written_tag
enumerated_length = refl

object_length : (object : ObjectIdData) → length (written_object None object) ≡ 5
unfolding written_tag
object_length object = refl

pub i_am_length : (device : ObjectIdData) (vendor : ℕ) → length (written_i_am device vendor) ≤ 17
i_am_length device vendor =
    let object = written_object None device in
    let longest = written_unsigned None 1476 in
    let segmentation = written_enumerated None 3 in
    omega (
      arith,
      length-append (object ++ longest ++ segmentation) (written_unsigned None vendor),
      length-append (object ++ longest) segmentation,
      length-append object longest,
      object_length device,
      unsigned_length 1476,
      enumerated_length,
      unsigned_length vendor,
    )

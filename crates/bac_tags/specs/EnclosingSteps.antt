-- How a value between an opening and a closing tag is read.
use Rattle.std.specs.Prelude.{ℕ, ◌==◌, ◌&&◌, if◌then◌else◌, Bool, true, false, List, Result, Ok, Err}
use Rattle.bac_tags.specs.declared.fault.TagFault.{TagFault}
use Rattle.bac_tags.specs.declared.fault.TagFault.TheVariants.{WrongTag}
use Rattle.bac_tags.specs.declared.tag.Shape.{Shape}
use Rattle.bac_tags.specs.declared.tag.Shape.TheVariants.{Primitive, Opening, Closing}
use Rattle.bac_tags.specs.ReadingSteps.{◌>>=◌, tag_at}

abbrev pub is_opening : Shape → Bool
is_opening (Primitive n) = false
is_opening Opening = true
is_opening Closing = false

abbrev pub is_closing : Shape → Bool
is_closing (Primitive n) = false
is_closing Opening = false
is_closing Closing = true

-- the place after the tag
unfoldable pub opening_at : List ℕ → ℕ → ℕ → Result ℕ TagFault
opening_at input place number = tag_at input place >>= λ tag. if is_opening tag.0.shape && tag.0.context && tag.0.number == number then Ok tag.1 else Err (WrongTag place)

unfoldable pub closing_at : List ℕ → ℕ → ℕ → Result ℕ TagFault
closing_at input place number = tag_at input place >>= λ tag. if is_closing tag.0.shape && tag.0.context && tag.0.number == number then Ok tag.1 else Err (WrongTag place)

-- the value between the tags of a number, by its reader
abbrev pub enclosed_at : {X : Type 0} → (List ℕ → ℕ → Result (X × ℕ) TagFault) → ℕ → List ℕ → ℕ → Result (X × ℕ) TagFault
enclosed_at read number input place = opening_at input place number >>= λ start. read input start >>= λ x. closing_at input x.1 number >>= λ end. Ok (x.0, end)

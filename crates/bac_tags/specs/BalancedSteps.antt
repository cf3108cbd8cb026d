-- How the place is found at which elements of any kind end.
use Rattle.std.specs.Prelude.{ℕ, zero, suc, ◌+◌, ◌==◌, nat_lt, ◌&&◌, if◌then◌else◌, Option, Some, None, List, length, Result, Ok, Err}
use Rattle.std.specs.Option.{ok_or}
use Rattle.bac_tags.specs.declared.fault.TagFault.{TagFault}
use Rattle.bac_tags.specs.declared.fault.TagFault.TheVariants.{BadLength}
use Rattle.bac_tags.specs.declared.tag.Tag.{Tag}
use Rattle.bac_tags.specs.declared.tag.Shape.{Shape}
use Rattle.bac_tags.specs.declared.tag.Shape.TheVariants.{Primitive, Opening, Closing}
use Rattle.bac_tags.specs.ReadingSteps.{◌>>=◌, tag_at}
use Rattle.bac_tags.specs.EnclosingSteps.{opening_at}
use Rattle.bac_tags.specs.Balanced.{content_size}

-- what stands behind inner elements
abbrev pub rest_behind : (ℕ → ℕ → Option (ℕ × ℕ)) → ℕ → Option (ℕ × ℕ) → Option (ℕ × ℕ)
rest_behind rest number None = None
rest_behind rest number (Some inner) = rest inner.1 number

-- a tag at the place, which ends after it
abbrev pub behind_tag : (ℕ → ℕ → Option (ℕ × ℕ)) → List ℕ → ℕ → ℕ → Tag → ℕ → Shape → Option (ℕ × ℕ)
behind_tag rest input place number tag after (Primitive n) =
    if nat_lt (length input) (after + content_size tag n) then None else rest (after + content_size tag n) number
behind_tag rest input place number tag after Opening = if tag.context then rest_behind rest number (rest after tag.number) else None
behind_tag rest input place number tag after Closing = if tag.context && tag.number == number then Some (place, after) else None

abbrev pub at_tag : (ℕ → ℕ → Option (ℕ × ℕ)) → List ℕ → ℕ → ℕ → Result (Tag × ℕ) TagFault → Option (ℕ × ℕ)
at_tag rest input place number (Ok tag) = behind_tag rest input place number tag.0 tag.1 tag.0.shape
at_tag rest input place number (Err fault) = None

-- where the closing tag of this number stands behind elements that begin at the place, and where it ends, within so many tags
unfoldable pub closes_within : ℕ → List ℕ → ℕ → ℕ → Option (ℕ × ℕ)
closes_within zero input place number = None
closes_within (suc tags) input place number = at_tag (λ next inner. closes_within tags input next inner) input place number (tag_at input place)

-- there are no more tags than octets
abbrev pub elements_end : List ℕ → ℕ → ℕ → Option (ℕ × ℕ)
elements_end input place number = closes_within (suc (length input)) input place number

-- where the elements between the tags of a number stand, and the place after the closing one
unfoldable pub elements_at : List ℕ → ℕ → ℕ → Result ((ℕ × ℕ) × ℕ) TagFault
elements_at input place number = do
  start ← opening_at input place number
  closes ← ok_or (elements_end input start number) (BadLength place)
  Ok ((start, closes.0), closes.1)

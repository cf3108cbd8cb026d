-- The one spelling of parameters that aren't a single element.
use Rattle.std.specs.Prelude.{ℕ, Option, Some, None, List, [], ◌++◌}
use Rattle.bac_tags.specs.Writing.{written_tag}
use Rattle.bac_tags.specs.EnclosingTags.{opening, closing}

-- elements between an opening and a closing tag of one number
abbrev pub written_enclosed : ℕ → List ℕ → List ℕ
written_enclosed number inside = written_tag (opening number) ++ inside ++ written_tag (closing number)

-- a parameter that isn't given has no octets
abbrev pub written_if_given : {X : Type 0} → (X → List ℕ) → Option X → List ℕ
written_if_given write None = []
written_if_given write (Some x) = write x

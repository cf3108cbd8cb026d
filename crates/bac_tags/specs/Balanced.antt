-- Elements of any kind, one after the other, which are looked at no further (ANSI/ASHRAE 135-2020, 20.2.1).
use Rattle.std.specs.Prelude.{◌≡◌, ℕ, ◌==◌, ◌&&◌, not, if◌then◌else◌, List, [], ◌++◌, length}
use Rattle.bac_values.specs.ApplicationTags.{boolean_tag}
use Rattle.bac_tags.specs.declared.tag.Tag.{Tag}
use Rattle.bac_tags.specs.declared.tag.Shape.TheVariants.{Primitive}
use Rattle.bac_tags.specs.Tags.{SpellsTag}
use Rattle.bac_tags.specs.EnclosingTags.{opening, closing}

-- how many octets of content stand behind the tag of a primitive element; the value of an application's Boolean is in its tag (20.2.3)
abbrev pub content_size : Tag → ℕ → ℕ
content_size tag n = if not tag.context && tag.number == boolean_tag then 0 else n

-- a tag of a primitive element, and as many octets as it says
pub record IsPrimitive (header content : List ℕ) : Type 0 where
  pub tag : Tag
  pub size : ℕ
  pub tagged : SpellsTag header tag
  pub shape : tag.shape ≡ Primitive size
  pub long : length content ≡ content_size tag size

-- primitive elements, and elements between an opening and a closing tag of one number in a context
pub data AreElements : List ℕ → Type 0 where
  none : AreElements []
  primitive : (header content rest : List ℕ) → IsPrimitive header content → AreElements rest → AreElements (header ++ (content ++ rest))
  enclosed : (number : ℕ) (front inside back rest : List ℕ) → SpellsTag front (opening number) → AreElements inside → SpellsTag back (closing number) → AreElements rest → AreElements (front ++ (inside ++ (back ++ rest)))

abbrev pub SpellsElements : List ℕ → List ℕ → Type 0
SpellsElements octets elements = (elements ≡ octets) × AreElements octets

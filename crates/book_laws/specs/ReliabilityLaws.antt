-- The reliability of a value object is what the book says (ANSI/ASHRAE 135-2020, 13.4).
use Rattle.std.specs.Prelude.{◌≡◌, Bool, true, false, Option, Some, None, List, [], All}
use Rattle.bac_values.specs.declared.object_kind.ObjectKind.{ObjectKind}
use Rattle.bac_values.specs.declared.object_kind.ObjectKind.TheVariants.{MultiStateValue, CharacterStringValue}
use Rattle.object_table.specs.declared.object_site.ObjectSite.{ObjectSite}
use Rattle.object_table.specs.declared.row.Row.{Row}
use Rattle.object_table.specs.Properties.{has_limits, kind_in}
use Rattle.reliability_eval.specs.Reliability.{reliability_of}
use Rattle.profile.specs.Rules.{own_reliability}
use Rattle.profile.specs.Sites.{Object}
use Rattle.book_laws.specs.Objects.{object_in_book}
use Rattle.book_laws.specs.RuleLaws.{IsKnown}
use Rattle.book_laws.specs.Values.{reliability_in_book}

-- multi-state and character string values have fault values
abbrev pub has_fault_values : Option ObjectKind → Bool
has_fault_values (Some MultiStateValue) = true
has_fault_values (Some CharacterStringValue) = true
has_fault_values _ = false

-- an object has the faults of its kind alone, and its values are known
pub record HasFaultsOfKind (site : ObjectSite) : Type 0 where
  pub listed : has_fault_values (kind_in site) ≡ false → site.fault_values ≡ []
  pub limited : has_limits (kind_in site) ≡ false → (site.fault_low ≡ None) × (site.fault_high ≡ None)
  pub value : IsKnown site.value
  pub faults : All IsKnown site.fault_values

abbrev pub HasReliabilityOfBook : Type 0
HasReliabilityOfBook = (others : Object) (row : Row) → HasFaultsOfKind row.site → reliability_in_book (reliability_of row) ≡ own_reliability (object_in_book others row)

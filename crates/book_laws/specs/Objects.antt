-- A value object by the book's names. Nothing is decided here.
use Rattle.std.specs.Prelude.{Some, map}
use Rattle.object_table.specs.declared.row.Row.{Row}
use Rattle.reliability_eval.specs.Reliability.{fault_of_field}
use Rattle.profile.specs.Sites.{Object}
use Rattle.book_laws.specs.Values.{reliability_in_book, value_in_book}

-- an object of which the value is that of a row, and what says whether it is reliable; of the others nothing is said
abbrev pub object_in_book : Object → Row → Object
object_in_book others row = record others {
  value = Some (value_in_book row.site.value);
  reliability_evaluation_inhibit = row.site.reliability_inhibit;
  field_reliability = reliability_in_book (fault_of_field row.field_fault);
  fault_low_limit = row.site.fault_low;
  fault_high_limit = row.site.fault_high;
  fault_values = map value_in_book row.site.fault_values;
}

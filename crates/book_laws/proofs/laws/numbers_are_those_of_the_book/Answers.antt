use Rattle.book_laws.proofs.NumbersTied.{has_enumerations_of_code, has_errors_of_code, has_datatypes_of_code, has_properties_of_code, has_bounds_of_code}
use Rattle.book_laws.proofs.laws.numbers_are_those_of_the_book.Goals as goal

pub returns : goal.returns
returns c = record {
  enumerations = has_enumerations_of_code;
  errors = has_errors_of_code;
  datatypes = has_datatypes_of_code;
  properties = has_properties_of_code;
  bounds = has_bounds_of_code;
}

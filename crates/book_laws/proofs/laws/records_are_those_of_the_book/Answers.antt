use Rattle.book_laws.proofs.RecordsTied.{has_records_of_book}
use Rattle.book_laws.proofs.laws.records_are_those_of_the_book.Goals as goal

pub returns : goal.returns
returns c = record { records = has_records_of_book }

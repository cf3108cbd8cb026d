use Rattle.book_laws.proofs.ReliabilityTied.{has_reliability_of_book}
use Rattle.book_laws.proofs.laws.reliabilities_are_those_of_the_book.Goals as goal

pub returns : goal.returns
returns c = record { reliability = has_reliability_of_book }

use Rattle.book_laws.proofs.RulesTied.{has_rules_of_book}
use Rattle.book_laws.proofs.laws.rules_are_those_of_the_book.Goals as goal

pub returns : goal.returns
returns c = record { rules = has_rules_of_book }

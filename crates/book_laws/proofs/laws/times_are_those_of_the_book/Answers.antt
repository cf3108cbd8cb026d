use Rattle.book_laws.proofs.TimesTied.{has_times_of_book, has_windows_of_book, has_recipients_of_book}
use Rattle.book_laws.proofs.laws.times_are_those_of_the_book.Goals as goal

pub returns : goal.returns
returns c = record { times = has_times_of_book; windows = has_windows_of_book; recipients = has_recipients_of_book }

use Rattle.book_laws.proofs.CoursesTied.{has_course_of_book, has_moves_of_book}
use Rattle.book_laws.proofs.laws.courses_are_those_of_the_book.Goals as goal

pub returns : goal.returns
returns c = record { course = has_course_of_book; moves = has_moves_of_book }

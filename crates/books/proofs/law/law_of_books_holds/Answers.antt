-- The law, which leads stand, and why distinct numbers are few.
use Rattle.books.proofs.Lawful.{law_of_books}
use Rattle.books.proofs.Pigeonhole.{pigeonhole}
use Rattle.books.proofs.Standing.{which_stand}
use Rattle.books.proofs.law.law_of_books_holds.Goals as goal

pub returns : goal.returns
returns c = (law_of_books, which_stand, pigeonhole)

-- What contracts see of the book and the log in memory (this project's own). To be believed.
use Rattle.std.specs.Prelude.{List}
use Rattle.jt_store.specs.declared.calls.Calls.{Calls}
use Rattle.jt_order.specs.Books.{Book}
use Rattle.jt_order.specs.declared.performed.Performed.{Performed}

-- what a book in memory keeps, and which calls fail
pub record BookStock : Type 0 where
  pub book : Book
  pub calls : Calls

-- what a log in memory keeps, and which calls fail
pub record LogStock : Type 0 where
  pub performed : List Performed
  pub calls : Calls

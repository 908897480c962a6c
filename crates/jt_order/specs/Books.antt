-- What a book of orders and a log of them hold, and what their calls say of it (this project's own). To be believed.
use Rattle.std.specs.Prelude.{◌≡◌, ℕ, ◌<◌, ◌≤◌, ◌↔◌, List, [], ◌∷◌, ◌++◌, length, slice_get, Option, None, Some, IsNone, Result, Ok, Err}
use Rattle.jt_store.specs.Tables.{WhereKnown}
use Rattle.jt_store.specs.declared.error.StoreError.{StoreError}
use Rattle.jt_store.specs.declared.error.StoreError.TheVariants.{Failed, Full, Memory}
use Rattle.jt_order.specs.Orders.{OrderOf}
use Rattle.jt_order.specs.declared.book.BookState.{BookState}
use Rattle.jt_order.specs.declared.book.TheConstants.{ORDER_LIMIT}
use Rattle.jt_order.specs.declared.performed.Performed.{Performed}

-- ---- a book

-- the orders that were issued, and the results of the first of them, which are answered
pub record Book : Type 0 where
  pub issued : List OrderOf
  pub results : List ℕ

-- what stays true of a book
pub record IsBook (book : Book) : Type 0 where
  pub answered : length book.results ≤ length book.issued
  pub few : length book.issued ≤ ORDER_LIMIT

-- some order is not answered
abbrev pub HasUnanswered : Book → Type 0
HasUnanswered book = length book.results < length book.issued

-- the oldest order that is not answered
abbrev pub oldest_of : Book → Option OrderOf
oldest_of book = slice_get book.issued (length book.results)

-- one order more; one result more
abbrev pub with_order : OrderOf → Option Book → Option Book
with_order order None = None
with_order order (Some book) = Some (record { issued = book.issued ++ order ∷ []; results = book.results })

abbrev pub with_result : ℕ → Option Book → Option Book
with_result result None = None
with_result result (Some book) = Some (record { issued = book.issued; results = book.results ++ result ∷ [] })

-- A call that puts an order at the end and answers its number. Full comes exactly where as many as the limit were issued.
abbrev pub Issues : OrderOf → Option Book → Option Book → Result ℕ StoreError → Type 0
Issues order old now (Ok number) = (now ≡ with_order order old) × WhereKnown old (λ book. (number ≡ length book.issued) × (length book.issued < ORDER_LIMIT))
Issues order old now (Err Failed) = now ≡ old
Issues order old now (Err Memory) = now ≡ old
Issues order old now (Err (Full limit)) = (now ≡ old) × (limit ≡ ORDER_LIMIT) × WhereKnown old (λ book. length book.issued ≡ ORDER_LIMIT)

-- what a book that holds this tells of itself
pub record IsStateOf (book : Book) (state : BookState) : Type 0 where
  pub issued : state.issued ≡ length book.issued
  pub answered : state.answered ≡ length book.results
  pub oldest : state.oldest ≡ oldest_of book

-- what any book tells of itself
pub record IsSound (state : BookState) : Type 0 where
  pub answered : state.answered ≤ state.issued
  pub few : state.issued ≤ ORDER_LIMIT
  pub oldest : IsNone state.oldest ↔ (state.answered ≡ state.issued)

-- ---- a log

-- one order more that was performed
abbrev pub with_performed : Performed → Option (List Performed) → Option (List Performed)
with_performed p None = None
with_performed p (Some log) = Some (log ++ p ∷ [])

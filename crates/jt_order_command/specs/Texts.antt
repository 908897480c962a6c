-- What is printed of the lines of a script of orders: this project's own texts. To be believed.
use Rattle.std.specs.Prelude.{ℕ, ◌+◌, nat_le, if◌then◌else◌, List, [], ◌∷◌, ◌++◌, length, drop, codes}
use Rattle.std.specs.Fmt.{decimal}
use Rattle.jt_order.specs.declared.performed.Performed.{Performed}
use Rattle.jt_order_octets.specs.World.{OrderWorld}

-- the order of this number was performed, with this result
unfoldable pub performed_line : ℕ → ℕ → List ℕ
performed_line number outcome = codes "order " ++ decimal number ++ codes " performed " ++ decimal outcome ++ codes "\n"

-- and its answer came
unfoldable pub answered_line : ℕ → ℕ → List ℕ
answered_line number outcome = codes "order " ++ decimal number ++ codes " answered " ++ decimal outcome ++ codes "\n"

-- the line of an order that was performed, unless it was before, when so many were
abbrev pub performed_text : ℕ → ℕ → Performed → List ℕ
performed_text before number performed = if nat_le before number then performed_line number performed.result else []

-- the line of the first of these answers, which is the one to the order of this number, if there is one
abbrev pub answered_text : ℕ → List ℕ → List ℕ
answered_text number [] = []
answered_text number (outcome ∷ results) = answered_line number outcome

-- Of the orders from this number on, of which these were performed and these were answered: what happened, in order. An order is performed,
-- and then answered before the next is performed.
abbrev pub orders_text : ℕ → ℕ → List Performed → List ℕ → List ℕ
orders_text before number [] results = []
orders_text before number (performed ∷ log) results =
    (performed_text before number performed ++ answered_text number results) ++ orders_text before (number + 1) log (drop 1 results)

-- what is printed of an event that led from one world to the other: what happened to orders, from the oldest on that was not answered
abbrev pub event_text : OrderWorld → OrderWorld → List ℕ
event_text old new =
    orders_text (length old.log) (length old.results) (drop (length old.results) new.log) (drop (length old.results) new.results)

-- how many orders were issued, how many of them were performed, and how many of those were answered
unfoldable pub totals_line : (issued performed answered : ℕ) → List ℕ
totals_line issued performed answered =
    codes "issued=" ++ decimal issued ++ codes " performed=" ++ decimal performed ++ codes " answered=" ++ decimal answered ++ codes "\n"

abbrev pub end_line : OrderWorld → List ℕ
end_line w = totals_line (length w.issued) (length w.log) (length w.results)

-- as many orders as the limit were issued
unfoldable pub full_line : ℕ → List ℕ
full_line limit = codes "order book full at " ++ decimal limit ++ codes "\n"

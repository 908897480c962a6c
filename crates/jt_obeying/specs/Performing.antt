-- The result of an order at an order terminal, and the tables it leaves (the standard's messages; which of them are performed is this project's
-- own). To be believed.
use Rattle.std.specs.Prelude.{◌≡◌, ℕ, Some, Result, Ok, Err}
use Rattle.std.specs.Result.{is_err}
use Rattle.jt_value.specs.declared.phone.Edition.{Edition}
use Rattle.jt_value.specs.declared.phone.Edition.TheVariants.{E2013}
use Rattle.jt_value.specs.declared.refusal.Refusal.{Refusal}
use Rattle.jt_header.specs.declared.header.Header.{Header}
use Rattle.jt_codec.specs.Bodies.{body}
use Rattle.jt_codec.specs.declared.message.Message.{Message}
use Rattle.jt_terminal_rule.specs.declared.state.State.{State}
use Rattle.jt_terminal_rule.specs.Answers.{Answer, answer_to, response_to}
use Rattle.jt_terminal_answers.specs.Performing.{HeldTables, message_outcome}
use Rattle.jt_order.specs.Orders.{OrderOf, IsOrder}
use Rattle.jt_obeying.specs.Orders.{Performing}

-- a refused body is passed over, so that what stands here of it is without meaning
abbrev pub reading_outcome : HeldTables → Result Message Refusal → ℕ × HeldTables
reading_outcome t (Ok m) = message_outcome t m
reading_outcome t (Err refusal) = (2, t)

-- what the body of an order reads as in an edition
abbrev pub reading : Edition → OrderOf → Result Message Refusal
reading edition order = (body edition order.id).read order.body 0

-- the result of an order whose message has this edition, and the tables behind it
abbrev pub order_outcome : Edition → HeldTables → OrderOf → ℕ × HeldTables
order_outcome edition t order = reading_outcome t (reading edition order)

-- The result of an order at an order terminal, and the tables it leaves. These are told by how it reads in 2013, since every order with result
-- 0 leaves there what it leaves in 2019; so they follow from the log alone, which has no editions.
abbrev pub terminal_performing : Performing
terminal_performing = record {
  refuses = λ edition order. is_err (reading edition order);
  result = λ edition t order. (order_outcome edition t order).0;
  leaves = λ t order. (order_outcome E2013 t order).1;
}

-- with result 0 an order leaves the same tables, in whichever edition it was read
abbrev pub EditionsLeaveTheSame : Type 0
EditionsLeaveTheSame = (edition : Edition) (t : HeldTables) (order : OrderOf) → IsOrder order → (order_outcome edition t order).0 ≡ 0
    → (order_outcome edition t order).1 ≡ terminal_performing.leaves t order

-- ---- a terminal that is let in answers such a message so

-- the response with this result, and these tables
pub record AnswersWith (s : State) (h : Header) (answer : Answer) (outcome : ℕ × HeldTables) : Type 0 where
  pub says : answer.says ≡ Some (response_to s h outcome.0)
  pub params : answer.params ≡ outcome.1.params
  pub regions : answer.regions ≡ outcome.1.regions

-- an order that reads as a message has the result, and leaves the tables, that the terminal's answer to it has and leaves over the same tables
abbrev pub PerformsAsTheTerminal : Type 0
PerformsAsTheTerminal = (s : State) (h : Header) (edition : Edition) (order : OrderOf) (m : Message) → IsOrder order → reading edition order ≡ Ok m
    → AnswersWith s h (answer_to s h m) (order_outcome edition (record { params = s.params; regions = s.regions }) order)

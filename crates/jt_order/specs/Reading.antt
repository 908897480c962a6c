-- Which octets are an order, and the first reason against them (this project's own). To be believed.
use Rattle.std.specs.Prelude.{◌≡◌, ℕ, ◌<◌, ◌≤◌, true, false, List, length, Result, Ok, Err}
use Rattle.jt_value.specs.declared.limits.TheConstants.{BODY_LIMIT}
use Rattle.jt_value.specs.declared.phone.Edition.{Edition}
use Rattle.jt_codec.specs.Bodies.{body, HasBody}
use Rattle.jt_codec.specs.declared.message.Message.{Message}
use Rattle.jt_order.specs.Orders.{OrderOf, is_order_id}
use Rattle.jt_order.specs.declared.order.OrderError.{OrderError}
use Rattle.jt_order.specs.declared.order.OrderError.TheVariants.{NotOrder, Long, Refused, Memory}

-- The order of this id and body, or the first reason against it: the id is no order's; the body is too long; the body is refused. Memory
-- is wanted only where the first two do not apply.
abbrev pub ReadsOrder : Edition → ℕ → List ℕ → Result OrderOf OrderError → Type 0
ReadsOrder edition id octets (Ok order) = (order ≡ record { id = id; body = octets }) × (is_order_id id ≡ true) × (length octets ≤ BODY_LIMIT) × ((m : Message) × HasBody edition id m octets)
ReadsOrder edition id octets (Err (NotOrder n)) = (n ≡ id) × (is_order_id id ≡ false)
ReadsOrder edition id octets (Err (Long n)) = (n ≡ length octets) × (is_order_id id ≡ true) × (BODY_LIMIT < length octets)
ReadsOrder edition id octets (Err (Refused refusal)) = (is_order_id id ≡ true) × (length octets ≤ BODY_LIMIT) × (body edition id).Refuses octets 0 refusal
ReadsOrder edition id octets (Err Memory) = (is_order_id id ≡ true) × (length octets ≤ BODY_LIMIT)

-- What a world of orders does with a line. Steps for the proofs; no public clause cites them.
use Rattle.std.specs.Prelude.{◌≡◌, ◌≢◌, ◌↔◌, ℕ, true, false, List, ◌++◌, Result, Ok, Err, IfOk, OnOk}
use Rattle.jt_value.specs.declared.memory.Memory.{Memory}
use Rattle.jt_input.specs.Lines.{Outcome, bad_outcome, printing}
use Rattle.jt_input.specs.declared.hearer.Heard.{Heard}
use Rattle.jt_input.specs.declared.hearer.Heard.TheVariants as heard
use Rattle.jt_input.specs.declared.status.Status.{Status}
use Rattle.jt_input.specs.declared.status.Status.TheVariants.{StoreFault}
use Rattle.jt_order.specs.declared.book.TheConstants.{ORDER_LIMIT}
use Rattle.jt_order_play.specs.Playing.{ComesTo, finds_full, is_opened}
use Rattle.jt_order_play.specs.Scripts.{Names, OrderScene}
use Rattle.jt_order_play.specs.declared.event.OrderEvent.{OrderEvent}
use Rattle.jt_order_play.specs.declared.error.OrderWorldError.{OrderWorldError}
use Rattle.jt_order_play.specs.declared.error.OrderWorldError.TheVariants as refused
use Rattle.jt_order_command.specs.Script.{after_line, full_outcome}
use Rattle.jt_order_command.specs.Texts.{full_line}
use Rattle.jt_order_command.specs.declared.reading.OrderLine.{OrderLine}

-- whatever lines follow: this was printed, and they are heard next
pub record GoesOn (old now : OrderScene) (said : OrderLine) (text text_now : List ℕ) : Type 0 where
  pub added : List ℕ
  pub text_is : text_now ≡ text ++ added
  pub goes : (number : ℕ) (next : OrderScene → Outcome OrderScene) → after_line old number next said ≡ printing added (next now)

-- whatever lines follow: the line is bad, and nothing was done or printed
pub record IsBad (old now : OrderScene) (said : OrderLine) (text text_now : List ℕ) : Type 0 where
  pub text_is : text_now ≡ text
  pub same : now ≡ old
  pub ends : (number : ℕ) (next : OrderScene → Outcome OrderScene) → after_line old number next said ≡ bad_outcome old number

-- whatever lines follow: the book is full, which is printed, and nothing else was done
pub record IsFull (old now : OrderScene) (said : OrderLine) (text text_now : List ℕ) (status : Status) : Type 0 where
  pub text_is : text_now ≡ text ++ full_line ORDER_LIMIT
  pub is : status ≡ StoreFault
  pub ends : (number : ℕ) (next : OrderScene → Outcome OrderScene) → after_line old number next said ≡ full_outcome now

abbrev pub Does : Heard → OrderScene → OrderScene → OrderLine → List ℕ → List ℕ → Type 0
Does heard.Next old now said text text_now = GoesOn old now said text text_now
Does heard.Bad old now said text text_now = IsBad old now said text text_now
Does (heard.Settled status) old now said text text_now = IsFull old now said text text_now status

-- ---- what an event was answered

-- what a step promises
pub record Steps (old : OrderScene) (event : OrderEvent) (new : OrderScene) (result : Result (Unit {0}) OrderWorldError) : Type 0 where
  pub identity : new.identity ≡ old.identity
  pub ok : OnOk result (ComesTo old.identity.e2013 old.play event new.play)
  pub room : OnOk result (finds_full old.play.world event ≡ false)
  pub full : (limit : ℕ) → result ≡ Err (refused.Full limit) → (limit ≡ ORDER_LIMIT) × (finds_full old.play.world event ≡ true)
  pub no_line : (number : ℕ) → (result ≡ Err (refused.NoLine number)) ↔ (Names event number × (is_opened old.play.world number ≡ false))
  pub same : (error : OrderWorldError) → result ≡ Err error → error ≢ refused.Memory → new ≡ old

-- what is answered and printed of an event that was not done
abbrev pub Refuses : OrderWorldError → Result Heard Memory → List ℕ → List ℕ → Type 0
Refuses (refused.NoLine number) result text text_now = IfOk result (λ h. (h ≡ heard.Bad) × (text_now ≡ text))
Refuses (refused.Full limit) result text text_now = IfOk result (λ h. (h ≡ heard.Settled StoreFault) × (text_now ≡ text ++ full_line limit))
Refuses refused.Memory result text text_now = IfOk result (λ h. ⊥)

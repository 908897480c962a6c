-- What a gateway does with a line. Steps for the proofs; no public clause cites them.
use Rattle.std.specs.Prelude.{◌≡◌, ◌↔◌, ℕ, Bool, true, false, List, ◌++◌, Result, Ok, Err, IfOk, OnOk}
use Rattle.jt_value.specs.declared.limits.TheConstants.{FIX_LIMIT}
use Rattle.jt_input.specs.EarlyEnds.{full_line}
use Rattle.jt_input.specs.Lines.{Outcome, bad_outcome, printing}
use Rattle.jt_input.specs.declared.hearer.Heard.{Heard}
use Rattle.jt_input.specs.declared.hearer.Heard.TheVariants as heard
use Rattle.jt_input.specs.declared.status.Status.{Status}
use Rattle.jt_input.specs.declared.status.Status.TheVariants.{StoreFault}
use Rattle.jt_value.specs.declared.memory.Memory.{Memory}
use Rattle.jt_platform.specs.declared.request.Entry.{Entry}
use Rattle.jt_play.specs.declared.error.WorldError.{WorldError}
use Rattle.jt_play.specs.declared.error.WorldError.TheVariants as refused
use Rattle.jt_gateway.specs.declared.event.GatewayEvent.{GatewayEvent}
use Rattle.jt_gateway.specs.Gateway.{GatewayScene, HasNoLine, entries_of, gateway_after_line, gateway_at_full, gateway_full}
use Rattle.jt_gateway_command.specs.Script.{after_line, full_outcome}
use Rattle.jt_gateway_command.specs.declared.reading.GatewayLine.{GatewayLine}

-- whatever lines follow: this was printed, and they are heard next
pub record GoesOn (old now : GatewayScene) (said : GatewayLine) (text text_now : List ℕ) : Type 0 where
  pub added : List ℕ
  pub text_is : text_now ≡ text ++ added
  pub goes : (number : ℕ) (next : GatewayScene → Outcome GatewayScene) → after_line old number next said ≡ printing added (next now)

-- whatever lines follow: the line is bad, and nothing was done or printed
pub record IsBad (old now : GatewayScene) (said : GatewayLine) (text text_now : List ℕ) : Type 0 where
  pub text_is : text_now ≡ text
  pub same : now ≡ old
  pub ends : (number : ℕ) (next : GatewayScene → Outcome GatewayScene) → after_line old number next said ≡ bad_outcome old number

-- whatever lines follow: a vault is full, which is printed
pub record IsFull (old now : GatewayScene) (said : GatewayLine) (text text_now : List ℕ) (status : Status) : Type 0 where
  pub text_is : text_now ≡ text ++ full_line FIX_LIMIT
  pub is : status ≡ StoreFault
  pub ends : (number : ℕ) (next : GatewayScene → Outcome GatewayScene) → after_line old number next said ≡ full_outcome now

abbrev pub Does : Heard → GatewayScene → GatewayScene → GatewayLine → List ℕ → List ℕ → Type 0
Does heard.Next old now said text text_now = GoesOn old now said text text_now
Does heard.Bad old now said text text_now = IsBad old now said text text_now
Does (heard.Settled status) old now said text text_now = IsFull old now said text text_now status

-- ---- what an event was answered

-- what a step promises of a gateway to which lines alone led
pub record Steps (old : GatewayScene) (event : GatewayEvent) (new : GatewayScene) (result : Result (List Entry) WorldError) : Type 0 where
  pub ok : OnOk result (new ≡ gateway_after_line old event)
  pub room : OnOk result (gateway_full old event ≡ false)
  pub full : (limit : ℕ) → result ≡ Err (refused.Full limit) → (limit ≡ FIX_LIMIT) × (gateway_full old event ≡ true) × (new ≡ gateway_at_full old event)
  pub no_line : (number : ℕ) → (result ≡ Err (refused.NoLine number)) ↔ HasNoLine old event number
  pub same : (number : ℕ) → result ≡ Err (refused.NoLine number) → new ≡ old
  pub entries : IfOk result (λ (entries : List Entry). entries ≡ entries_of old new event)

-- what is answered and printed of an event that was not done
abbrev pub Refuses : WorldError → Result Heard Memory → List ℕ → List ℕ → Type 0
Refuses (refused.NoLine number) result text text_now = IfOk result (λ h. (h ≡ heard.Bad) × (text_now ≡ text))
Refuses (refused.Full limit) result text text_now = IfOk result (λ h. (h ≡ heard.Settled StoreFault) × (text_now ≡ text ++ full_line limit))
Refuses refused.Memory result text text_now = IfOk result (λ h. ⊥)

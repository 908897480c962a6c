-- What units are answered.
use Rattle.std.proofs.Common.{◌≡◌, ◌≢◌, ℕ, ◌==◌, ◌<◌, [], Bool, true, false, if◌then◌else◌, Option, Some, None, inl, inr, refl, sym, ap, ◌∙◌, arith}
use Rattle.jt_header.specs.declared.header.Header.{Header}
use Rattle.jt_codec.specs.declared.message.Message.{Message}
use Rattle.jt_codec.specs.declared.message.Message.TheVariants as message
use Rattle.jt_platform.specs.declared.request.Reply.{Reply}
use Rattle.jt_platform.specs.declared.request.Reply.TheVariants as say
use Rattle.jt_session.specs.Talk.{ack, accepted_result, answer_to, is_answer, register_reply}
use Rattle.jt_session.specs.Law.{IsAcceptedOnceStored, IsUnitId, is_stored}

abbrev pub result_of : Option Message → ℕ
result_of (Some (message.PlatformAck serial id result)) = result
result_of other = 1

-- a result that is neither, in place of the message
no_result : (o : Option Message) (serial id result n : ℕ) → o ≡ Some (message.PlatformAck serial id result) → result_of o ≡ n → 0 < n → n < 4 → (result ≢ 0) × (result ≢ 4)
no_result o serial id result n is has above below =
    let same : n ≡ result = sym has ∙ ap result_of is in
    (λ z. omega (arith, same, z, above), λ z. omega (arith, same, z, below))

unsupported : (id : ℕ) → IsUnitId id → accepted_result id ≡ 3
unsupported id (inl e) = ap accepted_result e
unsupported id (inr e) = ap accepted_result e

asked_for : (id : ℕ) → IsUnitId id → is_answer id ≡ false
asked_for id (inl e) = ap is_answer e
asked_for id (inr e) = ap is_answer e

denied : (b : Bool) (h : Header) (n : ℕ) → result_of (Some (if b then register_reply h n [] else ack h 1)) ≡ 1
denied true h n = refl
denied false h n = refl

accepted : (b : Bool) (h : Header) (n : ℕ) → b ≡ false → result_of (if b then None else Some (ack h n)) ≡ n
accepted true h n e = absurd cc
accepted false h n e = refl

pub stored : (h : Header) (r : Reply) → is_stored r ≡ true → answer_to h r ≡ Some (ack h 0)
stored h (say.Stored n) e = refl
stored h (say.Repeat n) e = refl
stored h (say.Renumbered n) e = refl
stored h (say.Registered code) e = absurd cc
stored h (say.Denied n) e = absurd cc
stored h say.Accepted e = absurd cc
stored h say.NotLive e = absurd cc
stored h (say.Fenced other) e = absurd cc
stored h (say.ListFull l) e = absurd cc
stored h say.StoreFault e = absurd cc
stored h say.Memory e = absurd cc

pub otherwise : (h : Header) (r : Reply) (serial id result : ℕ) → IsUnitId h.id → is_stored r ≡ false → answer_to h r ≡ Some (message.PlatformAck serial id result) → (result ≢ 0) × (result ≢ 4)
otherwise h (say.Stored n) serial id result unit e is = absurd cc
otherwise h (say.Repeat n) serial id result unit e is = absurd cc
otherwise h (say.Renumbered n) serial id result unit e is = absurd cc
otherwise h (say.Registered code) serial id result unit e is = no_result (answer_to h (say.Registered code)) serial id result 1 is refl (omega arith) (omega arith)
otherwise h (say.Denied n) serial id result unit e is = no_result (answer_to h (say.Denied n)) serial id result 1 is (denied (h.id == 0x0100) h n) (omega arith) (omega arith)
otherwise h say.Accepted serial id result unit e is =
    no_result (answer_to h say.Accepted) serial id result 3 is (accepted (is_answer h.id) h (accepted_result h.id) (asked_for h.id unit) ∙ unsupported h.id unit) (omega arith) (omega arith)
otherwise h say.NotLive serial id result unit e is = no_result (answer_to h say.NotLive) serial id result 1 is (accepted (is_answer h.id) h 1 (asked_for h.id unit)) (omega arith) (omega arith)
otherwise h (say.Fenced other) serial id result unit e is = no_result (answer_to h (say.Fenced other)) serial id result 1 is refl (omega arith) (omega arith)
otherwise h (say.ListFull l) serial id result unit e is = no_result None serial id result 1 is refl (omega arith) (omega arith)
otherwise h say.StoreFault serial id result unit e is = no_result None serial id result 1 is refl (omega arith) (omega arith)
otherwise h say.Memory serial id result unit e is = no_result None serial id result 1 is refl (omega arith) (omega arith)

pub accepted_once_stored : IsAcceptedOnceStored
accepted_once_stored = record { stored = stored; otherwise = otherwise }

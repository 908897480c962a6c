-- What follows for readers and writers of any layout.
use Rattle.std.proofs.Common.{◌≡◌, ℕ, ◌⊎◌, inl, inr, List, ◌++◌, Option, Some, Result, Ok, Err, refl, sym, ap, ◌∙◌, append_assoc, arith}
use Rattle.std.specs.Prelude.{MatchResult}
use Rattle.jt_value.specs.declared.refusal.Refusal.{Refusal}
use Rattle.jt_value.specs.declared.refusal.CodecError.{CodecError}
use Rattle.jt_value.specs.declared.refusal.CodecError.TheVariants as errors
use Rattle.jt_value.specs.Octets.{AreOctets}
use Rattle.jt_layout.specs.Layout.{◌>>=◌, Body, Fills, body_case}
use Rattle.jt_layout.specs.Answer.{Answers, IsOneToOne}
use Rattle.jt_layout.specs.Reading.{Gives, Finds, Judges}
use Rattle.jt_layout.proofs.Laws.{IsBody, ok_is, err_is}

-- a reader that gives what reading gives answers by the layout
pub answers : {A : Type 0} (b : Body A) → IsBody b → (s : List ℕ) (r : Result A CodecError) → AreOctets s → Gives (λ m. m) r (b.read s 0) → Answers b s r
answers b law s (Ok a) bytes e = law.takes s 0 a bytes (omega arith) e
answers b law s (Err errors.Memory) bytes e = tt
answers b law s (Err (errors.Refused r)) bytes e = law.refused s 0 r bytes (omega arith) e

-- each list of octets has a value or a reason
decided : {A : Type 0} (b : Body A) → IsBody b → (s : List ℕ) → AreOctets s → (r : Result A Refusal) → b.read s 0 ≡ r → ((a : A) × Fills b s 0 a) ⊎ ((r : Refusal) × b.Refuses s 0 r)
decided b law s bytes (Ok a) e = inl (a, law.takes s 0 a bytes (omega arith) e)
decided b law s bytes (Err r) e = inr (r, law.refused s 0 r bytes (omega arith) e)

has_one : {A : Type 0} (b : Body A) → IsBody b → (s : List ℕ) → AreOctets s → ((a : A) × Fills b s 0 a) ⊎ ((r : Refusal) × b.Refuses s 0 r)
has_one b law s bytes = decided b law s bytes (b.read s 0) refl

one_value : {A : Type 0} (b : Body A) → IsBody b → (s : List ℕ) (x y : A) → Fills b s 0 x → Fills b s 0 y → x ≡ y
one_value b law s x y hx hy = ok_is x y (sym (law.again s 0 x (omega arith) hx) ∙ law.again s 0 y (omega arith) hy)

one_reason : {A : Type 0} (b : Body A) → IsBody b → (s : List ℕ) (c d : Refusal) → b.Refuses s 0 c → b.Refuses s 0 d → c ≡ d
one_reason b law s c d hc hd = err_is c d (sym (law.refuses s 0 c (omega arith) hc) ∙ law.refuses s 0 d (omega arith) hd)

not_both : {A : Type 0} (b : Body A) → IsBody b → (s : List ℕ) (x : A) (r : Refusal) → Fills b s 0 x → b.Refuses s 0 r → ⊥
not_both b law s x r hx hr =
    let e : Ok x ≡ Err r = sym (law.again s 0 x (omega arith) hx) ∙ law.refuses s 0 r (omega arith) hr in
    absurd cc

-- the law of every body, from the law of its layout
pub one_to_one : {A : Type 0} (b : Body A) → IsBody b → IsOneToOne b
one_to_one b law = record {
  one_answer = λ s bytes. record {
    has = has_one b law s bytes;
    one_value = one_value b law s;
    one_reason = one_reason b law s;
    not_both = not_both b law s;
  };
  reads_back = λ a fits. record { fits = fits; parts = refl };
  distinct = λ a c fa fc same. one_value b law (b.spell a) a c (record { fits = fa; parts = refl }) (record { fits = fc; parts = same });
  placed = λ s r h. law.placed s 0 r (omega arith) h;
  reads_value = λ s a bytes. (λ e. law.takes s 0 a bytes (omega arith) e, λ h. law.again s 0 a (omega arith) h);
  reads_reason = λ s r bytes. (λ e. law.refused s 0 r bytes (omega arith) e, λ h. law.refuses s 0 r (omega arith) h);
}

-- two pieces written one after the other
pub wrote : (old mid new a b : List ℕ) → mid ≡ old ++ a → new ≡ mid ++ b → new ≡ old ++ (a ++ b)
wrote old mid new a b first second = second ∙ ap (λ (t : List ℕ). t ++ b) first ∙ append_assoc old a b

-- a value of one case of an enum
pub answers_case : {A B : Type 0} (f : Body A) (make : A → B) (case_of : B → Option A) → ((x : A) → case_of (make x) ≡ Some x) → (s : List ℕ) (a : A) → Fills f s 0 a → Fills (body_case f make case_of) s 0 (make a)
answers_case f make case_of back s a h = record { fits = rw (back a) h.fits; parts = rw (back a) h.parts }

-- a value is judged as one case of an enum is
judges_made : {A B X : Type 0} (make : A → B) (r : Result X CodecError) (read : Result A Refusal) → Judges r read → Judges r (read >>= λ x. Ok (make x))
judges_made make (Ok x) (Ok a) h = refl
judges_made make (Ok x) (Err q) h = absurd cc
judges_made make (Err errors.Memory) read h = tt
judges_made make (Err (errors.Refused q)) read h = rw h refl

pub judges_case : {A B X : Type 0} (f : Body A) (make : A → B) (case_of : B → Option A) (s : List ℕ) (r : Result X CodecError) → Judges r (f.read s 0) → Judges r ((body_case f make case_of).read s 0)
judges_case f make case_of s r h = judges_made make r (f.read s 0) h

-- a reader that takes no memory, seen by view, answers by the layout
pub answers_plainly : {X A : Type 0} (b : Body A) → IsBody b → (view : X → A) (s : List ℕ) (r : Result X Refusal) → AreOctets s → Finds view r (b.read s 0) → MatchResult r (λ x. Fills b s 0 (view x)) (λ q. b.Refuses s 0 q)
answers_plainly b law view s (Ok x) bytes e = law.takes s 0 (view x) bytes (omega arith) e
answers_plainly b law view s (Err r) bytes e = law.refused s 0 r bytes (omega arith) e

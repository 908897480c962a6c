-- What a splitter's step does, and the end of the streams that it stands for.
use Rattle.std.proofs.Common.{◌≡◌, ℕ, ◌+◌, eqb, ◌<◌, length, Option, List, [], ◌∷◌, refl, sym, ap, subst, ◌∙◌, arith, inl, inr}
use Rattle.std.proofs.lemmas.Bool.{cases_Bool, cases_eq, ne_eqb}
use Rattle.jt_value.specs.declared.refusal.Refusal.{Refusal}
use Rattle.jt_escape.specs.declared.splitter.Mode.{Mode}
use Rattle.jt_escape.specs.declared.splitter.Mode.TheVariants as modes
use Rattle.jt_escape.specs.declared.splitter.Split.{Split}
use Rattle.jt_escape.specs.declared.splitter.Split.TheVariants as split
use Rattle.jt_escape.specs.Span.{Whole, Ends}
use Rattle.jt_escape.specs.Scan.{end_of_stream, State, start, after, after_in, events_of, events_in, run, end_in}
use Rattle.jt_escape.specs.Splitter.{StandsFor, Continues, split_events}
use Rattle.jt_escape.proofs.Lasting.{end_like}
use Rattle.jt_escape.proofs.Reading.{ended, whole_is}

-- the end of a stream by the state that stands for it, or continues it
pub end_now : (state : State) (stream : List ℕ) (end : Option Refusal) → end ≡ end_in state.mode state.place → StandsFor state stream → Ends stream end
unfolding end_of_stream
end_now state stream end e h = subst (Ends stream) (ap (λ (x : State). end_in x.mode x.place) (sym h.taken) ∙ sym e) (ended stream)

pub end_in_place : (state : State) (stream : List ℕ) (end : Option Refusal) → end ≡ end_in state.mode state.place → Continues state stream → Ends stream end
unfolding end_of_stream
end_in_place state stream end e h = subst (Ends stream) (sym (e ∙ end_like state (run start stream) h.taken)) (ended stream)

-- each step is one octet
place_in : (mode : Mode) (state : State) (octet : ℕ) → (after_in mode state octet).place ≡ state.place + 1
place_in modes.Outside state octet = elim (cases_Bool (eqb octet 0x7E)) [ inl e ↦ rw e refl | inr e ↦ rw e refl ]
place_in modes.Straying state octet = elim (cases_Bool (eqb octet 0x7E)) [ inl e ↦ rw e refl | inr e ↦ rw e refl ]
place_in modes.Inside state octet =
    elim (cases_Bool (eqb octet 0x7E)) [
      | inl e ↦ elim (cases_Bool (eqb (length state.content) 0)) [ inl f ↦ rw (e, f) refl | inr f ↦ rw (e, f) refl ]
      | inr e ↦ elim (cases_Bool (eqb (length state.content) 1045)) [
        | inl f ↦ rw (e, f) refl
        | inr f ↦ elim (cases_Bool (eqb octet 0x7D)) [ inl g ↦ rw (e, f, g) refl | inr g ↦ rw (e, f, g) refl ]
      ]
    ]
place_in modes.Escaping state octet =
    elim (cases_Bool (eqb octet 1)) [
      | inl e ↦ rw e refl
      | inr e ↦ elim (cases_Bool (eqb octet 2)) [
        | inl f ↦ rw (e, f) refl
        | inr f ↦ elim (cases_Bool (eqb octet 0x7E)) [ inl g ↦ rw (e, f, g) refl | inr g ↦ rw (e, f, g) refl ]
      ]
    ]
place_in modes.Skipping state octet = elim (cases_Bool (eqb octet 0x7E)) [ inl e ↦ rw e refl | inr e ↦ rw e refl ]

pub place_next : (old new : State) (octet : ℕ) → new ≡ after old octet → new.place ≡ old.place + 1
unfolding after
place_next old new octet e = ap (λ (state : State). state.place) e ∙ place_in old.mode old octet

-- a content that is told has octets
some_in : (mode : Mode) (state : State) (octet opened : ℕ) (content : List ℕ) → Whole opened content ∷ [] ≡ events_in mode state octet → 0 < length content
some_in modes.Outside state octet opened content e =
    elim (cases_Bool (eqb octet 0x7E)) [ inl f ↦ let g = rw f at e in absurd cc | inr f ↦ let g = rw f at e in absurd cc ]
some_in modes.Straying state octet opened content e = absurd cc
some_in modes.Inside state octet opened content e =
    elim (cases_Bool (eqb octet 0x7E)) [
      | inl flag ↦ elim (cases_eq (length state.content) 0) [
        | inl none ↦ let g = rw (flag, none) at e in absurd cc
        | inr some ↦
            let g = rw (flag, ne_eqb _ _ some) at e in
            omega (arith, some, ap length (whole_is opened state.opened content state.content [] [] g).0)
      ]
      | inr other ↦ elim (cases_Bool (eqb (length state.content) 1045)) [
        | inl full ↦ let g = rw (other, full) at e in absurd cc
        | inr short ↦ let g = rw (other, short) at e in absurd cc
      ]
    ]
some_in modes.Escaping state octet opened content e =
    elim (cases_Bool (eqb octet 1)) [
      | inl f ↦ let g = rw f at e in absurd cc
      | inr f ↦ elim (cases_Bool (eqb octet 2)) [ inl h ↦ let g = rw (f, h) at e in absurd cc | inr h ↦ let g = rw (f, h) at e in absurd cc ]
    ]
some_in modes.Skipping state octet opened content e = absurd cc

pub content_some : (old new : State) (octet : ℕ) (answer : Split) → split_events answer new ≡ events_of old octet → answer ≡ split.Content → 0 < length new.content
unfolding events_of
content_some old new octet answer e is = some_in old.mode old octet new.opened new.content (rw is at e)

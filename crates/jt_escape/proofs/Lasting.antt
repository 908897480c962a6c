-- Answers to later octets depend on what lasts.
use Rattle.std.proofs.Common.{◌≡◌, ℕ, eqb, List, [], ◌∷◌, ◌++◌, refl, sym, ap, ◌∙◌, inl, inr}
use Rattle.std.proofs.lemmas.Bool.{cases_Bool}
use Rattle.jt_escape.specs.declared.splitter.Mode.{Mode}
use Rattle.jt_escape.specs.declared.splitter.Mode.TheVariants as modes
use Rattle.jt_escape.specs.Span.{Event}
use Rattle.jt_escape.specs.Scan.{State, after, events_of, run, scan, end_in, lasting, AreAlike}
use Rattle.jt_escape.proofs.Scanning.{at}

-- ---- one octet

after_at : (mode : Mode) (kept : List ℕ) (place opened octet : ℕ) → AreAlike (after (at mode kept place opened) octet) (after (lasting (at mode kept place opened)) octet)
unfolding after lasting
after_at modes.Outside kept place opened octet = elim (cases_Bool (eqb octet 0x7E)) [ inl e ↦ rw e refl | inr e ↦ rw e refl ]
after_at modes.Straying kept place opened octet = elim (cases_Bool (eqb octet 0x7E)) [ inl e ↦ rw e refl | inr e ↦ rw e refl ]
after_at modes.Inside kept place opened octet = refl
after_at modes.Escaping kept place opened octet = refl
after_at modes.Skipping kept place opened octet = elim (cases_Bool (eqb octet 0x7E)) [ inl e ↦ rw e refl | inr e ↦ rw e refl ]

lasting-after : (state : State) (octet : ℕ) → AreAlike (after state octet) (after (lasting state) octet)
lasting-after state octet = after_at state.mode state.content state.place state.opened octet

events_at : (mode : Mode) (kept : List ℕ) (place opened octet : ℕ) → events_of (at mode kept place opened) octet ≡ events_of (lasting (at mode kept place opened)) octet
unfolding events_of lasting
events_at modes.Outside kept place opened octet = refl
events_at modes.Straying kept place opened octet = refl
events_at modes.Inside kept place opened octet = refl
events_at modes.Escaping kept place opened octet = refl
events_at modes.Skipping kept place opened octet = refl

lasting-events : (state : State) (octet : ℕ) → events_of state octet ≡ events_of (lasting state) octet
lasting-events state octet = events_at state.mode state.content state.place state.opened octet

after_like : (a b : State) (octet : ℕ) → AreAlike a b → AreAlike (after a octet) (after b octet)
after_like a b octet like = lasting-after a octet ∙ ap (λ (state : State). lasting (after state octet)) like ∙ sym (lasting-after b octet)

pub events_like : (a b : State) (octet : ℕ) → AreAlike a b → events_of a octet ≡ events_of b octet
events_like a b octet like = lasting-events a octet ∙ ap (λ (state : State). events_of state octet) like ∙ sym (lasting-events b octet)

-- ---- octets

pub run_like : (octets : List ℕ) (a b : State) → AreAlike a b → AreAlike (run a octets) (run b octets)
run_like [] a b like = like
run_like (octet ∷ octets) a b like = run_like octets (after a octet) (after b octet) (after_like a b octet like)

pub scan_like : (octets : List ℕ) (a b : State) → AreAlike a b → scan a octets ≡ scan b octets
scan_like [] a b like = refl
scan_like (octet ∷ octets) a b like =
    ap (λ (events : List Event). events ++ scan (after a octet) octets) (events_like a b octet like)
    ∙ ap (λ (events : List Event). events_of b octet ++ events) (scan_like octets (after a octet) (after b octet) (after_like a b octet like))

-- ---- the end

end_at : (mode : Mode) (kept : List ℕ) (place opened : ℕ) → end_in mode place ≡ end_in (lasting (at mode kept place opened)).mode (lasting (at mode kept place opened)).place
unfolding lasting
end_at modes.Outside kept place opened = refl
end_at modes.Straying kept place opened = refl
end_at modes.Inside kept place opened = refl
end_at modes.Escaping kept place opened = refl
end_at modes.Skipping kept place opened = refl

lasting-end : (state : State) → end_in state.mode state.place ≡ end_in (lasting state).mode (lasting state).place
lasting-end state = end_at state.mode state.content state.place state.opened

pub end_like : (a b : State) → AreAlike a b → end_in a.mode a.place ≡ end_in b.mode b.place
end_like a b like = lasting-end a ∙ ap (λ (state : State). end_in state.mode state.place) like ∙ sym (lasting-end b)

-- No link was accepted, since memory was wanted.
use Rattle.std.proofs.Common.{◌≡◌, ◌≤◌, ℕ, List, [], length, Option, Some, refl, ap, subst, arith}
use Rattle.jt_outside.specs.Pool.{Pool}
use Rattle.jt_store.specs.Tables.{Tables}
use Rattle.jt_platform.specs.Allowed.{Legal, Opening}
use Rattle.jt_platform.specs.History.{newest}
use Rattle.jt_platform.specs.declared.desk.HubOpening.{HubOpening}
use Rattle.jt_platform.specs.declared.request.Entry.{Entry}
use Rattle.jt_platform.specs.Hub.{HubValue, opening_of}
use Rattle.jt_session.specs.declared.report.Report.{Report}
use Rattle.jt_server.specs.declared.served.ServeEnd.TheVariants.{Memory}
use Rattle.jt_server.specs.Jobs.{ServesLinks}
use Rattle.jt_server.specs.Served.{store_faults}
use Rattle.jt_server.proofs.Accepting.{counts_none}
use Rattle.jt_server.proofs.Together.{no_entries, nothing_legal, nothing_served}

pub none_served : {P : Type 0} (O : Type 0) (o : Opening) (hub : HubValue P) (sessions : ℕ) (pool : Pool) (faults kept : ℕ) (reports : List Report) → reports ≡ [] → hub.history ≡ [] → 1 ≤ sessions
    → ServesLinks O o hub.start hub.fleet hub.secret hub sessions pool pool faults faults kept kept reports Memory
none_served O o hub sessions pool faults kept reports is none some = record {
  legal = nothing_legal o hub.history none;
  opening = (refl, refl, refl);
  served = nothing_served o hub.history pool reports is;
  no_other = λ n _. no_entries hub.history n none;
  ended = ap length is;
  count = counts_none faults;
  faults = let no : store_faults reports ≡ 0 = ap store_faults is in omega (arith, no);
}

-- ---- the hub that a turn gives back

inside : {X : Type 0} (a b : X) → Some a ≡ Some b → a ≡ b
inside a b e = cc

pub same_opening : {P : Type 0} (a b : HubOpening P) → Some a ≡ Some b → (a.start ≡ b.start) × (a.fleet ≡ b.fleet) × (a.secret ≡ b.secret)
same_opening {P = P} a b e =
    let is = inside a b e in
    (ap (λ (o : HubOpening P). o.start) is, ap (λ (o : HubOpening P). o.fleet) is, ap (λ (o : HubOpening P). o.secret) is)

pub legal_over : {P : Type 0} (tables_of : P → Option Tables) (limit_of : P → ℕ) (a b : HubOpening P) (h : List Entry) → Some a ≡ Some b
    → Legal (opening_of (tables_of a.start) (limit_of a.start) a.fleet a.secret) (newest h) → Legal (opening_of (tables_of b.start) (limit_of b.start) b.fleet b.secret) (newest h)
legal_over {P = P} tables_of limit_of a b h e legal =
    subst (λ (o : HubOpening P). Legal (opening_of (tables_of o.start) (limit_of o.start) o.fleet o.secret) (newest h)) (inside a b e) legal

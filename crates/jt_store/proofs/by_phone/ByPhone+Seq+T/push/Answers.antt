use Rattle.std.proofs.Common.{refl, ◌∙◌, ◌++◌, ◌∷◌, [], ap, sym, Some, None, cond, subst, ◌≡◌, List, ℕ}
use Rattle.std.specs.Prelude.{IsSome}
use Rattle.std.specs.Str.{bytes_eq}
use Rattle.jt_store.specs.Memory.{list_under, under}
use Rattle.jt_store.proofs.Pairs.{kept, listed, on_err, pushed, updated}
use Rattle.jt_store.proofs.by_phone.ByPhone+Seq+T.push.Goals as goal

pub returns-in-Some-clause-ok : goal.returns-in-Some-clause-ok
returns-in-Some-clause-ok g c =
    let writes = c.get_mut.follows.holds c.push.new.self in
    let was = listed c.self.inside.values c.of-digits.result (Some c.in-Some.list.now) c.in-Some.ensures.value in
    λ q. pushed c.of-digits.result (under c.self.inside.values.entries) (under (c.get_mut.follows.lender c.push.new.self).entries) c.push.new.self c.args.item
    (c.in_ok-push-in-Some.ensures.ok ∙ ap (λ xs. xs ++ c.args.item ∷ []) was)
    (updated c.of-digits.result c.self.inside.values (c.get_mut.follows.lender c.push.new.self) (Some c.push.new.self) (writes.3 (subst IsSome c.in-Some.ensures.value refl))) q
    ∙ ap (λ pairs. list_under pairs q ++ cond (bytes_eq c.of-digits.result q) (c.args.item ∷ []) []) c.self.view_is
    ∙ ap (λ key. list_under c.args.self.now q ++ cond (bytes_eq key q) (c.args.item ∷ []) []) c.of-digits.ensures

pub returns-in_err-push-in-Some-clause-err : goal.returns-in_err-push-in-Some-clause-err
returns-in_err-push-in-Some-clause-err g c =
    let writes = c.get_mut.follows.holds c.push.new.self in
    let was = listed c.self.inside.values c.of-digits.result (Some c.in-Some.list.now) c.in-Some.ensures.value in
    let same : (q : List ℕ) → list_under (c.get_mut.follows.lender c.push.new.self).entries q ≡ list_under c.args.self.now q = λ q.
    kept c.of-digits.result (under c.self.inside.values.entries) (under (c.get_mut.follows.lender c.push.new.self).entries) c.push.new.self
    (c.in_err-push-in-Some.ensures.err ∙ was)
    (updated c.of-digits.result c.self.inside.values (c.get_mut.follows.lender c.push.new.self) (Some c.push.new.self) (writes.3 (subst IsSome c.in-Some.ensures.value refl))) q
    ∙ ap (λ pairs. list_under pairs q) c.self.view_is in
    on_err _ _ same

pub returns-clause-ok : goal.returns-clause-ok
returns-clause-ok g c =
    let same = c.get_mut.follows.holds-at-none in
    let was = c.new-list.ensures ∙ listed c.self.inside.values c.of-digits.result None c.in-None.ensures.value ∙ ap (λ m. list_under m.entries c.of-digits.result) (sym same) in
    λ q. pushed c.of-digits.result (under c.get_mut.follows.lender-at-none.entries) (under c.insert.new.self.entries) c.push-2.new.self c.args.item
    (c.in_ok-push.ensures.ok ∙ ap (λ xs. xs ++ c.args.item ∷ []) was)
    (updated c.of-digits.result c.get_mut.follows.lender-at-none c.insert.new.self (Some c.push-2.new.self) c.in_ok-insert.ensures.updates) q
    ∙ ap (λ m. list_under m.entries q ++ cond (bytes_eq c.of-digits.result q) (c.args.item ∷ []) []) same
    ∙ ap (λ pairs. list_under pairs q ++ cond (bytes_eq c.of-digits.result q) (c.args.item ∷ []) []) c.self.view_is
    ∙ ap (λ key. list_under c.args.self.now q ++ cond (bytes_eq key q) (c.args.item ∷ []) []) c.of-digits.ensures

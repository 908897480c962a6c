use Rattle.std.proofs.Common.{rules, ◌≡◌, [], sym, ◌∙◌, ap}
use mathlib.Core.Logic.{dite}
use native.Mathlib.Decide.{ℕ_discrete}
use lib.ListN.{get_elem?}
use Rattle.jt_turn.specs.Histories.{entries_of}
use Rattle.turn_tests.proofs.Two.{two_ended, none_but_two}
use Rattle.turn_tests.proofs.asking.both_ask.Goals as goal

pub returns-clause-first : goal.returns-clause-first
returns-clause-first g c =
    let none : c.split-2.new.pass.ended ≡ [] = search rules in
    let number : c.in_ok-one-2.one.number ≡ 1 = search rules in
    let mine : c.in_ok-one-2.one.mine ≡ c.in_ok-one-2.first = search rules in
    let all = two_ended c.split-2.new.pass.ended c.join.new.pass.ended c.join-2.new.pass.ended _ _ none c.join.ensures.ended c.join-2.ensures.ended in
    ap (λ n. entries_of n c.close-desk.result.entries) (sym number) ∙ (c.close-desk.ensures.ended 0 _ (ap (λ l. get_elem? l 0) all) ∙ mine)

pub returns-clause-second : goal.returns-clause-second
returns-clause-second g c =
    let none : c.split-2.new.pass.ended ≡ [] = search rules in
    let number : c.in_ok-two-2.two.number ≡ 2 = search rules in
    let mine : c.in_ok-two-2.two.mine ≡ c.in_ok-two-2.second = search rules in
    let all = two_ended c.split-2.new.pass.ended c.join.new.pass.ended c.join-2.new.pass.ended _ _ none c.join.ensures.ended c.join-2.ensures.ended in
    ap (λ n. entries_of n c.close-desk.result.entries) (sym number) ∙ (c.close-desk.ensures.ended 1 _ (ap (λ l. get_elem? l 1) all) ∙ mine)

pub returns-clause-no_other : goal.returns-clause-no_other
returns-clause-no_other g c = λ n not_one not_two.
    let none : c.split-2.new.pass.ended ≡ [] = search rules in
    let root : c.join-2.new.pass.number ≡ 0 = search rules in
    let idle : c.join-2.new.pass.mine ≡ [] = search rules in
    let one : c.in_ok-one-2.one.number ≡ 1 = search rules in
    let two : c.in_ok-two-2.two.number ≡ 2 = search rules in
    let all = two_ended c.split-2.new.pass.ended c.join.new.pass.ended c.join-2.new.pass.ended _ _ none c.join.ensures.ended c.join-2.ensures.ended in
    dite (ℕ_discrete n 0)
    (λ e. ap (λ k. entries_of k c.close-desk.result.entries) (e ∙ sym root) ∙ (c.close-desk.ensures.mine ∙ idle))
    (λ ne. c.close-desk.ensures.others n (λ e. ne (e ∙ root)) (none_but_two n _ _ _ all (λ e. not_one (sym e ∙ one)) (λ e. not_two (sym e ∙ two))))

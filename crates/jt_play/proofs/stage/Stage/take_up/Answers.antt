use Rattle.jt_platform.specs.History.{newest}
use Rattle.jt_octets.specs.Reaching.{Leads, Reached}
use Rattle.std.proofs.Common.{ℕ, ◌<◌, ◌≡◌, true, length, set, subst, sym, ap, ◌∙◌}
use Rattle.std.proofs.lemmas.List.{get_or_read}
use Rattle.jt_octets.specs.World.{Line, line_at}
use Rattle.std.specs.Prelude.{reverse}
use Rattle.jt_play.specs.Holding.{Hears, Numbered, blank, lines_in, past_of, play_of, told_of}
use Rattle.jt_play.specs.Playing.{Play, takes_octet}
use Rattle.jt_play.proofs.Scenes.{own_reached}
use Rattle.jt_play.proofs.Taken.{asks_fine, opened_on, up_whole}
use Rattle.jt_play.proofs.Worlds.{length_in, line_in, taken_there, up_leads, up_running}
use Rattle.jt_play.proofs.stage.Stage.take_up.Goals as goal

pub returns-clause-leads : goal.returns-clause-leads
returns-clause-leads c =
    let s = c.self.inside in
    subst (λ (p : Play). Leads p.world (play_of s.terminal c.take.new.hub (set s.lines.items c.args.place c.take.new.self) (past_of s.past.items) (told_of s.told.items) s.clock).world) c.self.view_is
    (up_leads s.terminal s.hub c.take.new.hub s.lines.items (past_of s.past.items) (told_of s.told.items) s.clock c.args.place c.index_mut.result.now c.take.new.self c.take.result c.self.invariant.0
    (subst (λ (p : Play). c.args.place < length p.world.lines) (sym c.self.view_is) c.requires.opened) c.index_mut.ensures.value c.take.ensures.takes c.take.ensures.opening.0 c.take.ensures.opening.1 c.take.ensures.opening.2)

pub invariant_of-self : goal.invariant_of-self
invariant_of-self c =
    let s = c.self.inside in
    let within : c.args.place < length (lines_in s.lines.items) = subst (λ (p : Play). c.args.place < length p.world.lines) (sym c.self.view_is) c.requires.opened in (
      up_running s.terminal s.hub c.take.new.hub s.lines.items c.args.place c.index_mut.result.now c.take.new.self c.self.invariant.0 (subst (λ (n : ℕ). c.args.place < n) (length_in s.lines.items) within) c.index_mut.ensures.value
          c.take.ensures.number c.take.ensures.opened
          (ap (λ (n : Numbered). n.line.is_open) (get_or_read s.lines.items c.args.place c.index_mut.result.now (subst (λ (n : ℕ). c.args.place < n) (length_in s.lines.items) within) c.index_mut.ensures.value blank)
          ∙ (sym (ap (λ (l : Line). l.is_open) (line_in s.lines.items c.args.place (subst (λ (n : ℕ). c.args.place < n) (length_in s.lines.items) within)))
          ∙ subst (λ (p : Play). (line_at p.world.lines c.args.place).is_open ≡ true) (sym c.self.view_is) c.requires.is_open))
          c.take.ensures.closed c.take.ensures.opening.0 c.take.ensures.opening.3,
      subst (Hears s.hears s.ears) (sym (taken_there s.terminal s.hub c.take.new.hub s.lines.items (past_of s.past.items) (told_of s.told.items) s.clock c.args.place c.index_mut.result.now c.take.new.self c.take.result c.self.invariant.0
          within c.index_mut.ensures.value c.take.ensures.takes c.take.ensures.opening.0 c.take.ensures.opening.1 c.take.ensures.opening.2)) c.self.invariant.1,
      c.self.invariant.2,
    )

pub returns-clause-whole : goal.returns-clause-whole
returns-clause-whole c short =
    let s = c.self.inside in
    let reached : ∥ Reached (play_of s.terminal s.hub s.lines.items (past_of s.past.items) (told_of s.told.items) s.clock).world ∥₁ = subst (λ (p : Play). ∥ Reached p.world ∥₁) (sym c.self.view_is) c.requires.reached in
    let within : c.args.place < length (lines_in s.lines.items) = subst (λ (p : Play). c.args.place < length p.world.lines) (sym c.self.view_is) c.requires.opened in
    let left = subst (λ (p : Play). (line_at p.world.lines c.args.place).up.taken < length (line_at p.world.lines c.args.place).up.octets) (sym c.self.view_is) c.requires.left in
    let w = (play_of s.terminal s.hub s.lines.items (past_of s.past.items) (told_of s.told.items) s.clock).world in
    subst (λ (p : Play). play_of s.terminal c.take.new.hub (set s.lines.items c.args.place c.take.new.self) (past_of s.past.items) (told_of s.told.items) s.clock ≡ record p { world = takes_octet p.world c.args.place (line_at p.world.lines c.args.place).session }) c.self.view_is
    (up_whole c.law_answers.ensures c.law_histories.ensures s.terminal s.hub c.take.new.hub s.lines.items (past_of s.past.items) (told_of s.told.items) s.clock c.args.place c.index_mut.result.now c.take.new.self c.take.result c.self.invariant.0
    within c.index_mut.ensures.value c.take.ensures.takes c.take.ensures.opening.0 c.take.ensures.opening.1 c.take.ensures.opening.2
    (own_reached c.law_asked.ensures.phone w reached) (asks_fine c.law_asked.ensures.asks w reached c.args.place within left) short)

pub returns-clause-is_open : goal.returns-clause-is_open
returns-clause-is_open c = opened_on c.self.inside.lines.items c.args.place c.take.new.self (subst (λ (p : Play). c.args.place < length p.world.lines) (sym c.self.view_is) c.requires.opened) c.take.ensures.opened

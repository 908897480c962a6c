use Rattle.std.proofs.Common.{◌≡◌, List, [], ◌++◌, ap, ◌∙◌, subst}
use Rattle.std.specs.List.{flat_map}
use Rattle.jt_value.specs.Sameness.{key_of}
use Rattle.jt_platform.specs.History.{rows_after}
use Rattle.jt_platform.specs.declared.request.Entry.{Entry}
use Rattle.jt_play.specs.declared.tally.Tally.{Tally}
use Rattle.jt_play.specs.Holding.{rows_in, tally_of, tally_sum}
use Rattle.jt_play.specs.Playing.{Play}
use Rattle.jt_play.proofs.Tallies.{tally_of_all}
use Rattle.jt_play.proofs.stage.Stage.tally.Goals as goal

pub returns : goal.returns
returns c =
    let s = c.self.inside in
    let key = key_of c.args.phone.now in
    let all = flat_map (λ (h : List Entry). h) s.past.items in
    let past : c.tally_all-past.result ≡ tally_of (rows_in key all) = c.tally_all-past.ensures ∙ ap (λ (hs : List (List Entry)). tally_of (rows_in key (flat_map (λ (h : List Entry). h) hs))) c.as_slice.ensures.value in
    let present : c.tally_entries.result ≡ tally_of (rows_in key s.hub.history) = c.tally_entries.ensures ∙ ap (λ (h : List Entry). tally_of (rows_in key h)) c.history.ensures.entries in
    subst (λ (p : Play). c.plus.result ≡ tally_of (rows_after key [] (p.world.history ++ p.world.past))) c.self.view_is
    (c.plus.ensures ∙ (ap (λ (t : Tally). tally_sum t c.tally_entries.result) past ∙ (ap (tally_sum (tally_of (rows_in key all))) present ∙ tally_of_all key all s.hub.history)))

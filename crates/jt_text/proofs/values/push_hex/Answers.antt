use Rattle.std.proofs.Common.{◌≡◌, ◌++◌, List, ℕ, string_bytes, sym, ap, ◌∙◌}
use Rattle.hex.specs.Hex.{encode_lower}
use Rattle.std.proofs.lemmas.List.{take-append-drop, append-nil}
use Rattle.std.proofs.Transfers.{starts_with_trans}
use Rattle.jt_text.proofs.HexPieces.{printed, all_printed, is_nil}
use Rattle.jt_text.proofs.values.push_hex.Goals as goal

pub loop-left-preserved : goal.loop-left-preserved
loop-left-preserved c =
    let left = c.loop-left.left.now in
    let piece = c.split_at.result.0.now in
    let others = c.split_at.result.1.now in
    let split : left ≡ piece ++ others = rw (c.split_at.ensures.front, c.split_at.ensures.back) (sym (take-append-drop c.min.result left)) in
    let put : string_bytes c.push_to.new.text ≡ string_bytes c.loop-left.text ++ encode_lower piece =
    rw (c.in_ok-push_to.ensures.text, c.put_digits.ensures.text, c.clear.ensures) (ap (λ (digits : List ℕ). string_bytes c.loop-left.text ++ digits) (append-nil (encode_lower piece))) in (
      printed (string_bytes c.args.text.now) (string_bytes c.loop-left.text) (string_bytes c.push_to.new.text) piece others c.args.octets.now left c.loop-left.invariant.0 split put,
      starts_with_trans _ _ _ c.push_to.ensures.kept c.loop-left.invariant.1,
    )

pub returns-clause-text : goal.returns-clause-text
returns-clause-text c = all_printed (string_bytes c.args.text.now) (string_bytes c.loop-left.text) c.args.octets.now c.loop-left.left.now c.loop-left.invariant.0 (is_nil c.loop-left.left.now (sym c.is_empty.ensures ∙ c.loop-left-test.false))

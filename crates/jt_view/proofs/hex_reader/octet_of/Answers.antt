use Rattle.std.proofs.Common.{List, ℕ, ap, rules, slice_index_or}
use Rattle.jt_view.proofs.HexDigits.{decoded}
use Rattle.jt_view.proofs.hex_reader.octet_of.Goals as goal

pub unwrap-requires : goal.unwrap-requires
unwrap-requires c =
    let pair = decoded c.args.high c.args.low c.requires.high c.requires.low in
    let answer = rw pair at c.decode_to_slice.ensures.value in
    rw answer.0 (search rules)

pub returns : goal.returns
returns c =
    let pair = decoded c.args.high c.args.low c.requires.high c.requires.low in
    let answer = rw pair at c.decode_to_slice.ensures.value in
    ap (λ (octets : List ℕ). slice_index_or octets 0 0) answer.1

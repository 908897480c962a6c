use Rattle.std.proofs.Common.{slice_index_or, sym, refl, ◌∙◌}
use Rattle.jt_view.proofs.HexSoFar.{hex_begun, hex_blank, hex_digit, hex_wrong, hex_completes, hex_stands, hex_whole, wrong_seen}
use Rattle.jt_view.proofs.hex_reader.HexReader.read.Goals as goal
use Rattle.jt_view.proofs.hex_reader.HexReader.read.Goals.{then-is_digit+in_ok-take, else-is_digit+else-not-is_blank}

pub loop-index-init : goal.loop-index-init
loop-index-init c = hex_begun c.args.self.now c.args.text.now c.args.octets.now.items

pub returns-then-not-is_blank-clause-wrong : goal.returns-then-not-is_blank-clause-wrong
returns-then-not-is_blank-clause-wrong c =
    let place = c.loop-index.index in
    let wrong = hex_wrong _ _ c.args.text.now _ _ place (slice_index_or c.args.text.now place 0) 0 c.loop-index-test.true refl (sym c.is_blank.ensures ∙ c.if-not-is_blank.true) (sym c.is_digit.ensures ∙ c.if-is_digit.false) c.loop-index.invariant in
    wrong_seen c.args.self.now c.args.text.now place wrong.0

pub returns-then-not-is_blank-clause-octets : goal.returns-then-not-is_blank-clause-octets
returns-then-not-is_blank-clause-octets c =
    let place = c.loop-index.index in
    let wrong = hex_wrong _ _ c.args.text.now _ _ place (slice_index_or c.args.text.now place 0) 0 c.loop-index-test.true refl (sym c.is_blank.ensures ∙ c.if-not-is_blank.true) (sym c.is_digit.ensures ∙ c.if-is_digit.false) c.loop-index.invariant in
    hex_completes c.args.self.now c.args.text.now _ _ wrong.1

pub loop-index-preserved : goal.loop-index-preserved
loop-index-preserved c =
    let place = c.loop-index.index in
    let octet = slice_index_or c.args.text.now place 0 in
    elim c.if-is_digit.branch [
      | then-is_digit+in_ok-take w ↦ rw (w.self-is, w.octets-is) (hex_digit _ _ _ c.args.text.now _ _ _ place octet 0 c.loop-index-test.true refl
          (sym c.is_digit.ensures ∙ w.if-is_digit.true) w.in_ok-take.ensures.waits w.in_ok-take.ensures.octets c.loop-index.invariant)
      | else-is_digit+else-not-is_blank w ↦ rw (w.self-is, w.octets-is) (hex_blank _ _ c.args.text.now _ _ place octet 0 c.loop-index-test.true refl
          (sym w.is_blank.ensures ∙ w.if-not-is_blank.false) (sym c.is_digit.ensures ∙ w.if-is_digit.false) c.loop-index.invariant)
    ]

pub returns-clause-right : goal.returns-clause-right
returns-clause-right c none = hex_stands c.args.self.now c.loop-index.self c.args.text.now _ _
    (hex_whole _ _ c.args.text.now _ _ c.loop-index.index c.loop-index-test.false c.loop-index.invariant)

pub returns-clause-octets : goal.returns-clause-octets
returns-clause-octets c =
    let whole = hex_whole _ _ c.args.text.now _ _ c.loop-index.index c.loop-index-test.false c.loop-index.invariant in
    hex_completes c.args.self.now c.args.text.now _ _ whole.gained

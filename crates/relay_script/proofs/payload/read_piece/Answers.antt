use Rattle.relay_script.proofs.Payloads.{plain_piece, coded_found}
use Rattle.relay_script.proofs.payload.read_piece.Goals as goal

pub returns-then-first-ne92 : goal.returns-then-first-ne92
returns-then-first-ne92 c = plain_piece c.args.text.now c.in_ok-first.first c.in_ok-first.rest.now c.in_ok-first.ensures c.if-first-ne92.true

pub returns-in-120 : goal.returns-in-120
returns-in-120 c =
    let first = c.if-first-ne92.false in
    let letter = c.in-120.is in
    coded_found c.args.text.now c.in_ok-letter.rest.now (let one = c.in_ok-first.ensures in let two = c.in_ok-letter.ensures in cc) c.read_coded.result c.read_coded.ensures.byte c.read_coded.ensures.digits

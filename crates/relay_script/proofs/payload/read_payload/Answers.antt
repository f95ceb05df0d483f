use Rattle.relay_script.proofs.Payloads.{hex_payload, text_payload}
use Rattle.relay_script.proofs.payload.read_payload.Goals as goal

pub returns-in-120 : goal.returns-in-120
returns-in-120 c =
    let one = c.in-Some.ensures in
    let two = c.in-Some-read_head.ensures in
    let colon = c.if-colon-ne58.false in
    let letter = c.in-120.is in
    hex_payload c.args.text.now c.in-Some-read_head.rest.now (cc) c.read_hex.result c.read_hex.ensures

pub returns-in-116 : goal.returns-in-116
returns-in-116 c =
    let one = c.in-Some.ensures in
    let two = c.in-Some-read_head.ensures in
    let colon = c.if-colon-ne58.false in
    let letter = c.in-116.is in
    text_payload c.args.text.now c.in-Some-read_head.rest.now (cc) c.read_text.result c.read_text.ensures

use Rattle.std.proofs.Common.{ℕ, Option, subst}
use Rattle.ng_bencode.specs.Room.{Room}
use Rattle.ng_bencode.specs.Row.{list_in}
use Rattle.ng_bencode.specs.Tree.{pairs_of}
use Rattle.ng_bencode.specs.declared.row.Row.{Row}
use Rattle.ng_bencode.specs.declared.value.Value.{Value}
use Rattle.call_board.specs.Requests.{ReadsBody}
use Rattle.control_messages.specs.Bodies.{pairs_if}
use Rattle.control_messages.proofs.Read.{reads_so, is_small}
use Rattle.control_messages.proofs.body.read_body.Goals as goal

pub returns-in-Some-clause-reads : goal.returns-in-Some-clause-reads
returns-in-Some-clause-reads c =
    let reads = subst (λ (d : Option (Row (Room ℕ × Value))). ReadsBody c.args.body.now (pairs_if d)) c.in-Some.is c.in_ok-pairs.ensures in
    reads_so c.args.body.now (pairs_of (list_in c.in-Some.pairs)) c.body_of.result reads c.body_of.ensures.dictionary

pub returns-in-Some-clause-small : goal.returns-in-Some-clause-small
returns-in-Some-clause-small c =
    let reads = subst (λ (d : Option (Row (Room ℕ × Value))). ReadsBody c.args.body.now (pairs_if d)) c.in-Some.is c.in_ok-pairs.ensures in
    is_small c.args.body.now c.body_of.result
    (reads_so c.args.body.now (pairs_of (list_in c.in-Some.pairs)) c.body_of.result reads c.body_of.ensures.dictionary) c.body_of.ensures.command

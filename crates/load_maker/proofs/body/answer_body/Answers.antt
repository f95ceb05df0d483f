use Rattle.std.proofs.Common.{◌∙◌, ap}
use Rattle.ng_bencode.specs.Row.{list_in}
use Rattle.ng_bencode.specs.Spells.{spelling}
use Rattle.ng_bencode.specs.Tree.{pairs_of, tree_of}
use Rattle.load_maker.proofs.Trees.{answer_is}
use Rattle.load_maker.proofs.body.answer_body.Goals as goal

pub returns-in-Ok : goal.returns-in-Ok
returns-in-Ok c =
    c.in-Ok.ensures
    ∙ ap spelling
    (answer_is (pairs_of (list_in c.new-pairs.result)) (pairs_of (list_in c.put_text.new.pairs)) (pairs_of (list_in c.put_text-2.new.pairs))
    (pairs_of (list_in c.put_text-3.new.pairs)) (pairs_of (list_in c.put_text-4.new.pairs)) (pairs_of (list_in c.put_text-5.new.pairs))
    (tree_of c.dict.result) c.as_slice.result.now c.as_slice-2.result.now c.args.call c.args.protected
    (ap pairs_of c.new-pairs.ensures) (c.as_slice.ensures ∙ c.in_ok-id.ensures) (c.as_slice-2.ensures ∙ c.in_ok-sdp.ensures)
    c.in_ok-put_text.ensures.put c.in_ok-put_text-2.ensures.put c.in_ok-put_text-3.ensures.put c.in_ok-put_text-4.ensures.put c.in_ok-put_text-5.ensures.put c.dict.ensures)

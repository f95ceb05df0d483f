use Rattle.std.proofs.Common.{rules, ◌≡◌, true}
use Rattle.load_maker.proofs.KeyLine.{key_put, on_ok}
use Rattle.load_maker.proofs.sdp.put_answer_end.Goals as goal

pub returns : goal.returns
returns c =
    let protected : c.args.protected ≡ true = search rules in
    on_ok c.put-4.result _ _
    (λ last.
    key_put c.args.sdp.now.list c.put-2.new.text.list c.put-3.new.text.list c.put-4.new.text.list _ c.args.call c.args.protected protected
    c.in_ok-put.ensures c.write_key-size.ensures.line c.in_ok-put-2.ensures last)
    c.put-4.ensures

use Rattle.std.proofs.Common.{◌≡◌, ◌+◌, suc, drop, sym, ◌∙◌, ap, arith}
use Rattle.sdp_edit.specs.Places.{connection_follows}
use Rattle.sdp_edit.proofs.Lists.{drop-get}
use Rattle.sdp_edit.proofs.PlaceLemmas.{follows_media, follows_connection, follows_other}
use Rattle.sdp_edit.proofs.ahead.connection_follows.Goals as goal

pub returns-then-is_media : goal.returns-then-is_media
returns-then-is_media c =
    let here = ap connection_follows (drop-get c.args.sdp.now c.loop-at.at c.line-line.result.now c.line-line.ensures) in
    sym (sym c.loop-at.invariant ∙ here ∙ follows_media c.line-line.result.now (drop (suc c.loop-at.at) c.args.sdp.now) (sym c.if-is_media.ensures))

pub returns-then-is_connection : goal.returns-then-is_connection
returns-then-is_connection c =
    let here = ap connection_follows (drop-get c.args.sdp.now c.loop-at.at c.line-line.result.now c.line-line.ensures) in
    sym (sym c.loop-at.invariant ∙ here ∙ follows_connection c.line-line.result.now (drop (suc c.loop-at.at) c.args.sdp.now) (sym c.if-is_media.ensures) (sym c.if-is_connection.ensures))

pub loop-at-preserved : goal.loop-at-preserved
loop-at-preserved c =
    let here = ap connection_follows (drop-get c.args.sdp.now c.loop-at.at c.line-line.result.now c.line-line.ensures) in
    let next : c.loop-at.at + 1 ≡ suc c.loop-at.at = omega arith in
    ap (λ n. connection_follows (drop n c.args.sdp.now)) next
    ∙ sym (follows_other c.line-line.result.now (drop (suc c.loop-at.at) c.args.sdp.now) (sym c.if-is_media.ensures) (sym c.if-is_connection.ensures)) ∙ sym here ∙ c.loop-at.invariant

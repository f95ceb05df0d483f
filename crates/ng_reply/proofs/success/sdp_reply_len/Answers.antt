use Rattle.std.proofs.Common.{length, decimal, sym, ap, ◌∙◌, arith}
use Rattle.ng_reply.proofs.Spelled.{sdp_length}
use Rattle.ng_reply.proofs.success.sdp_reply_len.Goals as goal

pub returns : goal.returns
returns c sdp is =
    let digits = c.as_bytes-digits.ensures.value ∙ c.format.ensures.text ∙ ap decimal (sym is) in
    omega (arith, sdp_length sdp, ap length digits, is)

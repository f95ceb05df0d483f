use Rattle.std.proofs.Common.{◌∙◌, ap, List, ℕ, ◌+◌, ◌-◌, ◌≡◌, take, drop, length, arith}
use Rattle.std.specs.Int.{w32, from_be_bytes}
use Rattle.srtcp_context.specs.Packets.{word_of}
use Rattle.srtcp_context.proofs.session.read_word.Goals as goal

pub returns : goal.returns
unfolding word_of
returns c =
    let start = length c.args.bytes.now - 14 in
    let size : (start + 4) - start ≡ 4 = omega arith in
    c.from_be_bytes.ensures
    ∙ ap (λ (l : List ℕ). from_be_bytes w32 l)
    (c.copy_from_slice.ensures.after ∙ ap (λ (n : ℕ). take n (drop start c.args.bytes.now)) size)

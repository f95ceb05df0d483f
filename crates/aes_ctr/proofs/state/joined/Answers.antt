use Rattle.std.proofs.Common.{slice_index, sym, arith, ◌+◌, ◌*◌}
use Rattle.aes_ctr.proofs.Numbers.{columns_in}
use Rattle.aes_ctr.proofs.state.joined.Goals as goal

pub returns : goal.returns
returns c =
    let s = c.args.columns in
    let a = c.pair-high.ensures.high in
    let b = c.pair-high.ensures.low in
    let d = c.pair-low.ensures.high in
    let e = c.pair-low.ensures.low in
    let n = c.from.result * 18446744073709551616 + c.from-2.result in
    sym (columns_in n (slice_index s 0) (slice_index s 1) (slice_index s 2) (slice_index s 3) (omega (arith, a)) (omega (arith, b)) (omega (arith, d)) (omega (arith, e)))

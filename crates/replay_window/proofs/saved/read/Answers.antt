use Rattle.std.proofs.Common.{◌+◌, ◌*◌, arith}
use Rattle.replay_window.proofs.SavedParts.{parts}
use Rattle.replay_window.proofs.saved.read.Goals as goal

pub returns-clause-parts : goal.returns-clause-parts
returns-clause-parts c =
    let bits = c.from.result * 18446744073709551616 + c.from-2.result in
    parts c.args.bytes.now c.from_be_bytes-index.result c.from_be_bytes-high.result c.from_be_bytes-low.result bits c.told-bytes c.fits-bytes
    c.from_be_bytes-index.ensures c.from_be_bytes-high.ensures c.from_be_bytes-low.ensures c.from_be_bytes-low.type_inv
    (omega (arith, c.from.ensures, c.from-2.ensures))

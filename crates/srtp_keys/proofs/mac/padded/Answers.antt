use Rattle.std.proofs.Common.{arith}
use Rattle.srtp_keys.proofs.Authenticating.{holds_padded}
use Rattle.srtp_keys.proofs.mac.padded.Goals as goal

pub returns : goal.returns
returns c =
    holds_padded c.args.block.now c.bytes.bytes c.args.pad c.update.new.self c.told-block c.bytes.invariant.long (λ k h. c.bytes.invariant.done k (omega arith))
    (c.update.ensures _ c.new-state.ensures)

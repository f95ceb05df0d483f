use Rattle.std.proofs.Common.{◌↔◌, IsTrue, Bool, sym, subst}
use Rattle.state_reads.specs.Texts.{HasCache}
use Rattle.state_reads.proofs.KeptReplies.{loaded_is}
use Rattle.state_reads.proofs.caches.is_loaded.Goals as goal

pub returns : goal.returns
returns c =
    subst (λ (b : Bool). IsTrue b ↔ HasCache c.args.saved) (sym c.is_some.ensures)
    (loaded_is c.args.saved c.in_ok-loaded.loaded c.in_ok-loaded.ensures.loaded c.in_ok-loaded.ensures.refused)

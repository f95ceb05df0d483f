use Rattle.std.proofs.Common.{sym, refl, arith}
use Rattle.ng_json.proofs.Places.{sorted_step}
use Rattle.ng_json.proofs.encode.sorted.Goals as goal

pub loop-pair-preserved : goal.loop-pair-preserved
loop-pair-preserved c =
    sorted_step c.as_slice-pair-items.result.now c.loop-pair.pair-index c.pair-item.result c.loop-pair.members.items c.deref.result.now c.insert.new.self.items c.in_ok-key.key
    c.as_slice-in-loop-pair.result.now c.as_slice.result.now _ c.place_of-at.result (omega arith) c.pair-item.is c.deref.ensures.value c.as_slice-in-loop-pair.ensures c.in_ok-key.ensures c.as_slice.ensures refl
    (c.place_of-at.ensures.place c.in_ok-key.key _ (sym c.as_slice-in-loop-pair.ensures)) c.in_ok-insert.ensures.items c.loop-pair.invariant

use Rattle.std.proofs.Common.{◌<◌, sym, subst, length, arith}
use Rattle.std.specs.Map.{values_of}
use Rattle.std.proofs.lemmas.Map.Entries.{length-values_of}
use Rattle.std.proofs.lemmas.Option.{get_or_from_slice_get}
use Rattle.ng_bencode.specs.Room.{Room}
use Rattle.call_board.specs.declared.live_call.LiveCall.{LiveCall}
use Rattle.call_board.proofs.live_calls.LiveCalls.at.Goals as goal

pub index-requires : goal.index-requires
index-requires c =
    let low = subst (λ (calls : Room LiveCall). c.args.place < length calls.list) (sym c.self.view_is) c.requires in
    omega (arith, low, length-values_of c.self.inside.calls.entries)

pub returns : goal.returns
returns c = rw (← c.self.view_is) (sym (get_or_from_slice_get (values_of c.self.inside.calls.entries) c.args.place c.index.result.now c.index.result.now c.index.ensures))

use Rattle.std.proofs.Common.{◌<◌, sym, subst, length, arith}
use Rattle.std.specs.Map.{values_of}
use Rattle.std.proofs.lemmas.Map.Entries.{length-values_of}
use Rattle.std.proofs.lemmas.Option.{get_or_from_slice_get}
use Rattle.ng_bencode.specs.Room.{Room}
use Rattle.call_board.specs.declared.live_call.LiveCall.{LiveCall}
use Rattle.call_board.proofs.Keyed.{under-set, values-set}
use Rattle.call_board.proofs.live_calls.LiveCalls.go_on.Goals as goal

pub index_mut-requires : goal.index_mut-requires
index_mut-requires c =
    let low = subst (λ (calls : Room LiveCall). c.args.place < length calls.list) (sym c.self.view_is) c.requires in
    omega (arith, low, length-values_of c.self.inside.calls.entries)

pub invariant_of-self : goal.invariant_of-self
invariant_of-self c = under-set c.self.inside.calls.entries c.args.place c.index_mut.result.now c.go_on.new.self c.index_mut.ensures.value c.go_on.ensures.id c.self.invariant

pub returns : goal.returns
returns c = rw (← c.self.view_is) (record {
  before = c.index_mut.result.now;
  after = c.go_on.new.self;
  before_is = sym (get_or_from_slice_get (values_of c.self.inside.calls.entries) c.args.place c.index_mut.result.now c.index_mut.result.now c.index_mut.ensures.value);
  list_is = values-set c.self.inside.calls.entries c.args.place c.go_on.new.self;
  number_is = c.go_on.ensures.number;
  taken = c.go_on.ensures.taken;
  cell_is = c.go_on.ensures.cell;
  applies = c.go_on.ensures.applies;
})

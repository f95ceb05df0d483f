use Rattle.std.proofs.Common.{◌+◌, ◌<◌, List, [], ◌∷◌, subst, length, take, drop, arith}
use Rattle.port_pool.specs.declared.pairs.Lease.{Lease}
use Rattle.media_ports.specs.Ends.{ArePairsOpened}
use Rattle.std.specs.List.{AllZip}
use Rattle.relay_outside.proofs.Telling.{gained_both}
use Rattle.media_ports.specs.Addresses.{addresses_of}
use Rattle.media_ports.specs.Calls.{ClosesUncalled, AllOpen}
use Rattle.media_ports.proofs.Telling.{told_after, told_less}
use Rattle.media_ports.proofs.Closed.{closes_uncalled}
use Rattle.media_ports.proofs.Held.{leased_distinct}
use Rattle.media_ports.proofs.Leased.{drop_next, get_take, first_distinct, pair_within, zip_more, open_here, open_later}
use Rattle.media_ports.proofs.closed_ports.close_opened.Goals as goal

pub close_first-requires-clause-pair : goal.close_first-requires-clause-pair
close_first-requires-clause-pair g c = pair_within c.args.config.now c.args.leases.now.list c.loop-index.index c.get.result.now c.get.ensures c.requires.leased.differ

pub close_first-requires-clause-open : goal.close_first-requires-clause-open
close_first-requires-clause-open g c =
    let n = length c.args.opened.now.list in
    let all = take n c.args.leases.now.list in
    let lease = c.get.result.now in
    let i = c.loop-index.index in
    let before : i < n = omega arith in
    let is = get_take c.args.leases.now.list n i lease before c.get.ensures in
    told_less (g.P.PortMaker.log c.loop-index.ports) (AllOpen (addresses_of c.args.config.now (drop i all))) (AllOpen (addresses_of c.args.config.now (lease ∷ [])))
    (λ calls. open_here c.args.config.now all i lease calls is) c.loop-index.invariant.still

pub close_first-requires-clause-opened : goal.close_first-requires-clause-opened
close_first-requires-clause-opened g c =
    let n = length c.args.opened.now.list in
    let all = take n c.args.leases.now.list in
    let lease = c.get.result.now in
    let i = c.loop-index.index in
    let before : i < n = omega arith in
    let is = get_take c.args.leases.now.list n i lease before c.get.ensures in (
      drop (i + 1) all,
      subst (λ (ls : List Lease). ArePairsOpened g.P.In.InEnd.log g.P.Out.OutEnd.log c.args.config.now ls c.loop-index.opened.list) (drop_next all i lease is)
          c.loop-index.invariant.opened,
    )

pub loop-index-preserved : goal.loop-index-preserved
loop-index-preserved g c =
    let log = g.P.PortMaker.log in
    let config = c.args.config.now in
    let n = length c.args.opened.now.list in
    let all = take n c.args.leases.now.list in
    let lease = c.get.result.now in
    let i = c.loop-index.index in
    let before : i < n = omega arith in
    let is = get_take c.args.leases.now.list n i lease before c.get.ensures in
    let closed = AllZip ClosesUncalled (addresses_of config (lease ∷ [])) in
    let are = first_distinct config c.args.leases.now.list n (leased_distinct config c.args.leases.now.list c.requires.families c.requires.leased) in
    record {
      closes = gained_both (log c.args.ports.now) (log c.loop-index.ports) (log c.close_first.new.ports)
          (AllZip ClosesUncalled (addresses_of config (take i all))) closed (AllZip ClosesUncalled (addresses_of config (take (i + 1) all)))
          (λ xs ys. zip_more config ClosesUncalled all i lease xs ys is) c.loop-index.invariant.closes c.close_first.ensures.closes;
      still = told_after (log c.loop-index.ports) (log c.close_first.new.ports) closed (AllOpen (addresses_of config (drop i all))) (AllOpen (addresses_of config (drop (i + 1) all)))
          (λ calls more open_ those. open_later config all i lease calls more is are open_ (closes_uncalled (addresses_of config (lease ∷ [])) more those)) c.loop-index.invariant.still c.close_first.ensures.closes;
      count = omega arith;
      opened = c.close_first.ensures.opened (drop (i + 1) all) (subst (λ (ls : List Lease). ArePairsOpened g.P.In.InEnd.log g.P.Out.OutEnd.log config ls c.loop-index.opened.list)
          (drop_next all i lease is) c.loop-index.invariant.opened);
      room = cc;
      later = omega arith;
    }

use Rattle.std.proofs.Common.{◌≡◌, ◌∙◌, ◌+◌, ◌*◌, [], ◌∷◌, ap, sym, subst, ℕ, length, take, drop, List, arith}
use Rattle.std.proofs.lemmas.List.{take_all}
use Rattle.port_pool.specs.declared.pairs.Lease.{Lease}
use Rattle.relay_outside.specs.DeviceLogs.{WhereLogged}
use Rattle.relay_outside.proofs.Telling.{gained_both, gained_less}
use Rattle.media_ports.specs.Addresses.{addresses_of}
use Rattle.media_ports.specs.Calls.{OpensPairs, OpensUpTo, NoneOpen, AllOpen, SameOpen}
use Rattle.media_ports.specs.Ends.{ArePairsOpened, half_count}
use Rattle.media_ports.proofs.Closed.{OpensAll}
use Rattle.media_ports.proofs.Telling.{told_after, told_less, both_told_where}
use Rattle.media_ports.proofs.Held.{leased_distinct}
use Rattle.media_ports.proofs.Leased.{pair_within, pairs_from_all}
use Rattle.media_ports.proofs.UpTo.{opens_next, none_open_here, none_open_later, same_open, gained_failing, gained_undone, told_open_upto, half_few, opened_pushed, count_pushed, room_pushed}
use Rattle.media_ports.proofs.opened_ports.open_pairs.Goals as goal

pub open_pair-requires-clause-pair : goal.open_pair-requires-clause-pair
open_pair-requires-clause-pair g c = pair_within c.args.config.now c.args.leases.now.list c.loop-index.index c.get.result.now c.get.ensures c.requires.leased.differ

pub open_pair-requires-clause-closed : goal.open_pair-requires-clause-closed
open_pair-requires-clause-closed g c =
    let leases = c.args.leases.now.list in
    let lease = c.get.result.now in
    let i = c.loop-index.index in
    told_less (g.P.PortMaker.log c.loop-index.ports) (NoneOpen (addresses_of c.args.config.now (drop i leases))) (NoneOpen (addresses_of c.args.config.now (lease ∷ [])))
    (λ calls. none_open_here c.args.config.now leases i lease calls c.get.ensures) c.loop-index.invariant.closed

pub undo-requires-clause-open : goal.undo-requires-clause-open
undo-requires-clause-open g c =
    let log = g.P.PortMaker.log in
    let config = c.args.config.now in
    let leases = c.args.leases.now.list in
    let lease = c.get.result.now in
    let i = c.loop-index.index in
    let k = half_count c.in-Err.half in
    let opens = gained_failing config leases i k lease (log c.args.ports.now) (log c.loop-index.ports) (log c.open_pair.new.ports) c.get.ensures (half_few c.in-Err.half) c.loop-index.invariant.opens c.in-Err.ensures.then_fails in
    let open_ = told_open_upto (addresses_of config leases) (2 * i + k) (log c.args.ports.now) (log c.open_pair.new.ports) (NoneOpen (addresses_of config leases)) c.requires.closed opens in
    subst (λ (n : ℕ). WhereLogged (log c.open_pair.new.ports) (AllOpen (take (2 * n + k) (addresses_of config leases)))) (sym c.loop-index.invariant.count) open_

pub returns-in-Err-clause-then_fails : goal.returns-in-Err-clause-then_fails
returns-in-Err-clause-then_fails g c =
    let log = g.P.PortMaker.log in
    let config = c.args.config.now in
    let leases = c.args.leases.now.list in
    let ats = addresses_of config leases in
    let lease = c.get.result.now in
    let i = c.loop-index.index in
    let k = half_count c.in-Err.half in
    let opens = gained_failing config leases i k lease (log c.args.ports.now) (log c.loop-index.ports) (log c.open_pair.new.ports) c.get.ensures (half_few c.in-Err.half) c.loop-index.invariant.opens c.in-Err.ensures.then_fails in
    let held = length c.loop-index.opened.list in
    gained_undone ats (2 * i + k) (2 * held + k) c.undo.result.opened (log c.args.ports.now) (log c.open_pair.new.ports) (log c.undo.new.ports)
    (ap (λ n. 2 * n + k) c.loop-index.invariant.count) c.undo.ensures.count opens c.undo.ensures.closes

pub returns-in-Err-clause-same : goal.returns-in-Err-clause-same
returns-in-Err-clause-same g c =
    let log = g.P.PortMaker.log in
    let ats = addresses_of c.args.config.now c.args.leases.now.list in
    both_told_where (log c.args.ports.now) (log c.undo.new.ports) (OpensUpTo ats c.undo.result.opened) (NoneOpen ats) SameOpen (λ before more none upto. same_open ats c.undo.result.opened before more none upto)
    c.requires.closed (returns-in-Err-clause-then_fails g c)

pub loop-index-preserved : goal.loop-index-preserved
loop-index-preserved g c =
    let log = g.P.PortMaker.log in
    let config = c.args.config.now in
    let leases = c.args.leases.now.list in
    let lease = c.get.result.now in
    let i = c.loop-index.index in
    let one = OpensAll (addresses_of config (lease ∷ [])) in
    let distinct = leased_distinct config leases c.requires.families c.requires.leased in
    record {
      opens = gained_both (log c.args.ports.now) (log c.loop-index.ports) (log c.open_pair.new.ports) (OpensAll (addresses_of config (take i leases))) one (OpensAll (addresses_of config (take (i + 1) leases)))
          (λ xs ys. opens_next config leases i lease xs ys c.get.ensures) c.loop-index.invariant.opens c.in-Ok.ensures.opens;
      closed = told_after (log c.loop-index.ports) (log c.open_pair.new.ports) one (NoneOpen (addresses_of config (drop i leases))) (NoneOpen (addresses_of config (drop (i + 1) leases)))
          (λ calls more none opens. none_open_later config leases i lease calls more c.get.ensures distinct none opens) c.loop-index.invariant.closed c.in-Ok.ensures.opens;
      count = count_pushed c.loop-index.opened c.push.new.self c.in-Ok.ends c.push.ensures ∙ ap (λ n. n + 1) c.loop-index.invariant.count;
      opened = opened_pushed g.P.In.InEnd.log g.P.Out.OutEnd.log config leases i lease c.loop-index.opened c.push.new.self c.in-Ok.ends c.get.ensures c.push.ensures
          c.loop-index.invariant.opened c.in-Ok.ensures.opened;
      room = room_pushed c.loop-index.opened c.push.new.self c.in-Ok.ends c.push.ensures ∙ c.loop-index.invariant.room;
      later = omega (arith, c.in-Ok.ensures.cause.later);
    }

pub returns-clause-opens : goal.returns-clause-opens
returns-clause-opens g c =
    let log = g.P.PortMaker.log in
    let config = c.args.config.now in
    let leases = c.args.leases.now.list in
    let whole : take c.loop-index.index leases ≡ leases = take_all c.loop-index.index leases (omega arith) in
    gained_less (log c.args.ports.now) (log c.loop-index.ports) (OpensAll (addresses_of config (take c.loop-index.index leases))) (OpensPairs config leases)
    (λ calls opens. pairs_from_all config leases calls (subst (λ (these : List Lease). OpensAll (addresses_of config these) calls) whole opens)) c.loop-index.invariant.opens

pub returns-clause-opened : goal.returns-clause-opened
returns-clause-opened g c =
    let leases = c.args.leases.now.list in
    let whole : take c.loop-index.index leases ≡ leases = take_all c.loop-index.index leases (omega arith) in
    subst (λ (these : List Lease). ArePairsOpened g.P.In.InEnd.log g.P.Out.OutEnd.log c.args.config.now these c.loop-index.opened.list) whole c.loop-index.invariant.opened

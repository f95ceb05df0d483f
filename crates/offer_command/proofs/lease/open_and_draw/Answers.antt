use Rattle.std.proofs.Common.{◌≡◌, ◌≤◌, sym, subst, ℕ, List, length, take, arith}
use Rattle.std.proofs.lemmas.List.{take_all}
use Rattle.std.specs.List.{AllZip}
use Rattle.relay_outside.specs.DeviceLogs.{Gained, WhereLogged}
use Rattle.port_pool.specs.declared.pairs.Lease.{Lease}
use Rattle.media_ports.specs.Addresses.{addresses_of}
use Rattle.media_ports.specs.Calls.{NoneOpen, AllOpen, ClosesUncalled}
use Rattle.media_ports.specs.Ends.{ArePairsOpened}
use Rattle.media_ports.proofs.UpTo.{told_all_open}
use Rattle.offer_command.proofs.LeasesUndone.{gained_closed, same_after}
use Rattle.offer_command.proofs.lease.open_and_draw.Goals as goal

later_on : (first then last : ℕ) → first ≤ then → then ≤ last → first ≤ last
later_on first then last before after = omega arith

no_earlier : (count : ℕ) → count ≤ count
no_earlier count = omega arith

pub close_opened-requires-clause-open : goal.close_opened-requires-clause-open
close_opened-requires-clause-open g c =
    let log = g.P.PortMaker.log in
    let leases = c.args.leases.now.list in
    let whole : take (length c.open_pairs.new.opened.list) leases ≡ leases = take_all (length c.open_pairs.new.opened.list) leases (let same = c.in_default.ensures.pairs in omega (arith, same)) in
    subst (λ (ls : List Lease). WhereLogged (log c.open_pairs.new.ports) (AllOpen (addresses_of c.args.config.now ls))) (sym whole)
    (told_all_open c.args.config.now leases (log c.args.ports.now) (log c.open_pairs.new.ports) (NoneOpen (addresses_of c.args.config.now leases)) c.requires.closed
    c.in_default.ensures.opens)

pub close_opened-requires-clause-opened : goal.close_opened-requires-clause-opened
close_opened-requires-clause-opened g c =
    let leases = c.args.leases.now.list in
    let whole : take (length c.open_pairs.new.opened.list) leases ≡ leases = take_all (length c.open_pairs.new.opened.list) leases (let same = c.in_default.ensures.pairs in omega (arith, same)) in
    subst (λ (ls : List Lease). ArePairsOpened g.P.In.InEnd.log g.P.Out.OutEnd.log c.args.config.now ls c.open_pairs.new.opened.list) (sym whole) c.in_default.ensures.opened

pub returns-then-is_err-clause-closes : goal.returns-then-is_err-clause-closes
returns-then-is_err-clause-closes g c =
    let log = g.P.PortMaker.log in
    let leases = c.args.leases.now.list in
    let whole : take (length c.open_pairs.new.opened.list) leases ≡ leases = take_all (length c.open_pairs.new.opened.list) leases (let same = c.in_default.ensures.pairs in omega (arith, same)) in
    gained_closed c.args.config.now leases (log c.args.ports.now) (log c.open_pairs.new.ports) (log c.close_opened.new.ports) c.in_default.ensures.opens
    (subst (λ (ls : List Lease). Gained (log c.open_pairs.new.ports) (log c.close_opened.new.ports) (AllZip ClosesUncalled (addresses_of c.args.config.now ls))) whole
    c.close_opened.ensures.closes)

pub returns-then-is_err-clause-same : goal.returns-then-is_err-clause-same
returns-then-is_err-clause-same g c =
    let log = g.P.PortMaker.log in
    same_after (addresses_of c.args.config.now c.args.leases.now.list) (log c.args.ports.now) (log c.close_opened.new.ports) c.requires.closed (returns-then-is_err-clause-closes g c)

pub returns-in-Err-clause-later : goal.returns-in-Err-clause-later
returns-in-Err-clause-later g c = (c.open_pairs.ensures.cause.later, no_earlier (g.K.KeySource.faults c.args.keys.now))

pub returns-then-is_err-clause-later : goal.returns-then-is_err-clause-later
returns-then-is_err-clause-later g c =
    let faults = g.P.PortMaker.faults in (
      later_on (faults c.args.ports.now) (faults c.open_pairs.new.ports) (faults c.close_opened.new.ports) c.open_pairs.ensures.cause.later c.close_opened.ensures.later,
      c.draw_keys.ensures.cause.later,
    )

pub returns-clause-later : goal.returns-clause-later
returns-clause-later g c = (c.open_pairs.ensures.cause.later, c.draw_keys.ensures.cause.later)

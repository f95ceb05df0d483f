use Rattle.std.proofs.Common.{◌≡◌, ◌∙◌, ◌+◌, ◌*◌, ◌++◌, [], ◌∷◌, ap, sym, subst, ℕ, length, take, List, Some, arith}
use Rattle.std.specs.Prelude.{slice_get}
use Rattle.std.specs.List.{AllZip}
use Rattle.relay_outside.specs.declared.address.Addr.{Addr}
use Rattle.relay_outside.specs.declared.ports.PortCall.TheVariants.{Close}
use Rattle.rtp_packet.specs.declared.head.Half.TheVariants.{Rtp}
use Rattle.relay_outside.specs.DeviceLogs.{Gained}
use Rattle.relay_outside.specs.Ports.{IsOpen}
use Rattle.relay_outside.proofs.Telling.{gained_one, gained_both}
use Rattle.media_ports.specs.Addresses.{port_address, addresses_of}
use Rattle.media_ports.specs.Calls.{ClosesUncalled, AllOpen}
use Rattle.media_ports.specs.Ends.{IsHalfOpened, half_count}
use Rattle.media_ports.proofs.Telling.{told_after, told_less}
use Rattle.media_ports.proofs.Closed.{zip-append}
use Rattle.media_ports.proofs.Held.{leased_distinct}
use Rattle.media_ports.proofs.Leased.{take_addresses, take_half, all_open_first, half_open, few_leases, pair_within}
use Rattle.media_ports.proofs.opened_ports.undo.Goals as goal

pub close_opened-requires-clause-open : goal.close_opened-requires-clause-open
close_opened-requires-clause-open g c =
    let n = length c.args.opened.now.list in
    let ats = addresses_of c.args.config.now c.args.leases.now.list in
    told_less (g.P.PortMaker.log c.args.ports.now) (AllOpen (take (2 * n + half_count c.args.half) ats)) (AllOpen (addresses_of c.args.config.now (take n c.args.leases.now.list)))
    (λ calls open_. subst (λ (these : List Addr). AllOpen these calls) (take_addresses c.args.config.now c.args.leases.now.list n) (all_open_first ats (2 * n) (half_count c.args.half) calls open_))
    c.requires.open

pub overflow_mul-result : goal.overflow_mul-result
overflow_mul-result g c = let few = few_leases c.args.config.now c.args.leases.now.list (omega (arith, c.if-prove.false)) c.requires.leased in omega (arith, few)

pub port_address-requires : goal.port_address-requires
port_address-requires g c =
    let leases = c.args.leases.now.list in
    let lease = c.get.result.now in
    let is : slice_get leases (length c.args.opened.now.list) ≡ Some lease = ap (slice_get leases) (sym c.len-pairs.ensures) ∙ c.get.ensures in
    let within = pair_within c.args.config.now leases (length c.args.opened.now.list) lease is c.requires.leased.differ in
    omega (arith, within, c.pair-pair.ensures)

pub close-requires-clause-ends : goal.close-requires-clause-ends
close-requires-clause-ends g c =
    let config = c.args.config.now in
    let leases = c.args.leases.now.list in
    let lease = c.get.result.now in
    let is : slice_get leases (length c.args.opened.now.list) ≡ Some lease = ap (slice_get leases) (sym c.len-pairs.ensures) ∙ c.get.ensures in
    let at : c.port_address.result ≡ port_address config lease.pair Rtp = subst (λ n. c.port_address.result ≡ port_address config n Rtp) c.pair-pair.ensures c.port_address.ensures in
    let ends = subst (IsHalfOpened g.P.In.InEnd.log g.P.Out.OutEnd.log config lease) c.in-Some.is (c.requires.half_opened lease is) in
    (ends.0.at_is ∙ sym at, ends.1.at_is ∙ sym at)

pub close-requires-clause-open : goal.close-requires-clause-open
close-requires-clause-open g c =
    let log = g.P.PortMaker.log in
    let config = c.args.config.now in
    let leases = c.args.leases.now.list in
    let n = length c.args.opened.now.list in
    let lease = c.get.result.now in
    let is : slice_get leases n ≡ Some lease = ap (slice_get leases) (sym c.len-pairs.ensures) ∙ c.get.ensures in
    let at : c.port_address.result ≡ port_address config lease.pair Rtp = subst (λ n. c.port_address.result ≡ port_address config n Rtp) c.pair-pair.ensures c.port_address.ensures in
    let closed = AllZip ClosesUncalled (addresses_of config (take n leases)) in
    told_after (log c.args.ports.now) (log c.close_opened.new.ports) closed (AllOpen (take (2 * n + half_count c.args.half) (addresses_of config leases))) (λ calls. IsOpen calls c.port_address.result)
    (λ calls more open_ those.
    let one = subst (λ (k : ℕ). AllOpen (take (2 * n + k) (addresses_of config leases)) calls) (ap half_count c.in-Some.is) open_ in
    subst (IsOpen (calls ++ more)) (sym at) (half_open config leases n lease calls more is (leased_distinct config leases c.requires.families c.requires.leased) one those))
    c.requires.open c.close_opened.ensures.closes

pub overflow_mul-result-in-Some : goal.overflow_mul-result-in-Some
overflow_mul-result-in-Some g c = let few = few_leases c.args.config.now c.args.leases.now.list (omega (arith, c.if-prove.false)) c.requires.leased in omega (arith, few)

pub overflow_add-result : goal.overflow_add-result
overflow_add-result g c = let few = few_leases c.args.config.now c.args.leases.now.list (omega (arith, c.if-prove.false)) c.requires.leased in omega (arith, few)

pub returns-in-None-clause-closes : goal.returns-in-None-clause-closes
returns-in-None-clause-closes g c =
    let log = g.P.PortMaker.log in
    let config = c.args.config.now in
    let leases = c.args.leases.now.list in
    let n = length c.args.opened.now.list in
    let all : addresses_of config (take n leases) ≡ take (2 * n + half_count c.args.half) (addresses_of config leases) =
    sym (take_addresses config leases n)
    ∙ ap (λ (k : ℕ). take k (addresses_of config leases)) (let none = ap half_count c.in-None.is in let e : 2 * n ≡ 2 * n + half_count c.args.half = omega (arith, none) in e) in
    subst (λ (ats : List Addr). Gained (log c.args.ports.now) (log c.close_opened.new.ports) (AllZip ClosesUncalled ats)) all c.close_opened.ensures.closes

pub returns-in-Some-clause-closes : goal.returns-in-Some-clause-closes
returns-in-Some-clause-closes g c =
    let log = g.P.PortMaker.log in
    let taken = g.P.In.InEnd.log in
    let sent = g.P.Out.OutEnd.log in
    let config = c.args.config.now in
    let leases = c.args.leases.now.list in
    let n = length c.args.opened.now.list in
    let lease = c.get.result.now in
    let is : slice_get leases n ≡ Some lease = ap (slice_get leases) (sym c.len-pairs.ensures) ∙ c.get.ensures in
    let at : c.port_address.result ≡ port_address config lease.pair Rtp = subst (λ n. c.port_address.result ≡ port_address config n Rtp) c.pair-pair.ensures c.port_address.ensures in
    let front = addresses_of config (take n leases) in
    let ends = subst (IsHalfOpened taken sent config lease) c.in-Some.is (c.requires.half_opened lease is) in
    let last = gained_one (log c.close_opened.new.ports) (log c.close.new.self) (Close c.port_address.result (taken c.in-Some.field-0.receiving).calls (sent c.in-Some.field-0.sending).calls) (AllZip ClosesUncalled (port_address config lease.pair Rtp ∷ [])) c.close.ensures.log ((at, ends.0.uncalled, ends.1.uncalled), tt) in
    let all : front ++ port_address config lease.pair Rtp ∷ [] ≡ take (2 * n + half_count c.args.half) (addresses_of config leases) =
    sym (take_half config leases n lease is)
    ∙ ap (λ (k : ℕ). take (2 * n + k) (addresses_of config leases)) (sym (ap half_count c.in-Some.is)) in
    gained_both (log c.args.ports.now) (log c.close_opened.new.ports) (log c.close.new.self) (AllZip ClosesUncalled front) (AllZip ClosesUncalled (port_address config lease.pair Rtp ∷ []))
    (AllZip ClosesUncalled (take (2 * n + half_count c.args.half) (addresses_of config leases)))
    (λ xs ys those one. subst (λ (ats : List Addr). AllZip ClosesUncalled ats (xs ++ ys)) all (zip-append ClosesUncalled front (port_address config lease.pair Rtp ∷ []) xs ys those one))
    c.close_opened.ensures.closes last

use Rattle.std.proofs.Common.{◌≡◌, ◌++◌, [], ◌∷◌, subst}
use Rattle.std.specs.List.{AllZip}
use Rattle.relay_outside.specs.declared.ports.PortCall.TheVariants.{Close}
use Rattle.rtp_packet.specs.declared.head.Half.TheVariants.{Rtp, Rtcp}
use Rattle.relay_outside.proofs.Telling.{gained_one, gained_both}
use Rattle.media_ports.specs.Addresses.{port_address}
use Rattle.media_ports.specs.Calls.{Closes, LeavesOpen}
use Rattle.media_ports.proofs.Telling.{both_told}
use Rattle.media_ports.proofs.Closed.{leaves_open, zip-append}
use Rattle.media_ports.proofs.closed_ports.close_pair.Goals as goal

pub returns-clause-open : goal.returns-clause-open
returns-clause-open g c =
    let log = g.P.PortMaker.log in
    let taken = g.P.In.InEnd.log in
    let sent = g.P.Out.OutEnd.log in
    let config = c.args.config.now in
    let pair = c.args.lease.now.pair in
    let rtp = port_address config pair Rtp ∷ [] in
    let rtcp = port_address config pair Rtcp ∷ [] in
    let first : c.port_address.result ≡ port_address config pair Rtp = subst (λ n. c.port_address.result ≡ port_address config n Rtp) c.pair-pair.ensures c.port_address.ensures in
    let second : c.port_address-2.result ≡ port_address config pair Rtcp = subst (λ n. c.port_address-2.result ≡ port_address config n Rtcp) c.pair-pair.ensures c.port_address-2.ensures in
    let one = gained_one (log c.args.ports.now) (log c.close.new.self) (Close c.port_address.result (taken c.args.ends.rtp_in).calls (sent c.args.ends.rtp_out).calls) (AllZip Closes rtp) c.close.ensures.log (first, tt) in
    let two = gained_one (log c.close.new.self) (log c.close-2.new.self) (Close c.port_address-2.result (taken c.args.ends.rtcp_in).calls (sent c.args.ends.rtcp_out).calls) (AllZip Closes rtcp) c.close-2.ensures.log (second, tt) in
    let both = gained_both (log c.args.ports.now) (log c.close.new.self) (log c.close-2.new.self) (AllZip Closes rtp) (AllZip Closes rtcp) (AllZip Closes (rtp ++ rtcp)) (λ xs ys p q. zip-append Closes rtp rtcp xs ys p q) one two in
    both_told (log c.args.ports.now) (log c.close-2.new.self) (AllZip Closes (rtp ++ rtcp)) (LeavesOpen (rtp ++ rtcp)) (λ before more p. leaves_open (rtp ++ rtcp) more before p) both

use Rattle.std.proofs.Common.{◌≡◌, [], ◌∷◌, ap, subst, true, List, ◌++◌}
use Rattle.relay_outside.specs.declared.address.Addr.{Addr}
use Rattle.relay_outside.specs.declared.ports.PortCall.{PortCall}
use Rattle.relay_outside.specs.declared.ports.PortCall.TheVariants.{Open}
use Rattle.rtp_packet.specs.declared.head.Half.TheVariants.{Rtp, Rtcp}
use Rattle.relay_outside.specs.Ports.{IsOpen}
use Rattle.relay_outside.proofs.Telling.{gained_one}
use Rattle.media_ports.specs.Addresses.{port_address}
use Rattle.media_ports.specs.Calls.{NoneOpen}
use Rattle.media_ports.proofs.Telling.{told_after}
use Rattle.media_ports.proofs.Apart.{none_open_after, are_two}
use Rattle.media_ports.proofs.opened_ports.open_pair.Goals as goal

pub open-requires-2 : goal.open-requires-2
open-requires-2 g c =
    let log = g.P.PortMaker.log in
    let config = c.args.config.now in
    let pair = c.args.lease.now.pair in
    let rtp = port_address config pair Rtp in
    let rtcp = port_address config pair Rtcp in
    let first : c.port_address.result ≡ rtp = subst (λ n. c.port_address.result ≡ port_address config n Rtp) c.pair-pair.ensures c.port_address.ensures in
    let second : c.port_address-2.result ≡ rtcp = subst (λ n. c.port_address-2.result ≡ port_address config n Rtcp) c.pair-pair.ensures c.port_address-2.ensures in
    let gained = gained_one (log c.args.ports.now) (log c.open.new.self) (Open c.port_address.result true) (λ calls. calls ≡ Open rtp true ∷ [])
    c.in-Ok.ensures.log (ap (λ (at : Addr). Open at true ∷ []) first) in
    told_after (log c.args.ports.now) (log c.open.new.self) (λ calls. calls ≡ Open rtp true ∷ []) (NoneOpen (rtp ∷ rtcp ∷ [])) (λ calls. IsOpen calls c.port_address-2.result → ⊥)
    (λ before more none is o.
    let opened = none_open_after (rtp ∷ []) (rtcp ∷ []) (true ∷ []) before (are_two config pair) (none.1.0, tt) in
    opened.0 (subst (λ (at : Addr). IsOpen (before ++ Open rtp true ∷ []) at) second (subst (λ (calls : List PortCall). IsOpen (before ++ calls) c.port_address-2.result) is o)))
    c.requires.closed gained

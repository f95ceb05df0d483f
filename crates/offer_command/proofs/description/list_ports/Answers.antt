use Rattle.std.proofs.Common.{◌≡◌, ◌∙◌, ap, sym, ◌++◌, ℕ, List, [], ◌∷◌, take, length, arith}
use Rattle.std.proofs.Math.Seq.{take-length}
use Rattle.std.proofs.lemmas.List.{map-append}
use Rattle.port_pool.specs.declared.pairs.Lease.{Lease}
use Rattle.media_ports.proofs.Leased.{take_next}
use Rattle.offer_command.specs.Brings.{rtp_ports}
use Rattle.offer_command.proofs.description.list_ports.Goals as goal

pub loop-index-preserved : goal.loop-index-preserved
loop-index-preserved c =
    let was = c.loop-index.invariant in
    let i = c.loop-index.index in
    let leases = c.args.leases.now.list in
    record {
      ports = c.push_reserved.ensures.items
          ∙ ap (λ (ps : List ℕ). ps ++ c.rtp_port.result ∷ []) was.ports
          ∙ ap (λ (p : ℕ). rtp_ports (take i leases) ++ p ∷ []) c.rtp_port.ensures
          ∙ sym (map-append (λ (lease : Lease). lease.rtp_port) (take i leases) (c.get.result.now ∷ []))
          ∙ ap rtp_ports (sym (take_next leases i c.get.result.now c.get.ensures));
      room = c.push_reserved.ensures.capacity ∙ was.room;
    }

pub returns : goal.returns
returns c =
    let was = c.loop-index.invariant in
    let count = c.len-index-end.ensures in
    let over : c.loop-index.index ≡ length c.args.leases.now.list = omega (arith, count) in
    was.ports ∙ ap (λ (k : ℕ). rtp_ports (take k c.args.leases.now.list)) over ∙ ap rtp_ports (take-length c.args.leases.now.list)

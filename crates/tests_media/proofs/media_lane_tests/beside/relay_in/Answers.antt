use Rattle.std.proofs.Common.{◌≡◌, ◌∙◌, ◌≤◌, ◌++◌, ap, arith, List, length, take, ℕ}
use Rattle.std.proofs.lemmas.List.{length-take-le, take_at}
use Rattle.media_lane.proofs.Relays.{part_relays}
use Rattle.tests_media.proofs.media_lane_tests.beside.relay_in.Goals as goal

-- bytes that were copied to the front stand there
front_kept : (len : ℕ) (buf bytes front rest : List ℕ) → front ≡ take len bytes → length front ≡ length (take len buf) → len ≤ length buf
    → take len (front ++ rest) ≡ take len bytes
front_kept len buf bytes front rest is long fits = take_at front rest len (long ∙ length-take-le len buf fits) ∙ is

pub returns : goal.returns
returns g c =
    part_relays g.O.OutEnd.log g.O.OutEnd.faults _ _ c.args.now _ c.in-Cell.cell c.relay.new.self c.relay.new.buf c.relay.result c.in-Cell.is
    (ap (λ (bytes : List ℕ). record { take = c.args.take; half = c.args.packet.now.half; source = c.args.packet.now.source; bytes = bytes; holder = c.args.packet.now.holder })
    (front_kept c.args.packet.now.len c.args.buf.now c.args.bytes.now c.copy_from_slice.new.self _ c.copy_from_slice.ensures.after c.copy_from_slice.ensures.len (let s = c.requires.short in omega (arith, s))))
    c.relay.ensures.shape c.relay.ensures.counts c.relay.ensures.legs (λ config h take for. c.relay.ensures.relays config h take for)

use Rattle.std.proofs.Common.{◌≡◌, rules, sym, ap, subst, arith, List, ℕ, length}
use Rattle.std.proofs.lemmas.List.{take-take}
use Rattle.call_cell.specs.LegHistories.{receipt_of}
use Rattle.relay_core.specs.declared.part.Part.TheVariants as part
use Rattle.media_lane.specs.Relays.{RelaysPart}
use Rattle.media_lane.specs.Rooms.{front_in, free_room}
use Rattle.media_lane.proofs.TwoRooms.{last_is}
use Rattle.media_lane.proofs.Relays.{part_relays}
use Rattle.media_lane.proofs.rooms.Rooms.relay_in.Goals as goal

pub returns-clause-step : goal.returns-clause-step
returns-clause-step g c =
    let two : length c.args.self.now.rooms ≡ 2 = search rules in
    subst (λ (buf : List ℕ). RelaysPart g.O.OutEnd.log g.O.OutEnd.faults (receipt_of c.args.take c.args.packet.now (front_in c.args.self.now)) c.args.now c.args.part.now buf c.relay-outcome.result (part.Cell c.relay-outcome.new.self))
    (sym (last_is c.args.self.now.rooms c.args.self.now.free c.relay-outcome.new.buf c.args.self.now.one_of two))
    (part_relays g.O.OutEnd.log g.O.OutEnd.faults _ _ c.args.now _ c.in-Cell.cell c.relay-outcome.new.self c.relay-outcome.new.buf c.relay-outcome.result c.in-Cell.is
    (ap (λ (bytes : List ℕ). record { take = c.args.take; half = c.args.packet.now.half; source = c.args.packet.now.source; bytes = bytes; holder = c.args.packet.now.holder })
    (sym (take-take c.args.packet.now.len 2001 (free_room c.args.self.now) (let s = c.requires.short in omega (arith, s)))))
    c.relay-outcome.ensures.shape c.relay-outcome.ensures.counts c.relay-outcome.ensures.legs (λ config h take for. c.relay-outcome.ensures.relays config h take for))

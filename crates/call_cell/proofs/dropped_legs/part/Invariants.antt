use Rattle.std.proofs.Common.{◌≡◌, ◌+◌, ◌≤◌, ◌++◌, length, take, drop, filter}
use Rattle.std.specs.List.{filter_map}
use Rattle.call_cell.specs.CellEnds.{parts_of}
use Rattle.call_cell.specs.DroppedLegs.{goes, stays, StayWhole}
use Rattle.call_cell.proofs.dropped_legs.part.Given as goal

abbrev pub invariant-loop : goal.invariant-loop
invariant-loop g l =
    (length l.initial.legs.items ≤ length l.legs.items + l.counter)
    × (length l.initial.gone + length l.initial.legs.items ≤ 16
    → (l.legs.items ≡ drop l.counter l.initial.legs.items ++ filter (stays l.flags) (take l.counter l.initial.legs.items))
    × (l.gone ≡ l.initial.gone ++ filter_map parts_of (filter (goes l.flags) (take l.counter l.initial.legs.items))))
    × StayWhole l.initial.legs.items l.legs.items l.initial.gone l.gone

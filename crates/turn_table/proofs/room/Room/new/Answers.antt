use Rattle.std.proofs.Common.{if◌then◌else◌, is_ok, [], ◌∷◌, ◌++◌, map, ap, ◌∙◌}
use mathlib.Core.Option.{some}
use Rattle.turn_table.proofs.room.Room.new.Goals as goal

pub new-requires : goal.new-requires
new-requires g c =
    let empty = c.in_ok-empty.empty in
    let pushed = c.push.ensures.items ∙ ap (λ r. if is_ok r then c.new-slots.result.items ++ empty ∷ [] else c.new-slots.result.items) c.in_default.is in
    (empty, ap (map some) (pushed ∙ ap (λ xs. xs ++ empty ∷ []) c.new-slots.ensures.items), c.in_ok-empty.ensures.items, c.in_ok-empty.ensures.capacity)

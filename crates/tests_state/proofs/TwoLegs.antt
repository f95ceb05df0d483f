-- A cell without legs to which two come.
use Rattle.std.proofs.Common.{◌≡◌, ap, sym, ◌∙◌, ◌≤◌, Bool, List, [], ◌∷◌, ◌++◌, Option, length, arith}
use Rattle.std.specs.Prelude.{not}
use Rattle.std.specs.List.{filter}
use Rattle.std.proofs.lemmas.List.{length-append, length-map}
use Rattle.std.proofs.lemmas.List.Sums.{length-filter, count_by-le-length}
use Rattle.relay_outside.specs.declared.settings.Config.{Config}
use Rattle.port_pool.specs.declared.pairs.Lease.{Lease}
use Rattle.port_pool.specs.declared.holder.Holder.{Holder}
use Rattle.call_cell.specs.declared.leg.Leg.{Leg}
use Rattle.call_cell.specs.declared.prepare.Prepare as prepared
use Rattle.call_cell.specs.declared.cell.Cell.{Cell}
use Rattle.call_cell.specs.CellHistories.{CellFor}
use Rattle.call_cell.specs.DroppedLegs.{stays}
use Rattle.call_cell.specs.Preparations.{FitsPlaces, added}
use Rattle.call_cell.specs.Shapes.{LegsGo, ends_of_legs}

-- what one leg and then another were added to has two
pub both_added : {X : Type 0} (none one two last : List X) (x y : X) → none ≡ [] → one ≡ none ++ x ∷ [] → two ≡ one ++ y ∷ [] → last ≡ two → length last ≡ 2
both_added {X} none one two last x y none_is one_is two_is last_is =
    omega (
      arith,
      ap (λ (l : List X). length l) none_is,
      ap (λ (l : List X). length l) one_is,
      ap (λ (l : List X). length l) two_is,
      ap (λ (l : List X). length l) last_is,
      length-append none (x ∷ []),
      length-append one (y ∷ []),
    )

none_held : {O : Type 0} (config : Config) (cell : Cell O) → CellFor config cell [] → length cell.legs.items ≡ 0
none_held {O} config cell for =
    sym (length-map cell.legs.items (λ (leg : Leg O). leg.holder)) ∙ ap (λ (l : List Holder). length l) for.legs_for.holders

two_come : {O : Type 0} (signal : prepared.Prepare O) → length (added signal) ≡ 2 → length signal.legs.items ≡ 2
two_come {O} signal two = sym (length-map signal.legs.items (λ (leg : Leg O). leg.holder)) ∙ two

pub two_fit : {O : Type 0} (config : Config) (cell : Cell O) (signal : prepared.Prepare O) → CellFor config cell [] → length (added signal) ≡ 2 → FitsPlaces cell signal
two_fit {O} config cell signal for two =
    let none = none_held config cell for in
    let came = two_come signal two in
    record {
      before = omega (arith, none, cell.legs.ok.0);
      after = omega (arith, none, came, signal.legs.ok.0, count_by-le-length (λ (leg : Leg O). stays signal.dropped leg) cell.legs.items);
    }

pub two_stand : {O : Type 0} (config : Config) (old new : Cell O) (signal : prepared.Prepare O) (goes : Holder → Bool) (gone : List (Lease × O × O)) → CellFor config old []
    → length (added signal) ≡ 2 → LegsGo goes signal.legs.items old.legs.items new.legs.items gone → length new.legs.items ≤ 2
two_stand {O} config old new signal goes gone for two go =
    let none = none_held config old for in
    let came = two_come signal two in
    let ends : Leg O → Option (O × O) = λ (leg : Leg O). leg.sending.ends in
    let p : Leg O → Bool = λ (leg : Leg O). not (goes leg.holder) in
    let kept = filter p old.legs.items in
    let all = sym (length-map new.legs.items ends) ∙ ap (λ (l : List (Option (O × O))). length l) go.ends ∙ length-append (ends_of_legs kept) (ends_of_legs signal.legs.items) in
    omega (arith, none, came, all, length-map kept ends, length-map signal.legs.items ends, length-filter p old.legs.items, count_by-le-length p old.legs.items)

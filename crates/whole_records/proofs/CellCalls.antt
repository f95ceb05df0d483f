-- What a call and its cell hold of each other, part by part.
use Rattle.std.proofs.Common.{◌≡◌, subst, ℕ, Some, List}
use Rattle.relay_outside.specs.declared.settings.Config.{Config}
use Rattle.histories.specs.Words.{In}
use Rattle.histories.proofs.Lists.{maps, mapped}
use Rattle.call_cell.specs.Shapes.{CellLegShape}
use Rattle.call_cell.specs.declared.saved.LegSaved.{LegSaved}
use Rattle.call_cell.specs.declared.saved.CellSaved.{CellSaved}
use Rattle.call_board.specs.declared.saved_board.CallSaved.{CallSaved}
use Rattle.call_shapes.specs.Agreement.{CountsAgree}
use Rattle.whole_records.specs.SavedShapes.{saved_dialog_shape, saved_leg_shape, saved_leg_shapes, saved_cell_shape}
use Rattle.whole_records.specs.RecordParts.{IsLeased, LegsAreLeased, SectionsHold, CellHolds}

pub leased_of : (config : Config) (generations : List ℕ) (call : CallSaved) (cell : CellSaved) (legs : List LegSaved) → legs ≡ cell.legs.items
    → CellHolds config generations call (saved_cell_shape cell) → LegsAreLeased config generations call.cell call.number legs
leased_of config generations call cell legs same h leg at =
    let own = maps (λ (l : LegSaved). saved_leg_shape l) cell.legs.items (subst (λ (those : List LegSaved). In leg those) same at) in
    record { is_of = h.agrees.legs (saved_leg_shape leg) own; is_last = h.last (saved_leg_shape leg) own }

each_shape : (P : CellLegShape → Type 0) (legs : List LegSaved) → ((leg : LegSaved) → In leg legs → P (saved_leg_shape leg))
    → (leg : CellLegShape) → In leg (saved_leg_shapes legs) → P leg
each_shape P legs each leg at =
    let made = mapped (λ (l : LegSaved). saved_leg_shape l) legs at in
    subst P made.makes (each made.from made.is_in)

pub cell_of_parts : (config : Config) (generations : List ℕ) (call : CallSaved) (cell : CellSaved) (legs : List LegSaved) → legs ≡ cell.legs.items
    → cell.config ≡ config → cell.call ≡ Some call.number → LegsAreLeased config generations call.cell call.number legs
    → SectionsHold config (saved_dialog_shape call.dialog) cell.legs.items → CountsAgree (saved_dialog_shape call.dialog)
    → CellHolds config generations call (saved_cell_shape cell)
cell_of_parts config generations call cell legs same config_is call_is leased sections counts =
    let own : LegsAreLeased config generations call.cell call.number cell.legs.items =
    subst (λ (those : List LegSaved). LegsAreLeased config generations call.cell call.number those) same leased in
    let each = each_shape (IsLeased config generations call.cell call.number) cell.legs.items own in
    record {
      agrees = record {
        config_is = config_is;
        call_is = call_is;
        legs = λ leg at. (each leg at).is_of;
        sections = sections;
        counts = counts;
      };
      last = λ leg at. (each leg at).is_last;
    }

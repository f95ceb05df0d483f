-- Cells that are written alike, and that each is spelled.
use Rattle.std.proofs.Common.{◌≡◌, ◌<◌, ◌≤◌, ◌^◌, ℕ, List, All, map, refl, sym, ◌∙◌, arith}
use Rattle.std.proofs.lemmas.List.{map-id}
use Rattle.ng_bencode.specs.Tree.{depth}
use Rattle.ng_bencode.specs.Spells.{spelling, Spells}
use Rattle.call_cell.specs.declared.saved.CellSaved.{CellSaved}
use Rattle.call_cell.specs.declared.saved.LegSaved.{LegSaved}
use Rattle.state_values.specs.Numbers.{number_tree, list_tree}
use Rattle.state_values.specs.Forms.{flag_number}
use Rattle.state_values.specs.CellTrees.{cell_leg_tree, cell_tree, FitsLegSaved, FitsCellSaved, IsSameCell}
use Rattle.state_values.proofs.NumberTrees.{same_number}
use Rattle.state_values.proofs.KeyedTrees.{same_entries, same_value, same_rest}
use Rattle.state_values.proofs.ListTrees.{same_list, same_seen}
use Rattle.state_values.proofs.MissingTrees.{same_option, SpelledIf, option_spelled, each_spelled}
use Rattle.state_values.proofs.ConfigLaws.{same_configs, config_deep}
use Rattle.state_values.proofs.SignalLaws.{same_flag}
use Rattle.state_values.proofs.CellLegLaws.{same_leg, leg_spelled}
use Rattle.state_values.proofs.Spelled.{number_spelled}

same_legs : (a b : List LegSaved) → All FitsLegSaved a → All FitsLegSaved b → list_tree cell_leg_tree a ≡ list_tree cell_leg_tree b → a ≡ b
same_legs a b fits_a fits_b same =
    sym (map-id a)
    ∙ same_seen cell_leg_tree (λ (leg : LegSaved). leg) FitsLegSaved same_leg a b fits_a fits_b (same_list cell_leg_tree (list_tree cell_leg_tree a) (map cell_leg_tree a) b refl same)
    ∙ map-id b

pub same_cells : (a b : CellSaved) → FitsCellSaved a → FitsCellSaved b → cell_tree a ≡ cell_tree b → IsSameCell a b
unfolding cell_tree
same_cells a b fits_a fits_b same =
    let first = same_entries same in
    let second = same_rest first in
    let third = same_rest second in
    let fourth = same_rest third in
    let fifth = same_rest fourth in
    let sixth = same_rest fifth in
    let seventh = same_rest sixth in
    record {
      config = same_configs a.config b.config fits_a.config fits_b.config (same_value fourth);
      moment = same_number a.moment b.moment fits_a.moment fits_b.moment (same_value seventh);
      call = same_option number_tree (λ (n : ℕ). n < 2 ^ 64) (λ m n low small e. same_number m n low small e) a.call b.call fits_a.call fits_b.call (same_value third);
      began = same_number a.began b.began fits_a.began fits_b.began (same_value second);
      is_committed = same_flag a.is_committed b.is_committed (same_value fifth);
      active = same_number a.active b.active fits_a.active fits_b.active (same_value first);
      legs = same_legs a.legs.items b.legs.items fits_a.legs fits_b.legs (same_value sixth);
    }

cell_parts : (saved : CellSaved) → SpelledIf (FitsCellSaved saved) 7 (cell_tree saved)
unfolding cell_tree
cell_parts saved =
    let active = number_spelled saved.active in
    let began = number_spelled saved.began in
    let call = option_spelled number_tree 0 (λ (n : ℕ). n < 2 ^ 64) (λ n. let it = number_spelled n in record { ints = λ low. it.ints; deep = it.deep }) saved.call in
    let config = config_deep saved.config in
    let is_committed = number_spelled (flag_number saved.is_committed) in
    let legs = each_spelled cell_leg_tree 5 FitsLegSaved leg_spelled saved.legs.items in
    let moment = number_spelled saved.moment in
    record {
      ints = λ fits. (active.ints, (began.ints, (call.ints fits.call, (config.ints, (is_committed.ints, (legs.ints fits.legs, (moment.ints, tt)))))));
      deep = omega (arith, active.deep, began.deep, call.deep, config.deep, is_committed.deep, legs.deep, moment.deep);
    }

pub cell_deep : (saved : CellSaved) → depth (cell_tree saved) ≤ 16
cell_deep saved = let it = cell_parts saved in omega (arith, it.deep)

pub cell_spelled : (saved : CellSaved) → FitsCellSaved saved → Spells (spelling (cell_tree saved)) (cell_tree saved)
cell_spelled saved fits =
    let it = cell_parts saved in
    record { ints = it.ints fits; deep = omega (arith, it.deep); spelled = refl }

-- When what the board keeps of a live call and what the call's cell keeps go together, whatever their histories.
use Rattle.std.specs.Prelude.{◌≡◌, ◌<◌, ◌≤◌, ◌==◌, ◌&&◌, ℕ, Bool, true, false, List, [], ◌∷◌, filter, option_map, Option, Some, None, slice_index_or}
use Rattle.relay_outside.specs.declared.settings.Config.{Config}
use Rattle.histories.specs.Words.{In}
use Rattle.sdes_lines.specs.declared.crypto_line.Suite.{Suite}
use Rattle.sdes_lines.specs.declared.crypto_line.Suite.TheVariants.{Tag80, Tag32}
use Rattle.port_pool.specs.declared.holder.Side.{Side}
use Rattle.port_pool.specs.declared.holder.Side.TheVariants.{A, B}
use Rattle.port_pool.specs.Ports.{pair_count, pair_port}
use Rattle.port_pool.specs.Signals.{side_eq}
use Rattle.offer_answer.specs.Shapes.{LegShape, SectionShape, DialogShape, bare_shape}
use Rattle.call_cell.specs.Shapes.{CellLegShape, CellShape}
use Rattle.call_board.specs.Returns.{leg_lease}

-- A leg, by its cell and its call: it holds a pair of the range by the lease that follows from that pair, and has its out ends.
pub record IsLegOf (config : Config) (cell call : ℕ) (leg : CellLegShape) : Type 0 where
  pub cell_is : leg.holder.cell ≡ cell
  pub call_is : leg.holder.call ≡ call
  pub section : leg.holder.section < 8
  pub pair : leg.holder.pair < pair_count config
  pub lease_is : leg.lease ≡ leg_lease config leg.holder
  pub has_ends : leg.has_ends ≡ true

-- the leg of a section on a side
abbrev pub stands_on : ℕ → Side → CellLegShape → Bool
stands_on section side leg = (leg.holder.section == section) && side_eq leg.holder.side side

-- a key by its number and suite
abbrev pub key_of : Suite → Option ℕ → Option (ℕ × Suite)
key_of suite number = option_map (λ (n : ℕ). (n, suite)) number

-- the dialog keeps the port of the leg's pair, and of each of its keys the number and the suite
pub record LegAgrees (config : Config) (kept : LegShape) (leg : CellLegShape) : Type 0 where
  pub port_is : kept.port ≡ pair_port config leg.holder.pair
  pub long_is : kept.long_key ≡ key_of Tag80 leg.tag80
  pub short_is : kept.short_key ≡ key_of Tag32 leg.tag32

abbrev pub side_of_shape : SectionShape → Side → LegShape
side_of_shape kept A = kept.a
side_of_shape kept B = kept.b

-- where a section has pairs, the cell has just one leg on the side, committed where the section is; where it has none the cell has none
-- there, and the dialog no key
abbrev pub SideAgrees : Config → (has_pairs committed : Bool) → LegShape → (found : List CellLegShape) → Type 0
SideAgrees config true committed kept found =
    (leg : CellLegShape) × (found ≡ leg ∷ []) × LegAgrees config kept leg × (leg.is_committed ≡ committed)
SideAgrees config false committed kept found = (found ≡ []) × (kept.long_key ≡ None) × (kept.short_key ≡ None)

abbrev pub section_kept : DialogShape → ℕ → SectionShape
section_kept dialog section = slice_index_or dialog.sections section bare_shape

abbrev pub SectionAgrees : Config → DialogShape → List CellLegShape → (section : ℕ) → Side → Type 0
SectionAgrees config dialog legs section side =
    let kept = section_kept dialog section in
    SideAgrees config kept.has_pairs kept.is_committed (side_of_shape kept side) (filter (stands_on section side) legs)

-- Sections with pairs are among those of the last offer, and committed ones among those of the last committed one, which has no more.
pub record CountsAgree (dialog : DialogShape) : Type 0 where
  pub most : dialog.offered_count ≤ 8
  pub no_more : dialog.committed_count ≤ dialog.offered_count
  pub offered : (section : ℕ) → section < 8 → (section_kept dialog section).has_pairs ≡ true → section < dialog.offered_count
  pub committed : (section : ℕ) → section < 8 → (section_kept dialog section).is_committed ≡ true → section < dialog.committed_count

-- The cell holds the call of this number: its legs are the call's, and they are those that the dialog keeps.
pub record CallAgrees (config : Config) (cell call : ℕ) (dialog : DialogShape) (shape : CellShape) : Type 0 where
  pub config_is : shape.config ≡ config
  pub call_is : shape.call ≡ Some call
  pub legs : (leg : CellLegShape) → In leg shape.legs → IsLegOf config cell call leg
  pub sections : (section : ℕ) (side : Side) → section < 8 → SectionAgrees config dialog shape.legs section side
  pub counts : CountsAgree dialog

use Rattle.std.proofs.Common.{◌≡◌, ◌∙◌, refl, sym, subst, rules, arith, ℕ, zero, suc, ◌<◌, ◌≤◌, List, [], ◌∷◌, Some, slice_get}
use Rattle.port_pool.specs.Ports.{pair_count, range_pairs}
use Rattle.port_pool.specs.declared.boxes.PairBox.{PairBox}
use Rattle.call_board.specs.declared.board.Board as board
use Rattle.call_cell.specs.declared.cell.Cell as cell
use Rattle.relay_core.specs.declared.part.Part.{Part}
use Rattle.relay_core.specs.declared.part.Part.TheVariants as part
use Rattle.relay_core.specs.PlaceHistories.{IsCellPart}
use Rattle.media_lane.specs.Starts.{HasCells, IsBoxOf, HasLaneStarts}
use Rattle.tests_media.specs.declared.media_lane_tests.TheConstants.{CONFIG}
use Rattle.tests_media.proofs.media_lane_tests.begin.Goals as goal

module _ {I O : Type 0} (b : board.Board) (c : cell.Cell O) (one two : PairBox I) (first : HasCells 1 one) (second : HasCells 1 two) where
  four : List (Part I O)
  four = part.Board b ∷ part.Cell c ∷ part.Pair one ∷ part.Pair two ∷ []

  the_cell : (k : ℕ) (x : Part I O) → slice_get four k ≡ Some x → 1 ≤ k → k ≤ 1 → IsCellPart x
  unfolding four
  the_cell zero x q low high = absurd (omega (arith, low))
  the_cell (suc zero) x q low high = let z : Some (part.Cell c) ≡ Some x = q in let e : part.Cell c ≡ x = cc in subst (λ (y : Part I O). IsCellPart y) e tt
  the_cell (suc (suc k)) x q low high = absurd (omega (arith, high))

  the_box : (k : ℕ) (x : Part I O) → slice_get four k ≡ Some x → 1 < k → IsBoxOf 1 x
  unfolding four
  the_box zero x q above = absurd (omega (arith, above))
  the_box (suc zero) x q above = absurd (omega (arith, above))
  the_box (suc (suc zero)) x q above = let z : Some (part.Pair one) ≡ Some x = q in let e : part.Pair one ≡ x = cc in subst (λ (y : Part I O). IsBoxOf 1 y) e first
  the_box (suc (suc (suc zero))) x q above = let z : Some (part.Pair two) ≡ Some x = q in let e : part.Pair two ≡ x = cc in subst (λ (y : Part I O). IsBoxOf 1 y) e second
  the_box (suc (suc (suc (suc k)))) x q above = absurd (let z : slice_get [] k ≡ Some x = q in cc)

  four_begin : HasLaneStarts CONFIG four
  unfolding four pair_count range_pairs
  four_begin = record { as_many = refl; cells = the_cell; boxes = the_box }

pub returns : goal.returns
unfolding four
returns c = (
  search rules,
  search rules,
  search rules,
  subst (HasLaneStarts CONFIG) (sym (c.in_ok-start.ensures.1.0 ∙ c.in_ok-states.ensures.items)) (four_begin _ _ c.in_ok-held_box.field-0 c.in_ok-held_box-2.field-0 c.in_ok-held_box.ensures c.in_ok-held_box-2.ensures),
)

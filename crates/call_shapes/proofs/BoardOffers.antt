-- What a board tells of an offer's leases, and of a call that an offer begins.
use Rattle.std.proofs.Common.{◌≡◌, ◌∙◌, refl, sym, ap, subst, ℕ, suc, ◌<◌, List, [], ◌∷◌, length}
use Rattle.std.proofs.lemmas.List.{get_or-replicate}
use Rattle.histories.specs.Words.{In, here, there}
use Rattle.relay_outside.specs.declared.settings.Config.{Config}
use Rattle.port_pool.specs.declared.pairs.Lease.{Lease}
use Rattle.port_pool.specs.declared.holder.Holder.{Holder}
use Rattle.offer_answer.specs.Rounds.{NewLeg}
use Rattle.offer_answer.specs.Shapes.{DialogShape, bare_shape}
use Rattle.call_cell.specs.Shapes.{CellShape, ended_shape}
use Rattle.call_board.specs.Acts.{Call}
use Rattle.call_board.specs.Shapes.{bare_dialog}
use Rattle.call_board.specs.Whole.{holder_of_new_leg, holders_of_new_legs}
use Rattle.call_shapes.specs.Agreement.{section_kept}
use Rattle.call_shapes.specs.OfferFits.{IsNewCall}

-- a call with a bare dialog and an empty cell is a new one
pub bare_is_new : (config : Config) (dialog : DialogShape) (shape : CellShape) → dialog ≡ bare_dialog → shape ≡ ended_shape config → IsNewCall config dialog shape
bare_is_new config dialog shape bare empty = record {
  empty = empty;
  sections = λ section below. ap (λ (d : DialogShape). section_kept d section) bare ∙ get_or-replicate 8 section bare_shape bare_shape below;
}

-- where the new legs hold pairs of the range, the leases are of these
pub leased_of_range : (of : Call) (legs : List NewLeg) (leases : List Lease) (count : ℕ) → length leases ≡ length legs
    → ((leg : Holder) → In leg (holders_of_new_legs of leases legs) → leg.pair < count) → (lease : Lease) → In lease leases → lease.pair < count
leased_of_range of legs [] count many within lease i = elim i [ ]
leased_of_range of [] (x ∷ leases) count many within lease i = absurd (let f : suc (length leases) ≡ 0 = many in cc)
leased_of_range of (leg ∷ legs) (x ∷ leases) count many within lease (here e) =
    subst (λ (l : Lease). l.pair < count) (sym e) (within (holder_of_new_leg of x leg) (here refl))
leased_of_range of (leg ∷ legs) (x ∷ leases) count many within lease (there i) =
    leased_of_range of legs leases count (let f : suc (length leases) ≡ suc (length legs) = many in cc) (λ y j. within y (there j)) lease i

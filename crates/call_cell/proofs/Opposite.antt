-- Where each Prepare adds the two legs of a section together, a leg has an opposite one, and what was committed for the one
-- was committed for the other: no packet is held back for lack of them.
use Rattle.std.proofs.Common.{◌≡◌, refl, ap, ◌∙◌, List, [], ◌∷◌, ◌++◌, Bool, false, cond, Option, Some, None, filter_map}
use Rattle.std.specs.List.{list_any, cons_option}
use Rattle.histories.specs.Words.{In, here, there, first}
use Rattle.port_pool.specs.declared.holder.Side.{Side}
use Rattle.port_pool.specs.declared.holder.Side.TheVariants.{A, B}
use Rattle.port_pool.specs.declared.holder.Holder.{Holder}
use Rattle.port_pool.specs.declared.signal.LegSignal.{LegSignal}
use Rattle.port_pool.specs.declared.signal.SectionSignal.{SectionSignal}
use Rattle.port_pool.specs.declared.signal.SectionSignal.TheVariants as section
use Rattle.port_pool.specs.Signals.{same_leg, side_of, other_side}
use Rattle.call_cell.specs.Cells.{CellEntry, legs_of, life, committed, in_force}

-- the other leg of the same section
pub record IsOtherLeg (leg other : Holder) : Type 0 where
  pub section : other.section ≡ leg.section
  pub side : other.side ≡ other_side leg.side

-- each leg of a list has its other leg there
abbrev pub ArePaired : List Holder → Type 0
ArePaired ls = (leg : Holder) → In leg ls → (other : Holder) × In other ls × IsOtherLeg leg other

-- a signal that commits the one side of a section commits the other
side_case : (side other : Side) (s : SectionSignal) (l : LegSignal) → side_of side s ≡ Some l → (t : LegSignal) × (side_of other s ≡ Some t)
side_case A A (section.Commit a b) l q = (a, refl)
side_case A B (section.Commit a b) l q = (b, refl)
side_case B A (section.Commit a b) l q = (a, refl)
side_case B B (section.Commit a b) l q = (b, refl)
side_case A other section.Reject l q = absurd (let e = q in cc)
side_case B other section.Reject l q = absurd (let e = q in cc)

signal_case : (side other : Side) (s : Option SectionSignal) (l : LegSignal)
    → (elim s as (λ _. Option LegSignal) [ None ↦ None | Some t ↦ side_of side t ]) ≡ Some l
    → (t : LegSignal) × ((elim s as (λ _. Option LegSignal) [ None ↦ None | Some u ↦ side_of other u ]) ≡ Some t)
signal_case side other None l q = absurd (let e = q in cc)
signal_case side other (Some s) l q = side_case side other s l q

-- the first commit that is found among entries that do not add the leg
some_case : {A : Type 0} (o : Option A) (xs : List A) (y : A) → first xs ≡ Some y → (z : A) × (first (cons_option o xs) ≡ Some z)
some_case None xs y q = (y, q)
some_case (Some x) xs y q = (x, refl)

life_more : (leg : Holder) (e : CellEntry) (h : List CellEntry) → list_any (same_leg leg) (legs_of e.event) ≡ false → life (e ∷ h) leg ≡ e ∷ life h leg
life_more leg e h q = ap (λ (b : Bool). cond b [] (e ∷ life h leg)) q

force_more : (leg : Holder) (e : CellEntry) (h : List CellEntry) → list_any (same_leg leg) (legs_of e.event) ≡ false
    → (t : LegSignal) × (in_force h leg ≡ Some t) → (t : LegSignal) × (in_force (e ∷ h) leg ≡ Some t)
force_more leg e h q rest =
    let s = some_case (committed leg e) (filter_map (committed leg) (life h leg)) rest.0 rest.1 in
    (s.0, ap (λ (k : List CellEntry). first (filter_map (committed leg) k)) (life_more leg e h q) ∙ s.1)

force_append : (leg : Holder) (newer older : List CellEntry) → ((e : CellEntry) → In e newer → list_any (same_leg leg) (legs_of e.event) ≡ false)
    → (t : LegSignal) × (in_force older leg ≡ Some t) → (t : LegSignal) × (in_force (newer ++ older) leg ≡ Some t)
force_append leg [] older none rest = rest
force_append leg (e ∷ newer) older none rest =
    force_more leg e (newer ++ older) (none e (here refl)) (force_append leg newer older (λ x i. none x (there i)) rest)

-- What a place holds after it changed.
use Rattle.std.proofs.Common.{◌≡◌, sym, ap, subst, refl, ◌<◌, ℕ, zero, suc, List, [], ◌∷◌, length, get_or, Option, Some, arith}
use Rattle.std.specs.Prelude.{slice_get, IsSome, slice_set}
use Rattle.std.proofs.lemmas.Option.{slice_get-get_or, get_or_from_slice_get}
use Rattle.std.proofs.lemmas.List.{length-set}
use Rattle.relay_outside.specs.declared.address.Addr.{Addr}
use Rattle.port_pool.specs.PairBoxes.{ends_in}
use Rattle.call_cell.specs.declared.cell.Cell as cell
use Rattle.relay_core.specs.declared.part.Part.{Part}
use Rattle.relay_core.specs.declared.part.Part.TheVariants as part
use Rattle.relay_core.specs.WholeParts.{HasCell}
use Rattle.hand_over.specs.ClosingSteps.{IsOpenBox, GaveBoxEnds, HoldsCell, GaveEnds, HoldsEnds, GivesBox, TakesAt, SameElsewhere}

pub set_here : {A : Type 0} (xs : List A) (i : ℕ) (x : A) → i < length xs → slice_get (slice_set xs i x) i ≡ Some x
set_here [] i x within = absurd (omega (arith, within))
set_here (y ∷ xs) zero x within = refl
set_here (y ∷ xs) (suc i) x within = set_here xs i x (omega (arith, within))

pub set_there : {A : Type 0} (xs : List A) (i k : ℕ) (x : A) → (k ≡ i → ⊥) → slice_get (slice_set xs i x) k ≡ slice_get xs k
set_there [] i k x other = refl
set_there (y ∷ xs) zero zero x other = absurd (other refl)
set_there (y ∷ xs) zero (suc k) x other = refl
set_there (y ∷ xs) (suc i) zero x other = refl
set_there (y ∷ xs) (suc i) (suc k) x other = set_there xs i k x (λ same. other (ap suc same))

is_some_of : {A : Type 0} (ends : Option A) (these : A) → ends ≡ Some these → IsSome ends
is_some_of {A} ends these is = subst (λ (e : Option A). IsSome e) (sym is) refl

module _ {I O : Type 0} where
  cell_is : (parts : List (Part I O)) (place : ℕ) (d : Part I O) → HasCell parts place → (c : cell.Cell O) × (get_or parts place d ≡ part.Cell c)
  cell_is parts place d has = (has.0, get_or_from_slice_get parts place (part.Cell has.0) d has.1)

  pub is_cell : (parts : List (Part I O)) (place : ℕ) (d : Part I O) → HasCell parts place → HoldsCell (get_or parts place d)
  is_cell parts place d has = subst (λ (p : Part I O). HoldsCell p) (sym (cell_is parts place d has).1) tt

  takes_by : (old new : List (Part I O)) (place : ℕ) (was now : Part I O) (ends : Option (Addr × O × O)) → slice_get old place ≡ Some was → slice_get new place ≡ Some now
      → SameElsewhere old new place → length new ≡ length old → GaveEnds was now ends → TakesAt old new place ends
  takes_by old new place (part.Cell was) (part.Cell now) ends a b others len takes =
      record { was = was; was_is = a; now = now; now_is = b; takes = takes; others = others; length_is = len }
  takes_by old new place (part.Cell was) (part.Board now) ends a b others len takes = absurd takes
  takes_by old new place (part.Cell was) (part.Pair now) ends a b others len takes = absurd takes
  takes_by old new place (part.Board was) now ends a b others len takes = absurd takes
  takes_by old new place (part.Pair was) now ends a b others len takes = absurd takes

  pub takes_at : (old : List (Part I O)) (place : ℕ) (d now : Part I O) (ends : Option (Addr × O × O)) → place < length old → GaveEnds (get_or old place d) now ends
      → TakesAt old (slice_set old place now) place ends
  takes_at old place d now ends within takes =
      takes_by old (slice_set old place now) place (get_or old place d) now ends (slice_get-get_or old place d within) (set_here old place now within)
      (λ k other. set_there old place k now other) (length-set old place now) takes

  pub can_shut : (parts : List (Part I O)) (place : ℕ) (d : Part I O) (ends : I × I) → HoldsEnds parts place ends → IsOpenBox (get_or parts place d)
  can_shut parts place d ends has =
      subst (λ (p : Part I O). IsOpenBox p) (sym (get_or_from_slice_get parts place (part.Pair has.box) d has.box_is)) (is_some_of (ends_in has.box) ends has.ends_are)

  gives_by : (old new : List (Part I O)) (place : ℕ) (was now : Part I O) (ends : I × I) → slice_get old place ≡ Some was → slice_get new place ≡ Some now
      → SameElsewhere old new place → length new ≡ length old → GaveBoxEnds was now ends → GivesBox old new place ends
  gives_by old new place (part.Pair was) (part.Pair now) ends a b others len shuts =
      record { gave = record { box = was; box_is = a; ends_are = shuts.0 }; box = now; box_is = b; shut = shuts.1; others = others; length_is = len }
  gives_by old new place (part.Pair was) (part.Board now) ends a b others len shuts = absurd shuts
  gives_by old new place (part.Pair was) (part.Cell now) ends a b others len shuts = absurd shuts
  gives_by old new place (part.Board was) now ends a b others len shuts = absurd shuts
  gives_by old new place (part.Cell was) now ends a b others len shuts = absurd shuts

  pub gives_at : (old : List (Part I O)) (place : ℕ) (d now : Part I O) (ends : I × I) → place < length old → GaveBoxEnds (get_or old place d) now ends
      → GivesBox old (slice_set old place now) place ends
  gives_at old place d now ends within shuts =
      gives_by old (slice_set old place now) place (get_or old place d) now ends (slice_get-get_or old place d within) (set_here old place now within)
      (λ k other. set_there old place k now other) (length-set old place now) shuts

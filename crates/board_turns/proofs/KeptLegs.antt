-- The leases of the legs that go from a cell, by what the cell keeps.
use Rattle.std.proofs.Common.{◌≡◌, ◌∙◌, refl, sym, ap, subst, ℕ, ◌≤◌, Bool, true, false, cond, List, [], ◌∷◌, map, filter, Option, Some, None}
use Rattle.std.specs.Prelude.{is_some}
use Rattle.std.specs.List.{filter_map, cons_option}
use Rattle.relay_outside.specs.declared.ports.InCall.{InCall}
use Rattle.relay_outside.specs.declared.ports.OutCall.{OutCall}
use Rattle.relay_outside.specs.declared.settings.Config.{Config}
use Rattle.relay_outside.specs.DeviceLogs.{EndLog}
use Rattle.turn_table.specs.declared.hands.Turns.{Turns}
use Rattle.turn_table.specs.declared.hands.Hand.{Hand}
use Rattle.turn_table.specs.Hands.{view}
use Rattle.histories.specs.Words.{In, here, there, has}
use Rattle.port_pool.specs.declared.holder.Holder.{Holder}
use Rattle.port_pool.specs.declared.pairs.Lease.{Lease}
use Rattle.port_pool.specs.declared.signal.SectionSignal.{SectionSignal}
use Rattle.port_pool.specs.Signals.{NewKey, is_rejected}
use Rattle.call_cell.specs.declared.leg.Leg.{Leg}
use Rattle.call_cell.specs.declared.cell.Cell as cell
use Rattle.call_cell.specs.declared.prepare.Prepare as prepared
use Rattle.call_cell.specs.Cells.{CellEntry}
use Rattle.call_cell.specs.CellEnds.{parts_of, parts_with}
use Rattle.call_cell.specs.Shapes.{CellLegShape, CellShape, cell_leg_shape, cell_leg_shapes, cell_shape}
use Rattle.relay_core.specs.declared.part.Part.{Part}
use Rattle.relay_core.specs.declared.part.Part.TheVariants as part
use Rattle.relay_core.specs.Records.{Made}
use Rattle.relay_core.proofs.KeptGiven.{kept_cell}
use Rattle.board_turns.specs.NestedSteps.{MayNest}
use Rattle.board_turns.specs.InCells.{IsCellAt, Prepares, Commits}
use Rattle.board_turns.specs.Closings.{leases_of_legs}
use Rattle.board_turns.specs.Departures.{AllHaveEnds, cell_kept, leases_going}

abbrev leases_in : List CellLegShape → List Lease
leases_in legs = map (λ (leg : CellLegShape). leg.lease) legs

-- of these legs those that pass
abbrev passing : (Holder → Bool) → List CellLegShape → List CellLegShape
passing goes legs = filter (λ (leg : CellLegShape). goes leg.holder) legs

-- each of these legs has its out ends
abbrev HaveEnds : List CellLegShape → Type 0
HaveEnds legs = (leg : CellLegShape) → In leg legs → leg.has_ends ≡ true

module _ {O : Type 0} where
  abbrev legs_passing : (Holder → Bool) → List (Leg O) → List (Leg O)
  legs_passing goes legs = filter (λ (leg : Leg O). goes leg.holder) legs

  abbrev parts_in : List (Leg O) → List (Lease × O × O)
  parts_in legs = filter_map (λ (leg : Leg O). parts_of leg) legs

  -- what stands for a leg that has out ends begins with its lease
  with_lease : (lease : Lease) (ends : Option (O × O)) (rest : List (Lease × O × O)) (leases : List Lease) → is_some ends ≡ true → leases_of_legs rest ≡ leases
      → leases_of_legs (cons_option (parts_with lease ends) rest) ≡ lease ∷ leases
  with_lease lease None rest leases some h = absurd (let e = some in cc)
  with_lease lease (Some e) rest leases some h = ap (λ (l : List Lease). lease ∷ l) h

  all_leases : (legs : List (Leg O)) → HaveEnds (cell_leg_shapes legs) → leases_of_legs (parts_in legs) ≡ leases_in (cell_leg_shapes legs)
  all_leases [] have = refl
  all_leases (leg ∷ legs) have =
      with_lease leg.lease leg.sending.ends (parts_in legs) (leases_in (cell_leg_shapes legs)) (have (cell_leg_shape leg) (here refl))
      (all_leases legs (λ l i. have l (there i)))

  passing_case : (goes : Holder → Bool) (leg : Leg O) (legs : List (Leg O)) → is_some leg.sending.ends ≡ true
      → leases_of_legs (parts_in (legs_passing goes legs)) ≡ leases_in (passing goes (cell_leg_shapes legs))
      → (t : Bool)
      → leases_of_legs (parts_in (cond t (leg ∷ legs_passing goes legs) (legs_passing goes legs)))
      ≡ leases_in (cond t (cell_leg_shape leg ∷ passing goes (cell_leg_shapes legs)) (passing goes (cell_leg_shapes legs)))
  passing_case goes leg legs has_ends rest true =
      with_lease leg.lease leg.sending.ends (parts_in (legs_passing goes legs))
      (leases_in (passing goes (cell_leg_shapes legs))) has_ends rest
  passing_case goes leg legs has_ends rest false = rest

  passing_leases : (goes : Holder → Bool) (legs : List (Leg O)) → HaveEnds (cell_leg_shapes legs)
      → leases_of_legs (parts_in (legs_passing goes legs)) ≡ leases_in (passing goes (cell_leg_shapes legs))
  passing_leases goes [] have = refl
  passing_leases goes (leg ∷ legs) have =
      passing_case goes leg legs (have (cell_leg_shape leg) (here refl)) (passing_leases goes legs (λ l i. have l (there i))) (goes leg.holder)

  -- all legs of a cell that keeps this went
  pub ended_leases : (old : cell.Cell O) (kept : CellShape) (gone : List (Lease × O × O)) → cell_shape old ≡ kept → gone ≡ parts_in old.legs.items
      → AllHaveEnds kept → leases_of_legs gone ≡ leases_in kept.legs
  ended_leases old kept gone is went have =
      ap (λ (those : List (Lease × O × O)). leases_of_legs those) went
      ∙ all_leases old.legs.items (subst (λ (s : CellShape). HaveEnds s.legs) (sym is) have)
      ∙ ap (λ (s : CellShape). leases_in s.legs) is

  -- of the legs of a cell with this shape those that pass went
  passing_left : (goes : Holder → Bool) (old : cell.Cell O) (kept : CellShape) (gone : List (Lease × O × O)) → cell_shape old ≡ kept
      → gone ≡ parts_in (legs_passing goes old.legs.items) → AllHaveEnds kept → leases_of_legs gone ≡ leases_going goes kept
  passing_left goes old kept gone is went have =
      ap (λ (those : List (Lease × O × O)). leases_of_legs those) went
      ∙ passing_leases goes old.legs.items (subst (λ (s : CellShape). HaveEnds s.legs) (sym is) have)
      ∙ ap (λ (s : CellShape). leases_going goes s) is

module _ {M I O T : Type 0} {g : _} (it : I → EndLog InCall) (ic : I → ℕ) (ot : O → EndLog OutCall) (oc : O → ℕ) where
  -- the cell that the main hand is given keeps what follows from its list
  pub shape_at : (config : Config) (turns : Turns M (Part I O) Made T) (hand : Hand M (Part I O) Made T g) (place : ℕ) (old : cell.Cell O) (h : List CellEntry)
      → MayNest config turns hand → 1 ≤ place → place ≤ config.max_sessions → IsCellAt it ic ot oc config hand place old h → cell_shape old ≡ cell_kept config hand place
  shape_at config turns hand place old h may low high was =
      kept_cell it ic ot oc config (view hand) place was.number (part.Cell old) may.whole_parts low high was.given may.main may.numbered

  pub prepared_left : (config : Config) (turns : Turns M (Part I O) Made T) (hand : Hand M (Part I O) Made T g) (place : ℕ) (signal : prepared.Prepare O) (call : ℕ)
      (keys : List NewKey) (dropped : List ℕ) (now : ℕ) (gone : List (Lease × O × O)) → MayNest config turns hand → 1 ≤ place → place ≤ config.max_sessions
      → Prepares it ic ot oc config hand place signal call keys dropped now gone → AllHaveEnds (cell_kept config hand place)
      → leases_of_legs gone ≡ leases_going (λ (leg : Holder). has dropped leg.section) (cell_kept config hand place)
  prepared_left config turns hand place signal call keys dropped now gone may low high does have =
      passing_left (λ (leg : Holder). has dropped leg.section) does.old (cell_kept config hand place) gone
      (shape_at config turns hand place does.old does.history may low high does.was) does.prepares.went have

  pub committed_left : (config : Config) (turns : Turns M (Part I O) Made T) (hand : Hand M (Part I O) Made T g) (place : ℕ) (signal : List SectionSignal) (now : ℕ)
      (gone : List (Lease × O × O)) → MayNest config turns hand → 1 ≤ place → place ≤ config.max_sessions
      → Commits it ic ot oc config hand place signal now gone → AllHaveEnds (cell_kept config hand place)
      → leases_of_legs gone ≡ leases_going (λ (leg : Holder). is_rejected signal leg.section) (cell_kept config hand place)
  committed_left config turns hand place signal now gone may low high does have =
      passing_left (λ (leg : Holder). is_rejected signal leg.section) does.old (cell_kept config hand place) gone
      (shape_at config turns hand place does.old does.history may low high does.was) does.commits.went have

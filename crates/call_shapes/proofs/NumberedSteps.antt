-- Offers, answers and ends, with the call by its number, are among what keeps all together.
use Rattle.std.proofs.Common.{◌≡◌, ◌∙◌, refl, sym, ap, subst, ℕ, ◌<◌, inl, inr, Bool, List, [], ◌∷◌, ◌++◌, map, filter, length, Some, arith}
use Rattle.std.proofs.lemmas.List.{get_or-replicate}
use Rattle.relay_outside.specs.declared.settings.Config.{Config}
use Rattle.histories.specs.Words.{In, here, has}
use Rattle.histories.proofs.Lists.{in_right}
use Rattle.port_pool.specs.declared.holder.Holder.{Holder}
use Rattle.port_pool.specs.Signals.{is_rejected}
use Rattle.port_pool.specs.Pools.{Pairs}
use Rattle.port_pool.specs.declared.pairs.Lease.{Lease}
use Rattle.offer_answer.specs.Rounds.{NewLeg}
use Rattle.offer_answer.specs.Shapes.{DialogShape, bare_shape}
use Rattle.call_cell.specs.Shapes.{CellShape, answered_shape, ended_shape}
use Rattle.call_board.specs.Acts.{Call}
use Rattle.call_board.specs.Boards.{AreOut, pairs_in}
use Rattle.call_board.specs.Returns.{leg_lease}
use Rattle.call_board.specs.Whole.{holders_of_new_legs}
use Rattle.call_board.specs.Shapes.{LiveShape, LeasesLegs, after_returns, bare_dialog, shape_numbered}
use Rattle.call_shapes.specs.Agreement.{CallAgrees, section_kept}
use Rattle.call_shapes.specs.WholeRelay.{held_legs}
use Rattle.call_shapes.specs.OfferFits.{OfferAgrees, cell_holders, new_holders, kept_holders}
use Rattle.call_shapes.specs.Turns.{RelayShape, IsWholeRelay, PlaceOfNumber, CallChanges, CallComes, CallLeaves, OfferIsUndone, LegsLeased, pairs_held}
use Rattle.call_shapes.specs.NumberedTurns.{OffersNumbered, OffersFirst, AnswersNumbered, EndsNumbered, UndoesOffer, gone_by_offer, gone_by_answer}
use Rattle.call_shapes.proofs.Numbered.{numbered}
use Rattle.call_shapes.proofs.NewHolders.{as_many_leases, new_holders_leased, leases_follow}
use Rattle.call_shapes.proofs.Pools.{returns_none}
use Rattle.call_shapes.proofs.LegLists.{answer_moves}
use Rattle.call_shapes.proofs.Answers.{answers_agree}
use Rattle.call_shapes.proofs.Offers.{offers_kept}
use Rattle.call_shapes.proofs.Needs.{spare_is_empty, gone_out, ended_out, undone_out}

-- the call that is found agrees with its cell
found_agrees : (config : Config) (relay : RelayShape) (number : ℕ) (dialog : DialogShape) (call : LiveShape) → IsWholeRelay config relay → PlaceOfNumber number dialog relay.board.calls call
    → CallAgrees config call.cell number call.dialog (relay.cells call.cell)
found_agrees config relay number dialog call whole n =
    subst (λ k. CallAgrees config call.cell k call.dialog (relay.cells call.cell)) n.number_is
    (whole.calls call (subst (λ (l : List LiveShape). In call l) (sym n.calls_are) (in_right n.front (call ∷ n.back) (here refl))))

-- An offer of a live call.

offer_agrees : (config : Config) (old new : RelayShape) (step : OffersNumbered config old new) → IsWholeRelay config old
    → OfferAgrees config step.of step.offer step.dialog (old.cells step.call.cell) (new.cells step.call.cell)
offer_agrees config old new step whole =
    let n = numbered step.of.number step.dialog old.board.calls step.call step.found in
    subst (OfferAgrees config step.of step.offer step.dialog (old.cells step.call.cell)) (sym step.cell_is)
    (offers_kept config step.of step.offer step.call.dialog step.dialog (old.cells step.call.cell)
    (inl (subst (λ cell. CallAgrees config cell step.of.number step.call.dialog (old.cells step.call.cell)) (sym step.cell_of)
    (found_agrees config old step.of.number step.dialog step.call whole n))) step.fits)

pub offer_goes_on : (config : Config) (old new : RelayShape) → IsWholeRelay config old → OffersNumbered config old new → CallChanges config old new
offer_goes_on config old new whole step =
    let n = numbered step.of.number step.dialog old.board.calls step.call step.found in
    let agrees = offer_agrees config old new step whole in
    record {
      call = step.call;
      dialog = step.dialog;
      front = n.front;
      back = n.back;
      calls_were = n.calls_are;
      calls_are = step.calls_are ∙ n.changed;
      config_is = step.rest.config_is;
      begun_is = step.rest.begun_is;
      taken_is = step.rest.taken_is;
      goes = λ (leg : Holder). has step.offer.dropped leg.section;
      came = new_holders step.of step.offer;
      gone = gone_by_offer step.offer (old.cells step.call.cell);
      legs = record { went = refl; stay = agrees.legs_are };
      agrees = subst (λ k. CallAgrees config step.call.cell k step.dialog (new.cells step.call.cell)) (sym n.number_is)
          (subst (λ cell. CallAgrees config cell step.of.number step.dialog (new.cells step.call.cell)) step.cell_of agrees.agrees);
      others = step.others;
      pool = record { between = step.between; leases = new_holders_leased step.of old.board.pool step.between step.offer.legs step.offer.leases step.leased; returns = step.pool_is };
      boxes = step.boxes;
    }

-- The first offer of a call.

bare_section : (section : ℕ) → section < 8 → section_kept bare_dialog section ≡ bare_shape
bare_section section h = get_or-replicate 8 section bare_shape bare_shape h

first_agrees : (config : Config) (old new : RelayShape) (step : OffersFirst config old new) → IsWholeRelay config old
    → OfferAgrees config step.of step.offer step.dialog (old.cells step.of.cell) (new.cells step.of.cell)
first_agrees config old new step whole =
    let empty = spare_is_empty config old.board old.cells old.holders step.of.cell whole step.cell_of in
    subst (OfferAgrees config step.of step.offer step.dialog (old.cells step.of.cell)) (sym step.cell_is)
    (offers_kept config step.of step.offer bare_dialog step.dialog (old.cells step.of.cell) (inr (record { empty = empty; sections = bare_section })) step.fits)

pub offer_begins : (config : Config) (old new : RelayShape) → IsWholeRelay config old → OffersFirst config old new → CallComes config old new
offer_begins config old new whole step =
    let agrees = first_agrees config old new step whole in
    let empty = spare_is_empty config old.board old.cells old.holders step.of.cell whole step.cell_of in
    record {
      call = record { number = step.of.number; cell = step.of.cell; dialog = step.dialog };
      calls_are = step.calls_are;
      number_is = step.number_is;
      cell_is = step.cell_of;
      config_is = step.config_is;
      begun_is = step.begun_is;
      taken_is = step.taken_is;
      came = new_holders step.of step.offer;
      legs = agrees.legs_are ∙ ap (λ (shape : CellShape). kept_holders step.offer.dropped (cell_holders shape) ++ new_holders step.of step.offer) empty;
      agrees = agrees.agrees;
      others = step.others;
      pool = record {
        between = new.board.pool;
        leases = new_holders_leased step.of old.board.pool new.board.pool step.offer.legs step.offer.leases step.leased;
        returns = sym (returns_none new.board.pool);
      };
      boxes = step.boxes;
    }

-- An answer.

pub answer_goes_on : (config : Config) (old new : RelayShape) → IsWholeRelay config old → AnswersNumbered config old new → CallChanges config old new
answer_goes_on config old new whole step =
    let n = numbered step.number step.dialog old.board.calls step.call step.found in
    let shape = old.cells step.call.cell in
    record {
      call = step.call;
      dialog = step.dialog;
      front = n.front;
      back = n.back;
      calls_were = n.calls_are;
      calls_are = step.calls_are ∙ n.changed;
      config_is = step.rest.config_is;
      begun_is = step.rest.begun_is;
      taken_is = step.rest.taken_is;
      goes = λ (leg : Holder). is_rejected step.signal leg.section;
      came = [];
      gone = gone_by_answer step.signal shape;
      legs = record { went = refl; stay = ap cell_holders step.cell_is ∙ (answer_moves step.signal shape).stay };
      agrees = subst (CallAgrees config step.call.cell step.call.number step.dialog) (sym step.cell_is)
          (subst (λ k. CallAgrees config step.call.cell k step.dialog (answered_shape step.signal shape)) (sym n.number_is)
          (answers_agree config step.call.cell step.number step.call.dialog step.dialog shape step.signal
          (found_agrees config old step.number step.dialog step.call whole n) step.answered));
      others = step.others;
      pool = record { between = old.board.pool; leases = refl; returns = step.pool_is };
      boxes = step.boxes;
    }

-- An end.

pub numbered_ends : (config : Config) (old new : RelayShape) → IsWholeRelay config old → EndsNumbered config old new → CallLeaves config old new
numbered_ends config old new whole step =
    let n = numbered step.number step.call.dialog old.board.calls step.call step.found in
    let agrees = found_agrees config old step.number step.call.dialog step.call whole n in
    record {
      call = step.call;
      front = n.front;
      back = n.back;
      calls_were = n.calls_are;
      calls_are = step.calls_are ∙ n.without;
      config_is = step.config_is;
      begun_is = step.begun_is;
      taken_is = step.taken_is;
      gone = cell_holders (old.cells step.call.cell);
      legs = refl;
      ended = step.cell_is ∙ ap ended_shape agrees.config_is;
      others = step.others;
      pool = step.pool_is;
      boxes = step.boxes;
    }

-- An offer that is undone. Its legs are of no call.

abbrev no_call : Call
no_call = record { number = 0; cell = 0; id = [] }

new_pairs : (legs : List NewLeg) (leases : List Lease) → length leases ≡ length legs → pairs_held (holders_of_new_legs no_call leases legs) ≡ pairs_in leases
new_pairs legs [] long = refl
new_pairs [] (lease ∷ leases) long = absurd (omega (arith, long))
new_pairs (leg ∷ legs) (lease ∷ leases) long = ap (λ (l : List ℕ). lease.pair ∷ l) (new_pairs legs leases (omega (arith, long)))

pub undoes_offer : (old new : RelayShape) → UndoesOffer old new → OfferIsUndone old new
undoes_offer old new step = record {
  legs = holders_of_new_legs no_call step.leases step.legs;
  calls_are = step.calls_are;
  config_is = step.rest.config_is;
  begun_is = step.rest.begun_is;
  taken_is = step.rest.taken_is;
  cells_are = step.cells_are;
  holders_are = step.holders_are;
  pool = record {
    between = step.between;
    leases = new_holders_leased no_call old.board.pool step.between step.legs step.leases step.leased;
    returns = step.pool_is
        ∙ ap (after_returns step.between) (sym (new_pairs step.legs step.leases (as_many_leases old.board.pool step.between step.legs step.leases step.leased)));
  };
}

-- Which leases may be given back.

pub numbered_gone_out : (config : Config) (relay : RelayShape) (number : ℕ) (call : LiveShape) (goes : Holder → Bool) (came : List Holder) (between : Pairs) → IsWholeRelay config relay
    → shape_numbered relay.board number ≡ Some call → LegsLeased relay.board.pool came between
    → AreOut between (map (leg_lease config) (filter goes (cell_holders (relay.cells call.cell))))
numbered_gone_out config relay number call goes came between whole found leased =
    let n = numbered number call.dialog relay.board.calls call found in
    gone_out config relay.board relay.cells relay.holders call n.front n.back goes came between whole n.calls_are leased

pub numbered_all_out : (config : Config) (relay : RelayShape) (number : ℕ) (call : LiveShape) → IsWholeRelay config relay → shape_numbered relay.board number ≡ Some call
    → AreOut relay.board.pool (map (leg_lease config) (cell_holders (relay.cells call.cell)))
numbered_all_out config relay number call whole found =
    let n = numbered number call.dialog relay.board.calls call found in
    ended_out config relay.board relay.cells relay.holders call n.front n.back whole n.calls_are

pub leases_out : (config : Config) (relay : RelayShape) (legs : List NewLeg) (leases : List Lease) (between : Pairs) → IsWholeRelay config relay
    → LeasesLegs relay.board.pool legs leases between → AreOut between leases
leases_out config relay legs leases between whole leased =
    let held = held_legs relay.cells relay.board.calls in
    subst (AreOut between) (sym (leases_follow config no_call relay.board.pool between held legs leases whole.pool leased))
    (undone_out config relay.board.pool between held (holders_of_new_legs no_call leases legs) whole.pool
    (new_holders_leased no_call relay.board.pool between legs leases leased))

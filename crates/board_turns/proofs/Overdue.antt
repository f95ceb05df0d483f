-- A call that has to end, and its turn before the end: the call is ending and due, or its cell said that it has timed out.
use Rattle.std.proofs.Common.{◌≡◌, refl, sym, subst, ℕ, Bool, true, false, List, [], ◌∷◌, ◌++◌, Option, arith}
use Rattle.relay_outside.specs.declared.ports.InCall.{InCall}
use Rattle.relay_outside.specs.declared.ports.OutCall.{OutCall}
use Rattle.relay_outside.specs.declared.ports.PortCall.{PortCall}
use Rattle.relay_outside.specs.declared.settings.Config.{Config}
use Rattle.relay_outside.specs.DeviceLogs.{EndLog}
use Rattle.port_pool.specs.declared.holder.Holder.{Holder}
use Rattle.call_cell.specs.Cells.{Expire}
use Rattle.call_board.specs.Acts.{Call}
use Rattle.call_board.specs.declared.board.Board.{Board}
use Rattle.call_board.specs.Shapes.{board_shape}
use Rattle.relay_core.specs.KeptAfter.{IsWholeWith}
use Rattle.relay_core.specs.Scripts.{Owed}
use Rattle.board_turns.specs.declared.board_turn.MainHand.{MainHand}
use Rattle.board_turns.specs.declared.board_turn.BoardTurn.{BoardTurn}
use Rattle.board_turns.specs.InCells.{Expires, HasNewKeys, in_cell_of}
use Rattle.board_turns.specs.CallEnds.{CanEnd, IsCallOf, ending_of}
use Rattle.board_turns.specs.Ticks.{asking_of}
use Rattle.board_turns.specs.BoardTurns.{CanNest, IsTurnCall, MakesNested, MayEnd, Nests, Works, hand_list}
use Rattle.board_turns.proofs.Nesting.{gains_nothing}
use Rattle.board_turns.proofs.Staying.{same_config, works_none, makes_both}
use Rattle.board_turns.proofs.Expiring.{question, asked_call, asked_can, nothing_parts}
use Rattle.board_turns.proofs.Tying.{ties_gained}
use Rattle.board_turns.proofs.Wholeness.{asked_whole}

question_first : (config : Config) (of : Call) (legs : List Holder) (overdue : Bool) → question of.cell overdue ++ ending_of config of legs ≡ asking_of config of legs overdue true
question_first config of legs true = refl
question_first config of legs false = refl

module _ {P I O : Type 0} {g : _} where
  -- the same turn, in which the main hand has done something
  abbrev pub with_main : BoardTurn P I O g → MainHand I O g → BoardTurn P I O g
  with_main turn main = record { main = main; board = turn.board; ports = turn.ports; gone = turn.gone }

module _ {P I O : Type 0} {g : _} (log : P → Option (List PortCall)) (faults : P → ℕ) where
  -- a cell was asked whether its call has timed out
  pub works_asked : (old : BoardTurn P I O g) (main : MainHand I O g) (cell : ℕ) (ends : Bool) → Nests old.main main → MakesNested (in_cell_of cell (Expire ends) ∷ []) old.main main
      → old.gone.now ≡ [] → Works log faults old (with_main old main)
  works_asked old main cell ends nests gained empty = record {
    stays = record {
      nests = nests;
      devices = record { board_is = refl; ports_are = refl; gone_is = refl };
      replies = refl;
      later = omega arith;
    };
    ties = ties_gained old.main.config.now (log old.ports.now) old.main.entry_id.number old.main.entry_id.moment (in_cell_of cell (Expire ends) ∷ []) old.main.hand.now main.hand.now
        gained (nothing_parts cell ends);
    empty = empty;
    whole = λ w.
        subst (λ (config : Config). IsWholeWith config main.hand.now (board_shape old.board.now)) (sym (same_config old.main main nests))
        (asked_whole old.main.config.now old.main.entry_id.number old.main.entry_id.moment cell ends old.main.hand.now main.hand.now (board_shape old.board.now) nests.same.1 gained w);
  }

module _ {P I O : Type 0} {g : _} (log : P → Option (List PortCall)) (faults : P → ℕ) (it : I → EndLog InCall) (ic : I → ℕ) (ot : O → EndLog OutCall) (oc : O → ℕ) where
  -- the call in this cell has to end: it is overdue, or it was asked and has timed out
  pub record HasToEnd (old now : BoardTurn P I O g) (cell : ℕ) (overdue : Bool) : Type 0 where
    pub works : Works log faults old now
    pub gained : MakesNested (question cell overdue) old.main now.main
    pub board_is : now.board.now ≡ old.board.now
    pub ports_are : now.ports.now ≡ old.ports.now
    pub timed_out : overdue ≡ false → HasNewKeys (hand_list old.main) cell → Expires it ic ot oc old.main.config.now old.main.hand.now cell old.main.entry_id.moment true

  pub ends_overdue : (turn : BoardTurn P I O g) (cell : ℕ) → CanNest turn.main → turn.gone.now ≡ [] → HasToEnd turn turn cell true
  ends_overdue turn cell may empty = record {
    works = works_none log faults turn may empty;
    gained = gains_nothing turn.main.entry_id.number turn.main.entry_id.moment turn.main.hand.now;
    board_is = refl;
    ports_are = refl;
    timed_out = λ is. absurd (let q : true ≡ false = is in cc);
  }

  pub ends_timed_out : (old : BoardTurn P I O g) (main : MainHand I O g) (cell : ℕ) → Nests old.main main → MakesNested (in_cell_of cell (Expire true) ∷ []) old.main main
      → old.gone.now ≡ [] → (HasNewKeys (hand_list old.main) cell → Expires it ic ot oc old.main.config.now old.main.hand.now cell old.main.entry_id.moment true) → HasToEnd old (with_main old main) cell false
  ends_timed_out old main cell nests gained empty asked = record {
    works = works_asked log faults old main cell true nests gained empty;
    gained = gained;
    board_is = refl;
    ports_are = refl;
    timed_out = λ is. asked;
  }

  -- a call that might be ended still may be
  pub then_can : (old now : BoardTurn P I O g) (cell : ℕ) (said : Bool) (ends : HasToEnd old now cell said) (number call : ℕ)
      → CanEnd old.main.config.now old.main.hand.now old.board.now (log old.ports.now) number → call ≡ number → MayEnd log now call
  then_can old now cell said ends number call can call_is =
      let hand = now.main.hand.now in
      let same = same_config old.main now.main ends.works.stays.nests in
      let whole = subst (λ (board : Board). IsWholeWith old.main.config.now hand (board_shape board)) ends.board_is
      (subst (λ (config : Config). IsWholeWith config hand (board_shape now.board.now)) same (ends.works.whole can.whole)) in
      subst (λ (config : Config). CanEnd config hand now.board.now (log now.ports.now) call) (sym same)
      (subst (λ (board : Board). CanEnd old.main.config.now hand board (log now.ports.now) call) (sym ends.board_is)
      (subst (λ (ports : P). CanEnd old.main.config.now hand old.board.now (log ports) call) (sym ends.ports_are)
      (asked_can old.main.config.now old.main.entry_id.number old.main.entry_id.moment cell said old.main.hand.now now.main.hand.now old.board.now (log old.ports.now) call number
      can call_is ends.works.stays.nests.same.1 ends.gained whole)))

  module _ (old now : BoardTurn P I O g) (cell : ℕ) (said : Bool) (ends : HasToEnd old now cell said) (of : Call) (legs : List Holder) (cell_is : cell ≡ of.cell) where
    -- so it is still the call, and may be ended
    pub then_call : (call : ℕ) → IsCallOf old.main.config.now (hand_list old.main) old.board.now of.number of legs → call ≡ of.number → IsTurnCall now call of legs
    then_call call is call_is =
        let l = hand_list now.main in
        subst (λ (config : Config). IsCallOf config l now.board.now call of legs) (sym (same_config old.main now.main ends.works.stays.nests))
        (subst (λ (board : Board). IsCallOf old.main.config.now l board call of legs) (sym ends.board_is)
        (asked_call old.main.config.now old.main.entry_id.number old.main.entry_id.moment cell said old.main.hand.now now.main.hand.now old.board.now call of legs
        is call_is cell_is ends.gained))

    -- and with its end all is done that is owed for it
    pub then_gained : (main : MainHand I O g) (overdue : Bool) → said ≡ overdue → MakesNested (ending_of now.main.config.now of legs) now.main main
        → MakesNested (asking_of old.main.config.now of legs overdue true) old.main main
    then_gained main overdue is gained =
        let config = old.main.config.now in
        subst (λ (o : Bool). MakesNested (asking_of config of legs o true) old.main main) is
        (subst (λ (owed : List Owed). MakesNested owed old.main main) (question_first config of legs said)
        (makes_both (question of.cell said) (ending_of config of legs) old.main now.main main ends.works.stays.nests
        (subst (λ (k : ℕ). MakesNested (question k said) old.main now.main) cell_is ends.gained)
        (subst (λ (k : Config). MakesNested (ending_of k of legs) now.main main) (same_config old.main now.main ends.works.stays.nests) gained)))

-- What the turn of an offer does.
use Rattle.std.specs.Prelude.{◌≡◌, ℕ, List, Option}
use Rattle.relay_outside.specs.declared.ports.PortCall.{PortCall}
use Rattle.ng_reply.specs.declared.code.ErrorCode.{ErrorCode}
use Rattle.offer_answer.specs.Rounds.{OfferAsk}
use Rattle.call_board.specs.Acts.{Offered, Undone, BoardEntry, act}
use Rattle.call_board.specs.Fits.{FitsBoard}
use Rattle.call_board.specs.declared.board_plan.BoardPlan.{BoardPlan}
use Rattle.board_turns.specs.declared.board_turn.MainHand.{MainHand}
use Rattle.board_turns.specs.declared.board_turn.BoardTurn.{BoardTurn}
use Rattle.board_turns.specs.BoardTurns.{Does, past_of}
use Rattle.offer_command.specs.declared.lease.LeaseFault.{LeaseFault}
use Rattle.offer_command.specs.Offers.{CanOffer, offer_of, undone_leases, offered_text}
use Rattle.offer_command.specs.Undo.{keys_before}

module _ {I O : Type 0} {g : _} where
  -- whichever offer was planned so, in whose description these lines stand, this is the description for the other side, where
  -- these keys were drawn for it
  abbrev pub Describes : MainHand I O g → (lines : List (List ℕ)) → BoardPlan → (draws : List (List ℕ)) → (text : List ℕ) → Type 0
  Describes main lines p draws text = (id : List ℕ) (ask : OfferAsk) → CanOffer main.config.now (past_of main) id ask lines p →
      text ≡ offered_text main.config.now (past_of main) id (offer_of main.config.now (past_of main) id ask draws)

module _ {P I O : Type 0} {g : _} (log : P → Option (List PortCall)) where
  -- whichever offer was planned so, the turn did what the entry owes by which it is accepted, where these keys were drawn for it
  abbrev pub TurnAccepts : (old new : BoardTurn P I O g) → (lines : List (List ℕ)) → BoardPlan → (draws : List (List ℕ)) → Type 0
  TurnAccepts old new lines p draws = (id : List ℕ) (ask : OfferAsk) → CanOffer old.main.config.now (past_of old.main) id ask lines p →
      (e : BoardEntry) → FitsBoard old.main.config.now (past_of old.main) e →
      act e ≡ Offered (offer_of old.main.config.now (past_of old.main) id ask draws) → e.moment ≡ old.main.entry_id.moment → Does log old new e

  -- or by which it is undone, where this was the fault
  abbrev pub Undoes : (old new : BoardTurn P I O g) → (lines : List (List ℕ)) → BoardPlan → LeaseFault → Type 0
  Undoes old new lines p fault = (id : List ℕ) (ask : OfferAsk) → CanOffer old.main.config.now (past_of old.main) id ask lines p →
      (e : BoardEntry) (code : ErrorCode) →
      act e ≡ Undone code (undone_leases old.main.config.now (past_of old.main) id ask) (keys_before fault) → Does log old new e

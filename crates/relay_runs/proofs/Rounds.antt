-- How the rows of a run grow: by a control turn, by a sweep, and by the stop.
use Rattle.std.specs.Prelude.{is_some, unwrap_or}
use Rattle.std.specs.Option.{option_map}
use Rattle.std.proofs.Common.{◌≡◌, ◌∙◌, ap, refl, subst, sym, ℕ, ◌<◌, List, [], ◌∷◌, ◌++◌, append_assoc, append-nil, Bool, true, false, cond, Option, None, Some}
use Rattle.relay_outside.specs.declared.settings.Config.{Config}
use Rattle.turn_table.specs.declared.hands.Turns.{Turns}
use Rattle.turn_table.specs.declared.hands.Hand.{Hand}
use Rattle.turn_table.specs.Hands.{entries}
use Rattle.call_board.specs.Acts.{Call, BoardEntry}
use Rattle.relay_core.specs.declared.part.Part.{Part}
use Rattle.relay_core.specs.Records.{Made, list_of}
use Rattle.relay_core.specs.Turns.{made_by}
use Rattle.media_lane.specs.declared.answers.Totals.{Totals}
use Rattle.media_lane.specs.Sweeps.{Sweeps}
use Rattle.media_lane.specs.Visits.{Row}
use Rattle.board_turns.specs.Between.{board_of, IsBetween}
use Rattle.board_turns.specs.Ticks.{tick_entry}
use Rattle.board_turns.proofs.Grown.{makes_history}
use Rattle.board_turns.specs.Controls.{RequestRecord, entry_at, moment_at}
use Rattle.ng_server.specs.declared.control_turn.ControlTurn.{ControlTurn}
use Rattle.ng_server.specs.ControlTurns.{FollowsTake}
use Rattle.media_lane.specs.Totals.{HasTotals}
use Rattle.media_lane.proofs.Counts.{turn_totals}
use Rattle.relay_runs.specs.Rounds.{ControlRound, status_after, entry_due, with_entry, with_request, tick_of, history_after, with_ticks, latest, earliest, first_round_of, counted_from, is_tick_due, HasRequest, MakesEntry, AreControlRounds}
use Rattle.relay_runs.specs.RunStates.{AddsSweep, DidTick}

-- what a control turn added to the rows, or a tick
pub record AddsTurn (config : Config) (entry : Option BoardEntry) (before after : List Row) : Type 0 where
  pub rows : List Row
  pub are : after ≡ before ++ rows
  pub makes : MakesEntry config before entry rows

-- one more round
module _ (config : Config) (threads : ℕ) (range : Option (ℕ × ℕ)) (rounds : List ControlRound) (r : ControlRound) (before between swept after : List Row) where
  pub one_more : status_after r.answer ≡ None → HasRequest r.answer r.heard → is_some r.ticked ≡ is_tick_due rounds r.handed
      → AreControlRounds config threads range rounds before → AddsTurn config (entry_due config (history_after config rounds) r.handed r.heard) before between
      → AddsSweep config threads range between swept → AddsTurn config (tick_of (with_request config (history_after config rounds) r) r) swept after
      → AreControlRounds config threads range (r ∷ rounds) after
  one_more goes heard due are t s k =
      let swept_is : swept ≡ (before ++ t.rows) ++ s.rows = s.are ∙ ap (λ (xs : List Row). xs ++ s.rows) t.are in
      let tick : MakesEntry config ((before ++ t.rows) ++ s.rows) (tick_of (with_request config (history_after config rounds) r) r) k.rows =
      subst (λ (xs : List Row). MakesEntry config xs (tick_of (with_request config (history_after config rounds) r) r) k.rows) swept_is k.makes in
      (before, t.rows, s.rows, k.rows, k.are ∙ ap (λ (xs : List Row). xs ++ k.rows) swept_is, goes, heard, due, are, t.makes, s.alone, tick)

-- From which moment the next second counts.

earliest_some : (r : ControlRound) (rounds : List ControlRound) → is_some (earliest (r ∷ rounds)) ≡ true
earliest_some r [] = refl
earliest_some r (before ∷ rounds) = earliest_some before rounds

-- the one that is there
or_kept : (found : Option ControlRound) (r : ControlRound) → is_some found ≡ true → found ≡ first_round_of found (Some r)
or_kept None r some = absurd (let k = some in cc)
or_kept (Some x) r some = refl

earliest_more : (r : ControlRound) (rounds : List ControlRound) → earliest (r ∷ rounds) ≡ first_round_of (earliest rounds) (Some r)
earliest_more r [] = refl
earliest_more r (before ∷ rounds) = or_kept (earliest (before ∷ rounds)) r (earliest_some before rounds)

counted_case : (last first : Option ControlRound) (r : ControlRound)
    → option_map (λ (q : ControlRound). q.handed) (first_round_of last (first_round_of first (Some r))) ≡ Some (unwrap_or (option_map (λ (q : ControlRound). q.handed) (first_round_of last first)) r.handed)
counted_case (Some x) first r = refl
counted_case None (Some x) r = refl
counted_case None None r = refl

-- after a round: from its own where a tick is in it, and else as before
pub counted_next : (r : ControlRound) (rounds : List ControlRound) (ticks : Bool) → is_some r.ticked ≡ ticks
    → counted_from (r ∷ rounds) ≡ Some (cond ticks r.handed (unwrap_or (counted_from rounds) r.handed))
counted_next r rounds true is =
    ap (λ (b : Bool). option_map (λ (q : ControlRound). q.handed) (first_round_of (latest (cond b (r ∷ with_ticks rounds) (with_ticks rounds))) (earliest (r ∷ rounds)))) is
counted_next r rounds false is =
    ap (λ (b : Bool). option_map (λ (q : ControlRound). q.handed) (first_round_of (latest (cond b (r ∷ with_ticks rounds) (with_ticks rounds))) (earliest (r ∷ rounds)))) is
    ∙ ap (λ (o : Option ControlRound). option_map (λ (q : ControlRound). q.handed) (first_round_of (latest (with_ticks rounds)) o)) (earliest_more r rounds)
    ∙ counted_case (latest (with_ticks rounds)) (earliest rounds) r

pub no_rows : (rows : List Row) → list_of rows ≡ [] → rows ≡ []
no_rows [] none = refl
no_rows (row ∷ rows) none = absurd (let k = none in cc)

-- before the first round
pub no_rounds : (config : Config) (threads : ℕ) (range : Option (ℕ × ℕ)) (rows : List Row) → list_of rows ≡ [] → AreControlRounds config threads range [] rows
no_rounds config threads range rows none = no_rows rows none

module _ {M I O : Type 0} {g : _} where
  pub turn_rows : (config : Config) (old new : Hand M (Part I O) Made (Unit {0}) g) (now : ℕ) (answer : ControlTurn) (made : Option RequestRecord) → FollowsTake config old new now answer made
      → AddsTurn config (entry_due config (board_of (made_by old)) now made) (entries old) (entries new)
  turn_rows config old new now answer None follows = record {
    rows = [];
    are = ap (λ (h : Hand M (Part I O) Made (Unit {0}) g). entries h) follows.1 ∙ sym (append-nil (entries old));
    makes = refl;
  }
  turn_rows config old new now answer (Some x) follows =
      let m = follows.1 in
      record {
        rows = m.rows ++ m.row ∷ [];
        are = m.list_is ∙ append_assoc (entries old) m.rows (m.row ∷ []);
        makes = record { nested = m.rows; last = m.row; rows_are = refl; turn = m.turn; is = m.is };
      }

  pub tick_rows : (config : Config) (old new : Hand M (Part I O) Made (Unit {0}) g) (now : ℕ) (ticked : Option (List Call)) → DidTick config old new now ticked
      → AddsTurn config (option_map (tick_entry (board_of (made_by old)) now) ticked) (entries old) (entries new)
  tick_rows config old new now None did = record {
    rows = [];
    are = ap (λ (h : Hand M (Part I O) Made (Unit {0}) g). entries h) did ∙ sym (append-nil (entries old));
    makes = refl;
  }
  tick_rows config old new now (Some calls) did = record {
    rows = did.rows ++ did.row ∷ [];
    are = did.list_is ∙ append_assoc (entries old) did.rows (did.row ∷ []);
    makes = record { nested = did.rows; last = did.row; rows_are = refl; turn = did.turn; is = did.is };
  }

  pub sweep_rows : (config : Config) (threads : ℕ) (range : Option (ℕ × ℕ)) (old new : Hand M (Part I O) Made (Unit {0}) g) → threads ≡ 0
      → (swept : Totals) × Sweeps config 0 1 range old new swept → AddsSweep config threads range (entries old) (entries new)
  sweep_rows config threads range old new none swept =
      let s = swept.1 in
      subst (λ (n : ℕ). AddsSweep config n range (entries old) (entries new)) (sym none)
      (record { rows = _; are = s.list_is; alone = record { visits = s.visits; rows_are = refl; is_sweep = record { passed = s.passed; own_once = s.own_once } } })

  -- what is recorded of a turn, by how it ended
  pub turn_heard : (config : Config) (old new : Hand M (Part I O) Made (Unit {0}) g) (now : ℕ) (answer : ControlTurn) (made : Option RequestRecord) → FollowsTake config old new now answer made
      → HasRequest answer made
  turn_heard config old new now answer None follows = follows.0
  turn_heard config old new now answer (Some x) follows = follows.0

  -- the board's history, with the entry of a turn
  pub board_after : (config : Config) (turns : Turns M (Part I O) Made (Unit {0})) (old new : Hand M (Part I O) Made (Unit {0}) g) (now : ℕ) (answer : ControlTurn) (made : Option RequestRecord)
      → IsBetween config turns old → IsBetween config turns new → FollowsTake config old new now answer made
      → board_of (made_by new) ≡ with_entry (board_of (made_by old)) (entry_due config (board_of (made_by old)) now made)
  board_after config turns old new now answer None before after follows =
      ap (λ (h : Hand M (Part I O) Made (Unit {0}) g). board_of (made_by h)) follows.1
  board_after config turns old new now answer (Some x) before after follows =
      makes_history config turns old new (entry_at config (board_of (made_by old)) (moment_at (board_of (made_by old)) now) x) before after follows.1

  -- and with that of a tick
  pub board_ticked : (config : Config) (turns : Turns M (Part I O) Made (Unit {0})) (old new : Hand M (Part I O) Made (Unit {0}) g) (now : ℕ) (ticked : Option (List Call))
      → IsBetween config turns old → IsBetween config turns new → DidTick config old new now ticked
      → board_of (made_by new) ≡ with_entry (board_of (made_by old)) (option_map (tick_entry (board_of (made_by old)) now) ticked)
  board_ticked config turns old new now None before after did = ap (λ (h : Hand M (Part I O) Made (Unit {0}) g). board_of (made_by h)) did
  board_ticked config turns old new now (Some calls) before after did =
      makes_history config turns old new (tick_entry (board_of (made_by old)) now calls) before after did

  -- a control turn makes no take and no relay
  pub follows_totals : (config : Config) (turns : Turns M (Part I O) Made (Unit {0})) (old new : Hand M (Part I O) Made (Unit {0}) g) (now : ℕ) (answer : ControlTurn) (made : Option RequestRecord)
      (totals : Totals) → IsBetween config turns old → FollowsTake config old new now answer made → HasTotals (made_by old) totals → HasTotals (made_by new) totals
  follows_totals config turns old new now answer None totals before follows counts =
      subst (λ (h : Hand M (Part I O) Made (Unit {0}) g). HasTotals (made_by h) totals) (sym follows.1) counts
  follows_totals config turns old new now answer (Some x) totals before follows counts =
      turn_totals config old new (entry_at config (board_of (made_by old)) (moment_at (board_of (made_by old)) now) x) totals before.orderly follows.1 counts

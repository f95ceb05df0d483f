-- A call that ends: what its legs and their leases are.
use Rattle.std.proofs.Common.{◌≡◌, ◌∙◌, refl, sym, ap, subst, ℕ, ◌<◌, List, [], ◌∷◌, Some, map}
use Rattle.std.specs.Prelude.{option_map}
use Rattle.relay_outside.specs.declared.settings.Config.{Config}
use Rattle.histories.specs.Words.{has}
use Rattle.port_pool.specs.Ports.{pair_count}
use Rattle.port_pool.specs.declared.pairs.Lease.{Lease}
use Rattle.port_pool.specs.declared.holder.Holder.{Holder}
use Rattle.call_board.specs.Acts.{Call}
use Rattle.call_board.specs.declared.board.Board.{Board}
use Rattle.call_board.specs.Views.{View, CallView, call_numbered}
use Rattle.call_board.specs.Boards.{BoardMatches, pairs_in}
use Rattle.call_board.specs.Returns.{leg_lease, MayReturnAll}
use Rattle.relay_core.specs.Entries.{Entry}
use Rattle.relay_core.specs.Scripts.{closing}
use Rattle.relay_core.specs.Turns.{IsAbove}
use Rattle.media_ports.specs.Addresses.{AreLeased}
use Rattle.board_turns.specs.NestedSteps.{closing_of}
use Rattle.board_turns.specs.Departures.{AreLeasesOf, AllRemoved}
use Rattle.board_turns.specs.Closings.{leases_of_legs, closings_of}
use Rattle.board_turns.specs.CallEnds.{IsCallOf, leg_pairs}

module _ {O : Type 0} where
  -- the pairs that went are those of the legs
  pub pairs_are : (config : Config) (gone : List (Lease × O × O)) (legs : List Holder) → AreLeasesOf config gone legs → pairs_in (leases_of_legs gone) ≡ leg_pairs legs
  pairs_are config [] [] are = refl
  pairs_are config [] (leg ∷ legs) are = absurd are
  pairs_are config (went ∷ gone) [] are = absurd are
  pairs_are config (went ∷ gone) (leg ∷ legs) are =
      let first = are.0.pair in
      let rest = pairs_are config gone legs are.1 in
      λ i. first i ∷ rest i

  pub closings_are : (config : Config) (gone : List (Lease × O × O)) (legs : List Holder) → AreLeasesOf config gone legs → closings_of config gone ≡ map (closing config) legs
  closings_are config [] [] are = refl
  closings_are config [] (leg ∷ legs) are = absurd are
  closings_are config (went ∷ gone) [] are = absurd are
  closings_are config (went ∷ gone) (leg ∷ legs) are =
      let first = ap (closing_of config) are.0.pair in
      let rest = closings_are config gone legs are.1 in
      λ i. first i ∷ rest i

  -- where the leases of the legs may be given back, so may those that went
  pub may_return_alike : (config : Config) (v : View) (gone : List (Lease × O × O)) (legs : List Holder) → AreLeasesOf config gone legs → MayReturnAll config v (map (leg_lease config) legs) →
      MayReturnAll config v (leases_of_legs gone)
  may_return_alike config v [] [] are may = tt
  may_return_alike config v [] (leg ∷ legs) are may = absurd are
  may_return_alike config v (went ∷ gone) [] are may = absurd are
  may_return_alike config v (went ∷ gone) (leg ∷ legs) are may = (
    record {
      of_range = subst (λ (p : ℕ). p < pair_count config) (sym are.0.pair) may.0.of_range;
      not_free = ap (has v.free) are.0.pair ∙ may.0.not_free;
      last = ap v.leases are.0.pair ∙ may.0.last ∙ sym are.0.generation;
    },
    ap (λ (ps : List ℕ). has ps went.0.pair) (pairs_are config gone legs are.1) ∙ ap (has (leg_pairs legs)) are.0.pair ∙ ap (λ (ps : List ℕ). has ps leg.pair) (their_pairs legs) ∙ may.1,
    may_return_alike config v gone legs are.1 may.2,
  )
    where
      their_pairs : (those : List Holder) → leg_pairs those ≡ pairs_in (map (leg_lease config) those)
      their_pairs [] = refl
      their_pairs (one ∷ those) = ap (λ (ps : List ℕ). one.pair ∷ ps) (their_pairs those)

  -- the legs that went from the cell are those of the call
  pub went_are : (config : Config) (l : List Entry) (board : Board) (call : ℕ) (of : Call) (legs : List Holder) (cell n : ℕ)
      (gone : List (Lease × O × O)) → IsCallOf config l board call of legs → cell ≡ of.cell → AllRemoved config l cell gone → IsAbove l cell n → AreLeasesOf config gone legs
  went_are config l board call of legs cell n gone can is went above =
      let there_above : IsAbove l of.cell n = subst (λ (k : ℕ). IsAbove l k n) is above in
      let there_went : AllRemoved config l of.cell gone = subst (λ (k : ℕ). AllRemoved config l k gone) is went in
      subst (λ (ls : List Holder). AreLeasesOf config gone ls) (can.legs_are n there_above) (there_went n there_above)

-- leases that may be given back are of different pairs
pub may_be_leased : (config : Config) (v : View) (leases : List Lease) → MayReturnAll config v leases → AreLeased config leases
may_be_leased config v [] may = record { differ = tt }
may_be_leased config v (lease ∷ leases) may = record { differ = (may.0.of_range, may.1, (may_be_leased config v leases may.2).differ) }

-- the board's answer is the cell of the call
pub cell_is : (config : Config) (l : List Entry) (board : Board) (call : ℕ) (of : Call) (legs : List Holder) (cell : ℕ) →
    IsCallOf config l board call of legs →
    ((config : Config) (v : View) → BoardMatches config board v → option_map (λ (c : CallView). c.of.cell) (call_numbered v call) ≡ Some cell) → cell ≡ of.cell
cell_is config l board call of legs cell can answers =
    let found : Some can.seen.of.cell ≡ Some cell = sym (ap (option_map (λ (c : CallView). c.of.cell)) can.found) ∙ answers config can.view can.shows in
    let same : can.seen.of.cell ≡ cell = cc in
    sym same ∙ ap (λ (c : Call). c.cell) can.of_is

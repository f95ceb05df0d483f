-- What an offer brings can come to the cell of its call, after its boxes were opened.
use Rattle.std.proofs.Common.{◌≡◌, ◌∙◌, sym, ap, subst, ℕ, ◌≤◌, ◌<◌, ◌^◌, List, [], ◌∷◌, map, arith}
use Rattle.relay_outside.specs.declared.settings.Config.{Config}
use Rattle.turn_table.specs.declared.hands.Hand.{Hand}
use Rattle.histories.specs.Words.{In}
use Rattle.histories.proofs.Lists.{mapped}
use Rattle.port_pool.specs.declared.pairs.Lease.{Lease}
use Rattle.port_pool.specs.declared.holder.Holder.{Holder}
use Rattle.port_pool.specs.Signals.{NewKey}
use Rattle.offer_answer.specs.Rounds.{OfferAsk}
use Rattle.call_cell.specs.declared.prepare.Prepare as prepared
use Rattle.call_cell.specs.Cells.{since_end, Prepare}
use Rattle.call_cell.specs.Preparations.{PrepareFor, CanCome, added, parts_added}
use Rattle.call_board.specs.Acts.{Offer, BoardEntry}
use Rattle.call_board.specs.Boards.{leases_at}
use Rattle.call_board.specs.Views.{View}
use Rattle.call_board.specs.declared.board_plan.BoardPlan.{BoardPlan}
use Rattle.media_ports.specs.Addresses.{AreLeased}
use Rattle.media_ports.specs.declared.ends.PairEnds.{PairEnds}
use Rattle.relay_core.specs.Entries.{board_history, cell_history, box_of}
use Rattle.relay_core.specs.Legal.{Orderly}
use Rattle.relay_core.specs.Records.{Made}
use Rattle.relay_core.specs.Scripts.{Owed, open_owed, in_cell}
use Rattle.relay_core.specs.Turns.{GainsNested, IsAbove, made_by}
use Rattle.relay_core.proofs.Coming.{offer_can_come}
use Rattle.relay_core.proofs.KeysOnce.{keys_once}
use Rattle.board_turns.specs.InCells.{CanPrepare, HasNewKeys, in_cell_of, preparing}
use Rattle.board_turns.proofs.After.{IsElsewhere, gained_elsewhere, still_new, still_comes}
use Rattle.board_turns.proofs.Nesting.{gains_more}
use Rattle.offer_command.specs.LegBoxes.{leased_parts}
use Rattle.offer_command.specs.Offers.{IsDue, offer_of, bringing_of}
use Rattle.offer_command.proofs.Leased.{ports_of_legs, families_of_legs}

-- the boxes of legs come after the cells
pub not_cell : (config : Config) (cell : ℕ) (legs : List Holder) → cell ≤ config.max_sessions → (w : Owed) → In w (map (open_owed config) legs) → w.place ≡ cell → ⊥
not_cell config cell legs high w i at =
    let m = mapped (open_owed config) legs i in
    let place : box_of config m.from.pair ≡ cell = ap (λ (v : Owed). v.place) m.makes ∙ at in
    omega (arith, place, high)

module _ {M S T : Type 0} {g : _} where
  -- the list gained at other places than the cell
  pub cell_elsewhere : (config : Config) (number moment cell : ℕ) (legs : List Holder) (old new : Hand M S Made T g) → cell ≤ config.max_sessions →
      GainsNested number moment (map (open_owed config) legs) old new → IsElsewhere (made_by old) cell (made_by new)
  cell_elsewhere config number moment cell legs old new high gains =
      gained_elsewhere number moment (map (open_owed config) legs) cell old new gains (not_cell config cell legs high)

  -- its keys are new still
  pub keys_new : (config : Config) (number moment cell : ℕ) (legs : List Holder) (old new : Hand M S Made T g) → Orderly config (made_by old) → cell ≤ config.max_sessions →
      GainsNested number moment (map (open_owed config) legs) old new → HasNewKeys (made_by new) cell
  keys_new config number moment cell legs old new orderly high gains =
      still_new (made_by old) (made_by new) cell (cell_elsewhere config number moment cell legs old new high gains)
      (λ n above. keys_once config (made_by old) orderly cell n)

  -- the offer can come
  pub can_prepare : {I O : Type 0} (config : Config) (number moment : ℕ) (old new : Hand M S Made T g) (id : List ℕ) (ask : OfferAsk) (p : BoardPlan) (draws : List (List ℕ))
      (v : View) (pairs : List ℕ) (signal : prepared.Prepare O) (leases : List Lease) (opened : List (PairEnds I O)) (legs : List Holder) (call cell : ℕ) (keys : List NewKey) (dropped : List ℕ) →
      Orderly config (made_by old) → IsAbove (made_by old) 0 number → config.port_max < 2 ^ 16 → IsDue config (board_history (made_by old) number) id ask p draws →
      cell ≤ config.max_sessions → cell ≡ (offer_of config (board_history (made_by old) number) id ask draws).of.cell →
      call ≡ (offer_of config (board_history (made_by old) number) id ask draws).of.number →
      added signal ≡ (offer_of config (board_history (made_by old) number) id ask draws).legs →
      keys ≡ (offer_of config (board_history (made_by old) number) id ask draws).keys →
      dropped ≡ (offer_of config (board_history (made_by old) number) id ask draws).dropped →
      leases ≡ leases_at config v pairs → AreLeased config leases → parts_added signal ≡ leased_parts leases opened → PrepareFor signal keys dropped →
      GainsNested number moment (map (open_owed config) legs) old new → CanPrepare config (made_by new) cell signal call keys dropped
  can_prepare {I} {O} config number moment old new id ask p draws v pairs signal leases opened legs call cell keys dropped orderly above_board most d high cell_is call_is legs_are keys_are dropped_are is leased parts stands gains =
      still_comes config (made_by old) (made_by new) cell signal call keys dropped (cell_elsewhere config number moment cell legs old new high gains) comes
    where
      h : List BoardEntry
      h = board_history (made_by old) number

      o : Offer
      o = offer_of config h id ask draws

      comes : CanPrepare config (made_by old) cell signal call keys dropped
      comes k above =
          subst (λ (c : ℕ). CanCome config (since_end (cell_history (made_by old) cell k)) signal c keys dropped) (sym call_is)
          (subst (λ (c : ℕ). CanCome config (since_end (cell_history (made_by old) c k)) signal o.of.number keys dropped) (sym cell_is)
          (subst (λ (ks : List NewKey). CanCome config (since_end (cell_history (made_by old) o.of.cell k)) signal o.of.number ks dropped) (sym keys_are)
          (subst (λ (ds : List ℕ). CanCome config (since_end (cell_history (made_by old) o.of.cell k)) signal o.of.number o.keys ds) (sym dropped_are)
          (offer_can_come config (made_by old) orderly number k d.entry o above_board d.fits d.acts (subst (λ (c : ℕ). IsAbove (made_by old) c k) cell_is above) signal legs_are
          (ports_of_legs config v pairs signal leases opened keys dropped is parts stands most leased)
          (families_of_legs config v pairs signal leases opened keys dropped is parts stands)))))

  -- what was opened and prepared is what the offer brings
  pub brought : (config : Config) (number moment : ℕ) (old mid new : Hand M S Made T g) (o : Offer) (legs : List Holder) (call cell : ℕ) (holders : List Holder) (keys : List NewKey) (dropped : List ℕ) →
      legs ≡ o.legs → cell ≡ o.of.cell → call ≡ o.of.number → holders ≡ o.legs → keys ≡ o.keys → dropped ≡ o.dropped →
      GainsNested number moment (map (open_owed config) legs) old mid → GainsNested number moment (in_cell_of cell (preparing call holders keys dropped) ∷ []) mid new →
      GainsNested number moment (bringing_of config o) old new
  brought config number moment old mid new o legs call cell holders keys dropped legs_are cell_is call_is holders_are keys_are dropped_are first second =
      gains_more number moment (map (open_owed config) o.legs) (in_cell o.of (Prepare o.of.number o.legs o.keys o.dropped) ∷ []) old mid new
      (subst (λ (ls : List Holder). GainsNested number moment (map (open_owed config) ls) old mid) legs_are first)
      (subst (λ (w : Owed). GainsNested number moment (w ∷ []) mid new) same second)
    where
      same : in_cell_of cell (preparing call holders keys dropped) ≡ in_cell o.of (Prepare o.of.number o.legs o.keys o.dropped)
      same = ap (λ (c : ℕ). in_cell_of c (preparing call holders keys dropped)) cell_is
          ∙ ap (λ (n : ℕ). in_cell_of o.of.cell (preparing n holders keys dropped)) call_is
          ∙ ap (λ (ls : List Holder). in_cell_of o.of.cell (preparing o.of.number ls keys dropped)) holders_are
          ∙ ap (λ (ks : List NewKey). in_cell_of o.of.cell (preparing o.of.number o.legs ks dropped)) keys_are
          ∙ ap (λ (ds : List ℕ). in_cell_of o.of.cell (preparing o.of.number o.legs o.keys ds)) dropped_are

-- The legs whose sections an offer drops are those that its entry closes, and those that went from its cell.
use Rattle.std.proofs.Common.{◌≡◌, ◌∙◌, refl, sym, ap, subst, ℕ, ◌≤◌, ◌++◌, Bool, true, false, ◌==◌, List, [], ◌∷◌, filter, map, length, append_assoc, arith}
use Rattle.std.specs.Prelude.{◌&&◌}
use Rattle.std.specs.List.{filter_map}
use Rattle.relay_outside.specs.declared.settings.Config.{Config}
use Rattle.turn_table.specs.declared.hands.Hand.{Hand}
use Rattle.histories.specs.Words.{In, has}
use Rattle.histories.proofs.Lists.{equal_if}
use Rattle.port_pool.specs.declared.pairs.Lease.{Lease}
use Rattle.port_pool.specs.declared.holder.Holder.{Holder}
use Rattle.call_cell.specs.Cells.{Prepare, legs, since_end}
use Rattle.offer_answer.specs.Rounds.{Round, OfferAsk}
use Rattle.call_board.specs.Acts as act
use Rattle.call_board.specs.Acts.{Act, Call, Offer, Control, BoardEvent, Turn, Tick, Stop, BoardEntry}
use Rattle.call_board.specs.Calls.{begun, ended_by, ended_by_act}
use Rattle.call_board.specs.Pairs.{held, closed_of}
use Rattle.call_board.specs.Fits.{IsFitting}
use Rattle.call_board.specs.declared.board_plan.BoardPlan.{BoardPlan}
use Rattle.call_board.proofs.Calls.{begun_below, live_begun}
use Rattle.call_board.proofs.Dues.{goes_on_with, begins_new}
use Rattle.call_board.proofs.Held.{held_live}
use Rattle.call_board.proofs.Outs.{closed_of_offer}
use Rattle.relay_core.specs.Entries.{Entry, board_history, cell_history, cell_entry, front, history}
use Rattle.relay_core.specs.Legal.{Orderly}
use Rattle.relay_core.specs.Records.{Made}
use Rattle.relay_core.specs.Scripts.{open_owed, closing, in_cell, closings, script, script_of_act}
use Rattle.relay_core.specs.Turns.{GainsNested, IsAbove, made_by}
use Rattle.relay_core.proofs.Boxes.{below_front}
use Rattle.relay_core.proofs.CallRounds.{no_rounds}
use Rattle.relay_core.proofs.Fronts.{offer_cell_is}
use Rattle.relay_core.proofs.Histories.{good_history}
use Rattle.relay_core.proofs.LegsHeld.{offer_closes}
use Rattle.relay_core.proofs.Rounded.{entries_of}
use Rattle.relay_core.proofs.Turns.{filter_none}
use Rattle.board_turns.specs.Departures.{legs_in, AreLeasesOf, DroppedRemoved}
use Rattle.board_turns.proofs.After.{still}
use Rattle.offer_command.specs.Offers.{IsDue, target_of, offer_of, dropped_legs, bringing_of}
use Rattle.offer_command.proofs.Preparing.{cell_elsewhere}

-- The entry is the turn of a datagram.

abbrev entry_at : ℕ → BoardEvent → BoardEntry
entry_at now event = record { moment = now; event = event }

ends_case : (now : ℕ) (event : BoardEvent) (o : Offer) → act.act (entry_at now event) ≡ act.Offered o → ended_by (entry_at now event) ≡ []
ends_case now (Turn c) o is = ap ended_by_act is
ends_case now (Tick calls) o is = absurd (let e = is in cc)
ends_case now (Stop calls) o is = absurd (let e = is in cc)

-- an accepted offer ends no call
pub ends_none : (e : BoardEntry) (o : Offer) → act.act e ≡ act.Offered o → ended_by e ≡ []
ends_none e o is = ends_case e.moment e.event o is

closed_case : (h : List BoardEntry) (now : ℕ) (event : BoardEvent) (o : Offer) → act.act (entry_at now event) ≡ act.Offered o → closed_of h (entry_at now event) o.of ≡ dropped_legs h o
closed_case h now (Turn c) o is = closed_of_offer h now c o is
closed_case h now (Tick calls) o is = absurd (let e = is in cc)
closed_case h now (Stop calls) o is = absurd (let e = is in cc)

-- it closes the legs of the sections that it drops
pub closed_dropped : (h : List BoardEntry) (e : BoardEntry) (o : Offer) → act.act e ≡ act.Offered o → closed_of h e o.of ≡ dropped_legs h o
closed_dropped h e o is = closed_case h e.moment e.event o is

script_case : (config : Config) (h : List BoardEntry) (now : ℕ) (event : BoardEvent) (o : Offer) → act.act (entry_at now event) ≡ act.Offered o →
    script config h (entry_at now event) ≡ map (open_owed config) o.legs ++ in_cell o.of (Prepare o.of.number o.legs o.keys o.dropped) ∷ closings config h (entry_at now event) o.of
script_case config h now (Turn c) o is = ap (λ (a : Act). script_of_act config h (entry_at now (Turn c)) c a) is
script_case config h now (Tick calls) o is = absurd (let e = is in cc)
script_case config h now (Stop calls) o is = absurd (let e = is in cc)

-- it owes what it brings, and the closes of those legs
pub script_is : (config : Config) (h : List BoardEntry) (e : BoardEntry) (o : Offer) → act.act e ≡ act.Offered o →
    script config h e ≡ bringing_of config o ++ map (closing config) (dropped_legs h o)
script_is config h e o is =
    script_case config h e.moment e.event o is
    ∙ ap (λ (legs : List Holder). map (open_owed config) o.legs ++ in_cell o.of (Prepare o.of.number o.legs o.keys o.dropped) ∷ map (closing config) legs) (closed_dropped h e o is)
    ∙ sym (append_assoc (map (open_owed config) o.legs) (in_cell o.of (Prepare o.of.number o.legs o.keys o.dropped) ∷ []) (map (closing config) (dropped_legs h o)))

-- The legs of its cell.

differs : (a b : ℕ) (c : Bool) → (a ≡ b → ⊥) → (e : Bool) → (a == b) ≡ e → (e && c) ≡ false
differs a b c differ true is = absurd (differ (equal_if a b is))
differs a b c differ false is = refl

not_held : (config : Config) (h : List BoardEntry) (number : ℕ) → IsFitting config h → number ≡ length (begun h) → (leg : Holder) → In leg (held h) → leg.call ≡ number → ⊥
not_held config h number good is leg i same =
    let l = held_live config h leg good i in
    let below = begun_below config h l.of good (live_begun h l.of l.is_live) in
    let call = l.call_is in omega (arith, below, call, is, same)

-- a call that an offer begins has no legs
none_dropped : (config : Config) (h : List BoardEntry) (o : Offer) → IsFitting config h → o.of.number ≡ length (begun h) → dropped_legs h o ≡ []
none_dropped config h o good is =
    filter_none (λ (leg : Holder). (leg.call == o.of.number) && has o.dropped leg.section) (held h)
    (λ leg i. differs leg.call o.of.number (has o.dropped leg.section) (not_held config h o.of.number good is leg i) (leg.call == o.of.number) refl)

cell_case : (config : Config) (l : List Entry) → Orderly config l → (n : ℕ) → IsAbove l 0 n → (id : List ℕ) (ask : OfferAsk) (p : BoardPlan) (draws : List (List ℕ)) →
    IsDue config (board_history l n) id ask p draws → (k : ℕ) → IsAbove l (target_of config (board_history l n) id).of.cell k → (b : Bool) → (target_of config (board_history l n) id).begins ≡ b →
    filter (λ (leg : Holder). has (offer_of config (board_history l n) id ask draws).dropped leg.section) (legs (since_end (cell_history l (target_of config (board_history l n) id).of.cell k)))
    ≡ dropped_legs (board_history l n) (offer_of config (board_history l n) id ask draws)
cell_case config l orderly n above_board id ask p draws d k above false old =
    let h = board_history l n in
    let o = offer_of config h id ask draws in
    sym (offer_closes config l orderly n k d.entry o above_board above (goes_on_with config h id old).is_live d.acts (ends_none d.entry o d.acts)) ∙ closed_dropped h d.entry o d.acts
cell_case config l orderly n above_board id ask p draws d k above true new =
    let h = board_history l n in
    let o = offer_of config h id ask draws in
    let good = good_history config l orderly n in
    let number : o.of.number ≡ length (begun h) = ap (λ (c : Call). c.number) (begins_new config h id new).of_is in
    ap (filter (λ (leg : Holder). has o.dropped leg.section))
    ((offer_cell_is config l orderly n k d.entry o above_board d.fits d.acts above).legs_are
    ∙ ap (λ (rs : List Round). legs (entries_of o.of.number rs)) (no_rounds config h o.of.number good (omega (arith, number))))
    ∙ sym (none_dropped config h o good number)

above_front : (l : List Entry) (place : ℕ) → IsAbove l place (front l place)
above_front l place e i is = below_front l e place i is

module _ {M S T O : Type 0} {g : _} where
  -- what went from its cell are those legs
  pub went_dropped : (config : Config) (number moment cell : ℕ) (holders : List Holder) (old new : Hand M S Made T g) (id : List ℕ) (ask : OfferAsk) (p : BoardPlan) (draws : List (List ℕ))
      (dropped : List ℕ) (gone : List (Lease × O × O)) → Orderly config (made_by old) → IsAbove (made_by old) 0 number → IsDue config (board_history (made_by old) number) id ask p draws →
      cell ≤ config.max_sessions → cell ≡ (target_of config (board_history (made_by old) number) id).of.cell →
      dropped ≡ (offer_of config (board_history (made_by old) number) id ask draws).dropped → GainsNested number moment (map (open_owed config) holders) old new →
      DroppedRemoved config (made_by new) cell dropped gone → AreLeasesOf config gone (dropped_legs (board_history (made_by old) number) (offer_of config (board_history (made_by old) number) id ask draws))
  went_dropped config number moment cell holders old new id ask p draws dropped gone orderly above_board d high cell_is dropped_are gains went =
      subst (λ (ls : List Holder). AreLeasesOf config gone ls) same (went n above)
    where
      h : List BoardEntry
      h = board_history (made_by old) number

      o : Offer
      o = offer_of config h id ask draws

      n : ℕ
      n = front (made_by new) cell

      above : IsAbove (made_by new) cell n
      above = above_front (made_by new) cell

      before : (k : ℕ) → IsAbove (made_by old) cell k → filter (λ (leg : Holder). has o.dropped leg.section) (legs (since_end (filter_map cell_entry (history (made_by old) cell k)))) ≡ dropped_legs h o
      before k high_enough =
          subst (λ (c : ℕ). filter (λ (leg : Holder). has o.dropped leg.section) (legs (since_end (cell_history (made_by old) c k))) ≡ dropped_legs h o) (sym cell_is)
          (cell_case config (made_by old) orderly number above_board id ask p draws d k (subst (λ (c : ℕ). IsAbove (made_by old) c k) cell_is high_enough) (target_of config h id).begins refl)

      same : filter (λ (leg : Holder). has dropped leg.section) (legs_in (made_by new) cell n) ≡ dropped_legs h o
      same = ap (λ (ds : List ℕ). filter (λ (leg : Holder). has ds leg.section) (legs_in (made_by new) cell n)) dropped_are
          ∙ still (λ (es : List Entry). filter (λ (leg : Holder). has o.dropped leg.section) (legs (since_end (filter_map cell_entry es))) ≡ dropped_legs h o)
          (made_by old) (made_by new) cell (cell_elsewhere config number moment cell holders old new high gains) before n above

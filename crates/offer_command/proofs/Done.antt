-- The legs that an offer drops may be closed, and then the turn did what its entry owes.
use Rattle.std.proofs.Common.{◌≡◌, ◌∙◌, refl, sym, ap, subst, ℕ, ◌+◌, ◌<◌, ◌≤◌, ◌⊎◌, inl, inr, Bool, true, false, cond, List, [], ◌∷◌, ◌++◌, map, length, Option, arith}
use Rattle.relay_outside.specs.declared.ports.PortCall.{PortCall}
use Rattle.relay_outside.specs.declared.settings.Config.{Config}
use Rattle.turn_table.specs.declared.hands.Hand.{Hand}
use Rattle.turn_table.specs.Hands.{starts}
use Rattle.histories.specs.Words.{In, here, there, has}
use Rattle.histories.proofs.Lists as lists
use Rattle.histories.proofs.Lists.{in_append, mapped, maps, in_right, it_has}
use Rattle.port_pool.specs.declared.pairs.Lease as pairs
use Rattle.port_pool.specs.declared.holder.Holder.{Holder}
use Rattle.port_pool.specs.Ports.{pair_count}
use Rattle.call_cell.specs.Cells.{Prepare}
use Rattle.offer_answer.specs.Rounds.{Round, OfferAsk, NewLeg, KeyPlace}
use Rattle.offer_answer.specs.Rounds as round
use Rattle.call_board.specs.Acts as act
use Rattle.call_board.specs.Acts.{Act, Call, Offer, BoardEntry}
use Rattle.call_board.specs.Pairs.{free, held, drawn_keys_from, closed_of}
use Rattle.call_board.specs.Fits.{IsFitting, FitsBoard}
use Rattle.call_board.specs.declared.board.Board.{Board}
use Rattle.call_board.specs.declared.board_plan.BoardPlan.{BoardPlan}
use Rattle.call_board.specs.Shapes.{board_shape}
use Rattle.call_board.specs.Views.{View, view_of, view_at_moment, with_leases, with_returned}
use Rattle.call_board.specs.Boards.{BoardMatches, pairs_in}
use Rattle.call_board.specs.Returns.{leg_lease, MayReturnAll}
use Rattle.call_board.specs.Whole.{with_draws, with_first, with_more}
use Rattle.call_board.proofs.Entries.{draws_keep}
use Rattle.call_board.proofs.Free.{front_free, free_not_held, held_below, new_leg_free}
use Rattle.call_board.proofs.Held.{closed_of_held}
use Rattle.call_board.proofs.Outs.{dropped_return, returns_out}
use Rattle.relay_core.specs.Entries.{board_history, box_of}
use Rattle.relay_core.specs.KeptAfter.{IsWholeWith}
use Rattle.relay_core.specs.Legal.{Orderly}
use Rattle.relay_core.specs.Records.{Made}
use Rattle.relay_core.specs.Scripts.{Owed, open_owed, in_cell}
use Rattle.relay_core.specs.declared.part.Part.{Part}
use Rattle.relay_core.specs.Turns.{GainsNested, made_by}
use Rattle.relay_core.proofs.Histories.{good_history}
use Rattle.relay_core.proofs.Holders.{same_box}
use Rattle.media_ports.specs.Addresses.{AreLeased}
use Rattle.media_ports.specs.OpenPorts.{LogsHeld}
use Rattle.board_turns.specs.Departures.{AreLeasesOf}
use Rattle.board_turns.specs.NestedSteps.{IsTurnOpen}
use Rattle.board_turns.specs.declared.board_turn.BoardEntryId.{BoardEntryId}
use Rattle.board_turns.proofs.Nesting.{gains_more}
use Rattle.board_turns.specs.Acts.{DoesAct, acted}
use Rattle.board_turns.specs.Closings.{CanClose, leases_of_legs, closings_of, pairs_left}
use Rattle.board_turns.specs.CallEnds.{leg_pairs}
use Rattle.board_turns.proofs.Closed.{still_open}
use Rattle.board_turns.proofs.Ended.{may_return_alike, may_be_leased, pairs_are, closings_are}
use Rattle.board_turns.proofs.Lefts.{told_alike}
use Rattle.board_turns.proofs.TakenPairs.{held_open}
use Rattle.offer_command.specs.Offers.{IsDue, demand_of, pairs_for, offer_of, dropped_legs, bringing_of, leased_view, with_offer}
use Rattle.offer_command.proofs.Targets.{cell_within}
use Rattle.offer_command.proofs.Dropped.{closed_dropped, script_is}
use Rattle.offer_command.proofs.Kept.{held_after}
use Rattle.offer_command.proofs.Taken.{pairs_of_legs}

-- What an offer changes of the free pairs and of the leases.

offer_free : (b : Bool) (of : Call) (made : Round) (now : ℕ) (v : View) → (cond b (with_first of made now v) (with_more of made now v)).free ≡ v.free
offer_free true of made now v = refl
offer_free false of made now v = refl

offer_leases : (b : Bool) (of : Call) (made : Round) (now : ℕ) (v : View) → (cond b (with_first of made now v) (with_more of made now v)).leases ≡ v.leases
offer_leases true of made now v = refl
offer_leases false of made now v = refl

-- the closed legs may be given back, once the offer was taken in
may_return : (config : Config) (h : List BoardEntry) (e : BoardEntry) (o : Offer) (moment now : ℕ) (leased : List ℕ) (keys : ℕ) → IsFitting config h → act.act e ≡ act.Offered o → ((p : ℕ) → In p leased → In p (free config h)) →
    MayReturnAll config (with_offer o now (leased_view config h moment leased keys)) (map (leg_lease config) (dropped_legs h o))
may_return config h e o moment now leased keys good acts were_free =
    let v = with_leases (view_at_moment (view_of config h) moment) leased in
    let drawn = draws_keep v keys in
    let made : Round = round.Offered o.ask o.legs o.keys in
    subst (λ (legs : List Holder). MayReturnAll config (with_offer o now (with_draws v keys)) (map (leg_lease config) legs)) (closed_dropped h e o acts)
    (dropped_return config h e o.of (with_offer o now (with_draws v keys)) leased good were_free
    (offer_free o.begins o.of made now (with_draws v keys) ∙ drawn.free_is)
    (offer_leases o.begins o.of made now (with_draws v keys) ∙ drawn.leases_are))

-- the legs that went, which are those that it drops, had leases of different pairs
pub dropped_leased : {O : Type 0} (config : Config) (h : List BoardEntry) (e : BoardEntry) (o : Offer) (gone : List (pairs.Lease × O × O)) → IsFitting config h → act.act e ≡ act.Offered o →
    AreLeasesOf config gone (dropped_legs h o) → AreLeased config (leases_of_legs gone)
dropped_leased config h e o gone good acts went =
    let v = with_offer o 0 (leased_view config h 0 [] 0) in
    may_be_leased config v (leases_of_legs gone) (may_return_alike config v gone (dropped_legs h o) went (may_return config h e o 0 0 [] 0 good acts (λ p i. elim i [ ])))

-- The boxes of dropped legs.

bringing_case : (config : Config) (h : List BoardEntry) (e : BoardEntry) (o : Offer) (leg : Holder) → IsFitting config h → FitsBoard config h e → act.act e ≡ act.Offered o → o.of.cell ≤ config.max_sessions →
    In leg (held h) → (w : Owed) → In w (map (open_owed config) o.legs) ⊎ In w (in_cell o.of (Prepare o.of.number o.legs o.keys o.dropped) ∷ []) → w.place ≡ box_of config leg.pair → ⊥
bringing_case config h e o leg good fits acts high i w (inl j) at =
    let m = mapped (open_owed config) o.legs j in
    let place : box_of config m.from.pair ≡ box_of config leg.pair = ap (λ (v : Owed). v.place) m.makes ∙ at in
    free_not_held config h m.from.pair leg (new_leg_free config h e o m.from fits acts m.is_in) i (sym (same_box config m.from.pair leg.pair place))
bringing_case config h e o leg good fits acts high i w (inr (here q)) at =
    let place : o.of.cell ≡ box_of config leg.pair = sym (ap (λ (v : Owed). v.place) q) ∙ at in
    omega (arith, place, high)
bringing_case config h e o leg good fits acts high i w (inr (there j)) at = elim j [ ]

-- what the offer brings leaves the box of a held leg
bringing_elsewhere : (config : Config) (h : List BoardEntry) (e : BoardEntry) (o : Offer) (leg : Holder) → IsFitting config h → FitsBoard config h e → act.act e ≡ act.Offered o → o.of.cell ≤ config.max_sessions →
    In leg (held h) → (w : Owed) → In w (bringing_of config o) → w.place ≡ box_of config leg.pair → ⊥
bringing_elsewhere config h e o leg good fits acts high i w j at =
    bringing_case config h e o leg good fits acts high i w (in_append (map (open_owed config) o.legs) (in_cell o.of (Prepare o.of.number o.legs o.keys o.dropped) ∷ []) j) at

module _ {M I O T : Type 0} {g : _} where
  -- the dropped legs may be closed
  pub can_close : (config : Config) (number moment : ℕ) (old new : Hand M (Part I O) Made T g) (before after : Board) (log : Option (List PortCall)) (id : List ℕ) (ask : OfferAsk)
      (p : BoardPlan) (draws : List (List ℕ)) (leased : List ℕ) (keys : ℕ) (gone : List (pairs.Lease × O × O)) → Orderly config (made_by old) →
      IsWholeWith config old (board_shape before) → BoardMatches config before (view_at_moment (view_of config (board_history (made_by old) number)) moment) → starts new ≡ starts old →
      IsDue config (board_history (made_by old) number) id ask p draws →
      leased ≡ pairs_for config (board_history (made_by old) number) id ask →
      GainsNested number moment (bringing_of config (offer_of config (board_history (made_by old) number) id ask draws)) old new →
      AreLeasesOf config gone (dropped_legs (board_history (made_by old) number) (offer_of config (board_history (made_by old) number) id ask draws)) →
      BoardMatches config after (with_offer (offer_of config (board_history (made_by old) number) id ask draws) moment (leased_view config (board_history (made_by old) number) moment leased keys)) →
      LogsHeld config log (leg_pairs (offer_of config (board_history (made_by old) number) id ask draws).legs ++ leg_pairs (held (board_history (made_by old) number))) →
      CanClose config new after log gone
  can_close config number moment old new before after log id ask p draws leased keys gone orderly whole shown same_starts d leased_are gains went shows opens = record {
    out = returns_out config after (with_offer o moment (leased_view config h moment leased keys)) (leases_of_legs gone) shows
        (may_return_alike config (with_offer o moment (leased_view config h moment leased keys)) gone (dropped_legs h o) went
        (may_return config h d.entry o moment moment leased keys good d.acts (λ p i. front_free config h (demand_of config h id ask).pairs p (subst (In p) leased_are i))));
    of_range = λ pair i. subst (λ (q : ℕ). q < pair_count config) (its pair i).makes (held_below config h (its pair i).from good (was_held (its pair i).from (its pair i).is_in));
    boxes_open = λ pair i. subst (λ (q : ℕ). IsTurnOpen config new q) (its pair i).makes
        (still_open config number moment (its pair i).from.pair (bringing_of config o) old new same_starts gains
        (bringing_elsewhere config h d.entry o (its pair i).from good d.fits d.acts high (was_held (its pair i).from (its pair i).is_in))
        (held_open config old before (view_at_moment (view_of config h) moment) h (its pair i).from whole shown refl good (was_held (its pair i).from (its pair i).is_in)));
    held = leg_pairs o.legs ++ leg_pairs (held h);
    opens = opens;
    are_held = λ pair i. it_has pair (leg_pairs o.legs ++ leg_pairs (held h)) (in_right (leg_pairs o.legs) (leg_pairs (held h))
        (subst (λ (q : ℕ). In q (leg_pairs (held h))) (its pair i).makes (maps (λ (leg : Holder). leg.pair) (held h) (was_held (its pair i).from (its pair i).is_in))));
  }
    where
      h : List BoardEntry
      h = board_history (made_by old) number

      o : Offer
      o = offer_of config h id ask draws

      good : IsFitting config h
      good = good_history config (made_by old) orderly number

      high : o.of.cell ≤ config.max_sessions
      high = (cell_within config h id ask p draws good d).1

      its : (pair : ℕ) → In pair (pairs_in (leases_of_legs gone)) → lists.Made (λ (leg : Holder). leg.pair) pair (dropped_legs h o)
      its pair i = mapped (λ (leg : Holder). leg.pair) (dropped_legs h o) (subst (λ (ps : List ℕ). In pair ps) (pairs_are config gone (dropped_legs h o) went) i)

      closes : (leg : Holder) → In leg (dropped_legs h o) → In leg (closed_of h d.entry o.of)
      closes leg i = subst (λ (ls : List Holder). In leg ls) (sym (closed_dropped h d.entry o d.acts)) i

      was_held : (leg : Holder) → In leg (dropped_legs h o) → In leg (held h)
      was_held leg i = (closed_of_held h d.entry o.of leg (closes leg i)).0

-- What the board keeps.

pub keys_length : (n : ℕ) (draws : List (List ℕ)) (places : List KeyPlace) → length draws ≡ length places → length (drawn_keys_from n draws places) ≡ length draws
keys_length n [] places same = refl
keys_length n (bytes ∷ draws) [] same = absurd (let e = same in omega (arith, e))
keys_length n (bytes ∷ draws) (place ∷ places) same = let rest = keys_length (n + 1) draws places (let e = same in omega (arith, e)) in omega (arith, rest)

pub shows_acted : (config : Config) (h : List BoardEntry) (id : List ℕ) (ask : OfferAsk) (draws : List (List ℕ)) (moment : ℕ) (leased : List ℕ) (keys : ℕ) (board : Board) (e : BoardEntry) (pairs : List ℕ) →
    act.act e ≡ act.Offered (offer_of config h id ask draws) → e.moment ≡ moment → pairs_for config h id ask ≡ leased → length (offer_of config h id ask draws).keys ≡ keys →
    pairs ≡ leg_pairs (dropped_legs h (offer_of config h id ask draws)) →
    BoardMatches config board (with_returned (with_offer (offer_of config h id ask draws) moment (leased_view config h moment leased keys)) pairs) →
    BoardMatches config board (acted h e (act.act e) (view_at_moment (view_of config h) moment))
shows_acted config h id ask draws moment leased keys board e pairs acts now leased_are keys_count closed shows =
    subst (λ (w : View). BoardMatches config board w) (sym same) shows
  where
    o : Offer
    o = offer_of config h id ask draws

    v : View
    v = view_at_moment (view_of config h) moment

    taken : ℕ → List ℕ → ℕ → View
    taken m ps k = with_offer o m (with_draws (with_leases v ps) k)

    same : acted h e (act.act e) v ≡ with_returned (with_offer o moment (leased_view config h moment leased keys)) pairs
    same =
        ap (λ (a : Act). acted h e a v) acts
        ∙ ap (λ (m : ℕ). with_returned (taken m (leg_pairs o.legs) (length o.keys)) (leg_pairs (closed_of h e o.of))) now
        ∙ ap (λ (ps : List ℕ). with_returned (taken moment ps (length o.keys)) (leg_pairs (closed_of h e o.of))) (pairs_of_legs config h id ask draws ∙ leased_are)
        ∙ ap (λ (k : ℕ). with_returned (taken moment leased k) (leg_pairs (closed_of h e o.of))) keys_count
        ∙ ap (λ (legs : List Holder). with_returned (taken moment leased keys) (leg_pairs legs)) (closed_dropped h e o acts)
        ∙ ap (with_returned (taken moment leased keys)) (sym closed)

-- What the turn did.

module _ {M I O T : Type 0} {g : _} where
  pub does_offer : (config : Config) (old mid new : Hand M (Part I O) Made T g) (entry_id : BoardEntryId) (e : BoardEntry) (board : Board) (log : Option (List PortCall)) (id : List ℕ)
      (ask : OfferAsk) (draws : List (List ℕ)) (leased : List ℕ) (keys : ℕ) (gone : List (pairs.Lease × O × O)) → Orderly config (made_by old) →
      FitsBoard config (board_history (made_by old) entry_id.number) e → act.act e ≡ act.Offered (offer_of config (board_history (made_by old) entry_id.number) id ask draws) → e.moment ≡ entry_id.moment →
      pairs_for config (board_history (made_by old) entry_id.number) id ask ≡ leased → length (offer_of config (board_history (made_by old) entry_id.number) id ask draws).keys ≡ keys →
      AreLeasesOf config gone (dropped_legs (board_history (made_by old) entry_id.number) (offer_of config (board_history (made_by old) entry_id.number) id ask draws)) →
      GainsNested entry_id.number entry_id.moment (bringing_of config (offer_of config (board_history (made_by old) entry_id.number) id ask draws)) old mid →
      GainsNested entry_id.number entry_id.moment (closings_of config gone) mid new →
      BoardMatches config board (with_returned (with_offer (offer_of config (board_history (made_by old) entry_id.number) id ask draws) entry_id.moment
      (leased_view config (board_history (made_by old) entry_id.number) entry_id.moment leased keys)) (pairs_in (leases_of_legs gone))) →
      LogsHeld config log (pairs_left (pairs_in (leases_of_legs gone)) (leg_pairs (offer_of config (board_history (made_by old) entry_id.number) id ask draws).legs
      ++ leg_pairs (held (board_history (made_by old) entry_id.number)))) →
      DoesAct config old new entry_id e board log
  does_offer config old mid new entry_id e board log id ask draws leased keys gone orderly fits acts now leased_are keys_count went brings closes shows opens = record {
    gained = subst (λ (ws : List Owed). GainsNested entry_id.number entry_id.moment ws old new)
        (ap (λ (ws : List Owed). bringing_of config o ++ ws) (closings_are config gone (dropped_legs h o) went) ∙ sym (script_is config h e o acts))
        (gains_more entry_id.number entry_id.moment (bringing_of config o) (closings_of config gone) old mid new brings closes);
    shows = shows_acted config h id ask draws entry_id.moment leased keys board e (pairs_in (leases_of_legs gone)) acts now leased_are keys_count closed shows;
    opens = told_alike config log (pairs_left (pairs_in (leases_of_legs gone)) (leg_pairs o.legs ++ leg_pairs (held h))) (leg_pairs (held (e ∷ h)))
        (λ q. ap (λ (ps : List ℕ). has (pairs_left ps (leg_pairs o.legs ++ leg_pairs (held h))) q) closed
        ∙ held_after config h e o (good_history config (made_by old) orderly entry_id.number) fits acts q) opens;
  }
    where
      h : List BoardEntry
      h = board_history (made_by old) entry_id.number

      o : Offer
      o = offer_of config h id ask draws

      closed : pairs_in (leases_of_legs gone) ≡ leg_pairs (dropped_legs h o)
      closed = pairs_are config gone (dropped_legs h o) went

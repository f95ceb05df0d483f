-- The board's turn, from the main hand that takes it to the main hand that has put it.
use Rattle.std.proofs.Common.{◌≡◌, ◌≢◌, refl, sym, ◌∙◌, ap, subst, ℕ, zero, suc, ◌+◌, ◌<◌, ◌≤◌, ◌^◌, ◌⊎◌, inl, inr, Bool, true, false, eqb, eqb-true, List, [], ◌∷◌, ◌++◌, Option, Some, filter, length, max, arith}
use Rattle.std.specs.Prelude.{◌==◌}
use Rattle.std.proofs.lemmas.Bool.{eqb-false}
use Rattle.std.specs.List.{filter_map}
use Rattle.relay_outside.specs.declared.ports.InCall.{InCall}
use Rattle.relay_outside.specs.declared.ports.OutCall.{OutCall}
use Rattle.relay_outside.specs.declared.ports.PortCall.{PortCall}
use Rattle.relay_outside.specs.declared.settings.Config.{Config}
use Rattle.relay_outside.specs.DeviceLogs.{EndLog}
use Rattle.turn_table.specs.declared.machine.Entry as table
use Rattle.turn_table.specs.declared.hands.Turns.{Turns}
use Rattle.turn_table.specs.declared.hands.Hand.{Hand}
use Rattle.turn_table.specs.declared.hands.Turn.{Turn}
use Rattle.turn_table.specs.Hands.{IsSameHand, SameTurns, SameTurnsBut, MayTurn, HasPlace, LacksPlace, HasTurn, IsGiven, GainsTurn, EndsTurn, place_of, front_of, state_of, taken_of, view, entries, starts}
use Rattle.turn_table.specs.Steps.{entry}
use Rattle.histories.specs.Words.{In, here, there, greatest}
use Rattle.histories.proofs.Lists.{maps, keeps}
use Rattle.call_board.specs.declared.board.Board as board
use Rattle.call_board.specs.Acts.{BoardEvent, BoardEntry}
use Rattle.call_board.specs.Boards.{BoardMatches, BoardFor}
use Rattle.call_board.specs.Fits.{FitsBoard}
use Rattle.call_board.specs.Futures.{closed_pairs}
use Rattle.call_board.specs.Pairs.{held}
use Rattle.call_board.specs.Views.{View, view_of, view_at_moment, board_last_moment}
use Rattle.call_board.specs.Shapes.{BoardShape, board_shape}
use Rattle.relay_core.specs.PartShapes.{board_shape_in}
use Rattle.relay_core.specs.declared.part.Part.{Part}
use Rattle.relay_core.specs.declared.part.Part.TheVariants as part
use Rattle.relay_core.specs.Entries.{Event, Board, Entry, is_at, history, board_at, board_entry, board_history, front}
use Rattle.relay_core.specs.Legal.{Orderly}
use Rattle.relay_core.specs.Records.{Made, entry_of, list_of, moment_of}
use Rattle.relay_core.specs.Steps.{board_made, BoardSteps, Relates, IsReserved}
use Rattle.relay_core.specs.FirstPlaces.{AreParts}
use Rattle.relay_core.specs.WholeParts.{AreWholeParts}
use Rattle.relay_core.specs.KeptAfter.{IsWholeWith, IsWholeNow}
use Rattle.relay_core.specs.ReturnedPairs.{is_boards}
use Rattle.relay_core.specs.Scripts.{Owed, owed_by, script}
use Rattle.relay_core.specs.PlaceHistories.{BoardIs}
use Rattle.relay_core.specs.Joins.{IsSound}
use Rattle.relay_core.specs.Turns.{Numbered, IsAbove, IsTurn, GainedOwed, GainsNested, made_by}
use Rattle.relay_core.proofs.Elsewhere.{owed_elsewhere}
use Rattle.relay_core.proofs.Histories.{at_place, good_history}
use Rattle.relay_core.proofs.Turns.{filter_none, false_if, same_board}
use Rattle.relay_core.proofs.Boards.{le_or_eq}
use Rattle.relay_core.proofs.Given.{given_board}
use Rattle.relay_core.proofs.Gains.{turn_made}
use Rattle.relay_core.proofs.Known.{IsKnown, known_sound, known_turn}
use Rattle.relay_core.proofs.Stepping.{steps_for_all}
use Rattle.media_ports.specs.OpenPorts.{LogsHeld}
use Rattle.board_turns.specs.declared.board_turn.BoardEntryId.{BoardEntryId}
use Rattle.board_turns.specs.NestedSteps.{MayNest}
use Rattle.board_turns.proofs.Nesting.{parts_count, above_rows, same_again}
use Rattle.board_turns.specs.Acts.{InTurn}
use Rattle.board_turns.specs.Between.{board_of, IsBetween, MakesTurn}
use Rattle.board_turns.specs.CallEnds.{leg_pairs}
use Rattle.board_turns.proofs.Closed.{list_gained}
use Rattle.board_turns.proofs.Wholeness.{same_shape, begins_with, ends_with}

-- The board's whole history.

none_here : (l : List Entry) (n : ℕ) → ((e : Entry) → In e l → e.place ≡ 0 → e.number ≡ n → ⊥) → filter (is_at 0 n) l ≡ []
none_here l n none =
    filter_none (is_at 0 n) l (λ e i. false_if (is_at 0 n e) (λ t. let a = at_place 0 n e t in none e i a.0 a.1))

steady_case : (l : List Entry) (f n : ℕ) → IsAbove l 0 f → (f ≤ n → board_history l n ≡ board_history l f) → (f < suc n) ⊎ (f ≡ suc n)
    → board_history l (suc n) ≡ board_history l f
steady_case l f n above rest (inl low) =
    ap (λ (xs : List Entry). filter_map board_entry (xs ++ history l 0 n))
    (none_here l n (λ e i p q. let h = above e i p in omega (arith, h, q, low)))
    ∙ rest (omega (arith, low))
steady_case l f n above rest (inr q) = ap (board_history l) (sym q)

-- numbers above all of the board's have one history
steady : (l : List Entry) (f n : ℕ) → IsAbove l 0 f → f ≤ n → board_history l n ≡ board_history l f
steady l f zero above low = let q : f ≡ 0 = omega (arith, low) in ap (board_history l) (sym q)
steady l f (suc n) above low = steady_case l f n above (steady l f n above) (le_or_eq f n low)

in_greatest : (x : ℕ) (xs : List ℕ) → In x xs → x ≤ greatest xs
in_greatest x [] i = elim i [ ]
in_greatest x (y ∷ ys) (here q) = omega (arith, q)
in_greatest x (y ∷ ys) (there i) = let rest = in_greatest x ys i in omega (arith, rest)

at_zero : (e : Entry) → e.place ≡ 0 → (e.place == 0) ≡ true
at_zero e p = ap (λ (k : ℕ). k == 0) p

above_front : (l : List Entry) → IsAbove l 0 (front l 0)
above_front l e i p =
    let j = keeps (λ (x : Entry). x.place == 0) l i (at_zero e p) in
    let k = in_greatest (e.number + 1) _ (maps (λ (x : Entry). x.number + 1) (filter (λ (x : Entry). x.place == 0) l) j) in
    omega (arith, k)

-- so each front of the board's gives its whole history
pub whole_board : (l : List Entry) (n : ℕ) → IsAbove l 0 n → board_history l n ≡ board_of l
whole_board l n above =
    let f = front l 0 in
    sym (steady l n (n + f) above (omega arith)) ∙ steady l f (n + f) (above_front l) (omega arith)

-- What the main hand knows is enough for the close.
module _ {M I O T : Type 0} {g : _} where
  -- what is known of a hand between turns is known of its rows
  pub between_known : (config : Config) (turns : Turns M (Part I O) Made T) (hand : Hand M (Part I O) Made T g) → IsBetween config turns hand
      → IsKnown config (entries hand)
  between_known config turns hand b = record { orderly = b.orderly; handed = b.handed; returned = b.returned; receiving = b.receiving }

  pub between_sound : (config : Config) (turns : Turns M (Part I O) Made T) (hand : Hand M (Part I O) Made T g) → IsBetween config turns hand
      → IsSound config (entries hand)
  between_sound config turns hand b = known_sound config (entries hand) (between_known config turns hand b)

-- The turn is taken.

module _ {M I O T : Type 0} {g : _} where
  -- what is known when the main hand has just taken the board's turn
  pub record Begins (config : Config) (turns : Turns M (Part I O) Made T) (hand : Hand M (Part I O) Made T g) (turn : Turn M (Part I O) Made T) : Type 0 where
    pub may : MayNest config turns hand
    pub above : IsAbove (made_by hand) 0 (front_of turn)
    pub low : front_of turn < 2 ^ 56
    pub has : HasTurn hand turn
    pub at_board : place_of turn ≡ 0
    pub untouched : taken_of turn ≡ state_of turn
    pub orderly : Orderly config (made_by hand)
    pub whole : (b : board.Board) → state_of turn ≡ part.Board b → IsWholeWith config hand (board_shape b)
    pub board : BoardIs config (state_of turn) (board_history (made_by hand) (front_of turn))

  -- the board's turn may be taken
  pub between_may : (config : Config) (turns : Turns M (Part I O) Made T) (hand : Hand M (Part I O) Made T g) → IsBetween config turns hand → MayTurn hand 0
  between_may config turns hand b =
      let count = parts_count config (starts hand) b.parts in
      (omega (arith, count), λ j has. absurd (has (b.idle j)))

module _ {M I O T : Type 0} {g : _} (it : I → EndLog InCall) (ic : I → ℕ) (ot : O → EndLog OutCall) (oc : O → ℕ) where
  pub turn_begins : (config : Config) (turns : Turns M (Part I O) Made T) (old mid : Hand M (Part I O) Made T g) (turn : Turn M (Part I O) Made T)
      → IsBetween config turns old → IsSameHand old mid × (entries mid ≡ entries old)
      → GainsTurn 0 turn old mid × IsGiven (λ (a : Part I O) (m : Made) (o : T) (b : Part I O). Relates it ic ot oc a m b) IsReserved old 0 (front_of turn) (state_of turn)
      → Begins config turns mid turn
  turn_begins config turns old mid turn b same given = record {
    may = record {
      of_table = same.0.0 ∙ b.of_table;
      main = same.0.3 ∙ b.main;
      alone = λ k has. alone k (eqb k 0) refl has;
      parts = subst (λ (l : List (Part I O)). AreParts config l) (sym same.0.1) b.parts;
      whole_parts = subst (λ (l : List (Part I O)). AreWholeParts config l) (sym same.0.1) b.whole_parts;
      numbered = subst (λ (rows : List (table.Entry Made T)). Numbered (list_of rows)) (sym same.1) b.numbered;
    };
    above = subst (λ (rows : List (table.Entry Made T)). IsAbove (list_of rows) 0 (front_of turn)) (sym same.1)
        (above_rows (entries old) 0 (front_of turn) given.1.above);
    low = given.0.2;
    has = given.0.4;
    at_board = given.0.0;
    untouched = given.0.1;
    orderly = subst (λ (rows : List (table.Entry Made T)). Orderly config (list_of rows)) (sym same.1) b.orderly;
    board = subst (λ (rows : List (table.Entry Made T)). BoardIs config (state_of turn) (board_history (list_of rows) (front_of turn))) (sym same.1)
        (given_board it ic ot oc config (view old) (front_of turn) (state_of turn) b.parts given.1 b.main b.orderly b.returned);
    whole = λ now is. begins_with it ic ot oc config old mid (front_of turn) (state_of turn) now same given.1 b.main b.whole_parts b.whole is;
  }
    where
      alone : (k : ℕ) (t : Bool) → eqb k 0 ≡ t → HasPlace mid k → k ≡ 0
      alone k true q has = eqb-true k 0 q
      alone k false q has = absurd (has (given.0.5 k (eqb-false k 0 q) ∙ b.idle k))

-- The history that the turn stands on is the whole one before it.

module _ {M I O T : Type 0} {g : _} where
  pub begins_whole : (config : Config) (turns : Turns M (Part I O) Made T) (old mid : Hand M (Part I O) Made T g) (turn : Turn M (Part I O) Made T)
      → entries mid ≡ entries old → Begins config turns mid turn → board_history (made_by mid) (front_of turn) ≡ board_of (made_by old)
  begins_whole config turns old mid turn same begins =
      whole_board (made_by mid) (front_of turn) begins.above ∙ ap (λ (rows : List (table.Entry Made T)). board_of (list_of rows)) same

  -- nested entries of a turn change nothing of it
  pub nested_history : (config : Config) (mid nested : Hand M (Part I O) Made T g) (number moment n : ℕ) (e : BoardEntry) → Orderly config (made_by mid)
      → FitsBoard config (board_history (made_by mid) number) e
      → GainsNested number moment (script config (board_history (made_by mid) number) e) mid nested
      → board_history (made_by nested) n ≡ board_history (made_by mid) n
  nested_history config mid nested number moment n e orderly fits gains =
      let h = board_history (made_by mid) number in
      ap (λ (l : List Entry). board_history l n) (list_gained number moment (script config h e) mid nested gains)
      ∙ same_board (made_by mid) (list_of gains.rows) n
      (λ x i p m. absurd ((owed_elsewhere config h e (owed_by x) (good_history config (made_by mid) orderly number) fits
      (subst (λ (ws : List Owed). In (owed_by x) ws) gains.gained.owes (maps owed_by (list_of gains.rows) i))).1 p))

-- The board's moment.

max_again : (a b : ℕ) → max (max a b) b ≡ max a b
max_again a b = omega arith

-- an advanced board shows the moment of the turn
pub at_turn : (config : Config) (h : List BoardEntry) (new : board.Board) (now moment : ℕ) → moment ≡ max now (board_last_moment h)
    → BoardMatches config new (view_at_moment (view_of config h) now) → BoardMatches config new (view_at_moment (view_of config h) moment)
at_turn config h new now moment is shows =
    let v = view_of config h in
    let same : max now v.moment ≡ max moment v.moment = sym (max_again now v.moment) ∙ ap (λ (m : ℕ). max m v.moment) (sym is) in
    subst (λ (m : ℕ). BoardMatches config new (record { moment = m; begun = v.begun; drawn = v.drawn; calls = v.calls; free = v.free; leases = v.leases; keepings = v.keepings })) same shows

-- advanced to no later moment it shows the last one
pub at_last : (config : Config) (h : List BoardEntry) (new : board.Board) → BoardMatches config new (view_at_moment (view_of config h) 0) → BoardFor config new h
at_last config h new shows =
    let v = view_of config h in
    let same : max 0 v.moment ≡ v.moment = omega arith in
    subst (λ (m : ℕ). BoardMatches config new (record { moment = m; begun = v.begun; drawn = v.drawn; calls = v.calls; free = v.free; leases = v.leases; keepings = v.keepings })) same shows

module _ {M I O T : Type 0} {g : _} where
  -- A datagram's turn was taken and its board advanced to the moment of the turn
  pub in_turn : (config : Config) (turns : Turns M (Part I O) Made T) (old mid : Hand M (Part I O) Made T g) (turn : Turn M (Part I O) Made T) (entry_id : BoardEntryId)
      (was now : board.Board) (handed : ℕ) (log : Option (List PortCall)) → entries mid ≡ entries old → Begins config turns mid turn
      → entry_id.number ≡ front_of turn → state_of turn ≡ part.Board was
      → ((config : Config) (v : View) → BoardMatches config was v → BoardMatches config now (view_at_moment v handed) × (entry_id.moment ≡ max handed v.moment))
      → board_shape now ≡ board_shape was → LogsHeld config log (leg_pairs (held (board_of (made_by old)))) → InTurn config turns mid entry_id now log
  in_turn config turns old mid turn entry_id was now handed log same begins number_is state_is advanced shape_is opens =
      let n = front_of turn in
      let h = board_history (made_by mid) n in
      let stood : BoardIs {I = I} {O = O} config (part.Board was) h = subst (λ (x : Part I O). BoardIs config x h) state_is begins.board in
      let a = advanced config (view_of config h) stood.1 in
      let moment : entry_id.moment ≡ max handed (board_last_moment h) = a.1 in
      let whole = begins_whole config turns old mid turn same begins in
      let q : n ≡ entry_id.number = sym number_is in
      record {
        may = begins.may;
        above = subst (λ (k : ℕ). IsAbove (made_by mid) 0 k) q begins.above;
        low = subst (λ (k : ℕ). k < 2 ^ 56) q begins.low;
        orderly = begins.orderly;
        timely = subst (λ (k : ℕ). board_last_moment (board_history (made_by mid) k) ≤ entry_id.moment) q (omega (arith, moment));
        shows = subst (λ (k : ℕ). BoardMatches config now (view_at_moment (view_of config (board_history (made_by mid) k)) entry_id.moment)) q
            (at_turn config h now handed entry_id.moment moment a.0);
        opens = subst (λ (k : ℕ). LogsHeld config log (leg_pairs (held (board_history (made_by mid) k)))) q
            (subst (λ (l : List BoardEntry). LogsHeld config log (leg_pairs (held l))) (sym whole) opens);
        whole = same_shape config mid was now shape_is (begins.whole was state_is);
      }

-- The turn is put.

-- The board that was taken relates to the new one by a step that is right after the history that it stands for, and that records the pairs
-- of the legs which it closes then
pub relates_put : {I O : Type 0} (it : I → EndLog InCall) (ic : I → ℕ) (ot : O → EndLog OutCall) (oc : O → ℕ)
    (config : Config) (h : List BoardEntry) (old new : Part I O) (made : Made) (event : BoardEvent) → made.event ≡ Board event → closed_pairs h (board_made made event) ≡ made.returned
    → made.kept ≡ board_shape_in new → BoardIs config old h → made.moment ≡ moment_of (Board event) made.handed (board_last_moment h) → FitsBoard config h (board_made made event)
    → BoardIs config new (board_made made event ∷ h) → Relates it ic ot oc old made new
relates_put it ic ot oc config h (part.Board old) (part.Board new) made event is gives kept was moment fits stands =
    subst (λ (v : Event). BoardSteps old made v new) (sym is)
    (steps_for_all config h old new made event was gives kept (record { moment_is = moment; fits = fits; stands = stands.1 }))
relates_put it ic ot oc config h (part.Board old) (part.Cell new) made event is gives kept was moment fits stands = absurd stands
relates_put it ic ot oc config h (part.Board old) (part.Pair new) made event is gives kept was moment fits stands = absurd stands
relates_put it ic ot oc config h (part.Cell old) new made event is gives kept was moment fits stands = absurd was
relates_put it ic ot oc config h (part.Pair old) new made event is gives kept was moment fits stands = absurd was

module _ {M I O T : Type 0} {g : _} where
  -- the hand still has the turn when it has made nested steps
  pub still_has : (mid nested : Hand M (Part I O) Made T g) (turn : Turn M (Part I O) Made T) → IsSameHand mid nested × SameTurns mid nested → HasTurn mid turn
      → HasTurn nested turn
  still_has mid nested turn same has =
      (subst (λ (l : List (Part I O)). place_of turn < length l) (sym same.0.1) has.0, same.1 (place_of turn) ∙ has.1)

  -- what is known when the board's turn was put with an entry whose nested entries the list has gained
  pub record Ended (config : Config) (turns : Turns M (Part I O) Made T) (old new : Hand M (Part I O) Made T g) (e : BoardEntry) : Type 0 where
    pub between : IsBetween config turns new
    pub makes : MakesTurn config old new e
    pub same : IsSameHand old new

  module _ (config : Config) (turns : Turns M (Part I O) Made T) (old mid nested new : Hand M (Part I O) Made T g) (turn : Turn M (Part I O) Made T)
      (made : Made) (outcome : T) (event : BoardEvent) (moment : ℕ)
      (b : IsBetween config turns old) (same : IsSameHand old mid × (entries mid ≡ entries old)) (turned : GainsTurn 0 turn old mid)
      (above : IsAbove (made_by mid) 0 (front_of turn)) (sames : IsSameHand mid nested × SameTurns mid nested)
      (gains : GainsNested (front_of turn) moment (script config (board_history (made_by mid) (front_of turn)) (board_made made event)) mid nested)
      (is_event : made.event ≡ Board event) (gives : closed_pairs (board_history (made_by mid) (front_of turn)) (board_made made event) ≡ made.returned) (is_moment : moment ≡ made.moment)
      (fits : FitsBoard config (board_history (made_by mid) (front_of turn)) (board_made made event))
      (again : IsSameHand nested new) (ended : EndsTurn (place_of turn) (front_of turn) made outcome nested new)
      (shape : BoardShape) (kept : made.kept ≡ Some shape) (goes_on : IsWholeWith config nested shape) where
    row : table.Entry Made T
    row = entry 0 (front_of turn) made outcome

    all_same : IsSameHand old new
    all_same = same_again old nested new (same_again old mid nested same.0 sames.0) again

    -- the hand's list when the turn was taken is the old one
    list_same : made_by mid ≡ made_by old
    list_same = ap (λ (rows : List (table.Entry Made T)). list_of rows) same.1

    list_is : entries new ≡ (entries old ++ gains.rows) ++ row ∷ []
    unfolding row
    list_is =
        ended.0 ∙ ap (λ (k : ℕ). entries nested ++ entry k (front_of turn) made outcome ∷ []) turned.0
        ∙ ap (λ (rows : List (table.Entry Made T)). rows ++ entry 0 (front_of turn) made outcome ∷ [])
        (gains.list_is ∙ ap (λ (rows : List (table.Entry Made T)). rows ++ gains.rows) same.1)

    is : board_entry (entry_of row) ≡ Some (board_made made event)
    unfolding row
    is = ap (λ (v : Event). board_at made.moment v) is_event

    turn_is : IsTurn config (made_by old) (list_of gains.rows) (entry_of row)
    unfolding row
    turn_is =
        turn_made config (made_by old) (list_of gains.rows) (entry_of row) (board_made made event) is refl
        (subst (λ (l : List Entry). IsAbove l 0 (front_of turn)) list_same above)
        (subst (λ (l : List Entry). FitsBoard config (board_history l (front_of turn)) (board_made made event)) list_same fits)
        (subst (λ (l : List Entry). GainedOwed l (front_of turn) (script config (board_history l (front_of turn)) (board_made made event)) (list_of gains.rows)) list_same
        gains.gained)

    known : IsKnown config (entries new)
    unfolding row
    known =
        subst (λ (rows : List (table.Entry Made T)). IsKnown config rows) (sym list_is)
        (known_turn config (entries old) gains.rows row (between_known config turns old b) turn_is (λ r i. gains.handed r i ∙ is_moment)
        (board_made made event) is (ap (λ (l : List Entry). closed_pairs (board_history l (front_of turn)) (board_made made event)) (sym list_same) ∙ gives))

    -- the nested entries are at other places than the board's
    apart : (w : Owed) → In w (script config (board_history (made_by mid) (front_of turn)) (board_made made event)) → w.place ≡ 0 → ⊥
    apart w i =
        (owed_elsewhere config (board_history (made_by mid) (front_of turn)) (board_made made event) w
        (good_history config (made_by mid) (subst (λ (l : List Entry). Orderly config l) (sym list_same) b.orderly) (front_of turn)) fits i).1

    whole_now : IsWholeNow config new
    unfolding row
    whole_now =
        ends_with config (front_of turn) moment (script config (board_history (made_by mid) (front_of turn)) (board_made made event)) mid nested new row shape gains apart above
        again.1 (ended.0 ∙ ap (λ (k : ℕ). entries nested ++ entry k (front_of turn) made outcome ∷ []) turned.0) refl refl
        (ap (λ (v : Event). is_boards v) is_event) kept goes_on

    idle_case : (k : ℕ) (t : Bool) → eqb k 0 ≡ t → LacksPlace new k
    idle_case k true q =
        subst (λ (j : ℕ). LacksPlace new j) (sym (eqb-true k 0 q)) (subst (λ (j : ℕ). LacksPlace new j) turned.0 ended.2)
    idle_case k false q =
        let other : k ≢ 0 = eqb-false k 0 q in
        let but : SameTurnsBut 0 nested new = subst (λ (j : ℕ). SameTurnsBut j nested new) turned.0 ended.3 in
        but k other ∙ sames.1 k ∙ turned.5 k other ∙ b.idle k

    -- the board's turn was put with the entry, when the list had gained what the entry owes
    pub turn_ends : Ended config turns old new (board_made made event)
    turn_ends = record {
      between = record {
        of_table = all_same.0 ∙ b.of_table;
        main = all_same.3 ∙ b.main;
        idle = λ k. idle_case k (eqb k 0) refl;
        parts = subst (λ (l : List (Part I O)). AreParts config l) (sym all_same.1) b.parts;
        whole_parts = subst (λ (l : List (Part I O)). AreWholeParts config l) (sym all_same.1) b.whole_parts;
        whole = whole_now;
        numbered = known.orderly.numbered;
        orderly = known.orderly;
        handed = known.handed;
        returned = known.returned;
        receiving = known.receiving;
      };
      makes = record { rows = gains.rows; row = row; list_is = list_is; turn = turn_is; is = is };
      same = all_same;
    }

-- Legs that are closed one after the other.
use Rattle.std.proofs.Common.{◌≡◌, ◌∙◌, refl, sym, ap, subst, ℕ, Bool, true, false, cond, not, ◌==◌, List, [], ◌∷◌, ◌++◌, Option, map, append-nil, arith, IsSome}
use Rattle.std.specs.Prelude.{◌&&◌}
use Rattle.std.proofs.lemmas.List.{map-append}
use Rattle.relay_outside.specs.declared.ports.OutCall.{OutCall}
use Rattle.relay_outside.specs.declared.ports.PortCall.{PortCall}
use Rattle.relay_outside.specs.declared.settings.Config.{Config}
use Rattle.relay_outside.specs.DeviceLogs.{EndLog, WhereLogged}
use Rattle.turn_table.specs.declared.hands.Hand.{Hand}
use Rattle.turn_table.specs.declared.machine.Entry as table
use Rattle.turn_table.specs.Hands.{entries, starts}
use Rattle.histories.specs.Words.{In, here, there, has}
use Rattle.histories.proofs.Lists.{maps, equal_if, it_has}
use Rattle.port_pool.specs.declared.holder.Holder.{Holder}
use Rattle.port_pool.specs.declared.pairs.Lease.{Lease}
use Rattle.port_pool.specs.Pools.{Pairs, after_return}
use Rattle.call_board.specs.declared.board.Board.{Board}
use Rattle.call_board.specs.Boards.{AreOut, pairs_in}
use Rattle.call_board.specs.Shapes.{BoardShape, board_shape, shape_returns}
use Rattle.call_board.proofs.Given.{out_after}
use Rattle.relay_core.specs.declared.part.Part.{Part}
use Rattle.relay_core.specs.Entries.{Entry, box_of}
use Rattle.relay_core.specs.KeptAfter.{box_by_event, holders_after_one, holders_after}
use Rattle.relay_core.specs.Scripts.{Owed, owed_by}
use Rattle.relay_core.specs.Records.{Made, entry_of, list_of}
use Rattle.relay_core.specs.Turns.{GainsNested, made_by}
use Rattle.relay_core.proofs.Gains.{gained_nothing}
use Rattle.relay_core.proofs.KeptGained.{hand_holders}
use Rattle.relay_core.proofs.Turns.{false_if}
use Rattle.media_ports.specs.OpenPorts.{OpensHeld}
use Rattle.board_turns.specs.NestedSteps.{holder_now, IsTurnOpen, closing_of}
use Rattle.board_turns.specs.Closings.{CanClose, leases_of_legs, closings_of, ClosesLegs, pairs_left}
use Rattle.board_turns.proofs.KeptPools.{one_returned}
use Rattle.board_turns.proofs.Lefts.{has_left}

-- What a hand's list gained.

pub rows_append : {T : Type 0} (xs ys : List (table.Entry Made T)) → list_of (xs ++ ys) ≡ list_of xs ++ list_of ys
rows_append xs ys = map-append entry_of xs ys

module _ {M S T : Type 0} {g : _} where
  pub list_gained : (number moment : ℕ) (events : List Owed) (old new : Hand M S Made T g) → (gains : GainsNested number moment events old new) →
      made_by new ≡ made_by old ++ list_of gains.rows
  list_gained number moment events old new gains =
      ap (λ (rows : List (table.Entry Made T)). list_of rows) gains.list_is ∙ rows_append (entries old) gains.rows

module _ {M S T : Type 0} {g : _} where
  -- nothing
  pub gains_nothing : (number moment : ℕ) (hand : Hand M S Made T g) → GainsNested number moment [] hand hand
  gains_nothing number moment hand = record {
    rows = [];
    list_is = sym (append-nil (entries hand));
    gained = gained_nothing (made_by hand) number;
    handed = λ row i. elim i [ ];
  }

-- the added entries stand at the places of these events
pub placed_by : (events : List Owed) (ns : List Entry) (place : ℕ) → map owed_by ns ≡ events → ((w : Owed) → In w events → w.place ≡ place → ⊥) →
    (e : Entry) → In e ns → e.place ≡ place → ⊥
placed_by events ns place owes elsewhere e i p = elsewhere (owed_by e) (subst (λ (ws : List Owed). In (owed_by e) ws) owes (maps owed_by ns i)) p

elsewhere_held : (config : Config) (w : Owed) (holders : ℕ → Option Holder) (pair : ℕ) → (w.place ≡ box_of config pair → ⊥)
    → holders_after_one config w holders pair ≡ holders pair
elsewhere_held config w holders pair apart =
    ap (λ (t : Bool). cond t (box_by_event w.event (holders pair)) (holders pair))
    (false_if (w.place == box_of config pair) (λ t. apart (equal_if w.place (box_of config pair) t)))

-- events at other places change nothing of a box
all_elsewhere : (config : Config) (events : List Owed) (holders : ℕ → Option Holder) (pair : ℕ) → ((w : Owed) → In w events → w.place ≡ box_of config pair → ⊥)
    → holders_after config events holders pair ≡ holders pair
all_elsewhere config [] holders pair apart = refl
all_elsewhere config (w ∷ ws) holders pair apart =
    all_elsewhere config ws (holders_after_one config w holders) pair (λ v i. apart v (there i)) ∙ elsewhere_held config w holders pair (apart w (here refl))

module _ {M I O T : Type 0} {g : _} where
  pub holder_stays : (config : Config) (number moment pair : ℕ) (events : List Owed) (old new : Hand M (Part I O) Made T g) → starts new ≡ starts old
      → GainsNested number moment events old new → ((w : Owed) → In w events → w.place ≡ box_of config pair → ⊥) → holder_now config new pair ≡ holder_now config old pair
  holder_stays config number moment pair events old new same gains elsewhere =
      hand_holders config number moment events old new same gains pair ∙ all_elsewhere config events (holder_now config old) pair elsewhere

  -- so it is open still
  pub still_open : (config : Config) (number moment pair : ℕ) (events : List Owed) (old new : Hand M (Part I O) Made T g) → starts new ≡ starts old
      → GainsNested number moment events old new → ((w : Owed) → In w events → w.place ≡ box_of config pair → ⊥) → IsTurnOpen config old pair → IsTurnOpen config new pair
  still_open config number moment pair events old new same gains elsewhere is_open =
      subst (λ (o : Option Holder). IsSome o) (sym (holder_stays config number moment pair events old new same gains elsewhere)) is_open

differs : (p pair : ℕ) (others : List ℕ) → has others p ≡ false → In pair others → p ≡ pair → ⊥
differs p pair others out i same =
    let is : has others p ≡ true = ap (has others) same ∙ it_has pair others i in
    let wrong = sym is ∙ out in cc

other_box : (config : Config) (p pair : ℕ) → (p ≡ pair → ⊥) → (w : Owed) → In w (closing_of config p ∷ []) → w.place ≡ box_of config pair → ⊥
other_box config p pair differ w (here q) at =
    let is = ap (λ (v : Owed). v.place) q in differ (omega (arith, is, at))
other_box config p pair differ w (there i) at = elim i [ ]

not_same : (p pair : ℕ) → (p ≡ pair → ⊥) → (b : Bool) → (p == pair) ≡ b → (not (cond b true false)) ≡ true
not_same p pair differ true is = absurd (differ (equal_if p pair is))
not_same p pair differ false is = refl

-- The first leg, and the others after it.

module _ {M I O T : Type 0} {g : _} where
  pub first_can : (config : Config) (hand : Hand M (Part I O) Made T g) (board : Board) (log : Option (List PortCall)) (leg : Lease × O × O) (gone : List (Lease × O × O)) →
      CanClose config hand board log (leg ∷ gone) → CanClose config hand board log (leg ∷ [])
  first_can config hand board log leg gone can = record {
    out = (can.out.0, refl, tt);
    of_range = λ pair i. can.of_range pair (first_in i);
    boxes_open = λ pair i. can.boxes_open pair (first_in i);
    held = can.held;
    opens = can.opens;
    are_held = λ pair i. can.are_held pair (first_in i);
  }
    where
      first_in : {x y : ℕ} {ys : List ℕ} → In x (y ∷ []) → In x (y ∷ ys)
      first_in (here q) = here q
      first_in (there i) = elim i [ ]

  pub rest_can : (config : Config) (number moment : ℕ) (old new : Hand M (Part I O) Made T g) (before after : Board) (log told_new : Option (List PortCall))
      (leg : Lease × O × O) (gone : List (Lease × O × O)) → CanClose config old before log (leg ∷ gone) →
      starts new ≡ starts old → GainsNested number moment (closings_of config (leg ∷ [])) old new →
      board_shape after ≡ shape_returns (leg.0.pair ∷ []) (board_shape before) →
      ((held : List ℕ) → WhereLogged log (λ calls. OpensHeld config calls held) → WhereLogged told_new (λ calls. OpensHeld config calls (pairs_left (leg.0.pair ∷ []) held))) →
      CanClose config new after told_new gone
  rest_can config number moment old new before after log told_new leg gone can same gains returned opens =
      let apart = λ (pair : ℕ) (i : In pair (pairs_in (leases_of_legs gone))). differs leg.0.pair pair (pairs_in (leases_of_legs gone)) can.out.1 i in
      let pool : after.pool ≡ after_return before.pool leg.0.pair
      = ap (λ (shape : BoardShape). shape.pool) (returned ∙ sym (one_returned (board_shape before) leg.0.pair)) in
      record {
        out = subst (λ (p : Pairs). AreOut p (leases_of_legs gone)) (sym pool) (out_after before.pool leg.0.pair (leases_of_legs gone) can.out.2 can.out.1);
        of_range = λ pair i. can.of_range pair (there i);
        boxes_open = λ pair i. still_open config number moment pair (closings_of config (leg ∷ [])) old new same gains
            (other_box config leg.0.pair pair (apart pair i)) (can.boxes_open pair (there i));
        held = pairs_left (leg.0.pair ∷ []) can.held;
        opens = opens can.held can.opens;
        are_held = λ pair i. has_left (leg.0.pair ∷ []) can.held pair
            ∙ ap (λ (b : Bool). b && has can.held pair) (not_same leg.0.pair pair (apart pair i) (leg.0.pair == pair) refl)
            ∙ can.are_held pair (there i);
      }

module _ {O : Type 0} where
  -- The lists, leg by leg.

  pub closings_more : (config : Config) (some more : List (Lease × O × O)) → closings_of config (some ++ more) ≡ closings_of config some ++ closings_of config more
  closings_more config some more = map-append (λ (leg : Lease × O × O). closing_of config leg.0.pair) some more

  pub pairs_more : (some more : List (Lease × O × O)) → pairs_in (leases_of_legs (some ++ more)) ≡ pairs_in (leases_of_legs some) ++ pairs_in (leases_of_legs more)
  pairs_more some more = ap pairs_in (map-append (λ (leg : Lease × O × O). leg.0) some more) ∙ map-append (λ (lease : Lease). lease.pair) (leases_of_legs some) (leases_of_legs more)

  pub closes_more : (sent : O → EndLog OutCall) (config : Config) (some more : List (Lease × O × O)) (xs ys : List PortCall) →
      ClosesLegs sent config some xs → ClosesLegs sent config more ys → ClosesLegs sent config (some ++ more) (xs ++ ys)
  closes_more sent config [] more xs ys first second = subst (λ (zs : List PortCall). ClosesLegs sent config more (zs ++ ys)) (sym first) second
  closes_more sent config (leg ∷ some) more xs ys first second = (
    first.0,
    first.1,
    first.2 ++ ys,
    ap (λ (zs : List PortCall). zs ++ ys) first.3,
    closes_more sent config some more first.2 ys first.4 second,
  )

-- Each entry of the board that fits has its turn: its script can be laid out after any orderly list. So each fitting history of
-- the board is that of an orderly list.
use Rattle.std.proofs.Common.{◌≡◌, ◌∙◌, sym, ap, subst, refl, ℕ, suc, ◌+◌, ◌<◌, ◌≤◌, List, [], ◌∷◌, ◌++◌, map, filter, ◌==◌, arith}
use Rattle.relay_outside.specs.declared.settings.Config.{Config}
use Rattle.histories.specs.Words.{In, here, there, greatest}
use Rattle.histories.proofs.Lists.{in_right, mapped, filtered, equal_if}
use Rattle.call_board.specs.Acts.{BoardEntry}
use Rattle.call_board.specs.Fits.{FitsBoard, IsFitting}
use Rattle.relay_core.specs.Entries.{Board, Entry, front, board_history}
use Rattle.relay_core.specs.Scripts.{Owed, script}
use Rattle.relay_core.specs.Legal.{Orderly}
use Rattle.relay_core.proofs.Boards.{moment}
use Rattle.relay_core.proofs.Boxes.{below_front}
use Rattle.relay_core.proofs.Turns.{IsTurn, with_turn, Part, old, new, last, part_of, turn_elsewhere, turn_history, turn_keeps, nothing_is_orderly}
use Rattle.relay_core.proofs.Gains.{GainedOwed, gained_nothing, gained_one, gained_more, turn_made}

-- the event as an entry, the next one of its place
abbrev pub next_entry : List Entry → ℕ → Owed → Entry
next_entry l board w = record { place = w.place; number = front l w.place; moment = 0; board = board; event = w.event }

-- events as entries, one after the other
abbrev pub laid : List Entry → ℕ → List Owed → List Entry
laid l board [] = []
laid l board (w ∷ ws) = next_entry l board w ∷ laid (l ++ next_entry l board w ∷ []) board ws

laid_gains : (l : List Entry) (board : ℕ) (ws : List Owed) → GainedOwed l board ws (laid l board ws)
laid_gains l board [] = gained_nothing l board
laid_gains l board (w ∷ ws) =
    gained_more l board (w ∷ []) ws (next_entry l board w ∷ []) (laid (l ++ next_entry l board w ∷ []) board ws)
    (gained_one l board (next_entry l board w) refl (λ e i p. below_front l e w.place i p))
    (laid_gains (l ++ next_entry l board w ∷ []) board ws)

-- the board's next entry
abbrev pub board_next : List Entry → BoardEntry → Entry
board_next l x = record { place = 0; number = front l 0; moment = x.moment; board = 0; event = Board x.event }

-- each entry that fits has a turn
pub turn_exists : (config : Config) (l : List Entry) → Orderly config l → (x : BoardEntry) → FitsBoard config (board_history l (front l 0)) x
    → IsTurn config l (laid l (front l 0) (script config (board_history l (front l 0)) x)) (board_next l x)
turn_exists config l o x fits =
    let h = board_history l (front l 0) in
    turn_made config l (laid l (front l 0) (script config h x)) (board_next l x) x refl refl (λ e i p. below_front l e 0 i p) fits
    (laid_gains l (front l 0) (script config h x))

-- so there is an orderly list that goes on with it
pub goes_on_orderly : (config : Config) (l : List Entry) → Orderly config l → (x : BoardEntry) → FitsBoard config (board_history l (front l 0)) x
    → Orderly config (with_turn l (laid l (front l 0) (script config (board_history l (front l 0)) x)) (board_next l x))
goes_on_orderly config l o x fits =
    turn_keeps config l (laid l (front l 0) (script config (board_history l (front l 0)) x)) (board_next l x) o (turn_exists config l o x fits)

-- Each history.

greatest_below : (ns : List ℕ) (m : ℕ) → ((n : ℕ) → In n ns → n ≤ m) → greatest ns ≤ m
greatest_below [] m below = omega arith
greatest_below (n ∷ ns) m below =
    let rest : greatest ns ≤ m = greatest_below ns m (λ k i. below k (there i)) in
    let first = below n (here refl) in
    omega (arith, rest, first)

-- after a turn the board's front is the number after it
front_after : (config : Config) (l ns : List Entry) (b : Entry) → Orderly config l → IsTurn config l ns b → front (with_turn l ns b) 0 ≡ suc b.number
front_after config l ns b o t =
    let at_least : b.number < front (with_turn l ns b) 0 = below_front (with_turn l ns b) b 0 (in_right (l ++ ns) (b ∷ []) (here refl)) t.at_board in
    let at_most : front (with_turn l ns b) 0 ≤ suc b.number =
    greatest_below (map (λ (e : Entry). e.number + 1) (filter (λ (e : Entry). e.place == 0) (with_turn l ns b))) (suc b.number) each in
    omega (arith, at_least, at_most)
  where
    each_part : (e : Entry) → e.place ≡ 0 → Part l ns b e → e.number + 1 ≤ suc b.number
    each_part e p (old i) = let k : e.number < b.number = t.at_front e i p in omega (arith, k)
    each_part e p (new i) = absurd ((turn_elsewhere config l ns b o t e i).1 p)
    each_part e p (last q) = let k = ap (λ (x : Entry). x.number) q in omega (arith, k)

    each : (n : ℕ) → In n (map (λ (e : Entry). e.number + 1) (filter (λ (e : Entry). e.place == 0) (with_turn l ns b))) → n ≤ suc b.number
    each n i =
        let m = mapped (λ (e : Entry). e.number + 1) (filter (λ (e : Entry). e.place == 0) (with_turn l ns b)) i in
        let f = filtered (λ (e : Entry). e.place == 0) (with_turn l ns b) m.is_in in
        let k = each_part m.from (equal_if m.from.place 0 f.1) (part_of l ns b m.from f.0) in
        let q = m.makes in
        omega (arith, k, q)

-- an orderly list with that history of the board
pub record HasHistory (config : Config) (h : List BoardEntry) : Type 0 where
  pub list : List Entry
  pub orderly : Orderly config list
  pub history_is : board_history list (front list 0) ≡ h

longer_history : (config : Config) (h : List BoardEntry) (x : BoardEntry) → FitsBoard config h x → HasHistory config h → HasHistory config (x ∷ h)
longer_history config h x fits s =
    let l = s.list in
    let fits_here : FitsBoard config (board_history l (front l 0)) x = subst (λ t. FitsBoard config t x) (sym s.history_is) fits in
    let ns = laid l (front l 0) (script config (board_history l (front l 0)) x) in
    let t = turn_exists config l s.orderly x fits_here in
    let longer = turn_keeps config l ns (board_next l x) s.orderly t in
    record {
      list = with_turn l ns (board_next l x);
      orderly = longer;
      history_is = ap (board_history (with_turn l ns (board_next l x))) (front_after config l ns (board_next l x) s.orderly t)
          ∙ moment config (with_turn l ns (board_next l x)) longer (board_next l x) x (in_right (l ++ ns) (board_next l x ∷ []) (here refl)) refl
          ∙ ap (λ r. x ∷ r) (turn_history config l ns (board_next l x) s.orderly t (front l 0) (omega arith) ∙ s.history_is);
    }

-- each fitting history of the board is that of an orderly list
pub history_exists : (config : Config) (h : List BoardEntry) → IsFitting config h → HasHistory config h
history_exists config [] fits = record { list = []; orderly = nothing_is_orderly config; history_is = refl }
history_exists config (x ∷ h) fits = longer_history config h x fits.0 (history_exists config h fits.1)

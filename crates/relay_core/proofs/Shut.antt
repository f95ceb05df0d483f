-- What a turn of the board finds at the boxes: the box of a free pair is shut, the box of a pair that is held is open for its holder.
use Rattle.std.proofs.Common.{◌≡◌, ◌∙◌, sym, ap, subst, refl, ℕ, zero, suc, ◌<◌, List, [], ◌∷◌, ◌++◌, Bool, true, false, Option, Some, None, map, filter, arith}
use Rattle.std.specs.Prelude.{nat_lt}
use Rattle.std.specs.List.{filter_map}
use Rattle.relay_outside.specs.declared.settings.Config.{Config}
use Rattle.histories.specs.Words.{In, here, there}
use Rattle.histories.proofs.Lists.{in_right, maps}
use Rattle.port_pool.specs.declared.holder.Holder.{Holder}
use Rattle.port_pool.specs.Boxes.{Open, Take, Close, holder}
use Rattle.call_board.specs.Acts as act
use Rattle.call_board.specs.Acts.{BoardEntry}
use Rattle.call_board.specs.Pairs.{held, free, closed_of}
use Rattle.call_board.proofs.Once.{Once}
use Rattle.call_board.proofs.Free.{free_not_held}
use Rattle.call_board.proofs.Held.{closed_of_held}
use Rattle.relay_core.specs.Entries.{Event, Board, Cell, Box, Entry, is_nested, is_at, history, front, box_in, box_event, box_history, board_history, box_of}
use Rattle.relay_core.specs.Legal.{Orderly}
use Rattle.relay_core.specs.Safe.{box_before}
use Rattle.relay_core.proofs.Histories.{and_true, at_place}
use Rattle.relay_core.proofs.Boxes.{Leaves, Opened, box_events, below_front, holder_opened, opened_holder}
use Rattle.relay_core.proofs.Holders.{passes_below, is_less, same_box, pairs_apart, box_is_held, held_is_box}
use Rattle.relay_core.proofs.Generations.{filter_all, open_nested}
use Rattle.relay_core.proofs.Turns.{IsAbove, filter_append, filter_none, false_if, nothing_more}

-- the nested entries of a list belong to entries of the board in it
pub nested_below : (config : Config) (l : List Entry) → Orderly config l → (n : ℕ) → IsAbove l 0 n → (e : Entry) → In e l
    → is_nested e.event ≡ true → e.board < n
nested_below config l o n above e i nested =
    let b = o.nested e i nested in
    let k : b.0.number < n = above b.0 b.1 b.2 in
    let q = b.3 in
    omega (arith, k, q)

-- The whole history of a box.

-- an entry that isn't nested leaves the box as it is
pub not_nested_leaves : (leg : Holder) (v : Event) → is_nested v ≡ false → Leaves leg (box_in v)
not_nested_leaves leg (Board b) h = tt
not_nested_leaves leg (Cell c) h = tt
not_nested_leaves leg (Box (Open other)) h = absurd (let k = h in cc)
not_nested_leaves leg (Box (Take half taken)) h = tt
not_nested_leaves leg (Box Close) h = absurd (let k = h in cc)

whole_to_nested : (config : Config) (l : List Entry) → Orderly config l → (place n k : ℕ) → IsAbove l 0 n → IsAbove l place k → (leg : Holder)
    → Opened l place (λ e. true) k leg → Opened l place (passes_below n) (front l place) leg
whole_to_nested config l o place n k above_board above leg s =
    let nested = open_nested s.entry.event leg s.opens in
    record {
      entry = s.entry;
      is_in = s.is_in;
      at = s.at;
      below = below_front l s.entry place s.is_in s.at;
      passes = and_true (is_nested s.entry.event) (nat_lt s.entry.board n) nested
          (is_less s.entry.board n (nested_below config l o n above_board s.entry s.is_in nested));
      opens = s.opens;
      stays = λ g i p later before t. s.stays g i p later (above g i p) refl;
    }

nested_to_whole : (config : Config) (l : List Entry) → Orderly config l → (place n k : ℕ) → IsAbove l 0 n → IsAbove l place k → (leg : Holder)
    → Opened l place (passes_below n) (front l place) leg → Opened l place (λ e. true) k leg
nested_to_whole config l o place n k above_board above leg s = record {
  entry = s.entry;
  is_in = s.is_in;
  at = s.at;
  below = above s.entry s.is_in s.at;
  passes = refl;
  opens = s.opens;
  stays = λ g i p later before t. stays_case g i p later (is_nested g.event) refl;
}
  where
    stays_case : (g : Entry) → In g l → g.place ≡ place → s.entry.number < g.number → (t : Bool) → is_nested g.event ≡ t → Leaves leg (box_event g)
    stays_case g i p later true t =
        s.stays g i p later (below_front l g place i p)
        (and_true (is_nested g.event) (nat_lt g.board n) t (is_less g.board n (nested_below config l o n above_board g i t)))
    stays_case g i p later false t = not_nested_leaves leg g.event t

same_option : (a b : Option Holder) → ((x : Holder) → a ≡ Some x → b ≡ Some x) → ((x : Holder) → b ≡ Some x → a ≡ Some x) → a ≡ b
same_option None None f g = refl
same_option None (Some y) f g = g y refl
same_option (Some x) b f g = sym (f x refl)

-- the holder of a box, of the whole history of its place, is that of its openings and closings
pub box_now : (config : Config) (l : List Entry) → Orderly config l → (place n k : ℕ) → IsAbove l 0 n → IsAbove l place k
    → holder (box_history l place k) ≡ holder (box_before l place n)
box_now config l o place n k above_board above =
    sym (ap (λ es. holder (filter_map box_event es)) (filter_all (history l place k)))
    ∙ same_option (holder (box_events l place (λ e. true) k)) (holder (box_before l place n))
    (λ x h. opened_holder l o.numbered place (passes_below n) (front l place) x
    (whole_to_nested config l o place n k above_board above x (holder_opened l o.numbered place (λ e. true) k x h)))
    (λ x h. opened_holder l o.numbered place (λ e. true) k x
    (nested_to_whole config l o place n k above_board above x (holder_opened l o.numbered place (passes_below n) (front l place) x h)))

pub none_if : (a : Option Holder) → ((x : Holder) → a ≡ Some x → ⊥) → a ≡ None
none_if None fails = refl
none_if (Some x) fails = absurd (fails x refl)

-- the box of a free pair is shut
pub shut_before : (config : Config) (l : List Entry) → Orderly config l → (n pair : ℕ) → In pair (free config (board_history l n))
    → holder (box_before l (box_of config pair) n) ≡ None
shut_before config l o n pair i =
    none_if (holder (box_before l (box_of config pair) n))
    (λ x h. let s = held_is_box config l o n pair x h in free_not_held config (board_history l n) pair x i s.1 s.0)

-- so it is at the end of its history, when the board's next entry comes
pub shut_free : (config : Config) (l : List Entry) → Orderly config l → (n k pair : ℕ) → IsAbove l 0 n → IsAbove l (box_of config pair) k
    → In pair (free config (board_history l n)) → holder (box_history l (box_of config pair) k) ≡ None
shut_free config l o n k pair above_board above i =
    box_now config l o (box_of config pair) n k above_board above ∙ shut_before config l o n pair i

-- the box of a pair that is held is open for its holder, at the end of its history
pub open_held : (config : Config) (l : List Entry) → Orderly config l → (n k : ℕ) (leg : Holder) → IsAbove l 0 n → IsAbove l (box_of config leg.pair) k
    → In leg (held (board_history l n)) → holder (box_history l (box_of config leg.pair) k) ≡ Some leg
open_held config l o n k leg above_board above i =
    box_now config l o (box_of config leg.pair) n k above_board above ∙ box_is_held config l o n leg i

-- While the turn goes on.

-- entries at other places leave the history of a place as it is
pub same_history : (l ns : List Entry) (place n : ℕ) → ((e : Entry) → In e ns → e.place ≡ place → ⊥) → history (l ++ ns) place n ≡ history l place n
same_history l ns place zero elsewhere = refl
same_history l ns place (suc n) elsewhere =
    ap (λ xs. xs ++ history (l ++ ns) place n)
    (filter_append (is_at place n) l ns
    ∙ ap (λ xs. filter (is_at place n) l ++ xs)
    (filter_none (is_at place n) ns (λ e i. false_if (is_at place n e) (λ t. elsewhere e i (at_place place n e t).0)))
    ∙ nothing_more (filter (is_at place n) l))
    ∙ ap (λ xs. filter (is_at place n) l ++ xs) (same_history l ns place n elsewhere)

once_later : {A : Type 0} (f : A → ℕ) (before : List A) (x : A) (after : List A) → Once (map f (before ++ x ∷ after)) → (y : A) → In y before → f y ≡ f x → ⊥
once_later f [] x after o y i p = elim i [ ]
once_later f (z ∷ before) x after o y (here q) p =
    o.0 (subst (λ n. In n (map f (before ++ x ∷ after))) (sym p ∙ ap f q) (maps f (before ++ x ∷ after) (in_right before (x ∷ after) (here refl))))
once_later f (z ∷ before) x after o y (there i) p = once_later f before x after o.1 y i p

-- and the box of each leg that the next entry closes is open for it
pub closed_open : (config : Config) (l : List Entry) → Orderly config l → (n k : ℕ) (x : BoardEntry) (c : act.Call) (leg : Holder) → IsAbove l 0 n
    → IsAbove l (box_of config leg.pair) k → In leg (closed_of (board_history l n) x c)
    → holder (box_history l (box_of config leg.pair) k) ≡ Some leg
closed_open config l o n k x c leg above_board above i =
    open_held config l o n k leg above_board above (closed_of_held (board_history l n) x c leg i).0

-- the legs that an entry closes have boxes apart
pub closed_apart : (config : Config) (l : List Entry) → Orderly config l → (n : ℕ) (x : BoardEntry) (c d : act.Call) (a b : Holder)
    → In a (closed_of (board_history l n) x c) → In b (closed_of (board_history l n) x d) → box_of config a.pair ≡ box_of config b.pair → a ≡ b
closed_apart config l o n x c d a b i j q =
    pairs_apart config l o n a b (closed_of_held (board_history l n) x c a i).0 (closed_of_held (board_history l n) x d b j).0
    (same_box config a.pair b.pair q)

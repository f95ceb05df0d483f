-- The nested entries that a list gains in a turn of the board, one after the other.
use Rattle.std.proofs.Common.{◌≡◌, ◌∙◌, sym, ap, subst, refl, ℕ, ◌<◌, ◌⊎◌, inl, inr, List, [], ◌∷◌, ◌++◌, Some, map, append_assoc, arith}
use Rattle.relay_outside.specs.declared.settings.Config.{Config}
use Rattle.histories.specs.Words.{In, here, there, Before, begins, goes_on}
use Rattle.histories.proofs.Lists.{in_append, in_left, in_right}
use Rattle.call_board.specs.Acts.{BoardEntry}
use Rattle.call_board.specs.Fits.{FitsBoard}
use Rattle.relay_core.specs.Entries.{Entry, board_entry, board_history}
use Rattle.relay_core.specs.Scripts.{Owed, owed_by, script}
pub use Rattle.relay_core.specs.Turns.{Rising, GainedOwed}
use Rattle.relay_core.proofs.Turns.{Numbered, IsAbove, IsTurn, numbered_append, numbered_single}

pub rising_above : (l ns : List Entry) → Rising l ns → (e : Entry) → In e ns → IsAbove l e.place e.number
rising_above l [] r e i = elim i [ ]
rising_above l (g ∷ ns) r e (here q) = subst (λ (x : Entry). IsAbove l x.place x.number) (sym q) r.0
rising_above l (g ∷ ns) r e (there i) = λ f j p. rising_above (l ++ g ∷ []) ns r.1 e i f (in_left l (g ∷ []) j) p

pub rising_numbered : (l ns : List Entry) → Numbered l → Rising l ns → Numbered (l ++ ns)
rising_numbered l [] n r = λ e i. subst Numbered (sym (append_nothing l)) n e i
  where
    append_nothing : (xs : List Entry) → xs ++ [] ≡ xs
    append_nothing [] = refl
    append_nothing (x ∷ xs) = ap (λ zs. x ∷ zs) (append_nothing xs)
rising_numbered l (g ∷ ns) n r =
    subst Numbered (append_assoc l (g ∷ []) ns)
    (rising_numbered (l ++ g ∷ []) ns (numbered_append l (g ∷ []) n (numbered_single g) only_above) r.1)
  where
    only_above : (e : Entry) → In e (g ∷ []) → IsAbove l e.place e.number
    only_above e (here q) = subst (λ (x : Entry). IsAbove l x.place x.number) (sym q) r.0
    only_above e (there i) = elim i [ ]

rising_from : (k l ns : List Entry) → ((e : Entry) → In e k → In e l) → Rising l ns → Rising k ns
rising_from k l [] sub r = tt
rising_from k l (g ∷ ns) sub r = (λ e i p. r.0 e (sub e i) p, rising_from (k ++ g ∷ []) (l ++ g ∷ []) ns wider r.1)
  where
    wider_case : (e : Entry) → In e k ⊎ In e (g ∷ []) → In e (l ++ g ∷ [])
    wider_case e (inl i) = in_left l (g ∷ []) (sub e i)
    wider_case e (inr i) = in_right l (g ∷ []) i

    wider : (e : Entry) → In e (k ++ g ∷ []) → In e (l ++ g ∷ [])
    wider e i = wider_case e (in_append k (g ∷ []) i)

pub rising_once : (l ns : List Entry) → Rising l ns → Numbered ns
rising_once l ns r = rising_numbered [] ns (λ e i. elim i [ ]) (rising_from [] l ns (λ e i. elim i [ ]) r)

pub rising_order : (l ns : List Entry) → Rising l ns → (e f : Entry) → In e ns → In f ns → e.place ≡ f.place → e.number < f.number → Before e f ns
rising_order l [] r e f i j p k = elim i [ ]
rising_order l (g ∷ ns) r e f (here q) (here s) p k = absurd (let z = ap (λ (x : Entry). x.number) (q ∙ sym s) in omega (arith, z, k))
rising_order l (g ∷ ns) r e f (here q) (there j) p k = begins q j
rising_order l (g ∷ ns) r e f (there i) (here s) p k =
    absurd (let z : f.number < e.number = rising_above (l ++ g ∷ []) ns r.1 e i f (in_right l (g ∷ []) (here s)) (sym p) in omega (arith, z, k))
rising_order l (g ∷ ns) r e f (there i) (there j) p k = goes_on (rising_order (l ++ g ∷ []) ns r.1 e f i j p k)

pub rising_append : (l ns ms : List Entry) → Rising l ns → Rising (l ++ ns) ms → Rising l (ns ++ ms)
rising_append l [] ms r s = rising_from l (l ++ []) ms (λ e i. in_left l [] i) s
rising_append l (g ∷ ns) ms r s =
    (r.0, rising_append (l ++ g ∷ []) ns ms r.1 (subst (λ k. Rising k ms) (sym (append_assoc l (g ∷ []) ns)) s))

pub gained_nothing : (l : List Entry) (number : ℕ) → GainedOwed l number [] []
gained_nothing l number = record {
  owes = refl;
  of_board = λ e i. elim i [ ];
  rising = tt;
}

-- one entry
pub gained_one : (l : List Entry) (number : ℕ) (e : Entry) → e.board ≡ number
    → IsAbove l e.place e.number → GainedOwed l number (owed_by e ∷ []) (e ∷ [])
gained_one l number e of_board above = record {
  owes = refl;
  of_board = λ f i. only f i;
  rising = (above, tt);
}
  where
    only : (f : Entry) → In f (e ∷ []) → f.board ≡ number
    only f (here q) = ap (λ (x : Entry). x.board) q ∙ of_board
    only f (there i) = elim i [ ]

map_append : {A B : Type 0} (f : A → B) (xs ys : List A) → map f (xs ++ ys) ≡ map f xs ++ map f ys
map_append f [] ys = refl
map_append f (x ∷ xs) ys = ap (λ zs. f x ∷ zs) (map_append f xs ys)

-- one after the other
pub gained_more : (l : List Entry) (number : ℕ) (events others : List Owed) (ns ms : List Entry)
    → GainedOwed l number events ns → GainedOwed (l ++ ns) number others ms → GainedOwed l number (events ++ others) (ns ++ ms)
gained_more l number events others ns ms a b = record {
  owes = map_append owed_by ns ms ∙ ap (λ xs. xs ++ map owed_by ms) a.owes ∙ ap (λ xs. events ++ xs) b.owes;
  of_board = λ e i. either e (in_append ns ms i);
  rising = rising_append l ns ms a.rising b.rising;
}
  where
    either : (e : Entry) → In e ns ⊎ In e ms → e.board ≡ number
    either e (inl i) = a.of_board e i
    either e (inr i) = b.of_board e i

-- a list that gains a script makes the turn of its board entry
pub turn_made : (config : Config) (l ns : List Entry) (b : Entry) (x : BoardEntry) → board_entry b ≡ Some x → b.place ≡ 0 → IsAbove l 0 b.number
    → FitsBoard config (board_history l b.number) x → GainedOwed l b.number (script config (board_history l b.number) x) ns
    → IsTurn config l ns b
turn_made config l ns b x is at_board at_front fits g = record {
  entry = x;
  is = is;
  at_board = at_board;
  at_front = at_front;
  fits = fits;
  owes = g.owes;
  of_board = g.of_board;
  above = rising_above l ns g.rising;
  once = rising_once l ns g.rising;
  in_order = rising_order l ns g.rising;
}

-- The history of a place up to a number above all of its steps, and in a longer list.
use Rattle.std.proofs.Common.{◌≡◌, ◌∙◌, refl, sym, ap, ℕ, zero, suc, ◌+◌, ◌<◌, ◌≤◌, ◌⊎◌, inl, inr, Bool, true, false, cond, List, [], ◌∷◌, ◌++◌, map, filter, Option, Some, None, ◌==◌, arith}
use Rattle.std.specs.List.{filter_map, cons_option}
use Rattle.histories.specs.Words.{In, here, there, greatest}
use Rattle.histories.proofs.Lists.{in_left, in_append, filtered, mapped, equal_if}
use Rattle.port_pool.specs.declared.holder.Holder.{Holder}
use Rattle.port_pool.specs.Boxes.{BoxEvent, Open, Take, Close}
use Rattle.call_cell.specs.Cells.{CellEntry, Prepare, Commit, Relay, Expire, Read, End}
use Rattle.call_cell.specs.Shapes.{CellShape}
use Rattle.call_shapes.specs.Events.{shape_after_event, shape_by, holder_by}
use Rattle.relay_core.specs.Entries.{Event, Board, Cell, Box, Entry, is_at, history, front, cell_at, cell_entry, cell_history, box_in, box_event, box_history}
use Rattle.relay_core.specs.Steps.{is_reserved}
use Rattle.relay_core.specs.Turns.{IsAbove, IsOfLane}
use Rattle.relay_core.proofs.Histories.{is_there, at_place}
use Rattle.relay_core.proofs.Boards.{le_or_eq}
use Rattle.relay_core.proofs.Boxes.{below_front, at_most_greatest}
use Rattle.relay_core.proofs.Turns.{filter_append, filter_none, filter_every, false_if, nothing_more}

-- The greatest.

pub greatest_below : (xs : List ℕ) (n : ℕ) → ((x : ℕ) → In x xs → x ≤ n) → greatest xs ≤ n
greatest_below [] n each = omega arith
greatest_below (x ∷ xs) n each =
    let one = each x (here refl) in
    let rest = greatest_below xs n (λ y i. each y (there i)) in
    omega (arith, one, rest)

pub greatest_is : (xs : List ℕ) (n : ℕ) → In n xs → ((x : ℕ) → In x xs → x ≤ n) → greatest xs ≡ n
greatest_is xs n i each =
    let low = at_most_greatest xs i in
    let high = greatest_below xs n each in
    omega (arith, low, high)

-- Up to any number above all steps of the place.

-- nothing of the list stands there
nothing_there : (l : List Entry) (place number : ℕ) → ((e : Entry) → In e l → e.place ≡ place → e.number ≡ number → ⊥) → filter (is_at place number) l ≡ []
nothing_there l place number fails =
    filter_none (is_at place number) l
    (λ e i. false_if (is_at place number e) (λ t. let at = at_place place number e t in fails e i at.0 at.1))

pub front_least : (l : List Entry) (k n : ℕ) → IsAbove l k n → front l k ≤ n
front_least l k n above =
    greatest_below (map (λ (e : Entry). e.number + 1) (filter (λ (e : Entry). e.place == k) l)) n (λ x i.
    let m = mapped (λ (e : Entry). e.number + 1) (filter (λ (e : Entry). e.place == k) l) i in
    let f = filtered (λ (e : Entry). e.place == k) l m.is_in in
    let low : m.from.number < n = above m.from f.0 (equal_if m.from.place k f.1) in
    let is = m.makes in
    omega (arith, low, is))

pub front_above : (l : List Entry) (k : ℕ) → IsAbove l k (front l k)
front_above l k e i p = below_front l e k i p

above_case : (l : List Entry) (k m n : ℕ) → IsAbove l k m → (m ≤ n → history l k n ≡ history l k m) → (m < suc n) ⊎ (m ≡ suc n) → history l k (suc n) ≡ history l k m
above_case l k m n above rest (inl low) =
    ap (λ (xs : List Entry). xs ++ history l k n) (nothing_there l k n (λ e i p q. let below : e.number < m = above e i p in omega (arith, below, q, low)))
    ∙ rest (omega (arith, low))
above_case l k m n above rest (inr is) = ap (λ (j : ℕ). history l k j) (sym is)

history_above : (l : List Entry) (k m n : ℕ) → IsAbove l k m → m ≤ n → history l k n ≡ history l k m
history_above l k m zero above low = let is : m ≡ 0 = omega (arith, low) in ap (λ (j : ℕ). history l k j) (sym is)
history_above l k m (suc n) above low = above_case l k m n above (λ h. history_above l k m n above h) (le_or_eq m n low)

-- it is the history up to the front
pub history_front : (l : List Entry) (k n : ℕ) → IsAbove l k n → history l k n ≡ history l k (front l k)
history_front l k n above = history_above l k (front l k) n (front_above l k) (front_least l k n above)

-- A longer list.

pub history_more : (l ns : List Entry) (k n : ℕ) → ((e : Entry) → In e ns → e.place ≡ k → n ≤ e.number) → history (l ++ ns) k n ≡ history l k n
history_more l ns k zero later = refl
history_more l ns k (suc n) later =
    ap (λ (xs : List Entry). xs ++ history (l ++ ns) k n)
    (filter_append (is_at k n) l ns
    ∙ ap (λ (xs : List Entry). filter (is_at k n) l ++ xs) (nothing_there ns k n (λ e i p q. let late = later e i p in omega (arith, late, q)))
    ∙ nothing_more (filter (is_at k n) l))
    ∙ ap (λ (xs : List Entry). filter (is_at k n) l ++ xs) (history_more l ns k n (λ e i p. let late = later e i p in omega (arith, late)))

-- entries of other places leave the history as it was
pub others_front : (l ns : List Entry) (k : ℕ) → ((e : Entry) → In e ns → e.place ≡ k → ⊥) → history (l ++ ns) k (front (l ++ ns) k) ≡ history l k (front l k)
others_front l ns k apart =
    history_more l ns k (front (l ++ ns) k) (λ e i p. absurd (apart e i p))
    ∙ history_front l k (front (l ++ ns) k) (λ e i p. below_front (l ++ ns) e k (in_left l ns i) p)

last_case : (l : List Entry) (e f : Entry) → IsAbove l e.place e.number → f.place ≡ e.place → In f l ⊎ In f (e ∷ []) → f.number < suc e.number
last_case l e f above p (inl i) = let low : f.number < e.number = above f i p in omega (arith, low)
last_case l e f above p (inr (here q)) = let same = ap (λ (x : Entry). x.number) q in omega (arith, same)
last_case l e f above p (inr (there i)) = elim i [ ]

pub last_above : (l : List Entry) (e : Entry) → IsAbove l e.place e.number → IsAbove (l ++ e ∷ []) e.place (suc e.number)
last_above l e above f i p = last_case l e f above p (in_append l (e ∷ []) i)

only_there : (e f : Entry) → In f (e ∷ []) → is_at e.place e.number f ≡ true
only_there e f (here q) = is_there e.place e.number f (ap (λ (x : Entry). x.place) q) (ap (λ (x : Entry). x.number) q)
only_there e f (there i) = elim i [ ]

only_later : (e f : Entry) → In f (e ∷ []) → e.number ≤ f.number
only_later e f (here q) = let same = ap (λ (x : Entry). x.number) q in omega (arith, same)
only_later e f (there i) = elim i [ ]

-- an entry above all that its place had stands at the front
pub one_front : (l : List Entry) (e : Entry) → IsAbove l e.place e.number
    → history (l ++ e ∷ []) e.place (front (l ++ e ∷ []) e.place) ≡ e ∷ history l e.place (front l e.place)
one_front l e above =
    sym (history_front (l ++ e ∷ []) e.place (suc e.number) (last_above l e above))
    ∙ ap (λ (xs : List Entry). xs ++ history (l ++ e ∷ []) e.place e.number)
    (filter_append (is_at e.place e.number) l (e ∷ [])
    ∙ ap (λ (xs : List Entry). xs ++ filter (is_at e.place e.number) (e ∷ []))
    (nothing_there l e.place e.number (λ f i p q. let low : f.number < e.number = above f i p in omega (arith, low, q)))
    ∙ filter_every (is_at e.place e.number) (e ∷ []) (λ f i. only_there e f i))
    ∙ ap (λ (xs : List Entry). e ∷ xs)
    (history_more l (e ∷ []) e.place e.number (λ f i p. only_later e f i) ∙ history_front l e.place e.number above)

-- Takes and relays.

abbrev keeps_event : Entry → Bool
keeps_event e = is_reserved e.event

pub lane_not_reserved : (event : Event) → IsOfLane event → is_reserved event ≡ false
lane_not_reserved (Board b) h = absurd h
lane_not_reserved (Cell (Prepare call legs keys dropped)) h = absurd h
lane_not_reserved (Cell (Commit signal)) h = absurd h
lane_not_reserved (Cell (Relay r)) h = refl
lane_not_reserved (Cell (Expire due)) h = absurd h
lane_not_reserved (Cell (Read log)) h = absurd h
lane_not_reserved (Cell End) h = absurd h
lane_not_reserved (Box (Open leg)) h = absurd h
lane_not_reserved (Box (Take half taken)) h = refl
lane_not_reserved (Box Close) h = absurd h

-- but for these the history is as it was
kept_more : (l ns : List Entry) (k n : ℕ) → ((e : Entry) → In e ns → keeps_event e ≡ false)
    → filter keeps_event (history (l ++ ns) k n) ≡ filter keeps_event (history l k n)
kept_more l ns k zero lanes = refl
kept_more l ns k (suc n) lanes =
    let none : filter keeps_event (filter (is_at k n) ns) ≡ []
    = filter_none keeps_event (filter (is_at k n) ns) (λ e i. lanes e (filtered (is_at k n) ns i).0) in
    let those : filter keeps_event (filter (is_at k n) (l ++ ns)) ≡ filter keeps_event (filter (is_at k n) l)
    = ap (λ (xs : List Entry). filter keeps_event xs) (filter_append (is_at k n) l ns)
    ∙ filter_append keeps_event (filter (is_at k n) l) (filter (is_at k n) ns)
    ∙ ap (λ (xs : List Entry). filter keeps_event (filter (is_at k n) l) ++ xs) none
    ∙ nothing_more (filter keeps_event (filter (is_at k n) l)) in
    filter_append keeps_event (filter (is_at k n) (l ++ ns)) (history (l ++ ns) k n)
    ∙ ap (λ (xs : List Entry). xs ++ filter keeps_event (history (l ++ ns) k n)) those
    ∙ ap (λ (xs : List Entry). filter keeps_event (filter (is_at k n) l) ++ xs) (kept_more l ns k n lanes)
    ∙ sym (filter_append keeps_event (filter (is_at k n) l) (history l k n))

-- they change nothing of the shape

shape_more : (o : Option CellEntry) (h k : List CellEntry) (shape : CellShape) → shape_by h shape ≡ shape_by k shape
    → shape_by (cons_option o h) shape ≡ shape_by (cons_option o k) shape
shape_more None h k shape same = same
shape_more (Some e) h k shape same = ap (λ (s : CellShape). shape_after_event e.event s) same

shape_kept_in : (moment : ℕ) (event : Event) (h : List CellEntry) (shape : CellShape) → is_reserved event ≡ false
    → shape_by (cons_option (cell_at moment event) h) shape ≡ shape_by h shape
shape_kept_in moment (Board b) h shape q = absurd (let r : true ≡ false = q in cc)
shape_kept_in moment (Cell (Prepare call legs keys dropped)) h shape q = absurd (let r : true ≡ false = q in cc)
shape_kept_in moment (Cell (Commit signal)) h shape q = absurd (let r : true ≡ false = q in cc)
shape_kept_in moment (Cell (Relay x)) h shape q = refl
shape_kept_in moment (Cell (Expire due)) h shape q = absurd (let r : true ≡ false = q in cc)
shape_kept_in moment (Cell (Read reports)) h shape q = absurd (let r : true ≡ false = q in cc)
shape_kept_in moment (Cell End) h shape q = absurd (let r : true ≡ false = q in cc)
shape_kept_in moment (Box b) h shape q = refl

shape_kept_by : (e : Entry) (h : List Entry) (shape : CellShape)
    → shape_by (filter_map cell_entry h) shape ≡ shape_by (filter_map cell_entry (filter keeps_event h)) shape → (t : Bool) → keeps_event e ≡ t
    → shape_by (filter_map cell_entry (e ∷ h)) shape ≡ shape_by (filter_map cell_entry (cond t (e ∷ filter keeps_event h) (filter keeps_event h))) shape
shape_kept_by e h shape rest true q = shape_more (cell_entry e) (filter_map cell_entry h) (filter_map cell_entry (filter keeps_event h)) shape rest
shape_kept_by e h shape rest false q = shape_kept_in e.moment e.event (filter_map cell_entry h) shape q ∙ rest

shape_kept : (h : List Entry) (shape : CellShape) → shape_by (filter_map cell_entry h) shape ≡ shape_by (filter_map cell_entry (filter keeps_event h)) shape
shape_kept [] shape = refl
shape_kept (e ∷ h) shape = shape_kept_by e h shape (shape_kept h shape) (keeps_event e) refl

-- nor of the holder

held_more : (o : Option BoxEvent) (h k : List BoxEvent) (start : Option Holder) → holder_by h start ≡ holder_by k start
    → holder_by (cons_option o h) start ≡ holder_by (cons_option o k) start
held_more None h k start same = same
held_more (Some (Open leg)) h k start same = refl
held_more (Some (Take half taken)) h k start same = same
held_more (Some Close) h k start same = refl

held_kept_in : (event : Event) (h : List BoxEvent) (start : Option Holder) → is_reserved event ≡ false
    → holder_by (cons_option (box_in event) h) start ≡ holder_by h start
held_kept_in (Board b) h start q = absurd (let r : true ≡ false = q in cc)
held_kept_in (Cell c) h start q = refl
held_kept_in (Box (Open leg)) h start q = absurd (let r : true ≡ false = q in cc)
held_kept_in (Box (Take half taken)) h start q = refl
held_kept_in (Box Close) h start q = absurd (let r : true ≡ false = q in cc)

held_kept_by : (e : Entry) (h : List Entry) (start : Option Holder)
    → holder_by (filter_map box_event h) start ≡ holder_by (filter_map box_event (filter keeps_event h)) start → (t : Bool) → keeps_event e ≡ t
    → holder_by (filter_map box_event (e ∷ h)) start ≡ holder_by (filter_map box_event (cond t (e ∷ filter keeps_event h) (filter keeps_event h))) start
held_kept_by e h start rest true q = held_more (box_event e) (filter_map box_event h) (filter_map box_event (filter keeps_event h)) start rest
held_kept_by e h start rest false q = held_kept_in e.event (filter_map box_event h) start q ∙ rest

held_kept : (h : List Entry) (start : Option Holder) → holder_by (filter_map box_event h) start ≡ holder_by (filter_map box_event (filter keeps_event h)) start
held_kept [] start = refl
held_kept (e ∷ h) start = held_kept_by e h start (held_kept h start) (keeps_event e) refl

-- so the shape and the holder after the longer list are those after the list
module _ (l ns : List Entry) (lanes : (e : Entry) → In e ns → IsOfLane e.event) (k : ℕ) where
  lanes_kept : filter keeps_event (history (l ++ ns) k (front (l ++ ns) k)) ≡ filter keeps_event (history l k (front l k))
  lanes_kept =
      kept_more l ns k (front (l ++ ns) k) (λ e i. lane_not_reserved e.event (lanes e i))
      ∙ ap (λ (h : List Entry). filter keeps_event h) (history_front l k (front (l ++ ns) k) (λ e i p. below_front (l ++ ns) e k (in_left l ns i) p))

  pub lanes_shape : (shape : CellShape) → shape_by (cell_history (l ++ ns) k (front (l ++ ns) k)) shape ≡ shape_by (cell_history l k (front l k)) shape
  lanes_shape shape =
      shape_kept (history (l ++ ns) k (front (l ++ ns) k)) shape
      ∙ ap (λ (h : List Entry). shape_by (filter_map cell_entry h) shape) lanes_kept
      ∙ sym (shape_kept (history l k (front l k)) shape)

  pub lanes_holder : (held : Option Holder) → holder_by (box_history (l ++ ns) k (front (l ++ ns) k)) held ≡ holder_by (box_history l k (front l k)) held
  lanes_holder held =
      held_kept (history (l ++ ns) k (front (l ++ ns) k)) held
      ∙ ap (λ (h : List Entry). holder_by (filter_map box_event h) held) lanes_kept
      ∙ sym (held_kept (history l k (front l k)) held)

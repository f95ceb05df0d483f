-- Two lists of which each place has the same history, but for what decides nothing, and how they grow.
use Rattle.std.proofs.Common.{◌≡◌, ◌∙◌, sym, ap, subst, refl, ℕ, zero, suc, ◌<◌, ◌≤◌, ◌⊎◌, inl, inr, ◌==◌, List, [], ◌∷◌, ◌++◌, map, filter, filter_map, length, Bool, true, false, arith}
use Rattle.std.specs.List.{cons_option}
use Rattle.relay_outside.specs.declared.settings.Config.{Config}
use Rattle.histories.specs.Words.{In, here, there, greatest}
use Rattle.histories.proofs.Lists.{in_append, in_left, in_right, equal, equal_if}
use Rattle.port_pool.specs.Boxes as box
use Rattle.port_pool.specs.Boxes.{BoxEvent, Open, Take, Close, Taken, holder}
use Rattle.call_board.specs.Acts.{BoardEntry}
use Rattle.relay_core.proofs.Boards.{lt_or_eq}
use Rattle.relay_core.proofs.Histories.{at_place, is_there}
use Rattle.relay_core.proofs.Turns.{filter_append, filter_none, filter_every, false_if}
use Rattle.replay_laws.proofs.Lists.{same_history}
use Rattle.relay_core.specs.Entries.{is_at, Event, Board, Cell, Box, Entry, board_at, box_in, cell_at, board_entry, box_event, cell_entry, history, front, box_of}
use Rattle.relay_core.specs.Turns.{IsAbove}
use Rattle.relay_core.proofs.Boxes.{below_front}
use Rattle.relay_core.proofs.Refilling.{picked_mapped}
use Rattle.relay_core.proofs.Shut as elsewhere
use Rattle.replay_laws.specs.Alike.{bare_event, bare, AlikeLists}
use Rattle.replay_laws.proofs.Beginnings.{latest}

-- an event without what is recorded of bodies and crypto lines, and without a datagram that is too long, which is dropped whatever it is
abbrev pub blank : Event → Event
blank (Board b) = Board (bare_event b)
blank (Cell c) = Cell c
blank (Box (Open leg)) = Box (Open leg)
blank (Box Close) = Box Close
blank (Box (Take half (box.TooLong source bytes))) = Box (Take half box.Nothing)
blank (Box (Take half taken)) = Box (Take half taken)

-- an entry without what decides nothing
abbrev pub blank_entry : Entry → Entry
blank_entry e = record { place = e.place; number = e.number; moment = e.moment; board = 0; event = blank e.event }

-- each place has the same history
abbrev pub SameLists : List Entry → List Entry → Type 0
SameLists l k = (place m n : ℕ) → IsAbove l place m → IsAbove k place n → map blank_entry (history l place m) ≡ map blank_entry (history k place n)

-- What that says of the kinds of entries.

board_case : (moment : ℕ) (v : Event) (rest more : List BoardEntry) → map bare rest ≡ more
    → map bare (cons_option (board_at moment v) rest) ≡ cons_option (board_at moment (blank v)) more
board_case moment (Board b) rest more same = ap (λ (xs : List BoardEntry). bare (record { moment = moment; event = b }) ∷ xs) same
board_case moment (Cell c) rest more same = same
board_case moment (Box (Open leg)) rest more same = same
board_case moment (Box Close) rest more same = same
board_case moment (Box (Take half (box.TooLong source bytes))) rest more same = same
board_case moment (Box (Take half box.Closed)) rest more same = same
board_case moment (Box (Take half box.Nothing)) rest more same = same
board_case moment (Box (Take half (box.Datagram held source bytes))) rest more same = same
board_case moment (Box (Take half box.Fault)) rest more same = same

boards_blank : (xs : List Entry) → map bare (filter_map board_entry xs) ≡ filter_map board_entry (map blank_entry xs)
boards_blank [] = refl
boards_blank (x ∷ xs) = board_case x.moment x.event (filter_map board_entry xs) (filter_map board_entry (map blank_entry xs)) (boards_blank xs)

cell_case : (moment : ℕ) (v : Event) → cell_at moment (blank v) ≡ cell_at moment v
cell_case moment (Board b) = refl
cell_case moment (Cell c) = refl
cell_case moment (Box (Open leg)) = refl
cell_case moment (Box Close) = refl
cell_case moment (Box (Take half (box.TooLong source bytes))) = refl
cell_case moment (Box (Take half box.Closed)) = refl
cell_case moment (Box (Take half box.Nothing)) = refl
cell_case moment (Box (Take half (box.Datagram held source bytes))) = refl
cell_case moment (Box (Take half box.Fault)) = refl

cells_blank : (xs : List Entry) → filter_map cell_entry (map blank_entry xs) ≡ filter_map cell_entry xs
cells_blank xs = picked_mapped blank_entry cell_entry cell_entry xs (λ e. cell_case e.moment e.event)

holder_case : (v : Event) (rest more : List BoxEvent) → holder rest ≡ holder more → holder (cons_option (box_in v) rest) ≡ holder (cons_option (box_in (blank v)) more)
holder_case (Board b) rest more same = same
holder_case (Cell c) rest more same = same
holder_case (Box (Open leg)) rest more same = refl
holder_case (Box Close) rest more same = refl
holder_case (Box (Take half (box.TooLong source bytes))) rest more same = same
holder_case (Box (Take half box.Closed)) rest more same = same
holder_case (Box (Take half box.Nothing)) rest more same = same
holder_case (Box (Take half (box.Datagram held source bytes))) rest more same = same
holder_case (Box (Take half box.Fault)) rest more same = same

holder_blank : (xs : List Entry) → holder (filter_map box_event xs) ≡ holder (filter_map box_event (map blank_entry xs))
holder_blank [] = refl
holder_blank (x ∷ xs) = holder_case x.event (filter_map box_event xs) (filter_map box_event (map blank_entry xs)) (holder_blank xs)

moments_blank : (xs : List Entry) → map (λ (e : Entry). e.moment) (map blank_entry xs) ≡ map (λ (e : Entry). e.moment) xs
moments_blank [] = refl
moments_blank (x ∷ xs) = ap (λ (ns : List ℕ). x.moment ∷ ns) (moments_blank xs)

long_blank : (xs : List Entry) → length (map blank_entry xs) ≡ length xs
long_blank [] = refl
long_blank (x ∷ xs) = let k = long_blank xs in omega (arith, k)

above_front : (l : List Entry) (place : ℕ) → IsAbove l place (front l place)
above_front l place e i p = below_front l e place i p

pub alike_lists : (config : Config) (l k : List Entry) → SameLists l k → AlikeLists config l k
alike_lists config l k same = record {
  board = boards_blank (history l 0 (front l 0)) ∙ ap (filter_map board_entry) (same 0 (front l 0) (front k 0) (above_front l 0) (above_front k 0))
      ∙ sym (boards_blank (history k 0 (front k 0)));
  cells = λ place m n u v. sym (cells_blank (history l place m)) ∙ ap (filter_map cell_entry) (same place m n u v) ∙ cells_blank (history k place n);
  boxes = λ pair m n u v. holder_blank (history l (box_of config pair) m) ∙ ap (λ (xs : List Entry). holder (filter_map box_event xs)) (same (box_of config pair) m n u v)
      ∙ sym (holder_blank (history k (box_of config pair) n));
}

pub same_long : (l k : List Entry) → SameLists l k → (place m n : ℕ) → IsAbove l place m → IsAbove k place n → length (history l place m) ≡ length (history k place n)
same_long l k same place m n u v = sym (long_blank (history l place m)) ∙ ap length (same place m n u v) ∙ long_blank (history k place n)

pub same_latest : (l k : List Entry) → SameLists l k → (place m n : ℕ) → IsAbove l place m → IsAbove k place n → latest l place m ≡ latest k place n
same_latest l k same place m n u v =
    ap greatest (sym (moments_blank (history l place m)) ∙ ap (map (λ (e : Entry). e.moment)) (same place m n u v) ∙ moments_blank (history k place n))

-- One more entry.

-- nothing of the list stands at that number
none_at : (l : List Entry) (place k : ℕ) → ((e : Entry) → In e l → e.place ≡ place → e.number ≡ k → ⊥) → filter (is_at place k) l ≡ []
none_at l place k fails = filter_none (is_at place k) l (λ e i. false_if (is_at place k e) (λ t. let a = at_place place k e t in fails e i a.0 a.1))

beyond_by : (l : List Entry) (place m k : ℕ) → IsAbove l place m → (m ≤ k → history l place k ≡ history l place m) → (m < suc k) ⊎ (m ≡ suc k)
    → history l place (suc k) ≡ history l place m
beyond_by l place m k above rest (inl less) =
    ap (λ (es : List Entry). es ++ history l place k) (none_at l place k (λ e i p q. let a = above e i p in omega (arith, a, less, q)))
    ∙ rest (omega (arith, less))
beyond_by l place m k above rest (inr same) = ap (λ (n : ℕ). history l place n) (sym same)

-- from a number on that is above all, the history is the same
beyond : (l : List Entry) (place m n : ℕ) → IsAbove l place m → m ≤ n → history l place n ≡ history l place m
beyond l place m zero above low = ap (λ (k : ℕ). history l place k) (let z : zero ≡ m = omega (arith, low) in z)
beyond l place m (suc k) above low = beyond_by l place m k above (beyond l place m k above) (lt_or_eq m (suc k) (omega (arith, low)))

-- after an entry that is above all of its place stands what was before it
last_is : (l : List Entry) (e : Entry) (n : ℕ) → IsAbove l e.place e.number → e.number < n → history (l ++ e ∷ []) e.place n ≡ e ∷ history l e.place e.number
last_is l e n above low =
    let all : List Entry = l ++ e ∷ [] in
    beyond all e.place (suc e.number) n above_all (omega (arith, low))
    ∙ ap (λ (es : List Entry). es ++ history all e.place e.number)
    (filter_append (is_at e.place e.number) l (e ∷ [])
    ∙ ap (λ (es : List Entry). es ++ filter (is_at e.place e.number) (e ∷ []))
    (none_at l e.place e.number (λ f i p q. let a = above f i p in omega (arith, a, q)))
    ∙ filter_every (is_at e.place e.number) (e ∷ []) (λ f i. itself f i))
    ∙ ap (λ (es : List Entry). e ∷ es) (same_history l (e ∷ []) e.place e.number (λ f i p. not_below f i))
  where
    either : (f : Entry) → In f l ⊎ In f (e ∷ []) → f.place ≡ e.place → f.number < suc e.number
    either f (inl i) p = let a = above f i p in omega (arith, a)
    either f (inr (here q)) p = let z = ap (λ (x : Entry). x.number) q in omega (arith, z)
    either f (inr (there i)) p = elim i [ ]

    above_all : IsAbove (l ++ e ∷ []) e.place (suc e.number)
    above_all f i p = either f (in_append l (e ∷ []) i) p

    itself : (f : Entry) → In f (e ∷ []) → is_at e.place e.number f ≡ true
    itself f (here q) = is_there e.place e.number f (ap (λ (x : Entry). x.place) q) (ap (λ (x : Entry). x.number) q)
    itself f (there i) = elim i [ ]

    not_below : (f : Entry) → In f (e ∷ []) → e.number ≤ f.number
    not_below f (here q) = let z = ap (λ (x : Entry). x.number) q in omega (arith, z)
    not_below f (there i) = elim i [ ]

only_it : (l : List Entry) (e : Entry) (place m : ℕ) → IsAbove (l ++ e ∷ []) place m → e.place ≡ place → e.number < m
only_it l e place m above at = above e (in_right l (e ∷ []) (here refl)) at

not_it : (l : List Entry) (e : Entry) (place m : ℕ) → (e.place ≡ place → ⊥) → history (l ++ e ∷ []) place m ≡ history l place m
not_it l e place m other = elsewhere.same_history l (e ∷ []) place m (λ f i p. only f i p)
  where
    only : (f : Entry) → In f (e ∷ []) → f.place ≡ place → ⊥
    only f (here q) p = other (sym (ap (λ (x : Entry). x.place) q) ∙ p)
    only f (there i) p = elim i [ ]

differ : (a b : ℕ) → (a == b) ≡ false → a ≡ b → ⊥
differ a b is same = let k = equal a b same in let e : true ≡ false = sym k ∙ is in cc

module _ (l k : List Entry) (e f : Entry) (same : SameLists l k) (above : IsAbove l e.place e.number) (above_too : IsAbove k f.place f.number) (alike : blank_entry e ≡ blank_entry f) where
  place_is : e.place ≡ f.place
  place_is = ap (λ (x : Entry). x.place) alike

  at_it : (place m n : ℕ) → e.place ≡ place → IsAbove (l ++ e ∷ []) place m → IsAbove (k ++ f ∷ []) place n
      → map blank_entry (history (l ++ e ∷ []) place m) ≡ map blank_entry (history (k ++ f ∷ []) place n)
  at_it place m n at u v =
      let at_too : f.place ≡ place = sym place_is ∙ at in
      let left : history (l ++ e ∷ []) place m ≡ e ∷ history l e.place e.number =
      ap (λ (p : ℕ). history (l ++ e ∷ []) p m) (sym at) ∙ last_is l e m above (only_it l e place m u at) in
      let right : history (k ++ f ∷ []) place n ≡ f ∷ history k f.place f.number =
      ap (λ (p : ℕ). history (k ++ f ∷ []) p n) (sym at_too) ∙ last_is k f n above_too (only_it k f place n v at_too) in
      let before : map blank_entry (history l e.place e.number) ≡ map blank_entry (history k f.place f.number) =
      same e.place e.number f.number above (subst (λ (p : ℕ). IsAbove k p f.number) (sym place_is) above_too)
      ∙ ap (λ (p : ℕ). map blank_entry (history k p f.number)) place_is in
      ap (map blank_entry) left ∙ ap (λ (x : Entry). x ∷ map blank_entry (history l e.place e.number)) alike
      ∙ ap (λ (xs : List Entry). blank_entry f ∷ xs) before ∙ sym (ap (map blank_entry) right)

  at_other : (place m n : ℕ) → (e.place ≡ place → ⊥) → IsAbove (l ++ e ∷ []) place m → IsAbove (k ++ f ∷ []) place n
      → map blank_entry (history (l ++ e ∷ []) place m) ≡ map blank_entry (history (k ++ f ∷ []) place n)
  at_other place m n other u v =
      ap (map blank_entry) (not_it l e place m other)
      ∙ same place m n (λ x i p. u x (in_left l (e ∷ []) i) p) (λ x i p. v x (in_left k (f ∷ []) i) p)
      ∙ sym (ap (map blank_entry) (not_it k f place n (λ p. other (place_is ∙ p))))

  pub one_grown : SameLists (l ++ e ∷ []) (k ++ f ∷ [])
  one_grown place m n u v = by_case (e.place == place) refl
    where
      by_case : (b : Bool) → (e.place == place) ≡ b → map blank_entry (history (l ++ e ∷ []) place m) ≡ map blank_entry (history (k ++ f ∷ []) place n)
      by_case true is = at_it place m n (equal_if e.place place is) u v
      by_case false is = at_other place m n (differ e.place place is) u v

-- What the list says of a place after a nested step, there or elsewhere.
use Rattle.std.proofs.Common.{◌≡◌, refl, sym, ◌∙◌, ap, subst, ℕ, zero, suc, ◌<◌, ◌≤◌, ◌⊎◌, inl, inr, List, [], ◌∷◌, ◌++◌, true, Some, None, map, filter, arith}
use Rattle.std.specs.List.{filter_map, cons_option}
use Rattle.histories.specs.Words.{In, here, there}
use Rattle.histories.proofs.Lists.{in_append, in_left, in_right, maps}
use Rattle.relay_outside.specs.declared.settings.Config.{Config}
use Rattle.turn_table.specs.declared.hands.Hand.{Hand}
use Rattle.turn_table.specs.Hands.{entries}
use Rattle.turn_table.specs.declared.machine.Entry as table
use Rattle.port_pool.specs.declared.holder.Holder.{Holder}
use Rattle.port_pool.specs.Signals.{NewKey}
use Rattle.port_pool.specs.Boxes.{Open, holder}
use Rattle.call_cell.specs.declared.prepare.Prepare as prepared
use Rattle.call_cell.specs.Preparations.{CanCome}
use Rattle.call_cell.specs.Cells.{since_end, CellEvent, keys_of, key_numbered}
use Rattle.relay_core.specs.Entries.{Event, Box, Entry, is_at, history, cell_at, box_in, cell_entry, box_event, cell_history, box_history}
use Rattle.relay_core.specs.Scripts.{Owed, owed_by}
use Rattle.relay_core.specs.Records.{Made, list_of}
use Rattle.relay_core.specs.PlaceHistories.{BringsNewKeys}
use Rattle.relay_core.specs.Turns.{IsAbove, Rising, GainsNested, made_by}
use Rattle.relay_core.proofs.Boards.{lt_or_eq}
use Rattle.relay_core.proofs.Histories.{at_place, is_there}
use Rattle.relay_core.proofs.Shut.{same_history}
use Rattle.relay_core.proofs.Turns.{filter_append, filter_none, filter_every, false_if, nothing_more}
use Rattle.board_turns.specs.InCells.{HasNewKeys, CanPrepare, in_cell_of}
use Rattle.board_turns.proofs.Nesting.{map_rows}

-- Histories.

-- nothing of the list stands at that number
none_at : (l : List Entry) (place k : ℕ) → ((e : Entry) → In e l → e.place ≡ place → e.number ≡ k → ⊥) → filter (is_at place k) l ≡ []
none_at l place k fails = filter_none (is_at place k) l (λ e i. false_if (is_at place k e) (λ t. let a = at_place place k e t in fails e i a.0 a.1))

beyond_by : (l : List Entry) (place m k : ℕ) → IsAbove l place m → (m ≤ k → history l place k ≡ history l place m) → (m < suc k) ⊎ (m ≡ suc k)
    → history l place (suc k) ≡ history l place m
beyond_by l place m k above rest (inl less) =
    ap (λ (es : List Entry). es ++ history l place k) (none_at l place k (λ e i p q. let a = above e i p in omega (arith, a, less, q)))
    ∙ rest (omega (arith, less))
beyond_by l place m k above rest (inr same) = ap (λ (n : ℕ). history l place n) (sym same)

-- from a number on that is above all, the history is the same
beyond : (l : List Entry) (place m n : ℕ) → IsAbove l place m → m ≤ n → history l place n ≡ history l place m
beyond l place m zero above low = ap (λ (k : ℕ). history l place k) (let z : zero ≡ m = omega (arith, low) in z)
beyond l place m (suc k) above low = beyond_by l place m k above (beyond l place m k above) (lt_or_eq m (suc k) (omega (arith, low)))

order : (m n : ℕ) → (m ≤ n) ⊎ (n ≤ m)
order m n = grind arith

-- at any two such numbers
pub same_history_at : (l : List Entry) (place m n : ℕ) → IsAbove l place m → IsAbove l place n → history l place m ≡ history l place n
same_history_at l place m n above_m above_n = elim (order m n) [
  | inl low ↦ sym (beyond l place m n above_m low)
  | inr low ↦ beyond l place n m above_n low
]

below_it : (l : List Entry) (e : Entry) (place m : ℕ) → m ≤ e.number → history (l ++ e ∷ []) place m ≡ history l place m
below_it l e place zero low = refl
below_it l e place (suc k) low =
    let none : filter (is_at place k) (e ∷ []) ≡ [] = none_at (e ∷ []) place k (λ f i p q. only f i q) in
    ap (λ (es : List Entry). es ++ history (l ++ e ∷ []) place k)
    (filter_append (is_at place k) l (e ∷ []) ∙ ap (λ (es : List Entry). filter (is_at place k) l ++ es) none ∙ nothing_more (filter (is_at place k) l))
    ∙ ap (λ (es : List Entry). filter (is_at place k) l ++ es) (below_it l e place k (omega (arith, low)))
  where
    only : (f : Entry) → In f (e ∷ []) → f.number ≡ k → ⊥
    only f (here q) number = let z = ap (λ (x : Entry). x.number) q in omega (arith, z, number, low)
    only f (there i) number = elim i [ ]

-- after an entry that is above all of its place stands what was before it
last_is : (l : List Entry) (e : Entry) (n : ℕ) → IsAbove l e.place e.number → e.number < n → history (l ++ e ∷ []) e.place n ≡ e ∷ history l e.place e.number
last_is l e n above low =
    let all : List Entry = l ++ e ∷ [] in
    beyond all e.place (suc e.number) n above_all (omega (arith, low))
    ∙ ap (λ (es : List Entry). es ++ history all e.place e.number)
    (filter_append (is_at e.place e.number) l (e ∷ [])
    ∙ ap (λ (es : List Entry). es ++ filter (is_at e.place e.number) (e ∷ []))
    (none_at l e.place e.number (λ f i p q. let a = above f i p in omega (arith, a, q)))
    ∙ filter_every (is_at e.place e.number) (e ∷ []) (λ f i. itself f i))
    ∙ ap (λ (es : List Entry). e ∷ es) (below_it l e e.place e.number (omega arith))
  where
    either : (f : Entry) → In f l ⊎ In f (e ∷ []) → f.place ≡ e.place → f.number < suc e.number
    either f (inl i) p = let a = above f i p in omega (arith, a)
    either f (inr (here q)) p = let z = ap (λ (x : Entry). x.number) q in omega (arith, z)
    either f (inr (there i)) p = elim i [ ]

    above_all : IsAbove (l ++ e ∷ []) e.place (suc e.number)
    above_all f i p = either f (in_append l (e ∷ []) i) p

    itself : (f : Entry) → In f (e ∷ []) → is_at e.place e.number f ≡ true
    itself f (here q) = is_there e.place e.number f (ap (λ (x : Entry). x.place) q) (ap (λ (x : Entry). x.number) q)
    itself f (there i) = elim i [ ]

-- a number that is above all of the longer list is above all of the list
above_before : (l ns : List Entry) (place n : ℕ) → IsAbove (l ++ ns) place n → IsAbove l place n
above_before l ns place n above e i p = above e (in_left l ns i) p

-- One step.

-- the list gained one entry, which is this event
pub record IsLast (l : List Entry) (owed : Owed) (longer : List Entry) : Type 0 where
  pub entry : Entry
  pub longer_is : longer ≡ l ++ entry ∷ []
  pub owes : owed_by entry ≡ owed
  pub above : IsAbove l entry.place entry.number

one_entry : (l ns : List Entry) (owed : Owed) → map owed_by ns ≡ owed ∷ [] → Rising l ns → IsLast l owed (l ++ ns)
one_entry l [] owed owes rising = absurd (let e : [] ≡ owed ∷ [] = owes in cc)
one_entry l (e ∷ []) owed owes rising = record {
  entry = e;
  longer_is = refl;
  owes = let q : owed_by e ∷ [] ≡ owed ∷ [] = owes in cc;
  above = rising.0;
}
one_entry l (e ∷ f ∷ ns) owed owes rising = absurd (let q : owed_by e ∷ (owed_by f ∷ map owed_by ns) ≡ owed ∷ [] = owes in cc)

module _ {M S T : Type 0} {g : _} where
  pub gained_last : (number moment : ℕ) (owed : Owed) (old new : Hand M S Made T g) → GainsNested number moment (owed ∷ []) old new
      → IsLast (made_by old) owed (made_by new)
  gained_last number moment owed old new gains =
      subst (λ (l : List Entry). IsLast (made_by old) owed l)
      (sym (ap (λ (rows : List (table.Entry Made T)). list_of rows) gains.list_is ∙ map_rows (entries old) gains.rows))
      (one_entry (made_by old) (list_of gains.rows) owed gains.gained.owes gains.gained.rising)

-- The place of the step.

last_history : (l longer : List Entry) (owed : Owed) (n : ℕ) → (s : IsLast l owed longer) → IsAbove longer owed.place n
    → history longer owed.place n ≡ s.entry ∷ history l owed.place s.entry.number
last_history l longer owed n s above =
    let at : s.entry.place ≡ owed.place = ap (λ (o : Owed). o.place) s.owes in
    let e = s.entry in
    let low : e.number < n = above e (subst (λ (k : List Entry). In e k) (sym s.longer_is) (in_right l (e ∷ []) (here refl))) at in
    ap (λ (k : List Entry). history k owed.place n) s.longer_is
    ∙ subst (λ (k : ℕ). history (l ++ e ∷ []) k n ≡ e ∷ history l k e.number) at (last_is l e n s.above low)

-- a box that was opened is open, and one that was closed is shut
pub opened : (l longer : List Entry) (place : ℕ) (leg : Holder) → IsLast l (record { place = place; event = Box (Open leg) }) longer → (n : ℕ) → IsAbove longer place n
    → holder (box_history longer place n) ≡ Some leg
opened l longer place leg s n above =
    ap (λ (es : List Entry). holder (filter_map box_event es)) (last_history l longer (record { place = place; event = Box (Open leg) }) n s above)
    ∙ ap (λ (v : Event). holder (cons_option (box_in v) (box_history l place s.entry.number))) (ap (λ (o : Owed). o.event) s.owes)

-- the history of a cell has the step after what it had
pub cell_more : (l longer : List Entry) (place : ℕ) (event : CellEvent) → (s : IsLast l (in_cell_of place event) longer) → (n : ℕ) → IsAbove longer place n
    → cell_history longer place n ≡ (record { moment = s.entry.moment; event = event }) ∷ cell_history l place s.entry.number
cell_more l longer place event s n above =
    ap (λ (es : List Entry). filter_map cell_entry es) (last_history l longer (in_cell_of place event) n s above)
    ∙ ap (λ (v : Event). cons_option (cell_at s.entry.moment v) (cell_history l place s.entry.number)) (ap (λ (o : Owed). o.event) s.owes)

-- a step whose keys are new leaves the keys of its cell new
pub keys_after : (l longer : List Entry) (place : ℕ) (event : CellEvent) → (s : IsLast l (in_cell_of place event) longer) → HasNewKeys l place
    → ((key : NewKey) → In key (keys_of event) → key_numbered (cell_history l place s.entry.number) key.number ≡ None) → HasNewKeys longer place
keys_after l longer place event s keys new n above =
    let at : s.entry.place ≡ place = ap (λ (o : Owed). o.place) s.owes in
    subst BringsNewKeys (sym (cell_more l longer place event s n above))
    (new, keys s.entry.number (subst (λ (k : ℕ). IsAbove l k s.entry.number) at s.above))

-- Another place.

-- the list gained entries at other places
pub record IsElsewhere (l : List Entry) (place : ℕ) (longer : List Entry) : Type 0 where
  pub added : List Entry
  pub longer_is : longer ≡ l ++ added
  pub elsewhere : (e : Entry) → In e added → e.place ≡ place → ⊥

module _ {M S T : Type 0} {g : _} where
  pub gained_elsewhere : (number moment : ℕ) (events : List Owed) (place : ℕ) (old new : Hand M S Made T g) → GainsNested number moment events old new
      → ((owed : Owed) → In owed events → owed.place ≡ place → ⊥) → IsElsewhere (made_by old) place (made_by new)
  gained_elsewhere number moment events place old new gains others = record {
    added = list_of gains.rows;
    longer_is = ap (λ (rows : List (table.Entry Made T)). list_of rows) gains.list_is ∙ map_rows (entries old) gains.rows;
    elsewhere = λ e i p. others (owed_by e) (subst (λ (l : List Owed). In (owed_by e) l) gains.gained.owes (maps owed_by (list_of gains.rows) i)) p;
  }

other_history : (l longer : List Entry) (place n : ℕ) → (s : IsElsewhere l place longer) → history longer place n ≡ history l place n
other_history l longer place n s =
    ap (λ (k : List Entry). history k place n) s.longer_is ∙ same_history l s.added place n s.elsewhere

other_above : (l longer : List Entry) (place n : ℕ) → (s : IsElsewhere l place longer) → IsAbove longer place n → IsAbove l place n
other_above l longer place n s above =
    above_before l s.added place n (subst (λ (k : List Entry). IsAbove k place n) s.longer_is above)

-- what holds of a place's history holds after steps elsewhere
pub still : (P : List Entry → Type 0) (l longer : List Entry) (place : ℕ) → IsElsewhere l place longer → ((n : ℕ) → IsAbove l place n → P (history l place n))
    → (n : ℕ) → IsAbove longer place n → P (history longer place n)
still P l longer place s holds n above =
    subst P (sym (other_history l longer place n s)) (holds n (other_above l longer place n s above))

pub still_new : (l longer : List Entry) (place : ℕ) → IsElsewhere l place longer → HasNewKeys l place → HasNewKeys longer place
still_new l longer place s keys = still (λ (es : List Entry). BringsNewKeys (filter_map cell_entry es)) l longer place s keys

pub still_comes : {O : Type 0} (config : Config) (l longer : List Entry) (place : ℕ) (signal : prepared.Prepare O) (call : ℕ) (keys : List NewKey) (dropped : List ℕ)
    → IsElsewhere l place longer → CanPrepare config l place signal call keys dropped → CanPrepare config longer place signal call keys dropped
still_comes config l longer place signal call keys dropped s comes =
    still (λ (es : List Entry). CanCome config (since_end (filter_map cell_entry es)) signal call keys dropped) l longer place s comes

-- Steps of cells, by the hand's list.

none_among : {keys : List NewKey} → keys ≡ [] → (key : NewKey) → In key keys → ⊥
none_among q key i = elim (subst (λ (ks : List NewKey). In key ks) q i) [ ]

module _ {M S T : Type 0} {g : _} where
  -- an event that brings no key leaves the keys of its cell new
  pub keys_still : (number moment place : ℕ) (event : CellEvent) (old new : Hand M S Made T g) → GainsNested number moment (in_cell_of place event ∷ []) old new
      → keys_of event ≡ [] → HasNewKeys (made_by old) place → HasNewKeys (made_by new) place
  keys_still number moment place event old new gains none keys =
      keys_after (made_by old) (made_by new) place event (gained_last number moment (in_cell_of place event) old new gains) keys (λ key i. absurd (none_among none key i))

-- What each atomic step tells the hand that makes it: `m` and `m'` are the hand's seat before and after, `e` is the number found.
use Rattle.std.specs.Prelude.{◌≡◌, ◌≢◌, ℕ, ◌+◌, ◌-◌, ◌*◌, ◌^◌, ◌<◌, ◌≤◌, true, false, eqb, List, [], ◌∷◌, ◌++◌, length, slice_index, slice_get, Option, Some, None}
use Rattle.std.specs.Bool.{MatchBool}
use mathlib.Core.Option.{some}
use lib.ListN.{get_elem?}
use Rattle.atomic_table.specs.Table.{State, Me, Step, rest}
use Rattle.turn_table.specs.declared.machine.Entry.{Entry}
use Rattle.turn_table.specs.declared.view.View.{View}
use Rattle.turn_table.specs.declared.view.Phase.{Phase}
use Rattle.turn_table.specs.declared.view.Phase.TheVariants.{Nothing, Marked, Out, Held, Counted}
use Rattle.turn_table.specs.Histories.{IsMemberOf, seen_at, phase_at, Named, Leaves, IsHistory}
use Rattle.turn_table.specs.Layout.{column_rows, spot_of}
use Rattle.turn_table.specs.Invariant.{Kept}

abbrev pub Sat : Type 0 → Type 0 → Type 0 → Type 0
Sat S E O = Me (Option S) (View S E O)

abbrev pub At : Type 0 → Type 0
At S = Step (Option S)

abbrev pub entry : {E O : Type 0} → ℕ → ℕ → E → O → Entry E O
entry k n event outcome = record { place = k; number = n; event = event; outcome = outcome }

module _ {S : Type 0} where
  abbrev pub phase_number : Phase S → ℕ
  phase_number (Out n x) = n
  phase_number (Held n x) = n
  phase_number _ = 0

  -- the count was read
  abbrev pub with_read_count : ℕ → Phase S → Phase S
  with_read_count n (Marked x) = Out n x
  with_read_count n p = p

  -- the empty slot went home
  abbrev pub emptied_phase : Phase S → Phase S
  emptied_phase (Out n x) = Held n x
  emptied_phase p = p

  -- the empty slot is out again
  abbrev pub reached_phase : Phase S → Phase S
  reached_phase (Held n x) = Out n x
  reached_phase p = p

  -- the new state goes home from the seat's hands
  abbrev pub counted_phase : List (ℕ × Option S) → Phase S
  counted_phase ((k, Some y) ∷ c) = Counted y
  counted_phase c = Nothing

module _ {S E O : Type 0} where
  -- where the place k lies, by the start states that the hand knows
  abbrev pub spot_in : View S E O → ℕ → ℕ
  spot_in v k = spot_of (column_rows (length v.starts)) k

  -- the word is the mark, or the count, of the place k of the table
  abbrev pub IsMark : View S E O → ℕ → ℕ → Type 0
  IsMark v k word = (k < length v.starts) × (word ≡ 4 * spot_in v k)

  abbrev pub HasCount : View S E O → ℕ → ℕ → Type 0
  HasCount v k word = (k < length v.starts) × (word ≡ 4 * spot_in v k + 1)

  abbrev pub noted : ℕ → ℕ → View S E O → View S E O
  noted k n v = record v { seen = (k, n) ∷ v.seen }

  -- the mark of the place k was tried, and n was found there
  abbrev pub tried : ℕ → ℕ → View S E O → View S E O
  tried k n v = record v { tries = (k, n) ∷ v.tries }

  abbrev pub phased : ℕ → Phase S → View S E O → View S E O
  phased k p v = record v { turns = (k, p) ∷ v.turns }

  abbrev pub gained : Entry E O → View S E O → View S E O
  gained e v = record v { entries = v.entries ++ e ∷ [] }

  -- a hand with one part is cut off
  abbrev pub cut_left : View S E O → View S E O
  cut_left v = record v { parts = v.parts - 1 }

  abbrev pub cut_right : View S E O → View S E O
  cut_right v = record { starts = v.starts; entries = []; seen = v.seen; tries = []; parts = 1; main = false; turns = [] }

  abbrev pub glued : View S E O → View S E O → View S E O
  glued v w = record v { entries = v.entries ++ w.entries; seen = v.seen ++ w.seen; tries = v.tries ++ w.tries; parts = v.parts + w.parts }

-- At one moment, in which the rule held and this hand knew what it knows, the place's mark was set, and another hand had the place's turn
pub record WasTaken {S E O : Type 0} (relates : S → E → O → S → Type 0) (reserved : E → Type 0) (k : ℕ) (v : View S E O) : Type 0 where
  pub state : State (Option S) (View S E O)
  pub kept : Kept relates reserved v.starts state
  pub mark : slice_index state.words (4 * spot_in v k) ≡ 1
  pub seat : ℕ
  pub mine : get_elem? state.views seat ≡ some v
  pub other : ℕ
  pub view : View S E O
  pub theirs : get_elem? state.views other ≡ some view
  pub apart : other ≢ seat
  pub has : phase_at view.turns k ≢ Nothing

-- The state x is what the place's history leaves. It has n entries, the hand's own of this place among them, at their numbers; and, for the main hand, each of its reserved entries is the hand's own,
-- for a hand with all parts each of its entries
pub record GivenView {S E O : Type 0} (relates : S → E → O → S → Type 0) (reserved : E → Type 0) (k : ℕ) (v : View S E O) (n : ℕ) (x : S) : Type 0 where
  pub history : List (Entry E O)
  pub long : length history ≡ n
  pub start : S
  pub starts : slice_get v.starts k ≡ Some start
  pub leaves : Leaves relates start history x
  pub named : Named k history
  pub own : (e : Entry E O) → IsMemberOf e v.entries → e.place ≡ k → slice_get history e.number ≡ Some e
  pub above : (e : Entry E O) → IsMemberOf e v.entries → e.place ≡ k → e.number < n
  pub main : v.main ≡ true → (i : ℕ) (e : Entry E O) → slice_get history i ≡ Some e → reserved e.event → IsMemberOf e v.entries
  pub whole : v.parts ≡ 1024 → (i : ℕ) (e : Entry E O) → slice_get history i ≡ Some e → IsMemberOf e v.entries

-- each entry of this knowledge stands at a place of the table, and of each place its list has the whole history
pub record AreKnown {S E O : Type 0} (v : View S E O) : Type 0 where
  pub range : (e : Entry E O) → IsMemberOf e v.entries → e.place < length v.starts
  pub histories : (k : ℕ) (a : S) → slice_get v.starts k ≡ Some a → (history : List (Entry E O)) × IsHistory v.entries k history

module _ {S E O : Type 0} where
  -- the load by a hand with all parts, which has the whole history of each place
  abbrev pub surveyed : At S → Sat S E O → ℕ → Sat S E O → Type 0
  surveyed st m e m' = (m' ≡ m) × (m.0.parts ≡ 1024 → AreKnown m.0)

  -- The compare-exchange of a mark, the one step that adds to the tries. It notes what it found there: 0, and the mark is set, and the state is out with this seat; or 1, and another hand had the turn
  abbrev pub marked : (S → E → O → S → Type 0) → (E → Type 0) → At S → Sat S E O → ℕ → Sat S E O → Type 0
  marked relates reserved st m e m' = (k : ℕ) → IsMark m.0 k st.word →
      MatchBool (eqb e 0) ((x : S) × (m' ≡ (phased k (Marked x) (tried k 0 m.0), (spot_in m.0 k, Some x) ∷ m.1))) ((e ≡ 1) × (m' ≡ (tried k 1 m.0, m.1)) × WasTaken relates reserved k m.0)

  abbrev pub looked : At S → Sat S E O → ℕ → Sat S E O → Type 0
  looked st m e m' = (k : ℕ) → HasCount m.0 k st.word → (m' ≡ (noted k e m.0, m.1)) × (seen_at m.0.seen k ≤ e) × (e ≤ 2 ^ 56)

  abbrev pub count_read : (S → E → O → S → Type 0) → (E → Type 0) → At S → Sat S E O → ℕ → Sat S E O → Type 0
  count_read relates reserved st m e m' = (k : ℕ) → HasCount m.0 k st.word →
      (m' ≡ (phased k (with_read_count e (phase_at m.0.turns k)) (noted k e m.0), m.1)) × (seen_at m.0.seen k ≤ e) × (e ≤ 2 ^ 56)
      × ((x : S) → phase_at m.0.turns k ≡ Marked x → GivenView relates reserved k m.0 e x)

  -- the state goes home unchanged, and the mark is free
  abbrev pub put_back : At S → Sat S E O → ℕ → Sat S E O → Type 0
  put_back st m e m' = (k : ℕ) → IsMark m.0 k st.word → m' ≡ (phased k Nothing m.0, rest m.1)

  abbrev pub emptied : At S → Sat S E O → ℕ → Sat S E O → Type 0
  emptied st m e m' = (k : ℕ) → IsMark m.0 k st.word → m' ≡ (phased k (emptied_phase (phase_at m.0.turns k)) m.0, rest m.1)

  abbrev pub reached : At S → Sat S E O → ℕ → Sat S E O → Type 0
  reached st m e m' = (k : ℕ) → IsMark m.0 k st.word →
      (m' ≡ (phased k (reached_phase (phase_at m.0.turns k)) m.0, (spot_in m.0 k, None) ∷ m.1)) × ((n : ℕ) (x : S) → phase_at m.0.turns k ≡ Held n x → n < 2 ^ 56)

  -- the new state goes home, the count is raised, and the entry is this hand's
  abbrev pub finished : E → O → At S → Sat S E O → ℕ → Sat S E O → Type 0
  finished event outcome st m e m' = (k : ℕ) → HasCount m.0 k st.word →
      (m' ≡ (phased k (counted_phase m.1) (noted k e (gained (entry k (phase_number (phase_at m.0.turns k)) event outcome) m.0)), rest m.1))
      × (seen_at m.0.seen k ≤ phase_number (phase_at m.0.turns k))

  abbrev pub freed : At S → Sat S E O → ℕ → Sat S E O → Type 0
  freed st m e m' = (k : ℕ) → IsMark m.0 k st.word → m' ≡ (phased k Nothing m.0, m.1)

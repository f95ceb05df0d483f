-- The words of the public contracts: what a hand knows, and what a call does to it.
use Rattle.std.specs.Prelude.{◌≡◌, ◌≢◌, ◌⊎◌, ℕ, ◌+◌, ◌^◌, ◌<◌, ◌≤◌, true, false, max, List, [], ◌∷◌, ◌++◌, length, Some, slice_get}
use Rattle.turn_table.specs.declared.machine.Entry.{Entry}
use Rattle.turn_table.specs.declared.view.View.{View}
use Rattle.turn_table.specs.declared.view.Phase.TheVariants.{Nothing, Held}
use Rattle.turn_table.specs.declared.hands.Turns.{Turns}
use Rattle.turn_table.specs.declared.hands.Hand.{Hand}
use Rattle.turn_table.specs.declared.hands.Turn.{Turn}
use Rattle.turn_table.specs.Histories.{IsMemberOf, seen_at, phase_at, Leaves, IsHistory}
use Rattle.turn_table.specs.Steps.{entry, WasTaken, GivenView, AreKnown}

module _ {M S E O : Type 0} {g : _} where
  -- all that a hand knows
  abbrev pub view : Hand M S E O g → View S E O
  view h = h.seat.me.0

  -- the table's start states, by place
  abbrev pub starts : Hand M S E O g → List S
  starts h = (view h).starts

  -- the entries that the hand made, or that were joined into it
  abbrev pub entries : Hand M S E O g → List (Entry E O)
  entries h = (view h).entries

  -- what the hand has seen of the front of the place k
  abbrev pub seen : Hand M S E O g → ℕ → ℕ
  seen h k = seen_at (view h).seen k

  -- the marks that the hand tried, each with its place and the number found there, the newest first
  abbrev pub tries : Hand M S E O g → List (ℕ × ℕ)
  tries h = (view h).tries

  abbrev pub parts : Hand M S E O g → ℕ
  parts h = (view h).parts

  abbrev pub IsMain : Hand M S E O g → Type 0
  IsMain h = (view h).main ≡ true

  abbrev pub HasPlace : Hand M S E O g → ℕ → Type 0
  HasPlace h k = phase_at (view h).turns k ≢ Nothing

  -- the hand doesn't have the turn of the place k
  abbrev pub LacksPlace : Hand M S E O g → ℕ → Type 0
  LacksPlace h k = phase_at (view h).turns k ≡ Nothing

  abbrev pub HasNoTurn : Hand M S E O g → Type 0
  HasNoTurn h = (k : ℕ) → LacksPlace h k

  abbrev pub IsHandOf : Turns M S E O → Hand M S E O g → Type 0
  IsHandOf t h = h.seat.table_id ≡ t.table.shared.table_id

  -- a hand of the same table, with the same parts, and main where the other is
  abbrev pub IsSameHand : Hand M S E O g → Hand M S E O g → Type 0
  IsSameHand h h' = (h'.seat.table_id ≡ h.seat.table_id) × (starts h' ≡ starts h) × (parts h' ≡ parts h) × ((view h').main ≡ (view h).main)

  -- the place is in range, and above each place whose turn the hand has
  abbrev pub MayTurn : Hand M S E O g → ℕ → Type 0
  MayTurn h k = (k < length (starts h)) × ((j : ℕ) → HasPlace h j → j < k)

  abbrev pub SameTurns : Hand M S E O g → Hand M S E O g → Type 0
  SameTurns h h' = (j : ℕ) → phase_at (view h').turns j ≡ phase_at (view h).turns j

  abbrev pub SameTurnsBut : ℕ → Hand M S E O g → Hand M S E O g → Type 0
  SameTurnsBut k h h' = (j : ℕ) → j ≢ k → phase_at (view h').turns j ≡ phase_at (view h).turns j

  -- of the place k it has now seen n, and of the others what it had seen
  abbrev pub Sees : ℕ → ℕ → Hand M S E O g → Hand M S E O g → Type 0
  Sees k n h h' = (seen h' k ≡ n) × ((j : ℕ) → j ≢ k → seen h' j ≡ seen h j)

  -- one compare-exchange of a mark was made, that of the place k, and it found n there: 0 where the mark was free, and 1 where it was taken
  abbrev pub TriedOnce : ℕ → ℕ → Hand M S E O g → Hand M S E O g → Type 0
  TriedOnce k n h h' = tries h' ≡ (k, n) ∷ tries h

  -- no mark but that of the place k was tried, however often
  abbrev pub TriedOnly : ℕ → Hand M S E O g → Hand M S E O g → Type 0
  TriedOnly k h h' = (ts : List (ℕ × ℕ)) × (tries h' ≡ ts ++ tries h) × ((t : ℕ × ℕ) → IsMemberOf t ts → t.0 ≡ k)

  -- the mark of the place k alone was tried, and at the last it was free
  abbrev pub TriedUntilFree : ℕ → Hand M S E O g → Hand M S E O g → Type 0
  TriedUntilFree k h h' = (ts : List (ℕ × ℕ)) × (tries h' ≡ (k, 0) ∷ ts ++ tries h) × ((t : ℕ × ℕ) → IsMemberOf t ts → t.0 ≡ k)

  -- the place's mark, tried once, was free, and its front n isn't the last
  abbrev pub FoundFree : ℕ → ℕ → Hand M S E O g → Hand M S E O g → Type 0
  FoundFree k n h h' = TriedOnce k 0 h h' × (n < 2 ^ 56)

  -- the place's mark, tried once, was taken, and another hand had the place's turn then; or it was free and the front n is the last
  abbrev pub FoundBusy : (S → E → O → S → Type 0) → (E → Type 0) → ℕ → ℕ → Hand M S E O g → Hand M S E O g → Type 0
  FoundBusy relates reserved k n h h' = (TriedOnce k 1 h h' × WasTaken relates reserved k (view h)) ⊎ (TriedOnce k 0 h h' × (n ≡ 2 ^ 56))

module _ {M S E O : Type 0} where
  abbrev pub place_of : Turn M S E O → ℕ
  place_of t = t.place

  abbrev pub front_of : Turn M S E O → ℕ
  front_of t = t.front

  -- the state as it is, and as it was taken
  abbrev pub state_of : Turn M S E O → S
  state_of t = t.state

  abbrev pub taken_of : Turn M S E O → S
  taken_of t = t.taken.value

module _ {M S E O : Type 0} {g : _} where
  -- the hand has this very turn
  abbrev pub HasTurn : Hand M S E O g → Turn M S E O → Type 0
  HasTurn h t = (place_of t < length (starts h)) × (phase_at (view h).turns (place_of t) ≡ Held (front_of t) (taken_of t))

  -- the hand now has the turn of the place k, and no other turn began or ended
  abbrev pub GainsTurn : ℕ → Turn M S E O → Hand M S E O g → Hand M S E O g → Type 0
  GainsTurn k t h h' = (place_of t ≡ k) × (taken_of t ≡ state_of t) × (front_of t < 2 ^ 56) × (seen h k ≤ front_of t) × HasTurn h' t × SameTurnsBut k h h' × Sees k (front_of t) h h'

  -- the state x, given at the front n of the place k, is what the entries before it leave
  abbrev pub IsGiven : (S → E → O → S → Type 0) → (E → Type 0) → Hand M S E O g → ℕ → ℕ → S → Type 0
  IsGiven relates reserved h k n x = GivenView relates reserved k (view h) n x

  -- no turn was gained, since another hand had it or the numbers of the place are spent
  abbrev pub IsBusy : (S → E → O → S → Type 0) → (E → Type 0) → ℕ → ℕ → Hand M S E O g → Hand M S E O g → Type 0
  IsBusy relates reserved k n h h' = (WasTaken relates reserved k (view h) ⊎ (n ≡ 2 ^ 56)) × (n ≤ 2 ^ 56) × (seen h k ≤ n) × SameTurns h h' × Sees k n h h'

  -- the entry with the number n of the place k is made, and the turn is over
  abbrev pub EndsTurn : ℕ → ℕ → E → O → Hand M S E O g → Hand M S E O g → Type 0
  EndsTurn k n event outcome h h' = (entries h' ≡ entries h ++ entry k n event outcome ∷ []) × (seen h k ≤ n) × LacksPlace h' k × SameTurnsBut k h h' × Sees k (n + 1) h h'

module _ {M S E O : Type 0} {g : _} where
  -- the hand of a table that began with these states: the main one, with all parts, and no entry or turn
  abbrev pub IsFirstHand : List S → Hand M S E O g → Type 0
  IsFirstHand states h = (starts h ≡ states) × (entries h ≡ []) × (parts h ≡ 1024) × IsMain h × HasNoTurn h × ((k : ℕ) → seen h k ≡ 0) × (tries h ≡ [])

  -- the hand from which one part was split
  abbrev pub IsLeft : Hand M S E O g → Hand M S E O g → Type 0
  IsLeft h h' = (h'.seat.table_id ≡ h.seat.table_id) × (starts h' ≡ starts h) × (entries h' ≡ entries h) × (parts h' + 1 ≡ parts h) × ((view h').main ≡ (view h).main) × HasNoTurn h' × ((k : ℕ) → seen h' k ≡ seen h k) × (tries h' ≡ tries h)

  -- the hand that was split from h
  abbrev pub IsCut : Hand M S E O g → Hand M S E O g → Type 0
  IsCut h new = (new.seat.table_id ≡ h.seat.table_id) × (starts new ≡ starts h) × (entries new ≡ []) × (parts new ≡ 1) × ((view new).main ≡ false) × HasNoTurn new × ((k : ℕ) → seen new k ≡ seen h k) × (tries new ≡ [])

  -- the hand h, after it took in the other
  abbrev pub IsJoined : Hand M S E O g → Hand M S E O g → Hand M S E O g → Type 0
  IsJoined h other h' = (h'.seat.table_id ≡ h.seat.table_id) × (starts h' ≡ starts h) × (entries h' ≡ entries h ++ entries other) × (parts h' ≡ parts h + parts other) × ((view h').main ≡ (view h).main) × HasNoTurn h' × ((k : ℕ) → seen h' k ≡ max (seen h k) (seen other k)) × (tries h' ≡ tries h ++ tries other)

  -- of each place the hand's list has the whole history, and nothing else stands there
  abbrev pub KnowsAll : Hand M S E O g → Type 0
  KnowsAll h = AreKnown (view h)

  -- the hand as it was
  abbrev pub IsUnchanged : Hand M S E O g → Hand M S E O g → Type 0
  IsUnchanged h h' = (h'.seat.table_id ≡ h.seat.table_id) × (view h' ≡ view h)

  -- each entry stands at a place of the table
  abbrev pub AreInRange : Hand M S E O g → Type 0
  AreInRange h = (e : Entry E O) → IsMemberOf e (entries h) → e.place < length (starts h)

  -- of each place, the hand's list has the whole history, and the state is what it leaves
  abbrev pub IsClosed : (S → E → O → S → Type 0) → Hand M S E O g → List S → Type 0
  IsClosed relates h states = (k : ℕ) (a : S) → slice_get (starts h) k ≡ Some a → (history : List (Entry E O)) × (x : S) × (slice_get states k ≡ Some x) × Leaves relates a history x × IsHistory (entries h) k history

-- Who may make nested steps may take the turns of cells and boxes, and may make more after each.
use Rattle.std.proofs.Common.{◌≡◌, ◌≢◌, refl, sym, ◌∙◌, ap, subst, ℕ, ◌+◌, ◌<◌, ◌≤◌, ◌++◌, List, [], ◌∷◌, length, length-append, arith, append_assoc, Bool, true, false, eqb, eqb-true, ◌⊎◌, inl, inr}
use Rattle.std.proofs.lemmas.Bool.{eqb-false}
use Rattle.relay_outside.specs.declared.settings.Config.{Config}
use Rattle.turn_table.specs.declared.machine.Entry as table
use Rattle.turn_table.specs.declared.hands.Turns.{Turns}
use Rattle.turn_table.specs.declared.hands.Hand.{Hand}
use Rattle.turn_table.specs.Histories as table_lists
use Rattle.turn_table.specs.declared.view.Phase.{Phase}
use Rattle.turn_table.specs.declared.view.Phase.TheVariants.{Nothing, Marked, Out, Held, Counted}
use Rattle.turn_table.specs.Histories.{phase_at}
use Rattle.turn_table.specs.Hands.{IsSameHand, SameTurns, HasPlace, SameTurnsBut, MayTurn, LacksPlace, GainsTurn, EndsTurn, place_of, front_of, view, entries, starts}
use Rattle.turn_table.specs.declared.hands.Turn.{Turn}
use Rattle.turn_table.specs.Steps.{entry}
use Rattle.port_pool.specs.Ports.{pair_count}
use Rattle.relay_core.specs.declared.part.Part.{Part}
use Rattle.relay_core.specs.Entries.{Event, Entry}
use Rattle.relay_core.specs.Scripts.{Owed}
use Rattle.relay_core.specs.Records.{Left, Made, entry_of, list_of}
use Rattle.relay_core.specs.FirstPlaces.{AreParts}
use Rattle.relay_core.specs.WholeParts.{AreWholeParts}
use Rattle.relay_core.specs.Turns.{Numbered, IsAbove, GainedOwed, GainsNested, made_by}
use Rattle.relay_core.proofs.Own.{IsRow, in_rows}
use Rattle.relay_core.proofs.Gains.{gained_nothing, gained_one, gained_more, rising_numbered}
use Rattle.relay_core.proofs.Turns.{nothing_more}
use Rattle.board_turns.specs.NestedSteps.{MayNest, leaving, AddsRow}

module _ {I O : Type 0} where
  -- how many places there are
  pub parts_count : (config : Config) (parts : List (Part I O)) → AreParts config parts → length parts ≡ 1 + (config.max_sessions + pair_count config)
  parts_count config parts are =
      let all = ap length are.parts_are in
      let both = length-append are.cells are.boxes in
      let cells = are.cell_count in
      let boxes = are.box_count in
      omega (arith, all, both, cells, boxes)

module _ {M I O T : Type 0} {g : _} where
  -- the turn of any place but the board's may be taken
  pub may_turn : (config : Config) (turns : Turns M (Part I O) Made T) (hand : Hand M (Part I O) Made T g) (place : ℕ) → MayNest config turns hand
      → 1 ≤ place → place < 1 + (config.max_sessions + pair_count config) → MayTurn hand place
  may_turn config turns hand place may low high =
      let count = parts_count config (starts hand) may.parts in
      (omega (arith, count, high), λ j has. let z = may.alone j has in omega (arith, z, low))

in_both : {T : Type 0} {row : table.Entry Made T} (xs ys : List (table.Entry Made T)) → table_lists.IsMemberOf row (xs ++ ys)
    → table_lists.IsMemberOf row xs ⊎ table_lists.IsMemberOf row ys
in_both [] ys i = inr i
in_both (x ∷ xs) ys (table_lists.here q) = inl (table_lists.here q)
in_both (x ∷ xs) ys (table_lists.there i) = elim (in_both xs ys i) [ inl a ↦ inl (table_lists.there a) | inr b ↦ inr b ]

pub map_rows : {T : Type 0} (xs ys : List (table.Entry Made T)) → list_of (xs ++ ys) ≡ list_of xs ++ list_of ys
map_rows [] ys = refl
map_rows (x ∷ xs) ys = ap (λ (zs : List Entry). entry_of x ∷ zs) (map_rows xs ys)

above_row : {T : Type 0} (rows : List (table.Entry Made T)) (place n : ℕ) (e : Entry) → IsRow e rows
    → ((row : table.Entry Made T) → table_lists.IsMemberOf row rows → row.place ≡ place → row.number < n) → e.place ≡ place → e.number < n
above_row rows place n e found above p =
    let at : found.row.place ≡ place = ap (λ (x : Entry). x.place) found.is ∙ p in
    let low = above found.row found.is_in at in
    let same = ap (λ (x : Entry). x.number) found.is in
    omega (arith, low, same)

-- above all rows of a place
pub above_rows : {T : Type 0} (rows : List (table.Entry Made T)) (place n : ℕ)
    → ((row : table.Entry Made T) → table_lists.IsMemberOf row rows → row.place ≡ place → row.number < n) → IsAbove (list_of rows) place n
above_rows rows place n above e i p = above_row rows place n e (in_rows rows i) above p

only_row : {T : Type 0} (made : table.Entry Made T) (moment : ℕ) → made.event.handed ≡ moment → (row : table.Entry Made T)
    → table_lists.IsMemberOf row (made ∷ []) → row.event.handed ≡ moment
only_row made moment h row (table_lists.here q) = ap (λ (x : table.Entry Made _). x.event.handed) q ∙ h
only_row made moment h row (table_lists.there i) = elim i [ ]

module _ {M S T : Type 0} {g : _} where
  -- a list that gains one entry
  pub gains_one : (number moment place n last : ℕ) (event : Event) (left : Left) (outcome : T) (old new : Hand M S Made T g)
      → IsAbove (made_by old) place n → entries new ≡ entries old ++ entry place n (leaving number moment last event left) outcome ∷ []
      → GainsNested number moment ((record { place = place; event = event }) ∷ []) old new
  gains_one number moment place n last event left outcome old new above is =
      let row = entry place n (leaving number moment last event left) outcome in
      record {
        rows = row ∷ [];
        list_is = is;
        gained = gained_one (made_by old) number (entry_of row) refl above;
        handed = λ r i. only_row row moment refl r i;
      }

  -- nothing yet
  pub gains_nothing : (number moment : ℕ) (hand : Hand M S Made T g) → GainsNested number moment [] hand hand
  gains_nothing number moment hand = record {
    rows = [];
    list_is = sym (nothing_more (entries hand));
    gained = gained_nothing (made_by hand) number;
    handed = λ row i. elim i [ ];
  }

  -- entries one after the other
  pub gains_more : (number moment : ℕ) (events more : List Owed) (old mid new : Hand M S Made T g) → GainsNested number moment events old mid
      → GainsNested number moment more mid new → GainsNested number moment (events ++ more) old new
  gains_more number moment events more old mid new a b =
      let made : made_by mid ≡ made_by old ++ list_of a.rows = ap (λ (rows : List (table.Entry Made T)). list_of rows) a.list_is ∙ map_rows (entries old) a.rows in
      record {
        rows = a.rows ++ b.rows;
        list_is = b.list_is ∙ ap (λ (rows : List (table.Entry Made T)). rows ++ b.rows) a.list_is ∙ append_assoc (entries old) a.rows b.rows;
        gained = subst (λ (l : List Entry). GainedOwed (made_by old) number (events ++ more) l) (sym (map_rows a.rows b.rows))
            (gained_more (made_by old) number events more (list_of a.rows) (list_of b.rows) a.gained
            (subst (λ (l : List Entry). GainedOwed l number more (list_of b.rows)) made b.gained));
        handed = λ row i. either row (in_both a.rows b.rows i);
      }
    where
      either : (row : table.Entry Made T) → table_lists.IsMemberOf row a.rows ⊎ table_lists.IsMemberOf row b.rows → row.event.handed ≡ moment
      either row (inl i) = a.handed row i
      either row (inr i) = b.handed row i

  -- each entry of the longer list still has its number of its place alone
  pub still_numbered : (number moment : ℕ) (events : List Owed) (old new : Hand M S Made T g) → Numbered (made_by old)
      → GainsNested number moment events old new → Numbered (made_by new)
  still_numbered number moment events old new numbered gains =
      subst Numbered
      (sym (ap (λ (rows : List (table.Entry Made T)). list_of rows) gains.list_is ∙ map_rows (entries old) gains.rows))
      (rising_numbered (made_by old) (list_of gains.rows) numbered gains.gained.rising)

module _ {M I O T : Type 0} {g : _} where
  -- so the hand may make more nested steps
  pub may_still : (config : Config) (turns : Turns M (Part I O) Made T) (number moment : ℕ) (events : List Owed) (old new : Hand M (Part I O) Made T g)
      → MayNest config turns old → IsSameHand old new → SameTurns old new → GainsNested number moment events old new → MayNest config turns new
  may_still config turns number moment events old new may same held gains = record {
    of_table = same.0 ∙ may.of_table;
    main = same.3 ∙ may.main;
    alone = λ k has. may.alone k (λ q. has (held k ∙ q));
    parts = subst (λ (l : List (Part I O)). AreParts config l) (sym same.1) may.parts;
    whole_parts = subst (λ (l : List (Part I O)). AreWholeParts config l) (sym same.1) may.whole_parts;
    numbered = still_numbered number moment events old new may.numbered gains;
  }

-- A turn was taken and put back.

lacks_if : {S : Type 0} (p : Phase S) → (p ≢ Nothing → ⊥) → p ≡ Nothing
lacks_if Nothing fails = refl
lacks_if (Marked s) fails = absurd (fails (λ q. cc))
lacks_if (Out n s) fails = absurd (fails (λ q. cc))
lacks_if (Held n s) fails = absurd (fails (λ q. cc))
lacks_if (Counted s) fails = absurd (fails (λ q. cc))

module _ {M S E O : Type 0} {g : _} where
  pub same_again : (a b c : Hand M S E O g) → IsSameHand a b → IsSameHand b c → IsSameHand a c
  same_again a b c p q = (q.0 ∙ p.0, q.1 ∙ p.1, q.2 ∙ p.2, q.3 ∙ p.3)

  held_by : (old mid new : Hand M S E O g) (place : ℕ) → ((j : ℕ) → HasPlace old j → j < place) → SameTurnsBut place old mid → SameTurnsBut place mid new → LacksPlace new place
      → (j : ℕ) (t : Bool) → eqb j place ≡ t → phase_at (view new).turns j ≡ phase_at (view old).turns j
  held_by old mid new place may first second lacks j true q =
      let same : j ≡ place = eqb-true j place q in
      let here_now : phase_at (view new).turns j ≡ Nothing = subst (λ (k : ℕ). phase_at (view new).turns k ≡ Nothing) (sym same) lacks in
      here_now ∙ sym (lacks_if (phase_at (view old).turns j) (λ has. let low = may j has in omega (arith, low, same)))
  held_by old mid new place may first second lacks j false q =
      let other : j ≢ place = eqb-false j place q in
      second j other ∙ first j other

  -- the hand has the turns that it had
  pub held_again : (old mid new : Hand M S E O g) (place : ℕ) → ((j : ℕ) → HasPlace old j → j < place) → SameTurnsBut place old mid → SameTurnsBut place mid new → LacksPlace new place
      → SameTurns old new
  held_again old mid new place may first second lacks j = held_by old mid new place may first second lacks j (eqb j place) refl

module _ {M I O T : Type 0} {g : _} where
  abbrev GainsOne : ℕ → ℕ → ℕ → Event → Hand M (Part I O) Made T g → Hand M (Part I O) Made T g → Type 0
  GainsOne number moment place event old new = GainsNested number moment ((record { place = place; event = event }) ∷ []) old new

  -- the turn of the place was taken, and put back with this step
  pub turn_gained : (number moment last place found : ℕ) (event : Event) (left : Left) (outcome : T) (old mid new : Hand M (Part I O) Made T g)
      (turn : Turn M (Part I O) Made T) → found ≡ place → IsAbove (made_by old) found (front_of turn)
      → IsSameHand old mid × (entries mid ≡ entries old) → GainsTurn found turn old mid
      → EndsTurn (place_of turn) (front_of turn) (leaving number moment last event left) outcome mid new → GainsOne number moment place event old new
  turn_gained number moment last place found event left outcome old mid new turn at above same turned ended =
      let made = leaving number moment last event left in
      let row : ℕ → table.Entry Made T = λ (k : ℕ). entry k (front_of turn) made outcome in
      subst (λ (k : ℕ). GainsOne number moment k event old new) at
      (gains_one number moment found (front_of turn) last event left outcome old new above
      (ended.0 ∙ ap (λ (rows : List (table.Entry Made T)). rows ++ row (place_of turn) ∷ []) same.1
      ∙ ap (λ (k : ℕ). entries old ++ row k ∷ []) turned.0))

  -- so its list gained the row of the step
  pub turn_row : (number moment last place found : ℕ) (event : Event) (left : Left) (outcome : T) (old mid new : Hand M (Part I O) Made T g)
      (turn : Turn M (Part I O) Made T) → found ≡ place → IsSameHand old mid × (entries mid ≡ entries old) → GainsTurn found turn old mid
      → EndsTurn (place_of turn) (front_of turn) (leaving number moment last event left) outcome mid new → AddsRow place event left old new
  turn_row number moment last place found event left outcome old mid new turn at same turned ended =
      let row = entry (place_of turn) (front_of turn) (leaving number moment last event left) outcome in
      record {
        row = row;
        list_is = ended.0 ∙ ap (λ (rows : List (table.Entry Made T)). rows ++ row ∷ []) same.1;
        place_is = turned.0 ∙ at;
        event_is = refl;
        left_is = refl;
      }

  -- then the hand has the turns that it had
  pub turn_same : (config : Config) (turns : Turns M (Part I O) Made T) (found : ℕ) (made : Made) (outcome : T)
      (old mid new : Hand M (Part I O) Made T g) (turn : Turn M (Part I O) Made T) → MayNest config turns old → 1 ≤ found
      → IsSameHand old mid × (entries mid ≡ entries old) → GainsTurn found turn old mid → IsSameHand mid new
      → EndsTurn (place_of turn) (front_of turn) made outcome mid new → IsSameHand old new × SameTurns old new
  turn_same config turns found made outcome old mid new turn may low same turned again ended =
      let at : place_of turn ≡ found = turned.0 in
      let but : SameTurnsBut found mid new = subst (λ (k : ℕ). SameTurnsBut k mid new) at ended.3 in
      let lacks : LacksPlace new found = subst (λ (k : ℕ). LacksPlace new k) at ended.2 in (
        same_again old mid new same.0 again,
        held_again old mid new found (λ j has. let z = may.alone j has in omega (arith, z, low)) turned.5 but lacks,
      )

  -- and may make more nested steps
  pub turn_may : (config : Config) (turns : Turns M (Part I O) Made T) (number moment last place found : ℕ) (event : Event) (left : Left) (outcome : T)
      (old mid new : Hand M (Part I O) Made T g) (turn : Turn M (Part I O) Made T) → MayNest config turns old → 1 ≤ found
      → IsSameHand old mid × (entries mid ≡ entries old) → GainsTurn found turn old mid → IsSameHand mid new
      → EndsTurn (place_of turn) (front_of turn) (leaving number moment last event left) outcome mid new → GainsOne number moment place event old new
      → MayNest config turns new
  turn_may config turns number moment last place found event left outcome old mid new turn may low same turned again ended gains =
      let kept = turn_same config turns found (leaving number moment last event left) outcome old mid new turn may low same turned again ended in
      may_still config turns number moment ((record { place = place; event = event }) ∷ []) old new may kept.0 kept.1 gains

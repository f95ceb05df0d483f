-- What a list without an entry says of each place, and of what comes first.
use Rattle.std.proofs.Common.{◌≡◌, refl, sym, ◌∙◌, ap, subst, ℕ, zero, suc, ◌<◌, ◌≤◌, Bool, false, not, cond, List, [], ◌∷◌, ◌++◌, Option, Some, map, filter, arith}
use Rattle.std.specs.Prelude.{slice_index_or}
use Rattle.std.specs.List.{AllPairs, filter_map}
use Rattle.relay_outside.specs.declared.ports.OutCall.{OutCall}
use Rattle.relay_outside.specs.declared.settings.Config.{Config}
use Rattle.relay_outside.specs.DeviceLogs.{EndLog}
use Rattle.histories.specs.Words.{In, here, there}
use Rattle.histories.proofs.Lists.{equal, maps}
use Rattle.turn_table.specs.declared.hands.Hand.{Hand}
use Rattle.turn_table.specs.Hands.{starts}
use Rattle.port_pool.specs.declared.holder.Holder.{Holder}
use Rattle.port_pool.specs.declared.signal.SectionSignal.{SectionSignal}
use Rattle.port_pool.specs.Signals.{NewKey, is_rejected}
use Rattle.port_pool.specs.Ports.{pair_count}
use Rattle.call_cell.specs.declared.leg.Leg.{Leg}
use Rattle.call_cell.specs.declared.prepare.Prepare as prepared
use Rattle.call_cell.specs.Cells.{CellEvent, CellEntry, Prepare, Commit, Relay, Expire, Read, End, key_numbered, since_end}
use Rattle.call_cell.specs.Shapes.{CellLegShape, CellShape, IsSmall, answered_leg, cell_leg_shapes, key_number_at, with_key_numbers}
use Rattle.call_cell.specs.Commits.{contexts_due_after}
use Rattle.call_shapes.specs.Events.{brought_shape, holder_by, section_flags, shape_after_event, shape_by}
use Rattle.call_cell.specs.Preparations.{CanCome, AreTwo, PrepareFor, added}
use Rattle.relay_core.specs.declared.part.Part.{Part}
use Rattle.relay_core.specs.declared.part.Part.TheVariants as part
use Rattle.relay_core.specs.Entries.{Entry, history, front, cell_history, box_history, cell_entry, box_of}
use Rattle.relay_core.specs.FirstPlaces.{AreParts}
use Rattle.relay_core.specs.Records.{Made}
use Rattle.relay_core.specs.PlaceHistories.{BringsNewKeys}
use Rattle.relay_core.specs.Steps.{AreOpened}
use Rattle.relay_core.specs.Scripts.{open_owed}
use Rattle.relay_core.specs.Turns.{GainsNested, made_by}
use Rattle.relay_core.specs.WholeParts.{AreWholeParts, cell_shape_at, shape_of_part, holder_of_part, box_holder_at}
use Rattle.relay_core.proofs.Given.{begins_as}
use Rattle.relay_core.proofs.KeptGained.{hand_cells, hand_holders}
use Rattle.relay_core.proofs.KeptScripts.{opened_for}
use Rattle.board_turns.specs.NestedSteps.{holder_now, IsShut}
use Rattle.board_turns.specs.Departures.{cell_kept}
use Rattle.board_turns.specs.InCells.{HasNewKeys, CanPrepare, HasRoomForContexts, in_cell_of}
use Rattle.board_turns.proofs.After.{gained_last, keys_after}

-- no place has a history
nothing_there : (place n : ℕ) → history [] place n ≡ []
nothing_there place zero = refl
nothing_there place (suc n) = nothing_there place n

nothing_at : (l : List Entry) → l ≡ [] → (place n : ℕ) → history l place n ≡ []
nothing_at l none place n = ap (λ (k : List Entry). history k place n) none ∙ nothing_there place n

-- each box is shut
pub first_shut : {M I O T : Type 0} {g : _} (config : Config) (hand : Hand M (Part I O) Made T g) (pair : ℕ) → AreParts config (starts hand) → AreWholeParts config (starts hand)
    → made_by hand ≡ [] → pair < pair_count config → IsShut config hand pair
first_shut config hand pair parts whole none below =
    let box = whole.boxes pair below in
    let begins = begins_as config (starts hand) parts (box_of config pair) (part.Pair box.0) box.1 in
    ap (λ (l : List Entry). holder_by (box_history l (box_of config pair) (front l (box_of config pair))) (box_holder_at config (starts hand) pair)) none
    ∙ ap holder_of_part box.1 ∙ sym begins.1.0.holder_is

-- one that is opened is open
pub opened_now : {M I O T : Type 0} {g : _} (config : Config) (number moment : ℕ) (leg : Holder) (old new : Hand M (Part I O) Made T g) → starts new ≡ starts old
    → GainsNested number moment (open_owed config leg ∷ []) old new → holder_now config new leg.pair ≡ Some leg
opened_now config number moment leg old new same gains =
    hand_holders config number moment (open_owed config leg ∷ []) old new same gains leg.pair
    ∙ opened_for config (leg ∷ []) (holder_now config old) leg (here refl) (λ a b i j same. only a i ∙ sym (only b j))
  where
    only : (x : Holder) → In x (leg ∷ []) → x ≡ leg
    only x (here q) = q
    only x (there i) = elim i [ ]

cell_nothing : (l : List Entry) (place n : ℕ) → l ≡ [] → cell_history l place n ≡ []
cell_nothing l place n none = ap (λ (es : List Entry). filter_map cell_entry es) (nothing_at l none place n)

pub first_new : (l : List Entry) (place : ℕ) → l ≡ [] → HasNewKeys l place
first_new l place none n above = subst BringsNewKeys (sym (cell_nothing l place n none)) tt

-- so the keys that come first are new
pub new_first : {M S T : Type 0} {g : _} (number moment place : ℕ) (event : CellEvent) (old new : Hand M S Made T g)
    → GainsNested number moment (in_cell_of place event ∷ []) old new → made_by old ≡ [] → HasNewKeys (made_by new) place
new_first number moment place event old new gains none =
    let last = gained_last number moment (in_cell_of place event) old new gains in
    keys_after (made_by old) (made_by new) place event last (first_new (made_by old) place none)
    (λ key i. ap (λ (h : List CellEntry). key_numbered h key.number) (cell_nothing (made_by old) place last.entry.number none))

pub first_room : (l : List Entry) (place : ℕ) (signal : List SectionSignal) (contexts : ℕ) → l ≡ [] → HasRoomForContexts l place signal contexts
first_room l place signal contexts none n above =
    let due = ap (λ (h : List CellEntry). contexts_due_after (since_end h) signal) (cell_nothing l place n none) in
    omega (arith, due)

-- An offer without a leg.

no_leg : {O : Type 0} (signal : prepared.Prepare O) → added signal ≡ [] → (leg : Holder) → In leg (added signal) → ⊥
no_leg signal none leg i = elim (subst (λ (l : List Holder). In leg l) none i) [ ]

pub first_opened : {O : Type 0} (log : O → EndLog OutCall) (config : Config) (signal : prepared.Prepare O) → added signal ≡ [] → AreOpened log config signal
first_opened {O} log config signal none leg i = absurd (no_leg signal none leg.holder (maps (λ (l : Leg O). l.holder) signal.legs.items i))

comes_first : {O : Type 0} (config : Config) (signal : prepared.Prepare O) (call : ℕ) (key : NewKey) (dropped : List ℕ) → added signal ≡ []
    → CanCome config [] signal call (key ∷ []) dropped
comes_first {O} config signal call key dropped none = record {
  sections = λ leg i. absurd (no_leg signal none leg.holder (maps (λ (x : Leg O). x.holder) signal.legs.items i));
  ports = λ leg i half. absurd (no_leg signal none leg.holder (maps (λ (x : Leg O). x.holder) signal.legs.items i));
  families = λ leg i. absurd (no_leg signal none leg.holder (maps (λ (x : Leg O). x.holder) signal.legs.items i));
  differ = subst (λ (l : List Holder). AllPairs AreTwo l) (sym none) (λ i j d less below. absurd (omega (arith, below)));
  new_lease = λ leg other i j. absurd (no_leg signal none leg i);
  free_place = λ leg other i j. absurd (no_leg signal none leg i);
  one_each = λ leg i. absurd (no_leg signal none leg i);
  new_number = λ k i. refl;
  numbers_differ = λ k other i j same. only k i ∙ sym (only other j);
}
  where
    only : (k : NewKey) → In k (key ∷ []) → k ≡ key
    only k (here q) = q
    only k (there i) = elim i [ ]

pub first_comes : {O : Type 0} (config : Config) (l : List Entry) (place : ℕ) (signal : prepared.Prepare O) (call : ℕ) (key : NewKey) (keys : List NewKey)
    (dropped : List ℕ) → l ≡ [] → added signal ≡ [] → keys ≡ key ∷ [] → CanPrepare config l place signal call keys dropped
first_comes config l place signal call key keys dropped none legs one n above =
    subst (λ (h : List CellEntry). CanCome config (since_end h) signal call keys dropped) (sym (cell_nothing l place n none))
    (subst (λ (ks : List NewKey). CanCome config [] signal call ks dropped) (sym one) (comes_first config signal call key dropped legs))

pub tells_same : {O : Type 0} (signal : prepared.Prepare O) (keys others : List NewKey) (dropped more : List ℕ) → others ≡ keys → more ≡ dropped
    → PrepareFor signal keys dropped → PrepareFor signal others more
tells_same signal keys others dropped more same again tells =
    subst (λ (ks : List NewKey). PrepareFor signal ks more) (sym same) (subst (λ (ds : List ℕ). PrepareFor signal keys ds) (sym again) tells)

-- A cell without a leg.

abbrev BringsNone : CellEvent → Type 0
BringsNone (Prepare call legs keys dropped) = legs ≡ []
BringsNone _ = Unit {0}

keyed_none : (keys : List NewKey) → with_key_numbers keys [] ≡ []
keyed_none [] = refl
keyed_none (key ∷ keys) = ap (λ (legs : List CellLegShape). key_number_at key.section key.side key.suite (Some key.number) legs) (keyed_none keys)

none_after : (event : CellEvent) (shape : CellShape) → BringsNone event → shape.legs ≡ [] → (shape_after_event event shape).legs ≡ []
none_after (Prepare call legs keys dropped) shape none is =
    ap (λ (l : List CellLegShape). with_key_numbers keys
    (filter (λ (leg : CellLegShape). not (slice_index_or (section_flags dropped) leg.holder.section false)) l ++ map (brought_shape shape.config) legs)) is
    ∙ ap (λ (ls : List Holder). with_key_numbers keys (map (brought_shape shape.config) ls)) none
    ∙ keyed_none keys
none_after (Commit signal) shape none is =
    ap (λ (l : List CellLegShape). map (answered_leg signal) (filter (λ (leg : CellLegShape). not (is_rejected signal leg.holder.section)) l)) is
none_after (Relay x) shape none is = is
none_after (Expire due) shape none is = is
none_after (Read reports) shape none is = is
none_after End shape none is = refl

no_leg_of : {O : Type 0} (those : List (Leg O)) → map (λ (leg : Leg O). leg.holder) those ≡ [] → those ≡ []
no_leg_of [] is = refl
no_leg_of (leg ∷ those) is = absurd (let q = is in cc)

module _ {M I O T : Type 0} {g : _} where
  -- each cell begins so
  pub none_first : (config : Config) (hand : Hand M (Part I O) Made T g) (place : ℕ) → AreParts config (starts hand) → AreWholeParts config (starts hand)
      → made_by hand ≡ [] → 1 ≤ place → place ≤ config.max_sessions → (cell_kept config hand place).legs ≡ []
  none_first config hand place parts whole none low high =
      let c = whole.cells place low high in
      let begins = begins_as config (starts hand) parts place (part.Cell c.0) c.1 in
      ap (λ (l : List Entry). (shape_by (cell_history l place (front l place)) (cell_shape_at config (starts hand) place)).legs) none
      ∙ ap (λ (o : Option (Part I O)). (shape_of_part config o).legs) c.1
      ∙ ap (λ (those : List (Leg O)). cell_leg_shapes those) (no_leg_of c.0.legs.items begins.2.legs_for.holders)

  -- and stays so by an event that brings none
  pub none_still : (config : Config) (number moment place : ℕ) (event : CellEvent) (old new : Hand M (Part I O) Made T g) → starts new ≡ starts old
      → GainsNested number moment (in_cell_of place event ∷ []) old new → BringsNone event → (cell_kept config old place).legs ≡ [] → (cell_kept config new place).legs ≡ []
  none_still config number moment place event old new same gains none is =
      let before = cell_kept config old place in
      ap (λ (s : CellShape). s.legs)
      (hand_cells config number moment (in_cell_of place event ∷ []) old new same gains place
      ∙ ap (λ (b : Bool). cond b (shape_after_event event before) before) (equal place place refl))
      ∙ none_after event before none is

-- so it is small
pub small_none : (legs : List CellLegShape) → legs ≡ [] → IsSmall legs
small_none legs is = subst IsSmall (sym is) (record { few = omega arith; sections = λ leg i. elim i [ ] })

-- What a relay's places hold at first goes together: the board has no calls, all pairs are free, the cells are empty and the boxes shut.
use Rattle.std.proofs.Common.{◌≡◌, refl, sym, ◌∙◌, ap, ℕ, suc, ◌+◌, ◌<◌, ◌≤◌, Bool, false, List, ◌++◌, [], ◌∷◌, Option, Some, None, map, length, append_assoc, arith, slice_get}
use Rattle.std.proofs.lemmas.List.{length-append}
use Rattle.relay_outside.specs.declared.settings.Config.{Config}
use Rattle.turn_table.proofs.Lists.{get_there}
use Rattle.rtp_packet.specs.declared.head.Half.TheVariants.{Rtp}
use Rattle.port_pool.specs.Ports.{pair_count, port_address}
use Rattle.call_cell.specs.declared.cell.Cell as cell
use Rattle.call_cell.specs.declared.leg.Leg.{Leg}
use Rattle.call_cell.specs.CellHistories.{CellFor}
use Rattle.call_cell.specs.Shapes.{cell_shape, cell_leg_shapes, ended_shape}
use Rattle.call_board.specs.declared.board.Board as board
use Rattle.call_board.specs.Shapes.{IsFreshShape, board_shape}
use Rattle.call_shapes.proofs.Starting.{fresh_whole}
use Rattle.relay_core.specs.declared.part.Part.{Part}
use Rattle.relay_core.specs.declared.part.Part.TheVariants as part
use Rattle.relay_core.specs.Entries.{box_of}
use Rattle.relay_core.specs.FirstPlaces.{AreParts, AddsCells, AddsBoxes, BeginsAs, pair_at}
use Rattle.relay_core.specs.WholeParts.{HasCell, HasBox, AreWholeParts, shape_of_part, holder_of_part, cell_shape_at, box_holder_at}
use Rattle.relay_core.proofs.Given.{begins_as}

-- A cell without a history.

pub no_items : {A B : Type 0} (f : A → B) (xs : List A) → map f xs ≡ [] → xs ≡ []
no_items f [] q = refl
no_items f (x ∷ xs) q = absurd (let p : f x ∷ map f xs ≡ [] = q in cc)

first_shape : {O : Type 0} (config : Config) (c : cell.Cell O) → CellFor config c [] → cell_shape c ≡ ended_shape config
first_shape {O} config c for =
    let none : c.legs.items ≡ [] = no_items (λ (leg : Leg O). leg.holder) c.legs.items for.legs_for.holders in
    ap (λ (k : Config). record { config = k; call = c.call; is_committed = c.is_committed; legs = cell_leg_shapes c.legs.items }) for.config_is
    ∙ ap (λ (n : Option ℕ). record { config = config; call = n; is_committed = c.is_committed; legs = cell_leg_shapes c.legs.items }) for.call_is
    ∙ ap (λ (b : Bool). record { config = config; call = None; is_committed = b; legs = cell_leg_shapes c.legs.items }) for.is_committed
    ∙ ap (λ (those : List (Leg O)). record { config = config; call = None; is_committed = false; legs = cell_leg_shapes those }) none

module _ {I O : Type 0} where
  parts_many : (config : Config) (parts : List (Part I O)) → AreParts config parts → length parts ≡ config.max_sessions + 1 + pair_count config
  parts_many config parts are =
      let all : length parts ≡ suc (length (are.cells ++ are.boxes)) = ap length are.parts_are in
      let both = length-append are.cells are.boxes in
      let cells = are.cell_count in
      let boxes = are.box_count in
      omega (arith, all, both, cells, boxes)

  cell_there : (config : Config) (parts : List (Part I O)) (k : ℕ) (x : Part I O) → 1 ≤ k → k ≤ config.max_sessions → slice_get parts k ≡ Some x → BeginsAs config k x
      → HasCell parts k × (cell_shape_at config parts k ≡ ended_shape config)
  cell_there config parts k (part.Cell c) low high q is =
      ((c, q), ap (λ (o : Option (Part I O)). shape_of_part config o) q ∙ first_shape config c is.2)
  cell_there config parts k (part.Board b) low high q is = absurd (let at = is.0 in omega (arith, at, low))
  cell_there config parts k (part.Pair b) low high q is = absurd (let at = is.0 in omega (arith, at, high))

  box_there : (config : Config) (parts : List (Part I O)) (pair : ℕ) (x : Part I O) → slice_get parts (box_of config pair) ≡ Some x → BeginsAs config (box_of config pair) x
      → HasBox config parts pair × (box_holder_at config parts pair ≡ None)
  box_there config parts pair (part.Pair box) q is =
      let same : pair_at config (box_of config pair) ≡ pair = omega arith in (
        (box, q, is.1.2, is.1.3 ∙ ap (λ (p : ℕ). port_address config p Rtp) same),
        ap holder_of_part q ∙ sym is.1.0.holder_is,
      )
  box_there config parts pair (part.Board b) q is = absurd (let at = is.0 in omega (arith, at))
  box_there config parts pair (part.Cell c) q is = absurd (let at = is.1 in omega (arith, at))

  -- the board stands in front
  pub board_first : (config : Config) (b : board.Board) (none one two three : List (Part I O)) → none ≡ [] → one ≡ none ++ part.Board b ∷ []
      → AddsCells config one two config.max_sessions → AddsBoxes config two three (pair_count config) → slice_get three 0 ≡ Some (part.Board b)
  board_first config b none one two three empty first cells boxes =
      let is : three ≡ part.Board b ∷ (cells.added ++ boxes.added) = boxes.is
      ∙ ap (λ (xs : List (Part I O)). xs ++ boxes.added) (cells.is ∙ ap (λ (xs : List (Part I O)). xs ++ cells.added) (first ∙ ap (λ (xs : List (Part I O)). xs ++ part.Board b ∷ []) empty))
      ∙ append_assoc (part.Board b ∷ []) cells.added boxes.added in
      ap (λ (xs : List (Part I O)). slice_get xs 0) is

  pub first_whole : (config : Config) (parts : List (Part I O)) (b : board.Board) → AreParts config parts → slice_get parts 0 ≡ Some (part.Board b)
      → IsFreshShape config (board_shape b) → AreWholeParts config parts
  first_whole config parts b are at fresh =
      let many = parts_many config parts are in
      let cell_at : (k : ℕ) → 1 ≤ k → k ≤ config.max_sessions → HasCell parts k × (cell_shape_at config parts k ≡ ended_shape config)
      = λ k low high. (let there = get_there parts k (omega (arith, many, high)) in
      cell_there config parts k there.0 low high there.1 (begins_as config parts are k there.0 there.1)) in
      let box_at : (pair : ℕ) → pair < pair_count config → HasBox config parts pair × (box_holder_at config parts pair ≡ None)
      = λ pair low. (let there = get_there parts (box_of config pair) (omega (arith, many, low)) in
      box_there config parts pair there.0 there.1 (begins_as config parts are (box_of config pair) there.0 there.1)) in
      record {
        count_is = many;
        board = b;
        board_is = at;
        cells = λ k low high. (cell_at k low high).0;
        boxes = λ pair low. (box_at pair low).0;
        whole = fresh_whole config (record { board = board_shape b; cells = cell_shape_at config parts; holders = box_holder_at config parts }) are.families
            (record { board = fresh; cells = λ k low high. (cell_at k low high).1; boxes = λ pair low. (box_at pair low).1 });
      }

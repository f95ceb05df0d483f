-- What the places of a relay hold before its first step.
use Rattle.std.specs.Prelude.{◌≡◌, ◌≤◌, ◌<◌, ◌+◌, ◌-◌, ℕ, suc, List, [], ◌∷◌, ◌++◌, length, None}
use Rattle.relay_outside.specs.declared.settings.Config.{Config}
use Rattle.relay_outside.specs.Settings.{AreFamilies}
use Rattle.rtp_packet.specs.declared.head.Half.TheVariants.{Rtp}
use Rattle.port_pool.specs.Ports.{pair_count, port_address}
use Rattle.port_pool.specs.PairBoxes.{BoxFor, ends_in, at_of, cells_of}
use Rattle.call_cell.specs.CellHistories.{CellFor}
use Rattle.call_board.specs.declared.board.Board as board
use Rattle.call_board.specs.Boards.{BoardFor}
use Rattle.relay_core.specs.declared.part.Part.{Part}
use Rattle.relay_core.specs.declared.part.Part.TheVariants as part

-- the pair of the box at a place
abbrev pub pair_at : Config → (place : ℕ) → ℕ
pair_at config place = place - (config.max_sessions + 1)

module _ {I O : Type 0} where
  abbrev pub IsCell : Config → Part I O → Type 0
  IsCell config (part.Cell cell) = CellFor config cell []
  IsCell config _ = ⊥

  -- the box of the pair whose place is k
  abbrev pub IsBox : Config → (k : ℕ) → Part I O → Type 0
  IsBox config k (part.Pair box) =
      BoxFor box [] × (ends_in box ≡ None) × (cells_of box ≡ config.max_sessions) × (at_of box ≡ port_address config (pair_at config k) Rtp)
  IsBox config k _ = ⊥

  -- cells without a history
  abbrev pub AreCells : Config → List (Part I O) → Type 0
  AreCells config [] = Unit {0}
  AreCells config (x ∷ xs) = IsCell config x × AreCells config xs

  -- closed boxes without a history, from the place k on
  abbrev pub AreBoxes : Config → (k : ℕ) → List (Part I O) → Type 0
  AreBoxes config k [] = Unit {0}
  AreBoxes config k (x ∷ xs) = IsBox config k x × AreBoxes config (suc k) xs

  -- `count` cells, or boxes, were appended
  pub record AddsCells (config : Config) (old new : List (Part I O)) (count : ℕ) : Type 0 where
    pub added : List (Part I O)
    pub is : new ≡ old ++ added
    pub as_many : length added ≡ count
    pub are : AreCells config added

  pub record AddsBoxes (config : Config) (old new : List (Part I O)) (count : ℕ) : Type 0 where
    pub added : List (Part I O)
    pub is : new ≡ old ++ added
    pub as_many : length added ≡ count
    pub are : AreBoxes config (config.max_sessions + 1) added

  -- Each interface has an address of its family, and these are the board, a cell for each call that may be live, and the box of each
  -- port pair.
  pub record AreParts (config : Config) (parts : List (Part I O)) : Type 0 where
    pub families : AreFamilies config
    pub board : board.Board
    pub cells : List (Part I O)
    pub boxes : List (Part I O)
    pub parts_are : parts ≡ part.Board board ∷ (cells ++ boxes)
    pub board_for : BoardFor config board []
    pub cell_count : length cells ≡ config.max_sessions
    pub are_cells : AreCells config cells
    pub box_count : length boxes ≡ pair_count config
    pub are_boxes : AreBoxes config (config.max_sessions + 1) boxes

  -- what the place k holds at first
  abbrev pub BeginsAs : Config → ℕ → Part I O → Type 0
  BeginsAs config k (part.Board board) = (k ≡ 0) × BoardFor config board []
  BeginsAs config k (part.Cell cell) = (1 ≤ k) × (k ≤ config.max_sessions) × IsCell config (part.Cell cell)
  BeginsAs config k (part.Pair box) = (config.max_sessions < k) × IsBox config k (part.Pair box)

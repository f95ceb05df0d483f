-- What a box stands for.
use Rattle.std.specs.Prelude.{◌≡◌, ◌≤◌, ℕ, List, Option, Some, None, IfSome}
use Rattle.relay_outside.specs.declared.address.Addr.{Addr}
use Rattle.port_pool.specs.declared.holder.Holder.{Holder}
use Rattle.port_pool.specs.declared.boxes.Opened.{Opened}
use Rattle.port_pool.specs.declared.boxes.PairBox.{PairBox}
use Rattle.port_pool.specs.Boxes.{BoxEvent, holder}

module _ {I : Type 0} where
  abbrev pub holder_of : Option (Opened I) → Option Holder
  holder_of None = None
  holder_of (Some opened) = Some opened.holder

  abbrev pub pair_ends : Option (Opened I) → Option (I × I)
  pair_ends None = None
  pair_ends (Some opened) = Some (opened.rtp, opened.rtcp)

  -- the leg that holds the box, where it is open
  abbrev pub holder_in : PairBox I → Option Holder
  holder_in box = holder_of box.opened

  -- the ends for RTP and for RTCP, where it is open
  abbrev pub ends_in : PairBox I → Option (I × I)
  ends_in box = pair_ends box.opened

  -- the address of the pair's port for RTP
  abbrev pub at_of : PairBox I → Addr
  at_of box = box.at

  -- how many cells there are, numbered from 1
  abbrev pub cells_of : PairBox I → ℕ
  cells_of box = box.cells

  -- the box stands for this history: it has the holder, whose cell is one of the cells
  pub record BoxFor (box : PairBox I) (h : List BoxEvent) : Type 0 where
    pub holder_is : holder h ≡ holder_in box
    pub cell_is : IfSome (holder_in box) (λ leg. (1 ≤ leg.cell) × (leg.cell ≤ cells_of box))

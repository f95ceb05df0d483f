-- What the close of the table returns goes together, where what the hand's list leaves does.
use Rattle.std.proofs.Common.{◌≡◌, refl, sym, ◌∙◌, ap, subst, ℕ, ◌<◌, ◌≤◌, true, List, [], ◌∷◌, ◌++◌, Option, Some, None, map, length, arith, slice_get}
use Rattle.std.proofs.lemmas.Option.{slice_get_within}
use Rattle.relay_outside.specs.declared.ports.InCall.{InCall}
use Rattle.relay_outside.specs.declared.ports.OutCall.{OutCall}
use Rattle.relay_outside.specs.declared.settings.Config.{Config}
use Rattle.relay_outside.specs.DeviceLogs.{EndLog}
use Rattle.turn_table.specs.declared.machine.Entry as table
use Rattle.turn_table.specs.declared.view.View.{View}
use Rattle.turn_table.specs.Histories.{Leaves, IsHistory}
use Rattle.histories.specs.Words.{In, here, there}
use Rattle.rtp_packet.specs.declared.head.Half.TheVariants.{Rtp}
use Rattle.port_pool.specs.declared.holder.Holder.{Holder}
use Rattle.port_pool.specs.Ports.{pair_count, port_address}
use Rattle.port_pool.specs.declared.boxes.PairBox.{PairBox}
use Rattle.port_pool.specs.PairBoxes.{cells_of, at_of}
use Rattle.call_cell.specs.declared.cell.Cell as cell
use Rattle.call_board.specs.declared.board.Board as board
use Rattle.call_cell.specs.Shapes.{CellShape, CellLegShape}
use Rattle.call_board.specs.Shapes.{BoardShape, LiveShape, board_shape}
use Rattle.call_shapes.specs.Agreement.{CallAgrees}
use Rattle.call_shapes.specs.WholeRelay.{AreWhole, held_legs, PoolHolds, holder_among}
use Rattle.call_shapes.proofs.Needs.{cell_within}
use Rattle.relay_core.specs.declared.part.Part.{Part}
use Rattle.relay_core.specs.declared.part.Part.TheVariants as part
use Rattle.relay_core.specs.Entries.{box_of}
use Rattle.relay_core.specs.Records.{Made, list_of}
use Rattle.relay_core.specs.Turns.{Numbered}
use Rattle.relay_core.specs.PartShapes.{board_shape_in}
use Rattle.relay_core.specs.WholeParts.{AreWholeParts, HasCell, HasBox, shape_of_part, holder_of_part, cell_shape_at, box_holder_at}
use Rattle.relay_core.specs.KeptAfter.{cell_shape_after, holder_after, board_shape_after}
use Rattle.relay_core.proofs.Shaped.{HasShape, HasHolder}
use Rattle.relay_core.proofs.Closed.{AreClosed, InRange, in_range, whole_of, closed_numbered}
use Rattle.relay_core.proofs.Given.{Gives}
use Rattle.relay_core.proofs.Stays.{Steps}
use Rattle.relay_core.proofs.KeptGiven.{kept_board, kept_cell, kept_box, kept_box_at, IsBoxAt}

-- Only the cells of live calls, those from 1 to the count and the boxes of the range are looked at.

legs_alike : (cells others : ℕ → CellShape) (calls : List LiveShape) → ((call : LiveShape) → In call calls → others call.cell ≡ cells call.cell)
    → held_legs others calls ≡ held_legs cells calls
legs_alike cells others [] same = refl
legs_alike cells others (call ∷ calls) same =
    ap (λ (shape : CellShape). map (λ (leg : CellLegShape). leg.holder) shape.legs ++ held_legs others calls) (same call (here refl))
    ∙ ap (λ (legs : List Holder). map (λ (leg : CellLegShape). leg.holder) (cells call.cell).legs ++ legs) (legs_alike cells others calls (λ c i. same c (there i)))

within_alike : (config : Config) (board : BoardShape) (cells others : ℕ → CellShape) (holders new : ℕ → Option Holder)
    → ((k : ℕ) → 1 ≤ k → k ≤ config.max_sessions → others k ≡ cells k) → ((pair : ℕ) → pair < pair_count config → new pair ≡ holders pair)
    → AreWhole config board cells holders → AreWhole config board others new
within_alike config board cells others holders new same_cells same_boxes whole =
    let of_call : (call : LiveShape) → In call board.calls → others call.cell ≡ cells call.cell
    = λ call i. let at = cell_within config board cells holders call whole i in same_cells call.cell at.0 at.1 in
    let legs = legs_alike cells others board.calls of_call in
    record {
      families = whole.families;
      config_is = whole.config_is;
      numbers = whole.numbers;
      apart = whole.apart;
      low = whole.low;
      marked = whole.marked;
      calls = λ call i. subst (λ (shape : CellShape). CallAgrees config call.cell call.number call.dialog shape) (sym (of_call call i)) (whole.calls call i);
      empty = λ k low high none. same_cells k low high ∙ whole.empty k low high none;
      pool = subst (λ (held : List Holder). PoolHolds config board.pool held) (sym legs) whole.pool;
      held = λ pair within. same_boxes pair within ∙ whole.held pair within ∙ ap (λ (held : List Holder). holder_among held pair) (sym legs);
    }

module _ {T I O : Type 0} (it : I → EndLog InCall) (ic : I → ℕ) (ot : O → EndLog OutCall) (oc : O → ℕ) where
  -- what a hand with all parts knows when the table is closed
  abbrev closing_view : List (Part I O) → List (table.Entry Made T) → View (Part I O) Made T
  closing_view starts rows = record { starts = starts; entries = rows; seen = []; tries = []; parts = 1024; main = true; turns = [] }

  -- each place is given to it as the close returns it
  closing_given : (starts : List (Part I O)) (rows : List (table.Entry Made T)) (k : ℕ) (a x : Part I O) (past : List (table.Entry Made T)) → slice_get starts k ≡ Some a
      → Leaves (Steps it ic ot oc) a past x → IsHistory rows k past → Gives it ic ot oc k (closing_view starts rows) (length past) x
  closing_given starts rows k a x past q left h = record {
    history = past;
    long = refl;
    start = a;
    starts = q;
    leaves = left;
    named = h.named;
    own = h.own;
    above = λ e i p. slice_get_within past e.number e (h.own e i p);
    main = λ m i e q r. h.all i e q;
    whole = λ m i e q. h.all i e q;
  }

  module _ (config : Config) (starts : List (Part I O)) (rows : List (table.Entry Made T)) (states : List (Part I O)) (shape : BoardShape)
      (parts : AreWholeParts config starts) (range : InRange starts rows) (closed : AreClosed it ic ot oc starts rows states) (long : length states ≡ length starts)
      (kept : board_shape_after starts rows ≡ Some shape) (whole : AreWhole config shape (cell_shape_after config starts (list_of rows)) (holder_after config starts (list_of rows))) where
    numbered : Numbered (list_of rows)
    numbered = closed_numbered it ic ot oc starts rows range (whole_of it ic ot oc starts rows states closed)

    record IsClosedAt (k : ℕ) : Type 0 where
      state : Part I O
      at : slice_get states k ≡ Some state
      number : ℕ
      given : Gives it ic ot oc k (closing_view starts rows) number state

    closed_at : (k : ℕ) → k < length starts → IsClosedAt k
    closed_at k within =
        let a = in_range starts k within in
        let c = closed k a.0 a.1 in
        record { state = c.1; at = c.2; number = length c.0; given = closing_given starts rows k a.0 c.1 c.0 a.1 c.3 c.4 }

    -- the board
    board_of_part : (x : Part I O) → board_shape_in x ≡ Some shape → (b : board.Board) × (x ≡ part.Board b) × (board_shape b ≡ shape)
    board_of_part (part.Board b) is = (b, refl, some_is is)
      where
        some_is : {A : Type 0} {x y : A} → Some x ≡ Some y → x ≡ y
        some_is q = cc
    board_of_part (part.Cell c) is = absurd (let q : None ≡ Some shape = is in cc)
    board_of_part (part.Pair b) is = absurd (let q : None ≡ Some shape = is in cc)

    board_closed : (b : board.Board) × (slice_get states 0 ≡ Some (part.Board b)) × (board_shape b ≡ shape)
    board_closed =
        let c = closed_at 0 (let n = parts.count_is in omega (arith, n)) in
        let b = board_of_part c.state (kept_board it ic ot oc (closing_view starts rows) c.number c.state parts.board parts.board_is c.given refl ∙ kept) in
        (b.0, c.at ∙ ap Some b.1, b.2)

    -- the cells
    cell_of_part : (x : Part I O) (s : CellShape) → HasShape x s → (c : cell.Cell O) × (x ≡ part.Cell c) × (shape_of_part config (Some x) ≡ s)
    cell_of_part (part.Cell c) s is = (c, refl, is)
    cell_of_part (part.Board b) s is = absurd is
    cell_of_part (part.Pair b) s is = absurd is

    cell_closed : (k : ℕ) → 1 ≤ k → k ≤ config.max_sessions → HasCell states k × (cell_shape_at config states k ≡ cell_shape_after config starts (list_of rows) k)
    cell_closed k low high =
        let c = closed_at k (let n = parts.count_is in omega (arith, n, high)) in
        let x = cell_of_part c.state (cell_shape_after config starts (list_of rows) k)
        (kept_cell it ic ot oc config (closing_view starts rows) k c.number c.state parts low high c.given refl numbered) in
        ((x.0, c.at ∙ ap Some x.1), ap (λ (o : Option (Part I O)). shape_of_part config o) c.at ∙ x.2)

    -- the boxes
    box_of_part : (pair : ℕ) (x : Part I O) (held : Option Holder) → HasHolder config.max_sessions x held → IsBoxAt (port_address config pair Rtp) x
        → (box : PairBox I) × (x ≡ part.Pair box) × (cells_of box ≡ config.max_sessions) × (at_of box ≡ port_address config pair Rtp) × (holder_of_part (Some x) ≡ held)
    box_of_part pair (part.Pair box) held is at = (box, refl, is.1, at, is.0)
    box_of_part pair (part.Board b) held is at = absurd is
    box_of_part pair (part.Cell c) held is at = absurd is

    box_closed : (pair : ℕ) → pair < pair_count config → HasBox config states pair × (box_holder_at config states pair ≡ holder_after config starts (list_of rows) pair)
    box_closed pair within =
        let c = closed_at (box_of config pair) (let n = parts.count_is in omega (arith, n, within)) in
        let is = kept_box it ic ot oc config (closing_view starts rows) pair c.number c.state parts within c.given refl numbered in
        let at = kept_box_at it ic ot oc config (closing_view starts rows) pair c.number c.state parts within c.given in
        let x = box_of_part pair c.state (holder_after config starts (list_of rows) pair) is at in
        ((x.0, c.at ∙ ap Some x.1, x.2, x.3), ap (λ (o : Option (Part I O)). holder_of_part o) c.at ∙ x.4)

    pub closed_whole : AreWholeParts config states
    closed_whole =
        let b = board_closed in record {
          count_is = long ∙ parts.count_is;
          board = b.0;
          board_is = b.1;
          cells = λ k low high. (cell_closed k low high).0;
          boxes = λ pair within. (box_closed pair within).0;
          whole = subst (λ (s : BoardShape). AreWhole config s (cell_shape_at config states) (box_holder_at config states)) (sym b.2)
              (within_alike config shape (cell_shape_after config starts (list_of rows)) (cell_shape_at config states) (holder_after config starts (list_of rows)) (box_holder_at config states)
              (λ k low high. (cell_closed k low high).1) (λ pair within. (box_closed pair within).1) whole);
        }

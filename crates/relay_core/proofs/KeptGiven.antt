-- What a turn gives to the main hand keeps just what follows from the start and from the hand's own list.
use Rattle.std.proofs.Common.{◌≡◌, ◌∙◌, refl, sym, ap, subst, ℕ, zero, suc, ◌+◌, ◌<◌, ◌≤◌, true, false, List, [], ◌∷◌, Option, Some, None, IfSome, length, arith, slice_get}
use Rattle.std.specs.List.{filter_map}
use Rattle.relay_outside.specs.declared.address.Addr.{Addr}
use Rattle.relay_outside.specs.declared.ports.InCall.{InCall}
use Rattle.relay_outside.specs.declared.ports.OutCall.{OutCall}
use Rattle.relay_outside.specs.declared.settings.Config.{Config}
use Rattle.relay_outside.specs.DeviceLogs.{EndLog}
use Rattle.rtp_packet.specs.declared.head.Half.TheVariants.{Rtp}
use Rattle.turn_table.specs.declared.machine.Entry as table
use Rattle.turn_table.specs.declared.view.View.{View}
use Rattle.turn_table.specs.declared.hands.Hand.{Hand}
use Rattle.turn_table.specs.Hands.{starts, entries}
use Rattle.turn_table.specs.Histories.{Leaves, IsMemberOf}
use Rattle.turn_table.proofs.Lists.{get_there}
use Rattle.histories.proofs.Lists.{maps}
use Rattle.port_pool.specs.declared.holder.Holder.{Holder}
use Rattle.port_pool.specs.declared.boxes.PairBox.{PairBox}
use Rattle.port_pool.specs.PairBoxes.{holder_in, at_of, cells_of}
use Rattle.port_pool.specs.Ports.{pair_count, port_address}
use Rattle.call_board.specs.declared.board.Board as board
use Rattle.call_board.specs.Shapes.{LiveShape, BoardShape, board_shape}
use Rattle.call_shapes.specs.Events.{shape_by, holder_by}
use Rattle.call_shapes.specs.WholeRelay.{AreWhole, cells_of_calls}
use Rattle.call_shapes.proofs.Rising.{cell_low, cell_high}
use Rattle.call_shapes.proofs.Needs.{open_is_held}
use Rattle.relay_core.specs.declared.part.Part.{Part}
use Rattle.relay_core.specs.declared.part.Part.TheVariants as part
use Rattle.relay_core.specs.Entries.{Event, Board, Cell, Box, Entry, front, cell_entry, box_event, box_of}
use Rattle.relay_core.specs.PartShapes.{board_shape_in, cell_shape_in}
use Rattle.relay_core.specs.PlaceHistories.{IsBoardPart}
use Rattle.relay_core.specs.Records.{Made, list_of}
use Rattle.relay_core.specs.ReturnedPairs.{is_boards}
use Rattle.relay_core.specs.Steps.{BoxSteps, BoardSteps, is_reserved}
use Rattle.relay_core.specs.Turns.{Numbered, IsAbove}
use Rattle.relay_core.specs.WholeParts.{AreWholeParts, cell_shape_at, box_holder_at, shape_of_part, holder_of_part}
use Rattle.relay_core.specs.KeptAfter.{cell_shape_after, holder_after, board_shape_after, IsWholeNow}
use Rattle.relay_core.proofs.Stays.{Steps}
use Rattle.relay_core.proofs.Own.{in_rows, rows_in}
use Rattle.relay_core.proofs.Given.{Gives}
use Rattle.relay_core.proofs.Shaped.{HasShape, HasHolder, given_shape, given_holder}
use Rattle.relay_core.proofs.Boxes.{below_front}
use Rattle.relay_core.proofs.KeptHistories.{front_least, history_front}
use Rattle.relay_core.proofs.KeptBoards.{in_member, not_at_board, at_board, of_board, last_is, none_last, kept_last, member_in}

same_some : {A : Type 0} {o : Option A} {x y : A} → o ≡ Some x → o ≡ Some y → x ≡ y
same_some p q = let r = sym p ∙ q in cc

reserved_boards : (event : Event) → is_boards event ≡ true → is_reserved event ≡ true
reserved_boards (Board b) t = refl
reserved_boards (Cell c) t = absurd (let k : false ≡ true = t in cc)
reserved_boards (Box b) t = absurd (let k : false ≡ true = t in cc)

-- The board's rows, from the first to the last.

module _ {T : Type 0} where
  -- what the last of them records, or this
  abbrev recorded_last : List (table.Entry Made T) → Option BoardShape → Option BoardShape
  recorded_last [] kept = kept
  recorded_last (row ∷ rows) kept = recorded_last rows row.event.kept

  recorded_none : (rows : List (table.Entry Made T)) (kept : Option BoardShape) → length rows ≡ 0 → recorded_last rows kept ≡ kept
  recorded_none [] kept long = refl
  recorded_none (row ∷ rows) kept long = absurd (omega (arith, long))

  recorded_at : (rows : List (table.Entry Made T)) (kept : Option BoardShape) (n : ℕ) (row : table.Entry Made T) → length rows ≡ suc n → slice_get rows n ≡ Some row
      → recorded_last rows kept ≡ row.event.kept
  recorded_at [] kept n row long q = absurd (omega (arith, long))
  recorded_at (r ∷ []) kept zero row long q =
      let is : Some r ≡ Some row = q in let same : r ≡ row = cc in ap (λ (x : table.Entry Made T). x.event.kept) same
  recorded_at (r ∷ []) kept (suc n) row long q = absurd (omega (arith, long))
  recorded_at (r ∷ s ∷ rows) kept zero row long q = absurd (omega (arith, long))
  recorded_at (r ∷ s ∷ rows) kept (suc n) row long q = recorded_at (s ∷ rows) r.event.kept n row (omega (arith, long)) q

board_kept_by : (old new : board.Board) (made : Made) (event : Event) → BoardSteps old made event new → (Some (board_shape new) ≡ made.kept) × (is_boards event ≡ true)
board_kept_by old new made (Board e) step = (sym step.kept, refl)
board_kept_by old new made (Cell e) step = absurd step
board_kept_by old new made (Box e) step = absurd step

box_at_by : {I : Type 0} (it : I → EndLog InCall) (ic : I → ℕ) (old new : PairBox I) (made : Made) (event : Event) → BoxSteps it ic old made event new
    → at_of new ≡ at_of old
box_at_by it ic old new made (Board e) step = absurd step
box_at_by it ic old new made (Cell e) step = absurd step
box_at_by it ic old new made (Box e) step = step.at_is

module _ {I O : Type 0} where
  -- the state is a box whose pair has this address for RTP
  abbrev pub IsBoxAt : Addr → Part I O → Type 0
  IsBoxAt at (part.Pair box) = at_of box ≡ at
  IsBoxAt at _ = ⊥

  board_there : (x : Part I O) (b : board.Board) → x ≡ part.Board b → IsBoardPart x
  board_there x b is = subst (λ (y : Part I O). IsBoardPart y) (sym is) tt

  -- so it is a cell
  pub shape_in : (x : Part I O) (shape : _) → HasShape x shape → cell_shape_in x ≡ Some shape
  shape_in (part.Cell c) shape is = ap Some is
  shape_in (part.Board b) shape is = absurd is
  shape_in (part.Pair b) shape is = absurd is

-- The starts.

module _ {I O : Type 0} (config : Config) (parts : List (Part I O)) (w : AreWholeParts config parts) where
  cell_begins : (k : ℕ) (x : Part I O) → 1 ≤ k → k ≤ config.max_sessions → slice_get parts k ≡ Some x → HasShape x (cell_shape_at config parts k)
  cell_begins k x low high q =
      let c = w.cells k low high in
      let same : part.Cell c.0 ≡ x = same_some c.1 q in
      subst (λ (y : Part I O). HasShape y (cell_shape_at config parts k)) same (sym (ap (λ (o : Option (Part I O)). shape_of_part config o) c.1))

  -- the leg that a box is open for has a cell of the table
  leg_there : (pair : ℕ) (leg : Holder) → pair < pair_count config → box_holder_at config parts pair ≡ Some leg → (1 ≤ leg.cell) × (leg.cell ≤ config.max_sessions)
  leg_there pair leg below is =
      let of = open_is_held config (board_shape w.board) (cell_shape_at config parts) (box_holder_at config parts) pair leg w.whole below is in
      let i = maps (λ (call : LiveShape). call.cell) (board_shape w.board).calls of.is_live in
      let low = cell_low 1 (cells_of_calls (board_shape w.board).calls) w.whole.low of.call.cell i in
      let high = cell_high (config.max_sessions + 1) (cells_of_calls (board_shape w.board).calls) w.whole.apart of.call.cell i in
      let at = of.cell_is in
      (omega (arith, low, at), omega (arith, high, at))

  leg_case : (pair : ℕ) (box : PairBox I) (o : Option Holder) → pair < pair_count config → box_holder_at config parts pair ≡ o → cells_of box ≡ config.max_sessions
      → IfSome o (λ leg. (1 ≤ leg.cell) × (leg.cell ≤ cells_of box))
  leg_case pair box None below is many = tt
  leg_case pair box (Some leg) below is many =
      let there = leg_there pair leg below is in
      (there.0, (let high = there.1 in omega (arith, high, many)))

  box_begins : (pair : ℕ) (x : Part I O) → pair < pair_count config → slice_get parts (box_of config pair) ≡ Some x
      → HasHolder config.max_sessions x (box_holder_at config parts pair) × IsBoxAt (port_address config pair Rtp) x
  box_begins pair x below q =
      let b = w.boxes pair below in
      let same : part.Pair b.0 ≡ x = same_some b.1 q in
      let held : box_holder_at config parts pair ≡ holder_in b.0 = ap (λ (o : Option (Part I O)). holder_of_part o) b.1 in
      subst (λ (y : Part I O). HasHolder config.max_sessions y (box_holder_at config parts pair) × IsBoxAt (port_address config pair Rtp) y) same
      ((sym held, b.2, leg_case pair b.0 (holder_in b.0) below held b.2), b.3)

module _ {T I O : Type 0} (it : I → EndLog InCall) (ic : I → ℕ) (ot : O → EndLog OutCall) (oc : O → ℕ) where
  -- the hand's own entries of the place are below the number of the turn
  pub entries_above : (v : View (Part I O) Made T) (k n : ℕ) (x : Part I O) → Gives it ic ot oc k v n x → IsAbove (list_of v.entries) k n
  entries_above v k n x g e i p =
      let found = in_rows v.entries i in
      subst (λ (y : Entry). y.number < n) found.is (g.above found.row found.is_in (ap (λ (y : Entry). y.place) found.is ∙ p))

  -- The board.

  step_kept : (a b : Part I O) (row : table.Entry Made T) → Steps it ic ot oc a row.event row.outcome b → IsBoardPart a
      → (board_shape_in b ≡ row.event.kept) × (is_boards row.event.event ≡ true) × IsBoardPart b
  step_kept (part.Board old) (part.Board new) row step is = let k = board_kept_by old new row.event row.event.event step in (k.0, k.1, tt)
  step_kept (part.Cell old) (part.Cell new) row step is = absurd is
  step_kept (part.Pair old) (part.Pair new) row step is = absurd is
  step_kept _ _ row step is = absurd step

  leaves_kept : (a b : Part I O) (rows : List (table.Entry Made T)) (kept : Option BoardShape) → Leaves (Steps it ic ot oc) a rows b → IsBoardPart a
      → board_shape_in a ≡ kept → board_shape_in b ≡ recorded_last rows kept
  leaves_kept a b [] kept same is was = ap (λ (x : Part I O). board_shape_in x) (sym same) ∙ was
  leaves_kept a b (row ∷ rows) kept l is was =
      let s = step_kept a l.0 row l.1 is in
      leaves_kept l.0 b rows row.event.kept l.2 s.2 s.0

  leaves_boards : (a b : Part I O) (rows : List (table.Entry Made T)) → Leaves (Steps it ic ot oc) a rows b → IsBoardPart a
      → (i : ℕ) (row : table.Entry Made T) → slice_get rows i ≡ Some row → is_boards row.event.event ≡ true
  leaves_boards a b [] l is i row q = absurd (let wrong : None ≡ Some row = q in cc)
  leaves_boards a b (r ∷ rows) l is zero row q =
      let found : Some r ≡ Some row = q in
      let same : r ≡ row = cc in
      subst (λ (x : table.Entry Made T). is_boards x.event.event ≡ true) same (step_kept a l.0 r l.1 is).1
  leaves_boards a b (r ∷ rows) l is (suc i) row q = leaves_boards l.0 b rows l.2 (step_kept a l.0 r l.1 is).2 i row q

  -- the row of the last step of the board is the hand's own
  record LastOwn (v : View (Part I O) Made T) (n : ℕ) (past : List (table.Entry Made T)) : Type 0 where
    row : table.Entry Made T
    is_own : IsMemberOf row v.entries
    there : slice_get past n ≡ Some row
    at : row.place ≡ 0
    number : row.number ≡ n
    boards : is_boards row.event.event ≡ true

  last_own : (v : View (Part I O) Made T) (n : ℕ) (x : Part I O) → (g : Gives it ic ot oc 0 v (suc n) x) → v.main ≡ true → IsBoardPart g.start → LastOwn v n g.history
  last_own v n x g main is =
      let long = g.long in
      let found = get_there g.history n (omega (arith, long)) in
      let named = g.named n found.0 found.1 in
      let boards = leaves_boards g.start x g.history g.leaves is n found.0 found.1 in
      record {
        row = found.0;
        is_own = g.main main n found.0 found.1 (reserved_boards found.0.event.event boards);
        there = found.1;
        at = named.0;
        number = named.1;
        boards = boards;
      }

  kept_at : (v : View (Part I O) Made T) (n : ℕ) (x : Part I O) → (g : Gives it ic ot oc 0 v n x) → v.main ≡ true → IsBoardPart g.start
      → board_shape_in x ≡ board_shape_after v.starts v.entries
  kept_at v zero x g main is =
      leaves_kept g.start x g.history (board_shape_in g.start) g.leaves is refl
      ∙ recorded_none g.history (board_shape_in g.start) g.long
      ∙ sym (ap (λ (o : Option (Part I O)). elim o [ None ↦ None | Some y ↦ board_shape_in y ]) g.starts)
      ∙ sym (kept_last v.starts v.entries None (none_last v.entries (λ r i. not_at_board r (λ p.
      let low = g.above r (in_member v.entries i) p in omega (arith, low)))))
  kept_at v (suc n) x g main is =
      let own = last_own v n x g main is in
      let long = g.long in
      let last = last_is v.entries own.row (member_in v.entries own.is_own) (of_board own.row own.at own.boards)
      (λ r i t.
      let low = g.above r (in_member v.entries i) (at_board r t) in
      let number = own.number in
      omega (arith, low, number))
      (λ r i t same.
      let there = g.own r (in_member v.entries i) (at_board r t) in
      same_some (subst (λ (m : ℕ). slice_get g.history m ≡ Some r) (same ∙ own.number) there) own.there) in
      leaves_kept g.start x g.history (board_shape_in g.start) g.leaves is refl
      ∙ recorded_at g.history (board_shape_in g.start) n own.row long own.there
      ∙ sym (kept_last v.starts v.entries (Some own.row) last)

  -- the main hand is given a board that keeps what the last of its own rows of the board records
  pub kept_board : (v : View (Part I O) Made T) (n : ℕ) (x : Part I O) (b : board.Board) → slice_get v.starts 0 ≡ Some (part.Board b)
      → Gives it ic ot oc 0 v n x → v.main ≡ true
      → board_shape_in x ≡ board_shape_after v.starts v.entries
  kept_board v n x b at g main = kept_at v n x g main (board_there g.start b (same_some g.starts at))

  front_at : (v : View (Part I O) Made T) (n : ℕ) (x : Part I O) → (g : Gives it ic ot oc 0 v n x) → v.main ≡ true → IsBoardPart g.start
      → n ≡ front (list_of v.entries) 0
  front_at v zero x g main is = let least = front_least (list_of v.entries) 0 0 (entries_above v 0 0 x g) in omega (arith, least)
  front_at v (suc n) x g main is =
      let own = last_own v n x g main is in
      let least = front_least (list_of v.entries) 0 (suc n) (entries_above v 0 (suc n) x g) in
      let number = own.number in
      let low = below_front (list_of v.entries) _ 0 (rows_in v.entries own.is_own) own.at in
      omega (arith, least, number, low)

  -- and all of the board's steps are in its list
  pub board_front_is : (v : View (Part I O) Made T) (n : ℕ) (x : Part I O) (b : board.Board) → slice_get v.starts 0 ≡ Some (part.Board b)
      → Gives it ic ot oc 0 v n x → v.main ≡ true
      → n ≡ front (list_of v.entries) 0
  board_front_is v n x b at g main = front_at v n x g main (board_there g.start b (same_some g.starts at))

  -- A cell.

  pub kept_cell : (config : Config) (v : View (Part I O) Made T) (k n : ℕ) (x : Part I O) → AreWholeParts config v.starts → 1 ≤ k → k ≤ config.max_sessions
      → Gives it ic ot oc k v n x → v.main ≡ true → Numbered (list_of v.entries) → HasShape x (cell_shape_after config v.starts (list_of v.entries) k)
  kept_cell config v k n x w low high g main numbered =
      subst (λ (h : List Entry). HasShape x (shape_by (filter_map cell_entry h) (cell_shape_at config v.starts k)))
      (history_front (list_of v.entries) k n (entries_above v k n x g))
      (given_shape it ic ot oc v k n x (cell_shape_at config v.starts k) g main numbered (cell_begins config v.starts w k g.start low high g.starts))

  -- A box.

  pub kept_box : (config : Config) (v : View (Part I O) Made T) (pair n : ℕ) (x : Part I O) → AreWholeParts config v.starts → pair < pair_count config
      → Gives it ic ot oc (box_of config pair) v n x → v.main ≡ true → Numbered (list_of v.entries)
      → HasHolder config.max_sessions x (holder_after config v.starts (list_of v.entries) pair)
  kept_box config v pair n x w below g main numbered =
      let k = box_of config pair in
      subst (λ (h : List Entry). HasHolder config.max_sessions x (holder_by (filter_map box_event h) (box_holder_at config v.starts pair)))
      (history_front (list_of v.entries) k n (entries_above v k n x g))
      (given_holder it ic ot oc config.max_sessions v k n x (box_holder_at config v.starts pair) g main numbered
      (box_begins config v.starts w pair g.start below g.starts).0)

  box_at_step : (at : Addr) (a b : Part I O) (row : table.Entry Made T) → Steps it ic ot oc a row.event row.outcome b → IsBoxAt at a → IsBoxAt at b
  box_at_step at (part.Pair old) (part.Pair new) row step was = box_at_by it ic old new row.event row.event.event step ∙ was
  box_at_step at (part.Board old) (part.Board new) row step was = absurd was
  box_at_step at (part.Cell old) (part.Cell new) row step was = absurd was
  box_at_step at _ _ row step was = absurd step

  box_at_onto : (at : Addr) (a b : Part I O) (rows : List (table.Entry Made T)) → Leaves (Steps it ic ot oc) a rows b → IsBoxAt at a → IsBoxAt at b
  box_at_onto at a b [] same was = subst (λ (x : Part I O). IsBoxAt at x) same was
  box_at_onto at a b (row ∷ rows) l was = box_at_onto at l.0 b rows l.2 (box_at_step at a l.0 row l.1 was)

  -- of its pair's port, by any hand
  pub kept_box_at : (config : Config) (v : View (Part I O) Made T) (pair n : ℕ) (x : Part I O) → AreWholeParts config v.starts → pair < pair_count config
      → Gives it ic ot oc (box_of config pair) v n x → IsBoxAt (port_address config pair Rtp) x
  kept_box_at config v pair n x w below g =
      box_at_onto (port_address config pair Rtp) g.start x g.history g.leaves (box_begins config v.starts w pair g.start below g.starts).1

-- Before the first step.

module _ {M I O T : Type 0} {g : _} where
  -- what a hand without a list keeps goes together
  pub whole_first : (config : Config) (hand : Hand M (Part I O) Made T g) → entries hand ≡ [] → AreWholeParts config (starts hand) → IsWholeNow config hand
  whole_first config hand none w = record {
    shape = board_shape w.board;
    kept = ap (λ (rows : List (table.Entry Made T)). board_shape_after (starts hand) rows) none
        ∙ ap (λ (o : Option (Part I O)). elim o [ None ↦ None | Some y ↦ board_shape_in y ]) w.board_is;
    whole = subst (λ (rows : List (table.Entry Made T)). AreWhole config (board_shape w.board)
        (cell_shape_after config (starts hand) (list_of rows)) (holder_after config (starts hand) (list_of rows)))
        (sym none) w.whole;
  }

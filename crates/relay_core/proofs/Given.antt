-- What is known of the state that a turn gives.
use Rattle.std.proofs.Common.{◌≡◌, refl, sym, ◌∙◌, ap, subst, ℕ, zero, suc, ◌+◌, ◌<◌, ◌≤◌, ◌⊎◌, inl, inr, Bool, true, false, cond, List, [], ◌∷◌, ◌++◌, Option, Some, None, map, filter, length, ◌==◌, arith, slice_get, take}
use Rattle.std.specs.List.{filter_map, cons_option}
use Rattle.std.proofs.Math.Seq.{take-length}
use Rattle.std.proofs.lemmas.List.{length-map}
use Rattle.std.proofs.lemmas.Option.{slice_get_within}
use Rattle.relay_outside.specs.declared.ports.InCall.{InCall}
use Rattle.relay_outside.specs.declared.ports.OutCall.{OutCall}
use Rattle.relay_outside.specs.declared.settings.Config.{Config}
use Rattle.relay_outside.specs.DeviceLogs.{EndLog}
use Rattle.turn_table.specs.declared.machine.Entry as table
use Rattle.turn_table.specs.declared.view.View.{View}
use Rattle.turn_table.specs.Steps.{GivenView}
use Rattle.histories.specs.Words.{In, first}
use Rattle.port_pool.specs.declared.holder.Holder.{Holder}
use Rattle.port_pool.specs.Signals.{NewKey}
use Rattle.port_pool.specs.Boxes.{BoxEvent, Open, Take, Close, holder}
use Rattle.call_cell.specs.Cells.{CellEvent, CellEntry, Prepare, Commit, Relay, Expire, Read, End, keys_in, key_numbered}
use Rattle.call_cell.specs.Good.{empty}
use Rattle.call_cell.specs.CellHistories.{CellFor}
use Rattle.call_cell.proofs.Counting.{picked_few}
use Rattle.call_board.specs.Acts.{BoardEntry}
use Rattle.call_board.specs.Boards.{BoardFor}
use Rattle.call_board.specs.Fits.{IsFitting}
use Rattle.relay_core.specs.declared.part.Part.{Part}
use Rattle.relay_core.specs.declared.part.Part.TheVariants as part
use Rattle.relay_core.specs.Entries.{Event, Board, Cell, Box, Entry, is_at, history, board_at, cell_at, box_in, board_entry, cell_entry, box_event, board_history, cell_history, box_history}
use Rattle.relay_core.specs.Records.{Made, entry_of, list_of}
use Rattle.relay_core.specs.Legal.{Orderly}
use Rattle.relay_core.specs.ReturnedPairs.{is_boards, AreReturned}
use Rattle.relay_core.specs.Steps.{is_reserved, IsReserved}
use Rattle.relay_core.specs.FirstPlaces.{AreParts, AreCells, AreBoxes, IsCell, IsBox, BeginsAs}
use Rattle.relay_core.specs.PlaceHistories.{logged_entry, BringsNewKeys, Stands, IsBoardPart, IsCellPart, IsBoxPart, nested_of, BoardIs, BoxIs, CellIs}
use Rattle.relay_core.proofs.Recording.{gives_back}
use Rattle.relay_core.proofs.Stays.{onto, Steps, GivesBack, GiveBackOnto, give_back_from, stands_onto, board_stays, cell_stays, box_stays}
use Rattle.relay_core.proofs.Own.{IsOwn, own_history}

-- What the places begin as.

module _ {I O : Type 0} where
  -- a box after `cells` parts, where the first of the boxes has the place k
  record IsBoxBehind (config : Config) (k cells j : ℕ) (x : Part I O) : Type 0 where
    index : ℕ
    behind : j ≡ cells + index
    box : IsBox config (index + k) x

  next_box : (config : Config) (k j : ℕ) (x : Part I O) → IsBoxBehind config (suc k) 0 j x → IsBoxBehind config k 0 (suc j) x
  next_box config k j x b = record {
    index = suc b.index;
    behind = (let q = b.behind in omega (arith, q));
    box = subst (λ (n : ℕ). IsBox config n x) (omega arith) b.box;
  }

  next_cell : (config : Config) (k cells j : ℕ) (x : Part I O) → IsBoxBehind config k cells j x → IsBoxBehind config k (suc cells) (suc j) x
  next_cell config k cells j x b = record { index = b.index; behind = (let q = b.behind in omega (arith, q)); box = b.box }

  cell_or_box : (config : Config) (k : ℕ) (cells boxes : List (Part I O)) (j : ℕ) (x : Part I O) → AreCells config cells → AreBoxes config k boxes
      → slice_get (cells ++ boxes) j ≡ Some x → (IsCell config x × (j < length cells)) ⊎ IsBoxBehind config k (length cells) j x
  cell_or_box config k [] [] j x cs bs q = absurd (let p : None ≡ Some x = q in cc)
  cell_or_box config k [] (b ∷ boxes) zero x cs bs q =
      inr (let p : Some b ≡ Some x = q in let e : b ≡ x = cc in
      record { index = 0; behind = omega arith; box = subst (λ (n : ℕ). IsBox config n x) (omega arith) (subst (λ (y : Part I O). IsBox config k y) e bs.0) })
  cell_or_box config k [] (b ∷ boxes) (suc j) x cs bs q =
      elim (cell_or_box config (suc k) [] boxes j x cs bs.1 q) [ inl c ↦ absurd (let l = c.1 in omega (arith, l)) | inr b ↦ inr (next_box config k j x b) ]
  cell_or_box config k (c ∷ cells) boxes zero x cs bs q =
      inl (let p : Some c ≡ Some x = q in let e : c ≡ x = cc in subst (λ (y : Part I O). IsCell config y) e cs.0, omega arith)
  cell_or_box config k (c ∷ cells) boxes (suc j) x cs bs q =
      elim (cell_or_box config k cells boxes j x cs.1 bs q) [
        | inl c ↦ inl (c.0, let l = c.1 in omega (arith, l))
        | inr b ↦ inr (next_cell config k (length cells) j x b)
      ]

  begins_cell : (config : Config) (k : ℕ) (x : Part I O) → IsCell config x → 1 ≤ k → k ≤ config.max_sessions → BeginsAs config k x
  begins_cell config k (part.Board b) is low high = absurd is
  begins_cell config k (part.Cell c) is low high = (low, high, is)
  begins_cell config k (part.Pair b) is low high = absurd is

  begins_box : (config : Config) (k : ℕ) (x : Part I O) → IsBox config k x → config.max_sessions < k → BeginsAs config k x
  begins_box config k (part.Board b) is above = absurd is
  begins_box config k (part.Cell c) is above = absurd is
  begins_box config k (part.Pair b) is above = (above, is)

  begins_in : (config : Config) (parts : List (Part I O)) → (a : AreParts config parts) → (k : ℕ) (x : Part I O)
      → slice_get (part.Board a.board ∷ (a.cells ++ a.boxes)) k ≡ Some x → BeginsAs config k x
  begins_in config parts a zero x q =
      let p : Some (part.Board a.board) ≡ Some x = q in
      let e : part.Board a.board ≡ x = cc in
      subst (λ (y : Part I O). BeginsAs config 0 y) e (refl, a.board_for)
  begins_in config parts a (suc j) x q =
      elim (cell_or_box config (config.max_sessions + 1) a.cells a.boxes j x a.are_cells a.are_boxes q) [
        | inl c ↦ begins_cell config (suc j) x c.0 (omega arith) (let l = c.1 in let m = a.cell_count in omega (arith, l, m))
        | inr b ↦ (let l = b.behind in let m = a.cell_count in
            begins_box config (suc j) x (subst (λ (n : ℕ). IsBox config n x) (omega (arith, l, m)) b.box) (omega (arith, l, m)))
      ]

  -- each place begins as a part of its kind, without a history
  pub begins_as : (config : Config) (parts : List (Part I O)) → AreParts config parts → (k : ℕ) (x : Part I O) → slice_get parts k ≡ Some x → BeginsAs config k x
  begins_as config parts a k x q =
      begins_in config parts a k x (subst (λ (xs : List (Part I O)). slice_get xs k ≡ Some x) a.parts_are q)

  board_begins : (config : Config) (x : Part I O) → BeginsAs config 0 x → IsBoardPart x × Stands config x []
  board_begins config (part.Board b) is = (tt, (tt, is.1))
  board_begins config (part.Cell c) is = absurd (let l = is.0 in omega (arith, l))
  board_begins config (part.Pair b) is = absurd (let l = is.0 in omega (arith, l))

  pub cell_begins : (config : Config) (k : ℕ) (x : Part I O) → 1 ≤ k → k ≤ config.max_sessions → BeginsAs config k x → IsCellPart x × Stands config x []
  cell_begins config k (part.Board b) low high is = absurd (let l = is.0 in omega (arith, l))
  cell_begins config k (part.Cell c) low high is = (tt, record { history = []; is_recorded = refl; fitting = empty; stands = is.2 })
  cell_begins config k (part.Pair b) low high is = absurd (let l = is.0 in omega (arith, l))

  box_begins : (config : Config) (k : ℕ) (x : Part I O) → config.max_sessions < k → BeginsAs config k x → IsBoxPart config.max_sessions x × Stands config x []
  box_begins config k (part.Board b) above is = absurd (let l = is.0 in omega (arith, l))
  box_begins config k (part.Cell c) above is = absurd (let l = is.1 in omega (arith, l))
  box_begins config k (part.Pair b) above is = (is.1.2, (tt, is.1.0))

-- What a filter of the steps keeps.

-- each of them passes
abbrev pub each_event : Entry → Bool
each_event e = true

each_kept : (h : List Entry) → filter each_event h ≡ h
each_kept [] = refl
each_kept (e ∷ h) = ap (λ (xs : List Entry). e ∷ xs) (each_kept h)

abbrev pub keeps_event : Entry → Bool
keeps_event e = is_reserved e.event

board_kept_in : (moment : ℕ) (ev : Event) (t : Bool) → is_reserved ev ≡ t → t ≡ false → board_at moment ev ≡ None
board_kept_in moment (Board b) t q f = absurd (let r : true ≡ t = q in cc)
board_kept_in moment (Cell c) t q f = refl
board_kept_in moment (Box b) t q f = refl

board_kept_by : (e : Entry) (h : List Entry) → filter_map board_entry h ≡ filter_map board_entry (filter keeps_event h) → (t : Bool) → keeps_event e ≡ t
    → filter_map board_entry (e ∷ h) ≡ filter_map board_entry (cond t (e ∷ filter keeps_event h) (filter keeps_event h))
board_kept_by e h rest true q = ap (λ (xs : List BoardEntry). cons_option (board_entry e) xs) rest
board_kept_by e h rest false q =
    ap (λ (o : Option BoardEntry). cons_option o (filter_map board_entry h)) (board_kept_in e.moment e.event false q refl) ∙ rest

pub board_kept : (h : List Entry) → filter_map board_entry h ≡ filter_map board_entry (filter keeps_event h)
board_kept [] = refl
board_kept (e ∷ h) = board_kept_by e h (board_kept h) (keeps_event e) refl

box_kept_in : (ev : Event) (h : List BoxEvent) → is_reserved ev ≡ false → holder (cons_option (box_in ev) h) ≡ holder h
box_kept_in (Board b) h q = absurd (let r : true ≡ false = q in cc)
box_kept_in (Cell c) h q = refl
box_kept_in (Box (Open leg)) h q = absurd (let r : true ≡ false = q in cc)
box_kept_in (Box (Take half taken)) h q = refl
box_kept_in (Box Close) h q = absurd (let r : true ≡ false = q in cc)

holder_more : (o : Option BoxEvent) (h k : List BoxEvent) → holder h ≡ holder k → holder (cons_option o h) ≡ holder (cons_option o k)
holder_more None h k same = same
holder_more (Some (Open leg)) h k same = refl
holder_more (Some (Take half taken)) h k same = same
holder_more (Some Close) h k same = refl

box_kept_by : (e : Entry) (h : List Entry) → holder (filter_map box_event h) ≡ holder (filter_map box_event (filter keeps_event h)) → (t : Bool) → keeps_event e ≡ t
    → holder (filter_map box_event (e ∷ h)) ≡ holder (filter_map box_event (cond t (e ∷ filter keeps_event h) (filter keeps_event h)))
box_kept_by e h rest true q = holder_more (box_event e) (filter_map box_event h) (filter_map box_event (filter keeps_event h)) rest
box_kept_by e h rest false q = box_kept_in e.event (filter_map box_event h) q ∙ rest

pub box_kept : (h : List Entry) → holder (filter_map box_event h) ≡ holder (filter_map box_event (filter keeps_event h))
box_kept [] = refl
box_kept (e ∷ h) = box_kept_by e h (box_kept h) (keeps_event e) refl

cell_kept_by : (moment : ℕ) (ev : Event) (h : List CellEntry) (k : List CellEntry) → nested_of h ≡ k → (t : Bool) → is_reserved ev ≡ t
    → nested_of (cons_option (cell_at moment ev) h) ≡ cond t (cons_option (cell_at moment ev) k) k
cell_kept_by moment (Board b) h k rest true q = rest
cell_kept_by moment (Board b) h k rest false q = rest
cell_kept_by moment (Box b) h k rest true q = rest
cell_kept_by moment (Box b) h k rest false q = rest
cell_kept_by moment (Cell c) h k rest t q =
    let e : CellEntry = record { moment = moment; event = c } in
    ap (λ (b : Bool). cond b (e ∷ nested_of h) (nested_of h)) q ∙ ap (λ (xs : List CellEntry). cond t (e ∷ xs) xs) rest

cell_filtered : (e : Entry) (h : List Entry) (t : Bool) → keeps_event e ≡ t
    → cond t (cons_option (cell_entry e) (filter_map cell_entry (filter keeps_event h))) (filter_map cell_entry (filter keeps_event h))
    ≡ filter_map cell_entry (cond t (e ∷ filter keeps_event h) (filter keeps_event h))
cell_filtered e h true q = refl
cell_filtered e h false q = refl

pub cell_kept : (h : List Entry) → nested_of (filter_map cell_entry h) ≡ filter_map cell_entry (filter keeps_event h)
cell_kept [] = refl
cell_kept (e ∷ h) =
    cell_kept_by e.moment e.event (filter_map cell_entry h) (filter_map cell_entry (filter keeps_event h)) (cell_kept h) (keeps_event e) refl
    ∙ cell_filtered e h (keeps_event e) refl

-- Which keys a history brings is said by its nested entries.

told_nested_by : (moment : ℕ) (c : CellEvent) (h k : List CellEntry) → nested_of h ≡ nested_of k
    → nested_of (logged_entry (record { moment = moment; event = c }) ∷ h) ≡ nested_of ((record { moment = moment; event = c }) ∷ k)
told_nested_by moment (Prepare call legs keys dropped) h k rest = ap (λ (xs : List CellEntry). (record { moment = moment; event = Prepare call legs keys dropped }) ∷ xs) rest
told_nested_by moment (Commit signal) h k rest = ap (λ (xs : List CellEntry). (record { moment = moment; event = Commit signal }) ∷ xs) rest
told_nested_by moment (Relay x) h k rest = rest
told_nested_by moment (Expire due) h k rest = ap (λ (xs : List CellEntry). (record { moment = moment; event = Expire due }) ∷ xs) rest
told_nested_by moment (Read reports) h k rest = ap (λ (xs : List CellEntry). (record { moment = moment; event = Read reports }) ∷ xs) rest
told_nested_by moment End h k rest = ap (λ (xs : List CellEntry). (record { moment = moment; event = End }) ∷ xs) rest

pub told_nested : (h : List CellEntry) → nested_of (map logged_entry h) ≡ nested_of h
told_nested [] = refl
told_nested (e ∷ h) = told_nested_by e.moment e.event (map logged_entry h) h (told_nested h)

nested_keys_by : (moment : ℕ) (c : CellEvent) (h : List CellEntry) → keys_in (nested_of h) ≡ keys_in h
    → keys_in (nested_of ((record { moment = moment; event = c }) ∷ h)) ≡ keys_in ((record { moment = moment; event = c }) ∷ h)
nested_keys_by moment (Prepare call legs keys dropped) h rest = ap (λ (ks : List NewKey). keys ++ ks) rest
nested_keys_by moment (Commit signal) h rest = rest
nested_keys_by moment (Relay x) h rest = rest
nested_keys_by moment (Expire due) h rest = rest
nested_keys_by moment (Read reports) h rest = rest
nested_keys_by moment End h rest = rest

pub nested_keys : (h : List CellEntry) → keys_in (nested_of h) ≡ keys_in h
nested_keys [] = refl
nested_keys (e ∷ h) = nested_keys_by e.moment e.event h (nested_keys h)

same_number : (h k : List CellEntry) (number : ℕ) → keys_in h ≡ keys_in k → key_numbered h number ≡ None → key_numbered k number ≡ None
same_number h k number same none =
    subst (λ (ks : List NewKey). first (filter (λ (key : NewKey). key.number == number) ks) ≡ None) same none

brings_nested_by : (moment : ℕ) (c : CellEvent) (h : List CellEntry) → (BringsNewKeys h → BringsNewKeys (nested_of h))
    → BringsNewKeys ((record { moment = moment; event = c }) ∷ h) → BringsNewKeys (nested_of ((record { moment = moment; event = c }) ∷ h))
brings_nested_by moment (Relay x) h rest b = rest b.1
brings_nested_by moment (Prepare call legs keys dropped) h rest b =
    (λ key i. same_number h (nested_of h) key.number (sym (nested_keys h)) (b.0 key i), rest b.1)
brings_nested_by moment (Commit signal) h rest b = (λ key i. elim i [ ], rest b.1)
brings_nested_by moment (Expire due) h rest b = (λ key i. elim i [ ], rest b.1)
brings_nested_by moment (Read reports) h rest b = (λ key i. elim i [ ], rest b.1)
brings_nested_by moment End h rest b = (λ key i. elim i [ ], rest b.1)

pub brings_nested : (h : List CellEntry) → BringsNewKeys h → BringsNewKeys (nested_of h)
brings_nested [] b = b
brings_nested (e ∷ h) b = brings_nested_by e.moment e.event h (brings_nested h) b

brings_whole_by : (moment : ℕ) (c : CellEvent) (h : List CellEntry) → (BringsNewKeys (nested_of h) → BringsNewKeys h)
    → BringsNewKeys (nested_of ((record { moment = moment; event = c }) ∷ h)) → BringsNewKeys ((record { moment = moment; event = c }) ∷ h)
brings_whole_by moment (Relay x) h rest b = (λ key i. elim i [ ], rest b)
brings_whole_by moment (Prepare call legs keys dropped) h rest b =
    (λ key i. same_number (nested_of h) h key.number (nested_keys h) (b.0 key i), rest b.1)
brings_whole_by moment (Commit signal) h rest b = (λ key i. elim i [ ], rest b.1)
brings_whole_by moment (Expire due) h rest b = (λ key i. elim i [ ], rest b.1)
brings_whole_by moment (Read reports) h rest b = (λ key i. elim i [ ], rest b.1)
brings_whole_by moment End h rest b = (λ key i. elim i [ ], rest b.1)

pub brings_whole : (h : List CellEntry) → BringsNewKeys (nested_of h) → BringsNewKeys h
brings_whole [] b = b
brings_whole (e ∷ h) b = brings_whole_by e.moment e.event h (brings_whole h) b

-- The state at a front.

module _ {I O : Type 0} where
  pub board_is : (config : Config) (x : Part I O) (h : List Entry) (k : List BoardEntry) → IsBoardPart x → Stands config x h → filter_map board_entry h ≡ k → BoardIs config x k
  board_is config (part.Board b) h k is for q = subst (λ (y : List BoardEntry). IsFitting config y × BoardFor config b y) q for
  board_is config (part.Cell c) h k is for q = absurd is
  board_is config (part.Pair b) h k is for q = absurd is

  pub box_is : (config : Config) (x : Part I O) (h : List Entry) (held : Option Holder) → IsBoxPart config.max_sessions x → Stands config x h
      → holder (filter_map box_event h) ≡ held → BoxIs config.max_sessions x held
  box_is config (part.Pair b) h held is for q = (sym for.1.holder_is ∙ q, is)
  box_is config (part.Board b) h held is for q = absurd is
  box_is config (part.Cell c) h held is for q = absurd is

  pub cell_is : (config : Config) (x : Part I O) (h : List Entry) (k : List CellEntry) → IsCellPart x → Stands config x h
      → nested_of (filter_map cell_entry h) ≡ k → CellIs config x k
  cell_is config (part.Cell c) h k is for q =
      (for.history, sym (told_nested for.history) ∙ ap (λ (xs : List CellEntry). nested_of xs) for.is_recorded ∙ q, for.stands)
  cell_is config (part.Board b) h k is for q = absurd is
  cell_is config (part.Pair b) h k is for q = absurd is

  -- the state is a cell that stands for a history of at most n entries
  abbrev pub IsShort : Config → Part I O → ℕ → Type 0
  IsShort config (part.Cell c) n = (h : List CellEntry) × (length h ≤ n) × CellFor config c h
  IsShort config _ n = ⊥

  pub short_is : (config : Config) (x : Part I O) (h : List Entry) → IsCellPart x → Stands config x h → IsShort config x (length h)
  short_is config (part.Cell c) h is for =
      (for.history, omega (arith, length-map for.history logged_entry, ap length for.is_recorded, picked_few cell_entry h), for.stands)
  short_is config (part.Board b) h is for = absurd is
  short_is config (part.Pair b) h is for = absurd is

  pub not_cell : (x : Part I O) → IsBoardPart x → IsCellPart x → ⊥
  not_cell (part.Board b) is cell = cell
  not_cell (part.Cell c) is cell = is
  not_cell (part.Pair b) is cell = cell

  pub box_not_cell : (cells : ℕ) (x : Part I O) → IsBoxPart cells x → IsCellPart x → ⊥
  box_not_cell cells (part.Board b) is cell = cell
  box_not_cell cells (part.Cell c) is cell = is
  box_not_cell cells (part.Pair b) is cell = cell

  pub box_not_board : (cells : ℕ) (x : Part I O) → IsBoxPart cells x → IsBoardPart x → ⊥
  box_not_board cells (part.Board b) is board = is
  box_not_board cells (part.Cell c) is board = is
  box_not_board cells (part.Pair b) is board = board

onto_more : {T : Type 0} (rows : List (table.Entry Made T)) (h : List Entry) → length (onto rows h) ≡ length rows + length h
onto_more [] h = omega arith
onto_more (row ∷ rows) h = omega (arith, onto_more rows (entry_of row ∷ h))

pub onto_long : {T : Type 0} (rows : List (table.Entry Made T)) → length (onto rows []) ≡ length rows
onto_long rows = omega (arith, onto_more rows [])

pub reserved_boards : (ev : Event) → is_boards ev ≡ true → is_reserved ev ≡ true
reserved_boards (Board b) t = refl
reserved_boards (Cell c) t = absurd (let k : false ≡ true = t in cc)
reserved_boards (Box b) t = absurd (let k : false ≡ true = t in cc)

-- only the board's own events give pairs back
pub where_boards : (made : Made) (v : Event) (h : List BoardEntry) → (is_boards v ≡ true → GivesBack made v h) → GivesBack made v h
where_boards made (Board b) h gives = gives refl
where_boards made (Cell c) h gives = tt
where_boards made (Box b) h gives = tt

module _ {T I O : Type 0} (it : I → EndLog InCall) (ic : I → ℕ) (ot : O → EndLog OutCall) (oc : O → ℕ) where
  abbrev pub Gives : ℕ → View (Part I O) Made T → ℕ → Part I O → Type 0
  Gives k v n x = GivenView (Steps {T = T} it ic ot oc) IsReserved k v n x

  abbrev Numbered : List (table.Entry Made T) → Type 0
  Numbered rows = (e : Entry) → In e (list_of rows) → length (filter (is_at e.place e.number) (list_of rows)) ≡ 1

  is_own : (k : ℕ) (v : View (Part I O) Made T) (n : ℕ) (x : Part I O) → (g : Gives k v n x) → v.main ≡ true → Numbered v.entries
      → IsOwn keeps_event k v.entries g.history
  is_own k v n x g main numbered = record {
    numbered = numbered;
    named = g.named;
    own = g.own;
    all = λ i e q p. g.main main i e q p;
  }

  -- of a hand with all parts all steps of the place are its own
  all_own : (k : ℕ) (v : View (Part I O) Made T) (n : ℕ) (x : Part I O) → (g : Gives k v n x) → v.parts ≡ 1024 → Numbered v.entries → IsOwn each_event k v.entries g.history
  all_own k v n x g all numbered = record {
    numbered = numbered;
    named = g.named;
    own = g.own;
    all = λ i e q p. g.whole all i e q;
  }

  -- so the whole history is the list's
  pub whole_history : (k : ℕ) (v : View (Part I O) Made T) (n : ℕ) (x : Part I O) → (g : Gives k v n x) → v.parts ≡ 1024 → Numbered v.entries
      → onto g.history [] ≡ history (list_of v.entries) k n
  whole_history k v n x g all numbered =
      sym (each_kept (onto g.history []))
      ∙ ap (λ (rows : List (table.Entry Made T)). filter each_event (onto rows [])) (sym (take-length g.history))
      ∙ own_history each_event k v.entries g.history (all_own k v n x g all numbered) (length g.history) (omega arith)
      ∙ each_kept (history (list_of v.entries) k (length g.history))
      ∙ ap (λ (i : ℕ). history (list_of v.entries) k i) g.long

  -- what is kept of the whole history is kept of the list's
  pub kept_history : (k : ℕ) (v : View (Part I O) Made T) (n : ℕ) (x : Part I O) → (g : Gives k v n x) → v.main ≡ true → Numbered v.entries
      → filter keeps_event (onto g.history []) ≡ filter keeps_event (history (list_of v.entries) k n)
  kept_history k v n x g main numbered =
      let o = own_history keeps_event k v.entries g.history (is_own k v n x g main numbered) (length g.history) (omega arith) in
      ap (λ (rows : List (table.Entry Made T)). filter keeps_event (onto rows [])) (sym (take-length g.history))
      ∙ o ∙ ap (λ (i : ℕ). filter keeps_event (history (list_of v.entries) k i)) g.long

  -- of each number before the front the list has the board's entries
  pub board_before : (v : View (Part I O) Made T) (n : ℕ) (x : Part I O) → (g : Gives 0 v n x) → v.main ≡ true → Numbered v.entries → (i : ℕ) → i ≤ length g.history
      → filter_map board_entry (onto (take i g.history) []) ≡ board_history (list_of v.entries) i
  board_before v n x g main numbered i within =
      board_kept (onto (take i g.history) [])
      ∙ ap (λ (xs : List Entry). filter_map board_entry xs) (own_history keeps_event 0 v.entries g.history (is_own 0 v n x g main numbered) i within)
      ∙ sym (board_kept (history (list_of v.entries) 0 i))

  -- so each of the board's steps that lead to the front records the pairs of the legs that it closes
  give_back_given : (config : Config) (v : View (Part I O) Made T) (n : ℕ) (x : Part I O) → (g : Gives 0 v n x) → v.main ≡ true
      → Orderly config (list_of v.entries) → AreReturned config v.entries → GiveBackOnto g.history []
  give_back_given config v n x g main orderly returned =
      give_back_from g.history [] (λ i row q.
      where_boards row.event row.event.event (filter_map board_entry (onto (take i g.history) [])) (λ boards.
      let low = slice_get_within g.history i row q in
      let named = g.named i row q in
      subst (λ (h : List BoardEntry). GivesBack row.event row.event.event h)
      (ap (λ (m : ℕ). filter_map board_entry (history (list_of v.entries) row.place m)) named.1
      ∙ ap (λ (m : ℕ). filter_map board_entry (history (list_of v.entries) m i)) named.0
      ∙ sym (board_before v n x g main orderly.numbered i (omega (arith, low))))
      (gives_back config v.entries orderly returned row (g.main main i row q (reserved_boards row.event.event boards)))))

  -- the board's turn gives the board of the list's own history, where each of its steps records the pairs of the legs that it closes
  pub given_board : (config : Config) (v : View (Part I O) Made T) (n : ℕ) (x : Part I O) → AreParts config v.starts → Gives 0 v n x → v.main ≡ true
      → Orderly config (list_of v.entries) → AreReturned config v.entries → BoardIs config x (board_history (list_of v.entries) n)
  given_board config v n x are g main orderly returned =
      let b = board_begins config g.start (begins_as config v.starts are 0 g.start g.starts) in
      board_is config x (onto g.history []) (board_history (list_of v.entries) n)
      (board_stays it ic ot oc g.start x g.history g.leaves b.0)
      (stands_onto it ic ot oc config g.start x g.history [] g.leaves (λ is. absurd (not_cell g.start b.0 is))
      (λ is. give_back_given config v n x g main orderly returned) b.1)
      (board_kept (onto g.history [])
      ∙ ap (λ (xs : List Entry). filter_map board_entry xs) (kept_history 0 v n x g main orderly.numbered)
      ∙ sym (board_kept (history (list_of v.entries) 0 n)))

  -- a box's turn, taken by the main hand, gives a box with the holder of the list's own history
  pub given_box : (config : Config) (v : View (Part I O) Made T) (k n : ℕ) (x : Part I O) → AreParts config v.starts → config.max_sessions < k → Gives k v n x
      → v.main ≡ true → Numbered v.entries → BoxIs config.max_sessions x (holder (box_history (list_of v.entries) k n))
  given_box config v k n x are above g main numbered =
      let b = box_begins config k g.start above (begins_as config v.starts are k g.start g.starts) in
      box_is config x (onto g.history []) (holder (box_history (list_of v.entries) k n))
      (box_stays it ic ot oc config.max_sessions g.start x g.history g.leaves b.0)
      (stands_onto it ic ot oc config g.start x g.history [] g.leaves (λ is. absurd (box_not_cell config.max_sessions g.start b.0 is))
      (λ is. absurd (box_not_board config.max_sessions g.start b.0 is)) b.1)
      (box_kept (onto g.history [])
      ∙ ap (λ (xs : List Entry). holder (filter_map box_event xs)) (kept_history k v n x g main numbered)
      ∙ sym (box_kept (history (list_of v.entries) k n)))

  -- the nested entries of a cell's whole history are the list's
  pub same_nested : (k : ℕ) (v : View (Part I O) Made T) (n : ℕ) (x : Part I O) → (g : Gives k v n x) → v.main ≡ true → Numbered v.entries
      → nested_of (filter_map cell_entry (onto g.history [])) ≡ nested_of (cell_history (list_of v.entries) k n)
  same_nested k v n x g main numbered =
      cell_kept (onto g.history [])
      ∙ ap (λ (xs : List Entry). filter_map cell_entry xs) (kept_history k v n x g main numbered)
      ∙ sym (cell_kept (history (list_of v.entries) k n))

  -- so each key that it brought was new where it was by the list
  pub given_brings : (k : ℕ) (v : View (Part I O) Made T) (n : ℕ) (x : Part I O) → (g : Gives k v n x) → v.main ≡ true → Numbered v.entries
      → BringsNewKeys (cell_history (list_of v.entries) k n) → BringsNewKeys (filter_map cell_entry (onto g.history []))
  given_brings k v n x g main numbered brings = brings_whole _ (subst BringsNewKeys (sym (same_nested k v n x g main numbered)) (brings_nested _ brings))

  -- so a cell's turn, taken by the main hand, gives a cell that stands for its whole history
  cell_given : (config : Config) (v : View (Part I O) Made T) (k n : ℕ) (x : Part I O) → AreParts config v.starts → 1 ≤ k → k ≤ config.max_sessions → (g : Gives k v n x)
      → v.main ≡ true → Numbered v.entries → BringsNewKeys (cell_history (list_of v.entries) k n) → IsCellPart x × Stands config x (onto g.history [])
  cell_given config v k n x are low high g main numbered brings =
      let b = cell_begins config k g.start low high (begins_as config v.starts are k g.start g.starts) in
      let new = given_brings k v n x g main numbered brings in (
        cell_stays it ic ot oc g.start x g.history g.leaves b.0,
        stands_onto it ic ot oc config g.start x g.history [] g.leaves (λ is. new) (λ is. absurd (not_cell g.start is b.0)) b.1,
      )

  -- of at most as many entries as the turn's number
  pub given_short : (config : Config) (v : View (Part I O) Made T) (k n : ℕ) (x : Part I O) → AreParts config v.starts → 1 ≤ k → k ≤ config.max_sessions → Gives k v n x
      → v.main ≡ true → Numbered v.entries → BringsNewKeys (cell_history (list_of v.entries) k n) → IsShort config x n
  given_short config v k n x are low high g main numbered brings =
      let c = cell_given config v k n x are low high g main numbered brings in
      subst (λ (m : ℕ). IsShort config x m) (onto_long g.history ∙ g.long) (short_is config x (onto g.history []) c.0 c.1)

  -- a cell's turn, taken by the main hand, gives a cell whose history is the list's own but for relays
  pub given_cell : (config : Config) (v : View (Part I O) Made T) (k n : ℕ) (x : Part I O) → AreParts config v.starts → 1 ≤ k → k ≤ config.max_sessions → Gives k v n x
      → v.main ≡ true → Numbered v.entries → BringsNewKeys (cell_history (list_of v.entries) k n)
      → CellIs config x (nested_of (cell_history (list_of v.entries) k n))
  given_cell config v k n x are low high g main numbered brings =
      let c = cell_given config v k n x are low high g main numbered brings in
      cell_is config x (onto g.history []) (nested_of (cell_history (list_of v.entries) k n)) c.0 c.1 (same_nested k v n x g main numbered)

  -- a cell's turn, taken by a hand with all parts, gives a cell that stands for the list's own history
  pub given_whole_cell : (config : Config) (v : View (Part I O) Made T) (k n : ℕ) (x : Part I O) → AreParts config v.starts → 1 ≤ k → k ≤ config.max_sessions → Gives k v n x
      → v.parts ≡ 1024 → Numbered v.entries → BringsNewKeys (cell_history (list_of v.entries) k n)
      → Stands config x (history (list_of v.entries) k n)
  given_whole_cell config v k n x are low high g all numbered brings =
      let b = cell_begins config k g.start low high (begins_as config v.starts are k g.start g.starts) in
      let whole : onto g.history [] ≡ history (list_of v.entries) k n = whole_history k v n x g all numbered in
      let new : BringsNewKeys (filter_map cell_entry (onto g.history []))
      = subst (λ (h : List Entry). BringsNewKeys (filter_map cell_entry h)) (sym whole) brings in
      subst (λ (h : List Entry). Stands config x h) whole
      (stands_onto it ic ot oc config g.start x g.history [] g.leaves (λ is. new) (λ is. absurd (not_cell g.start is b.0)) b.1)

  -- by any hand, a cell's turn gives a cell, and a box's a box
  pub gives_cell : (config : Config) (v : View (Part I O) Made T) (k n : ℕ) (x : Part I O) → AreParts config v.starts → 1 ≤ k → k ≤ config.max_sessions → Gives k v n x
      → IsCellPart x
  gives_cell config v k n x are low high g =
      cell_stays it ic ot oc g.start x g.history g.leaves (cell_begins config k g.start low high (begins_as config v.starts are k g.start g.starts)).0

  pub gives_box : (config : Config) (v : View (Part I O) Made T) (k n : ℕ) (x : Part I O) → AreParts config v.starts → config.max_sessions < k → Gives k v n x
      → IsBoxPart config.max_sessions x
  gives_box config v k n x are above g =
      box_stays it ic ot oc config.max_sessions g.start x g.history g.leaves (box_begins config k g.start above (begins_as config v.starts are k g.start g.starts)).0

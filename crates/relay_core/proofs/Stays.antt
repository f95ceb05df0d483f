-- Each state of a place stands for what is recorded of the place.
use Rattle.std.proofs.Common.{◌≡◌, refl, sym, ◌∙◌, ap, subst, ℕ, zero, suc, ◌==◌, List, [], ◌∷◌, ◌++◌, Option, Some, None, map, filter, take, slice_get}
use Rattle.std.specs.List.{filter_map, cons_option}
use Rattle.relay_outside.specs.declared.ports.InCall.{InCall}
use Rattle.relay_outside.specs.declared.ports.OutCall.{OutCall}
use Rattle.relay_outside.specs.declared.settings.Config.{Config}
use Rattle.relay_outside.specs.DeviceLogs.{EndLog}
use Rattle.turn_table.specs.declared.machine.Entry as table
use Rattle.turn_table.specs.Histories.{Leaves}
use Rattle.histories.specs.Words.{In, first}
use Rattle.port_pool.specs.declared.boxes.PairBox.{PairBox}
use Rattle.port_pool.specs.declared.holder.Holder.{Holder}
use Rattle.port_pool.specs.Signals.{NewKey}
use Rattle.relay_outside.specs.declared.address.Addr.{Addr}
use Rattle.relay_outside.specs.declared.ports.InGiven.{InGiven}
use Rattle.rtp_packet.specs.declared.head.Half.{Half}
use Rattle.rtp_packet.specs.declared.head.Half.TheVariants.{Rtp, Rtcp}
use Rattle.port_pool.specs.Ports.{AreOfPair, port_address}
use Rattle.port_pool.specs.Takes.{given_of, GainsTake, IsTakenFrom, EndsTaken}
use Rattle.port_pool.specs.Boxes.{BoxEvent, Taken, Open, Take, Close}
use Rattle.port_pool.specs.PairBoxes.{BoxFor, at_of, cells_of, ends_in}
use Rattle.call_cell.specs.declared.cell.Cell as cell
use Rattle.call_cell.specs.Cells.{CellEvent, CellEntry, Prepare, Commit, Relay, Expire, Read, End, since_end, keys_of, keys_in, key_numbered}
use Rattle.call_cell.specs.Good.{FittingCell, longer}
use Rattle.call_cell.specs.declared.outcome.Outcome.{Outcome}
use Rattle.call_cell.specs.Cells.{Relayed}
use Rattle.call_cell.specs.Deeds.{deed}
use Rattle.call_cell.specs.Demands.{FitsCell}
use Rattle.call_cell.specs.LegHistories.{sent_ok}
use Rattle.call_cell.specs.Preparations.{added}
use Rattle.call_cell.specs.LegReports.{read_after}
use Rattle.call_cell.specs.CellHistories.{CellFor, relayed_at}
use Rattle.call_board.specs.declared.board.Board as board
use Rattle.call_board.specs.Acts.{BoardEvent, BoardEntry}
use Rattle.call_board.specs.Boards.{BoardFor}
use Rattle.call_board.specs.Fits.{IsFitting}
use Rattle.call_board.specs.Futures.{closed_pairs}
use Rattle.call_cell.proofs.NewKeys.{none_since}
use Rattle.relay_core.specs.declared.part.Part.{Part}
use Rattle.relay_core.specs.declared.part.Part.TheVariants as part
use Rattle.relay_core.specs.Entries.{Event, Board, Cell, Box, Entry, board_at, cell_at, box_in, board_entry, cell_entry, box_event}
use Rattle.relay_core.specs.Records.{Left, Made, entry_of, logged_cell, logged_relay}
use Rattle.relay_core.specs.Steps.{board_made, BoardStep, BoardSteps, BoxEnds, BoxSteps, CellStepsBy, CellSteps, Relates, AreNew}
use Rattle.relay_core.specs.PlaceHistories.{logged_entry, FittingBox, CellStands, BringsNewKeys, Stands, IsBoardPart, IsCellPart, IsBoxPart, AreHome, BoxHome}

-- The keys that were brought.

told_keys : (c : CellEvent) → keys_of (logged_cell c) ≡ keys_of c
told_keys (Prepare call legs keys dropped) = refl
told_keys (Commit signal) = refl
told_keys (Relay x) = refl
told_keys (Expire due) = refl
told_keys (Read reports) = refl
told_keys End = refl

told_keys_in : (h : List CellEntry) → keys_in (map logged_entry h) ≡ keys_in h
told_keys_in [] = refl
told_keys_in (e ∷ h) =
    ap (λ (ks : List NewKey). ks ++ keys_in (map logged_entry h)) (told_keys e.event) ∙ ap (λ (ks : List NewKey). keys_of e.event ++ ks) (told_keys_in h)

-- so what is recorded tells which keys are new
pub new_recorded : (history recorded : List CellEntry) (keys : List NewKey) → map logged_entry history ≡ recorded
    → ((key : NewKey) → In key keys → key_numbered recorded key.number ≡ None) → AreNew history keys
new_recorded history recorded keys is new key i =
    let P : List NewKey → Type 0 = λ (ks : List NewKey). first (filter (λ (k : NewKey). k.number == key.number) ks) ≡ None in
    none_since history key.number
    (subst P (ap (λ (h : List CellEntry). keys_in h) (sym is) ∙ told_keys_in history) (new key i))

-- One step.

-- after the history an event of the board closes the legs of just the recorded pairs, in the recorded order
abbrev pub GivesBack : Made → Event → List BoardEntry → Type 0
GivesBack made (Board e) h = closed_pairs h (board_made made e) ≡ made.returned
GivesBack made (Cell e) h = Unit {0}
GivesBack made (Box e) h = Unit {0}

-- a step of the board, at a history after which it closes these
pub board_step_at : (config : Config) (old new : board.Board) (made : Made) (e : BoardEvent) (h : List BoardEntry) → BoardSteps old made (Board e) new
    → IsFitting config h × BoardFor config old h → GivesBack made (Board e) h → BoardStep config h made e new
board_step_at config old new made e h steps for gives =
    let c : old.config ≡ config = for.1.config_is in
    subst (λ (k : Config). BoardStep k h made e new) c
    (steps.steps h (subst (λ (k : Config). IsFitting k h) (sym c) for.0) (subst (λ (k : Config). BoardFor k old h) (sym c) for.1) gives)

after_board : (config : Config) (old new : board.Board) (made : Made) (ev : Event) (h : List BoardEntry) → GivesBack made ev h
    → BoardSteps old made ev new → IsFitting config h × BoardFor config old h
    → IsFitting config (cons_option (board_at made.moment ev) h) × BoardFor config new (cons_option (board_at made.moment ev) h)
after_board config old new made (Board e) h gives steps for =
    let s : BoardStep config h made e new = board_step_at config old new made e h steps for gives in
    ((s.fits, for.0), s.stands)
after_board config old new made (Cell e) h gives steps for = absurd steps
after_board config old new made (Box e) h gives steps for = absurd steps

after_box : {I : Type 0} (it : I → EndLog InCall) (ic : I → ℕ) (old new : PairBox I) (made : Made) (ev : Event) (h : List BoxEvent)
    → BoxSteps it ic old made ev new → FittingBox h × BoxFor old h → FittingBox (cons_option (box_in ev) h) × BoxFor new (cons_option (box_in ev) h)
after_box it ic old new made (Box e) h step for = let s = step.stands h for.1 in ((s.0, for.0), s.1)
after_box it ic old new made (Cell e) h step for = absurd step
after_box it ic old new made (Board e) h step for = absurd step

box_cells : {I : Type 0} (it : I → EndLog InCall) (ic : I → ℕ) (cells : ℕ) (old new : PairBox I) (made : Made) (ev : Event)
    → BoxSteps it ic old made ev new → cells_of old ≡ cells → cells_of new ≡ cells
box_cells it ic cells old new made (Box e) step is = step.cells_are ∙ is
box_cells it ic cells old new made (Cell e) step is = absurd step
box_cells it ic cells old new made (Board e) step is = absurd step

-- The ends of a box.

-- an end that was taken from once is of the same port
taken_at : {I : Type 0} (log : I → EndLog InCall) (faults : I → ℕ) (old new : I) (g : Option InGiven) → GainsTake log faults old new g → (log new).at ≡ (log old).at
taken_at log faults old new None gains = absurd gains
taken_at log faults old new (Some gave) gains = gains.same

home_from : {I : Type 0} (log : I → EndLog InCall) (faults : I → ℕ) (half : Half) (at : Addr) (old new : I × I) (taken : Taken)
    → IsTakenFrom log faults half old new taken → AreOfPair log at old.0 old.1 → AreOfPair log at new.0 new.1
home_from log faults Rtp at old new taken is home = record {
  rtp_at = taken_at log faults old.0 new.0 (given_of taken) is.0.gains ∙ home.rtp_at;
  rtcp_at = ap (λ (e : _). (log e).at) is.1 ∙ home.rtcp_at;
}
home_from log faults Rtcp at old new taken is home = record {
  rtp_at = ap (λ (e : _). (log e).at) is.0 ∙ home.rtp_at;
  rtcp_at = taken_at log faults old.1 new.1 (given_of taken) is.1.gains ∙ home.rtcp_at;
}

home_taken : {I : Type 0} (log : I → EndLog InCall) (faults : I → ℕ) (half : Half) (at : Addr) (old new : Option (I × I)) (taken : Taken)
    → EndsTaken log faults half old new taken → AreHome log at old → AreHome log at new
home_taken {I} log faults half at None new taken is home = subst (λ (o : Option (I × I)). AreHome log at o) (sym is) tt
home_taken log faults half at (Some old) None taken is home = absurd is
home_taken log faults half at (Some old) (Some new) taken is home = home_from log faults half at old new taken is home

home_by : {I : Type 0} (log : I → EndLog InCall) (faults : I → ℕ) (at : Addr) (e : BoxEvent) (left : Left) (old new : Option (I × I))
    → BoxEnds log faults at e left old new → AreHome log at old → AreHome log at new
home_by {I} log faults at (Open leg) left old new ends home =
    subst (λ (o : Option (I × I)). AreHome log at o) (sym ends.1.are_in) (record { rtp_at = ends.1.rtp_is_new.at_is; rtcp_at = ends.1.rtcp_is_new.at_is })
home_by log faults at (Take half taken) left old new ends home = home_taken log faults half at old new taken ends home
home_by {I} log faults at Close left old new ends home = subst (λ (o : Option (I × I)). AreHome log at o) (sym ends.0) tt

box_home : {I : Type 0} (log : I → EndLog InCall) (faults : I → ℕ) (at : Addr) (old new : PairBox I) (made : Made) (ev : Event)
    → BoxSteps log faults old made ev new → (at_of old ≡ at) × AreHome log (at_of old) (ends_in old) → (at_of new ≡ at) × AreHome log (at_of new) (ends_in new)
box_home log faults at old new made (Box e) step is = (
  step.at_is ∙ is.0,
  subst (λ (a : Addr). AreHome log a (ends_in new)) (sym step.at_is) (home_by log faults (at_of old) e made.left (ends_in old) (ends_in new) step.ends is.1),
)
box_home log faults at old new made (Cell e) step is = absurd step
box_home log faults at old new made (Board e) step is = absurd step

-- a cell that makes one more entry, which is recorded so
one_more : {O : Type 0} (config : Config) (new : cell.Cell O) (history recorded : List CellEntry) (e r : CellEntry) → map logged_entry history ≡ recorded
    → FittingCell config history → FitsCell config history e → CellFor config new (e ∷ history) → logged_entry e ≡ r → CellStands config new (r ∷ recorded)
one_more config new history recorded e r is fitting fits stands log = record {
  history = e ∷ history;
  is_recorded = ap (λ (x : CellEntry). x ∷ map logged_entry history) log ∙ ap (λ (h : List CellEntry). r ∷ h) is;
  fitting = longer fits fitting;
  stands = stands;
}

at_same : (a b : ℕ) (event : CellEvent) → a ≡ b → logged_cell event ≡ event → logged_entry (record { moment = a; event = event }) ≡ record { moment = b; event = event }
at_same a b event p q =
    ap (λ (m : ℕ). logged_entry (record { moment = m; event = event })) p ∙ ap (λ (c : CellEvent). record { moment = b; event = c }) q

after_cell_by : {O : Type 0} (ot : O → EndLog OutCall) (oc : O → ℕ) (config : Config) (old new : cell.Cell O) (made : Made) (ev : CellEvent)
    (recorded : List CellEntry) → ((key : NewKey) → In key (keys_of ev) → key_numbered recorded key.number ≡ None)
    → CellStepsBy ot oc old made ev new → CellStands config old recorded
    → CellStands config new ((record { moment = made.moment; event = ev }) ∷ recorded)
after_cell_by ot oc config old new made (Prepare call legs keys dropped) recorded fresh step for =
    let s = step.steps config for.history for.stands (new_recorded for.history recorded keys for.is_recorded fresh) in
    one_more config new for.history recorded _ _ for.is_recorded for.fitting s.1.fits s.1.stands
    (at_same _ _ (Prepare call (added step.signal) keys dropped) (sym s.0) refl
    ∙ ap (λ (ls : List Holder). record { moment = made.moment; event = Prepare call ls keys dropped }) step.legs_are)
after_cell_by ot oc config old new made (Commit signal) recorded fresh step for =
    let s = step.steps config for.history for.stands in
    one_more config new for.history recorded _ _ for.is_recorded for.fitting s.1.fits s.1.stands (at_same _ _ (Commit signal) (sym s.0) refl)
after_cell_by ot oc config old new made (Relay x) recorded fresh step for =
    let s = step.steps config for.history x.packet.take for.stands in
    let d = deed config (since_end for.history) x.packet (sent_ok x.deed.outcome) in
    let shown : logged_relay x.packet d.outcome ≡ x = ap (λ (o : Outcome). logged_relay x.packet o) (sym s.1.outcome) ∙ sym step.is_told in
    one_more config new for.history recorded (relayed_at config for.history x.packet made.handed x.deed.outcome) (record { moment = made.moment; event = Relay x })
    for.is_recorded for.fitting s.1.fits s.1.stands
    (ap (λ (m : ℕ). record { moment = m; event = Relay (logged_relay x.packet d.outcome) }) (sym s.0)
    ∙ ap (λ (r : Relayed). record { moment = made.moment; event = Relay r }) shown)
after_cell_by ot oc config old new made (Expire due) recorded fresh step for =
    let s = step.steps config for.history for.stands in
    one_more config new for.history recorded _ _ for.is_recorded for.fitting s.1.fits s.1.stands (at_same _ _ (Expire due) (sym s.0) refl)
after_cell_by ot oc config old new made (Read reports) recorded fresh step for =
    let s = step.steps config for.history for.stands in
    let e = read_after for.history reports in
    one_more config new for.history recorded e (record { moment = made.moment; event = Read reports }) for.is_recorded for.fitting s.1.fits
    (subst (λ (c : cell.Cell _). CellFor config c (e ∷ for.history)) (sym step.same) s.1.stands) (at_same _ _ (Read reports) (sym s.0) refl)
after_cell_by ot oc config old new made End recorded fresh step for =
    let s = step.steps config for.history for.stands in
    one_more config new for.history recorded _ _ for.is_recorded for.fitting s.1.fits s.1.stands (at_same _ _ End (sym s.0) refl)

after_cell : {O : Type 0} (ot : O → EndLog OutCall) (oc : O → ℕ) (config : Config) (old new : cell.Cell O) (made : Made) (ev : Event)
    (recorded : List CellEntry) → BringsNewKeys (cons_option (cell_at made.moment ev) recorded)
    → CellSteps ot oc old made ev new → CellStands config old recorded → CellStands config new (cons_option (cell_at made.moment ev) recorded)
after_cell ot oc config old new made (Cell e) recorded fresh step for = after_cell_by ot oc config old new made e recorded fresh.0 step for
after_cell ot oc config old new made (Board e) recorded fresh step for = absurd step
after_cell ot oc config old new made (Box e) recorded fresh step for = absurd step

brings_option : (o : Option CellEntry) (h : List CellEntry) → BringsNewKeys (cons_option o h) → BringsNewKeys h
brings_option None h b = b
brings_option (Some e) h b = b.1

-- Any number of steps.

module _ {T : Type 0} where
  -- the history with these rows of the table, from the first to the last
  abbrev pub onto : List (table.Entry Made T) → List Entry → List Entry
  onto [] h = h
  onto (row ∷ rows) h = onto rows (entry_of row ∷ h)

  pub brings_onto : (rows : List (table.Entry Made T)) (h : List Entry) → BringsNewKeys (filter_map cell_entry (onto rows h)) → BringsNewKeys (filter_map cell_entry h)
  brings_onto [] h b = b
  brings_onto (row ∷ rows) h b = brings_option (cell_entry (entry_of row)) (filter_map cell_entry h) (brings_onto rows (entry_of row ∷ h) b)

  -- each step of the board among these rows records the pairs of the legs that it closes after the board's entries before it
  abbrev pub GiveBackOnto : List (table.Entry Made T) → List Entry → Type 0
  GiveBackOnto [] h = Unit {0}
  GiveBackOnto (row ∷ rows) h = GivesBack row.event row.event.event (filter_map board_entry h) × GiveBackOnto rows (entry_of row ∷ h)

  pub give_back_from : (rows : List (table.Entry Made T)) (h : List Entry)
      → ((i : ℕ) (row : table.Entry Made T) → slice_get rows i ≡ Some row
      → GivesBack row.event row.event.event (filter_map board_entry (onto (take i rows) h))) → GiveBackOnto rows h
  give_back_from [] h each = tt
  give_back_from (row ∷ rows) h each = (each 0 row refl, give_back_from rows (entry_of row ∷ h) (λ i r q. each (suc i) r q))

  pub give_back_taken : (n : ℕ) (rows : List (table.Entry Made T)) (h : List Entry) → GiveBackOnto rows h → GiveBackOnto (take n rows) h
  give_back_taken zero [] h r = tt
  give_back_taken zero (row ∷ rows) h r = tt
  give_back_taken (suc n) [] h r = tt
  give_back_taken (suc n) (row ∷ rows) h r = (r.0, give_back_taken n rows (entry_of row ∷ h) r.1)

  module _ {I O : Type 0} (it : I → EndLog InCall) (ic : I → ℕ) (ot : O → EndLog OutCall) (oc : O → ℕ) where
    abbrev pub Steps : Part I O → Made → T → Part I O → Type 0
    Steps old made outcome new = Relates it ic ot oc old made new

    cell_back : (a b : Part I O) (made : Made) (outcome : T) → Steps a made outcome b → IsCellPart b → IsCellPart a
    cell_back (part.Board old) (part.Board new) made o step is = is
    cell_back (part.Cell old) (part.Cell new) made o step is = is
    cell_back (part.Pair old) (part.Pair new) made o step is = is
    cell_back _ _ made o step is = absurd step

    board_back : (a b : Part I O) (made : Made) (outcome : T) → Steps a made outcome b → IsBoardPart b → IsBoardPart a
    board_back (part.Board old) (part.Board new) made o step is = is
    board_back (part.Cell old) (part.Cell new) made o step is = is
    board_back (part.Pair old) (part.Pair new) made o step is = is
    board_back _ _ made o step is = absurd step

    after : (config : Config) (old new : Part I O) (row : table.Entry Made T) (h : List Entry)
        → (IsCellPart old → BringsNewKeys (filter_map cell_entry (entry_of row ∷ h)))
        → (IsBoardPart old → GivesBack row.event row.event.event (filter_map board_entry h))
        → Steps old row.event row.outcome new → Stands config old h → Stands config new (entry_of row ∷ h)
    after config (part.Board old) (part.Board new) row h fresh gives step for =
        after_board config old new row.event row.event.event (filter_map board_entry h) (gives tt) step for
    after config (part.Cell old) (part.Cell new) row h fresh gives step for =
        after_cell ot oc config old new row.event row.event.event (filter_map cell_entry h) (fresh tt) step for
    after config (part.Pair old) (part.Pair new) row h fresh gives step for =
        after_box it ic old new row.event row.event.event (filter_map box_event h) step for
    after config _ _ row h fresh gives step for = absurd step

    -- a state stands for the history with the rows that lead to it
    pub stands_onto : (config : Config) (a b : Part I O) (rows : List (table.Entry Made T)) (h : List Entry) → Leaves Steps a rows b
        → (IsCellPart a → BringsNewKeys (filter_map cell_entry (onto rows h))) → (IsBoardPart a → GiveBackOnto rows h)
        → Stands config a h → Stands config b (onto rows h)
    stands_onto config a b [] h same fresh give for = subst (λ (x : Part I O). Stands config x h) same for
    stands_onto config a b (row ∷ rows) h l fresh give for =
        stands_onto config l.0 b rows (entry_of row ∷ h) l.2 (λ is. fresh (cell_back a l.0 row.event row.outcome l.1 is))
        (λ is. (give (board_back a l.0 row.event row.outcome l.1 is)).1)
        (after config a l.0 row h (λ is. brings_onto rows (entry_of row ∷ h) (fresh is)) (λ is. (give is).0) l.1 for)

    -- a board stays a board, a cell a cell, and a box a box
    board_step : (a b : Part I O) (made : Made) (outcome : T) → Steps a made outcome b → IsBoardPart a → IsBoardPart b
    board_step (part.Board old) (part.Board new) made o step is = is
    board_step (part.Cell old) (part.Cell new) made o step is = is
    board_step (part.Pair old) (part.Pair new) made o step is = is
    board_step _ _ made o step is = absurd step

    cell_step : (a b : Part I O) (made : Made) (outcome : T) → Steps a made outcome b → IsCellPart a → IsCellPart b
    cell_step (part.Board old) (part.Board new) made o step is = is
    cell_step (part.Cell old) (part.Cell new) made o step is = is
    cell_step (part.Pair old) (part.Pair new) made o step is = is
    cell_step _ _ made o step is = absurd step

    box_step : (cells : ℕ) (a b : Part I O) (made : Made) (outcome : T) → Steps a made outcome b → IsBoxPart cells a → IsBoxPart cells b
    box_step cells (part.Board old) (part.Board new) made o step is = is
    box_step cells (part.Cell old) (part.Cell new) made o step is = is
    box_step cells (part.Pair old) (part.Pair new) made o step is = box_cells it ic cells old new made made.event step is
    box_step cells _ _ made o step is = absurd step

    home_step : (config : Config) (pair : ℕ) (a b : Part I O) (made : Made) (outcome : T) → Steps a made outcome b → BoxHome it config pair a → BoxHome it config pair b
    home_step config pair (part.Board old) (part.Board new) made o step is = is
    home_step config pair (part.Cell old) (part.Cell new) made o step is = is
    home_step config pair (part.Pair old) (part.Pair new) made o step is = box_home it ic (port_address config pair Rtp) old new made made.event step is
    home_step config pair _ _ made o step is = absurd step

    stays : (P : Part I O → Type 0) → ((a b : Part I O) (made : Made) (o : T) → Steps a made o b → P a → P b)
        → (a b : Part I O) (rows : List (table.Entry Made T)) → Leaves Steps a rows b → P a → P b
    stays P step a b [] same is = subst P same is
    stays P step a b (row ∷ rows) l is = stays P step l.0 b rows l.2 (step a l.0 row.event row.outcome l.1 is)

    pub board_stays : (a b : Part I O) (rows : List (table.Entry Made T)) → Leaves Steps a rows b → IsBoardPart a → IsBoardPart b
    board_stays a b rows l is = stays IsBoardPart board_step a b rows l is

    pub cell_stays : (a b : Part I O) (rows : List (table.Entry Made T)) → Leaves Steps a rows b → IsCellPart a → IsCellPart b
    cell_stays a b rows l is = stays IsCellPart cell_step a b rows l is

    pub box_stays : (cells : ℕ) (a b : Part I O) (rows : List (table.Entry Made T)) → Leaves Steps a rows b → IsBoxPart cells a → IsBoxPart cells b
    box_stays cells a b rows l is = stays (IsBoxPart cells) (box_step cells) a b rows l is

    -- the ends of a box stay those of its pair's ports
    pub home_stays : (config : Config) (pair : ℕ) (a b : Part I O) (rows : List (table.Entry Made T)) → Leaves Steps a rows b → BoxHome it config pair a → BoxHome it config pair b
    home_stays config pair a b rows l is = stays (BoxHome it config pair) (home_step config pair) a b rows l is

-- Two control turns on one datagram, after one history of the board and of each cell, print the same.
use Rattle.std.proofs.Common.{◌⊎◌, ◌≡◌, ◌∙◌, sym, ap, subst, refl, ℕ, ◌≤◌, inl, inr, List, [], ◌∷◌, ◌++◌, map, filter_map, Bool, true, false, Some, None, arith}
use Rattle.histories.specs.Words.{In, here, there}
use Rattle.histories.proofs.Lists.{in_left, in_right}
use Rattle.ng_frame.specs.Frame.{frame}
use Rattle.relay_outside.specs.declared.address.Addr.{Addr}
use Rattle.relay_outside.specs.declared.keys.KeyCall.{KeyCall}
use Rattle.relay_outside.specs.declared.ports.PortCall.{PortCall}
use Rattle.relay_outside.specs.declared.settings.Config.{Config}
use Rattle.port_pool.specs.declared.reports.LegReport.{LegReport}
use Rattle.call_cell.specs.Cells.{CellEntry, Read, since_end}
use Rattle.call_cell.specs.Demands.{reports}
use Rattle.call_cell.specs.Good.{FittingCell}
use Rattle.call_board.specs.Acts as act
use Rattle.call_board.specs.Acts.{Call, Control, Turn, BoardEvent, BoardEntry}
use Rattle.call_board.specs.Pairs.{leased_by_act}
use Rattle.call_board.specs.Fits.{FitsControl}
use Rattle.relay_core.specs.Entries.{Event, Board, Entry, cell_at, cell_entry, cell_history}
use Rattle.relay_core.specs.Scripts.{Owed, owed_by, in_cell, reading, script, script_of_act}
use Rattle.relay_core.specs.PlaceHistories.{logged_entry}
use Rattle.relay_core.specs.Turns.{IsAbove}
use Rattle.media_ports.specs.Openings.{OpensAt}
use Rattle.board_turns.specs.Between.{board_of}
use Rattle.board_turns.specs.Controls.{RequestRecord, control_of, entry_at, moment_at}
use Rattle.board_turns.specs.DeviceAnswers.{draws_of}
use Rattle.replay_devices.specs.Devices.{Happening}
use Rattle.relay_script.specs.EventLines as event
use Rattle.relay_script.specs.EventLines.{Printed}
use Rattle.replay_steps.specs.Steps.{TurnsBoard, IsRecordFrom, Replying, Answers, Controls, OpensAsked, DrawsAsked, filled}
use Rattle.board_laws.specs.Alike.{AreOfOne, HasMemory, GiveAlike, AreOne}
use Rattle.board_laws.proofs.Answered.{one_turn}
use Rattle.replay_laws.specs.Alike.{bare_event, AlikeLists, NeverOutOfMemory, TellsReports, IsReport}
use Rattle.replay_laws.proofs.Boards.{SameBoards, same_boards}
use Rattle.replay_laws.proofs.Answering.{has_memory, owes_one, not_out_of_memory, bare_one}
use Rattle.replay_laws.proofs.Fitting.{fits_same, time_same, turn_same, script_same}
use Rattle.replay_laws.proofs.Turns.{TurnAlike}
use Rattle.replay_laws.proofs.Lists.{told_once, same_history, not_cell}
use Rattle.replay_laws.proofs.Relays.{SameCells}
use Rattle.replay_laws.proofs.Turned.{turn_fits, turn_event, turn_owes}
use Rattle.replay_laws.proofs.Leasing.{LeasesWanted, LeaseOne, one_lease, opens_wanted}
use Rattle.replay_laws.proofs.Asked.{openings_agree, openings_once, draws_agree, draws_once}

-- What is known of one turn.

-- what was told of a call in a cell is by the history that a list has of the cell
record Reported (config : Config) (l : List Entry) (cell : ℕ) (all_reports : List LegReport) : Type 0 where
  number : ℕ
  above : IsAbove l cell number
  history_is : List CellEntry
  recorded : map logged_entry history_is ≡ cell_history l cell number
  fitting : FittingCell config history_is
  told_is : all_reports ≡ reports config (since_end history_is)

-- the datagram with its reply after that history
abbrev turn_of : Config → List BoardEntry → (clock : ℕ) → RequestRecord → Control
turn_of config h clock x = control_of config h (moment_at h clock) x

record Turned (config : Config) (h : List BoardEntry) (clock : ℕ) (l : List Entry) (x : RequestRecord) : Type 0 where
  fits : FitsControl config h (moment_at h clock) (turn_of config h clock x)
  fed : HasMemory (turn_of config h clock x)
  log : (of : Call) (some : List LegReport) → (turn_of config h clock x).act ≡ act.Queried of → x.given.report ≡ Some some → Reported config l of.cell some

record One (w : Owed) (ns : List Entry) : Type 0 where
  entry : Entry
  only : ns ≡ entry ∷ []
  owed : owed_by entry ≡ w

one_case : (w : Owed) (n : Entry) (ns : List Entry) → owed_by n ∷ map owed_by ns ≡ w ∷ [] → One w (n ∷ ns)
one_case w n [] is = record { entry = n; only = refl; owed = (let e = is in cc) }
one_case w n (m ∷ ns) is = absurd (let e = is in cc)

one_owed : (w : Owed) (ns : List Entry) → map owed_by ns ≡ w ∷ [] → One w ns
one_owed w [] is = absurd (let e = is in cc)
one_owed w (n ∷ ns) is = one_case w n ns is

at_or_above : (e f : Entry) → In f (e ∷ []) → e.number ≤ f.number
at_or_above e f (here q) = let z = ap (λ (x : Entry). x.number) q in omega (arith, z)
at_or_above e f (there i) = elim i [ ]

no_cell : (e : Entry) (b : BoardEvent) → e.event ≡ Board b → cell_entry e ≡ None
no_cell e b is = ap (λ (v : Event). cell_at e.moment v) is

reported : (config : Config) (l : List Entry) (e : BoardEntry) (new : List Entry) (c : Control) (of : Call) (some : List LegReport) → (t : TurnsBoard config l e new)
    → e.event ≡ Turn c → TellsReports config new → script config (board_of l) e ≡ in_cell of (Read some) ∷ [] → Reported config l of.cell some
reported config l e new c of some t is tells owes =
    let one = one_owed (in_cell of (Read some)) t.nested (turn_owes config l e new t ∙ owes) in
    let n : Entry = one.entry in
    let place : n.place ≡ of.cell = ap (λ (w : Owed). w.place) one.owed in
    let i : In n t.nested = subst (λ (ns : List Entry). In n ns) (sym one.only) (here refl) in
    let j : In n new = subst (λ (k : List Entry). In n k) (sym t.list_is) (in_left (l ++ t.nested) (t.last ∷ []) (in_right l t.nested i)) in
    let r : IsReport config new n some = tells n some j (ap (λ (w : Owed). w.event) one.owed) in
    let last = turn_event config l e new t in
    let none : cell_entry t.last ≡ None = no_cell t.last e.event last.1 in
    let same : cell_history new n.place n.number ≡ cell_history l n.place n.number =
    ap (λ (k : List Entry). cell_history k n.place n.number) (t.list_is ∙ ap (λ (ns : List Entry). (l ++ ns) ++ t.last ∷ []) one.only)
    ∙ not_cell (l ++ n ∷ []) t.last n.place n.number none
    ∙ ap (filter_map cell_entry) (same_history l (n ∷ []) n.place n.number (λ f k p. at_or_above n f k)) in
    record {
      number = n.number;
      above = subst (λ (p : ℕ). IsAbove l p n.number) place (t.turn.above n i);
      history_is = r.history;
      recorded = r.recorded ∙ same ∙ ap (λ (p : ℕ). cell_history l p n.number) place;
      fitting = r.fitting;
      told_is = r.told_is;
    }

turned : (config : Config) (clock : ℕ) (l : List Entry) (x : RequestRecord) (new : List Entry) → TurnsBoard config l (entry_at config (board_of l) (moment_at (board_of l) clock) x) new
    → NeverOutOfMemory new → TellsReports config new → Turned config (board_of l) clock l x
turned config clock l x new t fed tells =
    let h : List BoardEntry = board_of l in
    let e : BoardEntry = entry_at config h (moment_at h clock) x in
    let c : Control = turn_of config h clock x in
    let there = turn_event config l e new t in
    record {
      fits = turn_fits config l e new t;
      fed = has_memory config h (moment_at h clock) c (turn_fits config l e new t) (fed t.last c there.0 there.1);
      log = λ of some is log. reported config l e new c of some t refl tells
          (ap (script_of_act config h e c) is ∙ ap (reading (Some of)) log);
    }

-- Two turns.

report_once : (config : Config) (l k : List Entry) (cell : ℕ) (m n : List LegReport) → SameCells l k → Reported config l cell m → Reported config k cell n → m ≡ n
report_once config l k cell m n cells a b =
    let same = told_once config a.history_is b.history_is (a.recorded ∙ cells cell a.number b.number a.above b.above ∙ sym b.recorded) a.fitting b.fitting in
    a.told_is ∙ ap (λ (h : List CellEntry). reports config (since_end h)) same ∙ sym b.told_is

abbrev Parts : Type 0
Parts = List ℕ × List ℕ

parts_once : (x y : Parts) → Some x ≡ Some y → x ≡ y
parts_once x y e = cc

of_one : (config : Config) (h : List BoardEntry) (clock : ℕ) (source : Addr) (bytes : List ℕ) (x y : RequestRecord) → IsRecordFrom x source bytes → IsRecordFrom y source bytes
    → AreOfOne (turn_of config h clock x) (turn_of config h clock y)
of_one config h clock source bytes x y a b =
    let both = parts_once (x.cookie, x.body) (y.cookie, y.body) (sym a.framed ∙ b.framed) in
    record { source = a.source_is ∙ sym b.source_is; cookie = ap (λ (z : Parts). z.0) both; body = ap (λ (z : Parts). z.1) both }

-- what the turn's calls came to
record Ran (config : Config) (seed : ℕ) (old : List Happening) (pairs : List ℕ) (x : RequestRecord) (past : List Happening) : Type 0 where
  opened : List PortCall
  between : List Happening
  opens : OpensAt config pairs x.given.opens opened
  asked : OpensAsked config opened old between
  drawn : DrawsAsked seed (draws_of x.given) between past

ran_alike : (config : Config) (seed : ℕ) (h : List BoardEntry) (clock : ℕ) (l k : List Entry) (old : List Happening) (pairs : List ℕ) (x y : RequestRecord) (p q : List Happening) → SameCells l k
    → Turned config h clock l x → Turned config h clock k y → Ran config seed old pairs x p → Ran config seed old pairs y q → GiveAlike (turn_of config h clock x) (turn_of config h clock y)
ran_alike config seed h clock l k old pairs x y p q cells s t a b = record {
  opens = openings_agree config pairs x.given.opens y.given.opens a.opened b.opened old a.between b.between a.opens b.opens a.asked b.asked;
  draws = λ same.
      let mid = openings_once config pairs x.given.opens y.given.opens a.opened b.opened old a.between b.between a.opens b.opens a.asked b.asked same in
      draws_agree seed (draws_of x.given) (draws_of y.given) b.between p q
      (subst (λ (z : List Happening). DrawsAsked seed (draws_of x.given) z p) mid a.drawn) b.drawn;
  reports = λ of m n is_x is_y told_x told_y. report_once config l k of.cell m n cells (s.log of m is_x told_x) (t.log of n is_y told_y);
}

ran_wanted : (config : Config) (seed : ℕ) (old : List Happening) (wanted leased : List ℕ) (x : RequestRecord) (past : List Happening) → LeasesWanted wanted leased
    → Ran config seed old leased x past → Ran config seed old wanted x past
ran_wanted config seed old wanted leased x past those r = record {
  opened = r.opened;
  between = r.between;
  opens = opens_wanted config wanted leased x.given.opens r.opened those r.opens;
  asked = r.asked;
  drawn = r.drawn;
}

past_once : (config : Config) (seed : ℕ) (old : List Happening) (pairs : List ℕ) (x y : RequestRecord) (p q : List Happening) → x.given ≡ y.given
    → Ran config seed old pairs x p → Ran config seed old pairs y q → p ≡ q
past_once config seed old pairs x y p q same a b =
    let mid = openings_once config pairs x.given.opens y.given.opens a.opened b.opened old a.between b.between a.opens b.opens a.asked b.asked (ap (λ (g : act.Given). g.opens) same) in
    draws_once seed (draws_of y.given) b.between p q
    (subst (λ (calls : List KeyCall). DrawsAsked seed calls b.between p) (ap draws_of same)
    (subst (λ (z : List Happening). DrawsAsked seed (draws_of x.given) z p) mid a.drawn)) b.drawn

replying_once : (failing : Bool) (source : Addr) (m n : List ℕ) (e f : Printed) → m ≡ n → Replying failing source m e → Replying failing source n f → e ≡ f
replying_once true source m n e f same a b = a ∙ sym b
replying_once false source m n e f same a b = a ∙ ap (event.Reply source) same ∙ sym b

-- one turn with its reply, after a history of the board
record Replied (config : Config) (seed : ℕ) (h : List BoardEntry) (clock : ℕ) (l : List Entry) (old : List Happening) (source : Addr) (bytes : List ℕ) (failing : Bool) (e : Printed) (past : List Happening) : Type 0 where
  heard : RequestRecord
  is_heard : IsRecordFrom heard source bytes
  turned_so : Turned config h clock l heard
  ran : Ran config seed old (leased_by_act (turn_of config h clock heard).act) heard past
  replies : Replying failing source (turn_of config h clock heard).reply e

one_reply : (config : Config) (seed : ℕ) (h : List BoardEntry) (clock : ℕ) (l k : List Entry) (old : List Happening) (source : Addr) (bytes : List ℕ) (failing : Bool) (e f : Printed) (p q : List Happening)
    → SameCells l k → (a : Replied config seed h clock l old source bytes failing e p) → (b : Replied config seed h clock k old source bytes failing f q)
    → AreOne (turn_of config h clock a.heard) (turn_of config h clock b.heard)
one_reply config seed h clock l k old source bytes failing e f p q cells a b =
    let c : Control = turn_of config h clock a.heard in
    let d : Control = turn_of config h clock b.heard in
    let of = of_one config h clock source bytes a.heard b.heard a.is_heard b.is_heard in
    let lease : LeaseOne c d = one_lease config h (moment_at h clock) c d a.turned_so.fits b.turned_so.fits of a.turned_so.fed b.turned_so.fed in
    one_turn config h (moment_at h clock) c d a.turned_so.fits b.turned_so.fits of a.turned_so.fed b.turned_so.fed
    (ran_alike config seed h clock l k old lease.wanted a.heard b.heard p q cells a.turned_so b.turned_so
    (ran_wanted config seed old lease.wanted (leased_by_act c.act) a.heard p lease.left a.ran) (ran_wanted config seed old lease.wanted (leased_by_act d.act) b.heard q lease.right b.ran))

replied_once : (config : Config) (seed : ℕ) (h : List BoardEntry) (clock : ℕ) (l k : List Entry) (old : List Happening) (source : Addr) (bytes : List ℕ) (failing : Bool) (e f : Printed) (p q : List Happening)
    → SameCells l k → Replied config seed h clock l old source bytes failing e p → Replied config seed h clock k old source bytes failing f q → (e ≡ f) × (p ≡ q)
replied_once config seed h clock l k old source bytes failing e f p q cells a b =
    let x : RequestRecord = a.heard in
    let y : RequestRecord = b.heard in
    let c : Control = turn_of config h clock x in
    let d : Control = turn_of config h clock y in
    let of = of_one config h clock source bytes x y a.is_heard b.is_heard in
    let lease : LeaseOne c d = one_lease config h (moment_at h clock) c d a.turned_so.fits b.turned_so.fits of a.turned_so.fed b.turned_so.fed in
    let one : AreOne c d = one_reply config seed h clock l k old source bytes failing e f p q cells a b in (
      replying_once failing source c.reply d.reply e f one.reply a.replies b.replies,
      past_once config seed old lease.wanted x y p q one.given
          (ran_wanted config seed old lease.wanted (leased_by_act c.act) x p lease.left a.ran) (ran_wanted config seed old lease.wanted (leased_by_act d.act) y q lease.right b.ran),
    )

replied : (config : Config) (seed clock : ℕ) (l : List Entry) (old : List Happening) (source : Addr) (bytes : List ℕ) (failing : Bool) (opened : List PortCall) (drawn : List KeyCall)
    (e : Printed) (new : List Entry) (between past : List Happening) → Answers config clock l source bytes failing opened drawn e new → NeverOutOfMemory new → TellsReports config new
    → OpensAsked config opened old between → DrawsAsked seed drawn between past → Replied config seed (board_of l) clock l old source bytes failing e past
replied config seed clock l old source bytes failing opened drawn e new between past a fed tells opens draws = record {
  heard = a.heard;
  is_heard = a.is_heard;
  turned_so = turned config clock l a.heard new a.turns fed tells;
  ran = record { opened = opened; between = between; opens = a.opens; asked = opens; drawn = subst (λ (calls : List KeyCall). DrawsAsked seed calls between past) a.draws draws };
  replies = a.replies;
}

-- the same by another history of the board, of which the same is asked
module _ (config : Config) (seed : ℕ) (h k : List BoardEntry) (same : SameBoards config h k) (clock : ℕ) (l : List Entry) (old : List Happening) (source : Addr) (bytes : List ℕ) (failing : Bool) (e : Printed) (past : List Happening) where
  turned_too : (x : RequestRecord) → Turned config h clock l x → Turned config k clock l x
  turned_too x t = record {
    fits = subst (λ (c : Control). FitsControl config k (moment_at k clock) c) (turn_same config h k same clock x)
        (subst (λ (m : ℕ). FitsControl config k m (turn_of config h clock x)) (time_same config h k same clock)
        (fits_same config h k same (moment_at h clock) (turn_of config h clock x) t.fits));
    fed = t.fed;
    log = λ of some is log. t.log of some (ap (λ (c : Control). c.act) (turn_same config h k same clock x) ∙ is) log;
  }

  replied_too : Replied config seed h clock l old source bytes failing e past → Replied config seed k clock l old source bytes failing e past
  replied_too r = record {
    heard = r.heard;
    is_heard = r.is_heard;
    turned_so = turned_too r.heard r.turned_so;
    ran = subst (λ (c : Control). Ran config seed old (leased_by_act c.act) r.heard past) (turn_same config h k same clock r.heard) r.ran;
    replies = subst (λ (c : Control). Replying failing source c.reply e) (turn_same config h k same clock r.heard) r.replies;
  }

-- nothing was asked
idle_past : (config : Config) (seed : ℕ) (opened : List PortCall) (drawn : List KeyCall) (old between past : List Happening) → opened ≡ [] → drawn ≡ []
    → OpensAsked config opened old between → DrawsAsked seed drawn between past → past ≡ old
idle_past config seed opened drawn old between past none no_draw opens draws =
    let p : past ≡ between = subst (λ (calls : List KeyCall). DrawsAsked seed calls between past) no_draw draws in
    let q : between ≡ old = subst (λ (calls : List PortCall). OpensAsked config calls old between) none opens in
    p ∙ q

framed_not : (bytes : List ℕ) (x : List ℕ × List ℕ) → frame bytes ≡ None → frame bytes ≡ Some x → ⊥
framed_not bytes x p q = let e = sym p ∙ q in cc

pub control_once : (config : Config) (seed clock : ℕ) (l k : List Entry) (old : List Happening) (source : Addr) (bytes : List ℕ) (read_fails reply_fails : Bool)
    (opened opens_too : List PortCall) (drawn draws_too : List KeyCall) (e f : Printed) (new more : List Entry) (between mid past now : List Happening)
    → AlikeLists config l k → NeverOutOfMemory new → NeverOutOfMemory more → TellsReports config new → TellsReports config more
    → Controls config clock l source bytes read_fails reply_fails opened drawn e new → Controls config clock k source bytes read_fails reply_fails opens_too draws_too f more
    → OpensAsked config opened old between → OpensAsked config opens_too old mid → DrawsAsked seed drawn between past → DrawsAsked seed draws_too mid now
    → (e ≡ f) × (past ≡ now)
control_once config seed clock l k old source bytes true reply_fails opened opens_too drawn draws_too e f new more between mid past now alike fed fed_too tells tells_too a b o p d q = (
  a.0 ∙ sym b.0,
  idle_past config seed opened drawn old between past a.1.0 a.1.1 o d ∙ sym (idle_past config seed opens_too draws_too old mid now b.1.0 b.1.1 p q),
)
control_once config seed clock l k old source bytes false reply_fails opened opens_too drawn draws_too e f new more between mid past now alike fed fed_too tells tells_too (inl a) (inl b) o p d q = (
  a.1 ∙ sym b.1,
  idle_past config seed opened drawn old between past a.2.0 a.2.1 o d ∙ sym (idle_past config seed opens_too draws_too old mid now b.2.0 b.2.1 p q),
)
control_once config seed clock l k old source bytes false reply_fails opened opens_too drawn draws_too e f new more between mid past now alike fed fed_too tells tells_too (inl a) (inr b) o p d q =
    absurd (framed_not (filled bytes) (b.heard.cookie, b.heard.body) a.0 b.is_heard.framed)
control_once config seed clock l k old source bytes false reply_fails opened opens_too drawn draws_too e f new more between mid past now alike fed fed_too tells tells_too (inr a) (inl b) o p d q =
    absurd (framed_not (filled bytes) (a.heard.cookie, a.heard.body) b.0 a.is_heard.framed)
control_once config seed clock l k old source bytes false reply_fails opened opens_too drawn draws_too e f new more between mid past now alike fed fed_too tells tells_too (inr a) (inr b) o p d q =
    let same : SameBoards config (board_of k) (board_of l) = same_boards config (board_of k) (board_of l) (sym alike.board) in
    replied_once config seed (board_of l) clock l k old source (filled bytes) reply_fails e f past now alike.cells
    (replied config seed clock l old source (filled bytes) reply_fails opened drawn e new between past a fed tells o d)
    (replied_too config seed (board_of k) (board_of l) same clock k old source (filled bytes) reply_fails f now
    (replied config seed clock k old source (filled bytes) reply_fails opens_too draws_too f more mid now b fed_too tells_too p q))

-- Turns of the board that two control turns made are alike.

abbrev moment_with : ℕ → BoardEvent → BoardEntry
moment_with moment v = record { moment = moment; event = v }

answers_alike : (config : Config) (seed clock : ℕ) (l k : List Entry) (old : List Happening) (source : Addr) (bytes : List ℕ) (failing : Bool) (opened opens_too : List PortCall) (drawn draws_too : List KeyCall)
    (e f : Printed) (new more : List Entry) (between mid past now : List Happening) → AlikeLists config l k → NeverOutOfMemory new → NeverOutOfMemory more → TellsReports config new → TellsReports config more
    → Answers config clock l source bytes failing opened drawn e new → Answers config clock k source bytes failing opens_too draws_too f more
    → OpensAsked config opened old between → OpensAsked config opens_too old mid → DrawsAsked seed drawn between past → DrawsAsked seed draws_too mid now → TurnAlike config l k new more
unfolding replied replied_too
answers_alike config seed clock l k old source bytes failing opened opens_too drawn draws_too e f new more between mid past now alike fed fed_too tells tells_too a b o p d q =
    let h : List BoardEntry = board_of l in
    let g : List BoardEntry = board_of k in
    let same : SameBoards config h g = same_boards config h g alike.board in
    let back : SameBoards config g h = same_boards config g h (sym alike.board) in
    let left = replied config seed clock l old source bytes failing opened drawn e new between past a fed tells o d in
    let right = replied_too config seed g h back clock k old source bytes failing f now (replied config seed clock k old source bytes failing opens_too draws_too f more mid now b fed_too tells_too p q) in
    let one = one_reply config seed h clock l k old source bytes failing e f past now alike.cells left right in
    let of = of_one config h clock source bytes a.heard b.heard a.is_heard b.is_heard in
    let c : Control = turn_of config h clock a.heard in
    let x : Control = turn_of config h clock b.heard in
    let there : x ≡ turn_of config g clock b.heard = turn_same config h g same clock b.heard in
    let time : moment_at h clock ≡ moment_at g clock = time_same config h g same clock in
    record {
      entry = entry_at config h (moment_at h clock) a.heard;
      other = entry_at config g (moment_at g clock) b.heard;
      turns = a.turns;
      turns_too = b.turns;
      bare_is = ap (λ (m : ℕ). moment_with m (bare_event (Turn c))) time
          ∙ ap (moment_with (moment_at g clock)) (bare_one c x of.source of.cookie of.body (a.is_heard.length_is ∙ sym b.is_heard.length_is) one.given one.reply one.act
          ∙ ap (λ (z : Control). bare_event (Turn z)) there);
      owe_one = owes_one config h (moment_at h clock) c x one.given one.act (not_out_of_memory config h (moment_at h clock) c left.turned_so.fits left.turned_so.fed)
          ∙ ap (λ (m : ℕ). script config h (moment_with m (Turn x))) time ∙ ap (λ (z : Control). script config h (moment_with (moment_at g clock) (Turn z))) there
          ∙ script_same config h g same (entry_at config g (moment_at g clock) b.heard);
    }

-- nothing was made in either, or turns that are alike
pub control_alike : (config : Config) (seed clock : ℕ) (l k : List Entry) (old : List Happening) (source : Addr) (bytes : List ℕ) (read_fails reply_fails : Bool)
    (opened opens_too : List PortCall) (drawn draws_too : List KeyCall) (e f : Printed) (new more : List Entry) (between mid past now : List Happening)
    → AlikeLists config l k → NeverOutOfMemory new → NeverOutOfMemory more → TellsReports config new → TellsReports config more
    → Controls config clock l source bytes read_fails reply_fails opened drawn e new → Controls config clock k source bytes read_fails reply_fails opens_too draws_too f more
    → OpensAsked config opened old between → OpensAsked config opens_too old mid → DrawsAsked seed drawn between past → DrawsAsked seed draws_too mid now
    → ((new ≡ l) × (more ≡ k)) ⊎ TurnAlike config l k new more
control_alike config seed clock l k old source bytes true reply_fails opened opens_too drawn draws_too e f new more between mid past now alike fed fed_too tells tells_too a b o p d q = inl (a.1.2, b.1.2)
control_alike config seed clock l k old source bytes false reply_fails opened opens_too drawn draws_too e f new more between mid past now alike fed fed_too tells tells_too (inl a) (inl b) o p d q = inl (a.2.2, b.2.2)
control_alike config seed clock l k old source bytes false reply_fails opened opens_too drawn draws_too e f new more between mid past now alike fed fed_too tells tells_too (inl a) (inr b) o p d q =
    absurd (framed_not (filled bytes) (b.heard.cookie, b.heard.body) a.0 b.is_heard.framed)
control_alike config seed clock l k old source bytes false reply_fails opened opens_too drawn draws_too e f new more between mid past now alike fed fed_too tells tells_too (inr a) (inl b) o p d q =
    absurd (framed_not (filled bytes) (a.heard.cookie, a.heard.body) b.0 a.is_heard.framed)
control_alike config seed clock l k old source bytes false reply_fails opened opens_too drawn draws_too e f new more between mid past now alike fed fed_too tells tells_too (inr a) (inr b) o p d q =
    inr (answers_alike config seed clock l k old source (filled bytes) reply_fails opened opens_too drawn draws_too e f new more between mid past now alike fed fed_too tells tells_too a b o p d q)

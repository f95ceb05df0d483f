-- Where the key that is in force on a leg comes from: its Prepare stands among the entries since the cell's last End.
use Rattle.std.proofs.Common.{◌≡◌, ◌∙◌, sym, ap, subst, refl, ℕ, suc, ◌<◌, ◌≤◌, ◌⊎◌, inl, inr, List, Bool, true, false, Some, arith}
use Rattle.relay_outside.specs.declared.settings.Config.{Config}
use Rattle.histories.specs.Words.{In}
use Rattle.port_pool.specs.declared.holder.Holder.{Holder}
use Rattle.port_pool.specs.declared.signal.LegSignal.{LegSignal}
use Rattle.port_pool.specs.declared.signal.SectionSignal.{SectionSignal}
use Rattle.port_pool.specs.Signals.{NewKey, signal_at}
use Rattle.offer_answer.specs.Plan as plan
use Rattle.offer_answer.specs.Laws.{IsDrawnInLife}
use Rattle.offer_answer.proofs.Drawn.{names_drawn_keys}
use Rattle.offer_answer.proofs.Lives.{drawn_for-call}
use Rattle.call_cell.specs.Cells.{CellEntry, Prepare, Commit, End, is_end, since_end, in_force}
use Rattle.call_board.specs.Acts as act
use Rattle.call_board.specs.Acts.{Call, BoardEntry}
use Rattle.call_board.specs.Calls.{live, rounds}
use Rattle.relay_core.specs.Entries.{Cell, Entry, is_nested, board_entry, board_history, cell_entry, cell_history}
use Rattle.relay_core.specs.Scripts.{Owed, in_cell}
use Rattle.relay_core.specs.Legal.{Orderly}
use Rattle.relay_core.proofs.Histories.{good_history, same_at}
use Rattle.relay_core.proofs.Scripts.{has_prepare, is_made}
use Rattle.relay_core.proofs.Boards.{is_moment, moment}
use Rattle.relay_core.proofs.Commits.{event_of, end_event, commit_of}
use Rattle.relay_core.proofs.Lives.{not_after, live_same, no_end_in, no_end_of}
use Rattle.relay_core.proofs.LegEntries.{adds, behind}
use Rattle.call_board.proofs.Tells.{answer_told}
use Rattle.call_board.proofs.Calls.{live_begun, offered_live}
use Rattle.call_board.proofs.Keys.{drawn_for_drew}
use Rattle.call_cell.proofs.Committed.{in_force_committed}

-- What is in force on a leg was committed by an answer of a call that was live then.
pub record IsInForce (config : Config) (l : List Entry) (place n : ℕ) (leg : Holder) (s : LegSignal) : Type 0 where
  pub commit : Entry
  pub is_in : In commit l
  pub at : commit.place ≡ place
  pub below : commit.number < n
  pub signal : List SectionSignal
  pub event : commit.event ≡ Cell (Commit signal)
  pub nested : is_nested commit.event ≡ true
  pub none_later : (f : Entry) (d : CellEntry) → In f l → f.place ≡ place → commit.number < f.number → f.number < n
      → cell_entry f ≡ Some d → is_end d ≡ false
  -- no later entry adds the leg
  pub adds_none : (f : Entry) (d : CellEntry) → In f l → f.place ≡ place → commit.number < f.number → f.number < n
      → cell_entry f ≡ Some d → adds leg d ≡ false
  pub board : Entry
  pub entry : BoardEntry
  pub board_in : In board l
  pub is : board_entry board ≡ Some entry
  pub of_board : board.number ≡ commit.board
  pub answer : act.Answer
  pub acts : act.act entry ≡ act.Answered answer
  pub is_live : In answer.of (live (board_history l board.number))
  pub cell_is : place ≡ answer.of.cell
  pub says : signal_at (plan.signal (rounds (board_history l board.number) answer.of.number) answer.ask) leg.section leg.side ≡ Some s
  pub says_so : signal_at signal leg.section leg.side ≡ Some s

pub is_in_force : (config : Config) (l : List Entry) → Orderly config l → (place n : ℕ) (leg : Holder) (s : LegSignal)
    → in_force (since_end (cell_history l place n)) leg ≡ Some s → IsInForce config l place n leg s
is_in_force config l o place n leg s q =
    let h = since_end (cell_history l place n) in
    let c = in_force_committed h leg s q in
    let e = behind l o.numbered place n c.newer c.older c.entry c.splits in
    let event : e.entry.event ≡ Cell (Commit c.signal) = event_of e.entry c.entry e.is ∙ ap Cell c.is_commit in
    let k = commit_of config l o e.entry e.is_in c.signal event in
    let b = k.nested in
    let shown = answer_told config (board_history l b.board.number) b.entry k.answer b.fits k.acts in
    let signals : c.signal ≡ plan.signal (rounds (board_history l b.board.number) k.answer.of.number) k.answer.ask = k.signal_is ∙ shown.signal_is in
    record {
      commit = e.entry;
      is_in = e.is_in;
      at = e.at;
      below = e.below;
      signal = c.signal;
      event = event;
      nested = ap is_nested event;
      none_later = λ f d i p later before q. (e.later_in f d i p later before q).1;
      adds_none = λ f d i p later before q. c.adds_none d (e.later_in f d i p later before q).0;
      board = b.board;
      entry = b.entry;
      board_in = b.is_in;
      is = b.is;
      of_board = b.number_is;
      answer = k.answer;
      acts = k.acts;
      is_live = shown.is_live;
      cell_is = sym e.at ∙ k.place_is;
      says = subst (λ x. signal_at x leg.section leg.side ≡ Some s) signals c.says;
      says_so = c.says;
    }

-- The key that a leg's signal names was drawn by an offer of that call.
pub record IsDrawn (config : Config) (l : List Entry) (n : ℕ) (call : Call) (leg : Holder) (number : ℕ) : Type 0 where
  pub key : NewKey
  pub number_is : key.number ≡ number
  pub for_section : key.section ≡ leg.section
  pub for_side : key.side ≡ leg.side
  pub board : Entry
  pub entry : BoardEntry
  pub board_in : In board l
  pub is : board_entry board ≡ Some entry
  pub below : board.number < n
  pub offer : act.Offer
  pub acts : act.act entry ≡ act.Offered offer
  pub has_key : In key offer.keys
  pub of_call : offer.of.number ≡ call.number
  -- in the life that the leg's section has at that answer
  pub in_life : IsDrawnInLife (rounds (board_history l n) call.number) leg.section key

pub is_drawn : (config : Config) (l : List Entry) → Orderly config l → (place n : ℕ) (leg : Holder) (s : LegSignal) (number : ℕ)
    → (f : IsInForce config l place n leg s) → s.outbound ≡ Some number → IsDrawn config l f.board.number f.answer.of leg number
is_drawn config l o place n leg s number f q =
    let hb = board_history l f.board.number in
    let rs = rounds hb f.answer.of.number in
    let k = names_drawn_keys rs f.answer.ask leg.section leg.side s number f.says q in
    let d = drawn_for_drew hb f.answer.of.number k.key (drawn_for-call rs leg.section k.key k.is_drawn) in
    let m = is_moment config l o f.board.number d.entry d.before d.late in
    record {
      key = k.key;
      number_is = k.number_is;
      for_section = k.for_section;
      for_side = k.for_side;
      board = m.entry;
      entry = d.entry;
      board_in = m.is_in;
      is = m.is;
      below = m.below;
      offer = d.offer;
      acts = d.acts;
      has_key = d.has_key;
      of_call = d.of_call;
      in_life = k.is_drawn;
    }

-- The offer's call is the one that was answered.
pub offered_call : (config : Config) (l : List Entry) → Orderly config l → (place n : ℕ) (leg : Holder) (s : LegSignal) (number : ℕ)
    → (f : IsInForce config l place n leg s) → (d : IsDrawn config l f.board.number f.answer.of leg number)
    → (In d.offer.of (live (board_history l (suc d.board.number)))) × (d.offer.of ≡ f.answer.of)
offered_call config l o place n leg s number f d =
    let fits = (o.board_fits d.board d.entry d.board_in d.is).1 in
    let after = offered_live config (board_history l d.board.number) d.entry d.offer (good_history config l o d.board.number) fits d.acts in
    let at : In d.offer.of (live (board_history l (suc d.board.number))) = subst (λ h. In d.offer.of (live h)) (sym (moment config l o d.board d.entry d.board_in d.is)) after in
    (at, live_same config l o (suc d.board.number) f.board.number d.offer.of f.answer.of at f.is_live d.of_call)

-- The Prepare that brought the key.
pub record IsBrought (config : Config) (l : List Entry) (place n : ℕ) (board : Entry) (key : NewKey) : Type 0 where
  pub entry : Entry
  pub is_in : In entry l
  pub at : entry.place ≡ place
  pub nested : is_nested entry.event ≡ true
  pub of_board : entry.board ≡ board.number
  pub offer : act.Offer
  pub event : entry.event ≡ Cell (Prepare offer.of.number offer.legs offer.keys offer.dropped)
  pub has_key : In key offer.keys

pub is_brought : (config : Config) (l : List Entry) → Orderly config l → (place n : ℕ) (leg : Holder) (s : LegSignal) (number : ℕ)
    → (f : IsInForce config l place n leg s) → (d : IsDrawn config l f.board.number f.answer.of leg number) → IsBrought config l place n d.board d.key
is_brought config l o place n leg s number f d =
    let w = in_cell d.offer.of (Prepare d.offer.of.number d.offer.legs d.offer.keys d.offer.dropped) in
    let m = is_made config l o d.board d.entry d.board_in d.is w (has_prepare config (board_history l d.board.number) d.entry d.offer d.acts) in
    let call : d.offer.of ≡ f.answer.of = (offered_call config l o place n leg s number f d).1 in
    record {
      entry = m.entry;
      is_in = m.is_in;
      at = ap (λ (v : Owed). v.place) m.is ∙ ap (λ (c : Call). c.cell) call ∙ sym f.cell_is;
      nested = m.nested;
      of_board = m.board_is;
      offer = d.offer;
      event = ap (λ (v : Owed). v.event) m.is;
      has_key = d.has_key;
    }

pub less : (a b : ℕ) → (a < b) ⊎ (b ≤ a)
less a b = grind arith

-- it stands before the commit
pub before_commit : (config : Config) (l : List Entry) → Orderly config l → (place n : ℕ) (leg : Holder) (s : LegSignal) (number : ℕ)
    → (f : IsInForce config l place n leg s) → (d : IsDrawn config l f.board.number f.answer.of leg number)
    → (p : IsBrought config l place n d.board d.key) → (p.entry.number < f.commit.number) ⊎ (f.commit.number ≤ p.entry.number) → p.entry.number < f.commit.number
before_commit config l o place n leg s number f d p (inl h) = h
before_commit config l o place n leg s number f d p (inr h) = absurd (later_case (less f.commit.number p.entry.number))
  where
    boards : d.board.number < f.board.number
    boards = d.below

    later_case : (f.commit.number < p.entry.number) ⊎ (p.entry.number ≤ f.commit.number) → ⊥
    later_case (inl k) =
        let a = not_after config l o f.commit p.entry f.is_in p.is_in f.nested p.nested (f.at ∙ sym p.at) k in
        let b : p.entry.board ≡ d.board.number = p.of_board in
        let c : f.board.number ≡ f.commit.board = f.of_board in
        let e : d.board.number < f.board.number = d.below in
        omega (arith, a, b, c, e)
    later_case (inr k) =
        let numbers : f.commit.number ≡ p.entry.number = omega (arith, h, k) in
        let one = same_at l o.numbered f.commit p.entry f.is_in p.is_in (f.at ∙ sym p.at) numbers in
        let boards_one : f.commit.board ≡ p.entry.board = ap (λ (x : Entry). x.board) one in
        let b : p.entry.board ≡ d.board.number = p.of_board in
        let c : f.board.number ≡ f.commit.board = f.of_board in
        let e : d.board.number < f.board.number = d.below in
        omega (arith, boards_one, b, c, e)

-- no End of the cell belongs to a board entry from the offer to the answer
module _ (config : Config) (l : List Entry) (o : Orderly config l) (place n : ℕ) (leg : Holder) (s : LegSignal) (number : ℕ)
    (f : IsInForce config l place n leg s) (d : IsDrawn config l f.board.number f.answer.of leg number) where
  pub no_end_of_boards : (g : Entry) → In g l → g.event ≡ Cell End → g.place ≡ place → d.board.number ≤ g.board → g.board ≤ f.board.number → ⊥
  no_end_of_boards g i event at low high = low_case (less d.board.number g.board) (less g.board f.board.number)
    where
      call : d.offer.of ≡ f.answer.of
      call = (offered_call config l o place n leg s number f d).1

      live_after : In f.answer.of (live (board_history l (suc d.board.number)))
      live_after = subst (λ (c : Call). In c (live (board_history l (suc d.board.number)))) call (offered_call config l o place n leg s number f d).0

      low_case : (d.board.number < g.board) ⊎ (g.board ≤ d.board.number) → (g.board < f.board.number) ⊎ (f.board.number ≤ g.board) → ⊥
      low_case (inl a) (inl b) =
          no_end_in config l o (suc d.board.number) f.board.number f.answer.of g i event (at ∙ f.cell_is)
          (live_begun (board_history l (suc d.board.number)) f.answer.of live_after) f.is_live (omega (arith, a)) b
      low_case (inr a) b =
          no_end_of config l o d.board d.entry (act.Offered d.offer) d.board_in d.is d.acts refl (λ t. let k = t in cc) g i event (omega (arith, a, low))
      low_case (inl a) (inr b) =
          no_end_of config l o f.board f.entry (act.Answered f.answer) f.board_in f.is f.acts refl (λ t. let k = t in cc) g i event (omega (arith, b, high))

-- and no End stands since
pub no_end_since : (config : Config) (l : List Entry) → (o : Orderly config l) → (place n : ℕ) (leg : Holder) (s : LegSignal) (number : ℕ)
    → (f : IsInForce config l place n leg s) → (d : IsDrawn config l f.board.number f.answer.of leg number)
    → (p : IsBrought config l place n d.board d.key)
    → (g : Entry) (c : CellEntry) → In g l → g.place ≡ place → p.entry.number < g.number → g.number < n → cell_entry g ≡ Some c
    → (t : Bool) → is_end c ≡ t → t ≡ false
no_end_since config l o place n leg s number f d p g c i at low high q false t = refl
no_end_since config l o place n leg s number f d p g c i at low high q true t = absurd (end_case (less f.commit.number g.number))
  where
    event : g.event ≡ Cell End
    event = end_event g c q t

    before : (g.number < f.commit.number) ⊎ (f.commit.number ≤ g.number) → g.number ≤ f.commit.number → ⊥
    before (inl k) h =
        let a = not_after config l o p.entry g p.is_in i p.nested (ap is_nested event) (p.at ∙ sym at) low in
        let b = not_after config l o g f.commit i f.is_in (ap is_nested event) f.nested (at ∙ sym f.at) k in
        let x : p.entry.board ≡ d.board.number = p.of_board in
        let y : f.board.number ≡ f.commit.board = f.of_board in
        no_end_of_boards config l o place n leg s number f d g i event at (omega (arith, a, x)) (omega (arith, b, y))
    before (inr k) h =
        let numbers : g.number ≡ f.commit.number = omega (arith, k, h) in
        let one = same_at l o.numbered g f.commit i f.is_in (at ∙ sym f.at) numbers in
        let boards : g.board ≡ f.commit.board = ap (λ (x : Entry). x.board) one in
        let y : f.board.number ≡ f.commit.board = f.of_board in
        no_end_of config l o f.board f.entry (act.Answered f.answer) f.board_in f.is f.acts refl (λ e. let m = e in cc) g i event (boards ∙ sym y)

    end_case : (f.commit.number < g.number) ⊎ (g.number ≤ f.commit.number) → ⊥
    end_case (inl k) = let a = f.none_later g c i at k high q in let b = t in cc
    end_case (inr k) = before (less g.number f.commit.number) k

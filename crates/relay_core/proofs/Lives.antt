-- While a call is live, its cell has no End.
use Rattle.std.proofs.Common.{◌≡◌, ◌∙◌, sym, ap, subst, ℕ, ◌<◌, ◌≤◌, ◌⊎◌, inl, inr, List, [], ◌∷◌, true, Some, max, arith}
use Rattle.relay_outside.specs.declared.settings.Config.{Config}
use Rattle.histories.specs.Words.{In, Before}
use Rattle.histories.proofs.Lists.{in_left}
use Rattle.call_board.specs.Acts as act
use Rattle.call_board.specs.Acts.{Call, Act, BoardEvent, Turn, Tick, Stop, BoardEntry}
use Rattle.call_board.specs.Calls.{live, begun, begun_by_act, ended_by, ended_in, ended_by_act}
use Rattle.relay_core.specs.Entries.{Cell, Entry, is_nested, board_entry, board_history}
use Rattle.call_cell.specs.Cells.{End}
use Rattle.relay_core.specs.Legal.{Orderly}
use Rattle.relay_core.proofs.Histories.{good_history, same_at}
use Rattle.relay_core.proofs.Boards.{later_history, later_entry, moment}
use Rattle.relay_core.proofs.Commits.{end_of}
use Rattle.call_board.proofs.Moments.{Later, now, after}
use Rattle.call_board.proofs.Tells.{ended_live}
use Rattle.call_board.proofs.Calls.{live_begun, live_between, ended_never, begun_once}
use Rattle.call_board.proofs.Cells.{live_cells}

-- nested entries of one place stand in the order of their board entries
pub not_after : (config : Config) (l : List Entry) → Orderly config l → (e f : Entry) → In e l → In f l
    → is_nested e.event ≡ true → is_nested f.event ≡ true → e.place ≡ f.place → e.number < f.number → e.board ≤ f.board
not_after config l o e f i j p q r h = at_most (o.ordered e f i j p q r h)
  where
    at_most : (e.board < f.board) ⊎ ((e.board ≡ f.board) × Before e f l) → e.board ≤ f.board
    at_most (inl b) = let k = b in omega (arith, k)
    at_most (inr b) = let k = b.0 in omega (arith, k)

begun_later : (s h : List BoardEntry) (c : Call) → Later s h → In c (begun s) → In c (begun h)
begun_later s h c (now q) i = subst (λ t. In c (begun t)) q i
begun_later s (e ∷ h) c (after later) i = in_left (begun h) (begun_by_act (act.act e)) (begun_later s h c later i)

-- a call that was begun stays so
pub begun_grows : (config : Config) (l : List Entry) → Orderly config l → (m n : ℕ) (c : Call) → m ≤ n → In c (begun (board_history l m)) → In c (begun (board_history l n))
begun_grows config l o m n c h i = begun_later (board_history l m) (board_history l n) c (later_history config l o m n h) i

-- two calls that are live at two moments and have one number are one
pub live_same : (config : Config) (l : List Entry) → Orderly config l → (m n : ℕ) (c d : Call)
    → In c (live (board_history l m)) → In d (live (board_history l n)) → c.number ≡ d.number → c ≡ d
live_same config l o m n c d i j q =
    begun_once config (board_history l (max m n)) c d (good_history config l o (max m n))
    (begun_grows config l o m (max m n) c (omega arith) (live_begun (board_history l m) c i))
    (begun_grows config l o n (max m n) d (omega arith) (live_begun (board_history l n) d j)) q

-- A call that was begun before one moment and is live at a later one has no End at its cell that belongs to a board entry between
pub no_end_in : (config : Config) (l : List Entry) → Orderly config l → (m n : ℕ) (c : Call) (g : Entry) → In g l → g.event ≡ Cell End → g.place ≡ c.cell
    → In c (begun (board_history l m)) → In c (live (board_history l n)) → m ≤ g.board → g.board < n → ⊥
no_end_in config l o m n c g i q p b alive low high =
    let e = end_of config l o g i q in
    let z = e.nested in
    let k : z.board.number ≡ g.board = z.number_is in
    let at : In c (live (board_history l z.board.number)) =
    live_between (board_history l z.board.number) (board_history l n) c
    (later_history config l o z.board.number n (omega (arith, k, high)))
    (begun_grows config l o m z.board.number c (omega (arith, k, low)) b) alive in
    let ended : In e.of (live (board_history l z.board.number)) = ended_live config (board_history l z.board.number) z.entry e.of z.fits e.ended in
    let one : c ≡ e.of = live_cells config (board_history l z.board.number) c e.of (good_history config l o z.board.number) at ended (sym p ∙ e.place_is) in
    ended_never (board_history l z.board.number) (board_history l n) z.entry e.of c
    (later_entry config l o z.board z.entry z.is_in z.is n (omega (arith, k, high))) e.ended alive (ap (λ (d : Call). d.number) one)

-- An accepted offer or answer ends no call.
signal_ends : (e : BoardEntry) (moment : ℕ) (v : BoardEvent) (a : Act) (c : Call) → act.act_in v ≡ a → ended_by_act a ≡ [] → (a ≡ act.Told → ⊥)
    → In c (ended_in v) → ⊥
signal_ends e moment (Turn d) a c q none log i = let k = subst (λ cs. In c cs) (ap ended_by_act q ∙ none) i in elim k [ ]
signal_ends e moment (Tick calls) a c q none log i = log (sym q)
signal_ends e moment (Stop calls) a c q none log i = log (sym q)

-- so no End belongs to it
pub no_end_of : (config : Config) (l : List Entry) → Orderly config l → (b : Entry) (x : BoardEntry) (a : Act) → In b l → board_entry b ≡ Some x
    → act.act x ≡ a → ended_by_act a ≡ [] → (a ≡ act.Told → ⊥) → (g : Entry) → In g l → g.event ≡ Cell End → g.board ≡ b.number → ⊥
no_end_of config l o b x a i q acts none log g j event at =
    let e = end_of config l o g j event in
    let z = e.nested in
    let one = same_at l o.numbered z.board b z.is_in i (z.at_board ∙ sym (o.board_fits b x i q).0) (z.number_is ∙ at) in
    let both : Some z.entry ≡ Some x = sym z.is ∙ ap board_entry one ∙ q in
    let x_is : z.entry ≡ x = cc in
    signal_ends x x.moment x.event a e.of acts none log (subst (λ (y : BoardEntry). In e.of (ended_by y)) x_is e.ended)

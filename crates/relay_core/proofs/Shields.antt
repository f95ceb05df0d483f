-- No key, source and index protects two packets.
use Rattle.std.proofs.Common.{◌≡◌, ◌∙◌, sym, ap, subst, refl, ℕ, zero, suc, ◌<◌, ◌≤◌, ◌⊎◌, inl, inr, List, Bool, true, false, Some, max, arith}
use Rattle.relay_outside.specs.declared.settings.Config.{Config}
use Rattle.histories.specs.Words.{In}
use Rattle.call_cell.specs.Cells.{CellEvent, CellEntry, Prepare, Commit, Relay, Expire, Read, End, Relayed, Shield, is_end, since_end}
use Rattle.call_cell.specs.Deeds.{deed}
use Rattle.call_cell.specs.Demands.{FitsCell, FitsRelay}
use Rattle.call_cell.specs.Good.{FittingCell, empty, longer}
use Rattle.call_board.specs.Acts as act
use Rattle.call_board.specs.Acts.{Call, BoardEntry}
use Rattle.relay_core.specs.Entries.{Event, Board, Cell, Box, Entry, is_nested, board_history, cell_at, cell_entry, cell_history, cell_before}
use Rattle.relay_core.specs.Legal.{Orderly, Legal, FitsEvent}
use Rattle.relay_core.specs.Safe.{shield_by, shield_at}
use Rattle.relay_core.proofs.Histories.{good_history, same_at, More, same, added, more, entry_since}
use Rattle.relay_core.proofs.Boards.{later_entry, same_moment, less_or}
use Rattle.relay_core.proofs.Commits.{entry_of, end_event}
use Rattle.relay_core.proofs.Lives.{not_after, no_end_of}
use Rattle.relay_core.proofs.Keyed.{IsInForce, is_in_force, IsDrawn, is_drawn, offered_call, no_end_of_boards, less}
use Rattle.call_board.proofs.Keys.{drawn_once}
use Rattle.call_cell.proofs.Since.{good_since}
use Rattle.call_cell.proofs.Shields.{Shields, shields, shield_is_new}

-- Each entry of a cell's history is one that it demands.

fits_cell : (config : Config) (l : List Entry) (place number moment : ℕ) (v : Event) (c : CellEntry)
    → FitsEvent config l place number moment v → cell_at moment v ≡ Some c → FitsCell config (cell_history l place number) c
fits_cell config l place number moment (Cell d) c fits q =
    let h = q in
    let k : record { moment = moment; event = d } ≡ c = cc in
    subst (FitsCell config (cell_history l place number)) k fits
fits_cell config l place number moment (Board b) c fits q = absurd (let h = q in cc)
fits_cell config l place number moment (Box b) c fits q = absurd (let h = q in cc)

fitting_case : (config : Config) (l : List Entry) → Legal config l → (place n : ℕ) → FittingCell config (cell_history l place n)
    → More cell_entry l place n → FittingCell config (cell_history l place (suc n))
fitting_case config l g place n rest (same q none) = subst (FittingCell config) (sym q) rest
fitting_case config l g place n rest (added e c i p m h q) =
    let fits : FitsCell config (cell_history l e.place e.number) c = fits_cell config l e.place e.number e.moment e.event c (g.fits e i) h in
    let there : FitsCell config (cell_history l place n) c = subst (λ k. FitsCell config (cell_history l place k) c) m (subst (λ k. FitsCell config (cell_history l k e.number) c) p fits) in
    subst (FittingCell config) (sym q) (longer there rest)

pub fitting_cell : (config : Config) (l : List Entry) → Legal config l → (place n : ℕ) → FittingCell config (cell_history l place n)
fitting_cell config l g place zero = empty
fitting_cell config l g place (suc n) = fitting_case config l g place n (fitting_cell config l g place n) (more cell_entry l g.orderly.numbered place n)

-- A relay of the list, and its deed.

pub deed_is : (config : Config) (l : List Entry) → Legal config l → (e : Entry) (x : Relayed) → In e l → e.event ≡ Cell (Relay x)
    → x.deed ≡ deed config (cell_before l e) x.packet x.sent_ok
deed_is config l g e x i q =
    let fits : FitsRelay config (cell_before l e) x =
    fits_cell config l e.place e.number e.moment e.event (record { moment = e.moment; event = Relay x }) (g.fits e i) (entry_of e.moment e.event (Relay x) q) in
    fits.does

pub record IsShielding (v : Event) (s : Shield) : Type 0 where
  pub relayed : Relayed
  pub is : v ≡ Cell (Relay relayed)
  pub shield : relayed.deed.shield ≡ Some s

pub shielding : (v : Event) (s : Shield) → shield_by v ≡ Some s → IsShielding v s
shielding (Cell (Relay x)) s q = record { relayed = x; is = refl; shield = q }
shielding (Cell (Prepare call legs keys dropped)) s q = absurd (let h = q in cc)
shielding (Cell (Commit signal)) s q = absurd (let h = q in cc)
shielding (Cell (Expire due)) s q = absurd (let h = q in cc)
shielding (Cell (Read log)) s q = absurd (let h = q in cc)
shielding (Cell End) s q = absurd (let h = q in cc)
shielding (Board b) s q = absurd (let h = q in cc)
shielding (Box b) s q = absurd (let h = q in cc)

-- What protects is in force at the opposite leg.

pub protecting : (config : Config) (l : List Entry) → Legal config l → (e : Entry) (x : Relayed) (s : Shield) → In e l → e.event ≡ Cell (Relay x)
    → x.deed.shield ≡ Some s → Shields (cell_before l e) x.packet s
protecting config l g e x s i q t =
    shields config (cell_before l e) x.packet x.sent_ok s (ap (λ (d : Rattle.call_cell.specs.Cells.Deed). d.shield) (sym (deed_is config l g e x i q)) ∙ t)

-- where the key of a protected packet comes from
record Source (config : Config) (l : List Entry) (e : Entry) (x : Relayed) (s : Shield) : Type 0 where
  shield : Shields (cell_before l e) x.packet s
  force : IsInForce config l e.place e.number shield.other shield.signal
  drawn : IsDrawn config l force.board.number force.answer.of shield.other s.key

source : (config : Config) (l : List Entry) → Legal config l → (e : Entry) (x : Relayed) (s : Shield) → In e l → e.event ≡ Cell (Relay x)
    → x.deed.shield ≡ Some s → Source config l e x s
source config l g e x s i q t =
    let p = protecting config l g e x s i q t in
    let f = is_in_force config l g.orderly e.place e.number p.other p.signal p.is_in_force in
    record { shield = p; force = f; drawn = is_drawn config l g.orderly e.place e.number p.other p.signal s.key f p.outbound }

-- One key is drawn once, so both relays are of one call, thus of one cell.

record SameSource {config : Config} {l : List Entry} {e f : Entry} {x y : Relayed} {s : Shield} (a : Source config l e x s) (b : Source config l f y s) : Type 0 where
  boards : a.drawn.board ≡ b.drawn.board
  places : e.place ≡ f.place

same_source : (config : Config) (l : List Entry) → Legal config l → (e f : Entry) (x y : Relayed) (s : Shield)
    → (a : Source config l e x s) (b : Source config l f y s) → SameSource a b
same_source config l g e f x y s a b =
    let o = g.orderly in
    let n = suc (max a.drawn.board.number b.drawn.board.number) in
    let once = drawn_once config (board_history l n) (board_history l a.drawn.board.number) (board_history l b.drawn.board.number)
    a.drawn.entry b.drawn.entry a.drawn.offer b.drawn.offer a.drawn.key b.drawn.key (good_history config l o n)
    (later_entry config l o a.drawn.board a.drawn.entry a.drawn.board_in a.drawn.is n (omega arith))
    (later_entry config l o b.drawn.board b.drawn.entry b.drawn.board_in b.drawn.is n (omega arith))
    a.drawn.acts b.drawn.acts a.drawn.has_key b.drawn.has_key (a.drawn.number_is ∙ sym b.drawn.number_is) in
    let first = (offered_call config l o e.place e.number a.shield.other a.shield.signal s.key a.force a.drawn).1 in
    let second = (offered_call config l o f.place f.number b.shield.other b.shield.signal s.key b.force b.drawn).1 in
    let calls : a.force.answer.of ≡ b.force.answer.of = sym first ∙ ap (λ (p : act.Offer). p.of) once.1 ∙ second in
    record {
      boards = same_moment config l o a.drawn.board b.drawn.board a.drawn.entry b.drawn.entry a.drawn.board_in b.drawn.board_in a.drawn.is b.drawn.is once.0;
      places = a.force.cell_is ∙ ap (λ (c : Call). c.cell) calls ∙ sym b.force.cell_is;
    }

-- No End stands between the two.

no_end_between : (config : Config) (l : List Entry) → Legal config l → (e f : Entry) (x y : Relayed) (s : Shield)
    → (a : Source config l e x s) (b : Source config l f y s) → SameSource a b
    → (h : Entry) (c : CellEntry) → In h l → h.place ≡ f.place → e.number < h.number → h.number < f.number → cell_entry h ≡ Some c
    → (t : Bool) → is_end c ≡ t → t ≡ false
no_end_between config l g e f x y s a b m h c i at low high q false t = refl
no_end_between config l g e f x y s a b m h c i at low high q true t = absurd (end_case (less b.force.commit.number h.number))
  where
    event : h.event ≡ Cell End
    event = end_event h c q t

    o : Orderly config l
    o = g.orderly

    begins : b.drawn.board.number ≤ h.board
    begins =
        let first : a.force.commit.number < e.number = a.force.below in
        let after = not_after config l o a.force.commit h a.force.is_in i a.force.nested (ap is_nested event)
        (a.force.at ∙ m.places ∙ sym at) (omega (arith, first, low)) in
        let drawn : a.drawn.board.number < a.force.board.number = a.drawn.below in
        let of : a.force.board.number ≡ a.force.commit.board = a.force.of_board in
        let boards : a.drawn.board.number ≡ b.drawn.board.number = ap (λ (d : Entry). d.number) m.boards in
        omega (arith, after, drawn, of, boards)

    not_before : (h.number < b.force.commit.number) ⊎ (b.force.commit.number ≤ h.number) → h.number ≤ b.force.commit.number → ⊥
    not_before (inl k) j =
        let after = not_after config l o h b.force.commit i b.force.is_in (ap is_nested event) b.force.nested (at ∙ sym b.force.at) k in
        let of : b.force.board.number ≡ b.force.commit.board = b.force.of_board in
        no_end_of_boards config l o f.place f.number b.shield.other b.shield.signal s.key b.force b.drawn h i event at begins (omega (arith, after, of))
    not_before (inr k) j =
        let numbers : h.number ≡ b.force.commit.number = omega (arith, k, j) in
        let one = same_at l o.numbered h b.force.commit i b.force.is_in (at ∙ sym b.force.at) numbers in
        no_end_of config l o b.force.board b.force.entry (act.Answered b.force.answer) b.force.board_in b.force.is b.force.acts refl (λ d. let k = d in cc)
        h i event (ap (λ (d : Entry). d.board) one ∙ sym b.force.of_board)

    end_case : (b.force.commit.number < h.number) ⊎ (h.number ≤ b.force.commit.number) → ⊥
    end_case (inl k) = let alive = b.force.none_later h c i at k high q in let ends = t in cc
    end_case (inr k) = not_before (less h.number b.force.commit.number) k

-- so the later relay finds the earlier one's index among those of its key
not_later : (config : Config) (l : List Entry) → (g : Legal config l) → (e f : Entry) (x y : Relayed) (s : Shield) → In e l → In f l
    → e.event ≡ Cell (Relay x) → f.event ≡ Cell (Relay y) → x.deed.shield ≡ Some s → y.deed.shield ≡ Some s → e.number < f.number → ⊥
not_later config l g e f x y s i j q r u v h =
    let a = source config l g e x s i q u in
    let b = source config l g f y s j r v in
    let m = same_source config l g e f x y s a b in
    let c : CellEntry = record { moment = e.moment; event = Relay x } in
    let there : In c (cell_before l f) = entry_since l g.orderly.numbered f.place f.number c (record {
      entry = e;
      is_in = i;
      at = m.places;
      below = h;
      is = entry_of e.moment e.event (Relay x) q;
      no_end = refl;
      none_later = λ d z k at low high t. no_end_between config l g e f x y s a b m d z k at low high t (is_end z) refl;
    }) in
    shield_is_new config (cell_before l f) y.packet y.sent_ok s c (good_since (cell_history l f.place f.number) (fitting_cell config l g f.place f.number))
    (ap (λ (d : Rattle.call_cell.specs.Cells.Deed). d.shield) (sym (deed_is config l g f y j r)) ∙ v) there u

apart_case : (config : Config) (l : List Entry) → (g : Legal config l) → (e f : Entry) (x y : Relayed) (s : Shield) → In e l → In f l
    → e.event ≡ Cell (Relay x) → f.event ≡ Cell (Relay y) → x.deed.shield ≡ Some s → y.deed.shield ≡ Some s
    → (e.number < f.number) ⊎ ((e.number ≡ f.number) ⊎ (f.number < e.number)) → e ≡ f
apart_case config l g e f x y s i j q r u v (inl h) = absurd (not_later config l g e f x y s i j q r u v h)
apart_case config l g e f x y s i j q r u v (inr (inl h)) =
    same_at l g.orderly.numbered e f i j
    (same_source config l g e f x y s (source config l g e x s i q u) (source config l g f y s j r v)).places h
apart_case config l g e f x y s i j q r u v (inr (inr h)) = absurd (not_later config l g f e y x s j i r q v u h)

pub shields_apart : (config : Config) (l : List Entry) → Legal config l → (e f : Entry) (s : Shield) → In e l → In f l
    → shield_at e ≡ Some s → shield_at f ≡ Some s → e ≡ f
shields_apart config l g e f s i j u v =
    let a = shielding e.event s u in
    let b = shielding f.event s v in
    apart_case config l g e f a.relayed b.relayed s i j a.is b.is a.shield b.shield (less_or e.number f.number)

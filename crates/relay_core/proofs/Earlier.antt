-- What a legal list leaves, and how its entries stand in a list that goes on from it.
use Rattle.std.proofs.Common.{◌≡◌, ◌∙◌, sym, ap, subst, refl, ℕ, zero, suc, ◌<◌, ◌≤◌, ◌⊎◌, inl, inr, max, List, [], ◌∷◌, Bool, true, false, cond, Some, map, arith}
use Rattle.std.specs.Prelude.{◌||◌}
use Rattle.std.specs.List.{filter_map, cons_option}
use Rattle.relay_outside.specs.declared.settings.Config.{Config}
use Rattle.histories.specs.Words.{In, greatest}
use Rattle.histories.proofs.Lists.{in_append, mapped}
use Rattle.port_pool.specs.Boxes.{BoxEvent, FitsBox}
use Rattle.port_pool.specs.PairBoxes.{BoxFor}
use Rattle.call_cell.specs.Cells.{CellEvent, CellEntry}
use Rattle.call_cell.specs.Demands.{FitsCell}
use Rattle.call_board.specs.Acts.{BoardEntry}
use Rattle.call_board.specs.Boards.{BoardFor}
use Rattle.call_board.specs.Fits.{IsFitting}
use Rattle.relay_core.specs.declared.part.Part.{Part}
use Rattle.relay_core.specs.declared.part.Part.TheVariants as part
use Rattle.relay_core.specs.Entries.{Event, Board, Cell, Box, Entry, history, cell_at, box_in, board_entry, cell_entry, box_event, cell_history, box_history, front}
use Rattle.relay_core.specs.Legal.{Fits, Legal, StandsAt, is_handed_own, is_handed_boards, last_moment}
use Rattle.relay_core.specs.Records.{logged_cell, logged_event, as_logged}
use Rattle.relay_core.specs.PlaceHistories.{logged_entry, FittingBox, Stands}
use Rattle.relay_core.specs.Joins.{IsAtPlace}
use Rattle.relay_core.specs.Continued.{IsLeftAt, later}
use Rattle.relay_core.proofs.Histories.{More, same, added, more, good_history, in_history, same_at}
use Rattle.relay_core.proofs.Numbers.{greatest_below}
use Rattle.relay_core.proofs.Boxes.{below_front}
use Rattle.relay_core.proofs.Boards.{lt_or_eq}
use Rattle.relay_core.proofs.Shields.{fitting_cell}
use Rattle.relay_core.proofs.Joins.{boards_nested}
use Rattle.relay_core.proofs.Refilling.{picked_mapped}
use Rattle.relay_core.proofs.Filling.{fill_cell, fill_history, fill_event, filled, refill, refill_event}
use Rattle.relay_core.proofs.Filled as right
use Rattle.relay_core.proofs.Placing.{IsPlaced}
use Rattle.relay_core.proofs.Logged.{logged_keeps, logged_by, logged_stands}
use Rattle.relay_core.proofs.Later.{joined, base, high_number, history_early, stands_early}

-- Each event of a box's history is one that those before it allow.

box_fits : (config : Config) (l : List Entry) (place number moment : ℕ) (v : Event) (b : BoxEvent)
    → Fits config l (record { place = place; number = number; moment = moment; board = 0; event = v }) → box_in v ≡ Some b → FitsBox (box_history l place number) b
box_fits config l place number moment (Board x) b fits q = absurd (let k = q in cc)
box_fits config l place number moment (Cell x) b fits q = absurd (let k = q in cc)
box_fits config l place number moment (Box x) b fits q = let k : Some x ≡ Some b = q in let e : x ≡ b = cc in subst (FitsBox (box_history l place number)) e fits

fitting_box_case : (config : Config) (l : List Entry) → Legal config l → (place n : ℕ) → FittingBox (box_history l place n) → More box_event l place n
    → FittingBox (box_history l place (suc n))
fitting_box_case config l g place n rest (same q none) = subst FittingBox (sym q) rest
fitting_box_case config l g place n rest (added e b i p m h q) =
    let fits : FitsBox (box_history l e.place e.number) b = box_fits config l e.place e.number e.moment e.event b (g.fits e i) h in
    let there : FitsBox (box_history l place n) b
    = subst (λ (k : ℕ). FitsBox (box_history l place k) b) m (subst (λ (k : ℕ). FitsBox (box_history l k e.number) b) p fits) in
    subst FittingBox (sym q) (there, rest)

pub fitting_box : (config : Config) (l : List Entry) → Legal config l → (place n : ℕ) → FittingBox (box_history l place n)
fitting_box config l g place zero = tt
fitting_box config l g place (suc n) = fitting_box_case config l g place n (fitting_box config l g place n) (more box_event l g.orderly.numbered place n)

-- What is recorded of a cell's history is recorded entry by entry.

logged_more : (moment : ℕ) (v : Event) (h : List CellEntry)
    → cons_option (cell_at moment (logged_event v)) (map logged_entry h) ≡ map logged_entry (cons_option (cell_at moment v) h)
logged_more moment (Board b) h = refl
logged_more moment (Cell c) h = refl
logged_more moment (Box b) h = refl

pub logged_cells : (h : List Entry) → filter_map cell_entry (map as_logged h) ≡ map logged_entry (filter_map cell_entry h)
logged_cells [] = refl
logged_cells (e ∷ h) =
    ap (λ (xs : List CellEntry). cons_option (cell_at e.moment (logged_event e.event)) xs) (logged_cells h) ∙ logged_more e.moment e.event (filter_map cell_entry h)

-- so a state that the list leaves stands for what is recorded of its place
pub left_stands : {I O : Type 0} (config : Config) (l : List Entry) → Legal config l → (k : ℕ) (x : Part I O) → IsAtPlace config k x
    → IsLeftAt config x (history l k (front l k)) → Stands config x (base l k)
left_stands config l g k (part.Board b) at left =
    let same_entries : filter_map board_entry (base l k) ≡ filter_map board_entry (history l k (front l k))
    = picked_mapped as_logged board_entry board_entry (history l k (front l k)) logged_keeps.same_board in (
      subst (λ (h : List BoardEntry). IsFitting config h) (sym same_entries)
          (subst (λ (m : ℕ). IsFitting config (filter_map board_entry (history l m (front l k)))) (sym at) (good_history config l g.orderly (front l k))),
      subst (λ (h : List BoardEntry). BoardFor config b h) (sym same_entries) left,
    )
left_stands config l g k (part.Cell c) at left = record {
  history = cell_history l k (front l k);
  is_recorded = sym (logged_cells (history l k (front l k)));
  fitting = fitting_cell config l g k (front l k);
  stands = left;
}
left_stands config l g k (part.Pair b) at left =
    let same_events : filter_map box_event (base l k) ≡ filter_map box_event (history l k (front l k))
    = picked_mapped as_logged box_event box_event (history l k (front l k)) logged_keeps.same_box in (
      subst FittingBox (sym same_events) (fitting_box config l g k (front l k)),
      subst (λ (h : List BoxEvent). BoxFor b h) (sym same_events) left.0,
    )

-- The entries of boxes have the moment 0.

not_board_or_cell : (config : Config) (place : ℕ) (v : Event) → StandsAt config place v → config.max_sessions < place
    → (is_handed_own v ≡ false) × (is_handed_boards v ≡ false)
not_board_or_cell config place (Board b) at above = absurd (let p = at in omega (arith, p, above))
not_board_or_cell config place (Cell c) at above = absurd (let p = at.1 in omega (arith, p, above))
not_board_or_cell config place (Box b) at above = (refl, refl)

quiet_case : (config : Config) (l : List Entry) → Legal config l → (n : ℕ)
    → ((e : Entry) → In e l → config.max_sessions < e.place → e.number < n → e.moment ≡ 0)
    → (e : Entry) → In e l → config.max_sessions < e.place → (e.number < n) ⊎ (e.number ≡ n) → e.moment ≡ 0
quiet_case config l g n rest e i above (inl low) = rest e i above low
quiet_case config l g n rest e i above (inr q) =
    let v = not_board_or_cell config e.place e.event (g.placed e i) above in
    let last : last_moment l e ≤ 0
    = greatest_below 0 (map (λ (f : Entry). f.moment) (history l e.place e.number)) (λ m j.
    let t = mapped (λ (f : Entry). f.moment) (history l e.place e.number) j in
    let h = in_history l e.place e.number t.is_in in
    let at = h.at in
    let below = h.below in
    let zero_there = rest t.from h.is_in (omega (arith, above, at)) (omega (arith, below, q)) in
    let makes = t.makes in
    omega (arith, zero_there, makes)) in
    let is = (g.timed e i).else_last v.0 v.1 in
    omega (arith, is, last)

quiet : (config : Config) (l : List Entry) → Legal config l → (n : ℕ) (e : Entry) → In e l → config.max_sessions < e.place → e.number < n → e.moment ≡ 0
quiet config l g zero e i above low = absurd (omega (arith, low))
quiet config l g (suc n) e i above low = quiet_case config l g n (quiet config l g n) e i above (lt_or_eq e.number n low)

pub early_placed : (config : Config) (l : List Entry) → Legal config l → (e : Entry) → In e l → IsPlaced config e.place e.moment (logged_event e.event)
early_placed config l g e i =
    (logged_stands config e.place e.event (g.placed e i), λ above. quiet config l g (suc e.number) e i above (omega arith))

-- An entry of the earlier list is made right in the recorded lists, one behind the other.

cond_case : (own boards : Bool) (handed last moment : ℕ) → (boards ≡ true → moment ≡ max handed last) → (own ≡ true → boards ≡ false → moment ≡ max handed last)
    → (own ≡ false → boards ≡ false → moment ≡ last) → moment ≡ cond (own || boards) (max handed last) last
cond_case true true handed last moment f g h = f refl
cond_case true false handed last moment f g h = g refl refl
cond_case false true handed last moment f g h = f refl
cond_case false false handed last moment f g h = h refl refl

module _ (config : Config) (before l : List Entry) (g : Legal config before) where
  early_history : (e : Entry) → In e before → history (joined config before l) e.place e.number ≡ map as_logged (history before e.place e.number)
  early_history e i = history_early config before l e.place e.number (let low = below_front before e e.place i refl in omega (arith, low))

  early_cells : (e : Entry) → In e before
      → fill_history config (filter_map cell_entry (history (joined config before l) e.place e.number)) ≡ cell_history before e.place e.number
  early_cells e i =
      ap (λ (h : List Entry). fill_history config (filter_map cell_entry h)) (early_history e i)
      ∙ ap (λ (h : List CellEntry). fill_history config h) (logged_cells (history before e.place e.number))
      ∙ refill config (cell_history before e.place e.number) (fitting_cell config before g e.place e.number)

  early_boxes : (e : Entry) → In e before → filter_map box_event (history (joined config before l) e.place e.number) ≡ box_history before e.place e.number
  early_boxes e i =
      ap (λ (h : List Entry). filter_map box_event h) (early_history e i)
      ∙ picked_mapped as_logged box_event box_event (history before e.place e.number) logged_keeps.same_box

  -- filled in, it is as it was
  refilled_by : (e : Entry) → In e before → (v : Event) → e.event ≡ v
      → fill_event config (fill_history config (filter_map cell_entry (history (joined config before l) e.place e.number))) (logged_event v) ≡ v
  refilled_by e i (Board b) q = refl
  refilled_by e i (Cell c) q =
      let fits : FitsCell config (cell_history before e.place e.number) (record { moment = e.moment; event = c })
      = subst (λ (v : Event). Fits config before (record { place = e.place; number = e.number; moment = e.moment; board = e.board; event = v })) q (g.fits e i) in
      ap (λ (h : List CellEntry). Cell (fill_cell config h (logged_cell c))) (early_cells e i)
      ∙ ap Cell (refill_event config (cell_history before e.place e.number) e.moment c fits)
  refilled_by e i (Box b) q = refl

  pub early_filled : (e : Entry) → In e before → filled config (joined config before l) (as_logged e) ≡ e
  early_filled e i =
      ap (λ (v : Event). record { place = e.place; number = e.number; moment = e.moment; board = e.board; event = v }) (refilled_by e i e.event refl)

  fits_by : (e : Entry) → In e before → (v : Event) → e.event ≡ v
      → right.FitsTold config (history (joined config before l) e.place e.number) e.moment (logged_event v)
  fits_by e i (Board b) q = tt
  fits_by e i (Cell c) q =
      let h = cell_history before e.place e.number in
      let fits : FitsCell config h (record { moment = e.moment; event = c })
      = subst (λ (v : Event). Fits config before (record { place = e.place; number = e.number; moment = e.moment; board = e.board; event = v })) q (g.fits e i) in
      let filled_is = refill_event config h e.moment c fits in
      subst (λ (k : List CellEntry). FitsCell config k (record { moment = e.moment; event = fill_cell config k (logged_cell c) }) × (logged_cell (fill_cell config k (logged_cell c)) ≡ logged_cell c))
      (sym (early_cells e i))
      (subst (λ (x : CellEvent). FitsCell config h (record { moment = e.moment; event = x })) (sym filled_is) fits, ap logged_cell filled_is)
  fits_by e i (Box b) q =
      subst (λ (h : List BoxEvent). FitsBox h b) (sym (early_boxes e i))
      (subst (λ (v : Event). Fits config before (record { place = e.place; number = e.number; moment = e.moment; board = e.board; event = v })) q (g.fits e i))

  moments_logged : (h : List Entry) → map (λ (f : Entry). f.moment) (map as_logged h) ≡ map (λ (f : Entry). f.moment) h
  moments_logged [] = refl
  moments_logged (e ∷ h) = ap (λ (ms : List ℕ). e.moment ∷ ms) (moments_logged h)

  last_early : (e : Entry) → In e before → last_moment (joined config before l) (as_logged e) ≡ last_moment before e
  last_early e i =
      ap (λ (h : List Entry). greatest (map (λ (f : Entry). f.moment) h)) (early_history e i) ∙ ap greatest (moments_logged (history before e.place e.number))

  -- the moment that it was handed, which nobody knows any more but of the board entry that it is nested in
  record Handed (e : Entry) : Type 0 where
    handed : ℕ
    when_boards : is_handed_boards e.event ≡ true → (b : Entry) → In b before → b.place ≡ 0 → b.number ≡ e.board → handed ≡ b.moment
    when_own : is_handed_boards e.event ≡ false → handed ≡ e.moment

  handed_of : (e : Entry) → In e before → (t : Bool) → is_handed_boards e.event ≡ t → Handed e
  handed_of e i true q =
      let b = g.nested e i (boards_nested e.event q) in
      record {
        handed = b.0.moment;
        when_boards = λ t c j p m. ap (λ (x : Entry). x.moment) (same_at before g.numbered b.0 c b.1 j (b.2 ∙ sym p) (b.3 ∙ sym m));
        when_own = λ f. absurd (let c : true ≡ false = sym q ∙ f in cc);
      }
  handed_of e i false q = record {
    handed = e.moment;
    when_boards = λ t. absurd (let c : true ≡ false = sym t ∙ q in cc);
    when_own = λ f. refl;
  }

  made_by : (e : Entry) → In e before → Handed e → right.Made config (joined config before l) (as_logged e)
  made_by e i h = record {
    handed = h.handed;
    right = record {
      placed = logged_stands config e.place e.event (g.placed e i);
      counted = λ n low. stands_early config before l g e.place n (let k = below_front before e e.place i refl in omega (arith, k, low));
      fits = fits_by e i e.event refl;
      timed =
          let last = last_early e i in
          cond_case (is_handed_own e.event) (is_handed_boards e.event) h.handed (last_moment (joined config before l) (as_logged e)) e.moment
          (λ t. let b = g.nested e i (boards_nested e.event t) in
          (g.timed e i).of_board b.0 b.1 b.2 b.3 t
          ∙ ap (λ (m : ℕ). max m (last_moment before e)) (sym (h.when_boards t b.0 b.1 b.2 b.3))
          ∙ ap (λ (m : ℕ). max h.handed m) (sym last))
          (λ own boards. let rises = (g.timed e i).never_falls in let is = h.when_own boards in omega (arith, rises, is, last))
          (λ own boards. (g.timed e i).else_last own boards ∙ sym last)
          ∙ ap (λ (t : Bool). cond t (max h.handed (last_moment (joined config before l) (as_logged e))) (last_moment (joined config before l) (as_logged e)))
          (sym (ap (λ (t : Bool). t || is_handed_boards (logged_event e.event)) (logged_by is_handed_own (λ x y. refl) e.event)
          ∙ ap (λ (t : Bool). is_handed_own e.event || t) (logged_by is_handed_boards (λ x y. refl) e.event)));
      of_board = λ t b j p q. by_part t b p q (in_append (map as_logged before) (map (later config before) l) j);
    };
  }
    where
      by_part : is_handed_boards (logged_event e.event) ≡ true → (b : Entry) → b.place ≡ 0 → b.number ≡ e.board
          → In b (map as_logged before) ⊎ In b (map (later config before) l) → h.handed ≡ b.moment
      by_part t b p q (inl j) =
          let m = mapped as_logged before j in
          h.when_boards (sym (logged_by is_handed_boards (λ x y. refl) e.event) ∙ t) m.from m.is_in
          (ap (λ (x : Entry). x.place) m.makes ∙ p) (ap (λ (x : Entry). x.number) m.makes ∙ q)
          ∙ ap (λ (x : Entry). x.moment) m.makes
      by_part t b p q (inr j) =
          let of = g.nested e i (boards_nested e.event (sym (logged_by is_handed_boards (λ x y. refl) e.event) ∙ t)) in
          let low = below_front before of.0 0 of.1 of.2 in
          let high = high_number config before l b j in
          let place = ap (λ (k : ℕ). front before k) p in
          let board = of.3 in
          absurd (omega (arith, low, high, place, board, q))

  pub early_made : (e : Entry) → In e before → right.Made config (joined config before l) (as_logged e)
  early_made e i = made_by e i (handed_of e i (is_handed_boards e.event) refl)

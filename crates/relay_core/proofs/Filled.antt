-- The recorded list, filled in, is a legal list, where each entry was made as the history of its place demands.
use Rattle.std.proofs.Common.{◌≡◌, ◌∙◌, sym, ap, subst, refl, ℕ, ◌<◌, ◌≤◌, max, List, [], ◌∷◌, Bool, true, false, cond, Some, map, arith}
use Rattle.std.specs.Prelude.{◌||◌}
use Rattle.std.specs.List.{filter_map}
use Rattle.relay_outside.specs.declared.settings.Config.{Config}
use Rattle.histories.specs.Words.{In, greatest}
use Rattle.histories.proofs.Lists.{mapped, maps}
use Rattle.port_pool.specs.Boxes.{BoxEvent, FitsBox}
use Rattle.call_cell.specs.Cells.{CellEvent, CellEntry, Prepare, Commit, Relay, Expire, Read, End, Relayed, Receipt}
use Rattle.call_cell.specs.Demands.{FitsCell}
use Rattle.call_board.specs.Acts.{BoardEntry}
use Rattle.relay_core.specs.Entries.{Event, Board, Cell, Box, Entry, history, board_entry, cell_entry, box_event, cell_history}
use Rattle.relay_core.specs.Legal.{Fits, StandsAt, IsReceived, is_handed_own, is_handed_boards, last_moment, IsTimed, Orderly, Legal}
use Rattle.relay_core.specs.Records.{logged_cell, logged_event, as_logged, moment_of}
use Rattle.relay_core.specs.Turns.{IsReceiving}
use Rattle.relay_core.proofs.Counts.{Stands, counted_if}
use Rattle.relay_core.proofs.Refilling.{before_mapped, history_mapped, box_mapped, orderly_mapped, same_map}
use Rattle.relay_core.proofs.Filling.{fill_cell, fill_history, fill_event, filled, filled_in, kept_by, filled_keeps, filled_history}

-- What is recorded is the event that what is recorded before it demands, filled in.
abbrev pub FitsTold : Config → List Entry → ℕ → Event → Type 0
FitsTold config past moment (Board b) = Unit {0}
FitsTold config past moment (Cell c) =
    let h = fill_history config (filter_map cell_entry past) in
    FitsCell config h (record { moment = moment; event = fill_cell config h c }) × (logged_cell (fill_cell config h c) ≡ c)
FitsTold config past moment (Box b) = FitsBox (filter_map box_event past) b

-- An entry of the recorded list, which was handed that moment
pub record IsMadeRight (config : Config) (l : List Entry) (e : Entry) (handed : ℕ) : Type 0 where
  pub placed : StandsAt config e.place e.event
  pub counted : (i : ℕ) → i < e.number → Stands l e.place i
  pub fits : FitsTold config (history l e.place e.number) e.moment e.event
  pub timed : e.moment ≡ moment_of e.event handed (last_moment l e)
  pub of_board : is_handed_boards e.event ≡ true → (b : Entry) → In b l → b.place ≡ 0 → b.number ≡ e.board → handed ≡ b.moment

pub record Made (config : Config) (l : List Entry) (e : Entry) : Type 0 where
  pub handed : ℕ
  pub right : IsMadeRight config l e handed

-- What it tells.

told_filled_by : (config : Config) (l : List Entry) (place number moment : ℕ) (v : Event) → FitsTold config (history l place number) moment v
    → logged_event (fill_event config (fill_history config (cell_history l place number)) v) ≡ v
told_filled_by config l place number moment (Board b) fits = refl
told_filled_by config l place number moment (Cell c) fits = ap Cell fits.1
told_filled_by config l place number moment (Box b) fits = refl

told_filled : (config : Config) (l : List Entry) (e : Entry) → FitsTold config (history l e.place e.number) e.moment e.event → as_logged (filled config l e) ≡ e
told_filled config l e fits =
    ap (λ (v : Event). record { place = e.place; number = e.number; moment = e.moment; board = e.board; event = v })
    (told_filled_by config l e.place e.number e.moment e.event fits)

pub mapped_twice : {A B C : Type 0} (f : B → C) (g : A → B) (xs : List A) → map f (map g xs) ≡ map (λ (x : A). f (g x)) xs
mapped_twice f g [] = refl
mapped_twice {C = C} f g (x ∷ xs) = ap (λ (ys : List C). f (g x) ∷ ys) (mapped_twice f g xs)

mapped_same : {A : Type 0} (xs : List A) → map (λ (x : A). x) xs ≡ xs
mapped_same [] = refl
mapped_same {A} (x ∷ xs) = ap (λ (ys : List A). x ∷ ys) (mapped_same xs)

pub filled_tells : (config : Config) (l : List Entry) → ((e : Entry) → In e l → Made config l e) → map as_logged (filled_in config l) ≡ l
filled_tells config l made =
    mapped_twice as_logged (filled config l) l
    ∙ same_map (λ (e : Entry). as_logged (filled config l e)) (λ (e : Entry). e) l (λ e i. told_filled config l e (made e i).right.fits)
    ∙ mapped_same l

-- It fits.

fits_by : (config : Config) (l : List Entry) → Orderly config l → (e : Entry) → In e l → (v : Event) → e.event ≡ v
    → FitsTold config (history l e.place e.number) e.moment v
    → Fits config (filled_in config l) (record { place = e.place; number = e.number; moment = e.moment; board = e.board; event = fill_event config (fill_history config (cell_history l e.place e.number)) v })
fits_by config l o e i (Board b) q fits =
    let keeps = filled_keeps config l in
    let made = orderly_mapped (filled config l) keeps config l o in
    let entry : BoardEntry = record { moment = e.moment; event = b } in
    let is : board_entry (filled config l e) ≡ Some entry
    = keeps.same_board e ∙ ap (λ (v : Event). board_entry (record { place = e.place; number = e.number; moment = e.moment; board = e.board; event = v })) q in
    made.board_fits (filled config l e) entry (maps (filled config l) l i) is
fits_by config l o e i (Cell c) q fits =
    let h = fill_history config (cell_history l e.place e.number) in
    subst (λ (k : List CellEntry). FitsCell config k (record { moment = e.moment; event = fill_cell config h c }))
    (sym (filled_history config l o.numbered e.place e.number)) fits.0
fits_by config l o e i (Box b) q fits =
    subst (λ (k : List BoxEvent). FitsBox k b) (sym (box_mapped (filled config l) (filled_keeps config l) l e.place e.number)) fits

-- It stands at a place of its kind.
placed_by : (config : Config) (h : List CellEntry) (place : ℕ) (v : Event) → StandsAt config place v → StandsAt config place (fill_event config h v)
placed_by config h place (Board b) at = at
placed_by config h place (Cell c) at = at
placed_by config h place (Box b) at = at

-- Its moment.

last_same : (config : Config) (l : List Entry) (e : Entry) → last_moment (filled_in config l) (filled config l e) ≡ last_moment l e
last_same config l e =
    ap (λ (xs : List Entry). greatest (map (λ (f : Entry). f.moment) xs)) (history_mapped (filled config l) (filled_keeps config l) l e.place e.number)
    ∙ ap (λ (ms : List ℕ). greatest ms) (mapped_twice (λ (f : Entry). f.moment) (filled config l) (history l e.place e.number))

never_below : (b : Bool) (handed last : ℕ) → last ≤ (cond b (max handed last) last)
never_below true handed last = omega arith
never_below false handed last = omega arith

own_or_boards : (a b : Bool) → b ≡ true → (a || b) ≡ true
own_or_boards true b q = refl
own_or_boards false b q = q

neither : (a b : Bool) → a ≡ false → b ≡ false → (a || b) ≡ false
neither true b p q = p
neither false b p q = q

timed_filled : (config : Config) (l : List Entry) (e : Entry) → Made config l e → IsTimed (filled_in config l) (filled config l e)
timed_filled config l e made =
    let timed = made.right.timed in
    let last : last_moment (filled_in config l) (filled config l e) ≡ last_moment l e = last_same config l e in
    let own : is_handed_own (fill_event config h e.event) ≡ is_handed_own e.event = kept_by is_handed_own (λ x y. refl) config h e.event in
    let boards : is_handed_boards (fill_event config h e.event) ≡ is_handed_boards e.event = kept_by is_handed_boards (λ x y. refl) config h e.event in
    record {
      never_falls =
          let k = never_below (is_handed_own e.event || is_handed_boards e.event) made.handed (last_moment l e) in
          subst (λ (n : ℕ). n ≤ e.moment) (sym last) (subst (λ (n : ℕ). last_moment l e ≤ n) (sym timed) k);
      of_board = λ b i p q t.
          let m = mapped (filled config l) l i in
          let handed : made.handed ≡ m.from.moment
          = made.right.of_board (sym boards ∙ t) m.from m.is_in (ap (λ (x : Entry). x.place) m.makes ∙ p) (ap (λ (x : Entry). x.number) m.makes ∙ q) in
          timed
          ∙ ap (λ (t : Bool). cond t (max made.handed (last_moment l e)) (last_moment l e)) (own_or_boards (is_handed_own e.event) (is_handed_boards e.event) (sym boards ∙ t))
          ∙ ap (λ (n : ℕ). max n (last_moment l e)) (handed ∙ ap (λ (x : Entry). x.moment) m.makes)
          ∙ ap (λ (n : ℕ). max b.moment n) (sym last);
      else_last = λ p q.
          timed
          ∙ ap (λ (t : Bool). cond t (max made.handed (last_moment l e)) (last_moment l e))
          (neither (is_handed_own e.event) (is_handed_boards e.event) (sym own ∙ p) (sym boards ∙ q))
          ∙ sym last;
    }
  where
    h : List CellEntry
    h = fill_history config (cell_history l e.place e.number)

-- Its receipt.

record IsRelay (v : Event) (packet : Receipt) : Type 0 where
  was : Relayed
  is : v ≡ Cell (Relay was)
  same : was.packet ≡ packet

relay_by : (config : Config) (h : List CellEntry) (v : Event) (x : Relayed) → fill_event config h v ≡ Cell (Relay x) → IsRelay v x.packet
relay_by config h (Board b) x q = absurd (let k = q in cc)
relay_by config h (Box b) x q = absurd (let k = q in cc)
relay_by config h (Cell (Relay r)) x q =
    let made : Cell (fill_cell config h (Relay r)) ≡ Cell (Relay x) = q in
    let same : fill_cell config h (Relay r) ≡ Relay x = cc in
    record { was = r; is = refl; same = packet_in same }
  where
    packet_of : CellEvent → Receipt → Receipt
    packet_of (Relay y) p = y.packet
    packet_of _ p = p

    packet_in : fill_cell config h (Relay r) ≡ Relay x → r.packet ≡ x.packet
    packet_in e = ap (λ (c : CellEvent). packet_of c r.packet) e
relay_by config h (Cell (Prepare call legs keys dropped)) x q = absurd (let k = q in cc)
relay_by config h (Cell (Commit signal)) x q = absurd (let k = q in cc)
relay_by config h (Cell (Expire due)) x q = absurd (let k = q in cc)
relay_by config h (Cell (Read as_logged)) x q = absurd (let k = q in cc)
relay_by config h (Cell End) x q = absurd (let k = q in cc)

relay_of : (config : Config) (l : List Entry) (e : Entry) (x : Relayed) → (filled config l e).event ≡ Cell (Relay x) → IsRelay e.event x.packet
relay_of config l e x q = relay_by config (fill_history config (cell_history l e.place e.number)) e.event x q

received_filled : (config : Config) (l : List Entry) → IsReceiving config l → (e : Entry) (x : Relayed) → In e l → (filled config l e).event ≡ Cell (Relay x)
    → IsReceived config (filled_in config l) (filled config l e) x.packet
received_filled config l receiving e x i q =
    let was = relay_of config l e x q in
    let r = subst (λ (p : Receipt). IsReceived config l e p) was.same (receiving.received e was.was i was.is) in
    record {
      taking = filled config l r.taking;
      is_there = before_mapped (filled config l) l r.is_there;
      at_box = r.at_box;
      with_number = r.with_number;
      gave = ap (λ (v : Event). fill_event config (fill_history config (cell_history l r.taking.place r.taking.number)) v) r.gave;
      in_its_cell = r.in_its_cell;
    }

once_filled : (config : Config) (l : List Entry) → IsReceiving config l → (e f : Entry) (x y : Relayed) → In e l → In f l
    → (filled config l e).event ≡ Cell (Relay x) → (filled config l f).event ≡ Cell (Relay y)
    → x.packet.holder.pair ≡ y.packet.holder.pair → x.packet.take ≡ y.packet.take → e ≡ f
once_filled config l receiving e f x y i j q r pair take =
    let a = relay_of config l e x q in
    let b = relay_of config l f y r in
    receiving.once e f a.was b.was i j a.is b.is
    (ap (λ (p : Receipt). p.holder.pair) a.same ∙ pair ∙ ap (λ (p : Receipt). p.holder.pair) (sym b.same))
    (ap (λ (p : Receipt). p.take) a.same ∙ take ∙ ap (λ (p : Receipt). p.take) (sym b.same))

-- The whole list.

stands_filled : (config : Config) (l : List Entry) (place number : ℕ) → Stands l place number → Stands (filled_in config l) place number
stands_filled config l place number s = record {
  entry = filled config l s.entry;
  is_in = maps (filled config l) l s.is_in;
  at = s.at;
  number_is = s.number_is;
}

pub legal_filled : (config : Config) (l : List Entry) → Orderly config l → IsReceiving config l → ((e : Entry) → In e l → Made config l e)
    → Legal config (filled_in config l)
legal_filled config l o receiving made = record {
  orderly = orderly_mapped g (filled_keeps config l) config l o;
  counted = counted_if (filled_in config l)
      (λ e i. let m = mapped g l i in
      subst (λ (x : Entry). (n : ℕ) → n < x.number → Stands (filled_in config l) x.place n) m.makes
      (λ n k. stands_filled config l m.from.place n ((made m.from m.is_in).right.counted n k)));
  fits = λ e i. let m = mapped g l i in
      subst (λ (x : Entry). Fits config (filled_in config l) x) m.makes
      (fits_by config l o m.from m.is_in m.from.event refl (made m.from m.is_in).right.fits);
  timed = λ e i. let m = mapped g l i in
      subst (λ (x : Entry). IsTimed (filled_in config l) x) m.makes (timed_filled config l m.from (made m.from m.is_in));
  placed = λ e i. let m = mapped g l i in
      subst (λ (x : Entry). StandsAt config x.place x.event) m.makes
      (placed_by config (fill_history config (cell_history l m.from.place m.from.number)) m.from.place m.from.event (made m.from m.is_in).right.placed);
  received = λ e x i q. let m = mapped g l i in
      subst (λ (y : Entry). IsReceived config (filled_in config l) y x.packet) m.makes
      (received_filled config l receiving m.from x m.is_in (ap (λ (y : Entry). y.event) m.makes ∙ q));
  once = λ e f x y i j q r pair take.
      let m = mapped g l i in
      let n = mapped g l j in
      let one = once_filled config l receiving m.from n.from x y m.is_in n.is_in (ap (λ (z : Entry). z.event) m.makes ∙ q)
      (ap (λ (z : Entry). z.event) n.makes ∙ r) pair take in
      sym m.makes ∙ ap g one ∙ n.makes;
}
  where
    g : Entry → Entry
    g = filled config l

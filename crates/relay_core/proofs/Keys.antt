-- Each key enters one leg, by one Prepare.
use Rattle.std.proofs.Common.{◌≡◌, ◌∙◌, sym, ap, subst, refl, ℕ, suc, List, [], ◌∷◌, ◌++◌, Bool, true, false, cond, Some, map, length, filter, max, arith}
use Rattle.std.proofs.lemmas.List.Elements.{filter-append}
use Rattle.relay_outside.specs.declared.settings.Config.{Config}
use Rattle.histories.specs.Words.{In}
use Rattle.histories.proofs.Lists.{keeps, equal, only}
use Rattle.port_pool.specs.declared.holder.Holder.{Holder}
use Rattle.port_pool.specs.Signals.{NewKey}
use Rattle.call_cell.specs.Cells.{CellEvent, Prepare, Commit, Relay, Expire, Read, End, keys_of}
use Rattle.call_board.specs.Acts as act
use Rattle.call_board.specs.Acts.{Call, Act, Control, BoardEvent, Turn, Tick, Stop, BoardEntry}
use Rattle.relay_core.specs.Entries.{Event, Board, Cell, Box, Entry, is_nested, belongs_to, board_entry, board_history}
use Rattle.relay_core.specs.Scripts.{Owed, owed_by, open_owed, closing, in_cell, closings, script}
use Rattle.relay_core.specs.Legal.{Orderly}
use Rattle.relay_core.specs.Safe.{keys_by, keys_at}
use Rattle.relay_core.proofs.Histories.{good_history, and_true}
use Rattle.relay_core.proofs.Scripts.{IsOwed, opens, prepares, commits, closes, ends, expires, reads, owed, IsNestedIn, nested_in}
use Rattle.relay_core.proofs.Boards.{later_entry, same_moment}
use Rattle.call_board.proofs.Keys.{drawn_once}

-- The Prepare that brings a key.

pub record IsPreparing (e : Event) (k : NewKey) : Type 0 where
  pub call : ℕ
  pub legs : List Holder
  pub keys : List NewKey
  pub dropped : List ℕ
  pub is : e ≡ Cell (Prepare call legs keys dropped)
  pub has_key : In k keys

preparing_cell : (c : CellEvent) (k : NewKey) → In k (keys_of c) → IsPreparing (Cell c) k
preparing_cell (Prepare call legs keys dropped) k i = record { call = call; legs = legs; keys = keys; dropped = dropped; is = refl; has_key = i }
preparing_cell (Commit signal) k i = elim i [ ]
preparing_cell (Relay r) k i = elim i [ ]
preparing_cell (Expire due) k i = elim i [ ]
preparing_cell (Read log) k i = elim i [ ]
preparing_cell End k i = elim i [ ]

pub preparing : (e : Event) (k : NewKey) → In k (keys_by e) → IsPreparing e k
preparing (Board b) k i = elim i [ ]
preparing (Cell c) k i = preparing_cell c k i
preparing (Box b) k i = elim i [ ]

-- A Prepare of the list belongs to an accepted offer.

pub record IsPrepareOf (config : Config) (l : List Entry) (e : Entry) (call : ℕ) (legs : List Holder) (keys : List NewKey) (dropped : List ℕ) : Type 0 where
  pub nested : IsNestedIn config l e
  pub offer : act.Offer
  pub acts : act.act nested.entry ≡ act.Offered offer
  pub place_is : e.place ≡ offer.of.cell
  pub call_is : call ≡ offer.of.number
  pub legs_are : legs ≡ offer.legs
  pub keys_are : keys ≡ offer.keys
  pub dropped_are : dropped ≡ offer.dropped

prepare_by : (config : Config) (l : List Entry) (e : Entry) (call : ℕ) (legs : List Holder) (keys : List NewKey) (dropped : List ℕ)
    → e.event ≡ Cell (Prepare call legs keys dropped) → (n : IsNestedIn config l e)
    → IsOwed config (board_history l n.board.number) n.entry (owed_by e) → IsPrepareOf config l e call legs keys dropped
prepare_by config l e call legs keys dropped q n (prepares o a w) =
    let events : e.event ≡ Cell (Prepare o.of.number o.legs o.keys o.dropped) = ap (λ (v : Owed). v.event) w in
    record {
      nested = n;
      offer = o;
      acts = a;
      place_is = ap (λ (v : Owed). v.place) w;
      call_is = cc;
      legs_are = cc;
      keys_are = cc;
      dropped_are = cc;
    }
prepare_by config l e call legs keys dropped q n (opens o leg a i w) = let h = ap (λ (v : Owed). v.event) w in absurd (let k = q in cc)
prepare_by config l e call legs keys dropped q n (commits c a w) = let h = ap (λ (v : Owed). v.event) w in absurd (let k = q in cc)
prepare_by config l e call legs keys dropped q n (closes c leg i j w) = let h = ap (λ (v : Owed). v.event) w in absurd (let k = q in cc)
prepare_by config l e call legs keys dropped q n (ends c i w) = let h = ap (λ (v : Owed). v.event) w in absurd (let k = q in cc)
prepare_by config l e call legs keys dropped q n (expires c due i w) = let h = ap (λ (v : Owed). v.event) w in absurd (let k = q in cc)
prepare_by config l e call legs keys dropped q n (reads c log w) = let h = ap (λ (v : Owed). v.event) w in absurd (let k = q in cc)

pub prepare_of : (config : Config) (l : List Entry) → Orderly config l → (e : Entry) → In e l
    → (call : ℕ) (legs : List Holder) (keys : List NewKey) (dropped : List ℕ) → e.event ≡ Cell (Prepare call legs keys dropped)
    → IsPrepareOf config l e call legs keys dropped
prepare_of config l o e i call legs keys dropped q =
    let n = nested_in config l o e i (ap is_nested q) in
    prepare_by config l e call legs keys dropped q n (owed config (board_history l n.board.number) n.entry (owed_by e) n.fits n.is_owed)

-- A script has one Prepare.

abbrev pub is_prepare_event : Event → Bool
is_prepare_event (Cell (Prepare call legs keys dropped)) = true
is_prepare_event _ = false

abbrev pub prepares_it : Owed → Bool
prepares_it w = is_prepare_event w.event

no_opening : (config : Config) (legs : List Holder) → filter prepares_it (map (open_owed config) legs) ≡ []
no_opening config [] = refl
no_opening config (leg ∷ legs) = no_opening config legs

no_closing : (config : Config) (legs : List Holder) → filter prepares_it (map (closing config) legs) ≡ []
no_closing config [] = refl
no_closing config (leg ∷ legs) = no_closing config legs

offer_script : (config : Config) (h : List BoardEntry) (moment : ℕ) (v : BoardEvent) (o : act.Offer) → act.act_in v ≡ act.Offered o
    → script config h (record { moment = moment; event = v })
    ≡ map (open_owed config) o.legs ++ in_cell o.of (Prepare o.of.number o.legs o.keys o.dropped) ∷ closings config h (record { moment = moment; event = v }) o.of
offer_script config h moment (Turn c) o q =
    ap (Rattle.relay_core.specs.Scripts.script_of_act config h (record { moment = moment; event = Turn c }) c) q
offer_script config h moment (Tick calls) o q = absurd (let k = q in cc)
offer_script config h moment (Stop calls) o q = absurd (let k = q in cc)

one_prepare : (config : Config) (h : List BoardEntry) (e : BoardEntry) (o : act.Offer) → act.act e ≡ act.Offered o
    → length (filter prepares_it (script config h e)) ≡ 1
one_prepare config h e o q =
    let w = in_cell o.of (Prepare o.of.number o.legs o.keys o.dropped) in
    let cs = closings config h e o.of in
    let s : filter prepares_it (script config h e) ≡ filter prepares_it (map (open_owed config) o.legs ++ w ∷ cs) =
    ap (filter prepares_it) (offer_script config h e.moment e.event o q) in
    let t : filter prepares_it (map (open_owed config) o.legs ++ w ∷ cs) ≡ filter prepares_it (map (open_owed config) o.legs) ++ filter prepares_it (w ∷ cs) =
    filter-append prepares_it (map (open_owed config) o.legs) (w ∷ cs) in
    let u : filter prepares_it (map (open_owed config) o.legs) ++ filter prepares_it (w ∷ cs) ≡ filter prepares_it (w ∷ cs) =
    ap (λ xs. xs ++ filter prepares_it (w ∷ cs)) (no_opening config o.legs) in
    let v : filter prepares_it (w ∷ cs) ≡ w ∷ [] = ap (λ xs. w ∷ xs) (no_closing config (Rattle.call_board.specs.Pairs.closed_of h e o.of)) in
    ap length (s ∙ t ∙ u ∙ v)

-- as many entries as their events pass
count_case : {A B : Type 0} (f : A → B) (p : B → Bool) (x : A) (xs : List A)
    → length (filter (λ y. p (f y)) xs) ≡ length (filter p (map f xs)) → (b : Bool)
    → length (cond b (x ∷ filter (λ y. p (f y)) xs) (filter (λ y. p (f y)) xs)) ≡ length (cond b (f x ∷ filter p (map f xs)) (filter p (map f xs)))
count_case f p x xs rest true = ap (λ n. suc n) rest
count_case f p x xs rest false = rest

same_count : {A B : Type 0} (f : A → B) (p : B → Bool) (xs : List A) → length (filter (λ x. p (f x)) xs) ≡ length (filter p (map f xs))
same_count f p [] = refl
same_count f p (x ∷ xs) = count_case f p x xs (same_count f p xs) (p (f x))

-- two Prepares of one board entry are one
pub one_prepare_of : (config : Config) (l : List Entry) → Orderly config l → (b : Entry) (x : BoardEntry) (of : act.Offer) → In b l → board_entry b ≡ Some x
    → act.act x ≡ act.Offered of → (e f : Entry) → In e l → In f l → belongs_to b.number e ≡ true → belongs_to b.number f ≡ true
    → prepares_it (owed_by e) ≡ true → prepares_it (owed_by f) ≡ true → e ≡ f
one_prepare_of config l o b x of i q a e f j k p r s t =
    let nested = filter (belongs_to b.number) l in
    let count = same_count owed_by prepares_it nested in
    let scripted : length (filter prepares_it (map owed_by nested)) ≡ length (filter prepares_it (script config (board_history l b.number) x)) =
    ap (λ ws. length (filter prepares_it ws)) (o.scripted b x i (o.board_fits b x i q).0 q) in
    only (filter (λ (d : Entry). prepares_it (owed_by d)) nested)
    (count ∙ scripted ∙ one_prepare config (board_history l b.number) x of a)
    (keeps (λ (d : Entry). prepares_it (owed_by d)) nested (keeps (belongs_to b.number) l j p) s)
    (keeps (λ (d : Entry). prepares_it (owed_by d)) nested (keeps (belongs_to b.number) l k r) t)

pub belongs : (n : ℕ) (e : Entry) → is_nested e.event ≡ true → e.board ≡ n → belongs_to n e ≡ true
belongs n e t q = and_true (is_nested e.event) (Rattle.std.specs.Prelude.◌==◌ e.board n) t (equal e.board n q)

-- no key number enters two legs, or one leg twice
pub keys_apart : (config : Config) (l : List Entry) → Orderly config l → (e f : Entry) (k j : NewKey) → In e l → In f l
    → In k (keys_at e) → In j (keys_at f) → k.number ≡ j.number → (e ≡ f) × (k ≡ j)
keys_apart config l o e f k j ie jf ke kf same_key =
    let pe = preparing e.event k ke in
    let pf = preparing f.event j kf in
    let oe = prepare_of config l o e ie pe.call pe.legs pe.keys pe.dropped pe.is in
    let of = prepare_of config l o f jf pf.call pf.legs pf.keys pf.dropped pf.is in
    let be = oe.nested in
    let bf = of.nested in
    let n = suc (max be.board.number bf.board.number) in
    let once = drawn_once config (board_history l n) (board_history l be.board.number) (board_history l bf.board.number) be.entry bf.entry
    oe.offer of.offer k j (good_history config l o n)
    (later_entry config l o be.board be.entry be.is_in be.is n (omega arith))
    (later_entry config l o bf.board bf.entry bf.is_in bf.is n (omega arith))
    oe.acts of.acts (subst (λ ks. In k ks) oe.keys_are pe.has_key) (subst (λ ks. In j ks) of.keys_are pf.has_key) same_key in
    let boards : be.board ≡ bf.board = same_moment config l o be.board bf.board be.entry bf.entry be.is_in bf.is_in be.is bf.is once.0 in
    let numbers : f.board ≡ be.board.number = sym bf.number_is ∙ ap (λ (d : Entry). d.number) (sym boards) in (
      one_prepare_of config l o be.board be.entry oe.offer be.is_in be.is oe.acts e f ie jf
          (belongs be.board.number e (ap is_nested pe.is) (sym be.number_is))
          (belongs be.board.number f (ap is_nested pf.is) numbers)
          (ap is_prepare_event pe.is) (ap is_prepare_event pf.is),
      once.2,
    )

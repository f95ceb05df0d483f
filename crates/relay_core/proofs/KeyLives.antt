-- The key that is in force on a leg is there, and came in this leg's life.
use Rattle.std.proofs.Common.{◌≡◌, ◌∙◌, sym, ap, subst, refl, ℕ, suc, ◌<◌, ◌≤◌, ◌⊎◌, inl, inr, List, [], ◌∷◌, Bool, true, false, cond, Some, ◌==◌, arith}
use Rattle.std.specs.Prelude.{◌||◌}
use Rattle.std.specs.List.{list_any}
use Rattle.relay_outside.specs.declared.settings.Config.{Config}
use Rattle.histories.specs.Words.{In, here, there}
use Rattle.histories.proofs.Lists.{in_left, in_right, in_append, any_is_in, equal}
use Rattle.port_pool.specs.declared.holder.Holder.{Holder}
use Rattle.port_pool.specs.declared.signal.LegSignal.{LegSignal}
use Rattle.port_pool.specs.Signals.{NewKey, same_leg}
use Rattle.call_cell.specs.Cells.{CellEvent, CellEntry, Prepare, Commit, is_end, since_end, in_force, legs, legs_of, keys_of, keys_in, key_numbered}
use Rattle.call_cell.specs.LegKeys.{keys_since}
use Rattle.call_board.specs.Acts as act
use Rattle.call_board.specs.Acts.{Call, BoardEntry}
use Rattle.call_board.specs.Calls.{live}
use Rattle.relay_core.specs.Entries.{Event, Cell, Entry, is_nested, board_entry, board_history, cell_entry, cell_history}
use Rattle.relay_core.specs.Legal.{Orderly}
use Rattle.relay_core.specs.Safe.{GotKey, keys_by}
use Rattle.relay_core.proofs.Histories.{good_history, same_at, since_entry}
use Rattle.relay_core.proofs.Boards.{lt_or_eq, later_entry, later_history}
use Rattle.relay_core.proofs.Keys.{IsPrepareOf, prepare_of, one_prepare_of, belongs, is_prepare_event, keys_apart}
use Rattle.relay_core.proofs.Commits.{event_of, entry_of}
use Rattle.relay_core.proofs.Lives.{not_after, begun_grows}
use Rattle.relay_core.proofs.Leases.{Leasing}
use Rattle.relay_core.proofs.Generations.{lease_once, leg_leased}
use Rattle.relay_core.proofs.Plans.{offer_live}
use Rattle.relay_core.proofs.LegEntries.{adds, Came, came_since, came_for}
use Rattle.relay_core.proofs.KeyRounds.{none_leased}
use Rattle.relay_core.proofs.Keyed.{IsInForce, is_in_force, IsDrawn, is_drawn, offered_call, IsBrought, is_brought, before_commit, no_end_since, less}
use Rattle.call_board.proofs.Calls.{live_begun, live_between}
use Rattle.call_board.proofs.Cells.{live_cells}
use Rattle.call_cell.proofs.Legs.{adds_prepares, same_leg_is}
use Rattle.call_cell.proofs.Keys.{key_brought, finds_key}

-- an entry that adds the leg is a Prepare of an accepted offer with a leg of its call, pair and lease
record IsAdding (config : Config) (l : List Entry) (g : Entry) (leg : Holder) : Type 0 where
  call : ℕ
  legs : List Holder
  keys : List NewKey
  dropped : List ℕ
  event : g.event ≡ Cell (Prepare call legs keys dropped)
  of : IsPrepareOf config l g call legs keys dropped
  same : Holder
  has_leg : In same of.offer.legs
  is_same : same_leg leg same ≡ true

adding : (config : Config) (l : List Entry) → Orderly config l → (g : Entry) (c : CellEntry) (leg : Holder) → In g l → cell_entry g ≡ Some c
    → adds leg c ≡ true → IsAdding config l g leg
adding config l o g c leg i q t =
    let m = any_is_in (same_leg leg) (legs_of c.event) t in
    let a = adds_prepares c m.is_in in
    let event : g.event ≡ Cell (Prepare a.0.call a.0.legs a.0.keys a.0.dropped) = event_of g c q ∙ ap Cell a.0.is_it in
    let of = prepare_of config l o g i a.0.call a.0.legs a.0.keys a.0.dropped event in
    record {
      call = a.0.call;
      legs = a.0.legs;
      keys = a.0.keys;
      dropped = a.0.dropped;
      event = event;
      of = of;
      same = m.from;
      has_leg = subst (λ ls. In m.from ls) of.legs_are a.1;
      is_same = m.makes;
    }

or_true : (b c : Bool) → b ≡ true → (b || c) ≡ true
or_true true c q = refl
or_true false c q = absurd (let k = q in cc)

true_or : (b c : Bool) → c ≡ true → (b || c) ≡ true
true_or true c q = refl
true_or false c q = q

is_some : (section : ℕ) (ls : List Holder) (leg : Holder) → In leg ls → leg.section ≡ section → list_any (λ (a : Holder). a.section == section) ls ≡ true
is_some section [] leg i s = elim i [ ]
is_some section (x ∷ ls) leg (here q) s =
    or_true (x.section == section) (list_any (λ (a : Holder). a.section == section) ls)
    (equal x.section section (ap (λ (a : Holder). a.section) (sym q) ∙ s))
is_some section (x ∷ ls) leg (there i) s =
    true_or (x.section == section) (list_any (λ (a : Holder). a.section == section) ls) (is_some section ls leg i s)

-- In what follows a key is in force on a leg of the cell, an offer drew it, and a Prepare brought it.
module _ (config : Config) (l : List Entry) (o : Orderly config l) (place n : ℕ) (leg : Holder) (s : LegSignal) (number : ℕ)
    (is_leg : In leg (legs (since_end (cell_history l place n))))
    (f : IsInForce config l place n leg s) (d : IsDrawn config l f.board.number f.answer.of leg number)
    (p : IsBrought config l place n d.board d.key) where
  -- an offer between the drawing and the answer that adds the leg would have leased pairs for the section
  leases_between : (g : Entry) (a : IsAdding config l g leg) → In g l → g.place ≡ place
      → d.board.number < a.of.nested.board.number → a.of.nested.board.number < f.board.number → ⊥
  leases_between g a i at low high =
      let b = a.of.nested in
      let offer = a.of.offer in
      let h = board_history l (suc b.board.number) in
      let drawn = offered_call config l o place n leg s number f d in
      let after : In f.answer.of (live (board_history l (suc d.board.number))) =
      subst (λ (c : Call). In c (live (board_history l (suc d.board.number)))) drawn.1 drawn.0 in
      let answers : In f.answer.of (live h) =
      live_between h (board_history l f.board.number) f.answer.of
      (later_history config l o (suc b.board.number) f.board.number (omega (arith, high)))
      (begun_grows config l o (suc d.board.number) (suc b.board.number) f.answer.of (omega (arith, low)) (live_begun (board_history l (suc d.board.number)) f.answer.of after))
      f.is_live in
      let offers : In offer.of (live h) = offer_live config l o b.board b.entry offer b.is_in b.is a.of.acts in
      let cells : offer.of.cell ≡ f.answer.of.cell = sym a.of.place_is ∙ at ∙ f.cell_is in
      let one : offer.of ≡ f.answer.of = live_cells config h offer.of f.answer.of (good_history config l o (suc b.board.number)) offers answers cells in
      let parts = same_leg_is leg a.same a.is_same in
      let lease : Leasing l a.same = record {
        board = b.board;
        is_in = b.is_in;
        at_board = b.at_board;
        entry = b.entry;
        is = b.is;
        offer = offer;
        acts = a.of.acts;
        has_leg = a.has_leg;
      } in
      let legs_one : leg ≡ a.same = lease_once config l o leg a.same (leg_leased config l o place n leg is_leg) lease parts.1 parts.2 in
      none_leased config f.answer.of.number leg.section d.key (board_history l d.board.number) d.entry d.offer d.acts d.has_key
      (board_history l b.board.number) b.entry offer (board_history l f.board.number) (good_history config l o f.board.number)
      (later_entry config l o d.board d.entry d.board_in d.is b.board.number low)
      (later_entry config l o b.board b.entry b.is_in b.is f.board.number high)
      a.of.acts (ap (λ (c : Call). c.number) one)
      (is_some leg.section offer.legs a.same a.has_leg (ap (λ (x : Holder). x.section) (sym legs_one))) d.in_life

  -- the board entry of such an offer isn't that of the drawing
  not_drawing : (g : Entry) (a : IsAdding config l g leg) → In g l → p.entry.number < g.number → d.board.number ≡ a.of.nested.board.number → ⊥
  not_drawing g a i low q =
      let one = one_prepare_of config l o d.board d.entry d.offer d.board_in d.is d.acts p.entry g p.is_in i
      (belongs d.board.number p.entry p.nested p.of_board)
      (belongs d.board.number g (ap is_nested a.event) (sym a.of.nested.number_is ∙ sym q))
      (ap is_prepare_event p.event) (ap is_prepare_event a.event) in
      let numbers : p.entry.number ≡ g.number = ap (λ (x : Entry). x.number) one in
      omega (arith, low, numbers)

  -- nor that of the answer
  not_answering : (g : Entry) (a : IsAdding config l g leg) → a.of.nested.board.number ≡ f.board.number → ⊥
  not_answering g a q =
      let b = a.of.nested in
      let one = same_at l o.numbered b.board f.board b.is_in f.board_in (b.at_board ∙ sym (o.board_fits f.board f.entry f.board_in f.is).0) q in
      let both : Some b.entry ≡ Some f.entry = sym b.is ∙ ap board_entry one ∙ f.is in
      let entries : b.entry ≡ f.entry = cc in
      let clash : act.Offered a.of.offer ≡ act.Answered f.answer = sym a.of.acts ∙ ap act.act entries ∙ f.acts in
      cc

  adds_before : (g : Entry) → In g l → g.place ≡ place → p.entry.number < g.number → g.number < f.commit.number → IsAdding config l g leg → ⊥
  adds_before g i at low high a =
      let first = not_after config l o p.entry g p.is_in i p.nested (ap is_nested a.event) (p.at ∙ sym at) low in
      let second = not_after config l o g f.commit i f.is_in (ap is_nested a.event) f.nested (at ∙ sym f.at) high in
      let x : p.entry.board ≡ d.board.number = p.of_board in
      let y : f.board.number ≡ f.commit.board = f.of_board in
      let z : a.of.nested.board.number ≡ g.board = a.of.nested.number_is in
      by_order a (lt_or_eq d.board.number a.of.nested.board.number (omega (arith, first, x, z)))
      (lt_or_eq a.of.nested.board.number f.board.number (omega (arith, second, y, z)))
    where
      by_order : (a : IsAdding config l g leg) → (d.board.number < a.of.nested.board.number) ⊎ (d.board.number ≡ a.of.nested.board.number)
          → (a.of.nested.board.number < f.board.number) ⊎ (a.of.nested.board.number ≡ f.board.number) → ⊥
      by_order a (inl j) (inl k) = leases_between g a i at j k
      by_order a (inr j) k = not_drawing g a i low j
      by_order a (inl j) (inr k) = not_answering g a k

  commit_adds : (g : Entry) (c : CellEntry) → g ≡ f.commit → cell_entry g ≡ Some c → adds leg c ≡ true → ⊥
  commit_adds g c q h t =
      let event : Cell c.event ≡ Cell (Commit f.signal) = sym (event_of g c h) ∙ ap (λ (x : Entry). x.event) q ∙ f.event in
      let is : c.event ≡ Commit f.signal = cc in
      let none : adds leg c ≡ false = ap (λ (v : CellEvent). list_any (same_leg leg) (legs_of v)) is in
      cc

  -- no entry since the Prepare adds the leg
  adds_none : (g : Entry) (c : CellEntry) → In g l → g.place ≡ place → p.entry.number < g.number → g.number < n → cell_entry g ≡ Some c
      → (t : Bool) → adds leg c ≡ t → t ≡ false
  adds_none g c i at low high q false t = refl
  adds_none g c i at low high q true t = absurd (by_commit (less f.commit.number g.number))
    where
      not_later : (g.number < f.commit.number) ⊎ (f.commit.number ≤ g.number) → g.number ≤ f.commit.number → ⊥
      not_later (inl k) j = adds_before g i at low k (adding config l o g c leg i q t)
      not_later (inr k) j = commit_adds g c (same_at l o.numbered g f.commit i f.is_in (at ∙ sym f.at) (omega (arith, j, k))) q t

      by_commit : (f.commit.number < g.number) ⊎ (g.number ≤ f.commit.number) → ⊥
      by_commit (inl k) = let none = f.adds_none g c i at k high q in let a = t in cc
      by_commit (inr k) = not_later (less g.number f.commit.number) k

  pub came : Came l place n leg d.key
  came =
      let c : CellEntry = record { moment = p.entry.moment; event = Prepare p.offer.of.number p.offer.legs p.offer.keys p.offer.dropped } in
      let first : p.entry.number < f.commit.number = before_commit config l o place n leg s number f d p (less p.entry.number f.commit.number) in
      let below : f.commit.number < n = f.below in
      record {
        entry = p.entry;
        is_in = p.is_in;
        at = p.at;
        below = omega (arith, first, below);
        cell = c;
        is = entry_of p.entry.moment p.entry.event c.event p.event;
        no_end = refl;
        has_key = p.has_key;
        none_later = λ g x i at low high k. (
          no_end_since config l o place n leg s number f d p g x i at low high k (is_end x) refl,
          adds_none g x i at low high k (adds leg x) refl,
        );
      }

-- the keys since the leg was added are among those of the cell
kept_case : {key : NewKey} (e : CellEntry) (h : List CellEntry) (leg : Holder) → (In key (keys_since h leg) → In key (keys_in h)) → (b : Bool)
    → In key (keys_of e.event) ⊎ In key (cond b [] (keys_since h leg)) → In key (keys_in (e ∷ h))
kept_case e h leg rest b (inl i) = in_left (keys_of e.event) (keys_in h) i
kept_case e h leg rest true (inr i) = elim i [ ]
kept_case e h leg rest false (inr i) = in_right (keys_of e.event) (keys_in h) (rest i)

kept_in : {key : NewKey} (h : List CellEntry) (leg : Holder) → In key (keys_since h leg) → In key (keys_in h)
kept_in [] leg i = elim i [ ]
kept_in (e ∷ h) leg i =
    kept_case e h leg (kept_in h leg) (adds leg e) (in_append (keys_of e.event) (cond (adds leg e) [] (keys_since h leg)) i)

-- no other key that the cell got has its number
other_key : (config : Config) (l : List Entry) → Orderly config l → (place n : ℕ) (key : NewKey) (e : Entry) → In e l → In key (keys_by e.event)
    → (other : NewKey) → In other (keys_in (since_end (cell_history l place n))) → other.number ≡ key.number → other ≡ key
other_key config l o place n key e i k other j m =
    let b = key_brought (since_end (cell_history l place n)) j in
    let t = since_entry l o.numbered place n b.0 b.1 in
    let v : t.entry.event ≡ Cell b.0.event = event_of t.entry b.0 t.is in
    (keys_apart config l o t.entry e other key t.is_in i (subst (λ (x : Event). In other (keys_by x)) (sym v) b.2) k m).1

-- the key that the signal in force on a leg names came to the cell for this leg, in its life
pub has_key : (config : Config) (l : List Entry) → Orderly config l → (place n : ℕ) (leg : Holder) (s : LegSignal) (number : ℕ)
    → In leg (legs (since_end (cell_history l place n))) → in_force (since_end (cell_history l place n)) leg ≡ Some s → s.outbound ≡ Some number
    → GotKey (since_end (cell_history l place n)) leg number
has_key config l o place n leg s number is_leg q out =
    let f = is_in_force config l o place n leg s q in
    let d = is_drawn config l o place n leg s number f out in
    let p = is_brought config l o place n leg s number f d in
    let h = since_end (cell_history l place n) in
    let c = came config l o place n leg s number is_leg f d p in
    let here : In d.key (keys_in h) = kept_in h leg (came_since l o.numbered place n leg d.key c) in
    let found = finds_key h d.key here
    (other_key config l o place n d.key p.entry p.is_in (subst (λ (v : Event). In d.key (keys_by v)) (sym p.event) p.has_key)) in
    record {
      key = d.key;
      is_there = subst (λ m. key_numbered h m ≡ Some d.key) d.number_is found;
      in_life = came_for l o.numbered place n leg d.key d.for_section d.for_side c;
    }

-- No port has two holders: the box of a pair is open for the leg that holds the pair, and for no other.
use Rattle.std.proofs.Common.{◌≡◌, ◌∙◌, sym, ap, subst, refl, ℕ, ◌<◌, ◌⊎◌, inl, inr, List, Bool, true, false, Option, Some, None, arith}
use Rattle.std.specs.Prelude.{◌&&◌, nat_lt}
use Rattle.std.proofs.lemmas.Bool.Decides.{nat_tests}
use Rattle.relay_outside.specs.declared.settings.Config.{Config}
use Rattle.histories.specs.Words.{In}
use Rattle.port_pool.specs.declared.holder.Holder.{Holder}
use Rattle.port_pool.specs.Boxes.{BoxEvent, Open, Close, holder}
use Rattle.call_board.specs.Acts as act
use Rattle.call_board.specs.Acts.{Act, Call, BoardEntry}
use Rattle.call_board.specs.Pairs.{held, closes_leg}
use Rattle.call_board.specs.Fits.{FitsBoard, IsFitting}
use Rattle.call_board.proofs.Once.{once_equal}
use Rattle.call_board.proofs.Held.{closes_held, closed_of_held}
use Rattle.call_board.proofs.Free.{free_not_held, new_leg_free, new_legs_once, held_apart}
use Rattle.relay_core.specs.Entries.{Event, Board, Cell, Box, Entry, is_nested, front, board_entry, board_history, box_in, box_event, box_of}
use Rattle.relay_core.specs.Scripts.{Owed, owed_by, open_owed, closing}
use Rattle.relay_core.specs.Legal.{Orderly}
use Rattle.relay_core.specs.Safe.{box_before}
use Rattle.relay_core.proofs.Histories.{both, and_true, same_at, good_history}
use Rattle.relay_core.proofs.Boards.{lt_or_eq, less_or}
use Rattle.relay_core.proofs.Lives.{not_after}
use Rattle.relay_core.proofs.Scripts.{IsOwed, opens, prepares, commits, closes, ends, expires, reads, owed, has_opening, has_closing, IsNestedIn, nested_in, IsMade, is_made}
use Rattle.relay_core.proofs.Leases.{Leasing, HeldSince, FirstClose, HeldOrClosed, held_since, still_held, held_until, held_or_closed, same_entry}
use Rattle.relay_core.proofs.Boxes.{below_front, Leaves, Opened, holder_opened, opened_holder}

pub pairs_apart : (config : Config) (l : List Entry) → Orderly config l → (n : ℕ) (a b : Holder)
    → In a (held (board_history l n)) → In b (held (board_history l n)) → a.pair ≡ b.pair → a ≡ b
pairs_apart config l o n a b i j q = held_apart config (board_history l n) a b (good_history config l o n) i j q

pub less : (a b : ℕ) → nat_lt a b ≡ true → a < b
less a b is = grind (arith, nat_tests)

pub is_less : (a b : ℕ) → a < b → nat_lt a b ≡ true
is_less a b is = grind (arith, nat_tests)

-- the nested entries that belong to board entries below n
abbrev pub passes_below : ℕ → Entry → Bool
passes_below n e = is_nested e.event && nat_lt e.board n

box_is : (v : Event) (b : BoxEvent) → box_in v ≡ Some b → v ≡ Box b
box_is (Box c) b h = let k = h in cc
box_is (Board c) b h = absurd (let k = h in cc)
box_is (Cell c) b h = absurd (let k = h in cc)

pub same_box : (config : Config) (a b : ℕ) → box_of config a ≡ box_of config b → a ≡ b
same_box config a b h = omega (arith, h)

-- What a script owes to a box.

-- the opening of a leg that the entry leases, or the close of one that it closes
pub data OwedBox (config : Config) (h : List BoardEntry) (e : BoardEntry) (place : ℕ) (v : BoxEvent) : Type 0 where
  opened : (o : act.Offer) (leg : Holder) → act.act e ≡ act.Offered o → In leg o.legs → place ≡ box_of config leg.pair → v ≡ Open leg → OwedBox config h e place v
  closed : (leg : Holder) → In leg (held h) → closes_leg e leg ≡ true → place ≡ box_of config leg.pair → v ≡ Close → OwedBox config h e place v

owed_box : (config : Config) (h : List BoardEntry) (e : BoardEntry) (w : Owed) (v : BoxEvent) → w.event ≡ Box v → IsOwed config h e w
    → OwedBox config h e w.place v
owed_box config h e w v is (opens o leg q i p) =
    opened o leg q i (ap (λ (u : Owed). u.place) p) (let k = ap (λ (u : Owed). u.event) p in let z = is in cc)
owed_box config h e w v is (closes c leg j i p) =
    let x = closed_of_held h e c leg i in
    closed leg x.0 x.2 (ap (λ (u : Owed). u.place) p) (let k = ap (λ (u : Owed). u.event) p in let z = is in cc)
owed_box config h e w v is (prepares o q p) = absurd (let k = ap (λ (u : Owed). u.event) p in let z = is in cc)
owed_box config h e w v is (commits o q p) = absurd (let k = ap (λ (u : Owed). u.event) p in let z = is in cc)
owed_box config h e w v is (ends o q p) = absurd (let k = ap (λ (u : Owed). u.event) p in let z = is in cc)
owed_box config h e w v is (expires o due q p) = absurd (let k = ap (λ (u : Owed). u.event) p in let z = is in cc)
owed_box config h e w v is (reads o log p) = absurd (let k = ap (λ (u : Owed). u.event) p in let z = is in cc)

-- the board's entry to which a box's opening or close belongs
pub box_owed : (config : Config) (l : List Entry) → Orderly config l → (g : Entry) (v : BoxEvent) → (b : IsNestedIn config l g) → box_event g ≡ Some v
    → OwedBox config (board_history l b.board.number) b.entry g.place v
box_owed config l o g v b is =
    owed_box config (board_history l b.board.number) b.entry (owed_by g) v (box_is g.event v is)
    (owed config (board_history l b.board.number) b.entry (owed_by g) b.fits b.is_owed)

-- The box of a leg that is held.

-- the leg is held and the entry doesn't close it, or the entry leases it
data Keeps (h : List BoardEntry) (e : BoardEntry) (leg : Holder) : Type 0 where
  still : In leg (held h) → closes_leg e leg ≡ false → Keeps h e leg
  leased : (o : act.Offer) → act.act e ≡ act.Offered o → In leg o.legs → Keeps h e leg

-- what such an entry owes to the leg's box leaves it the leg's
leaves_held : (config : Config) (h : List BoardEntry) (e : BoardEntry) (leg : Holder) (v : BoxEvent) → IsFitting config h → FitsBoard config h e
    → Keeps h e leg → OwedBox config h e (box_of config leg.pair) v → Leaves leg (Some v)
leaves_held config h e leg v good fits (still i t) (opened o other q j p is) =
    absurd (free_not_held config h other.pair leg (new_leg_free config h e o other fits q j) i (same_box config leg.pair other.pair p))
leaves_held config h e leg v good fits (still i t) (closed other j c p is) =
    absurd (let one = ap (λ u. closes_leg e u) (held_apart config h leg other good i j (same_box config leg.pair other.pair p)) in let a = t in let b = c in cc)
leaves_held config h e leg v good fits (leased o q i) (opened p other r j s is) =
    let offers : act.Offered o ≡ act.Offered p = sym q ∙ r in
    let one : p ≡ o = cc in
    let legs_one : leg ≡ other = once_equal (λ (a : Holder). a.pair) o.legs (new_legs_once config h e o fits q) i
    (subst (λ (x : act.Offer). In other x.legs) one j) (same_box config leg.pair other.pair s) in
    subst (λ x. Leaves leg (Some x)) (sym is) (sym legs_one)
leaves_held config h e leg v good fits (leased o q i) (closed other j c p is) =
    absurd (free_not_held config h leg.pair other (new_leg_free config h e o leg fits q i) j (sym (same_box config leg.pair other.pair p)))

-- a later entry of the board than the lease, or the lease itself
keeps_held : (config : Config) (l : List Entry) → Orderly config l → (n : ℕ) (leg : Holder) (s : HeldSince l n leg)
    → (b : Entry) (x : BoardEntry) → In b l → b.place ≡ 0 → board_entry b ≡ Some x → b.number < n
    → (s.lease.board.number < b.number) ⊎ (s.lease.board.number ≡ b.number) → Keeps (board_history l b.number) x leg
keeps_held config l o n leg s b x i p h k (inl later) =
    still (still_held l o.numbered b.number leg (held_until l n b.number leg s later (let q = k in omega (arith, q))))
    (s.unclosed b x i p later k h)
keeps_held config l o n leg s b x i p h k (inr m) =
    let one = same_entry l o.numbered b s.lease.board x s.lease.entry i s.lease.is_in p s.lease.at_board (sym m) h s.lease.is in
    leased s.lease.offer (ap act.act one ∙ s.lease.acts) s.lease.has_leg

-- what comes to the box after its opening leaves it the leg's
stays_open : (config : Config) (l : List Entry) → Orderly config l → (n : ℕ) (leg : Holder) (s : HeldSince l n leg)
    → (m : IsMade l s.lease.board (open_owed config leg)) → (g : Entry) → In g l → g.place ≡ box_of config leg.pair
    → m.entry.number < g.number → is_nested g.event ≡ true → g.board < n → (v : Option BoxEvent) → box_event g ≡ v → Leaves leg v
stays_open config l o n leg s m g i p later nested before None is = tt
stays_open config l o n leg s m g i p later nested before (Some v) is =
    let b = nested_in config l o g i nested in
    let at = ap (λ (u : Owed). u.place) m.is in
    let k = not_after config l o m.entry g m.is_in i m.nested nested (at ∙ sym p) later in
    let order = lt_or_eq s.lease.board.number b.board.number (let q = m.board_is in let r = b.number_is in omega (arith, k, q, r)) in
    leaves_held config (board_history l b.board.number) b.entry leg v (good_history config l o b.board.number) b.fits
    (keeps_held config l o n leg s b.board b.entry b.is_in b.at_board b.is (let q = b.number_is in omega (arith, q, before)) order)
    (subst (λ t. OwedBox config (board_history l b.board.number) b.entry t v) p (box_owed config l o g v b is))

pub is_opened : (config : Config) (l : List Entry) → Orderly config l → (n : ℕ) (leg : Holder) → HeldSince l n leg
    → Opened l (box_of config leg.pair) (passes_below n) (front l (box_of config leg.pair)) leg
is_opened config l o n leg s =
    let m = is_made config l o s.lease.board s.lease.entry s.lease.is_in s.lease.is (open_owed config leg)
    (has_opening config (board_history l s.lease.board.number) s.lease.entry s.lease.offer leg s.lease.acts s.lease.has_leg) in
    let at = ap (λ (u : Owed). u.place) m.is in
    record {
      entry = m.entry;
      is_in = m.is_in;
      at = at;
      below = below_front l m.entry (box_of config leg.pair) m.is_in at;
      passes = and_true (is_nested m.entry.event) (nat_lt m.entry.board n) m.nested
          (is_less m.entry.board n (let q = m.board_is in let k = s.below in omega (arith, q, k)));
      opens = ap (λ (u : Owed). box_in u.event) m.is;
      stays = λ g i p later before t. (let c = both (is_nested g.event) (nat_lt g.board n) t in
          stays_open config l o n leg s m g i p later c.0 (less g.board n c.1) (box_event g) refl);
    }

-- the box of a pair is open for the leg that holds it
pub box_is_held : (config : Config) (l : List Entry) → Orderly config l → (n : ℕ) (leg : Holder) → In leg (held (board_history l n))
    → holder (box_before l (box_of config leg.pair) n) ≡ Some leg
box_is_held config l o n leg i =
    opened_holder l o.numbered (box_of config leg.pair) (passes_below n) (front l (box_of config leg.pair)) leg
    (is_opened config l o n leg (held_since l o.numbered n leg i))

-- The leg of a box that is open.

-- the offer that leased the leg for which a box was opened
pub opened_lease : (config : Config) (l : List Entry) → Orderly config l → (e : Entry) (leg : Holder) → In e l → is_nested e.event ≡ true
    → box_event e ≡ Some (Open leg) → (s : Leasing l leg) × (s.board.number ≡ e.board) × (e.place ≡ box_of config leg.pair)
opened_lease config l o e leg i nested is =
    let b = nested_in config l o e i nested in leased_by b (box_owed config l o e (Open leg) b is)
  where
    leased_by : (b : IsNestedIn config l e) → OwedBox config (board_history l b.board.number) b.entry e.place (Open leg)
        → (s : Leasing l leg) × (s.board.number ≡ e.board) × (e.place ≡ box_of config leg.pair)
    leased_by b (opened p other q j at v) =
        let one : leg ≡ other = (let k = v in cc) in (
          record {
            board = b.board;
            is_in = b.is_in;
            at_board = b.at_board;
            entry = b.entry;
            is = b.is;
            offer = p;
            acts = q;
            has_leg = subst (λ x. In x p.legs) (sym one) j;
          },
          b.number_is,
          at ∙ ap (λ (x : Holder). box_of config x.pair) (sym one),
        )
    leased_by b (closed other j c at v) = absurd (let k = v in cc)

close_refuted : (config : Config) (l : List Entry) → Orderly config l → (pair n : ℕ) (leg : Holder)
    → (s : Opened l (box_of config pair) (passes_below n) (front l (box_of config pair)) leg) → s.entry.place ≡ box_of config leg.pair
    → (g : Entry) → In g l → is_nested g.event ≡ true → owed_by g ≡ closing config leg → s.entry.board < g.board → g.board < n
    → (s.entry.number < g.number) ⊎ ((s.entry.number ≡ g.number) ⊎ (g.number < s.entry.number)) → ⊥
close_refuted config l o pair n leg s at g i nested is later before (inl k) =
    let place : g.place ≡ box_of config pair = ap (λ (u : Owed). u.place) is ∙ sym at ∙ s.at in
    let leaves : Leaves leg (box_event g) = s.stays g i place k (below_front l g (box_of config pair) i place)
    (and_true (is_nested g.event) (nat_lt g.board n) nested (is_less g.board n before)) in
    subst (Leaves leg) (ap (λ (u : Owed). box_in u.event) is) leaves
close_refuted config l o pair n leg s at g i nested is later before (inr (inl k)) =
    let one = same_at l o.numbered s.entry g s.is_in i (at ∙ sym (ap (λ (u : Owed). u.place) is)) k in
    absurd (let q = ap (λ (e : Entry). e.board) one in omega (arith, q, later))
close_refuted config l o pair n leg s at g i nested is later before (inr (inr k)) =
    let q = not_after config l o g s.entry i s.is_in nested (both (is_nested s.entry.event) (nat_lt s.entry.board n) s.passes).0
    (ap (λ (u : Owed). u.place) is ∙ sym at) k in
    omega (arith, q, later)

first_close_refuted : (config : Config) (l : List Entry) → Orderly config l → (pair n : ℕ) (leg : Holder)
    → (s : Opened l (box_of config pair) (passes_below n) (front l (box_of config pair)) leg) → s.entry.place ≡ box_of config leg.pair
    → (lease : Leasing l leg) → lease.board.number ≡ s.entry.board → FirstClose l lease.board.number n leg → ⊥
first_close_refuted config l o pair n leg s at lease of_board c =
    let h = board_history l c.board.number in
    let fits : FitsBoard config h c.entry = (o.board_fits c.board c.entry c.is_in c.is).1 in
    let x = closes_held h c.entry leg (still_held l o.numbered c.board.number leg c.was_held) c.closes in
    let m = is_made config l o c.board c.entry c.is_in c.is (closing config leg) (has_closing config h c.entry leg x.of fits x.is_in x.closes) in
    close_refuted config l o pair n leg s at m.entry m.is_in m.nested m.is
    (let q = of_board in let r = m.board_is in let k = c.later in omega (arith, q, r, k))
    (let r = m.board_is in let k = c.below in omega (arith, r, k))
    (less_or s.entry.number m.entry.number)

-- the leg for which the box of a pair is open holds that pair
pub held_is_box : (config : Config) (l : List Entry) → Orderly config l → (n pair : ℕ) (leg : Holder)
    → holder (box_before l (box_of config pair) n) ≡ Some leg → (leg.pair ≡ pair) × In leg (held (board_history l n))
held_is_box config l o n pair leg h =
    let s = holder_opened l o.numbered (box_of config pair) (passes_below n) (front l (box_of config pair)) leg h in
    let c = both (is_nested s.entry.event) (nat_lt s.entry.board n) s.passes in
    let x = opened_lease config l o s.entry leg s.is_in c.0 s.opens in
    let before : x.0.board.number < n = (let q = x.1 in let k = less s.entry.board n c.1 in omega (arith, q, k)) in (
      same_box config leg.pair pair (sym x.2 ∙ s.at),
      held_by s x.0 x.1 x.2 before (held_or_closed l o.numbered leg x.0 n before),
    )
  where
    held_by : (s : Opened l (box_of config pair) (passes_below n) (front l (box_of config pair)) leg) → (lease : Leasing l leg)
        → lease.board.number ≡ s.entry.board → s.entry.place ≡ box_of config leg.pair → lease.board.number < n
        → HeldOrClosed l leg lease n → In leg (held (board_history l n))
    held_by s lease of_board at before (inl unclosed) =
        still_held l o.numbered n leg (record { lease = lease; below = before; unclosed = unclosed })
    held_by s lease of_board at before (inr c) = absurd (first_close_refuted config l o pair n leg s at lease of_board c)

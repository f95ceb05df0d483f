-- Pair and generation name one leg, so the leg that relays a packet is the one that held the port when it was taken.
use Rattle.std.proofs.Common.{◌≡◌, ◌∙◌, sym, ap, subst, refl, ℕ, List, [], ◌∷◌, true, Option, Some, None, filter}
use Rattle.std.specs.List.{filter_map}
use Rattle.relay_outside.specs.declared.address.Addr.{Addr}
use Rattle.relay_outside.specs.declared.settings.Config.{Config}
use Rattle.histories.specs.Words.{In, here, there, Before, begins, goes_on}
use Rattle.histories.proofs.Lists.{in_right}
use Rattle.port_pool.specs.declared.holder.Holder.{Holder}
use Rattle.port_pool.specs.Signals.{same_leg}
use Rattle.port_pool.specs.Boxes.{BoxEvent, Open, Take, Close, Datagram, holder, FitsTaken}
use Rattle.call_cell.specs.Cells.{Prepare, Receipt, legs, since_end, call_prepared}
use Rattle.call_board.proofs.Leases.{leg_once}
use Rattle.relay_core.specs.Entries.{Event, Board, Cell, Box, Entry, is_nested, front, board_history, history, cell_history, cell_before, box_in, box_event, box_history, box_of}
use Rattle.relay_core.specs.Legal.{Orderly, Legal, FitsEvent, IsReceived}
use Rattle.relay_core.proofs.Histories.{good_history}
use Rattle.relay_core.proofs.Boards.{later_entry}
use Rattle.relay_core.proofs.Commits.{event_of}
use Rattle.relay_core.proofs.Relays.{prepared}
use Rattle.relay_core.proofs.Leases.{Leasing}
use Rattle.call_cell.proofs.Legs.{leg_added, adds_prepares, same_leg_is}
use Rattle.relay_core.proofs.Boxes.{below_front, holder_opened}
use Rattle.relay_core.proofs.Holders.{opened_lease}

-- Two leases of one pair and generation.

-- pair and generation name one leg
pub lease_once : (config : Config) (l : List Entry) → Orderly config l → (a b : Holder) → Leasing l a → Leasing l b
    → a.pair ≡ b.pair → a.generation ≡ b.generation → a ≡ b
lease_once config l o a b s t p g =
    (leg_once config (board_history l (front l 0)) (board_history l s.board.number) (board_history l t.board.number)
    s.entry t.entry s.offer t.offer a b (good_history config l o (front l 0))
    (later_entry config l o s.board s.entry s.is_in s.is (front l 0) (below_front l s.board 0 s.is_in s.at_board))
    (later_entry config l o t.board t.entry t.is_in t.is (front l 0) (below_front l t.board 0 t.is_in t.at_board))
    s.acts t.acts s.has_leg t.has_leg p g).2

-- The leg of a cell.

-- a leg of a cell was leased
pub leg_leased : (config : Config) (l : List Entry) → Orderly config l → (place n : ℕ) (leg : Holder)
    → In leg (legs (since_end (cell_history l place n))) → Leasing l leg
leg_leased config l o place n leg i =
    let h = since_end (cell_history l place n) in
    let a = leg_added h leg i in
    let there : In a.entry h = subst (λ t. In a.entry t) (sym a.splits) (in_right a.newer (a.entry ∷ a.older) (here refl)) in
    let m = adds_prepares a.entry a.adds in
    let p = prepared config l o place n a.entry m.0.call there (ap call_prepared m.0.is_it) in
    let events : Cell (Prepare m.0.call m.0.legs m.0.keys m.0.dropped) ≡ Cell (Prepare m.0.call p.legs p.keys p.dropped) =
    sym (ap Cell m.0.is_it) ∙ sym (event_of p.since.entry a.entry p.since.is) ∙ p.event in
    let legs_are : m.0.legs ≡ p.legs = cc in
    let b = p.of.nested in
    record {
      board = b.board;
      is_in = b.is_in;
      at_board = b.at_board;
      entry = b.entry;
      is = b.is;
      offer = p.of.offer;
      acts = p.of.acts;
      has_leg = subst (λ ls. In leg ls) (legs_are ∙ p.of.legs_are) m.1;
    }

-- The holder at a take.

pub open_nested : (v : Event) (leg : Holder) → box_in v ≡ Some (Open leg) → is_nested v ≡ true
open_nested (Box (Open other)) leg h = refl
open_nested (Box (Take half taken)) leg h = absurd (let k = h in cc)
open_nested (Box Close) leg h = refl
open_nested (Board b) leg h = absurd (let k = h in cc)
open_nested (Cell c) leg h = absurd (let k = h in cc)

pub filter_all : (es : List Entry) → filter (λ (e : Entry). true) es ≡ es
filter_all [] = refl
filter_all (e ∷ es) = ap (λ xs. e ∷ xs) (filter_all es)

-- the holder of a box was leased
pub holder_leased : (config : Config) (l : List Entry) → Orderly config l → (place n : ℕ) (leg : Holder)
    → holder (box_history l place n) ≡ Some leg → (s : Leasing l leg) × (place ≡ box_of config leg.pair)
holder_leased config l o place n leg h =
    let s = holder_opened l o.numbered place (λ (e : Entry). true) n leg
    (subst (λ es. holder (filter_map box_event es) ≡ Some leg) (sym (filter_all (history l place n))) h) in
    let x = opened_lease config l o s.entry leg s.is_in (open_nested s.entry.event leg s.opens) s.opens in
    (x.0, sym s.at ∙ x.2)

fits_held : (h : List BoxEvent) (leg : Holder) (source : Addr) (bytes : List ℕ) → (v : Option Holder) → holder h ≡ v
    → FitsTaken v (Datagram leg source bytes) → holder h ≡ Some leg
fits_held h leg source bytes None q k = absurd (let z = k in cc)
fits_held h leg source bytes (Some other) q k = q ∙ ap Some (sym k.0)

before_in : {x y : Entry} (l : List Entry) → Before x y l → In x l
before_in [] b = elim b [ ]
before_in (z ∷ zs) (begins q i) = here q
before_in (z ∷ zs) (goes_on b) = there (before_in zs b)

-- the take that a relay names is an entry of the list
pub taking_in : (config : Config) (l : List Entry) (e : Entry) (p : Receipt) → (r : IsReceived config l e p) → In r.taking l
taking_in config l e p r = before_in l r.is_there

-- the box's holder at that take is the packet's
pub held_at_take : (config : Config) (l : List Entry) → Legal config l → (e : Entry) (p : Receipt) (r : IsReceived config l e p)
    → holder (box_history l r.taking.place r.taking.number) ≡ Some p.holder
held_at_take config l legal e p r =
    let fits : FitsEvent config l r.taking.place r.taking.number r.taking.moment (Box (Take p.half (Datagram p.holder p.source p.bytes))) =
    subst (FitsEvent config l r.taking.place r.taking.number r.taking.moment) r.gave (legal.fits r.taking (taking_in config l e p r)) in
    fits_held (box_history l r.taking.place r.taking.number) p.holder p.source p.bytes
    (holder (box_history l r.taking.place r.taking.number)) refl fits

-- the leg that relays a packet is the one that held the port when it was taken
pub holder_is_leg : (config : Config) (l : List Entry) → Legal config l → (e : Entry) (p : Receipt) → IsReceived config l e p
    → (leg : Holder) → In leg (legs (cell_before l e)) → same_leg p.holder leg ≡ true → leg ≡ p.holder
holder_is_leg config l legal e p r leg i same =
    let s = holder_leased config l legal.orderly r.taking.place r.taking.number p.holder (held_at_take config l legal e p r) in
    let x = same_leg_is p.holder leg same in
    sym (lease_once config l legal.orderly p.holder leg s.0 (leg_leased config l legal.orderly e.place e.number leg i) x.1 x.2)

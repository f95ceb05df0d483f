-- What is recorded of a list: it has the list's places, numbers and nested entries, and of each relay its packet.
use Rattle.std.proofs.Common.{◌≡◌, ◌∙◌, sym, refl, ap, subst, ℕ, ◌+◌, true, List, [], ◌∷◌, map, filter}
use Rattle.std.specs.Prelude.{◌==◌}
use Rattle.relay_outside.specs.declared.settings.Config.{Config}
use Rattle.histories.specs.Words.{greatest}
use Rattle.histories.proofs.Lists.{mapped}
use Rattle.call_cell.specs.Cells.{CellEvent, Prepare, Commit, Relay, Expire, Read, End, Relayed, Receipt}
use Rattle.relay_core.specs.Entries.{Event, Board, Cell, Box, Entry, is_nested, board_at, box_in, front}
use Rattle.relay_core.specs.Legal.{IsReceived, Legal, StandsAt}
use Rattle.relay_core.specs.Records.{as_logged, logged_event, logged_cell}
use Rattle.relay_core.specs.Turns.{IsReceiving}
use Rattle.relay_core.proofs.Refilling.{Keeps, filter_mapped, before_mapped}

same_board : (moment : ℕ) (event : Event) → board_at moment (logged_event event) ≡ board_at moment event
same_board moment (Board b) = refl
same_board moment (Cell c) = refl
same_board moment (Box b) = refl

same_box : (event : Event) → box_in (logged_event event) ≡ box_in event
same_box (Board b) = refl
same_box (Cell c) = refl
same_box (Box b) = refl

-- every property of events that doesn't look into relays is that of what is recorded
pub logged_by : {A : Type 0} (f : Event → A) → ((x y : Relayed) → f (Cell (Relay x)) ≡ f (Cell (Relay y))) → (event : Event) → f (logged_event event) ≡ f event
logged_by f blind (Board b) = refl
logged_by f blind (Cell (Prepare call legs keys dropped)) = refl
logged_by f blind (Cell (Commit signal)) = refl
logged_by f blind (Cell (Relay x)) = blind _ x
logged_by f blind (Cell (Expire due)) = refl
logged_by f blind (Cell (Read reports)) = refl
logged_by f blind (Cell End) = refl
logged_by f blind (Box b) = refl

-- of a nested step all is recorded
same_event : (event : Event) → is_nested event ≡ true → logged_event event ≡ event
same_event (Board b) nested = refl
same_event (Cell (Prepare call legs keys dropped)) nested = refl
same_event (Cell (Commit signal)) nested = refl
same_event (Cell (Relay x)) nested = absurd (let k = nested in cc)
same_event (Cell (Expire due)) nested = refl
same_event (Cell (Read reports)) nested = refl
same_event (Cell End) nested = refl
same_event (Box b) nested = refl

pub logged_keeps : Keeps as_logged
logged_keeps = record {
  place_is = λ e. refl;
  number_is = λ e. refl;
  moment_is = λ e. refl;
  board_is = λ e. refl;
  same_board = λ e. same_board e.moment e.event;
  same_box = λ e. same_box e.event;
  same_nested = λ e. logged_by is_nested (λ x y. refl) e.event;
  same_owed = λ e nested. ap (λ (v : Event). record { place = e.place; event = v }) (same_event e.event nested);
}

numbers_same : (l : List Entry) → map (λ (e : Entry). e.number + 1) (map as_logged l) ≡ map (λ (e : Entry). e.number + 1) l
numbers_same [] = refl
numbers_same (e ∷ l) = ap (λ (ns : List ℕ). (e.number + 1) ∷ ns) (numbers_same l)

pub logged_front : (l : List Entry) (place : ℕ) → front (map as_logged l) place ≡ front l place
logged_front l place =
    ap (λ (xs : List Entry). greatest (map (λ (e : Entry). e.number + 1) xs))
    (filter_mapped as_logged (λ (e : Entry). e.place == place) (λ (e : Entry). e.place == place) l (λ e. refl))
    ∙ ap greatest (numbers_same (filter (λ (e : Entry). e.place == place) l))

pub logged_stands : (config : Config) (place : ℕ) (event : Event) → StandsAt config place event → StandsAt config place (logged_event event)
logged_stands config place (Board b) at = at
logged_stands config place (Cell c) at = at
logged_stands config place (Box b) at = at

-- Relays and takes.

-- the relay of which this is recorded
pub record IsRelayOf (event : Event) (packet : Receipt) : Type 0 where
  pub was : Relayed
  pub is : event ≡ Cell (Relay was)
  pub same : was.packet ≡ packet

pub relay_logged : (event : Event) (x : Relayed) → logged_event event ≡ Cell (Relay x) → IsRelayOf event x.packet
relay_logged (Board b) x q = absurd (let k = q in cc)
relay_logged (Box b) x q = absurd (let k = q in cc)
relay_logged (Cell (Relay r)) x q =
    let made : Cell (logged_cell (Relay r)) ≡ Cell (Relay x) = q in
    let same : logged_cell (Relay r) ≡ Relay x = cc in
    record { was = r; is = refl; same = ap (λ (c : CellEvent). packet_of c r.packet) same }
  where
    packet_of : CellEvent → Receipt → Receipt
    packet_of (Relay y) p = y.packet
    packet_of _ p = p
relay_logged (Cell (Prepare call legs keys dropped)) x q = absurd (let k = q in cc)
relay_logged (Cell (Commit signal)) x q = absurd (let k = q in cc)
relay_logged (Cell (Expire due)) x q = absurd (let k = q in cc)
relay_logged (Cell (Read reports)) x q = absurd (let k = q in cc)
relay_logged (Cell End) x q = absurd (let k = q in cc)

received_logged : (config : Config) (l : List Entry) (e : Entry) (p : Receipt) → IsReceived config l e p → IsReceived config (map as_logged l) (as_logged e) p
received_logged config l e p r = record {
  taking = as_logged r.taking;
  is_there = before_mapped as_logged l r.is_there;
  at_box = r.at_box;
  with_number = r.with_number;
  gave = ap logged_event r.gave;
  in_its_cell = r.in_its_cell;
}

-- of a legal list each relay is recorded behind its take
pub receiving_logged : (config : Config) (l : List Entry) → Legal config l → IsReceiving config (map as_logged l)
receiving_logged config l legal = record {
  received = λ e x i q.
      let m = mapped as_logged l i in
      let r = relay_logged m.from.event x (ap (λ (y : Entry). y.event) m.makes ∙ q) in
      subst (λ (y : Entry). IsReceived config (map as_logged l) y x.packet) m.makes
      (subst (λ (p : Receipt). IsReceived config (map as_logged l) (as_logged m.from) p) r.same
      (received_logged config l m.from r.was.packet (legal.received m.from r.was m.is_in r.is)));
  once = λ e f x y i j q s pair take.
      let m = mapped as_logged l i in
      let n = mapped as_logged l j in
      let a = relay_logged m.from.event x (ap (λ (z : Entry). z.event) m.makes ∙ q) in
      let b = relay_logged n.from.event y (ap (λ (z : Entry). z.event) n.makes ∙ s) in
      sym m.makes
      ∙ ap as_logged (legal.once m.from n.from a.was b.was m.is_in n.is_in a.is b.is
      (ap (λ (p : Receipt). p.holder.pair) a.same ∙ pair ∙ ap (λ (p : Receipt). p.holder.pair) (sym b.same))
      (ap (λ (p : Receipt). p.take) a.same ∙ take ∙ ap (λ (p : Receipt). p.take) (sym b.same)))
      ∙ n.makes;
}

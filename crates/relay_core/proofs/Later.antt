-- What a list that goes on from another's has of each place: what that one left there, and then its own.
use Rattle.std.proofs.Common.{◌≡◌, ◌∙◌, sym, ap, subst, refl, ℕ, zero, suc, ◌+◌, ◌<◌, ◌≤◌, List, [], ◌++◌, Bool, true, false, map, filter, append-nil, ◌==◌, arith}
use Rattle.std.specs.Prelude.{◌&&◌}
use Rattle.std.proofs.lemmas.List.{map-append}
use mathlib.Core.List.{append_assoc}
use Rattle.relay_outside.specs.declared.settings.Config.{Config}
use Rattle.histories.specs.Words.{In}
use Rattle.histories.proofs.Lists.{in_left, in_right, mapped, maps, equal, equal_if}
use Rattle.call_cell.specs.Cells.{Prepare, Commit, Relay, Expire, Read, End, Relayed, Receipt}
use Rattle.relay_core.specs.Entries.{Event, Board, Cell, Box, Entry, is_at, history, board_at, box_in, front, box_of}
use Rattle.relay_core.specs.Legal.{IsReceived, Legal, StandsAt}
use Rattle.relay_core.specs.Records.{as_logged}
use Rattle.relay_core.specs.Steps.{with_take}
use Rattle.relay_core.specs.Turns.{IsReceiving, Numbered}
use Rattle.relay_core.specs.Continued.{later_relayed, later_event, later}
use Rattle.relay_core.proofs.Histories.{at_place}
use Rattle.relay_core.proofs.Boxes.{below_front}
use Rattle.relay_core.proofs.Refilling.{history_mapped, filter_mapped, before_mapped}
use Rattle.relay_core.proofs.Turns.{filter_append, filter_none, false_if}
use Rattle.relay_core.proofs.Counts.{Stands}
use Rattle.relay_core.proofs.Joins.{receiving_joined}
use Rattle.relay_core.proofs.Logged.{logged_keeps, receiving_logged}
use Rattle.relay_core.proofs.Numbers.{stands_below}

-- Counting on.

shifted_case : (n i f : ℕ) (t : Bool) → (n == i) ≡ t → (n + f == i + f) ≡ t
shifted_case n i f true q = equal (n + f) (i + f) (let k = equal_if n i q in omega (arith, k))
shifted_case n i f false q =
    false_if (n + f == i + f) (λ t. let k = equal_if (n + f) (i + f) t in let e = equal n i (omega (arith, k)) in let c : true ≡ false = sym e ∙ q in cc)

-- both numbers counted on are equal just where they are
pub shifted : (n i f : ℕ) → (n + f == i + f) ≡ (n == i)
shifted n i f = shifted_case n i f (n == i) refl

-- every property of events that doesn't look into relays is kept
pub later_by : {A : Type 0} (f : Event → A) → ((x y : Relayed) → f (Cell (Relay x)) ≡ f (Cell (Relay y))) → (config : Config) (before : List Entry) (event : Event)
    → f (later_event config before event) ≡ f event
later_by f blind config before (Board b) = refl
later_by f blind config before (Cell (Prepare call legs keys dropped)) = refl
later_by f blind config before (Cell (Commit signal)) = refl
later_by f blind config before (Cell (Relay x)) = blind _ x
later_by f blind config before (Cell (Expire due)) = refl
later_by f blind config before (Cell (Read reports)) = refl
later_by f blind config before (Cell End) = refl
later_by f blind config before (Box b) = refl

pub later_board : (config : Config) (before : List Entry) (moment : ℕ) (event : Event) → board_at moment (later_event config before event) ≡ board_at moment event
later_board config before moment (Board b) = refl
later_board config before moment (Cell c) = refl
later_board config before moment (Box b) = refl

pub later_box : (config : Config) (before : List Entry) (event : Event) → box_in (later_event config before event) ≡ box_in event
later_box config before (Board b) = refl
later_box config before (Cell c) = refl
later_box config before (Box b) = refl

pub later_stands : (config : Config) (before : List Entry) (place : ℕ) (event : Event) → StandsAt config place event → StandsAt config place (later_event config before event)
later_stands config before place (Board b) at = at
later_stands config before place (Cell c) at = at
later_stands config before place (Box b) at = at

-- an entry of the list stands at this place and number just where it stands counted on there
pub later_at : (config : Config) (before : List Entry) (k i : ℕ) (e : Entry) → is_at k (i + front before k) (later config before e) ≡ is_at k i e
later_at config before k i e = by_place (e.place == k) refl
  where
    by_place : (t : Bool) → (e.place == k) ≡ t → is_at k (i + front before k) (later config before e) ≡ is_at k i e
    by_place true q =
        ap (λ (m : ℕ). (e.place == k) && (e.number + front before m == i + front before k)) (equal_if e.place k q)
        ∙ ap (λ (b : Bool). (e.place == k) && b) (shifted e.number i (front before k))
    by_place false q =
        ap (λ (b : Bool). b && (e.number + front before e.place == i + front before k)) q
        ∙ sym (ap (λ (b : Bool). b && (e.number == i)) q)

-- The recorded lists, one behind the other.

abbrev pub joined : Config → List Entry → List Entry → List Entry
joined config before l = map as_logged before ++ map (later config before) l

-- what is recorded of a place in the earlier list
abbrev pub base : List Entry → ℕ → List Entry
base before k = map as_logged (history before k (front before k))

module _ (config : Config) (before l : List Entry) where
  -- entries of the earlier list have the lower numbers
  pub low_number : (e : Entry) → In e (map as_logged before) → e.number < front before e.place
  low_number e i =
      let m = mapped as_logged before i in
      subst (λ (x : Entry). x.number < front before x.place) m.makes (below_front before m.from m.from.place m.is_in refl)

  pub high_number : (e : Entry) → In e (map (later config before) l) → front before e.place ≤ e.number
  high_number e i =
      let m = mapped (later config before) l i in
      subst (λ (x : Entry). front before x.place ≤ x.number) m.makes (omega arith)

-- The list counted on, behind any that stays below what it is counted on from.
module _ (config : Config) (before early l : List Entry) (low : (e : Entry) → In e early → e.number < front before e.place) where
  none_late : (k n : ℕ) → front before k ≤ n → filter (is_at k n) early ≡ []
  none_late k n high =
      filter_none (is_at k n) early (λ e i. false_if (is_at k n e) (λ t.
      let a = at_place k n e t in
      let below = low e i in
      let place = ap (λ (p : ℕ). front before p) a.0 in
      let number = a.1 in
      omega (arith, below, place, number, high)))

  none_early : (k n : ℕ) → n < front before k → filter (is_at k n) (map (later config before) l) ≡ []
  none_early k n below =
      filter_none (is_at k n) (map (later config before) l) (λ e i. false_if (is_at k n e) (λ t.
      let a = at_place k n e t in
      let high = high_number config before l e i in
      let place = ap (λ (p : ℕ). front before p) a.0 in
      let number = a.1 in
      omega (arith, high, place, number, below)))

  -- up to the front the history of the list in front
  pub history_upto : (k n : ℕ) → n ≤ front before k → history (early ++ map (later config before) l) k n ≡ history early k n
  history_upto k zero within = refl
  history_upto k (suc n) within =
      ap (λ (xs : List Entry). xs ++ history (early ++ map (later config before) l) k n)
      (filter_append (is_at k n) early (map (later config before) l)
      ∙ ap (λ (xs : List Entry). filter (is_at k n) early ++ xs) (none_early k n (omega (arith, within)))
      ∙ append-nil (filter (is_at k n) early))
      ∙ ap (λ (xs : List Entry). filter (is_at k n) early ++ xs) (history_upto k n (omega (arith, within)))

  -- one number of the list counted on
  pub at_behind : (k i : ℕ) → filter (is_at k (i + front before k)) (early ++ map (later config before) l) ≡ map (later config before) (filter (is_at k i) l)
  at_behind k i =
      filter_append (is_at k (i + front before k)) early (map (later config before) l)
      ∙ ap (λ (xs : List Entry). xs ++ filter (is_at k (i + front before k)) (map (later config before) l)) (none_late k (i + front before k) (omega arith))
      ∙ filter_mapped (later config before) (is_at k i) (is_at k (i + front before k)) l (later_at config before k i)

  -- and then the list's own
  pub history_behind : (k n i : ℕ) → n ≡ i + front before k
      → history (early ++ map (later config before) l) k n ≡ map (later config before) (history l k i) ++ history early k (front before k)
  history_behind k n zero q =
      let same : n ≡ front before k = omega (arith, q) in
      ap (λ (m : ℕ). history (early ++ map (later config before) l) k m) same ∙ history_upto k (front before k) (omega arith)
  history_behind k zero (suc i) q = absurd (omega (arith, q))
  history_behind k (suc n) (suc i) q =
      let rest : n ≡ i + front before k = omega (arith, q) in
      ap (λ (xs : List Entry). xs ++ history (early ++ map (later config before) l) k n)
      (ap (λ (m : ℕ). filter (is_at k m) (early ++ map (later config before) l)) rest ∙ at_behind k i)
      ∙ ap (λ (xs : List Entry). map (later config before) (filter (is_at k i) l) ++ xs) (history_behind k n i rest)
      ∙ sym (append_assoc (map (later config before) (filter (is_at k i) l)) (map (later config before) (history l k i)) (history early k (front before k)))
      ∙ ap (λ (xs : List Entry). xs ++ history early k (front before k)) (sym (map-append (later config before) (filter (is_at k i) l) (history l k i)))

module _ (config : Config) (before l : List Entry) where
  -- up to the front the earlier list's history
  pub history_early : (k n : ℕ) → n ≤ front before k → history (joined config before l) k n ≡ map as_logged (history before k n)
  history_early k n within =
      history_upto config before (map as_logged before) l (low_number config before l) k n within ∙ history_mapped as_logged logged_keeps before k n

  -- and then the list's own
  pub history_late : (k n i : ℕ) → n ≡ i + front before k → history (joined config before l) k n ≡ map (later config before) (history l k i) ++ base before k
  history_late k n i q =
      history_behind config before (map as_logged before) l (low_number config before l) k n i q
      ∙ ap (λ (xs : List Entry). map (later config before) (history l k i) ++ xs) (history_mapped as_logged logged_keeps before k (front before k))

  -- Which numbers stand.

  pub stands_early : Legal config before → (k i : ℕ) → i < front before k → Stands (joined config before l) k i
  stands_early legal k i low =
      let s = stands_below before legal.numbered legal.counted k i low in
      record { entry = as_logged s.entry; is_in = in_left (map as_logged before) (map (later config before) l) (maps as_logged before s.is_in); at = s.at; number_is = s.number_is }

  pub stands_late : (k i : ℕ) → Stands l k i → Stands (joined config before l) k (i + front before k)
  stands_late k i s = record {
    entry = later config before s.entry;
    is_in = in_right (map as_logged before) (map (later config before) l) (maps (later config before) l s.is_in);
    at = s.at;
    number_is = (let a = s.number_is in let b = ap (λ (p : ℕ). front before p) s.at in omega (arith, a, b));
  }

  -- Relays and their takes.

  relay_later : (event : Event) (x : Relayed) → later_event config before event ≡ Cell (Relay x)
      → (w : Relayed) × (event ≡ Cell (Relay w)) × (x.packet ≡ with_take (w.packet.take + front before (box_of config w.packet.holder.pair)) w.packet)
  relay_later (Board b) x q = absurd (let k = q in cc)
  relay_later (Box b) x q = absurd (let k = q in cc)
  relay_later (Cell (Relay r)) x q =
      let made : Cell (Relay (later_relayed config before r)) ≡ Cell (Relay x) = q in
      let same : later_relayed config before r ≡ x = cc in
      (r, refl, sym (ap (λ (y : Relayed). y.packet) same))
  relay_later (Cell (Prepare call legs keys dropped)) x q = absurd (let k = q in cc)
  relay_later (Cell (Commit signal)) x q = absurd (let k = q in cc)
  relay_later (Cell (Expire due)) x q = absurd (let k = q in cc)
  relay_later (Cell (Read reports)) x q = absurd (let k = q in cc)
  relay_later (Cell End) x q = absurd (let k = q in cc)

  received_later : (e : Entry) (p : Receipt) → IsReceived config l e p
      → IsReceived config (map (later config before) l) (later config before e) (with_take (p.take + front before (box_of config p.holder.pair)) p)
  received_later e p r = record {
    taking = later config before r.taking;
    is_there = before_mapped (later config before) l r.is_there;
    at_box = r.at_box;
    with_number = (let a = r.with_number in let b = ap (λ (k : ℕ). front before k) r.at_box in omega (arith, a, b));
    gave = ap (later_event config before) r.gave;
    in_its_cell = r.in_its_cell;
  }

  -- relays of the list's own takes are relays of takes counted on
  pub receiving_later : IsReceiving config l → IsReceiving config (map (later config before) l)
  receiving_later receiving = record {
    received = λ e x i q.
        let m = mapped (later config before) l i in
        let w = relay_later m.from.event x (ap (λ (y : Entry). y.event) m.makes ∙ q) in
        subst (λ (y : Entry). IsReceived config (map (later config before) l) y x.packet) m.makes
        (subst (λ (p : Receipt). IsReceived config (map (later config before) l) (later config before m.from) p) (sym w.2)
        (received_later m.from w.0.packet (receiving.received m.from w.0 m.is_in w.1)));
    once = λ e f x y i j q s pair take.
        let m = mapped (later config before) l i in
        let n = mapped (later config before) l j in
        let a = relay_later m.from.event x (ap (λ (z : Entry). z.event) m.makes ∙ q) in
        let b = relay_later n.from.event y (ap (λ (z : Entry). z.event) n.makes ∙ s) in
        let same_pair : a.0.packet.holder.pair ≡ b.0.packet.holder.pair
        = sym (ap (λ (p : Receipt). p.holder.pair) a.2) ∙ pair ∙ ap (λ (p : Receipt). p.holder.pair) b.2 in
        let one : x.packet.take ≡ a.0.packet.take + front before (box_of config a.0.packet.holder.pair) = ap (λ (p : Receipt). p.take) a.2 in
        let other : y.packet.take ≡ b.0.packet.take + front before (box_of config b.0.packet.holder.pair) = ap (λ (p : Receipt). p.take) b.2 in
        let fronts : front before (box_of config a.0.packet.holder.pair) ≡ front before (box_of config b.0.packet.holder.pair)
        = ap (λ (p : ℕ). front before (box_of config p)) same_pair in
        let same_take : a.0.packet.take ≡ b.0.packet.take = omega (arith, one, other, fronts, take) in
        sym m.makes ∙ ap (later config before) (receiving.once m.from n.from a.0 b.0 m.is_in n.is_in a.1 b.1 same_pair same_take) ∙ n.makes;
  }

  -- so the joined list has each relay behind its take, none twice
  pub receiving_both : Legal config before → Numbered (joined config before l) → IsReceiving config l → IsReceiving config (joined config before l)
  receiving_both legal numbered receiving =
      receiving_joined config (map as_logged before) (map (later config before) l) numbered (receiving_logged config before legal) (receiving_later receiving)

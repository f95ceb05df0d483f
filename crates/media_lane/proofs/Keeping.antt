-- What a take and a relay keep of the list of a hand.
use Rattle.std.proofs.Common.{◌≡◌, refl, sym, ◌∙◌, ap, subst, ℕ, ◌<◌, ◌≤◌, ◌⊎◌, inl, inr, List, [], ◌∷◌, ◌++◌, arith}
use Rattle.relay_outside.specs.declared.settings.Config.{Config}
use Rattle.rtp_packet.specs.declared.head.Half.{Half}
use Rattle.histories.specs.Words.{In, here, there, Before, begins, goes_on}
use Rattle.histories.proofs.Lists.{in_append, in_left, in_right}
use Rattle.port_pool.specs.Boxes.{Taken, Take, Datagram}
use Rattle.call_cell.specs.Cells.{Receipt, Relay, Relayed}
use Rattle.relay_core.specs.Entries.{Event, Cell, Box, Entry, box_of}
use Rattle.relay_core.specs.Joins.{TakesOwnPairs}
use Rattle.relay_core.specs.Legal.{IsReceived}
use Rattle.relay_core.specs.Turns.{IsAbove, IsOfLane, IsReceiving}
use Rattle.relay_core.proofs.Turns.{before_left, numbered_append, numbered_single, lane_keeps}
use Rattle.media_lane.specs.Receipts.{IsUnspent, IsReceiptOf, KeepsList}

-- Lists.

before_end : {A : Type 0} {x y : A} (xs : List A) → In x xs → Before x y (xs ++ y ∷ [])
before_end [] i = elim i [ ]
before_end (z ∷ xs) (here q) = begins q (in_right xs (_ ∷ []) (here refl))
before_end (z ∷ xs) (there i) = goes_on (before_end xs i)

-- what stands before something isn't the last
before_last : {A : Type 0} {x y : A} (z : A) (xs : List A) → Before x y (xs ++ z ∷ []) → In x xs
before_last z [] (begins q i) = elim i [ ]
before_last z [] (goes_on b) = elim b [ ]
before_last z (w ∷ xs) (begins q i) = here q
before_last z (w ∷ xs) (goes_on b) = there (before_last z xs b)

own_pairs_before : (config : Config) (l : List Entry) (e : Entry) → TakesOwnPairs config (l ++ e ∷ []) → TakesOwnPairs config l
own_pairs_before config l e own f half holder source bytes i q = own f half holder source bytes (in_left l (e ∷ []) i) q

received_in_longer : (config : Config) (l : List Entry) (e f : Entry) (p : Receipt) → IsReceived config l f p → IsReceived config (l ++ e ∷ []) f p
received_in_longer config l e f p r = record {
  taking = r.taking;
  is_there = before_left l (e ∷ []) r.is_there;
  at_box = r.at_box;
  with_number = r.with_number;
  gave = r.gave;
  in_its_cell = r.in_its_cell;
}

-- Takes.

old_relay : (l : List Entry) (e f : Entry) (half : Half) (taken : Taken) (x : Relayed) → e.event ≡ Box (Take half taken) → f.event ≡ Cell (Relay x)
    → In f l ⊎ In f (e ∷ []) → In f l
old_relay l e f half taken x is relays (inl i) = i
old_relay l e f half taken x is relays (inr (here q)) = absurd (let z = ap (λ (y : Entry). y.event) q in cc)
old_relay l e f half taken x is relays (inr (there i)) = elim i [ ]

take_receiving : (config : Config) (l : List Entry) (e : Entry) (half : Half) (taken : Taken) → e.event ≡ Box (Take half taken)
    → IsReceiving config l → IsReceiving config (l ++ e ∷ [])
take_receiving config l e half taken is r = record {
  received = λ f x i q. received_in_longer config l e f x.packet (r.received f x (old_relay l e f half taken x is q (in_append l (e ∷ []) i)) q);
  once = λ f h x y i j q s. r.once f h x y
      (old_relay l e f half taken x is q (in_append l (e ∷ []) i)) (old_relay l e h half taken y is s (in_append l (e ∷ []) j)) q s;
}

keeps_with : (config : Config) (l : List Entry) (e : Entry) → IsOfLane e.event → IsAbove l e.place e.number
    → (TakesOwnPairs config (l ++ e ∷ []) → IsReceiving config l → IsReceiving config (l ++ e ∷ [])) → KeepsList config l (l ++ e ∷ [])
keeps_with config l e lane above receiving = record {
  numbered = λ n. numbered_append l (e ∷ []) n (numbered_single e) all_above;
  orderly = λ o. lane_keeps config l e o lane above;
  receiving = receiving;
}
  where
    all_above : (f : Entry) → In f (e ∷ []) → IsAbove l f.place f.number
    all_above f (here q) = subst (λ (x : Entry). IsAbove l x.place x.number) (sym q) above
    all_above f (there i) = elim i [ ]

-- a take above all that its place has
pub take_keeps : (config : Config) (l : List Entry) (e : Entry) (half : Half) (taken : Taken) → e.event ≡ Box (Take half taken)
    → IsAbove l e.place e.number → KeepsList config l (l ++ e ∷ [])
take_keeps config l e half taken is above =
    keeps_with config l e (subst (λ (x : Event). IsOfLane x) (sym is) tt) above (λ own r. take_receiving config l e half taken is r)

-- what it gave isn't relayed yet
take_unspent : (config : Config) (l : List Entry) (e : Entry) (p : Receipt) → e.event ≡ Box (Take p.half (Datagram p.holder p.source p.bytes))
    → e.number ≡ p.take → IsAbove l e.place e.number → TakesOwnPairs config (l ++ e ∷ []) → IsReceiving config (l ++ e ∷ []) → IsUnspent (l ++ e ∷ []) p
take_unspent config l e p is number above own r f x i q pair take =
    let named = r.received f x i q in
    let there_is : In named.taking l = before_last e l named.is_there in
    let own_place : e.place ≡ box_of config p.holder.pair
    = own e p.half p.holder p.source p.bytes (in_right l (e ∷ []) (here refl)) is in
    let same_place : named.taking.place ≡ e.place
    = named.at_box ∙ ap (λ (n : ℕ). box_of config n) pair ∙ sym own_place in
    let below : named.taking.number < e.number = above named.taking there_is same_place in
    let same = named.with_number in
    omega (arith, below, same, number, take)

pub take_receipt : (config : Config) (l : List Entry) (e : Entry) (pair : ℕ) (p : Receipt) → e.event ≡ Box (Take p.half (Datagram p.holder p.source p.bytes))
    → e.place ≡ box_of config pair → e.number ≡ p.take → IsAbove l e.place e.number → (1 ≤ p.holder.cell) × (p.holder.cell ≤ config.max_sessions)
    → IsReceiptOf config (l ++ e ∷ []) pair p
take_receipt config l e pair p is place number above cell = record {
  taking = e;
  is_there = in_right l (e ∷ []) (here refl);
  at_box = place;
  with_number = number;
  gave = is;
  for_cell = cell;
  unspent = λ own r. take_unspent config l e p is number above own r;
}

-- Relays.

relay_received : (config : Config) (l : List Entry) (e : Entry) (pair : ℕ) (p : Receipt) → IsReceiptOf config l pair p → TakesOwnPairs config (l ++ e ∷ [])
    → e.place ≡ p.holder.cell → IsReceived config (l ++ e ∷ []) e p
relay_received config l e pair p r own place = record {
  taking = r.taking;
  is_there = before_end l r.is_there;
  at_box = own r.taking p.half p.holder p.source p.bytes (in_left l (e ∷ []) r.is_there) r.gave;
  with_number = r.with_number;
  gave = r.gave;
  in_its_cell = place;
}

module _ (config : Config) (l : List Entry) (e : Entry) (pair : ℕ) (p : Receipt) (y : Relayed) (rec : IsReceiptOf config l pair p) (is : e.event ≡ Cell (Relay y))
    (of : y.packet ≡ p) (place : e.place ≡ p.holder.cell) (own : TakesOwnPairs config (l ++ e ∷ [])) (r : IsReceiving config l) where
  same_relay : (f : Entry) (x : Relayed) → f ≡ e → f.event ≡ Cell (Relay x) → x.packet ≡ p
  same_relay f x q s =
      let z : Cell (Relay x) ≡ Cell (Relay y) = sym s ∙ ap (λ (w : Entry). w.event) q ∙ is in
      let one : x ≡ y = cc in
      ap (λ (w : Relayed). w.packet) one ∙ of

  each_received : (f : Entry) (x : Relayed) → f.event ≡ Cell (Relay x) → In f l ⊎ In f (e ∷ []) → IsReceived config (l ++ e ∷ []) f x.packet
  each_received f x s (inl i) = received_in_longer config l e f x.packet (r.received f x i s)
  each_received f x s (inr (here q)) =
      subst (λ (w : Receipt). IsReceived config (l ++ e ∷ []) f w) (sym (same_relay f x q s))
      (subst (λ (w : Entry). IsReceived config (l ++ e ∷ []) w p) (sym q) (relay_received config l e pair p rec own place))
  each_received f x s (inr (there i)) = elim i [ ]

  -- no earlier relay names the packet's take
  unnamed : (f h : Entry) (x z : Relayed) → f.event ≡ Cell (Relay x) → h.event ≡ Cell (Relay z) → x.packet.holder.pair ≡ z.packet.holder.pair
      → x.packet.take ≡ z.packet.take → In f l → h ≡ e → ⊥
  unnamed f h x z s t pairs takes i q =
      let m = same_relay h z q t in
      rec.unspent (own_pairs_before config l e own) r f x i s
      (pairs ∙ ap (λ (w : Receipt). w.holder.pair) m) (takes ∙ ap (λ (w : Receipt). w.take) m)

  each_once : (f h : Entry) (x z : Relayed) → f.event ≡ Cell (Relay x) → h.event ≡ Cell (Relay z) → x.packet.holder.pair ≡ z.packet.holder.pair
      → x.packet.take ≡ z.packet.take → In f l ⊎ In f (e ∷ []) → In h l ⊎ In h (e ∷ []) → f ≡ h
  each_once f h x z s t pairs takes (inl i) (inl j) = r.once f h x z i j s t pairs takes
  each_once f h x z s t pairs takes (inl i) (inr (here q)) = absurd (unnamed f h x z s t pairs takes i q)
  each_once f h x z s t pairs takes (inr (here q)) (inl j) = absurd (unnamed h f z x t s (sym pairs) (sym takes) j q)
  each_once f h x z s t pairs takes (inr (here q)) (inr (here o)) = q ∙ sym o
  each_once f h x z s t pairs takes (inr (there i)) j = elim i [ ]
  each_once f h x z s t pairs takes (inl i) (inr (there j)) = elim j [ ]
  each_once f h x z s t pairs takes (inr (here q)) (inr (there j)) = elim j [ ]

  relay_receiving : IsReceiving config (l ++ e ∷ [])
  relay_receiving = record {
    received = λ f x i s. each_received f x s (in_append l (e ∷ []) i);
    once = λ f h x z i j s t pairs takes. each_once f h x z s t pairs takes (in_append l (e ∷ []) i) (in_append l (e ∷ []) j);
  }

-- a relay of a receipt, above all that its cell has
pub relay_keeps : (config : Config) (l : List Entry) (e : Entry) (pair : ℕ) (p : Receipt) (y : Relayed) → IsReceiptOf config l pair p → e.event ≡ Cell (Relay y)
    → y.packet ≡ p → e.place ≡ p.holder.cell → IsAbove l e.place e.number → KeepsList config l (l ++ e ∷ [])
relay_keeps config l e pair p y rec is of place above =
    keeps_with config l e (subst (λ (x : Event). IsOfLane x) (sym is) tt) above (λ own r. relay_receiving config l e pair p y rec is of place own r)

-- Receipts that are kept.

-- A receipt stays one of a longer list, where what was added doesn't relay it
pub receipt_stays : (config : Config) (l more : List Entry) (pair : ℕ) (p : Receipt) → IsReceiptOf config l pair p → (TakesOwnPairs config l → IsReceiving config l)
    → (TakesOwnPairs config (l ++ more) → IsUnspent more p) → IsReceiptOf config (l ++ more) pair p
receipt_stays config l more pair p rec receiving rest = record {
  taking = rec.taking;
  is_there = in_left l more rec.is_there;
  at_box = rec.at_box;
  with_number = rec.with_number;
  gave = rec.gave;
  for_cell = rec.for_cell;
  unspent = λ own r e x i q pairs takes. either own e x q pairs takes (in_append l more i);
}
  where
    either : TakesOwnPairs config (l ++ more) → (e : Entry) (x : Relayed) → e.event ≡ Cell (Relay x) → x.packet.holder.pair ≡ p.holder.pair → x.packet.take ≡ p.take
        → In e l ⊎ In e more → ⊥
    either own e x q pairs takes (inl i) =
        let before : TakesOwnPairs config l = λ f half holder source bytes j s. own f half holder source bytes (in_left l more j) s in
        rec.unspent before (receiving before) e x i q pairs takes
    either own e x q pairs takes (inr i) = rest own e x i q pairs takes

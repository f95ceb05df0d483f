-- Two takes of one packet at boxes with one holder come to the same.
use Rattle.std.proofs.Common.{◌≡◌, ◌∙◌, sym, ap, subst, ℕ, ◌≤◌, inl, inr, List, length, Bool, true, false, Option, Some, None, arith}
use Rattle.relay_outside.specs.declared.address.Addr.{Addr}
use Rattle.relay_outside.specs.declared.settings.Config.{Config}
use Rattle.port_pool.specs.declared.holder.Holder.{Holder}
use Rattle.port_pool.specs.Boxes as box
use Rattle.port_pool.specs.Boxes.{Taken, FitsTaken, holder}
use Rattle.relay_core.specs.Entries.{Entry, box_of, box_history}
use Rattle.relay_core.specs.Turns.{IsAbove}
use Rattle.relay_script.specs.EventLines as event
use Rattle.relay_script.specs.EventLines.{Printed}
use Rattle.replay_steps.specs.Arrivals.{End}
use Rattle.replay_steps.specs.Steps.{Packet, TakesPacket, TakesNoPacket, Misses, PrintsTaken, FailsSo}
use Rattle.replay_laws.proofs.Lists.{end_once}
use Rattle.replay_laws.proofs.Relays.{SamePacket}

-- each box has the same holder in both lists
abbrev pub SameBoxes : Config → List Entry → List Entry → Type 0
SameBoxes config l k = (pair m n : ℕ) → IsAbove l (box_of config pair) m → IsAbove k (box_of config pair) n
    → holder (box_history l (box_of config pair) m) ≡ holder (box_history k (box_of config pair) n)

clash : {A : Type 0} → true ≡ false → A
clash e = absurd (let f : true ≡ false = e in cc)

-- A packet that was taken.

pub record Given (o : Option Holder) (held : Holder) (bytes : List ℕ) : Type 0 where
  pub is_held : o ≡ Some held
  pub short : length bytes ≤ 2000

given : (o : Option Holder) (held : Holder) (source : Addr) (bytes : List ℕ) → FitsTaken o (box.Datagram held source bytes) → Given o held bytes
given None held source bytes fits = absurd (let e : box.Datagram held source bytes ≡ box.Closed = fits in cc)
given (Some leg) held source bytes fits = record { is_held = ap Some (sym fits.0); short = fits.1 }

some_once : (a b : Holder) → Some a ≡ Some b → a ≡ b
some_once a b e = cc

-- two takes gave the same packet, but for the number of the take
pub record SameTaken (p q : Packet) : Type 0 where
  pub pair : p.0 ≡ q.0
  pub packet : SamePacket p.1 q.1

-- the holders at one end
pub holders_at : (config : Config) (l k : List Entry) (p q m n : ℕ) → SameBoxes config l k → p ≡ q → IsAbove l (box_of config p) m → IsAbove k (box_of config q) n
    → holder (box_history l (box_of config p) m) ≡ holder (box_history k (box_of config q) n)
holders_at config l k p q m n boxes same a b =
    boxes p m n a (subst (λ (x : ℕ). IsAbove k (box_of config x) n) (sym same) b)
    ∙ ap (λ (x : ℕ). holder (box_history k (box_of config x) n)) same

pub packet_once : (config : Config) (l k : List Entry) (port : ℕ) (source : Addr) (bytes : List ℕ) (p q : Packet) (new there : List Entry) → SameBoxes config l k
    → TakesPacket config l port source bytes p new → TakesPacket config k port source bytes q there → SameTaken p q
packet_once config l k port source bytes p q new there boxes a b =
    let end = end_once config port source.ip (p.0, p.1.half) (q.0, q.1.half) a.at b.at in
    let pair : p.0 ≡ q.0 = ap (λ (e : End). e.0) end in
    let m = given (holder (box_history l (box_of config p.0) p.1.take)) p.1.holder p.1.source p.1.bytes a.fits in
    let n = given (holder (box_history k (box_of config q.0) q.1.take)) q.1.holder q.1.source q.1.bytes b.fits in
    record {
      pair = pair;
      packet = record {
        half = ap (λ (e : End). e.1) end;
        source = a.source_is ∙ sym b.source_is;
        bytes = a.bytes_are ∙ sym b.bytes_are;
        holder = some_once p.1.holder q.1.holder (sym m.is_held ∙ holders_at config l k p.0 q.0 p.1.take q.1.take boxes pair a.at_front b.at_front ∙ n.is_held);
      };
    }

-- No packet.

-- a take that doesn't have to fail, and gives a packet, can't give none
none_case : (leg : Holder) (taken : Taken) (bytes : List ℕ) (e : Printed) → FitsTaken (Some leg) taken → PrintsTaken taken bytes e → FailsSo taken false → length bytes ≤ 2000 → ⊥
none_case leg box.Closed bytes e fits prints asked short = fits
none_case leg box.Nothing bytes e fits prints asked short = prints
none_case leg (box.Datagram held source given) bytes e fits prints asked short = prints
none_case leg (box.TooLong source given) bytes e fits prints asked short = let long = prints.0 in omega (arith, long, short)
none_case leg box.Fault bytes e fits prints asked short = clash (sym asked)

pub packet_or_none : (config : Config) (l k : List Entry) (port : ℕ) (source : Addr) (bytes : List ℕ) (p : Packet) (e : Printed) (new there : List Entry) → SameBoxes config l k
    → TakesPacket config l port source bytes p new → Misses config k port source bytes false e there → ⊥
packet_or_none config l k port source bytes p e new there boxes a (inl none) = none.0 (p.0, p.1.half) a.at
packet_or_none config l k port source bytes p e new there boxes a (inr b) =
    let end = end_once config port source.ip (p.0, p.1.half) b.end a.at b.at in
    let m = given (holder (box_history l (box_of config p.0) p.1.take)) p.1.holder p.1.source p.1.bytes a.fits in
    let same = holders_at config l k p.0 b.end.0 p.1.take b.number boxes (ap (λ (x : End). x.0) end) a.at_front b.at_front in
    let held : FitsTaken (Some p.1.holder) b.taken = subst (λ (o : Option Holder). FitsTaken o b.taken) (sym same ∙ m.is_held) b.fits in
    none_case p.1.holder b.taken bytes e held b.printed b.asked (subst (λ (x : List ℕ). length x ≤ 2000) a.bytes_are m.short)

-- what is printed of a take of a box that is shut
shut_case : (taken : Taken) (bytes : List ℕ) (e : Printed) → taken ≡ box.Closed → PrintsTaken taken bytes e → e ≡ event.Nothing
shut_case taken bytes e is prints = subst (λ (t : Taken). PrintsTaken t bytes e) is prints

-- and of two takes of one that is open
open_case : (leg : Holder) (t u : Taken) (bytes : List ℕ) (failing : Bool) (e f : Printed) → FitsTaken (Some leg) t → FitsTaken (Some leg) u
    → PrintsTaken t bytes e → PrintsTaken u bytes f → FailsSo t failing → FailsSo u failing → e ≡ f
open_case leg box.Closed u bytes failing e f a b p q x y = absurd a
open_case leg box.Nothing u bytes failing e f a b p q x y = absurd p
open_case leg (box.Datagram held source given) u bytes failing e f a b p q x y = absurd p
open_case leg t box.Closed bytes failing e f a b p q x y = absurd b
open_case leg t box.Nothing bytes failing e f a b p q x y = absurd q
open_case leg t (box.Datagram held source given) bytes failing e f a b p q x y = absurd q
open_case leg (box.TooLong source given) (box.TooLong from some) bytes failing e f a b p q x y = p.1 ∙ sym q.1
open_case leg (box.TooLong source given) box.Fault bytes failing e f a b p q x y = clash (sym y ∙ x)
open_case leg box.Fault (box.TooLong source given) bytes failing e f a b p q x y = clash (sym x ∙ y)
open_case leg box.Fault box.Fault bytes failing e f a b p q x y = p ∙ sym q

held_case : (o : Option Holder) (t u : Taken) (bytes : List ℕ) (failing : Bool) (e f : Printed) → FitsTaken o t → FitsTaken o u
    → PrintsTaken t bytes e → PrintsTaken u bytes f → FailsSo t failing → FailsSo u failing → e ≡ f
held_case None t u bytes failing e f a b p q x y = shut_case t bytes e a p ∙ sym (shut_case u bytes f b q)
held_case (Some leg) t u bytes failing e f a b p q x y = open_case leg t u bytes failing e f a b p q x y

takes_none_once : (config : Config) (l k : List Entry) (port : ℕ) (source : Addr) (bytes : List ℕ) (failing : Bool) (e f : Printed) (new there : List Entry) → SameBoxes config l k
    → TakesNoPacket config l port source bytes failing e new → TakesNoPacket config k port source bytes failing f there → e ≡ f
takes_none_once config l k port source bytes failing e f new there boxes a b =
    let end = end_once config port source.ip a.end b.end a.at b.at in
    let same = holders_at config l k a.end.0 b.end.0 a.number b.number boxes (ap (λ (x : End). x.0) end) a.at_front b.at_front in
    held_case (holder (box_history k (box_of config b.end.0) b.number)) a.taken b.taken bytes failing e f
    (subst (λ (o : Option Holder). FitsTaken o a.taken) same a.fits) b.fits a.printed b.printed a.asked b.asked

pub none_once : (config : Config) (l k : List Entry) (port : ℕ) (source : Addr) (bytes : List ℕ) (failing : Bool) (e f : Printed) (new there : List Entry) → SameBoxes config l k
    → Misses config l port source bytes failing e new → Misses config k port source bytes failing f there → e ≡ f
none_once config l k port source bytes failing e f new there boxes (inl a) (inl b) = a.1 ∙ sym b.1
none_once config l k port source bytes failing e f new there boxes (inl a) (inr b) = absurd (a.0 b.end b.at)
none_once config l k port source bytes failing e f new there boxes (inr a) (inl b) = absurd (b.0 a.end a.at)
none_once config l k port source bytes failing e f new there boxes (inr a) (inr b) =
    takes_none_once config l k port source bytes failing e f new there boxes a b

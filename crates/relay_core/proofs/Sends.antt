-- Each packet that was sent is what one received packet is turned into, sent once, to the opposite endpoint.
use Rattle.std.proofs.Common.{◌≡◌, ◌∙◌, sym, ap, subst, ℕ, List, Some, length}
use Rattle.relay_outside.specs.declared.address.Addr.{Addr}
use Rattle.relay_outside.specs.declared.address.Family.{Family}
use Rattle.relay_outside.specs.declared.settings.Config.{Config}
use Rattle.histories.specs.Words.{In}
use Rattle.port_pool.specs.Ports.{pair_family, half_port}
use Rattle.port_pool.specs.declared.holder.Holder.{Holder}
use Rattle.call_cell.specs.declared.outcome.Outcome.TheVariants.{Sent}
use Rattle.call_cell.specs.Cells.{Relay, Relayed, Sending, Shield, Deed, legs, opposite}
use Rattle.call_cell.specs.Deeds.{transform}
use Rattle.relay_core.specs.Entries.{Cell, Entry, cell_before}
use Rattle.relay_core.specs.Legal.{Legal}
use Rattle.relay_core.specs.Safe.{IsSentRight, IsProtectedBy}
use Rattle.relay_core.proofs.Generations.{held_at_take, holder_is_leg}
use Rattle.relay_core.proofs.Relays.{call_of_leg}
use Rattle.relay_core.proofs.KeyLives.{has_key}
use Rattle.relay_core.proofs.Shields.{deed_is, protecting}
use Rattle.call_cell.proofs.Legs.{opposite_is}
use Rattle.call_cell.proofs.Sends.{sends, sent}

pub sent_right : (config : Config) (l : List Entry) → Legal config l → (e : Entry) (x : Relayed) (w : Sending) → In e l → e.event ≡ Cell (Relay x)
    → x.deed.sending ≡ Some w → IsSentRight config l e x w
sent_right config l g e x w i q t =
    let h = cell_before l e in
    let p = x.packet in
    let s = sends config h p x.sent_ok w (ap (λ (d : Deed). d.sending) (sym (deed_is config l g e x i q)) ∙ t) in
    let r = g.received e x i q in
    let leg : s.leg ≡ p.holder = holder_is_leg config l g e p r s.leg s.is_leg s.is_same in
    let is_leg : In p.holder (legs h) = subst (λ (a : Holder). In a (legs h)) leg s.is_leg in
    record {
      taking = r.taking;
      taken = r.is_there;
      at_box = r.at_box;
      with_number = r.with_number;
      held_by = held_at_take config l g e p r;
      gave = r.gave;
      of_call = call_of_leg config l g.orderly e.place e.number p.holder is_leg;
      is_leg = is_leg;
      other = s.other;
      is_opposite = subst (λ (a : Holder). opposite h a ≡ Some s.other) leg s.is_opposite;
      signal = s.signal;
      is_in_force = s.is_in_force;
      sends_bytes = subst (λ (a : Holder). transform h p a s.signal ≡ Some w.bytes) leg s.sends_bytes;
      sends_from = (s.from_pair, s.by_half);
      sends_to = s.sends_to;
      sent_once = λ f y j r same_pair same_take. sym (g.once e f x y i j q r same_pair same_take);
    }

pub sent_sends : (config : Config) (l : List Entry) → Legal config l → (e : Entry) (x : Relayed) (family : Family) (port : ℕ) (to : Addr) (len : ℕ) → In e l → e.event ≡ Cell (Relay x)
    → x.deed.outcome ≡ Sent family port to len
    → (w : Sending) × (x.deed.sending ≡ Some w) × (w.to ≡ to) × (length w.bytes ≡ len) × (family ≡ pair_family config w.pair)
    × (port ≡ half_port config w.pair w.half)
sent_sends config l g e x family port to len i q t =
    let d = deed_is config l g e x i q in
    let s = sent config (cell_before l e) x.packet x.sent_ok family port to len (ap (λ (z : Deed). z.outcome) (sym d) ∙ t) in
    (s.sending, ap (λ (z : Deed). z.sending) d ∙ s.is_sending, s.to_is, s.len_is, s.family_is, s.port_is)

pub protected_by : (config : Config) (l : List Entry) → Legal config l → (e : Entry) (x : Relayed) (s : Shield) → In e l → e.event ≡ Cell (Relay x)
    → x.deed.shield ≡ Some s → IsProtectedBy l e x s
protected_by config l g e x s i q t =
    let h = cell_before l e in
    let p = protecting config l g e x s i q t in
    let leg : p.leg ≡ x.packet.holder = holder_is_leg config l g e x.packet (g.received e x i q) p.leg p.is_leg p.is_same in
    record {
      other = p.other;
      is_opposite = subst (λ (a : Holder). opposite h a ≡ Some p.other) leg p.is_opposite;
      has_key = has_key config l g.orderly e.place e.number p.other p.signal s.key (opposite_is h p.leg p.other p.is_opposite).is_leg p.is_in_force p.outbound;
    }

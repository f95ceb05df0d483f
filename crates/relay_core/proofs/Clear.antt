-- What leaves in the clear leaves to a side that agreed on no encryption.
use Rattle.std.proofs.Common.{◌≡◌, ◌∙◌, sym, ap, subst, refl, ℕ, List, Bool, true, false, cond, Option, Some, None, Result, Ok, Err}
use Rattle.std.specs.Prelude.{IsSome}
use Rattle.relay_outside.specs.declared.settings.Config.{Config}
use Rattle.rtp_packet.specs.declared.head.Half.{Half}
use Rattle.rtp_packet.specs.declared.head.Half.TheVariants.{Rtp, Rtcp}
use Rattle.srtp_sources.specs.Notes.{Note}
use Rattle.histories.specs.Words.{In}
use Rattle.port_pool.specs.declared.holder.Holder.{Holder}
use Rattle.port_pool.specs.declared.signal.LegSignal.{LegSignal}
use Rattle.port_pool.specs.Signals.{NewKey}
use Rattle.offer_answer.specs.Laws.{IsSecured}
use Rattle.offer_answer.specs.Profiles.{is_srtp_leg, profile_offered}
use Rattle.offer_answer.proofs.Committing.{secures_legs}
use Rattle.call_cell.specs.Cells.{CellEntry, Receipt, Shield, Sending, Deed, Relay, Relayed, opposite, in_force, key_numbered}
use Rattle.call_cell.specs.Protection.{protected, Departure, Held, Leaves, lost_by, wrapped_rtp, wrapped_rtcp, wrapped_with, wrapped_under}
use Rattle.call_cell.specs.declared.outcome.Lost.TheVariants as lost
use Rattle.srtp_keys.specs.declared.faults.ProtectFault.{ProtectFault}
use Rattle.srtp_context.specs.OutboundPackets as srtp_out
use Rattle.srtcp_context.specs.OutboundPackets as srtcp_out
use Rattle.call_cell.specs.Deeds.{deed, found, kind, wrapped_numbered, wrapped_towards}
use Rattle.call_cell.proofs.Does.{Does, refuses, loses, leaves, does}
use Rattle.call_cell.proofs.Legs.{found_is}
use Rattle.call_board.specs.Calls.{rounds}
use Rattle.relay_core.specs.Entries.{Cell, Entry, board_history, cell_before}
use Rattle.relay_core.specs.Legal.{Legal}
use Rattle.relay_core.specs.Safe.{IsClear}
use Rattle.relay_core.proofs.Histories.{good_history}
use Rattle.relay_core.proofs.Generations.{holder_is_leg}
use Rattle.relay_core.proofs.CallRounds.{answer_round, good_rounds}
use Rattle.relay_core.proofs.Keyed.{is_in_force}
use Rattle.relay_core.proofs.Shields.{deed_is}

-- Under a key nothing leaves without a shield.

abbrev shield_of : Departure → Option Shield
shield_of (Held cause) = None
shield_of (Leaves shield bytes) = shield

by_rtp : (number : ℕ) (bytes : List ℕ) (packet : Result srtp_out.Wrapped ProtectFault) → wrapped_rtp number packet ≡ Leaves None bytes → ⊥
by_rtp number bytes (Ok wrapped) q = let k = ap (λ (w : Departure). shield_of w) q in absurd (cc)
by_rtp number bytes (Err cause) q = absurd (let k : Held (lost_by cause) ≡ Leaves None bytes = q in cc)

by_rtcp : (number : ℕ) (bytes : List ℕ) (packet : Result srtcp_out.Wrapped ProtectFault) → wrapped_rtcp number packet ≡ Leaves None bytes → ⊥
by_rtcp number bytes (Ok wrapped) q = let k = ap (λ (w : Departure). shield_of w) q in absurd (cc)
by_rtcp number bytes (Err cause) q = absurd (let k : Held (lost_by cause) ≡ Leaves None bytes = q in cc)

under_key : (key : NewKey) (notes : List Note) (half : Half) (plain bytes : List ℕ) → wrapped_under key notes half plain ≡ Leaves None bytes → ⊥
unfolding wrapped_under
under_key key notes Rtp plain bytes q = by_rtp key.number bytes (srtp_out.wrapping key.bytes key.suite notes plain) q
under_key key notes Rtcp plain bytes q = by_rtcp key.number bytes (srtcp_out.rtcp_wrapping key.bytes notes plain) q

with_key : (key : Option NewKey) (notes : List Note) (half : Half) (plain bytes : List ℕ) → wrapped_with key notes half plain ≡ Leaves None bytes → ⊥
with_key None notes half plain bytes q = let k : Held lost.KeySpent ≡ Leaves None bytes = q in absurd cc
with_key (Some key) notes half plain bytes q = under_key key notes half plain bytes q

numbered : (h : List CellEntry) (number : Option ℕ) (half : Half) (plain bytes : List ℕ) → wrapped_numbered h number half plain ≡ Leaves None bytes → number ≡ None
numbered h None half plain bytes q = refl
numbered h (Some number) half plain bytes q = absurd (with_key (key_numbered h number) (protected h number) half plain bytes q)

towards : (h : List CellEntry) (s : LegSignal) (half : Half) (plain bytes : List ℕ) (hold : Bool) → cond hold (Held lost.Hold) (wrapped_numbered h s.outbound half plain) ≡ Leaves None bytes → s.outbound ≡ None
towards h s half plain bytes true q = absurd (let k : Held lost.Hold ≡ Leaves None bytes = q in cc)
towards h s half plain bytes false q = numbered h s.outbound half plain bytes q

-- A packet that left without one, and the leg by which it left.
record LeftClear (h : List CellEntry) (p : Receipt) : Type 0 where
  leg : Holder
  is_found : found h p ≡ Some leg
  other : Holder
  is_opposite : opposite h leg ≡ Some other
  signal : LegSignal
  in_force_is : in_force h other ≡ Some signal
  none : signal.outbound ≡ None

left_clear : (config : Config) (h : List CellEntry) (p : Receipt) (ok : Bool) (w : Sending) (d : Deed) → Does config h p ok d → d.sending ≡ Some w → d.shield ≡ None → LeftClear h p
left_clear config h p ok w d (refuses cause e) q none = absurd (let f = ap (λ (x : Deed). x.sending) e in cc)
left_clear config h p ok w d (loses t cause n e) q none = absurd (let f = ap (λ (x : Deed). x.sending) e in cc)
left_clear config h p ok w d (leaves t l e) q none =
    let shield : l.shield ≡ None = sym (ap (λ (x : Deed). x.shield) e) ∙ none in
    record {
      leg = t.leg;
      is_found = t.is_found;
      other = l.other;
      is_opposite = l.is_opposite;
      signal = l.signal;
      in_force_is = l.is_in_force;
      none = towards h l.signal (kind h p) t.plain l.bytes l.signal.hold
          (subst (λ (s : Option Shield). wrapped_towards h l.signal (kind h p) t.plain ≡ Leaves s l.bytes) shield l.is_wrapped);
    }

-- keys for both directions where the profile is SRTP: so where there is none, it is not
unsecured : (t : Bool) (s : LegSignal) → IsSecured t s → s.outbound ≡ None → t ≡ false
unsecured true s secured none = absurd (nothing s.outbound none secured.1)
  where
    nothing : (o : Option ℕ) → o ≡ None → IsSome o → ⊥
    nothing None q k = let e = k in cc
    nothing (Some n) q k = let e = q in cc
unsecured false s secured none = refl

pub clear : (config : Config) (l : List Entry) → Legal config l → (e : Entry) (x : Relayed) (w : Sending) → In e l → e.event ≡ Cell (Relay x)
    → x.deed.sending ≡ Some w → x.deed.shield ≡ None → IsClear l e x
clear config l g e x w i q t none =
    let h = cell_before l e in
    let d = deed_is config l g e x i q in
    let c = left_clear config h x.packet x.sent_ok w (deed config h x.packet x.sent_ok) (does config h x.packet x.sent_ok)
    (ap (λ (z : Deed). z.sending) (sym d) ∙ t) (ap (λ (z : Deed). z.shield) (sym d) ∙ none) in
    let found_leg = found_is h x.packet c.leg c.is_found in
    let leg : c.leg ≡ x.packet.holder = holder_is_leg config l g e x.packet (g.received e x i q) c.leg found_leg.is_leg found_leg.is_same in
    let f = is_in_force config l g.orderly e.place e.number c.other c.signal c.in_force_is in
    let before = board_history l f.board.number in
    let fits = (g.orderly.board_fits f.board f.entry f.board_in f.is).1 in
    let secured = secures_legs (rounds before f.answer.of.number) f.answer.ask c.other.section c.other.side c.signal
    (good_rounds config before f.answer.of.number (good_history config l g.orderly f.board.number)).come
    (answer_round config before f.entry f.answer fits f.acts) f.says in
    record {
      other = c.other;
      is_opposite = subst (λ (a : Holder). opposite h a ≡ Some c.other) leg c.is_opposite;
      commit = f.commit;
      is_there = f.is_in;
      at_cell = f.at;
      before = f.below;
      signal = f.signal;
      commits = f.event;
      is_last = c.in_force_is ∙ sym f.says_so;
      board = f.board;
      entry = f.entry;
      board_there = f.board_in;
      board_is = f.is;
      of_board = f.of_board;
      answer = f.answer;
      acts = f.acts;
      not_srtp = unsecured (is_srtp_leg (profile_offered (rounds (board_history l f.board.number) f.answer.of.number) c.other.section c.other.side)) c.signal secured c.none;
    }

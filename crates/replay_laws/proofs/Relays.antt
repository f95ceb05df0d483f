-- Two relays of one packet, after one history of its cell and after the same happened, come to the same.
use Rattle.std.proofs.Common.{◌≡◌, ◌∙◌, sym, ap, subst, refl, ℕ, List, Bool, true, Option, Some, None}
use Rattle.relay_outside.specs.declared.address.Addr.{Addr}
use Rattle.relay_outside.specs.declared.settings.Config.{Config}
use Rattle.rtp_packet.specs.declared.head.Half.{Half}
use Rattle.srtp_sources.specs.Notes.{Note}
use Rattle.port_pool.specs.declared.holder.Holder.{Holder}
use Rattle.port_pool.specs.declared.signal.LegSignal.{LegSignal}
use Rattle.call_cell.specs.declared.outcome.Outcome.{Outcome}
use Rattle.call_cell.specs.declared.outcome.Outcome.TheVariants as outcomes
use Rattle.call_cell.specs.Cells.{CellEntry, Receipt, Sending, Deed, since_end, opposite, in_force}
use Rattle.call_cell.specs.Protection.{Judged, Stopped, Passed, Departure, Held, Leaves}
use Rattle.call_cell.specs.Deeds.{kind, found, judged, wrapped_towards, deed_wrapped, deed_towards, deed_opposite, deed_judged, deed_found, deed}
use Rattle.call_cell.specs.LegHistories.{sent_ok}
use Rattle.relay_core.specs.Entries.{Entry, cell_history}
use Rattle.relay_core.specs.Turns.{IsAbove}
use Rattle.media_lane.specs.Relays.{AreSent}
use Rattle.relay_script.specs.EventLines as event
use Rattle.relay_script.specs.EventLines.{Printed}
use Rattle.replay_devices.specs.Devices.{Happening, send_answers, after_send}
use Rattle.replay_steps.specs.Steps.{RelaysPacket}
use Rattle.replay_laws.proofs.Lists.{told_once}

-- Which send a relay makes doesn't depend on its answer.

wrapped_alike : (config : Config) (h : List CellEntry) (p : Receipt) (noted : Option Note) (other : Holder) (s : LegSignal) (a b : Bool) (w : Departure)
    → (deed_wrapped config h p noted other s a w).sending ≡ (deed_wrapped config h p noted other s b w).sending
wrapped_alike config h p noted other s a b (Held cause) = refl
wrapped_alike config h p noted other s a b (Leaves shield bytes) = refl

towards_alike : (config : Config) (h : List CellEntry) (p : Receipt) (noted : Option Note) (plain : List ℕ) (a b : Bool) (other : Holder) (s : Option LegSignal)
    → (deed_towards config h p noted plain a other s).sending ≡ (deed_towards config h p noted plain b other s).sending
towards_alike config h p noted plain a b other None = refl
towards_alike config h p noted plain a b other (Some s) = wrapped_alike config h p noted other s a b (wrapped_towards h s (kind h p) plain)

opposite_alike : (config : Config) (h : List CellEntry) (p : Receipt) (noted : Option Note) (plain : List ℕ) (a b : Bool) (o : Option Holder)
    → (deed_opposite config h p noted plain a o).sending ≡ (deed_opposite config h p noted plain b o).sending
opposite_alike config h p noted plain a b None = refl
opposite_alike config h p noted plain a b (Some other) = towards_alike config h p noted plain a b other (in_force h other)

judged_alike : (config : Config) (h : List CellEntry) (p : Receipt) (a b : Bool) (leg : Holder) (j : Judged)
    → (deed_judged config h p a leg j).sending ≡ (deed_judged config h p b leg j).sending
judged_alike config h p a b leg (Stopped cause) = refl
judged_alike config h p a b leg (Passed noted plain) = opposite_alike config h p noted plain a b (opposite h leg)

found_alike : (config : Config) (h : List CellEntry) (p : Receipt) (a b : Bool) (o : Option Holder)
    → (deed_found config h p a o).sending ≡ (deed_found config h p b o).sending
found_alike config h p a b None = refl
found_alike config h p a b (Some leg) = judged_alike config h p a b leg (judged h p leg)

sending_alike : (config : Config) (h : List CellEntry) (p : Receipt) (a b : Bool) → (deed config h p a).sending ≡ (deed config h p b).sending
unfolding deed
sending_alike config h p a b = found_alike config h p a b (found h p)

-- What it does doesn't depend on the number of the take.

-- the same packet, but for the number of its take
pub record SamePacket (p q : Receipt) : Type 0 where
  pub half : p.half ≡ q.half
  pub source : p.source ≡ q.source
  pub bytes : p.bytes ≡ q.bytes
  pub holder : p.holder ≡ q.holder

abbrev packet : ℕ → Half → Addr → List ℕ → Holder → Receipt
packet take half source bytes holder = record { take = take; half = half; source = source; bytes = bytes; holder = holder }

any_take : (config : Config) (h : List CellEntry) (m n : ℕ) (half : Half) (source : Addr) (bytes : List ℕ) (holder : Holder) (ok : Bool)
    → deed config h (packet m half source bytes holder) ok ≡ deed config h (packet n half source bytes holder) ok
unfolding deed
any_take config h m n half source bytes holder ok = refl

pub same_deed : (config : Config) (h : List CellEntry) (p q : Receipt) (ok : Bool) → SamePacket p q → deed config h p ok ≡ deed config h q ok
same_deed config h p q ok same =
    any_take config h p.take q.take p.half p.source p.bytes p.holder ok
    ∙ ap (λ (x : Half). deed config h (packet q.take x p.source p.bytes p.holder) ok) same.half
    ∙ ap (λ (x : Addr). deed config h (packet q.take q.half x p.bytes p.holder) ok) same.source
    ∙ ap (λ (x : List ℕ). deed config h (packet q.take q.half q.source x p.holder) ok) same.bytes
    ∙ ap (λ (x : Holder). deed config h (packet q.take q.half q.source q.bytes x) ok) same.holder

-- What is due.

abbrev answer : Config → List Happening → List CellEntry → Receipt → Bool
answer config past h p = send_answers config past (deed config h p true).sending

abbrev due : Config → List Happening → List CellEntry → Receipt → Deed
due config past h p = deed config h p (answer config past h p)

same_due : (config : Config) (past : List Happening) (h : List CellEntry) (p q : Receipt) → SamePacket p q → due config past h p ≡ due config past h q
same_due config past h p q same =
    ap (λ (w : Option Sending). deed config h p (send_answers config past w)) (ap (λ (d : Deed). d.sending) (same_deed config h p q true same))
    ∙ same_deed config h p q (answer config past h q) same

same_answer : (config : Config) (past : List Happening) (h : List CellEntry) (p q : Receipt) → SamePacket p q → answer config past h p ≡ answer config past h q
same_answer config past h p q same = ap (λ (d : Deed). send_answers config past d.sending) (same_deed config h p q true same)

sent_once : (o : Outcome) (w : Option Sending) (x y : List ℕ) → AreSent o w x → AreSent o w y → x ≡ y
sent_once (outcomes.Sent family port to len) None x y a b = absurd a
sent_once (outcomes.Sent family port to len) (Some w) x y a b = a ∙ sym b
sent_once (outcomes.Lost cause) w x y a b = a ∙ sym b
sent_once (outcomes.Refused cause) w x y a b = a ∙ sym b

-- a relay came to what is due
record ComesTo (config : Config) (old : List Happening) (h : List CellEntry) (p : Receipt) (e : Printed) (past : List Happening) : Type 0 where
  sent : List ℕ
  printed : e ≡ event.Relayed (due config old h p).outcome sent
  are_sent : AreSent (due config old h p).outcome (due config old h p).sending sent
  past_is : past ≡ after_send old (answer config old h p) (due config old h p).sending

comes_to : (config : Config) (clock : ℕ) (l : List Entry) (old : List Happening) (p : Receipt) (e : Printed) (new : List Entry) (past : List Happening)
    → (r : RelaysPacket config clock l old p e new past) → ComesTo config old (since_end r.relayed.history) p e past
comes_to config clock l old p e new past r =
    let h = since_end r.relayed.history in
    let ok : sent_ok r.outcome ≡ answer config old h p =
    r.asked.0 ∙ ap (send_answers config old) (sending_alike config h p (sent_ok r.outcome) true) in
    let deed_is : deed config h p (sent_ok r.outcome) ≡ due config old h p = ap (deed config h p) ok in
    let outcome_is : r.outcome ≡ (due config old h p).outcome = r.relayed.outcome_is ∙ ap (λ (d : Deed). d.outcome) deed_is in
    record {
      sent = r.sent;
      printed = r.printed ∙ ap (λ (o : Outcome). event.Relayed o r.sent) outcome_is;
      are_sent = subst (λ (d : Deed). AreSent (due config old h p).outcome d.sending r.sent) deed_is
          (subst (λ (o : Outcome). AreSent o (deed config h p (sent_ok r.outcome)).sending r.sent) outcome_is r.relayed.bytes_are);
      past_is = r.asked.1 ∙ ap (λ (b : Bool). after_send old b (deed config h p (sent_ok r.outcome)).sending) ok
          ∙ ap (λ (d : Deed). after_send old (answer config old h p) d.sending) deed_is;
    }

one_due : (config : Config) (old : List Happening) (h : List CellEntry) (p q : Receipt) (e f : Printed) (past also : List Happening) → SamePacket p q
    → ComesTo config old h p e past → ComesTo config old h q f also → (e ≡ f) × (past ≡ also)
one_due config old h p q e f past also same a b =
    let d = same_due config old h p q same in
    let there : AreSent (due config old h q).outcome (due config old h q).sending a.sent =
    subst (λ (x : Deed). AreSent x.outcome x.sending a.sent) d a.are_sent in
    let sent = sent_once (due config old h q).outcome (due config old h q).sending a.sent b.sent there b.are_sent in (
      a.printed ∙ ap (λ (x : Deed). event.Relayed x.outcome a.sent) d ∙ ap (event.Relayed (due config old h q).outcome) sent ∙ sym b.printed,
      a.past_is ∙ ap (λ (x : Bool). after_send old x (due config old h p).sending) (same_answer config old h p q same)
          ∙ ap (λ (x : Deed). after_send old (answer config old h q) x.sending) d ∙ sym b.past_is,
    )

-- each cell has the same history in both lists
abbrev pub SameCells : List Entry → List Entry → Type 0
SameCells l k = (place m n : ℕ) → IsAbove l place m → IsAbove k place n → cell_history l place m ≡ cell_history k place n

pub relay_once : (config : Config) (clock time : ℕ) (l k : List Entry) (old : List Happening) (p q : Receipt) (e f : Printed) (new there : List Entry) (past also : List Happening)
    → SameCells l k → SamePacket p q → RelaysPacket config clock l old p e new past → RelaysPacket config time k old q f there also → (e ≡ f) × (past ≡ also)
relay_once config clock time l k old p q e f new there past also cells same r s =
    let at : cell_history l p.holder.cell r.relayed.number ≡ cell_history k q.holder.cell s.relayed.number =
    cells p.holder.cell r.relayed.number s.relayed.number r.relayed.at_front
    (subst (λ (h : Holder). IsAbove k h.cell s.relayed.number) (sym same.holder) s.relayed.at_front)
    ∙ ap (λ (h : Holder). cell_history k h.cell s.relayed.number) same.holder in
    let one : r.relayed.history ≡ s.relayed.history =
    told_once config r.relayed.history s.relayed.history (r.relayed.recorded ∙ at ∙ sym s.relayed.recorded) r.relayed.fitting s.relayed.fitting in
    one_due config old (since_end s.relayed.history) p q e f past also same
    (subst (λ (h : List CellEntry). ComesTo config old (since_end h) p e past) one (comes_to config clock l old p e new past r))
    (comes_to config time k old q f there also s)

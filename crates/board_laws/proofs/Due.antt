-- A relay whose send is due makes it, and does the same whatever it answers, but for its outcome.
use Rattle.std.proofs.Common.{◌≡◌, ◌∙◌, refl, sym, ap, ℕ, ◌⊎◌, inl, inr, List, length, Bool, true, false, Option, Some}
use Rattle.relay_outside.specs.declared.address.Addr.{Addr}
use Rattle.relay_outside.specs.declared.settings.Config.{Config}
use Rattle.rtp_packet.specs.declared.head.Half.{Half}
use Rattle.srtp_sources.specs.Notes.{Note}
use Rattle.call_cell.specs.declared.outcome.LocalPort.{LocalPort}
use Rattle.port_pool.specs.Ports.{pair_family, half_port}
use Rattle.call_cell.specs.declared.outcome.Lost.TheVariants as lost
use Rattle.call_cell.specs.declared.outcome.Outcome.{Outcome}
use Rattle.call_cell.specs.declared.outcome.Outcome.TheVariants as outcomes
use Rattle.call_cell.specs.Cells.{CellEntry, Receipt, Shield, Sending, Deed}
use Rattle.call_cell.specs.Deeds.{kind, sent_outcome, sent_deed, deed_wrapped, deed_towards, deed_opposite, deed_judged, deed_found, deed}
use Rattle.call_cell.specs.LegHistories.{local_port, sent_ok, send_outcome}
use Rattle.call_cell.proofs.Does.{Does, refuses, loses, leaves, Taken, Leaving, sending_of, does}
use Rattle.board_laws.specs.Due.{IsSentOnce}

abbrev outcome_in : Deed → Outcome
outcome_in d = d.outcome

-- what is done of a packet that leaves, whatever its send answers
leaving : (config : Config) (h : List CellEntry) (p : Receipt) (t : Taken h p) (l : Leaving h p t) (ok : Bool)
    → deed config h p ok ≡ sent_deed config (kind h p) t.note l.shield (sending_of h p l.other l.signal l.bytes) ok
unfolding deed
leaving config h p t l ok =
    ap (deed_found config h p ok) t.is_found ∙ ap (deed_judged config h p ok t.leg) t.is_judged ∙ ap (deed_opposite config h p t.note t.plain ok) l.is_opposite
    ∙ ap (deed_towards config h p t.note t.plain ok l.other) l.is_in_force ∙ ap (deed_wrapped config h p t.note l.other l.signal ok) l.is_wrapped

-- the same answers of two sends that are alike in port, target and length
same_outcome : (config : Config) (w : Sending) (from : LocalPort) (to : Addr) (len : ℕ) → local_port config w.pair w.half ≡ from → w.to ≡ to → length w.bytes ≡ len → (ok : Bool)
    → sent_outcome config w ok ≡ send_outcome from to len ok
same_outcome config w from to len p q r ok =
    (let is : sent_outcome config w ok ≡ send_outcome (local_port config w.pair w.half) w.to (length w.bytes) ok = elim ok [ true ↦ refl | false ↦ refl ] in is)
    ∙ ap (λ (f : LocalPort). send_outcome f w.to (length w.bytes) ok) p ∙ ap (λ (t : Addr). send_outcome from t (length w.bytes) ok) q ∙ ap (λ (n : ℕ). send_outcome from to n ok) r

same_deed : (config : Config) (k : Half) (note : Option Note) (shield : Option Shield) (w : Sending) (from : LocalPort) (to : Addr) (len : ℕ) → local_port config w.pair w.half ≡ from → w.to ≡ to
    → length w.bytes ≡ len → (ok : Bool)
    → sent_deed config k note shield w ok ≡ record (sent_deed config k note shield w true) { outcome = send_outcome from to len ok; sending = Some w }
same_deed config k note shield w from to len p q r ok =
    ap (λ (o : Outcome). let d : Deed = record { outcome = o; kind = k; noted = note; shield = shield; sending = Some w } in d) (same_outcome config w from to len p q r ok)

sent_port : (config : Config) (w : Sending) (from : LocalPort) (to : Addr) (len : ℕ) → sent_outcome config w true ≡ outcomes.Sent from.family from.port to len
    → (local_port config w.pair w.half ≡ from) × (w.to ≡ to) × (length w.bytes ≡ len)
sent_port config w from to len e =
    let family : pair_family config w.pair ≡ from.family = (let f = e in cc) in
    let port : half_port config w.pair w.half ≡ from.port = (let f = e in cc) in
    (λ i. record { family = family i; port = port i }, let f = e in cc, let f = e in cc)

once_case : (config : Config) (h : List CellEntry) (p : Receipt) (from : LocalPort) (to : Addr) (len : ℕ) (d : Deed) → Does config h p true d → d.outcome ≡ outcomes.Sent from.family from.port to len
    → IsSentOnce config h p from to len
once_case config h p from to len d (refuses cause e) q = absurd (let f = ap outcome_in e in cc)
once_case config h p from to len d (loses t cause n e) q = absurd (let f = ap outcome_in e in cc)
once_case config h p from to len d (leaves t l e) q =
    let w = sending_of h p l.other l.signal l.bytes in
    let is = sent_port config w from to len (sym (ap outcome_in e) ∙ q) in
    record {
      sending = w;
      from_is = is.0;
      to_is = is.1;
      len_is = is.2;
      does = λ ok.
          leaving config h p t l ok ∙ same_deed config (kind h p) t.note l.shield w from to len is.0 is.1 is.2 ok
          ∙ ap (λ (x : Deed). let y : Deed = record x { outcome = send_outcome from to len ok; sending = Some w } in y) (sym (leaving config h p t l true));
    }

pub sent_once : (config : Config) (h : List CellEntry) (p : Receipt) (from : LocalPort) (to : Addr) (len : ℕ) → (deed config h p true).outcome ≡ outcomes.Sent from.family from.port to len
    → IsSentOnce config h p from to len
sent_once config h p from to len q = once_case config h p from to len (deed config h p true) (does config h p true) q

by_answer : (from : LocalPort) (to : Addr) (len : ℕ) (result : Outcome) (ok : Bool) → result ≡ send_outcome from to len ok
    → (result ≡ outcomes.Sent from.family from.port to len) ⊎ (result ≡ outcomes.Lost (lost.SendFault from.family from.port))
by_answer from to len result true is = inl is
by_answer from to len result false is = inr is

pub sent_or_failed : (config : Config) (h : List CellEntry) (p : Receipt) (from : LocalPort) (to : Addr) (len : ℕ) (result : Outcome) → (deed config h p true).outcome ≡ outcomes.Sent from.family from.port to len
    → result ≡ (deed config h p (sent_ok result)).outcome → (result ≡ outcomes.Sent from.family from.port to len) ⊎ (result ≡ outcomes.Lost (lost.SendFault from.family from.port))
sent_or_failed config h p from to len result q is =
    let once = sent_once config h p from to len q in
    by_answer from to len result (sent_ok result) (is ∙ ap outcome_in (once.does (sent_ok result)))

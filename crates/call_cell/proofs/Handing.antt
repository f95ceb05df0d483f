-- A cell over one relay.
use Rattle.std.proofs.Common.{◌≡◌, refl, ap, subst, sym, ◌∙◌, ℕ, List, ◌∷◌, max, arith}
use Rattle.relay_outside.specs.declared.settings.Config.{Config}
use Rattle.relay_outside.specs.declared.ports.OutCall.{OutCall}
use Rattle.relay_outside.specs.DeviceLogs.{EndLog}
use Rattle.std.specs.Prelude.{Bool, true, false, cond, [], Option, Some, None, filter, is_some, slice_index_or, if◌then◌else◌}
use Rattle.std.specs.List.{cons_option}
use Rattle.srtp_sources.specs.Notes.{Note}
use Rattle.histories.specs.Words.{first, final}
use Rattle.port_pool.specs.Signals.{NewKey}
use Rattle.call_cell.specs.declared.outcome.Outcome.{Outcome}
use Rattle.call_cell.specs.declared.outcome.Outcome.TheVariants as outcomes
use Rattle.call_cell.specs.declared.outcome.Lost.TheVariants as lost
use Rattle.call_cell.specs.declared.leg.Leg.{Leg}
use Rattle.call_cell.specs.declared.cell.Cell.{Cell}
use Rattle.call_cell.specs.Cells.{CellEntry, Receipt, Sending, since_end, prepared_call, is_accepted, key_numbered}
use Rattle.call_cell.specs.Protection.{protected}
use Rattle.call_cell.specs.Demands.{is_activity, IsSendAnswered}
use Rattle.call_cell.specs.Parts.{note_under}
use Rattle.call_cell.specs.Deeds.{deed, found, opposite_of, is_leaving}
use Rattle.call_cell.specs.LegHistories.{LegsStandFor, LegsRelay, EndsFor, relay_entry, sent_ok}
use Rattle.call_cell.specs.CellHistories.{CellFor, CellRelays, WasAt, cell_last_moment, relayed_at}
use Rattle.call_cell.proofs.Sends.{send_failed}
use Rattle.call_cell.proofs.Steps.{relay_protected}
use Rattle.call_cell.proofs.Protecting.{other_note}
use Rattle.call_cell.proofs.Shields.{shields}

max_again : (m n : ℕ) → max m n ≡ max (max n m) m
max_again m n = omega arith

none_failed : (sending : Option Sending) → IsSendAnswered sending true
none_failed None = refl
none_failed (Some sending) = tt

-- a relay whose outcome is no failed send made none that failed
answered : (config : Config) (h : List CellEntry) (p : Receipt) (result : Outcome) → result ≡ (deed config h p (sent_ok result)).outcome
    → IsSendAnswered (deed config h p (sent_ok result)).sending (sent_ok result)
answered config h p (outcomes.Lost (lost.SendFault family port)) q =
    let f = send_failed config h p false family port (sym q) in
    subst (λ (o : Option Sending). IsSendAnswered o false) (sym f.is_sending) tt
answered config h p (outcomes.Lost cause) q = none_failed (deed config h p true).sending
answered config h p (outcomes.Refused cause) q = none_failed (deed config h p true).sending
answered config h p (outcomes.Sent family port to len) q = none_failed (deed config h p true).sending

max_swap : (m n : ℕ) → max m n ≡ max n m
max_swap m n = omega arith

-- the last activity is this entry, where its packet was accepted
active_case : (b : Bool) (e : CellEntry) (rest : List CellEntry) (now before : ℕ) → e.moment ≡ now → WasAt (first rest) before
    → WasAt (first (cond b (e ∷ rest) rest)) (if b then now else before)
active_case true e rest now before is was = is
active_case false e rest now before is was = was

-- a packet is protected under no number that the cell hasn't got
unnoted_over : (config : Config) (h : List CellEntry) (p : Receipt) (ok : Bool) (m number : ℕ) → key_numbered h number ≡ None → protected h number ≡ []
    → protected (relay_entry m p ok (deed config h p ok) ∷ h) number ≡ []
unnoted_over config h p ok m number none unnoted =
    relay_protected m (record { packet = p; sent_ok = ok; deed = deed config h p ok }) h number
    ∙ ap (λ (l : List Note). cons_option (note_under number (deed config h p ok).shield) l) unnoted
    ∙ ap (λ (o : Option Note). cons_option o []) (other_note number (deed config h p ok).shield
    (λ s q same. let k = shields config h p ok s q in let f : ◌≡◌ {A = Option NewKey} (Some k.key) None = sym k.is_there ∙ ap (λ (n : ℕ). key_numbered h n) same ∙ none in cc))

pub cell_relays : {O : Type 0} (log : O → EndLog OutCall) (faults : O → ℕ) (config : Config) (old new : Cell O) (h : List CellEntry) (p : Receipt)
    (now : ℕ) (buf : List ℕ) (result : Outcome) (those : List (Leg O)) → CellFor config old h → new.config ≡ old.config → new.moment ≡ max old.moment now
    → new.call ≡ old.call → new.began ≡ old.began → new.is_committed ≡ old.is_committed
    → new.active ≡ (if is_accepted result then new.moment else old.active) → new.legs.items ≡ those → LegsRelay log faults config (since_end h) p old.legs.items those buf result
    → CellRelays log faults config old new h p now buf result
cell_relays {O} log faults config old new h p now buf result those for same_config moment same_call began committed active items relays =
    let e = relayed_at config h p now result in
    let d = deed config (since_end h) p (sent_ok result) in
    let last : new.moment ≡ cell_last_moment (e ∷ h) = moment ∙ ap (λ (m : ℕ). max m now) for.moment ∙ max_again (cell_last_moment h) now in
    let now_is : e.moment ≡ new.moment = max_swap now (cell_last_moment h) ∙ sym (moment ∙ ap (λ (m : ℕ). max m now) for.moment) in
    record {
      fits = record { does = refl; answered = answered config (since_end h) p result relays.outcome };
      stands = record {
        config_is = same_config ∙ for.config_is;
        moment = last;
        call_is = same_call ∙ for.call_is;
        began = subst (λ (m : ℕ). WasAt (final (filter (λ (x : CellEntry). is_some (prepared_call x)) (since_end h))) m) (sym began) for.began;
        is_committed = committed ∙ for.is_committed;
        active = subst (λ (m : ℕ). WasAt (first (filter (λ (x : CellEntry). is_activity x.event) (e ∷ since_end h))) m) (sym active)
            (subst (λ (o : Outcome). WasAt (first (filter (λ (x : CellEntry). is_activity x.event) (e ∷ since_end h))) (if is_accepted o then new.moment else old.active))
            (sym relays.outcome)
            (active_case (is_accepted d.outcome) e (filter (λ (x : CellEntry). is_activity x.event) (since_end h)) new.moment old.active now_is for.active));
        unnoted = λ number q. unnoted_over config (since_end h) p (sent_ok result) e.moment number q (for.unnoted number q);
        legs_for = subst (λ (l : List (Leg O)). LegsStandFor config (since_end (e ∷ h)) l) (sym items) (relays.legs_for e.moment);
      };
      outcome = relays.outcome;
      front = relays.front;
      ends = λ i d within. subst (λ (l : List (Leg O)). EndsFor log faults (is_leaving (opposite_of (since_end h) (found (since_end h) p)) (slice_index_or old.legs.items i d).holder)
          (deed config (since_end h) p (sent_ok result)).sending (sent_ok result) (slice_index_or old.legs.items i d).sending (slice_index_or l i d).sending)
          (sym items) (relays.ends i d within);
    }

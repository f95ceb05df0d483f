-- What a relay's outcome says of its one send.
use Rattle.std.proofs.Common.{◌≡◌, ◌∙◌, refl, sym, ap, subst, ℕ, Bool, true, false, not, List, ◌∷◌, Option, Some, None}
use Rattle.std.specs.Prelude.{MatchOption}
use Rattle.relay_outside.specs.declared.address.Family.{Family}
use Rattle.relay_outside.specs.declared.settings.Config.{Config}
use Rattle.rtp_packet.specs.declared.head.Half.{Half}
use Rattle.port_pool.specs.Ports.{pair_family, half_port}
use Rattle.call_cell.specs.declared.outcome.LocalPort.{LocalPort}
use Rattle.call_cell.specs.declared.outcome.Lost.{Lost}
use Rattle.call_cell.specs.declared.outcome.Lost.TheVariants as lost
use Rattle.call_cell.specs.declared.outcome.Outcome.{Outcome}
use Rattle.call_cell.specs.declared.outcome.Outcome.TheVariants as outcomes
use Rattle.call_cell.specs.Cells.{CellEntry, Receipt, Sending, since_end}
use Rattle.call_cell.specs.LegHistories.{sent_ok}
use Rattle.call_cell.proofs.Sends.{sent, send_failed, refused_sends_none, lost_sends_none}
use Rattle.media_lane.specs.Steps.{deed_after}
use Rattle.replay_devices.specs.Devices.{Happening, Sent, send_fails}
use Rattle.replay_devices.specs.Watch.{WatchState, WatchStandsFor, Notes}
use Rattle.replay_steps.specs.Steps.{SendsAsked}
use Rattle.replay_steps.specs.WatchNotes.{Watches, send_in}

module _ (config : Config) (h : List CellEntry) (p : Receipt) where
  -- a relay with this outcome made no send
  pub record IsUnsent (o : Outcome) : Type 0 where
    pub none : (deed_after config h p o).sending ≡ None
    pub ok : sent_ok o ≡ true

  -- it made one by this port
  pub record IsSentBy (o : Outcome) (from : LocalPort) (done : Bool) : Type 0 where
    pub sending : Sending
    pub is_sending : (deed_after config h p o).sending ≡ Some sending
    pub family_is : pair_family config sending.pair ≡ from.family
    pub port_is : half_port config sending.pair sending.half ≡ from.port
    pub ok : sent_ok o ≡ done

  other_cause : (cause : Lost) → ((family : Family) (port : ℕ) → cause ≡ lost.SendFault family port → ⊥) → sent_ok (outcomes.Lost cause) ≡ true
      → outcomes.Lost cause ≡ (deed_after config h p (outcomes.Lost cause)).outcome → IsUnsent (outcomes.Lost cause)
  other_cause cause other ok is = record { none = lost_sends_none config (since_end h) p (sent_ok (outcomes.Lost cause)) cause other (sym is); ok = ok }

  pub tells_send : (o : Outcome) → o ≡ (deed_after config h p o).outcome → MatchOption (send_in o) (IsUnsent o) (λ x. IsSentBy o x.0 x.1)
  tells_send (outcomes.Sent family port to len) is =
      let s = sent config (since_end h) p true family port to len (sym is) in
      record { sending = s.sending; is_sending = s.is_sending; family_is = sym s.family_is; port_is = sym s.port_is; ok = refl }
  tells_send (outcomes.Lost (lost.SendFault family port)) is =
      let s = send_failed config (since_end h) p false family port (sym is) in
      record { sending = s.sending; is_sending = s.is_sending; family_is = sym s.family_is; port_is = sym s.port_is; ok = refl }
  tells_send (outcomes.Lost lost.Hold) is = other_cause lost.Hold (λ family port q. let e = q in cc) refl is
  tells_send (outcomes.Lost lost.OutTooOld) is = other_cause lost.OutTooOld (λ family port q. let e = q in cc) refl is
  tells_send (outcomes.Lost lost.IndexUsed) is = other_cause lost.IndexUsed (λ family port q. let e = q in cc) refl is
  tells_send (outcomes.Lost lost.OutSources) is = other_cause lost.OutSources (λ family port q. let e = q in cc) refl is
  tells_send (outcomes.Lost lost.KeySpent) is = other_cause lost.KeySpent (λ family port q. let e = q in cc) refl is
  tells_send (outcomes.Refused cause) is = record { none = refused_sends_none config (since_end h) p true cause (sym is); ok = refl }

  -- so where none is told, none has to be noted
  pub unsent : (seed : ℕ) (w : WatchState) (o : Outcome) → IsUnsent o → Watches config seed w w (SendsAsked config o (deed_after config h p o).sending)
  unsent seed w o none past s =
      subst (λ (x : Option Sending). (now : List Happening) × SendsAsked config o x past now × WatchStandsFor config seed now w) (sym none.none) (past, (none.ok, refl), s)

  -- and one that is told is noted, and failed just where it had to
  pub sent_watched : (seed : ℕ) (old new : WatchState) (o : Outcome) (from : LocalPort) (done failing : Bool) → IsSentBy o from done
      → ((pair : ℕ) (half : Half) → pair_family config pair ≡ from.family → half_port config pair half ≡ from.port → (past : List Happening) → WatchStandsFor config seed past old → failing ≡ send_fails config past pair half)
      → ((pair : ℕ) (half : Half) (ok : Bool) → pair_family config pair ≡ from.family → half_port config pair half ≡ from.port → Notes config seed old new (Sent pair half ok))
      → done ≡ not failing → Watches config seed old new (SendsAsked config o (deed_after config h p o).sending)
  sent_watched seed old new o from done failing by fails notes asked past s =
      let w = by.sending in
      subst (λ (x : Option Sending). (now : List Happening) × SendsAsked config o x past now × WatchStandsFor config seed now new) (sym by.is_sending) (
        Sent w.pair w.half (sent_ok o) ∷ past,
        (by.ok ∙ asked ∙ ap (λ (b : Bool). not b) (fails w.pair w.half by.family_is by.port_is past s), refl),
        notes w.pair w.half (sent_ok o) by.family_is by.port_is past s,
      )

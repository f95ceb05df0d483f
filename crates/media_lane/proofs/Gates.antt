-- The gate was passed at the cells of the relays that a list gained.
use Rattle.std.proofs.Common.{◌≡◌, ◌∙◌, sym, ap, subst, ℕ, inl, inr, List, [], ◌∷◌, ◌++◌}
use Rattle.histories.specs.Words.{In, here, there}
use Rattle.histories.proofs.Lists.{in_append}
use Rattle.rtp_packet.specs.declared.head.Half.{Half}
use Rattle.turn_table.specs.declared.hands.Hand.{Hand}
use Rattle.turn_table.specs.Hands.{entries}
use Rattle.turn_table.specs.Steps.{entry}
use Rattle.port_pool.specs.Boxes.{Taken, BoxEvent}
use Rattle.call_cell.specs.declared.outcome.Outcome.{Outcome}
use Rattle.call_cell.specs.Cells as cells
use Rattle.call_cell.specs.Cells.{Relay, Relayed}
use Rattle.relay_core.specs.Entries.{Cell, Box, Entry}
use Rattle.relay_core.specs.Records.{Made, entry_of}
use Rattle.relay_core.specs.Turns.{made_by}
use Rattle.media_lane.specs.Gates.{AreGated, GainsGated}
use Rattle.media_lane.specs.Relays.{relay_made}
use Rattle.media_lane.specs.Takes.{take_made}
use Rattle.media_lane.proofs.Above.{made_more}

module _ (gate : ℕ → Type 0) where
  -- Lists that gained relays.

  pub gains_none : (l : List Entry) → GainsGated gate l l
  gains_none l e x i q = inl i

  pub gains_both : (a b c : List Entry) → GainsGated gate a b → GainsGated gate b c → GainsGated gate a c
  gains_both a b c first second e x i q = elim (second e x i q) [ inl j ↦ first e x j q | inr p ↦ inr p ]

  only_one : (e f : Entry) (x : Relayed) → ((y : Relayed) → e.event ≡ Cell (Relay y) → gate e.place) → In f (e ∷ []) → f.event ≡ Cell (Relay x) → gate f.place
  only_one e f x one (here q) at = subst (λ (y : Entry). gate y.place) (sym q) (one x (ap (λ (y : Entry). y.event) (sym q) ∙ at))
  only_one e f x one (there i) at = elim i [ ]

  gains_one : (l new : List Entry) (e : Entry) → new ≡ l ++ e ∷ [] → ((y : Relayed) → e.event ≡ Cell (Relay y) → gate e.place) → GainsGated gate l new
  gains_one l new e is one f x i q =
      elim (in_append l (e ∷ []) (subst (λ (k : List Entry). In f k) is i)) [
        | inl j ↦ inl j
        | inr j ↦ inr (only_one e f x one j q)
      ]

  -- All relays of a list.

  pub gated_none : (l : List Entry) → l ≡ [] → AreGated gate l
  gated_none l none e x i q = elim (subst (λ (k : List Entry). In e k) none i) [ ]

  pub gated_more : (l new : List Entry) → AreGated gate l → GainsGated gate l new → AreGated gate new
  gated_more l new gated gains e x i q = elim (gains e x i q) [ inl j ↦ gated e x j q | inr p ↦ p ]

  -- both parts of a list
  pub gated_both : (l k : List Entry) → AreGated gate l → AreGated gate k → AreGated gate (l ++ k)
  gated_both l k first second e x i q = elim (in_append l k i) [ inl j ↦ first e x j q | inr j ↦ second e x j q ]

box_no_relay : (b : BoxEvent) (x : Relayed) → Box b ≡ Cell (Relay x) → ⊥
box_no_relay b x q = absurd (let k = q in cc)

module _ {M S : Type 0} {g : _} (gate : ℕ → Type 0) (old new : Hand M S Made (Unit {0}) g) where
  -- the hand made a take
  pub gains_take : (place number : ℕ) (half : Half) (taken : Taken) → entries new ≡ entries old ++ entry place number (take_made half taken) (tt {0}) ∷ []
      → GainsGated gate (made_by old) (made_by new)
  gains_take place number half taken is =
      let row = entry place number (take_made half taken) (tt {0}) in
      gains_one gate (made_by old) (made_by new) (entry_of {T = Unit {0}} row) (made_more old new row is) (λ x q. absurd (box_no_relay _ x q))

  -- it relayed a packet, with the gate passed at its cell
  pub gains_relay : (p : cells.Receipt) (number now moment : ℕ) (outcome : Outcome)
      → entries new ≡ entries old ++ entry p.holder.cell number (relay_made p now moment outcome) (tt {0}) ∷ [] → gate p.holder.cell
      → GainsGated gate (made_by old) (made_by new)
  gains_relay p number now moment outcome is at =
      let row = entry p.holder.cell number (relay_made p now moment outcome) (tt {0}) in
      gains_one gate (made_by old) (made_by new) (entry_of {T = Unit {0}} row) (made_more old new row is) (λ x q. at)

-- The ends of what the main hand is given, and so of what leaves its place, are those that were opened for its ports.
use Rattle.std.proofs.Common.{◌≡◌, sym, subst, ℕ, ◌<◌, ◌≤◌, List, Option}
use Rattle.relay_outside.specs.declared.ports.InCall.{InCall}
use Rattle.relay_outside.specs.declared.ports.OutCall.{OutCall}
use Rattle.relay_outside.specs.declared.settings.Config.{Config}
use Rattle.relay_outside.specs.DeviceLogs.{EndLog, IsOpenedFor}
use Rattle.rtp_packet.specs.declared.head.Half.TheVariants.{Rtp, Rtcp}
use Rattle.turn_table.specs.declared.hands.Turns.{Turns}
use Rattle.turn_table.specs.declared.hands.Hand.{Hand}
use Rattle.turn_table.specs.Hands.{starts, view}
use Rattle.port_pool.specs.Ports.{pair_count, port_address, rtcp_address, AreOfPair}
use Rattle.port_pool.specs.declared.pairs.Lease.{Lease}
use Rattle.call_cell.specs.declared.leg.Leg.{Leg}
use Rattle.call_cell.specs.declared.cell.Cell as cell
use Rattle.call_cell.specs.declared.prepare.Prepare as prepared
use Rattle.call_cell.specs.Cells.{CellEntry}
use Rattle.call_cell.specs.Shapes.{FormsStay}
use Rattle.relay_core.specs.declared.part.Part.{Part}
use Rattle.relay_core.specs.declared.part.Part.TheVariants as part
use Rattle.relay_core.specs.Entries.{box_of}
use Rattle.relay_core.specs.Records.{Made}
use Rattle.relay_core.specs.PlaceHistories.{CellIs, AreHome, GoneHome}
use Rattle.relay_core.specs.Homes.{IsCellHome, KeepsHome}
use Rattle.relay_core.specs.Steps.{AreOpened}
use Rattle.relay_core.proofs.KeptGiven.{IsBoxAt, kept_box_at}
use Rattle.relay_core.proofs.GivenHomes.{given_box_home}
use Rattle.relay_core.proofs.HomesGiven.{cell_home_given, first_home}
use Rattle.relay_core.proofs.HomesKept.{forms_gone_home}
use Rattle.board_turns.specs.NestedSteps.{MayNest, Shuts}
use Rattle.board_turns.specs.InCells.{OpenedFor}
use Rattle.board_turns.specs.BoxStates.{FitEnds}
use Rattle.board_turns.proofs.Boxing.{Gives}

module _ {I O : Type 0} (it : I → EndLog InCall) (ot : O → EndLog OutCall) where
  ends_fit : (config : Config) (pair : ℕ) (x : Part I O) (ends : I × I) → IsBoxAt (port_address config pair Rtp) x → IsOpenedFor (port_address config pair Rtp) (it ends.0)
      → IsOpenedFor (port_address config pair Rtcp) (it ends.1) → FitEnds it x ends
  ends_fit config pair (part.Board b) ends at rtp rtcp = absurd at
  ends_fit config pair (part.Cell c) ends at rtp rtcp = absurd at
  ends_fit config pair (part.Pair box) ends at rtp rtcp =
      (subst (λ (a : _). IsOpenedFor a (it ends.0)) (sym at) rtp, subst (λ (a : _). IsOpenedFor (rtcp_address a) (it ends.1)) (sym at) rtcp)

  pub opened_for : (config : Config) (x : Part I O) (h : List CellEntry) (signal : prepared.Prepare O) → CellIs config x h → AreOpened ot config signal → OpenedFor ot x signal
  opened_for config (part.Board b) h signal is opened = absurd is
  opened_for config (part.Pair b) h signal is opened = absurd is
  opened_for config (part.Cell c) h signal is opened = subst (λ (k : Config). AreOpened ot k signal) (sym is.2.config_is) opened

module _ {M I O T : Type 0} {g : _} (it : I → EndLog InCall) (ic : I → ℕ) (ot : O → EndLog OutCall) (oc : O → ℕ) where
  -- Boxes.

  -- the ends that come fit the box that the hand is given
  pub fit_given : (config : Config) (turns : Turns M (Part I O) Made T) (hand : Hand M (Part I O) Made T g) (pair found n : ℕ) (x now : Part I O) (ends : I × I)
      → MayNest config turns hand → pair < pair_count config → found ≡ box_of config pair → now ≡ x → Gives it ic ot oc hand found n x
      → IsOpenedFor (port_address config pair Rtp) (it ends.0) → IsOpenedFor (port_address config pair Rtcp) (it ends.1) → FitEnds it now ends
  fit_given config turns hand pair found n x now ends may below at same given rtp rtcp =
      let there : Gives it ic ot oc hand (box_of config pair) n now
      = subst (λ (k : ℕ). Gives it ic ot oc hand k n now) at (subst (λ (z : Part I O). Gives it ic ot oc hand found n z) (sym same) given) in
      ends_fit it ot config pair now ends (kept_box_at it ic ot oc config (view hand) pair n now may.whole_parts below there) rtp rtcp

  -- the ends of the box that was shut are those of its pair
  pub shut_home : (config : Config) (turns : Turns M (Part I O) Made T) (hand : Hand M (Part I O) Made T g) (pair : ℕ) (made : Made) (ends : I × I)
      → MayNest config turns hand → Shuts it ic ot oc hand (box_of config pair) made ends → AreOfPair it (port_address config pair Rtp) ends.0 ends.1
  shut_home config turns hand pair made ends may shuts =
      let home = given_box_home it ic ot oc config (view hand) pair shuts.step.number (part.Pair shuts.old) may.parts shuts.step.given in
      subst (λ (at : _). AreOfPair it at ends.0 ends.1) home.0 (subst (λ (o : Option (I × I)). AreHome it shuts.old.at o) shuts.ends_are home.1)

  -- Cells.

  -- the cell that the hand is given has those of its pairs, whatever its history
  pub home_held : (config : Config) (turns : Turns M (Part I O) Made T) (hand : Hand M (Part I O) Made T g) (place found n : ℕ) (x now : Part I O)
      → MayNest config turns hand → 1 ≤ place → place ≤ config.max_sessions → found ≡ place → now ≡ x → Gives it ic ot oc hand found n x → KeepsHome ot config now
  home_held config turns hand place found n x now may low high at same given =
      let there : Gives it ic ot oc hand place n now
      = subst (λ (k : ℕ). Gives it ic ot oc hand k n now) at (subst (λ (z : Part I O). Gives it ic ot oc hand found n z) (sym same) given) in
      cell_home_given it ic ot oc config (view hand) place n now (first_home it ot oc config (starts hand) may.parts) low high there

-- so what goes from it has them
pub went_home : {I O : Type 0} (ot : O → EndLog OutCall) (oc : O → ℕ) (config : Config) (x : Part I O) (old : cell.Cell O) (came new : List (Leg O)) (gone : List (Lease × O × O))
    → x ≡ part.Cell old → KeepsHome ot config x → FormsStay came old.legs.items new gone → GoneHome ot config gone
went_home {I} {O} ot oc config x old came new gone is home forms =
    let held : IsCellHome ot config old = subst (λ (y : Part I O). KeepsHome ot config y) is home in
    forms_gone_home ot oc config came old.legs.items new gone forms held.legs held.paired

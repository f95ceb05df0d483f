-- The ends of the state that a turn of the main hand gives are those of its ports.
use Rattle.std.proofs.Common.{◌≡◌, subst, sym, ℕ, ◌≤◌, true, [], Option, arith}
use Rattle.relay_outside.specs.declared.ports.InCall.{InCall}
use Rattle.relay_outside.specs.declared.ports.OutCall.{OutCall}
use Rattle.relay_outside.specs.declared.settings.Config.{Config}
use Rattle.relay_outside.specs.DeviceLogs.{EndLog}
use Rattle.rtp_packet.specs.declared.head.Half.TheVariants.{Rtp}
use Rattle.turn_table.specs.declared.view.View.{View}
use Rattle.port_pool.specs.Ports.{port_address}
use Rattle.port_pool.specs.PairBoxes.{at_of}
use Rattle.relay_core.specs.declared.part.Part.{Part}
use Rattle.relay_core.specs.declared.part.Part.TheVariants as part
use Rattle.relay_core.specs.FirstPlaces.{AreParts, BeginsAs, pair_at}
use Rattle.relay_core.specs.Entries.{box_of, cell_history}
use Rattle.relay_core.specs.Records.{Made, list_of}
use Rattle.relay_core.specs.PlaceHistories.{BringsNewKeys, AreHome, BoxHome, CellHome}
use Rattle.relay_core.specs.Turns.{Numbered}
use Rattle.relay_core.proofs.Stays.{home_stays}
use Rattle.relay_core.proofs.Homes.{no_legs_home, rows_home}
use Rattle.relay_core.proofs.Given.{Gives, begins_as, cell_begins, given_brings}

module _ {I O : Type 0} (it : I → EndLog InCall) (ot : O → EndLog OutCall) (oc : O → ℕ) where
  pub box_begins_home : (config : Config) (pair : ℕ) (x : Part I O) → BeginsAs config (box_of config pair) x → BoxHome it config pair x
  box_begins_home config pair (part.Board b) is = absurd (let k = is.0 in omega (arith, k))
  box_begins_home config pair (part.Cell c) is = absurd (let k = is.1 in omega (arith, k))
  box_begins_home config pair (part.Pair b) is =
      let there : pair_at config (box_of config pair) ≡ pair = omega arith in
      (subst (λ (n : ℕ). at_of b ≡ port_address config n Rtp) there is.1.3, subst (λ (o : Option (I × I)). AreHome it (at_of b) o) (sym is.1.1) tt)

  cell_begins_home : (config : Config) (k : ℕ) (x : Part I O) → 1 ≤ k → k ≤ config.max_sessions → BeginsAs config k x → CellHome ot config x
  cell_begins_home config k (part.Board b) low high is = absurd (let l = is.0 in omega (arith, l, low))
  cell_begins_home config k (part.Cell c) low high is = no_legs_home ot oc config c is.2.legs_for
  cell_begins_home config k (part.Pair b) low high is = absurd (let l = is.0 in omega (arith, l, high))

module _ {T I O : Type 0} (it : I → EndLog InCall) (ic : I → ℕ) (ot : O → EndLog OutCall) (oc : O → ℕ) where
  -- of a box, by any hand
  pub given_box_home : (config : Config) (v : View (Part I O) Made T) (pair n : ℕ) (x : Part I O) → AreParts config v.starts
      → Gives it ic ot oc (box_of config pair) v n x → BoxHome it config pair x
  given_box_home config v pair n x are g =
      home_stays it ic ot oc config pair g.start x g.history g.leaves
      (box_begins_home it ot oc config pair g.start (begins_as config v.starts are (box_of config pair) g.start g.starts))

  -- of a cell, by the main hand, where each key that an offer brought was new
  pub given_cell_home : (config : Config) (v : View (Part I O) Made T) (k n : ℕ) (x : Part I O) → AreParts config v.starts → 1 ≤ k → k ≤ config.max_sessions
      → Gives it ic ot oc k v n x → v.main ≡ true → Numbered (list_of v.entries) → BringsNewKeys (cell_history (list_of v.entries) k n) → CellHome ot config x
  given_cell_home config v k n x are low high g main numbered brings =
      let first = begins_as config v.starts are k g.start g.starts in
      let b = cell_begins config k g.start low high first in
      rows_home it ic ot oc config g.start x g.history [] b.0 g.leaves (given_brings it ic ot oc k v n x g main numbered brings) b.1
      (cell_begins_home it ot oc config k g.start low high first)

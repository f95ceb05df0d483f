-- A relay by a lane, from what its turn gave to what its hand's list gained.
use Rattle.std.proofs.Common.{◌≡◌, refl, sym, ◌∙◌, ap, subst, ℕ, ◌≤◌, true, max, List, [], ◌∷◌, ◌++◌, Option, length, take}
use Rattle.std.proofs.lemmas.List.{length-take-le}
use Rattle.relay_outside.specs.declared.settings.Config.{Config}
use Rattle.relay_outside.specs.declared.ports.InCall.{InCall}
use Rattle.relay_outside.specs.declared.ports.OutCall.{OutCall}
use Rattle.relay_outside.specs.DeviceLogs.{EndLog}
use Rattle.turn_table.specs.declared.hands.Hand.{Hand}
use Rattle.turn_table.specs.Hands.{entries}
use Rattle.turn_table.specs.Steps.{entry}
use Rattle.call_cell.specs.declared.outcome.Incoming.{Incoming}
use Rattle.call_cell.specs.declared.outcome.Outcome.{Outcome}
use Rattle.call_cell.specs.declared.outcome.Outcome.TheVariants as outcomes
use Rattle.call_cell.specs.declared.cell.Cell as cell
use Rattle.call_cell.specs.Cells as cells
use Rattle.call_cell.specs.Cells.{CellEntry, Sending, since_end}
use Rattle.call_cell.specs.CellHistories.{CellFor, CellRelays}
use Rattle.call_cell.specs.Deeds.{deed}
use Rattle.call_cell.specs.LegHistories.{receipt_of, sent_ok, FrontIs}
use Rattle.call_cell.proofs.Sends.{sent}
use Rattle.relay_core.specs.declared.part.Part.{Part}
use Rattle.relay_core.specs.declared.part.Part.TheVariants as part
use Rattle.relay_core.specs.Entries.{Entry}
use Rattle.relay_core.specs.Records.{Made, entry_of, logged_relay}
use Rattle.relay_core.specs.Steps.{Relates, with_take, CellRelayed}
use Rattle.call_cell.specs.Shapes.{KeepsPorts, CountsRoseByOne, cell_shape}
use Rattle.relay_core.specs.Turns.{made_by}
use Rattle.media_lane.specs.Busy.{Gives}
use Rattle.media_lane.specs.Receipts.{IsReceiptOf, KeepsList}
use Rattle.media_lane.specs.Relays.{relay_made, relay_by, bytes_left, AreSent, RelaysPart, MakesRelay}
use Rattle.media_lane.proofs.Above.{above, made_more}
use Rattle.media_lane.proofs.Keeping.{relay_keeps}

-- The bytes that left.

sent_bytes : (config : Config) (h : List CellEntry) (p : cells.Receipt) (buf : List ℕ) (outcome : Outcome) → outcome ≡ (deed config (since_end h) p (sent_ok outcome)).outcome
    → FrontIs outcome (deed config (since_end h) p (sent_ok outcome)).sending buf
    → AreSent outcome (deed config (since_end h) p (sent_ok outcome)).sending (take (bytes_left outcome) buf)
sent_bytes config h p buf (outcomes.Sent family port to len) is front =
    let s = sent config (since_end h) p true family port to len (sym is) in
    subst (λ (o : Option Sending). AreSent (outcomes.Sent family port to len) o (take len buf)) (sym s.is_sending)
    (subst (λ (o : Option Sending). FrontIs (outcomes.Sent family port to len) o buf) s.is_sending front)
sent_bytes config h p buf (outcomes.Lost cause) is front = refl
sent_bytes config h p buf (outcomes.Refused cause) is front = refl

-- the packet of a receipt whose bytes were put at the front of a room
pub put_packet : (number : ℕ) (packet : Incoming) (bytes front shown : List ℕ) → shown ≡ take packet.len bytes → packet.len ≤ length bytes → take (length shown) front ≡ shown
    → receipt_of number packet front ≡ receipt_of number packet bytes
put_packet number packet bytes front shown is within put =
    ap (λ (them : List ℕ). record { take = number; half = packet.half; source = packet.source; bytes = them; holder = packet.holder })
    (ap (λ (n : ℕ). take n front) (sym (ap (λ (them : List ℕ). length them) is ∙ length-take-le packet.len bytes within)) ∙ put ∙ is)

-- The step.

pub part_relays : {I O : Type 0} (ot : O → EndLog OutCall) (oc : O → ℕ) (p q : cells.Receipt) (now : ℕ) (x : Part I O) (old new : cell.Cell O) (buf : List ℕ) (outcome : Outcome)
    → x ≡ part.Cell old → q ≡ p → cell_shape new ≡ cell_shape old → CountsRoseByOne old.legs.items new.legs.items → KeepsPorts ot old.legs.items new.legs.items
    → ((config : Config) (h : List CellEntry) (take : ℕ) → CellFor config old h → CellRelays ot oc config old new h (with_take take q) now buf outcome)
    → RelaysPart ot oc p now x buf outcome (part.Cell new)
part_relays {I} ot oc p q now x old new buf outcome is same shape counts ports relays =
    subst (λ (y : Part I _). RelaysPart ot oc p now y buf outcome (part.Cell new)) (sym is)
    (shape, counts, ports, λ config h take for. subst (λ (r : cells.Receipt). CellRelays ot oc config old new h (with_take take r) now buf outcome) same (relays config h take for))

module _ {I O : Type 0} (it : I → EndLog InCall) (ic : I → ℕ) (ot : O → EndLog OutCall) (oc : O → ℕ) where
  cell_relayed : (p : cells.Receipt) (now : ℕ) (buf : List ℕ) (outcome : Outcome) (old new : cell.Cell O) → cell_shape new ≡ cell_shape old
      → CountsRoseByOne old.legs.items new.legs.items → KeepsPorts ot old.legs.items new.legs.items
      → ((config : Config) (h : List CellEntry) (take : ℕ) → CellFor config old h → CellRelays ot oc config old new h (with_take take p) now buf outcome)
      → CellRelayed ot oc old (relay_made p now (max now old.moment) outcome) (logged_relay p outcome) new
  cell_relayed p now buf outcome old new shape counts ports relays = record {
    is_told = refl;
    shape = shape;
    counts = counts;
    legs = ports;
    buffer = buf;
    steps = λ config h take for. (ap (λ (m : ℕ). max now m) for.moment, relays config h take for);
  }

  -- it is a step of the machine
  pub relates : (p : cells.Receipt) (now : ℕ) (buf : List ℕ) (outcome : Outcome) (x y : Part I O) → RelaysPart ot oc p now x buf outcome y
      → Relates it ic ot oc x (relay_by x p now outcome) y
  relates p now buf outcome (part.Cell old) (part.Cell new) r = cell_relayed p now buf outcome old new r.0 r.1 r.2 r.3
  relates p now buf outcome (part.Cell old) (part.Board new) r = absurd r
  relates p now buf outcome (part.Cell old) (part.Pair new) r = absurd r
  relates p now buf outcome (part.Board old) y r = absurd r
  relates p now buf outcome (part.Pair old) y r = absurd r

  module _ {M : Type 0} {g : _} (p : cells.Receipt) (now : ℕ) (outcome : Outcome) (old new : Hand M (Part I O) Made (Unit {0}) g) (number : ℕ) (buf bytes : List ℕ)
      (Tried : Type 0) (found : Tried) (are : bytes ≡ take (bytes_left outcome) buf) where
    made_of : (a b : cell.Cell O) → Gives it ic ot oc old p.holder.cell number (part.Cell a) → cell_shape b ≡ cell_shape a
        → CountsRoseByOne a.legs.items b.legs.items → KeepsPorts ot a.legs.items b.legs.items
        → ((config : Config) (h : List CellEntry) (take : ℕ) → CellFor config a h → CellRelays ot oc config a b h (with_take take p) now buf outcome)
        → entries new ≡ entries old ++ entry p.holder.cell number (relay_made p now (max now a.moment) outcome) (tt {0}) ∷ []
        → MakesRelay it ic ot oc Tried p now outcome bytes old new
    made_of a b given shape counts ports relays list_is = record {
      number = number;
      moment = max now a.moment;
      list_is = list_is;
      found = found;
      before = a;
      after = b;
      given = given;
      step = cell_relayed p now buf outcome a b shape counts ports relays;
      are_sent = λ config h for. (let r = relays config h p.take for in
          subst (λ (s : List ℕ). AreSent outcome (deed config (since_end h) p (sent_ok outcome)).sending s) (sym are) (sent_bytes config h p buf outcome r.outcome r.front));
    }

    -- what a call that tried so has made
    pub relays_by : (x y : Part I O) → Gives it ic ot oc old p.holder.cell number x → RelaysPart ot oc p now x buf outcome y
        → entries new ≡ entries old ++ entry p.holder.cell number (relay_by x p now outcome) (tt {0}) ∷ [] → MakesRelay it ic ot oc Tried p now outcome bytes old new
    relays_by (part.Cell a) (part.Cell b) given r list_is = made_of a b given r.0 r.1 r.2 r.3 list_is
    relays_by (part.Cell a) (part.Board b) given r list_is = absurd r
    relays_by (part.Cell a) (part.Pair b) given r list_is = absurd r
    relays_by (part.Board a) y given r list_is = absurd r
    relays_by (part.Pair a) y given r list_is = absurd r

  pub keeps : {M : Type 0} {g : _} (config : Config) (pair : ℕ) (p : cells.Receipt) (now : ℕ) (outcome : Outcome) (old new : Hand M (Part I O) Made (Unit {0}) g) (number : ℕ) (x : Part I O)
      → IsReceiptOf config (made_by old) pair p → Gives it ic ot oc old p.holder.cell number x
      → entries new ≡ entries old ++ entry p.holder.cell number (relay_by x p now outcome) (tt {0}) ∷ [] → KeepsList config (made_by old) (made_by new)
  keeps config pair p now outcome old new number x rec given list_is =
      let row = entry p.holder.cell number (relay_by x p now outcome) (tt {0}) in
      subst (λ (l : List Entry). KeepsList config (made_by old) l) (sym (made_more old new row list_is))
      (relay_keeps config (made_by old) (entry_of {T = Unit {0}} row) pair p (logged_relay p outcome) rec refl refl refl (above it ic ot oc old p.holder.cell number x given))

-- Which offers and answers can come to a cell, by what it keeps: then they can come after each history that it stands for.
use Rattle.std.specs.Prelude.{◌≡◌, ◌<◌, ℕ, false, true, List, map, Option, Some, None}
use Rattle.std.specs.List.{AllPairs}
use Rattle.histories.specs.Words.{In, has}
use Rattle.relay_outside.specs.declared.settings.Config.{Config}
use Rattle.sdes_lines.specs.declared.crypto_line.Suite.{Suite}
use Rattle.sdes_lines.specs.declared.crypto_line.Suite.TheVariants.{Tag80, Tag32}
use Rattle.port_pool.specs.declared.holder.Holder.{Holder}
use Rattle.port_pool.specs.declared.signal.SectionSignal.{SectionSignal}
use Rattle.port_pool.specs.Signals.{NewKey, same_leg}
use Rattle.port_pool.specs.Ports.{pair_family, half_port}
use Rattle.rtp_packet.specs.declared.head.Half.{Half}
use Rattle.call_cell.specs.Cells.{CellEntry, key_numbered}
use Rattle.call_cell.specs.Commits.{outbound_in, said_of}
use Rattle.call_cell.specs.LegHistories.{port_by}
use Rattle.call_cell.specs.LegKeys.{is_for_leg}
use Rattle.call_cell.specs.Preparations.{AreTwo, added}
use Rattle.call_cell.specs.Shapes.{CellLegShape, CellShape}
use Rattle.call_cell.specs.declared.leg.Leg.{Leg}
use Rattle.call_cell.specs.declared.prepare.Prepare as prepared

-- the number of the leg's key for a suite
abbrev pub key_number_on : Suite → CellLegShape → Option ℕ
key_number_on Tag80 leg = leg.tag80
key_number_on Tag32 leg = leg.tag32

-- the leg has a key of this number
abbrev pub HasNumber : CellLegShape → ℕ → Type 0
HasNumber leg number = (suite : Suite) × (key_number_on suite leg ≡ Some number)

-- An answer: each outbound number that its signal has for a leg is that of one of the leg's keys.
abbrev pub AnswerComesTo : CellShape → List SectionSignal → Type 0
AnswerComesTo shape signal = (leg : CellLegShape) (number : ℕ) → In leg shape.legs → outbound_in (said_of signal leg.holder) ≡ Some number → HasNumber leg number

-- What an offer adds: legs of the first eight sections, by leases with the family and port of their pairs, of which no two are one or stand on one
-- place; and keys with numbers of their own, one for a leg and a suite.
pub record AddsWell {O : Type 0} (config : Config) (signal : prepared.Prepare O) (keys : List NewKey) : Type 0 where
  pub sections : (leg : Leg O) → In leg signal.legs.items → leg.holder.section < 8
  pub families : (leg : Leg O) → In leg signal.legs.items → leg.lease.family ≡ pair_family config leg.holder.pair
  pub ports : (leg : Leg O) → In leg signal.legs.items → (half : Half) → port_by half leg.lease.rtp_port ≡ half_port config leg.holder.pair half
  pub differ : AllPairs AreTwo (added signal)
  pub numbers : (key other : NewKey) → In key keys → In other keys → key.number ≡ other.number → key ≡ other
  pub suites : (key other : NewKey) → In key keys → In other keys → key.section ≡ other.section → key.side ≡ other.side → key.suite ≡ other.suite → key.number ≡ other.number

-- An offer: of the cell's legs none is one that it adds, none that stays has a place of those, and none that stays has a key of one of the
-- suites for which the offer brings it a key.
pub record OfferComesTo {O : Type 0} (config : Config) (shape : CellShape) (signal : prepared.Prepare O) (keys : List NewKey) (dropped : List ℕ) : Type 0 where
  pub adds : AddsWell config signal keys
  pub new_lease : (leg : Holder) (other : CellLegShape) → In leg (added signal) → In other shape.legs → same_leg other.holder leg ≡ true → ⊥
  pub free_place : (leg : Holder) (other : CellLegShape) → In leg (added signal) → In other shape.legs → has dropped other.holder.section ≡ false
      → other.holder.section ≡ leg.section → other.holder.side ≡ leg.side → ⊥
  pub free_key : (key : NewKey) (leg : CellLegShape) → In key keys → In leg shape.legs → has dropped leg.holder.section ≡ false → is_for_leg leg.holder key ≡ true
      → key_number_on key.suite leg ≡ None

-- no key of these has the number of one that the entries brought
abbrev pub HaveNewNumbers : List CellEntry → List NewKey → Type 0
HaveNewNumbers h keys = (key : NewKey) → In key keys → key_numbered h key.number ≡ None

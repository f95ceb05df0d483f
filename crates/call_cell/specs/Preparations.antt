-- What an offer prepares for a cell, and what the cell makes of it.
use Rattle.std.specs.Prelude.{◌≡◌, ◌<◌, ◌≤◌, ◌+◌, ◌-◌, ◌&&◌, ◌==◌, not, ℕ, Bool, true, false, min, max, List, [], ◌∷◌, ◌++◌, map, filter, filter_map, count_by, Option, Some, None, IsSome, Box, vec_len, vec_capacity, slice_index_or, if◌then◌else◌}
use Rattle.std.specs.Global.{Global}
use Rattle.std.specs.List.{AllPairs, AllZip}
use Rattle.relay_outside.specs.declared.settings.Config.{Config}
use Rattle.rtp_packet.specs.declared.head.Half.{Half}
use Rattle.sdes_lines.specs.declared.crypto_line.Suite.{Suite}
use Rattle.sdes_lines.specs.declared.crypto_line.Suite.TheVariants.{Tag80, Tag32}
use Rattle.histories.specs.Words.{In, has, numbers}
use Rattle.port_pool.specs.Ports.{pair_family, half_port}
use Rattle.port_pool.specs.declared.pairs.Lease.{Lease}
use Rattle.port_pool.specs.declared.holder.Holder.{Holder}
use Rattle.port_pool.specs.Signals.{NewKey, same_leg, side_eq}
use Rattle.call_cell.specs.declared.contexts.Outbound.{Outbound}
use Rattle.call_cell.specs.declared.sender.Sending.{Sending}
use Rattle.call_cell.specs.declared.leg.Leg.{Leg}
use Rattle.call_cell.specs.declared.prepare.PreparedKey.{PreparedKey}
use Rattle.call_cell.specs.declared.prepare.Prepare as prepared
use Rattle.call_cell.specs.declared.cell.Cell.{Cell}
use Rattle.call_cell.specs.Cells.{CellEntry, Prepare, legs, key_numbered}
use Rattle.call_cell.specs.Demands.{FitsCell}
use Rattle.call_cell.specs.LegKeys.{keys_for, OnePerSuite}
use Rattle.call_cell.specs.Contexts.{OutboundFor}
use Rattle.call_cell.specs.Counts.{no_counts}
use Rattle.call_cell.specs.Parts.{ReceivingFor, contexts_of}
use Rattle.call_cell.specs.LegHistories.{port_by, with_sending}
use Rattle.call_cell.specs.CellHistories.{CellFor, cell_last_moment}
use Rattle.call_cell.specs.CellEnds.{parts_of}
use Rattle.call_cell.specs.DroppedLegs.{FlagsAre, stays}

-- What is prepared.

-- the contexts in the place are of the key that was drawn, and have protected no packet
abbrev pub IsOutboundAnew : NewKey → Option Outbound → Type 0
IsOutboundAnew key None = ⊥
IsOutboundAnew key (Some contexts) = OutboundFor key contexts []

-- the key for which the place was prepared
abbrev pub place_key : PreparedKey → NewKey
place_key prepared = record { number = prepared.key.value.number; section = prepared.section; side = prepared.side; suite = prepared.suite; bytes = prepared.key.value.bytes }

pub record IsPrepared (prepared : PreparedKey) (key : NewKey) : Type 0 where
  pub key_is : place_key prepared ≡ key
  pub section : prepared.section ≡ key.section
  pub side : prepared.side ≡ key.side
  pub suite : prepared.suite ≡ key.suite
  pub contexts : IsOutboundAnew key prepared.contexts.value

-- a leg that no answer has committed yet: it has received and sent nothing and has no key
pub record IsFreshLeg {O : Type 0} (leg : Leg O) : Type 0 where
  pub pair : leg.lease.pair ≡ leg.holder.pair
  pub generation : leg.lease.generation ≡ leg.holder.generation
  pub signal : leg.signal ≡ None
  pub receiving : ReceivingFor None leg.receiving (λ half. None) []
  pub ends : IsSome leg.sending.ends
  pub keyless : (suite : Suite) → contexts_of suite leg.sending ≡ None
  pub uncounted : leg.counts ≡ no_counts
  pub unreported : leg.report ≡ None

-- the new legs, in lease order
abbrev pub added : {O : Type 0} → prepared.Prepare O → List Holder
added {O} signal = map (λ (leg : Leg O). leg.holder) signal.legs.items

abbrev pub parts_added : {O : Type 0} → prepared.Prepare O → List (Lease × O × O)
parts_added {O} signal = filter_map (λ (leg : Leg O). parts_of leg) signal.legs.items

-- the new keys, in the order in which they were added
abbrev pub prepared_keys : {O : Type 0} → prepared.Prepare O → List NewKey
prepared_keys signal = map place_key signal.keys.items

-- the sections whose legs are dropped, upwards
abbrev pub drops_of : {O : Type 0} → prepared.Prepare O → List ℕ
drops_of signal = filter (λ section. slice_index_or signal.dropped section false) (numbers 0 8)

-- how many more legs and keys there is room for
abbrev pub leg_room : {O : Type 0} → prepared.Prepare O → ℕ
leg_room signal = vec_capacity signal.legs - vec_len signal.legs

abbrev pub key_room : {O : Type 0} → prepared.Prepare O → ℕ
key_room signal = min (vec_len signal.spare) (vec_capacity signal.keys - vec_len signal.keys)

-- the cell's legs find their places, of which there are 16
pub record IsReady {O : Type 0} (signal : prepared.Prepare O) : Type 0 where
  pub none : vec_len signal.places ≡ 0
  pub room : 16 ≤ vec_capacity signal.places

-- what was prepared is these keys, and the legs of these sections dropped
pub record PrepareFor {O : Type 0} (signal : prepared.Prepare O) (keys : List NewKey) (dropped : List ℕ) : Type 0 where
  pub keys_are : AllZip IsPrepared signal.keys.items keys
  pub drops : FlagsAre signal.dropped (has dropped)
  pub fresh : (leg : Leg O) → In leg signal.legs.items → IsFreshLeg leg

-- What is done with it.

-- the legs that stay and the new ones are at most 16
pub record FitsPlaces {O : Type 0} (cell : Cell O) (signal : prepared.Prepare O) : Type 0 where
  pub before : vec_len cell.legs ≤ 16
  pub after : count_by (λ (leg : Leg O). stays signal.dropped leg) cell.legs.items + vec_len signal.legs ≤ 16

abbrev pub prepare_entry : ℕ → ℕ → List Holder → List NewKey → List ℕ → CellEntry
prepare_entry moment call new keys dropped = record { moment = moment; event = Prepare call new keys dropped }

-- two new legs: they are not one, and stand on different places
pub record AreTwo (a b : Holder) : Type 0 where
  pub lease : same_leg a b ≡ true → ⊥
  pub place : a.section ≡ b.section → a.side ≡ b.side → ⊥

-- an offer's new legs and keys can come, after a history since the last End
pub record CanCome {O : Type 0} (config : Config) (h : List CellEntry) (signal : prepared.Prepare O) (call : ℕ) (keys : List NewKey) (dropped : List ℕ) : Type 0 where
  pub sections : (leg : Leg O) → In leg signal.legs.items → leg.holder.section < 8
  pub families : (leg : Leg O) → In leg signal.legs.items → leg.lease.family ≡ pair_family config leg.holder.pair
  pub ports : (leg : Leg O) → In leg signal.legs.items → (half : Half) → port_by half leg.lease.rtp_port ≡ half_port config leg.holder.pair half
  pub differ : AllPairs AreTwo (added signal)
  pub new_lease : (leg other : Holder) → In leg (added signal) → In other (legs h) → same_leg other leg ≡ true → ⊥
  pub free_place : (leg other : Holder) → In leg (added signal) → In other (legs h) → has dropped other.section ≡ false
      → other.section ≡ leg.section → other.side ≡ leg.side → ⊥
  pub one_each : (leg : Holder) → In leg (legs (prepare_entry 0 call (added signal) keys dropped ∷ h))
      → OnePerSuite (keys_for (prepare_entry 0 call (added signal) keys dropped ∷ h) leg)
  pub new_number : (key : NewKey) → In key keys → key_numbered h key.number ≡ None
  pub numbers_differ : (key other : NewKey) → In key keys → In other keys → key.number ≡ other.number → key ≡ other

abbrev pub prepared_at : {O : Type 0} → List CellEntry → prepared.Prepare O → ℕ → List NewKey → List ℕ → ℕ → CellEntry
prepared_at h signal call keys dropped now = prepare_entry (max now (cell_last_moment h)) call (added signal) keys dropped

-- an offer after that history: the cell stands for it with the offer, and the legs of dropped sections went, in lease order;
-- leases and ends are as they were
pub record CellPrepares {O : Type 0} (config : Config) (old new : Cell O) (h : List CellEntry) (signal : prepared.Prepare O) (call : ℕ) (keys : List NewKey)
    (dropped : List ℕ) (now : ℕ) (gone : List (Lease × O × O)) : Type 0 where
  pub fits : FitsCell config h (prepared_at h signal call keys dropped now)
  pub stands : CellFor config new (prepared_at h signal call keys dropped now ∷ h)
  pub went : gone ≡ filter_map (λ (leg : Leg O). parts_of leg) (filter (λ (leg : Leg O). has dropped leg.holder.section) old.legs.items)
  pub stay : map (λ (leg : Leg O). parts_of leg) new.legs.items
      ≡ map (λ (leg : Leg O). parts_of leg) (filter (λ (leg : Leg O). not (has dropped leg.holder.section)) old.legs.items)
      ++ map (λ (leg : Leg O). parts_of leg) signal.legs.items

-- A key comes to its leg.

-- the key is for this leg
abbrev pub is_key_at : {O : Type 0} → PreparedKey → Leg O → Bool
is_key_at key leg = (key.section == leg.holder.section) && side_eq key.side leg.holder.side

abbrev pub with_contexts : {O : Type 0} → Suite → Box (Option Outbound) Global → Sending O → Sending O
with_contexts Tag80 contexts sending = record { ends = sending.ends; tag80 = Some contexts; tag32 = sending.tag32 }
with_contexts Tag32 contexts sending = record { ends = sending.ends; tag80 = sending.tag80; tag32 = Some contexts }

abbrev pub with_key : {O : Type 0} → PreparedKey → Leg O → Leg O
with_key key leg = with_sending leg (with_contexts key.suite key.contexts leg.sending)

abbrev pub put_if : {O : Type 0} → PreparedKey → Leg O → Leg O
put_if key leg = if is_key_at key leg then with_key key leg else leg

-- all keys of the list, the last one first
abbrev pub with_keys : {O : Type 0} → List PreparedKey → Leg O → Leg O
with_keys [] leg = leg
with_keys (key ∷ keys) leg = put_if key (with_keys keys leg)

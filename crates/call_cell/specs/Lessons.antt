-- Where packets go: the signalled address of a leg, or the source that was learned from the packets that it sent. It is what
-- `endpoint_learn` says of the signals and sources in the leg's life.
use Rattle.std.specs.Prelude.{Bool, ◌&&◌, List, Option, Some, None, filter_map, if◌then◌else◌}
use Rattle.relay_outside.specs.declared.address.Addr.{Addr}
use Rattle.rtp_packet.specs.declared.head.Half.{Half}
use Rattle.rtp_packet.specs.declared.head.Half.TheVariants.{Rtp, Rtcp}
use Rattle.srtp_sources.specs.Notes.{is_half}
use Rattle.port_pool.specs.declared.holder.Holder.{Holder}
use Rattle.port_pool.specs.declared.signal.LegSignal.{LegSignal}
use Rattle.port_pool.specs.Signals.{same_leg}
use Rattle.endpoint_learn.specs.Lessons as learner
use Rattle.endpoint_learn.specs.Lessons.{LearnStep, Signalled, Heard, Signalling}
use Rattle.call_cell.specs.Cells.{CellEntry, Relayed, life, committed, is_accepted, relayed}

-- the address of a half that a commit names
abbrev pub address : Half → LegSignal → Addr
address Rtp s = s.rtp
address Rtcp s = s.rtcp

-- what a commit signals for a half
abbrev pub signalling : Half → LegSignal → Signalling
signalling half s = record { address = address half s; flags = s.flags }

-- the packet was accepted from the leg and half
abbrev pub hears : Holder → Half → Relayed → Bool
hears leg half r = same_leg leg r.packet.holder && is_accepted r.deed.outcome && is_half r.packet.half half

-- what an entry is to the learner of a leg's half: a signal where it commits the leg, a source where it accepted a packet
abbrev pub step_by : Holder → Half → Option LegSignal → Option Relayed → Option LearnStep
step_by leg half (Some s) r = Some (Signalled (address half s) s.flags)
step_by leg half None (Some r) = if hears leg half r then Some (Heard r.packet.source) else None
step_by leg half None None = None

-- what was signalled and accepted in the leg's life
abbrev pub steps_of : List CellEntry → Holder → Half → List LearnStep
steps_of h leg half = filter_map (λ e. step_by leg half (committed leg e) (relayed e)) (life h leg)

-- the learned source
abbrev pub learned : List CellEntry → Holder → Half → Option Addr
learned h leg half = learner.learned_after (steps_of h leg half)

-- where packets of a half go to: the learned source, or else the signalled address
abbrev pub endpoint : List CellEntry → Holder → Half → Option Addr
endpoint h leg half = learner.endpoint_after (steps_of h leg half)

abbrev pub leg_endpoint_by : LegSignal → Option Addr → Half → Addr
leg_endpoint_by s known half = learner.endpoint_by (signalling half s) known

-- How the holder of a pair and what an answer commits for one leg are written.
use Rattle.std.specs.Prelude.{codes, ℕ, ◌≡◌, ◌<◌, ◌^◌, List, length, Option, IfSome}
use Rattle.relay_outside.specs.declared.address.Addr.{Addr}
use Rattle.relay_outside.specs.declared.settings.Flags.{Flags}
use Rattle.endpoint_learn.specs.SavedLearners.{FitsAddr}
use Rattle.sdes_lines.specs.declared.crypto_line.Suite.{Suite}
use Rattle.port_pool.specs.declared.holder.Holder.{Holder}
use Rattle.port_pool.specs.declared.signal.LegSignal.{LegSignal}
use Rattle.ng_bencode.specs.Tree.{Tree, Bytes, Dict, entry, no_entries}
use Rattle.state_values.specs.Numbers.{number_tree}
use Rattle.state_values.specs.Forms.{flag_tree, option_tree, side_tree, suite_tree}
use Rattle.state_values.specs.CacheTrees.{source_bytes}

unfoldable pub holder_tree : Holder → Tree
holder_tree holder = Dict
    (entry (codes "call") (number_tree holder.call)
    (entry (codes "cell") (number_tree holder.cell)
    (entry (codes "generation") (number_tree holder.generation)
    (entry (codes "pair") (number_tree holder.pair)
    (entry (codes "section") (number_tree holder.section)
    (entry (codes "side") (side_tree holder.side) no_entries))))))

unfoldable pub signal_flags_tree : Flags → Tree
signal_flags_tree flags = Dict
    (entry (codes "asymmetric") (flag_tree flags.asymmetric)
    (entry (codes "handover") (flag_tree flags.handover)
    (entry (codes "strict") (flag_tree flags.strict) no_entries)))

-- a master key with its salt, 30 bytes, and the suite that it is for
unfoldable pub inbound_key_tree : List ℕ × Suite → Tree
inbound_key_tree key = Dict
    (entry (codes "key") (Bytes key.0)
    (entry (codes "suite") (suite_tree key.1) no_entries))

unfoldable pub signal_tree : LegSignal → Tree
signal_tree signal = Dict
    (entry (codes "flags") (signal_flags_tree signal.flags)
    (entry (codes "hold") (flag_tree signal.hold)
    (entry (codes "inbound") (option_tree inbound_key_tree signal.inbound)
    (entry (codes "mux") (flag_tree signal.mux)
    (entry (codes "outbound") (option_tree number_tree signal.outbound)
    (entry (codes "rtcp") (Bytes (source_bytes signal.rtcp))
    (entry (codes "rtp") (Bytes (source_bytes signal.rtp)) no_entries)))))))

-- the ranges of the fields
pub record FitsHolder (holder : Holder) : Type 0 where
  pub call : holder.call < 2 ^ 64
  pub cell : holder.cell < 2 ^ 32
  pub generation : holder.generation < 2 ^ 64
  pub pair : holder.pair < 2 ^ 32
  pub section : holder.section < 2 ^ 8

abbrev pub FitsInboundKey : List ℕ × Suite → Type 0
FitsInboundKey key = length key.0 ≡ 30

pub record FitsLegSignal (signal : LegSignal) : Type 0 where
  pub inbound : IfSome signal.inbound FitsInboundKey
  pub outbound : IfSome signal.outbound (λ (number : ℕ). number < 2 ^ 64)
  pub rtcp : FitsAddr signal.rtcp
  pub rtp : FitsAddr signal.rtp

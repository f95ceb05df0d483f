-- Holders and signals that are written alike, and how deep each is.
use Rattle.std.proofs.Common.{◌≡◌, ◌+◌, ◌<◌, ◌≤◌, ◌^◌, ℕ, Bool, true, false, List, Option, Some, None, IfSome, refl, sym, arith}
use Rattle.relay_outside.specs.declared.settings.Flags.{Flags}
use Rattle.sdes_lines.specs.declared.crypto_line.Suite.{Suite}
use Rattle.sdes_lines.specs.declared.crypto_line.Suite.TheVariants.{Tag80, Tag32}
use Rattle.port_pool.specs.declared.holder.Side.{Side}
use Rattle.port_pool.specs.declared.holder.Side.TheVariants.{A, B}
use Rattle.port_pool.specs.declared.holder.Holder.{Holder}
use Rattle.port_pool.specs.declared.signal.LegSignal.{LegSignal}
use Rattle.ng_bencode.specs.Tree.{Tree, Bytes}
use Rattle.state_values.specs.Numbers.{number_tree}
use Rattle.state_values.specs.Forms.{option_tree, flag_tree, flag_number, side_tree, side_number, suite_tree, suite_number}
use Rattle.state_values.specs.CacheTrees.{source_bytes}
use Rattle.state_values.specs.SignalTrees.{holder_tree, signal_flags_tree, inbound_key_tree, signal_tree, FitsHolder, FitsInboundKey, FitsLegSignal}
use Rattle.state_values.proofs.NumberTrees.{same_number}
use Rattle.state_values.proofs.KeyedTrees.{same_entries, same_value, same_rest}
use Rattle.state_values.proofs.MissingTrees.{same_option}
use Rattle.state_values.proofs.SourceForms.{same_source}
use Rattle.state_values.proofs.Spelled.{Spelled, number_spelled}
use Rattle.state_values.proofs.MissingTrees.{SpelledIf, option_spelled}

apart : (m n : ℕ) → m ≡ 0 → n ≡ 1 → m ≡ n → ⊥
apart m n zero one e = absurd (omega arith)

bits_differ : number_tree 0 ≡ number_tree 1 → ⊥
bits_differ e = apart 0 1 refl refl (same_number 0 1 (omega arith) (omega arith) e)

pub same_flag : (a b : Bool) → flag_tree a ≡ flag_tree b → a ≡ b
same_flag false false e = refl
same_flag false true e = absurd (bits_differ e)
same_flag true false e = absurd (bits_differ (sym e))
same_flag true true e = refl

same_side : (a b : Side) → side_tree a ≡ side_tree b → a ≡ b
same_side A A e = refl
same_side A B e = absurd (bits_differ e)
same_side B A e = absurd (bits_differ (sym e))
same_side B B e = refl

same_suite : (a b : Suite) → suite_tree a ≡ suite_tree b → a ≡ b
same_suite Tag80 Tag80 e = refl
same_suite Tag80 Tag32 e = absurd (bits_differ e)
same_suite Tag32 Tag80 e = absurd (bits_differ (sym e))
same_suite Tag32 Tag32 e = refl

pub same_bytes : (a b : List ℕ) → Bytes a ≡ Bytes b → a ≡ b
same_bytes a b e = cc

pub same_holder : (a b : Holder) → FitsHolder a → FitsHolder b → holder_tree a ≡ holder_tree b → a ≡ b
unfolding holder_tree
same_holder a b fits_a fits_b same =
    let first = same_entries same in
    let second = same_rest first in
    let third = same_rest second in
    let fourth = same_rest third in
    let fifth = same_rest fourth in
    let sixth = same_rest fifth in
    let call_is = same_number a.call b.call fits_a.call fits_b.call (same_value first) in
    let cell_is = same_number a.cell b.cell (omega (arith, fits_a.cell)) (omega (arith, fits_b.cell)) (same_value second) in
    let generation_is = same_number a.generation b.generation fits_a.generation fits_b.generation (same_value third) in
    let pair_is = same_number a.pair b.pair (omega (arith, fits_a.pair)) (omega (arith, fits_b.pair)) (same_value fourth) in
    let section_is = same_number a.section b.section (omega (arith, fits_a.section)) (omega (arith, fits_b.section)) (same_value fifth) in
    let side_is = same_side a.side b.side (same_value sixth) in
    λ i. record { cell = cell_is i; call = call_is i; section = section_is i; side = side_is i; pair = pair_is i; generation = generation_is i }

pub same_flags : (a b : Flags) → signal_flags_tree a ≡ signal_flags_tree b → a ≡ b
unfolding signal_flags_tree
same_flags a b same =
    let first = same_entries same in
    let second = same_rest first in
    let third = same_rest second in
    let asymmetric_is = same_flag a.asymmetric b.asymmetric (same_value first) in
    let handover_is = same_flag a.handover b.handover (same_value second) in
    let strict_is = same_flag a.strict b.strict (same_value third) in
    λ i. record { strict = strict_is i; handover = handover_is i; asymmetric = asymmetric_is i }

pub same_key : (a b : List ℕ × Suite) → FitsInboundKey a → FitsInboundKey b → inbound_key_tree a ≡ inbound_key_tree b → a ≡ b
unfolding inbound_key_tree
same_key a b fits_a fits_b same =
    let first = same_entries same in
    let second = same_rest first in
    let bytes_is = same_bytes a.0 b.0 (same_value first) in
    let suite_is = same_suite a.1 b.1 (same_value second) in
    λ i. (bytes_is i, suite_is i)

pub same_signal : (a b : LegSignal) → FitsLegSignal a → FitsLegSignal b → signal_tree a ≡ signal_tree b → a ≡ b
unfolding signal_tree
same_signal a b fits_a fits_b same =
    let first = same_entries same in
    let second = same_rest first in
    let third = same_rest second in
    let fourth = same_rest third in
    let fifth = same_rest fourth in
    let sixth = same_rest fifth in
    let seventh = same_rest sixth in
    let flags_is = same_flags a.flags b.flags (same_value first) in
    let hold_is = same_flag a.hold b.hold (same_value second) in
    let inbound_is = same_option inbound_key_tree FitsInboundKey same_key a.inbound b.inbound fits_a.inbound fits_b.inbound (same_value third) in
    let mux_is = same_flag a.mux b.mux (same_value fourth) in
    let outbound_is = same_option number_tree (λ (n : ℕ). n < 2 ^ 64) (λ m n low small e. same_number m n low small e) a.outbound b.outbound fits_a.outbound fits_b.outbound (same_value fifth) in
    let rtcp_is = same_source a.rtcp b.rtcp fits_a.rtcp fits_b.rtcp (same_bytes (source_bytes a.rtcp) (source_bytes b.rtcp) (same_value sixth)) in
    let rtp_is = same_source a.rtp b.rtp fits_a.rtp fits_b.rtp (same_bytes (source_bytes a.rtp) (source_bytes b.rtp) (same_value seventh)) in
    λ i. record { rtp = rtp_is i; rtcp = rtcp_is i; flags = flags_is i; hold = hold_is i; mux = mux_is i; inbound = inbound_is i; outbound = outbound_is i }

-- ---- how deep each is

pub holder_spelled : (holder : Holder) → Spelled 1 (holder_tree holder)
unfolding holder_tree
holder_spelled holder =
    let call = number_spelled holder.call in
    let cell = number_spelled holder.cell in
    let generation = number_spelled holder.generation in
    let pair = number_spelled holder.pair in
    let section = number_spelled holder.section in
    let side = number_spelled (side_number holder.side) in
    record {
      ints = (call.ints, (cell.ints, (generation.ints, (pair.ints, (section.ints, (side.ints, tt))))));
      deep = omega (arith, call.deep, cell.deep, generation.deep, pair.deep, section.deep, side.deep);
    }

flags_spelled : (flags : Flags) → Spelled 1 (signal_flags_tree flags)
unfolding signal_flags_tree
flags_spelled flags =
    let asymmetric = number_spelled (flag_number flags.asymmetric) in
    let handover = number_spelled (flag_number flags.handover) in
    let strict = number_spelled (flag_number flags.strict) in
    record {
      ints = (asymmetric.ints, (handover.ints, (strict.ints, tt)));
      deep = omega (arith, asymmetric.deep, handover.deep, strict.deep);
    }

key_spelled : (key : List ℕ × Suite) → SpelledIf (FitsInboundKey key) 1 (inbound_key_tree key)
unfolding inbound_key_tree
key_spelled key =
    let suite = number_spelled (suite_number key.1) in
    record { ints = λ fits. (tt, (suite.ints, tt)); deep = omega (arith, suite.deep) }

pub signal_spelled : (signal : LegSignal) → SpelledIf (FitsLegSignal signal) 3 (signal_tree signal)
unfolding signal_tree
signal_spelled signal =
    let flags = flags_spelled signal.flags in
    let hold = number_spelled (flag_number signal.hold) in
    let inbound = option_spelled inbound_key_tree 1 FitsInboundKey key_spelled signal.inbound in
    let mux = number_spelled (flag_number signal.mux) in
    let outbound = option_spelled number_tree 0 (λ (n : ℕ). n < 2 ^ 64) (λ n. let it = number_spelled n in record { ints = λ low. it.ints; deep = it.deep }) signal.outbound in
    record {
      ints = λ fits. (flags.ints, (hold.ints, (inbound.ints fits.inbound, (mux.ints, (outbound.ints fits.outbound, (tt, (tt, tt)))))));
      deep = omega (arith, flags.deep, hold.deep, inbound.deep, mux.deep, outbound.deep);
    }

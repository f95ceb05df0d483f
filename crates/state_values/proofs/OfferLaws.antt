-- Offers that are written alike, and that each is spelled.
use Rattle.std.proofs.Common.{◌≡◌, ℕ, List, length, Option, ap, arith}
use Rattle.relay_outside.specs.declared.settings.Flags.{Flags}
use Rattle.relay_outside.specs.declared.address.Ip.{Ip}
use Rattle.relay_outside.specs.declared.address.Ip.TheVariants as ip
use Rattle.relay_outside.specs.declared.address.Family.{Family}
use Rattle.sdp_text.specs.declared.proto.Proto.{Proto}
use Rattle.endpoint_learn.specs.SavedLearners.{FitsIp}
use Rattle.sdes_lines.specs.declared.crypto_line.CryptoLine.{CryptoLine}
use Rattle.sdp_text.specs.declared.host.Host.{Host}
use Rattle.sdp_text.specs.declared.host.Host.TheVariants as host
use Rattle.sdp_text.specs.declared.section.Section.{Section}
use Rattle.ng_command.specs.declared.command.Options.{Options}
use Rattle.offer_answer.specs.declared.last_offer.MadeSection.{MadeSection}
use Rattle.offer_answer.specs.declared.last_offer.LastOffer.{LastOffer}
use Rattle.offer_answer.specs.SavedDialogs.{OfferSaves}
use Rattle.state_values.specs.Forms.{option_tree, flag_number, side_number, suite_number, family_number, proto_number, family_tree, proto_tree}
use Rattle.state_values.specs.CacheTrees.{source_octets}
use Rattle.state_values.specs.OfferTrees.{host_octets, host_tree, ip_tree, line_tree, section_tree, made_tree, flags_tree, options_tree, offer_tree, FitsHost, FitsOfferedLine, FitsLineOption, FitsSection, FitsMade, FitsOptions, FitsOffer}
use Rattle.state_values.proofs.NumberTrees.{same_number}
use Rattle.state_values.proofs.KeyedTrees.{same_entries, same_value, same_rest}
use Rattle.state_values.proofs.FormLaws.{same_bytes, same_flag, same_side, same_family, same_suite, same_proto, same_option, same_plain_option, same_each, bytes_spelled, option_spelled, ended, then_entry, dict_spelled}
use Rattle.state_values.proofs.Spelled.{Spelled, number_spelled, list_spelled}

pub same_host : (a b : Host) → FitsHost a → FitsHost b → host_tree a ≡ host_tree b → a ≡ b
same_host (host.V4 a) (host.V4 b) long_a long_b e = let f = same_bytes a b e in λ i. host.V4 (f i)
same_host (host.V4 a) (host.V6 b) long_a long_b e = let f = ap (λ (l : List ℕ). length l) (same_bytes a b e) in absurd (omega (arith, long_a, long_b, f))
same_host (host.V6 a) (host.V4 b) long_a long_b e = let f = ap (λ (l : List ℕ). length l) (same_bytes a b e) in absurd (omega (arith, long_a, long_b, f))
same_host (host.V6 a) (host.V6 b) long_a long_b e = let f = same_bytes a b e in λ i. host.V6 (f i)

pub same_ip : (a b : Ip) → FitsIp a → FitsIp b → ip_tree a ≡ ip_tree b → a ≡ b
same_ip (ip.V4 a) (ip.V4 b) long_a long_b e = let f = same_bytes a b e in λ i. ip.V4 (f i)
same_ip (ip.V4 a) (ip.V6 b) long_a long_b e = let f = ap (λ (l : List ℕ). length l) (same_bytes a b e) in absurd (omega (arith, long_a, long_b, f))
same_ip (ip.V6 a) (ip.V4 b) long_a long_b e = let f = ap (λ (l : List ℕ). length l) (same_bytes a b e) in absurd (omega (arith, long_a, long_b, f))
same_ip (ip.V6 a) (ip.V6 b) long_a long_b e = let f = same_bytes a b e in λ i. ip.V6 (f i)

pub same_line : (a b : CryptoLine) → FitsOfferedLine a → FitsOfferedLine b → line_tree a ≡ line_tree b → a ≡ b
same_line a b fits_a fits_b same =
    let first = same_entries same in
    let second = same_rest first in
    let third = same_rest second in
    let key = same_bytes a.key b.key (same_value first) in
    let suite = same_suite a.suite b.suite (same_value second) in
    let tag = same_number a.tag b.tag (omega (arith, fits_a.tag)) (omega (arith, fits_b.tag)) (same_value third) in
    λ i. record { key = key i; suite = suite i; tag = tag i }

pub same_line_option : (a b : Option CryptoLine) → FitsLineOption a → FitsLineOption b → option_tree line_tree a ≡ option_tree line_tree b → a ≡ b
same_line_option a b fits_a fits_b e = same_option line_tree FitsOfferedLine same_line a b fits_a fits_b e

pub same_section : (a b : Section) → FitsSection a → FitsSection b → section_tree a ≡ section_tree b → a ≡ b
same_section a b fits_a fits_b same =
    let first = same_entries same in
    let second = same_rest first in
    let third = same_rest second in
    let fourth = same_rest third in
    let fifth = same_rest fourth in
    let sixth = same_rest fifth in
    let seventh = same_rest sixth in
    let eighth = same_rest seventh in
    let address = same_option host_tree FitsHost same_host a.address b.address fits_a.address fits_b.address (same_value first) in
    let hold = same_flag a.hold b.hold (same_value second) in
    let line = same_number a.line b.line (omega (arith, fits_a.line)) (omega (arith, fits_b.line)) (same_value third) in
    let mux = same_flag a.mux b.mux (same_value fourth) in
    let port = same_number a.port b.port (omega (arith, fits_a.port)) (omega (arith, fits_b.port)) (same_value fifth) in
    let proto = same_proto a.proto b.proto (same_value sixth) in
    let rtcp_address = same_option host_tree FitsHost same_host a.rtcp_address b.rtcp_address fits_a.rtcp_address fits_b.rtcp_address (same_value seventh) in
    let rtcp_port = same_number a.rtcp_port b.rtcp_port (omega (arith, fits_a.rtcp_port)) (omega (arith, fits_b.rtcp_port)) (same_value eighth) in
    λ i. record { address = address i; hold = hold i; line = line i; mux = mux i; port = port i; proto = proto i; rtcp_address = rtcp_address i; rtcp_port = rtcp_port i }

pub same_made : (a b : MadeSection) → FitsMade a → FitsMade b → made_tree a ≡ made_tree b → a ≡ b
same_made a b fits_a fits_b same =
    let first = same_entries same in
    let second = same_rest first in
    let third = same_rest second in
    let fourth = same_rest third in
    let line = same_line_option a.line b.line fits_a.line fits_b.line (same_value first) in
    let lines = same_each (option_tree line_tree) FitsLineOption same_line_option a.lines b.lines fits_a.lines fits_b.lines (same_value second) in
    let section = same_section a.section b.section fits_a.section fits_b.section (same_value third) in
    let written = same_proto a.written b.written (same_value fourth) in
    λ i. record { line = line i; lines = lines i; section = section i; written = written i }

pub same_flags : (a b : Flags) → flags_tree a ≡ flags_tree b → a ≡ b
same_flags a b same =
    let first = same_entries same in
    let second = same_rest first in
    let third = same_rest second in
    let asymmetric = same_flag a.asymmetric b.asymmetric (same_value first) in
    let handover = same_flag a.handover b.handover (same_value second) in
    let strict = same_flag a.strict b.strict (same_value third) in
    λ i. record { asymmetric = asymmetric i; handover = handover i; strict = strict i }

pub same_options : (a b : Options) → FitsOptions a → FitsOptions b → options_tree a ≡ options_tree b → a ≡ b
same_options a b fits_a fits_b same =
    let first = same_entries same in
    let second = same_rest first in
    let third = same_rest second in
    let fourth = same_rest third in
    let fifth = same_rest fourth in
    let sixth = same_rest fifth in
    let seventh = same_rest sixth in
    let eighth = same_rest seventh in
    let ninth = same_rest eighth in
    let family = same_plain_option family_tree same_family a.family b.family (same_value first) in
    let flags = same_flags a.flags b.flags (same_value second) in
    let mux_accept = same_flag a.mux_accept b.mux_accept (same_value third) in
    let mux_demux = same_flag a.mux_demux b.mux_demux (same_value fourth) in
    let mux_offer = same_flag a.mux_offer b.mux_offer (same_value fifth) in
    let replace_origin = same_flag a.replace_origin b.replace_origin (same_value sixth) in
    let replace_session = same_flag a.replace_session b.replace_session (same_value seventh) in
    let source = same_option ip_tree FitsIp same_ip a.source b.source fits_a.source fits_b.source (same_value eighth) in
    let transport = same_plain_option proto_tree same_proto a.transport b.transport (same_value ninth) in
    λ i. record { family = family i; flags = flags i; mux_accept = mux_accept i; mux_demux = mux_demux i; mux_offer = mux_offer i; replace_origin = replace_origin i; replace_session = replace_session i; source = source i; transport = transport i }

-- offers that are written alike are the same but for spare room of their tags
pub same_offer : (a b : LastOffer) → FitsOffer a → FitsOffer b → offer_tree a ≡ offer_tree b → OfferSaves b a
same_offer a b fits_a fits_b same =
    let first = same_entries same in
    let second = same_rest first in
    let third = same_rest second in
    let fourth = same_rest third in
    let fifth = same_rest fourth in
    record {
      from_tag_is = same_bytes a.from_tag.list b.from_tag.list (same_value second);
      maker_is = same_side a.maker b.maker (same_value third);
      options_are = same_options a.options b.options fits_a.options fits_b.options (same_value fourth);
      count_is = same_number a.count b.count fits_a.count fits_b.count (same_value first);
      sections_are = same_each made_tree FitsMade same_made a.sections b.sections fits_a.sections fits_b.sections (same_value fifth);
    }

-- ---- how deep they are

host_spelled : (it : Host) → Spelled 0 (host_tree it)
host_spelled it = bytes_spelled (host_octets it)

ip_spelled : (it : Ip) → Spelled 0 (ip_tree it)
ip_spelled it = bytes_spelled (source_octets it)

line_spelled : (line : CryptoLine) → Spelled 1 (line_tree line)
line_spelled line = dict_spelled {most = 0}
    (then_entry {few = 0} (omega arith) (bytes_spelled line.key)
    (then_entry {few = 0} (omega arith) (number_spelled (suite_number line.suite))
    (then_entry {few = 0} (omega arith) (number_spelled line.tag) ended)))

section_spelled : (section : Section) → Spelled 2 (section_tree section)
section_spelled section = dict_spelled {most = 1}
    (then_entry {few = 1} (omega arith) (option_spelled host_tree 0 host_spelled section.address)
    (then_entry {few = 0} (omega arith) (number_spelled (flag_number section.hold))
    (then_entry {few = 0} (omega arith) (number_spelled section.line)
    (then_entry {few = 0} (omega arith) (number_spelled (flag_number section.mux))
    (then_entry {few = 0} (omega arith) (number_spelled section.port)
    (then_entry {few = 0} (omega arith) (number_spelled (proto_number section.proto))
    (then_entry {few = 1} (omega arith) (option_spelled host_tree 0 host_spelled section.rtcp_address)
    (then_entry {few = 0} (omega arith) (number_spelled section.rtcp_port) ended))))))))

made_spelled : (made : MadeSection) → Spelled 4 (made_tree made)
made_spelled made = dict_spelled {most = 3}
    (then_entry {few = 2} (omega arith) (option_spelled line_tree 1 line_spelled made.line)
    (then_entry {few = 3} (omega arith) (list_spelled (option_tree line_tree) 2 (option_spelled line_tree 1 line_spelled) made.lines)
    (then_entry {few = 2} (omega arith) (section_spelled made.section)
    (then_entry {few = 0} (omega arith) (number_spelled (proto_number made.written)) ended))))

flags_spelled : (flags : Flags) → Spelled 1 (flags_tree flags)
flags_spelled flags = dict_spelled {most = 0}
    (then_entry {few = 0} (omega arith) (number_spelled (flag_number flags.asymmetric))
    (then_entry {few = 0} (omega arith) (number_spelled (flag_number flags.handover))
    (then_entry {few = 0} (omega arith) (number_spelled (flag_number flags.strict)) ended)))

family_spelled : (it : Family) → Spelled 0 (family_tree it)
family_spelled it = number_spelled (family_number it)

proto_spelled : (it : Proto) → Spelled 0 (proto_tree it)
proto_spelled it = number_spelled (proto_number it)

options_spelled : (options : Options) → Spelled 2 (options_tree options)
options_spelled options = dict_spelled {most = 1}
    (then_entry {few = 1} (omega arith) (option_spelled family_tree 0 family_spelled options.family)
    (then_entry {few = 1} (omega arith) (flags_spelled options.flags)
    (then_entry {few = 0} (omega arith) (number_spelled (flag_number options.mux_accept))
    (then_entry {few = 0} (omega arith) (number_spelled (flag_number options.mux_demux))
    (then_entry {few = 0} (omega arith) (number_spelled (flag_number options.mux_offer))
    (then_entry {few = 0} (omega arith) (number_spelled (flag_number options.replace_origin))
    (then_entry {few = 0} (omega arith) (number_spelled (flag_number options.replace_session))
    (then_entry {few = 1} (omega arith) (option_spelled ip_tree 0 ip_spelled options.source)
    (then_entry {few = 1} (omega arith) (option_spelled proto_tree 0 proto_spelled options.transport) ended)))))))))

pub offer_spelled : (offer : LastOffer) → Spelled 6 (offer_tree offer)
offer_spelled offer = dict_spelled {most = 5}
    (then_entry {few = 0} (omega arith) (number_spelled offer.count)
    (then_entry {few = 0} (omega arith) (bytes_spelled offer.from_tag.list)
    (then_entry {few = 0} (omega arith) (number_spelled (side_number offer.maker))
    (then_entry {few = 2} (omega arith) (options_spelled offer.options)
    (then_entry {few = 5} (omega arith) (list_spelled made_tree 4 made_spelled offer.sections) ended)))))

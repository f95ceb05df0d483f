use Rattle.std.proofs.Common.{◌≡◌, ℕ, ◌+◌, ◌-◌, ◌≤◌, ◌++◌, true, List, ◌∷◌, codes, decimal, length, take, drop, refl, ap, ◌∙◌, arith}
use Rattle.std.proofs.lemmas.List.{take_rest, length-append}
use Rattle.sdp_text.specs.Roles.{is_media}
use Rattle.sdp_edit.proofs.TextLemmas.{length-with_end, around_short, cut_size, media_prefix, media_stays, media_one, media_two, media_three, media_cut, media_kept_proto, media_new_proto}
use Rattle.sdp_edit.proofs.text.media_line.Goals as goal

pub returns-in_default-clause-text : goal.returns-in_default-clause-text
returns-in_default-clause-text c =
    let body : List ℕ = take (length c.args.line.now - 2) (drop 2 c.args.line.now) in
    c.whole.ensures ∙ media_stays c.args.edit.now c.args.line.now body c.requires refl (media_one c.args.edit.now body c.in_default.ensures.last)

pub returns-in_default-cut-clause-text : goal.returns-in_default-cut-clause-text
returns-in_default-cut-clause-text c =
    let body : List ℕ = take (length c.args.line.now - 2) (drop 2 c.args.line.now) in
    c.whole-in_default-cut.ensures ∙ media_stays c.args.edit.now c.args.line.now body c.requires refl
    (media_two c.args.edit.now body c.in-Some.media.now c.in-Some.rest.now c.in-Some.ensures.fields c.in_default-cut.ensures.last)

pub returns-in_default-cut-2-clause-text : goal.returns-in_default-cut-2-clause-text
returns-in_default-cut-2-clause-text c =
    let body : List ℕ = take (length c.args.line.now - 2) (drop 2 c.args.line.now) in
    c.whole-in_default-cut-2.ensures ∙ media_stays c.args.edit.now c.args.line.now body c.requires refl
    (media_three c.args.edit.now body c.in-Some.media.now c.in-Some.rest.now c.in-Some-cut._port.now c.in-Some-cut.rest.now
    c.in-Some.ensures.fields c.in-Some-cut.ensures.fields c.in_default-cut-2.ensures.last)

pub returns-in-None-clause-text : goal.returns-in-None-clause-text
returns-in-None-clause-text c =
    let body : List ℕ = take (length c.args.line.now - 2) (drop 2 c.args.line.now) in
    let cut = media_cut c.args.line.now body c.in-Some.media.now c.in-Some.rest.now c.in-Some-cut._port.now c.in-Some-cut.rest.now
    c.in-Some-cut-2._proto.now c.in-Some-cut-2.formats.now c.requires refl c.in-Some.ensures.fields c.in-Some.ensures.text
    c.in-Some-cut.ensures.fields c.in-Some-cut-2.ensures.fields in
    c.around.ensures ∙ media_kept_proto c.args.edit.now c.args.line.now c.in-Some.media.now c.in-Some-cut._port.now c.in-Some-cut.rest.now
    c.in-Some-cut-2._proto.now c.in-Some-cut-2.formats.now c.spaced_port-text.result cut c.in-Some-cut-2.ensures.text
    (c.in-None.ensures.name c.in-Some-cut-2._proto.now) c.spaced_port-text.ensures.text

pub returns-in-Some-proto_name-clause-text : goal.returns-in-Some-proto_name-clause-text
returns-in-Some-proto_name-clause-text c =
    let body : List ℕ = take (length c.args.line.now - 2) (drop 2 c.args.line.now) in
    let cut = media_cut c.args.line.now body c.in-Some.media.now c.in-Some.rest.now c.in-Some-cut._port.now c.in-Some-cut.rest.now
    c.in-Some-cut-2._proto.now c.in-Some-cut-2.formats.now c.requires refl c.in-Some.ensures.fields c.in-Some.ensures.text
    c.in-Some-cut.ensures.fields c.in-Some-cut-2.ensures.fields in
    let inserted : c.push-in-Some-proto_name.new.self ≡ (codes " " ++ decimal c.args.edit.now.port ++ codes " ") ++ c.in-Some-proto_name.name.now ++ codes " " =
    c.push-in-Some-proto_name.ensures ∙ ap (λ (t : List ℕ). t ++ codes " ") (c.push.ensures ∙ ap (λ (t : List ℕ). t ++ c.in-Some-proto_name.name.now) c.spaced_port-text.ensures.text) in
    c.around-in-Some-proto_name.ensures ∙ media_new_proto c.args.edit.now c.args.line.now c.in-Some.media.now c.in-Some-cut._port.now
    c.in-Some-cut-2._proto.now c.in-Some-cut-2.formats.now c.push-in-Some-proto_name.new.self c.in-Some-proto_name.name.now cut
    (c.in-Some-proto_name.ensures.name c.in-Some-cut-2._proto.now) inserted

-- what was cut off, in bytes
front : (line body media r1 : List ℕ) → is_media line ≡ true → body ≡ take (length line - 2) (drop 2 line) → body ≡ media ++ 32 ∷ r1
    → 2 + (length media + (length r1 + 1)) ≡ length line
front line body media r1 starts is cut =
    let whole = ap length (media_prefix line starts) in
    let rest = ap length (is ∙ take_rest line 2) in
    let size = cut_size body media r1 cut in
    omega arith

pub returns-in_default-clause-short : goal.returns-in_default-clause-short
returns-in_default-clause-short c = omega (arith, ap length c.whole.ensures, length-with_end c.args.line.now)

pub returns-in_default-cut-clause-short : goal.returns-in_default-cut-clause-short
returns-in_default-cut-clause-short c = omega (arith, ap length c.whole-in_default-cut.ensures, length-with_end c.args.line.now)

pub returns-in_default-cut-2-clause-short : goal.returns-in_default-cut-2-clause-short
returns-in_default-cut-2-clause-short c = omega (arith, ap length c.whole-in_default-cut-2.ensures, length-with_end c.args.line.now)

pub returns-in-None-clause-short : goal.returns-in-None-clause-short
returns-in-None-clause-short c =
    let body : List ℕ = take (length c.args.line.now - 2) (drop 2 c.args.line.now) in
    let first = front c.args.line.now body c.in-Some.media.now c.in-Some.rest.now c.requires refl c.in-Some.ensures.text in
    let second = cut_size c.in-Some.rest.now c.in-Some-cut._port.now c.in-Some-cut.rest.now c.in-Some-cut.ensures.text in
    let fits : (2 + length c.in-Some.media.now) + length c.in-Some-cut.rest.now ≤ length c.args.line.now = omega (arith, first, second) in
    let size = around_short c.args.line.now c.spaced_port-text.result c.in-Some-cut.rest.now (2 + length c.in-Some.media.now) fits in
    omega (arith, ap length c.around.ensures, size, c.spaced_port-text.ensures.short)

pub returns-in-Some-proto_name-clause-short : goal.returns-in-Some-proto_name-clause-short
returns-in-Some-proto_name-clause-short c =
    let body : List ℕ = take (length c.args.line.now - 2) (drop 2 c.args.line.now) in
    let first = front c.args.line.now body c.in-Some.media.now c.in-Some.rest.now c.requires refl c.in-Some.ensures.text in
    let second = cut_size c.in-Some.rest.now c.in-Some-cut._port.now c.in-Some-cut.rest.now c.in-Some-cut.ensures.text in
    let third = cut_size c.in-Some-cut.rest.now c.in-Some-cut-2._proto.now c.in-Some-cut-2.formats.now c.in-Some-cut-2.ensures.text in
    let fits : (2 + length c.in-Some.media.now) + length c.in-Some-cut-2.formats.now ≤ length c.args.line.now = omega (arith, first, second, third) in
    let size = around_short c.args.line.now c.push-in-Some-proto_name.new.self c.in-Some-cut-2.formats.now (2 + length c.in-Some.media.now) fits in
    let named = ap length c.push.ensures ∙ length-append c.spaced_port-text.result c.in-Some-proto_name.name.now in
    let spaced = ap length c.push-in-Some-proto_name.ensures ∙ length-append c.push.new.self (codes " ") in
    omega (arith, ap length c.around-in-Some-proto_name.ensures, size, named, spaced, c.spaced_port-text.ensures.short, c.in-Some-proto_name.ensures.short)

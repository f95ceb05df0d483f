use Rattle.std.proofs.Common.{◌≡◌, ℕ, ◌+◌, ◌-◌, ◌≤◌, ◌++◌, List, [], codes, length, take, drop, refl, ap, ◌∙◌, arith}
use Rattle.std.proofs.lemmas.List.{take_rest, drop_all, length-append}
use Rattle.sdp_text.specs.Hosts.{text_of}
use Rattle.sdp_edit.specs.Texts.{family_of}
use Rattle.sdp_edit.proofs.TextLemmas.{length-with_end, around_short, origin_stays, origin_fits, origin_new}
use Rattle.sdp_edit.proofs.text.origin_line.Goals as goal

pub returns-in_default-clause-text : goal.returns-in_default-clause-text
returns-in_default-clause-text c =
    let body : List ℕ = take (length c.args.line.now - 2) (drop 2 c.args.line.now) in
    c.whole.ensures ∙ origin_stays c.args.host.now c.args.line.now body c.requires refl (c.in_default.ensures.other c.args.host.now)

pub slice_bounds-head-count : goal.slice_bounds-head-count
slice_bounds-head-count c = origin_fits c.args.line.now c.in-Some.tail.now c.requires c.in-Some.ensures.tail

pub returns-clause-text : goal.returns-clause-text
returns-clause-text c =
    let line : List ℕ = c.args.line.now in
    let none : take (length line - length line) (drop (length line) line) ≡ [] = take_rest line (length line) ∙ drop_all (length line) line (omega arith) in
    let inserted : c.push-3.new.self ≡ family_of c.args.host.now ++ codes " " ++ text_of c.args.host.now =
    rw (c.push-3.ensures, c.push-2.ensures, c.push.ensures, c.new-text.ensures, c.family.ensures.family, c.as_slice.ensures, c.host_text.ensures.text) refl in
    c.around.ensures ∙ origin_new c.args.host.now line c.in-Some.tail.now c.push-3.new.self (take (length line - length line) (drop (length line) line))
    c.requires c.in-Some.ensures.tail inserted none

pub returns-in_default-clause-short : goal.returns-in_default-clause-short
returns-in_default-clause-short c = omega (arith, ap length c.whole.ensures, length-with_end c.args.line.now)

pub returns-clause-short : goal.returns-clause-short
returns-clause-short c =
    let line : List ℕ = c.args.line.now in
    let none : take (length line - length line) (drop (length line) line) ≡ [] = take_rest line (length line) ∙ drop_all (length line) line (omega arith) in
    let rest = ap length none in
    let fits : (length line - length c.in-Some.tail.now) + length (take (length line - length line) (drop (length line) line)) ≤ length line = omega (arith, rest) in
    let size = around_short line c.push-3.new.self (take (length line - length line) (drop (length line) line)) (length line - length c.in-Some.tail.now) fits in
    let start = ap length c.new-text.ensures in
    let one = ap length c.push.ensures ∙ length-append c.new-text.result c.family.result.now in
    let two = ap length c.push-2.ensures ∙ length-append c.push.new.self (codes " ") in
    let three = ap length c.push-3.ensures ∙ length-append c.push-2.new.self c.as_slice.result.now in
    let text = ap length c.as_slice.ensures in
    omega (arith, ap length c.around.ensures, size, start, one, two, three, text, c.family.ensures.short, c.host_text.ensures.short)

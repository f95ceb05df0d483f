use Rattle.std.proofs.Common.{◌≡◌, ℕ, List, ◌+◌, ◌++◌, ap, sym, ◌∙◌, append_assoc, arith}
use Rattle.std.proofs.lemmas.List.{append-nil}
use Rattle.sdp_edit.specs.EditedText.{edited}
use Rattle.sdp_edit.specs.Steps.{step_text}
use Rattle.sdp_edit.proofs.Behind.{rest_of, rest_none, few_sections, stepped}
use Rattle.sdp_edit.proofs.edited_text.edit_into.Goals as goal

pub edited_line-step-requires-clause-few : goal.edited_line-step-requires-clause-few
edited_line-step-requires-clause-few c =
    let few = few_sections c.loop-index.place c.args.sdp.now c.loop-index.index c.loop-index.invariant.0 in
    omega arith

pub write_into-requires : goal.write_into-requires
write_into-requires c =
    let size = (stepped c.args.edit.now c.args.sdp.now c.loop-index.index c.loop-index.place c.edited_line-step.result (omega arith) c.loop-index.invariant.0
    c.edited_line-step.ensures.text c.edited_line-step.ensures.here).size in
    let room = c.loop-index.invariant.2 in
    omega arith

pub loop-index-preserved : goal.loop-index-preserved
loop-index-preserved c =
    let one = stepped c.args.edit.now c.args.sdp.now c.loop-index.index c.loop-index.place c.edited_line-step.result (omega arith) c.loop-index.invariant.0
    c.edited_line-step.ensures.text c.edited_line-step.ensures.here in
    let next : List ℕ = rest_of c.args.edit.now c.args.sdp.now (c.loop-index.index + 1) in
    let size = one.size in
    let room = c.loop-index.invariant.2 in
    let spare = c.loop-index.invariant.3 in
    let left = c.write_into.ensures.spare in
    let text : c.write_into.new.out.list ++ next ≡ c.args.out.now.list ++ edited c.args.sdp.now c.args.edit.now =
    ap (λ t. t ++ next) c.write_into.ensures.list ∙ append_assoc c.loop-index.out.list (step_text c.edited_line-step.result) next
    ∙ ap (λ t. c.loop-index.out.list ++ t) (sym one.rest) ∙ c.loop-index.invariant.1 in
    (one.here, text, omega arith, omega arith)

pub returns-clause-list : goal.returns-clause-list
returns-clause-list c =
    let none = rest_none c.args.edit.now c.args.sdp.now c.loop-index.index (omega arith) in
    sym (append-nil c.loop-index.out.list) ∙ ap (λ t. c.loop-index.out.list ++ t) (sym none) ∙ c.loop-index.invariant.1

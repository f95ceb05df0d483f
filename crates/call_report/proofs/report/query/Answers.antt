use Rattle.std.proofs.Common.{◌≡◌, ◌∙◌, ap, sym, refl, ℕ, codes, option_map}
use Rattle.std.proofs.lemmas.Option.{same_Some}
use Rattle.ng_bencode.specs.Tree.{Bytes, Dict, Entries, no_entries, entry, pairs_of}
use Rattle.call_board.specs.Views.{CallView}
use Rattle.call_board.specs.Reports.{Report, moment_value, tags_value, report_tree}
use Rattle.call_report.proofs.Pushed.{then_pair}
use Rattle.call_report.proofs.report.query.Goals as goal

pub returns : goal.returns
unfolding report_tree
returns c = λ config v of s found.
    let report : Report = record { created = of.first; last_signal = of.last; rounds = of.rounds; legs = c.args.legs.now } in
    let moments : (of.first, of.last) ≡ c.moments-created.result =
    same_Some _ _ (sym (ap (option_map (λ (call : CallView). (call.first, call.last))) found) ∙ c.moments-created.ensures config v s) in
    let one : Entries = entry (codes "created") (moment_value of.first) no_entries in
    let two : Entries = entry (codes "created") (moment_value of.first) (entry (codes "last signal") (moment_value of.last) no_entries) in
    let three : Entries =
    entry (codes "created") (moment_value of.first) (entry (codes "last signal") (moment_value of.last) (entry (codes "result") (Bytes (codes "ok")) no_entries)) in
    c.dict.ensures
    ∙ ap Dict
    (then_pair three _ _ (codes "tags") (tags_value report) _ c.in_ok-put_pair-3.ensures.put
    (then_pair two _ _ (codes "result") (Bytes (codes "ok")) _ c.in_ok-put_text.ensures.put
    (then_pair one _ _ (codes "last signal") (moment_value of.last) _ c.in_ok-put_pair-2.ensures.put
    (then_pair no_entries _ _ (codes "created") (moment_value of.first) _ c.in_ok-put_pair.ensures.put (ap pairs_of c.new-pairs.ensures)
    (c.moment_value.ensures ∙ ap (λ (pair : ℕ × ℕ). moment_value pair.0) (sym moments)))
    (c.moment_value-2.ensures ∙ ap (λ (pair : ℕ × ℕ). moment_value pair.1) (sym moments)))
    refl)
    (c.in_ok-tags.ensures config report (c.dialog.ensures config v of s found) refl))

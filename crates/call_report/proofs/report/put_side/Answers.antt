use Rattle.std.proofs.Common.{◌≡◌, ◌∙◌, ap, sym, subst, ℕ, List, Option, OnOk}
use Rattle.ng_bencode.specs.Row.{list_in}
use Rattle.ng_bencode.specs.Tree.{Entries, pairs_of}
use Rattle.call_board.specs.Reports.{side_value}
use Rattle.ng_reply.specs.Pairs.{with_pair}
use Rattle.call_report.specs.Tags.{with_tag}
use Rattle.call_report.proofs.report.put_side.Goals as goal

pub returns-in_default : goal.returns-in_default
returns-in_default c = λ config report d same.
    ap (λ (tag : Option (List ℕ)). with_tag (pairs_of (list_in c.args.pairs.now)) tag (side_value report c.args.side)) (sym (c.in_default.ensures config report.rounds d))

pub returns : goal.returns
returns c = λ config report d same.
    let old : Entries = pairs_of (list_in c.args.pairs.now) in
    let put = ap (λ tree. with_pair old c.in-Some.tag.now tree) (c.in_ok-report.ensures config report d same)
    ∙ ap (λ (tag : Option (List ℕ)). with_tag old tag (side_value report c.args.side)) (sym (c.in-Some.ensures config report.rounds d)) in
    subst (λ (pairs : Entries). OnOk c.put_pair.result (pairs_of (list_in c.put_pair.new.pairs) ≡ pairs)) put c.put_pair.ensures.put

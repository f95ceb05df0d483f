use Rattle.std.proofs.Common.{◌∙◌, ap, sym, List, codes}
use Rattle.ng_bencode.specs.Tree.{Tree, Items, Dict, no_entries, items_of, pairs_of}
use Rattle.port_pool.specs.declared.reports.LegReport.{LegReport}
use Rattle.call_report.proofs.Pushed.{then_pair}
use Rattle.call_report.proofs.Sections.{side_legs}
use Rattle.call_report.proofs.medias.side_value.Goals as goal

pub returns : goal.returns
returns c = λ config report d same.
    c.dict.ensures
    ∙ ap Dict
    (then_pair no_entries _ _ (codes "medias") (Items (items_of (side_legs report.rounds report.legs c.args.side))) _ c.in_ok-put_pair.ensures.put (ap pairs_of c.new-pairs.ensures)
    (c.list.ensures
    ∙ ap (λ (trees : List Tree). Items (items_of trees))
    (c.in_ok-medias.ensures config report.rounds d ∙ ap (λ (legs : List LegReport). side_legs report.rounds legs c.args.side) (sym same))))

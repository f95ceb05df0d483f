use Rattle.std.proofs.Common.{◌≡◌, ◌++◌, List, map}
use Rattle.relay_outside.specs.declared.settings.Config.{Config}
use Rattle.ng_bencode.specs.Row.{list_in}
use Rattle.ng_bencode.specs.Tree.{tree_of}
use Rattle.offer_answer.specs.Rounds.{Round}
use Rattle.offer_answer.specs.Dialogs.{DialogFor}
use Rattle.call_report.proofs.Sections.{side_legs, legs_left}
use Rattle.call_report.proofs.medias.medias.Given as goal

-- the legs so far, with those that are left, are all
abbrev pub invariant-sections : goal.invariant-sections
invariant-sections l = (config : Config) (rounds : List Round) → DialogFor config l.dialog rounds →
    map tree_of (list_in l.medias) ++ legs_left rounds l.legs l.side l.section ≡ side_legs rounds l.legs l.side

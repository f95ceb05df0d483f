use Rattle.std.proofs.Common.{◌++◌, ℕ, List, sym, ◌∙◌, ap}
use Rattle.ng_bencode.specs.Spells.{spelling}
use Rattle.ng_bencode.proofs.OneWay.{one_way}
use Rattle.ng_bencode.proofs.Fitting.{spells_fits}
use Rattle.ng_bencode.proofs.law.one_reading.Goals as goal

pub returns : goal.returns
returns c a b m n x y first second short low e =
    let front : List ℕ → List ℕ → List ℕ = λ rest text. text ++ rest in
    let read = one_way 16 16 a b x y (spells_fits m a first short) (spells_fits n b second low) (sym (ap (front x) first.spelled) ∙ e ∙ ap (front y) second.spelled) in
    (read.0, first.spelled ∙ ap spelling read.0 ∙ sym second.spelled, read.1)

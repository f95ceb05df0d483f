use Rattle.std.proofs.Common.{◌∙◌, ℕ, Bool, List, Result, Ok, Err, IfOk, sym, subst}
use Rattle.std.proofs.lemmas.Bool.{false≢true}
use Rattle.whole_records.specs.RecordParts.{CallsHold, OthersAreEmpty}
use Rattle.whole_records.proofs.Parts.{calls_agree, others_agree, pairs_agree, all_agree}
use Rattle.whole_records.proofs.records.records_agree.Goals as goal

ok_then : {E : Type 0} (P Q : Bool → Type 0) (r : Result Bool E) → ((b : Bool) → P b → Q b) → IfOk r P → IfOk r Q
ok_then P Q (Ok b) then_ h = then_ b h
ok_then P Q (Err e) then_ h = h

pub returns-then-not-calls_hold-clause-differ : goal.returns-then-not-calls_hold-clause-differ
returns-then-not-calls_hold-clause-differ c = λ e h.
    let hold = calls_agree c.args.config.now c.args.pool.now c.args.calls.now c.args.cells.now h in
    false≢true (sym c.if-not-calls_hold.true
    ∙ c.calls_hold.ensures.1 (subst (λ (generations : List ℕ). CallsHold c.args.config.now generations c.args.calls.now c.args.cells.now) (sym c.deref.ensures.value) hold))

pub returns-then-not-others_are_empty-clause-differ : goal.returns-then-not-others_are_empty-clause-differ
returns-then-not-others_are_empty-clause-differ c = λ e h.
    let empty = others_agree c.args.config.now c.args.pool.now c.in_ok-marks.marks.items c.args.calls.now c.args.cells.now c.in_ok-marks.ensures h in
    false≢true (sym c.if-not-others_are_empty.true
    ∙ c.others_are_empty.ensures.1 (subst (λ (marks : List Bool). OthersAreEmpty c.args.config.now marks c.args.cells.now) (sym c.deref-2.ensures.value) empty))

pub returns-clause-agree : goal.returns-clause-agree
returns-clause-agree c =
    let hold = subst (λ (generations : List ℕ). CallsHold c.args.config.now generations c.args.calls.now c.args.cells.now) c.deref.ensures.value
    (c.calls_hold.ensures.0 c.if-not-calls_hold.false) in
    let empty = subst (λ (marks : List Bool). OthersAreEmpty c.args.config.now marks c.args.cells.now) c.deref-2.ensures.value
    (c.others_are_empty.ensures.0 c.if-not-others_are_empty.false) in
    ok_then _ _ c.pairs_stand.result (λ b stand yes.
    all_agree c.args.config.now c.args.pool.now c.in_ok-marks.marks.items c.args.calls.now c.args.cells.now
    c.if-cells-config.false hold c.in_ok-marks.ensures empty (stand.0 yes)) c.pairs_stand.ensures

pub returns-clause-differ : goal.returns-clause-differ
returns-clause-differ c =
    ok_then _ _ c.pairs_stand.result (λ b stand no h.
    false≢true (sym no ∙ stand.1 (pairs_agree c.args.config.now c.args.pool.now c.args.calls.now c.args.cells.now h))) c.pairs_stand.ensures

use Rattle.std.proofs.Common.{◌≡◌, Option, None, sym, subst}
use Rattle.sdes_lines.specs.declared.crypto_line.CryptoLine.{CryptoLine}
use Rattle.sdp_edit.specs.ChosenLines.{IsChosenKey, IsOffered}
use Rattle.sdp_edit.proofs.chosen_line.offered_key.Goals as goal

pub returns-in_err-key-clause-key : goal.returns-in_err-key-clause-key
returns-in_err-key-clause-key c =
    let none : IsChosenKey (IsOffered c.args.offered.now) c.args.line.now None =
    λ key is. let some = c.in_err-key.ensures.complete key.tag key.suite key.key is.0 in cc some in
    subst (λ (r : Option CryptoLine). IsChosenKey (IsOffered c.args.offered.now) c.args.line.now r) (sym c.from_residual.ensures) none

pub returns-in_err-key-clause-only : goal.returns-in_err-key-clause-only
returns-in_err-key-clause-only c = λ key is.
    let some = c.in_err-key.ensures.complete key.tag key.suite key.key is.0 in cc some

pub returns-then-is_offered-clause-only : goal.returns-then-is_offered-clause-only
returns-then-is_offered-clause-only c = λ key is.
    let some = c.in_ok-key.ensures.complete key.tag key.suite key.key is.0 in cc some

pub returns-else-is_offered-clause-key : goal.returns-else-is_offered-clause-key
returns-else-is_offered-clause-key c = λ key is.
    let some = c.in_ok-key.ensures.complete key.tag key.suite key.key is.0 in
    let same : key ≡ c.in_ok-key.key = cc some in
    let yes = c.is_offered.ensures.1 (subst (IsOffered c.args.offered.now) same is.1) in
    cc (yes, c.if-is_offered.false)

pub returns-else-is_offered-clause-only : goal.returns-else-is_offered-clause-only
returns-else-is_offered-clause-only c = λ key is.
    let some = c.in_ok-key.ensures.complete key.tag key.suite key.key is.0 in
    let same : key ≡ c.in_ok-key.key = cc some in
    let yes = c.is_offered.ensures.1 (subst (IsOffered c.args.offered.now) same is.1) in
    cc (yes, c.if-is_offered.false)

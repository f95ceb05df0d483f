use Rattle.std.proofs.Common.{◌≡◌, ℕ, List, suc, ◌+◌, drop, None, Some, sym, subst, arith}
use Rattle.sdp_edit.specs.Places.{up_to_media}
use Rattle.sdp_edit.specs.ChosenLines.{IsFirstOf, IsAny}
use Rattle.sdp_edit.proofs.Lists.{drop-get}
use Rattle.sdp_edit.proofs.Chosen.{first_none, first_here, first_later, only_none, only_here, only_later}
use Rattle.sdp_edit.proofs.chosen_line.choose.Goals as goal

pub returns-then-is_media-clause-first : goal.returns-then-is_media-clause-first
returns-then-is_media-clause-first c =
    let more : List (List ℕ) = drop (suc c.loop-index.index) c.args.sdp.now in
    let here = drop-get c.args.sdp.now c.loop-index.index c.line-line.result.now c.line-line.ensures in
    c.loop-index.invariant.0 None (subst (λ (lines : List (List ℕ)). IsFirstOf IsAny (up_to_media lines) None) (sym here)
    (first_none IsAny c.line-line.result.now more (sym c.if-is_media.ensures)))

pub returns-then-is_media-clause-only : goal.returns-then-is_media-clause-only
returns-then-is_media-clause-only c = λ other first.
    let more : List (List ℕ) = drop (suc c.loop-index.index) c.args.sdp.now in
    let here = drop-get c.args.sdp.now c.loop-index.index c.line-line.result.now c.line-line.ensures in
    only_none IsAny c.line-line.result.now more other (sym c.if-is_media.ensures)
    (subst (λ (lines : List (List ℕ)). IsFirstOf IsAny (up_to_media lines) other) here (c.loop-index.invariant.1 other first))

pub returns-in-Some-clause-first : goal.returns-in-Some-clause-first
returns-in-Some-clause-first c =
    let more : List (List ℕ) = drop (suc c.loop-index.index) c.args.sdp.now in
    let here = drop-get c.args.sdp.now c.loop-index.index c.line-line.result.now c.line-line.ensures in
    c.loop-index.invariant.0 (Some c.in-Some.key) (subst (λ (lines : List (List ℕ)). IsFirstOf IsAny (up_to_media lines) (Some c.in-Some.key)) (sym here)
    (first_here IsAny c.line-line.result.now more c.in-Some.key (sym c.if-is_media.ensures) (c.in-Some.ensures.sound, tt)))

pub returns-in-Some-clause-only : goal.returns-in-Some-clause-only
returns-in-Some-clause-only c = λ other first.
    let more : List (List ℕ) = drop (suc c.loop-index.index) c.args.sdp.now in
    let here = drop-get c.args.sdp.now c.loop-index.index c.line-line.result.now c.line-line.ensures in
    only_here IsAny c.line-line.result.now more c.in-Some.key other (sym c.if-is_media.ensures) (c.in-Some.ensures.sound, tt)
    (λ key is. cc (c.in-Some.ensures.complete key.tag key.suite key.key is.0))
    (subst (λ (lines : List (List ℕ)). IsFirstOf IsAny (up_to_media lines) other) here (c.loop-index.invariant.1 other first))

pub loop-index-preserved : goal.loop-index-preserved
loop-index-preserved c =
    let more : List (List ℕ) = drop (suc c.loop-index.index) c.args.sdp.now in
    let here = drop-get c.args.sdp.now c.loop-index.index c.line-line.result.now c.line-line.ensures in
    let next : c.loop-index.index + 1 ≡ suc c.loop-index.index = omega arith in
    ((
      λ r first. c.loop-index.invariant.0 r (subst (λ (lines : List (List ℕ)). IsFirstOf IsAny (up_to_media lines) r) (sym here)
          (first_later IsAny c.line-line.result.now more r (sym c.if-is_media.ensures) (λ key is. let some = c.in_default.ensures.complete key.tag key.suite key.key is.0 in cc some)
          (subst (λ n. IsFirstOf IsAny (up_to_media (drop n c.args.sdp.now)) r) next first))),
      λ r first. subst (λ n. IsFirstOf IsAny (up_to_media (drop n c.args.sdp.now)) r) (sym next)
          (only_later IsAny c.line-line.result.now more r (sym c.if-is_media.ensures) (λ key is. let some = c.in_default.ensures.complete key.tag key.suite key.key is.0 in cc some)
          (subst (λ (lines : List (List ℕ)). IsFirstOf IsAny (up_to_media lines) r) here (c.loop-index.invariant.1 r first))),
    ))

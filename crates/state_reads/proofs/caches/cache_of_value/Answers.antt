use Rattle.std.proofs.Common.{◌∙◌, sym}
use Rattle.std.proofs.lemmas.Bool.{false≢true}
use Rattle.state_values.proofs.CacheLaws.{same_caches}
use Rattle.state_reads.proofs.OneTree.{from_some}
use Rattle.state_reads.proofs.caches.cache_of_value.Goals as goal

pub returns-else-branch-clause-none : goal.returns-else-branch-clause-none
returns-else-branch-clause-none c = λ saved fits is has.
    let read = c.in-Some.saved in
    let made = from_some _ _ read c.in_ok-saved.ensures.some c.in-Some.is in
    let same = same_caches saved read fits c.cache_fits.ensures (sym is ∙ made) in
    absurd (false≢true (sym c.if-branch.false ∙ c.in_ok-cache_stands.ensures.1 (record {
      cache = has.cache;
      fits = has.fits;
      saves = record { kept = has.saves.kept ∙ same.kept; count = has.saves.count ∙ same.count; last_moment = has.saves.last_moment ∙ same.last_moment };
    })))

pub returns-then-branch-clause-kept : goal.returns-then-branch-clause-kept
returns-then-branch-clause-kept c = c.in_ok-cache_stands.ensures.0 c.if-branch.true

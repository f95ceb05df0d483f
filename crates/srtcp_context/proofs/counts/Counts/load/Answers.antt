use Rattle.std.proofs.Common.{◌∙◌, arith}
use Rattle.srtcp_context.proofs.SavedContexts.{saved_count, table_read}
use Rattle.srtcp_context.proofs.counts.Counts.load.Goals as goal

pub returns-then-count-gt-MOST_SOURCES-clause-none : goal.returns-then-count-gt-MOST_SOURCES-clause-none
returns-then-count-gt-MOST_SOURCES-clause-none c = λ table fits is. omega (arith, saved_count table c.args.bytes.now is, fits.known, c.from-count.ensures)

pub returns-clause-some : goal.returns-clause-some
returns-clause-some c = (
  record { ssrcs = c.load_words-ssrcs.ensures.fits; sent = c.load_words-sent.ensures.fits; known = omega arith },
  table_read _ c.args.bytes.now c.told-bytes c.from-count.ensures (c.load_words-ssrcs.ensures.saved ∙ c.part_at.ensures)
      (c.load_words-sent.ensures.saved ∙ c.part_at-2.ensures),
)

use Rattle.std.proofs.Common.{◌∙◌, sym, arith}
use Rattle.srtp_sources.proofs.SavedLists.{if_none}
use Rattle.srtp_sources.proofs.SavedTables.{saved_count, windows_part, table_read}
use Rattle.srtp_sources.proofs.sources.Sources.load.Goals as goal

pub returns-then-count-gt-MOST_SOURCES-clause-none : goal.returns-then-count-gt-MOST_SOURCES-clause-none
returns-then-count-gt-MOST_SOURCES-clause-none c = λ table fits is. omega (arith, saved_count table c.args.bytes.now is, fits.known, c.from-count.ensures)

pub returns-in_err-windows-clause-none : goal.returns-in_err-windows-clause-none
returns-in_err-windows-clause-none c =
    if_none c.from_residual.result _
    (λ table fits is. c.in_err-windows.ensures.none table.windows fits.windows (windows_part table c.args.bytes.now fits is ∙ sym c.part_at-2.ensures))

pub returns-clause-some : goal.returns-clause-some
returns-clause-some c = (
  record { ssrcs = c.load_words-ssrcs.ensures.fits; windows = c.in_ok-windows.ensures.some.0; known = omega arith },
  table_read _ c.args.bytes.now c.told-bytes c.from-count.ensures (c.load_words-ssrcs.ensures.saved ∙ c.part_at.ensures)
      (c.in_ok-windows.ensures.some.1 ∙ c.part_at-2.ensures),
)

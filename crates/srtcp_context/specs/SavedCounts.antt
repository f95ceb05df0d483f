-- How a table of counts is saved, and which tables there are.
use Rattle.std.specs.Prelude.{ℕ, ◌≤◌, List, ◌∷◌, ◌++◌}
use Rattle.srtp_sources.specs.SavedWords.{FitsWords, saved_words}
use Rattle.srtcp_context.specs.declared.counts.Counts.{Counts}

-- 257 bytes: how many sources are known in one byte, the SSRCs of all 32 places, the counts of all 32 places; what stands
-- at a place that isn't used is saved as it is
unfoldable pub saved_counts : Counts → List ℕ
saved_counts table = table.count ∷ (saved_words table.ssrcs ++ saved_words table.sent)

-- the tables that there are: 32 SSRCs and 32 counts of 32 bits, at most 32 known sources
pub record FitsCounts (table : Counts) : Type 0 where
  pub ssrcs : FitsWords table.ssrcs
  pub sent : FitsWords table.sent
  pub known : table.count ≤ 32

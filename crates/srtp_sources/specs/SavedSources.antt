-- How a table of sources is saved, and which tables there are.
use Rattle.std.specs.Prelude.{ℕ, ◌≤◌, List, ◌∷◌, ◌++◌}
use Rattle.srtp_sources.specs.declared.sources.Sources.{Sources}
use Rattle.srtp_sources.specs.SavedWords.{FitsWords, saved_words}
use Rattle.srtp_sources.specs.SavedWindowLists.{FitsWindows, saved_windows}

-- 929 bytes: how many sources are known in one byte, the SSRCs of all 32 places, the windows of all 32 places; what
-- stands at a place that isn't used is saved as it is
unfoldable pub saved_sources : Sources → List ℕ
saved_sources table = table.count ∷ (saved_words table.ssrcs ++ saved_windows table.windows)

-- the tables that there are: 32 SSRCs of 32 bits, 32 windows, at most 32 known sources
pub record FitsSources (table : Sources) : Type 0 where
  pub ssrcs : FitsWords table.ssrcs
  pub windows : FitsWindows table.windows
  pub known : table.count ≤ 32

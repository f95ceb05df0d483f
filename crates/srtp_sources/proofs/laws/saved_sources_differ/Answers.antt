use Rattle.std.proofs.Common.{subst}
use Rattle.srtp_sources.specs.declared.sources.Sources.{Sources}
use Rattle.srtp_sources.specs.Tables.{SourcesFor}
use Rattle.srtp_sources.proofs.SavedTables.{same_sources}
use Rattle.srtp_sources.proofs.laws.saved_sources_differ.Goals as goal

pub returns-clause-same : goal.returns-clause-same
returns-clause-same c = same_sources

pub returns-clause-stands : goal.returns-clause-stands
returns-clause-stands c a b fits_a fits_b is half notes stands =
    subst (λ (table : Sources). SourcesFor half table notes) (same_sources a b fits_a fits_b is) stands

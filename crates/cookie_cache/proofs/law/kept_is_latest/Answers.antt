use Rattle.cookie_cache.proofs.Latest.{kept_as_latest, kept_as_none}
use Rattle.cookie_cache.proofs.law.kept_is_latest.Goals as goal

pub returns-clause-found : goal.returns-clause-found
returns-clause-found c keepings source cookie at reply = kept_as_latest keepings source cookie at reply

pub returns-clause-missing : goal.returns-clause-missing
returns-clause-missing c keepings source cookie at = kept_as_none keepings source cookie at

use Rattle.std.proofs.Common.{[], ◌∷◌}
use Rattle.media_ports.specs.Addresses.{addresses_of}
use Rattle.media_ports.specs.Calls.{AllOpen}
use Rattle.media_ports.specs.OpenPorts.{OpensHeld}
use Rattle.media_ports.proofs.Telling.{told_less}
use Rattle.media_ports.proofs.Held.{held_open}
use Rattle.media_ports.proofs.law.held_pairs_are_open.Goals as goal

pub returns : goal.returns
returns c config log pairs lease held within has_it =
    told_less log (λ calls. OpensHeld config calls pairs) (AllOpen (addresses_of config (lease ∷ []))) (λ calls h. held_open config calls pairs lease h within has_it) held

use Rattle.media_ports.specs.Addresses.{addresses_of}
use Rattle.media_ports.specs.Calls.{NoneOpen}
use Rattle.media_ports.specs.OpenPorts.{OpensHeld}
use Rattle.media_ports.proofs.Telling.{told_less}
use Rattle.media_ports.proofs.Held.{others_closed}
use Rattle.media_ports.proofs.law.other_pairs_are_closed.Goals as goal

pub returns : goal.returns
returns c config log pairs leases held leased others =
    told_less log (λ calls. OpensHeld config calls pairs) (NoneOpen (addresses_of config leases)) (λ calls h. others_closed config calls pairs leases h leased others) held

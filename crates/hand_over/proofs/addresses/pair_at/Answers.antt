use Rattle.std.proofs.Common.{ap, ◌∙◌, ◌-◌, ◌/◌, ℕ}
use Rattle.relay_outside.specs.declared.address.Ip.{Ip}
use Rattle.relay_outside.specs.Settings.{ip_family}
use Rattle.hand_over.proofs.PairOfAddress.{pair_of_first}
use Rattle.hand_over.proofs.addresses.pair_at.Goals as goal

pub returns-in-V4 : goal.returns-in-V4
returns-in-V4 c pair within is =
    let same = pair_of_first c.args.config.now pair c.args.at c.requires.families within is (ap (λ (ip : Ip). ip_family ip) c.in-V4.is) in
    let port = c.from.ensures in
    let first = c.first_port.ensures in
    ap (λ (n : ℕ). (n - c.first_port.result) / 2) port ∙ ap (λ (n : ℕ). (c.args.at.port - n) / 2) first ∙ same

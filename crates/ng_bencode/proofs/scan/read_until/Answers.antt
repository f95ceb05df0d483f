use Rattle.std.proofs.Common.{sym, ◌∙◌, ap}
use Rattle.std.specs.Prelude.{position, ◌==◌}
use Rattle.ng_bencode.proofs.Numbers.{present, first_free, parted}
use Rattle.ng_bencode.proofs.scan.read_until.Goals as goal

pub returns-in_default-clause-missing : goal.returns-in_default-clause-missing
returns-in_default-clause-missing c front rest e = present c.args.stop front rest (ap (position (λ byte. byte == c.args.stop)) (sym e) ∙ sym c.in_default.ensures.place)

pub returns-clause-found : goal.returns-clause-found
returns-clause-found c = parted c.args.stop c.args.bytes.now c.in-Some.at (sym c.in-Some.ensures.place)

pub returns-clause-first : goal.returns-clause-first
returns-clause-first c = first_free c.args.stop c.args.bytes.now c.in-Some.at (sym c.in-Some.ensures.place)

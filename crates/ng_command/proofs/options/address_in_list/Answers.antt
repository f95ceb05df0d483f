use Rattle.std.proofs.Common.{sym, ap, ◌∙◌, length}
use Rattle.ng_bencode.specs.Row.{list_in}
use Rattle.ng_command.proofs.Sources.{not_two}
use Rattle.ng_command.proofs.options.address_in_list.Goals as goal

pub returns-then-items-ne2 : goal.returns-then-items-ne2
returns-then-items-ne2 c = sym (not_two (list_in c.args.values.now) (λ e. c.if-items-ne2.true (ap length c.as_slice-items.ensures ∙ e)))

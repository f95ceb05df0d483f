use Rattle.std.proofs.Common.{◌∙◌, sym, ap, subst, ℕ, ◌≤◌, List, map}
use Rattle.std.specs.Prelude.{take}
use Rattle.ng_bencode.specs.Tree.{Tree, depth}
use Rattle.call_board.specs.Views.{View, CallView}
use Rattle.call_report.proofs.Shallow.{listing_shallow}
use Rattle.control_messages.proofs.Datagrams.{value_datagram, listed_is, same_text}
use Rattle.report_commands.proofs.list_command.list_datagram.Goals as goal

ids_in : ℕ → View → List (List ℕ)
ids_in limit v = take limit (map (λ (c : CallView). c.of.id) v.calls)

pub value_datagram-requires : goal.value_datagram-requires
unfolding ids_in
value_datagram-requires c =
    let shown = c.requires.shown in
    let v : View = shown.1 in
    subst (λ (tree : Tree). depth tree ≤ 16) (sym (c.in_ok-value.ensures shown.0 v shown.2)) (listing_shallow (ids_in c.args.limit v))

pub returns : goal.returns
unfolding ids_in
returns c config v shows =
    same_text c.value_datagram.result _ _ c.value_datagram.ensures
    (ap (value_datagram c.args.request.now.cookie.now c.args.request.now.body.now) (c.in_ok-value.ensures config v shows)
    ∙ listed_is config c.args.request.now.cookie.now c.args.request.now.body.now (ids_in c.args.limit v))

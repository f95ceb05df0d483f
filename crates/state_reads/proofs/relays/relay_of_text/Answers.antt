use Rattle.ng_bencode.specs.Spells.{Spells}
use Rattle.ng_bencode.specs.Tree.{Tree, tree_of}
use Rattle.std.proofs.Common.{◌≡◌}
use Rattle.state_values.specs.RelayTrees.{relay_tree, FitsRelaySaved}
use Rattle.state_reads.specs.Texts.{RelayStands, IsRelayText}
use Rattle.state_reads.proofs.OneTree.{from_none, from_some, some_in_text, none_in_text}
use Rattle.state_reads.proofs.relays.relay_of_text.Goals as goal

pub returns-in_default-clause-none : goal.returns-in_default-clause-none
returns-in_default-clause-none c = λ saved fits is. from_none _ _ c.in_ok-value.ensures.none c.in_default.is _ is.spelled

pub returns-clause-some : goal.returns-clause-some
returns-clause-some c =
    some_in_text relay_tree (RelayStands c.args.config.now) (IsRelayText c.args.config.now c.args.text.now) c.args.text.now _ _
    (λ it spelled stands. record { spelled = spelled; stands = stands })
    (from_some _ _ _ c.in_ok-value.ensures.value c.in-Some.is) c.relay_of_value.ensures.some c.relay_of_value.ensures.stands

pub returns-clause-none : goal.returns-clause-none
returns-clause-none c =
    none_in_text relay_tree FitsRelaySaved (RelayStands c.args.config.now) (IsRelayText c.args.config.now c.args.text.now) c.args.text.now _ _
    (λ it is. is.spelled) (λ it is. is.stands)
    (from_some _ (λ value. (tree : Tree) → Spells c.args.text.now tree → tree ≡ tree_of value) _ c.in_ok-value.ensures.only c.in-Some.is) c.relay_of_value.ensures.none

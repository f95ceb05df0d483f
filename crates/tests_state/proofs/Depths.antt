-- How deep a value is that is written of a record.
use Rattle.std.proofs.Common.{◌≡◌, ◌≤◌, subst, sym, Result, Ok, Err}
use Rattle.std.specs.Prelude.{IfOk}
use Rattle.relay_outside.specs.declared.answers.OutOfMemory.{OutOfMemory}
use Rattle.ng_bencode.specs.declared.value.Value.{Value}
use Rattle.ng_bencode.specs.Tree.{Tree, tree_of, depth}

pub value_deep : (made : Result Value OutOfMemory) (tree : Tree) → IfOk made (λ (value : Value). tree_of value ≡ tree) → depth tree ≤ 16
    → IfOk made (λ (value : Value). depth (tree_of value) ≤ 16)
value_deep (Ok value) tree is deep = subst (λ (t : Tree). depth t ≤ 16) (sym is) deep
value_deep (Err cause) tree is deep = is

-- A dictionary never tells that the body is none, what it tells is how the body is read, and a body that is not decoded has no dictionary.
use Rattle.std.proofs.Common.{◌≡◌, refl, ℕ, List, Option, Some, None, Result, Ok, Err, codes}
use Rattle.ng_bencode.specs.Tree.{Tree, Dict, Entries}
use Rattle.ng_bencode.specs.Spells.{Spells}
use Rattle.ng_bencode.specs.declared.errors.Bad.{Bad}
use Rattle.ng_bencode.specs.declared.errors.Bad.TheVariants as bads
use Rattle.ng_command.specs.Values.{text_at}
use Rattle.ng_command.specs.Effects.{command_kind}
use Rattle.ng_command.specs.Faults.{first_wrong, first_unsupported, fault_by}
use Rattle.ng_command.specs.Meanings.{Said, meaning}
use Rattle.ng_command.specs.Bodies.{fault_of_bad, kind_or_fault, kind_named, or_fault, said_of_kind, said_or_fault, Agrees, IsCommandRead}
use Rattle.ng_command.specs.declared.kind.Kind.{Kind}
use Rattle.ng_command.specs.declared.fault.KeyName.{KeyName}
use Rattle.ng_command.specs.declared.fault.CommandFault.{CommandFault}
use Rattle.ng_command.specs.declared.fault.CommandFault.TheVariants.{Malformed, NoCommand, Unrecognized, Key, Unsupported, OutOfMemory}
use Rattle.ng_command.specs.declared.command.Command.{Command}

by_keys : (wrong unsupported : Option KeyName) (says : Said) → or_fault (fault_by wrong unsupported) says ≡ Err Malformed → ⊥
by_keys (Some key) unsupported says e = cc
by_keys None (Some key) says e = cc
by_keys None None says e = cc

by_kind : (kind : Option Kind) (pairs : Entries) → said_of_kind (kind_or_fault kind) pairs ≡ Err Malformed → ⊥
by_kind None pairs e = cc
by_kind (Some kind) pairs e = by_keys (first_wrong kind pairs) (first_unsupported kind pairs) (meaning kind pairs) e

by_name : (name : Option (List ℕ)) (pairs : Entries) → said_of_kind (kind_named name) pairs ≡ Err Malformed → ⊥
by_name None pairs e = cc
by_name (Some name) pairs e = by_kind (command_kind name) pairs e

pub read_so : (body : List ℕ) (pairs : Entries) (result : Result Command CommandFault) → Spells body (Dict pairs) → Agrees (said_or_fault pairs) result → IsCommandRead body result
read_so body pairs (Ok command) spells agrees = (pairs, spells, agrees)
read_so body pairs (Err Malformed) spells agrees = absurd (by_name (text_at pairs (codes "command")) pairs agrees)
read_so body pairs (Err NoCommand) spells agrees = (pairs, spells, agrees)
read_so body pairs (Err Unrecognized) spells agrees = (pairs, spells, agrees)
read_so body pairs (Err (Key key)) spells agrees = (pairs, spells, agrees)
read_so body pairs (Err (Unsupported key)) spells agrees = (pairs, spells, agrees)
read_so body pairs (Err OutOfMemory) spells agrees = tt

pub undecoded : (body : List ℕ) (bad : Bad) → (bad ≡ bads.NotBencode → (tree : Tree) → Spells body tree → ⊥) → IsCommandRead body (Err (fault_of_bad bad))
undecoded body bads.NotBencode none = λ pairs spells. none refl (Dict pairs) spells
undecoded body bads.OutOfMemory none = tt

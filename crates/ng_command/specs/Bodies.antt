-- How the body of a control datagram is read.
use Rattle.std.specs.Prelude.{◌≡◌, ℕ, List, Option, Some, None, Result, Ok, Err, codes}
use Rattle.ng_bencode.specs.Tree.{Dict, Entries}
use Rattle.ng_bencode.specs.declared.errors.Bad.{Bad}
use Rattle.ng_bencode.specs.declared.errors.Bad.TheVariants as bads
use Rattle.ng_bencode.specs.Spells.{Spells}
use Rattle.ng_command.specs.Values.{text_at}
use Rattle.ng_command.specs.Effects.{command_kind}
use Rattle.ng_command.specs.Faults.{fault_of}
use Rattle.ng_command.specs.Meanings.{Said, said, meaning}
use Rattle.ng_command.specs.declared.kind.Kind.{Kind}
use Rattle.ng_command.specs.declared.fault.CommandFault.{CommandFault}
use Rattle.ng_command.specs.declared.fault.CommandFault.TheVariants.{Malformed, NoCommand, Unrecognized, Key, Unsupported, OutOfMemory}
use Rattle.ng_command.specs.declared.command.Command.{Command}

-- the fault of a body that is not decoded
abbrev pub fault_of_bad : Bad → CommandFault
fault_of_bad bads.NotBencode = Malformed
fault_of_bad bads.OutOfMemory = OutOfMemory

abbrev pub kind_or_fault : Option Kind → Result Kind CommandFault
kind_or_fault None = Err Unrecognized
kind_or_fault (Some kind) = Ok kind

-- the command that is named, or why there is none
abbrev pub kind_named : Option (List ℕ) → Result Kind CommandFault
kind_named None = Err NoCommand
kind_named (Some name) = kind_or_fault (command_kind name)

abbrev pub or_fault : Option CommandFault → Said → Result Said CommandFault
or_fault (Some fault) says = Err fault
or_fault None says = Ok says

abbrev pub said_of_kind : Result Kind CommandFault → Entries → Result Said CommandFault
said_of_kind (Err fault) pairs = Err fault
said_of_kind (Ok kind) pairs = or_fault (fault_of kind pairs) (meaning kind pairs)

-- what the dictionary of a command says, or its first fault
abbrev pub said_or_fault : Entries → Result Said CommandFault
said_or_fault pairs = said_of_kind (kind_named (text_at pairs (codes "command"))) pairs

-- the result agrees with what is told, or is out of memory
abbrev pub Agrees : Result Said CommandFault → Result Command CommandFault → Type 0
Agrees expected (Ok command) = expected ≡ Ok (said command)
Agrees expected (Err OutOfMemory) = Unit {0}
Agrees expected (Err Malformed) = expected ≡ Err Malformed
Agrees expected (Err NoCommand) = expected ≡ Err NoCommand
Agrees expected (Err Unrecognized) = expected ≡ Err Unrecognized
Agrees expected (Err (Key key)) = expected ≡ Err (Key key)
Agrees expected (Err (Unsupported key)) = expected ≡ Err (Unsupported key)

-- The body of a datagram is read with this result. `Malformed` comes exactly where the body spells no dictionary, and
-- every other result but out of memory is what the dictionary tells.
abbrev pub IsCommandRead : List ℕ → Result Command CommandFault → Type 0
IsCommandRead body (Err Malformed) = (pairs : Entries) → Spells body (Dict pairs) → ⊥
IsCommandRead body (Err OutOfMemory) = Unit {0}
IsCommandRead body result = (pairs : Entries) × Spells body (Dict pairs) × Agrees (said_or_fault pairs) result

-- How live calls are written: each with its call-id, its number and its cell's, its dialog, and its moments in milliseconds.
use Rattle.std.specs.Prelude.{codes, ◌≡◌, ◌<◌, ◌^◌, List, [], ◌∷◌, IfSome}
use Rattle.ng_bencode.specs.Tree.{Tree, Bytes, Dict, entry, no_entries}
use Rattle.call_board.specs.declared.saved_board.CallSaved.{CallSaved}
use Rattle.state_values.specs.Numbers.{number_tree, list_tree}
use Rattle.state_values.specs.Forms.{option_tree}
use Rattle.state_values.specs.DialogTrees.{dialog_tree, FitsDialogSaved, IsSameDialog}

-- the moments are those of the first and of the last accepted offer or answer, and the one from which a tick ends the call, if it is ending
abbrev pub call_tree : CallSaved → Tree
call_tree saved = Dict
    (entry (codes "call_id") (Bytes saved.id.list)
    (entry (codes "cell") (number_tree saved.cell)
    (entry (codes "dialog") (dialog_tree saved.dialog)
    (entry (codes "due_moment") (option_tree number_tree saved.due_moment)
    (entry (codes "first_moment") (number_tree saved.first_moment)
    (entry (codes "last_moment") (number_tree saved.last_moment)
    (entry (codes "number") (number_tree saved.number) no_entries)))))))

-- in order of creation
abbrev pub calls_tree : List CallSaved → Tree
calls_tree calls = list_tree call_tree calls

-- the ranges of the fields
pub record FitsCallSaved (saved : CallSaved) : Type 0 where
  pub number : saved.number < 2 ^ 64
  pub cell : saved.cell < 2 ^ 32
  pub dialog : FitsDialogSaved saved.dialog
  pub first_moment : saved.first_moment < 2 ^ 64
  pub last_moment : saved.last_moment < 2 ^ 64
  pub due_moment : IfSome saved.due_moment (λ moment. moment < 2 ^ 64)

-- the same to all that reads them: the call-id and the dialog but for spare room
pub record IsSameCall (a b : CallSaved) : Type 0 where
  pub number : a.number ≡ b.number
  pub cell : a.cell ≡ b.cell
  pub id : a.id.list ≡ b.id.list
  pub dialog : IsSameDialog a.dialog b.dialog
  pub first_moment : a.first_moment ≡ b.first_moment
  pub last_moment : a.last_moment ≡ b.last_moment
  pub due_moment : a.due_moment ≡ b.due_moment

-- one by one
abbrev pub AreSameCalls : List CallSaved → List CallSaved → Type 0
AreSameCalls [] [] = Unit {0}
AreSameCalls [] (b ∷ others) = ⊥
AreSameCalls (a ∷ more) [] = ⊥
AreSameCalls (a ∷ more) (b ∷ others) = IsSameCall a b × AreSameCalls more others

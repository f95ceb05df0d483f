-- Live calls that are written alike, and that each is spelled.
use Rattle.std.proofs.Common.{◌≡◌, ℕ, ◌+◌, ◌<◌, ◌≤◌, ◌^◌, List, [], ◌∷◌, map, All, refl, arith}
use Rattle.std.proofs.lemmas.List.Elements.{All-head, All-tail}
use Rattle.std.specs.Prelude.{max}
use Rattle.ng_bencode.specs.Tree.{Tree, Bytes, depth}
use Rattle.ng_bencode.specs.Spells.{spelling, Spells}
use Rattle.call_board.specs.declared.saved_board.CallSaved.{CallSaved}
use Rattle.state_values.specs.Numbers.{number_tree}
use Rattle.state_values.proofs.OptionTrees.{same_options, option_spelled}
use Rattle.state_values.specs.CallTrees.{call_tree, calls_tree, FitsCallSaved, IsSameCall, AreSameCalls}
use Rattle.state_values.proofs.NumberTrees.{same_number}
use Rattle.state_values.proofs.ListTrees.{same_list}
use Rattle.state_values.proofs.KeyedTrees.{same_entries, same_value, same_rest}
use Rattle.state_values.proofs.DialogLaws.{same_dialogs, dialog_deep}
use Rattle.state_values.proofs.Spelled.{Spelled, number_spelled, list_spelled}

abbrev IsLong : ℕ → Type 0
IsLong moment = moment < 2 ^ 64

same_bytes : (a b : List ℕ) → Bytes a ≡ Bytes b → a ≡ b
same_bytes a b e = cc

same_call : (a b : CallSaved) → FitsCallSaved a → FitsCallSaved b → call_tree a ≡ call_tree b → IsSameCall a b
same_call a b fits_a fits_b same =
    let first = same_entries same in
    let second = same_rest first in
    let third = same_rest second in
    let fourth = same_rest third in
    let fifth = same_rest fourth in
    let sixth = same_rest fifth in
    let seventh = same_rest sixth in
    record {
      number = same_number a.number b.number fits_a.number fits_b.number (same_value seventh);
      cell = same_number a.cell b.cell (omega (arith, fits_a.cell)) (omega (arith, fits_b.cell)) (same_value second);
      id = same_bytes a.id.list b.id.list (same_value first);
      dialog = same_dialogs a.dialog b.dialog fits_a.dialog fits_b.dialog (same_value third);
      first_moment = same_number a.first_moment b.first_moment fits_a.first_moment fits_b.first_moment (same_value fifth);
      last_moment = same_number a.last_moment b.last_moment fits_a.last_moment fits_b.last_moment (same_value sixth);
      due_moment = same_options number_tree IsLong same_number a.due_moment b.due_moment fits_a.due_moment fits_b.due_moment (same_value fourth);
    }

one_by_one : (a b : List CallSaved) → All FitsCallSaved a → All FitsCallSaved b → map call_tree a ≡ map call_tree b → AreSameCalls a b
one_by_one [] [] all_a all_b e = tt
one_by_one [] (y ∷ b) all_a all_b e = let f : ◌≡◌ {A = List Tree} [] (call_tree y ∷ map call_tree b) = e in absurd (cc)
one_by_one (x ∷ a) [] all_a all_b e = let f : ◌≡◌ {A = List Tree} (call_tree x ∷ map call_tree a) [] = e in absurd (cc)
one_by_one (x ∷ a) (y ∷ b) all_a all_b e =
    let f : ◌≡◌ {A = List Tree} (call_tree x ∷ map call_tree a) (call_tree y ∷ map call_tree b) = e in
    let first : call_tree x ≡ call_tree y = cc in
    let others : map call_tree a ≡ map call_tree b = cc in (
      same_call x y (All-head FitsCallSaved x a all_a) (All-head FitsCallSaved y b all_b) first,
      one_by_one a b (All-tail FitsCallSaved x a all_a) (All-tail FitsCallSaved y b all_b) others,
    )

pub same_calls : (a b : List CallSaved) → All FitsCallSaved a → All FitsCallSaved b → calls_tree a ≡ calls_tree b → AreSameCalls a b
same_calls a b all_a all_b same = one_by_one a b all_a all_b (same_list call_tree (calls_tree a) (map call_tree a) b refl same)

taller : (a b : ℕ) → a ≤ 8 → b ≤ 8 → max a b ≤ 8
taller a b low small = omega (arith, low, small)

one_more : (a : ℕ) → a ≤ 8 → 1 + a ≤ 9
one_more a low = omega (arith, low)

low : (most : ℕ) (tree : Tree) → Spelled most tree → most ≤ 8 → depth tree ≤ 8
low most tree it few = omega (arith, it.deep, few)

call_spelled : (saved : CallSaved) → Spelled 9 (call_tree saved)
call_spelled saved =
    let cell = number_spelled saved.cell in
    let dialog = dialog_deep saved.dialog in
    let due = option_spelled number_tree 0 number_spelled saved.due_moment in
    let first = number_spelled saved.first_moment in
    let last = number_spelled saved.last_moment in
    let number = number_spelled saved.number in
    let nothing : 0 ≤ 8 = omega arith in
    let seventh = taller _ _ (low 0 _ number (omega arith)) nothing in
    let sixth = taller _ _ (low 0 _ last (omega arith)) seventh in
    let fifth = taller _ _ (low 0 _ first (omega arith)) sixth in
    let fourth = taller _ _ (low 1 _ due (omega arith)) fifth in
    let third = taller _ _ (low 8 _ dialog (omega arith)) fourth in
    let second = taller _ _ (low 0 _ cell (omega arith)) third in
    record {
      ints = (tt, (cell.ints, (dialog.ints, (due.ints, (first.ints, (last.ints, (number.ints, tt)))))));
      deep = one_more _ (taller 0 _ nothing second);
    }

pub calls_spelled : (calls : List CallSaved) → Spells (spelling (calls_tree calls)) (calls_tree calls)
calls_spelled calls =
    let all = list_spelled call_tree 9 call_spelled calls in
    record { ints = all.ints; deep = omega (arith, all.deep); spelled = refl }

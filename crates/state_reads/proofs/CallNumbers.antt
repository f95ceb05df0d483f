-- Live calls that are written alike have the same numbers, cells and call-ids.
use Rattle.std.proofs.Common.{◌≡◌, ℕ, List, All, map, refl, sym, subst, arith}
use Rattle.std.proofs.lemmas.List.Elements.{All-weaker}
use Rattle.call_board.specs.declared.saved_board.CallSaved.{CallSaved}
use Rattle.state_values.specs.CallTrees.{call_tree, calls_tree, FitsCallSaved}
use Rattle.state_values.proofs.NumberTrees.{same_number}
use Rattle.state_values.proofs.ListTrees.{same_list, same_seen}
use Rattle.state_values.proofs.KeyedTrees.{same_entries, same_value, same_rest}
use Rattle.state_values.proofs.SignalLaws.{same_bytes}
use Rattle.state_reads.specs.Calls.{saved_numbers, saved_cells, saved_ids, CallsStand, CallRanges}

number_is : (a b : CallSaved) → CallRanges a → CallRanges b → call_tree a ≡ call_tree b → a.number ≡ b.number
number_is a b fits_a fits_b same =
    let second = same_rest (same_entries same) in
    let fourth = same_rest (same_rest second) in
    let seventh = same_rest (same_rest (same_rest fourth)) in
    same_number a.number b.number fits_a.number fits_b.number (same_value seventh)

cell_is : (a b : CallSaved) → CallRanges a → CallRanges b → call_tree a ≡ call_tree b → a.cell ≡ b.cell
cell_is a b fits_a fits_b same =
    same_number a.cell b.cell (omega (arith, fits_a.cell)) (omega (arith, fits_b.cell)) (same_value (same_rest (same_entries same)))

id_is : (a b : CallSaved) → CallRanges a → CallRanges b → call_tree a ≡ call_tree b → a.id.list ≡ b.id.list
id_is a b fits_a fits_b same = same_bytes a.id.list b.id.list (same_value (same_entries same))

pub calls_tell : (begun count : ℕ) (a b : List CallSaved) → All CallRanges a → All FitsCallSaved b → calls_tree a ≡ calls_tree b
    → CallsStand begun count (saved_numbers b) (saved_cells b) (saved_ids b) → CallsStand begun count (saved_numbers a) (saved_cells a) (saved_ids a)
calls_tell begun count a b ranges fits same stand =
    let fits_b = All-weaker FitsCallSaved CallRanges (λ call it. record { number = it.number; cell = it.cell }) b fits in
    let one = same_list call_tree (calls_tree a) (map call_tree a) b refl same in
    let numbers = same_seen call_tree (λ (call : CallSaved). call.number) CallRanges number_is a b ranges fits_b one in
    let cells = same_seen call_tree (λ (call : CallSaved). call.cell) CallRanges cell_is a b ranges fits_b one in
    let ids = same_seen call_tree (λ (call : CallSaved). call.id.list) CallRanges id_is a b ranges fits_b one in
    subst (λ (l : List ℕ). CallsStand begun count l (saved_cells a) (saved_ids a)) (sym numbers)
    (subst (λ (l : List ℕ). CallsStand begun count (saved_numbers b) l (saved_ids a)) (sym cells)
    (subst (λ (l : List (List ℕ)). CallsStand begun count (saved_numbers b) (saved_cells b) l) (sym ids) stand))

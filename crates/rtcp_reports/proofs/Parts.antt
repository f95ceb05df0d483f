-- The parts of a compound packet, one after another, and the last block of them all.
use Rattle.std.proofs.Common.{◌≡◌, ◌∙◌, sym, ap, refl, ℕ, zero, suc, ◌+◌, ◌-◌, ◌*◌, ◌≤◌, ◌<◌, Bool, true, false, cond, List, [], ◌∷◌, ◌++◌, length, take, drop, Option, Some, None, arith, length-drop}
use Rattle.std.specs.Prelude.{nat_le, ◌==◌, IsTrue}
use Rattle.std.proofs.lemmas.Bool.{leb-true, lt-leb, and_right, and_parts, false_from_ne_true}
use Rattle.rtp_packet.specs.Head.{version}
use Rattle.std.specs.List.{flat_map}
use Rattle.std.specs.Option.{option_or}
use Rattle.histories.specs.Words.{final, or_else}
use Rattle.rtcp_reports.specs.declared.block.Block.{Block}
use Rattle.rtcp_reports.specs.Compound.{part_size, begins_with_part, leading_parts, compound_parts}
use Rattle.rtcp_reports.specs.ReportBlocks.{report_blocks, last_report_block}

enough_case : (bytes : List ℕ) (most more : ℕ)
    → leading_parts most (drop (part_size bytes) bytes) ≡ leading_parts more (drop (part_size bytes) bytes)
    → (b : Bool)
    → cond b (take (part_size bytes) bytes ∷ leading_parts most (drop (part_size bytes) bytes)) []
    ≡ cond b (take (part_size bytes) bytes ∷ leading_parts more (drop (part_size bytes) bytes)) []
enough_case bytes most more rest true = ap (λ (parts : List (List ℕ)). take (part_size bytes) bytes ∷ parts) rest
enough_case bytes most more rest false = refl

-- no part begins no bytes
none_begins : (bytes : List ℕ) → length bytes ≡ 0 → begins_with_part bytes ≡ false
none_begins bytes none =
    let over : length bytes < part_size bytes = omega arith in
    and_right (version bytes == 2) (nat_le (part_size bytes) (length bytes)) (lt-leb (part_size bytes) (length bytes) over)

none_leads : (bytes : List ℕ) (most : ℕ) → begins_with_part bytes ≡ false → leading_parts most bytes ≡ []
none_leads bytes zero none = refl
none_leads bytes (suc most) none =
    ap (λ (b : Bool). cond b (take (part_size bytes) bytes ∷ leading_parts most (drop (part_size bytes) bytes)) []) none

-- a list of parts that may be as long as the bytes is whole
enough : (most more : ℕ) (bytes : List ℕ) → length bytes ≤ most → length bytes ≤ more → leading_parts most bytes ≡ leading_parts more bytes
enough zero more bytes a b = sym (none_leads bytes more (none_begins bytes (omega arith)))
enough (suc most) zero bytes a b = none_leads bytes (suc most) (none_begins bytes (omega arith))
enough (suc most) (suc more) bytes a b =
    let left : length (drop (part_size bytes) bytes) ≡ length bytes - part_size bytes = length-drop (part_size bytes) bytes in
    enough_case bytes most more
    (enough most more (drop (part_size bytes) bytes) (omega arith) (omega arith)) (begins_with_part bytes)

-- where no part begins the bytes, they have none
parts_end : (bytes : List ℕ) → begins_with_part bytes ≡ false → compound_parts bytes ≡ []
unfolding compound_parts
parts_end bytes none = none_leads bytes (length bytes) none

parts_from : (bytes : List ℕ) (count : ℕ) → length bytes ≤ count → 0 < length bytes → begins_with_part bytes ≡ true →
    leading_parts count bytes ≡ take (part_size bytes) bytes ∷ compound_parts (drop (part_size bytes) bytes)
unfolding compound_parts
parts_from bytes zero few some begins = absurd (omega arith)
parts_from bytes (suc count) few some begins =
    let left : length (drop (part_size bytes) bytes) ≡ length bytes - part_size bytes = length-drop (part_size bytes) bytes in
    ap (λ (b : Bool). cond b (take (part_size bytes) bytes ∷ leading_parts count (drop (part_size bytes) bytes)) []) begins
    ∙ ap (λ (parts : List (List ℕ)). take (part_size bytes) bytes ∷ parts)
    (enough count (length (drop (part_size bytes) bytes)) (drop (part_size bytes) bytes) (omega arith) (omega arith))

-- where a part begins the bytes, it is the first of their parts, and the others are those of the bytes after it
parts_begin : (bytes : List ℕ) → 0 < length bytes → begins_with_part bytes ≡ true →
    compound_parts bytes ≡ take (part_size bytes) bytes ∷ compound_parts (drop (part_size bytes) bytes)
unfolding compound_parts
parts_begin bytes some begins = parts_from bytes (length bytes) (omega arith) some begins

or_none : {A : Type 0} (o : Option A) → o ≡ or_else o None
or_none None = refl
or_none (Some x) = refl

final_there : {A : Type 0} (y : A) (ys : List A) (o : Option A) → or_else (final (y ∷ ys)) o ≡ final (y ∷ ys)
final_there y [] o = refl
final_there y (z ∷ ys) o = final_there z ys o

final_append : {A : Type 0} (xs ys : List A) → final (xs ++ ys) ≡ or_else (final ys) (final xs)
final_append [] ys = or_none (final ys)
final_append (x ∷ []) [] = refl
final_append (x ∷ []) (y ∷ ys) = sym (final_there y ys (Some x))
final_append (x ∷ z ∷ xs) ys = final_append (z ∷ xs) ys

or_else_assoc : {A : Type 0} (a b c : Option A) → or_else (or_else a b) c ≡ or_else a (or_else b c)
or_else_assoc None b c = refl
or_else_assoc (Some x) b c = refl

or_is : {A : Type 0} (a b : Option A) → option_or a b ≡ or_else a b
or_is None b = refl
or_is (Some x) b = refl

-- without a part there is no block
none_left : (bytes : List ℕ) → begins_with_part bytes ≡ false → last_report_block bytes ≡ None
unfolding last_report_block
none_left bytes none = ap (λ (parts : List (List ℕ)). final (flat_map report_blocks parts)) (parts_end bytes none)

-- the last block is that of the bytes after the first part, or else that of the first part
last_of_more : (bytes : List ℕ) → begins_with_part bytes ≡ true →
    last_report_block bytes ≡ or_else (last_report_block (drop (part_size bytes) bytes)) (final (report_blocks (take (part_size bytes) bytes)))
unfolding last_report_block
last_of_more bytes begins =
    let inside : part_size bytes ≤ length bytes =
    leb-true (part_size bytes) (length bytes) (and_parts (version bytes == 2) (nat_le (part_size bytes) (length bytes)) begins).1 in
    ap (λ (parts : List (List ℕ)). final (flat_map report_blocks parts)) (parts_begin bytes (omega arith) begins)
    ∙ final_append (report_blocks (take (part_size bytes) bytes)) (flat_map report_blocks (compound_parts (drop (part_size bytes) bytes)))

-- what was found is the last block once no part is left
pub found : (packet rest : List ℕ) (last : Option Block) → last_report_block packet ≡ or_else (last_report_block rest) last →
    (IsTrue (begins_with_part rest) → ⊥) → last ≡ last_report_block packet
found packet rest last so_far ends =
    let none : begins_with_part rest ≡ false = false_from_ne_true (begins_with_part rest) (λ e. ends e) in
    sym (so_far ∙ ap (λ (o : Option Block). or_else o last) (none_left rest none))

-- one more part is read
pub one_more : (packet rest : List ℕ) (last in_part more : Option Block) (size : ℕ) → last_report_block packet ≡ or_else (last_report_block rest) last →
    IsTrue (begins_with_part rest) → size ≡ part_size rest → in_part ≡ final (report_blocks (take size rest)) → more ≡ option_or in_part last →
    last_report_block packet ≡ or_else (last_report_block (drop size rest)) more
one_more packet rest last in_part more size so_far begins size_is in_part_is more_is =
    so_far ∙ ap (λ (o : Option Block). or_else o last) (last_of_more rest begins)
    ∙ or_else_assoc (last_report_block (drop (part_size rest) rest)) (final (report_blocks (take (part_size rest) rest))) last
    ∙ ap (λ (n : ℕ). or_else (last_report_block (drop n rest)) (or_else (final (report_blocks (take n rest))) last)) (sym size_is)
    ∙ ap (λ (o : Option Block). or_else (last_report_block (drop size rest)) (or_else o last)) (sym in_part_is)
    ∙ ap (or_else (last_report_block (drop size rest))) (sym (more_is ∙ or_is in_part last))

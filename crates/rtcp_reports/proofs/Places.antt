-- Which of the blocks that a report says it has lie inside it, and which is the last of them.
use Rattle.std.proofs.Common.{◌≡◌, ◌∙◌, sym, ap, refl, ℕ, zero, suc, ◌+◌, ◌-◌, ◌*◌, ◌/◌, ◌%◌, ◌≤◌, ◌<◌, min, Bool, true, false, cond, List, [], ◌∷◌, map, filter, length, Option, Some, None, arith}
use Rattle.std.specs.Prelude.{nat_le, slice_index}
use Rattle.std.proofs.lemmas.Bool.{leb-true, leb-false}
use Rattle.histories.specs.Words.{numbers, final}
use Rattle.rtcp_reports.specs.declared.block.Block.{Block}
use Rattle.rtcp_reports.specs.ReportBlocks.{block_at, blocks_begin, block_places, report_blocks}

kept_case : (size begin n count : ℕ)
    → filter (λ place. nat_le (place + 24) size) (map (λ k. begin + 24 * k) (numbers (suc n) count))
    ≡ map (λ k. begin + 24 * k) (numbers (suc n) (min count ((size - begin) / 24 - suc n)))
    → (b : Bool) → nat_le (begin + 24 * n + 24) size ≡ b
    → cond b ((begin + 24 * n) ∷ filter (λ place. nat_le (place + 24) size) (map (λ k. begin + 24 * k) (numbers (suc n) count)))
    (filter (λ place. nat_le (place + 24) size) (map (λ k. begin + 24 * k) (numbers (suc n) count)))
    ≡ map (λ k. begin + 24 * k) (numbers n (min (suc count) ((size - begin) / 24 - n)))
kept_case size begin n count rest true e =
    let fits : begin + 24 * n + 24 ≤ size = leb-true (begin + 24 * n + 24) size e in
    let more : min (suc count) ((size - begin) / 24 - n) ≡ suc (min count ((size - begin) / 24 - suc n)) = omega arith in
    ap (λ (places : List ℕ). (begin + 24 * n) ∷ places) rest ∙ ap (λ (m : ℕ). map (λ k. begin + 24 * k) (numbers n m)) (sym more)
kept_case size begin n count rest false e =
    let over : size < begin + 24 * n + 24 = leb-false (begin + 24 * n + 24) size e in
    let later : min count ((size - begin) / 24 - suc n) ≡ 0 = omega arith in
    let here : min (suc count) ((size - begin) / 24 - n) ≡ 0 = omega arith in
    rest ∙ ap (λ (m : ℕ). map (λ k. begin + 24 * k) (numbers (suc n) m)) later
    ∙ sym (ap (λ (m : ℕ). map (λ k. begin + 24 * k) (numbers n m)) here)

-- of blocks that stand one after another those lie inside for which there is room
places_kept : (size begin n count : ℕ)
    → filter (λ place. nat_le (place + 24) size) (map (λ k. begin + 24 * k) (numbers n count))
    ≡ map (λ k. begin + 24 * k) (numbers n (min count ((size - begin) / 24 - n)))
places_kept size begin n zero =
    let none : min zero ((size - begin) / 24 - n) ≡ 0 = omega arith in
    sym (ap (λ (m : ℕ). map (λ k. begin + 24 * k) (numbers n m)) none)
places_kept size begin n (suc count) =
    kept_case size begin n count (places_kept size begin (suc n) count) (nat_le (begin + 24 * n + 24) size) refl

final_placed : {A : Type 0} (f : ℕ → A) (begin n m : ℕ) → final (map f (map (λ k. begin + 24 * k) (numbers n (suc m)))) ≡ Some (f (begin + 24 * (n + m)))
final_placed f begin n zero = let e : n ≡ n + zero = omega arith in ap (λ (k : ℕ). Some (f (begin + 24 * k))) e
final_placed f begin n (suc m) =
    let e : suc n + m ≡ n + suc m = omega arith in final_placed f begin (suc n) m ∙ ap (λ (k : ℕ). Some (f (begin + 24 * k))) e

blocks_kept : (part : List ℕ) (begin count : ℕ) → blocks_begin (slice_index part 1) ≡ Some begin →
    min (slice_index part 0 % 32) ((length part - begin) / 24) ≡ count → report_blocks part ≡ map (block_at part) (map (λ k. begin + 24 * k) (numbers 0 count))
unfolding report_blocks
blocks_kept part begin count first least =
    let e : min (slice_index part 0 % 32) ((length part - begin) / 24 - 0) ≡ count = omega arith in
    ap (λ (o : Option ℕ). map (block_at part) (block_places part o)) first
    ∙ ap (map (block_at part)) (places_kept (length part) begin 0 (slice_index part 0 % 32))
    ∙ ap (λ (m : ℕ). map (block_at part) (map (λ k. begin + 24 * k) (numbers 0 m))) e

-- a packet of another type has no block
pub none_begins : (part : List ℕ) → blocks_begin (slice_index part 1) ≡ None → None ≡ final (report_blocks part)
unfolding report_blocks
none_begins part none = sym (ap (λ (o : Option ℕ). final (map (block_at part) (block_places part o))) none)

-- a report that says that it has none, or has room for none, has no block
pub none_fits : (part : List ℕ) (begin : ℕ) → blocks_begin (slice_index part 1) ≡ Some begin →
    min (slice_index part 0 % 32) ((length part - begin) / 24) ≡ 0 → None ≡ final (report_blocks part)
none_fits part begin first none = sym (ap (λ (all : List Block). final all) (blocks_kept part begin 0 first none))

-- the last block of a report is the last that it says it has, or the last for which there is room
pub last_fits : (part : List ℕ) (begin m : ℕ) → blocks_begin (slice_index part 1) ≡ Some begin →
    min (slice_index part 0 % 32) ((length part - begin) / 24) ≡ suc m → final (report_blocks part) ≡ Some (block_at part (begin + 24 * m))
last_fits part begin m first least =
    let e : 0 + m ≡ m = omega arith in
    ap (λ (all : List Block). final all) (blocks_kept part begin (suc m) first least)
    ∙ final_placed (block_at part) begin 0 m ∙ ap (λ (k : ℕ). Some (block_at part (begin + 24 * k))) e

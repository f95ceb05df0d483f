-- The rounds of a block.
use Rattle.std.proofs.Common.{◌≡◌, ℕ, suc, ◌+◌, ◌-◌, ◌≤◌, List, refl, arith}
use Rattle.aes_ctr.specs.Aes.{sub_bytes, shift_rows, mix_columns, add_round_key, round_key, key_schedule, aes_rounds, aes}

pub rounds_first : (schedule input start key state : List ℕ) → start ≡ input → key ≡ round_key schedule 0 → state ≡ add_round_key start key → state ≡ aes_rounds schedule input 0
unfolding aes_rounds
rounds_first schedule input start key state ei ek es = rw (es, ei, ek) refl

pub rounds_more : (schedule input before mixed key after : List ℕ) (round : ℕ) → 1 ≤ round → before ≡ aes_rounds schedule input (round - 1)
    → mixed ≡ mix_columns (shift_rows (sub_bytes before)) → key ≡ round_key schedule round → after ≡ add_round_key mixed key
    → after ≡ aes_rounds schedule input (round + 1 - 1)
unfolding aes_rounds
rounds_more schedule input before mixed key after round low eb em ek ea =
    let more : round + 1 - 1 ≡ suc (round - 1) = omega arith in
    let place : round - 1 + 1 ≡ round = omega arith in
    rw (more, place, ea, ek, em, eb) refl

pub aes_of_rounds : (cipher input before shifted key after block : List ℕ) (round : ℕ) → round ≡ 10 → before ≡ aes_rounds (key_schedule cipher) input (round - 1)
    → shifted ≡ shift_rows (sub_bytes before) → key ≡ round_key (key_schedule cipher) 10 → after ≡ add_round_key shifted key → block ≡ after
    → block ≡ aes cipher input
unfolding aes
aes_of_rounds cipher input before shifted key after block round er eb es ek ea el = rw (el, ea, ek, es, eb, er) refl

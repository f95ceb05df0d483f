-- The states of SHA-1 under an authentication code.
use Rattle.std.proofs.Common.{◌≡◌, ℕ, ◌-◌, ◌<◌, ◌≤◌, List, ◌++◌, length, get_or, drop, replicate, bit_xor, ap, sym, ◌∙◌, arith}
use Rattle.std.proofs.lemmas.List.{ext_get_or, length-map, get_or-map, drop-replicate}
use Rattle.sha1.specs.Sha1.{Holds, sha1}
use Rattle.sha1.specs.declared.Sha1.{Sha1}
use Rattle.srtp_keys.specs.Hmac.{hmac, key_block, padded_by}

pub zeros_behind : (bytes block : List ℕ) → length bytes ≤ 64 → block ≡ bytes ++ drop (length bytes) (replicate 64 0) → block ≡ bytes ++ replicate (64 - length bytes) 0
zeros_behind bytes block fits is = is ∙ ap (λ (l : List ℕ). bytes ++ l) (drop-replicate (length bytes) 64 0)

pub holds_padded : (block bytes : List ℕ) (pad : ℕ) (state : Sha1) → length block ≡ 64 → length bytes ≡ 64 → ((k : ℕ) → k < 64 → get_or bytes k 0 ≡ bit_xor (get_or block k 0) pad)
    → Holds state bytes → Holds state (padded_by pad block)
holds_padded block bytes pad state long wide each held =
    let same : bytes ≡ padded_by pad block = ext_get_or 0 _ _ (wide ∙ sym (length-map block (λ byte. bit_xor byte pad) ∙ long)) (λ k h.
    let lt : k < 64 = omega arith in
    each k lt ∙ sym (get_or-map (λ byte. bit_xor byte pad) block k 0 0 (omega arith))) in
    rw same at held

pub hmac_of_states : (key now text tail : List ℕ) (inner outer first last : Sha1) (code : List ℕ) → key ≡ now → Holds inner (padded_by 0x36 (key_block key)) → Holds outer (padded_by 0x5c (key_block key))
    → first ≡ inner → last ≡ outer → ((m n : List ℕ) → Holds first m → Holds last n → code ≡ sha1 (n ++ sha1 (m ++ (text ++ tail))))
    → code ≡ hmac now (text ++ tail)
unfolding hmac
hmac_of_states key now text tail inner outer first last code ek hi ho ef el by =
    rw (← ek) (by (padded_by 0x36 (key_block key)) (padded_by 0x5c (key_block key)) (rw ef hi) (rw el ho))

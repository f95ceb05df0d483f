-- What a label makes of a master key and salt.
use Rattle.std.proofs.Common.{◌≡◌, ℕ, List, take, drop, replicate, refl, ◌∙◌}
use Rattle.aes_ctr.specs.Keystream.{keystream, xored}
use Rattle.aes_ctr.proofs.StreamLemmas.{xored-zeros, length-keystream}
use Rattle.srtp_keys.specs.Derivation.{label_counter, derived}

pub derived_by_apply : (master key bytes : List ℕ) (label counter n : ℕ) → key ≡ take 16 master → counter ≡ label_counter (drop 16 master) label
    → bytes ≡ xored (replicate n 0) (keystream key counter n) → bytes ≡ derived master label n
unfolding derived
derived_by_apply master key bytes label counter n ek ec eb =
    eb ∙ xored-zeros (keystream key counter n) n (length-keystream key counter n) ∙ (rw (ek, ec) refl)

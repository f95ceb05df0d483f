-- The parts of saved keys.
use Rattle.std.proofs.Common.{◌≡◌, ℕ, List, ◌++◌, length, arith, sym, ◌∙◌, length-append}
use Rattle.srtp_sources.specs.SavedKeys.{FitsKeys, saved_keys}
use Rattle.srtp_sources.proofs.Pieces.{same_parts}

pub length-saved_keys : (cipher mac salt : List ℕ) → FitsKeys cipher mac salt → length (saved_keys cipher mac salt) ≡ 50
unfolding saved_keys
length-saved_keys cipher mac salt fits =
    omega (arith, length-append cipher (mac ++ salt), length-append mac salt, fits.cipher_size, fits.mac_size, fits.salt_size)

pub record SameKeys (cipher mac salt cipher' mac' salt' : List ℕ) : Type 0 where
  pub cipher_same : cipher ≡ cipher'
  pub mac_same : mac ≡ mac'
  pub salt_same : salt ≡ salt'

pub same_keys : (cipher mac salt cipher' mac' salt' : List ℕ) → FitsKeys cipher mac salt → FitsKeys cipher' mac' salt'
    → saved_keys cipher mac salt ≡ saved_keys cipher' mac' salt' → SameKeys cipher mac salt cipher' mac' salt'
unfolding saved_keys
same_keys cipher mac salt cipher' mac' salt' fits fits' is =
    let first = same_parts cipher (mac ++ salt) cipher' (mac' ++ salt') (fits.cipher_size ∙ sym fits'.cipher_size) is in
    let second = same_parts mac salt mac' salt' (fits.mac_size ∙ sym fits'.mac_size) first.1 in
    record { cipher_same = first.0; mac_same = second.0; salt_same = second.1 }

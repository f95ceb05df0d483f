-- How the keys of a session are saved.
use Rattle.std.specs.Prelude.{ℕ, ◌≡◌, List, ◌++◌, length}

-- 50 bytes: the cipher's key, the key of the authentication tags, the session's salt
unfoldable pub saved_keys : List ℕ → List ℕ → List ℕ → List ℕ
saved_keys cipher mac salt = cipher ++ (mac ++ salt)

-- keys of 16 and of 20 bytes, and a salt of 14
pub record FitsKeys (cipher mac salt : List ℕ) : Type 0 where
  pub cipher_size : length cipher ≡ 16
  pub mac_size : length mac ≡ 20
  pub salt_size : length salt ≡ 14

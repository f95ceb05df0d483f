-- An address of four bytes or of sixteen with the word for its family, and the runs of zero groups in one of sixteen.
use Rattle.std.specs.Prelude.{◌≡◌, ◌<◌, ◌≤◌, ℕ, List, length, take, drop, replicate, All, codes}
use Rattle.sdp_text.specs.declared.host.Host.{Host}
use Rattle.sdp_text.specs.declared.host.Host.TheVariants.{V4, V6}

-- so many bytes
pub record HasBytes (many : ℕ) (bytes : List ℕ) : Type 0 where
  pub count : length bytes ≡ many
  pub each : All (λ b. b < 256) bytes

-- an address as it stands in memory: four bytes, or sixteen
abbrev pub IsAddress : Host → Type 0
IsAddress (V4 bytes) = HasBytes 4 bytes
IsAddress (V6 bytes) = HasBytes 16 bytes

-- the word for the family (RFC 8866 section 5.7)
abbrev pub family_word : Host → List ℕ
family_word (V4 bytes) = codes "IP4"
family_word (V6 bytes) = codes "IP6"

-- from this place on stand so many groups of zero
abbrev pub AreZeros : List ℕ → ℕ → ℕ → Type 0
AreZeros groups start count = take count (drop start groups) ≡ replicate count 0

-- the longest run of groups of zero, the first at a tie (RFC 5952 section 4.2): where it begins, and how many groups it has
pub record IsLongestRun (groups : List ℕ) (start count : ℕ) : Type 0 where
  pub zeros : AreZeros groups start count
  pub longest : (other size : ℕ) → AreZeros groups other size → size ≤ count
  pub first : (other : ℕ) → 0 < count → AreZeros groups other count → start ≤ other

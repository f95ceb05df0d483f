-- The frame of a datagram of the ng control protocol: a cookie, one space, a body.
use Rattle.std.specs.Prelude.{◌≡◌, ◌≢◌, ℕ, List, ◌∷◌, ◌++◌, ◌+◌, ◌<◌, ◌≤◌, ◌==◌, ◌||◌, length, take, drop, Option, Some, None, All, position, nat_lt, if◌then◌else◌}

-- The datagram is this cookie, one space and this body. A cookie has 1 to 255 bytes, none of them a space.
pub record IsFrame (datagram cookie body : List ℕ) : Type 0 where
  pub some : 0 < length cookie
  pub short : length cookie ≤ 255
  pub no_space : All (λ byte. byte ≢ 32) cookie
  pub bytes : datagram ≡ cookie ++ 32 ∷ body

-- the cookie and the body where the first space stands at this place
abbrev pub frame_at : List ℕ → Option ℕ → Option (List ℕ × List ℕ)
frame_at datagram None = None
frame_at datagram (Some at) = if (at == 0) || nat_lt 255 at then None else Some (take at datagram, drop (at + 1) datagram)

-- the one frame of a datagram, if it has one
abbrev pub frame : List ℕ → Option (List ℕ × List ℕ)
frame datagram = frame_at datagram (position (λ byte. byte == 32) datagram)

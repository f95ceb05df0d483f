-- Replies that were kept, as a plain list, the latest first; and which of them is the reply to a command.
use Rattle.std.specs.Cmp.Lexicographic.{pointwise}
use Rattle.std.specs.Prelude.{nat_eq, nat_lt, ℕ, ◌-◌, ◌<◌, ◌≤◌, ◌&&◌, Bool, List, [], ◌∷◌, Option, find, length, max, take}
use Rattle.std.specs.Option.{option_map}
use Rattle.relay_outside.specs.declared.address.Addr.{Addr}
use Rattle.relay_outside.specs.Ports.{same_addr}

-- one reply: the source and the cookie of its command, its bytes, and the moment at which it was kept, in milliseconds
pub record Keeping : Type 0 where
  pub source : Addr
  pub cookie : List ℕ
  pub reply : List ℕ
  pub moment : ℕ

-- a cookie has 1 to 255 bytes
pub record IsCookie (cookie : List ℕ) : Type 0 where
  pub some : 0 < length cookie
  pub short : length cookie ≤ 255

-- the last 4,096 keepings
abbrev pub recent : List Keeping → List Keeping
recent keepings = take 4096 keepings

-- the keeping has this source and this cookie, and was made less than 60,000 milliseconds before this moment
abbrev pub answers : Addr → List ℕ → ℕ → Keeping → Bool
answers source cookie at keeping =
    same_addr keeping.source source && pointwise nat_eq keeping.cookie cookie && nat_lt (at - keeping.moment) 60000

-- the reply that is kept for this source and cookie at this moment: of the last 4,096 keepings the latest that matches
unfoldable pub kept : List Keeping → Addr → List ℕ → ℕ → Option (List ℕ)
kept keepings source cookie at = option_map (λ keeping. keeping.reply) (find (answers source cookie at) (recent keepings))

-- the moment of the last keeping, at first 0
abbrev pub last_keeping_moment : List Keeping → ℕ
last_keeping_moment [] = 0
last_keeping_moment (keeping ∷ keepings) = keeping.moment

-- the moment that is used where this one is handed in: a clock that went back stands still
abbrev pub moment_used : List Keeping → ℕ → ℕ
moment_used keepings now = max now (last_keeping_moment keepings)

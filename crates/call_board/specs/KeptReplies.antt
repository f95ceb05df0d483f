-- The replies that are kept, as `cookie_cache` keeps them.
use Rattle.std.specs.Prelude.{ℕ, Bool, true, false, List, Option, Some, None, filter_map, if◌then◌else◌}
use Rattle.relay_outside.specs.declared.address.Addr.{Addr}
use Rattle.cookie_cache.specs.Keepings.{Keeping}
use Rattle.cookie_cache.specs.Keepings as cache
use Rattle.call_board.specs.Acts.{Act, Repeated, OutOfMemory, BoardEvent, Turn, Tick, Stop, BoardEntry}

-- the first reply of a cookie is kept, but none that says out of memory
abbrev pub is_kept : Act → Bool
is_kept Repeated = false
is_kept OutOfMemory = false
is_kept _ = true

abbrev pub keeping_at : ℕ → BoardEvent → Option Keeping
keeping_at moment (Turn c) =
    if is_kept c.act then Some (record { source = c.source; cookie = c.cookie; reply = c.reply; moment = moment }) else None
keeping_at moment (Tick calls) = None
keeping_at moment (Stop calls) = None

abbrev pub keeping_of : BoardEntry → Option Keeping
keeping_of e = keeping_at e.moment e.event

-- the replies that were kept, latest first
abbrev pub keepings : List BoardEntry → List Keeping
keepings h = filter_map keeping_of h

-- the reply that is kept for this source and cookie at this moment
abbrev pub kept_reply : List BoardEntry → Addr → List ℕ → ℕ → Option (List ℕ)
kept_reply h source cookie now = cache.kept (keepings h) source cookie now

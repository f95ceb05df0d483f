-- Worked rows of kept replies: the latest of the last 4,096 for this source and cookie, for less than 60,000 milliseconds.
use Rattle.std.proofs.Common.{◌≡◌, ℕ, List, [], ◌∷◌, ◌++◌, Some, None, true, refl}
use Rattle.std.specs.Prelude.{codes, replicate}
use Rattle.relay_outside.specs.declared.address.Ip.TheVariants as ips
use Rattle.relay_outside.specs.declared.address.Addr.{Addr}
use Rattle.ng_reply.specs.declared.code.ErrorCode.TheVariants.{E9, E15}
use Rattle.cookie_cache.specs.Keepings as cache
use Rattle.call_board.specs.Acts as act
use Rattle.call_board.specs.Acts.{BoardEntry}
use Rattle.call_board.specs.KeptReplies.{kept_reply}
use Rattle.call_board.proofs.rows.Histories.{from, from_port, tick, stop, history_of, c1, lease, offer}

abbrev here : Addr
here = from_port 2223

abbrev cookie : List ℕ
cookie = codes "7_o"

abbrev other_cookie : List ℕ
other_cookie = codes "7_p"

abbrev pong : List ℕ
pong = codes "pong"

abbrev other : List ℕ
other = codes "ok"

abbrev told_at : ℕ → List ℕ → BoardEntry
told_at moment reply = from here cookie moment reply act.Told

-- For less than a minute.

found : kept_reply (told_at 0 pong ∷ []) here cookie 59999 ≡ Some pong
unfolding cache.kept
found = refl

not_at_a_minute : kept_reply (told_at 0 pong ∷ []) here cookie 60000 ≡ None
unfolding cache.kept
not_at_a_minute = refl

found_later : kept_reply (told_at 7000 pong ∷ []) here cookie 66999 ≡ Some pong
unfolding cache.kept
found_later = refl

-- Of the same source and the same cookie.

another_port : kept_reply (told_at 0 pong ∷ []) (from_port 2224) cookie 0 ≡ None
unfolding cache.kept
another_port = refl

another_host : kept_reply (told_at 0 pong ∷ []) (record { ip = ips.V4 (192 ∷ 0 ∷ 2 ∷ 2 ∷ []); port = 2223 }) cookie 0 ≡ None
unfolding cache.kept
another_host = refl

another_cookie : kept_reply (told_at 0 pong ∷ []) here other_cookie 0 ≡ None
unfolding cache.kept
another_cookie = refl

a_shorter_cookie : kept_reply (told_at 0 pong ∷ []) here (codes "7_") 0 ≡ None
unfolding cache.kept
a_shorter_cookie = refl

-- Which replies are kept.

-- a repeat is not kept again, so that its minute runs from the first reply
repeat_is_not_kept : kept_reply (history_of (told_at 0 pong ∷ from here cookie 59999 pong act.Repeated ∷ [])) here cookie 60000 ≡ None
unfolding cache.kept
repeat_is_not_kept = refl

-- an out-of-memory reply is not kept, so that the command may be tried again
out_of_memory_is_not_kept : kept_reply (from here cookie 0 other act.OutOfMemory ∷ []) here cookie 1 ≡ None
unfolding cache.kept
out_of_memory_is_not_kept = refl

-- nor does it hide what was kept before
out_of_memory_hides_nothing : kept_reply (history_of (told_at 0 pong ∷ from here cookie 1 other act.OutOfMemory ∷ [])) here cookie 2 ≡ Some pong
unfolding cache.kept
out_of_memory_hides_nothing = refl

-- every other answer is kept, errors and undone offers too
error_is_kept : kept_reply (from here cookie 0 other (act.Failed E9) ∷ []) here cookie 1 ≡ Some other
unfolding cache.kept
error_is_kept = refl

undone_is_kept : kept_reply (from here cookie 0 other (act.Undone E15 (lease 0 1 ∷ []) []) ∷ []) here cookie 1 ≡ Some other
unfolding cache.kept
undone_is_kept = refl

offer_is_kept : kept_reply (from here cookie 0 other (offer c1 true [] [] []) ∷ []) here cookie 1 ≡ Some other
unfolding cache.kept
offer_is_kept = refl

delete_is_kept : kept_reply (from here cookie 0 other (act.Deleted c1) ∷ []) here cookie 1 ≡ Some other
unfolding cache.kept
delete_is_kept = refl

query_is_kept : kept_reply (from here cookie 0 other (act.Queried c1) ∷ []) here cookie 1 ≡ Some other
unfolding cache.kept
query_is_kept = refl

-- a tick and a stop keep nothing and hide nothing
ticks_hide_nothing : kept_reply (history_of (told_at 0 pong ∷ tick [] ∷ stop [] ∷ [])) here cookie 1 ≡ Some pong
unfolding cache.kept
ticks_hide_nothing = refl

-- The latest one.

the_latest : kept_reply (history_of (told_at 0 pong ∷ told_at 60000 other ∷ [])) here cookie 60001 ≡ Some other
unfolding cache.kept
the_latest = refl

-- also where the earlier one is still young
the_latest_of_two : kept_reply (history_of (told_at 0 pong ∷ told_at 1 other ∷ [])) here cookie 2 ≡ Some other
unfolding cache.kept
the_latest_of_two = refl

-- Of the last 4,096.

among_the_last : kept_reply (replicate 4095 (from here other_cookie 0 other act.Told) ++ told_at 0 pong ∷ []) here cookie 1 ≡ Some pong
unfolding cache.kept
among_the_last = refl

past_the_last : kept_reply (replicate 4096 (from here other_cookie 0 other act.Told) ++ told_at 0 pong ∷ []) here cookie 1 ≡ None
unfolding cache.kept
past_the_last = refl

-- repeats and out-of-memory replies don't count among them
repeats_do_not_count : kept_reply (replicate 4096 (from here other_cookie 0 other act.Repeated) ++ replicate 100 (from here other_cookie 0 other act.OutOfMemory) ++ told_at 0 pong ∷ []) here cookie 1 ≡ Some pong
unfolding cache.kept
repeats_do_not_count = refl

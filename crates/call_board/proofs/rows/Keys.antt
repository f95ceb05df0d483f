-- Worked rows of drawn keys: a key's number is its place among all keys that were drawn.
use Rattle.std.proofs.Common.{◌≡◌, ℕ, List, [], ◌∷◌, true, length, refl}
use Rattle.ng_reply.specs.declared.code.ErrorCode.TheVariants.{E15, E16}
use Rattle.sdes_lines.specs.declared.crypto_line.Suite.TheVariants.{Tag80}
use Rattle.port_pool.specs.declared.holder.Side.TheVariants.{B}
use Rattle.offer_answer.specs.Rounds.{KeyPlace, drawn_for}
use Rattle.call_board.specs.Acts as act
use Rattle.call_board.specs.Acts.{BoardEntry}
use Rattle.call_board.specs.Calls.{rounds}
use Rattle.call_board.specs.Pairs.{drawn, drawn_keys_from}
use Rattle.call_board.proofs.rows.Histories.{did, history_of, c1, c2, key, lease, offer, deletes}

-- three words that stand for keys
abbrev first_key : List ℕ
first_key = 1 ∷ 1 ∷ []

abbrev second_key : List ℕ
second_key = 2 ∷ 2 ∷ []

abbrev third_key : List ℕ
third_key = 3 ∷ 3 ∷ []

abbrev two_drawn : BoardEntry
two_drawn = did (offer c1 true [] (key 0 0 B first_key ∷ key 1 0 B second_key ∷ []) [])

in_order_of_draws : drawn (history_of (two_drawn ∷ did (offer c2 true [] (key 2 0 B third_key ∷ []) []) ∷ [])) ≡ first_key ∷ second_key ∷ third_key ∷ []
in_order_of_draws = refl

-- the keys of an ended call stay drawn
after_the_end : drawn (history_of (two_drawn ∷ deletes c1 ∷ [])) ≡ first_key ∷ second_key ∷ []
after_the_end = refl

-- an offer that lacked a key uses those up that it drew; one that lacked a port drew none
used_up : drawn (history_of (did (act.Undone E16 (lease 0 1 ∷ []) (first_key ∷ [])) ∷ did (act.Undone E15 (lease 0 2 ∷ []) []) ∷ did (offer c1 true [] (key 1 0 B second_key ∷ []) []) ∷ [])) ≡ first_key ∷ second_key ∷ []
used_up = refl

abbrev place : (section : ℕ) → KeyPlace
place section = record { section = section; side = B; suite = Tag80 }

numbered_on : drawn_keys_from (length (drawn (history_of (two_drawn ∷ [])))) (third_key ∷ first_key ∷ []) (place 0 ∷ place 1 ∷ []) ≡ key 2 0 B third_key ∷ key 3 1 B first_key ∷ []
numbered_on = refl

numbered_after_undone : drawn_keys_from (length (drawn (history_of (did (act.Undone E16 [] (first_key ∷ [])) ∷ [])))) (second_key ∷ []) (place 0 ∷ []) ≡ key 1 0 B second_key ∷ []
numbered_after_undone = refl

-- the keys of one call, and of no other
drawn_for_first : drawn_for (rounds (history_of (two_drawn ∷ did (offer c2 true [] (key 2 0 B third_key ∷ []) []) ∷ [])) 0) ≡ key 0 0 B first_key ∷ key 1 0 B second_key ∷ []
drawn_for_first = refl

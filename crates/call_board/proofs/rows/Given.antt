-- Worked rows of what a turn is given: two opens for each pair, up to the first that fails; a draw for each key, up to the first that fails.
use Rattle.std.proofs.Common.{◌≡◌, ap, ℕ, zero, suc, List, [], ◌∷◌, ◌++◌, length, Bool, true, false, Some, refl, arith, length-append}
use Rattle.std.specs.Prelude.{replicate}
use Rattle.std.proofs.lemmas.List.{length-replicate}
use Rattle.ng_reply.specs.declared.code.ErrorCode.TheVariants.{E9, E15}
use Rattle.sdes_lines.specs.declared.crypto_line.Suite.TheVariants.{Tag80}
use Rattle.port_pool.specs.declared.holder.Side.TheVariants.{B}
use Rattle.offer_answer.specs.Rounds.{KeyPlace, Demand}
use Rattle.call_board.specs.Acts as act
use Rattle.call_board.specs.Acts.{Given}
use Rattle.call_board.specs.Fits.{OpensAll, OpenFails, DrawsAll, DrawFails, GivesNothing, GivesFor}
use Rattle.call_board.proofs.rows.Histories.{given, c1, offer}

abbrev opened : List Bool → Given
opened opens = record given { opens = opens }

abbrev drew : List (List ℕ) → Bool → Given
drew draws failed = record given { draws = draws; draw_failed = failed }

both_halves : OpensAll (opened (true ∷ true ∷ true ∷ true ∷ [])) 2
both_halves = record { all_opened = refl }

no_pair_no_open : OpensAll given 0
no_pair_no_open = record { all_opened = refl }

one_half_is_missing : OpensAll (opened (true ∷ true ∷ true ∷ [])) 2 → ⊥
one_half_is_missing all = let e = all.all_opened in cc

fails_at_once : OpenFails (opened (false ∷ [])) 2
fails_at_once = record { opened = 0; some_are_left = omega arith; then_fails = refl }

fails_at_last : OpenFails (opened (true ∷ true ∷ true ∷ false ∷ [])) 2
fails_at_last = record { opened = 3; some_are_left = omega arith; then_fails = refl }

-- nothing is opened past the pairs, and nothing after a failure
past_the_pairs : OpenFails (opened (true ∷ true ∷ false ∷ [])) 1 → ⊥
past_the_pairs fails =
    let count : length (true ∷ true ∷ false ∷ []) ≡ length (replicate fails.opened true ++ false ∷ []) = ap length fails.then_fails in
    let sum = length-append (replicate fails.opened true) (false ∷ []) in
    let opens = length-replicate fails.opened true in
    let left = fails.some_are_left in omega (arith, count, sum, opens, left)

last_fails : (n : ℕ) → false ∷ true ∷ [] ≡ replicate n true ++ false ∷ [] → ⊥
last_fails zero e = cc
last_fails (suc n) e = cc

after_a_failure : OpenFails (opened (false ∷ true ∷ [])) 2 → ⊥
after_a_failure fails = last_fails fails.opened fails.then_fails

all_drawn : DrawsAll (drew ((1 ∷ []) ∷ (2 ∷ []) ∷ []) false) 2
all_drawn = record { all_drawn = refl; none_failed = refl }

a_key_is_missing : DrawsAll (drew ((1 ∷ []) ∷ []) false) 2 → ⊥
a_key_is_missing all = let e = all.all_drawn in absurd (omega (arith, e))

second_fails : DrawFails (drew ((1 ∷ []) ∷ []) true) 2
second_fails = record { some_are_left = omega arith; then_fails = refl }

-- a draw past the keys is not made
past_the_keys : DrawFails (drew ((1 ∷ []) ∷ (2 ∷ []) ∷ []) true) 2 → ⊥
past_the_keys fails = let left = fails.some_are_left in absurd (omega (arith, left))

idle : GivesNothing given
idle = record { no_opens = refl; no_draws = refl; none_failed = refl }

drew_is_not_idle : GivesNothing (drew ((1 ∷ []) ∷ []) false) → ⊥
drew_is_not_idle nothing = let e = nothing.no_draws in cc

-- What an act takes.

abbrev place : KeyPlace
place = record { section = 0; side = B; suite = Tag80 }

abbrev two_keys : Demand
two_keys = record { pairs = []; keys = place ∷ place ∷ []; dropped = [] }

-- an offer that lacks a key is not accepted
lacks_a_key : GivesFor two_keys (drew ((1 ∷ []) ∷ []) false) (offer c1 true [] [] []) → ⊥
lacks_a_key gives = let e = gives.1.all_drawn in absurd (omega (arith, e))

-- nothing is drawn after an open that failed
draws_after_a_failure : GivesFor two_keys (record given { opens = false ∷ []; draws = (1 ∷ []) ∷ [] }) (act.Undone E15 [] []) → ⊥
draws_after_a_failure gives = let e = gives.0.1 in cc

-- nothing is drawn, and no report is had, by what fails
draws_by_a_failure : GivesFor two_keys (drew ((1 ∷ []) ∷ []) false) (act.Failed E9) → ⊥
draws_by_a_failure gives = let e = gives.0.no_draws in cc

report_of_a_failure : GivesFor two_keys (record given { report = Some [] }) (act.Failed E9) → ⊥
report_of_a_failure gives = let e = gives.1 in cc

-- a query has a report
lacks_a_report : GivesFor two_keys given (act.Queried c1) → ⊥
lacks_a_report gives = let e : false ≡ true = gives.1 in cc

-- The pairs that an offer's legs get, and what holds of their leases.
use Rattle.std.proofs.Common.{◌≡◌, ◌∙◌, refl, sym, ap, subst, ℕ, ◌+◌, ◌≤◌, ◌<◌, ◌^◌, ◌⊎◌, inl, inr, not, Bool, true, false, List, [], ◌∷◌, map, length, arith}
use Rattle.std.specs.Prelude.{count_by, nat_lt, ◌==◌}
use Rattle.std.proofs.lemmas.List.{get_or_past}
use Rattle.std.proofs.lemmas.Bool.Decides.{nat_tests}
use Rattle.relay_outside.specs.declared.address.Family.{Family}
use Rattle.relay_outside.specs.declared.settings.Config.{Config}
use Rattle.histories.specs.Words.{In, here, there, has}
use Rattle.histories.proofs.Lists.{filtered, it_has, has_it}
use Rattle.port_pool.specs.Ports.{pair_count, pairs_of_family}
use Rattle.port_pool.specs.Pools.{AreFree, free_pairs, generation}
use Rattle.media_ports.specs.Addresses.{pairs_of_leases, AreLeased}
use Rattle.media_ports.specs.OpenPorts.{AreOthers}
use Rattle.offer_answer.specs.Rounds.{NewLeg}
use Rattle.call_board.specs.Pairs.{is_short}
use Rattle.call_board.specs.Views.{View, with_leases}
use Rattle.call_board.specs.Boards.{BoardMatches, lease_at, leases_at, fronts_for, AreOut}
use Rattle.call_board.specs.Returns.{MayReturnAll}
use Rattle.call_board.specs.declared.board.Board.{Board}
use Rattle.call_board.proofs.Once.{Once}
use Rattle.call_board.proofs.Sieves.{is_out}
use Rattle.call_board.proofs.Bounds.{once_count}
use Rattle.call_board.proofs.Leases.{counted}
use Rattle.call_board.proofs.Leased.{once_free}
use Rattle.call_board.proofs.Free.{front_among, fronts_once, pairs_apart}
use Rattle.call_board.proofs.Demands.{enough_of, fronts_length}
use Rattle.call_board.proofs.Outs.{lease_pairs, returns_out}
use Rattle.call_board.proofs.Entries.{draws_keep}
use Rattle.offer_command.specs.Leases.{with_taken}

-- Free pairs.

not_in : (p : ℕ) (xs : List ℕ) → not (has xs p) ≡ true → In p xs → ⊥
not_in p xs out i = let there_it = it_has p xs i in let wrong : not true ≡ true = ap not (sym there_it) ∙ out in cc

below_free : (count : ℕ) (xs : List ℕ) (p : ℕ) → AreFree count xs → In p xs → p < count
below_free count [] p free i = elim i [ ]
below_free count (x ∷ xs) p free (here is) = let low = free.0 in omega (arith, low, is)
below_free count (x ∷ xs) p free (there i) = below_free count xs p free.2 i

free_each : (count : ℕ) (xs : List ℕ) → Once xs → ((p : ℕ) → In p xs → p < count) → AreFree count xs
free_each count [] once below = tt
free_each count (x ∷ xs) once below = (below x (here refl), is_out x xs once.0, free_each count xs once.1 (λ p i. below p (there i)))

-- the pairs that these legs get are of the range, each once
pub fronts_free : (config : Config) (v : View) (legs : List NewLeg) → AreFree (pair_count config) v.free → AreFree (pair_count config) (fronts_for config v legs)
fronts_free config v legs free =
    free_each (pair_count config) (fronts_for config v legs)
    (fronts_once (pairs_of_family config v.free) legs (pairs_apart config v.free (once_free (pair_count config) v.free free)))
    (λ p i. below_free (pair_count config) v.free p free (front_among config v.free legs p i))

-- there is one for each leg
pub fronts_count : (config : Config) (v : View) (legs : List NewLeg) → is_short (pairs_of_family config v.free) legs ≡ false → length (fronts_for config v legs) ≡ length legs
fronts_count config v legs enough = fronts_length (pairs_of_family config v.free) legs (enough_of (pairs_of_family config v.free) legs enough)

-- where the board has enough for its plan, so has what it keeps
pub enough_kept : (config : Config) (board : Board) (v : View) (legs : List NewLeg) → BoardMatches config board v → is_short (free_pairs board.pool) legs ≡ false →
    is_short (pairs_of_family config v.free) legs ≡ false
enough_kept config board v legs s enough = ap (λ (lists : Family → List ℕ). is_short lists legs) (sym (λ i family. s.pool_for.free_is family i)) ∙ enough

-- Their leases.

-- the leases are of different pairs of the configuration
pub leases_leased : (config : Config) (v : View) (pairs : List ℕ) → AreFree (pair_count config) pairs → AreLeased config (leases_at config v pairs)
leases_leased config v pairs free = record { differ = subst (AreFree (pair_count config)) (sym (lease_pairs config v.leases pairs)) free }

-- none of them is of a pair that is held
pub front_others : (config : Config) (v : View) (legs : List NewLeg) (held : List ℕ) → AreOthers held v.free → AreOthers held (pairs_of_leases (leases_at config v (fronts_for config v legs)))
front_others config v legs held apart p among =
    let pairs = fronts_for config v legs in
    let taken : has pairs p ≡ true = ap (λ (ps : List ℕ). has ps p) (sym (lease_pairs config v.leases pairs)) ∙ among in
    apart p (it_has p v.free (front_among config v.free legs p (has_it p pairs taken)))

leases_return : (config : Config) (v : View) (f : ℕ → ℕ) (pairs : List ℕ) → Once pairs → ((p : ℕ) → In p pairs → p < pair_count config) → ((p : ℕ) → In p pairs → In p v.free → ⊥) →
    ((p : ℕ) → In p pairs → v.leases p ≡ f p + 1) → MayReturnAll config v (map (lease_at config f) pairs)
leases_return config v f [] once below out last = tt
leases_return config v f (p ∷ pairs) once below out last = (
  record { of_range = below p (here refl); not_free = is_out p v.free (out p (here refl)); last = last p (here refl) },
  ap (λ (ps : List ℕ). has ps p) (lease_pairs config f pairs) ∙ is_out p pairs once.0,
  leases_return config v f pairs once.1 (λ q i. below q (there i)) (λ q i. out q (there i)) (λ q i. last q (there i)),
)

-- they may all be given back once they were made
leased_return : (config : Config) (v w : View) (pairs : List ℕ) → AreFree (pair_count config) pairs → w.free ≡ (with_leases v pairs).free → w.leases ≡ (with_leases v pairs).leases →
    MayReturnAll config w (leases_at config v pairs)
leased_return config v w pairs free free_is leases_are =
    let once = once_free (pair_count config) pairs free in
    leases_return config w v.leases pairs once (λ p i. below_free (pair_count config) pairs p free i)
    (λ p i j. not_in p pairs (filtered (λ q. not (has pairs q)) v.free (subst (λ (ps : List ℕ). In p ps) free_is j)).1 i)
    (λ p i.
    let most = once_count p pairs once in
    let least = counted p pairs i in
    let same : w.leases p ≡ v.leases p + count_by (λ q. q == p) pairs = ap (λ (f : ℕ → ℕ). f p) leases_are in
    omega (arith, most, least, same))

-- also where keys were drawn since
pub leased_out : (config : Config) (board : Board) (v : View) (pairs : List ℕ) (keys : ℕ) → AreFree (pair_count config) pairs → BoardMatches config board (with_taken v pairs keys) →
    AreOut board.pool (leases_at config v pairs)
leased_out config board v pairs keys free s =
    let same = draws_keep (with_leases v pairs) keys in
    returns_out config board (with_taken v pairs keys) (leases_at config v pairs) s
    (leased_return config v (with_taken v pairs keys) pairs free same.free_is same.leases_are)

-- Generations.

low_or_high : (n m : ℕ) → (n < m) ⊎ (m ≤ n)
low_or_high n m = go (nat_lt n m) refl
  where
    go : (b : Bool) → nat_lt n m ≡ b → (n < m) ⊎ (m ≤ n)
    go true is = inl (grind (arith, nat_tests))
    go false is = inr (grind (arith, nat_tests))

generation_case : (config : Config) (board : Board) (v : View) (pair count : ℕ) → BoardMatches config board v → v.leases pair + count ≤ 2 ^ 63 → (pair < pair_count config) ⊎ (pair_count config ≤ pair) →
    generation board.pool pair + count ≤ 2 ^ 63
generation_case config board v pair count s low (inl below) = let is = s.pool_for.leases_are pair below in omega (arith, low, is)
generation_case config board v pair count s low (inr past) =
    let none : generation board.pool pair ≡ 0 = get_or_past board.pool.generations pair 0 (let all = s.pool_for.count_is in omega (arith, past, all)) in omega (arith, none, low)

-- the leases of no pair reach the end of their count
pub generations_low : (config : Config) (board : Board) (v : View) (pair count : ℕ) → BoardMatches config board v → v.leases pair + count ≤ 2 ^ 63 → generation board.pool pair + count ≤ 2 ^ 63
generations_low config board v pair count s low = generation_case config board v pair count s low (low_or_high pair (pair_count config))

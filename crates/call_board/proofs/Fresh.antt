-- A new board.
use Rattle.std.proofs.Common.{◌≡◌, ◌∙◌, refl, ap, sym, subst, ℕ, Bool, false, not, List, [], ◌∷◌, length, filter, replicate, get_or, append-nil, arith}
use Rattle.std.proofs.lemmas.List.{get_or-replicate, length-replicate}
use Rattle.relay_outside.specs.declared.settings.Config.{Config}
use Rattle.histories.specs.Words.{has, numbers}
use Rattle.port_pool.specs.Ports.{pair_count}
use Rattle.port_pool.specs.Pools as pools
use Rattle.port_pool.specs.Pools.{Pairs}
use Rattle.port_pool.proofs.Standing.{fresh_stands, stands_alike}
use Rattle.call_board.specs.declared.live_call.LiveCall.{LiveCall}
use Rattle.call_board.specs.Pairs.{free}
use Rattle.call_board.specs.Views.{times_leased}
use Rattle.call_board.specs.Boards.{CallsFor, CellsFor}

all_kept : (xs : List ℕ) → filter (λ p. not (has [] p)) xs ≡ xs
all_kept [] = refl
all_kept (x ∷ xs) = ap (λ more. x ∷ more) (all_kept xs)

-- at first all pairs are free
pub all_free : (config : Config) → free config [] ≡ numbers 0 (pair_count config)
all_free config = append-nil (filter (λ p. not (has [] p)) (numbers 0 (pair_count config))) ∙ all_kept (numbers 0 (pair_count config))

pub fresh_pool : (config : Config) (pool : Pairs) → pools.IsFresh config pool → pools.PoolStandsFor config (free config []) (times_leased []) pool
fresh_pool config pool fresh =
    subst (λ (pairs : List ℕ). pools.PoolStandsFor config pairs (times_leased []) pool) (sym (all_free config))
    (stands_alike config (numbers 0 (pair_count config)) (λ pair. 0) (times_leased []) pool (fresh_stands config pool fresh) (λ pair within. refl))

pub no_calls : (config : Config) (calls : List LiveCall) → calls ≡ [] → CallsFor config calls []
no_calls config calls e = subst (λ (those : List LiveCall). CallsFor config those []) (sym e) _

pub none_taken : (config : Config) (taken : List Bool) → taken ≡ replicate config.max_sessions false → CellsFor config taken []
none_taken config taken e = record {
  count_is = ap length e ∙ length-replicate config.max_sessions false;
  taken_are = λ k d below.
      let count : length taken ≡ config.max_sessions = ap length e ∙ length-replicate config.max_sessions false in
      ap (λ those. get_or those k d) e ∙ get_or-replicate config.max_sessions k false d (omega (arith, below, count));
}

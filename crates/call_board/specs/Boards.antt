-- What a board stands for.
use Rattle.std.specs.Prelude.{◌≡◌, ◌<◌, ◌≤◌, ◌+◌, ◌==◌, ℕ, Bool, true, false, List, [], ◌∷◌, length, map, Some, slice_index_or}
use Rattle.std.specs.List.{list_any}
use Rattle.relay_outside.specs.declared.settings.Config.{Config}
use Rattle.histories.specs.Words.{has}
use Rattle.port_pool.specs.Ports.{pair_port, pair_family, pairs_of_family}
use Rattle.port_pool.specs.Pools as pools
use Rattle.port_pool.specs.Pools.{Pairs, generation, free_pairs, family_in}
use Rattle.port_pool.specs.declared.pairs.Lease.{Lease}
use Rattle.cookie_cache.specs.Caches as caches
use Rattle.offer_answer.specs.Rounds.{NewLeg}
use Rattle.offer_answer.specs.Dialogs.{DialogFor}
use Rattle.call_board.specs.declared.live_call.LiveCall.{LiveCall}
use Rattle.call_board.specs.declared.board.Board.{Board}
use Rattle.call_board.specs.Acts.{BoardEntry}
use Rattle.call_board.specs.Pairs.{fronts}
use Rattle.call_board.specs.Views.{CallView, View, view_of, call_numbered}

-- what is kept of a live call
pub record CallFor (config : Config) (call : LiveCall) (c : CallView) : Type 0 where
  pub number_is : call.number ≡ c.of.number
  pub cell_is : call.cell ≡ c.of.cell
  pub id_is : call.id.list ≡ c.of.id
  pub dialog_for : DialogFor config call.dialog.value c.rounds
  pub first_is : call.first_moment ≡ c.first
  pub last_is : call.last_moment ≡ c.last
  pub due_is : call.due_moment ≡ c.due

abbrev pub CallsFor : Config → List LiveCall → List CallView → Type 0
CallsFor config [] [] = Unit {0}
CallsFor config [] (c ∷ cs) = ⊥
CallsFor config (call ∷ calls) [] = ⊥
CallsFor config (call ∷ calls) (c ∷ cs) = CallFor config call c × CallsFor config calls cs

-- which of the cells, from 1, are taken
pub record CellsFor (config : Config) (taken : List Bool) (cs : List CallView) : Type 0 where
  pub count_is : length taken ≡ config.max_sessions
  pub taken_are : (k : ℕ) (d : Bool) → k < length taken → slice_index_or taken k d ≡ has (map (λ (c : CallView). c.of.cell) cs) (1 + k)

-- the board keeps this
pub record BoardMatches (config : Config) (board : Board) (v : View) : Type 0 where
  pub config_is : board.config ≡ config
  pub moment_is : board.moment ≡ v.moment
  pub begun_is : board.begun ≡ v.begun
  pub drawn_is : board.drawn ≡ v.drawn
  pub calls_for : CallsFor config board.calls.list v.calls
  pub cells_for : CellsFor config board.taken.items v.calls
  pub pool_for : pools.PoolStandsFor config v.free v.leases board.pool
  pub replies_for : caches.CacheStandsFor board.replies v.keepings

-- the board stands for this history
abbrev pub BoardFor : Config → Board → List BoardEntry → Type 0
BoardFor config board h = BoardMatches config board (view_of config h)

-- a call of the board has this number
abbrev pub IsLive : Board → ℕ → Type 0
IsLive board number = list_any (λ (call : LiveCall). call.number == number) board.calls.list ≡ true

-- this is kept of the live call of this number
pub record CallMatches (config : Config) (v : View) (number : ℕ) (call : LiveCall) : Type 0 where
  pub of : CallView
  pub found : call_numbered v number ≡ Some of
  pub call_for : CallFor config call of

-- the next lease of a pair that was leased so often
abbrev pub lease_at : Config → (ℕ → ℕ) → ℕ → Lease
lease_at config leases pair = record { pair = pair; family = pair_family config pair; rtp_port = pair_port config pair; generation = leases pair + 1 }

-- for each of these legs the pair of its family that has been free for longest
abbrev pub fronts_for : Config → View → List NewLeg → List ℕ
fronts_for config v legs = fronts (pairs_of_family config v.free) legs

-- the leases of these pairs, in order
abbrev pub leases_at : Config → View → List ℕ → List Lease
leases_at config v pairs = map (lease_at config v.leases) pairs

-- the lease is the last one of a pair of the pool's, which isn't free
pub record IsOut (pool : Pairs) (lease : Lease) : Type 0 where
  pub of_pool : lease.pair < length pool.generations
  pub not_free : has (free_pairs pool (family_in pool lease.pair)) lease.pair ≡ false
  pub last : generation pool lease.pair ≡ lease.generation

abbrev pub pairs_in : List Lease → List ℕ
pairs_in leases = map (λ (lease : Lease). lease.pair) leases

-- these leases are, and of different pairs
abbrev pub AreOut : Pairs → List Lease → Type 0
AreOut pool [] = Unit {0}
AreOut pool (lease ∷ leases) = IsOut pool lease × (has (pairs_in leases) lease.pair ≡ false) × AreOut pool leases

-- no two live calls have one cell
abbrev pub CellsApart : List CallView → Type 0
CellsApart [] = Unit {0}
CellsApart (c ∷ cs) = (has (map (λ (d : CallView). d.of.cell) cs) c.of.cell ≡ false) × (1 ≤ c.of.cell) × CellsApart cs

-- the same calls, and the same room for more
pub record KeepsCalls (old new : Board) : Type 0 where
  pub calls_are : new.calls ≡ old.calls
  pub begun_is : new.begun ≡ old.begun

-- the same kept replies, and the same room for more
abbrev pub KeepsReplies : Board → Board → Type 0
KeepsReplies old new = new.replies ≡ old.replies

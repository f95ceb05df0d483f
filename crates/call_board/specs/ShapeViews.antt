-- What the shape of a board says of the history that the board stands for.
use Rattle.std.specs.Prelude.{◌≡◌, ◌<◌, ◌+◌, ℕ, Bool, map, length, slice_index_or}
use Rattle.relay_outside.specs.declared.settings.Config.{Config}
use Rattle.histories.specs.Words.{has}
use Rattle.port_pool.specs.Pools.{PoolStandsFor}
use Rattle.call_board.specs.Views.{CallView, View}
use Rattle.call_board.specs.Shapes.{LiveShape, BoardShape}

-- The numbers of the next call and of the next key; the live calls' numbers and cells, in order; which cells are taken; and the free pairs and
-- how often each pair was leased.
pub record ShapeShows (config : Config) (v : View) (shape : BoardShape) : Type 0 where
  pub config_is : shape.config ≡ config
  pub begun_is : shape.begun ≡ v.begun
  pub drawn_is : shape.drawn ≡ v.drawn
  pub numbers_are : map (λ (call : LiveShape). call.number) shape.calls ≡ map (λ (c : CallView). c.of.number) v.calls
  pub cells_are : map (λ (call : LiveShape). call.cell) shape.calls ≡ map (λ (c : CallView). c.of.cell) v.calls
  pub marks_are : (k : ℕ) (d : Bool) → k < length shape.taken → slice_index_or shape.taken k d ≡ has (map (λ (c : CallView). c.of.cell) v.calls) (1 + k)
  pub pool_for : PoolStandsFor config v.free v.leases shape.pool

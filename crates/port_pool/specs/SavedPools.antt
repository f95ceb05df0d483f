-- What the saved form of a pool holds of it, and which pools there are.
use Rattle.std.specs.Prelude.{◌≡◌, ◌+◌, ◌*◌, ◌≤◌, length}
use Rattle.port_pool.specs.declared.saved_pool.PoolSaved.{PoolSaved}
use Rattle.port_pool.specs.Pools.{Pairs, AreFree, AreFrom}

-- What holds of every pool: the ports are of 16 bits, each family has as many pairs, or that of version 6 has none, and in each queue stand
-- pairs of its own, each once.
pub record FitsPool (pool : Pairs) : Type 0 where
  pub ports : pool.first_port + 2 * pool.per_family ≤ 65536
  pub first : pool.per_family ≤ length pool.generations
  pub others : length pool.generations ≤ 2 * pool.per_family
  pub free4 : AreFree pool.per_family pool.free4
  pub free6 : AreFree (length pool.generations) pool.free6
  pub later : AreFrom pool.per_family pool.free6

-- the pool that a record tells of
abbrev pub saved_pairs : PoolSaved → Pairs
saved_pairs saved = record {
  first_port = saved.first_port;
  per_family = saved.per_family;
  free4 = saved.free4.items;
  free6 = saved.free6.items;
  generations = saved.generations.items;
}

-- the record holds all of the pool: the range, both queues in order and the generation of each pair
abbrev pub SavesPool : Pairs → PoolSaved → Type 0
SavesPool pool saved = pool ≡ saved_pairs saved

-- no pool is saved as this record
abbrev pub NoPoolSaves : PoolSaved → Type 0
NoPoolSaves saved = (pool : Pairs) → FitsPool pool → SavesPool pool saved → ⊥

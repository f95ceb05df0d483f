-- A `Row` as its callers see it: the list of its items, and for how many more it has room.
use Rattle.std.specs.Prelude.{ℕ, ◌-◌, List, vec_len, vec_capacity}
use Rattle.ng_bencode.specs.declared.row.Row.{Row}

abbrev pub list_in : {T : Type 0} → Row T → List T
list_in row = row.items.items

abbrev pub spare_in : {T : Type 0} → Row T → ℕ
spare_in row = vec_capacity row.items - vec_len row.items

-- The keys of a leg: those that came for its section and side since it was added.
use Rattle.std.specs.Prelude.{◌≡◌, ℕ, Bool, ◌&&◌, ◌==◌, List, [], ◌∷◌, ◌++◌, Option, Some, None, filter, if◌then◌else◌}
use Rattle.std.specs.List.{list_any}
use Rattle.sdes_lines.specs.declared.crypto_line.Suite.{Suite}
use Rattle.histories.specs.Words.{In, first}
use Rattle.port_pool.specs.declared.holder.Holder.{Holder}
use Rattle.port_pool.specs.Signals.{NewKey, same_leg, side_eq, suite_eq}
use Rattle.call_cell.specs.Cells.{CellEntry, legs_of, keys_of}

-- the keys that came since the leg was added, with those that came with it
abbrev pub keys_since : List CellEntry → Holder → List NewKey
keys_since [] leg = []
keys_since (e ∷ h) leg = keys_of e.event ++ (if list_any (same_leg leg) (legs_of e.event) then [] else keys_since h leg)

-- the key is for the leg's section and side
abbrev pub is_for_leg : Holder → NewKey → Bool
is_for_leg leg key = (key.section == leg.section) && side_eq key.side leg.side

abbrev pub keys_for : List CellEntry → Holder → List NewKey
keys_for h leg = filter (is_for_leg leg) (keys_since h leg)

abbrev pub key_number_of : Option NewKey → Option ℕ
key_number_of None = None
key_number_of (Some key) = Some key.number

-- the number of the key for a suite
abbrev pub key_number_for : Suite → List NewKey → Option ℕ
key_number_for suite keys = key_number_of (first (filter (λ key. suite_eq key.suite suite) keys))

-- no two of the keys are for one suite
abbrev pub OnePerSuite : List NewKey → Type 0
OnePerSuite keys = (a b : NewKey) → In a keys → In b keys → a.suite ≡ b.suite → a.number ≡ b.number

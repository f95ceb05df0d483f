-- Why words are refused.
use Rattle.std.specs.Prelude.{◌≡◌, ℕ, List, Bool, true, nat_eq, codes, ⊤}
use Rattle.std.specs.List.{starts_with}
use Rattle.command_line.specs.declared.refusal.Refusal.{Refusal}
use Rattle.command_line.specs.declared.refusal.Refusal.TheVariants.{Usage, OutOfMemory}

-- the first line of what is printed
abbrev pub begins_usage : List ℕ → Bool
begins_usage line = starts_with nat_eq line (codes "usage: rtpengine")

-- out of memory; or P holds, and the usage is told
abbrev pub IsRefused : Type 0 → Refusal → Type 0
IsRefused P OutOfMemory = ⊤
IsRefused P (Usage usage) = P × (begins_usage usage.line.bytes.items ≡ true)

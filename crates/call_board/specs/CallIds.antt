-- Calls under their call-ids.
use Rattle.std.specs.Prelude.{◌≡◌, List, [], ◌∷◌, Vec, ℕ}
use Rattle.call_board.specs.declared.live_call.LiveCall.{LiveCall}

-- each call stands under the bytes of its call-id
abbrev pub AreUnderTheirIds : {A : Type 0} → List (Vec ℕ A × LiveCall) → Type 0
AreUnderTheirIds [] = Unit {0}
AreUnderTheirIds (entry ∷ entries) = (entry.0.items ≡ entry.1.id.list) × AreUnderTheirIds entries

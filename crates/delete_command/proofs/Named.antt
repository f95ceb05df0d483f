-- Whether a delete names a side of its call.
use Rattle.std.proofs.Common.{◌≡◌, refl, ℕ, List}
use Rattle.offer_answer.specs.Plan.{is_side}
use Rattle.offer_answer.specs.Rounds.{Round}
use Rattle.offer_answer.specs.Sides.{is_some_sides}

pub side-is : (rounds : List Round) (tag : List ℕ) → is_side rounds tag ≡ is_some_sides rounds tag
unfolding is_side
side-is rounds tag = refl

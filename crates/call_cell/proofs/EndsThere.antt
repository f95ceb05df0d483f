-- The out ends of a leg, where it has some, and its parts.
use Rattle.std.proofs.Common.{◌≡◌, refl, ap, subst, sym, ◌∙◌, List, [], ◌∷◌, map, Option, Some, None}
use Rattle.std.specs.Prelude.{IsSome}
use Rattle.std.specs.List.{AllZip, cons_option, filter_map}
use Rattle.histories.specs.Words.{In, here, there}
use Rattle.port_pool.specs.declared.pairs.Lease.{Lease}
use Rattle.call_cell.specs.declared.leg.Leg.{Leg}
use Rattle.call_cell.specs.CellEnds.{parts_with, parts_of}

pub is_there : {X : Type 0} (o : Option X) → IsSome o → (x : X) × (o ≡ Some x)
is_there None some = absurd (let f = some in cc)
is_there (Some x) some = (x, refl)

abbrev ends_back : {O : Type 0} → Option (Lease × O × O) → Option (O × O)
ends_back None = None
ends_back (Some parts) = Some (parts.1, parts.2)

back_again : {O : Type 0} (lease : Lease) (o : Option (O × O)) → ends_back (parts_with lease o) ≡ o
back_again lease None = refl
back_again lease (Some ends) = refl

-- legs with the same parts have the same ends
pub same_ends : {O : Type 0} (leg other : Leg O) → parts_of leg ≡ parts_of other → leg.sending.ends ≡ other.sending.ends
same_ends leg other q = sym (back_again leg.lease leg.sending.ends) ∙ ap ends_back q ∙ back_again other.lease other.sending.ends

-- parts have the leg's ends and its lease
pub parts_have : {O : Type 0} (lease : Lease) (o : Option (O × O)) (parts : Lease × O × O) → parts_with lease o ≡ Some parts
    → (o ≡ Some (parts.1, parts.2)) × (lease ≡ parts.0)
parts_have lease None parts q = absurd (let f = q in cc)
parts_have lease (Some ends) parts q =
    (ap ends_back q, (let f = q in cc))

-- the parts of legs that have their ends, one for each leg
pub zip_parts : {O Z : Type 0} (R : Lease × O × O → Z → Type 0) (g : Leg O → Z) (those : List (Leg O))
    → ((leg : Leg O) → In leg those → (ends : O × O) × (leg.sending.ends ≡ Some ends) × R (leg.lease, ends.0, ends.1) (g leg))
    → AllZip R (filter_map (λ (leg : Leg O). parts_of leg) those) (map g those)
zip_parts R g [] each = tt
zip_parts {O} {Z} R g (leg ∷ those) each =
    let e = each leg (here refl) in
    subst (λ (o : Option (O × O)). AllZip R (cons_option (parts_with leg.lease o) (filter_map (λ (l : Leg O). parts_of l) those)) (g leg ∷ map g those)) (sym e.1)
    (e.2, zip_parts R g those (λ l i. each l (there i)))

use Rattle.std.proofs.Common.{◌≡◌, Some, position, List, ap, sym, subst, ◌∙◌}
use Rattle.relay_outside.specs.declared.address.Addr.{Addr}
use Rattle.call_cell.specs.GivenEnds.{is_of_address, TakesEndsOf}
use Rattle.call_cell.proofs.GivenEnds.{taken_at, one_is_found}
use Rattle.call_cell.proofs.given_ends.take_ends_of.Goals as goal

pub unreachable-requires : goal.unreachable-requires
unreachable-requires g c =
    one_is_found (λ (e : Addr × _ × _). is_of_address c.args.at e) c.args.ends.now.items c.requires
    (ap (position (λ (e : Addr × _ × _). is_of_address c.args.at e)) (sym c.as_slice.ensures.value) ∙ sym c.place_of_ends.ensures.place ∙ c.in_default.is)

pub returns : goal.returns
returns g c =
    let old = c.args.ends.now.items in
    let place : position (λ (e : Addr × _ × _). is_of_address c.args.at e) old ≡ Some c.in-Some.place
    = ap (position (λ (e : Addr × _ × _). is_of_address c.args.at e)) (sym c.as_slice.ensures.value) ∙ sym c.place_of_ends.ensures.place ∙ c.in-Some.is in
    subst (λ (l : List (Addr × _ × _)). TakesEndsOf c.args.at old l (c.remove-rtp.result.1, c.remove-rtp.result.2)) (sym c.remove-rtp.ensures.items)
    (taken_at c.args.at old c.in-Some.place c.remove-rtp.result place c.remove-rtp.ensures.value)

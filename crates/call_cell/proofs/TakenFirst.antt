-- The ends of the first leg that has some.
use Rattle.std.proofs.Common.{◌≡◌, refl, ap, ◌∙◌, ℕ, zero, suc, ◌<◌, Bool, true, false, cond, List, [], ◌∷◌, length, Option, Some, None, get_or, set, arith}
use Rattle.std.specs.Prelude.{◌||◌, is_some, position}
use Rattle.std.specs.List.{list_any}
use Rattle.std.proofs.lemmas.List.Quantifiers.{position-Some}
use Rattle.relay_outside.specs.declared.address.Addr.{Addr}
use Rattle.relay_outside.specs.declared.settings.Config.{Config}
use Rattle.histories.specs.Words.{In, or_else}
use Rattle.port_pool.specs.Ports.{port_address, interface_of, port_at, half_port}
use Rattle.relay_outside.specs.declared.address.Family.{Family}
use Rattle.rtp_packet.specs.declared.head.Half.TheVariants.{Rtp}
use Rattle.srtp_sources.proofs.Knowing.{any-position}
use Rattle.call_cell.specs.declared.leg.Leg.{Leg}
use Rattle.call_cell.specs.declared.cell.Cell.{Cell}
use Rattle.call_cell.specs.Cells.{CellEntry, since_end}
use Rattle.call_cell.specs.CellHistories.{CellFor}
use Rattle.call_cell.specs.TakenEnds.{leased_address, ends_by_address, without_ends, first_ends, without_first}
use Rattle.call_cell.proofs.Few.{each_in}

here_first : {O : Type 0} (at : Addr) (o : Option (O × O)) (rest : Option (Addr × O × O)) → is_some o ≡ true → or_else (ends_by_address at o) rest ≡ ends_by_address at o
here_first at None rest q = absurd (let f = q in cc)
here_first at (Some ends) rest q = refl

not_here : {O : Type 0} (at : Addr) (o : Option (O × O)) (rest : Option (Addr × O × O)) → is_some o ≡ false → or_else (ends_by_address at o) rest ≡ rest
not_here at None rest q = refl
not_here at (Some ends) rest q = absurd (let f = q in cc)

-- the first leg with ends stands at this place
pub record IsFirst {O : Type 0} (config : Config) (those : List (Leg O)) (i : ℕ) (d : Leg O) : Type 0 where
  pub taken : first_ends config those ≡ ends_by_address (leased_address config (get_or those i d).lease) (get_or those i d).sending.ends
  pub legs : without_first those ≡ set those i (without_ends (get_or those i d))

first_is : {O : Type 0} (config : Config) (those : List (Leg O)) (i : ℕ) (d : Leg O) → i < length those → is_some (get_or those i d).sending.ends ≡ true
    → ((k : ℕ) → k < i → is_some (get_or those k d).sending.ends ≡ false) → IsFirst config those i d
first_is config [] i d below has none = absurd (omega (arith, below))
first_is {O} config (leg ∷ legs) zero d below has none =
    record {
      taken = here_first (leased_address config leg.lease) leg.sending.ends (first_ends config legs) has;
      legs = ap (λ (b : Bool). cond b (without_ends leg ∷ legs) (leg ∷ without_first legs)) has;
    }
first_is {O} config (leg ∷ legs) (suc i) d below has none =
    let rest = first_is config legs i d (omega (arith, below)) has (λ k less. none (suc k) (omega (arith, less))) in
    let off = none zero (omega arith) in
    record {
      taken = not_here (leased_address config leg.lease) leg.sending.ends (first_ends config legs) off ∙ rest.taken;
      legs = ap (λ (b : Bool). cond b (without_ends leg ∷ legs) (leg ∷ without_first legs)) off ∙ ap (λ (l : List (Leg O)). leg ∷ l) rest.legs;
    }

pub first_at_place : {O : Type 0} (config : Config) (those : List (Leg O)) (i : ℕ) (d : Leg O) → position (λ (leg : Leg O). is_some leg.sending.ends) those ≡ Some i
    → IsFirst config those i d
first_at_place {O} config those i d e =
    let f = position-Some (λ (leg : Leg O). is_some leg.sending.ends) those i d e in
    first_is config those i d f.0 f.1 f.2

or_one : (a b : Bool) → (a || b) ≡ false → a ≡ false
or_one true b q = absurd (let f = q in cc)
or_one false b q = refl

or_two : (a b : Bool) → (a || b) ≡ false → b ≡ false
or_two true b q = absurd (let f = q in cc)
or_two false b q = q

none_by : {O : Type 0} (config : Config) (those : List (Leg O)) → list_any (λ (leg : Leg O). is_some leg.sending.ends) those ≡ false
    → (first_ends config those ≡ None) × (without_first those ≡ those)
none_by config [] q = (refl, refl)
none_by {O} config (leg ∷ legs) q =
    let any = list_any (λ (l : Leg O). is_some l.sending.ends) legs in
    let off = or_one (is_some leg.sending.ends) any q in
    let rest = none_by config legs (or_two (is_some leg.sending.ends) any q) in (
      not_here (leased_address config leg.lease) leg.sending.ends (first_ends config legs) off ∙ rest.0,
      ap (λ (b : Bool). cond b (without_ends leg ∷ legs) (leg ∷ without_first legs)) off ∙ ap (λ (l : List (Leg O)). leg ∷ l) rest.1,
    )

pub none_there : {O : Type 0} (config : Config) (those : List (Leg O)) → position (λ (leg : Leg O). is_some leg.sending.ends) those ≡ None
    → (first_ends config those ≡ None) × (without_first those ≡ those)
none_there {O} config those e =
    none_by config those (any-position (λ (leg : Leg O). is_some leg.sending.ends) those ∙ ap (λ (o : Option ℕ). is_some o) e)

-- a leg of a cell that stands for a history has the port of its pair
pub is_pairs_port : {O : Type 0} (config : Config) (cell : Cell O) (h : List CellEntry) (leg : Leg O) → CellFor config cell h → In leg cell.legs.items
    → leased_address cell.config leg.lease ≡ port_address config leg.holder.pair Rtp
is_pairs_port config cell h leg for i =
    let f = each_in config (since_end h) cell.legs.items leg for.legs_for i in
    ap (λ (c : Config). leased_address c leg.lease) for.config_is
    ∙ ap (λ (n : ℕ). port_at (interface_of config leg.lease.family) n) (f.port Rtp)
    ∙ ap (λ (x : Family). port_at (interface_of config x) (half_port config leg.holder.pair Rtp)) f.family

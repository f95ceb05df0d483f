-- The ports of the pairs are ports of 16 bits, each family has those of the range, and no two pairs have one address.
use Rattle.std.proofs.Common.{◌≡◌, ◌∙◌, sym, ap, refl, ◌≤◌, ◌<◌, ℕ, ◌-◌, ◌*◌, Bool, true, false, cond, nat_lt, Option, Some, None, arith, ltb-false}
use Rattle.std.specs.Prelude.{IfSome, unwrap_or}
use Rattle.std.proofs.lemmas.Grind.{common_steps}
use Rattle.rtp_packet.specs.declared.head.Half.{Half}
use Rattle.rtp_packet.specs.declared.head.Half.TheVariants.{Rtp, Rtcp}
use Rattle.relay_outside.specs.declared.settings.Config.{Config}
use Rattle.relay_outside.specs.declared.address.Addr.{Addr}
use Rattle.relay_outside.specs.declared.address.Ip.{Ip}
use Rattle.relay_outside.specs.declared.address.Family.TheVariants.{V4, V6}
use Rattle.relay_outside.specs.Settings.{AreFamilies, ip_family, for_each_interface}
use Rattle.port_pool.specs.Ports.{range_pairs, pair_count, pair_family, pair_port, half_port, port_address, interface_of, place_in_family}

twice_at_most : (interface : Option Ip) (count : ℕ) → for_each_interface interface count ≤ 2 * count
twice_at_most None count = omega arith
twice_at_most (Some ip) count = omega arith

-- there are at most twice as many pairs as the range has
pub at_most_twice : (config : Config) → pair_count config ≤ 2 * range_pairs config
unfolding pair_count
at_most_twice config = twice_at_most config.interface6 (range_pairs config)

once_at_least : (interface : Option Ip) (count : ℕ) → count ≤ for_each_interface interface count
once_at_least None count = omega arith
once_at_least (Some ip) count = omega arith

pub at_least_once : (config : Config) → range_pairs config ≤ pair_count config
unfolding pair_count
at_least_once config = once_at_least config.interface6 (range_pairs config)

pub place_within : (per_family pair : ℕ) → pair < 2 * per_family → place_in_family per_family pair < per_family
place_within per_family pair below = grind (arith, common_steps)

-- both ports of a pair are in the range
pub below_end : (config : Config) (pair : ℕ) → pair < pair_count config → pair_port config pair < config.port_max
unfolding range_pairs
below_end config pair below =
    let twice = at_most_twice config in
    let place = place_within (range_pairs config) pair (omega (arith, below, twice)) in
    omega (arith, place)

-- Which pair an address is of.

later_family : (interface : Ip) (other : Option Ip) (count pair : ℕ) → IfSome other (λ ip. ip_family ip ≡ V6) → count ≤ pair → pair < for_each_interface other count
    → ip_family (unwrap_or other interface) ≡ V6
later_family interface None count pair is later within = absurd (omega (arith, later, within))
later_family interface (Some ip) count pair is later within = is

family_by : (config : Config) (pair : ℕ) → AreFamilies config → pair < pair_count config → (b : Bool) → nat_lt pair (range_pairs config) ≡ b
    → ip_family (interface_of config (cond b V4 V6)) ≡ cond b V4 V6
unfolding pair_count
family_by config pair families within true is = families.first_is
family_by config pair families within false is =
    later_family config.interface config.interface6 (range_pairs config) pair families.other_is (ltb-false pair (range_pairs config) is) within

-- the interface of a pair is of the pair's family
pub interface_family : (config : Config) (pair : ℕ) → AreFamilies config → pair < pair_count config → ip_family (interface_of config (pair_family config pair)) ≡ pair_family config pair
interface_family config pair families within = family_by config pair families within (nat_lt pair (range_pairs config)) refl

same_place : (count p q : ℕ) (a b : Bool) → nat_lt p count ≡ a → nat_lt q count ≡ b → (fam : cond a V4 V6 ≡ cond b V4 V6) → cond a p (p - count) ≡ cond b q (q - count) → p ≡ q
same_place count p q true true p_is q_is fam same = same
same_place count p q true false p_is q_is fam same = absurd (let e = fam in cc)
same_place count p q false true p_is q_is fam same = absurd (let e = fam in cc)
same_place count p q false false p_is q_is fam same =
    let low = ltb-false p count p_is in
    let also = ltb-false q count q_is in
    omega (arith, low, also, same)

-- an even port and the next one: the same port is of the same place, and of the same half
same_port : (config : Config) (p q : ℕ) (half other : Half) → half_port config p half ≡ half_port config q other
    → (place_in_family (range_pairs config) p ≡ place_in_family (range_pairs config) q) × (half ≡ other)
same_port config p q Rtp Rtp same = (omega (arith, same), refl)
same_port config p q Rtp Rtcp same = absurd (omega (arith, same))
same_port config p q Rtcp Rtp same = absurd (omega (arith, same))
same_port config p q Rtcp Rtcp same = (omega (arith, same), refl)

-- a port of a family is that of one pair and one half
pub one_port : (config : Config) (p q : ℕ) (half other : Half) → pair_family config p ≡ pair_family config q → half_port config p half ≡ half_port config q other
    → (p ≡ q) × (half ≡ other)
one_port config p q half other fam same =
    let port = same_port config p q half other same in
    (same_place (range_pairs config) p q (nat_lt p (range_pairs config)) (nat_lt q (range_pairs config)) refl refl fam port.0, port.1)

-- an address is that of one pair and one half
pub one_address : (config : Config) (p q : ℕ) (half other : Half) → AreFamilies config → p < pair_count config → q < pair_count config
    → port_address config p half ≡ port_address config q other → (p ≡ q) × (half ≡ other)
one_address config p q half other families within also same =
    one_port config p q half other
    (sym (interface_family config p families within) ∙ ap (λ (at : Addr). ip_family at.ip) same ∙ interface_family config q families also)
    (ap (λ (at : Addr). at.port) same)

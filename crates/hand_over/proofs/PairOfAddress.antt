-- The pair of an address.
use Rattle.std.proofs.Common.{◌≡◌, ◌∙◌, sym, ap, refl, ◌<◌, ℕ, ◌+◌, ◌-◌, ◌/◌, Bool, true, false, cond, nat_lt, arith, ltb-false}
use Rattle.rtp_packet.specs.declared.head.Half.TheVariants.{Rtp}
use Rattle.relay_outside.specs.declared.settings.Config.{Config}
use Rattle.relay_outside.specs.declared.address.Addr.{Addr}
use Rattle.relay_outside.specs.declared.address.Family.TheVariants.{V4, V6}
use Rattle.relay_outside.specs.Settings.{AreFamilies, ip_family}
use Rattle.port_pool.specs.Ports.{first_port, range_pairs, pair_count, pair_family, port_address, place_in_family}
use Rattle.port_pool.proofs.Addresses.{interface_family}

-- the family of an address is that of its pair
pub family_at : (config : Config) (pair : ℕ) (at : Addr) → AreFamilies config → pair < pair_count config → at ≡ port_address config pair Rtp → ip_family at.ip ≡ pair_family config pair
family_at config pair at families within is = ap (λ (a : Addr). ip_family a.ip) is ∙ interface_family config pair families within

pub place_at : (config : Config) (pair : ℕ) (at : Addr) → at ≡ port_address config pair Rtp → (at.port - first_port config) / 2 ≡ place_in_family (range_pairs config) pair
place_at config pair at is = let port = ap (λ (a : Addr). a.port) is in omega (arith, port)

first_by : (count pair : ℕ) (b : Bool) → nat_lt pair count ≡ b → cond b V4 V6 ≡ V4 → cond b pair (pair - count) ≡ pair
first_by count pair true is fam = refl
first_by count pair false is fam = absurd (let e = fam in cc)

later_by : (count pair : ℕ) (b : Bool) → nat_lt pair count ≡ b → cond b V4 V6 ≡ V6 → count + cond b pair (pair - count) ≡ pair
later_by count pair true is fam = absurd (let e = fam in cc)
later_by count pair false is fam = let least = ltb-false pair count is in omega (arith, least)

pub pair_of_first : (config : Config) (pair : ℕ) (at : Addr) → AreFamilies config → pair < pair_count config → at ≡ port_address config pair Rtp → ip_family at.ip ≡ V4
    → (at.port - first_port config) / 2 ≡ pair
pair_of_first config pair at families within is fam =
    place_at config pair at is ∙ first_by (range_pairs config) pair (nat_lt pair (range_pairs config)) refl (sym (family_at config pair at families within is) ∙ fam)

pub pair_of_later : (config : Config) (pair : ℕ) (at : Addr) → AreFamilies config → pair < pair_count config → at ≡ port_address config pair Rtp → ip_family at.ip ≡ V6
    → range_pairs config + (at.port - first_port config) / 2 ≡ pair
pair_of_later config pair at families within is fam =
    ap (λ (n : ℕ). range_pairs config + n) (place_at config pair at is)
    ∙ later_by (range_pairs config) pair (nat_lt pair (range_pairs config)) refl (sym (family_at config pair at families within is) ∙ fam)

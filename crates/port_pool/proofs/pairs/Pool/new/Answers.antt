use Rattle.std.proofs.Common.{◌≡◌, ◌∙◌, ◌≤◌, ◌+◌, ◌-◌, ◌*◌, ◌/◌, ◌%◌, ℕ, Bool, true, false, Option, Some, None, cond, sym, ap, subst, refl, arith, length, replicate}
use Rattle.std.specs.Prelude.{is_some}
use Rattle.histories.specs.Words.{numbers}
use Rattle.relay_outside.specs.declared.settings.Config.{Config}
use Rattle.relay_outside.specs.declared.address.Ip.{Ip}
use Rattle.relay_outside.specs.declared.address.Family.TheVariants.{V4, V6}
use Rattle.relay_outside.specs.Settings.{for_each_interface}
use Rattle.port_pool.specs.Ports.{first_port, range_pairs, pair_count, pairs_of_family}
use Rattle.port_pool.specs.Pools.{AreFree, AreFrom, free_pairs}
use Rattle.port_pool.proofs.Queue.{all_numbers, all_later}
use Rattle.port_pool.proofs.Numbered.{first_numbers, other_numbers}
use Rattle.port_pool.proofs.pairs.Pool.new.Goals as goal
use Rattle.port_pool.proofs.pairs.Pool.new.Goals.{then-both, else-both}

-- the pairs of a range end within the ports
within_ports : (least greatest first count : ℕ) → first ≡ least + least % 2 → least ≤ 65535 → greatest ≤ 65535 → count ≡ (greatest + 1 - first) / 2 → first + 2 * count ≤ 65536
within_ports least greatest first count first_is low high count_is = omega (arith, first_is, low, high, count_is)

same_range : (config : Config) (least greatest : ℕ) → config.port_min ≡ least → config.port_max ≡ greatest → (greatest + 1 - (least + least % 2)) / 2 ≡ range_pairs config
unfolding range_pairs
same_range config least greatest min max = rw (min, max) refl

for_each : (interface : Option Ip) (both : Bool) (count : ℕ) → is_some interface ≡ both → count + cond both count 0 ≡ for_each_interface interface count
for_each None true count is = absurd (let e = is in cc)
for_each None false count is = omega arith
for_each (Some ip) true count is = omega arith
for_each (Some ip) false count is = absurd (let e = is in cc)

same_count : (config : Config) (both : Bool) (count : ℕ) → is_some config.interface6 ≡ both → count ≡ range_pairs config → count + cond both count 0 ≡ pair_count config
unfolding pair_count
same_count config both count is same = for_each config.interface6 both count is ∙ ap (for_each_interface config.interface6) same

module _ (c : goal.In_ok-generations) where
  per : ℕ
  per = c.saturating_sub-per_family.result / 2

  ports : c.from.result + c.from-2.result % 2 + 2 * (c.saturating_sub-per_family.result / 2) ≤ 65536
  ports =
      let first : c.from.result + c.from-2.result % 2 ≡ c.args.port_min + c.args.port_min % 2 = rw (c.from.ensures, c.from-2.ensures) refl in
      let counted : c.saturating_sub-per_family.result / 2 ≡ (c.args.port_max + 1 - (c.from.result + c.from-2.result % 2)) / 2 = rw (c.saturating_sub-per_family.ensures, c.from-3.ensures) refl in
      within_ports c.args.port_min c.args.port_max (c.from.result + c.from-2.result % 2) (c.saturating_sub-per_family.result / 2) first (omega (arith, c.ranges.port_min.fits)) (omega (arith, c.ranges.port_max.fits)) counted

  others : c.if-both.others ≡ cond c.args.both (c.saturating_sub-per_family.result / 2) 0
  others = elim c.if-both.branch [ then-both w ↦ rw w.if-both.true w.others-is | else-both w ↦ rw w.if-both.false w.others-is ]

  few : c.if-both.others ≤ c.saturating_sub-per_family.result / 2
  few = elim c.if-both.branch [ then-both w ↦ omega (arith, w.others-is) | else-both w ↦ omega (arith, w.others-is) ]

  many : length c.in_ok-generations.generations.items ≡ c.saturating_sub-per_family.result / 2 + c.if-both.others
  many = sym c.in_ok-generations.generations.ok.0 ∙ c.in_ok-generations.ensures.len

pub invariant_of-result : goal.invariant_of-result
invariant_of-result c =
    let per = c.saturating_sub-per_family.result / 2 in
    let few = few c in
    let many = many c in
    record {
      ports = ports c;
      first = omega (arith, many);
      others = omega (arith, many, few);
      room4 = c.in_ok-free4.ensures.room;
      room6 = omega (arith, many, c.in_ok-free6.ensures.room);
      free4 = subst (AreFree per) (sym c.in_ok-free4.ensures.pairs) (subst (λ n. AreFree n (numbers 0 per)) (let e : 0 + per ≡ per = omega arith in e) (all_numbers 0 per));
      free6 = subst (λ n. AreFree n c.in_ok-free6.free6.items) (sym many) (subst (AreFree (per + c.if-both.others)) (sym c.in_ok-free6.ensures.pairs) (all_numbers per c.if-both.others));
      later = subst (AreFrom per) (sym c.in_ok-free6.ensures.pairs) (all_later per per c.if-both.others (omega arith));
    }

pub returns : goal.returns
returns c config min max both =
    let per = c.saturating_sub-per_family.result / 2 in
    let first : c.from.result + c.from-2.result % 2 ≡ first_port config = rw (c.from.ensures, c.from-2.ensures, min) refl in
    let counted : per ≡ range_pairs config =
    rw (c.saturating_sub-per_family.ensures, c.from-3.ensures, c.from.ensures, c.from-2.ensures) (same_range config c.args.port_min c.args.port_max min max) in
    let all : per + c.if-both.others ≡ pair_count config = ap (λ n. per + n) (others c) ∙ same_count config c.args.both per both counted in
    let items = c.in_ok-generations.ensures.items_if_clones_equal (λ y h. h) in
    record {
      first_is = first;
      per_is = counted;
      all_free = λ family. elim family as (λ f. free_pairs (record { first_port = c.from.result + c.from-2.result % 2; per_family = per; free4 = c.in_ok-free4.free4.items; free6 = c.in_ok-free6.free6.items; generations = c.in_ok-generations.generations.items }) f ≡ pairs_of_family config (numbers 0 (pair_count config)) f) [
        | V4 ↦ c.in_ok-free4.ensures.pairs ∙ first_numbers config per c.if-both.others counted all
        | V6 ↦ c.in_ok-free6.ensures.pairs ∙ other_numbers config per c.if-both.others counted all
      ];
      none_leased = items ∙ ap (λ count. replicate count 0) all;
    }

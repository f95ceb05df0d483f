use Rattle.std.proofs.Common.{◌≡◌, ◌<◌, ◌≤◌, ℕ, List, true, false, cond, nat_lt, sym, subst, length, arith}
use Rattle.std.proofs.lemmas.Grind.{common_steps}
use Rattle.histories.specs.Words.{has}
use Rattle.relay_outside.specs.declared.address.Family.TheVariants.{V4, V6}
use Rattle.port_pool.specs.Pools.{Pairs, AreFree, AreFrom, free_pairs, family_in}
use Rattle.port_pool.proofs.Queue.{fewer_free, fewer_between, one_behind, later_behind}
use Rattle.port_pool.proofs.pairs.Pool.give_back.Goals as goal

-- the queue of a pair is that of its family
out4 : (pool : Pairs) (pair : ℕ) → pair < pool.per_family → has (free_pairs pool (family_in pool pair)) pair ≡ false → has pool.free4 pair ≡ false
out4 pool pair below h = subst (λ b. has (free_pairs pool (cond b V4 V6)) pair ≡ false) (let e : nat_lt pair pool.per_family ≡ true = grind (arith, common_steps) in e) h

out6 : (pool : Pairs) (pair : ℕ) → pool.per_family ≤ pair → has (free_pairs pool (family_in pool pair)) pair ≡ false → has pool.free6 pair ≡ false
out6 pool pair later h = subst (λ b. has (free_pairs pool (cond b V4 V6)) pair ≡ false) (let e : nat_lt pair pool.per_family ≡ false = grind (arith, common_steps) in e) h

pub push_back_reserved-requires : goal.push_back_reserved-requires
push_back_reserved-requires c =
    let pool = c.self.inside in
    let out : has pool.free4.items c.args.lease.pair ≡ false =
    out4 (record { first_port = pool.first_port; per_family = pool.per_family; free4 = pool.free4.items; free6 = pool.free6.items; generations = pool.generations.items }) c.args.lease.pair c.if-lease-self.true
    (subst (λ (p : Pairs). has (free_pairs p (family_in p c.args.lease.pair)) c.args.lease.pair ≡ false) (sym c.self.view_is) c.requires.not_free) in
    let fewer = fewer_free pool.per_family pool.free4.items c.args.lease.pair c.self.invariant.free4 c.if-lease-self.true out in
    let long = pool.free4.ok.0 in
    omega (arith, c.self.invariant.room4, fewer, long)

pub invariant_of-self : goal.invariant_of-self
invariant_of-self c =
    let pool = c.self.inside in
    let out : has pool.free4.items c.args.lease.pair ≡ false =
    out4 (record { first_port = pool.first_port; per_family = pool.per_family; free4 = pool.free4.items; free6 = pool.free6.items; generations = pool.generations.items }) c.args.lease.pair c.if-lease-self.true
    (subst (λ (p : Pairs). has (free_pairs p (family_in p c.args.lease.pair)) c.args.lease.pair ≡ false) (sym c.self.view_is) c.requires.not_free) in
    record {
      ports = c.self.invariant.ports;
      first = c.self.invariant.first;
      others = c.self.invariant.others;
      room4 = omega (arith, c.self.invariant.room4, c.push_back_reserved.ensures.capacity);
      room6 = c.self.invariant.room6;
      free4 = subst (AreFree pool.per_family) (sym {A = List ℕ} c.push_back_reserved.ensures.items) (one_behind pool.per_family pool.free4.items c.args.lease.pair c.self.invariant.free4 c.if-lease-self.true out);
      free6 = c.self.invariant.free6;
      later = c.self.invariant.later;
    }

pub push_back_reserved-requires-else-lease-self : goal.push_back_reserved-requires-else-lease-self
push_back_reserved-requires-else-lease-self c =
    let pool = c.self.inside in
    let within : c.args.lease.pair < length pool.generations.items = subst (λ (p : Pairs). c.args.lease.pair < length p.generations) (sym c.self.view_is) c.requires.of_pool in
    let out : has pool.free6.items c.args.lease.pair ≡ false =
    out6 (record { first_port = pool.first_port; per_family = pool.per_family; free4 = pool.free4.items; free6 = pool.free6.items; generations = pool.generations.items }) c.args.lease.pair c.if-lease-self.false
    (subst (λ (p : Pairs). has (free_pairs p (family_in p c.args.lease.pair)) c.args.lease.pair ≡ false) (sym c.self.view_is) c.requires.not_free) in
    let fewer = fewer_between pool.per_family (length pool.generations.items) pool.free6.items c.args.lease.pair c.self.invariant.free6 c.self.invariant.later within c.if-lease-self.false out in
    let long = pool.free6.ok.0 in
    omega (arith, c.self.invariant.room6, fewer, long)

pub invariant_of-self-else-lease-self : goal.invariant_of-self-else-lease-self
invariant_of-self-else-lease-self c =
    let pool = c.self.inside in
    let within : c.args.lease.pair < length pool.generations.items = subst (λ (p : Pairs). c.args.lease.pair < length p.generations) (sym c.self.view_is) c.requires.of_pool in
    let out : has pool.free6.items c.args.lease.pair ≡ false =
    out6 (record { first_port = pool.first_port; per_family = pool.per_family; free4 = pool.free4.items; free6 = pool.free6.items; generations = pool.generations.items }) c.args.lease.pair c.if-lease-self.false
    (subst (λ (p : Pairs). has (free_pairs p (family_in p c.args.lease.pair)) c.args.lease.pair ≡ false) (sym c.self.view_is) c.requires.not_free) in
    record {
      ports = c.self.invariant.ports;
      first = c.self.invariant.first;
      others = c.self.invariant.others;
      room4 = c.self.invariant.room4;
      room6 = omega (arith, c.self.invariant.room6, c.push_back_reserved-else-lease-self.ensures.capacity);
      free4 = c.self.invariant.free4;
      free6 = subst (AreFree (length pool.generations.items)) (sym {A = List ℕ} c.push_back_reserved-else-lease-self.ensures.items) (one_behind (length pool.generations.items) pool.free6.items c.args.lease.pair c.self.invariant.free6 within out);
      later = subst (AreFrom pool.per_family) (sym {A = List ℕ} c.push_back_reserved-else-lease-self.ensures.items) (later_behind pool.per_family pool.free6.items c.args.lease.pair c.self.invariant.later c.if-lease-self.false);
    }

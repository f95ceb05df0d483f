-- Which leases may be given back after an entry's changes: those of the legs that it closes, and those of an offer that is undone.
use Rattle.std.proofs.Common.{◌≡◌, ◌∙◌, refl, sym, ap, subst, ℕ, ◌+◌, ◌<◌, ◌⊎◌, inl, inr, List, [], ◌∷◌, ◌++◌, map, filter, not, Bool, true, false, cond, ◌==◌, arith}
use Rattle.std.specs.Prelude.{count_by, ◌&&◌}
use Rattle.std.specs.List.{flat_map}
use Rattle.std.proofs.lemmas.List.Sums.{sum_by-append}
use Rattle.relay_outside.specs.declared.settings.Config.{Config}
use Rattle.histories.specs.Words.{In, here, there, has}
use Rattle.histories.proofs.Lists.{in_append, maps, it_has, equal_if, filtered}
use Rattle.relay_outside.specs.declared.address.Family.{Family}
use Rattle.port_pool.specs.Ports.{pair_count, pair_family, family_eq, pairs_of_family}
use Rattle.port_pool.specs.Pools.{AreFree, family_in}
use Rattle.port_pool.specs.declared.holder.Holder.{Holder}
use Rattle.port_pool.specs.declared.pairs.Lease.{Lease}
use Rattle.call_board.specs.declared.board.Board.{Board}
use Rattle.call_board.specs.Acts as act
use Rattle.call_board.specs.Acts.{Call, Offer, Act, Control, Turn, BoardEntry, act}
use Rattle.call_board.specs.Calls.{ended_by}
use Rattle.call_board.specs.Pairs.{held, legs_of_act, closes_leg, closes_leg_act, closed_of, all_leased, leased_by_act, free, next_generation}
use Rattle.call_board.specs.Fits.{FitsBoard, IsFitting}
use Rattle.call_board.specs.Views.{View, view_of, times_leased, with_leases, with_returned, without_call}
use Rattle.call_board.specs.Boards.{BoardMatches, IsOut, AreOut, lease_at, pairs_in}
use Rattle.call_board.specs.Whole.{with_closed, with_ended}
use Rattle.call_board.specs.Returns.{leg_lease, MayReturn, MayReturnAll}
use Rattle.call_board.proofs.Once.{Once, once_filtered}
use Rattle.call_board.proofs.Sieves.{is_out, filter_alike}
use Rattle.call_board.proofs.Held.{held_split, closed_of_held}
use Rattle.call_board.proofs.Leases.{leg_generation, counted as present}
use Rattle.call_board.proofs.Leased.{count-none}
use Rattle.call_board.proofs.Free.{legs_leased, leased_free, free_once, free_below, free_not_held, held_once, held_below}
use Rattle.call_board.proofs.FreeAfter.{leases_once, closed_apart}
use Rattle.call_board.proofs.Bounds.{once_count}
use Rattle.call_board.proofs.Given.{has-behind, differs, later}
use Rattle.call_board.proofs.CallsAfter.{eq_swap}
use Rattle.call_board.proofs.Entries.{ended_are}

-- From what the board keeps to the board.

-- what is not free is not among the free ones of a family
out_of_family : (config : Config) (free : List ℕ) (pair : ℕ) (family : Family) → has free pair ≡ false → has (pairs_of_family config free family) pair ≡ false
out_of_family config free pair family out =
    is_out pair (pairs_of_family config free family)
    (λ i. let among : has free pair ≡ true = it_has pair free (filtered (λ p. family_eq (pair_family config p) family) free i).0 in let wrong : true ≡ false = sym among ∙ out in cc)

out_by : (config : Config) (board : Board) (v : View) (lease : Lease) → BoardMatches config board v → MayReturn config v lease → IsOut board.pool lease
out_by config board v lease s may = record {
  of_pool = let count = s.pool_for.count_is in let below = may.of_range in omega (arith, count, below);
  not_free = ap (λ (ps : List ℕ). has ps lease.pair) (s.pool_for.free_is (family_in board.pool lease.pair))
      ∙ out_of_family config v.free lease.pair (family_in board.pool lease.pair) may.not_free;
  last = s.pool_for.leases_are lease.pair may.of_range ∙ may.last;
}

-- leases that may be given back are out
pub returns_out : (config : Config) (board : Board) (v : View) (leases : List Lease) → BoardMatches config board v → MayReturnAll config v leases → AreOut board.pool leases
returns_out config board v [] s may = tt
returns_out config board v (lease ∷ leases) s may = (out_by config board v lease s may.0, may.1, returns_out config board v leases s may.2)

others_next : (config : Config) (v : View) (pair : ℕ) (leases : List Lease) → MayReturnAll config v leases → has (pairs_in leases) pair ≡ false → MayReturnAll config (with_returned v (pair ∷ [])) leases
others_next config v pair [] may new = tt
others_next config v pair (lease ∷ leases) may new = (
  record {
    of_range = may.0.of_range;
    not_free = has-behind v.free pair lease.pair may.0.not_free (differs pair lease.pair (pairs_in leases) new);
    last = may.0.last;
  },
  may.1,
  others_next config v pair leases may.2 (later pair lease.pair (pairs_in leases) new),
)

-- when one was given back, the others may be
pub returns_next : (config : Config) (v : View) (lease : Lease) (leases : List Lease) → MayReturnAll config v (lease ∷ leases) → MayReturnAll config (with_returned v (lease.pair ∷ [])) leases
returns_next config v lease leases may = others_next config v lease.pair leases may.2 may.1

-- The generation of a held leg counts the leases of its pair.

abbrev pair_of : Holder → ℕ
pair_of leg = leg.pair

count_step : (h : List BoardEntry) (e : BoardEntry) (pair : ℕ) → times_leased (e ∷ h) pair ≡ count_by (λ q. q == pair) (leased_by_act (act e)) + times_leased h pair
count_step h e pair = let both = sum_by-append (λ (q : ℕ). cond (q == pair) 1 0) (leased_by_act (act e)) (all_leased h) in omega (arith, both)

counted : (p : ℕ) (xs : List ℕ) → Once xs → In p xs → count_by (λ q. q == p) xs ≡ 1
counted p xs once i = let most = once_count p xs once in let least = present p xs i in omega (arith, most, least)

new_case : (config : Config) (h : List BoardEntry) (e : BoardEntry) (a : Holder) (x : Act) → FitsBoard config h e → act e ≡ x → In a (legs_of_act x) → times_leased (e ∷ h) a.pair ≡ a.generation
new_case config h e a (act.Offered o) fits is i =
    let generation : a.generation ≡ next_generation h a.pair = leg_generation config h e o a fits is i in
    let one = counted a.pair (leased_by_act (act e)) (leases_once config h e fits) (legs_leased a (act e) (subst (λ (y : Act). In a (legs_of_act y)) (sym is) i)) in
    let step = count_step h e a.pair in omega (arith, generation, one, step)
new_case config h e a act.Repeated fits is i = elim i [ ]
new_case config h e a act.OutOfMemory fits is i = elim i [ ]
new_case config h e a (act.Failed code) fits is i = elim i [ ]
new_case config h e a (act.Undone code leases draws) fits is i = elim i [ ]
new_case config h e a (act.Answered x) fits is i = elim i [ ]
new_case config h e a (act.Deleted of) fits is i = elim i [ ]
new_case config h e a (act.Queried of) fits is i = elim i [ ]
new_case config h e a act.Told fits is i = elim i [ ]
new_case config h e a (act.Delayed of s) fits is i = elim i [ ]

last_case : (config : Config) (h : List BoardEntry) (e : BoardEntry) (a : Holder) → FitsBoard config h e → (In a (held h) → times_leased h a.pair ≡ a.generation) →
    (In a (held h) × (closes_leg e a ≡ false)) ⊎ In a (legs_of_act (act e)) → times_leased (e ∷ h) a.pair ≡ a.generation
last_case config h e a fits rest (inl i) =
    let out = λ (j : In a.pair (leased_by_act (act e))). free_not_held config h a.pair a (leased_free config h e a.pair fits j) i.0 refl in
    let none = count-none a.pair (leased_by_act (act e)) (is_out a.pair (leased_by_act (act e)) out) in
    let step = count_step h e a.pair in
    let before = rest i.0 in omega (arith, none, step, before)
last_case config h e a fits rest (inr i) = new_case config h e a (act e) fits refl i

-- a held leg has the last lease of its pair
pub held_last : (config : Config) (h : List BoardEntry) (a : Holder) → IsFitting config h → In a (held h) → times_leased h a.pair ≡ a.generation
held_last config [] a fits i = elim i [ ]
held_last config (e ∷ h) a fits i = last_case config h e a fits.0 (held_last config h a fits.1) (held_split h e a i)

-- Legs that are closed.

-- held legs of different pairs, none of which is free and of which none was leased since
record AreHeld (config : Config) (h : List BoardEntry) (v : View) (legs : List Holder) : Type 0 where
  are_held : (a : Holder) → In a legs → In a (held h)
  not_free : (a : Holder) → In a legs → In a.pair v.free → ⊥
  same_leases : (a : Holder) → In a legs → v.leases a.pair ≡ times_leased h a.pair

pairs_same : (config : Config) (legs : List Holder) → pairs_in (map (leg_lease config) legs) ≡ map pair_of legs
pairs_same config [] = refl
pairs_same config (leg ∷ legs) = ap (λ (ps : List ℕ). leg.pair ∷ ps) (pairs_same config legs)

legs_return : (config : Config) (h : List BoardEntry) (v : View) (legs : List Holder) → IsFitting config h → AreHeld config h v legs → Once (map pair_of legs) → MayReturnAll config v (map (leg_lease config) legs)
legs_return config h v [] fits held_ once = tt
legs_return config h v (leg ∷ legs) fits held_ once = (
  record {
    of_range = held_below config h leg fits (held_.are_held leg (here refl));
    not_free = is_out leg.pair v.free (held_.not_free leg (here refl));
    last = held_.same_leases leg (here refl) ∙ held_last config h leg fits (held_.are_held leg (here refl));
  },
  ap (λ (ps : List ℕ). has ps leg.pair) (pairs_same config legs) ∙ is_out leg.pair (map pair_of legs) once.0,
  legs_return config h v legs fits (record {
    are_held = λ a i. held_.are_held a (there i);
    not_free = λ a i. held_.not_free a (there i);
    same_leases = λ a i. held_.same_leases a (there i);
  }) once.1,
)

closed_pairs_once : (config : Config) (h : List BoardEntry) (e : BoardEntry) (of : Call) → IsFitting config h → Once (map pair_of (closed_of h e of))
closed_pairs_once config h e of fits = once_filtered pair_of (λ (leg : Holder). (leg.call == of.number) && closes_leg e leg) (held h) (held_once config h fits)

-- those of the legs that an offer drops may be given back, after it leased free pairs
pub dropped_return : (config : Config) (h : List BoardEntry) (e : BoardEntry) (of : Call) (v : View) (pairs : List ℕ) → IsFitting config h →
    ((p : ℕ) → In p pairs → In p (free config h)) → v.free ≡ (with_leases (view_of config h) pairs).free →
    v.leases ≡ (with_leases (view_of config h) pairs).leases → MayReturnAll config v (map (leg_lease config) (closed_of h e of))
dropped_return config h e of v pairs fits were_free free_is leases_are =
    legs_return config h v (closed_of h e of) fits (record {
      are_held = λ a i. (closed_of_held h e of a i).0;
      not_free = λ a i j. free_not_held config h a.pair a (filtered (λ p. not (has pairs p)) (free config h) (subst (λ (ps : List ℕ). In a.pair ps) free_is j)).0 (closed_of_held h e of a i).0 refl;
      same_leases = λ a i.
          let out = λ (j : In a.pair pairs). free_not_held config h a.pair a (were_free a.pair j) (closed_of_held h e of a i).0 refl in
          let none = count-none a.pair pairs (is_out a.pair pairs out) in
          let same : v.leases a.pair ≡ times_leased h a.pair + count_by (λ p. p == a.pair) pairs = ap (λ (f : ℕ → ℕ). f a.pair) leases_are in
          omega (arith, none, same);
    }) (closed_pairs_once config h e of fits)

ended_case : (config : Config) (h : List BoardEntry) (e : BoardEntry) (gone : List Call) (of : Call) (a : Holder) → IsFitting config h → (In of.number (map (λ (c : Call). c.number) gone) → ⊥) →
    In a (closed_of h e of) → In a.pair (free config h) ⊎ In a.pair (map pair_of (flat_map (closed_of h e) gone)) → ⊥
ended_case config h e gone of a fits out i (inl j) = free_not_held config h a.pair a j (closed_of_held h e of a i).0 refl
ended_case config h e gone of a fits out i (inr j) = closed_apart config h e of gone a.pair fits out (maps pair_of (closed_of h e of) i) j

-- those of a call that a tick or a stop ends may be given back, after those of the calls before it
pub ended_return : (config : Config) (h : List BoardEntry) (e : BoardEntry) (gone : List Call) (of : Call) (v : View) → IsFitting config h → v.free ≡ free config h → v.leases ≡ times_leased h →
    (In of.number (map (λ (c : Call). c.number) gone) → ⊥) → MayReturnAll config (with_ended h e gone v) (map (leg_lease config) (closed_of h e of))
ended_return config h e gone of v fits free_is leases_are out =
    legs_return config h (with_ended h e gone v) (closed_of h e of) fits (record {
      are_held = λ a i. (closed_of_held h e of a i).0;
      not_free = λ a i j.
          let those : (with_ended h e gone v).free ≡ free config h ++ map pair_of (flat_map (closed_of h e) gone) =
          ap (λ (w : View). w.free) (ended_are h e gone v) ∙ ap (λ (ps : List ℕ). ps ++ map pair_of (flat_map (closed_of h e) gone)) free_is in
          ended_case config h e gone of a fits out i
          (in_append (free config h) (map pair_of (flat_map (closed_of h e) gone)) (subst (λ (ps : List ℕ). In a.pair ps) those j));
      same_leases = λ a i. ap (λ (w : View). w.leases a.pair) (ended_are h e gone v) ∙ ap (λ (f : ℕ → ℕ). f a.pair) leases_are;
    }) (closed_pairs_once config h e of fits)

pub lease_pairs : (config : Config) (f : ℕ → ℕ) (pairs : List ℕ) → pairs_in (map (lease_at config f) pairs) ≡ pairs
lease_pairs config f [] = refl
lease_pairs config f (p ∷ pairs) = ap (λ (ps : List ℕ). p ∷ ps) (lease_pairs config f pairs)

-- What is free.

free_each : (count : ℕ) (xs : List ℕ) → Once xs → ((p : ℕ) → In p xs → p < count) → AreFree count xs
free_each count [] once below = tt
free_each count (x ∷ xs) once below = (below x (here refl), is_out x xs once.0, free_each count xs once.1 (λ p i. below p (there i)))

-- the free pairs are of the range, each once
pub are_free : (config : Config) (h : List BoardEntry) → IsFitting config h → AreFree (pair_count config) (free config h)
are_free config h fits = free_each (pair_count config) (free config h) (free_once config h) (λ p i. free_below config h p fits i)

-- Which legs an entry closes of a call.

closes_case : (e : BoardEntry) (leg : Holder) (of : Call) → In of (ended_by e) → (b : Bool) → (leg.call == of.number) ≡ b → (b && closes_leg e leg) ≡ b
closes_case e leg of i true is =
    let number : leg.call ≡ of.number = equal_if leg.call of.number is in
    let among : has (map (λ (c : Call). c.number) (ended_by e)) leg.call ≡ true =
    it_has leg.call (map (λ (c : Call). c.number) (ended_by e)) (subst (λ n. In n (map (λ (c : Call). c.number) (ended_by e))) (sym number) (maps (λ (c : Call). c.number) (ended_by e) i)) in
    ap (λ b. cond b true (closes_leg_act (act e) leg)) among
closes_case e leg of i false is = refl

-- of a call that ends it closes all
pub closed_of_ended : (h : List BoardEntry) (e : BoardEntry) (of : Call) → In of (ended_by e) → closed_of h e of ≡ filter (λ leg. leg.call == of.number) (held h)
closed_of_ended h e of i =
    filter_alike (λ (leg : Holder). (leg.call == of.number) && closes_leg e leg) (λ (leg : Holder). leg.call == of.number) (held h)
    (λ leg j. closes_case e leg of i (leg.call == of.number) refl)

swap_case : (a b x : Bool) → a ≡ b → (a && (b && x)) ≡ (a && x)
swap_case true true x same = refl
swap_case false b x same = refl
swap_case true false x same = absurd (let e = same in cc)

abbrev turn : ℕ → Control → Act → BoardEntry
turn now c a = record { moment = now; event = Turn (record c { act = a }) }

-- of its call an offer closes the legs of the sections that it drops
pub closed_of_offer : (h : List BoardEntry) (now : ℕ) (c : Control) (o : Offer) → c.act ≡ act.Offered o →
    closed_of h (record { moment = now; event = Turn c }) o.of ≡ filter (λ leg. (leg.call == o.of.number) && has o.dropped leg.section) (held h)
closed_of_offer h now c o is =
    ap (λ (a : Act). closed_of h (turn now c a) o.of) is
    ∙ filter_alike (λ (leg : Holder). (leg.call == o.of.number) && ((o.of.number == leg.call) && has o.dropped leg.section)) (λ (leg : Holder). (leg.call == o.of.number) && has o.dropped leg.section) (held h)
    (λ leg i. swap_case (leg.call == o.of.number) (o.of.number == leg.call) (has o.dropped leg.section) (eq_swap leg.call o.of.number))

-- which entry ends the calls makes no difference
pub ended_alike : (h : List BoardEntry) (e f : BoardEntry) (calls : List Call) (v : View) → ((of : Call) → In of calls → In of (ended_by e)) → ((of : Call) → In of calls → In of (ended_by f)) →
    with_ended h e calls v ≡ with_ended h f calls v
ended_alike h e f [] v by_e by_f = refl
ended_alike h e f (of ∷ calls) v by_e by_f =
    ap (λ (legs : List Holder). with_ended h e calls (with_returned (without_call v of.number) (map pair_of legs)))
    (closed_of_ended h e of (by_e of (here refl)) ∙ sym (closed_of_ended h f of (by_f of (here refl))))
    ∙ ended_alike h e f calls (with_closed h f of (without_call v of.number)) (λ c i. by_e c (there i)) (λ c i. by_f c (there i))

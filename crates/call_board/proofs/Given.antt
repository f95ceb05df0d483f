-- Leases that are given back one after the other.
use Rattle.std.proofs.Common.{◌≡◌, ◌∙◌, refl, ap, sym, subst, ℕ, Bool, true, false, cond, List, [], ◌∷◌, ◌++◌, ◌<◌, length, nat_lt, slice_index_or, append_assoc, append-nil, arith}
use Rattle.std.specs.Prelude.{◌==◌}
use Rattle.relay_outside.specs.declared.settings.Config.{Config}
use Rattle.histories.specs.Words.{has}
use Rattle.histories.proofs.Lists.{equal, equal_if}
use Rattle.relay_outside.specs.declared.address.Family.{Family}
use Rattle.relay_outside.specs.declared.address.Family.TheVariants.{V4, V6}
use Rattle.port_pool.specs.Pools.{Pairs, after_return, with_free, free_pairs, family_in}
use Rattle.port_pool.specs.declared.pairs.Lease.{Lease}
use Rattle.port_pool.proofs.Standing.{with_free_per, with_free_generations}
use Rattle.call_board.specs.declared.board.Board.{Board}
use Rattle.call_board.specs.Views.{View, with_returned}
use Rattle.call_board.specs.Boards.{BoardMatches, AreOut, pairs_in}

pub has-behind : (xs : List ℕ) (p q : ℕ) → has xs q ≡ false → (p == q) ≡ false → has (xs ++ p ∷ []) q ≡ false
has-behind [] p q e n = ap (λ (b : Bool). cond b true false) n
has-behind (x ∷ xs) p q e n = go (x == q) refl e (has-behind xs p q)
  where
    go : (b : Bool) → (x == q) ≡ b → cond (x == q) true (has xs q) ≡ false → (has xs q ≡ false → (p == q) ≡ false → has (xs ++ p ∷ []) q ≡ false) →
        cond (x == q) true (has (xs ++ p ∷ []) q) ≡ false
    go true is e more = absurd (let f : true ≡ false = sym (ap (λ (b : Bool). cond b true (has xs q)) is) ∙ e in cc)
    go false is e more = ap (λ (b : Bool). cond b true (has (xs ++ p ∷ []) q)) is ∙ more (sym (ap (λ (b : Bool). cond b true (has xs q)) is) ∙ e) n

pub differs : (p q : ℕ) (qs : List ℕ) → has (q ∷ qs) p ≡ false → (p == q) ≡ false
differs p q qs e = go (p == q) refl
  where
    go : (b : Bool) → (p == q) ≡ b → (p == q) ≡ false
    go true is =
        let same = equal_if p q is in
        absurd (let f : true ≡ false = sym (ap (λ (b : Bool). cond b true (has qs p)) (equal q p (sym same))) ∙ e in cc)
    go false is = is

pub later : (p q : ℕ) (qs : List ℕ) → has (q ∷ qs) p ≡ false → has qs p ≡ false
later p q qs e = go (q == p) refl
  where
    go : (b : Bool) → (q == p) ≡ b → has qs p ≡ false
    go true is = absurd (let f : true ≡ false = sym (ap (λ (b : Bool). cond b true (has qs p)) is) ∙ e in cc)
    go false is = sym (ap (λ (b : Bool). cond b true (has qs p)) is) ∙ e

-- a pair is not in its family's queue, also after the return of another
still_out : (pool : Pairs) (p q : ℕ) → has (free_pairs pool (family_in pool q)) q ≡ false → (p == q) ≡ false → has (free_pairs (after_return pool p) (family_in (after_return pool p) q)) q ≡ false
still_out pool p q out new =
    let pairs = free_pairs pool (family_in pool p) ++ p ∷ [] in
    subst (λ per. has (free_pairs (after_return pool p) (cond (nat_lt q per) V4 V6)) q ≡ false) (sym (with_free_per pool (family_in pool p) pairs)) (go (family_in pool p) (family_in pool q) out)
  where
    go : (f g : Family) → has (free_pairs pool g) q ≡ false → has (free_pairs (with_free pool f (free_pairs pool f ++ p ∷ [])) g) q ≡ false
    go V4 V4 h = has-behind pool.free4 p q h new
    go V6 V6 h = has-behind pool.free6 p q h new
    go V4 V6 h = h
    go V6 V4 h = h

-- the other leases are out as before when a pair was given back
pub out_after : (pool : Pairs) (pair : ℕ) (leases : List Lease) → AreOut pool leases → has (pairs_in leases) pair ≡ false → AreOut (after_return pool pair) leases
out_after pool pair [] out new = _
out_after pool pair (lease ∷ leases) out new = (
  record {
    of_pool = subst (λ gs. lease.pair < length gs) (sym (with_free_generations pool (family_in pool pair) (free_pairs pool (family_in pool pair) ++ pair ∷ []))) out.0.of_pool;
    not_free = still_out pool pair lease.pair out.0.not_free (differs pair lease.pair (pairs_in leases) new);
    last = ap (λ gs. slice_index_or gs lease.pair 0) (with_free_generations pool (family_in pool pair) (free_pairs pool (family_in pool pair) ++ pair ∷ [])) ∙ out.0.last;
  },
  out.1,
  out_after pool pair leases out.2 (later pair lease.pair (pairs_in leases) new),
)

-- one pair more was given back
pub one_more_returned : (config : Config) (board : Board) (v : View) (given : List ℕ) (pair : ℕ) → BoardMatches config board (with_returned (with_returned v given) (pair ∷ [])) →
    BoardMatches config board (with_returned v (given ++ pair ∷ []))
one_more_returned config board v given pair s =
    subst (λ (pairs : List ℕ). BoardMatches config board (record { moment = v.moment; begun = v.begun; drawn = v.drawn; calls = v.calls; free = pairs; leases = v.leases; keepings = v.keepings }))
    (append_assoc v.free given (pair ∷ [])) s

pub none_returned : (config : Config) (board : Board) (v : View) → BoardMatches config board v → BoardMatches config board (with_returned v [])
none_returned config board v s =
    subst (λ (pairs : List ℕ). BoardMatches config board (record { moment = v.moment; begun = v.begun; drawn = v.drawn; calls = v.calls; free = pairs; leases = v.leases; keepings = v.keepings }))
    (sym (append-nil v.free)) s

pub none_left : (leases : List Lease) → length leases ≡ 0 → leases ≡ []
none_left [] e = refl
none_left (lease ∷ leases) e = absurd (omega (arith, e))

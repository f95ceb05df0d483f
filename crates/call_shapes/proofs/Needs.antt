-- What a turn may rest on, where all goes together.
use Rattle.std.proofs.Common.{◌≡◌, ◌∙◌, refl, sym, ap, subst, ℕ, ◌+◌, ◌<◌, ◌≤◌, ◌≢◌, ◌⊎◌, inl, inr, Bool, true, false, not, cond, ◌==◌, List, [], ◌∷◌, ◌++◌, map, filter, length, Option, Some, None, arith}
use Rattle.relay_outside.specs.declared.settings.Config.{Config}
use Rattle.relay_outside.specs.declared.address.Family.{Family}
use Rattle.relay_outside.specs.declared.address.Family.TheVariants.{V4, V6}
use Rattle.histories.specs.Words.{In, here, there, has, first}
use Rattle.histories.proofs.Lists.{in_append, in_left, in_right, has_it, maps, mapped, filtered, first_is_in, spread, spreads, equal, equal_if}
use Rattle.port_pool.specs.declared.holder.Holder.{Holder}
use Rattle.port_pool.specs.Ports.{pair_count}
use Rattle.port_pool.specs.Pools.{Pairs, free_pairs, family_in}
use Rattle.port_pool.proofs.Addresses.{at_least_once}
use Rattle.call_cell.specs.Shapes.{CellLegShape, CellShape, ended_shape, IsSmall}
use Rattle.call_board.specs.Returns.{leg_lease}
use Rattle.call_board.specs.Boards.{IsOut, AreOut, pairs_in}
use Rattle.call_board.specs.Shapes.{LiveShape, BoardShape, IsFreeCell, shape_numbered}
use Rattle.call_shapes.specs.WholeRelay.{AreWhole, PoolHolds, ShapesRise, cells_of_calls, held_legs, holder_among}
use Rattle.call_shapes.specs.Turns.{LegsLeased, IsOpenFor, holders_of, pairs_held}
use Rattle.call_shapes.proofs.Times.{times, times_none, some_times}
use Rattle.call_shapes.proofs.Holders.{leg_stands, found_among, none_among}
use Rattle.call_shapes.proofs.Pools.{once_times, reordered, pairs_times, leases_hold, held_here}
use Rattle.call_shapes.proofs.Moved.{legs_moved, moved_around, holds_between, once_held}
use Rattle.call_shapes.proofs.Rising.{rises_least, cell_low, cell_high, spare_cell}
use Rattle.call_shapes.proofs.Relays.{legs_in, held_around}
use Rattle.call_shapes.proofs.Small.{agreeing_small}

-- The pool.

pub free_below : (config : Config) (pool : Pairs) (held : List Holder) (family : Family) (pair : ℕ) → PoolHolds config pool held → has (free_pairs pool family) pair ≡ true → pair < pair_count config
free_below config pool held V4 pair h is =
    let below = cell_high pool.per_family pool.free4 h.families4 pair (has_it pair pool.free4 is) in
    let per_is = h.per_is in let most = at_least_once config in omega (arith, below, per_is, most)
free_below config pool held V6 pair h is =
    let below = cell_high (length pool.generations) pool.free6 h.below pair (has_it pair pool.free6 is) in let count_is = h.count_is in omega (arith, below, count_is)

free_times_of : (pool : Pairs) (family : Family) (pair : ℕ) → has (free_pairs pool family) pair ≡ true → 1 ≤ times pair pool.free4 + times pair pool.free6
free_times_of pool V4 pair is = let some = some_times pair pool.free4 is in omega (arith, some)
free_times_of pool V6 pair is = let some = some_times pair pool.free6 is in omega (arith, some)

-- no leg holds a free pair
pub free_not_held : (config : Config) (pool : Pairs) (held : List Holder) (family : Family) (pair : ℕ) → PoolHolds config pool held → has (free_pairs pool family) pair ≡ true
    → (leg : Holder) → In leg held → leg.pair ≢ pair
free_not_held config pool held family pair h is leg i same =
    let one = once_times config pool held h pair (free_below config pool held family pair h is) in
    let free = free_times_of pool family pair is in
    let at = leg_stands pair held leg i same in
    absurd (omega (arith, one, free, at))

-- legs at two places hold different pairs
pub held_apart : (config : Config) (pool : Pairs) (front : List Holder) (a : Holder) (middle : List Holder) (b : Holder) (back : List Holder)
    → PoolHolds config pool (front ++ (a ∷ middle ++ b ∷ back)) → a.pair ≢ b.pair
held_apart config pool front a middle b back h same =
    let all = front ++ (a ∷ middle ++ b ∷ back) in
    let below = (h.generations a (in_right front (a ∷ middle ++ b ∷ back) (here refl))).0 in
    let one = once_times config pool all h a.pair below in
    let c = pairs_times a.pair front (a ∷ middle ++ b ∷ back) in
    let d = pairs_times a.pair (a ∷ middle) (b ∷ back) in
    let first = held_here a middle in
    let second = leg_stands a.pair (b ∷ back) b (here refl) (sym same) in
    absurd (omega (arith, one, c, d, first, second))

out_of : (pool : Pairs) (family : Family) (pair : ℕ) → times pair pool.free4 + times pair pool.free6 ≡ 0 → has (free_pairs pool family) pair ≡ false
out_of pool V4 pair none = times_none pair pool.free4 (omega (arith, none))
out_of pool V6 pair none = times_none pair pool.free6 (omega (arith, none))

-- the lease of a held leg may be given back
pub leg_out : (config : Config) (pool : Pairs) (held : List Holder) (leg : Holder) → PoolHolds config pool held → In leg held → IsOut pool (leg_lease config leg)
leg_out config pool held leg h i =
    let of = h.generations leg i in
    let one = once_times config pool held h leg.pair of.0 in
    let at = leg_stands leg.pair held leg i refl in
    record {
      of_pool = (let count_is = h.count_is in let below = of.0 in omega (arith, count_is, below));
      not_free = out_of pool (family_in pool leg.pair) leg.pair (omega (arith, one, at));
      last = of.1;
    }

pub lease_pairs : (config : Config) (legs : List Holder) → pairs_in (map (leg_lease config) legs) ≡ pairs_held legs
lease_pairs config [] = refl
lease_pairs config (leg ∷ legs) = ap (λ (l : List ℕ). leg.pair ∷ l) (lease_pairs config legs)

in_turned_by : (leg other : Holder) (legs kept : List Holder) → In leg legs ⊎ In leg (other ∷ kept) → In leg (other ∷ legs ++ kept)
in_turned_by leg other legs kept (inl i) = there (in_left legs kept i)
in_turned_by leg other legs kept (inr (here e)) = here e
in_turned_by leg other legs kept (inr (there i)) = there (in_right legs kept i)

-- and those of several in turn
pub legs_out : (config : Config) (pool : Pairs) (legs kept : List Holder) → PoolHolds config pool (legs ++ kept) → AreOut pool (map (leg_lease config) legs)
legs_out config pool [] kept h = tt
legs_out config pool (leg ∷ legs) kept h =
    let below = (h.generations leg (here refl)).0 in
    let one = once_times config pool (leg ∷ legs ++ kept) h leg.pair below in
    let first = pairs_times leg.pair (leg ∷ []) (legs ++ kept) in
    let both = pairs_times leg.pair legs kept in
    let at = held_here leg [] in (
      leg_out config pool (leg ∷ legs ++ kept) leg h (here refl),
      ap (λ (l : List ℕ). has l leg.pair) (lease_pairs config legs) ∙ times_none leg.pair (pairs_held legs) (omega (arith, one, first, both, at)),
      legs_out config pool legs (leg ∷ kept) (reordered config pool (leg ∷ legs ++ kept) (legs ++ (leg ∷ kept)) h
          (λ other i. in_turned_by other leg legs kept (in_append legs (leg ∷ kept) i))
          (λ pair. (let a = pairs_times pair legs kept in let b = pairs_times pair legs (leg ∷ kept) in omega (arith, a, b)))),
    )

-- The boxes.

-- the box of a pair that is leased is shut
pub leased_is_shut : (config : Config) (board : BoardShape) (cells : ℕ → CellShape) (holders : ℕ → Option Holder) (came : List Holder) (between : Pairs)
    → AreWhole config board cells holders → LegsLeased board.pool came between → (leg : Holder) → In leg came → holders leg.pair ≡ None
leased_is_shut config board cells holders came between whole leases leg i =
    let held = held_legs cells board.calls in
    let all = leases_hold config board.pool between came held whole.pool leases in
    let below = (all.generations leg (in_left came held i)).0 in
    let most = once_held config board.pool between came held whole.pool leases leg.pair below in
    let both = pairs_times leg.pair came held in
    let at = leg_stands leg.pair came leg i refl in
    whole.held leg.pair below ∙ none_among leg.pair held (omega (arith, most, both, at))

-- and that of a free one
pub free_is_shut : (config : Config) (board : BoardShape) (cells : ℕ → CellShape) (holders : ℕ → Option Holder) (family : Family) (pair : ℕ)
    → AreWhole config board cells holders → has (free_pairs board.pool family) pair ≡ true → holders pair ≡ None
free_is_shut config board cells holders family pair whole is =
    let held = held_legs cells board.calls in
    let below = free_below config board.pool held family pair whole.pool is in
    let one = once_times config board.pool held whole.pool pair below in
    let free = free_times_of board.pool family pair is in
    whole.held pair below ∙ none_among pair held (omega (arith, one, free))

leg_held : (cells : ℕ → CellShape) (calls : List LiveShape) (call : LiveShape) (leg : CellLegShape) → In call calls → In leg (cells call.cell).legs → In leg.holder (held_legs cells calls)
leg_held cells calls call leg i j = spreads (legs_in cells) calls i (maps (λ (l : CellLegShape). l.holder) (cells call.cell).legs j)

-- the box of a live call's leg is open for it
pub leg_is_open : (config : Config) (board : BoardShape) (cells : ℕ → CellShape) (holders : ℕ → Option Holder) (call : LiveShape) (leg : CellLegShape)
    → AreWhole config board cells holders → In call board.calls → In leg (cells call.cell).legs → holders leg.holder.pair ≡ Some leg.holder
leg_is_open config board cells holders call leg whole i j =
    let held = held_legs cells board.calls in
    let at = leg_held cells board.calls call leg i j in
    let below = (whole.pool.generations leg.holder at).0 in
    let one = once_times config board.pool held whole.pool leg.holder.pair below in
    whole.held leg.holder.pair below ∙ found_among leg.holder.pair held leg.holder at refl (omega (arith, one))

-- an open box is open for a leg of a live call
first_held : (pair : ℕ) (legs : List Holder) (leg : Holder) → holder_among legs pair ≡ Some leg → In leg legs × (leg.pair ≡ pair)
first_held pair legs leg is =
    let there__ = filtered (λ (l : Holder). l.pair == pair) legs (first_is_in (filter (λ (l : Holder). l.pair == pair) legs) is) in
    (there__.0, equal_if leg.pair pair there__.1)

open_by : (config : Config) (board : BoardShape) (cells : ℕ → CellShape) (holders : ℕ → Option Holder) (pair : ℕ) (holder : Holder) (call : LiveShape) (leg : CellLegShape)
    → AreWhole config board cells holders → In call board.calls → In leg (cells call.cell).legs → leg.holder ≡ holder → holder.pair ≡ pair → IsOpenFor board cells pair holder
open_by config board cells holders pair holder call leg whole i j is pair_is =
    let of = (whole.calls call i).legs leg j in
    record {
      call = call;
      leg = leg;
      is_live = i;
      is_leg = j;
      holder_is = is;
      pair_is = pair_is;
      cell_is = ap (λ (h : Holder). h.cell) (sym is) ∙ of.cell_is;
      call_is = ap (λ (h : Holder). h.call) (sym is) ∙ of.call_is;
    }

pub open_is_held : (config : Config) (board : BoardShape) (cells : ℕ → CellShape) (holders : ℕ → Option Holder) (pair : ℕ) (holder : Holder)
    → AreWhole config board cells holders → pair < pair_count config → holders pair ≡ Some holder → IsOpenFor board cells pair holder
open_is_held config board cells holders pair holder whole below is =
    let at = first_held pair (held_legs cells board.calls) holder (sym (whole.held pair below) ∙ is) in
    let call = spread (legs_in cells) board.calls at.0 in
    let leg = mapped (λ (l : CellLegShape). l.holder) (cells call.from.cell).legs call.has_it in
    open_by config board cells holders pair holder call.from leg.from whole call.is_in leg.is_in leg.makes at.1

-- The calls.

-- a live call is found by its number, which is none of a call that begins
pub number_below : (from below : ℕ) (calls : List LiveShape) → ShapesRise from calls below → (call : LiveShape) → In call calls → (from ≤ call.number) × (call.number < below)
number_below from below [] h call i = elim i [ ]
number_below from below (first ∷ calls) h call (here e) =
    let least = rises_least (first.number + 1) below calls h.1 in
    subst (λ (c : LiveShape). (from ≤ c.number) × (c.number < below)) (sym e) (h.0, omega (arith, least))
number_below from below (first ∷ calls) h call (there i) =
    let rest = number_below (first.number + 1) below calls h.1 call i in
    let from_is = h.0 in
    (omega (arith, rest.0, from_is), rest.1)

found_case : (number : ℕ) (call first_ : LiveShape) (calls : List LiveShape) → (call.number ≡ number) → (In call (first_ ∷ calls))
    → (In call calls → first_.number < number) → (In call calls → first (filter (λ (c : LiveShape). c.number == number) calls) ≡ Some call)
    → (b : Bool) → (first_.number == number) ≡ b
    → first (cond b (first_ ∷ filter (λ (c : LiveShape). c.number == number) calls) (filter (λ (c : LiveShape). c.number == number) calls)) ≡ Some call
found_case number call first_ calls is (here e) lower rest true at = ap Some (sym e)
found_case number call first_ calls is (here e) lower rest false at =
    absurd (let same = equal first_.number number (ap (λ (c : LiveShape). c.number) (sym e) ∙ is) in let wrong : true ≡ false = sym same ∙ at in cc)
found_case number call first_ calls is (there i) lower rest true at =
    absurd (let below = lower i in let same = equal_if first_.number number at in omega (arith, below, same))
found_case number call first_ calls is (there i) lower rest false at = rest i

found_by_number : (from below : ℕ) (calls : List LiveShape) → ShapesRise from calls below → (call : LiveShape) → In call calls
    → first (filter (λ (c : LiveShape). c.number == call.number) calls) ≡ Some call
found_by_number from below [] h call i = elim i [ ]
found_by_number from below (first_ ∷ calls) h call i =
    found_case call.number call first_ calls refl i
    (λ j. (let rest = number_below (first_.number + 1) below calls h.1 call j in omega (arith, rest.0)))
    (λ j. found_by_number (first_.number + 1) below calls h.1 call j) (first_.number == call.number) refl

pub call_is_found : (config : Config) (board : BoardShape) (cells : ℕ → CellShape) (holders : ℕ → Option Holder) (call : LiveShape)
    → AreWhole config board cells holders → In call board.calls → (shape_numbered board call.number ≡ Some call) × (call.number < board.begun)
call_is_found config board cells holders call whole i =
    (found_by_number 0 board.begun board.calls whole.numbers call i, (number_below 0 board.begun board.calls whole.numbers call i).1)

-- The cells.

pub cell_within : (config : Config) (board : BoardShape) (cells : ℕ → CellShape) (holders : ℕ → Option Holder) (call : LiveShape)
    → AreWhole config board cells holders → In call board.calls → (1 ≤ call.cell) × (call.cell ≤ config.max_sessions)
cell_within config board cells holders call whole i =
    let at = maps (λ (c : LiveShape). c.cell) board.calls i in
    let high = cell_high (config.max_sessions + 1) (cells_of_calls board.calls) whole.apart call.cell at in
    (cell_low 1 (cells_of_calls board.calls) whole.low call.cell at, omega (arith, high))

pub spare_is_empty : (config : Config) (board : BoardShape) (cells : ℕ → CellShape) (holders : ℕ → Option Holder) (cell : ℕ)
    → AreWhole config board cells holders → IsFreeCell config.max_sessions board.taken cell → cells cell ≡ ended_shape config
spare_is_empty config board cells holders cell whole spare =
    whole.empty cell spare.from_one spare.within (spare_cell cell config.max_sessions board.taken (cells_of_calls board.calls) spare whole.marked)

pub cell_is_small : (config : Config) (board : BoardShape) (cells : ℕ → CellShape) (holders : ℕ → Option Holder) (call : LiveShape)
    → AreWhole config board cells holders → In call board.calls → IsSmall (cells call.cell).legs
cell_is_small config board cells holders call whole i = agreeing_small config call.cell call.number call.dialog (cells call.cell) (whole.calls call i)

-- The returns.

-- after the leases of the new legs, those of the legs that go may be given back
pub gone_out : (config : Config) (board : BoardShape) (cells : ℕ → CellShape) (holders : ℕ → Option Holder) (call : LiveShape) (front back : List LiveShape)
    (goes : Holder → Bool) (came : List Holder) (between : Pairs) → AreWhole config board cells holders → board.calls ≡ front ++ call ∷ back → LegsLeased board.pool came between
    → AreOut between (map (leg_lease config) (filter goes (holders_of (cells call.cell).legs)))
gone_out config board cells holders call front back goes came between whole are leases =
    let old = legs_in cells call in
    let gone = filter goes old in
    let new = filter (λ (leg : Holder). not (goes leg)) old ++ came in
    let moved = moved_around (held_legs cells front) (held_legs cells back) came gone old new (legs_moved goes came gone old new (record { went = refl; stay = refl })) in
    let were : held_legs cells board.calls ≡ held_legs cells front ++ (old ++ held_legs cells back) = ap (held_legs cells) are ∙ held_around cells front call back in
    legs_out config between gone (held_legs cells front ++ (new ++ held_legs cells back))
    (holds_between config board.pool between came gone (held_legs cells front ++ (old ++ held_legs cells back)) (held_legs cells front ++ (new ++ held_legs cells back))
    (subst (PoolHolds config board.pool) were whole.pool) leases moved)

-- after the leases of an offer that is undone, they may be given back
pub undone_out : (config : Config) (pool between : Pairs) (held came : List Holder) → PoolHolds config pool held → LegsLeased pool came between → AreOut between (map (leg_lease config) came)
undone_out config pool between held came h leases = legs_out config between came held (leases_hold config pool between came held h leases)

-- those of all legs of a call may be
pub ended_out : (config : Config) (board : BoardShape) (cells : ℕ → CellShape) (holders : ℕ → Option Holder) (call : LiveShape) (front back : List LiveShape)
    → AreWhole config board cells holders → board.calls ≡ front ++ call ∷ back → AreOut board.pool (map (leg_lease config) (holders_of (cells call.cell).legs))
ended_out config board cells holders call front back whole are =
    let legs = legs_in cells call in
    let others = held_legs cells front ++ held_legs cells back in
    let were : held_legs cells board.calls ≡ held_legs cells front ++ (legs ++ held_legs cells back) = ap (held_legs cells) are ∙ held_around cells front call back in
    legs_out config board.pool legs others (reordered config board.pool (held_legs cells front ++ (legs ++ held_legs cells back)) (legs ++ others)
    (subst (PoolHolds config board.pool) were whole.pool)
    (λ leg i. turned leg (held_legs cells front) legs (held_legs cells back) (in_append legs others i))
    (λ pair. (let a = pairs_times pair legs others in let b = pairs_times pair (held_legs cells front) (held_legs cells back) in
    let c = pairs_times pair (held_legs cells front) (legs ++ held_legs cells back) in let d = pairs_times pair legs (held_legs cells back) in omega (arith, a, b, c, d))))
  where
    turned_by : (leg : Holder) (front legs back : List Holder) → In leg front ⊎ In leg back → In leg (front ++ (legs ++ back))
    turned_by leg front legs back (inl i) = in_left front (legs ++ back) i
    turned_by leg front legs back (inr i) = in_right front (legs ++ back) (in_right legs back i)

    turned : (leg : Holder) (front legs back : List Holder) → In leg legs ⊎ In leg (front ++ back) → In leg (front ++ (legs ++ back))
    turned leg front legs back (inl i) = in_right front (legs ++ back) (in_left legs back i)
    turned leg front legs back (inr i) = turned_by leg front legs back (in_append front back i)

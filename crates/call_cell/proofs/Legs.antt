-- The legs of a cell: which entry added one, and that none took it away since.
use Rattle.std.proofs.Common.{◌≡◌, refl, ap, ◌∙◌, ℕ, List, [], ◌∷◌, ◌++◌, Bool, true, false, cond, Some, filter, not, ◌==◌, ◌⊎◌, inl, inr, append-nil}
use Rattle.std.specs.Prelude.{◌&&◌}
use Rattle.histories.specs.Words.{In, here, there}
use Rattle.histories.proofs.Lists.{in_left, in_right, in_append, filtered, keeps, first_is_in, equal, equal_if}
use Rattle.port_pool.specs.declared.holder.Side.{Side}
use Rattle.port_pool.specs.declared.holder.Side.TheVariants.{A, B}
use Rattle.port_pool.specs.declared.holder.Holder.{Holder}
use Rattle.port_pool.specs.Signals.{NewKey, same_leg, side_eq, other_side}
use Rattle.call_cell.specs.Cells.{CellEvent, CellEntry, Prepare, Commit, Relay, Expire, Read, End, Receipt, legs_of, takes_away, legs, is_opposite, opposite}
use Rattle.call_cell.specs.Deeds.{found}
use Rattle.call_cell.proofs.Splits.{both_left, both_right, both, first_of_one}

-- the entry is a Prepare of these
pub record IsPrepare (e : CellEntry) : Type 0 where
  pub call : ℕ
  pub legs : List Holder
  pub keys : List NewKey
  pub dropped : List ℕ
  pub is_it : e.event ≡ Prepare call legs keys dropped

adds_event : {leg : Holder} (moment : ℕ) (event : CellEvent) → In leg (legs_of event)
    → (p : IsPrepare (record { moment = moment; event = event })) × In leg p.legs
adds_event moment (Prepare call legs keys dropped) i =
    (record { call = call; legs = legs; keys = keys; dropped = dropped; is_it = refl }, i)
adds_event moment (Commit signal) i = elim i [ ]
adds_event moment (Relay r) i = elim i [ ]
adds_event moment (Expire due) i = elim i [ ]
adds_event moment (Read log) i = elim i [ ]
adds_event moment End i = elim i [ ]

-- an entry that adds a leg is a Prepare with that leg
pub adds_prepares : {leg : Holder} (e : CellEntry) → In leg (legs_of e.event) → (p : IsPrepare e) × In leg p.legs
adds_prepares e i = adds_event e.moment e.event i

-- the entry added the leg, and no later one took its section away
pub record IsAdded (h : List CellEntry) (leg : Holder) : Type 0 where
  pub newer : List CellEntry
  pub entry : CellEntry
  pub older : List CellEntry
  pub splits : h ≡ newer ++ entry ∷ older
  pub adds : In leg (legs_of entry.event)
  pub stays : (e : CellEntry) → In e newer → takes_away e.event leg.section ≡ false

not_true : (b : Bool) → not b ≡ true → b ≡ false
not_true true q = let e = q in cc
not_true false q = refl

not_false : (b : Bool) → b ≡ false → not b ≡ true
not_false true q = let e = q in cc
not_false false q = refl

-- what passes stays, over an entry that doesn't take it away
abbrev keeps_leg : CellEntry → Holder → Bool
keeps_leg e leg = not (takes_away e.event leg.section)

none_yet : (leg : Holder) (e : CellEntry) → In e [] → takes_away e.event leg.section ≡ false
none_yet leg e i = elim i [ ]

and_here : (leg : Holder) (x : CellEntry) (newer : List CellEntry) → takes_away x.event leg.section ≡ false
    → ((e : CellEntry) → In e newer → takes_away e.event leg.section ≡ false)
    → (e : CellEntry) → In e (x ∷ newer) → takes_away e.event leg.section ≡ false
and_here leg x newer q rest e (here p) = ap (λ (y : CellEntry). takes_away y.event leg.section) p ∙ q
and_here leg x newer q rest e (there i) = rest e i

added_case : (x : CellEntry) (h : List CellEntry) (leg : Holder) → (In leg (legs h) → IsAdded h leg)
    → In leg (filter (keeps_leg x) (legs h)) ⊎ In leg (legs_of x.event) → IsAdded (x ∷ h) leg
added_case x h leg rest (inr i) = record { newer = []; entry = x; older = h; splits = refl; adds = i; stays = none_yet leg }
added_case x h leg rest (inl i) =
    let f = filtered (keeps_leg x) (legs h) i in
    let a = rest f.0 in
    record {
      newer = x ∷ a.newer;
      entry = a.entry;
      older = a.older;
      splits = ap (λ (k : List CellEntry). x ∷ k) a.splits;
      adds = a.adds;
      stays = and_here leg x a.newer (not_true (takes_away x.event leg.section) f.1) a.stays;
    }

pub leg_added : (h : List CellEntry) (leg : Holder) → In leg (legs h) → IsAdded h leg
leg_added [] leg i = elim i [ ]
leg_added (x ∷ h) leg i = added_case x h leg (leg_added h leg) (in_append (filter (keeps_leg x) (legs h)) (legs_of x.event) i)

stays_there : (newer older : List CellEntry) (entry : CellEntry) (leg : Holder) → In leg (legs_of entry.event)
    → ((e : CellEntry) → In e newer → takes_away e.event leg.section ≡ false) → In leg (legs (newer ++ entry ∷ older))
stays_there [] older entry leg i stays = in_right (filter (keeps_leg entry) (legs older)) (legs_of entry.event) i
stays_there (x ∷ newer) older entry leg i stays =
    in_left (filter (keeps_leg x) (legs (newer ++ entry ∷ older))) (legs_of x.event)
    (keeps (keeps_leg x) (legs (newer ++ entry ∷ older)) (stays_there newer older entry leg i (λ e j. stays e (there j)))
    (not_false (takes_away x.event leg.section) (stays x (here refl))))

before_case : (x : CellEntry) (h : List CellEntry) (leg : Holder) → (In leg (legs_of x.event) → ⊥)
    → In leg (filter (keeps_leg x) (legs h)) ⊎ In leg (legs_of x.event) → In leg (legs h)
before_case x h leg none (inr i) = absurd (none i)
before_case x h leg none (inl i) = (filtered (keeps_leg x) (legs h) i).0

-- a leg was there before newer entries that didn't add it
pub leg_before : (newer older : List CellEntry) (leg : Holder) → ((e : CellEntry) → In e newer → In leg (legs_of e.event) → ⊥)
    → In leg (legs (newer ++ older)) → In leg (legs older)
leg_before [] older leg none i = i
leg_before (x ∷ newer) older leg none i =
    leg_before newer older leg (λ e j. none e (there j))
    (before_case x (newer ++ older) leg (none x (here refl))
    (in_append (filter (keeps_leg x) (legs (newer ++ older))) (legs_of x.event) i))

-- a leg is the same as itself, and what is the same as it is of its call, pair and lease
pub is_same_leg : (leg : Holder) → same_leg leg leg ≡ true
is_same_leg leg =
    both ((leg.call == leg.call) && (leg.pair == leg.pair)) (leg.generation == leg.generation)
    (both (leg.call == leg.call) (leg.pair == leg.pair) (equal leg.call leg.call refl) (equal leg.pair leg.pair refl))
    (equal leg.generation leg.generation refl)

pub same_leg_is : (a b : Holder) → same_leg a b ≡ true → (a.call ≡ b.call) × (a.pair ≡ b.pair) × (a.generation ≡ b.generation)
same_leg_is a b q =
    let front = both_left ((a.call == b.call) && (a.pair == b.pair)) (a.generation == b.generation) q in (
      equal_if a.call b.call (both_left (a.call == b.call) (a.pair == b.pair) front),
      equal_if a.pair b.pair (both_right (a.call == b.call) (a.pair == b.pair) front),
      equal_if a.generation b.generation (both_right ((a.call == b.call) && (a.pair == b.pair)) (a.generation == b.generation) q),
    )

other_of : (a b : Side) → not (side_eq a b) ≡ true → a ≡ other_side b
other_of A A q = absurd (let e = q in cc)
other_of A B q = refl
other_of B A q = refl
other_of B B q = absurd (let e = q in cc)

pub record IsOpposite (h : List CellEntry) (leg other : Holder) : Type 0 where
  pub is_leg : In other (legs h)
  pub section : other.section ≡ leg.section
  pub side : other.side ≡ other_side leg.side

pub opposite_is : (h : List CellEntry) (leg other : Holder) → opposite h leg ≡ Some other → IsOpposite h leg other
opposite_is h leg other q =
    let f = filtered (is_opposite leg) (legs h) (first_is_in (filter (is_opposite leg) (legs h)) q) in
    record {
      is_leg = f.0;
      section = equal_if other.section leg.section (both_left (other.section == leg.section) (not (side_eq other.side leg.side)) f.1);
      side = other_of other.side leg.side (both_right (other.section == leg.section) (not (side_eq other.side leg.side)) f.1);
    }

pub record IsFound (h : List CellEntry) (p : Receipt) (leg : Holder) : Type 0 where
  pub is_leg : In leg (legs h)
  pub is_same : same_leg p.holder leg ≡ true

pub found_is : (h : List CellEntry) (p : Receipt) (leg : Holder) → found h p ≡ Some leg → IsFound h p leg
found_is h p leg q =
    let f = filtered (same_leg p.holder) (legs h) (first_is_in (filter (same_leg p.holder) (legs h)) q) in
    record { is_leg = f.0; is_same = f.1 }

-- a leg that is there is found, where no other leg there is of its call, pair and lease
pub finds : (h : List CellEntry) (p : Receipt) → In p.holder (legs h)
    → ((leg : Holder) → In leg (legs h) → same_leg p.holder leg ≡ true → leg ≡ p.holder) → found h p ≡ Some p.holder
finds h p i only =
    first_of_one (filter (same_leg p.holder) (legs h)) p.holder (keeps (same_leg p.holder) (legs h) i (is_same_leg p.holder))
    (λ y j. let f = filtered (same_leg p.holder) (legs h) j in only y f.0 f.1)

filter_all : (q : Holder → Bool) (xs : List Holder) → ((x : Holder) → q x ≡ true) → filter q xs ≡ xs
filter_all q [] all = refl
filter_all q (x ∷ xs) all =
    ap (λ (b : Bool). cond b (x ∷ filter q xs) (filter q xs)) (all x) ∙ ap (λ (ys : List Holder). x ∷ ys) (filter_all q xs all)

-- what stays as it was over an entry that neither adds nor takes away legs
pub legs_stay : (e : CellEntry) (h : List CellEntry) → legs_of e.event ≡ [] → ((section : ℕ) → takes_away e.event section ≡ false) → legs (e ∷ h) ≡ legs h
legs_stay e h none stays =
    ap (λ (ls : List Holder). filter (keeps_leg e) (legs h) ++ ls) none
    ∙ append-nil (filter (keeps_leg e) (legs h)) ∙ filter_all (keeps_leg e) (legs h) (λ leg. not_false (takes_away e.event leg.section) (stays leg.section))

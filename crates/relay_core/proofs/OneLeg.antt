-- Each key number belongs to one leg.
use Rattle.std.proofs.Common.{◌≡◌, ◌∙◌, sym, ap, subst, ℕ, ◌<◌, ◌≤◌, ◌⊎◌, inl, inr, List, [], ◌∷◌, ◌++◌, Bool, true, false, cond, refl, ◌==◌, arith}
use Rattle.relay_outside.specs.declared.settings.Config.{Config}
use Rattle.histories.specs.Words.{In}
use Rattle.histories.proofs.Lists.{in_append, filtered, equal_if}
use Rattle.port_pool.specs.declared.holder.Side.{Side}
use Rattle.port_pool.specs.declared.holder.Side.TheVariants.{A, B}
use Rattle.port_pool.specs.declared.holder.Holder.{Holder}
use Rattle.port_pool.specs.Signals.{NewKey, same_leg, side_eq}
use Rattle.call_cell.specs.Cells.{CellEvent, CellEntry, since_end, legs, legs_of, keys_of}
use Rattle.call_cell.specs.LegKeys.{keys_since, is_for_leg}
use Rattle.call_cell.proofs.Keys.{key_found}
use Rattle.call_cell.proofs.Legs.{is_same_leg}
use Rattle.call_cell.proofs.PrepareSteps.{any_true}
use Rattle.call_cell.proofs.Splits.{none_in, or_first}
use Rattle.relay_core.specs.Entries.{Event, Entry, cell_history, cell_before}
use Rattle.relay_core.specs.Legal.{Orderly}
use Rattle.relay_core.specs.Safe.{GotKey, keys_by}
use Rattle.relay_core.proofs.Histories.{both}
use Rattle.relay_core.proofs.Boards.{less_or}
use Rattle.relay_core.proofs.Keys.{keys_apart}
use Rattle.relay_core.proofs.Commits.{event_of, entry_of}
use Rattle.relay_core.proofs.LegEntries.{adds, behind}
use Rattle.relay_core.proofs.LegStays.{IsAdded, is_added, one_leg_of}

-- A key that came since a leg was added: the entry that brought it, and no newer one added the leg.
record IsKept (h : List CellEntry) (leg : Holder) (key : NewKey) : Type 0 where
  newer : List CellEntry
  entry : CellEntry
  older : List CellEntry
  splits : h ≡ newer ++ entry ∷ older
  brings : In key (keys_of entry.event)
  adds_none : (e : CellEntry) → In e newer → adds leg e ≡ false

kept_case : (x : CellEntry) (h : List CellEntry) (leg : Holder) (key : NewKey) → (In key (keys_since h leg) → IsKept h leg key) → (b : Bool) → adds leg x ≡ b
    → In key (keys_of x.event) ⊎ In key (cond b [] (keys_since h leg)) → IsKept (x ∷ h) leg key
kept_case x h leg key rest b q (inl i) = record {
  newer = [];
  entry = x;
  older = h;
  splits = refl;
  brings = i;
  adds_none = none_in (λ (y : CellEntry). adds leg y ≡ false);
}
kept_case x h leg key rest true q (inr i) = elim i [ ]
kept_case x h leg key rest false q (inr i) =
    let k = rest i in
    record {
      newer = x ∷ k.newer;
      entry = k.entry;
      older = k.older;
      splits = ap (λ (y : List CellEntry). x ∷ y) k.splits;
      brings = k.brings;
      adds_none = or_first (λ (y : CellEntry). adds leg y ≡ false) q k.adds_none;
    }

kept : (h : List CellEntry) (leg : Holder) (key : NewKey) → In key (keys_since h leg) → IsKept h leg key
kept [] leg key i = elim i [ ]
kept (x ∷ h) leg key i =
    kept_case x h leg key (kept h leg key) (adds leg x) refl (in_append (keys_of x.event) (cond (adds leg x) [] (keys_since h leg)) i)

-- The entry that brought a leg's key isn't before the one that added the leg.
record Brings (config : Config) (l : List Entry) (place n : ℕ) (leg : Holder) (key : NewKey) : Type 0 where
  entry : Entry
  is_in : In entry l
  at : entry.place ≡ place
  below : entry.number < n
  has_key : In key (keys_by entry.event)
  added : IsAdded config l place n leg
  since : added.entry.number ≤ entry.number

brings : (config : Config) (l : List Entry) → Orderly config l → (place n : ℕ) (leg : Holder) (key : NewKey)
    → In leg (legs (since_end (cell_history l place n))) → In key (keys_since (since_end (cell_history l place n)) leg) → Brings config l place n leg key
brings config l o place n leg key i j =
    let a = is_added config l o place n leg i in
    let k = kept (since_end (cell_history l place n)) leg key j in
    let b = behind l o.numbered place n k.newer k.older k.entry k.splits in
    let event = event_of b.entry k.entry b.is in
    record {
      entry = b.entry;
      is_in = b.is_in;
      at = b.at;
      below = b.below;
      has_key = subst (λ (v : Event). In key (keys_by v)) (sym event) k.brings;
      added = a;
      since = by_order a b.entry.number
          (λ h. let c : CellEntry = record { moment = a.entry.moment; event = Rattle.call_cell.specs.Cells.Prepare a.call a.legs a.keys a.dropped } in
          let newer = (b.later_in a.entry c a.is_in a.at h a.below (entry_of a.entry.moment a.entry.event c.event a.event)).0 in
          let none = k.adds_none c newer in
          let some = any_true (same_leg leg) leg a.legs a.has_leg (is_same_leg leg) in
          cc)
          (less_or b.entry.number a.entry.number);
    }
  where
    by_order : (a : IsAdded config l place n leg) (number : ℕ) → (number < a.entry.number → ⊥)
        → (number < a.entry.number) ⊎ ((number ≡ a.entry.number) ⊎ (a.entry.number < number)) → a.entry.number ≤ number
    by_order a number refuted (inl h) = absurd (refuted h)
    by_order a number refuted (inr (inl h)) = omega (arith, h)
    by_order a number refuted (inr (inr h)) = omega (arith, h)

side_if : (a b : Side) → side_eq a b ≡ true → a ≡ b
side_if A A q = refl
side_if B B q = refl
side_if A B q = absurd (let k = q in cc)
side_if B A q = absurd (let k = q in cc)

-- a leg of the cell of an equal place
moved : (config : Config) (l : List Entry) (place other n : ℕ) (leg : Holder) → other ≡ place → (t : IsAdded config l other n leg)
    → (s : IsAdded config l place n leg) × (s.entry.number ≡ t.entry.number)
moved config l place other n leg q t = (
  record {
    entry = t.entry;
    is_in = t.is_in;
    at = t.at ∙ q;
    below = t.below;
    call = t.call;
    legs = t.legs;
    keys = t.keys;
    dropped = t.dropped;
    event = t.event;
    of = t.of;
    has_leg = t.has_leg;
    stays = λ g d z w. t.stays g d z (w ∙ sym q);
  },
  refl,
)

one_of_place : (config : Config) (l : List Entry) → Orderly config l → (place other m n : ℕ) (a b : Holder) (j k : NewKey) → other ≡ place
    → (x : Brings config l place m a j) (y : Brings config l other n b k) → x.entry.number ≡ y.entry.number
    → a.section ≡ b.section → a.side ≡ b.side → a ≡ b
one_of_place config l o place other m n a b j k q x y numbers section side =
    let t = moved config l place other n b q y.added in
    let added = x.since in
    let added_too = y.since in
    let below = x.below in
    let below_too = y.below in
    let same = t.1 in
    one_leg_of config l o place m n a b x.added t.0 (omega (arith, added, numbers, below_too)) (omega (arith, added_too, numbers, below, same)) section side

-- two legs, of whatever cells and at whatever times, that have a key of one number are one
pub one_leg : (config : Config) (l : List Entry) → Orderly config l → (e f : Entry) (a b : Holder) (number : ℕ)
    → In a (legs (cell_before l e)) → In b (legs (cell_before l f))
    → GotKey (cell_before l e) a number → GotKey (cell_before l f) b number → a ≡ b
one_leg config l o e f a b number i j p q =
    let u = filtered (is_for_leg a) (keys_since (cell_before l e) a) p.in_life in
    let v = filtered (is_for_leg b) (keys_since (cell_before l f) b) q.in_life in
    let x = brings config l o e.place e.number a p.key i u.0 in
    let y = brings config l o f.place f.number b q.key j v.0 in
    let numbers : p.key.number ≡ q.key.number = (key_found (cell_before l e) number p.key p.is_there).1 ∙ sym (key_found (cell_before l f) number q.key q.is_there).1 in
    let one = keys_apart config l o x.entry y.entry p.key q.key x.is_in y.is_in x.has_key y.has_key numbers in
    let places : f.place ≡ e.place = sym y.at ∙ ap (λ (z : Entry). z.place) (sym one.0) ∙ x.at in
    let of_a = both (p.key.section == a.section) (side_eq p.key.side a.side) u.1 in
    let of_b = both (q.key.section == b.section) (side_eq q.key.side b.side) v.1 in
    let section : a.section ≡ b.section =
    sym (equal_if p.key.section a.section of_a.0) ∙ ap (λ (k : NewKey). k.section) one.1 ∙ equal_if q.key.section b.section of_b.0 in
    let side : a.side ≡ b.side = sym (side_if p.key.side a.side of_a.1) ∙ ap (λ (k : NewKey). k.side) one.1 ∙ side_if q.key.side b.side of_b.1 in
    one_of_place config l o e.place f.place e.number f.number a b p.key q.key places x y (ap (λ (z : Entry). z.number) one.0) section side

-- The entries of a cell since its last End, by where they stand; and the keys that came since a leg was added.
use Rattle.std.proofs.Common.{◌≡◌, ◌∙◌, sym, ap, subst, refl, ℕ, zero, suc, ◌<◌, ◌⊎◌, inl, inr, List, [], ◌∷◌, ◌++◌, Bool, true, false, cond, Some, length, filter, arith}
use Rattle.std.specs.List.{list_any}
use Rattle.histories.specs.Words.{In, here, there}
use Rattle.histories.proofs.Lists.{in_left, in_right, keeps, equal}
use Rattle.port_pool.specs.declared.holder.Side.{Side}
use Rattle.port_pool.specs.declared.holder.Side.TheVariants.{A, B}
use Rattle.port_pool.specs.declared.holder.Holder.{Holder}
use Rattle.port_pool.specs.Signals.{NewKey, same_leg, side_eq}
use Rattle.call_cell.specs.Cells.{CellEntry, is_end, since_end, legs_of, keys_of}
use Rattle.call_cell.specs.LegKeys.{keys_since, keys_for, is_for_leg}
use Rattle.relay_core.specs.Entries.{Entry, is_at, cell_entry, cell_history}
use Rattle.relay_core.proofs.Histories.{and_true, same_at, More, same, added, more}
use Rattle.relay_core.proofs.Boards.{lt_or_eq}

-- one entry at a number of a place
abbrev Numbered : List Entry → Type 0
Numbered l = (e : Entry) → In e l → length (filter (is_at e.place e.number) l) ≡ 1

-- Where an entry stands.

-- an entry since the last End, older than these newer ones: what has a greater number is one of them
pub record Behind (l : List Entry) (place n : ℕ) (newer : List CellEntry) (c : CellEntry) : Type 0 where
  pub entry : Entry
  pub is_in : In entry l
  pub at : entry.place ≡ place
  pub below : entry.number < n
  pub is : cell_entry entry ≡ Some c
  pub later_in : (f : Entry) (d : CellEntry) → In f l → f.place ≡ place → entry.number < f.number → f.number < n
      → cell_entry f ≡ Some d → In d newer × (is_end d ≡ false)

wider : (l : List Entry) (place n : ℕ) (newer more : List CellEntry) (c : CellEntry) → Behind l place n newer c
    → ((d : CellEntry) → In d newer → In d more)
    → ((f : Entry) (d : CellEntry) → In f l → f.place ≡ place → f.number ≡ n → cell_entry f ≡ Some d → In d more × (is_end d ≡ false))
    → Behind l place (suc n) more c
wider l place n newer more c b sub at_n = record {
  entry = b.entry;
  is_in = b.is_in;
  at = b.at;
  below = let q = b.below in omega (arith, q);
  is = b.is;
  later_in = λ f d i p later before h. by_number f d i p later h (lt_or_eq f.number n before);
}
  where
    by_number : (f : Entry) (d : CellEntry) → In f l → f.place ≡ place → b.entry.number < f.number → cell_entry f ≡ Some d
        → (f.number < n) ⊎ (f.number ≡ n) → In d more × (is_end d ≡ false)
    by_number f d i p later h (inl k) = let x = b.later_in f d i p later k h in (sub d x.0, x.1)
    by_number f d i p later h (inr m) = at_n f d i p m h

behind_added : (l : List Entry) → Numbered l → (place n : ℕ) (newer older : List CellEntry) (c : CellEntry) (e : Entry) (b : CellEntry)
    → In e l → e.place ≡ place → e.number ≡ n → cell_entry e ≡ Some b
    → ((rest : List CellEntry) → since_end (cell_history l place n) ≡ rest ++ c ∷ older → Behind l place n rest c)
    → (t : Bool) → is_end b ≡ t → cond t [] (b ∷ since_end (cell_history l place n)) ≡ newer ++ c ∷ older → Behind l place (suc n) newer c
behind_added l numbered place n [] older c e b i p m h rest true t q = absurd (let k = q in cc)
behind_added l numbered place n (x ∷ newer) older c e b i p m h rest true t q = absurd (let k = q in cc)
behind_added l numbered place n [] older c e b i p m h rest false t q =
    let one : b ≡ c = cc in
    record {
      entry = e;
      is_in = i;
      at = p;
      below = let k = m in omega (arith, k);
      is = subst (λ y. cell_entry e ≡ Some y) one h;
      later_in = λ f d j fp later before fh. absurd (let k = m in omega (arith, k, later, before));
    }
behind_added l numbered place n (x ∷ newer) older c e b i p m h rest false t q =
    let first : b ≡ x = cc in
    let others : since_end (cell_history l place n) ≡ newer ++ c ∷ older = cc in
    wider l place n newer (x ∷ newer) c (rest newer others) (λ d j. there j)
    (λ f d j fp fm fh. let one = same_at l numbered f e j i (subst (λ y. f.place ≡ y) (sym p) fp) (subst (λ y. f.number ≡ y) (sym m) fm) in
    let both : Some d ≡ Some b = subst (λ y. Some d ≡ y) h (sym fh ∙ ap cell_entry one) in
    let is_b : d ≡ b = cc in (here (subst (λ y. d ≡ y) first is_b), subst (λ y. is_end y ≡ false) (sym is_b) t))

behind_case : (l : List Entry) → Numbered l → (place n : ℕ) (newer older : List CellEntry) (c : CellEntry)
    → ((rest : List CellEntry) → since_end (cell_history l place n) ≡ rest ++ c ∷ older → Behind l place n rest c)
    → More cell_entry l place n → since_end (cell_history l place (suc n)) ≡ newer ++ c ∷ older → Behind l place (suc n) newer c
behind_case l numbered place n newer older c rest (same q none) is =
    wider l place n newer newer c (rest newer (subst (λ h. since_end h ≡ newer ++ c ∷ older) q is)) (λ d j. j)
    (λ f d j p m h. absurd (let a = none f j p m in let b = h in cc))
behind_case l numbered place n newer older c rest (added e b i p m h q) is =
    behind_added l numbered place n newer older c e b i p m h rest (is_end b) refl
    (subst (λ k. since_end k ≡ newer ++ c ∷ older) q is)

none_before : (newer older : List CellEntry) (c : CellEntry) → [] ≡ newer ++ c ∷ older → ⊥
none_before [] older c q = let k = q in cc
none_before (x ∷ newer) older c q = let k = q in cc

pub behind : (l : List Entry) → Numbered l → (place n : ℕ) (newer older : List CellEntry) (c : CellEntry)
    → since_end (cell_history l place n) ≡ newer ++ c ∷ older → Behind l place n newer c
behind l numbered place zero newer older c q = absurd (none_before newer older c q)
behind l numbered place (suc n) newer older c q =
    behind_case l numbered place n newer older c (λ rest. behind l numbered place n rest older c) (more cell_entry l numbered place n) q

-- The keys that came since.

-- the entry adds the leg
abbrev pub adds : Holder → CellEntry → Bool
adds leg e = list_any (same_leg leg) (legs_of e.event)

-- an entry that brought the key, and neither an End nor what adds the leg stands at a greater number
pub record Came (l : List Entry) (place n : ℕ) (leg : Holder) (key : NewKey) : Type 0 where
  pub entry : Entry
  pub is_in : In entry l
  pub at : entry.place ≡ place
  pub below : entry.number < n
  pub cell : CellEntry
  pub is : cell_entry entry ≡ Some cell
  pub no_end : is_end cell ≡ false
  pub has_key : In key (keys_of cell.event)
  pub none_later : (f : Entry) (d : CellEntry) → In f l → f.place ≡ place → entry.number < f.number → f.number < n
      → cell_entry f ≡ Some d → (is_end d ≡ false) × (adds leg d ≡ false)

came_before : (l : List Entry) (place n : ℕ) (leg : Holder) (key : NewKey) → (c : Came l place (suc n) leg key) → c.entry.number < n → Came l place n leg key
came_before l place n leg key c b = record {
  entry = c.entry;
  is_in = c.is_in;
  at = c.at;
  below = b;
  cell = c.cell;
  is = c.is;
  no_end = c.no_end;
  has_key = c.has_key;
  none_later = λ f d i p later before h. c.none_later f d i p later (let k = before in omega (arith, k)) h;
}

since_now : (b : CellEntry) (h : List CellEntry) (leg : Holder) (key : NewKey) → is_end b ≡ false → In key (keys_of b.event)
    → (t : Bool) → is_end b ≡ t → In key (keys_since (cond t [] (b ∷ since_end h)) leg)
since_now b h leg key alive i true t = absurd (let q = alive in cc)
since_now b h leg key alive i false t = in_left (keys_of b.event) (cond (adds leg b) [] (keys_since (since_end h) leg)) i

since_over : (b : CellEntry) (h : List CellEntry) (leg : Holder) (key : NewKey) → is_end b ≡ false → adds leg b ≡ false
    → In key (keys_since (since_end h) leg) → (t : Bool) → is_end b ≡ t → In key (keys_since (cond t [] (b ∷ since_end h)) leg)
since_over b h leg key alive stays i true t = absurd (let q = alive in cc)
since_over b h leg key alive stays i false t =
    in_right (keys_of b.event) (cond (adds leg b) [] (keys_since (since_end h) leg))
    (subst (λ (x : Bool). In key (cond x [] (keys_since (since_end h) leg))) (sym stays) i)

came_case : (l : List Entry) → Numbered l → (place n : ℕ) (leg : Holder) (key : NewKey) → (c : Came l place (suc n) leg key)
    → (Came l place n leg key → In key (keys_since (since_end (cell_history l place n)) leg))
    → (c.entry.number < n) ⊎ (c.entry.number ≡ n) → More cell_entry l place n → In key (keys_since (since_end (cell_history l place (suc n))) leg)
came_case l numbered place n leg key c rest (inl b) (same q none) =
    subst (λ h. In key (keys_since (since_end h) leg)) (sym q) (rest (came_before l place n leg key c b))
came_case l numbered place n leg key c rest (inr m) (same q none) = absurd (let a = none c.entry c.is_in c.at m in let b = c.is in cc)
came_case l numbered place n leg key c rest (inl b) (added e d i p m h q) =
    let later = c.none_later e d i p (let k = b in omega (arith, k, m)) (let k = m in omega (arith, k)) h in
    subst (λ k. In key (keys_since (since_end k) leg)) (sym q)
    (since_over d (cell_history l place n) leg key later.0 later.1 (rest (came_before l place n leg key c b)) (is_end d) refl)
came_case l numbered place n leg key c rest (inr k) (added e d i p m h q) =
    let one = same_at l numbered c.entry e c.is_in i (subst (λ y. c.entry.place ≡ y) (sym p) c.at) (subst (λ y. c.entry.number ≡ y) (sym m) k) in
    let both : Some c.cell ≡ Some d = subst (λ y. Some c.cell ≡ y) h (subst (λ y. Some c.cell ≡ cell_entry y) one (sym c.is)) in
    let is_d : c.cell ≡ d = cc in
    subst (λ x. In key (keys_since (since_end x) leg)) (sym q)
    (since_now d (cell_history l place n) leg key (subst (λ x. is_end x ≡ false) is_d c.no_end) (subst (λ (x : CellEntry). In key (keys_of x.event)) is_d c.has_key) (is_end d) refl)

pub came_since : (l : List Entry) → Numbered l → (place n : ℕ) (leg : Holder) (key : NewKey) → Came l place n leg key
    → In key (keys_since (since_end (cell_history l place n)) leg)
came_since l numbered place zero leg key c = absurd (let k = c.below in omega (arith, k))
came_since l numbered place (suc n) leg key c =
    came_case l numbered place n leg key c (came_since l numbered place n leg key) (lt_or_eq c.entry.number n c.below) (more cell_entry l numbered place n)

side_is : (a b : Side) → a ≡ b → side_eq a b ≡ true
side_is A A q = refl
side_is B B q = refl
side_is A B q = absurd (let k = q in cc)
side_is B A q = absurd (let k = q in cc)

-- so it is a key of the leg, where it came for the leg's section and side
pub came_for : (l : List Entry) → Numbered l → (place n : ℕ) (leg : Holder) (key : NewKey) → key.section ≡ leg.section → key.side ≡ leg.side
    → Came l place n leg key → In key (keys_for (since_end (cell_history l place n)) leg)
came_for l numbered place n leg key section side c =
    keeps (is_for_leg leg) (keys_since (since_end (cell_history l place n)) leg) (came_since l numbered place n leg key c)
    (and_true (Rattle.std.specs.Prelude.◌==◌ key.section leg.section) (side_eq key.side leg.side) (equal key.section leg.section section) (side_is key.side leg.side side))

-- The history of a place, entry by entry.
use Rattle.std.proofs.Common.{◌≡◌, ◌∙◌, sym, ap, subst, refl, ℕ, zero, suc, ◌<◌, ◌⊎◌, inl, inr, List, [], ◌∷◌, ◌++◌, Bool, true, false, cond, Option, Some, None, length, filter, ◌==◌, arith}
use Rattle.std.specs.Prelude.{◌&&◌}
use Rattle.std.specs.List.{filter_map, cons_option}
use Rattle.relay_outside.specs.declared.settings.Config.{Config}
use Rattle.histories.specs.Words.{In, here, there}
use Rattle.histories.proofs.Lists.{in_append, filtered, keeps, equal, equal_if, only}
use Rattle.call_cell.specs.Cells.{CellEntry, is_end, since_end}
use Rattle.call_board.specs.Fits.{FitsBoard, IsFitting}
use Rattle.relay_core.specs.Entries.{Entry, is_at, history, board_entry, cell_entry, board_history, cell_history}
use Rattle.relay_core.specs.Legal.{Orderly}

pub both : (a b : Bool) → (a && b) ≡ true → (a ≡ true) × (b ≡ true)
both true b h = (refl, h)
both false b h = absurd (let e = h in cc)

pub and_true : (a b : Bool) → a ≡ true → b ≡ true → (a && b) ≡ true
and_true true b h k = k
and_true false b h k = absurd (let e = h in cc)

-- where an entry stands
pub at_place : (place number : ℕ) (e : Entry) → is_at place number e ≡ true → (e.place ≡ place) × (e.number ≡ number)
at_place place number e h =
    let parts = both (e.place == place) (e.number == number) h in
    (equal_if e.place place parts.0, equal_if e.number number parts.1)

pub is_there : (place number : ℕ) (e : Entry) → e.place ≡ place → e.number ≡ number → is_at place number e ≡ true
is_there place number e p q =
    and_true (e.place == place) (e.number == number) (equal e.place place p) (equal e.number number q)

-- an entry of a history
pub record InHistory (e : Entry) (l : List Entry) (place n : ℕ) : Type 0 where
  pub is_in : In e l
  pub at : e.place ≡ place
  pub below : e.number < n

in_history_case : {e : Entry} (l : List Entry) (place n : ℕ) → (In e (history l place n) → InHistory e l place n)
    → In e (filter (is_at place n) l) ⊎ In e (history l place n) → InHistory e l place (suc n)
in_history_case {e} l place n rest (inl i) =
    let f = filtered (is_at place n) l i in
    let a = at_place place n e f.1 in
    record { is_in = f.0; at = a.0; below = let q = a.1 in omega (arith, q) }
in_history_case l place n rest (inr i) =
    let r = rest i in
    record { is_in = r.is_in; at = r.at; below = let q = r.below in omega (arith, q) }

pub in_history : {e : Entry} (l : List Entry) (place n : ℕ) → In e (history l place n) → InHistory e l place n
in_history l place zero i = elim i [ ]
in_history l place (suc n) i = in_history_case l place n (in_history l place n) (in_append (filter (is_at place n) l) (history l place n) i)

-- two entries of one place and number are one
pub IsNumbered : List Entry → Type 0
IsNumbered l = (e : Entry) → In e l → length (filter (is_at e.place e.number) l) ≡ 1

pub same_at : (l : List Entry) → ((e : Entry) → In e l → length (filter (is_at e.place e.number) l) ≡ 1)
    → (e f : Entry) → In e l → In f l → e.place ≡ f.place → e.number ≡ f.number → e ≡ f
same_at l numbered e f i j p q =
    only (filter (is_at e.place e.number) l) (numbered e i)
    (keeps (is_at e.place e.number) l i (is_there e.place e.number e refl refl))
    (keeps (is_at e.place e.number) l j (is_there e.place e.number f (sym p) (sym q)))

-- what stands at one number of a place: nothing, or one entry
pub data Step (l : List Entry) (place n : ℕ) : Type 0 where
  nothing : filter (is_at place n) l ≡ [] → Step l place n
  single : (e : Entry) → In e l → e.place ≡ place → e.number ≡ n → filter (is_at place n) l ≡ e ∷ [] → Step l place n

no_rest : (e : Entry) (es : List Entry) → length (e ∷ es) ≡ 1 → es ≡ []
no_rest e [] h = refl
no_rest e (f ∷ fs) h = absurd (let q = h in omega (arith, q))

step_of : (l : List Entry) → ((e : Entry) → In e l → length (filter (is_at e.place e.number) l) ≡ 1)
    → (place n : ℕ) → (xs : List Entry) → filter (is_at place n) l ≡ xs → Step l place n
step_of l numbered place n [] q = nothing q
step_of l numbered place n (e ∷ es) q =
    let f = filtered (is_at place n) l (subst (λ ys. In e ys) (sym q) (here refl)) in
    let a = at_place place n e f.1 in
    let one : length (filter (is_at place n) l) ≡ 1 = subst (λ p. length (filter (is_at p n) l) ≡ 1) a.0 (subst (λ m. length (filter (is_at e.place m) l) ≡ 1) a.1 (numbered e f.0)) in
    let rest : es ≡ [] = no_rest e es (ap length (sym q) ∙ one) in
    single e f.0 a.0 a.1 (q ∙ ap (λ ys. e ∷ ys) rest)

pub step : (l : List Entry) → ((e : Entry) → In e l → length (filter (is_at e.place e.number) l) ≡ 1) → (place n : ℕ) → Step l place n
step l numbered place n = step_of l numbered place n (filter (is_at place n) l) refl

-- what one number adds to the history of one kind of entry
pub data More {B : Type 0} (f : Entry → Option B) (l : List Entry) (place n : ℕ) : Type 0 where
  same : filter_map f (history l place (suc n)) ≡ filter_map f (history l place n)
      → ((e : Entry) → In e l → e.place ≡ place → e.number ≡ n → f e ≡ None) → More f l place n
  added : (e : Entry) (b : B) → In e l → e.place ≡ place → e.number ≡ n → f e ≡ Some b
      → filter_map f (history l place (suc n)) ≡ b ∷ filter_map f (history l place n) → More f l place n

more_of : {B : Type 0} (f : Entry → Option B) (l : List Entry) → ((e : Entry) → In e l → length (filter (is_at e.place e.number) l) ≡ 1)
    → (place n : ℕ) (e : Entry) → In e l → e.place ≡ place → e.number ≡ n
    → filter_map f (history l place (suc n)) ≡ cons_option (f e) (filter_map f (history l place n))
    → (o : Option B) → f e ≡ o → More f l place n
more_of f l numbered place n e i p m q None h =
    same (q ∙ ap (λ o. cons_option o (filter_map f (history l place n))) h)
    (λ g j gp gn. ap f (same_at l numbered g e j i (gp ∙ sym p) (gn ∙ sym m)) ∙ h)
more_of f l numbered place n e i p m q (Some b) h =
    added e b i p m h (q ∙ ap (λ o. cons_option o (filter_map f (history l place n))) h)

more_by : {B : Type 0} (f : Entry → Option B) (l : List Entry) → ((e : Entry) → In e l → length (filter (is_at e.place e.number) l) ≡ 1)
    → (place n : ℕ) → Step l place n → More f l place n
more_by f l numbered place n (nothing q) =
    same (ap (λ xs. filter_map f (xs ++ history l place n)) q)
    (λ e i p m. absurd (let k = subst (λ xs. In e xs) q (keeps (is_at place n) l i (is_there place n e p m)) in elim k [ ]))
more_by f l numbered place n (single e i p m q) =
    more_of f l numbered place n e i p m (ap (λ xs. filter_map f (xs ++ history l place n)) q) (f e) refl

pub more : {B : Type 0} (f : Entry → Option B) (l : List Entry) → ((e : Entry) → In e l → length (filter (is_at e.place e.number) l) ≡ 1)
    → (place n : ℕ) → More f l place n
more f l numbered place n = more_by f l numbered place n (step l numbered place n)

-- each entry of the board's history is one that it demands
good_case : (config : Config) (l : List Entry) → Orderly config l → (n : ℕ) → IsFitting config (board_history l n)
    → More board_entry l 0 n → IsFitting config (board_history l (suc n))
good_case config l o n rest (same q none) = subst (IsFitting config) (sym q) rest
good_case config l o n rest (added e b i p m h q) =
    let fits : FitsBoard config (board_history l n) b = subst (λ k. FitsBoard config (board_history l k) b) m (o.board_fits e b i h).1 in
    subst (IsFitting config) (sym q) (fits, rest)

pub good_history : (config : Config) (l : List Entry) → Orderly config l → (n : ℕ) → IsFitting config (board_history l n)
good_history config l o zero = tt
good_history config l o (suc n) = good_case config l o n (good_history config l o n) (more board_entry l o.numbered 0 n)

-- an entry of a cell since the last End before n
pub record Since (l : List Entry) (place n : ℕ) (c : CellEntry) : Type 0 where
  pub entry : Entry
  pub is_in : In entry l
  pub at : entry.place ≡ place
  pub below : entry.number < n
  pub is : cell_entry entry ≡ Some c
  pub no_end : is_end c ≡ false
  pub none_later : (f : Entry) (d : CellEntry) → In f l → f.place ≡ place → entry.number < f.number → f.number < n
      → cell_entry f ≡ Some d → is_end d ≡ false

since_more : (l : List Entry) (place n : ℕ) (c : CellEntry) → Since l place n c
    → ((f : Entry) (d : CellEntry) → In f l → f.place ≡ place → f.number ≡ n → cell_entry f ≡ Some d → is_end d ≡ false)
    → Since l place (suc n) c
since_more l place n c s at_n = record {
  entry = s.entry;
  is_in = s.is_in;
  at = s.at;
  below = let q = s.below in omega (arith, q);
  is = s.is;
  no_end = s.no_end;
  none_later = λ f d i p later before h. later_case f d i p later h (let b = before in lt_or_eq f.number n b);
}
  where
    lt_or_eq : (a b : ℕ) → a < suc b → (a < b) ⊎ (a ≡ b)
    lt_or_eq a b h = grind (arith, h)

    later_case : (f : Entry) (d : CellEntry) → In f l → f.place ≡ place → s.entry.number < f.number → cell_entry f ≡ Some d
        → (f.number < n) ⊎ (f.number ≡ n) → is_end d ≡ false
    later_case f d i p later h (inl b) = s.none_later f d i p later b h
    later_case f d i p later h (inr m) = at_n f d i p m h

since_added : (l : List Entry) → ((e : Entry) → In e l → length (filter (is_at e.place e.number) l) ≡ 1)
    → (place n : ℕ) (c : CellEntry) (e : Entry) (b : CellEntry) → In e l → e.place ≡ place → e.number ≡ n → cell_entry e ≡ Some b
    → (In c (since_end (cell_history l place n)) → Since l place n c)
    → (t : Bool) → is_end b ≡ t → In c (cond t [] (b ∷ since_end (cell_history l place n))) → Since l place (suc n) c
since_added l numbered place n c e b i p m h rest true t j = elim j [ ]
since_added l numbered place n c e b i p m h rest false t (here q) = record {
  entry = e;
  is_in = i;
  at = p;
  below = let k = m in omega (arith, k);
  is = h ∙ ap Some (sym q);
  no_end = ap is_end q ∙ t;
  none_later = λ f d j fp later before fh. absurd (let k = m in omega (arith, k, later, before));
}
since_added l numbered place n c e b i p m h rest false t (there j) =
    since_more l place n c (rest j)
    (λ f d k fp fm fh. let one = same_at l numbered f e k i (fp ∙ sym p) (fm ∙ sym m) in
    let o : Some d ≡ Some b = sym fh ∙ ap cell_entry one ∙ h in
    let same_d : d ≡ b = cc in ap is_end same_d ∙ t)

since_case : (l : List Entry) → ((e : Entry) → In e l → length (filter (is_at e.place e.number) l) ≡ 1)
    → (place n : ℕ) (c : CellEntry) → (In c (since_end (cell_history l place n)) → Since l place n c)
    → More cell_entry l place n → In c (since_end (cell_history l place (suc n))) → Since l place (suc n) c
since_case l numbered place n c rest (same q none) i =
    since_more l place n c (rest (subst (λ h. In c (since_end h)) q i))
    (λ f d j p m h. absurd (let a = none f j p m in let b = h in cc))
since_case l numbered place n c rest (added e b j p m h q) i =
    since_added l numbered place n c e b j p m h rest (is_end b) refl (subst (λ h. In c (since_end h)) q i)

-- an entry since the last End stands in the list, and no End has a number between
pub since_entry : (l : List Entry) → ((e : Entry) → In e l → length (filter (is_at e.place e.number) l) ≡ 1)
    → (place n : ℕ) (c : CellEntry) → In c (since_end (cell_history l place n)) → Since l place n c
since_entry l numbered place zero c i = elim i [ ]
since_entry l numbered place (suc n) c i =
    since_case l numbered place n c (since_entry l numbered place n c) (more cell_entry l numbered place n) i

-- the other way round
entry_cons : (c b : CellEntry) (h : List CellEntry) → is_end b ≡ false → In c (since_end h) → (t : Bool) → is_end b ≡ t → In c (cond t [] (b ∷ since_end h))
entry_cons c b h alive i true t = absurd (let q = alive in cc)
entry_cons c b h alive i false t = there i

entry_here : (c b : CellEntry) (h : List CellEntry) → c ≡ b → is_end c ≡ false → (t : Bool) → is_end b ≡ t → In c (cond t [] (b ∷ since_end h))
entry_here c b h q alive true t = absurd (let k = ap is_end q in cc)
entry_here c b h q alive false t = here q

entry_case : (l : List Entry) → ((e : Entry) → In e l → length (filter (is_at e.place e.number) l) ≡ 1)
    → (place n : ℕ) (c : CellEntry) → (s : Since l place (suc n) c)
    → (Since l place n c → In c (since_end (cell_history l place n)))
    → (s.entry.number < n) ⊎ (s.entry.number ≡ n) → More cell_entry l place n → In c (since_end (cell_history l place (suc n)))
entry_case l numbered place n c s rest (inl b) (same q none) =
    subst (λ h. In c (since_end h)) (sym q) (rest (earlier l place n c s b))
  where
    earlier : (l : List Entry) (place n : ℕ) (c : CellEntry) (s : Since l place (suc n) c) → s.entry.number < n → Since l place n c
    earlier l place n c s b = record {
      entry = s.entry;
      is_in = s.is_in;
      at = s.at;
      below = b;
      is = s.is;
      no_end = s.no_end;
      none_later = λ f d i p later before h. s.none_later f d i p later (let k = before in omega (arith, k)) h;
    }
entry_case l numbered place n c s rest (inr m) (same q none) =
    absurd (let a = none s.entry s.is_in s.at m in let b = s.is in cc)
entry_case l numbered place n c s rest (inl b) (added e d i p m h q) =
    subst (λ h. In c (since_end h)) (sym q)
    (entry_cons c d (cell_history l place n) (s.none_later e d i p (let k = b in omega (arith, k, m)) (let k = m in omega (arith, k)) h)
    (rest (record {
      entry = s.entry;
      is_in = s.is_in;
      at = s.at;
      below = b;
      is = s.is;
      no_end = s.no_end;
      none_later = λ f x j fp later before fh. s.none_later f x j fp later (let k = before in omega (arith, k)) fh;
    })) (is_end d) refl)
entry_case l numbered place n c s rest (inr k) (added e d i p m h q) =
    let one = same_at l numbered s.entry e s.is_in i (s.at ∙ sym p) (k ∙ sym m) in
    let o : Some c ≡ Some d = sym s.is ∙ ap cell_entry one ∙ h in
    let same_c : c ≡ d = cc in
    subst (λ h. In c (since_end h)) (sym q) (entry_here c d (cell_history l place n) same_c s.no_end (is_end d) refl)

pub entry_since : (l : List Entry) → ((e : Entry) → In e l → length (filter (is_at e.place e.number) l) ≡ 1)
    → (place n : ℕ) (c : CellEntry) → Since l place n c → In c (since_end (cell_history l place n))
entry_since l numbered place zero c s = absurd (let k = s.below in omega (arith, k))
entry_since l numbered place (suc n) c s =
    entry_case l numbered place n c s (entry_since l numbered place n c) (lt_or_eq s.entry.number n s.below) (more cell_entry l numbered place n)
  where
    lt_or_eq : (a b : ℕ) → a < suc b → (a < b) ⊎ (a ≡ b)
    lt_or_eq a b h = grind (arith, h)

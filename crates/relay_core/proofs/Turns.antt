-- What keeps a list orderly: a turn of the board with its nested entries, and the steps of lanes.
use Rattle.std.proofs.Common.{◌≡◌, ◌∙◌, sym, ap, subst, refl, ℕ, zero, suc, ◌<◌, ◌≤◌, ◌⊎◌, inl, inr, List, [], ◌∷◌, ◌++◌, Bool, true, false, cond, Option, Some, None, map, length, filter, ◌==◌, length-append, arith}
use Rattle.std.specs.List.{filter_map, cons_option}
use Rattle.relay_outside.specs.declared.settings.Config.{Config}
use Rattle.histories.specs.Words.{In, here, there, Before, begins, goes_on}
use Rattle.histories.proofs.Lists.{maps, in_append, in_left, in_right, filtered, equal, equal_if}
use Rattle.port_pool.specs.Boxes.{Open, Take, Close}
use Rattle.call_cell.specs.Cells.{Prepare, Commit, Relay, Expire, Read, End}
use Rattle.call_board.specs.Acts.{BoardEntry}
use Rattle.call_board.specs.Fits.{FitsBoard}
use Rattle.relay_core.specs.Entries.{Event, Board, Cell, Box, Entry, is_nested, is_at, belongs_to, history, board_at, board_entry, board_history}
use Rattle.relay_core.specs.Scripts.{owed_by, script}
use Rattle.relay_core.specs.Legal.{Orderly}
pub use Rattle.relay_core.specs.Turns.{Numbered, IsAbove, IsTurn, with_turn, IsOfLane}
use Rattle.relay_core.proofs.Elsewhere.{IsElsewhere, owed_elsewhere}
use Rattle.relay_core.proofs.Histories.{good_history, both, and_true, at_place, is_there}

-- Lists.

filter_cons : {A : Type 0} (p : A → Bool) (x : A) (xs ys : List A) → filter p (xs ++ ys) ≡ filter p xs ++ filter p ys → (t : Bool) → p x ≡ t
    → cond t (x ∷ filter p (xs ++ ys)) (filter p (xs ++ ys)) ≡ cond t (x ∷ filter p xs) (filter p xs) ++ filter p ys
filter_cons p x xs ys rest true t = ap (λ zs. x ∷ zs) rest
filter_cons p x xs ys rest false t = rest

pub filter_append : {A : Type 0} (p : A → Bool) (xs ys : List A) → filter p (xs ++ ys) ≡ filter p xs ++ filter p ys
filter_append p [] ys = refl
filter_append p (x ∷ xs) ys = filter_cons p x xs ys (filter_append p xs ys) (p x) refl

none_cons : {A : Type 0} (p : A → Bool) (x : A) (xs : List A) → filter p xs ≡ [] → p x ≡ false → (t : Bool) → p x ≡ t → cond t (x ∷ filter p xs) (filter p xs) ≡ []
none_cons p x xs rest fails true t = absurd (let k = fails in cc)
none_cons p x xs rest fails false t = rest

pub filter_none : {A : Type 0} (p : A → Bool) (xs : List A) → ((x : A) → In x xs → p x ≡ false) → filter p xs ≡ []
filter_none p [] fails = refl
filter_none p (x ∷ xs) fails = none_cons p x xs (filter_none p xs (λ y i. fails y (there i))) (fails x (here refl)) (p x) refl

all_cons : {A : Type 0} (p : A → Bool) (x : A) (xs : List A) → filter p xs ≡ xs → p x ≡ true → (t : Bool) → p x ≡ t → cond t (x ∷ filter p xs) (filter p xs) ≡ x ∷ xs
all_cons p x xs rest passes true t = ap (λ zs. x ∷ zs) rest
all_cons p x xs rest passes false t = absurd (let k = passes in cc)

pub filter_every : {A : Type 0} (p : A → Bool) (xs : List A) → ((x : A) → In x xs → p x ≡ true) → filter p xs ≡ xs
filter_every p [] passes = refl
filter_every p (x ∷ xs) passes = all_cons p x xs (filter_every p xs (λ y i. passes y (there i))) (passes x (here refl)) (p x) refl

pub before_left : {A : Type 0} {x y : A} (xs ys : List A) → Before x y xs → Before x y (xs ++ ys)
before_left [] ys b = elim b [ ]
before_left (z ∷ xs) ys (begins q i) = begins q (in_left xs ys i)
before_left (z ∷ xs) ys (goes_on b) = goes_on (before_left xs ys b)

pub before_right : {A : Type 0} {x y : A} (xs ys : List A) → Before x y ys → Before x y (xs ++ ys)
before_right [] ys b = b
before_right (z ∷ xs) ys b = goes_on (before_right xs ys b)

before_across : {A : Type 0} {x y : A} (xs ys : List A) → In x xs → In y ys → Before x y (xs ++ ys)
before_across [] ys i j = elim i [ ]
before_across (z ∷ xs) ys (here q) j = begins q (in_right xs ys j)
before_across (z ∷ xs) ys (there i) j = goes_on (before_across xs ys i j)

-- What the clauses of an orderly list need of an append.

pub false_if : (t : Bool) → (t ≡ true → ⊥) → t ≡ false
false_if false fails = refl
false_if true fails = absurd (fails refl)

-- nothing of the list stands there
none_there : (l : List Entry) (place number : ℕ) → ((e : Entry) → In e l → e.place ≡ place → e.number ≡ number → ⊥) → filter (is_at place number) l ≡ []
none_there l place number fails =
    filter_none (is_at place number) l
    (λ e i. false_if (is_at place number e) (λ t. let a = at_place place number e t in fails e i a.0 a.1))

-- Two numbered lists of which the second is above the first, place by place, make a numbered one.
numbered_case : (l ns : List Entry) → Numbered l → Numbered ns → ((e : Entry) → In e ns → IsAbove l e.place e.number)
    → (e : Entry) → In e l ⊎ In e ns → length (filter (is_at e.place e.number) (l ++ ns)) ≡ 1
numbered_case l ns first second above e (inl i) =
    let none : filter (is_at e.place e.number) ns ≡ [] = none_there ns e.place e.number
    (λ f j p m. let k : e.number < f.number = above f j e i (sym p) in omega (arith, k, m)) in
    let split : filter (is_at e.place e.number) (l ++ ns) ≡ filter (is_at e.place e.number) l ++ [] =
    filter_append (is_at e.place e.number) l ns ∙ ap (λ xs. filter (is_at e.place e.number) l ++ xs) none in
    ap length split ∙ length-append (filter (is_at e.place e.number) l) [] ∙ (let k = first e i in omega (arith, k))
numbered_case l ns first second above e (inr j) =
    let none : filter (is_at e.place e.number) l ≡ [] = none_there l e.place e.number
    (λ f i p m. let k : f.number < e.number = above e j f i p in omega (arith, k, m)) in
    let split : filter (is_at e.place e.number) (l ++ ns) ≡ filter (is_at e.place e.number) ns =
    filter_append (is_at e.place e.number) l ns ∙ ap (λ xs. xs ++ filter (is_at e.place e.number) ns) none in
    ap length split ∙ second e j

pub numbered_append : (l ns : List Entry) → Numbered l → Numbered ns → ((e : Entry) → In e ns → IsAbove l e.place e.number) → Numbered (l ++ ns)
numbered_append l ns first second above e i = numbered_case l ns first second above e (in_append l ns i)

pub numbered_single : (e : Entry) → Numbered (e ∷ [])
numbered_single e f (here q) =
    ap length (filter_every (is_at f.place f.number) (e ∷ []) (λ g i. only_one g i))
  where
    only_one : (g : Entry) → In g (e ∷ []) → is_at f.place f.number g ≡ true
    only_one g (here p) = is_there f.place f.number g (ap (λ (x : Entry). x.place) (p ∙ sym q)) (ap (λ (x : Entry). x.number) (p ∙ sym q))
    only_one g (there i) = elim i [ ]
numbered_single e f (there i) = elim i [ ]

-- The history of the board in a longer list.

picks_append : {A B : Type 0} (f : A → Option B) (xs ys : List A) → filter_map f (xs ++ ys) ≡ filter_map f xs ++ filter_map f ys
picks_append f [] ys = refl
picks_append f (x ∷ xs) ys = ap (λ zs. cons_option (f x) zs) (picks_append f xs ys) ∙ cons_append (f x) (filter_map f xs) (filter_map f ys)
  where
    cons_append : {C : Type 0} (o : Option C) (bs cs : List C) → cons_option o (bs ++ cs) ≡ cons_option o bs ++ cs
    cons_append None bs cs = refl
    cons_append (Some b) bs cs = refl

picks_none : {A B : Type 0} (f : A → Option B) (xs : List A) → ((x : A) → In x xs → f x ≡ None) → filter_map f xs ≡ []
picks_none f [] fails = refl
picks_none f (x ∷ xs) fails =
    ap (λ o. cons_option o (filter_map f xs)) (fails x (here refl)) ∙ picks_none f xs (λ y i. fails y (there i))

pub nothing_more : {A : Type 0} (xs : List A) → xs ++ [] ≡ xs
nothing_more [] = refl
nothing_more (x ∷ xs) = ap (λ zs. x ∷ zs) (nothing_more xs)

-- the board's history below a number is the same, where none of the added entries is one of the board below it
same_number : (l ns : List Entry) (n : ℕ) → ((e : Entry) → In e ns → e.place ≡ 0 → e.number ≡ n → board_entry e ≡ None)
    → filter_map board_entry (filter (is_at 0 n) (l ++ ns)) ≡ filter_map board_entry (filter (is_at 0 n) l)
same_number l ns n fails =
    ap (filter_map board_entry) (filter_append (is_at 0 n) l ns)
    ∙ picks_append board_entry (filter (is_at 0 n) l) (filter (is_at 0 n) ns)
    ∙ ap (λ xs. filter_map board_entry (filter (is_at 0 n) l) ++ xs)
    (picks_none board_entry (filter (is_at 0 n) ns)
    (λ e i. let f = filtered (is_at 0 n) ns i in let a = at_place 0 n e f.1 in fails e f.0 a.0 a.1))
    ∙ nothing_more (filter_map board_entry (filter (is_at 0 n) l))

pub same_board : (l ns : List Entry) (n : ℕ) → ((e : Entry) → In e ns → e.place ≡ 0 → e.number < n → board_entry e ≡ None)
    → board_history (l ++ ns) n ≡ board_history l n
same_board l ns zero fails = refl
same_board l ns (suc n) fails =
    picks_append board_entry (filter (is_at 0 n) (l ++ ns)) (history (l ++ ns) 0 n)
    ∙ ap (λ xs. xs ++ board_history (l ++ ns) n) (same_number l ns n (λ e i p m. fails e i p (let k = m in omega (arith, k))))
    ∙ ap (λ xs. filter_map board_entry (filter (is_at 0 n) l) ++ xs)
    (same_board l ns n (λ e i p m. fails e i p (let k = m in omega (arith, k))))
    ∙ sym (picks_append board_entry (filter (is_at 0 n) l) (history l 0 n))

nested_no_board : (moment : ℕ) (v : Event) → is_nested v ≡ true → board_at moment v ≡ None
nested_no_board moment (Board b) h = absurd (let k = h in cc)
nested_no_board moment (Cell c) h = refl
nested_no_board moment (Box b) h = refl

board_not_nested : (moment : ℕ) (v : Event) (x : BoardEntry) → board_at moment v ≡ Some x → is_nested v ≡ false
board_not_nested moment (Board b) x h = refl
board_not_nested moment (Cell c) x h = absurd (let k = h in cc)
board_not_nested moment (Box b) x h = absurd (let k = h in cc)

-- A turn.

pub nothing_is_orderly : (config : Config) → Orderly config []
nothing_is_orderly config = record {
  numbered = λ e i. elim i [ ];
  board_fits = λ b e i h. elim i [ ];
  scripted = λ b e i p h. elim i [ ];
  nested = λ e i t. elim i [ ];
  ordered = λ e f i j a b p k. elim i [ ];
}

-- so they are nested, and none is at the board's place
pub turn_elsewhere : (config : Config) (l ns : List Entry) (b : Entry) → Orderly config l → IsTurn config l ns b → (e : Entry) → In e ns
    → IsElsewhere config (owed_by e)
turn_elsewhere config l ns b o t e i =
    owed_elsewhere config (board_history l b.number) t.entry (owed_by e) (good_history config l o b.number) t.fits
    (subst (λ ws. In (owed_by e) ws) t.owes (maps owed_by ns i))

pub data Part (l ns : List Entry) (b e : Entry) : Type 0 where
  old : In e l → Part l ns b e
  new : In e ns → Part l ns b e
  last : e ≡ b → Part l ns b e

pub part_of : (l ns : List Entry) (b e : Entry) → In e (with_turn l ns b) → Part l ns b e
part_of l ns b e i = outer (in_append (l ++ ns) (b ∷ []) i)
  where
    inner : In e l ⊎ In e ns → Part l ns b e
    inner (inl j) = old j
    inner (inr j) = new j

    outer : In e (l ++ ns) ⊎ In e (b ∷ []) → Part l ns b e
    outer (inl j) = inner (in_append l ns j)
    outer (inr (here q)) = last q
    outer (inr (there j)) = elim j [ ]

turn_numbered : (config : Config) (l ns : List Entry) (b : Entry) → Orderly config l → IsTurn config l ns b → Numbered (with_turn l ns b)
turn_numbered config l ns b o t =
    numbered_append (l ++ ns) (b ∷ []) (numbered_append l ns o.numbered t.once t.above) (numbered_single b) last_above
  where
    above_case : (e f : Entry) → e ≡ b → f.place ≡ e.place → In f l ⊎ In f ns → f.number < e.number
    above_case e f q p (inl i) =
        subst (λ (x : Entry). f.number < x.number) (sym q) (t.at_front f i (p ∙ ap (λ (x : Entry). x.place) q ∙ t.at_board))
    above_case e f q p (inr i) = absurd ((turn_elsewhere config l ns b o t f i).1 (p ∙ ap (λ (x : Entry). x.place) q ∙ t.at_board))

    last_above : (e : Entry) → In e (b ∷ []) → IsAbove (l ++ ns) e.place e.number
    last_above e (here q) f i p = above_case e f q p (in_append l ns i)
    last_above e (there j) f i p = elim j [ ]

-- up to the turn the board's history is as before
pub turn_history : (config : Config) (l ns : List Entry) (b : Entry) → Orderly config l → IsTurn config l ns b → (n : ℕ) → n ≤ b.number
    → board_history (with_turn l ns b) n ≡ board_history l n
turn_history config l ns b o t n k =
    same_board (l ++ ns) (b ∷ []) n last_later ∙ same_board l ns n (λ e i p m. nested_no_board e.moment e.event (turn_elsewhere config l ns b o t e i).0)
  where
    last_later : (e : Entry) → In e (b ∷ []) → e.place ≡ 0 → e.number < n → board_entry e ≡ None
    last_later e (here q) p m = absurd (let x = ap (λ (y : Entry). y.number) q in omega (arith, x, m, k))
    last_later e (there j) p m = elim j [ ]

turn_fits : (config : Config) (l ns : List Entry) (b : Entry) → Orderly config l → IsTurn config l ns b → (f : Entry) (x : BoardEntry)
    → board_entry f ≡ Some x → Part l ns b f → (f.place ≡ 0) × FitsBoard config (board_history (with_turn l ns b) f.number) x
turn_fits config l ns b o t f x h (old i) =
    let fits = o.board_fits f x i h in
    (fits.0, subst (λ s. FitsBoard config s x) (sym (turn_history config l ns b o t f.number (let k : f.number < b.number = t.at_front f i fits.0 in omega (arith, k)))) fits.1)
turn_fits config l ns b o t f x h (new i) = absurd (let k = nested_no_board f.moment f.event (turn_elsewhere config l ns b o t f i).0 in let z = h in cc)
turn_fits config l ns b o t f x h (last q) =
    let is : Some x ≡ Some t.entry = sym h ∙ ap board_entry q ∙ t.is in
    let one : x ≡ t.entry = cc in (
      ap (λ (y : Entry). y.place) q ∙ t.at_board,
      subst (λ (y : Entry). FitsBoard config (board_history (with_turn l ns b) y.number) x) (sym q)
          (subst (λ y. FitsBoard config (board_history (with_turn l ns b) b.number) y) (sym one)
          (subst (λ s. FitsBoard config s t.entry) (sym (turn_history config l ns b o t b.number (omega arith))) t.fits)),
    )

not_of : (n : ℕ) (e : Entry) → (is_nested e.event ≡ true → e.board ≡ n → ⊥) → belongs_to n e ≡ false
not_of n e fails = false_if (belongs_to n e) (λ t. let c = both (is_nested e.event) (e.board == n) t in fails c.0 (equal_if e.board n c.1))

-- the nested entries of a board entry, by the parts of the list
turn_nested : (config : Config) (l ns : List Entry) (b : Entry) → IsTurn config l ns b → (n : ℕ)
    → filter (belongs_to n) (with_turn l ns b) ≡ filter (belongs_to n) l ++ filter (belongs_to n) ns
turn_nested config l ns b t n =
    filter_append (belongs_to n) (l ++ ns) (b ∷ [])
    ∙ ap (λ xs. filter (belongs_to n) (l ++ ns) ++ xs) (filter_none (belongs_to n) (b ∷ []) last_fails)
    ∙ nothing_more (filter (belongs_to n) (l ++ ns))
    ∙ filter_append (belongs_to n) l ns
  where
    last_fails : (e : Entry) → In e (b ∷ []) → belongs_to n e ≡ false
    last_fails e (here q) = not_of n e (λ nested of_n. absurd (let k = board_not_nested b.moment b.event t.entry t.is in let z = ap (λ (y : Entry). is_nested y.event) q in let w = nested in cc))
    last_fails e (there j) = elim j [ ]

-- a nested entry of the list before belongs to an earlier entry of the board
board_below : (config : Config) (l ns : List Entry) (b : Entry) → Orderly config l → IsTurn config l ns b → (e : Entry) → In e l
    → is_nested e.event ≡ true → e.board < b.number
board_below config l ns b o t e i nested =
    let x = o.nested e i nested in
    let k : x.0.number < b.number = t.at_front x.0 x.1 x.2 in
    let q = x.3 in
    omega (arith, k, q)

turn_scripted : (config : Config) (l ns : List Entry) (b : Entry) → Orderly config l → IsTurn config l ns b → (f : Entry) (x : BoardEntry)
    → f.place ≡ 0 → board_entry f ≡ Some x → Part l ns b f
    → map owed_by (filter (belongs_to f.number) (with_turn l ns b)) ≡ script config (board_history (with_turn l ns b) f.number) x
turn_scripted config l ns b o t f x p h (old i) =
    let k : f.number < b.number = t.at_front f i p in
    let none : filter (belongs_to f.number) ns ≡ [] = filter_none (belongs_to f.number) ns
    (λ e j. not_of f.number e (λ nested of_f. let q = t.of_board e j in omega (arith, q, of_f, k))) in
    ap (map owed_by)
    (turn_nested config l ns b t f.number ∙ ap (λ xs. filter (belongs_to f.number) l ++ xs) none ∙ nothing_more (filter (belongs_to f.number) l))
    ∙ o.scripted f x i p h
    ∙ ap (λ s. script config s x) (sym (turn_history config l ns b o t f.number (omega (arith, k))))
turn_scripted config l ns b o t f x p h (new i) = absurd (let k = nested_no_board f.moment f.event (turn_elsewhere config l ns b o t f i).0 in let z = h in cc)
turn_scripted config l ns b o t f x p h (last q) =
    let is : Some x ≡ Some t.entry = sym h ∙ ap board_entry q ∙ t.is in
    let one : x ≡ t.entry = cc in
    let none : filter (belongs_to b.number) l ≡ [] = filter_none (belongs_to b.number) l
    (λ e i. not_of b.number e (λ nested of_b. let k = board_below config l ns b o t e i nested in omega (arith, k, of_b))) in
    let every : filter (belongs_to b.number) ns ≡ ns = filter_every (belongs_to b.number) ns
    (λ e i. and_true (is_nested e.event) (e.board == b.number) (turn_elsewhere config l ns b o t e i).0 (equal e.board b.number (t.of_board e i))) in
    let of_b : map owed_by (filter (belongs_to b.number) (with_turn l ns b)) ≡ script config (board_history (with_turn l ns b) b.number) t.entry =
    ap (map owed_by) (turn_nested config l ns b t b.number ∙ ap (λ xs. xs ++ filter (belongs_to b.number) ns) none ∙ every)
    ∙ t.owes
    ∙ ap (λ s. script config s t.entry) (sym (turn_history config l ns b o t b.number (omega arith))) in
    subst (λ (y : Entry). map owed_by (filter (belongs_to y.number) (with_turn l ns b)) ≡ script config (board_history (with_turn l ns b) y.number) x) (sym q)
    (subst (λ y. map owed_by (filter (belongs_to b.number) (with_turn l ns b)) ≡ script config (board_history (with_turn l ns b) b.number) y) (sym one) of_b)

-- the board's entry to which a nested one belongs
abbrev pub BoardOf : List Entry → Entry → Type 0
BoardOf l e = (b : Entry) × In b l × (b.place ≡ 0) × (b.number ≡ e.board) × ((x : BoardEntry) × (board_entry b ≡ Some x))

turn_board : (config : Config) (l ns : List Entry) (b : Entry) → Orderly config l → IsTurn config l ns b → (e : Entry)
    → is_nested e.event ≡ true → Part l ns b e → BoardOf (with_turn l ns b) e
turn_board config l ns b o t e nested (old i) =
    let x = o.nested e i nested in
    (x.0, in_left (l ++ ns) (b ∷ []) (in_left l ns x.1), x.2, x.3, x.4)
turn_board config l ns b o t e nested (new i) =
    (b, in_right (l ++ ns) (b ∷ []) (here refl), t.at_board, sym (t.of_board e i), (t.entry, t.is))
turn_board config l ns b o t e nested (last q) =
    absurd (let k = board_not_nested b.moment b.event t.entry t.is in let z = ap (λ (y : Entry). is_nested y.event) q in let w = nested in cc)

-- the nested entries of one place stand in the order of the board's entries
abbrev pub InOrder : List Entry → Entry → Entry → Type 0
InOrder l e f = (e.board < f.board) ⊎ ((e.board ≡ f.board) × Before e f l)

longer_order : (l k : List Entry) (e f : Entry) → InOrder l e f → (Before e f l → Before e f k) → InOrder k e f
longer_order l k e f (inl q) g = inl q
longer_order l k e f (inr q) g = inr (q.0, g q.1)

turn_order : (config : Config) (l ns : List Entry) (b : Entry) → Orderly config l → IsTurn config l ns b → (e f : Entry)
    → is_nested e.event ≡ true → is_nested f.event ≡ true → e.place ≡ f.place → e.number < f.number
    → Part l ns b e → Part l ns b f → InOrder (with_turn l ns b) e f
turn_order config l ns b o t e f x y p k (old i) (old j) =
    longer_order l (with_turn l ns b) e f (o.ordered e f i j x y p k) (λ s. before_left (l ++ ns) (b ∷ []) (before_left l ns s))
turn_order config l ns b o t e f x y p k (old i) (new j) =
    inl (let q = board_below config l ns b o t e i x in let r = t.of_board f j in omega (arith, q, r))
turn_order config l ns b o t e f x y p k (new i) (old j) =
    absurd (let q : f.number < e.number = t.above e i f j (sym p) in omega (arith, q, k))
turn_order config l ns b o t e f x y p k (new i) (new j) =
    inr (t.of_board e i ∙ sym (t.of_board f j), before_left (l ++ ns) (b ∷ []) (before_right l ns (t.in_order e f i j p k)))
turn_order config l ns b o t e f x y p k (last q) s =
    absurd (let w = board_not_nested b.moment b.event t.entry t.is in let z = ap (λ (u : Entry). is_nested u.event) q in let v = x in cc)
turn_order config l ns b o t e f x y p k s (last q) =
    absurd (let w = board_not_nested b.moment b.event t.entry t.is in let z = ap (λ (u : Entry). is_nested u.event) q in let v = y in cc)

-- a turn of the board keeps the list orderly
pub turn_keeps : (config : Config) (l ns : List Entry) (b : Entry) → Orderly config l → IsTurn config l ns b → Orderly config (with_turn l ns b)
turn_keeps config l ns b o t = record {
  numbered = turn_numbered config l ns b o t;
  board_fits = λ f x i h. turn_fits config l ns b o t f x h (part_of l ns b f i);
  scripted = λ f x i p h. turn_scripted config l ns b o t f x p h (part_of l ns b f i);
  nested = λ e i nested. turn_board config l ns b o t e nested (part_of l ns b e i);
  ordered = λ e f i j x y p k. turn_order config l ns b o t e f x y p k (part_of l ns b e i) (part_of l ns b f j);
}

-- The steps of lanes.

lane_not_nested : (v : Event) → IsOfLane v → is_nested v ≡ false
lane_not_nested (Board b) h = absurd h
lane_not_nested (Cell (Prepare call legs keys dropped)) h = absurd h
lane_not_nested (Cell (Commit signal)) h = absurd h
lane_not_nested (Cell (Relay r)) h = refl
lane_not_nested (Cell (Expire due)) h = absurd h
lane_not_nested (Cell (Read log)) h = absurd h
lane_not_nested (Cell End) h = absurd h
lane_not_nested (Box (Open leg)) h = absurd h
lane_not_nested (Box (Take half taken)) h = refl
lane_not_nested (Box Close) h = absurd h

lane_no_board : (moment : ℕ) (v : Event) → IsOfLane v → board_at moment v ≡ None
lane_no_board moment (Board b) h = absurd h
lane_no_board moment (Cell c) h = refl
lane_no_board moment (Box b) h = refl

lanes_board : (l ls : List Entry) → ((e : Entry) → In e ls → IsOfLane e.event) → (n : ℕ) → board_history (l ++ ls) n ≡ board_history l n
lanes_board l ls lanes n = same_board l ls n (λ e i p k. lane_no_board e.moment e.event (lanes e i))

lanes_nested : (l ls : List Entry) → ((e : Entry) → In e ls → IsOfLane e.event) → (n : ℕ)
    → filter (belongs_to n) (l ++ ls) ≡ filter (belongs_to n) l
lanes_nested l ls lanes n =
    filter_append (belongs_to n) l ls
    ∙ ap (λ xs. filter (belongs_to n) l ++ xs)
    (filter_none (belongs_to n) ls (λ e i. not_of n e (λ nested of_n. absurd (let k = lane_not_nested e.event (lanes e i) in let w = nested in cc))))
    ∙ nothing_more (filter (belongs_to n) l)

board_old : (l ls : List Entry) → ((e : Entry) → In e ls → IsOfLane e.event) → (f : Entry) (x : BoardEntry) → board_entry f ≡ Some x
    → In f l ⊎ In f ls → In f l
board_old l ls lanes f x h (inl i) = i
board_old l ls lanes f x h (inr i) = absurd (let k = lane_no_board f.moment f.event (lanes f i) in let w = h in cc)

nested_old : (l ls : List Entry) → ((e : Entry) → In e ls → IsOfLane e.event) → (e : Entry) → is_nested e.event ≡ true
    → In e l ⊎ In e ls → In e l
nested_old l ls lanes e t (inl i) = i
nested_old l ls lanes e t (inr i) = absurd (let k = lane_not_nested e.event (lanes e i) in let w = t in cc)

lanes_fit : (config : Config) (l ls : List Entry) → Orderly config l → ((e : Entry) → In e ls → IsOfLane e.event)
    → (f : Entry) (x : BoardEntry) → board_entry f ≡ Some x → In f l → (f.place ≡ 0) × FitsBoard config (board_history (l ++ ls) f.number) x
lanes_fit config l ls o lanes f x h i =
    let fits = o.board_fits f x i h in
    (fits.0, subst (λ s. FitsBoard config s x) (sym (lanes_board l ls lanes f.number)) fits.1)

-- steps of lanes keep a list orderly, where each entry still has its place and number alone
pub lanes_keep : (config : Config) (l ls : List Entry) → Orderly config l → ((e : Entry) → In e ls → IsOfLane e.event) → Numbered (l ++ ls)
    → Orderly config (l ++ ls)
lanes_keep config l ls o lanes numbered = record {
  numbered = numbered;
  board_fits = λ f x i h. lanes_fit config l ls o lanes f x h (board_old l ls lanes f x h (in_append l ls i));
  scripted = λ f x i p h. ap (map owed_by) (lanes_nested l ls lanes f.number)
      ∙ o.scripted f x (board_old l ls lanes f x h (in_append l ls i)) p h
      ∙ ap (λ s. script config s x) (sym (lanes_board l ls lanes f.number));
  nested = λ e i t. (let b = o.nested e (nested_old l ls lanes e t (in_append l ls i)) t in (b.0, in_left l ls b.1, b.2, b.3, b.4));
  ordered = λ e f i j x y p k. longer_order l (l ++ ls) e f
      (o.ordered e f (nested_old l ls lanes e x (in_append l ls i)) (nested_old l ls lanes f y (in_append l ls j)) x y p k)
      (λ s. before_left l ls s);
}

-- a take or a relay above all that its place has
pub lane_keeps : (config : Config) (l : List Entry) (e : Entry) → Orderly config l → IsOfLane e.event → IsAbove l e.place e.number
    → Orderly config (l ++ e ∷ [])
lane_keeps config l e o lane above =
    lanes_keep config l (e ∷ []) o all_lane (numbered_append l (e ∷ []) o.numbered (numbered_single e) all_above)
  where
    all_lane : (f : Entry) → In f (e ∷ []) → IsOfLane f.event
    all_lane f (here q) = subst (λ (x : Entry). IsOfLane x.event) (sym q) lane
    all_lane f (there i) = elim i [ ]

    all_above : (f : Entry) → In f (e ∷ []) → IsAbove l f.place f.number
    all_above f (here q) = subst (λ (x : Entry). IsAbove l x.place x.number) (sym q) above
    all_above f (there i) = elim i [ ]

-- The board's entries of a list, as moments of the board's history.
use Rattle.std.proofs.Common.{◌≡◌, ◌∙◌, sym, ap, subst, refl, ℕ, zero, suc, ◌<◌, ◌≤◌, ◌⊎◌, inl, inr, List, [], ◌∷◌, Some, length, arith}
use Rattle.relay_outside.specs.declared.settings.Config.{Config}
use Rattle.histories.specs.Words.{In}
use Rattle.call_board.specs.Acts.{BoardEntry}
use Rattle.relay_core.specs.Entries.{Entry, board_entry, board_history}
use Rattle.relay_core.specs.Legal.{Orderly}
use Rattle.call_board.proofs.Moments.{Later, now, after, later_length}
use Rattle.relay_core.proofs.Histories.{More, same, added, more, same_at}

pub lt_or_eq : (a b : ℕ) → a < suc b → (a < b) ⊎ (a ≡ b)
lt_or_eq a b h = grind (arith, h)

-- Earlier numbers have earlier histories.
later_more : (l : List Entry) (m n : ℕ) → Later (board_history l m) (board_history l n) → More board_entry l 0 n
    → Later (board_history l m) (board_history l (suc n))
later_more l m n rest (same q none) = subst (λ h. Later (board_history l m) h) (sym q) rest
later_more l m n rest (added e b i p k h q) = subst (λ h. Later (board_history l m) h) (sym q) (after rest)

later_case : (config : Config) (l : List Entry) → Orderly config l → (m n : ℕ) → (m ≤ n → Later (board_history l m) (board_history l n))
    → (m < suc n) ⊎ (m ≡ suc n) → Later (board_history l m) (board_history l (suc n))
later_case config l o m n rest (inl b) = later_more l m n (rest (let h = b in omega (arith, h))) (more board_entry l o.numbered 0 n)
later_case config l o m n rest (inr q) = now (ap (board_history l) q)

pub le_or_eq : (m n : ℕ) → m ≤ suc n → (m < suc n) ⊎ (m ≡ suc n)
le_or_eq m n h = grind (arith, h)

pub later_history : (config : Config) (l : List Entry) → Orderly config l → (m n : ℕ) → m ≤ n → Later (board_history l m) (board_history l n)
later_history config l o m zero h = let is_zero : m ≡ 0 = omega (arith, h) in now (ap (board_history l) is_zero)
later_history config l o m (suc n) h = later_case config l o m n (later_history config l o m n) (le_or_eq m n h)

-- after its own number the board's history has the entry
moment_of : (config : Config) (l : List Entry) → Orderly config l → (b : Entry) (x : BoardEntry) → In b l → b.place ≡ 0 → board_entry b ≡ Some x
    → More board_entry l 0 b.number → board_history l (suc b.number) ≡ x ∷ board_history l b.number
moment_of config l o b x i p q (same s none) = absurd (let a = none b i p refl in let k = q in cc)
moment_of config l o b x i p q (added e y j r k h s) =
    let one = same_at l o.numbered e b j i (r ∙ sym p) k in
    let both : Some y ≡ Some x = sym h ∙ ap board_entry one ∙ q in
    let y_is : y ≡ x = cc in
    s ∙ ap (λ z. z ∷ board_history l b.number) y_is

pub moment : (config : Config) (l : List Entry) → Orderly config l → (b : Entry) (x : BoardEntry) → In b l → board_entry b ≡ Some x
    → board_history l (suc b.number) ≡ x ∷ board_history l b.number
moment config l o b x i q = moment_of config l o b x i (o.board_fits b x i q).0 q (more board_entry l o.numbered 0 b.number)

-- an entry's moment stands before each greater number
pub later_entry : (config : Config) (l : List Entry) → Orderly config l → (b : Entry) (x : BoardEntry) → In b l → board_entry b ≡ Some x
    → (n : ℕ) → b.number < n → Later (x ∷ board_history l b.number) (board_history l n)
later_entry config l o b x i q n h =
    subst (λ s. Later s (board_history l n)) (moment config l o b x i q)
    (later_history config l o (suc b.number) n (let k = h in omega (arith, k)))

-- a moment of the board's history is that of one of its entries
pub record IsMoment (l : List Entry) (n : ℕ) (x : BoardEntry) (s : List BoardEntry) : Type 0 where
  pub entry : Entry
  pub is_in : In entry l
  pub is : board_entry entry ≡ Some x
  pub below : entry.number < n
  pub before : s ≡ board_history l entry.number

weaker : (l : List Entry) (n : ℕ) (x : BoardEntry) (s : List BoardEntry) → IsMoment l n x s → IsMoment l (suc n) x s
weaker l n x s m = record { entry = m.entry; is_in = m.is_in; is = m.is; below = let h = m.below in omega (arith, h); before = m.before }

is_moment_added : (config : Config) (l : List Entry) → Orderly config l → (n : ℕ) (x : BoardEntry) (s : List BoardEntry) (e : Entry) (b : BoardEntry)
    → In e l → e.number ≡ n → board_entry e ≡ Some b → (Later (x ∷ s) (board_history l n) → IsMoment l n x s)
    → Later (x ∷ s) (b ∷ board_history l n) → IsMoment l (suc n) x s
is_moment_added config l o n x s e b i k h rest (now q) =
    let x_is : x ≡ b = cc in
    let s_is : s ≡ board_history l n = cc in
    record { entry = e; is_in = i; is = h ∙ ap Some (sym x_is); below = let m = k in omega (arith, m); before = s_is ∙ ap (board_history l) (sym k) }
is_moment_added config l o n x s e b i k h rest (after later) = weaker l n x s (rest later)

is_moment_case : (config : Config) (l : List Entry) → Orderly config l → (n : ℕ) (x : BoardEntry) (s : List BoardEntry)
    → (Later (x ∷ s) (board_history l n) → IsMoment l n x s) → More board_entry l 0 n
    → Later (x ∷ s) (board_history l (suc n)) → IsMoment l (suc n) x s
is_moment_case config l o n x s rest (same q none) later = weaker l n x s (rest (subst (λ h. Later (x ∷ s) h) q later))
is_moment_case config l o n x s rest (added e b i p k h q) later =
    is_moment_added config l o n x s e b i k h rest (subst (λ t. Later (x ∷ s) t) q later)

none_before : (x : BoardEntry) (s : List BoardEntry) → Later (x ∷ s) [] → ⊥
none_before x s (now q) = let h = q in cc

pub is_moment : (config : Config) (l : List Entry) → Orderly config l → (n : ℕ) (x : BoardEntry) (s : List BoardEntry)
    → Later (x ∷ s) (board_history l n) → IsMoment l n x s
is_moment config l o zero x s later = absurd (none_before x s later)
is_moment config l o (suc n) x s later =
    is_moment_case config l o n x s (is_moment config l o n x s) (more board_entry l o.numbered 0 n) later

-- two board entries of one moment are one
pub less_or : (a b : ℕ) → (a < b) ⊎ ((a ≡ b) ⊎ (b < a))
less_or a b = grind arith

not_longer : (config : Config) (l : List Entry) → Orderly config l → (b c : Entry) (x y : BoardEntry) → In b l → board_entry b ≡ Some x
    → x ∷ board_history l b.number ≡ y ∷ board_history l c.number → b.number < c.number → ⊥
not_longer config l o b c x y i q e h =
    let longer = later_length (later_entry config l o b x i q c.number h) in
    let as_long : length (x ∷ board_history l b.number) ≡ length (y ∷ board_history l c.number) = ap length e in
    let k : suc (length (board_history l b.number)) ≡ suc (length (board_history l c.number)) = as_long in
    let m : suc (length (board_history l b.number)) ≤ length (board_history l c.number) = longer in
    omega (arith, k, m)

same_number : (config : Config) (l : List Entry) → Orderly config l → (b c : Entry) (x y : BoardEntry) → In b l → In c l
    → board_entry b ≡ Some x → board_entry c ≡ Some y → x ∷ board_history l b.number ≡ y ∷ board_history l c.number
    → (b.number < c.number) ⊎ ((b.number ≡ c.number) ⊎ (c.number < b.number)) → b ≡ c
same_number config l o b c x y i j q r e (inl h) = absurd (not_longer config l o b c x y i q e h)
same_number config l o b c x y i j q r e (inr (inl h)) =
    same_at l o.numbered b c i j ((o.board_fits b x i q).0 ∙ sym (o.board_fits c y j r).0) h
same_number config l o b c x y i j q r e (inr (inr h)) = absurd (not_longer config l o c b y x j r (sym e) h)

pub same_moment : (config : Config) (l : List Entry) → Orderly config l → (b c : Entry) (x y : BoardEntry) → In b l → In c l
    → board_entry b ≡ Some x → board_entry c ≡ Some y → x ∷ board_history l b.number ≡ y ∷ board_history l c.number → b ≡ c
same_moment config l o b c x y i j q r e = same_number config l o b c x y i j q r e (less_or b.number c.number)

-- Where a leg was leased, and whether it is held since.
use Rattle.std.proofs.Common.{◌≡◌, ◌∙◌, sym, ap, subst, refl, ℕ, zero, suc, ◌<◌, ◌≤◌, ◌⊎◌, inl, inr, List, Bool, true, false, Some, length, filter, arith}
use Rattle.histories.specs.Words.{In}
use Rattle.port_pool.specs.declared.holder.Holder.{Holder}
use Rattle.call_board.specs.Acts.{Act, BoardEntry}
use Rattle.call_board.specs.Acts as act
use Rattle.call_board.specs.Pairs.{held, legs_of_act, closes_leg}
use Rattle.call_board.proofs.Held.{held_split, held_stays, held_new}
use Rattle.relay_core.specs.Entries.{Entry, is_at, board_entry, board_history}
use Rattle.relay_core.proofs.Boards.{lt_or_eq}
use Rattle.relay_core.proofs.Histories.{More, same, added, more, same_at}

-- the offer by which the leg was leased
pub record Leasing (l : List Entry) (leg : Holder) : Type 0 where
  pub board : Entry
  pub is_in : In board l
  pub at_board : board.place ≡ 0
  pub entry : BoardEntry
  pub is : board_entry board ≡ Some entry
  pub offer : act.Offer
  pub acts : act.act entry ≡ act.Offered offer
  pub has_leg : In leg offer.legs

-- none of the board's entries with numbers from the first to below the second closes the leg
abbrev pub IsUnclosed : List Entry → ℕ → ℕ → Holder → Type 0
IsUnclosed l from n leg =
    (f : Entry) (y : BoardEntry) → In f l → f.place ≡ 0 → from < f.number → f.number < n → board_entry f ≡ Some y → closes_leg y leg ≡ false

-- the leg was leased before n, and none of the entries since closed it
pub record HeldSince (l : List Entry) (n : ℕ) (leg : Holder) : Type 0 where
  pub lease : Leasing l leg
  pub below : lease.board.number < n
  pub unclosed : IsUnclosed l lease.board.number n leg

-- the act that leases legs is an offer
leases_offered : {leg : Holder} (a : Act) → In leg (legs_of_act a) → (o : act.Offer) × (a ≡ act.Offered o) × In leg o.legs
leases_offered (act.Offered o) i = (o, refl, i)
leases_offered (act.Answered a) i = elim i [ ]
leases_offered act.Repeated i = elim i [ ]
leases_offered act.OutOfMemory i = elim i [ ]
leases_offered (act.Failed code) i = elim i [ ]
leases_offered (act.Undone code leases draws) i = elim i [ ]
leases_offered (act.Deleted d) i = elim i [ ]
leases_offered (act.Queried d) i = elim i [ ]
leases_offered act.Told i = elim i [ ]
leases_offered (act.Delayed of s) i = elim i [ ]

unclosed_more : (l : List Entry) (from n : ℕ) (leg : Holder) → IsUnclosed l from n leg
    → ((f : Entry) (y : BoardEntry) → In f l → f.place ≡ 0 → f.number ≡ n → board_entry f ≡ Some y → closes_leg y leg ≡ false)
    → IsUnclosed l from (suc n) leg
unclosed_more l from n leg rest at_n f y i p later before h = one_more f y i p later h (lt_or_eq f.number n before)
  where
    one_more : (f : Entry) (y : BoardEntry) → In f l → f.place ≡ 0 → from < f.number → board_entry f ≡ Some y
        → (f.number < n) ⊎ (f.number ≡ n) → closes_leg y leg ≡ false
    one_more f y i p later h (inl b) = rest f y i p later b h
    one_more f y i p later h (inr m) = at_n f y i p m h

held_more : (l : List Entry) (n : ℕ) (leg : Holder) → HeldSince l n leg
    → ((f : Entry) (y : BoardEntry) → In f l → f.place ≡ 0 → f.number ≡ n → board_entry f ≡ Some y → closes_leg y leg ≡ false)
    → HeldSince l (suc n) leg
held_more l n leg s at_n = record {
  lease = s.lease;
  below = let q = s.below in omega (arith, q);
  unclosed = unclosed_more l s.lease.board.number n leg s.unclosed at_n;
}

-- at one number of the board stands one entry
pub same_entry : (l : List Entry) → ((e : Entry) → In e l → length (filter (is_at e.place e.number) l) ≡ 1)
    → (b c : Entry) (x y : BoardEntry) → In b l → In c l → b.place ≡ 0 → c.place ≡ 0 → b.number ≡ c.number
    → board_entry b ≡ Some x → board_entry c ≡ Some y → x ≡ y
same_entry l numbered b c x y i j p q m h k =
    let one = same_at l numbered b c i j (p ∙ sym q) m in
    let o : Some x ≡ Some y = sym h ∙ ap board_entry one ∙ k in cc

held_added : (l : List Entry) → ((e : Entry) → In e l → length (filter (is_at e.place e.number) l) ≡ 1)
    → (n : ℕ) (leg : Holder) (b : Entry) (x : BoardEntry) → In b l → b.place ≡ 0 → b.number ≡ n → board_entry b ≡ Some x
    → (In leg (held (board_history l n)) → HeldSince l n leg)
    → (In leg (held (board_history l n)) × (closes_leg x leg ≡ false)) ⊎ In leg (legs_of_act (act.act x)) → HeldSince l (suc n) leg
held_added l numbered n leg b x i p m h rest (inl k) =
    held_more l n leg (rest k.0) (λ f y j q w z. ap (λ t. closes_leg t leg) (same_entry l numbered f b y x j i q p (w ∙ sym m) z h) ∙ k.1)
held_added l numbered n leg b x i p m h rest (inr k) =
    let o = leases_offered (act.act x) k in
    record {
      lease = record { board = b; is_in = i; at_board = p; entry = x; is = h; offer = o.0; acts = o.1; has_leg = o.2 };
      below = let q = m in omega (arith, q);
      unclosed = λ f y j q later before z. absurd (let w = m in omega (arith, w, later, before));
    }

held_case : (l : List Entry) → ((e : Entry) → In e l → length (filter (is_at e.place e.number) l) ≡ 1)
    → (n : ℕ) (leg : Holder) → (In leg (held (board_history l n)) → HeldSince l n leg)
    → More board_entry l 0 n → In leg (held (board_history l (suc n))) → HeldSince l (suc n) leg
held_case l numbered n leg rest (same q none) k =
    held_more l n leg (rest (subst (λ t. In leg (held t)) q k)) (λ f y j p m h. absurd (let a = none f j p m in let b = h in cc))
held_case l numbered n leg rest (added b x i p m h q) k =
    held_added l numbered n leg b x i p m h rest (held_split (board_history l n) x leg (subst (λ t. In leg (held t)) q k))

-- a leg that is held was leased, and not closed since
pub held_since : (l : List Entry) → ((e : Entry) → In e l → length (filter (is_at e.place e.number) l) ≡ 1)
    → (n : ℕ) (leg : Holder) → In leg (held (board_history l n)) → HeldSince l n leg
held_since l numbered zero leg k = elim k [ ]
held_since l numbered (suc n) leg k = held_case l numbered n leg (held_since l numbered n leg) (more board_entry l numbered 0 n) k

-- the same up to an earlier number
pub held_until : (l : List Entry) (n m : ℕ) (leg : Holder) → (s : HeldSince l n leg) → s.lease.board.number < m → m ≤ n → HeldSince l m leg
held_until l n m leg s later before = record {
  lease = s.lease;
  below = later;
  unclosed = λ f y i p k j h. s.unclosed f y i p k (let q = before in omega (arith, q, j)) h;
}

still_case : (l : List Entry) → ((e : Entry) → In e l → length (filter (is_at e.place e.number) l) ≡ 1)
    → (n : ℕ) (leg : Holder) (s : HeldSince l (suc n) leg) → (s.lease.board.number < n → In leg (held (board_history l n)))
    → (s.lease.board.number < n) ⊎ (s.lease.board.number ≡ n) → More board_entry l 0 n → In leg (held (board_history l (suc n)))
still_case l numbered n leg s rest (inl k) (same q none) = subst (λ t. In leg (held t)) (sym q) (rest k)
still_case l numbered n leg s rest (inl k) (added b x i p m h q) =
    subst (λ t. In leg (held t)) (sym q)
    (held_stays (board_history l n) x leg (rest k) (s.unclosed b x i p (let w = m in omega (arith, w, k)) (let w = m in omega (arith, w)) h))
still_case l numbered n leg s rest (inr k) (same q none) =
    absurd (let a = none s.lease.board s.lease.is_in s.lease.at_board k in let b = s.lease.is in cc)
still_case l numbered n leg s rest (inr k) (added b x i p m h q) =
    let one = same_entry l numbered b s.lease.board x s.lease.entry i s.lease.is_in p s.lease.at_board (m ∙ sym k) h s.lease.is in
    subst (λ t. In leg (held t)) (sym q)
    (held_new (board_history l n) x s.lease.offer leg (ap act.act one ∙ s.lease.acts) s.lease.has_leg)

-- a leg that was leased, and not closed since, is held
pub still_held : (l : List Entry) → ((e : Entry) → In e l → length (filter (is_at e.place e.number) l) ≡ 1)
    → (n : ℕ) (leg : Holder) → HeldSince l n leg → In leg (held (board_history l n))
still_held l numbered zero leg s = absurd (let k = s.below in omega (arith, k))
still_held l numbered (suc n) leg s =
    still_case l numbered n leg s (λ k. still_held l numbered n leg (held_until l (suc n) n leg s k (omega arith)))
    (lt_or_eq s.lease.board.number n s.below) (more board_entry l numbered 0 n)

-- the first of the board's entries since the lease that closes the leg
pub record FirstClose (l : List Entry) (lease n : ℕ) (leg : Holder) : Type 0 where
  pub board : Entry
  pub is_in : In board l
  pub at_board : board.place ≡ 0
  pub later : lease < board.number
  pub below : board.number < n
  pub entry : BoardEntry
  pub is : board_entry board ≡ Some entry
  pub closes : closes_leg entry leg ≡ true
  pub was_held : HeldSince l board.number leg

close_more : (l : List Entry) (lease n : ℕ) (leg : Holder) → FirstClose l lease n leg → FirstClose l lease (suc n) leg
close_more l lease n leg c = record {
  board = c.board;
  is_in = c.is_in;
  at_board = c.at_board;
  later = c.later;
  below = let q = c.below in omega (arith, q);
  entry = c.entry;
  is = c.is;
  closes = c.closes;
  was_held = c.was_held;
}

-- the leg is held since that lease, or was closed
abbrev pub HeldOrClosed : (l : List Entry) (leg : Holder) → Leasing l leg → ℕ → Type 0
HeldOrClosed l leg lease n = IsUnclosed l lease.board.number n leg ⊎ FirstClose l lease.board.number n leg

closed_now : (l : List Entry) → ((e : Entry) → In e l → length (filter (is_at e.place e.number) l) ≡ 1)
    → (leg : Holder) (lease : Leasing l leg) (n : ℕ) → lease.board.number < n → IsUnclosed l lease.board.number n leg
    → (b : Entry) (x : BoardEntry) → In b l → b.place ≡ 0 → b.number ≡ n → board_entry b ≡ Some x
    → (t : Bool) → closes_leg x leg ≡ t → HeldOrClosed l leg lease (suc n)
closed_now l numbered leg lease n k unclosed b x i p m h false t =
    inl (unclosed_more l lease.board.number n leg unclosed
    (λ f y j q w z. ap (λ u. closes_leg u leg) (same_entry l numbered f b y x j i q p (w ∙ sym m) z h) ∙ t))
closed_now l numbered leg lease n k unclosed b x i p m h true t =
    inr (record {
      board = b;
      is_in = i;
      at_board = p;
      later = let q = m in omega (arith, q, k);
      below = let q = m in omega (arith, q);
      entry = x;
      is = h;
      closes = t;
      was_held = record {
        lease = lease;
        below = let q = m in omega (arith, q, k);
        unclosed = λ f y j q later before z. unclosed f y j q later (let w = m in omega (arith, w, before)) z;
      };
    })

or_closed_case : (l : List Entry) → ((e : Entry) → In e l → length (filter (is_at e.place e.number) l) ≡ 1)
    → (leg : Holder) (lease : Leasing l leg) (n : ℕ) → lease.board.number < n → HeldOrClosed l leg lease n
    → More board_entry l 0 n → HeldOrClosed l leg lease (suc n)
or_closed_case l numbered leg lease n k (inr c) more = inr (close_more l lease.board.number n leg c)
or_closed_case l numbered leg lease n k (inl unclosed) (same q none) =
    inl (unclosed_more l lease.board.number n leg unclosed (λ f y j p m h. absurd (let a = none f j p m in let b = h in cc)))
or_closed_case l numbered leg lease n k (inl unclosed) (added b x i p m h q) =
    closed_now l numbered leg lease n k unclosed b x i p m h (closes_leg x leg) refl

or_closed_step : (l : List Entry) → ((e : Entry) → In e l → length (filter (is_at e.place e.number) l) ≡ 1)
    → (leg : Holder) (lease : Leasing l leg) (n : ℕ) → (lease.board.number < n → HeldOrClosed l leg lease n)
    → (lease.board.number < n) ⊎ (lease.board.number ≡ n) → HeldOrClosed l leg lease (suc n)
or_closed_step l numbered leg lease n rest (inl k) = or_closed_case l numbered leg lease n k (rest k) (more board_entry l numbered 0 n)
or_closed_step l numbered leg lease n rest (inr m) =
    inl (λ f y i p later before h. absurd (let q = m in omega (arith, q, later, before)))

-- a leg that was leased was not closed since, or was closed for the first time
pub held_or_closed : (l : List Entry) → ((e : Entry) → In e l → length (filter (is_at e.place e.number) l) ≡ 1)
    → (leg : Holder) (lease : Leasing l leg) (n : ℕ) → lease.board.number < n → HeldOrClosed l leg lease n
held_or_closed l numbered leg lease zero k = absurd (let q = k in omega (arith, q))
held_or_closed l numbered leg lease (suc n) k =
    or_closed_step l numbered leg lease n (held_or_closed l numbered leg lease n) (lt_or_eq lease.board.number n k)

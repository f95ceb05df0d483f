-- What a turn of the board finds in the cells: what the rounds of a live call owe to its cell, and nothing where no call is live.
use Rattle.std.proofs.Common.{◌≡◌, ◌∙◌, sym, ap, subst, refl, ℕ, zero, suc, ◌<◌, ◌≤◌, ◌⊎◌, inl, inr, List, [], ◌∷◌, true, None, Some, arith}
use Rattle.relay_outside.specs.declared.settings.Config.{Config}
use Rattle.histories.specs.Words.{In}
use Rattle.call_cell.specs.Cells.{CellEvent, CellEntry, Prepare, Commit, End, since_end}
use Rattle.call_cell.specs.SignalEntries.{is_lasting, lasting_entries}
use Rattle.call_cell.proofs.Nested.{entry_at, SameLasting, same_lasting, kept_since}
use Rattle.offer_answer.specs.Rounds.{Round}
use Rattle.offer_answer.specs.Rounds as round
use Rattle.offer_answer.specs.Plan.{demand, signal}
use Rattle.call_board.specs.Acts as act
use Rattle.call_board.specs.Acts.{Call, BoardEntry}
use Rattle.call_board.specs.Calls.{live, ended_by, rounds}
use Rattle.call_board.specs.Fits.{FitsBoard, IsFitting}
use Rattle.call_board.proofs.Tells.{offer_told, answer_told}
use Rattle.call_board.proofs.Calls.{ended_by_turn}
use Rattle.relay_core.specs.Entries.{Cell, Entry, is_nested, board_entry, cell_history, board_history}
use Rattle.relay_core.specs.Scripts.{Owed, in_cell}
use Rattle.relay_core.specs.Legal.{Orderly}
use Rattle.relay_core.proofs.Histories.{good_history, More, same, added, more, same_at}
use Rattle.relay_core.proofs.Scripts.{IsMade, is_made, has_prepare, has_commit, has_end}
use Rattle.relay_core.proofs.Lives.{not_after}
use Rattle.relay_core.proofs.Keyed.{less}
use Rattle.relay_core.proofs.Shut.{nested_below}
use Rattle.relay_core.proofs.Turns.{IsAbove}
use Rattle.relay_core.proofs.Rounded.{entries_of}
use Rattle.relay_core.proofs.Lasting.{lasts, lasting, lasts_nested, still, after_it, since_ends, Owner, prepared, committed, ended, owner, one_commit_of, one_prepare_at}
use Rattle.relay_core.proofs.Following.{events, Follows, DoesAt, offers, answers, ends_one, nothing, does_at, quiet_follows, end_follows, offer_follows, answer_follows, before_offer}

-- the lasting entries of a place with numbers below k belong to board entries below n, and the others to those from n on
abbrev pub SplitsAt : List Entry → (place n k : ℕ) → Type 0
SplitsAt l place n k = (e : Entry) → In e l → e.place ≡ place → lasts e.event ≡ true → (e.number < k → e.board < n) × (k ≤ e.number → n ≤ e.board)

-- a lasting entry at a place, the only one of its board entry
record IsOnly (l : List Entry) (place n : ℕ) (v : CellEvent) : Type 0 where
  entry : Entry
  is_in : In entry l
  at : entry.place ≡ place
  event : entry.event ≡ Cell v
  lasts_it : is_lasting v ≡ true
  of_board : entry.board ≡ n
  only : (f : Entry) → In f l → f.place ≡ place → lasts f.event ≡ true → f.board ≡ n → f ≡ entry

module _ (config : Config) (l : List Entry) (o : Orderly config l) (place n k : ℕ) (v : CellEvent) (splits : SplitsAt l place (suc n) k) (g : IsOnly l place n v) where
  g_lasts : lasts g.entry.event ≡ true
  g_lasts = ap lasts g.event ∙ g.lasts_it

  g_nested : is_nested g.entry.event ≡ true
  g_nested = lasts_nested g.entry.event g_lasts

  below : g.entry.number < k
  below = go (less g.entry.number k)
    where
      go : (g.entry.number < k) ⊎ (k ≤ g.entry.number) → g.entry.number < k
      go (inl h) = h
      go (inr h) = let late = (splits g.entry g.is_in g.at g_lasts).1 h in let of_n = g.of_board in absurd (omega (arith, late, of_n))

  first_of : (e : Entry) → In e l → e.place ≡ place → lasts e.event ≡ true → e.number < g.entry.number → e.board < n
  first_of e i p t h =
      let low = not_after config l o e g.entry i g.is_in (lasts_nested e.event t) g_nested (p ∙ sym g.at) h in
      go (less e.board n) low
    where
      go : (e.board < n) ⊎ (n ≤ e.board) → e.board ≤ g.entry.board → e.board < n
      go (inl b) low = b
      go (inr b) low =
          let of_n = g.of_board in
          let is : e.board ≡ n = omega (arith, b, low, of_n) in
          let numbers = ap (λ (x : Entry). x.number) (g.only e i p t is) in absurd (omega (arith, numbers, h))

  from_it : (e : Entry) → In e l → e.place ≡ place → lasts e.event ≡ true → g.entry.number ≤ e.number → n ≤ e.board
  from_it e i p t h = go (less g.entry.number e.number)
    where
      go : (g.entry.number < e.number) ⊎ (e.number ≤ g.entry.number) → n ≤ e.board
      go (inl b) =
          let low = not_after config l o g.entry e g.is_in i g_nested (lasts_nested e.event t) (g.at ∙ sym p) b in
          let of_n = g.of_board in omega (arith, low, of_n)
      go (inr b) =
          let numbers : e.number ≡ g.entry.number = omega (arith, b, h) in
          let boards = ap (λ (x : Entry). x.board) (same_at l o.numbered e g.entry i g.is_in (p ∙ sym g.at) numbers) in
          let of_n = g.of_board in omega (arith, boards, of_n)

  none_later : (e : Entry) → In e l → e.place ≡ place → lasts e.event ≡ true → g.entry.number < e.number → e.number < k → ⊥
  none_later e i p t low high =
      let before = (splits e i p t).0 high in
      let from = from_it e i p t (omega (arith, low)) in
      let is : e.board ≡ n = omega (arith, before, from) in
      let numbers = ap (λ (x : Entry). x.number) (g.only e i p t is) in omega (arith, numbers, low)

  splits_before : SplitsAt l place n g.entry.number
  splits_before e i p t = (first_of e i p t, from_it e i p t)

  last_one : (c : CellEntry) × (c.event ≡ v) × (lasting l place k ≡ c ∷ lasting l place g.entry.number)
  last_one = after_it l place k o.numbered g.entry g.is_in g.at v g.event g.lasts_it below none_later

-- One board entry.

module _ (config : Config) (l : List Entry) (o : Orderly config l) (b : Entry) (x : BoardEntry) (i : In b l) (is : board_entry b ≡ Some x) (place : ℕ) where
  fits : FitsBoard config (board_history l b.number) x
  fits = (o.board_fits b x i is).1

  good : IsFitting config (board_history l b.number)
  good = good_history config l o b.number

  none_ended : (p : act.Offer) → act.act x ≡ act.Offered p → (d : Call) → In d (ended_by x) → ⊥
  none_ended p q d j =
      let shown = offer_told config (board_history l b.number) x p fits q in
      let m = subst (λ (cs : List Call). In d cs) (ended_by_turn x (act.Offered p) shown.turn) j in elim m [ ]

  none_ended_by : (a : act.Answer) → act.act x ≡ act.Answered a → (d : Call) → In d (ended_by x) → ⊥
  none_ended_by a q d j =
      let shown = answer_told config (board_history l b.number) x a fits q in
      let m = subst (λ (cs : List Call). In d cs) (ended_by_turn x (act.Answered a) shown.turn) j in elim m [ ]

  only_prepare : (p : act.Offer) → act.act x ≡ act.Offered p → p.of.cell ≡ place → IsOnly l place b.number (Prepare p.of.number p.legs p.keys p.dropped)
  only_prepare p q at =
      let g = is_made config l o b x i is (in_cell p.of (Prepare p.of.number p.legs p.keys p.dropped)) (has_prepare config (board_history l b.number) x p q) in
      record {
        entry = g.entry;
        is_in = g.is_in;
        at = ap (λ (w : Owed). w.place) g.is ∙ at;
        event = ap (λ (w : Owed). w.event) g.is;
        lasts_it = refl;
        of_board = g.board_is;
        only = λ f j at_f t of_b. one g f j of_b (owner config l o b x i is f j of_b t);
      }
    where
      one : (g : IsMade l b (in_cell p.of (Prepare p.of.number p.legs p.keys p.dropped))) → (f : Entry) → In f l → f.board ≡ b.number → Owner x f.place f.event → f ≡ g.entry
      one g f j of_b (prepared r s m v) =
          one_prepare_at config l o b x p i is q f g.entry j g.is_in of_b g.board_is r.of.number p.of.number r.legs p.legs r.keys p.keys r.dropped p.dropped v
          (ap (λ (w : Owed). w.event) g.is)
      one g f j of_b (committed a s m v) = absurd (let e = sym q ∙ s in cc)
      one g f j of_b (ended d s m v) = absurd (none_ended p q d s)

  only_commit : (a : act.Answer) → act.act x ≡ act.Answered a → a.of.cell ≡ place → IsOnly l place b.number (Commit a.signal)
  only_commit a q at =
      let g = is_made config l o b x i is (in_cell a.of (Commit a.signal)) (has_commit config (board_history l b.number) x a q) in
      record {
        entry = g.entry;
        is_in = g.is_in;
        at = ap (λ (w : Owed). w.place) g.is ∙ at;
        event = ap (λ (w : Owed). w.event) g.is;
        lasts_it = refl;
        of_board = g.board_is;
        only = λ f j at_f t of_b. one g f j of_b (owner config l o b x i is f j of_b t);
      }
    where
      one : (g : IsMade l b (in_cell a.of (Commit a.signal))) → (f : Entry) → In f l → f.board ≡ b.number → Owner x f.place f.event → f ≡ g.entry
      one g f j of_b (committed r s m v) =
          one_commit_of config l o b x a i is q f g.entry j g.is_in of_b g.board_is r.signal a.signal v (ap (λ (w : Owed). w.event) g.is)
      one g f j of_b (prepared r s m v) = absurd (let e = sym q ∙ s in cc)
      one g f j of_b (ended d s m v) = absurd (none_ended_by a q d s)

  -- after an End nothing lasts
  ended_empty : (k : ℕ) → SplitsAt l place (suc b.number) k → (d : Call) → In d (ended_by x) → d.cell ≡ place → since_end (lasting l place k) ≡ []
  ended_empty k splits d j at = since_ends l place g.entry.number k o.numbered (low (less g.entry.number k)) only_ends g.entry g.is_in g_at refl g_event
    where
      g : IsMade l b (in_cell d End)
      g = is_made config l o b x i is (in_cell d End) (has_end config (board_history l b.number) x d fits j)

      g_event : g.entry.event ≡ Cell End
      g_event = ap (λ (w : Owed). w.event) g.is

      g_at : g.entry.place ≡ place
      g_at = ap (λ (w : Owed). w.place) g.is ∙ at

      low : (g.entry.number < k) ⊎ (k ≤ g.entry.number) → g.entry.number < k
      low (inl h) = h
      low (inr h) =
          let late = (splits g.entry g.is_in g_at (ap lasts g_event)).1 h in
          let of_b = g.board_is in absurd (omega (arith, late, of_b))

      from_it : (e : Entry) → In e l → e.place ≡ place → lasts e.event ≡ true → (g.entry.number < e.number) ⊎ (e.number ≤ g.entry.number)
          → g.entry.number ≤ e.number → b.number ≤ e.board
      from_it e m p t (inl h) from =
          let later = not_after config l o g.entry e g.is_in m g.nested (lasts_nested e.event t) (g_at ∙ sym p) h in
          let of_b = g.board_is in omega (arith, later, of_b)
      from_it e m p t (inr h) from =
          let numbers : e.number ≡ g.entry.number = omega (arith, h, from) in
          let boards = ap (λ (y : Entry). y.board) (same_at l o.numbered e g.entry m g.is_in (p ∙ sym g_at) numbers) in
          let of_b = g.board_is in omega (arith, boards, of_b)

      owned : (e : Entry) → Owner x e.place e.event → e.event ≡ Cell End
      owned e (prepared p s m v) = absurd (none_ended p s d j)
      owned e (committed a s m v) = absurd (none_ended_by a s d j)
      owned e (ended c s m v) = v

      only_ends : (e : Entry) → In e l → e.place ≡ place → lasts e.event ≡ true → g.entry.number ≤ e.number → e.number < k → e.event ≡ Cell End
      only_ends e m p t from before =
          let high = (splits e m p t).0 before in
          let least = from_it e m p t (less g.entry.number e.number) from in
          let of_b : e.board ≡ b.number = omega (arith, high, least) in
          owned e (owner config l o b x i is e m of_b t)

  -- where it does nothing at the place, the place has no lasting entry of it
  quiet_splits : (k : ℕ) → SplitsAt l place (suc b.number) k → ((p : act.Offer) → act.act x ≡ act.Offered p → p.of.cell ≡ place → ⊥)
      → ((a : act.Answer) → act.act x ≡ act.Answered a → a.of.cell ≡ place → ⊥) → ((d : Call) → In d (ended_by x) → d.cell ≡ place → ⊥)
      → SplitsAt l place b.number k
  quiet_splits k splits no_o no_a no_d e m p t = ((λ before. earlier ((splits e m p t).0 before) (less e.board b.number)), (λ from. (let late = (splits e m p t).1 from in omega (arith, late))))
    where
      not_its : Owner x e.place e.event → ⊥
      not_its (prepared r s at v) = no_o r s (at ∙ p)
      not_its (committed a s at v) = no_a a s (at ∙ p)
      not_its (ended d s at v) = no_d d s (at ∙ p)

      earlier : e.board < suc b.number → (e.board < b.number) ⊎ (b.number ≤ e.board) → e.board < b.number
      earlier low (inl h) = h
      earlier low (inr h) =
          let of_b : e.board ≡ b.number = omega (arith, low, h) in absurd (not_its (owner config l o b x i is e m of_b t))

  -- one more entry of the board
  one_more : (k : ℕ) → ((m : ℕ) → SplitsAt l place b.number m → Follows place (lasting l place m) (board_history l b.number)) → SplitsAt l place (suc b.number) k
      → DoesAt x place → Follows place (lasting l place k) (x ∷ board_history l b.number)
  one_more k rest splits (nothing no_o no_a no_d) =
      quiet_follows config (board_history l b.number) x good fits place (lasting l place k) no_o no_a no_d (rest k (quiet_splits k splits no_o no_a no_d))
  one_more k rest splits (ends_one d j at) =
      end_follows config (board_history l b.number) x good fits place (lasting l place k) d j at (ended_empty k splits d j at)
  one_more k rest splits (offers p q at) =
      let v = Prepare p.of.number p.legs p.keys p.dropped in
      let g = only_prepare p q at in
      let c = last_one config l o place b.number k v splits g in
      offer_follows config (board_history l b.number) x good fits place (lasting l place k) (lasting l place g.entry.number) c.0 p q at c.2 c.1
      (rest g.entry.number (splits_before config l o place b.number k v splits g))
  one_more k rest splits (answers a q at) =
      let v = Commit a.signal in
      let g = only_commit a q at in
      let c = last_one config l o place b.number k v splits g in
      answer_follows config (board_history l b.number) x good fits place (lasting l place k) (lasting l place g.entry.number) c.0 a q at c.2 c.1
      (rest g.entry.number (splits_before config l o place b.number k v splits g))

-- All board entries.

none_splits : (config : Config) (l : List Entry) → Orderly config l → (place n k : ℕ) → ((e : Entry) → In e l → e.place ≡ 0 → e.number ≡ n → board_entry e ≡ None)
    → SplitsAt l place (suc n) k → SplitsAt l place n k
none_splits config l o place n k none splits e i p t =
    ((λ before. earlier ((splits e i p t).0 before) (less e.board n)), (λ from. (let late = (splits e i p t).1 from in omega (arith, late))))
  where
    earlier : e.board < suc n → (e.board < n) ⊎ (n ≤ e.board) → e.board < n
    earlier low (inl h) = h
    earlier low (inr h) =
        let b = o.nested e i (lasts_nested e.event t) in
        let number : b.0.number ≡ n = b.3 ∙ omega (arith, low, h) in
        absurd (let q = none b.0 b.1 b.2 number in let r = b.4.1 in cc)

follows_case : (config : Config) (l : List Entry) → Orderly config l → (place n k : ℕ)
    → ((m : ℕ) → SplitsAt l place n m → Follows place (lasting l place m) (board_history l n)) → SplitsAt l place (suc n) k → More board_entry l 0 n
    → Follows place (lasting l place k) (board_history l (suc n))
follows_case config l o place n k rest splits (same q none) =
    subst (λ (h : List BoardEntry). Follows place (lasting l place k) h) (sym q) (rest k (none_splits config l o place n k none splits))
follows_case config l o place n k rest splits (added b x i p m h q) =
    subst (λ (h : List BoardEntry). Follows place (lasting l place k) h) (sym q)
    (subst (λ (j : ℕ). Follows place (lasting l place k) (x ∷ board_history l j)) m
    (one_more config l o b x i h place k
    (subst (λ (j : ℕ). (r : ℕ) → SplitsAt l place j r → Follows place (lasting l place r) (board_history l j)) (sym m) rest)
    (subst (λ (j : ℕ). SplitsAt l place (suc j) k) (sym m) splits) (does_at x place)))

pub follows : (config : Config) (l : List Entry) → Orderly config l → (place n k : ℕ) → SplitsAt l place n k → Follows place (lasting l place k) (board_history l n)
follows config l o place zero k splits = record {
  live_is = λ of i at. elim i [ ];
  none_is = λ nobody. ap (λ (t : List CellEntry). since_end t)
      (still l place 0 k o.numbered (omega arith) (λ e i p t low high. (let b = (splits e i p t).0 high in omega (arith, b))));
}
follows config l o place (suc n) k splits =
    follows_case config l o place n k (λ m s. follows config l o place n m s) splits (more board_entry l o.numbered 0 n)

-- at the front of the board and of a cell
pub front_follows : (config : Config) (l : List Entry) → Orderly config l → (place n k : ℕ) → IsAbove l 0 n → IsAbove l place k
    → Follows place (lasting l place k) (board_history l n)
front_follows config l o place n k above_board above =
    follows config l o place n k
    (λ e i p t. (
      (λ before. nested_below config l o n above_board e i (lasts_nested e.event t)),
      (λ from. (let low : e.number < k = above e i p in absurd (omega (arith, low, from)))),
    ))

-- What a cell has.

all_last : (number : ℕ) (rs : List Round) → lasting_entries (entries_of number rs) ≡ entries_of number rs
all_last number [] = refl
all_last number (round.Offered ask new keys ∷ rs) =
    ap (λ (t : List CellEntry). entry_at 0 (Prepare number new keys (demand rs ask).dropped) ∷ t) (all_last number rs)
all_last number (round.Answered ask ∷ rs) =
    ap (λ (t : List CellEntry). entry_at 0 (Commit (signal rs ask)) ∷ t) (all_last number rs)

same_by : (l : List Entry) (place k number : ℕ) (rs : List Round) → events (since_end (lasting l place k)) ≡ events (entries_of number rs)
    → SameLasting (since_end (cell_history l place k)) (entries_of number rs)
same_by l place k number rs q =
    same_lasting (since_end (cell_history l place k)) (entries_of number rs)
    (ap events (kept_since (cell_history l place k)) ∙ q ∙ ap events (sym (all_last number rs)))

-- the cell of a live call
pub live_cell_is : (config : Config) (l : List Entry) → Orderly config l → (n k : ℕ) (of : Call) → IsAbove l 0 n → In of (live (board_history l n)) → IsAbove l of.cell k
    → SameLasting (since_end (cell_history l of.cell k)) (entries_of of.number (rounds (board_history l n) of.number))
live_cell_is config l o n k of above_board i above =
    let f = front_follows config l o of.cell n k above_board above in
    same_by l of.cell k of.number (rounds (board_history l n) of.number) (f.live_is of i refl)

-- the cell of an offer that comes next
pub offer_cell_is : (config : Config) (l : List Entry) → Orderly config l → (n k : ℕ) (x : BoardEntry) (p : act.Offer) → IsAbove l 0 n
    → FitsBoard config (board_history l n) x → act.act x ≡ act.Offered p → IsAbove l p.of.cell k
    → SameLasting (since_end (cell_history l p.of.cell k)) (entries_of p.of.number (rounds (board_history l n) p.of.number))
offer_cell_is config l o n k x p above_board fits q above =
    let shown = offer_told config (board_history l n) x p fits q in
    same_by l p.of.cell k p.of.number (rounds (board_history l n) p.of.number)
    (before_offer config (board_history l n) x (good_history config l o n) fits p.of.cell (lasting l p.of.cell k) p q refl
    (front_follows config l o p.of.cell n k above_board above) shown.id shown.call_is)

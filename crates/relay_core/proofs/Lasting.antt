-- The lasting entries of a cell in a list: which there are, and what of the board they belong to.
use Rattle.std.proofs.Common.{◌≡◌, ◌∙◌, sym, ap, subst, refl, ℕ, zero, suc, ◌<◌, ◌≤◌, ◌⊎◌, inl, inr, List, [], ◌∷◌, Bool, true, false, cond, Some, None, map, length, filter, ◌==◌, arith}
use Rattle.relay_outside.specs.declared.settings.Config.{Config}
use Rattle.histories.specs.Words.{In}
use Rattle.histories.proofs.Lists.{keeps, equal, only}
use Rattle.port_pool.specs.declared.holder.Holder.{Holder}
use Rattle.port_pool.specs.declared.signal.SectionSignal.{SectionSignal}
use Rattle.port_pool.specs.Signals.{NewKey}
use Rattle.call_cell.specs.Cells.{CellEvent, CellEntry, Prepare, Commit, Relay, Expire, Read, End, is_end, since_end}
use Rattle.call_cell.specs.SignalEntries.{is_lasting, lasting_entries}
use Rattle.call_cell.proofs.Since.{since_at_end}
use Rattle.call_board.specs.Acts as act
use Rattle.call_board.specs.Acts.{Call, Act, Control, BoardEvent, Turn, Tick, Stop, BoardEntry}
use Rattle.call_board.specs.Calls.{ended_by}
use Rattle.call_board.specs.Pairs.{closed_of}
use Rattle.relay_core.specs.Entries.{Event, Board, Cell, Box, Entry, is_nested, is_nested_cell, is_at, belongs_to, board_entry, cell_at, cell_entry, cell_history, board_history}
use Rattle.relay_core.specs.Scripts.{Owed, owed_by, closing, in_cell, closings, script, script_of_act}
use Rattle.relay_core.specs.Legal.{Orderly}
use Rattle.relay_core.proofs.Histories.{More, same, added, more, same_at, and_true}
use Rattle.relay_core.proofs.Scripts.{IsNestedIn}
use Rattle.relay_core.proofs.Boards.{le_or_eq, lt_or_eq}
use Rattle.relay_core.proofs.Keys.{prepare_of, one_prepare_of, is_prepare_event}
use Rattle.relay_core.proofs.Commits.{event_of, commit_of, end_of}
use Rattle.relay_core.proofs.Leases.{same_entry}

abbrev pub lasts : Event → Bool
lasts (Cell c) = is_lasting c
lasts (Board b) = false
lasts (Box b) = false

-- the lasting entries of a cell
abbrev pub lasting : List Entry → ℕ → ℕ → List CellEntry
lasting l place n = lasting_entries (cell_history l place n)

cell_nested : (c : CellEvent) → is_lasting c ≡ true → is_nested_cell c ≡ true
cell_nested (Prepare call legs keys dropped) q = refl
cell_nested (Commit signal) q = refl
cell_nested (Relay r) q = absurd (let e = q in cc)
cell_nested (Expire due) q = refl
cell_nested (Read log) q = refl
cell_nested End q = refl

pub lasts_nested : (v : Event) → lasts v ≡ true → is_nested v ≡ true
lasts_nested (Board b) q = absurd (let e = q in cc)
lasts_nested (Cell c) q = cell_nested c q
lasts_nested (Box b) q = absurd (let e = q in cc)

-- What one number adds.

pub data MoreLasting (l : List Entry) (place n : ℕ) : Type 0 where
  nothing : lasting l place (suc n) ≡ lasting l place n → ((e : Entry) → In e l → e.place ≡ place → e.number ≡ n → lasts e.event ≡ true → ⊥) → MoreLasting l place n
  one : (e : Entry) (c : CellEntry) → In e l → e.place ≡ place → e.number ≡ n → e.event ≡ Cell c.event → is_lasting c.event ≡ true
      → lasting l place (suc n) ≡ c ∷ lasting l place n → MoreLasting l place n

no_cell : (moment : ℕ) (v : Event) → cell_at moment v ≡ None → lasts v ≡ true → ⊥
no_cell moment (Board b) q t = let e = t in cc
no_cell moment (Cell c) q t = let e = q in cc
no_cell moment (Box b) q t = let e = t in cc

more_case : (l : List Entry) (place n : ℕ) → ((e : Entry) → In e l → length (filter (is_at e.place e.number) l) ≡ 1) → (e : Entry) (c : CellEntry) → In e l → e.place ≡ place
    → e.number ≡ n → e.event ≡ Cell c.event → cell_history l place (suc n) ≡ c ∷ cell_history l place n → (b : Bool) → is_lasting c.event ≡ b → MoreLasting l place n
more_case l place n numbered e c i p m v q true t =
    one e c i p m v t (ap (λ (h : List CellEntry). lasting_entries h) q ∙ ap (λ (b : Bool). cond b (c ∷ lasting l place n) (lasting l place n)) t)
more_case l place n numbered e c i p m v q false t =
    nothing (ap (λ (h : List CellEntry). lasting_entries h) q ∙ ap (λ (b : Bool). cond b (c ∷ lasting l place n) (lasting l place n)) t)
    (λ f j fp fm u. let same_one = same_at l numbered f e j i (fp ∙ sym p) (fm ∙ sym m) in
    let w : lasts f.event ≡ false = ap (λ (x : Entry). lasts x.event) same_one ∙ ap lasts v ∙ t in
    let z = u in cc)

more_by : (l : List Entry) (place n : ℕ) → ((e : Entry) → In e l → length (filter (is_at e.place e.number) l) ≡ 1) → More cell_entry l place n → MoreLasting l place n
more_by l place n numbered (same q none) =
    nothing (ap (λ (h : List CellEntry). lasting_entries h) q) (λ e i p m t. no_cell e.moment e.event (none e i p m) t)
more_by l place n numbered (added e c i p m h q) = more_case l place n numbered e c i p m (event_of e c h) q (is_lasting c.event) refl

pub more_lasting : (l : List Entry) (place n : ℕ) → ((e : Entry) → In e l → length (filter (is_at e.place e.number) l) ≡ 1) → MoreLasting l place n
more_lasting l place n numbered = more_by l place n numbered (more cell_entry l numbered place n)

-- Where nothing lasting has a number from the first to below the second, they have the same lasting entries.

still_more : (l : List Entry) (place m n : ℕ) → m < suc n → ((e : Entry) → In e l → e.place ≡ place → lasts e.event ≡ true → m ≤ e.number → e.number < suc n → ⊥)
    → lasting l place n ≡ lasting l place m → MoreLasting l place n → lasting l place (suc n) ≡ lasting l place m
still_more l place m n low none rest (nothing q empty) = q ∙ rest
still_more l place m n low none rest (one e c i p k v t q) = absurd (none e i p (ap lasts v ∙ t) (omega (arith, low, k)) (omega (arith, k)))

still_case : (l : List Entry) (place m n : ℕ) → ((e : Entry) → In e l → length (filter (is_at e.place e.number) l) ≡ 1)
    → ((e : Entry) → In e l → e.place ≡ place → lasts e.event ≡ true → m ≤ e.number → e.number < suc n → ⊥)
    → (m ≤ n → lasting l place n ≡ lasting l place m) → (m < suc n) ⊎ (m ≡ suc n) → lasting l place (suc n) ≡ lasting l place m
still_case l place m n numbered none rest (inl h) = still_more l place m n h none (rest (omega (arith, h))) (more_lasting l place n numbered)
still_case l place m n numbered none rest (inr q) = ap (λ (k : ℕ). lasting l place k) (sym q)

pub still : (l : List Entry) (place m n : ℕ) → ((e : Entry) → In e l → length (filter (is_at e.place e.number) l) ≡ 1) → m ≤ n
    → ((e : Entry) → In e l → e.place ≡ place → lasts e.event ≡ true → m ≤ e.number → e.number < n → ⊥) → lasting l place n ≡ lasting l place m
still l place m zero numbered h none = let is_zero : m ≡ 0 = omega (arith, h) in ap (λ (k : ℕ). lasting l place k) (sym is_zero)
still l place m (suc n) numbered h none =
    still_case l place m n numbered none (λ k. still l place m n numbered k (λ e i p t low high. none e i p t low (omega (arith, high)))) (le_or_eq m n h)

here_case : (l : List Entry) (place : ℕ) → ((e : Entry) → In e l → length (filter (is_at e.place e.number) l) ≡ 1) → (g : Entry) → In g l → g.place ≡ place
    → (v : CellEvent) → g.event ≡ Cell v → is_lasting v ≡ true → MoreLasting l place g.number
    → (c : CellEntry) × (c.event ≡ v) × (lasting l place (suc g.number) ≡ c ∷ lasting l place g.number)
here_case l place numbered g i p v q t (nothing r empty) = absurd (empty g i p refl (ap lasts q ∙ t))
here_case l place numbered g i p v q t (one e c j at m u s r) =
    let same_one = same_at l numbered e g j i (at ∙ sym p) m in
    let events : Cell c.event ≡ Cell v = sym u ∙ ap (λ (x : Entry). x.event) same_one ∙ q in
    (c, (let e = events in cc), r)

-- a lasting entry stands after those before it, and before those after it
pub after_it : (l : List Entry) (place n : ℕ) → ((e : Entry) → In e l → length (filter (is_at e.place e.number) l) ≡ 1) → (g : Entry) → In g l → g.place ≡ place
    → (v : CellEvent) → g.event ≡ Cell v → is_lasting v ≡ true → g.number < n
    → ((e : Entry) → In e l → e.place ≡ place → lasts e.event ≡ true → g.number < e.number → e.number < n → ⊥)
    → (c : CellEntry) × (c.event ≡ v) × (lasting l place n ≡ c ∷ lasting l place g.number)
after_it l place n numbered g i p v q t low none =
    let here = here_case l place numbered g i p v q t (more_lasting l place g.number numbered) in
    (here.0, here.1, still l place (suc g.number) n numbered (omega (arith, low)) (λ e j at u from below. none e j at u (omega (arith, from)) below) ∙ here.2)

-- After an End after which nothing but Ends lasts, nothing has lasted since the last End.

ends_more : (l : List Entry) (place m n : ℕ) → m < suc n → ((e : Entry) → In e l → e.place ≡ place → lasts e.event ≡ true → m ≤ e.number → e.number < suc n → e.event ≡ Cell End)
    → (m < n → since_end (lasting l place n) ≡ []) → (g : Entry) → In g l → g.place ≡ place → g.number ≡ m → g.event ≡ Cell End
    → (m < n) ⊎ (m ≡ n) → MoreLasting l place n → since_end (lasting l place (suc n)) ≡ []
ends_more l place m n low only_ends rest g i p is event (inl h) (nothing q empty) = ap (λ (t : List CellEntry). since_end t) q ∙ rest h
ends_more l place m n low only_ends rest g i p is event (inr h) (nothing q empty) = absurd (empty g i p (is ∙ h) (ap lasts event))
ends_more l place m n low only_ends rest g i p is event h (one e c j at k v t q) =
    let ends : Cell c.event ≡ Cell End = sym v ∙ only_ends e j at (ap lasts v ∙ t) (omega (arith, low, k)) (omega (arith, k)) in
    let event_is : c.event ≡ End = (let w = ends in cc) in
    ap (λ (t : List CellEntry). since_end t) q ∙ since_at_end c (lasting l place n) (ap Rattle.call_cell.specs.Cells.ends event_is)

pub since_ends : (l : List Entry) (place m n : ℕ) → ((e : Entry) → In e l → length (filter (is_at e.place e.number) l) ≡ 1) → m < n
    → ((e : Entry) → In e l → e.place ≡ place → lasts e.event ≡ true → m ≤ e.number → e.number < n → e.event ≡ Cell End)
    → (g : Entry) → In g l → g.place ≡ place → g.number ≡ m → g.event ≡ Cell End → since_end (lasting l place n) ≡ []
since_ends l place m zero numbered low only_ends g i p is event = absurd (omega (arith, low))
since_ends l place m (suc n) numbered low only_ends g i p is event =
    ends_more l place m n low only_ends
    (λ h. since_ends l place m n numbered h (λ e j at t from below. only_ends e j at t from (omega (arith, below))) g i p is event)
    g i p is event (lt_or_eq m n low) (more_lasting l place n numbered)

-- Of which board entry a lasting entry is.

-- what a board entry's lasting entry at a place is
pub data Owner (x : BoardEntry) (place : ℕ) (v : Event) : Type 0 where
  prepared : (p : act.Offer) → act.act x ≡ act.Offered p → p.of.cell ≡ place → v ≡ Cell (Prepare p.of.number p.legs p.keys p.dropped) → Owner x place v
  committed : (a : act.Answer) → act.act x ≡ act.Answered a → a.of.cell ≡ place → v ≡ Cell (Commit a.signal) → Owner x place v
  ended : (d : Call) → In d (ended_by x) → d.cell ≡ place → v ≡ Cell End → Owner x place v

module _ (config : Config) (l : List Entry) (o : Orderly config l) (b : Entry) (x : BoardEntry) (i : In b l) (is : board_entry b ≡ Some x) where
  its_entry : (f : Entry) → (n : IsNestedIn config l f) → f.board ≡ b.number → n.entry ≡ x
  its_entry f n q = same_entry l o.numbered n.board b n.entry x n.is_in i n.at_board (o.board_fits b x i is).0 (n.number_is ∙ q) n.is is

  owner_prepare : (f : Entry) → In f l → f.board ≡ b.number → (call : ℕ) (legs : List Holder) (keys : List NewKey) (dropped : List ℕ)
      → f.event ≡ Cell (Prepare call legs keys dropped) → Owner x f.place f.event
  owner_prepare f j q call legs keys dropped v =
      let p = prepare_of config l o f j call legs keys dropped v in
      let events : Prepare call legs keys dropped ≡ Prepare p.offer.of.number p.offer.legs p.offer.keys p.offer.dropped
      = ap (λ (n : ℕ). Prepare n legs keys dropped) p.call_is ∙ ap (λ (hs : List Holder). Prepare p.offer.of.number hs keys dropped) p.legs_are
      ∙ ap (λ (ks : List NewKey). Prepare p.offer.of.number p.offer.legs ks dropped) p.keys_are
      ∙ ap (λ (ns : List ℕ). Prepare p.offer.of.number p.offer.legs p.offer.keys ns) p.dropped_are in
      prepared p.offer (ap (λ (y : BoardEntry). act.act y) (sym (its_entry f p.nested q)) ∙ p.acts) (sym p.place_is) (v ∙ ap Cell events)

  owner_commit : (f : Entry) → In f l → f.board ≡ b.number → (signal : List SectionSignal) → f.event ≡ Cell (Commit signal) → Owner x f.place f.event
  owner_commit f j q signal v =
      let c = commit_of config l o f j signal v in
      committed c.answer (ap (λ (y : BoardEntry). act.act y) (sym (its_entry f c.nested q)) ∙ c.acts) (sym c.place_is)
      (v ∙ ap (λ (s : List SectionSignal). Cell (Commit s)) c.signal_is)

  owner_end : (f : Entry) → In f l → f.board ≡ b.number → f.event ≡ Cell End → Owner x f.place f.event
  owner_end f j q v =
      let e = end_of config l o f j v in
      ended e.of (subst (λ (y : BoardEntry). In e.of (ended_by y)) (its_entry f e.nested q) e.ended) (sym e.place_is) v

  owner_by : (f : Entry) → In f l → f.board ≡ b.number → (v : Event) → f.event ≡ v → lasts v ≡ true → Owner x f.place f.event
  owner_by f j q (Board e) v t = absurd (let w = t in cc)
  owner_by f j q (Box e) v t = absurd (let w = t in cc)
  owner_by f j q (Cell (Prepare call legs keys dropped)) v t = owner_prepare f j q call legs keys dropped v
  owner_by f j q (Cell (Commit signal)) v t = owner_commit f j q signal v
  owner_by f j q (Cell (Relay r)) v t = absurd (let w = t in cc)
  owner_by f j q (Cell (Expire due)) v t = absurd (let w = t in cc)
  owner_by f j q (Cell (Read log)) v t = absurd (let w = t in cc)
  owner_by f j q (Cell End) v t = owner_end f j q v

  pub owner : (f : Entry) → In f l → f.board ≡ b.number → lasts f.event ≡ true → Owner x f.place f.event
  owner f j q t = owner_by f j q f.event refl t

-- A script has one Commit.

abbrev is_commit_event : Event → Bool
is_commit_event (Cell (Commit signal)) = true
is_commit_event _ = false

abbrev commits_it : Owed → Bool
commits_it w = is_commit_event w.event

no_closing : (config : Config) (legs : List Holder) → filter commits_it (map (closing config) legs) ≡ []
no_closing config [] = refl
no_closing config (leg ∷ legs) = no_closing config legs

answer_script : (config : Config) (h : List BoardEntry) (moment : ℕ) (v : BoardEvent) (a : act.Answer) → act.act_in v ≡ act.Answered a
    → script config h (record { moment = moment; event = v }) ≡ in_cell a.of (Commit a.signal) ∷ closings config h (record { moment = moment; event = v }) a.of
answer_script config h moment (Turn c) a q = ap (script_of_act config h (record { moment = moment; event = Turn c }) c) q
answer_script config h moment (Tick calls) a q = absurd (let k = q in cc)
answer_script config h moment (Stop calls) a q = absurd (let k = q in cc)

one_commit : (config : Config) (h : List BoardEntry) (e : BoardEntry) (a : act.Answer) → act.act e ≡ act.Answered a
    → length (filter commits_it (script config h e)) ≡ 1
one_commit config h e a q =
    ap (λ (ws : List Owed). length (filter commits_it ws)) (answer_script config h e.moment e.event a q)
    ∙ ap (λ (ws : List Owed). suc (length ws)) (no_closing config (closed_of h e a.of))

count_case : {A B : Type 0} (f : A → B) (p : B → Bool) (x : A) (xs : List A)
    → length (filter (λ y. p (f y)) xs) ≡ length (filter p (map f xs)) → (b : Bool)
    → length (cond b (x ∷ filter (λ y. p (f y)) xs) (filter (λ y. p (f y)) xs)) ≡ length (cond b (f x ∷ filter p (map f xs)) (filter p (map f xs)))
count_case f p x xs rest true = ap (λ n. suc n) rest
count_case f p x xs rest false = rest

same_count : {A B : Type 0} (f : A → B) (p : B → Bool) (xs : List A) → length (filter (λ x. p (f x)) xs) ≡ length (filter p (map f xs))
same_count f p [] = refl
same_count f p (x ∷ xs) = count_case f p x xs (same_count f p xs) (p (f x))

belongs : (n : ℕ) (e : Entry) → is_nested e.event ≡ true → e.board ≡ n → belongs_to n e ≡ true
belongs n e t q = and_true (is_nested e.event) (e.board == n) t (equal e.board n q)

-- two Commits of one board entry are one
pub one_commit_of : (config : Config) (l : List Entry) → Orderly config l → (b : Entry) (x : BoardEntry) (a : act.Answer) → In b l → board_entry b ≡ Some x
    → act.act x ≡ act.Answered a → (e f : Entry) → In e l → In f l → e.board ≡ b.number → f.board ≡ b.number
    → (s t : List SectionSignal) → e.event ≡ Cell (Commit s) → f.event ≡ Cell (Commit t) → e ≡ f
one_commit_of config l o b x a i q acts e f j k p r s t u v =
    let nested = filter (belongs_to b.number) l in
    let count = same_count owed_by commits_it nested in
    let scripted : length (filter commits_it (map owed_by nested)) ≡ length (filter commits_it (script config (board_history l b.number) x)) =
    ap (λ ws. length (filter commits_it ws)) (o.scripted b x i (o.board_fits b x i q).0 q) in
    only (filter (λ (d : Entry). commits_it (owed_by d)) nested)
    (count ∙ scripted ∙ one_commit config (board_history l b.number) x a acts)
    (keeps (λ (d : Entry). commits_it (owed_by d)) nested (keeps (belongs_to b.number) l j (belongs b.number e (ap is_nested u) p)) (ap is_commit_event u))
    (keeps (λ (d : Entry). commits_it (owed_by d)) nested (keeps (belongs_to b.number) l k (belongs b.number f (ap is_nested v) r)) (ap is_commit_event v))

-- so are two Prepares
pub one_prepare_at : (config : Config) (l : List Entry) → Orderly config l → (b : Entry) (x : BoardEntry) (p : act.Offer) → In b l → board_entry b ≡ Some x
    → act.act x ≡ act.Offered p → (e f : Entry) → In e l → In f l → e.board ≡ b.number → f.board ≡ b.number
    → (c d : ℕ) (legs hs : List Holder) (keys ks : List NewKey) (dropped ns : List ℕ) → e.event ≡ Cell (Prepare c legs keys dropped) → f.event ≡ Cell (Prepare d hs ks ns) → e ≡ f
one_prepare_at config l o b x p i q acts e f j k m n c d legs hs keys ks dropped ns u v =
    one_prepare_of config l o b x p i q acts e f j k (belongs b.number e (ap is_nested u) m) (belongs b.number f (ap is_nested v) n)
    (ap is_prepare_event u) (ap is_prepare_event v)

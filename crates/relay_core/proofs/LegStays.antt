-- While a cell has a leg, no offer adds another one for its section and side.
use Rattle.std.proofs.Common.{◌≡◌, ◌∙◌, sym, ap, subst, refl, ℕ, zero, suc, ◌<◌, ◌≤◌, ◌⊎◌, inl, inr, List, [], ◌∷◌, true, false, Some, map, arith}
use Rattle.relay_outside.specs.declared.settings.Config.{Config}
use Rattle.histories.specs.Words.{In, here, there, has}
use Rattle.port_pool.specs.declared.holder.Side.{Side}
use Rattle.port_pool.specs.declared.holder.Holder.{Holder}
use Rattle.port_pool.specs.Signals.{NewKey, is_rejected}
use Rattle.offer_answer.specs.Rounds.{NewLeg}
use Rattle.offer_answer.specs.Sections.{has_pairs}
use Rattle.offer_answer.specs.Plan as plan
use Rattle.offer_answer.specs.Laws.{leg_place, new_leg_place}
use Rattle.offer_answer.proofs.Numbers.{Ordered}
use Rattle.offer_answer.proofs.Demanded.{AreLegsApart, new_legs-apart}
use Rattle.call_cell.specs.Cells.{CellEvent, CellEntry, Prepare, Commit, is_end, since_end, takes_away, legs}
use Rattle.call_cell.proofs.Legs.{leg_added, adds_prepares}
use Rattle.call_board.specs.Acts.{Call, BoardEntry}
use Rattle.call_board.specs.Calls.{live, rounds}
use Rattle.call_board.proofs.Tells.{answer_told}
use Rattle.relay_core.specs.Entries.{Cell, Entry, is_nested, board_entry, board_history, cell_entry, cell_history}
use Rattle.relay_core.specs.Scripts.{Owed, in_cell}
use Rattle.relay_core.specs.Legal.{Orderly}
use Rattle.relay_core.proofs.Histories.{good_history, same_at, More, same, added, more, entry_since}
use Rattle.relay_core.proofs.Scripts.{is_made, has_prepare, has_commit}
use Rattle.relay_core.proofs.Boards.{lt_or_eq, less_or, moment}
use Rattle.relay_core.proofs.Keys.{IsPrepareOf, prepare_of, one_prepare_of, belongs, is_prepare_event}
use Rattle.relay_core.proofs.Commits.{event_of, entry_of}
use Rattle.relay_core.proofs.Lives.{not_after, live_same}
use Rattle.relay_core.proofs.Relays.{calls_agree}
use Rattle.relay_core.proofs.Plans.{offer_live}
use Rattle.relay_core.proofs.LegEntries.{behind}
use Rattle.relay_core.proofs.Rounded.{small, new_without, pairs_offer, pairs_answer, pairs_new}
use Rattle.relay_core.proofs.CallRounds.{MoreRounds, none, by_offer, by_answer, more_rounds, rounds_offer, offer_round, answer_round, good_rounds}

-- The Prepare that added a leg which the cell has; no entry took the leg's section away since, and no End stands since.
pub record IsAdded (config : Config) (l : List Entry) (place n : ℕ) (leg : Holder) : Type 0 where
  pub entry : Entry
  pub is_in : In entry l
  pub at : entry.place ≡ place
  pub below : entry.number < n
  pub call : ℕ
  pub legs : List Holder
  pub keys : List NewKey
  pub dropped : List ℕ
  pub event : entry.event ≡ Cell (Prepare call legs keys dropped)
  pub of : IsPrepareOf config l entry call legs keys dropped
  pub has_leg : In leg legs
  pub stays : (f : Entry) (d : CellEntry) → In f l → f.place ≡ place → entry.number < f.number → f.number < n → cell_entry f ≡ Some d
      → (takes_away d.event leg.section ≡ false) × (is_end d ≡ false)

pub is_added : (config : Config) (l : List Entry) → Orderly config l → (place n : ℕ) (leg : Holder)
    → In leg (legs (since_end (cell_history l place n))) → IsAdded config l place n leg
is_added config l o place n leg i =
    let a = leg_added (since_end (cell_history l place n)) leg i in
    let b = behind l o.numbered place n a.newer a.older a.entry a.splits in
    let p = adds_prepares a.entry a.adds in
    let event : b.entry.event ≡ Cell (Prepare p.0.call p.0.legs p.0.keys p.0.dropped) = event_of b.entry a.entry b.is ∙ ap Cell p.0.is_it in
    record {
      entry = b.entry;
      is_in = b.is_in;
      at = b.at;
      below = b.below;
      call = p.0.call;
      legs = p.0.legs;
      keys = p.0.keys;
      dropped = p.0.dropped;
      event = event;
      of = prepare_of config l o b.entry b.is_in p.0.call p.0.legs p.0.keys p.0.dropped event;
      has_leg = p.1;
      stays = λ f d j q low high h. (let x = b.later_in f d j q low high h in (a.stays d x.0, x.1));
    }

abbrev prepare_at : ℕ → ℕ → List Holder → List NewKey → List ℕ → CellEntry
prepare_at moment call legs keys dropped = record { moment = moment; event = Prepare call legs keys dropped }

-- In what follows a leg was added to a cell, and another one later, while the cell still had the first one.
module _ (config : Config) (l : List Entry) (o : Orderly config l) (place m n : ℕ) (a b : Holder) (s : IsAdded config l place m a) (t : IsAdded config l place n b)
    (first : s.entry.number < t.entry.number) (within : t.entry.number < m) where
  -- both are of one call
  one_number : s.of.offer.of.number ≡ t.of.offer.of.number
  one_number =
      let c = prepare_at s.entry.moment s.call s.legs s.keys s.dropped in
      let d = prepare_at t.entry.moment t.call t.legs t.keys t.dropped in
      let is_c : cell_entry s.entry ≡ Some c = entry_of s.entry.moment s.entry.event c.event s.event in
      let is_d : cell_entry t.entry ≡ Some d = entry_of t.entry.moment t.entry.event d.event t.event in
      let in_c : In c (since_end (cell_history l place m)) = entry_since l o.numbered place m c (record {
        entry = s.entry;
        is_in = s.is_in;
        at = s.at;
        below = s.below;
        is = is_c;
        no_end = refl;
        none_later = λ f x i p low high h. (s.stays f x i p low high h).1;
      }) in
      let in_d : In d (since_end (cell_history l place m)) = entry_since l o.numbered place m d (record {
        entry = t.entry;
        is_in = t.is_in;
        at = t.at;
        below = within;
        is = is_d;
        no_end = refl;
        none_later = λ f x i p low high h. (s.stays f x i p (omega (arith, first, low)) high h).1;
      }) in
      sym s.of.call_is ∙ calls_agree config l o place m c d s.call t.call in_c in_d refl refl ∙ t.of.call_is

  abbrev number : ℕ
  number = s.of.offer.of.number

  -- the board's entry of the first stands before that of the second
  boards : s.of.nested.board.number < t.of.nested.board.number
  boards = by_order (lt_or_eq s.of.nested.board.number t.of.nested.board.number at_most)
    where
      at_most : s.of.nested.board.number < suc t.of.nested.board.number
      at_most =
          let h = not_after config l o s.entry t.entry s.is_in t.is_in (ap is_nested s.event) (ap is_nested t.event) (s.at ∙ sym t.at) first in
          let x : s.of.nested.board.number ≡ s.entry.board = s.of.nested.number_is in
          let y : t.of.nested.board.number ≡ t.entry.board = t.of.nested.number_is in
          omega (arith, h, x, y)

      by_order : (s.of.nested.board.number < t.of.nested.board.number) ⊎ (s.of.nested.board.number ≡ t.of.nested.board.number)
          → s.of.nested.board.number < t.of.nested.board.number
      by_order (inl h) = h
      by_order (inr q) =
          let c = s.of.nested in
          let one = one_prepare_of config l o c.board c.entry s.of.offer c.is_in c.is s.of.acts s.entry t.entry s.is_in t.is_in
          (belongs c.board.number s.entry (ap is_nested s.event) (sym c.number_is))
          (belongs c.board.number t.entry (ap is_nested t.event) (sym t.of.nested.number_is ∙ sym q))
          (ap is_prepare_event s.event) (ap is_prepare_event t.event) in
          let numbers : s.entry.number ≡ t.entry.number = ap (λ (x : Entry). x.number) one in
          absurd (omega (arith, first, numbers))

  -- what belongs to a board entry between them took the first leg's section not away
  none_taken : (g : Entry) (v : CellEvent) → In g l → g.place ≡ place → g.event ≡ Cell v → is_nested g.event ≡ true
      → s.of.nested.board.number < g.board → g.board < t.of.nested.board.number → takes_away v a.section ≡ false
  none_taken g v i at event nested low high =
      (s.stays g (record { moment = g.moment; event = v }) i at (above (less_or s.entry.number g.number)) (under (less_or g.number t.entry.number))
      (entry_of g.moment g.event v event)).0
    where
      above : (s.entry.number < g.number) ⊎ ((s.entry.number ≡ g.number) ⊎ (g.number < s.entry.number)) → s.entry.number < g.number
      above (inl h) = h
      above (inr (inl h)) =
          let one : s.entry.board ≡ g.board = ap (λ (x : Entry). x.board) (same_at l o.numbered s.entry g s.is_in i (s.at ∙ sym at) h) in
          let x : s.of.nested.board.number ≡ s.entry.board = s.of.nested.number_is in
          absurd (omega (arith, one, x, low))
      above (inr (inr h)) =
          let k = not_after config l o g s.entry i s.is_in nested (ap is_nested s.event) (at ∙ sym s.at) h in
          let x : s.of.nested.board.number ≡ s.entry.board = s.of.nested.number_is in
          absurd (omega (arith, k, x, low))

      under : (g.number < t.entry.number) ⊎ ((g.number ≡ t.entry.number) ⊎ (t.entry.number < g.number)) → g.number < m
      under (inl h) = omega (arith, h, within)
      under (inr (inl h)) = omega (arith, h, within)
      under (inr (inr h)) =
          let k = not_after config l o t.entry g t.is_in i (ap is_nested t.event) nested (t.at ∙ sym at) h in
          let x : t.of.nested.board.number ≡ t.entry.board = t.of.nested.number_is in
          absurd (omega (arith, k, x, high))

  first_live : In s.of.offer.of (live (board_history l (suc s.of.nested.board.number)))
  first_live = let c = s.of.nested in offer_live config l o c.board c.entry s.of.offer c.is_in c.is s.of.acts

  -- the cell of a call with that number, live at some moment
  its_cell : (k : ℕ) (of : Call) → In of (live (board_history l k)) → of.number ≡ number → of.cell ≡ place
  its_cell k of i q =
      ap (λ (c : Call). c.cell) (live_same config l o k (suc s.of.nested.board.number) of s.of.offer.of i first_live q) ∙ sym s.of.place_is ∙ s.at

  -- a round between them leaves the section its pairs
  round_keeps : (e : Entry) (x : BoardEntry) → In e l → board_entry e ≡ Some x → s.of.nested.board.number < e.number → e.number < t.of.nested.board.number
      → has_pairs (rounds (board_history l e.number) number) a.section ≡ true → MoreRounds (board_history l e.number) x number
      → has_pairs (rounds (x ∷ board_history l e.number) number) a.section ≡ true
  round_keeps e x i is low high had (none q) = ap (λ rs. has_pairs rs a.section) q ∙ had
  round_keeps e x i is low high had (by_offer p acts same_number q) =
      let h = board_history l e.number in
      let good = good_history config l o e.number in
      let fits = (o.board_fits e x i is).1 in
      let r = offer_round config h x p good fits acts in
      let g = good_rounds config h number good in
      let v = Prepare p.of.number p.legs p.keys p.dropped in
      let made = is_made config l o e x i is (in_cell p.of v) (has_prepare config h x p acts) in
      let at : made.entry.place ≡ place = ap (λ (w : Owed). w.place) made.is ∙ its_cell (suc e.number) p.of (offer_live config l o e x p i is acts) same_number in
      let board : made.entry.board ≡ e.number = made.board_is in
      let stays : has p.dropped a.section ≡ false =
      none_taken made.entry v made.is_in at (ap (λ (w : Owed). w.event) made.is) made.nested (omega (arith, low, board)) (omega (arith, high, board)) in
      let comes = subst (λ k. Rattle.offer_answer.specs.Laws.IsOfferRound (rounds h k) p.ask p.legs p.keys) same_number r.comes in
      let dropped : p.dropped ≡ (plan.demand (rounds h number) p.ask).dropped =
      r.dropped_are ∙ ap (λ k. (plan.demand (rounds h k) p.ask).dropped) same_number in
      ap (λ rs. has_pairs rs a.section) q
      ∙ pairs_offer (rounds h number) p.ask p.legs p.keys a.section comes (small (rounds h number) g.come g.few a.section had) had
      (subst (λ ds. has ds a.section ≡ false) dropped stays)
  round_keeps e x i is low high had (by_answer c acts same_number q) =
      let h = board_history l e.number in
      let good = good_history config l o e.number in
      let fits = (o.board_fits e x i is).1 in
      let shown = answer_told config h x c fits acts in
      let g = good_rounds config h number good in
      let made = is_made config l o e x i is (in_cell c.of (Commit c.signal)) (has_commit config h x c acts) in
      let at : made.entry.place ≡ place = ap (λ (w : Owed). w.place) made.is ∙ its_cell e.number c.of shown.is_live same_number in
      let board : made.entry.board ≡ e.number = made.board_is in
      let stays : is_rejected c.signal a.section ≡ false =
      none_taken made.entry (Commit c.signal) made.is_in at (ap (λ (w : Owed). w.event) made.is) made.nested (omega (arith, low, board)) (omega (arith, high, board)) in
      let comes = subst (λ k. Rattle.offer_answer.specs.Laws.IsAnswerRound (rounds h k) c.ask) same_number (answer_round config h x c fits acts) in
      let signal : c.signal ≡ plan.signal (rounds h number) c.ask = shown.signal_is ∙ ap (λ k. plan.signal (rounds h k) c.ask) same_number in
      ap (λ rs. has_pairs rs a.section) q
      ∙ pairs_answer (rounds h number) c.ask a.section g.come comes had (subst (λ signals. is_rejected signals a.section ≡ false) signal stays)

  number_keeps : (k : ℕ) → s.of.nested.board.number < k → k < t.of.nested.board.number → has_pairs (rounds (board_history l k) number) a.section ≡ true
      → More board_entry l 0 k → has_pairs (rounds (board_history l (suc k)) number) a.section ≡ true
  number_keeps k low high had (same q nothing) = subst (λ h. has_pairs (rounds h number) a.section ≡ true) (sym q) had
  number_keeps k low high had (added e x i p is h q) =
      let at = subst (λ z. has_pairs (rounds (board_history l z) number) a.section ≡ true) (sym is) had in
      let next = round_keeps e x i h (omega (arith, low, is)) (omega (arith, high, is)) at (more_rounds (board_history l e.number) x number) in
      subst (λ z. has_pairs (rounds z number) a.section ≡ true) (sym q) (subst (λ z. has_pairs (rounds (x ∷ board_history l z) number) a.section ≡ true) is next)

  -- after the offer that added it
  at_first : has_pairs (rounds (board_history l (suc s.of.nested.board.number)) number) a.section ≡ true
  at_first =
      let c = s.of.nested in
      let p = s.of.offer in
      let has_leg : In a p.legs = subst (λ ls. In a ls) s.of.legs_are s.has_leg in
      let round_is = rounds_offer (board_history l c.board.number) c.entry p s.of.acts in
      subst (λ h. has_pairs (rounds h number) a.section ≡ true) (sym (moment config l o c.board c.entry c.is_in c.is))
      (ap (λ rs. has_pairs rs a.section) round_is ∙ pairs_new p.ask p.legs p.keys (rounds (board_history l c.board.number) number) a has_leg)

  until_case : (k : ℕ) → (s.of.nested.board.number < k → has_pairs (rounds (board_history l k) number) a.section ≡ true) → k < t.of.nested.board.number
      → (s.of.nested.board.number < k) ⊎ (s.of.nested.board.number ≡ k) → has_pairs (rounds (board_history l (suc k)) number) a.section ≡ true
  until_case k rest high (inl h) = number_keeps k h high (rest h) (more board_entry l o.numbered 0 k)
  until_case k rest high (inr q) = subst (λ z. has_pairs (rounds (board_history l (suc z)) number) a.section ≡ true) q at_first

  keeps_until : (k : ℕ) → s.of.nested.board.number < k → k ≤ t.of.nested.board.number → has_pairs (rounds (board_history l k) number) a.section ≡ true
  keeps_until zero low high = absurd (omega (arith, low))
  keeps_until (suc k) low high =
      until_case k (λ h. keeps_until k h (omega (arith, high))) (omega (arith, high)) (lt_or_eq s.of.nested.board.number k low)

  -- so the second leg is of another section
  pub other_section : a.section ≡ b.section → ⊥
  other_section q =
      let c = t.of.nested in
      let p = t.of.offer in
      let h = board_history l c.board.number in
      let r = offer_round config h c.entry p (good_history config l o c.board.number) c.fits t.of.acts in
      let nothing = new_without (rounds h p.of.number) p.ask p.legs p.keys r.comes b (subst (λ ls. In b ls) t.of.legs_are t.has_leg) in
      let something = keeps_until c.board.number boards (omega arith) in
      let same_rounds : has_pairs (rounds h number) a.section ≡ has_pairs (rounds h p.of.number) b.section =
      ap (λ k. has_pairs (rounds h k) a.section) one_number ∙ ap (λ k. has_pairs (rounds h p.of.number) k) q in
      let clash : true ≡ false = sym something ∙ same_rounds ∙ nothing in
      cc

-- Two legs of one offer differ in section or side.
place_in : (ls : List Holder) (ns : List NewLeg) (leg : Holder) → map leg_place ls ≡ map new_leg_place ns → In leg ls
    → (l : NewLeg) × In l ns × (leg.section ≡ l.section) × (leg.side ≡ l.side)
place_in [] ns leg q i = elim i [ ]
place_in (x ∷ ls) [] leg q i = absurd (let k = q in cc)
place_in (x ∷ ls) (y ∷ ns) leg q (here e) =
    let heads : leg_place x ≡ new_leg_place y = cc in
    (y, here refl, ap (λ (z : Holder). z.section) e ∙ ap (λ (z : ℕ × Side). z.0) heads, ap (λ (z : Holder). z.side) e ∙ ap (λ (z : ℕ × Side). z.1) heads)
place_in (x ∷ ls) (y ∷ ns) leg q (there i) =
    let tails : map leg_place ls ≡ map new_leg_place ns = cc in
    let r = place_in ls ns leg tails i in (r.0, there r.1, r.2, r.3)

one_of_two : (ls : List Holder) (ns : List NewLeg) (a b : Holder) → map leg_place ls ≡ map new_leg_place ns → Ordered AreLegsApart ns
    → In a ls → In b ls → a.section ≡ b.section → a.side ≡ b.side → a ≡ b
one_of_two [] ns a b q apart i j s t = elim i [ ]
one_of_two (x ∷ ls) [] a b q apart i j s t = absurd (let k = q in cc)
one_of_two (x ∷ ls) (y ∷ ns) a b q apart (here e) (here f) s t = e ∙ sym f
one_of_two (x ∷ ls) (y ∷ ns) a b q apart (there i) (there j) s t =
    let tails : map leg_place ls ≡ map new_leg_place ns = cc in one_of_two ls ns a b tails apart.1 i j s t
one_of_two (x ∷ ls) (y ∷ ns) a b q apart (here e) (there j) s t =
    let heads : leg_place x ≡ new_leg_place y = cc in
    let tails : map leg_place ls ≡ map new_leg_place ns = cc in
    let r = place_in ls ns b tails j in
    absurd (apart.0 r.0 r.1
    (sym (ap (λ (z : ℕ × Side). z.0) heads) ∙ ap (λ (z : Holder). z.section) (sym e) ∙ s ∙ r.2)
    (sym (ap (λ (z : ℕ × Side). z.1) heads) ∙ ap (λ (z : Holder). z.side) (sym e) ∙ t ∙ r.3))
one_of_two (x ∷ ls) (y ∷ ns) a b q apart (there i) (here f) s t =
    let heads : leg_place x ≡ new_leg_place y = cc in
    let tails : map leg_place ls ≡ map new_leg_place ns = cc in
    let r = place_in ls ns a tails i in
    absurd (apart.0 r.0 r.1
    (sym (ap (λ (z : ℕ × Side). z.0) heads) ∙ ap (λ (z : Holder). z.section) (sym f) ∙ sym s ∙ r.2)
    (sym (ap (λ (z : ℕ × Side). z.1) heads) ∙ ap (λ (z : Holder). z.side) (sym f) ∙ sym t ∙ r.3))

one_prepare : (config : Config) (l : List Entry) → Orderly config l → (place m n : ℕ) (a b : Holder) → (s : IsAdded config l place m a) → (t : IsAdded config l place n b)
    → s.entry ≡ t.entry → a.section ≡ b.section → a.side ≡ b.side → a ≡ b
one_prepare config l o place m n a b s t q section side =
    let c = s.of.nested in
    let p = s.of.offer in
    let h = board_history l c.board.number in
    let r = offer_round config h c.entry p (good_history config l o c.board.number) c.fits s.of.acts in
    let events : Cell (Prepare s.call s.legs s.keys s.dropped) ≡ Cell (Prepare t.call t.legs t.keys t.dropped) =
    sym s.event ∙ ap (λ (x : Entry). x.event) q ∙ t.event in
    let legs_one : s.legs ≡ t.legs = cc in
    one_of_two p.legs (plan.demand (rounds h p.of.number) p.ask).pairs a b r.comes.leased (new_legs-apart (rounds h p.of.number) p.ask)
    (subst (λ ls. In a ls) s.of.legs_are s.has_leg)
    (subst (λ ls. In b ls) (sym legs_one ∙ s.of.legs_are) t.has_leg) section side

-- Two legs of a cell's section and side, each of which the cell still had when the other was added, are one.
pub one_leg_of : (config : Config) (l : List Entry) → Orderly config l → (place m n : ℕ) (a b : Holder) → (s : IsAdded config l place m a) → (t : IsAdded config l place n b)
    → s.entry.number < n → t.entry.number < m → a.section ≡ b.section → a.side ≡ b.side → a ≡ b
one_leg_of config l o place m n a b s t low high section side = by_order (less_or s.entry.number t.entry.number)
  where
    by_order : (s.entry.number < t.entry.number) ⊎ ((s.entry.number ≡ t.entry.number) ⊎ (t.entry.number < s.entry.number)) → a ≡ b
    by_order (inl h) = absurd (other_section config l o place m n a b s t h high section)
    by_order (inr (inl h)) =
        one_prepare config l o place m n a b s t (same_at l o.numbered s.entry t.entry s.is_in t.is_in (s.at ∙ sym t.at) h) section side
    by_order (inr (inr h)) = absurd (other_section config l o place n m b a t s h low (sym section))

-- What an offer brings can come to its cell, and what an answer names are keys of its call's legs.
use Rattle.std.proofs.Common.{◌≡◌, ◌∙◌, sym, ap, subst, refl, ℕ, List, [], ◌∷◌, ◌++◌, true, false, Option, Some, None, map, true≢false, get_or, arith}
use Rattle.std.specs.Prelude.{◌==◌}
use Rattle.std.specs.List.{AllPairs}
use Rattle.std.proofs.lemmas.List.Kept.{AllPairs-cons}
use Rattle.relay_outside.specs.declared.settings.Config.{Config}
use Rattle.rtp_packet.specs.declared.head.Half.{Half}
use Rattle.histories.specs.Words.{In}
use Rattle.histories.proofs.Lists.{maps, in_left, in_right, keeps, equal}
use Rattle.port_pool.specs.Ports.{pair_family, half_port}
use Rattle.port_pool.specs.declared.holder.Side.{Side}
use Rattle.port_pool.specs.declared.holder.Side.TheVariants.{A, B}
use Rattle.port_pool.specs.declared.holder.Holder.{Holder}
use Rattle.port_pool.specs.declared.signal.LegSignal.{LegSignal}
use Rattle.port_pool.specs.Signals.{NewKey, side_eq}
use Rattle.offer_answer.specs.Rounds.{Round, OfferAsk, AnswerAsk, drawn_for}
use Rattle.offer_answer.specs.Rounds as round
use Rattle.offer_answer.specs.Sides.{is_begun}
use Rattle.offer_answer.specs.Sections.{leases, section_life, has_pairs}
use Rattle.offer_answer.specs.Keys as oa
use Rattle.offer_answer.specs.Plan.{demand, signal}
use Rattle.offer_answer.specs.Laws.{leg_place, new_leg_place, KeepsPairs, IsDrawnInLife}
use Rattle.offer_answer.proofs.Numbers.{Ordered, map-ordered}
use Rattle.offer_answer.proofs.Demanded.{AreLegsApart, new_legs-apart}
use Rattle.offer_answer.proofs.Drawn.{names_drawn_keys}
use Rattle.offer_answer.proofs.Lives.{LifeOf, begins, goes_on, is_over, life-step}
use Rattle.call_cell.specs.declared.leg.Leg.{Leg}
use Rattle.call_cell.specs.declared.prepare.Prepare as prepared
use Rattle.call_cell.specs.Cells.{CellEntry, legs, since_end, keys_in, key_numbered}
use Rattle.call_cell.specs.LegKeys.{keys_for, OnePerSuite}
use Rattle.call_cell.specs.LegHistories.{port_by}
use Rattle.call_cell.specs.Commits.{NamesKeys, said_of, outbound_in}
use Rattle.call_cell.specs.Preparations.{CanCome, AreTwo, added, prepare_entry}
use Rattle.call_cell.proofs.Few.{at_in}
use Rattle.call_cell.proofs.Legs.{same_leg_is}
use Rattle.call_cell.proofs.Splits.{both}
use Rattle.call_cell.proofs.NewKeys.{none_numbered}
use Rattle.call_cell.proofs.Nested.{turned, can_come_same, names_keys_same}
use Rattle.call_board.specs.Acts as act
use Rattle.call_board.specs.Acts.{BoardEntry}
use Rattle.call_board.specs.Calls.{rounds}
use Rattle.call_board.specs.Pairs.{Once}
use Rattle.call_board.specs.Fits.{FitsBoard, IsFitting}
use Rattle.call_board.proofs.Moments.{entry_fits}
use Rattle.call_board.proofs.Tells.{answer_told}
use Rattle.call_board.proofs.Free.{new_legs_once}
use Rattle.call_board.proofs.Keys.{key_between, keys_of_offer, drawn_grows, drawn_for_drew}
use Rattle.relay_core.specs.Entries.{Entry, cell_history, board_history}
use Rattle.relay_core.specs.Legal.{Orderly}
use Rattle.relay_core.proofs.Histories.{good_history}
use Rattle.relay_core.proofs.Turns.{IsAbove}
use Rattle.relay_core.proofs.Rounded.{entries_of, AreGood, new_within, new_without, stands, keys_drawn, keys_of_life}
use Rattle.relay_core.proofs.Suites.{one_suite}
use Rattle.relay_core.proofs.CallRounds.{rounds_offer, offer_round, lease_anew, good_rounds}
use Rattle.relay_core.proofs.Fronts.{live_cell_is, offer_cell_is}

-- The legs of an offer.

abbrev AreApart : ℕ × Side → ℕ × Side → Type 0
AreApart p q = p.0 ≡ q.0 → p.1 ≡ q.1 → ⊥

two_ordered : (xs : List Holder) → Once (map (λ (leg : Holder). leg.pair) xs) → Ordered AreApart (map leg_place xs) → Ordered AreTwo xs
two_ordered [] once apart = tt
two_ordered (x ∷ xs) once apart = (
  λ y i. record {
    lease = λ same.
        (let pairs = (same_leg_is x y same).1 in
        once.0 (subst (λ (n : ℕ). In n (map (λ (leg : Holder). leg.pair) xs)) (sym pairs) (maps (λ (leg : Holder). leg.pair) xs i)));
    place = λ sections sides. apart.0 (leg_place y) (maps leg_place xs i) sections sides;
  },
  two_ordered xs once.1 apart.1,
)

ordered_pairs : {X : Type 0} (R : X → X → Type 0) (xs : List X) → Ordered R xs → AllPairs R xs
ordered_pairs R [] o = λ i j d less below. absurd (omega (arith, below))
ordered_pairs R (x ∷ xs) o = AllPairs-cons R x xs (λ k d below. o.0 (get_or xs k d) (at_in xs k d below)) (ordered_pairs R xs o.1)

-- the new legs are of different pairs, and stand on different places
legs_are_two : (config : Config) (h : List BoardEntry) (x : BoardEntry) (p : act.Offer) → IsFitting config h → FitsBoard config h x → act.act x ≡ act.Offered p
    → AllPairs AreTwo p.legs
legs_are_two config h x p good fits q =
    let r = offer_round config h x p good fits q in
    let rs = rounds h p.of.number in
    let demanded : Ordered AreApart (map new_leg_place (demand rs p.ask).pairs)
    = map-ordered AreLegsApart AreApart new_leg_place (demand rs p.ask).pairs (new_legs-apart rs p.ask) (λ a b apart. apart) in
    ordered_pairs AreTwo p.legs
    (two_ordered p.legs (new_legs_once config h x p fits q) (subst (λ (ps : List (ℕ × Side)). Ordered AreApart ps) (sym r.comes.leased) demanded))

-- Keys.

-- the keys that came before have lower numbers
new_numbers : (config : Config) (h : List BoardEntry) (x : BoardEntry) (p : act.Offer) → IsFitting config h → FitsBoard config h x → act.act x ≡ act.Offered p
    → (key : NewKey) → In key p.keys → key_numbered (entries_of p.of.number (rounds h p.of.number)) key.number ≡ None
new_numbers config h x p good fits q key i = none_numbered (entries_of n rs) key.number none_has
  where
    n : ℕ
    n = p.of.number

    rs : List Round
    rs = rounds h p.of.number

    none_has : (other : NewKey) → In other (keys_in (entries_of n rs)) → other.number ≡ key.number → ⊥
    none_has other j same =
        let d = drawn_for_drew h n other (subst (λ (l : List NewKey). In other l) (keys_drawn n rs) j) in
        let low = (key_between config d.before d.entry d.offer other (entry_fits config d.entry d.before h d.late good) d.acts d.has_key).1 in
        let grows = drawn_grows (d.entry ∷ d.before) h d.late in
        let high = (key_between config h x p key fits q i).0 in
        omega (arith, low, grows, high, same)

-- After the offer each leg has one key for a suite.
abbrev OneEach : List CellEntry → Type 0
OneEach h = (leg : Holder) → In leg (legs h) → OnePerSuite (keys_for h leg)

one_each : (number : ℕ) (rs : List Round) → AreGood number rs → OneEach (entries_of number rs)
one_each number rs g leg i =
    subst (λ (ks : List NewKey). OnePerSuite ks) (sym (keys_of_life number rs g leg i)) (one_suite rs g.come leg.section leg.side)

one_each_after : (config : Config) (h : List BoardEntry) (x : BoardEntry) (p : act.Offer) → IsFitting config h → FitsBoard config h x → act.act x ≡ act.Offered p
    → (new : List Holder) → new ≡ p.legs → OneEach (prepare_entry 0 p.of.number new p.keys p.dropped ∷ entries_of p.of.number (rounds h p.of.number))
one_each_after config h x p good fits q new same =
    let n = p.of.number in
    let rs = rounds h n in
    let r = offer_round config h x p good fits q in
    let after = one_each n (rounds (x ∷ h) n) (good_rounds config (x ∷ h) n (fits, good)) in
    let owed : OneEach (prepare_entry 0 n p.legs p.keys (demand rs p.ask).dropped ∷ entries_of n rs)
    = subst (λ (ks : List Round). OneEach (entries_of n ks)) (rounds_offer h x p q) after in
    subst (λ (ls : List Holder). OneEach (prepare_entry 0 n ls p.keys p.dropped ∷ entries_of n rs)) (sym same)
    (subst (λ (ns : List ℕ). OneEach (prepare_entry 0 n p.legs p.keys ns ∷ entries_of n rs)) (sym r.dropped_are) owed)

-- An offer.

-- an accepted offer can come after the rounds of its call
comes_after : {O : Type 0} (config : Config) (h : List BoardEntry) (x : BoardEntry) (p : act.Offer) → IsFitting config h → FitsBoard config h x → act.act x ≡ act.Offered p
    → (brought : prepared.Prepare O) → added brought ≡ p.legs
    → ((leg : Leg O) → In leg brought.legs.items → (half : Half) → port_by half leg.lease.rtp_port ≡ half_port config leg.holder.pair half)
    → ((leg : Leg O) → In leg brought.legs.items → leg.lease.family ≡ pair_family config leg.holder.pair)
    → CanCome config (entries_of p.of.number (rounds h p.of.number)) brought p.of.number p.keys p.dropped
comes_after {O} config h x p good fits q brought same ports families =
    let n = p.of.number in
    let rs = rounds h n in
    let r = offer_round config h x p good fits q in
    let g = good_rounds config h n good in
    let new : (leg : Holder) → In leg (added brought) → In leg p.legs = λ leg i. subst (λ (l : List Holder). In leg l) same i in
    record {
      sections = λ leg i.
          (let within = new_within rs p.ask p.legs p.keys r.comes leg.holder (new leg.holder (maps (λ (y : Leg O). y.holder) brought.legs.items i)) in
          let few = r.few in omega (arith, within, few));
      ports = ports;
      families = families;
      differ = subst (λ (l : List Holder). AllPairs AreTwo l) (sym same) (legs_are_two config h x p good fits q);
      new_lease = λ leg other i j. lease_anew config h x p good fits q leg other (new leg i) j;
      free_place = λ leg other i j stays sections sides.
          true≢false (sym (stands n rs g.come g.few other j) ∙ ap (λ (m : ℕ). has_pairs rs m) sections ∙ new_without rs p.ask p.legs p.keys r.comes leg (new leg i));
      one_each = one_each_after config h x p good fits q (added brought) same;
      new_number = new_numbers config h x p good fits q;
      numbers_differ = λ key other i j numbers. keys_of_offer config h x p key other fits q i j numbers;
    }

-- the offer of the board's next entry can come to its cell
pub offer_can_come : {O : Type 0} (config : Config) (l : List Entry) → Orderly config l → (n k : ℕ) (x : BoardEntry) (p : act.Offer) → IsAbove l 0 n
    → FitsBoard config (board_history l n) x → act.act x ≡ act.Offered p → IsAbove l p.of.cell k → (brought : prepared.Prepare O) → added brought ≡ p.legs
    → ((leg : Leg O) → In leg brought.legs.items → (half : Half) → port_by half leg.lease.rtp_port ≡ half_port config leg.holder.pair half)
    → ((leg : Leg O) → In leg brought.legs.items → leg.lease.family ≡ pair_family config leg.holder.pair)
    → CanCome config (since_end (cell_history l p.of.cell k)) brought p.of.number p.keys p.dropped
offer_can_come config l o n k x p above_board fits q above brought same ports families =
    let s = offer_cell_is config l o n k x p above_board fits q above in
    can_come_same config (entries_of p.of.number (rounds (board_history l n) p.of.number)) (since_end (cell_history l p.of.cell k)) brought p.of.number p.keys p.dropped
    (turned (since_end (cell_history l p.of.cell k)) (entries_of p.of.number (rounds (board_history l n) p.of.number)) s)
    (comes_after config (board_history l n) x p (good_history config l o n) fits q brought same ports families)

-- An answer.

no_life : (rs : List Round) (section : ℕ) → section_life rs section ≡ [] → has_pairs rs section ≡ true → ⊥
no_life rs section e h = true≢false (sym (subst (λ (t : List Round). is_begun t ≡ true) e h))

drawn_last : (ask : OfferAsk) (new : List Holder) (keys : List NewKey) (earlier : List Round) (section : ℕ) (key : NewKey) → In key keys
    → has_pairs (round.Offered ask new keys ∷ earlier) section ≡ true → LifeOf (round.Offered ask new keys) earlier section
    → In key (drawn_for (section_life (round.Offered ask new keys ∷ earlier) section))
drawn_last ask new keys earlier section key i h (begins m e) = subst (λ (t : List Round). In key (drawn_for t)) (sym e) (in_left keys [] i)
drawn_last ask new keys earlier section key i h (goes_on m had e) =
    subst (λ (t : List Round). In key (drawn_for t)) (sym e) (in_left keys (drawn_for (section_life earlier section)) i)
drawn_last ask new keys earlier section key i h (is_over e) = absurd (no_life (round.Offered ask new keys ∷ earlier) section e h)

drawn_more : (key : NewKey) (r : Round) (rs : List Round) → In key (drawn_for rs) → In key (drawn_for (r ∷ rs))
drawn_more key (round.Offered ask new keys) rs i = in_right keys (drawn_for rs) i
drawn_more key (round.Answered ask) rs i = i

drawn_step : (r : Round) (rs : List Round) (section : ℕ) (key : NewKey) → has_pairs (r ∷ rs) section ≡ true → leases r section ≡ false
    → In key (drawn_for (section_life rs section)) → LifeOf r rs section → In key (drawn_for (section_life (r ∷ rs) section))
drawn_step r rs section key h none i (begins m e) = absurd (true≢false (sym m ∙ none))
drawn_step r rs section key h none i (goes_on m had e) = subst (λ (t : List Round). In key (drawn_for t)) (sym e) (drawn_more key r (section_life rs section) i)
drawn_step r rs section key h none i (is_over e) = absurd (no_life (r ∷ rs) section e h)

-- a key that was drawn since a section kept its pairs is among those of its life
drawn_since : (section : ℕ) (key : NewKey) (ask : OfferAsk) (new : List Holder) (keys : List NewKey) (earlier later : List Round) → In key keys
    → KeepsPairs section later (round.Offered ask new keys ∷ earlier) → In key (drawn_for (section_life (later ++ round.Offered ask new keys ∷ earlier) section))
drawn_since section key ask new keys earlier [] i kept =
    drawn_last ask new keys earlier section key i kept (life-step (round.Offered ask new keys) earlier section)
drawn_since section key ask new keys earlier (r ∷ later) i kept =
    drawn_step r (later ++ round.Offered ask new keys ∷ earlier) section key kept.0 kept.1
    (drawn_since section key ask new keys earlier later i kept.2) (life-step r (later ++ round.Offered ask new keys ∷ earlier) section)

in_life : (rs : List Round) (section : ℕ) (key : NewKey) → IsDrawnInLife rs section key → In key (drawn_for (section_life rs section))
in_life rs section key d =
    subst (λ (t : List Round). In key (drawn_for (section_life t section))) (sym d.rounds_are) (drawn_since section key d.ask d.legs d.keys d.earlier d.later d.drawn d.kept)

side_itself : (a b : Side) → a ≡ b → side_eq a b ≡ true
side_itself a b q = subst (λ (s : Side). side_eq a s ≡ true) q (itself a)
  where
    itself : (s : Side) → side_eq s s ≡ true
    itself A = refl
    itself B = refl

said_some : (number : ℕ) (o : Option LegSignal) → outbound_in o ≡ Some number → (s : LegSignal) × (o ≡ Some s) × (s.outbound ≡ Some number)
said_some number None q = absurd (let e = q in cc)
said_some number (Some s) q = (s, refl, q)

-- what an answer after the rounds of a call names are keys of its legs
names_after : (number : ℕ) (rs : List Round) → AreGood number rs → (ask : AnswerAsk) → NamesKeys (entries_of number rs) (signal rs ask)
names_after number rs g ask leg m i q =
    let s = said_some m (said_of (signal rs ask) leg) q in
    let k = names_drawn_keys rs ask leg.section leg.side s.0 m s.1 s.2 in
    let its : In k.key (oa.leg_keys rs leg.section leg.side)
    = keeps (oa.is_for leg.section leg.side) (drawn_for (section_life rs leg.section)) (in_life rs leg.section k.key k.is_drawn)
    (both (k.key.section == leg.section) (side_eq k.key.side leg.side)
    (equal k.key.section leg.section k.for_section) (side_itself k.key.side leg.side k.for_side)) in
    record {
      key = k.key;
      is_there = subst (λ (ks : List NewKey). In k.key ks) (sym (keys_of_life number rs g leg i)) its;
      number_is = k.number_is;
    }

-- the answer of the board's next entry names keys of its cell's legs
pub answer_names : (config : Config) (l : List Entry) → Orderly config l → (n k : ℕ) (x : BoardEntry) (a : act.Answer) → IsAbove l 0 n
    → FitsBoard config (board_history l n) x → act.act x ≡ act.Answered a → IsAbove l a.of.cell k → NamesKeys (since_end (cell_history l a.of.cell k)) a.signal
answer_names config l o n k x a above_board fits q above =
    let h = board_history l n in
    let shown = answer_told config h x a fits q in
    let c = since_end (cell_history l a.of.cell k) in
    let e = entries_of a.of.number (rounds h a.of.number) in
    let s = live_cell_is config l o n k a.of above_board shown.is_live above in
    names_keys_same e c a.signal (turned c e s)
    (subst (λ t. NamesKeys e t) (sym shown.signal_is) (names_after a.of.number (rounds h a.of.number) (good_rounds config h a.of.number (good_history config l o n)) a.ask))

-- Each send of a relay is among those of the leg by which it left, when that leg went, and each leg goes before a relay has stopped.
use Rattle.std.proofs.Common.{◌≡◌, ◌∙◌, refl, sym, ap, subst, ℕ, zero, suc, ◌<◌, ◌≤◌, ◌⊎◌, inl, inr, Bool, true, false, cond, not, ◌==◌, List, [], ◌∷◌, ◌++◌, Option, None, Some, map, filter, arith}
use Rattle.std.specs.List.{list_any}
use Rattle.relay_outside.specs.declared.address.Addr.{Addr}
use Rattle.relay_outside.specs.declared.ports.OutCall.{OutCall}
use Rattle.relay_outside.specs.declared.ports.OutCall.TheVariants as out
use Rattle.relay_outside.specs.declared.settings.Config.{Config}
use Rattle.rtp_packet.specs.declared.head.Half.{Half}
use Rattle.rtp_packet.specs.declared.head.Half.TheVariants.{Rtp, Rtcp}
use Rattle.histories.specs.Words.{In, here, there, has}
use Rattle.histories.proofs.Lists.{in_left, in_right, keeps, maps, equal, it_has}
use Rattle.port_pool.specs.declared.holder.Holder.{Holder}
use Rattle.port_pool.specs.Ports.{pair_count}
use Rattle.port_pool.specs.Signals.{same_leg, is_rejected, NewKey}
use Rattle.call_cell.specs.Cells.{CellEvent, CellEntry, Sending, Relayed, Deed, Prepare, Commit, Relay, Expire, Read, End, ends, legs, legs_of, takes_away, since_end}
use Rattle.call_cell.specs.Deeds.{found, opposite_of, is_leaving}
use Rattle.call_cell.proofs.Legs.{is_same_leg, same_leg_is, opposite_is}
use Rattle.call_cell.proofs.Nested.{same_lasting, kept_since}
use Rattle.call_cell.proofs.PrepareSteps.{any_false}
use Rattle.call_cell.proofs.Sends.{sends}
use Rattle.call_board.specs.Acts.{Call, BoardEntry, act}
use Rattle.call_board.specs.Calls.{live, begun_by_act}
use Rattle.call_board.proofs.Calls.{live_before}
use Rattle.call_board.proofs.Free.{free_below, new_leg_free}
use Rattle.relay_core.specs.Entries.{Event, Cell, Entry, board_history, cell_entry, cell_history, cell_before, front}
use Rattle.relay_core.specs.Legal.{Orderly, Legal}
use Rattle.relay_core.specs.Safe.{Safe}
use Rattle.relay_core.specs.EndLogs.{is_parting, with_call, out_call_of, sent_by, sends_since, legs_going}
use Rattle.relay_core.proofs.Boards.{le_or_eq, lt_or_eq}
use Rattle.relay_core.proofs.Boxes.{below_front}
use Rattle.relay_core.proofs.Commits.{event_of, entry_of}
use Rattle.relay_core.proofs.Fronts.{front_follows}
use Rattle.relay_core.proofs.Generations.{leg_leased, lease_once}
use Rattle.relay_core.proofs.Histories.{More, same, added, more, same_at, good_history}
use Rattle.relay_core.proofs.Keys.{prepare_of}
use Rattle.relay_core.proofs.Lasting.{lasting}
use Rattle.relay_core.proofs.LegStays.{IsAdded, is_added, other_section}
use Rattle.board_turns.specs.Between.{board_of}
use Rattle.board_turns.specs.Stops.{stop_entry}
use Rattle.relay_runs.specs.Ends.{sends_of, sends_going, sends_in, sends_at}

-- Lists.

in_behind : (call : OutCall) (calls : List OutCall) (more : Option OutCall) → In call calls → In call (with_call calls more)
in_behind call calls None i = i
in_behind call calls (Some other) i = in_left calls (other ∷ []) i

in_rest : (call : OutCall) (b : Bool) (xs rest : List OutCall) → In call rest → In call (cond b (xs ++ rest) rest)
in_rest call true xs rest i = in_right xs rest i
in_rest call false xs rest i = i

in_first : (call : OutCall) (b : Bool) (xs rest : List OutCall) → b ≡ true → In call xs → In call (cond b (xs ++ rest) rest)
in_first call true xs rest passes i = in_left xs rest i
in_first call false xs rest passes i = absurd (let k = passes in cc)

-- a send by a half is one of that half's
sent_itself : (half other : Half) (pair : ℕ) (to : Addr) (bytes : List ℕ) (ok : Bool) → half ≡ other
    → out_call_of half ok (Some (record { pair = pair; half = other; to = to; bytes = bytes })) ≡ Some (out.Send to bytes ok)
sent_itself Rtp Rtp pair to bytes ok q = refl
sent_itself Rtp Rtcp pair to bytes ok q = absurd (let k = q in cc)
sent_itself Rtcp Rtp pair to bytes ok q = absurd (let k = q in cc)
sent_itself Rtcp Rtcp pair to bytes ok q = refl

-- From the relay to the event by which the leg goes.

module _ (config : Config) (l : List Entry) (o : Orderly config l) (place : ℕ) (leg : Holder) (half : Half) (call : OutCall) where
  -- the cell has the leg, and the call is one of its sends
  abbrev Has : List CellEntry → Type 0
  Has h = In leg (legs h) × In call (sends_since leg half h)

  abbrev before : ℕ → List CellEntry
  before n = since_end (cell_history l place n)

  -- the leg went, with the call among its sends
  record Went : Type 0 where
    entry : Entry
    is_in : In entry l
    at : entry.place ≡ place
    event : CellEvent
    is : entry.event ≡ Cell event
    parts : is_parting (Cell event) ≡ true
    going : In leg (legs_going (before entry.number) event)
    sends : In call (sends_since leg half (before entry.number))

  went_at : (n : ℕ) (e : Entry) → In e l → e.place ≡ place → e.number ≡ n → (v : CellEvent) → e.event ≡ Cell v → is_parting (Cell v) ≡ true
      → In leg (legs_going (before n) v) → In call (sends_since leg half (before n)) → Went
  went_at n e i p m v is parts going sends = record {
    entry = e;
    is_in = i;
    at = p;
    event = v;
    is = is;
    parts = parts;
    going = subst (λ (k : ℕ). In leg (legs_going (before k) v)) (sym m) going;
    sends = subst (λ (k : ℕ). In call (sends_since leg half (before k))) (sym m) sends;
  }

  -- an event that takes no leg of its section away, and doesn't add it
  stays_on : (h now : List CellEntry) (moment : ℕ) (v : CellEvent) → now ≡ (record { moment = moment; event = v }) ∷ h → takes_away v leg.section ≡ false
      → list_any (same_leg leg) (legs_of v) ≡ false → Has h → Has now
  stays_on h now moment v grown stays other there_is =
      subst Has (sym grown) (
        in_left (filter (λ (a : Holder). not (takes_away v a.section)) (legs h)) (legs_of v)
            (keeps (λ (a : Holder). not (takes_away v a.section)) (legs h) there_is.0 (ap not stays)),
        subst (λ (b : Bool). In call (cond b [] (with_call (sends_since leg half h) (sent_by leg half h v)))) (sym other)
            (in_behind call (sends_since leg half h) (sent_by leg half h v) there_is.1),
      )

  -- a leg that an offer adds while the cell has this one is another
  not_again : (n : ℕ) (e : Entry) → In e l → e.place ≡ place → e.number ≡ n → (number : ℕ) (new : List Holder) (keys : List NewKey) (dropped : List ℕ)
      → e.event ≡ Cell (Prepare number new keys dropped) → In leg (legs (before n)) → has dropped leg.section ≡ false
      → (b : Holder) → In b new → In b (legs (before (suc n))) → same_leg leg b ≡ true → ⊥
  not_again n e i p m number new keys dropped event is_leg kept b j k is_same =
      let s = is_added config l o place n leg is_leg in
      let first : s.entry.number < e.number = (let low = s.below in omega (arith, low, m)) in
      let still : IsAdded config l place (suc n) leg = record {
        entry = s.entry;
        is_in = s.is_in;
        at = s.at;
        below = (let low = s.below in omega (arith, low));
        call = s.call;
        legs = s.legs;
        keys = s.keys;
        dropped = s.dropped;
        event = s.event;
        of = s.of;
        has_leg = s.has_leg;
        stays = λ f d g q low high is. by_number s f d g q low is (lt_or_eq f.number n high);
      } in
      let new_one : IsAdded config l place (suc n) b = record {
        entry = e;
        is_in = i;
        at = p;
        below = omega (arith, m);
        call = number;
        legs = new;
        keys = keys;
        dropped = dropped;
        event = event;
        of = prepare_of config l o e i number new keys dropped event;
        has_leg = j;
        stays = λ f d g q low high is. absurd (omega (arith, low, high, m));
      } in
      let parts = same_leg_is leg b is_same in
      let one : leg ≡ b = lease_once config l o leg b (leg_leased config l o place n leg is_leg) (leg_leased config l o place (suc n) b k) parts.1 parts.2 in
      other_section config l o place (suc n) (suc n) leg b still new_one first (omega (arith, m)) (ap (λ (a : Holder). a.section) one)
    where
      by_number : (s : IsAdded config l place n leg) (f : Entry) (d : CellEntry) → In f l → f.place ≡ place → s.entry.number < f.number → cell_entry f ≡ Some d
          → (f.number < n) ⊎ (f.number ≡ n) → (takes_away d.event leg.section ≡ false) × (ends d.event ≡ false)
      by_number s f d g q low is (inl low_f) = s.stays f d g q low low_f is
      by_number s f d g q low is (inr at_n) =
          let events : Cell d.event ≡ Cell (Prepare number new keys dropped) =
          sym (event_of f d is) ∙ ap (λ (x : Entry). x.event) (same_at l o.numbered f e g i (q ∙ sym p) (at_n ∙ sym m)) ∙ event in
          let event_is : d.event ≡ Prepare number new keys dropped = cc in
          (ap (λ (v : CellEvent). takes_away v leg.section) event_is ∙ kept, ap ends event_is)

  step_case : (n : ℕ) (e : Entry) → In e l → e.place ≡ place → e.number ≡ n → (moment : ℕ) (v : CellEvent) → e.event ≡ Cell v
      → cell_history l place (suc n) ≡ (record { moment = moment; event = v }) ∷ cell_history l place n → Has (before n) → Has (before (suc n)) ⊎ Went
  step_case n e i p m moment (Prepare number new keys dropped) event q x = by_section (has dropped leg.section) refl
    where
      grown : before (suc n) ≡ (record { moment = moment; event = Prepare number new keys dropped }) ∷ before n
      grown = ap since_end q

      by_section : (b : Bool) → has dropped leg.section ≡ b → Has (before (suc n)) ⊎ Went
      by_section true t =
          inr (went_at n e i p m (Prepare number new keys dropped) event refl (keeps (λ (a : Holder). has dropped a.section) (legs (before n)) x.0 t) x.1)
      by_section false t =
          inl (stays_on (before n) (before (suc n)) moment (Prepare number new keys dropped) grown t
          (any_false (same_leg leg) new
          (λ b j is_same. not_again n e i p m number new keys dropped event x.0 t b j
          (subst (λ (h : List CellEntry). In b (legs h)) (sym grown) (in_right (filter (λ (a : Holder). not (has dropped a.section)) (legs (before n))) new j)) is_same)) x)
  step_case n e i p m moment (Commit signal) event q x = by_section (is_rejected signal leg.section) refl
    where
      by_section : (b : Bool) → is_rejected signal leg.section ≡ b → Has (before (suc n)) ⊎ Went
      by_section true t =
          inr (went_at n e i p m (Commit signal) event refl (keeps (λ (a : Holder). is_rejected signal a.section) (legs (before n)) x.0 t) x.1)
      by_section false t = inl (stays_on (before n) (before (suc n)) moment (Commit signal) (ap since_end q) t refl x)
  step_case n e i p m moment (Relay y) event q x = inl (stays_on (before n) (before (suc n)) moment (Relay y) (ap since_end q) refl refl x)
  step_case n e i p m moment (Expire due) event q x = inl (stays_on (before n) (before (suc n)) moment (Expire due) (ap since_end q) refl refl x)
  step_case n e i p m moment (Read reports) event q x = inl (stays_on (before n) (before (suc n)) moment (Read reports) (ap since_end q) refl refl x)
  step_case n e i p m moment End event q x = inr (went_at n e i p m End event refl x.0 x.1)

  more_case : (n : ℕ) → More cell_entry l place n → Has (before n) → Has (before (suc n)) ⊎ Went
  more_case n (same q none) x = inl (subst (λ (h : List CellEntry). Has (since_end h)) (sym q) x)
  more_case n (added e c i p m is q) x = step_case n e i p m c.moment c.event (event_of e c is) q x

  later : (m n : ℕ) → n ≤ m → Has (before n) → Has (before m) ⊎ Went
  later zero n low x = inl (subst (λ (k : ℕ). Has (before k)) (let none : n ≡ 0 = omega (arith, low) in none) x)
  later (suc m) n low x = by_order (λ within. later m n within x) (le_or_eq n m low)
    where
      one_more : Has (before m) ⊎ Went → Has (before (suc m)) ⊎ Went
      one_more (inl y) = more_case m (more cell_entry l o.numbered place m) y
      one_more (inr went) = inr went

      by_order : (n ≤ m → Has (before m) ⊎ Went) → (n < suc m) ⊎ (n ≡ suc m) → Has (before (suc m)) ⊎ Went
      by_order rest (inl below) = one_more (rest (omega (arith, below)))
      by_order rest (inr at) = inl (subst (λ (k : ℕ). Has (before k)) at x)

  -- What is sent by the legs that go.

  in_legs : (h : List CellEntry) (going : List Holder) → In leg going → In call (sends_since leg half h) → In call (sends_of going leg.pair half h)
  in_legs h [] i j = elim i [ ]
  in_legs h (x ∷ going) (here q) j =
      in_first call (x.pair == leg.pair) (sends_since x half h) (sends_of going leg.pair half h) (equal x.pair leg.pair (ap (λ (a : Holder). a.pair) (sym q)))
      (subst (λ (a : Holder). In call (sends_since a half h)) q j)
  in_legs h (x ∷ going) (there i) j = in_rest call (x.pair == leg.pair) (sends_since x half h) (sends_of going leg.pair half h) (in_legs h going i j)

  in_entries : (es : List Entry) (g : Entry) → In g es → is_parting g.event ≡ true → In call (sends_going (cell_before l g) g.event leg.pair half)
      → In call (sends_in l leg.pair half es)
  in_entries [] g i parts j = elim i [ ]
  in_entries (e ∷ es) g (here q) parts j =
      in_first call (is_parting e.event) (sends_going (cell_before l e) e.event leg.pair half) (sends_in l leg.pair half es)
      (subst (λ (x : Entry). is_parting x.event ≡ true) q parts)
      (subst (λ (x : Entry). In call (sends_going (cell_before l x) x.event leg.pair half)) q j)
  in_entries (e ∷ es) g (there i) parts j =
      in_rest call (is_parting e.event) (sends_going (cell_before l e) e.event leg.pair half) (sends_in l leg.pair half es) (in_entries es g i parts j)

  went_sends : Went → In call (sends_at l leg.pair half)
  went_sends w =
      let h = cell_before l w.entry in
      let same_cell : before w.entry.number ≡ h = ap (λ (k : ℕ). since_end (cell_history l k w.entry.number)) (sym w.at) in
      let those : In call (sends_going h (Cell w.event) leg.pair half) =
      in_legs h (legs_going h w.event) (subst (λ (k : List CellEntry). In leg (legs_going k w.event)) same_cell w.going)
      (subst (λ (k : List CellEntry). In call (sends_since leg half k)) same_cell w.sends) in
      in_entries l w.entry w.is_in (ap is_parting w.is ∙ w.parts) (subst (λ (v : Event). In call (sends_going h v leg.pair half)) (sym w.is) those)

-- When the relay has stopped.

live_case : (h : List BoardEntry) (of : Call) → In of (live h) ⊎ In of (begun_by_act (act (stop_entry h))) → has (map (λ (c : Call). c.number) (live h)) of.number ≡ false → ⊥
live_case h of (inl i) stays =
    let named : has (map (λ (c : Call). c.number) (live h)) of.number ≡ true =
    it_has of.number (map (λ (c : Call). c.number) (live h)) (maps (λ (c : Call). c.number) (live h) i) in
    absurd (let k : true ≡ false = sym named ∙ stays in cc)
live_case h of (inr i) stays = elim i [ ]

-- no call is live
none_live : (h : List BoardEntry) (of : Call) → In of (live (stop_entry h ∷ h)) → ⊥
none_live h of i = let was = live_before h (stop_entry h) of i in live_case h of was.0 was.1

-- and no cell has a leg
no_legs : (config : Config) (l : List Entry) (h : List BoardEntry) → Orderly config l → board_of l ≡ stop_entry h ∷ h → (place : ℕ)
    → legs (since_end (cell_history l place (front l place))) ≡ []
no_legs config l h o stopped place =
    let k = front l place in
    let follows = front_follows config l o place (front l 0) k (λ e i p. below_front l e 0 i p) (λ e i p. below_front l e place i p) in
    let none : since_end (lasting l place k) ≡ [] =
    follows.none_is (λ of i at. none_live h of (subst (λ (b : List BoardEntry). In of (live b)) stopped i)) in
    (same_lasting (since_end (cell_history l place k)) [] (ap (map (λ (c : CellEntry). c.event)) (kept_since (cell_history l place k) ∙ none))).legs_are

-- A leg of a cell has one of the configuration's pairs.
pair_low : (config : Config) (l : List Entry) → Orderly config l → (place n : ℕ) (leg : Holder) → In leg (legs (since_end (cell_history l place n))) → leg.pair < pair_count config
pair_low config l o place n leg i =
    let s = leg_leased config l o place n leg i in
    let h = board_history l s.board.number in
    free_below config h leg.pair (good_history config l o s.board.number)
    (new_leg_free config h s.entry s.offer leg (o.board_fits s.board s.entry s.is_in s.is).1 s.acts s.has_leg)

-- The relay.

module _ (config : Config) (l : List Entry) (h : List BoardEntry) (legal : Legal config l) (safe : Safe config l) (stopped : board_of l ≡ stop_entry h ∷ h)
    (e : Entry) (x : Relayed) (w : Sending) (i : In e l) (is : e.event ≡ Cell (Relay x)) (sending : x.deed.sending ≡ Some w) where
  abbrev o : Orderly config l
  o = legal.orderly

  abbrev b : List CellEntry
  b = cell_before l e

  abbrev call : OutCall
  call = out.Send w.to w.bytes x.sent_ok

  -- it leaves by the other leg's end
  leaves : (other leg : Holder) → found b x.packet ≡ Some leg → opposite_of b (Some leg) ≡ Some other → sent_by other w.half b (Relay x) ≡ Some call
  leaves other leg is_found is_opposite =
      ap (λ (f : Option Holder). cond (is_leaving (opposite_of b f) other) (out_call_of w.half x.sent_ok x.deed.sending) None) is_found
      ∙ ap (λ (f : Option Holder). cond (is_leaving f other) (out_call_of w.half x.sent_ok x.deed.sending) None) is_opposite
      ∙ ap (λ (t : Bool). cond t (out_call_of w.half x.sent_ok x.deed.sending) None) (is_same_leg other)
      ∙ ap (λ (s : Option Sending). out_call_of w.half x.sent_ok s) sending
      ∙ sent_itself w.half w.half w.pair w.to w.bytes x.sent_ok refl

  -- the cell has the leg after it, and the call is one of its sends
  begins : (other leg : Holder) → found b x.packet ≡ Some leg → opposite_of b (Some leg) ≡ Some other → In other (legs b) → More cell_entry l e.place e.number
      → Has config l o e.place other w.half call (since_end (cell_history l e.place (suc e.number)))
  begins other leg is_found is_opposite is_leg (same q none) =
      absurd (let n = none e i refl refl in let s = entry_of e.moment e.event (Relay x) is in cc)
  begins other leg is_found is_opposite is_leg (added g c j p m at q) =
      let one : g ≡ e = same_at l o.numbered g e j i p m in
      let entry : Some c ≡ Some (record { moment = e.moment; event = Relay x }) =
      sym at ∙ ap cell_entry one ∙ entry_of e.moment e.event (Relay x) is in
      let entry_is : c ≡ record { moment = e.moment; event = Relay x } = cc in
      let grown : since_end (cell_history l e.place (suc e.number)) ≡ (record { moment = e.moment; event = Relay x }) ∷ b =
      ap since_end (q ∙ ap (λ (d : CellEntry). d ∷ cell_history l e.place e.number) entry_is) in
      subst (Has config l o e.place other w.half call) (sym grown) (
        in_left (filter (λ (a : Holder). not (takes_away (Relay x) a.section)) (legs b)) []
            (keeps (λ (a : Holder). not (takes_away (Relay x) a.section)) (legs b) is_leg refl),
        subst (λ (more : Option OutCall). In call (with_call (sends_since other w.half b) more)) (sym (leaves other leg is_found is_opposite))
            (in_right (sends_since other w.half b) (call ∷ []) (here refl)),
      )

  pub is_sent : (w.pair < pair_count config) × In call (sends_at l w.pair w.half)
  is_sent =
      let s = sends config b x.packet x.sent_ok w (ap (λ (d : Deed). d.sending) (sym (safe.deeds_are e x i is)) ∙ sending) in
      let is_leg = (opposite_is b s.leg s.other s.is_opposite).is_leg in
      let start = begins s.other s.leg s.is_found s.is_opposite is_leg (more cell_entry l o.numbered e.place e.number) in
      let k = front l e.place in
      subst (λ (p : ℕ). (p < pair_count config) × In call (sends_at l p w.half)) (sym s.from_pair) (
        pair_low config l o e.place e.number s.other is_leg,
        at_end s.other (later config l o e.place s.other w.half call k (suc e.number) (let low = below_front l e e.place i refl in omega (arith, low)) start),
      )
    where
      at_end : (other : Holder) → Has config l o e.place other w.half call (since_end (cell_history l e.place (front l e.place))) ⊎ Went config l o e.place other w.half call
          → In call (sends_at l other.pair w.half)
      at_end other (inl there_is) = elim (subst (λ (ls : List Holder). In other ls) (no_legs config l h o stopped e.place) there_is.0) [ ]
      at_end other (inr went) = went_sends config l o e.place other w.half call went

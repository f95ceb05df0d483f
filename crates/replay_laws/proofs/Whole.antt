-- Whole replays: after each step both are alike again, so they print one list.
use Rattle.std.proofs.Common.{◌≡◌, ◌∙◌, sym, ap, subst, refl, ℕ, zero, suc, ◌+◌, ◌≤◌, ◌⊎◌, inl, inr, max, List, [], ◌∷◌, ◌++◌, map, length, Bool, true, false, Option, Some, None, arith}
use Rattle.std.specs.List.{list_any}
use Rattle.relay_outside.specs.declared.address.Addr.{Addr}
use Rattle.relay_outside.specs.declared.settings.Config.{Config}
use Rattle.rtp_packet.specs.declared.head.Half.{Half}
use Rattle.histories.specs.Words.{In, here, there}
use Rattle.histories.proofs.Lists.{in_append, in_left}
use Rattle.port_pool.specs.declared.holder.Holder.{Holder}
use Rattle.port_pool.specs.Boxes as box
use Rattle.port_pool.specs.Boxes.{Taken, Take, FitsTaken, holder}
use Rattle.call_cell.specs.declared.outcome.Outcome.{Outcome}
use Rattle.call_cell.specs.Cells.{Receipt, CellEntry}
use Rattle.call_cell.specs.CellHistories.{cell_last_moment}
use Rattle.call_board.specs.Pairs.{Once}
use Rattle.relay_core.specs.Entries.{Entry, Event, Box, history, box_of, box_history}
use Rattle.relay_core.specs.Legal.{Orderly}
use Rattle.relay_core.specs.Scripts.{script}
use Rattle.relay_core.specs.Turns.{IsAbove}
use Rattle.relay_core.proofs.Turns.{nothing_is_orderly}
use Rattle.media_lane.specs.Steps.{take_entry, recorded_relay}
use Rattle.board_turns.specs.Between.{board_of}
use Rattle.board_turns.specs.Ticks.{tick_entry, tick_at}
use Rattle.relay_script.specs.Steps as step
use Rattle.relay_script.specs.Steps.{Step}
use Rattle.relay_script.specs.EventLines as event
use Rattle.relay_script.specs.EventLines.{Printed}
use Rattle.replay_devices.specs.Steps as model
use Rattle.replay_devices.specs.Devices.{Happening, Made, fails}
use Rattle.replay_devices.specs.Watch.{step_of}
use Rattle.replay_steps.specs.Arrivals.{End}
use Rattle.replay_steps.specs.Steps.{Course, Packet, at_first, course_at_moment, with_entries, with_past, holding, left_with, TakesPacket, Misses, PrintsTaken, FailsSo, RelaysPacket, TicksAt, Holds, HoldsNone, Passes, RelaysHeld, Commands, EndsDueCalls, Makes, Plays, Stops, is_under, IsFaulty, course_after}
use Rattle.replay_laws.specs.Alike.{bare, AlikeLists, Alike, NeverOutOfMemory, TellsReports}
use Rattle.replay_laws.proofs.Boards.{same_boards}
use Rattle.replay_laws.proofs.Fitting.{script_same}
use Rattle.replay_laws.proofs.Lists.{told_once, end_once}
use Rattle.replay_laws.proofs.Takes.{SameTaken, packet_once, packet_or_none, holders_at}
use Rattle.replay_laws.proofs.Ticks.{tick_once}
use Rattle.replay_laws.proofs.Commands.{control_alike}
use Rattle.replay_laws.proofs.Held.{left_once}
use Rattle.replay_laws.proofs.Steps.{step_once}
use Rattle.replay_laws.proofs.Beginnings.{Begins, report_is}
use Rattle.replay_laws.proofs.Growing.{blank, blank_entry, SameLists, alike_lists, one_grown}
use Rattle.replay_laws.proofs.Turns.{TurnAlike, begins_less, number_once, blank_parts, turn_grown, turn_list}
use Rattle.replay_laws.proofs.Gaining.{packet_gained, relay_gained, step_gained, play_gained}

one_event : (e f : Printed) (p q : List Printed) → p ≡ e ∷ [] → q ≡ f ∷ [] → p ≡ q → e ≡ f
one_event e f p q is too same = heads e f (sym is ∙ same ∙ too)
  where
    heads : (a b : Printed) → a ∷ [] ≡ b ∷ [] → a ≡ b
    heads a b same = cc

-- One more entry of a lane.

one_lane : (config : Config) (new more l k : List Entry) (e f : Entry) → Begins config new → Begins config more → new ≡ l ++ e ∷ [] → more ≡ k ++ f ∷ [] → IsAbove l e.place e.number → IsAbove k f.place f.number
    → SameLists l k → e.place ≡ f.place → e.moment ≡ f.moment → blank e.event ≡ blank f.event → SameLists new more
one_lane config new more l k e f b c is too u v same at moment event =
    let number = number_once config new more l k e f [] [] b c is too (u, tt) (v, tt) same at in
    subst (λ (x : List Entry). SameLists x more) (sym is) (subst (λ (y : List Entry). SameLists (l ++ e ∷ []) y) (sym too) (one_grown l k e f same u v (blank_parts e f at number moment event)))

-- Takes.

abbrev packet : ℕ → ℕ → Half → Addr → List ℕ → Holder → Packet
packet pair take half source bytes held = (pair, record { take = take; half = half; source = source; bytes = bytes; holder = held })

exact : (p q : Packet) → SameTaken p q → p.1.take ≡ q.1.take → p ≡ q
exact p q same take =
    ap (λ (x : ℕ). packet x p.1.take p.1.half p.1.source p.1.bytes p.1.holder) same.pair
    ∙ ap (λ (x : ℕ). packet q.0 x p.1.half p.1.source p.1.bytes p.1.holder) take
    ∙ ap (λ (x : Half). packet q.0 q.1.take x p.1.source p.1.bytes p.1.holder) same.packet.half
    ∙ ap (λ (x : Addr). packet q.0 q.1.take q.1.half x p.1.bytes p.1.holder) same.packet.source
    ∙ ap (λ (x : List ℕ). packet q.0 q.1.take q.1.half q.1.source x p.1.holder) same.packet.bytes
    ∙ ap (λ (x : Holder). packet q.0 q.1.take q.1.half q.1.source q.1.bytes x) same.packet.holder

abbrev taking : Config → Packet → Entry
taking config p = take_entry config p.0 p.1.half p.1.take (box.Datagram p.1.holder p.1.source p.1.bytes)

packet_exact : (config : Config) (l k : List Entry) (port : ℕ) (source : Addr) (bytes : List ℕ) (p q : Packet) (new more : List Entry) → Begins config new → Begins config more → SameLists l k
    → TakesPacket config l port source bytes p new → TakesPacket config k port source bytes q more → p ≡ q
packet_exact config l k port source bytes p q new more b c same t u =
    let taken = packet_once config l k port source bytes p q new more (alike_lists config l k same).boxes t u in
    exact p q taken (number_once config new more l k (taking config p) (taking config q) [] [] b c t.list_is u.list_is (t.at_front, tt) (u.at_front, tt) same (ap (box_of config) taken.pair))

packet_grown : (config : Config) (l k : List Entry) (port : ℕ) (source : Addr) (bytes : List ℕ) (p q : Packet) (new more : List Entry) → Begins config new → Begins config more → SameLists l k
    → TakesPacket config l port source bytes p new → TakesPacket config k port source bytes q more → SameLists new more
packet_grown config l k port source bytes p q new more b c same t u =
    let one : taking config p ≡ taking config q = ap (taking config) (packet_exact config l k port source bytes p q new more b c same t u) in
    one_lane config new more l k (taking config p) (taking config q) b c t.list_is u.list_is t.at_front u.at_front same
    (ap (λ (x : Entry). x.place) one) refl (ap (λ (x : Entry). blank x.event) one)

clash : {A : Type 0} → true ≡ false → A
clash e = absurd (let f : true ≡ false = e in cc)

abbrev as_taken : Half → Taken → Event
as_taken half taken = blank (Box (Take half taken))

open_blank : (half : Half) (leg : Holder) (t u : Taken) (bytes : List ℕ) (failing : Bool) (e f : Printed) → FitsTaken (Some leg) t → FitsTaken (Some leg) u
    → PrintsTaken t bytes e → PrintsTaken u bytes f → FailsSo t failing → FailsSo u failing → as_taken half t ≡ as_taken half u
open_blank half leg box.Closed u bytes failing e f a b p q x y = absurd a
open_blank half leg box.Nothing u bytes failing e f a b p q x y = absurd p
open_blank half leg (box.Datagram held source given) u bytes failing e f a b p q x y = absurd p
open_blank half leg t box.Closed bytes failing e f a b p q x y = absurd b
open_blank half leg t box.Nothing bytes failing e f a b p q x y = absurd q
open_blank half leg t (box.Datagram held source given) bytes failing e f a b p q x y = absurd q
open_blank half leg (box.TooLong source given) (box.TooLong from some) bytes failing e f a b p q x y = refl
open_blank half leg (box.TooLong source given) box.Fault bytes failing e f a b p q x y = clash (sym y ∙ x)
open_blank half leg box.Fault (box.TooLong source given) bytes failing e f a b p q x y = clash (sym x ∙ y)
open_blank half leg box.Fault box.Fault bytes failing e f a b p q x y = refl

held_blank : (half : Half) (o : Option Holder) (t u : Taken) (bytes : List ℕ) (failing : Bool) (e f : Printed) → FitsTaken o t → FitsTaken o u
    → PrintsTaken t bytes e → PrintsTaken u bytes f → FailsSo t failing → FailsSo u failing → as_taken half t ≡ as_taken half u
held_blank half None t u bytes failing e f a b p q x y = ap (as_taken half) (a ∙ sym b)
held_blank half (Some leg) t u bytes failing e f a b p q x y = open_blank half leg t u bytes failing e f a b p q x y

none_grown : (config : Config) (l k : List Entry) (port : ℕ) (source : Addr) (bytes : List ℕ) (failing : Bool) (e f : Printed) (new more : List Entry) → Begins config new → Begins config more → SameLists l k
    → Misses config l port source bytes failing e new → Misses config k port source bytes failing f more → SameLists new more
none_grown config l k port source bytes failing e f new more b c same (inl t) (inl u) =
    subst (λ (x : List Entry). SameLists x more) (sym t.2) (subst (λ (y : List Entry). SameLists l y) (sym u.2) same)
none_grown config l k port source bytes failing e f new more b c same (inl t) (inr u) = absurd (t.0 u.end u.at)
none_grown config l k port source bytes failing e f new more b c same (inr t) (inl u) = absurd (u.0 t.end t.at)
none_grown config l k port source bytes failing e f new more b c same (inr t) (inr u) =
    let end = end_once config port source.ip t.end u.end t.at u.at in
    let pair : t.end.0 ≡ u.end.0 = ap (λ (x : End). x.0) end in
    let held = holders_at config l k t.end.0 u.end.0 t.number u.number (alike_lists config l k same).boxes pair t.at_front u.at_front in
    one_lane config new more l k (take_entry config t.end.0 t.end.1 t.number t.taken) (take_entry config u.end.0 u.end.1 u.number u.taken) b c t.list_is u.list_is t.at_front u.at_front same
    (ap (box_of config) pair) refl
    (held_blank t.end.1 (holder (box_history k (box_of config u.end.0) u.number)) t.taken u.taken bytes failing e f
    (subst (λ (o : Option Holder). FitsTaken o t.taken) held t.fits) u.fits t.printed u.printed t.asked u.asked
    ∙ ap (λ (h : Half). as_taken h u.taken) (ap (λ (x : End). x.1) end))

-- Relays.

outcome_once : (o u : Outcome) (x y : List ℕ) → event.Relayed o x ≡ event.Relayed u y → o ≡ u
outcome_once o u x y e = cc

relay_grown : (config : Config) (clock : ℕ) (l k : List Entry) (old : List Happening) (p : Receipt) (e f : Printed) (new more : List Entry) (past now : List Happening) → Begins config new → Begins config more → SameLists l k
    → RelaysPacket config clock l old p e new past → RelaysPacket config clock k old p f more now → e ≡ f → SameLists new more
relay_grown config clock l k old p e f new more past now b c same r s prints =
    let h : r.relayed.history ≡ s.relayed.history = told_once config r.relayed.history s.relayed.history
    (r.relayed.recorded ∙ (alike_lists config l k same).cells p.holder.cell r.relayed.number s.relayed.number r.relayed.at_front s.relayed.at_front ∙ sym s.relayed.recorded) r.relayed.fitting s.relayed.fitting in
    let outcome = outcome_once r.outcome s.outcome r.sent s.sent (sym r.printed ∙ prints ∙ s.printed) in
    let left : Entry = recorded_relay p r.relayed.number (max clock (cell_last_moment r.relayed.history)) r.outcome in
    let right : Entry = recorded_relay p s.relayed.number (max clock (cell_last_moment s.relayed.history)) s.outcome in
    one_lane config new more l k left right b c r.relayed.list_is s.relayed.list_is r.relayed.at_front s.relayed.at_front same refl
    (ap (λ (xs : List CellEntry). max clock (cell_last_moment xs)) h)
    (ap (λ (o : Outcome). (recorded_relay p 0 0 o).event) outcome)

-- Ticks.

tick_alike : (config : Config) (clock : ℕ) (l k : List Entry) (e f : Printed) (new more : List Entry) → AlikeLists config l k → TicksAt config clock l e new → TicksAt config clock k f more → TurnAlike config l k new more
tick_alike config clock l k e f new more alike a b =
    let same = same_boards config (board_of l) (board_of k) alike.board in
    let calls = (tick_once config clock l k e f new more same alike.cells a b).1 in
    let one : tick_entry (board_of l) clock a.calls ≡ tick_entry (board_of k) clock b.calls =
    ap (λ (m : ℕ). tick_at (max clock m) a.calls) same.moment_is ∙ ap (tick_entry (board_of k) clock) calls in
    record {
      entry = tick_entry (board_of l) clock a.calls;
      other = tick_entry (board_of k) clock b.calls;
      turns = a.turns;
      turns_too = b.turns;
      bare_is = ap bare one;
      owe_one = ap (script config (board_of l)) one ∙ script_same config (board_of l) (board_of k) same (tick_entry (board_of k) clock b.calls);
    }

-- Packets that are held.

abbrev numbers_of : List (ℕ × Packet) → List ℕ
numbers_of held = map (λ (h : ℕ × Packet). h.0) held

-- each number is no other's, and was given out
pub record HeldRight (held : List (ℕ × Packet)) (received : ℕ) : Type 0 where
  pub once : Once (numbers_of held)
  pub given : (n : ℕ) → In n (numbers_of held) → n ≤ received

numbers_both : (xs ys : List (ℕ × Packet)) → numbers_of (xs ++ ys) ≡ numbers_of xs ++ numbers_of ys
numbers_both [] ys = refl
numbers_both (x ∷ xs) ys = ap (λ (ns : List ℕ). x.0 ∷ ns) (numbers_both xs ys)

in_case : (n m : ℕ) (ns : List ℕ) → In n ns ⊎ In n (m ∷ []) → (n ≡ m) ⊎ In n ns
in_case n m ns (inl i) = inr i
in_case n m ns (inr (here q)) = inl q
in_case n m ns (inr (there i)) = elim i [ ]

once_more : (ns : List ℕ) (m : ℕ) → Once ns → (In m ns → ⊥) → Once (ns ++ m ∷ [])
once_more [] m once new = ((λ i. elim i [ ]), tt)
once_more (n ∷ ns) m once new = (
  (λ i. elim (in_case n m ns (in_append ns (m ∷ []) i)) [ inl q ↦ new (here (sym q)) | inr j ↦ once.0 j ]),
  once_more ns m once.1 (λ i. new (there i)),
)

in_more : (n m : ℕ) (before behind : List ℕ) → In n (before ++ behind) → In n (before ++ m ∷ behind)
in_more n m [] behind i = there i
in_more n m (b ∷ before) behind (here q) = here q
in_more n m (b ∷ before) behind (there i) = there (in_more n m before behind i)

once_less : (before behind : List ℕ) (m : ℕ) → Once (before ++ m ∷ behind) → Once (before ++ behind)
once_less [] behind m once = once.1
once_less (b ∷ before) behind m once = ((λ i. once.0 (in_more b m before behind i)), once_less before behind m once.1)

held_more : (held : List (ℕ × Packet)) (received : ℕ) (p : Packet) → HeldRight held received → HeldRight (held ++ (received + 1, p) ∷ []) (received + 1)
held_more held received p right = record {
  once = subst Once (sym (numbers_both held ((received + 1, p) ∷ [])))
      (once_more (numbers_of held) (received + 1) right.once (λ i. let low = right.given (received + 1) i in omega (arith, low)));
  given = λ n i. by_case n (in_case n (received + 1) (numbers_of held) (in_append (numbers_of held) ((received + 1) ∷ []) (subst (In n) (numbers_both held ((received + 1, p) ∷ [])) i)));
}
  where
    by_case : (n : ℕ) → (n ≡ received + 1) ⊎ In n (numbers_of held) → n ≤ received + 1
    by_case n (inl q) = omega (arith, q)
    by_case n (inr i) = let low = right.given n i in omega (arith, low)

held_less : (before behind : List (ℕ × Packet)) (n received : ℕ) (p : Packet) → HeldRight (before ++ (n, p) ∷ behind) received → HeldRight (before ++ behind) received
held_less before behind n received p right = record {
  once = subst Once (sym (numbers_both before behind)) (once_less (numbers_of before) (numbers_of behind) n (subst Once (numbers_both before ((n, p) ∷ behind)) right.once));
  given = λ m i. right.given m (subst (In m) (sym (numbers_both before ((n, p) ∷ behind))) (in_more m n (numbers_of before) (numbers_of behind) (subst (In m) (numbers_both before behind) i)));
}

-- Two replays between steps.

pub record Both (config : Config) (r s : Course) : Type 0 where
  pub lists : SameLists r.entries s.entries
  pub orderly : Orderly config r.entries
  pub orderly_too : Orderly config s.entries
  pub held : r.held ≡ s.held
  pub right : HeldRight r.held r.received
  pub received : r.received ≡ s.received
  pub clock : r.clock ≡ s.clock
  pub past : r.past ≡ s.past

alike_of : (config : Config) (r s : Course) → Both config r s → Alike config r s
alike_of config r s both =
    record { lists = alike_lists config r.entries s.entries both.lists; held = both.held; once = both.right.once; received = both.received; clock = both.clock; past = both.past }

abbrev course : List Entry → List (ℕ × Packet) → ℕ → ℕ → List Happening → Course
course l held received clock past = record { entries = l; held = held; received = received; clock = clock; past = past }

-- what a step leaves of the lists and of the packets that are held
pub record Leaves (x y : Course) : Type 0 where
  pub lists : SameLists x.entries y.entries
  pub held : x.held ≡ y.held
  pub right : HeldRight x.held x.received

leaves : (x y u v : Course) → x ≡ u → y ≡ v → Leaves u v → Leaves x y
leaves x y u v is too same = subst (λ (z : Course). Leaves z y) (sym is) (subst (λ (z : Course). Leaves u z) (sym too) same)

module _ (config : Config) (seed : ℕ) (l k : List Entry) (held : List (ℕ × Packet)) (received clock : ℕ) (past : List Happening)
    (same : SameLists l k) (orderly : Orderly config l) (orderly_too : Orderly config k) (right : HeldRight held received) where
  abbrev one : Course
  one = course l held received clock past

  abbrev other : Course
  other = course k held received clock past

  abbrev alike : AlikeLists config l k
  alike = alike_lists config l k same

  begins_at : (x y : Course) → x ≡ y → Begins config x.entries → Begins config y.entries
  begins_at x y is b = subst (λ (c : Course). Begins config c.entries) is b

  taking_leaves : (port : ℕ) (source : Addr) (bytes : List ℕ) (e f : Printed) (x y : Course) → Begins config x.entries → Begins config y.entries
      → Holds config one port source bytes e x ⊎ HoldsNone config one port source bytes e x
      → Holds config other port source bytes f y ⊎ HoldsNone config other port source bytes f y → Leaves x y
  taking_leaves port source bytes e f x y b c (inl a) (inl z) =
      let u = begins_at x (holding a.packet a.entries one) a.new_is b in
      let v = begins_at y (holding z.packet z.entries other) z.new_is c in
      let exactly = packet_exact config l k port source bytes a.packet z.packet a.entries z.entries u v same a.takes z.takes in
      leaves x y (holding a.packet a.entries one) (holding z.packet z.entries other) a.new_is z.new_is
      (record {
        lists = packet_grown config l k port source bytes a.packet z.packet a.entries z.entries u v same a.takes z.takes;
        held = ap (λ (p : Packet). held ++ (received + 1, p) ∷ []) exactly;
        right = held_more held received a.packet right;
      })
  taking_leaves port source bytes e f x y b c (inl a) (inr z) =
      absurd (packet_or_none config l k port source bytes a.packet f a.entries z.entries alike.boxes a.takes (subst (λ (t : Bool). Misses config k port source bytes t f z.entries) a.asked z.misses))
  taking_leaves port source bytes e f x y b c (inr a) (inl z) =
      absurd (packet_or_none config k l port source bytes z.packet e z.entries a.entries (λ pair m n u v. sym (alike.boxes pair n m v u)) z.takes
      (subst (λ (t : Bool). Misses config l port source bytes t e a.entries) z.asked a.misses))
  taking_leaves port source bytes e f x y b c (inr a) (inr z) =
      leaves x y (with_entries a.entries one) (with_entries z.entries other) a.new_is z.new_is
      (record {
        lists = none_grown config l k port source bytes (fails model.Taking past) e f a.entries z.entries (begins_at x (with_entries a.entries one) a.new_is b) (begins_at y (with_entries z.entries other) z.new_is c) same a.misses z.misses;
        held = refl;
        right = right;
      })

  passing_leaves : (port : ℕ) (source : Addr) (bytes : List ℕ) (e f : Printed) (x y : Course) → Begins config x.entries → Begins config y.entries → e ≡ f
      → Passes config one port source bytes e x ⊎ HoldsNone config one port source bytes e x
      → Passes config other port source bytes f y ⊎ HoldsNone config other port source bytes f y → Leaves x y
  passing_leaves port source bytes e f x y b c prints (inl a) (inl z) =
      let u = begins_at x (with_past a.past (with_entries a.entries one)) a.new_is b in
      let v = begins_at y (with_past z.past (with_entries z.entries other)) z.new_is c in
      let first = packet_gained config l port source bytes a.packet a.between orderly a.takes in
      let first_too = packet_gained config k port source bytes z.packet z.between orderly_too z.takes in
      let next = relay_gained config clock a.between past a.packet.1 e a.entries a.past first.orderly a.relays in
      let next_too = relay_gained config clock z.between past z.packet.1 f z.entries z.past first_too.orderly z.relays in
      let m = begins_less config a.between next.added a.entries next.is next.rising u in
      let n = begins_less config z.between next_too.added z.entries next_too.is next_too.rising v in
      let exactly = packet_exact config l k port source bytes a.packet z.packet a.between z.between m n same a.takes z.takes in
      let between = packet_grown config l k port source bytes a.packet z.packet a.between z.between m n same a.takes z.takes in
      leaves x y (with_past a.past (with_entries a.entries one)) (with_past z.past (with_entries z.entries other)) a.new_is z.new_is
      (record {
        lists = relay_grown config clock a.between z.between past a.packet.1 e f a.entries z.entries a.past z.past u v between a.relays
            (subst (λ (p : Packet). RelaysPacket config clock z.between past p.1 f z.entries z.past) (sym exactly) z.relays) prints;
        held = refl;
        right = right;
      })
  passing_leaves port source bytes e f x y b c prints (inl a) (inr z) =
      absurd (packet_or_none config l k port source bytes a.packet f a.between z.entries alike.boxes a.takes (subst (λ (t : Bool). Misses config k port source bytes t f z.entries) a.asked z.misses))
  passing_leaves port source bytes e f x y b c prints (inr a) (inl z) =
      absurd (packet_or_none config k l port source bytes z.packet e z.between a.entries (λ pair m n u v. sym (alike.boxes pair n m v u)) z.takes
      (subst (λ (t : Bool). Misses config l port source bytes t e a.entries) z.asked a.misses))
  passing_leaves port source bytes e f x y b c prints (inr a) (inr z) =
      leaves x y (with_entries a.entries one) (with_entries z.entries other) a.new_is z.new_is
      (record {
        lists = none_grown config l k port source bytes (fails model.Taking past) e f a.entries z.entries (begins_at x (with_entries a.entries one) a.new_is b) (begins_at y (with_entries z.entries other) z.new_is c) same a.misses z.misses;
        held = refl;
        right = right;
      })

  relaying_leaves : (number : ℕ) (e f : Printed) (x y : Course) → Begins config x.entries → Begins config y.entries → e ≡ f → RelaysHeld config one number e x → RelaysHeld config other number f y → Leaves x y
  relaying_leaves number e f x y b c prints a z =
      let its : HeldRight (a.before ++ (number, a.packet) ∷ a.after) received = subst (λ (hs : List (ℕ × Packet)). HeldRight hs received) a.held_is right in
      let left = left_once number a.packet z.packet a.before a.after z.before z.after its.once (sym a.held_is ∙ z.held_is) in
      leaves x y (with_past a.past (left_with (a.before ++ a.after) a.entries one)) (with_past z.past (left_with (z.before ++ z.after) z.entries other)) a.new_is z.new_is
      (record {
        lists = relay_grown config clock l k past a.packet.1 e f a.entries z.entries a.past z.past
            (begins_at x (with_past a.past (left_with (a.before ++ a.after) a.entries one)) a.new_is b) (begins_at y (with_past z.past (left_with (z.before ++ z.after) z.entries other)) z.new_is c) same a.relays
            (subst (λ (p : Packet). RelaysPacket config clock k past p.1 f z.entries z.past) (sym left.packet) z.relays) prints;
        held = left.left;
        right = held_less a.before a.after number received a.packet its;
      })

  commanding_leaves : (source : Addr) (bytes : List ℕ) (e f : Printed) (x y : Course) → Begins config x.entries → Begins config y.entries → NeverOutOfMemory x.entries → NeverOutOfMemory y.entries
      → TellsReports config x.entries → TellsReports config y.entries → Commands config seed one source bytes e x → Commands config seed other source bytes f y → Leaves x y
  commanding_leaves source bytes e f x y b c fed fed_too tells tells_too a z =
      leaves x y _ _ a.new_is z.new_is (record { lists = grown; held = refl; right = right })
    where
      u : x.entries ≡ a.entries
      u = ap (λ (w : Course). w.entries) a.new_is

      v : y.entries ≡ z.entries
      v = ap (λ (w : Course). w.entries) z.new_is

      by_case : ((a.entries ≡ l) × (z.entries ≡ k)) ⊎ TurnAlike config l k a.entries z.entries → SameLists a.entries z.entries
      by_case (inl idle) = subst (λ (m : List Entry). SameLists m z.entries) (sym idle.0) (subst (λ (n : List Entry). SameLists l n) (sym idle.1) same)
      by_case (inr turns) = turn_grown config l k a.entries z.entries orderly orderly_too (subst (Begins config) u b) (subst (Begins config) v c) same turns

      grown : SameLists a.entries z.entries
      grown = by_case (control_alike config seed clock l k past source bytes (fails model.Reading past) (fails model.Replying past) a.opened z.opened a.drawn z.drawn e f a.entries z.entries
          a.between z.between a.past z.past alike (subst NeverOutOfMemory u fed) (subst NeverOutOfMemory v fed_too) (subst (TellsReports config) u tells) (subst (TellsReports config) v tells_too)
          a.controls z.controls a.opens z.opens a.draws z.draws)

  ticking_leaves : (e f : Printed) (x y : Course) → Begins config x.entries → Begins config y.entries → EndsDueCalls config one e x → EndsDueCalls config other f y → Leaves x y
  ticking_leaves e f x y b c a z =
      leaves x y (with_entries a.entries one) (with_entries z.entries other) a.new_is z.new_is
      (record {
        lists = turn_grown config l k a.entries z.entries orderly orderly_too (begins_at x (with_entries a.entries one) a.new_is b) (begins_at y (with_entries z.entries other) z.new_is c) same
            (tick_alike config clock l k e f a.entries z.entries alike a.ticks z.ticks);
        held = refl;
        right = right;
      })

  quiet_leaves : (x y : Course) → x ≡ one → y ≡ other → Leaves x y
  quiet_leaves x y is too = leaves x y one other is too (record { lists = same; held = refl; right = right })

  makes_leaves : (s : Step) (p q : List Printed) (x y : Course) → Begins config x.entries → Begins config y.entries → NeverOutOfMemory x.entries → NeverOutOfMemory y.entries
      → TellsReports config x.entries → TellsReports config y.entries → p ≡ q → Makes config seed one s p x → Makes config seed other s q y → Leaves x y
  makes_leaves step.Skip p q x y b c fed fed_too tells tells_too prints m n = quiet_leaves x y m.1 n.1
  makes_leaves (step.At moment) p q x y b c fed fed_too tells tells_too prints m n =
      leaves x y (course_at_moment moment one) (course_at_moment moment other) m.1 n.1 (record { lists = same; held = refl; right = right })
  makes_leaves (step.Key bytes) p q x y b c fed fed_too tells tells_too prints m n = quiet_leaves x y m.1 n.1
  makes_leaves (step.Fail kind count) p q x y b c fed fed_too tells tells_too prints m n = quiet_leaves x y m.1 n.1
  makes_leaves (step.FailSend port count) p q x y b c fed fed_too tells tells_too prints m n = quiet_leaves x y m.1 n.1
  makes_leaves (step.Ng source bytes) p q x y b c fed fed_too tells tells_too prints m n =
      commanding_leaves source bytes m.event n.event x y b c fed fed_too tells tells_too m.holds n.holds
  makes_leaves (step.Take port source bytes) p q x y b c fed fed_too tells tells_too prints m n =
      taking_leaves port source bytes m.1.event n.1.event x y b c m.1.holds n.1.holds
  makes_leaves (step.Relay number) p q x y b c fed fed_too tells tells_too prints m n =
      relaying_leaves number m.event n.event x y b c (one_event m.event n.event p q m.prints_are n.prints_are prints) m.holds n.holds
  makes_leaves (step.Packet port source bytes) p q x y b c fed fed_too tells tells_too prints m n =
      passing_leaves port source bytes m.event n.event x y b c (one_event m.event n.event p q m.prints_are n.prints_are prints) m.holds n.holds
  makes_leaves step.Tick p q x y b c fed fed_too tells tells_too prints m n = ticking_leaves m.event n.event x y b c m.holds n.holds

-- the other replay, with what is the same in both
same_course : (config : Config) (r s : Course) → Both config r s → s ≡ course s.entries r.held r.received r.clock r.past
same_course config r s both =
    sym (ap (λ (h : List (ℕ × Packet)). course s.entries h r.received r.clock r.past) both.held
    ∙ ap (λ (n : ℕ). course s.entries s.held n r.clock r.past) both.received
    ∙ ap (λ (n : ℕ). course s.entries s.held s.received n r.past) both.clock
    ∙ ap (λ (h : List Happening). course s.entries s.held s.received s.clock h) both.past)

-- a step keeps them alike, and prints the same
pub record Went (config : Config) (p q : List Printed) (x y : Course) : Type 0 where
  pub prints : p ≡ q
  pub both : Both config x y

tells_of : (config : Config) (l : List Entry) → Begins config l → TellsReports config l
tells_of config l b e log i is = report_is config l b e i log is

went : (config : Config) (seed : ℕ) (r s : Course) (it : Step) (p q : List Printed) (x y : Course) → Both config r s → Makes config seed r it p x → Makes config seed s it q y
    → Begins config x.entries → Begins config y.entries → NeverOutOfMemory x.entries → NeverOutOfMemory y.entries → Went config p q x y
went config seed r s it p q x y both m n b c fed fed_too =
    let tells = tells_of config x.entries b in
    let tells_too = tells_of config y.entries c in
    let goes = step_once config seed r s it p q x y (alike_of config r s both) m n fed fed_too tells tells_too in
    let left = makes_leaves config seed r.entries s.entries r.held r.received r.clock r.past both.lists both.orderly both.orderly_too both.right it p q x y b c fed fed_too tells tells_too goes.prints m
    (subst (λ (z : Course). Makes config seed z it q y) (same_course config r s both) n) in
    record {
      prints = goes.prints;
      both = record {
        lists = left.lists;
        orderly = (step_gained config seed r it p x both.orderly m).orderly;
        orderly_too = (step_gained config seed s it q y both.orderly_too n).orderly;
        held = left.held;
        right = left.right;
        received = goes.received;
        clock = goes.clock;
        past = goes.past;
      };
    }

noted : (config : Config) (s : Step) (x y : Course) → Both config x y → Both config (course_after s x) (course_after s y)
noted config s x y both = record {
  lists = both.lists;
  orderly = both.orderly;
  orderly_too = both.orderly_too;
  held = both.held;
  right = both.right;
  received = both.received;
  clock = both.clock;
  past = ap (λ (h : List Happening). Made (step_of s) ∷ h) both.past;
}

pub fed_before : (l new : List Entry) (es : List Entry) → new ≡ l ++ es → NeverOutOfMemory new → NeverOutOfMemory l
fed_before l new es is fed e c i event = fed e c (subst (In e) (sym is) (in_left l es i)) event

-- several steps, too
pub plays_once : (config : Config) (seed : ℕ) (steps : List Step) (r s : Course) (p q : List Printed) (x y : Course) → Both config r s → Plays config seed steps r p x → Plays config seed steps s q y
    → Begins config x.entries → Begins config y.entries → NeverOutOfMemory x.entries → NeverOutOfMemory y.entries → Went config p q x y
plays_once config seed [] r s p q x y both a z b c fed fed_too =
    record { prints = a.0 ∙ sym z.0; both = subst (λ (v : Course). Both config x v) (sym z.1) (subst (λ (u : Course). Both config u s) (sym a.1) both) }
plays_once config seed (it ∷ steps) r s p q x y both a z b c fed fed_too =
    let first = step_gained config seed r it a.1 a.0 both.orderly a.4 in
    let first_too = step_gained config seed s it z.1 z.0 both.orderly_too z.4 in
    let rest = play_gained config seed steps (course_after it a.0) a.2 x first.orderly a.5 in
    let rest_too = play_gained config seed steps (course_after it z.0) z.2 y first_too.orderly z.5 in
    let step_went = went config seed r s it a.1 z.1 a.0 z.0 both a.4 z.4
    (begins_less config a.0.entries rest.added x.entries rest.is rest.rising b) (begins_less config z.0.entries rest_too.added y.entries rest_too.is rest_too.rising c)
    (fed_before a.0.entries x.entries rest.added rest.is fed) (fed_before z.0.entries y.entries rest_too.added rest_too.is fed_too) in
    let more = plays_once config seed steps (course_after it a.0) (course_after it z.0) a.2 z.2 x y (noted config it a.0 z.0 step_went.both) a.5 z.5 b c fed fed_too in
    record { prints = a.3 ∙ ap (λ (xs : List Printed). xs ++ a.2) step_went.prints ∙ ap (λ (xs : List Printed). z.1 ++ xs) more.prints ∙ sym z.3; both = more.both }

-- Whole replays.

pub stop_begins : (config : Config) (l : List Entry) → Orderly config l → Stops config l → Begins config l
stop_begins config l o s =
    let list = turn_list config l _ _ o s.stopped in
    record { all = s.all; legal = s.legal; more = s.stopped.nested ++ s.stopped.last ∷ []; is = list.0; rising = list.1 }

pub first_both : (config : Config) → Both config at_first at_first
first_both config = record {
  lists = λ place m n u v. none_there place m n;
  orderly = nothing_is_orderly config;
  orderly_too = nothing_is_orderly config;
  held = refl;
  right = record { once = tt; given = λ n i. elim i [ ] };
  received = refl;
  clock = refl;
  past = refl;
}
  where
    empty_history : (place n : ℕ) → history [] place n ≡ []
    empty_history place zero = refl
    empty_history place (suc n) = empty_history place n

    none_there : (place m n : ℕ) → map blank_entry (history [] place m) ≡ map blank_entry (history [] place n)
    none_there place m n = ap (map blank_entry) (empty_history place m ∙ sym (empty_history place n))

pub replays_went : (config : Config) (seed : ℕ) (steps : List Step) (p q : List Printed) (x y : Course) → Plays config seed steps at_first p x → Plays config seed steps at_first q y
    → Stops config x.entries → Stops config y.entries → NeverOutOfMemory x.entries → NeverOutOfMemory y.entries → Went config p q x y
replays_went config seed steps p q x y a z s t fed fed_too =
    let o = play_gained config seed steps at_first p x (nothing_is_orderly config) a in
    let u = play_gained config seed steps at_first q y (nothing_is_orderly config) z in
    plays_once config seed steps at_first at_first p q x y (first_both config) a z (stop_begins config x.entries o.orderly s) (stop_begins config y.entries u.orderly t) fed fed_too

pub replays_once : (config : Config) (seed : ℕ) (steps : List Step) (p q : List Printed) (x y : Course) → Plays config seed steps at_first p x → Plays config seed steps at_first q y
    → Stops config x.entries → Stops config y.entries → NeverOutOfMemory x.entries → NeverOutOfMemory y.entries → p ≡ q
replays_once config seed steps p q x y a z s t fed fed_too = (replays_went config seed steps p q x y a z s t fed fed_too).prints

-- A step that can't be made in the one can't be made in the other.

pub faulty_too : (config : Config) (x y : Course) (s : Step) → Both config x y → IsFaulty x s → IsFaulty y s
faulty_too config x y step.Skip both faulty = faulty
faulty_too config x y (step.At moment) both faulty = faulty
faulty_too config x y (step.Key bytes) both faulty = faulty
faulty_too config x y (step.Fail kind count) both faulty = faulty
faulty_too config x y (step.FailSend port count) both faulty = faulty
faulty_too config x y (step.Ng source bytes) both faulty = faulty
faulty_too config x y (step.Take port source bytes) both faulty = subst (λ (h : List (ℕ × Packet)). 64 ≤ length h) both.held faulty
faulty_too config x y (step.Relay number) both faulty = subst (λ (h : List (ℕ × Packet)). list_any (is_under number) h ≡ false) both.held faulty
faulty_too config x y (step.Packet port source bytes) both faulty = faulty
faulty_too config x y step.Tick both faulty = faulty

pub replays_faulty : (config : Config) (seed : ℕ) (steps : List Step) (p q : List Printed) (x y : Course) (it : Step) → Plays config seed steps at_first p x → Plays config seed steps at_first q y
    → Stops config x.entries → Stops config y.entries → NeverOutOfMemory x.entries → NeverOutOfMemory y.entries → IsFaulty x it → IsFaulty y it
replays_faulty config seed steps p q x y it a z s t fed fed_too faulty =
    faulty_too config x y it (replays_went config seed steps p q x y a z s t fed fed_too).both faulty

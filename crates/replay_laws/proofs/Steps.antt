-- One step of a script, made by two replays that are alike.
use Rattle.std.proofs.Common.{◌≡◌, ◌∙◌, sym, ap, subst, refl, ℕ, ◌+◌, ◌⊎◌, inl, inr, List, [], ◌∷◌, ◌++◌, map, Bool}
use Rattle.histories.specs.Words.{In}
use Rattle.histories.proofs.Lists.{in_left}
use Rattle.relay_outside.specs.declared.address.Addr.{Addr}
use Rattle.relay_outside.specs.declared.settings.Config.{Config}
use Rattle.port_pool.specs.Boxes as box
use Rattle.call_board.specs.Pairs.{Once}
use Rattle.relay_core.specs.Entries.{Entry, cell_history}
use Rattle.relay_core.specs.Turns.{IsAbove}
use Rattle.media_lane.specs.Steps.{take_entry}
use Rattle.relay_script.specs.Steps as step
use Rattle.relay_script.specs.Steps.{Step}
use Rattle.relay_script.specs.EventLines.{Printed}
use Rattle.replay_devices.specs.Steps as model
use Rattle.replay_devices.specs.Devices.{Happening, fails}
use Rattle.replay_steps.specs.Steps.{Course, Packet, course_at_moment, with_entries, with_past, holding, left_with, replied, IsQuiet, TakesPacket, Misses, Holds, HoldsNone, Passes, RelaysHeld, Commands, EndsDueCalls, Makes}
use Rattle.replay_laws.specs.Alike.{AlikeLists, Alike, NeverOutOfMemory, TellsReports, GoesAlike, but_for_take}
use Rattle.board_turns.specs.Between.{board_of}
use Rattle.replay_laws.proofs.Boards.{same_boards}
use Rattle.replay_laws.proofs.Lists.{not_cell}
use Rattle.replay_laws.proofs.Relays.{SamePacket, SameCells, relay_once}
use Rattle.replay_laws.proofs.Takes.{packet_once, packet_or_none, none_once}
use Rattle.replay_laws.proofs.Ticks.{tick_once}
use Rattle.replay_laws.proofs.Commands.{control_once}
use Rattle.replay_laws.proofs.Held.{left_once, same_but, one_more}

-- Two replays with these lists, of which all else is the same.

abbrev course : List Entry → List (ℕ × Packet) → ℕ → ℕ → List Happening → Course
course l held received clock past = record { entries = l; held = held; received = received; clock = clock; past = past }

-- where they come to
goes : (p q : List Printed) (x y u v : Course) → x ≡ u → y ≡ v → GoesAlike p q u v → GoesAlike p q x y
goes p q x y u v is too same =
    subst (λ (z : Course). GoesAlike p q z y) (sym is) (subst (λ (z : Course). GoesAlike p q u z) (sym too) same)

-- they print one event each
both_print : (p q : List Printed) (e f : Printed) → p ≡ e ∷ [] → q ≡ f ∷ [] → e ≡ f → p ≡ q
both_print p q e f is too same = is ∙ ap (λ (x : Printed). x ∷ []) same ∙ sym too

module _ (config : Config) (seed : ℕ) (l k : List Entry) (held : List (ℕ × Packet)) (received clock : ℕ) (past : List Happening) (alike : AlikeLists config l k) where
  abbrev one : Course
  one = course l held received clock past

  abbrev other : Course
  other = course k held received clock past

  quiet : (p q : List Printed) (x y : Course) → IsQuiet one p x → IsQuiet other q y → GoesAlike p q x y
  quiet p q x y a b = goes p q x y one other a.1 b.1 (record { prints = a.0 ∙ sym b.0; held = refl; received = refl; clock = refl; past = refl })

  set_moment : (moment : ℕ) (p q : List Printed) (x y : Course) → (p ≡ []) × (x ≡ course_at_moment moment one) → (q ≡ []) × (y ≡ course_at_moment moment other) → GoesAlike p q x y
  set_moment moment p q x y a b =
      goes p q x y (course_at_moment moment one) (course_at_moment moment other) a.1 b.1 (record { prints = a.0 ∙ sym b.0; held = refl; received = refl; clock = refl; past = refl })

  -- Takes.

  taking : (port : ℕ) (source : Addr) (bytes : List ℕ) (p q : List Printed) (x y : Course) (e f : Printed) → p ≡ e ∷ [] → q ≡ f ∷ []
      → Holds config one port source bytes e x ⊎ HoldsNone config one port source bytes e x
      → Holds config other port source bytes f y ⊎ HoldsNone config other port source bytes f y → GoesAlike p q x y
  taking port source bytes p q x y e f is too (inl a) (inl b) =
      let same = packet_once config l k port source bytes a.packet b.packet a.entries b.entries alike.boxes a.takes b.takes in
      goes p q x y (holding a.packet a.entries one) (holding b.packet b.entries other) a.new_is b.new_is
      (record {
        prints = both_print p q e f is too (a.printed ∙ sym b.printed);
        held = one_more held (received + 1, a.packet) (received + 1, b.packet) (same_but (received + 1) a.packet b.packet same);
        received = refl;
        clock = refl;
        past = refl;
      })
  taking port source bytes p q x y e f is too (inl a) (inr b) =
      absurd (packet_or_none config l k port source bytes a.packet f a.entries b.entries alike.boxes a.takes
      (subst (λ (t : Bool). Misses config k port source bytes t f b.entries) a.asked b.misses))
  taking port source bytes p q x y e f is too (inr a) (inl b) =
      absurd (packet_or_none config k l port source bytes b.packet e b.entries a.entries (λ pair m n u v. sym (alike.boxes pair n m v u)) b.takes
      (subst (λ (t : Bool). Misses config l port source bytes t e a.entries) b.asked a.misses))
  taking port source bytes p q x y e f is too (inr a) (inr b) =
      goes p q x y (with_entries a.entries one) (with_entries b.entries other) a.new_is b.new_is
      (record {
        prints = both_print p q e f is too (none_once config l k port source bytes (fails model.Taking past) e f a.entries b.entries alike.boxes a.misses b.misses);
        held = refl;
        received = refl;
        clock = refl;
        past = refl;
      })

  -- Packets that are relayed at once.

  -- a take adds nothing to a cell's history
  still : (m : List Entry) (port : ℕ) (source : Addr) (bytes : List ℕ) (p : Packet) (new : List Entry) → TakesPacket config m port source bytes p new
      → (place n : ℕ) → IsAbove new place n → IsAbove m place n × (cell_history new place n ≡ cell_history m place n)
  still m port source bytes p new t place n above =
      let e : Entry = take_entry config p.0 p.1.half p.1.take (box.Datagram p.1.holder p.1.source p.1.bytes) in (
        (λ d i at. above d (subst (λ (xs : List Entry). In d xs) (sym t.list_is) (in_left m (e ∷ []) i)) at),
        ap (λ (xs : List Entry). cell_history xs place n) t.list_is ∙ not_cell m e place n refl,
      )

  passing : (port : ℕ) (source : Addr) (bytes : List ℕ) (p q : List Printed) (x y : Course) (e f : Printed) → p ≡ e ∷ [] → q ≡ f ∷ []
      → Passes config one port source bytes e x ⊎ HoldsNone config one port source bytes e x
      → Passes config other port source bytes f y ⊎ HoldsNone config other port source bytes f y → GoesAlike p q x y
  passing port source bytes p q x y e f is too (inl a) (inl b) =
      let same = packet_once config l k port source bytes a.packet b.packet a.between b.between alike.boxes a.takes b.takes in
      let cells : SameCells a.between b.between =
      (λ place m n u v.
      let i = still l port source bytes a.packet a.between a.takes place m u in
      let j = still k port source bytes b.packet b.between b.takes place n v in
      i.1 ∙ alike.cells place m n i.0 j.0 ∙ sym j.1) in
      let did = relay_once config clock clock a.between b.between past a.packet.1 b.packet.1 e f a.entries b.entries a.past b.past cells same.packet a.relays b.relays in
      goes p q x y (with_past a.past (with_entries a.entries one)) (with_past b.past (with_entries b.entries other)) a.new_is b.new_is
      (record { prints = both_print p q e f is too did.0; held = refl; received = refl; clock = refl; past = did.1 })
  passing port source bytes p q x y e f is too (inl a) (inr b) =
      absurd (packet_or_none config l k port source bytes a.packet f a.between b.entries alike.boxes a.takes
      (subst (λ (t : Bool). Misses config k port source bytes t f b.entries) a.asked b.misses))
  passing port source bytes p q x y e f is too (inr a) (inl b) =
      absurd (packet_or_none config k l port source bytes b.packet e b.between a.entries (λ pair m n u v. sym (alike.boxes pair n m v u)) b.takes
      (subst (λ (t : Bool). Misses config l port source bytes t e a.entries) b.asked a.misses))
  passing port source bytes p q x y e f is too (inr a) (inr b) =
      goes p q x y (with_entries a.entries one) (with_entries b.entries other) a.new_is b.new_is
      (record {
        prints = both_print p q e f is too (none_once config l k port source bytes (fails model.Taking past) e f a.entries b.entries alike.boxes a.misses b.misses);
        held = refl;
        received = refl;
        clock = refl;
        past = refl;
      })

  -- Packets that are held.

  same_packet : (p q : Packet) → p ≡ q → SamePacket p.1 q.1
  same_packet p q is = record {
    half = ap (λ (x : Packet). x.1.half) is;
    source = ap (λ (x : Packet). x.1.source) is;
    bytes = ap (λ (x : Packet). x.1.bytes) is;
    holder = ap (λ (x : Packet). x.1.holder) is;
  }

  relaying : Once (map (λ (h : ℕ × Packet). h.0) held) → (number : ℕ) (p q : List Printed) (x y : Course) (e f : Printed) → p ≡ e ∷ [] → q ≡ f ∷ []
      → RelaysHeld config one number e x → RelaysHeld config other number f y → GoesAlike p q x y
  relaying once number p q x y e f is too a b =
      let left = left_once number a.packet b.packet a.before a.after b.before b.after
      (subst (λ (hs : List (ℕ × Packet)). Once (map (λ (h : ℕ × Packet). h.0) hs)) a.held_is once) (sym a.held_is ∙ b.held_is) in
      let did = relay_once config clock clock l k past a.packet.1 b.packet.1 e f a.entries b.entries a.past b.past alike.cells
      (same_packet a.packet b.packet left.packet) a.relays b.relays in
      goes p q x y (with_past a.past (left_with (a.before ++ a.after) a.entries one)) (with_past b.past (left_with (b.before ++ b.after) b.entries other)) a.new_is b.new_is
      (record { prints = both_print p q e f is too did.0; held = ap (map but_for_take) left.left; received = refl; clock = refl; past = did.1 })

  -- Turns of the board.

  commanding : (source : Addr) (bytes : List ℕ) (p q : List Printed) (x y : Course) (e f : Printed) → p ≡ e ∷ [] → q ≡ f ∷ []
      → NeverOutOfMemory x.entries → NeverOutOfMemory y.entries → TellsReports config x.entries → TellsReports config y.entries
      → Commands config seed one source bytes e x → Commands config seed other source bytes f y → GoesAlike p q x y
  commanding source bytes p q x y e f is too fed fed_too tells tells_too a b =
      let u : x.entries ≡ a.entries = ap (λ (c : Course). c.entries) a.new_is in
      let v : y.entries ≡ b.entries = ap (λ (c : Course). c.entries) b.new_is in
      let did = control_once config seed clock l k past source bytes (fails model.Reading past) (fails model.Replying past) a.opened b.opened a.drawn b.drawn e f a.entries b.entries
      a.between b.between a.past b.past alike (subst NeverOutOfMemory u fed) (subst NeverOutOfMemory v fed_too) (subst (TellsReports config) u tells) (subst (TellsReports config) v tells_too)
      a.controls b.controls a.opens b.opens a.draws b.draws in
      goes p q x y (with_past (replied e a.past) (with_entries a.entries one)) (with_past (replied f b.past) (with_entries b.entries other)) a.new_is b.new_is
      (record {
        prints = both_print p q e f is too did.0;
        held = refl;
        received = refl;
        clock = refl;
        past = ap (λ (z : Printed). replied z a.past) did.0 ∙ ap (replied f) did.1;
      })

  ticking : (p q : List Printed) (x y : Course) (e f : Printed) → p ≡ e ∷ [] → q ≡ f ∷ [] → EndsDueCalls config one e x → EndsDueCalls config other f y → GoesAlike p q x y
  ticking p q x y e f is too a b =
      goes p q x y (with_entries a.entries one) (with_entries b.entries other) a.new_is b.new_is
      (record {
        prints = both_print p q e f is too ((tick_once config clock l k e f a.entries b.entries (same_boards config (board_of l) (board_of k) alike.board) alike.cells a.ticks b.ticks).0);
        held = refl;
        received = refl;
        clock = refl;
        past = refl;
      })

  -- Any step.

  makes_once : Once (map (λ (h : ℕ × Packet). h.0) held) → (s : Step) (p q : List Printed) (x y : Course) → NeverOutOfMemory x.entries → NeverOutOfMemory y.entries
      → TellsReports config x.entries → TellsReports config y.entries → Makes config seed one s p x → Makes config seed other s q y → GoesAlike p q x y
  makes_once once step.Skip p q x y fed fed_too tells tells_too a b = quiet p q x y a b
  makes_once once (step.At moment) p q x y fed fed_too tells tells_too a b = set_moment moment p q x y a b
  makes_once once (step.Key bytes) p q x y fed fed_too tells tells_too a b = quiet p q x y a b
  makes_once once (step.Fail kind count) p q x y fed fed_too tells tells_too a b = quiet p q x y a b
  makes_once once (step.FailSend port count) p q x y fed fed_too tells tells_too a b = quiet p q x y a b
  makes_once once (step.Ng source bytes) p q x y fed fed_too tells tells_too a b =
      commanding source bytes p q x y a.event b.event a.prints_are b.prints_are fed fed_too tells tells_too a.holds b.holds
  makes_once once (step.Take port source bytes) p q x y fed fed_too tells tells_too a b =
      taking port source bytes p q x y a.1.event b.1.event a.1.prints_are b.1.prints_are a.1.holds b.1.holds
  makes_once once (step.Relay number) p q x y fed fed_too tells tells_too a b =
      relaying once number p q x y a.event b.event a.prints_are b.prints_are a.holds b.holds
  makes_once once (step.Packet port source bytes) p q x y fed fed_too tells tells_too a b =
      passing port source bytes p q x y a.event b.event a.prints_are b.prints_are a.holds b.holds
  makes_once once step.Tick p q x y fed fed_too tells tells_too a b = ticking p q x y a.event b.event a.prints_are b.prints_are a.holds b.holds

-- the other replay, with what is the same in both
same_course : (config : Config) (r s : Course) → Alike config r s → s ≡ course s.entries r.held r.received r.clock r.past
same_course config r s alike =
    sym (ap (λ (h : List (ℕ × Packet)). course s.entries h r.received r.clock r.past) alike.held
    ∙ ap (λ (n : ℕ). course s.entries s.held n r.clock r.past) alike.received
    ∙ ap (λ (n : ℕ). course s.entries s.held s.received n r.past) alike.clock
    ∙ ap (λ (h : List Happening). course s.entries s.held s.received s.clock h) alike.past)

pub step_once : (config : Config) (seed : ℕ) (r s : Course) (it : Step) (p q : List Printed) (x y : Course) → Alike config r s
    → Makes config seed r it p x → Makes config seed s it q y → NeverOutOfMemory x.entries → NeverOutOfMemory y.entries → TellsReports config x.entries → TellsReports config y.entries
    → GoesAlike p q x y
step_once config seed r s it p q x y alike a b fed fed_too tells tells_too =
    makes_once config seed r.entries s.entries r.held r.received r.clock r.past alike.lists alike.once it p q x y fed fed_too tells tells_too a
    (subst (λ (c : Course). Makes config seed c it q y) (same_course config r s alike) b)

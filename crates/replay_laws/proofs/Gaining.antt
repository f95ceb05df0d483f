-- What each step adds to the list, in the order of its numbers.
use Rattle.std.proofs.Common.{◌≡◌, ◌∙◌, sym, ap, subst, ℕ, inl, inr, max, List, [], ◌∷◌, ◌++◌, Bool, true, false, append_assoc}
use Rattle.relay_outside.specs.declared.address.Addr.{Addr}
use Rattle.relay_outside.specs.declared.keys.KeyCall.{KeyCall}
use Rattle.relay_outside.specs.declared.ports.PortCall.{PortCall}
use Rattle.relay_outside.specs.declared.settings.Config.{Config}
use Rattle.port_pool.specs.Boxes as box
use Rattle.call_board.specs.Acts.{BoardEntry}
use Rattle.call_cell.specs.Cells.{Receipt}
use Rattle.call_cell.specs.CellHistories.{cell_last_moment}
use Rattle.relay_core.specs.Entries.{Entry}
use Rattle.relay_core.specs.Legal.{Orderly}
use Rattle.relay_core.specs.Turns.{IsAbove, Rising, IsOfLane}
use Rattle.relay_core.proofs.Gains.{rising_append}
use Rattle.relay_core.proofs.Turns.{turn_keeps, lane_keeps}
use Rattle.media_lane.specs.Steps.{take_entry, recorded_relay}
use Rattle.relay_script.specs.Steps as step
use Rattle.relay_script.specs.Steps.{Step}
use Rattle.relay_script.specs.EventLines.{Printed}
use Rattle.replay_devices.specs.Devices.{Happening}
use Rattle.replay_steps.specs.Steps.{Course, Packet, TurnsBoard, TakesPacket, Misses, RelaysPacket, Controls, Makes, Plays, course_after}
use Rattle.replay_laws.proofs.Rising.{nothing_behind}
use Rattle.replay_laws.proofs.Turns.{turn_list}

-- a list that is orderly, as the one before it
pub record Grown (config : Config) (l new : List Entry) : Type 0 where
  pub added : List Entry
  pub is : new ≡ l ++ added
  pub rising : Rising l added
  pub orderly : Orderly config new

nothing_gained : (config : Config) (l new : List Entry) → Orderly config l → new ≡ l → Grown config l new
nothing_gained config l new o is = record { added = []; is = is ∙ sym (nothing_behind l); rising = tt; orderly = subst (Orderly config) (sym is) o }

pub gained_both : (config : Config) (l mid new : List Entry) → Grown config l mid → Grown config mid new → Grown config l new
gained_both config l mid new a b = record {
  added = a.added ++ b.added;
  is = b.is ∙ ap (λ (k : List Entry). k ++ b.added) a.is ∙ append_assoc l a.added b.added;
  rising = rising_append l a.added b.added a.rising (subst (λ (k : List Entry). Rising k b.added) a.is b.rising);
  orderly = b.orderly;
}

one_gained : (config : Config) (l new : List Entry) (e : Entry) → Orderly config l → IsOfLane e.event → IsAbove l e.place e.number → new ≡ l ++ e ∷ [] → Grown config l new
one_gained config l new e o lane above is =
    record { added = e ∷ []; is = is; rising = (above, tt); orderly = subst (Orderly config) (sym is) (lane_keeps config l e o lane above) }

turn_gained : (config : Config) (l new : List Entry) (e : BoardEntry) → Orderly config l → TurnsBoard config l e new → Grown config l new
turn_gained config l new e o t =
    let list = turn_list config l new e o t in
    record { added = t.nested ++ t.last ∷ []; is = list.0; rising = list.1; orderly = subst (Orderly config) (sym t.list_is) (turn_keeps config l t.nested t.last o t.turn) }

pub packet_gained : (config : Config) (l : List Entry) (port : ℕ) (source : Addr) (bytes : List ℕ) (p : Packet) (new : List Entry) → Orderly config l → TakesPacket config l port source bytes p new → Grown config l new
packet_gained config l port source bytes p new o t =
    one_gained config l new (take_entry config p.0 p.1.half p.1.take (box.Datagram p.1.holder p.1.source p.1.bytes)) o tt t.at_front t.list_is

none_gained : (config : Config) (l : List Entry) (port : ℕ) (source : Addr) (bytes : List ℕ) (failing : Bool) (e : Printed) (new : List Entry) → Orderly config l → Misses config l port source bytes failing e new → Grown config l new
none_gained config l port source bytes failing e new o (inl none) = nothing_gained config l new o none.2
none_gained config l port source bytes failing e new o (inr t) = one_gained config l new (take_entry config t.end.0 t.end.1 t.number t.taken) o tt t.at_front t.list_is

pub relay_gained : (config : Config) (clock : ℕ) (l : List Entry) (old : List Happening) (p : Receipt) (e : Printed) (new : List Entry) (past : List Happening) → Orderly config l
    → RelaysPacket config clock l old p e new past → Grown config l new
relay_gained config clock l old p e new past o r =
    one_gained config l new (recorded_relay p r.relayed.number (max clock (cell_last_moment r.relayed.history)) r.outcome) o tt r.relayed.at_front r.relayed.list_is

control_gained : (config : Config) (clock : ℕ) (l : List Entry) (source : Addr) (bytes : List ℕ) (read_fails reply_fails : Bool) (opened : List PortCall) (drawn : List KeyCall) (e : Printed) (new : List Entry)
    → Orderly config l → Controls config clock l source bytes read_fails reply_fails opened drawn e new → Grown config l new
control_gained config clock l source bytes true reply_fails opened drawn e new o c = nothing_gained config l new o c.1.2
control_gained config clock l source bytes false reply_fails opened drawn e new o (inl c) = nothing_gained config l new o c.2.2
control_gained config clock l source bytes false reply_fails opened drawn e new o (inr a) = turn_gained config l new _ o a.turns

of_course : (config : Config) (l : List Entry) (x y : Course) → x ≡ y → Grown config l y.entries → Grown config l x.entries
of_course config l x y is grown = subst (Grown config l) (sym (ap (λ (c : Course). c.entries) is)) grown

pub step_gained : (config : Config) (seed : ℕ) (r : Course) (s : Step) (p : List Printed) (x : Course) → Orderly config r.entries → Makes config seed r s p x → Grown config r.entries x.entries
step_gained config seed r step.Skip p x o m = nothing_gained config r.entries x.entries o (ap (λ (c : Course). c.entries) m.1)
step_gained config seed r (step.At moment) p x o m = nothing_gained config r.entries x.entries o (ap (λ (c : Course). c.entries) m.1)
step_gained config seed r (step.Key bytes) p x o m = nothing_gained config r.entries x.entries o (ap (λ (c : Course). c.entries) m.1)
step_gained config seed r (step.Fail kind count) p x o m = nothing_gained config r.entries x.entries o (ap (λ (c : Course). c.entries) m.1)
step_gained config seed r (step.FailSend port count) p x o m = nothing_gained config r.entries x.entries o (ap (λ (c : Course). c.entries) m.1)
step_gained config seed r (step.Ng source bytes) p x o m =
    let a = m.holds in
    of_course config r.entries x _ a.new_is (control_gained config r.clock r.entries source bytes _ _ a.opened a.drawn m.event a.entries o a.controls)
step_gained config seed r (step.Take port source bytes) p x o m = elim m.1.holds [
  | inl a ↦ of_course config r.entries x _ a.new_is (packet_gained config r.entries port source bytes a.packet a.entries o a.takes)
  | inr a ↦ of_course config r.entries x _ a.new_is (none_gained config r.entries port source bytes _ m.1.event a.entries o a.misses)
]
step_gained config seed r (step.Relay number) p x o m =
    let a = m.holds in
    of_course config r.entries x _ a.new_is (relay_gained config r.clock r.entries r.past a.packet.1 m.event a.entries a.past o a.relays)
step_gained config seed r (step.Packet port source bytes) p x o m = elim m.holds [
  | inl a ↦
      let first = packet_gained config r.entries port source bytes a.packet a.between o a.takes in
      of_course config r.entries x _ a.new_is
      (gained_both config r.entries a.between a.entries first (relay_gained config r.clock a.between r.past a.packet.1 m.event a.entries a.past first.orderly a.relays))
  | inr a ↦ of_course config r.entries x _ a.new_is (none_gained config r.entries port source bytes _ m.event a.entries o a.misses)
]
step_gained config seed r step.Tick p x o m =
    let a = m.holds in
    of_course config r.entries x _ a.new_is (turn_gained config r.entries a.entries _ o a.ticks.turns)

pub play_gained : (config : Config) (seed : ℕ) (steps : List Step) (r : Course) (p : List Printed) (x : Course) → Orderly config r.entries → Plays config seed steps r p x → Grown config r.entries x.entries
play_gained config seed [] r p x o plays = nothing_gained config r.entries x.entries o (ap (λ (c : Course). c.entries) plays.1)
play_gained config seed (s ∷ steps) r p x o plays =
    let first = step_gained config seed r s plays.1 plays.0 o plays.4 in
    gained_both config r.entries plays.0.entries x.entries first (play_gained config seed steps (course_after s plays.0) plays.2 x first.orderly plays.5)

use Rattle.std.proofs.Common.{◌≡◌, refl, sym, subst, ℕ, List, true, false}
use Rattle.ng_bencode.specs.Room.{Room}
use Rattle.relay_outside.specs.declared.address.Addr.{Addr}
use Rattle.relay_script.specs.declared.event.Printed as coded
use Rattle.relay_script.specs.declared.event.Printed.TheVariants as code
use Rattle.relay_script.specs.EventLines.{event_of}
use Rattle.replay_devices.specs.Devices.{Happening}
use Rattle.replay_devices.specs.Watch.{WatchStandsFor}
use Rattle.replay_steps.specs.Steps.{replied}
use Rattle.replay_steps.proofs.step.note_event.Goals as goal

-- all else is no reply
no_reply : (e : coded.Printed) → ((to : Addr) (bytes : Room ℕ) → e ≡ code.Reply to bytes → ⊥) → (e ≡ code.ReplyFault → ⊥) → (past : List Happening) → past ≡ replied (event_of e) past
no_reply (code.Reply to bytes) sent failed past = absurd (sent to bytes refl)
no_reply code.Silent sent failed past = refl
no_reply code.ReadFault sent failed past = refl
no_reply code.ReplyFault sent failed past = absurd (failed refl)
no_reply (code.Took receipt) sent failed past = refl
no_reply code.Nothing sent failed past = refl
no_reply code.TooLong sent failed past = refl
no_reply code.TakeFault sent failed past = refl
no_reply (code.Relayed outcome bytes) sent failed past = refl
no_reply (code.Ended calls) sent failed past = refl
no_reply (code.ScriptFault line) sent failed past = refl

pub returns-in-Reply : goal.returns-in-Reply
returns-in-Reply c config seed past s = subst (λ (e : coded.Printed). WatchStandsFor config seed (replied (event_of e) past) c.replied.new.self) (sym c.in-Reply.is) (c.replied.ensures config seed true past s)

pub returns-in-ReplyFault : goal.returns-in-ReplyFault
returns-in-ReplyFault c config seed past s =
    subst (λ (e : coded.Printed). WatchStandsFor config seed (replied (event_of e) past) c.replied-in-ReplyFault.new.self) (sym c.in-ReplyFault.is) (c.replied-in-ReplyFault.ensures config seed false past s)

pub returns-in_default : goal.returns-in_default
returns-in_default c config seed past s =
    subst (λ (h : List Happening). WatchStandsFor config seed h c.args.watch.now) (no_reply c.args.event.now c.in_default.not-Reply c.in_default.not-ReplyFault past) s

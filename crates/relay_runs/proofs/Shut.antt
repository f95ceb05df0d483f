-- Each box is shut when the relay has stopped.
use Rattle.std.proofs.Common.{◌≡◌, ◌∙◌, sym, ap, subst, ℕ, ◌⊎◌, inl, inr, Bool, true, false, List, ◌∷◌, None, map}
use Rattle.std.specs.Prelude.{if◌then◌else◌}
use Rattle.relay_outside.specs.declared.settings.Config.{Config}
use Rattle.histories.specs.Words.{In, has}
use Rattle.histories.proofs.Lists.{maps, it_has}
use Rattle.port_pool.specs.declared.holder.Holder.{Holder}
use Rattle.port_pool.specs.Boxes.{holder}
use Rattle.call_board.specs.Acts.{Call, BoardEntry, act}
use Rattle.call_board.specs.Calls.{live}
use Rattle.call_board.specs.Fits.{IsFitting}
use Rattle.call_board.specs.Pairs.{held, legs_of_act, closes_leg, closes_leg_act}
use Rattle.call_board.proofs.Held.{held_live, held_split}
use Rattle.relay_core.specs.Entries.{Entry, front, box_history, box_of}
use Rattle.relay_core.specs.Legal.{Legal}
use Rattle.relay_core.specs.Safe.{box_before}
use Rattle.relay_core.proofs.Boxes.{below_front}
use Rattle.relay_core.proofs.Histories.{good_history}
use Rattle.relay_core.proofs.Holders.{held_is_box}
use Rattle.relay_core.proofs.Shut.{box_now, none_if}
use Rattle.board_turns.specs.Between.{board_of}
use Rattle.board_turns.specs.Stops.{stop_entry}

-- a stop closes each leg that is held
stop_closes : (config : Config) (h : List BoardEntry) (a : Holder) → IsFitting config h → In a (held h) → closes_leg (stop_entry h) a ≡ true
stop_closes config h a fits i =
    let of = held_live config h a fits i in
    let numbers : List ℕ = map (λ (c : Call). c.number) (live h) in
    let named : has numbers a.call ≡ true =
    it_has a.call numbers (subst (λ (n : ℕ). In n numbers) (sym of.call_is) (maps (λ (c : Call). c.number) (live h) of.is_live)) in
    ap (λ (b : Bool). if b then true else closes_leg_act (act (stop_entry h)) a) named

stopped_case : (config : Config) (h : List BoardEntry) (a : Holder) → IsFitting config h
    → (In a (held h) × (closes_leg (stop_entry h) a ≡ false)) ⊎ In a (legs_of_act (act (stop_entry h))) → ⊥
stopped_case config h a fits (inl still) =
    absurd (let k : true ≡ false = sym (stop_closes config h a fits still.0) ∙ still.1 in cc)
stopped_case config h a fits (inr new) = elim new [ ]

-- so none is held after it
none_held : (config : Config) (h : List BoardEntry) (a : Holder) → IsFitting config h → In a (held (stop_entry h ∷ h)) → ⊥
none_held config h a fits i = stopped_case config h a fits (held_split h (stop_entry h) a i)

-- of a legal list whose last board entry is a stop
pub boxes_shut : (config : Config) (l : List Entry) (h : List BoardEntry) → Legal config l → board_of l ≡ stop_entry h ∷ h → (pair : ℕ)
    → holder (box_history l (box_of config pair) (front l (box_of config pair))) ≡ None
boxes_shut config l h legal stopped pair =
    let o = legal.orderly in
    let n = front l 0 in
    let place = box_of config pair in
    let good : IsFitting config (stop_entry h ∷ h) = subst (λ (k : List BoardEntry). IsFitting config k) stopped (good_history config l o n) in
    box_now config l o place n (front l place) (λ e i p. below_front l e 0 i p) (λ e i p. below_front l e place i p)
    ∙ none_if (holder (box_before l place n))
    (λ a is. none_held config h a good.1 (subst (λ (k : List BoardEntry). In a (held k)) stopped (held_is_box config l o n pair a is).1))

-- After a stop no pair is held.
use Rattle.std.proofs.Common.{◌≡◌, ◌∙◌, sym, ap, subst, ℕ, Bool, true, not, List, [], ◌∷◌, map, filter}
use Rattle.std.specs.Prelude.{if◌then◌else◌}
use Rattle.std.specs.List.{flat_map}
use Rattle.relay_outside.specs.declared.settings.Config.{Config}
use Rattle.histories.specs.Words.{In, has}
use Rattle.histories.proofs.Lists.{maps, mapped, spreads, it_has}
use Rattle.port_pool.specs.declared.holder.Holder.{Holder}
use Rattle.call_board.specs.Acts.{Call, BoardEntry, act}
use Rattle.call_board.specs.Calls.{live}
use Rattle.call_board.specs.Fits.{IsFitting}
use Rattle.call_board.specs.Pairs.{held, closed_of, closes_leg, closes_leg_act}
use Rattle.call_board.proofs.Held.{held_live, closes_held}
use Rattle.relay_core.proofs.Turns.{filter_none, nothing_more}
use Rattle.board_turns.specs.CallEnds.{leg_pairs}
use Rattle.board_turns.specs.Stops.{stop_entry, still_held}

-- a stop closes each leg that is held
stop_closes : (config : Config) (h : List BoardEntry) (a : Holder) → IsFitting config h → In a (held h) → closes_leg (stop_entry h) a ≡ true
stop_closes config h a fits i =
    let r = held_live config h a fits i in
    let numbers : List ℕ = map (λ (c : Call). c.number) (live h) in
    let named : has numbers a.call ≡ true =
    it_has a.call numbers (subst (λ (n : ℕ). In n numbers) (sym r.call_is) (maps (λ (c : Call). c.number) (live h) r.is_live)) in
    ap (λ (b : Bool). if b then true else closes_leg_act (act (stop_entry h)) a) named

closed_by_stop : (config : Config) (h : List BoardEntry) (a : Holder) → IsFitting config h → In a (held h) → In a (flat_map (closed_of h (stop_entry h)) (live h))
closed_by_stop config h a fits i =
    let c = closes_held h (stop_entry h) a i (stop_closes config h a fits i) in
    spreads (closed_of h (stop_entry h)) (live h) c.is_in c.closes

pub none_held : (config : Config) (h : List BoardEntry) → IsFitting config h → still_held h (stop_entry h) (live h) ≡ []
none_held config h fits =
    let gone : List ℕ = leg_pairs (flat_map (closed_of h (stop_entry h)) (live h)) in
    filter_none (λ (pair : ℕ). not (has gone pair)) (leg_pairs (held h))
    (λ pair i.
    let m = mapped (λ (leg : Holder). leg.pair) (held h) i in
    let among : In pair gone = subst (λ (p : ℕ). In p gone) m.makes
    (maps (λ (leg : Holder). leg.pair) (flat_map (closed_of h (stop_entry h)) (live h)) (closed_by_stop config h m.from fits m.is_in)) in
    ap not (it_has pair gone among))

-- so no leg is held after it
pub stop_holds_none : (config : Config) (h : List BoardEntry) → IsFitting config h → held (stop_entry h ∷ h) ≡ []
stop_holds_none config h fits =
    let e = stop_entry h in
    nothing_more (filter (λ (leg : Holder). not (closes_leg e leg)) (held h))
    ∙ filter_none (λ (leg : Holder). not (closes_leg e leg)) (held h) (λ leg i. ap not (stop_closes config h leg fits i))

-- What a board's history leaves of the counts: each entry leases a pair once and draws at most 24 keys.
use Rattle.std.proofs.Common.{◌≡◌, ◌∙◌, sym, ap, subst, ℕ, ◌+◌, ◌*◌, ◌^◌, ◌≤◌, List, Option, None, length, map, arith}
use Rattle.std.proofs.lemmas.List.{length-map}
use Rattle.histories.proofs.Lists.{mapped, has_it}
use Rattle.relay_outside.specs.declared.settings.Config.{Config}
use Rattle.relay_outside.specs.Settings.{AreFamilies}
use Rattle.relay_outside.specs.declared.ports.PortCall.{PortCall}
use Rattle.sdp_text.specs.Lines.{lines_of}
use Rattle.sdp_text.specs.Descriptions.{fault_in}
use Rattle.port_pool.specs.Ports.{pair_count}
use Rattle.port_pool.specs.Pools.{AreFree}
use Rattle.port_pool.specs.declared.holder.Holder.{Holder}
use Rattle.media_ports.specs.OpenPorts.{LogsHeld, AreOthers}
use Rattle.offer_answer.specs.Rounds.{Round, OfferAsk}
use Rattle.offer_answer.specs.Plan.{demand}
use Rattle.offer_answer.specs.Offers.{PlanFor, leg_asked, key_asked}
use Rattle.call_board.specs.Acts.{BoardEntry}
use Rattle.call_board.specs.Pairs.{drawn, held, free}
use Rattle.call_board.specs.Fits.{IsFitting}
use Rattle.call_board.specs.Plans.{HasRoomForPlan}
use Rattle.call_board.specs.Views.{View, times_leased}
use Rattle.call_board.specs.Boards.{BoardMatches}
use Rattle.call_board.specs.declared.board.Board.{Board}
use Rattle.call_board.specs.declared.board_plan.BoardPlan.{BoardPlan}
use Rattle.call_board.proofs.Sieves.{is_out}
use Rattle.call_board.proofs.Bounds.{few_leases, few_drawn, few_pairs_asked, few_keys_asked}
use Rattle.call_board.proofs.Free.{free_not_held}
use Rattle.call_board.proofs.Outs.{are_free}
use Rattle.offer_command.specs.Leases.{CanLease, pairs_of_plan, keys_of_plan}

-- no pair was leased so often that an offer's leases reach the end of their count
pub leases_left : (config : Config) (h : List BoardEntry) (pair count : ℕ) → IsFitting config h → length h ≤ 2 ^ 56 → count ≤ 16 → times_leased h pair + count ≤ 2 ^ 63
leases_left config h pair count fits short few =
    let most = few_leases config h pair fits in omega (arith, most, short, few)

-- nor do an offer's draws reach the end of theirs
pub draws_left : (config : Config) (h : List BoardEntry) (count : ℕ) → IsFitting config h → length h ≤ 2 ^ 56 → count ≤ 24 * 2 → length (drawn h) + count ≤ 2 ^ 63
draws_left config h count fits short few =
    let most = few_drawn config h fits in omega (arith, most, short, few)

-- An offer's plan demands few pairs and keys.

pub plan_few : (p : BoardPlan) (rounds : List Round) (ask : OfferAsk) → PlanFor p.plan (demand rounds ask) → fault_in (lines_of ask.sdp) ≡ None → (pairs_of_plan p ≤ 16) × (keys_of_plan p ≤ 24)
plan_few p rounds ask plan sound =
    let pairs = few_pairs_asked rounds ask sound in
    let keys = few_keys_asked rounds ask sound in
    let all_pairs : pairs_of_plan p ≡ length (demand rounds ask).pairs = sym (length-map p.plan.legs.items leg_asked) ∙ ap length plan.pairs_are in
    let all_keys : keys_of_plan p ≡ length (demand rounds ask).keys = sym (length-map p.plan.key_places.items key_asked) ∙ ap length plan.keys_are in
    (omega (arith, pairs, all_pairs), omega (arith, keys, all_keys))

free_is_not_held : (config : Config) (h : List BoardEntry) → AreOthers (map (λ (leg : Holder). leg.pair) (held h)) (free config h)
free_is_not_held config h p among =
    is_out p (map (λ (leg : Holder). leg.pair) (held h)) (λ i.
    let leg = mapped (λ (leg : Holder). leg.pair) (held h) i in
    free_not_held config h p leg.from (has_it p (free config h) among) leg.is_in leg.makes)

-- in a turn of the board an offer may take what its plan demands
pub may_lease : (config : Config) (h : List BoardEntry) (board : Board) (log : Option (List PortCall)) (p : BoardPlan) (v : View) → AreFamilies config → IsFitting config h → length h ≤ 2 ^ 56 →
    HasRoomForPlan board p → pairs_of_plan p ≤ 16 → keys_of_plan p ≤ 24 → BoardMatches config board v → v.free ≡ free config h → v.leases ≡ times_leased h → v.drawn ≡ length (drawn h) →
    LogsHeld config log (map (λ (leg : Holder). leg.pair) (held h)) → CanLease config board log p
may_lease config h board log p v families fits short room pairs keys shows free_is leases_are drawn_is opens = record {
  families = families;
  room = room;
  view = v;
  shows = shows;
  are_free = subst (AreFree (pair_count config)) (sym free_is) (are_free config h fits);
  generations = λ pair.
      let low = leases_left config h pair (pairs_of_plan p) fits short pairs in
      let same : v.leases pair ≡ times_leased h pair = ap (λ (f : ℕ → ℕ). f pair) leases_are in omega (arith, low, same);
  draws = let low = draws_left config h (keys_of_plan p) fits short (omega (arith, keys)) in omega (arith, low, drawn_is);
  held = map (λ (leg : Holder). leg.pair) (held h);
  opens = opens;
  apart = subst (AreOthers (map (λ (leg : Holder). leg.pair) (held h))) (sym free_is) (free_is_not_held config h);
}

use Rattle.std.proofs.Common.{◌≡◌, ◌∙◌, refl, sym, subst, ℕ, ◌<◌, List, [], ◌∷◌}
use Rattle.relay_outside.specs.declared.ports.PortCall.{PortCall}
use Rattle.relay_outside.specs.declared.ports.PortCall.TheVariants.{Close}
use Rattle.relay_outside.specs.declared.settings.Config.{Config}
use Rattle.relay_outside.specs.DeviceLogs.{Gained, WhereLogged}
use Rattle.relay_outside.proofs.Telling.{gained_less}
use Rattle.rtp_packet.specs.declared.head.Half.TheVariants.{Rtp, Rtcp}
use Rattle.port_pool.specs.Boxes as boxes
use Rattle.port_pool.specs.Ports.{pair_count, port_address, AreOfPair}
use Rattle.histories.specs.Words.{here}
use Rattle.media_ports.specs.Addresses.{addresses_of}
use Rattle.media_ports.specs.Calls.{AllOpen, ClosesPair}
use Rattle.media_ports.specs.Ends.{ends_told}
use Rattle.call_board.specs.Shapes.{board_shape}
use Rattle.board_turns.specs.NestedSteps.{AddsRow, IsTurnOpen, ends_left, closing_of}
use Rattle.board_turns.specs.Closings.{ClosesLegs}
use Rattle.relay_core.specs.Entries.{Box, box_of}
use Rattle.relay_core.specs.Turns.{GainsNested}
use Rattle.board_turns.proofs.KeptPools.{one_returned}
use Rattle.board_turns.proofs.Lefts.{told_open, told_closed}
use Rattle.board_turns.proofs.Staying.{same_config}
use Rattle.board_turns.proofs.Tying.{takes_closed}
use Rattle.board_turns.proofs.gone_legs.close_leg.Goals as goal

pub shut_box-rtp_in-requires-clause-open : goal.shut_box-rtp_in-requires-clause-open
shut_box-rtp_in-requires-clause-open g c =
    subst (λ (p : ℕ). IsTurnOpen c.args.turn.now.main.config.now c.args.turn.now.main.hand.now p) (sym c.pair.ensures) (c.requires.can.boxes_open c.args.leg.0.pair (here refl))

pub shut_box-rtp_in-requires-clause-may : goal.shut_box-rtp_in-requires-clause-may
shut_box-rtp_in-requires-clause-may g c =
    c.requires.may

pub close_pair-requires-clause-open : goal.close_pair-requires-clause-open
close_pair-requires-clause-open g c =
    let can = c.requires.can in
    let log = g.P.PortMaker.log c.args.turn.now.ports.now in
    let same = same_config c.args.turn.now.main c.shut_box-rtp_in.new.main c.shut_box-rtp_in.ensures.nests in
    subst (λ (config : Config). WhereLogged log (AllOpen (addresses_of config (c.args.leg.0 ∷ [])))) (sym same)
    (told_open c.args.turn.now.main.config.now log can.held c.args.leg.0 (can.of_range c.args.leg.0.pair (here refl))
    (can.are_held c.args.leg.0.pair (here refl)) can.opens)

pub close_pair-requires-clause-ends : goal.close_pair-requires-clause-ends
close_pair-requires-clause-ends g c =
    let config = c.args.turn.now.main.config.now in
    let lease = c.args.leg.0 in
    let ends = c.shut_box-rtp_in.result in
    let same = same_config c.args.turn.now.main c.shut_box-rtp_in.new.main c.shut_box-rtp_in.ensures.nests in
    let home = subst (λ (p : ℕ). AreOfPair g.P.In.InEnd.log (port_address config p Rtp) ends.0 ends.1) c.pair.ensures c.shut_box-rtp_in.ensures.home in
    subst (λ (k : Config). AreOfPair g.P.In.InEnd.log (port_address k lease.pair Rtp) ends.0 ends.1
    × AreOfPair g.P.Out.OutEnd.log (port_address k lease.pair Rtp) c.args.leg.1 c.args.leg.2) (sym same) (home, c.requires.home c.args.leg (here refl))

pub returns-clause-closes : goal.returns-clause-closes
returns-clause-closes g c =
    let before = g.P.PortMaker.log c.args.turn.now.ports.now in
    let after = g.P.PortMaker.log c.close_pair.new.ports in
    let leg = c.args.leg in
    let ends = c.shut_box-rtp_in.result in
    let config = c.shut_box-rtp_in.new.main.config.now in
    let same = same_config c.args.turn.now.main c.shut_box-rtp_in.new.main c.shut_box-rtp_in.ensures.nests in
    subst (λ (k : Config). Gained before after (ClosesLegs g.P.Out.OutEnd.log k (leg ∷ []))) same
    (gained_less before after
    (λ (calls : List PortCall). calls ≡ Close (port_address config leg.0.pair Rtp) (g.P.In.InEnd.log ends.0).calls (g.P.Out.OutEnd.log leg.1).calls
    ∷ Close (port_address config leg.0.pair Rtcp) (g.P.In.InEnd.log ends.1).calls (g.P.Out.OutEnd.log leg.2).calls ∷ [])
    (ClosesLegs g.P.Out.OutEnd.log config (leg ∷ []))
    (λ calls are. ((g.P.In.InEnd.log ends.0).calls, (g.P.In.InEnd.log ends.1).calls, [], are, refl)) c.close_pair.ensures.closes)

pub returns-clause-open : goal.returns-clause-open
returns-clause-open g c held opens =
    let lease = c.args.leg.0 in
    let before = g.P.PortMaker.log c.args.turn.now.ports.now in
    let after = g.P.PortMaker.log c.close_pair.new.ports in
    let ends = c.shut_box-rtp_in.result in
    let told = ends_told g.P.In.InEnd.log g.P.Out.OutEnd.log (record { rtp_in = ends.0; rtp_out = c.args.leg.1; rtcp_in = ends.1; rtcp_out = c.args.leg.2 }) in
    let same = same_config c.args.turn.now.main c.shut_box-rtp_in.new.main c.shut_box-rtp_in.ensures.nests in
    told_closed c.args.turn.now.main.config.now before after held lease told c.requires.may.whole_parts.whole.families (c.requires.can.of_range lease.pair (here refl))
    (subst (λ (k : Config). Gained before after (ClosesPair k lease told)) same c.close_pair.ensures.closes) opens

pub returns-clause-pool : goal.returns-clause-pool
returns-clause-pool g c =
    c.give_back.ensures.shape ∙ one_returned (board_shape c.args.turn.now.board.now) c.args.leg.0.pair

pub returns-clause-takes : goal.returns-clause-takes
returns-clause-takes g c =
    let can = c.requires.can in
    let ends = c.shut_box-rtp_in.result in
    let before = g.P.PortMaker.log c.args.turn.now.ports.now in
    let after = g.P.PortMaker.log c.close_pair.new.ports in
    let lease = c.args.leg.0 in
    let same = same_config c.args.turn.now.main c.shut_box-rtp_in.new.main c.shut_box-rtp_in.ensures.nests in
    takes_closed g.P.In.InEnd.log g.P.Out.OutEnd.log c.args.turn.now.main.config.now before after c.args.turn.now.main.hand.now
    c.shut_box-rtp_in.new.main.hand.now lease (record { rtp_in = ends.0; rtp_out = c.args.leg.1; rtcp_in = ends.1; rtcp_out = c.args.leg.2 }) c.requires.may.whole_parts.whole.families (can.of_range lease.pair (here refl))
    (subst (λ (p : ℕ). AddsRow (box_of c.args.turn.now.main.config.now p) (Box boxes.Close) (ends_left g.P.In.InEnd.log ends) c.args.turn.now.main.hand.now c.shut_box-rtp_in.new.main.hand.now) c.pair.ensures
    c.shut_box-rtp_in.ensures.row)
    (subst (λ (k : Config). Gained before after (λ (calls : List PortCall).
    calls ≡ Close (port_address k lease.pair Rtp) (g.P.In.InEnd.log ends.0).calls (g.P.Out.OutEnd.log c.args.leg.1).calls
    ∷ Close (port_address k lease.pair Rtcp) (g.P.In.InEnd.log ends.1).calls (g.P.Out.OutEnd.log c.args.leg.2).calls ∷ [])) same c.close_pair.ensures.closes)

pub returns-clause-stays : goal.returns-clause-stays
returns-clause-stays g c =
    record {
      nests = c.shut_box-rtp_in.ensures.nests;
      devices = record { board_is = refl; ports_are = refl; gone_is = refl };
      replies = c.give_back.ensures.replies;
      later = c.close_pair.ensures.later;
    }

pub returns-clause-gained : goal.returns-clause-gained
returns-clause-gained g c =
    subst (λ (p : ℕ). GainsNested c.args.turn.now.main.entry_id.number c.args.turn.now.main.entry_id.moment (closing_of c.args.turn.now.main.config.now p ∷ []) c.args.turn.now.main.hand.now c.shut_box-rtp_in.new.main.hand.now) c.pair.ensures c.shut_box-rtp_in.ensures.gained

pub give_back-requires-clause-not_free : goal.give_back-requires-clause-not_free
give_back-requires-clause-not_free g c =
    c.requires.can.out.0.not_free

pub shut_box-rtp_in-requires-clause-pair : goal.shut_box-rtp_in-requires-clause-pair
shut_box-rtp_in-requires-clause-pair g c =
    subst (λ (p : ℕ). p < pair_count c.args.turn.now.main.config.now) (sym c.pair.ensures) (c.requires.can.of_range c.args.leg.0.pair (here refl))

pub close_pair-requires-clause-pair : goal.close_pair-requires-clause-pair
close_pair-requires-clause-pair g c =
    subst (λ (k : Config). c.args.leg.0.pair < pair_count k) (sym (same_config c.args.turn.now.main c.shut_box-rtp_in.new.main c.shut_box-rtp_in.ensures.nests))
    (c.requires.can.of_range c.args.leg.0.pair (here refl))

use Rattle.std.proofs.Common.{◌≡◌, ◌∙◌, ap, sym, subst, ℕ, [], ◌∷◌, Option, arith}
use Rattle.relay_outside.specs.declared.address.Addr.{Addr}
use Rattle.relay_outside.specs.declared.ports.PortCall.TheVariants.{Close}
use Rattle.relay_outside.specs.DeviceLogs.{Gained, WhereLogged}
use Rattle.port_pool.specs.Ports.{AreOfPair, rtcp_address}
use Rattle.port_pool.proofs.Addresses.{below_end}
use Rattle.media_ports.specs.Calls.{AllOpen}
use Rattle.relay_core.specs.Entries.{box_of}
use Rattle.hand_over.specs.ClosingSteps.{HoldsEnds, GivesBox, TakesAt}
use Rattle.hand_over.proofs.OneClosed.{next_of, closes_one, closes_none, ins_home, fewer_left}
use Rattle.hand_over.proofs.closing.close_next.Goals as goal

pub returns-in_default-clause-step : goal.returns-in_default-clause-step
returns-in_default-clause-step g c =
    let take = subst (λ (o : Option _). TakesAt c.args.parts.now c.take_at.new.parts c.args.place o) c.in_default.is c.take_at.ensures in
    (closes_none g.P.In.InEnd.log g.P.Out.OutEnd.log c.args.config.now c.args.place c.args.parts.now c.take_at.new.parts (g.P.PortMaker.log c.args.ports.now) c.requires.ready take).0

pub returns-in_default-clause-none : goal.returns-in_default-clause-none
returns-in_default-clause-none g c same =
    let take = subst (λ (o : Option _). TakesAt c.args.parts.now c.take_at.new.parts c.args.place o) c.in_default.is c.take_at.ensures in
    (closes_none g.P.In.InEnd.log g.P.Out.OutEnd.log c.args.config.now c.args.place c.args.parts.now c.take_at.new.parts (g.P.PortMaker.log c.args.ports.now) c.requires.ready take).1

pub pair_at-pair-requires-clause-of_pair : goal.pair_at-pair-requires-clause-of_pair
pair_at-pair-requires-clause-of_pair g c =
    let take = subst (λ (o : Option _). TakesAt c.args.parts.now c.take_at.new.parts c.args.place o) c.in-Some.is c.take_at.ensures in
    let next = next_of g.P.In.InEnd.log g.P.Out.OutEnd.log c.args.config.now c.args.place c.args.parts.now c.take_at.new.parts (g.P.PortMaker.log c.args.ports.now)
    c.in-Some.at c.in-Some.rtp_out c.in-Some.rtcp_out c.requires.ready take in
    (next.first.leg.holder.pair, next.within, next.at_is)

pub shut_at-ins-requires-clause-within : goal.shut_at-ins-requires-clause-within
shut_at-ins-requires-clause-within g c =
    let take = subst (λ (o : Option _). TakesAt c.args.parts.now c.take_at.new.parts c.args.place o) c.in-Some.is c.take_at.ensures in
    let next = next_of g.P.In.InEnd.log g.P.Out.OutEnd.log c.args.config.now c.args.place c.args.parts.now c.take_at.new.parts (g.P.PortMaker.log c.args.ports.now)
    c.in-Some.at c.in-Some.rtp_out c.in-Some.rtcp_out c.requires.ready take in
    let pair = c.pair_at-pair.ensures next.first.leg.holder.pair next.within next.at_is in
    let place = c.box_place.ensures in
    let below = next.within in
    let room = c.requires.room in
    let same = c.take_at.ensures.length_is in
    omega (arith, pair, place, below, room, same)

pub shut_at-ins-requires-clause-open_box : goal.shut_at-ins-requires-clause-open_box
shut_at-ins-requires-clause-open_box g c =
    let take = subst (λ (o : Option _). TakesAt c.args.parts.now c.take_at.new.parts c.args.place o) c.in-Some.is c.take_at.ensures in
    let next = next_of g.P.In.InEnd.log g.P.Out.OutEnd.log c.args.config.now c.args.place c.args.parts.now c.take_at.new.parts (g.P.PortMaker.log c.args.ports.now)
    c.in-Some.at c.in-Some.rtp_out c.in-Some.rtcp_out c.requires.ready take in
    let pair = c.pair_at-pair.ensures next.first.leg.holder.pair next.within next.at_is in
    let place = c.box_place.ensures ∙ ap (λ (n : ℕ). box_of c.args.config.now n) pair in
    let low = c.requires.ready.within in
    let has = next.ready.2 in (
      next.ready.1,
      subst (λ (n : ℕ). HoldsEnds c.take_at.new.parts n next.ready.1) (sym place)
          (record { box = has.box; box_is = take.others (box_of c.args.config.now next.first.leg.holder.pair) (λ e. absurd (omega (arith, e, low))) ∙ has.box_is; ends_are = has.ends_are }),
    )

pub close_two-requires-clause-port : goal.close_two-requires-clause-port
close_two-requires-clause-port g c =
    let take = subst (λ (o : Option _). TakesAt c.args.parts.now c.take_at.new.parts c.args.place o) c.in-Some.is c.take_at.ensures in
    let next = next_of g.P.In.InEnd.log g.P.Out.OutEnd.log c.args.config.now c.args.place c.args.parts.now c.take_at.new.parts (g.P.PortMaker.log c.args.ports.now)
    c.in-Some.at c.in-Some.rtp_out c.in-Some.rtcp_out c.requires.ready take in
    let port = ap (λ (a : Addr). a.port) next.at_is in
    let end = below_end c.args.config.now next.first.leg.holder.pair next.within in
    omega (arith, port, end)

pub close_two-requires-clause-open : goal.close_two-requires-clause-open
close_two-requires-clause-open g c =
    let take = subst (λ (o : Option _). TakesAt c.args.parts.now c.take_at.new.parts c.args.place o) c.in-Some.is c.take_at.ensures in
    let next = next_of g.P.In.InEnd.log g.P.Out.OutEnd.log c.args.config.now c.args.place c.args.parts.now c.take_at.new.parts (g.P.PortMaker.log c.args.ports.now)
    c.in-Some.at c.in-Some.rtp_out c.in-Some.rtcp_out c.requires.ready take in
    subst (λ (a : Addr). WhereLogged (g.P.PortMaker.log c.args.ports.now) (AllOpen (a ∷ rtcp_address a ∷ []))) (sym next.at_is) next.ready.4

pub close_two-requires-clause-ins : goal.close_two-requires-clause-ins
close_two-requires-clause-ins g c =
    let take = subst (λ (o : Option _). TakesAt c.args.parts.now c.take_at.new.parts c.args.place o) c.in-Some.is c.take_at.ensures in
    let next = next_of g.P.In.InEnd.log g.P.Out.OutEnd.log c.args.config.now c.args.place c.args.parts.now c.take_at.new.parts (g.P.PortMaker.log c.args.ports.now)
    c.in-Some.at c.in-Some.rtp_out c.in-Some.rtcp_out c.requires.ready take in
    let pair = c.pair_at-pair.ensures next.first.leg.holder.pair next.within next.at_is in
    let place = c.box_place.ensures ∙ ap (λ (n : ℕ). box_of c.args.config.now n) pair in
    let gives = subst (λ (n : ℕ). GivesBox c.take_at.new.parts c.shut_at-ins.new.parts n c.shut_at-ins.result) place c.shut_at-ins.ensures in
    subst (λ (a : Addr). AreOfPair g.P.In.InEnd.log a c.shut_at-ins.result.0 c.shut_at-ins.result.1) (sym next.at_is)
    (ins_home g.P.In.InEnd.log g.P.Out.OutEnd.log c.args.config.now c.args.place c.args.parts.now c.take_at.new.parts c.shut_at-ins.new.parts (g.P.PortMaker.log c.args.ports.now)
    c.in-Some.at c.in-Some.rtp_out c.in-Some.rtcp_out c.shut_at-ins.result c.requires.ready take next gives)

pub close_two-requires-clause-outs : goal.close_two-requires-clause-outs
close_two-requires-clause-outs g c =
    let take = subst (λ (o : Option _). TakesAt c.args.parts.now c.take_at.new.parts c.args.place o) c.in-Some.is c.take_at.ensures in
    let next = next_of g.P.In.InEnd.log g.P.Out.OutEnd.log c.args.config.now c.args.place c.args.parts.now c.take_at.new.parts (g.P.PortMaker.log c.args.ports.now)
    c.in-Some.at c.in-Some.rtp_out c.in-Some.rtcp_out c.requires.ready take in
    subst (λ (a : Addr). AreOfPair g.P.Out.OutEnd.log a c.in-Some.rtp_out c.in-Some.rtcp_out) (sym next.at_is) next.ready.0

pub returns-clause-step : goal.returns-clause-step
returns-clause-step g c =
    let take = subst (λ (o : Option _). TakesAt c.args.parts.now c.take_at.new.parts c.args.place o) c.in-Some.is c.take_at.ensures in
    let next = next_of g.P.In.InEnd.log g.P.Out.OutEnd.log c.args.config.now c.args.place c.args.parts.now c.take_at.new.parts (g.P.PortMaker.log c.args.ports.now)
    c.in-Some.at c.in-Some.rtp_out c.in-Some.rtcp_out c.requires.ready take in
    let pair = c.pair_at-pair.ensures next.first.leg.holder.pair next.within next.at_is in
    let place = c.box_place.ensures ∙ ap (λ (n : ℕ). box_of c.args.config.now n) pair in
    let gives = subst (λ (n : ℕ). GivesBox c.take_at.new.parts c.shut_at-ins.new.parts n c.shut_at-ins.result) place c.shut_at-ins.ensures in
    let taken = g.P.In.InEnd.log in
    let sent = g.P.Out.OutEnd.log in
    let ins = c.shut_at-ins.result in
    let gained = subst (λ (a : Addr). Gained (g.P.PortMaker.log c.args.ports.now) (g.P.PortMaker.log c.close_two.new.ports) (λ calls. calls
    ≡ Close a (taken ins.0).calls (sent c.in-Some.rtp_out).calls ∷ Close (rtcp_address a) (taken ins.1).calls (sent c.in-Some.rtcp_out).calls ∷ [])) next.at_is c.close_two.ensures.closes in
    closes_one taken sent c.args.config.now c.args.place c.args.parts.now c.take_at.new.parts c.shut_at-ins.new.parts (g.P.PortMaker.log c.args.ports.now) (g.P.PortMaker.log c.close_two.new.ports)
    c.in-Some.at c.in-Some.rtp_out c.in-Some.rtcp_out ins c.requires.families c.requires.ready take next gives gained

pub returns-clause-fewer : goal.returns-clause-fewer
returns-clause-fewer g c same =
    let take = subst (λ (o : Option _). TakesAt c.args.parts.now c.take_at.new.parts c.args.place o) c.in-Some.is c.take_at.ensures in
    let next = next_of g.P.In.InEnd.log g.P.Out.OutEnd.log c.args.config.now c.args.place c.args.parts.now c.take_at.new.parts (g.P.PortMaker.log c.args.ports.now)
    c.in-Some.at c.in-Some.rtp_out c.in-Some.rtcp_out c.requires.ready take in
    let pair = c.pair_at-pair.ensures next.first.leg.holder.pair next.within next.at_is in
    let place = c.box_place.ensures ∙ ap (λ (n : ℕ). box_of c.args.config.now n) pair in
    let gives = subst (λ (n : ℕ). GivesBox c.take_at.new.parts c.shut_at-ins.new.parts n c.shut_at-ins.result) place c.shut_at-ins.ensures in
    fewer_left g.P.In.InEnd.log g.P.Out.OutEnd.log c.args.config.now c.args.place c.args.parts.now c.take_at.new.parts c.shut_at-ins.new.parts (g.P.PortMaker.log c.args.ports.now)
    c.in-Some.at c.in-Some.rtp_out c.in-Some.rtcp_out c.shut_at-ins.result c.requires.ready take next gives

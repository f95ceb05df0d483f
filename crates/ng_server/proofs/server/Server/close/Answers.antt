use Rattle.ng_server.proofs.server.Server.close.Goals as goal

pub returns-clause-continued : goal.returns-clause-continued
returns-clause-continued g c = c.close_relay.ensures.continued c.args.self.config

pub returns-clause-states : goal.returns-clause-states
returns-clause-states g c starts sound =
    c.close_relay.ensures.states c.args.self.config starts (sound.orderly c.close_relay.ensures.numbered) (sound.returned c.close_relay.ensures.numbered)

pub returns-clause-legal : goal.returns-clause-legal
returns-clause-legal g c = c.close_relay.ensures.legal c.args.self.config

pub returns-clause-ins : goal.returns-clause-ins
returns-clause-ins g c = c.close_relay.ensures.ins c.args.self.config

pub returns-clause-whole : goal.returns-clause-whole
returns-clause-whole g c = c.close_relay.ensures.whole c.args.self.config

pub returns-clause-timed : goal.returns-clause-timed
returns-clause-timed g c = c.close_relay.ensures.timed c.args.self.config

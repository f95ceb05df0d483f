use Rattle.replay_devices.proofs.ports.ReplayPorts.new.Goals as goal

pub returns-clause-since : goal.returns-clause-since
returns-clause-since c = c.in_ok-since.ensures.items_if_clones_equal (λ y h. h)

use Rattle.std.proofs.Common.{◌≡◌, sym, subst, List, [], ◌∷◌, ◌++◌}
use Rattle.relay_outside.specs.declared.settings.Config.{Config}
use Rattle.turn_table.specs.declared.machine.Entry as table
use Rattle.turn_table.specs.Hands.{starts, IsMain}
use Rattle.turn_table.specs.Steps.{entry}
use Rattle.relay_core.specs.Entries.{Entry, box_of}
use Rattle.relay_core.specs.Records.{Made, list_of}
use Rattle.relay_core.specs.FirstPlaces.{AreParts}
use Rattle.relay_core.specs.Turns.{Numbered, IsOfLane, made_by}
use Rattle.media_lane.specs.Lanes.{lane_config, hand_of}
use Rattle.media_lane.specs.Receipts.{IsReceiptOf}
use Rattle.media_lane.specs.Takes.{take_made}
use Rattle.media_lane.proofs.Places.{parts_begin}
use Rattle.media_lane.proofs.Between.{StepsBy, steps_at, one_row, list_is, stepped_between, stepped_board}
use Rattle.media_lane.proofs.Receipts.{receipt_stays, take_spends, is_new}
use Rattle.media_lane.specs.Steps.{IsNew, Took, take_entry}
use Rattle.media_lane.proofs.Deeds.{took_by}
use Rattle.media_lane.proofs.main_take.receive_between.Goals as goal

pub new-lane-requires-clause-begins : goal.new-lane-requires-clause-begins
new-lane-requires-clause-begins g c = parts_begin c.args.config.now (starts c.args.hand) c.requires.between.parts

-- the row that was added
row : (g : _) (c : goal.After-into_hand g) → table.Entry Made (Unit {0})
row g c =
    let took = c.receive-received.ensures.received in
    entry (box_of (lane_config c.new-lane.result) c.args.pair) took.number (take_made c.args.half took.taken) (tt {0})

steps : (g : _) (c : goal.After-into_hand g) → StepsBy c.args.config.now c.args.hand c.into_hand.result (row g c ∷ [])
unfolding row
steps g c =
    let lane = c.new-lane.result in
    steps_at c.args.config.now (lane_config lane) c.args.hand (hand_of lane) (hand_of c.receive-received.new.self) c.into_hand.result (row g c ∷ [])
    c.new-lane.ensures.hand c.into_hand.ensures.hand c.new-lane.ensures.config c.receive-received.ensures.same.0.hand c.into_hand.ensures.idle
    c.receive-received.ensures.list c.receive-received.ensures.received.list_is (one_row (λ (x : table.Entry Made (Unit {0})). IsOfLane x.event.event) (row g c) tt)

pub returns-clause-between : goal.returns-clause-between
returns-clause-between g c =
    stepped_between c.args.config.now c.args.turns.now c.args.hand c.into_hand.result (row g c ∷ []) c.requires.between (steps g c)

pub returns-clause-board : goal.returns-clause-board
returns-clause-board g c =
    stepped_board c.args.config.now c.args.turns.now c.args.hand c.into_hand.result (row g c ∷ []) c.requires.between (steps g c)

pub returns-clause-others : goal.returns-clause-others
unfolding row
returns-clause-others g c r of =
    let took = c.receive-received.ensures.received in
    subst (λ (l : List Entry). IsReceiptOf c.args.config.now l r.0 r.1)
    (sym (list_is c.args.config.now c.args.turns.now c.args.hand c.into_hand.result (row g c ∷ []) c.requires.between (steps g c)))
    (receipt_stays c.args.config.now (made_by c.args.hand) (list_of (row g c ∷ [])) c.requires.between.receiving r
    (λ own e i s. take_spends c.args.config.now r.1 (box_of (lane_config c.new-lane.result) c.args.pair) took.number c.args.half took.taken e i s) of)

pub returns-clause-apart : goal.returns-clause-apart
unfolding row
returns-clause-apart g c =
    let took = c.receive-received.ensures.received in
    let config = c.args.config.now in
    let l = made_by c.args.hand in
    let between = stepped_between config c.args.turns.now c.args.hand c.into_hand.result (row g c ∷ []) c.requires.between (steps g c) in
    let list = list_is config c.args.turns.now c.args.hand c.into_hand.result (row g c ∷ []) c.requires.between (steps g c) in
    subst (λ (k : Config). IsNew config l c.receive-received.result) c.new-lane.ensures.config
    (is_new config l c.args.pair took.number c.args.half took.taken c.receive-received.result
    (subst (λ (k : Config). Numbered (l ++ list_of (entry (box_of k c.args.pair) took.number (take_made c.args.half took.taken) (tt {0}) ∷ []))) c.new-lane.ensures.config
    (subst Numbered list between.numbered)) took.tells)

pub returns-clause-took : goal.returns-clause-took
unfolding row
returns-clause-took g c =
    let config = c.args.config.now in
    let lane = c.new-lane.result in
    let old = hand_of lane in
    let same = c.new-lane.ensures.hand in
    let b = c.requires.between in
    let new = made_by c.into_hand.result in
    let took = c.receive-received.ensures.received in
    let list = list_is config c.args.turns.now c.args.hand c.into_hand.result (row g c ∷ []) b (steps g c) in
    subst (λ h. Took config (made_by h) c.args.pair c.args.half c.receive-received.result new) same
    (subst (λ (k : Config). Took k (made_by old) c.args.pair c.args.half c.receive-received.result new) c.new-lane.ensures.config
    (took_by g.I.InEnd.log g.I.InEnd.faults g.O.OutEnd.log g.O.OutEnd.faults _ (lane_config lane) c.args.pair c.args.half c.receive-received.result old (hand_of c.receive-received.new.self) new
    (subst (λ (k : Config). AreParts k (starts old)) (sym c.new-lane.ensures.config) (subst (λ h. AreParts config (starts h)) (sym same) b.parts))
    (subst (λ h. Numbered (made_by h)) (sym same) b.numbered) (subst (λ h. IsMain h) (sym same) b.main) took
    (subst (λ h. new ≡ made_by h ++ take_entry (lane_config lane) c.args.pair c.args.half took.number took.taken ∷ []) (sym same) list)))

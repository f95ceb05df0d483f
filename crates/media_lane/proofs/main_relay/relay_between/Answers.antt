use Rattle.std.proofs.Common.{◌≡◌, sym, subst, List, [], ◌∷◌, ◌++◌}
use Rattle.turn_table.specs.declared.machine.Entry as table
use Rattle.turn_table.specs.Hands.{starts, parts}
use Rattle.turn_table.specs.Steps.{entry}
use Rattle.relay_core.specs.Entries.{Entry}
use Rattle.relay_core.specs.Records.{Made, list_of}
use Rattle.relay_core.specs.FirstPlaces.{AreParts}
use Rattle.relay_core.specs.Legal.{Orderly}
use Rattle.relay_core.specs.Turns.{IsOfLane, Numbered, made_by}
use Rattle.media_lane.specs.Lanes.{lane_config, hand_of, pair_of, packet_of, sent_last}
use Rattle.media_lane.specs.Receipts.{IsReceiptOf}
use Rattle.media_lane.specs.Relays.{relay_made}
use Rattle.media_lane.proofs.Places.{parts_begin}
use Rattle.media_lane.specs.Steps.{recorded_relay, RelaysBy}
use Rattle.media_lane.proofs.Between.{StepsBy, steps_at, one_row, list_is, stepped_between, stepped_board}
use Rattle.media_lane.proofs.Receipts.{receipt_stays, relay_spends, own_left}
use Rattle.media_lane.proofs.Deeds.{of_copy, relays_by}
use Rattle.media_lane.proofs.main_relay.relay_between.Goals as goal

pub new-lane-requires-clause-begins : goal.new-lane-requires-clause-begins
new-lane-requires-clause-begins g c = parts_begin c.args.config.now (starts c.args.hand) c.requires.between.parts

-- the row that was added
row : (g : _) (c : goal.After-into_hand g) → table.Entry Made (Unit {0})
row g c =
    let relayed = c.relay-outcome.ensures.relayed in
    let p = packet_of c.args.receipt in
    entry p.holder.cell relayed.number (relay_made p c.args.now relayed.moment c.relay-outcome.result) (tt {0})

steps : (g : _) (c : goal.After-into_hand g) → StepsBy c.args.config.now c.args.hand c.into_hand.result (row g c ∷ [])
unfolding row
steps g c =
    let lane = c.new-lane.result in
    steps_at c.args.config.now (lane_config lane) c.args.hand (hand_of lane) (hand_of c.relay-outcome.new.self) c.into_hand.result (row g c ∷ [])
    c.new-lane.ensures.hand c.into_hand.ensures.hand c.new-lane.ensures.config c.relay-outcome.ensures.same.hand c.into_hand.ensures.idle
    c.relay-outcome.ensures.list c.relay-outcome.ensures.relayed.list_is (one_row (λ (x : table.Entry Made (Unit {0})). IsOfLane x.event.event) (row g c) tt)

pub returns-clause-between : goal.returns-clause-between
returns-clause-between g c =
    stepped_between c.args.config.now c.args.turns.now c.args.hand c.into_hand.result (row g c ∷ []) c.requires.between (steps g c)

pub returns-clause-board : goal.returns-clause-board
returns-clause-board g c =
    stepped_board c.args.config.now c.args.turns.now c.args.hand c.into_hand.result (row g c ∷ []) c.requires.between (steps g c)

pub returns-clause-others : goal.returns-clause-others
unfolding row
returns-clause-others g c r apart of =
    let relayed = c.relay-outcome.ensures.relayed in
    let p = packet_of c.args.receipt in
    let l = made_by c.args.hand in
    subst (λ (k : List Entry). IsReceiptOf c.args.config.now k r.0 r.1)
    (sym (list_is c.args.config.now c.args.turns.now c.args.hand c.into_hand.result (row g c ∷ []) c.requires.between (steps g c)))
    (receipt_stays c.args.config.now l (list_of (row g c ∷ [])) c.requires.between.receiving r
    (λ own e i s. relay_spends c.args.config.now l (pair_of c.args.receipt, p) r p.holder.cell relayed.number c.args.now relayed.moment c.relay-outcome.result
    (own_left c.args.config.now l (list_of (row g c ∷ [])) own) c.requires.receipt of apart e i s) of)

pub returns-clause-demanded : goal.returns-clause-demanded
unfolding row
returns-clause-demanded g c all =
    let config = c.args.config.now in
    let p = packet_of c.args.receipt in
    let outcome = c.relay-outcome.result in
    let old = hand_of c.new-lane.result in
    let same = c.new-lane.ensures.hand in
    let b = c.requires.between in
    let relayed = c.relay-outcome.ensures.relayed in
    let sent = sent_last c.relay-outcome.new.self in
    let new = made_by c.into_hand.result in
    let list = list_is config c.args.turns.now c.args.hand c.into_hand.result (row g c ∷ []) b (steps g c) in
    let by = relays_by g.I.InEnd.log g.I.InEnd.faults g.O.OutEnd.log g.O.OutEnd.faults _ config p c.args.now outcome sent old (hand_of c.relay-outcome.new.self) new
    (subst (λ h. AreParts config (starts h)) (sym same) b.parts) (subst (λ h. Numbered (made_by h)) (sym same) b.numbered) (subst (λ h. Orderly config (made_by h)) (sym same) b.orderly)
    c.requires.receipt.for_cell (subst (λ h. parts h ≡ 1024) (sym same) all) relayed
    (subst (λ h. new ≡ made_by h ++ recorded_relay p relayed.number relayed.moment outcome ∷ []) (sym same) list) in
    of_copy c.copy_of-sent.result (λ t. t.list) c.sent_bytes.result.now (λ bytes. RelaysBy config (made_by c.args.hand) p c.args.now outcome bytes new) c.copy_of-sent.ensures
    (subst (λ bytes. RelaysBy config (made_by c.args.hand) p c.args.now outcome bytes new) (sym c.sent_bytes.ensures)
    (subst (λ h. RelaysBy config (made_by h) p c.args.now outcome sent new) same by))

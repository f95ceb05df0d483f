-- The room for what an offer takes, and for what it brings to its call.
use Rattle.std.specs.Prelude.{◌≡◌, ◌≤◌, ℕ, List, [], map, vec_capacity}
use Rattle.port_pool.specs.declared.pairs.Lease.{Lease}
use Rattle.offer_answer.specs.declared.plan.Plan.{Plan}
use Rattle.offer_answer.specs.Offers.{pairs_demanded, key_count}
use Rattle.call_cell.specs.declared.prepare.Prepare as prepared
use Rattle.call_cell.specs.Preparations.{IsReady, PrepareFor, added, parts_added, leg_room, key_room}
use Rattle.offer_command.specs.declared.lease.LeaseRoom.{LeaseRoom}
use Rattle.offer_command.specs.declared.memory.OfferRoom.{OfferRoom}

-- the lists are empty, and there is room for what the plan demands
pub record HasLeaseRoom {I O : Type 0} (plan : Plan) (room : LeaseRoom I O) : Type 0 where
  pub opened : (room.opened.list ≡ []) × (pairs_demanded plan ≤ room.opened.room)
  pub numbers : (room.numbers.items ≡ []) × (pairs_demanded plan ≤ vec_capacity room.numbers)
  pub drawn : (room.drawn.list ≡ []) × (key_count plan ≤ room.drawn.room)

-- nothing is prepared yet, and there is room for what the plan demands
pub record HasLegRoom {O : Type 0} (plan : Plan) (prepare : prepared.Prepare O) : Type 0 where
  pub nothing : PrepareFor prepare [] []
  pub no_legs : added prepare ≡ []
  pub no_parts : parts_added prepare ≡ []
  pub legs : pairs_demanded plan ≤ leg_room prepare
  pub keys : key_count plan ≤ key_room prepare
  pub ready : IsReady prepare

-- the ports for RTP of the leases, in order
abbrev pub rtp_ports : List Lease → List ℕ
rtp_ports leases = map (λ (lease : Lease). lease.rtp_port) leases

-- nothing stands in the room of an offer yet, and there is as much as its plan demands
pub record HasOfferRoom {I O : Type 0} (plan : Plan) (room : OfferRoom I O) : Type 0 where
  pub lease : HasLeaseRoom plan room.lease
  pub prepare : HasLegRoom plan room.prepare
  pub text : (room.text.list ≡ []) × (plan.reply_len ≤ room.text.spare)

-- What an accepted offer leaves: its legs have the out ends that were opened for them, and by its rows just the dropped legs go.
use Rattle.std.proofs.Common.{◌≡◌, ◌∙◌, refl, sym, ap, subst, ℕ, ◌++◌, List, [], ◌∷◌, Option, map, true, append_assoc}
use Rattle.relay_outside.specs.declared.ports.InCall.{InCall}
use Rattle.relay_outside.specs.declared.ports.OutCall.{OutCall}
use Rattle.relay_outside.specs.declared.settings.Config.{Config}
use Rattle.relay_outside.specs.Ports.{joined}
use Rattle.relay_outside.specs.DeviceLogs.{EndLog, IsOpenedFor}
use Rattle.rtp_packet.specs.declared.head.Half.TheVariants.{Rtp, Rtcp}
use Rattle.histories.specs.Words.{In, here, there}
use Rattle.histories.proofs.Lists.{picks}
use Rattle.turn_table.specs.declared.machine.Entry as table
use Rattle.turn_table.specs.declared.hands.Hand.{Hand}
use Rattle.turn_table.specs.Hands.{entries}
use Rattle.port_pool.specs.declared.pairs.Lease.{Lease}
use Rattle.port_pool.specs.declared.holder.Holder.{Holder}
use Rattle.call_cell.specs.declared.leg.Leg.{Leg}
use Rattle.call_cell.specs.declared.prepare.Prepare as prepared
use Rattle.call_cell.specs.CellEnds.{parts_of, parts_with}
use Rattle.call_cell.proofs.EndsThere.{is_there}
use Rattle.call_cell.specs.Preparations.{PrepareFor, parts_added}
use Rattle.port_pool.specs.Ports.{port_address}
use Rattle.port_pool.specs.Signals.{NewKey}
use Rattle.media_ports.specs.declared.ends.PairEnds.{PairEnds}
use Rattle.media_ports.specs.Ends as ends
use Rattle.media_ports.proofs.Given.{joined_to_nothing}
use Rattle.relay_core.specs.Entries.{Event}
use Rattle.relay_core.specs.Records.{Made, entry_of, list_of}
use Rattle.relay_core.specs.Scripts.{Owed, owed_by, open_owed}
use Rattle.relay_core.specs.Steps.{AreOpened}
use Rattle.relay_core.specs.EndLogs.{is_parting, ins_logged, outs_logged}
use Rattle.relay_core.specs.Turns.{GainsNested}
use Rattle.board_turns.specs.NestedSteps.{AddsRow, gone_left}
use Rattle.board_turns.specs.Ties.{LegsLeave}
use Rattle.board_turns.proofs.Tying.{NothingLeaves, NothingLeft, none_left, row_left, both_left, ins_append, outs_append, legs_leave}
use Rattle.offer_command.specs.LegBoxes.{leased_parts}

module _ {I O : Type 0} (taken : I → EndLog InCall) (sent : O → EndLog OutCall) where
  -- the out ends of a leg's parts were opened for the ports of its pair, and not called since
  pub record AreNew (config : Config) (part : Lease × O × O) : Type 0 where
    pub rtp : IsOpenedFor (port_address config part.0.pair Rtp) (sent part.1)
    pub rtcp : IsOpenedFor (port_address config part.0.pair Rtcp) (sent part.2)

  parts_new : (config : Config) (leases : List Lease) (opened : List (PairEnds I O)) → ends.ArePairsOpened taken sent config leases opened
      → (part : Lease × O × O) → In part (leased_parts leases opened) → AreNew config part
  parts_new config [] opened are part i = elim i [ ]
  parts_new config (lease ∷ leases) [] are part i = elim i [ ]
  parts_new config (lease ∷ leases) (first ∷ opened) are part (here is) = subst (AreNew config) (sym is) (record { rtp = are.0.rtp_out; rtcp = are.0.rtcp_out })
  parts_new config (lease ∷ leases) (first ∷ opened) are part (there i) = parts_new config leases opened are.1 part i

  -- the out ends of the prepared legs, which are those of the pairs that were opened, were opened for the ports of the legs' pairs
  pub legs_opened : (config : Config) (signal : prepared.Prepare O) (keys : List NewKey) (dropped : List ℕ) (leases : List Lease) (opened : List (PairEnds I O))
      → parts_added signal ≡ leased_parts leases opened → ends.ArePairsOpened taken sent config leases opened
      → PrepareFor signal keys dropped → AreOpened sent config signal
  legs_opened config signal keys dropped leases opened parts are for leg i =
      let t = is_there leg.sending.ends (for.fresh leg i).ends in
      let p : Lease × O × O = (leg.lease, t.0.0, t.0.1) in
      let new = parts_new config leases opened are p (subst (In p) parts (picks (λ (l : Leg O). parts_of l) signal.legs.items i (ap (parts_with leg.lease) t.1))) in
      let pair : leg.lease.pair ≡ leg.holder.pair = (for.fresh leg i).pair in
      record {
        ends = t.0;
        ends_are = t.1;
        rtp = subst (λ (n : ℕ). IsOpenedFor (port_address config n Rtp) (sent t.0.0)) pair new.rtp;
        rtcp = subst (λ (n : ℕ). IsOpenedFor (port_address config n Rtcp) (sent t.0.1)) pair new.rtcp;
      }

module _ {T : Type 0} where
  -- nothing leaves by the openings of boxes
  opened_left : (config : Config) (legs : List Holder) (rows : List (table.Entry Made T)) → map owed_by (list_of rows) ≡ map (open_owed config) legs → NothingLeft rows
  opened_left config legs [] owes = none_left
  opened_left config [] (row ∷ rows) owes = absurd (let e = owes in cc)
  opened_left config (leg ∷ legs) (row ∷ rows) owes =
      let first : owed_by (entry_of row) ≡ open_owed config leg = (let e = owes in cc) in
      let rest : map owed_by (list_of rows) ≡ map (open_owed config) legs = (let e = owes in cc) in
      both_left (row ∷ []) rows (row_left row (subst (λ (w : Owed). NothingLeaves w.event) (sym first) (record { closing = refl; parting = refl }))) (opened_left config legs rows rest)

module _ {M S T O : Type 0} {g : _} (sent : O → EndLog OutCall) where
  -- boxes were opened, and then these legs went from a cell
  pub opened_leave : (config : Config) (number moment : ℕ) (holders : List Holder) (gone : List (Lease × O × O)) (place : ℕ) (event : Event) (old mid new : Hand M S Made T g) →
      is_parting event ≡ true → GainsNested number moment (map (open_owed config) holders) old mid → AddsRow place event (gone_left sent gone) mid new →
      LegsLeave sent gone (entries old) (entries new)
  opened_leave config number moment holders gone place event old mid new parts gains adds =
      let opened = opened_left config holders gains.rows gains.gained.owes in
      let leave = legs_leave sent gone place event mid new parts adds in
      record {
        more = gains.rows ++ leave.more;
        rows_are = leave.rows_are ∙ ap (λ (rows : List (table.Entry Made T)). rows ++ leave.more) gains.list_is ∙ append_assoc (entries old) gains.rows leave.more;
        no_ends = λ at half. ins_append gains.rows leave.more at half
            ∙ ap (λ (log : Option (List InCall)). joined log (ins_logged leave.more at half)) (opened.no_ends at half)
            ∙ joined_to_nothing (ins_logged leave.more at half) ∙ leave.no_ends at half;
        legs = λ pair half. outs_append gains.rows leave.more pair half
            ∙ ap (λ (log : Option (List OutCall)). joined log (outs_logged leave.more pair half)) (opened.no_legs pair half)
            ∙ joined_to_nothing (outs_logged leave.more pair half) ∙ leave.legs pair half;
      }

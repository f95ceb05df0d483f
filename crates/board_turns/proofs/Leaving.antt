-- The leases and ends that went from a cell are those of its legs, by the hand's list.
use Rattle.std.proofs.Common.{◌≡◌, refl, sym, ◌∙◌, ap, subst, ℕ, Bool, true, false, cond, List, [], ◌∷◌, map, filter, Some}
use Rattle.std.specs.List.{filter_map}
use Rattle.relay_outside.specs.declared.settings.Config.{Config}
use Rattle.relay_outside.specs.declared.ports.InCall.{InCall}
use Rattle.relay_outside.specs.declared.ports.OutCall.{OutCall}
use Rattle.relay_outside.specs.DeviceLogs.{EndLog}
use Rattle.rtp_packet.specs.declared.head.Half.TheVariants.{Rtp}
use Rattle.histories.specs.Words.{In, has}
use Rattle.histories.proofs.Lists.{filtered}
use Rattle.turn_table.specs.declared.hands.Hand.{Hand}
use Rattle.turn_table.specs.Hands.{entries}
use Rattle.port_pool.specs.declared.pairs.Lease.{Lease}
use Rattle.port_pool.specs.declared.holder.Holder.{Holder}
use Rattle.port_pool.specs.declared.signal.SectionSignal.{SectionSignal}
use Rattle.port_pool.specs.Signals.{NewKey, is_rejected}
use Rattle.call_cell.specs.declared.leg.Leg.{Leg}
use Rattle.call_cell.specs.declared.prepare.Prepare as prepared
use Rattle.call_cell.specs.declared.cell.Cell as cell
use Rattle.call_cell.specs.Cells.{CellEntry, legs, since_end}
use Rattle.call_cell.specs.LegHistories.{LegStandsFor}
use Rattle.call_cell.specs.CellHistories.{CellFor}
use Rattle.call_cell.specs.CellEnds.{parts_of}
use Rattle.call_cell.proofs.EndsThere.{is_there, zip_parts}
use Rattle.call_cell.proofs.Few.{each_in}
use Rattle.call_cell.proofs.Nested.{same_kept}
use Rattle.relay_core.specs.declared.part.Part.{Part}
use Rattle.relay_core.specs.Entries.{Entry, cell_entry, cell_history}
use Rattle.relay_core.specs.Records.{Made}
use Rattle.relay_core.specs.Turns.{IsAbove, made_by}
use Rattle.board_turns.specs.InCells.{IsCellAt, Ends, Prepares, Commits}
use Rattle.board_turns.specs.Departures.{IsLeaseOf, AreLeasesOf, AllRemoved, DroppedRemoved, RejectedRemoved}
use Rattle.board_turns.proofs.Nesting.{above_rows}
use Rattle.board_turns.proofs.After.{same_history_at}
use Rattle.board_turns.proofs.Signalling.{same_lasting}

module _ {O : Type 0} where
  leases_of : (config : Config) (h : List CellEntry) (those : List (Leg O)) → ((leg : Leg O) → In leg those → LegStandsFor config h leg)
      → AreLeasesOf config (filter_map (λ (leg : Leg O). parts_of leg) those) (map (λ (leg : Leg O). leg.holder) those)
  leases_of config h those for = zip_parts (IsLeaseOf {O = O} config) (λ (leg : Leg O). leg.holder) those its_lease
    where
      its_lease : (leg : Leg O) → In leg those → (ends : O × O) × (leg.sending.ends ≡ Some ends) × IsLeaseOf {O = O} config (leg.lease, ends.0, ends.1) leg.holder
      its_lease leg i =
          let f = for leg i in
          let t = is_there leg.sending.ends f.sending.ends in
          (t.0, t.1, record { pair = f.pair; generation = f.generation; port = f.port Rtp; family = f.family })

  holders_case : (p : Holder → Bool) (leg : Leg O) (those : List (Leg O))
      → map (λ (x : Leg O). x.holder) (filter (λ (x : Leg O). p x.holder) those) ≡ filter p (map (λ (x : Leg O). x.holder) those) → (t : Bool)
      → map (λ (x : Leg O). x.holder) (cond t (leg ∷ filter (λ (x : Leg O). p x.holder) those) (filter (λ (x : Leg O). p x.holder) those))
      ≡ cond t (leg.holder ∷ filter p (map (λ (x : Leg O). x.holder) those)) (filter p (map (λ (x : Leg O). x.holder) those))
  holders_case p leg those rest true = ap (λ (l : List Holder). leg.holder ∷ l) rest
  holders_case p leg those rest false = rest

  holders_of : (p : Holder → Bool) (those : List (Leg O))
      → map (λ (x : Leg O). x.holder) (filter (λ (x : Leg O). p x.holder) those) ≡ filter p (map (λ (x : Leg O). x.holder) those)
  holders_of p [] = refl
  holders_of p (leg ∷ those) = holders_case p leg those (holders_of p those) (p leg.holder)

  -- the legs that pass went
  passing_went : (config : Config) (old : cell.Cell O) (h own : List CellEntry) (p : Holder → Bool) (gone : List (Lease × O × O)) → CellFor config old h
      → legs (since_end h) ≡ legs (since_end own)
      → gone ≡ filter_map (λ (leg : Leg O). parts_of leg) (filter (λ (leg : Leg O). p leg.holder) old.legs.items) → AreLeasesOf config gone (filter p (legs (since_end own)))
  passing_went config old h own p gone for same went =
      let those : List (Leg O) = filter (λ (leg : Leg O). p leg.holder) old.legs.items in
      subst (λ (l : List Holder). AreLeasesOf config gone l)
      (holders_of p old.legs.items ∙ ap (λ (l : List Holder). filter p l) (for.legs_for.holders ∙ same))
      (subst (λ (l : List (Lease × O × O)). AreLeasesOf config l (map (λ (leg : Leg O). leg.holder) those)) (sym went)
      (leases_of config (since_end h) those
      (λ leg i. each_in config (since_end h) old.legs.items leg for.legs_for (filtered (λ (x : Leg O). p x.holder) old.legs.items i).0)))

  all_went : (config : Config) (old : cell.Cell O) (h own : List CellEntry) (gone : List (Lease × O × O)) → CellFor config old h
      → legs (since_end h) ≡ legs (since_end own) → gone ≡ filter_map (λ (leg : Leg O). parts_of leg) old.legs.items → AreLeasesOf config gone (legs (since_end own))
  all_went config old h own gone for same went =
      subst (λ (l : List Holder). AreLeasesOf config gone l) (for.legs_for.holders ∙ same)
      (subst (λ (l : List (Lease × O × O)). AreLeasesOf config l (map (λ (leg : Leg O). leg.holder) old.legs.items)) (sym went)
      (leases_of config (since_end h) old.legs.items (λ leg i. each_in config (since_end h) old.legs.items leg for.legs_for i)))

module _ {M I O T : Type 0} {g : _} (it : I → EndLog InCall) (ic : I → ℕ) (ot : O → EndLog OutCall) (oc : O → ℕ) where
  -- the legs of the cell that was given are those of the list
  legs_given : (config : Config) (hand : Hand M (Part I O) Made T g) (place n : ℕ) (old : cell.Cell O) (h : List CellEntry)
      → IsCellAt it ic ot oc config hand place old h → IsAbove (made_by hand) place n → legs (since_end h) ≡ legs (since_end (cell_history (made_by hand) place n))
  legs_given config hand place n old h was above =
      let own = cell_history (made_by hand) place was.number in
      let s = same_kept h own (same_lasting h own was.nested_is) in
      s.legs_are
      ∙ ap (λ (es : List Entry). legs (since_end (filter_map cell_entry es)))
      (same_history_at (made_by hand) place was.number n (above_rows (entries hand) place was.number was.given.above) above)

  pub ended_went : (config : Config) (hand : Hand M (Part I O) Made T g) (place : ℕ) (gone : List (Lease × O × O)) → Ends it ic ot oc config hand place gone
      → AllRemoved config (made_by hand) place gone
  ended_went config hand place gone ends n above =
      all_went config ends.old ends.history (cell_history (made_by hand) place n) gone ends.was.stands
      (legs_given config hand place n ends.old ends.history ends.was above) ends.ends.went

  pub prepared_went : (config : Config) (hand : Hand M (Part I O) Made T g) (place : ℕ) (signal : prepared.Prepare O) (call : ℕ) (keys : List NewKey) (dropped : List ℕ)
      (now : ℕ) (gone : List (Lease × O × O)) → Prepares it ic ot oc config hand place signal call keys dropped now gone
      → DroppedRemoved config (made_by hand) place dropped gone
  prepared_went config hand place signal call keys dropped now gone does n above =
      passing_went config does.old does.history (cell_history (made_by hand) place n) (λ (leg : Holder). has dropped leg.section) gone does.was.stands
      (legs_given config hand place n does.old does.history does.was above) does.prepares.went

  pub committed_went : (config : Config) (hand : Hand M (Part I O) Made T g) (place : ℕ) (signal : List SectionSignal) (now : ℕ) (gone : List (Lease × O × O))
      → Commits it ic ot oc config hand place signal now gone → RejectedRemoved config (made_by hand) place signal gone
  committed_went config hand place signal now gone does n above =
      passing_went config does.old does.history (cell_history (made_by hand) place n) (λ (leg : Holder). is_rejected signal leg.section) gone does.was.stands
      (legs_given config hand place n does.old does.history does.was above) does.commits.went

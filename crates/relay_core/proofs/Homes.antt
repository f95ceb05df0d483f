-- The out ends of a cell's legs stay those that were opened for the pairs of the legs.
use Rattle.std.proofs.Common.{◌≡◌, ◌∙◌, sym, ap, subst, refl, ℕ, zero, suc, ◌<◌, ◌⊎◌, inl, inr, List, [], ◌∷◌, ◌++◌, Bool, true, false, not, Option, Some, None, map, length, filter, arith, get_or, append-nil}
use Rattle.std.specs.List.{filter_map, cons_option}
use Rattle.std.proofs.lemmas.List.{get_or-map, map-append, length-map}
use Rattle.relay_outside.specs.declared.address.Addr.{Addr}
use Rattle.relay_outside.specs.declared.ports.InCall.{InCall}
use Rattle.relay_outside.specs.declared.ports.OutCall.{OutCall}
use Rattle.relay_outside.specs.declared.settings.Config.{Config}
use Rattle.relay_outside.specs.DeviceLogs.{EndLog}
use Rattle.rtp_packet.specs.declared.head.Half.{Half}
use Rattle.rtp_packet.specs.declared.head.Half.TheVariants.{Rtp, Rtcp}
use Rattle.turn_table.specs.declared.machine.Entry as table
use Rattle.turn_table.specs.Histories.{Leaves}
use Rattle.histories.specs.Words.{In, here, there, has}
use Rattle.histories.proofs.Lists.{in_append, filtered, picked}
use Rattle.port_pool.specs.Ports.{AreOfPair, port_address}
use Rattle.port_pool.specs.declared.pairs.Lease.{Lease}
use Rattle.port_pool.specs.declared.holder.Holder.{Holder}
use Rattle.port_pool.specs.declared.signal.SectionSignal.{SectionSignal}
use Rattle.port_pool.specs.Signals.{is_rejected, NewKey}
use Rattle.call_cell.specs.declared.leg.Leg.{Leg}
use Rattle.call_cell.specs.declared.sender.Sending as parts
use Rattle.call_cell.specs.declared.prepare.Prepare as prepared
use Rattle.call_cell.specs.declared.cell.Cell as cell
use Rattle.call_cell.specs.declared.outcome.Outcome.{Outcome}
use Rattle.call_cell.specs.Cells.{CellEvent, CellEntry, Sending, Receipt, Prepare, Commit, Relay, Expire, Read, End, keys_of, legs, since_end}
use Rattle.call_cell.specs.Deeds.{deed, found, opposite_of, is_leaving}
use Rattle.call_cell.specs.Parts.{SendsBy, end_of, other_half}
use Rattle.call_cell.specs.LegHistories.{EndsFor, LegsStandFor, sent_ok}
use Rattle.call_cell.specs.CellHistories.{CellFor, CellRelays}
use Rattle.call_cell.specs.Preparations.{added, CellPrepares}
use Rattle.call_cell.specs.Commits.{stays_by, CellCommits}
use Rattle.call_cell.specs.CellEnds.{parts_of}
use Rattle.call_cell.proofs.EndsThere.{same_ends, parts_have}
use Rattle.call_cell.proofs.Few.{in_at, each_in}
use Rattle.relay_core.specs.declared.part.Part.{Part}
use Rattle.relay_core.specs.declared.part.Part.TheVariants as part
use Rattle.relay_core.specs.Entries.{Event, Board, Cell, Box, Entry, cell_at, cell_entry}
use Rattle.relay_core.specs.Records.{Made, entry_of}
use Rattle.relay_core.specs.Steps.{AreOpened, AreNew, CellStepsBy, CellSteps, Relates}
use Rattle.relay_core.specs.PlaceHistories.{BringsNewKeys, CellStands, Stands, IsCellPart, IsBoardPart, AreHome, LegsHome, GoneHome, CellHome}
use Rattle.relay_core.proofs.OutsTold.{partner, filter_mapped, nothing_in, holder_of, legs_relayed}
use Rattle.relay_core.proofs.Stays.{onto, Steps, brings_onto, stands_onto, cell_stays, new_recorded}

module _ {O : Type 0} (log : O → EndLog OutCall) (faults : O → ℕ) where
  -- the leg has the out ends of its pair
  abbrev IsHome : Config → Leg O → Type 0
  IsHome config leg = AreHome log (port_address config leg.holder.pair Rtp) leg.sending.ends

  -- A relay.

  -- by what a relay does to the out ends of a leg, they are of the same ports
  pair_home : (half : Half) (at : Addr) (before after : O × O) → (log (end_of half after)).at ≡ (log (end_of half before)).at
      → end_of (other_half half) after ≡ end_of (other_half half) before → AreOfPair log at before.0 before.1 → AreOfPair log at after.0 after.1
  pair_home Rtp at before after same other home =
      record { rtp_at = same ∙ home.rtp_at; rtcp_at = ap (λ (e : O). (log e).at) other ∙ home.rtcp_at }
  pair_home Rtcp at before after same other home =
      record { rtp_at = ap (λ (e : O). (log e).at) other ∙ home.rtp_at; rtcp_at = same ∙ home.rtcp_at }

  sent_home : (half : Half) (to : Addr) (bytes : List ℕ) (ok : Bool) (at : Addr) (old new : parts.Sending O) → SendsBy log faults half to bytes ok old new
      → AreHome log at old.ends → AreHome log at new.ends
  sent_home half to bytes ok at old new s home =
      subst (λ (o : Option (O × O)). AreHome log at o) (sym s.has)
      (pair_home half at s.before s.after s.gains.same s.other (subst (λ (o : Option (O × O)). AreHome log at o) s.had home))

  kept_home : (at : Addr) (old new : parts.Sending O) → new.ends ≡ old.ends → AreHome log at old.ends → AreHome log at new.ends
  kept_home at old new same home = subst (λ (o : Option (O × O)). AreHome log at o) (sym same) home

  ends_home : (leaves : Bool) (sending : Option Sending) (ok : Bool) (at : Addr) (old new : parts.Sending O) → EndsFor log faults leaves sending ok old new
      → AreHome log at old.ends → AreHome log at new.ends
  ends_home true None ok at old new e home = kept_home at old new e home
  ends_home false None ok at old new e home = kept_home at old new e home
  ends_home false (Some w) ok at old new e home = kept_home at old new e home
  ends_home true (Some w) ok at old new e home = sent_home w.half w.to w.bytes ok at old new e home

  at_in_legs : (xs : List (Leg O)) (n : ℕ) (y : Leg O) → n < length xs → In (get_or xs n y) xs
  at_in_legs [] n y low = absurd (omega (arith, low))
  at_in_legs (z ∷ xs) zero y low = here refl
  at_in_legs (z ∷ xs) (suc n) y low = there (at_in_legs xs n y (omega (arith, low)))

  relay_home : (config : Config) (old new : cell.Cell O) (h : List CellEntry) (p : Receipt) (now : ℕ) (buf : List ℕ) (result : Outcome) → CellFor config old h
      → CellRelays log faults config old new h p now buf result → LegsHome log config old.legs.items → LegsHome log config new.legs.items
  relay_home config old new h p now buf result for relays before leg i =
      let same = legs_relayed log faults config old new h p now buf result for relays in
      let long = ap length same in
      let long_new = length-map new.legs.items holder_of in
      let long_old = length-map old.legs.items holder_of in
      let a = in_at new.legs.items i in
      let below = a.below in
      let was : a.at < length old.legs.items = omega (arith, below, long, long_new, long_old) in
      let x : Leg O = get_or old.legs.items a.at leg in
      let holder : leg.holder ≡ x.holder
      = ap holder_of (sym (a.is leg))
      ∙ sym (get_or-map holder_of new.legs.items a.at leg leg.holder below)
      ∙ ap (λ (hs : List Holder). get_or hs a.at leg.holder) same
      ∙ get_or-map holder_of old.legs.items a.at leg leg.holder was in
      let d = deed config (since_end h) p (sent_ok result) in
      let y : Leg O = get_or new.legs.items a.at leg in
      let home : AreHome log (port_address config x.holder.pair Rtp) y.sending.ends
      = ends_home (is_leaving (opposite_of (since_end h) (found (since_end h) p)) x.holder) d.sending (sent_ok result) (port_address config x.holder.pair Rtp)
      x.sending y.sending (relays.ends a.at leg was) (before x (at_in_legs old.legs.items a.at leg was)) in
      subst (λ (l : Leg O). AreHome log (port_address config leg.holder.pair Rtp) l.sending.ends) (a.is leg)
      (subst (λ (k : Holder). AreHome log (port_address config k.pair Rtp) y.sending.ends) (sym holder) home)

  -- Legs that stay, and legs that go.

  -- a leg that is a form of one that has the out ends of its pair
  form_home : (config : Config) (leg other : Leg O) → leg.holder ≡ other.holder → parts_of leg ≡ parts_of other → IsHome config other → IsHome config leg
  form_home config leg other holder parts home =
      subst (λ (k : Holder). AreHome log (port_address config k.pair Rtp) leg.sending.ends) (sym holder)
      (subst (λ (o : Option (O × O)). AreHome log (port_address config other.holder.pair Rtp) o) (sym (same_ends leg other parts)) home)

  commit_home : (config : Config) (old new : cell.Cell O) (h : List CellEntry) (signal : List SectionSignal) (now : ℕ) (gone : List (Lease × O × O)) → CellFor config old h
      → CellCommits config old new h signal now gone → LegsHome log config old.legs.items → LegsHome log config new.legs.items
  commit_home config old new h signal now gone for commits before leg i =
      let holders : map holder_of new.legs.items ≡ map holder_of (filter (λ (l : Leg O). stays_by signal l) old.legs.items)
      = commits.stands.legs_for.holders
      ∙ append-nil (filter (λ (l : Holder). not (is_rejected signal l.section)) (legs (since_end h)))
      ∙ ap (filter (λ (l : Holder). not (is_rejected signal l.section))) (sym for.legs_for.holders)
      ∙ filter_mapped (λ (l : Holder). not (is_rejected signal l.section)) holder_of old.legs.items in
      let p = partner holder_of (λ (l : Leg O). parts_of l) new.legs.items (filter (λ (l : Leg O). stays_by signal l) old.legs.items) holders commits.stay i in
      form_home config leg p.other p.one p.two (before p.other (filtered (λ (l : Leg O). stays_by signal l) old.legs.items p.is_in).0)

  prepare_home : (config : Config) (old new : cell.Cell O) (h : List CellEntry) (signal : prepared.Prepare O) (call : ℕ) (keys : List NewKey) (dropped : List ℕ) (now : ℕ)
      (gone : List (Lease × O × O)) → CellFor config old h → CellPrepares config old new h signal call keys dropped now gone → AreOpened log old.config signal
      → LegsHome log config old.legs.items → LegsHome log config new.legs.items
  prepare_home config old new h signal call keys dropped now gone for prepares opened before leg i =
      let keep : Holder → Bool = λ (l : Holder). not (has dropped l.section) in
      let stay : List (Leg O) = filter (λ (l : Leg O). not (has dropped l.holder.section)) old.legs.items in
      let kept : filter keep (legs (since_end h)) ≡ map holder_of stay = ap (filter keep) (sym for.legs_for.holders) ∙ filter_mapped keep holder_of old.legs.items in
      let holders : map holder_of new.legs.items ≡ map holder_of (stay ++ signal.legs.items)
      = prepares.stands.legs_for.holders
      ∙ ap (λ (hs : List Holder). hs ++ added signal) kept
      ∙ sym (map-append holder_of stay signal.legs.items) in
      let parts : map (λ (l : Leg O). parts_of l) new.legs.items ≡ map (λ (l : Leg O). parts_of l) (stay ++ signal.legs.items)
      = prepares.stay ∙ sym (map-append (λ (l : Leg O). parts_of l) stay signal.legs.items) in
      let p = partner holder_of (λ (l : Leg O). parts_of l) new.legs.items (stay ++ signal.legs.items) holders parts i in
      form_home config leg p.other p.one p.two (either p.other (in_append stay signal.legs.items p.is_in))
    where
      either : (other : Leg O) → In other (filter (λ (l : Leg O). not (has dropped l.holder.section)) old.legs.items) ⊎ In other signal.legs.items → IsHome config other
      either other (inl j) = before other (filtered (λ (l : Leg O). not (has dropped l.holder.section)) old.legs.items j).0
      either other (inr j) =
          let o = opened other j in
          subst (λ (c : Config). AreHome log (port_address c other.holder.pair Rtp) other.sending.ends) for.config_is
          (subst (λ (e : Option (O × O)). AreHome log (port_address old.config other.holder.pair Rtp) e) (sym o.ends_are)
          (record { rtp_at = o.rtp.at_is; rtcp_at = o.rtcp.at_is }))

  pub no_legs_home : (config : Config) (new : cell.Cell O) → LegsStandFor config [] new.legs.items → LegsHome log config new.legs.items
  no_legs_home config new for leg i =
      absurd (elim (subst (λ (ls : List (Leg O)). In leg ls)
      (nothing_in new.legs.items (let a = length-map new.legs.items holder_of in let b = ap length for.holders in omega (arith, a, b))) i) [ ])

  -- legs that go have the out ends of the pairs that are leased
  pub parts_home : (config : Config) (those : List (Leg O)) → LegsHome log config those → ((leg : Leg O) → In leg those → leg.lease.pair ≡ leg.holder.pair)
      → GoneHome log config (filter_map (λ (leg : Leg O). parts_of leg) those)
  parts_home config those home pair went i =
      let m = picked (λ (leg : Leg O). parts_of leg) those i in
      let have = parts_have m.from.lease m.from.sending.ends went m.makes in
      subst (λ (o : Option (O × O)). AreHome log (port_address config went.0.pair Rtp) o) have.0
      (subst (λ (n : ℕ). AreHome log (port_address config n Rtp) m.from.sending.ends)
      (sym (pair m.from m.is_in) ∙ ap (λ (l : Lease). l.pair) have.1) (home m.from m.is_in))

  pub gone_home : (config : Config) (cell : cell.Cell O) (h : List CellEntry) (those : List (Leg O)) (gone : List (Lease × O × O)) → CellFor config cell h
      → LegsHome log config cell.legs.items → ((leg : Leg O) → In leg those → In leg cell.legs.items) → gone ≡ filter_map (λ (leg : Leg O). parts_of leg) those
      → GoneHome log config gone
  gone_home config cell h those gone for home within went =
      subst (λ (g : List (Lease × O × O)). GoneHome log config g) (sym went)
      (parts_home config those (λ leg i. home leg (within leg i)) (λ leg i. (each_in config (since_end h) cell.legs.items leg for.legs_for (within leg i)).pair))

  -- Any event of a cell.

  cell_home_by : (config : Config) (old new : cell.Cell O) (made : Made) (event : CellEvent) (h : List CellEntry) → AreNew h (keys_of event)
      → CellStepsBy log faults old made event new → CellFor config old h → LegsHome log config old.legs.items → LegsHome log config new.legs.items
  cell_home_by config old new made (Prepare call those keys dropped) h fresh step for before =
      prepare_home config old new h step.signal call keys dropped made.handed step.gone for (step.steps config h for fresh).1 step.opened before
  cell_home_by config old new made (Commit signal) h fresh step for before =
      commit_home config old new h signal made.handed step.gone for (step.steps config h for).1 before
  cell_home_by config old new made (Relay x) h fresh step for before =
      relay_home config old new h x.packet made.handed step.buffer x.deed.outcome for (step.steps config h x.packet.take for).1 before
  cell_home_by config old new made (Expire due) h fresh step for before =
      λ leg i. before leg (subst (λ (c : cell.Cell O). In leg c.legs.items) (step.steps config h for).1.rest i)
  cell_home_by config old new made (Read reports) h fresh step for before = subst (λ (c : cell.Cell O). LegsHome log config c.legs.items) (sym step.same) before
  cell_home_by config old new made End h fresh step for before =
      no_legs_home config new (step.steps config h for).1.stands.legs_for

  pub cell_home : (config : Config) (old new : cell.Cell O) (made : Made) (event : Event) (recorded : List CellEntry)
      → BringsNewKeys (cons_option (cell_at made.moment event) recorded) → CellSteps log faults old made event new → CellStands config old recorded
      → LegsHome log config old.legs.items → LegsHome log config new.legs.items
  cell_home config old new made (Cell c) recorded fresh step stands before =
      cell_home_by config old new made c stands.history (new_recorded stands.history recorded _ stands.is_recorded fresh.0) step stands.stands before
  cell_home config old new made (Box b) recorded fresh step stands before = absurd step
  cell_home config old new made (Board b) recorded fresh step stands before = absurd step

-- Any number of steps.

module _ {I O : Type 0} (it : I → EndLog InCall) (ic : I → ℕ) (ot : O → EndLog OutCall) (oc : O → ℕ) where
  not_both : (a : Part I O) → IsCellPart a → IsBoardPart a → ⊥
  not_both (part.Cell c) is board = board
  not_both (part.Board b) is board = is
  not_both (part.Pair b) is board = board

  module _ {T : Type 0} where
    row_home : (config : Config) (old new : Part I O) (row : table.Entry Made T) (h : List Entry) → BringsNewKeys (filter_map cell_entry (entry_of row ∷ h))
        → Relates it ic ot oc old row.event new → Stands config old h → CellHome ot config old → CellHome ot config new
    row_home config (part.Cell old) (part.Cell new) row h fresh step stands home =
        cell_home ot oc config old new row.event row.event.event (filter_map cell_entry h) fresh step stands home
    row_home config (part.Cell old) (part.Board new) row h fresh step stands home = absurd step
    row_home config (part.Cell old) (part.Pair new) row h fresh step stands home = absurd step
    row_home config (part.Board old) new row h fresh step stands home = absurd home
    row_home config (part.Pair old) new row h fresh step stands home = absurd home

    -- from a cell's state to a later one
    pub rows_home : (config : Config) (a b : Part I O) (rows : List (table.Entry Made T)) (h : List Entry) → IsCellPart a → Leaves (Steps it ic ot oc) a rows b
        → BringsNewKeys (filter_map cell_entry (onto rows h)) → Stands config a h → CellHome ot config a → CellHome ot config b
    rows_home config a b [] h is same fresh stands home = subst (λ (x : Part I O). CellHome ot config x) same home
    rows_home config a b (row ∷ rows) h is l fresh stands home =
        let one = brings_onto rows (entry_of row ∷ h) fresh in
        rows_home config l.0 b rows (entry_of row ∷ h) (cell_stays it ic ot oc a l.0 (row ∷ []) (l.0, l.1, refl) is) l.2 fresh
        (stands_onto it ic ot oc config a l.0 (row ∷ []) h (l.0, l.1, refl) (λ cell. one) (λ board. absurd (not_both a is board)) stands)
        (row_home config a l.0 row h one l.1 stands home)

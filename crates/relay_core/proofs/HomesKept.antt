-- The out ends of a cell's legs stay those that were opened for the pairs of the legs, and the legs stay in leases of their pairs: by
-- what the cell keeps, whatever its history.
use Rattle.std.proofs.Common.{◌≡◌, ◌∙◌, sym, ap, subst, refl, ℕ, ◌⊎◌, inl, inr, List, [], ◌∷◌, ◌++◌, Bool, true, false, cond, not, Option, Some, None, map, filter}
use Rattle.std.specs.Prelude.{slice_index_or}
use Rattle.std.specs.List.{filter_map}
use Rattle.relay_outside.specs.declared.address.Addr.{Addr}
use Rattle.relay_outside.specs.declared.ports.InCall.{InCall}
use Rattle.relay_outside.specs.declared.ports.OutCall.{OutCall}
use Rattle.relay_outside.specs.declared.settings.Config.{Config}
use Rattle.relay_outside.specs.DeviceLogs.{EndLog}
use Rattle.rtp_packet.specs.declared.head.Half.TheVariants.{Rtp}
use Rattle.sdes_lines.specs.declared.crypto_line.Suite.{Suite}
use Rattle.sdes_lines.specs.declared.crypto_line.Suite.TheVariants.{Tag80, Tag32}
use Rattle.turn_table.specs.declared.machine.Entry as table
use Rattle.turn_table.specs.Histories.{Leaves}
use Rattle.histories.specs.Words.{In, here, there}
use Rattle.histories.proofs.Lists.{in_append, filtered, maps, mapped}
use Rattle.port_pool.specs.Ports.{port_address}
use Rattle.port_pool.specs.Signals.{NewKey, is_rejected}
use Rattle.port_pool.specs.declared.pairs.Lease.{Lease}
use Rattle.port_pool.specs.declared.holder.Holder.{Holder}
use Rattle.port_pool.specs.declared.holder.Side.{Side}
use Rattle.port_pool.specs.declared.signal.SectionSignal.{SectionSignal}
use Rattle.call_cell.specs.declared.leg.Leg.{Leg}
use Rattle.call_cell.specs.declared.cell.Cell as cell
use Rattle.call_cell.specs.Cells.{CellEvent, CellEntry, Prepare, Commit, Relay, Expire, Read, End}
use Rattle.call_cell.specs.CellEnds.{parts_of}
use Rattle.call_cell.specs.Shapes.{CellLegShape, CellShape, LegForm, FormsStay, SamePorts, KeepsPorts, cell_shape, cell_leg_shape, leg_form, leg_forms, with_key_number, key_number_at, with_key_numbers, answered_leg}
use Rattle.call_shapes.specs.Events.{brought_shape, section_flags, shape_after_event, shape_by}
use Rattle.relay_core.specs.declared.part.Part.{Part}
use Rattle.relay_core.specs.declared.part.Part.TheVariants as part
use Rattle.relay_core.specs.Entries.{Event, Board, Cell, Box, cell_entry}
use Rattle.relay_core.specs.Records.{Made, entry_of}
use Rattle.relay_core.specs.Steps.{CellPrepared, CellCommitted, CellEnded, CellStepsBy, CellSteps, Relates}
use Rattle.relay_core.specs.PlaceHistories.{AreHome, LegsHome, GoneHome, CellHome}
use Rattle.relay_core.specs.Homes.{ArePaired, IsCellHome, KeepsHome}
use Rattle.call_cell.proofs.EndsThere.{parts_have}
use Rattle.relay_core.proofs.Shaped.{HasShape, cell_shaped, shape_step}
use Rattle.relay_core.proofs.Stays.{Steps}

-- The pairs of the leases, by the shape that a step leaves.

-- the same of legs as a shape tells them
abbrev ShapesPaired : List CellLegShape → Type 0
ShapesPaired shapes = (s : CellLegShape) → In s shapes → s.lease.pair ≡ s.holder.pair

abbrev pairs_of : CellLegShape → ℕ × ℕ
pairs_of s = (s.lease.pair, s.holder.pair)

abbrev all_pairs : List CellLegShape → List (ℕ × ℕ)
all_pairs shapes = map pairs_of shapes

pairs_stay : (suite : Suite) (number : Option ℕ) (s : CellLegShape) → pairs_of (with_key_number suite number s) ≡ pairs_of s
pairs_stay Tag80 number s = refl
pairs_stay Tag32 number s = refl

one_pairs : (section : ℕ) (side : Side) (suite : Suite) (number : Option ℕ) (shapes : List CellLegShape)
    → all_pairs (key_number_at section side suite number shapes) ≡ all_pairs shapes
one_pairs section side suite number [] = refl
one_pairs section side suite number (s ∷ shapes) =
    by (one_pairs section side suite number shapes) _
  where
    by : all_pairs (key_number_at section side suite number shapes) ≡ all_pairs shapes
        → (b : Bool) → all_pairs (cond b (with_key_number suite number s ∷ shapes) (s ∷ key_number_at section side suite number shapes)) ≡ pairs_of s ∷ all_pairs shapes
    by rest true = ap (λ (p : ℕ × ℕ). p ∷ all_pairs shapes) (pairs_stay suite number s)
    by rest false = ap (λ (l : List (ℕ × ℕ)). pairs_of s ∷ l) rest

keyed_pairs : (keys : List NewKey) (shapes : List CellLegShape) → all_pairs (with_key_numbers keys shapes) ≡ all_pairs shapes
keyed_pairs [] shapes = refl
keyed_pairs (key ∷ keys) shapes = one_pairs key.section key.side key.suite (Some key.number) (with_key_numbers keys shapes) ∙ keyed_pairs keys shapes

paired_by : (old new : List CellLegShape) → all_pairs new ≡ all_pairs old → ShapesPaired old → ShapesPaired new
paired_by old new same paired s i =
    let m = mapped pairs_of old (subst (λ (l : List (ℕ × ℕ)). In (pairs_of s) l) same (maps pairs_of new i)) in
    subst (λ (p : ℕ × ℕ). p.0 ≡ p.1) m.makes (paired m.from m.is_in)

brought_paired : (config : Config) (legs : List Holder) → ShapesPaired (map (brought_shape config) legs)
brought_paired config legs s i =
    let m = mapped (brought_shape config) legs i in
    subst (λ (x : CellLegShape). x.lease.pair ≡ x.holder.pair) m.makes refl

-- of each event of a cell
shape_paired : (event : CellEvent) (shape : CellShape) → ShapesPaired shape.legs → ShapesPaired (shape_after_event event shape).legs
shape_paired (Prepare call legs keys dropped) shape paired =
    let stays : CellLegShape → Bool = λ (s : CellLegShape). not (slice_index_or (section_flags dropped) s.holder.section false) in
    let there = filter stays shape.legs ++ map (brought_shape shape.config) legs in
    paired_by there (with_key_numbers keys there) (keyed_pairs keys there)
    (λ s i. elim (in_append (filter stays shape.legs) (map (brought_shape shape.config) legs) i) [
      | inl j ↦ paired s (filtered stays shape.legs j).0
      | inr j ↦ brought_paired shape.config legs s j
    ])
shape_paired (Commit signal) shape paired =
    let stays : CellLegShape → Bool = λ (x : CellLegShape). not (is_rejected signal x.holder.section) in
    λ s i.
    let m = mapped (answered_leg signal) (filter stays shape.legs) i in
    subst (λ (x : CellLegShape). x.lease.pair ≡ x.holder.pair) m.makes (paired m.from (filtered stays shape.legs m.is_in).0)
shape_paired (Relay x) shape paired = paired
shape_paired (Expire due) shape paired = paired
shape_paired (Read reports) shape paired = paired
shape_paired End shape paired = λ s i. elim i [ ]

config_after : (event : CellEvent) (shape : CellShape) → (shape_after_event event shape).config ≡ shape.config
config_after (Prepare call legs keys dropped) shape = refl
config_after (Commit signal) shape = refl
config_after (Relay x) shape = refl
config_after (Expire due) shape = refl
config_after (Read reports) shape = refl
config_after End shape = refl

config_by : (h : List CellEntry) (shape : CellShape) → (shape_by h shape).config ≡ shape.config
config_by [] shape = refl
config_by (e ∷ h) shape = config_after e.event (shape_by h shape) ∙ config_by h shape

-- What a step does to the out ends.

module _ {O : Type 0} (log : O → EndLog OutCall) (faults : O → ℕ) where
  -- a leg is at home where another of its form is
  form_home : (config : Config) (leg other : Leg O) → leg_form other ≡ leg_form leg → AreHome log (port_address config other.holder.pair Rtp) other.sending.ends
      → AreHome log (port_address config leg.holder.pair Rtp) leg.sending.ends
  form_home config leg other same home = subst (λ (f : LegForm O). AreHome log (port_address config f.holder.pair Rtp) f.ends) same home

  -- the legs that are there then have the out ends of their pairs, where the old ones had and those that came have
  pub forms_home : (config : Config) (came old new : List (Leg O)) (gone : List (Lease × O × O)) → FormsStay came old new gone → LegsHome log config old
      → LegsHome log config came → LegsHome log config new
  forms_home config came old new gone forms home brought leg i = either (in_append (leg_forms old) (leg_forms came) (forms.new_are leg i))
    where
      either : In (leg_form leg) (leg_forms old) ⊎ In (leg_form leg) (leg_forms came) → AreHome log (port_address config leg.holder.pair Rtp) leg.sending.ends
      either (inl j) = let m = mapped (λ (l : Leg O). leg_form l) old j in form_home config leg m.from m.makes (home m.from m.is_in)
      either (inr j) = let m = mapped (λ (l : Leg O). leg_form l) came j in form_home config leg m.from m.makes (brought m.from m.is_in)

  -- and what went has those of the pairs that are leased
  pub forms_gone_home : (config : Config) (came old new : List (Leg O)) (gone : List (Lease × O × O)) → FormsStay came old new gone → LegsHome log config old
      → ArePaired old → GoneHome log config gone
  forms_gone_home config came old new gone forms home paired parts i =
      let m = mapped (λ (l : Leg O). parts_of l) old (forms.gone_are parts i) in
      let have = parts_have m.from.lease m.from.sending.ends parts m.makes in
      subst (λ (o : Option (O × O)). AreHome log (port_address config parts.0.pair Rtp) o) have.0
      (subst (λ (n : ℕ). AreHome log (port_address config n Rtp) m.from.sending.ends)
      (sym (paired m.from m.is_in) ∙ ap (λ (l : Lease). l.pair) have.1) (home m.from m.is_in))

  same_ports : (at : Addr) (old new : Option (O × O)) → SamePorts log old new → AreHome log at old → AreHome log at new
  same_ports at None None same home = tt
  same_ports at None (Some new) same home = absurd same
  same_ports at (Some old) None same home = absurd same
  same_ports at (Some old) (Some new) same home = record { rtp_at = same.0 ∙ home.rtp_at; rtcp_at = same.1 ∙ home.rtcp_at }

  relayed_home : (config : Config) (old new : List (Leg O)) → KeepsPorts log old new → LegsHome log config old → LegsHome log config new
  relayed_home config [] [] keeps home leg i = elim i [ ]
  relayed_home config [] (y ∷ new) keeps home leg i = absurd keeps
  relayed_home config (x ∷ old) [] keeps home leg i = absurd keeps
  relayed_home config (x ∷ old) (y ∷ new) keeps home leg (here e) =
      let k = keeps.0 in
      subst (λ (l : Leg O). AreHome log (port_address config l.holder.pair Rtp) l.sending.ends) (sym e)
      (subst (λ (h : Holder). AreHome log (port_address config h.pair Rtp) y.sending.ends) (sym k.holder)
      (same_ports (port_address config x.holder.pair Rtp) x.sending.ends y.sending.ends k.ends (home x (here refl))))
  relayed_home config (x ∷ old) (y ∷ new) keeps home leg (there i) = relayed_home config old new keeps.1 (λ l j. home l (there j)) leg i

  brought_home : (config : Config) (old : cell.Cell O) (made : Made) (call : ℕ) (legs : List Holder) (keys : List NewKey) (dropped : List ℕ) (new : cell.Cell O)
      → old.config ≡ config → (step : CellPrepared log old made call legs keys dropped new) → LegsHome log config step.signal.legs.items
  brought_home config old made call legs keys dropped new at step leg i =
      let o = step.opened leg i in
      subst (λ (c : Config). AreHome log (port_address c leg.holder.pair Rtp) leg.sending.ends) at
      (subst (λ (e : Option (O × O)). AreHome log (port_address old.config leg.holder.pair Rtp) e) (sym o.ends_are)
      (record { rtp_at = o.rtp.at_is; rtcp_at = o.rtcp.at_is }))

  -- any event of a cell
  pub cell_home_kept : (config : Config) (old new : cell.Cell O) (made : Made) (event : CellEvent) → old.config ≡ config
      → CellStepsBy log faults old made event new → LegsHome log config old.legs.items → LegsHome log config new.legs.items
  cell_home_kept config old new made (Prepare call legs keys dropped) at step home =
      forms_home config step.signal.legs.items old.legs.items new.legs.items step.gone step.forms home (brought_home config old made call legs keys dropped new at step)
  cell_home_kept config old new made (Commit signal) at step home =
      forms_home config [] old.legs.items new.legs.items step.gone step.forms home (λ leg i. elim i [ ])
  cell_home_kept config old new made (Relay x) at step home = relayed_home config old.legs.items new.legs.items step.legs home
  cell_home_kept config old new made (Expire due) at step home =
      λ leg i. home leg (subst (λ (v : _). In leg v.items) step.legs i)
  cell_home_kept config old new made (Read reports) at step home = subst (λ (c : cell.Cell O). LegsHome log config c.legs.items) (sym step.same) home
  cell_home_kept config old new made End at step home =
      forms_home config [] old.legs.items new.legs.items step.gone step.forms home (λ leg i. elim i [ ])

  pub cell_paired_kept : (old new : cell.Cell O) (made : Made) (event : CellEvent) → CellStepsBy log faults old made event new
      → ArePaired old.legs.items → ArePaired new.legs.items
  cell_paired_kept old new made event step paired leg i =
      let shapes : ShapesPaired (cell_shape old).legs
      = λ s j. (let m = mapped (λ (l : Leg O). cell_leg_shape l) old.legs.items j in
      subst (λ (x : CellLegShape). x.lease.pair ≡ x.holder.pair) m.makes (paired m.from m.is_in)) in
      subst (λ (s : CellShape). ShapesPaired s.legs) (sym (cell_shaped log faults old new made event step)) (shape_paired event (cell_shape old) shapes)
      (cell_leg_shape leg) (maps (λ (l : Leg O). cell_leg_shape l) new.legs.items i)

  -- What goes.

  -- what an offer drops has the out ends of the pairs that are leased
  pub prepared_gone_home : (config : Config) (old new : cell.Cell O) (made : Made) (call : ℕ) (legs : List Holder) (keys : List NewKey) (dropped : List ℕ)
      → (step : CellPrepared log old made call legs keys dropped new)
      → LegsHome log config old.legs.items → ArePaired old.legs.items → GoneHome log config step.gone
  prepared_gone_home config old new made call legs keys dropped step home paired =
      forms_gone_home config step.signal.legs.items old.legs.items new.legs.items step.gone step.forms home paired

  -- and what an answer rejects
  pub committed_gone_home : (config : Config) (old new : cell.Cell O) (made : Made) (signal : List SectionSignal)
      → (step : CellCommitted log old made signal new)
      → LegsHome log config old.legs.items → ArePaired old.legs.items → GoneHome log config step.gone
  committed_gone_home config old new made signal step home paired =
      forms_gone_home config [] old.legs.items new.legs.items step.gone step.forms home paired

  -- and what goes by an end
  pub ended_gone_home : (config : Config) (old new : cell.Cell O) (made : Made) → (step : CellEnded log old made new)
      → LegsHome log config old.legs.items → ArePaired old.legs.items → GoneHome log config step.gone
  ended_gone_home config old new made step home paired =
      forms_gone_home config [] old.legs.items new.legs.items step.gone step.forms home paired

  -- All of it.
  pub cell_stays_home : (config : Config) (old new : cell.Cell O) (made : Made) (event : CellEvent) → CellStepsBy log faults old made event new
      → IsCellHome log config old → IsCellHome log config new
  cell_stays_home config old new made event step home = record {
    config_is = ap (λ (s : CellShape). s.config) (cell_shaped log faults old new made event step) ∙ config_after event (cell_shape old) ∙ home.config_is;
    paired = cell_paired_kept old new made event step home.paired;
    legs = cell_home_kept config old new made event home.config_is step home.legs;
  }

-- Any number of steps.

module _ {I O : Type 0} where
  -- the lease of each leg of the cell is of its holder's pair
  abbrev pub CellPaired : Part I O → Type 0
  CellPaired (part.Cell cell) = ArePaired cell.legs.items
  CellPaired _ = ⊥

module _ {I O : Type 0} (it : I → EndLog InCall) (ic : I → ℕ) (ot : O → EndLog OutCall) (oc : O → ℕ) where
  event_home : (config : Config) (old new : cell.Cell O) (made : Made) (event : Event) → old.config ≡ config
      → CellSteps ot oc old made event new → LegsHome ot config old.legs.items → LegsHome ot config new.legs.items
  event_home config old new made (Cell c) at step home = cell_home_kept ot oc config old new made c at step home
  event_home config old new made (Board b) at step home = absurd step
  event_home config old new made (Box b) at step home = absurd step

  event_paired : (old new : cell.Cell O) (made : Made) (event : Event) → CellSteps ot oc old made event new → ArePaired old.legs.items → ArePaired new.legs.items
  event_paired old new made (Cell c) step paired = cell_paired_kept ot oc old new made c step paired
  event_paired old new made (Board b) step paired = absurd step
  event_paired old new made (Box b) step paired = absurd step

  event_stays_home : (config : Config) (old new : cell.Cell O) (made : Made) (event : Event) → CellSteps ot oc old made event new
      → IsCellHome ot config old → IsCellHome ot config new
  event_stays_home config old new made (Cell c) step home = cell_stays_home ot oc config old new made c step home
  event_stays_home config old new made (Board b) step home = absurd step
  event_stays_home config old new made (Box b) step home = absurd step

  -- one step of a cell that is run with this configuration
  pub step_home_kept : (config : Config) (a b : Part I O) (made : Made) (shape : CellShape) → HasShape a shape → shape.config ≡ config
      → Relates it ic ot oc a made b → CellHome ot config a → CellHome ot config b
  step_home_kept config (part.Cell old) (part.Cell new) made shape is at step home =
      event_home config old new made made.event (ap (λ (s : CellShape). s.config) is ∙ at) step home
  step_home_kept config (part.Cell old) (part.Board new) made shape is at step home = absurd step
  step_home_kept config (part.Cell old) (part.Pair new) made shape is at step home = absurd step
  step_home_kept config (part.Board old) b made shape is at step home = absurd home
  step_home_kept config (part.Pair old) b made shape is at step home = absurd home

  pub step_paired_kept : (a b : Part I O) (made : Made) → Relates it ic ot oc a made b → CellPaired a → CellPaired b
  step_paired_kept (part.Cell old) (part.Cell new) made step paired = event_paired old new made made.event step paired
  step_paired_kept (part.Cell old) (part.Board new) made step paired = absurd step
  step_paired_kept (part.Cell old) (part.Pair new) made step paired = absurd step
  step_paired_kept (part.Board old) b made step paired = absurd paired
  step_paired_kept (part.Pair old) b made step paired = absurd paired

  pub step_keeps_home : (config : Config) (a b : Part I O) (made : Made) → Relates it ic ot oc a made b → KeepsHome ot config a → KeepsHome ot config b
  step_keeps_home config (part.Cell old) (part.Cell new) made step home = event_stays_home config old new made made.event step home
  step_keeps_home config (part.Cell old) (part.Board new) made step home = absurd step
  step_keeps_home config (part.Cell old) (part.Pair new) made step home = absurd step
  step_keeps_home config (part.Board old) b made step home = absurd home
  step_keeps_home config (part.Pair old) b made step home = absurd home

  module _ {T : Type 0} where
    -- from a cell's state to a later one
    pub rows_home_kept : (config : Config) (a b : Part I O) (rows : List (table.Entry Made T)) (shape : CellShape) → HasShape a shape → shape.config ≡ config
        → Leaves (Steps it ic ot oc) a rows b → CellHome ot config a → CellHome ot config b
    rows_home_kept config a b [] shape is at same home = subst (λ (x : Part I O). CellHome ot config x) same home
    rows_home_kept config a b (row ∷ rows) shape is at l home =
        rows_home_kept config l.0 b rows (shape_by (filter_map cell_entry (entry_of row ∷ [])) shape) (shape_step it ic ot oc a l.0 row [] shape l.1 is)
        (config_by (filter_map cell_entry (entry_of row ∷ [])) shape ∙ at) l.2
        (step_home_kept config a l.0 row.event shape is at l.1 home)

    pub rows_paired_kept : (a b : Part I O) (rows : List (table.Entry Made T)) → Leaves (Steps it ic ot oc) a rows b → CellPaired a → CellPaired b
    rows_paired_kept a b [] same paired = subst (λ (x : Part I O). CellPaired x) same paired
    rows_paired_kept a b (row ∷ rows) l paired = rows_paired_kept l.0 b rows l.2 (step_paired_kept a l.0 row.event l.1 paired)

    pub rows_keep_home : (config : Config) (a b : Part I O) (rows : List (table.Entry Made T)) → Leaves (Steps it ic ot oc) a rows b
        → KeepsHome ot config a → KeepsHome ot config b
    rows_keep_home config a b [] same home = subst (λ (x : Part I O). KeepsHome ot config x) same home
    rows_keep_home config a b (row ∷ rows) l home = rows_keep_home config l.0 b rows l.2 (step_keeps_home config a l.0 row.event l.1 home)

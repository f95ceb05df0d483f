-- A take by a lane, from what its turn gave to what its hand's list gained.
use Rattle.std.proofs.Common.{◌≡◌, refl, sym, ◌∙◌, ap, subst, ℕ, ◌≤◌, List, [], ◌∷◌, ◌++◌, Option, Some, None, arith}
use Rattle.relay_outside.specs.declared.address.Addr.{Addr}
use Rattle.relay_outside.specs.declared.settings.Config.{Config}
use Rattle.relay_outside.specs.declared.ports.InCall.{InCall}
use Rattle.relay_outside.specs.declared.ports.OutCall.{OutCall}
use Rattle.relay_outside.specs.DeviceLogs.{EndLog}
use Rattle.rtp_packet.specs.declared.head.Half.{Half}
use Rattle.turn_table.specs.declared.hands.Hand.{Hand}
use Rattle.turn_table.specs.Hands.{starts, entries, TriedOnce, TriedUntilFree}
use Rattle.turn_table.specs.Steps.{entry}
use Rattle.port_pool.specs.declared.holder.Holder.{Holder}
use Rattle.port_pool.specs.declared.boxes.PairBox.{PairBox}
use Rattle.port_pool.specs.Boxes as box
use Rattle.port_pool.specs.Boxes.{Taken, FitsTaken, BoxEvent}
use Rattle.port_pool.specs.PairBoxes.{holder_in}
use Rattle.call_cell.specs.Cells as cells
use Rattle.relay_core.specs.declared.part.Part.{Part}
use Rattle.relay_core.specs.declared.part.Part.TheVariants as part
use Rattle.relay_core.specs.Entries.{Box, Entry, box_of}
use Rattle.relay_core.specs.Records.{Made, entry_of}
use Rattle.relay_core.specs.Steps.{Relates, BoxStep}
use Rattle.relay_core.specs.Turns.{IsAbove, made_by}
use Rattle.media_lane.specs.declared.receipt.Receipt.{Receipt}
use Rattle.media_lane.specs.declared.answers.Received.{Received}
use Rattle.media_lane.specs.declared.answers.Received.TheVariants as answer
use Rattle.media_lane.specs.Starts.{HasCells, IsBoxOf, HasLaneStarts}
use Rattle.media_lane.specs.Lanes.{packet_of}
use Rattle.media_lane.specs.Busy.{Gives}
use Rattle.media_lane.specs.Receipts.{IsReceiptOf, KeepsList}
use Rattle.media_lane.specs.Takes.{take_made, IsOfTake, TellsOfTake, IsShort, HasReceipt, MakesTake, Receives, TakesAtLast}
use Rattle.media_lane.specs.Visits.{packet_by}
use Rattle.media_lane.proofs.Places.{stands_for, gives_box}
use Rattle.media_lane.proofs.Above.{above, made_more}
use Rattle.media_lane.proofs.Keeping.{take_keeps, take_receipt}

fits_short : (o : Option Holder) (taken : Taken) → FitsTaken o taken → IsShort taken
fits_short o box.Closed fits = tt
fits_short o box.Nothing fits = tt
fits_short None (box.Datagram held source bytes) fits = absurd (let z = fits in cc)
fits_short (Some leg) (box.Datagram held source bytes) fits = fits.1
fits_short o (box.TooLong source bytes) fits = tt
fits_short o box.Fault fits = tt

fits_holder : (o : Option Holder) (held : Holder) (source : Addr) (bytes : List ℕ) → FitsTaken o (box.Datagram held source bytes) → o ≡ Some held
fits_holder None held source bytes fits = absurd (let z = fits in cc)
fits_holder (Some leg) held source bytes fits = ap (λ (x : Holder). Some x) (sym fits.0)

-- Packets.

taken_packet : (r : Receipt) (pair number : ℕ) (half : Half) (taken : Taken) → IsOfTake r pair number half taken → packet_by number half taken ≡ Some (packet_of r)
taken_packet r pair number half taken t =
    ap (λ (x : Taken). packet_by number half x) t.gave
    ∙ ap (λ (n : ℕ). packet_by n half (box.Datagram (packet_of r).holder (packet_of r).source (packet_of r).bytes)) (sym t.number_is)
    ∙ ap (λ (h : Half). packet_by (packet_of r).take h (box.Datagram (packet_of r).holder (packet_of r).source (packet_of r).bytes)) (sym t.half_is)

packet_fields : (number : ℕ) (half : Half) (taken : Taken) (p : cells.Receipt) → packet_by number half taken ≡ Some p
    → (p.take ≡ number) × (p.half ≡ half) × (taken ≡ box.Datagram p.holder p.source p.bytes)
packet_fields number half (box.Datagram holder source bytes) p is =
    let q : record { take = number; half = half; source = source; bytes = bytes; holder = holder } ≡ p = cc in
    (ap (λ (x : cells.Receipt). x.take) (sym q), ap (λ (x : cells.Receipt). x.half) (sym q), ap (λ (x : cells.Receipt). box.Datagram x.holder x.source x.bytes) q)
packet_fields number half box.Closed p is = absurd (let z = is in cc)
packet_fields number half box.Nothing p is = absurd (let z = is in cc)
packet_fields number half (box.TooLong source bytes) p is = absurd (let z = is in cc)
packet_fields number half box.Fault p is = absurd (let z = is in cc)

module _ {I O : Type 0} (it : I → EndLog InCall) (ic : I → ℕ) (ot : O → EndLog OutCall) (oc : O → ℕ) where
  -- a step that takes from a box
  pub record Took (cells : ℕ) (half : Half) (taken : Taken) (x : Part I O) : Type 0 where
    pub before : PairBox I
    pub after : PairBox I
    pub is : x ≡ part.Pair before
    pub has : HasCells cells before
    pub fits : FitsTaken (holder_in before) taken
    pub step : BoxStep it ic before (take_made half taken) (box.Take half taken) after

  step_fits : (cells : ℕ) (half : Half) (taken : Taken) (old new : PairBox I) → HasCells cells old
      → BoxStep it ic old (take_made half taken) (box.Take half taken) new → FitsTaken (holder_in old) taken
  step_fits cells half taken old new has step =
      let s = stands_for cells old has in
      subst (λ (o : Option Holder). FitsTaken o taken) s.1.holder_is (step.stands s.0 s.1).0

  pub took : (cells : ℕ) (half : Half) (taken : Taken) (x y : Part I O) → IsBoxOf cells x → Relates it ic ot oc x (take_made half taken) y → Took cells half taken x
  took cells half taken (part.Pair old) (part.Pair new) is step = record {
    before = old;
    after = new;
    is = refl;
    has = is;
    fits = step_fits cells half taken old new is step;
    step = step;
  }
  took cells half taken (part.Pair old) (part.Board new) is step = absurd step
  took cells half taken (part.Pair old) (part.Cell new) is step = absurd step
  took cells half taken (part.Board old) y is step = absurd is
  took cells half taken (part.Cell old) y is step = absurd is

  pub took_short : (cells : ℕ) (half : Half) (taken : Taken) (x y : Part I O) → IsBoxOf cells x → Relates it ic ot oc x (take_made half taken) y → IsShort taken
  took_short cells half taken x y is step = let t = took cells half taken x y is step in fits_short (holder_in t.before) taken t.fits

  module _ {M : Type 0} {g : _} (config : Config) (pair : ℕ) (half : Half) (old new : Hand M (Part I O) Made (Unit {0}) g) (number : ℕ) (taken : Taken) (x y : Part I O)
      (begins : HasLaneStarts config (starts old)) (given : Gives it ic ot oc old (box_of config pair) number x) (step : Relates it ic ot oc x (take_made half taken) y)
      (list_is : entries new ≡ entries old ++ entry (box_of config pair) number (take_made half taken) (tt {0}) ∷ []) where
    gave : Took config.max_sessions half taken x
    gave = took config.max_sessions half taken x y
        (gives_box it ic ot oc config _ (box_of config pair) number x begins (omega arith) given) step

    made_of : (Tried : Type 0) → Tried → (result : Received) → TellsOfTake result pair number half taken → MakesTake it ic ot oc Tried config pair half result old new
    unfolding gave
    made_of Tried found result tells = record {
      number = number;
      taken = taken;
      list_is = list_is;
      tells = tells;
      found = found;
      before = gave.before;
      after = gave.after;
      given = subst (λ (z : Part I O). Gives it ic ot oc old (box_of config pair) number z) gave.is given;
      fits = gave.fits;
      step = gave.step;
    }

    -- the result of a call that tried once
    pub receives : TriedOnce (box_of config pair) 0 old new → (result : Received) → TellsOfTake result pair number half taken → Receives it ic ot oc config pair half result old new
    receives found (answer.Got r) tells = made_of _ found (answer.Got r) tells
    receives found answer.Nothing tells = made_of _ found answer.Nothing tells
    receives found (answer.Busy front) tells = absurd tells
    receives found answer.TooLong tells = made_of _ found answer.TooLong tells
    receives found answer.TakeFault tells = made_of _ found answer.TakeFault tells

    -- that of one that tried until the mark was free
    pub takes_at_last : TriedUntilFree (box_of config pair) old new → (result : Received) → TellsOfTake result pair number half taken
        → TakesAtLast it ic ot oc config pair half result old new
    takes_at_last found result tells = made_of _ found result tells

    row_above : IsAbove (made_by old) (box_of config pair) number
    row_above = above it ic ot oc old (box_of config pair) number x given

    pub keeps : KeepsList config (made_by old) (made_by new)
    keeps = subst (λ (l : List Entry). KeepsList config (made_by old) l) (sym (made_more old new (entry (box_of config pair) number (take_made half taken) (tt {0})) list_is))
        (take_keeps config (made_by old) (entry_of {T = Unit {0}} (entry (box_of config pair) number (take_made half taken) (tt {0}))) half taken refl row_above)

    cell_of : (held : Holder) (source : Addr) (bytes : List ℕ) → taken ≡ box.Datagram held source bytes → (1 ≤ held.cell) × (held.cell ≤ config.max_sessions)
    cell_of held source bytes is =
        gave.has.held_by held (fits_holder (holder_in gave.before) held source bytes (subst (λ (t : Taken). FitsTaken (holder_in gave.before) t) is gave.fits))

    -- the packet of a datagram that it gave
    pub packet_receipt : (p : cells.Receipt) → packet_by number half taken ≡ Some p → IsReceiptOf config (made_by new) pair p
    packet_receipt p is =
        let f = packet_fields number half taken p is in
        subst (λ (l : List Entry). IsReceiptOf config l pair p) (sym (made_more old new (entry (box_of config pair) number (take_made half taken) (tt {0})) list_is))
        (take_receipt config (made_by old) (entry_of {T = Unit {0}} (entry (box_of config pair) number (take_made half taken) (tt {0}))) pair p
        (ap (λ (t : Taken). Box (box.Take half t)) f.2 ∙ ap (λ (h : Half). Box (box.Take h (box.Datagram p.holder p.source p.bytes))) (sym f.1))
        refl (sym f.0) row_above (cell_of p.holder p.source p.bytes f.2))

-- a receipt that is returned is of that packet
pub has_receipt : (config : Config) (l : List Entry) (pair number : ℕ) (half : Half) (taken : Taken) → ((p : cells.Receipt) → packet_by number half taken ≡ Some p → IsReceiptOf config l pair p)
    → (result : Received) → TellsOfTake result pair number half taken → HasReceipt config l result
has_receipt config l pair number half taken each (answer.Got r) tells =
    subst (λ (n : ℕ). IsReceiptOf config l n (packet_of r)) (sym tells.pair_is) (each (packet_of r) (taken_packet r pair number half taken tells))
has_receipt config l pair number half taken each answer.Nothing tells = tt {0}
has_receipt config l pair number half taken each (answer.Busy front) tells = tt {0}
has_receipt config l pair number half taken each answer.TooLong tells = tt {0}
has_receipt config l pair number half taken each answer.TakeFault tells = tt {0}

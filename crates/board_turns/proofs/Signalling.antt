-- What an offer and an answer make of a cell.
use Rattle.std.proofs.Common.{◌≡◌, refl, sym, ◌∙◌, ap, subst, ℕ, ◌≤◌, inl, inr, max, false, List, [], ◌∷◌, arith}
use Rattle.std.specs.Prelude.{slice_index_or}
use Rattle.relay_outside.specs.declared.settings.Config.{Config}
use Rattle.relay_outside.specs.declared.ports.InCall.{InCall}
use Rattle.relay_outside.specs.declared.ports.OutCall.{OutCall}
use Rattle.relay_outside.specs.DeviceLogs.{EndLog}
use Rattle.rtp_packet.specs.declared.head.Half.TheVariants.{Rtp}
use Rattle.turn_table.specs.declared.hands.Hand.{Hand}
use Rattle.turn_table.specs.Hands.{EndsTurn}
use Rattle.port_pool.specs.declared.pairs.Lease.{Lease}
use Rattle.port_pool.specs.declared.signal.SectionSignal.{SectionSignal}
use Rattle.port_pool.specs.Signals.{NewKey, is_rejected}
use Rattle.port_pool.specs.Ports.{pair_family, pair_port}
use Rattle.call_cell.specs.declared.prepare.Prepare as prepared
use Rattle.call_cell.specs.declared.cell.Cell as cell
use Rattle.call_cell.specs.Cells.{CellEvent, CellEntry, Prepare, Commit, Relay, Expire, Read, End, since_end}
use Rattle.call_cell.specs.Shapes.{cell_shape, cell_leg_shapes, offered_shape, answered_shape, IsSmall, LegsGo, FormsStay}
use Rattle.call_cell.specs.SignalEntries.{lasting_entries}
use Rattle.call_cell.specs.CellHistories.{CellFor}
use Rattle.call_cell.specs.Commits.{NamesKeys, CellCommits, contexts_due, contexts_due_after, inbound_keys}
use Rattle.call_cell.specs.Preparations.{PrepareFor, CanCome, CellPrepares, FitsPlaces, added}
use Rattle.call_cell.proofs.Again.{can_come_again, names_keys_again}
use Rattle.call_cell.proofs.Callers.{places_fit, due_is}
use Rattle.call_cell.proofs.Due.{due_named}
use Rattle.call_cell.proofs.Shaped.{is_small}
use Rattle.call_cell.proofs.Nested.{entry_at, can_come_kept, names_keys_kept, due_kept}
use Rattle.call_shapes.proofs.Brought.{offer_is_event, flagged_go}
use Rattle.relay_core.specs.declared.part.Part.{Part}
use Rattle.relay_core.specs.declared.part.Part.TheVariants as part
use Rattle.relay_core.specs.Entries.{Entry, Cell, cell_history}
use Rattle.relay_core.specs.Records.{Left, Made}
use Rattle.relay_core.specs.PlaceHistories.{CellIs, nested_of}
use Rattle.relay_core.specs.Steps.{Relates}
use Rattle.relay_core.specs.Turns.{IsAbove, made_by}
use Rattle.board_turns.specs.OfferEvents.{brings}
use Rattle.board_turns.specs.NestedSteps.{leaving, gone_left}
use Rattle.board_turns.specs.InCells.{moment_of_cell, HasSpace, OfferComes, AnswerComes, TakesOffer, TakesAnswer, PreparesPart, CommitsPart, Prepares, Commits, OpenedFor}
use Rattle.board_turns.proofs.Boxing.{Gives}

-- Offers, answers and ends are nested.

kept_event : (moment : ℕ) (event : CellEvent) (h : List CellEntry) → lasting_entries (nested_of h) ≡ lasting_entries h
    → lasting_entries (nested_of (entry_at moment event ∷ h)) ≡ lasting_entries (entry_at moment event ∷ h)
kept_event moment (Prepare call legs keys dropped) h rest = ap (λ (l : List CellEntry). entry_at moment (Prepare call legs keys dropped) ∷ l) rest
kept_event moment (Commit signal) h rest = ap (λ (l : List CellEntry). entry_at moment (Commit signal) ∷ l) rest
kept_event moment (Relay r) h rest = rest
kept_event moment (Expire due) h rest = rest
kept_event moment (Read log) h rest = rest
kept_event moment End h rest = ap (λ (l : List CellEntry). entry_at moment End ∷ l) rest

kept_nested : (h : List CellEntry) → lasting_entries (nested_of h) ≡ lasting_entries h
kept_nested [] = refl
kept_nested (e ∷ h) = kept_event e.moment e.event h (kept_nested h)

-- two histories with the same nested entries have the same lasting ones
pub same_lasting : (h k : List CellEntry) → nested_of h ≡ nested_of k → lasting_entries h ≡ lasting_entries k
same_lasting h k same = sym (kept_nested h) ∙ ap (λ (l : List CellEntry). lasting_entries l) same ∙ kept_nested k

-- What a cell that is given takes.

module _ {I O : Type 0} where
  pub takes_offer : (config : Config) (x : Part I O) (own : List CellEntry) (signal : prepared.Prepare O) (call : ℕ) (keys : List NewKey) (dropped : List ℕ)
      → CellIs config x (nested_of own) → PrepareFor signal keys dropped → CanCome config (since_end own) signal call keys dropped
      → TakesOffer x signal call keys dropped
  takes_offer config (part.Board b) own signal call keys dropped is tells comes = absurd is
  takes_offer config (part.Pair b) own signal call keys dropped is tells comes = absurd is
  takes_offer config (part.Cell c) own signal call keys dropped is tells comes = record {
    config = config;
    history = is.0;
    stands = is.2;
    tells = tells;
    comes = can_come_kept config own is.0 signal call keys dropped (same_lasting own is.0 (sym is.1)) comes;
  }

  pub takes_answer : (config : Config) (x : Part I O) (own : List CellEntry) (signal : List SectionSignal) (contexts : ℕ)
      → CellIs config x (nested_of own) → NamesKeys (since_end own) signal → contexts_due_after (since_end own) signal ≤ contexts
      → TakesAnswer x signal contexts
  takes_answer config (part.Board b) own signal contexts is names room = absurd is
  takes_answer config (part.Pair b) own signal contexts is names room = absurd is
  takes_answer config (part.Cell c) own signal contexts is names room =
      let same = same_lasting own is.0 (sym is.1) in
      let due = due_kept own is.0 signal same in
      record {
        config = config;
        history = is.0;
        stands = is.2;
        names = names_keys_kept own is.0 signal same names;
        room = omega (arith, due, room);
      }

  -- no more inbound contexts are due than the answer names inbound keys
  due_fits : (config : Config) (x : Part I O) (own : List CellEntry) (signal : List SectionSignal) → CellIs config x (nested_of own)
      → contexts_due_after (since_end own) signal ≤ inbound_keys signal
  due_fits config (part.Board b) own signal is = absurd is
  due_fits config (part.Pair b) own signal is = absurd is
  due_fits config (part.Cell c) own signal is =
      let lasting_entries = due_kept own is.0 signal (same_lasting own is.0 (sym is.1)) in
      let due = due_is config c is.0 signal is.2 in
      let keys = due_named config (since_end is.0) c.legs.items signal is.2.legs_for in
      omega (arith, lasting_entries, due, keys)

  pub space_is : (config : Config) (x : Part I O) (l : List Entry) (cell n : ℕ) (signal : List SectionSignal) (contexts : ℕ)
      → CellIs config x (nested_of (cell_history l cell n)) → IsAbove l cell n → HasSpace l cell signal contexts
      → contexts_due_after (since_end (cell_history l cell n)) signal ≤ contexts
  space_is config x l cell n signal contexts is above (inl room) = room n above
  space_is config x l cell n signal contexts is above (inr many) = let due = due_fits config x (cell_history l cell n) signal is in omega (arith, due, many)

  offer_of : (x : Part I O) (c : cell.Cell O) (signal : prepared.Prepare O) (call : ℕ) (keys : List NewKey) (dropped : List ℕ) → x ≡ part.Cell c
      → TakesOffer x signal call keys dropped → OfferComes c signal call keys dropped
  offer_of x c signal call keys dropped is takes = subst (λ (z : Part I O). TakesOffer z signal call keys dropped) is takes

  answer_of : (x : Part I O) (c : cell.Cell O) (signal : List SectionSignal) (contexts : ℕ) → x ≡ part.Cell c → TakesAnswer x signal contexts
      → AnswerComes c signal contexts
  answer_of x c signal contexts is takes = subst (λ (z : Part I O). TakesAnswer z signal contexts) is takes

  -- the legs find places
  pub offer_fits : (x : Part I O) (c : cell.Cell O) (signal : prepared.Prepare O) (call : ℕ) (keys : List NewKey) (dropped : List ℕ) → x ≡ part.Cell c
      → TakesOffer x signal call keys dropped → FitsPlaces c signal
  offer_fits x c signal call keys dropped is takes =
      let o = offer_of x c signal call keys dropped is takes in
      places_fit o.config c o.history signal call keys dropped o.stands o.tells o.comes

  -- and the inbound contexts room
  pub answer_fits : (x : Part I O) (c : cell.Cell O) (signal : List SectionSignal) (contexts : ℕ) → x ≡ part.Cell c → TakesAnswer x signal contexts
      → contexts_due signal c.legs.items ≤ contexts
  answer_fits x c signal contexts is takes =
      let a = answer_of x c signal contexts is takes in
      let due = due_is a.config c a.history signal a.stands in
      let room = a.room in
      omega (arith, due, room)

module _ {I O : Type 0} where
  pub commits_part : (x : Part I O) (old new : cell.Cell O) (signal : List SectionSignal) (now : ℕ) (gone : List (Lease × O × O)) → x ≡ part.Cell old
      → ((config : Config) (h : List CellEntry) → CellFor config old h → NamesKeys (since_end h) signal → CellCommits config old new h signal now gone)
      → CommitsPart x (part.Cell new) signal now gone
  commits_part x old new signal now gone is steps = subst (λ (z : Part I O). CommitsPart z (part.Cell new) signal now gone) (sym is) steps

  pub prepares_part : (x : Part I O) (old new : cell.Cell O) (signal : prepared.Prepare O) (call : ℕ) (keys : List NewKey) (dropped : List ℕ) (now : ℕ)
      (gone : List (Lease × O × O)) → x ≡ part.Cell old → TakesOffer x signal call keys dropped
      → ((config : Config) (h : List CellEntry) (k : List NewKey) (d : List ℕ) → CellFor config old h → PrepareFor signal k d → CanCome config (since_end h) signal call k d
      → CellPrepares config old new h signal call k d now gone)
      → PreparesPart x (part.Cell new) signal call keys dropped now gone
  prepares_part x old new signal call keys dropped now gone is takes steps =
      let o = offer_of x old signal call keys dropped is takes in
      subst (λ (z : Part I O). PreparesPart z (part.Cell new) signal call keys dropped now gone) (sym is)
      (λ config h for comes. steps config h keys dropped for o.tells comes)

module _ {I O : Type 0} (it : I → EndLog InCall) (ic : I → ℕ) (ot : O → EndLog OutCall) (oc : O → ℕ) where
  pub prepare_relates : (x : Part I O) (old new : cell.Cell O) (signal : prepared.Prepare O) (call : ℕ) (keys : List NewKey) (dropped : List ℕ) (now : ℕ)
      (gone : List (Lease × O × O)) (number : ℕ) → x ≡ part.Cell old → TakesOffer x signal call keys dropped → OpenedFor ot x signal
      → ((k : List NewKey) (d : List ℕ) → PrepareFor signal k d → cell_shape new ≡ offered_shape signal.dropped (cell_leg_shapes signal.legs.items) k call (cell_shape old))
      → LegsGo (λ leg. slice_index_or signal.dropped leg.section false) signal.legs.items old.legs.items new.legs.items gone
      → FormsStay signal.legs.items old.legs.items new.legs.items gone
      → ((config : Config) (h : List CellEntry) (k : List NewKey) (d : List ℕ) → CellFor config old h → PrepareFor signal k d → CanCome config (since_end h) signal call k d
      → CellPrepares config old new h signal call k d now gone)
      → Relates it ic ot oc x (leaving number now (max now (moment_of_cell x)) (Cell (Prepare call (added signal) keys dropped)) (gone_left ot gone)) (part.Cell new)
  prepare_relates x old new signal call keys dropped now gone number is takes opened shape moves forms steps =
      let o = offer_of x old signal call keys dropped is takes in
      let at : (config : Config) (h : List CellEntry) → CellFor config old h → o.config ≡ config = λ config h for. sym o.stands.config_is ∙ for.config_is in
      subst (λ (z : Part I O). Relates it ic ot oc z (leaving number now (max now (moment_of_cell z)) (Cell (Prepare call (added signal) keys dropped)) (gone_left ot gone)) (part.Cell new)) (sym is)
      (record {
        signal = signal;
        legs_are = refl;
        shape = shape keys dropped o.tells
            ∙ offer_is_event old signal call keys dropped o.tells
            (λ leg i. (
              subst (λ (k : Config). leg.lease.family ≡ pair_family k leg.holder.pair) (sym o.stands.config_is) (o.comes.families leg i),
              subst (λ (k : Config). leg.lease.rtp_port ≡ pair_port k leg.holder.pair) (sym o.stands.config_is) (o.comes.ports leg i Rtp),
            ))
            (is_small o.config old o.history o.stands);
        opened = subst (λ (z : Part I O). OpenedFor ot z signal) is opened;
        gone = gone;
        left_are = refl;
        forms = forms;
        moves = λ small. flagged_go signal keys dropped old.legs.items new.legs.items gone o.tells small moves;
        steps = λ config h for new_keys. (
          ap (λ (m : ℕ). max now m) for.moment,
          steps config h keys dropped for o.tells
              (can_come_again config old o.history h signal call keys dropped
              (subst (λ (k : Config). CellFor k old o.history) (at config h for) o.stands) for
              (subst (λ (k : Config). CanCome k (since_end o.history) signal call keys dropped) (at config h for) o.comes) new_keys),
        );
      })

  pub commit_relates : (x : Part I O) (old new : cell.Cell O) (signal : List SectionSignal) (contexts now : ℕ) (gone : List (Lease × O × O)) (number : ℕ)
      → x ≡ part.Cell old → TakesAnswer x signal contexts → (IsSmall (cell_leg_shapes old.legs.items) → cell_shape new ≡ answered_shape signal (cell_shape old))
      → (IsSmall (cell_leg_shapes old.legs.items) → LegsGo (λ leg. is_rejected signal leg.section) [] old.legs.items new.legs.items gone)
      → FormsStay [] old.legs.items new.legs.items gone
      → ((config : Config) (h : List CellEntry) → CellFor config old h → NamesKeys (since_end h) signal → CellCommits config old new h signal now gone)
      → Relates it ic ot oc x (leaving number now (max now (moment_of_cell x)) (Cell (Commit signal)) (gone_left ot gone)) (part.Cell new)
  commit_relates x old new signal contexts now gone number is takes shape moves forms steps =
      let a = answer_of x old signal contexts is takes in
      subst (λ (z : Part I O). Relates it ic ot oc z (leaving number now (max now (moment_of_cell z)) (Cell (Commit signal)) (gone_left ot gone)) (part.Cell new)) (sym is)
      (record {
        shape = shape (is_small a.config old a.history a.stands);
        gone = gone;
        left_are = refl;
        moves = moves;
        forms = forms;
        steps = λ config h for. (
          ap (λ (m : ℕ). max now m) for.moment,
          steps config h for
              (names_keys_again config old a.history h signal (subst (λ (k : Config). CellFor k old a.history) (sym a.stands.config_is ∙ for.config_is) a.stands) for a.names),
        );
      })

  -- the step tells the legs of what was prepared
  pub relates_brought : (x y : Part I O) (number moment last call : ℕ) (log signal : prepared.Prepare O) (left : Left) → log ≡ signal
      → Relates it ic ot oc x (leaving number moment last (Cell (brings call signal)) left) y
      → Relates it ic ot oc x (leaving number moment last (Cell (brings call log)) left) y
  relates_brought x y number moment last call log signal left same steps =
      subst (λ (s : prepared.Prepare O). Relates it ic ot oc x (leaving number moment last (Cell (brings call s)) left) y) (sym same) steps

module _ {M I O T : Type 0} {g : _} (it : I → EndLog InCall) (ic : I → ℕ) (ot : O → EndLog OutCall) (oc : O → ℕ) where
  pub prepares_by : (config : Config) (hand : Hand M (Part I O) Made T g) (place n : ℕ) (signal : prepared.Prepare O) (call : ℕ) (keys : List NewKey)
      (dropped : List ℕ) (now : ℕ) (x y : Part I O) (gone : List (Lease × O × O))
      → Gives it ic ot oc hand place n x × CellIs config x (nested_of (cell_history (made_by hand) place n))
      → CanCome config (since_end (cell_history (made_by hand) place n)) signal call keys dropped → PreparesPart x y signal call keys dropped now gone
      → Prepares it ic ot oc config hand place signal call keys dropped now gone
  prepares_by config hand place n signal call keys dropped now (part.Cell old) (part.Cell new) gone is comes does = record {
    old = old;
    new = new;
    history = is.1.0;
    was = record { number = n; given = is.0; nested_is = is.1.1; stands = is.1.2 };
    prepares = does config is.1.0 is.1.2
        (can_come_kept config (cell_history (made_by hand) place n) is.1.0 signal call keys dropped
        (same_lasting (cell_history (made_by hand) place n) is.1.0 (sym is.1.1)) comes);
  }
  prepares_by config hand place n signal call keys dropped now (part.Board b) y gone is comes does = absurd does
  prepares_by config hand place n signal call keys dropped now (part.Pair b) y gone is comes does = absurd does
  prepares_by config hand place n signal call keys dropped now (part.Cell old) (part.Board b) gone is comes does = absurd does
  prepares_by config hand place n signal call keys dropped now (part.Cell old) (part.Pair b) gone is comes does = absurd does

  pub commits_by : (config : Config) (hand : Hand M (Part I O) Made T g) (place n : ℕ) (signal : List SectionSignal) (now : ℕ) (x y : Part I O)
      (gone : List (Lease × O × O)) → Gives it ic ot oc hand place n x × CellIs config x (nested_of (cell_history (made_by hand) place n))
      → NamesKeys (since_end (cell_history (made_by hand) place n)) signal → CommitsPart x y signal now gone
      → Commits it ic ot oc config hand place signal now gone
  commits_by config hand place n signal now (part.Cell old) (part.Cell new) gone is names does = record {
    old = old;
    new = new;
    history = is.1.0;
    was = record { number = n; given = is.0; nested_is = is.1.1; stands = is.1.2 };
    commits = does config is.1.0 is.1.2
        (names_keys_kept (cell_history (made_by hand) place n) is.1.0 signal (same_lasting (cell_history (made_by hand) place n) is.1.0 (sym is.1.1)) names);
  }
  commits_by config hand place n signal now (part.Board b) y gone is names does = absurd does
  commits_by config hand place n signal now (part.Pair b) y gone is names does = absurd does
  commits_by config hand place n signal now (part.Cell old) (part.Board b) gone is names does = absurd does
  commits_by config hand place n signal now (part.Cell old) (part.Pair b) gone is names does = absurd does

module _ {M S T O : Type 0} {g : _} where
  -- the step tells the legs of what was prepared
  pub tells_brought : (place n number moment last call : ℕ) (log signal : prepared.Prepare O) (left : Left) (outcome : T) (old new : Hand M S Made T g)
      → log ≡ signal → EndsTurn place n (leaving number moment last (Cell (brings call log)) left) outcome old new
      → EndsTurn place n (leaving number moment last (Cell (brings call signal)) left) outcome old new
  tells_brought place n number moment last call log signal left outcome old new same ended =
      subst (λ (s : prepared.Prepare O). EndsTurn place n (leaving number moment last (Cell (brings call s)) left) outcome old new) same ended

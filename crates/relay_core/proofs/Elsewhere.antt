-- What a board entry owes is nested, at the place of a cell or of a box.
use Rattle.std.proofs.Common.{◌≡◌, sym, subst, refl, ℕ, ◌⊎◌, inl, inr, List, [], ◌∷◌, Bool, true, false, cond, Option, Some, None, map, arith}
use Rattle.std.specs.Prelude.{Result, Ok, Err}
use Rattle.relay_outside.specs.declared.settings.Config.{Config}
use Rattle.ng_command.specs.Meanings.{Said, Ping, Offer, Answer, Delete, Query, Listing}
use Rattle.ng_reply.specs.declared.code.ErrorCode.{ErrorCode}
use Rattle.histories.specs.Words.{In, here, there, has}
use Rattle.histories.proofs.Lists.{in_append, mapped, spread}
use Rattle.port_pool.specs.declared.reports.LegReport.{LegReport}
use Rattle.call_cell.specs.Cells.{CellEvent, Prepare, Commit, Expire, Read, End}
use Rattle.call_board.specs.Acts as act
use Rattle.call_board.specs.Acts.{Call, Act, Control, BoardEvent, Turn, Tick, Stop, BoardEntry}
use Rattle.call_board.specs.Calls.{live, find_call, is_due_at}
use Rattle.call_board.specs.Pairs.{closed_of}
use Rattle.call_board.specs.Requests.{asked}
use Rattle.call_board.specs.Fits.{FitsBoard, IsFitting}
use Rattle.call_board.proofs.Told.{IsQuery, IsDelete}
use Rattle.call_board.proofs.Tells.{tells_of, answer_told}
use Rattle.call_board.proofs.Calls.{found_live, offered_live}
use Rattle.call_board.proofs.Cells.{live_cell}
use Rattle.relay_core.specs.Entries.{is_nested, is_nested_cell}
use Rattle.relay_core.specs.Legal.{StandsAt}
use Rattle.relay_core.specs.Scripts.{Owed, open_owed, closing, in_cell, closings, ending, asking, expiring, reading, reading_out_of_memory, script_of_act, script}

-- a nested event, at the place of a cell or of a box
abbrev pub IsElsewhere : Config → Owed → Type 0
IsElsewhere config w = (is_nested w.event ≡ true) × (w.place ≡ 0 → ⊥) × StandsAt config w.place w.event

at_cell : (config : Config) (h : List BoardEntry) (c : Call) (v : CellEvent) → IsFitting config h → In c (live h) → is_nested_cell v ≡ true → IsElsewhere config (in_cell c v)
at_cell config h c v good i nested = (nested, λ q. let k = (live_cell config h c good i).0 in omega (arith, k, q), live_cell config h c good i)

at_closings : (config : Config) (h : List BoardEntry) (e : BoardEntry) (c : Call) (w : Owed) → In w (closings config h e c) → IsElsewhere config w
at_closings config h e c w i =
    let m = mapped (closing config) (closed_of h e c) i in subst (IsElsewhere config) m.makes (refl, λ q. omega (arith, q), omega arith)

at_ending : (config : Config) (h : List BoardEntry) (e : BoardEntry) (c : Call) (w : Owed) → IsFitting config h → In c (live h)
    → In w (ending config h e c) → IsElsewhere config w
at_ending config h e c w good i (here p) = subst (IsElsewhere config) (sym p) (at_cell config h c End good i refl)
at_ending config h e c w good i (there j) = at_closings config h e c w j

at_reading : (config : Config) (h : List BoardEntry) (o : Option Call) (all_reports : Option (List LegReport)) (w : Owed) → IsFitting config h
    → ((c : Call) → o ≡ Some c → In c (live h)) → In w (reading o all_reports) → IsElsewhere config w
at_reading config h None all_reports w good alive i = elim i [ ]
at_reading config h (Some c) None w good alive i = elim i [ ]
at_reading config h (Some c) (Some all_reports) w good alive (here p) = subst (IsElsewhere config) (sym p) (at_cell config h c (Read all_reports) good (alive c refl) refl)
at_reading config h (Some c) (Some all_reports) w good alive (there j) = elim j [ ]

at_out_of_memory : (config : Config) (h : List BoardEntry) (c : Control) (r : Result Said ErrorCode) (w : Owed) → IsFitting config h
    → In w (reading_out_of_memory h c r) → IsElsewhere config w
at_out_of_memory config h c (Ok (Query id)) w good i = at_reading config h (find_call h id) c.given.report w good (λ d q. found_live h id d q) i
at_out_of_memory config h c (Ok Ping) w good i = elim i [ ]
at_out_of_memory config h c (Ok (Offer id from sdp options)) w good i = elim i [ ]
at_out_of_memory config h c (Ok (Answer id from to sdp options)) w good i = elim i [ ]
at_out_of_memory config h c (Ok (Delete id from fatal seconds)) w good i = elim i [ ]
at_out_of_memory config h c (Ok (Listing limit)) w good i = elim i [ ]
at_out_of_memory config h c (Err code) w good i = elim i [ ]

at_offer : (config : Config) (h : List BoardEntry) (e : BoardEntry) (o : act.Offer) (w : Owed) → IsFitting config h → FitsBoard config h e
    → act.act e ≡ act.Offered o
    → In w (map (open_owed config) o.legs) ⊎ In w (in_cell o.of (Prepare o.of.number o.legs o.keys o.dropped) ∷ closings config h e o.of) → IsElsewhere config w
at_offer config h e o w good fits q (inl i) =
    let m = mapped (open_owed config) o.legs i in subst (IsElsewhere config) m.makes (refl, λ p. omega (arith, p), omega arith)
at_offer config h e o w good fits q (inr (here p)) =
    subst (IsElsewhere config) (sym p) (at_cell config (e ∷ h) o.of (Prepare o.of.number o.legs o.keys o.dropped) (fits, good) (offered_live config h e o good fits q) refl)
at_offer config h e o w good fits q (inr (there j)) = at_closings config h e o.of w j

abbrev turn : ℕ → Control → BoardEntry
turn moment c = record { moment = moment; event = Turn c }

at_act : (config : Config) (h : List BoardEntry) (moment : ℕ) (c : Control) (w : Owed) → IsFitting config h → FitsBoard config h (turn moment c)
    → (a : Act) → c.act ≡ a → In w (script_of_act config h (turn moment c) c a) → IsElsewhere config w
at_act config h moment c w good fits act.Repeated q i = elim i [ ]
at_act config h moment c w good fits act.OutOfMemory q i = at_out_of_memory config h c (asked config c.too_long c.pairs) w good i
at_act config h moment c w good fits (act.Failed code) q i = elim i [ ]
at_act config h moment c w good fits (act.Undone code leases draws) q i = elim i [ ]
at_act config h moment c w good fits (act.Offered o) q i =
    at_offer config h (turn moment c) o w good fits q
    (in_append (map (open_owed config) o.legs) (in_cell o.of (Prepare o.of.number o.legs o.keys o.dropped) ∷ closings config h (turn moment c) o.of) i)
at_act config h moment c w good fits (act.Answered a) q (here p) =
    subst (IsElsewhere config) (sym p) (at_cell config h a.of (Commit a.signal) good (answer_told config h (turn moment c) a fits q).is_live refl)
at_act config h moment c w good fits (act.Answered a) q (there i) = at_closings config h (turn moment c) a.of w i
at_act config h moment c w good fits (act.Deleted of) q i =
    let shown : IsDelete h (turn moment c) of = tells_of config h (turn moment c) (act.Deleted of) fits q in
    at_ending config h (turn moment c) of w good shown.is_live i
at_act config h moment c w good fits (act.Queried of) q i =
    let shown : IsQuery h (turn moment c) of = tells_of config h (turn moment c) (act.Queried of) fits q in
    at_reading config h (Some of) c.given.report w good (λ d p. subst (λ x. In x (live h)) (let k = p in cc) shown.is_live) i
at_act config h moment c w good fits act.Told q i = elim i [ ]
at_act config h moment c w good fits (act.Delayed of s) q i = elim i [ ]

at_timeout : (config : Config) (h : List BoardEntry) (e : BoardEntry) (c : Call) (w : Owed) → IsFitting config h → In c (live h) → (timed_out : Bool)
    → In w (cond timed_out (ending config h e c) []) → IsElsewhere config w
at_timeout config h e c w good i false j = elim j [ ]
at_timeout config h e c w good i true j = at_ending config h e c w good i j

at_asking : (config : Config) (h : List BoardEntry) (e : BoardEntry) (c : Call) (w : Owed) → IsFitting config h → In c (live h) → (timed_out : Bool)
    → In w (asking config h e c timed_out) → IsElsewhere config w
at_asking config h e c w good i timed_out (here p) = subst (IsElsewhere config) (sym p) (at_cell config h c (Expire timed_out) good i refl)
at_asking config h e c w good i timed_out (there j) = at_timeout config h e c w good i timed_out j

at_expiring : (config : Config) (h : List BoardEntry) (e : BoardEntry) (c : Call) (w : Owed) → IsFitting config h → In c (live h) → (timed_out due : Bool)
    → In w (cond due (ending config h e c) (asking config h e c timed_out)) → IsElsewhere config w
at_expiring config h e c w good i timed_out true j = at_ending config h e c w good i j
at_expiring config h e c w good i timed_out false j = at_asking config h e c w good i timed_out j

at_event : (config : Config) (h : List BoardEntry) (moment : ℕ) (v : BoardEvent) (w : Owed) → IsFitting config h
    → FitsBoard config h (record { moment = moment; event = v }) → In w (script config h (record { moment = moment; event = v })) → IsElsewhere config w
at_event config h moment (Turn c) w good fits i = at_act config h moment c w good fits c.act refl i
at_event config h moment (Tick calls) w good fits i =
    let m = spread (expiring config h (record { moment = moment; event = Tick calls }) calls) (live h) i in
    at_expiring config h (record { moment = moment; event = Tick calls }) m.from w good m.is_in
    (has (map (λ (d : Call). d.number) calls) m.from.number) (is_due_at h m.from.number moment) m.has_it
at_event config h moment (Stop calls) w good fits i =
    let m = spread (ending config h (record { moment = moment; event = Stop calls })) calls i in
    at_ending config h (record { moment = moment; event = Stop calls }) m.from w good (subst (λ cs. In m.from cs) fits m.is_in) m.has_it

pub owed_elsewhere : (config : Config) (h : List BoardEntry) (e : BoardEntry) (w : Owed) → IsFitting config h → FitsBoard config h e
    → In w (script config h e) → IsElsewhere config w
owed_elsewhere config h e w good fits i = at_event config h e.moment e.event w good fits i

-- What a board entry owes, by cases, and the nested entries that meet it.
use Rattle.std.proofs.Common.{◌≡◌, sym, subst, refl, ℕ, ◌⊎◌, inl, inr, List, [], ◌∷◌, Bool, true, false, cond, Option, Some, None, map, filter, ◌==◌}
use Rattle.std.specs.Prelude.{Result, Ok, Err}
use Rattle.relay_outside.specs.declared.settings.Config.{Config}
use Rattle.ng_command.specs.Meanings.{Said, Ping, Offer, Answer, Delete, Query, Listing}
use Rattle.ng_reply.specs.declared.code.ErrorCode.{ErrorCode}
use Rattle.histories.specs.Words.{In, here, there, has}
use Rattle.histories.proofs.Lists.{in_append, in_left, in_right, filtered, keeps, mapped, maps, spread, spreads, equal, equal_if}
use Rattle.port_pool.specs.declared.holder.Holder.{Holder}
use Rattle.port_pool.specs.declared.reports.LegReport.{LegReport}
use Rattle.call_cell.specs.Cells.{Prepare, Commit, Expire, Read, End}
use Rattle.call_board.specs.Acts as act
use Rattle.call_board.specs.Acts.{Call, Act, Control, BoardEvent, Turn, Tick, Stop, BoardEntry}
use Rattle.call_board.specs.Calls.{live, ended_by_act, ended_by, find_call, is_due_at}
use Rattle.call_board.specs.Pairs.{signalled_by, calls_in, closed_of}
use Rattle.call_board.specs.Requests.{asked}
use Rattle.call_board.specs.Fits.{FitsBoard, named_live, AreNamedWhenDue}
use Rattle.relay_core.specs.Entries.{Entry, is_nested, belongs_to, board_entry, board_history}
use Rattle.relay_core.specs.Scripts.{Owed, owed_by, open_owed, closing, in_cell, closings, ending, asking, expiring, reading, reading_out_of_memory, script_of_act, script}
use Rattle.relay_core.specs.Legal.{Orderly}
use Rattle.relay_core.proofs.Histories.{both, and_true}

-- what an owed event is, and of what it comes
pub data IsOwed (config : Config) (h : List BoardEntry) (e : BoardEntry) (w : Owed) : Type 0 where
  opens : (o : act.Offer) (leg : Holder) → act.act e ≡ act.Offered o → In leg o.legs → w ≡ open_owed config leg → IsOwed config h e w
  prepares : (o : act.Offer) → act.act e ≡ act.Offered o → w ≡ in_cell o.of (Prepare o.of.number o.legs o.keys o.dropped) → IsOwed config h e w
  commits : (a : act.Answer) → act.act e ≡ act.Answered a → w ≡ in_cell a.of (Commit a.signal) → IsOwed config h e w
  closes : (c : Call) (leg : Holder) → In c (calls_in e) → In leg (closed_of h e c) → w ≡ closing config leg → IsOwed config h e w
  ends : (c : Call) → In c (ended_by e) → w ≡ in_cell c End → IsOwed config h e w
  expires : (c : Call) (due : Bool) → In c (live h) → w ≡ in_cell c (Expire due) → IsOwed config h e w
  reads : (c : Call) (all_reports : List LegReport) → w ≡ in_cell c (Read all_reports) → IsOwed config h e w

-- Inversion.

owed_closing : (config : Config) (h : List BoardEntry) (e : BoardEntry) (c : Call) (w : Owed) → In c (calls_in e)
    → In w (closings config h e c) → IsOwed config h e w
owed_closing config h e c w j i =
    let m = mapped (closing config) (closed_of h e c) i in
    closes c m.from j m.is_in (sym m.makes)

owed_ending : (config : Config) (h : List BoardEntry) (e : BoardEntry) (c : Call) (w : Owed) → In c (ended_by e)
    → In w (ending config h e c) → IsOwed config h e w
owed_ending config h e c w j (here q) = ends c j q
owed_ending config h e c w j (there i) = owed_closing config h e c w (in_right (signalled_by (act.act e)) (ended_by e) j) i

owed_read : (config : Config) (h : List BoardEntry) (e : BoardEntry) (o : Option Call) (all_reports : Option (List LegReport)) (w : Owed)
    → In w (reading o all_reports) → IsOwed config h e w
owed_read config h e None all_reports w i = elim i [ ]
owed_read config h e (Some c) None w i = elim i [ ]
owed_read config h e (Some c) (Some all_reports) w (here q) = reads c all_reports q
owed_read config h e (Some c) (Some all_reports) w (there i) = elim i [ ]

owed_out_of_memory : (config : Config) (h : List BoardEntry) (e : BoardEntry) (c : Control) (r : Result Said ErrorCode) (w : Owed)
    → In w (reading_out_of_memory h c r) → IsOwed config h e w
owed_out_of_memory config h e c (Ok (Query id)) w i = owed_read config h e (find_call h id) c.given.report w i
owed_out_of_memory config h e c (Ok Ping) w i = elim i [ ]
owed_out_of_memory config h e c (Ok (Offer id from sdp options)) w i = elim i [ ]
owed_out_of_memory config h e c (Ok (Answer id from to sdp options)) w i = elim i [ ]
owed_out_of_memory config h e c (Ok (Delete id from fatal seconds)) w i = elim i [ ]
owed_out_of_memory config h e c (Ok (Listing limit)) w i = elim i [ ]
owed_out_of_memory config h e c (Err code) w i = elim i [ ]

owed_offer : (config : Config) (h : List BoardEntry) (e : BoardEntry) (o : act.Offer) (w : Owed) → act.act e ≡ act.Offered o
    → In w (map (open_owed config) o.legs) ⊎ In w (in_cell o.of (Prepare o.of.number o.legs o.keys o.dropped) ∷ closings config h e o.of)
    → In o.of (calls_in e) → IsOwed config h e w
owed_offer config h e o w q (inl i) j =
    let m = mapped (open_owed config) o.legs i in opens o m.from q m.is_in (sym m.makes)
owed_offer config h e o w q (inr (here p)) j = prepares o q p
owed_offer config h e o w q (inr (there i)) j = owed_closing config h e o.of w j i

abbrev turn : ℕ → Control → BoardEntry
turn moment c = record { moment = moment; event = Turn c }

-- the call of an accepted offer or answer is among those of which the entry may close legs
signals : (e : BoardEntry) (of : Call) (a : Act) → act.act e ≡ a → In of (signalled_by a) → In of (calls_in e)
signals e of a q i = in_left (signalled_by (act.act e)) (ended_by e) (subst (λ b. In of (signalled_by b)) (sym q) i)

owed_act : (config : Config) (h : List BoardEntry) (moment : ℕ) (c : Control) (w : Owed) (a : Act) → c.act ≡ a
    → In w (script_of_act config h (turn moment c) c a) → IsOwed config h (turn moment c) w
owed_act config h moment c w act.Repeated q i = elim i [ ]
owed_act config h moment c w act.OutOfMemory q i = owed_out_of_memory config h (turn moment c) c (asked config c.too_long c.pairs) w i
owed_act config h moment c w (act.Failed code) q i = elim i [ ]
owed_act config h moment c w (act.Undone code leases draws) q i = elim i [ ]
owed_act config h moment c w (act.Offered o) q i =
    owed_offer config h (turn moment c) o w q
    (in_append (map (open_owed config) o.legs) (in_cell o.of (Prepare o.of.number o.legs o.keys o.dropped) ∷ closings config h (turn moment c) o.of) i)
    (signals (turn moment c) o.of (act.Offered o) q (here refl))
owed_act config h moment c w (act.Answered a) q (here p) = commits a q p
owed_act config h moment c w (act.Answered a) q (there i) =
    owed_closing config h (turn moment c) a.of w (signals (turn moment c) a.of (act.Answered a) q (here refl)) i
owed_act config h moment c w (act.Deleted of) q i =
    owed_ending config h (turn moment c) of w (subst (λ b. In of (ended_by_act b)) (sym q) (here refl)) i
owed_act config h moment c w (act.Queried of) q i = owed_read config h (turn moment c) (Some of) c.given.report w i
owed_act config h moment c w act.Told q i = elim i [ ]
owed_act config h moment c w (act.Delayed of s) q i = elim i [ ]

abbrev tick : ℕ → List Call → BoardEntry
tick moment calls = record { moment = moment; event = Tick calls }

-- a live call that a tick names is among those that it ends
named_in : (h : List BoardEntry) (calls : List Call) (c : Call) → calls ≡ named_live h calls → In c (live h)
    → has (map (λ d. d.number) calls) c.number ≡ true → In c calls
named_in h calls c names j q =
    subst (λ cs. In c cs) (sym names) (keeps (λ d. has (map (λ x. x.number) calls) d.number) (live h) j q)

-- and so is each one that is due
due_is_named : (h : List BoardEntry) (now : ℕ) (named : List ℕ) (calls : List Call) (c : Call) → AreNamedWhenDue h now named calls → In c calls
    → is_due_at h c.number now ≡ true → has named c.number ≡ true
due_is_named h now named [] c when i due = elim i [ ]
due_is_named h now named (d ∷ calls) c when (here q) due =
    subst (λ (x : Call). has named x.number ≡ true) (sym q) (when.0 (subst (λ (x : Call). is_due_at h x.number now ≡ true) q due))
due_is_named h now named (d ∷ calls) c when (there i) due = due_is_named h now named calls c when.1 i due

owed_timed_out : (config : Config) (h : List BoardEntry) (moment : ℕ) (calls : List Call) (c : Call) (w : Owed)
    → calls ≡ named_live h calls → In c (live h) → (timed_out : Bool) → has (map (λ d. d.number) calls) c.number ≡ timed_out
    → In w (cond timed_out (ending config h (tick moment calls) c) []) → IsOwed config h (tick moment calls) w
owed_timed_out config h moment calls c w names j false q i = elim i [ ]
owed_timed_out config h moment calls c w names j true q i = owed_ending config h (tick moment calls) c w (named_in h calls c names j q) i

owed_asked : (config : Config) (h : List BoardEntry) (moment : ℕ) (calls : List Call) (c : Call) (w : Owed)
    → calls ≡ named_live h calls → In c (live h)
    → In w (asking config h (tick moment calls) c (has (map (λ d. d.number) calls) c.number)) → IsOwed config h (tick moment calls) w
owed_asked config h moment calls c w names j (here q) = expires c (has (map (λ d. d.number) calls) c.number) j q
owed_asked config h moment calls c w names j (there i) =
    owed_timed_out config h moment calls c w names j (has (map (λ d. d.number) calls) c.number) refl i

owed_tick : (config : Config) (h : List BoardEntry) (moment : ℕ) (calls : List Call) (c : Call) (w : Owed)
    → FitsBoard config h (tick moment calls) → In c (live h) → (due : Bool) → is_due_at h c.number moment ≡ due
    → In w (cond due (ending config h (tick moment calls) c) (asking config h (tick moment calls) c (has (map (λ d. d.number) calls) c.number)))
    → IsOwed config h (tick moment calls) w
owed_tick config h moment calls c w fits j true q i =
    owed_ending config h (tick moment calls) c w
    (named_in h calls c fits.0 j (due_is_named h moment (map (λ d. d.number) calls) (live h) c fits.1 j q)) i
owed_tick config h moment calls c w fits j false q i = owed_asked config h moment calls c w fits.0 j i

owed_of : (config : Config) (h : List BoardEntry) (moment : ℕ) (v : BoardEvent) (w : Owed)
    → FitsBoard config h (record { moment = moment; event = v }) → In w (script config h (record { moment = moment; event = v }))
    → IsOwed config h (record { moment = moment; event = v }) w
owed_of config h moment (Turn c) w fits i = owed_act config h moment c w c.act refl i
owed_of config h moment (Tick calls) w fits i =
    let m = spread (expiring config h (tick moment calls) calls) (live h) i in
    owed_tick config h moment calls m.from w fits m.is_in (is_due_at h m.from.number moment) refl m.has_it
owed_of config h moment (Stop calls) w fits i =
    let m = spread (ending config h (record { moment = moment; event = Stop calls })) calls i in
    owed_ending config h (record { moment = moment; event = Stop calls }) m.from w m.is_in m.has_it

-- each event of a script comes so
pub owed : (config : Config) (h : List BoardEntry) (e : BoardEntry) (w : Owed) → FitsBoard config h e
    → In w (script config h e) → IsOwed config h e w
owed config h e w fits i = owed_of config h e.moment e.event w fits i

-- The other way round.

by_act : (config : Config) (h : List BoardEntry) (moment : ℕ) (v : BoardEvent) (w : Owed) (a : Act) → act.act_in v ≡ a
    → (a ≡ act.Told → ⊥)
    → ((c : Control) → v ≡ Turn c → In w (script_of_act config h (record { moment = moment; event = v }) c a))
    → In w (script config h (record { moment = moment; event = v }))
by_act config h moment (Turn c) w a q log f = subst (λ b. In w (script_of_act config h (turn moment c) c b)) (sym q) (f c refl)
by_act config h moment (Tick calls) w a q log f = absurd (log (sym q))
by_act config h moment (Stop calls) w a q log f = absurd (log (sym q))

-- an accepted offer owes an opening for each new leg, and a Prepare
pub has_opening : (config : Config) (h : List BoardEntry) (e : BoardEntry) (o : act.Offer) (leg : Holder) → act.act e ≡ act.Offered o → In leg o.legs
    → In (open_owed config leg) (script config h e)
has_opening config h e o leg q i =
    by_act config h e.moment e.event (open_owed config leg) (act.Offered o) q (λ t. let k = t in cc)
    (λ c v. in_left (map (open_owed config) o.legs) (in_cell o.of (Prepare o.of.number o.legs o.keys o.dropped) ∷ closings config h e o.of) (maps (open_owed config) o.legs i))

pub has_prepare : (config : Config) (h : List BoardEntry) (e : BoardEntry) (o : act.Offer) → act.act e ≡ act.Offered o
    → In (in_cell o.of (Prepare o.of.number o.legs o.keys o.dropped)) (script config h e)
has_prepare config h e o q =
    by_act config h e.moment e.event (in_cell o.of (Prepare o.of.number o.legs o.keys o.dropped)) (act.Offered o) q (λ t. let k = t in cc)
    (λ c v. in_right (map (open_owed config) o.legs) (in_cell o.of (Prepare o.of.number o.legs o.keys o.dropped) ∷ closings config h e o.of) (here refl))

-- an accepted answer owes a Commit
pub has_commit : (config : Config) (h : List BoardEntry) (e : BoardEntry) (a : act.Answer) → act.act e ≡ act.Answered a
    → In (in_cell a.of (Commit a.signal)) (script config h e)
has_commit config h e a q =
    by_act config h e.moment e.event (in_cell a.of (Commit a.signal)) (act.Answered a) q (λ t. let k = t in cc) (λ c v. here refl)

-- an entry owes the End of each call that it ends, and the closes of that call's legs
ending_act : (config : Config) (h : List BoardEntry) (moment : ℕ) (c : Control) (of : Call) (w : Owed) (a : Act) → c.act ≡ a
    → In of (ended_by_act a) → In w (ending config h (turn moment c) of) → In w (script_of_act config h (turn moment c) c a)
ending_act config h moment c of w (act.Deleted d) q (here p) i = subst (λ x. In w (ending config h (turn moment c) x)) p i
ending_act config h moment c of w (act.Deleted d) q (there j) i = elim j [ ]
ending_act config h moment c of w act.Repeated q j i = elim j [ ]
ending_act config h moment c of w act.OutOfMemory q j i = elim j [ ]
ending_act config h moment c of w (act.Failed code) q j i = elim j [ ]
ending_act config h moment c of w (act.Undone code leases draws) q j i = elim j [ ]
ending_act config h moment c of w (act.Offered o) q j i = elim j [ ]
ending_act config h moment c of w (act.Answered o) q j i = elim j [ ]
ending_act config h moment c of w (act.Queried o) q j i = elim j [ ]
ending_act config h moment c of w act.Told q j i = elim j [ ]
ending_act config h moment c of w (act.Delayed d s) q j i = elim j [ ]

-- a tick ends a call that it names, whether that is due or has timed out
ending_named : (config : Config) (h : List BoardEntry) (e : BoardEntry) (c : Call) (w : Owed) (named due : Bool) → named ≡ true
    → In w (ending config h e c) → In w (cond due (ending config h e c) (asking config h e c named))
ending_named config h e c w named true q i = i
ending_named config h e c w true false q i = there i
ending_named config h e c w false false q i = absurd (let k = q in cc)

ending_of : (config : Config) (h : List BoardEntry) (moment : ℕ) (v : BoardEvent) (of : Call) (w : Owed)
    → FitsBoard config h (record { moment = moment; event = v }) → In of (ended_by (record { moment = moment; event = v }))
    → In w (ending config h (record { moment = moment; event = v }) of) → In w (script config h (record { moment = moment; event = v }))
ending_of config h moment (Turn c) of w fits j i = ending_act config h moment c of w c.act refl j i
ending_of config h moment (Tick calls) of w fits j i =
    let f = filtered (λ d. has (map (λ x. x.number) calls) d.number) (live h) (subst (λ cs. In of cs) fits.0 j) in
    spreads (expiring config h (tick moment calls) calls) (live h) f.0
    (ending_named config h (tick moment calls) of w (has (map (λ d. d.number) calls) of.number) (is_due_at h of.number moment) f.1 i)
ending_of config h moment (Stop calls) of w fits j i = spreads (ending config h (record { moment = moment; event = Stop calls })) calls j i

pub has_ending : (config : Config) (h : List BoardEntry) (e : BoardEntry) (of : Call) (w : Owed) → FitsBoard config h e
    → In of (ended_by e) → In w (ending config h e of) → In w (script config h e)
has_ending config h e of w fits j i = ending_of config h e.moment e.event of w fits j i

pub has_end : (config : Config) (h : List BoardEntry) (e : BoardEntry) (of : Call) → FitsBoard config h e
    → In of (ended_by e) → In (in_cell of End) (script config h e)
has_end config h e of fits j = has_ending config h e of (in_cell of End) fits j (here refl)

signalled_closing : (config : Config) (h : List BoardEntry) (e : BoardEntry) (leg : Holder) (c : Call) (a : Act) → act.act e ≡ a
    → In c (signalled_by a) → In leg (closed_of h e c) → In (closing config leg) (script config h e)
signalled_closing config h e leg c (act.Offered o) q (here p) i =
    by_act config h e.moment e.event (closing config leg) (act.Offered o) q (λ t. let k = t in cc)
    (λ d v. in_right (map (open_owed config) o.legs) (in_cell o.of (Prepare o.of.number o.legs o.keys o.dropped) ∷ closings config h e o.of)
    (there (maps (closing config) (closed_of h e o.of) (subst (λ x. In leg (closed_of h e x)) p i))))
signalled_closing config h e leg c (act.Offered o) q (there j) i = elim j [ ]
signalled_closing config h e leg c (act.Answered a) q (here p) i =
    by_act config h e.moment e.event (closing config leg) (act.Answered a) q (λ t. let k = t in cc)
    (λ d v. there (maps (closing config) (closed_of h e a.of) (subst (λ x. In leg (closed_of h e x)) p i)))
signalled_closing config h e leg c (act.Answered a) q (there j) i = elim j [ ]
signalled_closing config h e leg c act.Repeated q j i = elim j [ ]
signalled_closing config h e leg c act.OutOfMemory q j i = elim j [ ]
signalled_closing config h e leg c (act.Failed code) q j i = elim j [ ]
signalled_closing config h e leg c (act.Undone code leases draws) q j i = elim j [ ]
signalled_closing config h e leg c (act.Deleted d) q j i = elim j [ ]
signalled_closing config h e leg c (act.Queried d) q j i = elim j [ ]
signalled_closing config h e leg c act.Told q j i = elim j [ ]
signalled_closing config h e leg c (act.Delayed of s) q j i = elim j [ ]

closing_case : (config : Config) (h : List BoardEntry) (e : BoardEntry) (leg : Holder) (c : Call) → FitsBoard config h e
    → In c (signalled_by (act.act e)) ⊎ In c (ended_by e) → In leg (closed_of h e c) → In (closing config leg) (script config h e)
closing_case config h e leg c fits (inl j) i = signalled_closing config h e leg c (act.act e) refl j i
closing_case config h e leg c fits (inr j) i =
    has_ending config h e c (closing config leg) fits j (there (maps (closing config) (closed_of h e c) i))

-- an entry owes the close of each leg that it closes
pub has_closing : (config : Config) (h : List BoardEntry) (e : BoardEntry) (leg : Holder) (c : Call) → FitsBoard config h e
    → In c (calls_in e) → In leg (closed_of h e c) → In (closing config leg) (script config h e)
has_closing config h e leg c fits j i =
    closing_case config h e leg c fits (in_append (signalled_by (act.act e)) (ended_by e) j) i

-- The entries.

-- the board entry that a nested entry belongs to, and that its script has the nested one
pub record IsNestedIn (config : Config) (l : List Entry) (e : Entry) : Type 0 where
  pub board : Entry
  pub entry : BoardEntry
  pub is_in : In board l
  pub at_board : board.place ≡ 0
  pub number_is : board.number ≡ e.board
  pub is : board_entry board ≡ Some entry
  pub fits : FitsBoard config (board_history l board.number) entry
  pub is_owed : In (owed_by e) (script config (board_history l board.number) entry)

pub nested_in : (config : Config) (l : List Entry) → Orderly config l → (e : Entry) → In e l → is_nested e.event ≡ true → IsNestedIn config l e
nested_in config l o e i t =
    let b = o.nested e i t in
    record {
      board = b.0;
      entry = b.4.0;
      is_in = b.1;
      at_board = b.2;
      number_is = b.3;
      is = b.4.1;
      fits = (o.board_fits b.0 b.4.0 b.1 b.4.1).1;
      is_owed = subst (λ ws. In (owed_by e) ws) (o.scripted b.0 b.4.0 b.1 b.2 b.4.1)
          (maps owed_by (filter (belongs_to b.0.number) l)
          (keeps (belongs_to b.0.number) l i (and_true (is_nested e.event) (e.board == b.0.number) t (equal e.board b.0.number (sym b.3)))));
    }

-- each event of a script is that of an entry
pub record IsMade (l : List Entry) (b : Entry) (w : Owed) : Type 0 where
  pub entry : Entry
  pub is_in : In entry l
  pub nested : is_nested entry.event ≡ true
  pub board_is : entry.board ≡ b.number
  pub is : owed_by entry ≡ w

pub is_made : (config : Config) (l : List Entry) → Orderly config l → (b : Entry) (x : BoardEntry) → In b l → board_entry b ≡ Some x
    → (w : Owed) → In w (script config (board_history l b.number) x) → IsMade l b w
is_made config l o b x i q w j =
    let m = mapped owed_by (filter (belongs_to b.number) l) (subst (λ ws. In w ws) (sym (o.scripted b x i (o.board_fits b x i q).0 q)) j) in
    let f = filtered (belongs_to b.number) l m.is_in in
    let p = both (is_nested m.from.event) (m.from.board == b.number) f.1 in
    record { entry = m.from; is_in = f.0; nested = p.0; board_is = equal_if m.from.board b.number p.1; is = m.makes }

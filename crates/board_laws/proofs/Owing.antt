-- Turns that do the same, of which the devices returned the same, owe the same nested entries.
use Rattle.std.proofs.Common.{◌≡◌, ◌∙◌, ap, refl, ℕ, List, ◌∷◌, ◌++◌, map, Some, Result, Ok, Err}
use Rattle.relay_outside.specs.declared.settings.Config.{Config}
use Rattle.ng_command.specs.Meanings.{Said, Ping, Offer, Answer, Delete, Query, Listing}
use Rattle.ng_reply.specs.declared.code.ErrorCode.{ErrorCode}
use Rattle.call_cell.specs.Cells.{Prepare, Commit, End}
use Rattle.call_board.specs.Acts as act
use Rattle.call_board.specs.Acts.{Call, Act, Given, Control, BoardEntry}
use Rattle.call_board.specs.Requests.{asked}
use Rattle.call_board.specs.Calls.{find_call}
use Rattle.relay_core.specs.Scripts.{Owed, open_owed, in_cell, closings, reading, reading_out_of_memory, script_of_act, script}
use Rattle.board_laws.specs.Alike.{turn_entry}

module _ (config : Config) (h : List BoardEntry) (now : ℕ) (c d : Control) (given : c.given ≡ d.given) (same : c.act ≡ d.act) where
  -- what an entry closes follows from what it did
  closings_same : (of : Call) → closings config h (turn_entry now c) of ≡ closings config h (turn_entry now d) of
  closings_same of = ap (λ (a : Act). closings config h (turn_entry now (record c { act = a })) of) same

  reading_same : (r : Result Said ErrorCode) → reading_out_of_memory h c r ≡ reading_out_of_memory h d r
  reading_same (Ok (Query id)) = ap (λ (g : Given). reading (find_call h id) g.report) given
  reading_same (Ok Ping) = refl
  reading_same (Ok (Offer id from sdp options)) = refl
  reading_same (Ok (Answer id from to sdp options)) = refl
  reading_same (Ok (Delete id from fatal seconds)) = refl
  reading_same (Ok (Listing limit)) = refl
  reading_same (Err code) = refl

  by_act : asked config c.too_long c.pairs ≡ asked config d.too_long d.pairs → (a : Act) → script_of_act config h (turn_entry now c) c a ≡ script_of_act config h (turn_entry now d) d a
  by_act asks act.Repeated = refl
  by_act asks act.OutOfMemory = reading_same (asked config c.too_long c.pairs) ∙ ap (reading_out_of_memory h d) asks
  by_act asks (act.Failed code) = refl
  by_act asks (act.Undone code leases draws) = refl
  by_act asks (act.Offered o) =
      ap (λ (ws : List Owed). map (open_owed config) o.legs ++ in_cell o.of (Prepare o.of.number o.legs o.keys o.dropped) ∷ ws) (closings_same o.of)
  by_act asks (act.Answered a) = ap (λ (ws : List Owed). in_cell a.of (Commit a.signal) ∷ ws) (closings_same a.of)
  by_act asks (act.Deleted of) = ap (λ (ws : List Owed). in_cell of End ∷ ws) (closings_same of)
  by_act asks (act.Queried of) = ap (λ (g : Given). reading (Some of) g.report) given
  by_act asks act.Told = refl
  by_act asks (act.Delayed of s) = refl

  pub scripts_same : asked config c.too_long c.pairs ≡ asked config d.too_long d.pairs → script config h (turn_entry now c) ≡ script config h (turn_entry now d)
  scripts_same asks = by_act asks c.act ∙ ap (script_of_act config h (turn_entry now d) d) same

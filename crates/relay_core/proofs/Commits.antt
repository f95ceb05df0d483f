-- The Commits and the Ends of a list, and the board entries that they belong to.
use Rattle.std.proofs.Common.{◌≡◌, ◌∙◌, ap, refl, ℕ, List, true, Some}
use Rattle.relay_outside.specs.declared.settings.Config.{Config}
use Rattle.histories.specs.Words.{In}
use Rattle.port_pool.specs.declared.signal.SectionSignal.{SectionSignal}
use Rattle.call_cell.specs.Cells.{CellEvent, CellEntry, Prepare, Commit, Relay, Expire, Read, End, is_end}
use Rattle.call_board.specs.Acts as act
use Rattle.call_board.specs.Acts.{Call, BoardEntry}
use Rattle.call_board.specs.Calls.{ended_by}
use Rattle.relay_core.specs.Entries.{Event, Board, Cell, Box, Entry, is_nested, board_history, cell_entry, cell_at}
use Rattle.relay_core.specs.Scripts.{Owed, owed_by}
use Rattle.relay_core.specs.Legal.{Orderly}
use Rattle.relay_core.proofs.Scripts.{IsOwed, opens, prepares, commits, closes, ends, expires, reads, owed, IsNestedIn, nested_in}

-- an entry of a cell is that event
pub cell_event : (moment : ℕ) (e : Event) (c : CellEntry) → cell_at moment e ≡ Some c → e ≡ Cell c.event
cell_event moment (Cell d) c q = let h = q in let k : record { moment = moment; event = d } ≡ c = cc in ap (λ (x : CellEntry). Cell x.event) k
cell_event moment (Board b) c q = absurd (let h = q in cc)
cell_event moment (Box b) c q = absurd (let h = q in cc)

pub event_of : (e : Entry) (c : CellEntry) → cell_entry e ≡ Some c → e.event ≡ Cell c.event
event_of e c q = cell_event e.moment e.event c q

pub entry_of : (moment : ℕ) (v : Event) (event : CellEvent) → v ≡ Cell event → cell_at moment v ≡ Some (record { moment = moment; event = event })
entry_of moment v event q = ap (cell_at moment) q

-- a Commit belongs to an accepted answer
pub record IsCommitOf (config : Config) (l : List Entry) (e : Entry) (signal : List SectionSignal) : Type 0 where
  pub nested : IsNestedIn config l e
  pub answer : act.Answer
  pub acts : act.act nested.entry ≡ act.Answered answer
  pub place_is : e.place ≡ answer.of.cell
  pub signal_is : signal ≡ answer.signal

commit_by : (config : Config) (l : List Entry) (e : Entry) (signal : List SectionSignal) → e.event ≡ Cell (Commit signal) → (n : IsNestedIn config l e)
    → IsOwed config (board_history l n.board.number) n.entry (owed_by e) → IsCommitOf config l e signal
commit_by config l e signal q n (commits a b w) =
    let events : e.event ≡ Cell (Commit a.signal) = ap (λ (v : Owed). v.event) w in
    record { nested = n; answer = a; acts = b; place_is = ap (λ (v : Owed). v.place) w; signal_is = cc }
commit_by config l e signal q n (opens o leg a i w) = let h = ap (λ (v : Owed). v.event) w in absurd (let k = q in cc)
commit_by config l e signal q n (prepares o a w) = let h = ap (λ (v : Owed). v.event) w in absurd (let k = q in cc)
commit_by config l e signal q n (closes c leg i j w) = let h = ap (λ (v : Owed). v.event) w in absurd (let k = q in cc)
commit_by config l e signal q n (ends c i w) = let h = ap (λ (v : Owed). v.event) w in absurd (let k = q in cc)
commit_by config l e signal q n (expires c due i w) = let h = ap (λ (v : Owed). v.event) w in absurd (let k = q in cc)
commit_by config l e signal q n (reads c log w) = let h = ap (λ (v : Owed). v.event) w in absurd (let k = q in cc)

pub commit_of : (config : Config) (l : List Entry) → Orderly config l → (e : Entry) → In e l
    → (signal : List SectionSignal) → e.event ≡ Cell (Commit signal) → IsCommitOf config l e signal
commit_of config l o e i signal q =
    let n = nested_in config l o e i (ap is_nested q) in
    commit_by config l e signal q n (owed config (board_history l n.board.number) n.entry (owed_by e) n.fits n.is_owed)

-- an End belongs to an entry that ends a call of that cell
pub record IsEndOf (config : Config) (l : List Entry) (e : Entry) : Type 0 where
  pub nested : IsNestedIn config l e
  pub of : Call
  pub ended : In of (ended_by nested.entry)
  pub place_is : e.place ≡ of.cell

end_by : (config : Config) (l : List Entry) (e : Entry) → e.event ≡ Cell End → (n : IsNestedIn config l e)
    → IsOwed config (board_history l n.board.number) n.entry (owed_by e) → IsEndOf config l e
end_by config l e q n (ends c i w) = record { nested = n; of = c; ended = i; place_is = ap (λ (v : Owed). v.place) w }
end_by config l e q n (commits a b w) = let h = ap (λ (v : Owed). v.event) w in absurd (let k = q in cc)
end_by config l e q n (opens o leg a i w) = let h = ap (λ (v : Owed). v.event) w in absurd (let k = q in cc)
end_by config l e q n (prepares o a w) = let h = ap (λ (v : Owed). v.event) w in absurd (let k = q in cc)
end_by config l e q n (closes c leg i j w) = let h = ap (λ (v : Owed). v.event) w in absurd (let k = q in cc)
end_by config l e q n (expires c due i w) = let h = ap (λ (v : Owed). v.event) w in absurd (let k = q in cc)
end_by config l e q n (reads c log w) = let h = ap (λ (v : Owed). v.event) w in absurd (let k = q in cc)

pub end_of : (config : Config) (l : List Entry) → Orderly config l → (e : Entry) → In e l → e.event ≡ Cell End → IsEndOf config l e
end_of config l o e i q =
    let n = nested_in config l o e i (ap is_nested q) in
    end_by config l e q n (owed config (board_history l n.board.number) n.entry (owed_by e) n.fits n.is_owed)

ends_event : (v : CellEvent) → Rattle.call_cell.specs.Cells.ends v ≡ true → v ≡ End
ends_event End q = refl
ends_event (Prepare call legs keys dropped) q = absurd (let k = q in cc)
ends_event (Commit signal) q = absurd (let k = q in cc)
ends_event (Relay r) q = absurd (let k = q in cc)
ends_event (Expire due) q = absurd (let k = q in cc)
ends_event (Read log) q = absurd (let k = q in cc)

pub end_event : (e : Entry) (c : CellEntry) → cell_entry e ≡ Some c → is_end c ≡ true → e.event ≡ Cell End
end_event e c q t = event_of e c q ∙ ap Cell (ends_event c.event t)

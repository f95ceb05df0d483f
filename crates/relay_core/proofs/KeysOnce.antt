-- In an orderly list each key that comes to a cell has a number that no key of the cell had before.
use Rattle.std.proofs.Common.{◌≡◌, sym, ap, subst, ℕ, zero, suc, ◌<◌, List, ◌∷◌, Some, None, length, arith}
use Rattle.relay_outside.specs.declared.settings.Config.{Config}
use Rattle.histories.specs.Words.{In}
use Rattle.histories.proofs.Lists.{picked}
use Rattle.port_pool.specs.declared.holder.Holder.{Holder}
use Rattle.port_pool.specs.Signals.{NewKey}
use Rattle.call_cell.specs.Cells.{CellEntry, keys_of, keys_in, key_numbered}
use Rattle.call_cell.specs.Numbers.{BringsNewKeys}
use Rattle.call_cell.specs.Preparations.{prepare_entry}
use Rattle.call_cell.proofs.Keys.{key_brought}
use Rattle.call_cell.proofs.NewKeys.{none_numbered}
use Rattle.call_board.specs.Acts as act
use Rattle.call_board.specs.Acts.{BoardEntry}
use Rattle.call_board.specs.Pairs.{drawn}
use Rattle.call_board.specs.Fits.{FitsBoard}
use Rattle.call_board.proofs.Keys.{key_between, drawn_grows}
use Rattle.relay_core.specs.Entries.{Event, Entry, cell_entry, history, cell_history, board_history}
use Rattle.relay_core.specs.Legal.{Orderly}
use Rattle.relay_core.specs.Safe.{keys_by, keys_at}
use Rattle.relay_core.proofs.Histories.{in_history, More, same, added, more}
use Rattle.relay_core.proofs.Commits.{event_of}
use Rattle.relay_core.proofs.Keys.{keys_apart, preparing, prepare_of}
use Rattle.relay_core.proofs.Boards.{later_entry}
use Rattle.relay_core.proofs.Turns.{IsAbove}

-- a key that an entry brings has a number that no key before it has
new_number : (config : Config) (l : List Entry) → Orderly config l → (place k : ℕ) (e : Entry) (c : CellEntry) → In e l → e.number ≡ k → cell_entry e ≡ Some c
    → (key : NewKey) → In key (keys_of c.event) → key_numbered (cell_history l place k) key.number ≡ None
new_number config l o place k e c i m q key j = none_numbered (cell_history l place k) key.number none_has
  where
    none_has : (other : NewKey) → In other (keys_in (cell_history l place k)) → other.number ≡ key.number → ⊥
    none_has other r same_number =
        let b = key_brought (cell_history l place k) r in
        let f = picked cell_entry (history l place k) b.1 in
        let at = in_history l place k f.is_in in
        let other_in : In other (keys_at f.from) = subst (λ (v : Event). In other (keys_by v)) (sym (event_of f.from b.0 f.makes)) b.2 in
        let key_in : In key (keys_at e) = subst (λ (v : Event). In key (keys_by v)) (sym (event_of e c q)) j in
        let one = (keys_apart config l o f.from e other key at.is_in i other_in key_in same_number).0 in
        let numbers = ap (λ (x : Entry). x.number) one in
        let low = at.below in omega (arith, numbers, low, m)

once_case : (config : Config) (l : List Entry) → Orderly config l → (place k : ℕ) → BringsNewKeys (cell_history l place k) → More cell_entry l place k
    → BringsNewKeys (cell_history l place (suc k))
once_case config l o place k rest (same q none) = subst (λ (h : List CellEntry). BringsNewKeys h) (sym q) rest
once_case config l o place k rest (added e c i p m h q) =
    subst (λ (t : List CellEntry). BringsNewKeys t) (sym q) ((λ key j. new_number config l o place k e c i m h key j), rest)

pub keys_once : (config : Config) (l : List Entry) → Orderly config l → (place k : ℕ) → BringsNewKeys (cell_history l place k)
keys_once config l o place zero = tt
keys_once config l o place (suc k) = once_case config l o place k (keys_once config l o place k) (more cell_entry l o.numbered place k)

-- The keys of the board's next offer are drawn with numbers that no key of any cell had.
module _ (config : Config) (l : List Entry) (o : Orderly config l) (n place k : ℕ) (x : BoardEntry) (p : act.Offer) (above : IsAbove l 0 n)
    (fits : FitsBoard config (board_history l n) x) (acts : act.act x ≡ act.Offered p) where
  lower : (f : Entry) → In f l → (other : NewKey) → In other (keys_at f) → other.number < length (drawn (board_history l n))
  lower f i other j =
      let e = preparing f.event other j in
      let of = prepare_of config l o f i e.call e.legs e.keys e.dropped e.is in
      let b = of.nested in
      let low = (key_between config (board_history l b.board.number) b.entry of.offer other b.fits of.acts (subst (λ (ks : List NewKey). In other ks) of.keys_are e.has_key)).1 in
      let grows = drawn_grows (b.entry ∷ board_history l b.board.number) (board_history l n)
      (later_entry config l o b.board b.entry b.is_in b.is n (above b.board b.is_in b.at_board)) in
      omega (arith, low, grows)

  pub offer_brings_new : (key : NewKey) → In key p.keys → key_numbered (cell_history l place k) key.number ≡ None
  offer_brings_new key i = none_numbered (cell_history l place k) key.number none_has
    where
      none_has : (other : NewKey) → In other (keys_in (cell_history l place k)) → other.number ≡ key.number → ⊥
      none_has other r same_number =
          let b = key_brought (cell_history l place k) r in
          let f = picked cell_entry (history l place k) b.1 in
          let at = in_history l place k f.is_in in
          let low = lower f.from at.is_in other (subst (λ (v : Event). In other (keys_by v)) (sym (event_of f.from b.0 f.makes)) b.2) in
          let high = (key_between config (board_history l n) x p key fits acts i).0 in
          omega (arith, low, high, same_number)

  -- so the keys of the cell come once with the offer's too
  pub offer_keys_once : (moment number : ℕ) (legs : List Holder) (dropped : List ℕ)
      → BringsNewKeys (prepare_entry moment number legs p.keys dropped ∷ cell_history l place k)
  offer_keys_once moment number legs dropped = (offer_brings_new, keys_once config l o place k)

-- Where each key that comes has a new number, it has one since the last End, and among the lasting entries.
use Rattle.std.proofs.Common.{◌≡◌, refl, ap, subst, sym, ◌∙◌, ℕ, Bool, true, false, cond, List, [], ◌∷◌, Option, Some, None, filter, ◌==◌}
use Rattle.histories.specs.Words.{In, first}
use Rattle.histories.proofs.Lists.{filtered, first_is_in, equal_if}
use Rattle.port_pool.specs.Signals.{NewKey}
use Rattle.call_cell.specs.Cells.{CellEvent, CellEntry, Prepare, Commit, Relay, Expire, Read, End, is_end, since_end, keys_of, keys_in, key_numbered}
use Rattle.call_cell.specs.SignalEntries.{lasting_entries}
use Rattle.call_cell.specs.Numbers.{BringsNewKeys}
use Rattle.call_cell.proofs.Keys.{key_brought, key_is_in}
use Rattle.call_cell.proofs.Since.{since_is_in}
use Rattle.call_cell.proofs.PrepareSteps.{found_none}
use Rattle.call_cell.proofs.Nested.{entry_at, keys_in_kept}

none_case : (h : List CellEntry) (number : ℕ) → ((key : NewKey) → In key (keys_in h) → key.number ≡ number → ⊥) → (o : Option NewKey)
    → key_numbered h number ≡ o → o ≡ None
none_case h number none None q = refl
none_case h number none (Some key) q =
    let f = filtered (λ (k : NewKey). k.number == number) (keys_in h) (first_is_in (filter (λ (k : NewKey). k.number == number) (keys_in h)) q) in
    absurd (none key f.0 (equal_if key.number number f.1))

-- a number that no key has
pub none_numbered : (h : List CellEntry) (number : ℕ) → ((key : NewKey) → In key (keys_in h) → key.number ≡ number → ⊥) → key_numbered h number ≡ None
none_numbered h number none = none_case h number none (key_numbered h number) refl

-- what no key of a history has, none since its last End has
pub none_since : (h : List CellEntry) (number : ℕ) → key_numbered h number ≡ None → key_numbered (since_end h) number ≡ None
none_since h number none = none_numbered (since_end h) number none_there
  where
    none_there : (key : NewKey) → In key (keys_in (since_end h)) → key.number ≡ number → ⊥
    none_there key i q =
        let b = key_brought (since_end h) i in
        found_none h key (key_is_in h (since_is_in h b.1) b.2) (ap (λ (n : ℕ). key_numbered h n) q ∙ none)

since_case : (e : CellEntry) (h : List CellEntry) → ((key : NewKey) → In key (keys_of e.event) → key_numbered h key.number ≡ None)
    → BringsNewKeys (since_end h) → (b : Bool) → BringsNewKeys (cond b [] (e ∷ since_end h))
since_case e h new rest true = tt
since_case e h new rest false = ((λ key i. none_since h key.number (new key i)), rest)

pub brings_since : (h : List CellEntry) → BringsNewKeys h → BringsNewKeys (since_end h)
brings_since [] brings = tt
brings_since (e ∷ h) brings = since_case e h brings.0 (brings_since h brings.1) (is_end e)

-- Lasting entries.

numbered_kept : (h : List CellEntry) (number : ℕ) → key_numbered (lasting_entries h) number ≡ key_numbered h number
numbered_kept h number = ap (λ (l : List NewKey). first (filter (λ (key : NewKey). key.number == number) l)) (keys_in_kept h)

brings_event : (moment : ℕ) (event : CellEvent) (h : List CellEntry) → (BringsNewKeys (lasting_entries h) → BringsNewKeys h)
    → BringsNewKeys (lasting_entries (entry_at moment event ∷ h)) → BringsNewKeys (entry_at moment event ∷ h)
brings_event moment (Prepare call legs keys dropped) h rest brings =
    ((λ key i. sym (numbered_kept h key.number) ∙ brings.0 key i), rest brings.1)
brings_event moment (Commit signal) h rest brings = ((λ key i. elim i [ ]), rest brings.1)
brings_event moment (Relay r) h rest brings = ((λ key i. elim i [ ]), rest brings)
brings_event moment (Expire due) h rest brings = ((λ key i. elim i [ ]), rest brings)
brings_event moment (Read log) h rest brings = ((λ key i. elim i [ ]), rest brings)
brings_event moment End h rest brings = ((λ key i. elim i [ ]), rest brings.1)

pub brings_kept : (h : List CellEntry) → BringsNewKeys (lasting_entries h) → BringsNewKeys h
brings_kept [] brings = tt
brings_kept (e ∷ h) brings = brings_event e.moment e.event h (brings_kept h) brings

keeps_event : (moment : ℕ) (event : CellEvent) (h : List CellEntry) → (BringsNewKeys h → BringsNewKeys (lasting_entries h))
    → BringsNewKeys (entry_at moment event ∷ h) → BringsNewKeys (lasting_entries (entry_at moment event ∷ h))
keeps_event moment (Prepare call legs keys dropped) h rest brings =
    ((λ key i. numbered_kept h key.number ∙ brings.0 key i), rest brings.1)
keeps_event moment (Commit signal) h rest brings = ((λ key i. elim i [ ]), rest brings.1)
keeps_event moment (Relay r) h rest brings = rest brings.1
keeps_event moment (Expire due) h rest brings = rest brings.1
keeps_event moment (Read log) h rest brings = rest brings.1
keeps_event moment End h rest brings = ((λ key i. elim i [ ]), rest brings.1)

pub kept_brings : (h : List CellEntry) → BringsNewKeys h → BringsNewKeys (lasting_entries h)
kept_brings [] brings = tt
kept_brings (e ∷ h) brings = keeps_event e.moment e.event h (kept_brings h) brings

-- so it is of two histories with the same lasting entries
pub brings_same : (h k : List CellEntry) → lasting_entries h ≡ lasting_entries k → BringsNewKeys h → BringsNewKeys k
brings_same h k same brings = brings_kept k (subst (λ (l : List CellEntry). BringsNewKeys l) same (kept_brings h brings))

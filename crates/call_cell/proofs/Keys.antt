-- The keys that a cell got, by their numbers.
use Rattle.std.proofs.Common.{◌≡◌, refl, subst, ℕ, List, [], ◌∷◌, Some, filter, ◌==◌, ◌⊎◌, inl, inr}
use Rattle.histories.specs.Words.{In, here, there}
use Rattle.histories.proofs.Lists.{in_left, in_right, in_append, filtered, keeps, first_is_in, equal, equal_if}
use Rattle.port_pool.specs.Signals.{NewKey}
use Rattle.call_cell.specs.Cells.{CellEvent, CellEntry, Prepare, Commit, Relay, Expire, Read, End, keys_of, keys_in, key_numbered}
use Rattle.call_cell.proofs.Legs.{IsPrepare}
use Rattle.call_cell.proofs.Splits.{first_of_one}

brings_event : {key : NewKey} (moment : ℕ) (event : CellEvent) → In key (keys_of event)
    → (p : IsPrepare (record { moment = moment; event = event })) × In key p.keys
brings_event moment (Prepare call legs keys dropped) i =
    (record { call = call; legs = legs; keys = keys; dropped = dropped; is_it = refl }, i)
brings_event moment (Commit signal) i = elim i [ ]
brings_event moment (Relay r) i = elim i [ ]
brings_event moment (Expire due) i = elim i [ ]
brings_event moment (Read log) i = elim i [ ]
brings_event moment End i = elim i [ ]

brought_case : {key : NewKey} (x : CellEntry) (h : List CellEntry) → (In key (keys_in h) → (e : CellEntry) × In e h × In key (keys_of e.event))
    → In key (keys_of x.event) ⊎ In key (keys_in h) → (e : CellEntry) × In e (x ∷ h) × In key (keys_of e.event)
brought_case x h rest (inl i) = (x, here refl, i)
brought_case x h rest (inr i) = let b = rest i in (b.0, there b.1, b.2)

pub key_brought : {key : NewKey} (h : List CellEntry) → In key (keys_in h) → (e : CellEntry) × In e h × In key (keys_of e.event)
key_brought [] i = elim i [ ]
key_brought (x ∷ h) i = brought_case x h (key_brought h) (in_append (keys_of x.event) (keys_in h) i)

in_these : {key : NewKey} {e x : CellEntry} → e ≡ x → In key (keys_of e.event) → In key (keys_of x.event)
in_these {key} q i = subst (λ (y : CellEntry). In key (keys_of y.event)) q i

pub key_is_in : {key : NewKey} {e : CellEntry} (h : List CellEntry) → In e h → In key (keys_of e.event) → In key (keys_in h)
key_is_in [] i k = elim i [ ]
key_is_in (x ∷ h) (here q) k = in_left (keys_of x.event) (keys_in h) (in_these q k)
key_is_in (x ∷ h) (there i) k = in_right (keys_of x.event) (keys_in h) (key_is_in h i k)

pub key_found : (h : List CellEntry) (number : ℕ) (key : NewKey) → key_numbered h number ≡ Some key → In key (keys_in h) × (key.number ≡ number)
key_found h number key q =
    let f = filtered (λ (k : NewKey). k.number == number) (keys_in h) (first_is_in (filter (λ (k : NewKey). k.number == number) (keys_in h)) q) in
    (f.0, equal_if key.number number f.1)

-- a key whose number no other key has is the one that is found
pub finds_key : (h : List CellEntry) (key : NewKey) → In key (keys_in h)
    → ((other : NewKey) → In other (keys_in h) → other.number ≡ key.number → other ≡ key) → key_numbered h key.number ≡ Some key
finds_key h key i only =
    first_of_one (filter (λ (k : NewKey). k.number == key.number) (keys_in h)) key
    (keeps (λ (k : NewKey). k.number == key.number) (keys_in h) i (equal key.number key.number refl))
    (λ y j. let f = filtered (λ (k : NewKey). k.number == key.number) (keys_in h) j in only y f.0 (equal_if y.number key.number f.1))

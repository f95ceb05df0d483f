-- The moments of a history.
use Rattle.std.proofs.Common.{◌≡◌, ◌∙◌, sym, ap, subst, ◌≤◌, List, ◌∷◌, length, arith}
use Rattle.relay_outside.specs.declared.settings.Config.{Config}
use Rattle.call_board.specs.Acts.{BoardEntry}
use Rattle.call_board.specs.Fits.{FitsBoard, IsFitting}

-- s stood before, at some moment of h
pub data Later (s : List BoardEntry) : List BoardEntry → Type 0 where
  now : {h : List BoardEntry} → s ≡ h → Later s h
  after : {e : BoardEntry} {h : List BoardEntry} → Later s h → Later s (e ∷ h)

pub later_fits : (config : Config) (s h : List BoardEntry) → Later s h → IsFitting config h → IsFitting config s
later_fits config s h (now e) fits = subst (λ x. IsFitting config x) (sym e) fits
later_fits config s (e ∷ h) (after late) fits = later_fits config s h late fits.1

-- an entry of a fitting history fits what stood before it
pub entry_fits : (config : Config) (e : BoardEntry) (s h : List BoardEntry) → Later (e ∷ s) h → IsFitting config h → FitsBoard config s e
entry_fits config e s h late fits = (later_fits config (e ∷ s) h late fits).0

pub later_length : {s h : List BoardEntry} → Later s h → length s ≤ length h
later_length (now e) = let same = ap length e in omega arith
later_length (after late) = let less = later_length late in omega arith

pub later_through : {s t h : List BoardEntry} → Later s t → Later t h → Later s h
later_through {s} a (now e) = subst (λ x. Later s x) e a
later_through a (after b) = after (later_through a b)

-- two moments of one history stand one after the other
pub data Ordered (e f : BoardEntry) (s t : List BoardEntry) : Type 0 where
  same : e ∷ s ≡ f ∷ t → Ordered e f s t
  first_earlier : Later (e ∷ s) t → Ordered e f s t
  first_later : Later (f ∷ t) s → Ordered e f s t

pub ordered : (e f : BoardEntry) (s t h : List BoardEntry) → Later (e ∷ s) h → Later (f ∷ t) h → Ordered e f s t
ordered e f s t h (now p) (now q) = same (p ∙ sym q)
ordered e f s t (g ∷ h) (now p) (after b) = let tails : h ≡ s = cc in first_later (subst (λ x. Later (f ∷ t) x) tails b)
ordered e f s t (g ∷ h) (after a) (now q) = let tails : h ≡ t = cc in first_earlier (subst (λ x. Later (e ∷ s) x) tails a)
ordered e f s t (g ∷ h) (after a) (after b) = ordered e f s t h a b

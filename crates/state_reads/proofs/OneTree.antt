-- A text spells one tree, so it is the value of one record.
use Rattle.std.proofs.Common.{◌≡◌, ◌∙◌, ℕ, List, Option, Some, None, IfSome, IfNone, Result, Ok, Err, IfOk, subst, sym}
use Rattle.ng_bencode.specs.Tree.{Tree}
use Rattle.ng_bencode.specs.Spells.{Spells}

-- what holds where there is none, and where there is this one
pub from_none : {T : Type 0} (given : Option T) (Said : Type 0) → IfNone given Said → given ≡ None → Said
from_none None Said holds is = holds
from_none (Some it) Said holds is = absurd (cc)

pub from_some : {T : Type 0} (given : Option T) (Told : T → Type 0) (it : T) → IfSome given Told → given ≡ Some it → Told it
from_some given Told it holds is = subst (λ (o : Option _). IfSome o Told) is holds

-- what another record tells that is written so, the one that was read tells
pub told_of_read : {T : Type 0} (written : T → Tree) (Fits Tells : T → Type 0) → ((a b : T) → Fits a → Fits b → written a ≡ written b → a ≡ b)
    → (tree : Tree) (read other : T) → Fits read → Fits other → tree ≡ written read → tree ≡ written other → Tells other → Tells read
told_of_read written Fits Tells same tree read other fits_read fits_other is so tells =
    subst Tells (same other read fits_other fits_read (sym so ∙ is)) tells

-- from the tree to the text: the record that was read
pub some_in_text : {T : Type 0} (written : T → Tree) (Tells IsText : T → Type 0) (text : List ℕ) (tree : Tree) (read : Option T)
    → ((it : T) → Spells text (written it) → Tells it → IsText it)
    → Spells text tree → IfSome read (λ it. tree ≡ written it) → IfSome read Tells → IfSome read IsText
some_in_text written Tells IsText text tree None make spells is tells = tt
some_in_text written Tells IsText text tree (Some it) make spells is tells = make it (subst (Spells text) is spells) tells

-- and that none was
pub none_in_text : {T S : Type 0} (written : T → Tree) (Fits Tells IsText : T → Type 0) (text : List ℕ) (tree : Tree) (read : Option S)
    → ((it : T) → IsText it → Spells text (written it)) → ((it : T) → IsText it → Tells it)
    → ((other : Tree) → Spells text other → other ≡ tree)
    → IfNone read ((it : T) → Fits it → tree ≡ written it → Tells it → ⊥) → IfNone read ((it : T) → Fits it → IsText it → ⊥)
none_in_text written Fits Tells IsText text tree None spelled tells only never =
    λ it fits is. never it fits (sym (only (written it) (spelled it is))) (tells it is)
none_in_text written Fits Tells IsText text tree (Some it) spelled tells only never = tt

-- the same, where memory may be wanting
pub none_in_result : {T S E : Type 0} (written : T → Tree) (Fits Tells IsText : T → Type 0) (text : List ℕ) (tree : Tree) (result : Result (Option S) E)
    → ((it : T) → IsText it → Spells text (written it)) → ((it : T) → IsText it → Tells it)
    → ((other : Tree) → Spells text other → other ≡ tree)
    → IfOk result (λ read. IfNone read ((it : T) → Fits it → tree ≡ written it → Tells it → ⊥)) → IfOk result (λ read. IfNone read ((it : T) → Fits it → IsText it → ⊥))
none_in_result written Fits Tells IsText text tree (Ok read) spelled tells only never = none_in_text written Fits Tells IsText text tree read spelled tells only never
none_in_result written Fits Tells IsText text tree (Err why) spelled tells only never = tt

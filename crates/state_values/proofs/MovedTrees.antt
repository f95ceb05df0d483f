-- Lists that are written or read one by one.
use Rattle.std.proofs.Common.{◌≡◌, List, [], ◌∷◌, ◌++◌, map, Option, Some, IfSome, sym, ap, subst, append_assoc, ◌∙◌}
use Rattle.std.proofs.lemmas.List.{map-append}
use Rattle.ng_bencode.specs.Tree.{Tree}

-- the first that is left is done, as the same tree
pub moved : {A B : Type 0} (f : A → Tree) (g : B → Tree) (old new : List A) (it : A) (left rest : List B) (one : B) (all : List Tree)
    → new ≡ old ++ it ∷ [] → f it ≡ g one → left ≡ one ∷ rest → map f old ++ map g left ≡ all → map f new ++ map g rest ≡ all
moved f g old new it left rest one all grows same parts is =
    ap (λ l. map f l ++ map g rest) grows
    ∙ ap (λ (t : List Tree). t ++ map g rest) (map-append f old (it ∷ []))
    ∙ append_assoc (map f old) (f it ∷ []) (map g rest)
    ∙ ap (λ (t : Tree). map f old ++ t ∷ map g rest) same
    ∙ ap (λ l. map f old ++ map g l) (sym parts)
    ∙ is

-- what holds of one that is there
pub from_some : {T : Type 0} (given : Option T) (Said : T → Type 0) (it : T) → IfSome given Said → given ≡ Some it → Said it
from_some given Said it holds is = subst (λ (o : Option _). IfSome o Said) is holds

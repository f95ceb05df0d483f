-- The pairs of members, in whatever order the members stand.
use Rattle.std.proofs.Common.{◌≡◌, ℕ, List, Option, Some, None, option_and_then, refl, sym, ap, ◌∙◌}
use Rattle.std.specs.Ordering.{match_ordering}
use Rattle.std.specs.declared.cmp.Ordering.{Ordering}
use Rattle.std.specs.declared.cmp.Ordering.TheVariants.{Less, Equal, Greater}
use Rattle.serde_json.specs.Data as json
use Rattle.ng_bencode.specs.Tree.{Tree, Entries, no_entries, entry}
use Rattle.ng_json.specs.Strings.{bytes_of_string}
use Rattle.ng_json.specs.Twins.{tree_in, pairs_in, with_pair_in_order}
use Rattle.ng_json.specs.JsonText.{with_member, IsBelow}
use Rattle.ng_json.proofs.Commuting.{order, commuting}

-- ---- steps one after the other

pub just : {A : Type 0} (r : Option A) → option_and_then (λ x. Some x) r ≡ r
just None = refl
just (Some x) = refl

pub chain : {A B C : Type 0} (f : B → Option C) (g : A → Option B) (r : Option A) → option_and_then f (option_and_then g r) ≡ option_and_then (λ x. option_and_then f (g x)) r
chain f g None = refl
chain f g (Some x) = refl

pub alike : {A B : Type 0} (f g : A → Option B) → ((x : A) → f x ≡ g x) → (r : Option A) → option_and_then f r ≡ option_and_then g r
alike f g same None = refl
alike f g same (Some x) = same x

nothing : {A B : Type 0} (r : Option A) → option_and_then {T = A} {U = B} (λ x. None) r ≡ None
nothing None = refl
nothing (Some x) = refl

-- a step over pairs that may come before or after a pair is put
abbrev pub Passes : (Entries → Option Entries) → Type 0
Passes f = (k : List ℕ) (t : Tree) (found : Entries) → option_and_then f (with_pair_in_order k t found) ≡ option_and_then (λ more. with_pair_in_order k t more) (f found)

-- one pair and then such a step is such a step
then_passes : (o : List ℕ) (u : Tree) (f : Entries → Option Entries) → Passes f → Passes (λ more. option_and_then f (with_pair_in_order o u more))
then_passes o u f passes k t found =
    sym (chain f (λ more. with_pair_in_order o u more) (with_pair_in_order k t found)) ∙ ap (option_and_then f) (commuting o k u t found) ∙ chain f (λ more. with_pair_in_order k t more) (with_pair_in_order o u found)
    ∙ alike (λ more. option_and_then f (with_pair_in_order k t more)) (λ more. option_and_then (λ m. with_pair_in_order k t m) (f more)) (passes k t) (with_pair_in_order o u found)
    ∙ sym (chain (λ m. with_pair_in_order k t m) f (with_pair_in_order o u found))

-- ---- members

-- the pair of a member, and then those of the rest
abbrev step : Option Tree → List ℕ → json.Members → Entries → Option Entries
step r key rest found = option_and_then (λ tree. option_and_then (λ more. pairs_in rest more) (with_pair_in_order key tree found)) r

pub members_pass : (ms : json.Members) → Passes (λ more. pairs_in ms more)
members_pass json.no_members k t found = just (with_pair_in_order k t found)
members_pass (json.member o e rest) k t found = by (members_pass rest) (tree_in e)
  where
    by : Passes (λ more. pairs_in rest more) → (r : Option Tree) → option_and_then (λ more. step r (bytes_of_string o) rest more) (with_pair_in_order k t found) ≡ option_and_then (λ m. with_pair_in_order k t m) (step r (bytes_of_string o) rest found)
    by passes None = nothing (with_pair_in_order k t found)
    by passes (Some u) = then_passes (bytes_of_string o) u (λ more. pairs_in rest more) passes k t found

pub member_put : (text : List ℕ) (d : json.Data) (t : Tree) → tree_in d ≡ Some t → (ms : json.Members) (found : Entries)
    → pairs_in (with_member text d ms) found ≡ option_and_then (λ more. with_pair_in_order (bytes_of_string text) t more) (pairs_in ms found)
member_put text d t is json.no_members found = rw is (just (with_pair_in_order (bytes_of_string text) t found))
member_put text d t is (json.member o e rest) found = by (later (member_put text d t is rest) (tree_in e)) (order text o)
  where
    k : List ℕ
    k = bytes_of_string text

    later : ((more : Entries) → pairs_in (with_member text d rest) more ≡ option_and_then (λ m. with_pair_in_order k t m) (pairs_in rest more)) → (r : Option Tree) → step r (bytes_of_string o) (with_member text d rest) found ≡ option_and_then (λ m. with_pair_in_order k t m) (step r (bytes_of_string o) rest found)
    later put None = refl
    later put (Some u) =
        alike (λ more. pairs_in (with_member text d rest) more) (λ more. option_and_then (λ m. with_pair_in_order k t m) (pairs_in rest more)) put (with_pair_in_order (bytes_of_string o) u found)
        ∙ sym (chain (λ m. with_pair_in_order k t m) (λ more. pairs_in rest more) (with_pair_in_order (bytes_of_string o) u found))

    by : pairs_in (json.member o e (with_member text d rest)) found ≡ option_and_then (λ m. with_pair_in_order k t m) (pairs_in (json.member o e rest) found)
        → (at : Ordering) → pairs_in (match_ordering at (json.member text d (json.member o e rest)) (json.member o e (with_member text d rest)) (json.member o e (with_member text d rest))) found
        ≡ option_and_then (λ m. with_pair_in_order k t m) (pairs_in (json.member o e rest) found)
    by put Less = rw is (members_pass (json.member o e rest) k t found)
    by put Equal = put
    by put Greater = put

-- ---- pairs

-- these pairs, put one after the other
abbrev pub with_pairs : Entries → Entries → Option Entries
with_pairs no_entries found = Some found
with_pairs (entry k t rest) found = option_and_then (λ more. with_pairs rest more) (with_pair_in_order k t found)

pairs_pass : (es : Entries) → Passes (λ more. with_pairs es more)
pairs_pass no_entries k t found = just (with_pair_in_order k t found)
pairs_pass (entry o u rest) k t found = then_passes o u (λ more. with_pairs rest more) (pairs_pass rest) k t found

-- each key is below those after it
abbrev pub Ascend : Entries → Type 0
Ascend no_entries = Unit {0}
Ascend (entry k t rest) = IsBelow k rest × Ascend rest

first : (k : List ℕ) (t : Tree) (rest : Entries) → IsBelow k rest → with_pair_in_order k t rest ≡ Some (entry k t rest)
first k t no_entries h = refl
first k t (entry o u rest) h = rw h.0 refl

pub gathered : (es : Entries) → Ascend es → with_pairs es no_entries ≡ Some es
gathered no_entries h = refl
gathered (entry k t rest) h = pairs_pass rest k t no_entries ∙ ap (option_and_then (λ more. with_pair_in_order k t more)) (gathered rest h.1) ∙ first k t rest h.0

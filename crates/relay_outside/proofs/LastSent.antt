-- the last send of a list of calls, as one call is added
use Rattle.std.proofs.Common.{◌≡◌, ◌∙◌, ap, sym, ℕ, ◌+◌, ◌<◌, List, [], ◌∷◌, ◌++◌, Option, Some, None, length, take, get_or, refl}
use Rattle.std.specs.Prelude.{filter_map}
use Rattle.std.specs.List.{last_or, cons_option}
use Rattle.std.proofs.lemmas.List.{take_more}
use Rattle.std.proofs.lemmas.List.Elements.{filter_map-append}
use Rattle.relay_outside.specs.declared.address.Addr.{Addr}
use Rattle.relay_outside.specs.declared.link.LinkCall.{LinkCall}
use Rattle.relay_outside.specs.Link.{sent, sent_of}

pub last_or-append : {A : Type 0} (o : Option A) (xs ys : List A) → last_or o (xs ++ ys) ≡ last_or (last_or o xs) ys
last_or-append o [] ys = refl
last_or-append o (x ∷ xs) ys = last_or-append (Some x) xs ys

pub one_more : (calls : List LinkCall) (i : ℕ) (d : LinkCall) → i < length calls → d ≡ get_or calls i d →
    last_or None (sent (take (i + 1) calls)) ≡ last_or (last_or None (sent (take i calls))) (cons_option (sent_of d) [])
one_more calls i d below is =
    ap (λ (xs : List LinkCall). last_or None (filter_map sent_of xs)) (take_more calls i d below)
    ∙ ap (λ (xs : List (Addr × List ℕ)). last_or None xs) (filter_map-append sent_of (take i calls) (get_or calls i d ∷ []))
    ∙ last_or-append None (sent (take i calls)) (filter_map sent_of (get_or calls i d ∷ []))
    ∙ ap (λ (x : LinkCall). last_or (last_or None (sent (take i calls))) (cons_option (sent_of x) [])) (sym is)

pub sends : (calls : List LinkCall) (i : ℕ) (d : LinkCall) (found : Addr × List ℕ) → i < length calls → d ≡ get_or calls i d →
    sent_of d ≡ Some found → last_or None (sent (take (i + 1) calls)) ≡ Some found
sends calls i d found below is sent_is =
    one_more calls i d below is
    ∙ ap (λ (o : Option (Addr × List ℕ)). last_or (last_or None (sent (take i calls))) (cons_option o [])) sent_is

pub sends_nothing : (calls : List LinkCall) (i : ℕ) (d : LinkCall) → i < length calls → d ≡ get_or calls i d →
    sent_of d ≡ None → last_or None (sent (take (i + 1) calls)) ≡ last_or None (sent (take i calls))
sends_nothing calls i d below is sent_is =
    one_more calls i d below is
    ∙ ap (λ (o : Option (Addr × List ℕ)). last_or (last_or None (sent (take i calls))) (cons_option o [])) sent_is

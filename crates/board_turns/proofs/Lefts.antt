-- Pairs without some of them, and which ports are open then.
use Rattle.std.proofs.Common.{◌≡◌, ◌∙◌, refl, sym, ap, ℕ, ◌<◌, Bool, true, false, cond, not, ◌==◌, List, [], ◌∷◌, ◌++◌, Option, Some, None}
use Rattle.std.specs.Prelude.{◌&&◌}
use Rattle.relay_outside.specs.declared.settings.Config.{Config}
use Rattle.relay_outside.specs.declared.ports.PortCall.{PortCall}
use Rattle.relay_outside.specs.Settings.{AreFamilies}
use Rattle.relay_outside.specs.DeviceLogs.{Gained, WhereLogged}
use Rattle.histories.specs.Words.{has}
use Rattle.histories.proofs.Lists.{equal_if}
use Rattle.port_pool.specs.Ports.{pair_count}
use Rattle.port_pool.specs.declared.pairs.Lease.{Lease}
use Rattle.media_ports.specs.Addresses.{addresses_of}
use Rattle.media_ports.specs.Calls.{AllOpen, ClosesPair}
use Rattle.media_ports.specs.Ends.{EndLogs}
use Rattle.media_ports.specs.OpenPorts.{OpensHeld}
use Rattle.media_ports.proofs.Telling.{told_less}
use Rattle.media_ports.proofs.Held as ports
use Rattle.media_ports.proofs.Held.{held_open}
use Rattle.board_turns.specs.Closings.{pairs_left}

none_left : (b : Bool) → false ≡ (not b && false)
none_left true = refl
none_left false = refl

no_more : (b c : Bool) → b ≡ true → false ≡ (not b && c)
no_more true c is = refl
no_more false c is = absurd (let e = is in cc)

one_more : (b : Bool) → b ≡ false → true ≡ (not b && true)
one_more true is = absurd (let e = is in cc)
one_more false is = refl

left_case : (ps held : List ℕ) (x q : ℕ) → has (pairs_left ps held) q ≡ (not (has ps q) && has held q) → (b e : Bool) → has ps x ≡ b → (x == q) ≡ e →
    has (cond (not b) (x ∷ pairs_left ps held) (pairs_left ps held)) q ≡ (not (has ps q) && cond e true (has held q))
left_case ps held x q rest true true is same =
    let all : has ps q ≡ true = ap (has ps) (sym (equal_if x q same)) ∙ is in
    rest ∙ sym (no_more (has ps q) (has held q) all) ∙ no_more (has ps q) true all
left_case ps held x q rest true false is same = rest
left_case ps held x q rest false true is same =
    ap (λ (b : Bool). cond b true (has (pairs_left ps held) q)) same
    ∙ one_more (has ps q) (ap (has ps) (sym (equal_if x q same)) ∙ is)
left_case ps held x q rest false false is same = ap (λ (b : Bool). cond b true (has (pairs_left ps held) q)) same ∙ rest

-- what is left was there, and is none of those
pub has_left : (ps held : List ℕ) (q : ℕ) → has (pairs_left ps held) q ≡ (not (has ps q) && has held q)
has_left ps [] q = none_left (has ps q)
has_left ps (x ∷ held) q = left_case ps held x q (has_left ps held q) (has ps x) (x == q) refl refl

two_left : (a b c : Bool) → (not b && (not a && c)) ≡ (not (cond a true b) && c)
two_left true true c = refl
two_left true false c = refl
two_left false true c = refl
two_left false false c = refl

has_both : (a e : Bool) (b : Bool) → cond e true (cond a true b) ≡ cond (cond e true a) true b
has_both a true b = refl
has_both a false b = refl

has_append : (ps qs : List ℕ) (q : ℕ) → has (ps ++ qs) q ≡ cond (has ps q) true (has qs q)
has_append [] qs q = refl
has_append (p ∷ ps) qs q = ap (λ (b : Bool). cond (p == q) true b) (has_append ps qs q) ∙ has_both (has ps q) (p == q) (has qs q)

-- those without some, and then without others
pub left_twice : (ps qs held : List ℕ) (q : ℕ) → has (pairs_left qs (pairs_left ps held)) q ≡ has (pairs_left (ps ++ qs) held) q
left_twice ps qs held q =
    has_left qs (pairs_left ps held) q
    ∙ ap (λ (b : Bool). not (has qs q) && b) (has_left ps held q)
    ∙ two_left (has ps q) (has qs q) (has held q)
    ∙ ap (λ (b : Bool). not b && has held q) (sym (has_append ps qs q))
    ∙ sym (has_left (ps ++ qs) held q)

-- the same pairs
pub opens_alike : (config : Config) (calls : List PortCall) (a b : List ℕ) → ((q : ℕ) → has a q ≡ has b q) → OpensHeld config calls a → OpensHeld config calls b
opens_alike config calls a b same opens pair half below =
    let o = opens pair half below in
    (λ is. sym (same pair) ∙ o.0 is, λ h. o.1 (same pair ∙ h))

pub left_none : (held : List ℕ) (q : ℕ) → has held q ≡ has (pairs_left [] held) q
left_none held q = sym (has_left [] held q)

-- One pair was closed.

alone : (b : Bool) → cond b true false ≡ b
alone true = refl
alone false = refl

-- the ports of the pair are closed, and those of the others as before
pub told_closed : (config : Config) (old new : Option (List PortCall)) (held : List ℕ) (lease : Lease) (ends : EndLogs) → AreFamilies config → lease.pair < pair_count config →
    Gained old new (ClosesPair config lease ends) → WhereLogged old (λ calls. OpensHeld config calls held) → WhereLogged new (λ calls. OpensHeld config calls (pairs_left (lease.pair ∷ []) held))
told_closed config old new held lease ends families low closes opens =
    ports.told_closed config old new held (pairs_left (lease.pair ∷ []) held) lease ends families opens low closes
    (λ q. has_left (lease.pair ∷ []) held q ∙ ap (λ (b : Bool). not b && has held q) (alone (lease.pair == q)))

-- where it tells, the same pairs
pub told_alike : (config : Config) (log : Option (List PortCall)) (a b : List ℕ) → ((q : ℕ) → has a q ≡ has b q) → WhereLogged log (λ calls. OpensHeld config calls a) →
    WhereLogged log (λ calls. OpensHeld config calls b)
told_alike config None a b same opens = tt
told_alike config (Some calls) a b same opens = opens_alike config calls a b same opens

-- where it tells, both ports of a pair among them are open
pub told_open : (config : Config) (log : Option (List PortCall)) (held : List ℕ) (lease : Lease) → lease.pair < pair_count config → has held lease.pair ≡ true →
    WhereLogged log (λ calls. OpensHeld config calls held) → WhereLogged log (AllOpen (addresses_of config (lease ∷ [])))
told_open config log held lease below has_it opens =
    told_less log (λ calls. OpensHeld config calls held) (AllOpen (addresses_of config (lease ∷ []))) (λ calls these. held_open config calls held lease these below has_it) opens

-- Openings and draws that the lines answer are the same, as far as both were asked.
use Rattle.std.proofs.Common.{◌≡◌, ◌∙◌, sym, ap, subst, refl, ℕ, List, [], ◌∷◌, Bool, true, false}
use Rattle.relay_outside.specs.declared.address.Addr.{Addr}
use Rattle.relay_outside.specs.declared.keys.KeyCall.{KeyCall}
use Rattle.relay_outside.specs.declared.keys.KeyCall.TheVariants as key
use Rattle.relay_outside.specs.declared.ports.PortCall.{PortCall}
use Rattle.relay_outside.specs.declared.ports.PortCall.TheVariants.{Open, Close}
use Rattle.relay_outside.specs.declared.settings.Config.{Config}
use Rattle.media_ports.specs.Addresses.{pair_addresses}
use Rattle.media_ports.specs.Openings.{OpensAt, opening_answers, opening_calls}
use Rattle.media_ports.specs.Calls.{openings}
use Rattle.replay_devices.specs.Devices.{Happening, Opened, Drew}
use Rattle.replay_steps.specs.Arrivals.{End}
use Rattle.replay_steps.specs.Steps.{OpensAsked, DrawsAsked}
use Rattle.board_laws.specs.Alike.{Agree}
use Rattle.replay_laws.proofs.Lists.{end_once}

clash : {A : Type 0} → true ≡ false → A
clash e = absurd (let f : true ≡ false = e in cc)

-- Openings.

opens_alone : (config : Config) (calls : List PortCall) (old new : List Happening) → OpensAsked config calls old new → OpensAsked config (opening_calls calls) old new
opens_alone config [] old new a = a
opens_alone config (Open at done ∷ calls) old new a = (a.0, a.1, a.2, opens_alone config calls (Opened a.0.0 a.0.1 done ∷ old) new a.3)
opens_alone config (Close at taken sent ∷ calls) old new a = opens_alone config calls old new a

pub answers_alone : (calls : List PortCall) → opening_answers calls ≡ opening_answers (opening_calls calls)
answers_alone [] = refl
answers_alone (Open at done ∷ calls) = ap (λ (xs : List Bool). done ∷ xs) (answers_alone calls)
answers_alone (Close at taken sent ∷ calls) = answers_alone calls

abbrev opened : End → Bool → List Happening → List Happening
opened e done old = Opened e.0 e.1 done ∷ old

opens_agree : (config : Config) (ats : List Addr) (a b : List Bool) (old m n : List Happening) → OpensAsked config (openings ats a) old m → OpensAsked config (openings ats b) old n
    → Agree (opening_answers (openings ats a)) (opening_answers (openings ats b))
opens_agree config [] a b old m n p q = tt
opens_agree config (at ∷ ats) [] b old m n p q = tt
opens_agree config (at ∷ ats) (x ∷ a) [] old m n p q = tt
opens_agree config (at ∷ ats) (x ∷ a) (y ∷ b) old m n p q =
    let same : x ≡ y = p.2 ∙ sym q.2 in
    let end : p.0 ≡ q.0 = end_once config at.port at.ip p.0 q.0 p.1 q.1 in
    let past : opened q.0 y old ≡ opened p.0 x old = sym (ap (λ (e : End). opened e x old) end ∙ ap (λ (d : Bool). opened q.0 d old) same) in
    (same, opens_agree config ats a b (opened p.0 x old) m n p.3 (subst (λ (h : List Happening). OpensAsked config (openings ats b) h n) past q.3))

opens_once : (config : Config) (calls : List PortCall) (old m n : List Happening) → OpensAsked config calls old m → OpensAsked config calls old n → m ≡ n
opens_once config [] old m n p q = p ∙ sym q
opens_once config (Open at done ∷ calls) old m n p q =
    let end : p.0 ≡ q.0 = end_once config at.port at.ip p.0 q.0 p.1 q.1 in
    opens_once config calls (opened p.0 done old) m n p.3
    (subst (λ (e : End). OpensAsked config calls (opened e done old) n) (sym end) q.3)
opens_once config (Close at taken sent ∷ calls) old m n p q = opens_once config calls old m n p q

-- of the ports of the same pairs

whole : (config : Config) (pairs : List ℕ) (answers : List Bool) (calls : List PortCall) → OpensAt config pairs answers calls
    → opening_answers (openings (pair_addresses config pairs) answers) ≡ answers
whole config pairs answers calls o = sym (ap opening_answers o.in_order) ∙ sym (answers_alone calls) ∙ o.answered

in_order : (config : Config) (pairs : List ℕ) (answers : List Bool) (calls : List PortCall) (old new : List Happening) → OpensAt config pairs answers calls
    → OpensAsked config calls old new → OpensAsked config (openings (pair_addresses config pairs) answers) old new
in_order config pairs answers calls old new o a =
    subst (λ (xs : List PortCall). OpensAsked config xs old new) o.in_order (opens_alone config calls old new a)

pub openings_agree : (config : Config) (pairs : List ℕ) (a b : List Bool) (x y : List PortCall) (old m n : List Happening) → OpensAt config pairs a x → OpensAt config pairs b y
    → OpensAsked config x old m → OpensAsked config y old n → Agree a b
openings_agree config pairs a b x y old m n o p q r =
    subst (λ (xs : List Bool). Agree xs b) (whole config pairs a x o)
    (subst (λ (ys : List Bool). Agree (opening_answers (openings (pair_addresses config pairs) a)) ys) (whole config pairs b y p)
    (opens_agree config (pair_addresses config pairs) a b old m n (in_order config pairs a x old m o q) (in_order config pairs b y old n p r)))

pub openings_once : (config : Config) (pairs : List ℕ) (a b : List Bool) (x y : List PortCall) (old m n : List Happening) → OpensAt config pairs a x → OpensAt config pairs b y
    → OpensAsked config x old m → OpensAsked config y old n → a ≡ b → m ≡ n
openings_once config pairs a b x y old m n o p q r same =
    opens_once config (openings (pair_addresses config pairs) b) old m n
    (subst (λ (xs : List Bool). OpensAsked config (openings (pair_addresses config pairs) xs) old m) same (in_order config pairs a x old m o q))
    (in_order config pairs b y old n p r)

-- Draws.

pub draws_agree : (seed : ℕ) (a b : List KeyCall) (old m n : List Happening) → DrawsAsked seed a old m → DrawsAsked seed b old n → Agree a b
draws_agree seed [] b old m n p q = tt
draws_agree seed (key.Drawn x ∷ a) [] old m n p q = tt
draws_agree seed (key.Failed ∷ a) [] old m n p q = tt
draws_agree seed (key.Drawn x ∷ a) (key.Drawn y ∷ b) old m n p q = (ap key.Drawn (p.1 ∙ sym q.1), draws_agree seed a b (Drew true ∷ old) m n p.2 q.2)
draws_agree seed (key.Drawn x ∷ a) (key.Failed ∷ b) old m n p q = clash (sym q.0 ∙ p.0)
draws_agree seed (key.Failed ∷ a) (key.Drawn y ∷ b) old m n p q = clash (sym p.0 ∙ q.0)
draws_agree seed (key.Failed ∷ a) (key.Failed ∷ b) old m n p q = (refl, draws_agree seed a b (Drew false ∷ old) m n p.1 q.1)

pub draws_once : (seed : ℕ) (calls : List KeyCall) (old m n : List Happening) → DrawsAsked seed calls old m → DrawsAsked seed calls old n → m ≡ n
draws_once seed [] old m n p q = p ∙ sym q
draws_once seed (key.Drawn x ∷ calls) old m n p q = draws_once seed calls (Drew true ∷ old) m n p.2 q.2
draws_once seed (key.Failed ∷ calls) old m n p q = draws_once seed calls (Drew false ∷ old) m n p.1 q.1

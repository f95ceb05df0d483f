-- What the devices returned is the same in two turns of one plan, if it is as far as both called them.
use Rattle.std.proofs.Common.{◌≡◌, ◌∙◌, sym, ap, subst, refl, ℕ, zero, suc, ◌+◌, ◌*◌, ◌<◌, List, [], ◌∷◌, ◌++◌, map, length, replicate, Bool, true, false, cond, not, Option, Some, None, IsSome, arith}
use Rattle.std.specs.List.{list_any}
use Rattle.relay_outside.specs.declared.keys.KeyCall.{KeyCall}
use Rattle.relay_outside.specs.declared.keys.KeyCall.TheVariants.{Drawn, Failed}
use Rattle.relay_outside.specs.declared.settings.Config.{Config}
use Rattle.port_pool.specs.declared.reports.LegReport.{LegReport}
use Rattle.offer_answer.specs.Rounds.{Round, OfferAsk, Demand}
use Rattle.call_board.specs.Acts.{Call, Given, Control, BoardEntry}
use Rattle.call_board.specs.Fits.{OpensAll, OpenFails, GivesNothing, DrawsAll, DrawFails, GivesFor, GivesUndone}
use Rattle.call_board.proofs.Tells.{leased_case}
use Rattle.board_turns.specs.DeviceAnswers.{draws_of}
use Rattle.board_laws.specs.Alike.{Agree, GiveAlike, Follows, GivenBy}

-- Part by part.

abbrev made : Bool → List Bool → List (List ℕ) → Bool → Option (List LegReport) → Given
made out_of_memory opens draws failed report = record { out_of_memory = out_of_memory; opens = opens; draws = draws; draw_failed = failed; report = report }

pub same_given : (a b : Given) → a.out_of_memory ≡ b.out_of_memory → a.opens ≡ b.opens → a.draws ≡ b.draws → a.draw_failed ≡ b.draw_failed → a.report ≡ b.report → a ≡ b
same_given a b out_of_memory opens draws failed report =
    ap (λ (x : Bool). made x a.opens a.draws a.draw_failed a.report) out_of_memory
    ∙ ap (λ (x : List Bool). made b.out_of_memory x a.draws a.draw_failed a.report) opens
    ∙ ap (λ (x : List (List ℕ)). made b.out_of_memory b.opens x a.draw_failed a.report) draws
    ∙ ap (λ (x : Bool). made b.out_of_memory b.opens b.draws x a.report) failed
    ∙ ap (λ (x : Option (List LegReport)). made b.out_of_memory b.opens b.draws b.draw_failed x) report

-- nothing was asked but perhaps a report
pub nothing_same : (a b : Given) → a.out_of_memory ≡ false → b.out_of_memory ≡ false → GivesNothing a → GivesNothing b → a.report ≡ b.report → a ≡ b
nothing_same a b fed_a fed_b m n report =
    same_given a b (fed_a ∙ sym fed_b) (m.no_opens ∙ sym n.no_opens) (m.no_draws ∙ sym n.no_draws) (m.none_failed ∙ sym n.none_failed) report

pub report_same : (p q : Option (List LegReport)) → IsSome p → IsSome q → ((x y : List LegReport) → p ≡ Some x → q ≡ Some y → x ≡ y) → p ≡ q
report_same (Some x) (Some y) m n same = ap Some (same x y refl refl)
report_same None q m n same = cc (m)
report_same (Some x) None m n same = cc (n)

-- Results that agree.

pub agree_back : {A : Type 0} (xs ys : List A) → Agree xs ys → Agree ys xs
agree_back [] [] g = tt
agree_back [] (y ∷ ys) g = tt
agree_back (x ∷ xs) [] g = tt
agree_back (x ∷ xs) (y ∷ ys) g = (sym g.0, agree_back xs ys g.1)

follow_agree : {A : Type 0} (rule : ℕ → A) (n : ℕ) (xs ys : List A) → Follows rule n xs → Follows rule n ys → Agree xs ys
follow_agree rule n [] ys f g = tt
follow_agree rule n (x ∷ xs) [] f g = tt
follow_agree rule n (x ∷ xs) (y ∷ ys) f g = (f.0 ∙ sym g.0, follow_agree rule (n + 1) xs ys f.1 g.1)

-- results by one rule agree
pub ruled_alike : (opening : ℕ → Bool) (drawing : ℕ → KeyCall) (report : List LegReport) (c d : Control) → GivenBy opening drawing report c.given → GivenBy opening drawing report d.given → GiveAlike c d
ruled_alike opening drawing report c d f g = record {
  opens = follow_agree opening 0 c.given.opens d.given.opens f.opens g.opens;
  draws = λ same. follow_agree drawing 0 (draws_of c.given) (draws_of d.given) f.draws g.draws;
  reports = λ of x y is_c is_d p q. f.reports x p ∙ sym (g.reports y q);
}

-- of two turns of one plan: neither ran out of memory, and as far as both called, the devices returned the same
pub record Fed (a b : Given) : Type 0 where
  pub left : a.out_of_memory ≡ false
  pub right : b.out_of_memory ≡ false
  pub opens : Agree a.opens b.opens
  pub draws : a.opens ≡ b.opens → Agree (draws_of a) (draws_of b)

-- Openings.

abbrev failed_at : ℕ → List Bool
failed_at n = replicate n true ++ false ∷ []

clash : true ≡ false → ⊥
clash e = cc

fails_once : (m n : ℕ) → Agree (failed_at m) (failed_at n) → m ≡ n
fails_once zero zero g = refl
fails_once zero (suc n) g = absurd (clash (sym g.0))
fails_once (suc m) zero g = absurd (clash g.0)
fails_once (suc m) (suc n) g = ap suc (fails_once m n g.1)

fails_late : (m n : ℕ) → m < n → Agree (failed_at m) (replicate n true) → ⊥
fails_late m zero below g = omega (arith, below)
fails_late zero (suc n) below g = clash (sym g.0)
fails_late (suc m) (suc n) below g = fails_late m n (let b = below in omega (arith, b)) g.1

-- Draws.

abbrev calls : List (List ℕ) → Bool → List KeyCall
calls draws failed = map Drawn draws ++ (cond failed (Failed ∷ []) [])

drawn_once : (x y : List ℕ) → Drawn x ≡ Drawn y → x ≡ y
drawn_once x y e = cc

not_failed : (x : List ℕ) → Drawn x ≡ Failed → ⊥
not_failed x e = cc

next_length : {A : Type 0} (x y : A) (xs ys : List A) → length (x ∷ xs) ≡ length (y ∷ ys) → length xs ≡ length ys
next_length x y xs ys e = omega (arith, e)

both_drew : (xs ys : List (List ℕ)) → length xs ≡ length ys → Agree (calls xs false) (calls ys false) → xs ≡ ys
both_drew [] [] e g = refl
both_drew [] (y ∷ ys) e g = absurd (omega (arith, e))
both_drew (x ∷ xs) [] e g = absurd (omega (arith, e))
both_drew (x ∷ xs) (y ∷ ys) e g =
    ap (λ (z : List ℕ). z ∷ xs) (drawn_once x y g.0) ∙ ap (λ (zs : List (List ℕ)). y ∷ zs) (both_drew xs ys (next_length x y xs ys e) g.1)

both_failed : (xs ys : List (List ℕ)) → Agree (calls xs true) (calls ys true) → xs ≡ ys
both_failed [] [] g = refl
both_failed [] (y ∷ ys) g = absurd (not_failed y (sym g.0))
both_failed (x ∷ xs) [] g = absurd (not_failed x g.0)
both_failed (x ∷ xs) (y ∷ ys) g =
    ap (λ (z : List ℕ). z ∷ xs) (drawn_once x y g.0) ∙ ap (λ (zs : List (List ℕ)). y ∷ zs) (both_failed xs ys g.1)

one_failed : (xs ys : List (List ℕ)) → length xs < length ys → Agree (calls xs true) (calls ys false) → ⊥
one_failed xs [] below g = omega (arith, below)
one_failed [] (y ∷ ys) below g = not_failed y (sym g.0)
one_failed (x ∷ xs) (y ∷ ys) below g = one_failed xs ys (let b = below in omega (arith, b)) g.1

-- An offer that has its pairs.

-- what it was given: a port could not be opened; or a key could not be drawn; or all that it demands
data Offering (pairs keys : ℕ) (g : Given) : Type 0 where
  unopened : OpenFails g pairs → g.draws ≡ [] → g.draw_failed ≡ false → g.report ≡ None → Offering pairs keys g
  undrawn : OpensAll g pairs → DrawFails g keys → g.report ≡ None → Offering pairs keys g
  whole : OpensAll g pairs → DrawsAll g keys → g.report ≡ None → Offering pairs keys g

offering_of : (config : Config) (h : List BoardEntry) (ask : OfferAsk) (of : Call) (begins : Bool) (before : List Round) (pairs : List ℕ) (d : Demand) (g : Given) (failed drew : Bool)
    → list_any not g.opens ≡ failed → GivesFor d g (leased_case config h g ask of begins before pairs failed drew).act → Offering (length d.pairs) (length d.keys) g
offering_of config h ask of begins before pairs d g true drew is gives =
    let u = subst (λ (b : Bool). GivesUndone d g b) is gives.0 in
    unopened u.0 u.1 u.2 gives.1
offering_of config h ask of begins before pairs d g false true is gives =
    let u = subst (λ (b : Bool). GivesUndone d g b) is gives.0 in
    undrawn u.0 u.1 gives.1
offering_of config h ask of begins before pairs d g false false is gives = whole gives.0 gives.1 gives.2

open_clash : (a b : Given) (pairs : ℕ) → Agree a.opens b.opens → OpenFails a pairs → OpensAll b pairs → ⊥
open_clash a b pairs g f o =
    let one = subst (λ (xs : List Bool). Agree xs b.opens) f.then_fails g in
    let both = subst (λ (xs : List Bool). Agree (failed_at f.opened) xs) o.all_opened one in
    fails_late f.opened (2 * pairs) f.some_are_left both

drawing : (a b : Given) (m n : Bool) → a.draw_failed ≡ m → b.draw_failed ≡ n → Agree (draws_of a) (draws_of b) → Agree (calls a.draws m) (calls b.draws n)
drawing a b m n p q g =
    subst (λ (t : Bool). Agree (calls a.draws m) (calls b.draws t)) q (subst (λ (t : Bool). Agree (calls a.draws t) (draws_of b)) p g)

draw_clash : (a b : Given) (keys : ℕ) → Agree (draws_of a) (draws_of b) → DrawFails a keys → DrawsAll b keys → ⊥
draw_clash a b keys g f o =
    one_failed a.draws b.draws (let l = f.some_are_left in let k = o.all_drawn in omega (arith, l, k)) (drawing a b true false f.then_fails o.none_failed g)

offering_once : (pairs keys : ℕ) (a b : Given) → Fed a b → Offering pairs keys a → Offering pairs keys b → a ≡ b
offering_once pairs keys a b fed (unopened f d n r) (unopened g e m s) =
    let one = subst (λ (xs : List Bool). Agree xs b.opens) f.then_fails fed.opens in
    let both = subst (λ (xs : List Bool). Agree (failed_at f.opened) xs) g.then_fails one in
    same_given a b (fed.left ∙ sym fed.right) (f.then_fails ∙ ap failed_at (fails_once f.opened g.opened both) ∙ sym g.then_fails) (d ∙ sym e) (n ∙ sym m) (r ∙ sym s)
offering_once pairs keys a b fed (unopened f d n r) (undrawn o e s) = absurd (open_clash a b pairs fed.opens f o)
offering_once pairs keys a b fed (unopened f d n r) (whole o e s) = absurd (open_clash a b pairs fed.opens f o)
offering_once pairs keys a b fed (undrawn o d r) (unopened g e m s) = absurd (open_clash b a pairs (agree_back a.opens b.opens fed.opens) g o)
offering_once pairs keys a b fed (whole o d r) (unopened g e m s) = absurd (open_clash b a pairs (agree_back a.opens b.opens fed.opens) g o)
offering_once pairs keys a b fed (undrawn o d r) (undrawn p e s) =
    let opens = o.all_opened ∙ sym p.all_opened in
    let drew = drawing a b true true d.then_fails e.then_fails (fed.draws opens) in
    same_given a b (fed.left ∙ sym fed.right) opens (both_failed a.draws b.draws drew) (d.then_fails ∙ sym e.then_fails) (r ∙ sym s)
offering_once pairs keys a b fed (undrawn o d r) (whole p e s) =
    absurd (draw_clash a b keys (fed.draws (o.all_opened ∙ sym p.all_opened)) d e)
offering_once pairs keys a b fed (whole o d r) (undrawn p e s) =
    absurd (draw_clash b a keys (agree_back (draws_of a) (draws_of b) (fed.draws (o.all_opened ∙ sym p.all_opened))) e d)
offering_once pairs keys a b fed (whole o d r) (whole p e s) =
    let opens = o.all_opened ∙ sym p.all_opened in
    let drew = drawing a b false false d.none_failed e.none_failed (fed.draws opens) in
    same_given a b (fed.left ∙ sym fed.right) opens (both_drew a.draws b.draws (d.all_drawn ∙ sym e.all_drawn) drew) (d.none_failed ∙ sym e.none_failed) (r ∙ sym s)

-- two turns of an offer that has its pairs were given the same
pub leased_once : (config : Config) (h : List BoardEntry) (ask : OfferAsk) (of : Call) (begins : Bool) (before : List Round) (pairs : List ℕ) (d : Demand) (a b : Given)
    → Fed a b → GivesFor d a (leased_case config h a ask of begins before pairs (list_any not a.opens) a.draw_failed).act
    → GivesFor d b (leased_case config h b ask of begins before pairs (list_any not b.opens) b.draw_failed).act → a ≡ b
leased_once config h ask of begins before pairs d a b fed m n =
    offering_once (length d.pairs) (length d.keys) a b fed
    (offering_of config h ask of begins before pairs d a (list_any not a.opens) a.draw_failed refl m)
    (offering_of config h ask of begins before pairs d b (list_any not b.opens) b.draw_failed refl n)

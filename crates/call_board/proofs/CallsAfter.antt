-- What an entry makes of the live calls, of their rounds and of their moments.
use Rattle.std.proofs.Common.{◌≡◌, ◌∙◌, refl, sym, ap, subst, ℕ, ◌≤◌, ◌<◌, ◌⊎◌, inl, inr, List, [], ◌∷◌, ◌++◌, map, filter, length, Bool, true, false, cond, not, None, ◌==◌, arith, length-append}
use Rattle.std.specs.Prelude.{◌&&◌}
use Rattle.relay_outside.specs.declared.settings.Config.{Config}
use Rattle.histories.specs.Words.{In, here, there, first, final, has}
use Rattle.histories.proofs.Lists.{in_append, maps, equal, equal_if}
use Rattle.offer_answer.specs.Rounds as round
use Rattle.offer_answer.specs.Rounds.{Round}
use Rattle.offer_answer.specs.Sides.{is_begun}
use Rattle.call_board.specs.Acts as act
use Rattle.call_board.specs.Acts.{Call, Offer, Answer, Act, BoardEntry, act}
use Rattle.call_board.specs.Calls.{begun, begun_by_act, rounds, round_of, is_round, moment_or_zero, first_moment, latest_moment, due_after, dues_by_act, dues, least, due_moment}
use Rattle.call_board.specs.Fits.{FitsBoard, IsFitting}
use Rattle.call_board.specs.Views.{CallView, call_view, with_round, change_call, without}
use Rattle.call_board.proofs.Once.{Once, once_filtered}
use Rattle.call_board.proofs.Sieves.{filter_both, filter_alike, filter_whole}
use Rattle.call_board.proofs.Tells.{answer_told, delay_told}
use Rattle.call_board.proofs.Calls.{begun_below, live_begun, offered_live}

abbrev number_of : Call → ℕ
number_of c = c.number

-- The rounds of a call.

begun_more : (h : List BoardEntry) (e : BoardEntry) → length (begun h) ≤ length (begun (e ∷ h))
begun_more h e = omega (arith, length-append (begun h) (begun_by_act (act e)))

round_case : (config : Config) (h : List BoardEntry) (e : BoardEntry) (n : ℕ) (a : Act) → IsFitting config h → FitsBoard config h e → act e ≡ a → is_round n a ≡ true → n < length (begun (e ∷ h))
round_case config h e n (act.Offered o) old fits is same =
    let i = live_begun (e ∷ h) o.of (offered_live config h e o old fits is) in
    let below = begun_below config (e ∷ h) o.of (fits, old) i in
    let number = equal_if o.of.number n same in omega (arith, below, number)
round_case config h e n (act.Answered a) old fits is same =
    let shown = answer_told config h e a fits is in
    let below = begun_below config h a.of old (live_begun h a.of shown.is_live) in
    let number = equal_if a.of.number n same in
    let more = begun_more h e in omega (arith, below, number, more)
round_case config h e n act.Repeated old fits is same = absurd (let q = same in cc)
round_case config h e n act.OutOfMemory old fits is same = absurd (let q = same in cc)
round_case config h e n (act.Failed code) old fits is same = absurd (let q = same in cc)
round_case config h e n (act.Undone code leases draws) old fits is same = absurd (let q = same in cc)
round_case config h e n (act.Deleted of) old fits is same = absurd (let q = same in cc)
round_case config h e n (act.Queried of) old fits is same = absurd (let q = same in cc)
round_case config h e n act.Told old fits is same = absurd (let q = same in cc)
round_case config h e n (act.Delayed of s) old fits is same = absurd (let q = same in cc)

no_round : (n : ℕ) (a : Act) → is_round n a ≡ false → round_of n a ≡ []
no_round n (act.Offered o) is = ap (λ b. cond b (round.Offered o.ask o.legs o.keys ∷ []) []) is
no_round n (act.Answered a) is = ap (λ b. cond b (round.Answered a.ask ∷ []) []) is
no_round n act.Repeated is = refl
no_round n act.OutOfMemory is = refl
no_round n (act.Failed code) is = refl
no_round n (act.Undone code leases draws) is = refl
no_round n (act.Deleted of) is = refl
no_round n (act.Queried of) is = refl
no_round n act.Told is = refl
no_round n (act.Delayed of s) is = refl

-- the entries that are rounds of a call
abbrev pub round_entries : ℕ → List BoardEntry → List BoardEntry
round_entries n h = filter (λ e. is_round n (act e)) h

fresh_case : (config : Config) (h : List BoardEntry) (e : BoardEntry) (n : ℕ) → IsFitting config h → FitsBoard config h e → length (begun (e ∷ h)) ≤ n →
    (rounds h n ≡ []) × (round_entries n h ≡ []) → (b : Bool) → is_round n (act e) ≡ b → (rounds (e ∷ h) n ≡ []) × (round_entries n (e ∷ h) ≡ [])
fresh_case config h e n old fits above rest true is = let below = round_case config h e n (act e) old fits refl is in absurd (omega (arith, above, below))
fresh_case config h e n old fits above rest false is = (
  ap (λ (rs : List Round). rs ++ rounds h n) (no_round n (act e) is) ∙ rest.0,
  ap (λ b. cond b (e ∷ round_entries n h) (round_entries n h)) is ∙ rest.1,
)

-- a call that was not begun has no rounds
pub rounds_fresh : (config : Config) (h : List BoardEntry) (n : ℕ) → IsFitting config h → length (begun h) ≤ n → (rounds h n ≡ []) × (round_entries n h ≡ [])
rounds_fresh config [] n fits above = (refl, refl)
rounds_fresh config (e ∷ h) n fits above =
    fresh_case config h e n fits.1 fits.0 above (rounds_fresh config h n fits.1 (let more = begun_more h e in omega (arith, above, more))) (is_round n (act e)) refl

-- a delete with a delay finds a call that was begun
due_case : (config : Config) (h : List BoardEntry) (e : BoardEntry) (n : ℕ) (a : Act) → IsFitting config h → FitsBoard config h e → act e ≡ a → length (begun h) ≤ n → dues_by_act n e.moment a ≡ []
due_case config h e n (act.Delayed of seconds) old fits is above = go (of.number == n) refl
  where
    go : (b : Bool) → (of.number == n) ≡ b → dues_by_act n e.moment (act.Delayed of seconds) ≡ []
    go true same =
        let shown = delay_told config h e of seconds fits is in
        let below = begun_below config h of old (live_begun h of shown.is_live) in
        let number = equal_if of.number n same in absurd (omega (arith, below, number, above))
    go false same = ap (λ b. cond b (due_after e.moment seconds ∷ []) []) same
due_case config h e n (act.Offered o) old fits is above = refl
due_case config h e n (act.Answered a) old fits is above = refl
due_case config h e n act.Repeated old fits is above = refl
due_case config h e n act.OutOfMemory old fits is above = refl
due_case config h e n (act.Failed code) old fits is above = refl
due_case config h e n (act.Undone code leases draws) old fits is above = refl
due_case config h e n (act.Deleted of) old fits is above = refl
due_case config h e n (act.Queried of) old fits is above = refl
due_case config h e n act.Told old fits is above = refl

-- a call that was not begun has no due moment
pub dues_fresh : (config : Config) (h : List BoardEntry) (n : ℕ) → IsFitting config h → length (begun h) ≤ n → dues h n ≡ []
dues_fresh config [] n fits above = refl
dues_fresh config (e ∷ h) n fits above =
    let more = begun_more h e in
    let before : length (begun h) ≤ n = omega (arith, above, more) in
    ap (λ (ds : List ℕ). ds ++ dues h n) (due_case config h e n (act e) fits.1 fits.0 refl before) ∙ dues_fresh config h n fits.1 before

begun_right : (xs ys : List Round) → is_begun ys ≡ true → is_begun (xs ++ ys) ≡ true
begun_right [] ys is = is
begun_right (x ∷ xs) ys is = refl

some_right : (e : BoardEntry) (es : List BoardEntry) (b : Bool) → 0 < length es → 0 < length (cond b (e ∷ es) es)
some_right e es true some = omega arith
some_right e es false some = some

-- that a call has rounds
abbrev HasRounds : List BoardEntry → ℕ → Type 0
HasRounds h n = (is_begun (rounds h n) ≡ true) × (0 < length (round_entries n h))

offered_first : (h : List BoardEntry) (e : BoardEntry) (o : Offer) (c : Call) → act e ≡ act.Offered o → (begins : Bool) → In c (cond begins (o.of ∷ []) []) → HasRounds (e ∷ h) c.number
offered_first h e o c is true (here same) =
    let number : (o.of.number == c.number) ≡ true = equal o.of.number c.number (ap number_of (sym same)) in
    let made : round_of c.number (act e) ≡ round.Offered o.ask o.legs o.keys ∷ [] = ap (round_of c.number) is ∙ ap (λ b. cond b (round.Offered o.ask o.legs o.keys ∷ []) []) number in
    let its : is_round c.number (act e) ≡ true = ap (is_round c.number) is ∙ number in (
      ap (λ (rs : List Round). is_begun (rs ++ rounds h c.number)) made,
      subst (λ b. 0 < length (cond b (e ∷ round_entries c.number h) (round_entries c.number h))) (sym its) (omega arith),
    )
offered_first h e o c is true (there i) = elim i [ ]
offered_first h e o c is false i = elim i [ ]

first_case : (h : List BoardEntry) (e : BoardEntry) (c : Call) (a : Act) → act e ≡ a → In c (begun_by_act a) → HasRounds (e ∷ h) c.number
first_case h e c (act.Offered o) is i = offered_first h e o c is o.begins i
first_case h e c (act.Answered a) is i = elim i [ ]
first_case h e c act.Repeated is i = elim i [ ]
first_case h e c act.OutOfMemory is i = elim i [ ]
first_case h e c (act.Failed code) is i = elim i [ ]
first_case h e c (act.Undone code leases draws) is i = elim i [ ]
first_case h e c (act.Deleted of) is i = elim i [ ]
first_case h e c (act.Queried of) is i = elim i [ ]
first_case h e c act.Told is i = elim i [ ]
first_case h e c (act.Delayed of s) is i = elim i [ ]

had_case : (h : List BoardEntry) (e : BoardEntry) (c : Call) → (In c (begun h) → HasRounds h c.number) → In c (begun h) ⊎ In c (begun_by_act (act e)) → HasRounds (e ∷ h) c.number
had_case h e c rest (inl i) =
    let r = rest i in
    (begun_right (round_of c.number (act e)) (rounds h c.number) r.0, some_right e (round_entries c.number h) (is_round c.number (act e)) r.1)
had_case h e c rest (inr i) = first_case h e c (act e) refl i

-- a call that was begun has rounds
pub rounds_had : (h : List BoardEntry) (c : Call) → In c (begun h) → (is_begun (rounds h c.number) ≡ true) × (0 < length (round_entries c.number h))
rounds_had [] c i = elim i [ ]
rounds_had (e ∷ h) c i = had_case h e c (rounds_had h c) (in_append (begun h) (begun_by_act (act e)) i)

final_more : (e : BoardEntry) (es : List BoardEntry) → 0 < length es → final (e ∷ es) ≡ final es
final_more e [] some = absurd (omega arith)
final_more e (f ∷ es) some = refl

-- What an entry makes of a call.

-- a call of which the entry is a round, or is none
pub call_after : (h : List BoardEntry) (e : BoardEntry) (c : Call) (made : Round) (b : Bool) → is_round c.number (act e) ≡ b → round_of c.number (act e) ≡ cond b (made ∷ []) [] →
    dues_by_act c.number e.moment (act e) ≡ [] → 0 < length (round_entries c.number h) → call_view (e ∷ h) c ≡ cond b (with_round made e.moment (call_view h c)) (call_view h c)
call_after h e c made true is its no_due some =
    let entries : round_entries c.number (e ∷ h) ≡ e ∷ round_entries c.number h = ap (λ b. cond b (e ∷ round_entries c.number h) (round_entries c.number h)) is in
    let p : rounds (e ∷ h) c.number ≡ made ∷ rounds h c.number = ap (λ (rs : List Round). rs ++ rounds h c.number) its in
    let q : first_moment (e ∷ h) c.number ≡ first_moment h c.number =
    ap (λ (es : List BoardEntry). moment_or_zero (final es)) entries ∙ ap moment_or_zero (final_more e (round_entries c.number h) some) in
    let r : latest_moment (e ∷ h) c.number ≡ e.moment = ap (λ (es : List BoardEntry). moment_or_zero (first es)) entries in
    let d : due_moment (e ∷ h) c.number ≡ due_moment h c.number = ap (λ (ds : List ℕ). least (ds ++ dues h c.number)) no_due in
    λ i. record { of = c; rounds = p i; first = q i; last = r i; due = d i }
call_after h e c made false is its no_due some =
    let entries : round_entries c.number (e ∷ h) ≡ round_entries c.number h = ap (λ b. cond b (e ∷ round_entries c.number h) (round_entries c.number h)) is in
    let p : rounds (e ∷ h) c.number ≡ rounds h c.number = ap (λ (rs : List Round). rs ++ rounds h c.number) its in
    let q : first_moment (e ∷ h) c.number ≡ first_moment h c.number = ap (λ (es : List BoardEntry). moment_or_zero (final es)) entries in
    let r : latest_moment (e ∷ h) c.number ≡ latest_moment h c.number = ap (λ (es : List BoardEntry). moment_or_zero (first es)) entries in
    let d : due_moment (e ∷ h) c.number ≡ due_moment h c.number = ap (λ (ds : List ℕ). least (ds ++ dues h c.number)) no_due in
    λ i. record { of = c; rounds = p i; first = q i; last = r i; due = d i }

-- a call that the entry begins
pub call_begun : (h : List BoardEntry) (e : BoardEntry) (c : Call) (made : Round) → is_round c.number (act e) ≡ true → round_of c.number (act e) ≡ made ∷ [] →
    dues_by_act c.number e.moment (act e) ≡ [] → rounds h c.number ≡ [] → round_entries c.number h ≡ [] → dues h c.number ≡ [] →
    call_view (e ∷ h) c ≡ record { of = c; rounds = made ∷ []; first = e.moment; last = e.moment; due = None }
call_begun h e c made is its no_due none no_entries no_dues =
    let entries : round_entries c.number (e ∷ h) ≡ e ∷ [] =
    ap (λ b. cond b (e ∷ round_entries c.number h) (round_entries c.number h)) is ∙ ap (λ (es : List BoardEntry). e ∷ es) no_entries in
    let p : rounds (e ∷ h) c.number ≡ made ∷ [] = ap (λ (rs : List Round). rs ++ rounds h c.number) its ∙ ap (λ (rs : List Round). made ∷ rs) none in
    let q : first_moment (e ∷ h) c.number ≡ e.moment = ap (λ (es : List BoardEntry). moment_or_zero (final es)) entries in
    let r : latest_moment (e ∷ h) c.number ≡ e.moment = ap (λ (es : List BoardEntry). moment_or_zero (first es)) entries in
    let d : due_moment (e ∷ h) c.number ≡ None = ap (λ (ds : List ℕ). least (ds ++ dues h c.number)) no_due ∙ ap least no_dues in
    λ i. record { of = c; rounds = p i; first = q i; last = r i; due = d i }

-- Lists of calls in which each number stands once.

eq_case : (a b : ℕ) → (s t : Bool) → (a == b) ≡ s → (b == a) ≡ t → s ≡ t
eq_case a b true true p q = refl
eq_case a b false false p q = refl
eq_case a b true false p q = absurd (let e = equal b a (sym (equal_if a b p)) in let wrong : true ≡ false = sym e ∙ q in cc)
eq_case a b false true p q = absurd (let e = equal a b (sym (equal_if b a q)) in let wrong : true ≡ false = sym e ∙ p in cc)

pub eq_swap : (a b : ℕ) → (a == b) ≡ (b == a)
eq_swap a b = eq_case a b (a == b) (b == a) refl refl

other_number : (n : ℕ) (c d : Call) (calls : List Call) → (In c.number (map number_of calls) → ⊥) → c.number ≡ n → In d calls → (b : Bool) → (d.number == n) ≡ b → (d.number == n) ≡ false
other_number n c d calls new is i true e = absurd (new (subst (λ m. In m (map number_of calls)) (equal_if d.number n e ∙ sym is) (maps number_of calls i)))
other_number n c d calls new is i false e = e

pub map_alike : {A B : Type 0} (f g : A → B) (xs : List A) → ((x : A) → In x xs → f x ≡ g x) → map f xs ≡ map g xs
map_alike f g [] alike = refl
map_alike f g (x ∷ xs) alike = ap (λ y. y ∷ map f xs) (alike x (here refl)) ∙ ap (λ ys. g x ∷ ys) (map_alike f g xs (λ y i. alike y (there i)))

-- a function that keeps the call of what it makes
pub record Views (f : Call → CallView) : Type 0 where
  pub of_is : (c : Call) → (f c).of.number ≡ c.number

on_case : (f : Call → CallView) (n : ℕ) (change : CallView → CallView) (c : Call) (calls : List Call) → (In c.number (map number_of calls) → ⊥) →
    change_call n change (map f calls) ≡ map (λ d. cond (d.number == n) (change (f d)) (f d)) calls → (b : Bool) → (c.number == n) ≡ b →
    cond b (change (f c) ∷ map f calls) (f c ∷ change_call n change (map f calls)) ≡ cond b (change (f c)) (f c) ∷ map (λ d. cond (d.number == n) (change (f d)) (f d)) calls
on_case f n change c calls new rest true is =
    ap (λ ds. change (f c) ∷ ds)
    (map_alike f (λ d. cond (d.number == n) (change (f d)) (f d)) calls
    (λ d i. sym (ap (λ b. cond b (change (f d)) (f d)) (other_number n c d calls new (equal_if c.number n is) i (d.number == n) refl))))
on_case f n change c calls new rest false is = ap (λ ds. f c ∷ ds) rest

-- one call is changed
pub changed_map : (f : Call → CallView) (n : ℕ) (change : CallView → CallView) (calls : List Call) → Views f → Once (map number_of calls) →
    change_call n change (map f calls) ≡ map (λ c. cond (c.number == n) (change (f c)) (f c)) calls
changed_map f n change [] views once = refl
changed_map f n change (c ∷ calls) views once =
    ap (λ m. cond (m == n) (change (f c) ∷ map f calls) (f c ∷ change_call n change (map f calls))) (views.of_is c)
    ∙ on_case f n change c calls once.0 (changed_map f n change calls views once.1) (c.number == n) refl

without_case : (f : Call → CallView) (n : ℕ) (c : Call) (calls : List Call) → (In c.number (map number_of calls) → ⊥) → without n (map f calls) ≡ map f (filter (λ d. not (n == d.number)) calls) →
    (b : Bool) → (c.number == n) ≡ b →
    cond b (map f calls) (f c ∷ without n (map f calls)) ≡ map f (cond (not b) (c ∷ filter (λ d. not (n == d.number)) calls) (filter (λ d. not (n == d.number)) calls))
without_case f n c calls new rest true is =
    ap (map f) (sym (filter_whole (λ (d : Call). not (n == d.number)) calls
    (λ d i. ap not (eq_swap n d.number ∙ other_number n c d calls new (equal_if c.number n is) i (d.number == n) refl))))
without_case f n c calls new rest false is = ap (λ ds. f c ∷ ds) rest

-- one call is gone
pub without_map : (f : Call → CallView) (n : ℕ) (calls : List Call) → Views f → Once (map number_of calls) → without n (map f calls) ≡ map f (filter (λ c. not (n == c.number)) calls)
without_map f n [] views once = refl
without_map f n (c ∷ calls) views once =
    ap (λ m. cond (m == n) (map f calls) (f c ∷ without n (map f calls))) (views.of_is c)
    ∙ without_case f n c calls once.0 (without_map f n calls views once.1) (c.number == n) refl
    ∙ ap (λ b. map f (cond (not b) (c ∷ filter (λ d. not (n == d.number)) calls) (filter (λ d. not (n == d.number)) calls))) (eq_swap c.number n)

-- without the calls of these numbers, one after the other
abbrev pub cleared : List Call → List CallView → List CallView
cleared [] cs = cs
cleared (of ∷ calls) cs = cleared calls (without of.number cs)

both_out : (a b : Bool) → (not a && not b) ≡ not (cond a true b)
both_out true b = refl
both_out false b = refl

-- these calls are gone
pub cleared_map : (f : Call → CallView) (gone calls : List Call) → Views f → Once (map number_of calls) →
    cleared gone (map f calls) ≡ map f (filter (λ c. not (has (map number_of gone) c.number)) calls)
cleared_map f [] calls views once = ap (map f) (sym (filter_whole (λ (c : Call). true) calls (λ c i. refl)))
cleared_map f (of ∷ gone) calls views once =
    let others = λ (c : Call). not (of.number == c.number) in
    let behind = λ (c : Call). not (has (map number_of gone) c.number) in
    ap (cleared gone) (without_map f of.number calls views once)
    ∙ cleared_map f gone (filter others calls) views (once_filtered number_of others calls once)
    ∙ ap (map f) (filter_both behind others calls
    ∙ filter_alike (λ c. others c && behind c) (λ c. not (has (map number_of (of ∷ gone)) c.number)) calls
    (λ c i. both_out (of.number == c.number) (has (map number_of gone) c.number)))

-- The calls: each number is begun once, and a call is live from its beginning to its end.
use Rattle.std.proofs.Common.{◌≡◌, ◌∙◌, sym, ap, subst, ℕ, zero, suc, ◌+◌, ◌≤◌, ◌<◌, ◌⊎◌, inl, inr, List, [], ◌∷◌, ◌++◌, map, length, Bool, true, false, cond, not, Some, refl, arith, length-append}
use Rattle.std.specs.Prelude.{◌||◌}
use Rattle.std.proofs.lemmas.List.{append-nil, map-append}
use Rattle.relay_outside.specs.declared.settings.Config.{Config}
use Rattle.histories.specs.Words.{In, here, has, numbers}
use Rattle.histories.proofs.Lists.{in_left, in_right, in_append, filtered, keeps, maps, mapped, has_it, it_has, first_is_in}
use Rattle.call_board.specs.Acts as act
use Rattle.call_board.specs.Acts.{Call, Offer, Act, Control, Turn, BoardEntry, act}
use Rattle.call_board.specs.Calls.{begun, begun_by_act, ended_by, ended_in, ended_by_act, has_ended, live, find_call, new_call}
use Rattle.call_board.specs.Fits.{FitsBoard, IsFitting}
use Rattle.call_board.proofs.Moments.{Later, now, after}
use Rattle.call_board.proofs.Once.{Once, once_equal, once_numbers, in_numbers}
use Rattle.call_board.proofs.Told.{Tells, IsTurn, IsCallOf, begins, goes_on}
use Rattle.call_board.proofs.Tells.{tells, offer_told, ended_live}

-- What an entry begins.

-- the entry began no call, or the one of the next number
pub data Begins (config : Config) (h : List BoardEntry) (calls : List Call) : Type 0 where
  nothing : calls ≡ [] → Begins config h calls
  a_call : (c : Call) (id : List ℕ) → calls ≡ c ∷ [] → c ≡ new_call h id → length (live h) < config.max_sessions → Begins config h calls

begins_case : (config : Config) (h : List BoardEntry) (id : List ℕ) (o : Offer) → IsCallOf config h id o → Begins config h (begun_by_act (act.Offered o))
begins_case config h id o (begins is_new of_is none room) = a_call o.of id (ap (λ b. cond b (o.of ∷ []) []) is_new) of_is room
begins_case config h id o (goes_on is_old found is_live) = nothing (ap (λ b. cond b (o.of ∷ []) []) is_old)

begins_by : (config : Config) (h : List BoardEntry) (e : BoardEntry) (a : Act) → Tells config h e a → Begins config h (begun_by_act a)
begins_by config h e (act.Offered o) shown = begins_case config h shown.id o shown.call_is
begins_by config h e act.Repeated shown = nothing refl
begins_by config h e act.OutOfMemory shown = nothing refl
begins_by config h e (act.Failed code) shown = nothing refl
begins_by config h e (act.Undone code leases draws) shown = nothing refl
begins_by config h e (act.Answered a) shown = nothing refl
begins_by config h e (act.Deleted of) shown = nothing refl
begins_by config h e (act.Queried of) shown = nothing refl
begins_by config h e act.Told shown = nothing refl
begins_by config h e (act.Delayed of s) shown = nothing refl

pub entry_begins : (config : Config) (h : List BoardEntry) (e : BoardEntry) → FitsBoard config h e → Begins config h (begun_by_act (act e))
entry_begins config h e fits = begins_by config h e (act e) (tells config h e fits)

numbers_end : (n count : ℕ) → numbers n (suc count) ≡ numbers n count ++ (n + count) ∷ []
numbers_end n zero = ap (λ m. m ∷ []) (omega arith)
numbers_end n (suc count) = ap (λ ms. n ∷ ms) (numbers_end (suc n) count ∙ ap (λ m. numbers (suc n) count ++ m ∷ []) (omega arith))

abbrev number_of : Call → ℕ
number_of c = c.number

numbers_more : (config : Config) (h : List BoardEntry) (calls : List Call) → map number_of (begun h) ≡ numbers 0 (length (begun h)) → Begins config h calls
    → map number_of (begun h ++ calls) ≡ numbers 0 (length (begun h ++ calls))
numbers_more config h calls rest (nothing none) = rw (none, append-nil) rest
numbers_more config h calls rest (a_call c id is c_is room) =
    let number : c.number ≡ length (begun h) = ap number_of c_is in
    let longer : length (begun h ++ c ∷ []) ≡ suc (length (begun h)) = omega (arith, length-append (begun h) (c ∷ [])) in
    rw (is, longer)
    (map-append number_of (begun h) (c ∷ []) ∙ ap (λ ms. ms ++ c.number ∷ []) rest ∙ ap (λ m. numbers 0 (length (begun h)) ++ m ∷ []) (number ∙ omega arith) ∙ sym (numbers_end 0 (length (begun h))))

-- the call that was begun n-th has the number n
pub begun_numbers : (config : Config) (h : List BoardEntry) → IsFitting config h → map (λ (c : Call). c.number) (begun h) ≡ numbers 0 (length (begun h))
begun_numbers config [] fits = refl
begun_numbers config (e ∷ h) fits = numbers_more config h (begun_by_act (act e)) (begun_numbers config h fits.1) (entry_begins config h e fits.0)

pub begun_below : (config : Config) (h : List BoardEntry) (c : Call) → IsFitting config h → In c (begun h) → c.number < length (begun h)
begun_below config h c fits i =
    let at = subst (λ ns. In c.number ns) (begun_numbers config h fits) (maps number_of (begun h) i) in
    let bounds = in_numbers c.number 0 (length (begun h)) at in
    omega (arith, bounds.1)

pub begun_once : (config : Config) (h : List BoardEntry) (c d : Call) → IsFitting config h → In c (begun h) → In d (begun h) → c.number ≡ d.number → c ≡ d
begun_once config h c d fits i j e =
    once_equal number_of (begun h) (subst Once (sym (begun_numbers config h fits)) (once_numbers 0 (length (begun h)))) i j e

-- What is live.

neither_left : (a b : Bool) → not (a || b) ≡ true → a ≡ false
neither_left true b h = absurd (let e = h in cc)
neither_left false b h = refl

neither_right : (a b : Bool) → not (a || b) ≡ true → not b ≡ true
neither_right true b h = absurd (let e = h in cc)
neither_right false b h = h

pub live_begun : (h : List BoardEntry) (c : Call) → In c (live h) → In c (begun h)
live_begun h c i = (filtered _ (begun h) i).0

pub live_numbers : (config : Config) (h : List BoardEntry) (c d : Call) → IsFitting config h → In c (live h) → In d (live h) → c.number ≡ d.number → c ≡ d
live_numbers config h c d fits i j e = begun_once config h c d fits (live_begun h c i) (live_begun h d j) e

pub found_live : (h : List BoardEntry) (id : List ℕ) (c : Call) → find_call h id ≡ Some c → In c (live h)
found_live h id c found = (filtered _ (live h) (first_is_in _ found)).0

live_or_begun : (h : List BoardEntry) (e : BoardEntry) (c : Call) → not (has_ended h c) ≡ true → In c (begun h) ⊎ In c (begun_by_act (act e)) → In c (live h) ⊎ In c (begun_by_act (act e))
live_or_begun h e c open_ (inl i) = inl (keeps _ (begun h) i open_)
live_or_begun h e c open_ (inr i) = inr i

-- a live call was live before, or the entry began it; and the entry did not end it
pub live_before : (h : List BoardEntry) (e : BoardEntry) (c : Call) → In c (live (e ∷ h)) →
    (In c (live h) ⊎ In c (begun_by_act (act e))) × (has (map (λ (d : Call). d.number) (ended_by e)) c.number ≡ false)
live_before h e c i =
    let f = filtered (λ (d : Call). not (has_ended (e ∷ h) d)) (begun (e ∷ h)) i in (
      live_or_begun h e c (neither_right (has (map number_of (ended_by e)) c.number) (has_ended h c) f.1) (in_append (begun h) (begun_by_act (act e)) f.0),
      neither_left (has (map number_of (ended_by e)) c.number) (has_ended h c) f.1,
    )

pub stays_live : (h : List BoardEntry) (e : BoardEntry) (c : Call) → In c (live h) → has (map (λ (d : Call). d.number) (ended_by e)) c.number ≡ false → In c (live (e ∷ h))
stays_live h e c i not_ended =
    let f = filtered (λ (d : Call). not (has_ended h d)) (begun h) i in
    keeps (λ (d : Call). not (has_ended (e ∷ h) d)) (begun (e ∷ h)) (in_left (begun h) (begun_by_act (act e)) f.0)
    (ap (λ b. not (b || has_ended h c)) not_ended ∙ f.1)

-- a call that has ended was begun
ended_case : (config : Config) (h : List BoardEntry) (e : BoardEntry) (n : ℕ) → IsFitting config h → FitsBoard config h e
    → In n (map number_of (ended_by e)) → n < length (begun h)
ended_case config h e n old fits i =
    let m = mapped number_of (ended_by e) i in
    let below = begun_below config h m.from old (live_begun h m.from (ended_live config h e m.from fits m.is_in)) in
    subst (λ x. x < length (begun h)) m.makes below

begun_grows : (h : List BoardEntry) (e : BoardEntry) → length (begun h) ≤ length (begun (e ∷ h))
begun_grows h e = omega (arith, length-append (begun h) (begun_by_act (act e)))

has_case : (config : Config) (h : List BoardEntry) (e : BoardEntry) (c : Call) → IsFitting config h → FitsBoard config h e
    → (has_ended h c ≡ true → c.number < length (begun h)) → (b : Bool) → has (map number_of (ended_by e)) c.number ≡ b → (b || has_ended h c) ≡ true
    → c.number < length (begun (e ∷ h))
has_case config h e c old fits rest true is h_ended =
    let below = ended_case config h e c.number old fits (has_it c.number (map number_of (ended_by e)) is) in
    let grows = begun_grows h e in omega (arith, below, grows)
has_case config h e c old fits rest false is h_ended =
    let below = rest h_ended in let grows = begun_grows h e in omega (arith, below, grows)

pub ended_begun : (config : Config) (h : List BoardEntry) (c : Call) → IsFitting config h → has_ended h c ≡ true → c.number < length (begun h)
ended_begun config [] c fits ended = absurd (let e = ended in cc)
ended_begun config (e ∷ h) c fits ended =
    has_case config h e c fits.1 fits.0 (ended_begun config h c fits.1) (has (map number_of (ended_by e)) c.number) refl ended

pub next_open : (config : Config) (h : List BoardEntry) (c : Call) → IsFitting config h → c.number ≡ length (begun h) → (b : Bool) → has_ended h c ≡ b → has_ended h c ≡ false
next_open config h c fits is true ended = absurd (let below = ended_begun config h c fits ended in omega arith)
next_open config h c fits is false ended = ended

-- the turn of an act that ends nothing ends nothing
pub ended_by_turn : (e : BoardEntry) (a : Act) → IsTurn e a → ended_by e ≡ ended_by_act a
ended_by_turn e a turn = ap ended_in turn.is_turn ∙ ap ended_by_act turn.acts

offered_case : (config : Config) (h : List BoardEntry) (e : BoardEntry) (o : Offer) (id : List ℕ) → IsFitting config h → act e ≡ act.Offered o
    → has (map number_of (ended_by e)) o.of.number ≡ false → IsCallOf config h id o → In o.of (live (e ∷ h))
offered_case config h e o id old is not_ended (goes_on is_old found is_live) = stays_live h e o.of is_live not_ended
offered_case config h e o id old is not_ended (begins is_new of_is none room) =
    let new : begun_by_act (act e) ≡ o.of ∷ [] = ap begun_by_act is ∙ ap (λ b. cond b (o.of ∷ []) []) is_new in
    keeps (λ (d : Call). not (has_ended (e ∷ h) d)) (begun (e ∷ h))
    (in_right (begun h) (begun_by_act (act e)) (subst (λ xs. In o.of xs) (sym new) (here refl)))
    (ap (λ b. not (b || has_ended h o.of)) not_ended ∙ ap not (next_open config h o.of old (ap number_of of_is) (has_ended h o.of) refl))

-- the call of an accepted offer is live after it
pub offered_live : (config : Config) (h : List BoardEntry) (e : BoardEntry) (o : Offer) → IsFitting config h → FitsBoard config h e → act e ≡ act.Offered o → In o.of (live (e ∷ h))
offered_live config h e o old fits is =
    let shown = offer_told config h e o fits is in
    offered_case config h e o shown.id old is (ap (λ xs. has (map number_of xs) o.of.number) (ended_by_turn e (act.Offered o) shown.turn)) shown.call_is

here_case : (h : List BoardEntry) (e : BoardEntry) (c : Call) → In c (live h) → (b : Bool) → has (map number_of (ended_by e)) c.number ≡ b
    → In c (live (e ∷ h)) ⊎ In c.number (map number_of (ended_by e))
here_case h e c i true is = inr (has_it c.number (map number_of (ended_by e)) is)
here_case h e c i false is = inl (stays_live h e c i is)

-- a call that was live and is not any more was ended by the entry
pub ended_here : (h : List BoardEntry) (e : BoardEntry) (c : Call) → In c (live h) → In c (live (e ∷ h)) ⊎ In c.number (map (λ (d : Call). d.number) (ended_by e))
ended_here h e c i = here_case h e c i (has (map number_of (ended_by e)) c.number) refl

or_right : (a b : Bool) → b ≡ true → (a || b) ≡ true
or_right true b h = refl
or_right false b h = h

pub ended_stays : (s h : List BoardEntry) (c : Call) → Later s h → has_ended s c ≡ true → has_ended h c ≡ true
ended_stays s h c (now e) ended = ap (λ x. has_ended x c) (sym e) ∙ ended
ended_stays s (e ∷ h) c (after late) ended = or_right (has (map number_of (ended_by e)) c.number) (has_ended h c) (ended_stays s h c late ended)

-- a call that was ended is never live again
pub ended_never : (s h : List BoardEntry) (e : BoardEntry) (c d : Call) → Later (e ∷ s) h → In c (ended_by e) → In d (live h) → d.number ≡ c.number → ⊥
ended_never s h e c d late i j same =
    let in_it : has (map number_of (ended_by e)) d.number ≡ true = it_has d.number (map number_of (ended_by e)) (subst (λ n. In n (map number_of (ended_by e))) (sym same) (maps number_of (ended_by e) i)) in
    let first : has_ended (e ∷ s) d ≡ true = ap (λ b. b || has_ended s d) in_it in
    let ended : has_ended h d ≡ true = ended_stays (e ∷ s) h d late first in
    let open_ : not (has_ended h d) ≡ true = (filtered (λ (x : Call). not (has_ended h x)) (begun h) j).1 in
    let wrong : not true ≡ true = ap not (sym ended) ∙ open_ in cc

open_case : (s h : List BoardEntry) (c : Call) → Later s h → not (has_ended h c) ≡ true → (b : Bool) → has_ended s c ≡ b → not b ≡ true
open_case s h c late open_ true is = let wrong : not true ≡ true = ap not (sym (ended_stays s h c late is)) ∙ open_ in absurd (cc)
open_case s h c late open_ false is = refl

-- a call that was begun by one moment and is live at a later one was live at the first
pub live_between : (s h : List BoardEntry) (c : Call) → Later s h → In c (begun s) → In c (live h) → In c (live s)
live_between s h c late i j =
    keeps (λ (x : Call). not (has_ended s x)) (begun s) i
    (open_case s h c late (filtered (λ (x : Call). not (has_ended h x)) (begun h) j).1 (has_ended s c) refl)

-- The legs of a call's cell are those that hold pairs for the call, in the order of their leases.
use Rattle.std.proofs.Common.{◌≡◌, ◌∙◌, sym, ap, subst, refl, ℕ, List, [], ◌∷◌, ◌++◌, Bool, true, false, cond, not, ◌&&◌, ◌||◌, ◌==◌, map, filter}
use Rattle.std.specs.List.{list_any}
use Rattle.relay_outside.specs.declared.settings.Config.{Config}
use Rattle.histories.specs.Words.{In, has}
use Rattle.histories.proofs.Lists.{filtered, maps, it_has, equal, equal_if}
use Rattle.port_pool.specs.declared.holder.Holder.{Holder}
use Rattle.port_pool.specs.Signals.{is_rejected}
use Rattle.port_pool.specs.declared.signal.SectionSignal.{SectionSignal}
use Rattle.offer_answer.specs.Rounds.{Round, Demand}
use Rattle.offer_answer.specs.Rounds as round
use Rattle.offer_answer.specs.Plan.{demand, signal}
use Rattle.call_cell.specs.Cells.{legs, since_end}
use Rattle.call_board.specs.Acts as act
use Rattle.call_board.specs.Acts.{Act, Call, BoardEntry}
use Rattle.call_board.specs.Calls.{begun, live, has_ended, rounds, round_of, rounds_of_call, find_call, ended_by}
use Rattle.call_board.specs.Pairs.{held, closes_leg, closes_leg_act, closed_of, legs_of_act}
use Rattle.call_board.specs.Fits.{FitsBoard, IsFitting}
use Rattle.call_board.proofs.Held.{new_leg}
use Rattle.call_board.proofs.Tells.{offer_told, answer_told}
use Rattle.relay_core.specs.Entries.{Entry, board_history, cell_history}
use Rattle.relay_core.specs.Legal.{Orderly}
use Rattle.relay_core.specs.Turns.{IsAbove}
use Rattle.relay_core.proofs.Histories.{good_history}
use Rattle.relay_core.proofs.Rounded.{entries_of}
use Rattle.relay_core.proofs.CallRounds.{its_rounds, told_call}
use Rattle.relay_core.proofs.Fronts.{live_cell_is}
use Rattle.relay_core.proofs.Turns.{filter_append, filter_none, filter_every}

-- Two filters.

swap_by : (p q r : Holder → Bool) (x : Holder) (xs : List Holder) → (p x ≡ true → q x ≡ r x) → filter p (filter q xs) ≡ filter r (filter p xs)
    → (s t : Bool) → p x ≡ s → q x ≡ t → filter p (cond t (x ∷ filter q xs) (filter q xs)) ≡ filter r (cond s (x ∷ filter p xs) (filter p xs))
swap_by p q r x xs same rest true true ps qt =
    ap (λ (b : Bool). cond b (x ∷ filter p (filter q xs)) (filter p (filter q xs))) ps
    ∙ ap (λ (ys : List Holder). x ∷ ys) rest
    ∙ ap (λ (b : Bool). cond b (x ∷ filter r (filter p xs)) (filter r (filter p xs))) (sym qt ∙ same ps)
swap_by p q r x xs same rest true false ps qt =
    rest ∙ ap (λ (b : Bool). cond b (x ∷ filter r (filter p xs)) (filter r (filter p xs))) (sym qt ∙ same ps)
swap_by p q r x xs same rest false true ps qt =
    ap (λ (b : Bool). cond b (x ∷ filter p (filter q xs)) (filter p (filter q xs))) ps ∙ rest
swap_by p q r x xs same rest false false ps qt = rest

filter_swap : (p q r : Holder → Bool) (xs : List Holder) → ((x : Holder) → p x ≡ true → q x ≡ r x) → filter p (filter q xs) ≡ filter r (filter p xs)
filter_swap p q r [] same = refl
filter_swap p q r (x ∷ xs) same =
    swap_by p q r x xs (same x) (filter_swap p q r xs same) (p x) (q x) refl refl
    ∙ refl

-- One more entry.

abbrev is_of : ℕ → Holder → Bool
is_of number leg = leg.call == number

-- for a call that the entry doesn't end, what it closes is what it does
closes_is : (x : BoardEntry) (number : ℕ) (a : Act) (leg : Holder) → act.act x ≡ a → has (map (λ (c : Call). c.number) (ended_by x)) number ≡ false
    → is_of number leg ≡ true → not (closes_leg x leg) ≡ not (closes_leg_act a leg)
closes_is x number a leg q none is =
    let same : leg.call ≡ number = equal_if leg.call number is in
    let not_ended : has (map (λ (c : Call). c.number) (ended_by x)) leg.call ≡ false
    = subst (λ (n : ℕ). has (map (λ (c : Call). c.number) (ended_by x)) n ≡ false) (sym same) none in
    ap (λ (b : Bool). not (cond b true (closes_leg_act (act.act x) leg))) not_ended
    ∙ ap (λ (d : Act). not (closes_leg_act d leg)) q

held_of : (x : BoardEntry) (h : List BoardEntry) (number : ℕ) (a : Act) (stays : Holder → Bool) → act.act x ≡ a
    → has (map (λ (c : Call). c.number) (ended_by x)) number ≡ false
    → ((leg : Holder) → is_of number leg ≡ true → not (closes_leg_act a leg) ≡ stays leg)
    → filter (is_of number) (held (x ∷ h)) ≡ filter stays (filter (is_of number) (held h)) ++ filter (is_of number) (legs_of_act a)
held_of x h number a stays q none same =
    filter_append (is_of number) (filter (λ leg. not (closes_leg x leg)) (held h)) (legs_of_act (act.act x))
    ∙ ap (λ (ls : List Holder). ls ++ filter (is_of number) (legs_of_act (act.act x)))
    (filter_swap (is_of number) (λ leg. not (closes_leg x leg)) stays (held h) (λ leg is. closes_is x number a leg q none is ∙ same leg is))
    ∙ ap (λ (d : Act). filter stays (filter (is_of number) (held h)) ++ filter (is_of number) (legs_of_act d)) q

all_stay : (ls : List Holder) → filter (λ leg. true) ls ++ [] ≡ ls
all_stay [] = refl
all_stay (l ∷ ls) = ap (λ (ms : List Holder). l ∷ ms) (all_stay ls)

-- an entry that is of no such call, and leases nothing for it
idle_held : (x : BoardEntry) (h : List BoardEntry) (number : ℕ) (a : Act) → act.act x ≡ a → has (map (λ (c : Call). c.number) (ended_by x)) number ≡ false
    → ((leg : Holder) → is_of number leg ≡ true → closes_leg_act a leg ≡ false) → filter (is_of number) (legs_of_act a) ≡ []
    → filter (is_of number) (held (x ∷ h)) ≡ filter (is_of number) (held h)
idle_held x h number a q none closes no_legs =
    held_of x h number a (λ leg. true) q none (λ leg is. ap not (closes leg is))
    ∙ ap (λ (ls : List Holder). filter (λ leg. true) (filter (is_of number) (held h)) ++ ls) no_legs
    ∙ all_stay (filter (is_of number) (held h))

differs_in : (a b c : ℕ) → (a == b) ≡ false → c ≡ b → (a == c) ≡ false
differs_in a b c f q = ap (λ (n : ℕ). a == n) q ∙ f

abbrev LegsAre : List BoardEntry → ℕ → Type 0
LegsAre h number = legs (entries_of number (rounds h number)) ≡ filter (is_of number) (held h)

other_legs : (h : List BoardEntry) (number : ℕ) (legs_in : List Holder) (call : ℕ) → ((leg : Holder) → In leg legs_in → leg.call ≡ call) → (call == number) ≡ false
    → filter (is_of number) legs_in ≡ []
other_legs h number legs_in call of differs =
    filter_none (is_of number) legs_in (λ leg i. ap (λ (n : ℕ). n == number) (of leg i) ∙ differs)

by_offer : (config : Config) (h : List BoardEntry) (x : BoardEntry) (number : ℕ) (p : act.Offer) → IsFitting config h → FitsBoard config h x → act.act x ≡ act.Offered p
    → has (map (λ (c : Call). c.number) (ended_by x)) number ≡ false → LegsAre h number → (b : Bool) → (p.of.number == number) ≡ b → LegsAre (x ∷ h) number
by_offer config h x number p good fits q none rest false m =
    let no_more : rounds (x ∷ h) number ≡ rounds h number
    = ap (λ (a : Act). round_of number a ++ rounds h number) q ∙ ap (λ (b : Bool). cond b (round.Offered p.ask p.legs p.keys ∷ []) [] ++ rounds h number) m in
    ap (λ (rs : List Round). legs (entries_of number rs)) no_more
    ∙ rest
    ∙ sym (idle_held x h number (act.Offered p) q none
    (λ leg is. ap (λ (b : Bool). b && has p.dropped leg.section) (differs_in p.of.number number leg.call m (equal_if leg.call number is)))
    (other_legs h number p.legs p.of.number (λ leg i. (new_leg config h x p leg fits q i).0) m))
by_offer config h x number p good fits q none rest true m =
    let n : p.of.number ≡ number = equal_if p.of.number number m in
    let shown = offer_told config h x p fits q in
    let its : rounds_of_call h (find_call h shown.id) ≡ rounds h p.of.number = its_rounds config h shown.id p.of good (told_call config h x p shown) in
    let dropped : (demand (rounds h number) p.ask).dropped ≡ p.dropped
    = ap (λ (k : ℕ). (demand (rounds h k) p.ask).dropped) (sym n)
    ∙ ap (λ (rs : List Round). (demand rs p.ask).dropped) (sym its)
    ∙ ap (λ (d : Demand). d.dropped) (sym shown.demand_is) ∙ sym shown.dropped_are in
    let one_more : rounds (x ∷ h) number ≡ round.Offered p.ask p.legs p.keys ∷ rounds h number
    = ap (λ (a : Act). round_of number a ++ rounds h number) q ∙ ap (λ (b : Bool). cond b (round.Offered p.ask p.legs p.keys ∷ []) [] ++ rounds h number) m in
    ap (λ (rs : List Round). legs (entries_of number rs)) one_more
    ∙ ap (λ (ds : List ℕ). filter (λ leg. not (has ds leg.section)) (legs (entries_of number (rounds h number))) ++ p.legs) dropped
    ∙ ap (λ (ls : List Holder). filter (λ leg. not (has p.dropped leg.section)) ls ++ p.legs) rest
    ∙ ap (λ (ls : List Holder). filter (λ leg. not (has p.dropped leg.section)) (filter (is_of number) (held h)) ++ ls)
    (sym (filter_every (is_of number) p.legs (λ leg i. equal leg.call number ((new_leg config h x p leg fits q i).0 ∙ n))))
    ∙ sym (held_of x h number (act.Offered p) (λ leg. not (has p.dropped leg.section)) q none
    (λ leg is. ap (λ (b : Bool). not (b && has p.dropped leg.section)) (equal p.of.number leg.call (n ∙ sym (equal_if leg.call number is)))))

by_answer : (config : Config) (h : List BoardEntry) (x : BoardEntry) (number : ℕ) (a : act.Answer) → FitsBoard config h x → act.act x ≡ act.Answered a
    → has (map (λ (c : Call). c.number) (ended_by x)) number ≡ false → LegsAre h number → (b : Bool) → (a.of.number == number) ≡ b → LegsAre (x ∷ h) number
by_answer config h x number a fits q none rest false m =
    let no_more : rounds (x ∷ h) number ≡ rounds h number
    = ap (λ (d : Act). round_of number d ++ rounds h number) q ∙ ap (λ (b : Bool). cond b (round.Answered a.ask ∷ []) [] ++ rounds h number) m in
    ap (λ (rs : List Round). legs (entries_of number rs)) no_more
    ∙ rest
    ∙ sym (idle_held x h number (act.Answered a) q none
    (λ leg is. ap (λ (b : Bool). b && is_rejected a.signal leg.section) (differs_in a.of.number number leg.call m (equal_if leg.call number is))) refl)
by_answer config h x number a fits q none rest true m =
    let n : a.of.number ≡ number = equal_if a.of.number number m in
    let shown = answer_told config h x a fits q in
    let signals : signal (rounds h number) a.ask ≡ a.signal = ap (λ (k : ℕ). signal (rounds h k) a.ask) (sym n) ∙ sym shown.signal_is in
    let one_more : rounds (x ∷ h) number ≡ round.Answered a.ask ∷ rounds h number
    = ap (λ (d : Act). round_of number d ++ rounds h number) q ∙ ap (λ (b : Bool). cond b (round.Answered a.ask ∷ []) [] ++ rounds h number) m in
    ap (λ (rs : List Round). legs (entries_of number rs)) one_more
    ∙ ap (λ (s : List SectionSignal). filter (λ leg. not (is_rejected s leg.section)) (legs (entries_of number (rounds h number))) ++ []) signals
    ∙ ap (λ (ls : List Holder). filter (λ leg. not (is_rejected a.signal leg.section)) ls ++ []) rest
    ∙ sym (held_of x h number (act.Answered a) (λ leg. not (is_rejected a.signal leg.section)) q none
    (λ leg is. ap (λ (b : Bool). not (b && is_rejected a.signal leg.section)) (equal a.of.number leg.call (n ∙ sym (equal_if leg.call number is)))))

by_other : (h : List BoardEntry) (x : BoardEntry) (number : ℕ) (a : Act) → act.act x ≡ a → has (map (λ (c : Call). c.number) (ended_by x)) number ≡ false
    → round_of number a ≡ [] → ((leg : Holder) → closes_leg_act a leg ≡ false) → legs_of_act a ≡ [] → LegsAre h number → LegsAre (x ∷ h) number
by_other h x number a q none no_round closes no_legs rest =
    ap (λ (rs : List Round). legs (entries_of number rs)) (ap (λ (d : Act). round_of number d ++ rounds h number) q ∙ ap (λ (rs : List Round). rs ++ rounds h number) no_round)
    ∙ rest
    ∙ sym (idle_held x h number a q none (λ leg is. closes leg) (ap (λ (ls : List Holder). filter (is_of number) ls) no_legs))

by_act : (config : Config) (h : List BoardEntry) (x : BoardEntry) (number : ℕ) → IsFitting config h → FitsBoard config h x
    → has (map (λ (c : Call). c.number) (ended_by x)) number ≡ false → LegsAre h number → (a : Act) → act.act x ≡ a → LegsAre (x ∷ h) number
by_act config h x number good fits none rest (act.Offered p) q = by_offer config h x number p good fits q none rest (p.of.number == number) refl
by_act config h x number good fits none rest (act.Answered a) q = by_answer config h x number a fits q none rest (a.of.number == number) refl
by_act config h x number good fits none rest act.Repeated q = by_other h x number act.Repeated q none refl (λ leg. refl) refl rest
by_act config h x number good fits none rest act.OutOfMemory q = by_other h x number act.OutOfMemory q none refl (λ leg. refl) refl rest
by_act config h x number good fits none rest (act.Failed code) q = by_other h x number (act.Failed code) q none refl (λ leg. refl) refl rest
by_act config h x number good fits none rest (act.Undone code leases draws) q =
    by_other h x number (act.Undone code leases draws) q none refl (λ leg. refl) refl rest
by_act config h x number good fits none rest (act.Deleted of) q = by_other h x number (act.Deleted of) q none refl (λ leg. refl) refl rest
by_act config h x number good fits none rest (act.Queried of) q = by_other h x number (act.Queried of) q none refl (λ leg. refl) refl rest
by_act config h x number good fits none rest act.Told q = by_other h x number act.Told q none refl (λ leg. refl) refl rest
by_act config h x number good fits none rest (act.Delayed of s) q = by_other h x number (act.Delayed of s) q none refl (λ leg. refl) refl rest

none_here : (b c : Bool) → (b || c) ≡ false → (b ≡ false) × (c ≡ false)
none_here true c q = absurd (let k = q in cc)
none_here false c q = (refl, q)

legs_are : (config : Config) (h : List BoardEntry) (number : ℕ) → IsFitting config h
    → list_any (λ e. has (map (λ (d : Call). d.number) (ended_by e)) number) h ≡ false → LegsAre h number
legs_are config [] number good none = refl
legs_are config (x ∷ h) number good none =
    let both = none_here (has (map (λ (d : Call). d.number) (ended_by x)) number)
    (list_any (λ e. has (map (λ (d : Call). d.number) (ended_by e)) number) h) none in
    by_act config h x number good.1 good.0 both.0 (legs_are config h number good.1 both.1) (act.act x) refl

-- the legs of a live call that the board's history holds pairs for
pub live_legs : (config : Config) (h : List BoardEntry) (of : Call) → IsFitting config h → In of (live h)
    → legs (entries_of of.number (rounds h of.number)) ≡ filter (λ leg. leg.call == of.number) (held h)
live_legs config h of good i = legs_are config h of.number good (not_true (has_ended h of) (filtered (λ (c : Call). not (has_ended h c)) (begun h) i).1)
  where
    not_true : (b : Bool) → not b ≡ true → b ≡ false
    not_true true q = absurd (let k = q in cc)
    not_true false q = refl

-- At the board's next entry, the legs of a live call's cell are those that hold pairs for it, in the order of their leases
pub cell_legs : (config : Config) (l : List Entry) → Orderly config l → (n k : ℕ) (of : Call) → IsAbove l 0 n → In of (live (board_history l n)) → IsAbove l of.cell k
    → legs (since_end (cell_history l of.cell k)) ≡ filter (λ leg. leg.call == of.number) (held (board_history l n))
cell_legs config l o n k of above_board i above =
    (live_cell_is config l o n k of above_board i above).legs_are
    ∙ live_legs config (board_history l n) of (good_history config l o n) i

-- What an entry closes of a call.

both_by : (p q r : Holder → Bool) (x : Holder) (xs : List Holder) → (p x ≡ true → q x ≡ r x) → filter (λ y. p y && q y) xs ≡ filter r (filter p xs)
    → (s t : Bool) → p x ≡ s → q x ≡ t → filter (λ y. p y && q y) (x ∷ xs) ≡ filter r (cond s (x ∷ filter p xs) (filter p xs))
both_by p q r x xs same rest true t ps qt =
    ap (λ (b : Bool). cond (b && q x) (x ∷ filter (λ y. p y && q y) xs) (filter (λ y. p y && q y) xs)) ps
    ∙ ap (λ (b : Bool). cond b (x ∷ filter (λ y. p y && q y) xs) (filter (λ y. p y && q y) xs)) (same ps)
    ∙ ap (λ (ys : List Holder). cond (r x) (x ∷ ys) ys) rest
both_by p q r x xs same rest false t ps qt =
    ap (λ (b : Bool). cond (b && q x) (x ∷ filter (λ y. p y && q y) xs) (filter (λ y. p y && q y) xs)) ps ∙ rest

filter_both : (p q r : Holder → Bool) (xs : List Holder) → ((x : Holder) → p x ≡ true → q x ≡ r x) → filter (λ y. p y && q y) xs ≡ filter r (filter p xs)
filter_both p q r [] same = refl
filter_both p q r (x ∷ xs) same = both_by p q r x xs (same x) (filter_both p q r xs same) (p x) (q x) refl refl

closed_by : (h : List BoardEntry) (x : BoardEntry) (of : Call) (cell : List Holder) (goes : Holder → Bool) → cell ≡ filter (is_of of.number) (held h)
    → ((leg : Holder) → is_of of.number leg ≡ true → closes_leg x leg ≡ goes leg) → closed_of h x of ≡ filter goes cell
closed_by h x of cell goes is same =
    filter_both (is_of of.number) (closes_leg x) goes (held h) same ∙ ap (λ (ls : List Holder). filter goes ls) (sym is)

-- the end of a call closes all legs of its cell
pub ended_closes : (config : Config) (l : List Entry) → Orderly config l → (n k : ℕ) (x : BoardEntry) (of : Call) → IsAbove l 0 n → IsAbove l of.cell k
    → In of (live (board_history l n)) → In of (ended_by x) → closed_of (board_history l n) x of ≡ legs (since_end (cell_history l of.cell k))
ended_closes config l o n k x of above_board above alive ends =
    closed_by (board_history l n) x of (legs (since_end (cell_history l of.cell k))) (λ leg. true) (cell_legs config l o n k of above_board alive above)
    (λ leg is. ap (λ (b : Bool). cond b true (closes_leg_act (act.act x) leg))
    (ap (λ (m : ℕ). has (map (λ (c : Call). c.number) (ended_by x)) m) (equal_if leg.call of.number is)
    ∙ it_has of.number (map (λ (c : Call). c.number) (ended_by x)) (maps (λ (c : Call). c.number) (ended_by x) ends)))
    ∙ filter_every (λ leg. true) (legs (since_end (cell_history l of.cell k))) (λ leg i. refl)

-- an offer to a live call closes the legs of the sections that it drops
pub offer_closes : (config : Config) (l : List Entry) → Orderly config l → (n k : ℕ) (x : BoardEntry) (p : act.Offer) → IsAbove l 0 n → IsAbove l p.of.cell k
    → In p.of (live (board_history l n)) → act.act x ≡ act.Offered p → ended_by x ≡ []
    → closed_of (board_history l n) x p.of ≡ filter (λ leg. has p.dropped leg.section) (legs (since_end (cell_history l p.of.cell k)))
offer_closes config l o n k x p above_board above alive q ends =
    closed_by (board_history l n) x p.of (legs (since_end (cell_history l p.of.cell k))) (λ leg. has p.dropped leg.section)
    (cell_legs config l o n k p.of above_board alive above)
    (λ leg is. ap (λ (cs : List Call). cond (has (map (λ (c : Call). c.number) cs) leg.call) true (closes_leg_act (act.act x) leg)) ends
    ∙ ap (λ (a : Act). closes_leg_act a leg) q
    ∙ ap (λ (b : Bool). b && has p.dropped leg.section) (equal p.of.number leg.call (sym (equal_if leg.call p.of.number is))))

-- an answer closes the legs of the sections that it rejects
pub answer_closes : (config : Config) (l : List Entry) → Orderly config l → (n k : ℕ) (x : BoardEntry) (a : act.Answer) → IsAbove l 0 n → IsAbove l a.of.cell k
    → In a.of (live (board_history l n)) → act.act x ≡ act.Answered a → ended_by x ≡ []
    → closed_of (board_history l n) x a.of ≡ filter (λ leg. is_rejected a.signal leg.section) (legs (since_end (cell_history l a.of.cell k)))
answer_closes config l o n k x a above_board above alive q ends =
    closed_by (board_history l n) x a.of (legs (since_end (cell_history l a.of.cell k))) (λ leg. is_rejected a.signal leg.section)
    (cell_legs config l o n k a.of above_board alive above)
    (λ leg is. ap (λ (cs : List Call). cond (has (map (λ (c : Call). c.number) cs) leg.call) true (closes_leg_act (act.act x) leg)) ends
    ∙ ap (λ (d : Act). closes_leg_act d leg) q
    ∙ ap (λ (b : Bool). b && is_rejected a.signal leg.section) (equal a.of.number leg.call (sym (equal_if leg.call a.of.number is))))

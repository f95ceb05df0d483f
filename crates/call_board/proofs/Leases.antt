-- The generations: a pair and a generation name one leg.
use Rattle.std.proofs.Common.{◌≡◌, ◌∙◌, sym, ap, subst, ℕ, ◌+◌, ◌≤◌, ◌<◌, List, [], ◌∷◌, filter, length, cond, ◌==◌, refl, arith}
use Rattle.std.specs.Prelude.{count_by}
use Rattle.std.proofs.lemmas.List.Sums.{sum_by-append, length-filter}
use Rattle.relay_outside.specs.declared.settings.Config.{Config}
use Rattle.histories.specs.Words.{In}
use Rattle.histories.proofs.Lists.{keeps, maps, equal}
use Rattle.port_pool.specs.declared.holder.Holder.{Holder}
use Rattle.call_board.specs.Acts as act
use Rattle.call_board.specs.Acts.{Offer, Act, BoardEntry, act}
use Rattle.call_board.specs.Pairs.{all_leased, leased_by_act, next_generation, fronts, free_in}
use Rattle.call_board.specs.Fits.{FitsBoard, IsFitting}
use Rattle.call_board.proofs.Moments.{Later, now, after, Ordered, same, first_earlier, first_later, ordered, entry_fits}
use Rattle.call_board.proofs.Once.{once_equal}
use Rattle.call_board.proofs.Tells.{offer_told}
use Rattle.call_board.proofs.Held.{new_leg_is}
use Rattle.call_board.proofs.Keys.{same_entry}
use Rattle.call_board.proofs.Free.{new_legs_once}

-- a new leg has the generation that the next lease of its pair has
pub leg_generation : (config : Config) (h : List BoardEntry) (e : BoardEntry) (o : Offer) (a : Holder) → FitsBoard config h e → act e ≡ act.Offered o → In a o.legs → a.generation ≡ next_generation h a.pair
leg_generation config h e o a fits is i =
    let shown = offer_told config h e o fits is in
    (new_leg_is h o.of (fronts (free_in config h) shown.demand.pairs) shown.demand.pairs a (subst (λ xs. In a xs) shown.legs_are i)).generation_is

-- the generation rises by the count of the entry's leases of the pair
generation_step : (h : List BoardEntry) (e : BoardEntry) (pair : ℕ) → next_generation (e ∷ h) pair ≡ count_by (λ q. q == pair) (leased_by_act (act e)) + next_generation h pair
generation_step h e pair = let both = sum_by-append (λ (q : ℕ). cond (q == pair) 1 0) (leased_by_act (act e)) (all_leased h) in omega (arith, both)

pub generations_rise : (s h : List BoardEntry) (pair : ℕ) → Later s h → next_generation s pair ≤ next_generation h pair
generations_rise s h pair (now e) = let is : next_generation s pair ≡ next_generation h pair = ap (λ x. next_generation x pair) e in omega (arith, is)
generations_rise s (e ∷ h) pair (after late) =
    let rest = generations_rise s h pair late in let step = generation_step h e pair in omega (arith, rest, step)

length_some : (x : ℕ) (xs : List ℕ) → In x xs → 1 ≤ length xs
length_some x [] i = elim i [ ]
length_some x (y ∷ ys) i = omega arith

pub counted : (p : ℕ) (xs : List ℕ) → In p xs → 1 ≤ count_by (λ q. q == p) xs
counted p xs i =
    let some = length_some p (filter (λ q. q == p) xs) (keeps (λ q. q == p) xs i (equal p p refl)) in
    let count = length-filter (λ q. q == p) xs in omega (arith, some, count)

-- after a leg was leased, the next lease of its pair has a greater generation
pub leg_below_next : (config : Config) (h : List BoardEntry) (e : BoardEntry) (o : Offer) (a : Holder) → FitsBoard config h e → act e ≡ act.Offered o → In a o.legs → a.generation < next_generation (e ∷ h) a.pair
leg_below_next config h e o a fits is i =
    let in_leases : In a.pair (leased_by_act (act e)) = subst (λ (x : Act). In a.pair (leased_by_act x)) (sym is) (maps (λ (leg : Holder). leg.pair) o.legs i) in
    let some = counted a.pair (leased_by_act (act e)) in_leases in
    let step = generation_step h e a.pair in
    let generation = leg_generation config h e o a fits is i in omega (arith, some, step, generation)

-- legs that were leased at different moments differ in pair or generation
pub legs_apart : (config : Config) (s t : List BoardEntry) (e f : BoardEntry) (o p : Offer) (a b : Holder) → Later (e ∷ s) t → FitsBoard config s e → FitsBoard config t f
    → act e ≡ act.Offered o → act f ≡ act.Offered p → In a o.legs → In b p.legs → a.pair ≡ b.pair → a.generation ≡ b.generation → ⊥
legs_apart config s t e f o p a b late fits_e fits_f is_e is_f i j pairs generations =
    let first = leg_below_next config s e o a fits_e is_e i in
    let rise = generations_rise (e ∷ s) t a.pair late in
    let second : b.generation ≡ next_generation t a.pair = leg_generation config t f p b fits_f is_f j ∙ ap (next_generation t) (sym pairs) in
    absurd (omega (arith, first, rise, second))

once_case : (config : Config) (s t : List BoardEntry) (e f : BoardEntry) (o p : Offer) (a b : Holder) → FitsBoard config s e → FitsBoard config t f
    → act e ≡ act.Offered o → act f ≡ act.Offered p → In a o.legs → In b p.legs → a.pair ≡ b.pair → a.generation ≡ b.generation → Ordered e f s t → (e ∷ s ≡ f ∷ t) × (o ≡ p) × (a ≡ b)
once_case config s t e f o p a b fits_e fits_f is_e is_f i j pairs generations (same is) =
    let offers = same_entry e f s t o p is is_e is_f in
    (is, offers, once_equal (λ (leg : Holder). leg.pair) o.legs (new_legs_once config s e o fits_e is_e) i (subst (λ (x : Offer). In b x.legs) (sym offers) j) pairs)
once_case config s t e f o p a b fits_e fits_f is_e is_f i j pairs generations (first_earlier late) =
    absurd (legs_apart config s t e f o p a b late fits_e fits_f is_e is_f i j pairs generations)
once_case config s t e f o p a b fits_e fits_f is_e is_f i j pairs generations (first_later late) =
    absurd (legs_apart config t s f e p o b a late fits_f fits_e is_f is_e j i (sym pairs) (sym generations))

-- two legs of one pair and generation are one, of one moment
pub leg_once : (config : Config) (h s t : List BoardEntry) (e f : BoardEntry) (o p : Offer) (a b : Holder) → IsFitting config h → Later (e ∷ s) h → Later (f ∷ t) h
    → act e ≡ act.Offered o → act f ≡ act.Offered p → In a o.legs → In b p.legs → a.pair ≡ b.pair → a.generation ≡ b.generation → (e ∷ s ≡ f ∷ t) × (o ≡ p) × (a ≡ b)
leg_once config h s t e f o p a b fits late_e late_f is_e is_f i j pairs generations =
    once_case config s t e f o p a b (entry_fits config e s h late_e fits) (entry_fits config f t h late_f fits) is_e is_f i j pairs generations (ordered e f s t h late_e late_f)

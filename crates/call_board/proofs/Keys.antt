-- The drawn keys: each number is drawn once.
use Rattle.std.proofs.Common.{◌≡◌, ◌∙◌, sym, ap, subst, ℕ, ◌+◌, ◌≤◌, ◌<◌, ◌⊎◌, inl, inr, List, [], ◌∷◌, ◌++◌, map, length, Bool, true, false, cond, ◌==◌, refl, arith, length-append}
use Rattle.std.proofs.lemmas.List.{length-map}
use Rattle.relay_outside.specs.declared.settings.Config.{Config}
use Rattle.histories.specs.Words.{In, here, there}
use Rattle.histories.proofs.Lists.{in_left, in_right, in_append, mapped, equal_if}
use Rattle.port_pool.specs.Signals.{NewKey}
use Rattle.offer_answer.specs.Rounds as round
use Rattle.offer_answer.specs.Rounds.{Round, KeyPlace, drawn_for}
use Rattle.call_board.specs.Acts as act
use Rattle.call_board.specs.Acts.{Offer, Act, BoardEntry, act}
use Rattle.call_board.specs.Calls.{rounds, round_of}
use Rattle.call_board.specs.Pairs.{drawn, draws_of_act, drawn_keys_from}
use Rattle.call_board.specs.Fits.{FitsBoard, IsFitting}
use Rattle.call_board.proofs.Moments.{Later, now, after, Ordered, same, first_earlier, first_later, ordered, entry_fits}
use Rattle.call_board.proofs.Once.{Once, once_equal}
use Rattle.call_board.proofs.Tells.{offer_told}

abbrev number_of : NewKey → ℕ
number_of k = k.number

new_key_between : (n : ℕ) (draws : List (List ℕ)) (places : List KeyPlace) (k : NewKey) → In k (drawn_keys_from n draws places) → (n ≤ k.number) × (k.number < n + length (drawn_keys_from n draws places))
new_key_between n [] places k i = elim i [ ]
new_key_between n (bytes ∷ draws) [] k i = elim i [ ]
new_key_between n (bytes ∷ draws) (place ∷ places) k (here e) = let at : k.number ≡ n = ap number_of e in (omega arith, omega arith)
new_key_between n (bytes ∷ draws) (place ∷ places) k (there i) =
    let rest = new_key_between (n + 1) draws places k i in (omega (arith, rest.0), omega (arith, rest.1))

new_keys_once : (n : ℕ) (draws : List (List ℕ)) (places : List KeyPlace) → Once (map number_of (drawn_keys_from n draws places))
new_keys_once n [] places = tt
new_keys_once n (bytes ∷ draws) [] = tt
new_keys_once n (bytes ∷ draws) (place ∷ places) = (
  λ i. let m = mapped number_of (drawn_keys_from (n + 1) draws places) i in
      let later = new_key_between (n + 1) draws places m.from m.is_in in
      let is : m.from.number ≡ n = m.makes in
      absurd (omega (arith, later.0)),
  new_keys_once (n + 1) draws places,
)

-- the number of a key that an offer drew is its place among all keys that were drawn
pub key_between : (config : Config) (h : List BoardEntry) (e : BoardEntry) (o : Offer) (k : NewKey) → FitsBoard config h e → act e ≡ act.Offered o → In k o.keys →
    (length (drawn h) ≤ k.number) × (k.number < length (drawn (e ∷ h)))
key_between config h e o k fits is i =
    let shown = offer_told config h e o fits is in
    let place = new_key_between (length (drawn h)) shown.draws shown.demand.keys k (subst (λ ks. In k ks) shown.keys_are i) in
    let keys : length o.keys ≡ length (drawn_keys_from (length (drawn h)) shown.draws shown.demand.keys) = ap length shown.keys_are in
    let new : draws_of_act (act e) ≡ map (λ (key : NewKey). key.bytes) o.keys = ap draws_of_act is in
    let count : length (draws_of_act (act e)) ≡ length o.keys = ap length new ∙ simp length-map in
    let whole : length (drawn (e ∷ h)) ≡ length (drawn h) + length (draws_of_act (act e)) = length-append (drawn h) (draws_of_act (act e)) in
    (place.0, omega (arith, place.1))

-- the keys of one offer differ in number
pub keys_of_offer : (config : Config) (h : List BoardEntry) (e : BoardEntry) (o : Offer) (j k : NewKey) → FitsBoard config h e → act e ≡ act.Offered o
    → In j o.keys → In k o.keys → j.number ≡ k.number → j ≡ k
keys_of_offer config h e o j k fits is i l same_number =
    let shown = offer_told config h e o fits is in
    once_equal number_of o.keys (subst (λ ks. Once (map number_of ks)) (sym shown.keys_are) (new_keys_once (length (drawn h)) shown.draws shown.demand.keys)) i l same_number

pub drawn_grows : (s h : List BoardEntry) → Later s h → length (drawn s) ≤ length (drawn h)
drawn_grows s h (now e) = let is : length (drawn s) ≡ length (drawn h) = ap (λ x. length (drawn x)) e in omega arith
drawn_grows s (e ∷ h) (after late) =
    let rest = drawn_grows s h late in
    let whole : length (drawn (e ∷ h)) ≡ length (drawn h) + length (draws_of_act (act e)) = length-append (drawn h) (draws_of_act (act e)) in
    omega (arith, rest)

-- two offers at different moments have no key number in common
pub drawn_apart : (config : Config) (s t : List BoardEntry) (e f : BoardEntry) (o p : Offer) (k j : NewKey) → Later (e ∷ s) t → FitsBoard config s e → FitsBoard config t f
    → act e ≡ act.Offered o → act f ≡ act.Offered p → In k o.keys → In j p.keys → k.number ≡ j.number → ⊥
drawn_apart config s t e f o p k j late fits_e fits_f is_e is_f i l same_number =
    let first = key_between config s e o k fits_e is_e i in
    let second = key_between config t f p j fits_f is_f l in
    let grows = drawn_grows (e ∷ s) t late in
    absurd (omega (arith, first.1, second.0))

pub same_entry : (e f : BoardEntry) (s t : List BoardEntry) (o p : Offer) → e ∷ s ≡ f ∷ t → act e ≡ act.Offered o → act f ≡ act.Offered p → o ≡ p
same_entry e f s t o p is is_e is_f = let entries : e ≡ f = cc in let acts : act e ≡ act f = ap act entries in cc

once_case : (config : Config) (h s t : List BoardEntry) (e f : BoardEntry) (o p : Offer) (k j : NewKey) → FitsBoard config s e → FitsBoard config t f
    → act e ≡ act.Offered o → act f ≡ act.Offered p → In k o.keys → In j p.keys → k.number ≡ j.number → Ordered e f s t → (e ∷ s ≡ f ∷ t) × (o ≡ p) × (k ≡ j)
once_case config h s t e f o p k j fits_e fits_f is_e is_f i l same_number (same is) =
    let offers = same_entry e f s t o p is is_e is_f in
    (is, offers, keys_of_offer config s e o k j fits_e is_e i (subst (λ (x : Offer). In j x.keys) (sym offers) l) same_number)
once_case config h s t e f o p k j fits_e fits_f is_e is_f i l same_number (first_earlier late) =
    absurd (drawn_apart config s t e f o p k j late fits_e fits_f is_e is_f i l same_number)
once_case config h s t e f o p k j fits_e fits_f is_e is_f i l same_number (first_later late) =
    absurd (drawn_apart config t s f e p o j k late fits_f fits_e is_f is_e l i (sym same_number))

-- one key number is drawn at one moment, for one key
pub drawn_once : (config : Config) (h s t : List BoardEntry) (e f : BoardEntry) (o p : Offer) (k j : NewKey) → IsFitting config h → Later (e ∷ s) h → Later (f ∷ t) h
    → act e ≡ act.Offered o → act f ≡ act.Offered p → In k o.keys → In j p.keys → k.number ≡ j.number → (e ∷ s ≡ f ∷ t) × (o ≡ p) × (k ≡ j)
drawn_once config h s t e f o p k j fits late_e late_f is_e is_f i l same_number =
    once_case config h s t e f o p k j (entry_fits config e s h late_e fits) (entry_fits config f t h late_f fits) is_e is_f i l same_number (ordered e f s t h late_e late_f)

-- the moment at which an offer of the call drew the key
pub record Drew (h : List BoardEntry) (call : ℕ) (k : NewKey) : Type 0 where
  pub entry : BoardEntry
  pub before : List BoardEntry
  pub late : Later (entry ∷ before) h
  pub offer : Offer
  pub acts : act entry ≡ act.Offered offer
  pub of_call : offer.of.number ≡ call
  pub has_key : In k offer.keys

tail_split : (k : NewKey) (keys : List NewKey) (xs ys : List Round) → In k (drawn_for xs) ⊎ In k (drawn_for ys) → In k (keys ++ drawn_for xs) ⊎ In k (drawn_for ys)
tail_split k keys xs ys (inl i) = inl (in_right keys (drawn_for xs) i)
tail_split k keys xs ys (inr i) = inr i

offered_split : (k : NewKey) (keys : List NewKey) (xs ys : List Round) → (In k (drawn_for (xs ++ ys)) → In k (drawn_for xs) ⊎ In k (drawn_for ys))
    → In k keys ⊎ In k (drawn_for (xs ++ ys)) → In k (keys ++ drawn_for xs) ⊎ In k (drawn_for ys)
offered_split k keys xs ys rest (inl i) = inl (in_left keys (drawn_for xs) i)
offered_split k keys xs ys rest (inr i) = tail_split k keys xs ys (rest i)

drawn_for_split : (k : NewKey) (xs ys : List Round) → In k (drawn_for (xs ++ ys)) → In k (drawn_for xs) ⊎ In k (drawn_for ys)
drawn_for_split k [] ys i = inr i
drawn_for_split k (round.Offered ask legs keys ∷ xs) ys i = offered_split k keys xs ys (drawn_for_split k xs ys) (in_append keys (drawn_for (xs ++ ys)) i)
drawn_for_split k (round.Answered ask ∷ xs) ys i = drawn_for_split k xs ys i

keys_alone : (k : NewKey) (keys : List NewKey) → In k keys ⊎ In k [] → In k keys
keys_alone k keys (inl i) = i
keys_alone k keys (inr i) = elim i [ ]

answer_has : (h : List BoardEntry) (e : BoardEntry) (call : ℕ) (k : NewKey) (a : act.Answer) → (b : Bool) → In k (drawn_for (cond b (round.Answered a.ask ∷ []) [])) → Drew (e ∷ h) call k
answer_has h e call k a true i = elim i [ ]
answer_has h e call k a false i = elim i [ ]

more_drew : (h : List BoardEntry) (e : BoardEntry) (call : ℕ) (k : NewKey) → Drew h call k → Drew (e ∷ h) call k
more_drew h e call k d = record { entry = d.entry; before = d.before; late = after d.late; offer = d.offer; acts = d.acts; of_call = d.of_call; has_key = d.has_key }

offer_has : (h : List BoardEntry) (e : BoardEntry) (call : ℕ) (o : Offer) (k : NewKey) → act e ≡ act.Offered o → (b : Bool) → (o.of.number == call) ≡ b
    → In k (drawn_for (cond b (round.Offered o.ask o.legs o.keys ∷ []) [])) → Drew (e ∷ h) call k
offer_has h e call o k is true same_call i = record {
  entry = e;
  before = h;
  late = now refl;
  offer = o;
  acts = is;
  of_call = equal_if o.of.number call same_call;
  has_key = keys_alone k o.keys (in_append o.keys [] i);
}
offer_has h e call o k is false same_call i = elim i [ ]

act_has : (h : List BoardEntry) (e : BoardEntry) (call : ℕ) (k : NewKey) (a : Act) → act e ≡ a → In k (drawn_for (round_of call a)) → Drew (e ∷ h) call k
act_has h e call k (act.Offered o) is i = offer_has h e call o k is (o.of.number == call) refl i
act_has h e call k (act.Answered a) is i = answer_has h e call k a (a.of.number == call) i
act_has h e call k act.Repeated is i = elim i [ ]
act_has h e call k act.OutOfMemory is i = elim i [ ]
act_has h e call k (act.Failed code) is i = elim i [ ]
act_has h e call k (act.Undone code leases draws) is i = elim i [ ]
act_has h e call k (act.Deleted of) is i = elim i [ ]
act_has h e call k (act.Queried of) is i = elim i [ ]
act_has h e call k act.Told is i = elim i [ ]
act_has h e call k (act.Delayed of s) is i = elim i [ ]

drew_case : (h : List BoardEntry) (e : BoardEntry) (call : ℕ) (k : NewKey) → (In k (drawn_for (rounds h call)) → Drew h call k)
    → In k (drawn_for (round_of call (act e))) ⊎ In k (drawn_for (rounds h call)) → Drew (e ∷ h) call k
drew_case h e call k rest (inl i) = act_has h e call k (act e) refl i
drew_case h e call k rest (inr i) = more_drew h e call k (rest i)

-- a key that was drawn for a call was drawn by an offer of it
pub drawn_for_drew : (h : List BoardEntry) (call : ℕ) (k : NewKey) → In k (drawn_for (rounds h call)) → Drew h call k
drawn_for_drew [] call k i = elim i [ ]
drawn_for_drew (e ∷ h) call k i = drew_case h e call k (drawn_for_drew h call k) (drawn_for_split k (round_of call (act e)) (rounds h call) i)

-- The states go into their slots in the order of the spots, and come back in the order of the places.
use Rattle.std.proofs.Common.{◌≡◌, ◌≢◌, ℕ, ◌+◌, ◌*◌, ◌<◌, ◌≤◌, min, Bool, true, false, List, [], ◌∷◌, ◌++◌, length, set, get_or, Option, Some, None, slice_get, sym, refl, ap, ◌∙◌, subst, arith, lt_of_not-le, length-append, get_or-set_other, get_or-set_same}
use Rattle.std.specs.Option.{option_to_list}
use Rattle.std.proofs.lemmas.List.{append-nil}
use mathlib.Core.Option.{some, some-injective}
use mathlib.Core.Logic.{dite}
use native.Mathlib.Decide.{ℕ_discrete, dec_le}
use lib.ListN.{get_elem?}
use Rattle.atomic_table.proofs.Lists.{at_longer}
use Rattle.turn_table.specs.Layout.{spot_of, place_at}
use Rattle.turn_table.proofs.Lists.{get_longer, get_last}
use Rattle.turn_table.proofs.Spots.{spot_low, place_spot, one_spot, spot_place, place_low}

past_spot : (a b : ℕ) → b + 1 ≤ a → a ≢ b
past_spot a b h e = omega arith

next_spot : (a b : ℕ) → b + 1 ≤ a → b ≤ a
next_spot a b h = omega arith

early_spot : (a b : ℕ) → a < b + 1 → a ≢ b → a < b
early_spot a b h ne = omega arith

least : (a : ℕ) → 0 ≤ a
least a = omega arith

no_less : (a : ℕ) → a < 0 → ⊥
no_less a h = omega arith

at_last : {A : Type 0} (xs : List A) (x : A) → get_elem? (xs ++ x ∷ []) (length xs) ≡ some x
at_last [] x = refl
at_last (y ∷ ys) x = at_last ys x

-- before the slot of a spot is made: what of the states `was` is still aside, and what lies in slots
module _ {S : Type 0} (rows : ℕ) (was : List (Option S)) where
  abbrev pub Left : ℕ → List (Option S) → Type 0
  Left spot aside = (k : ℕ) → k < 960 * rows → spot ≤ spot_of rows k → get_or aside k None ≡ get_or was k None

  abbrev pub Laid : ℕ → List (Option S) → Type 0
  Laid spot slots = (k : ℕ) → k < 960 * rows → spot_of rows k < spot → get_elem? slots (spot_of rows k) ≡ some (get_or was k None)

  pub laid_none : (slots : List (Option S)) → Laid 0 slots
  laid_none slots k k_low early = absurd (no_less (spot_of rows k) early)

  pub left_less : (spot : ℕ) (aside : List (Option S)) → spot < 960 * rows → Left spot aside → Left (spot + 1) (set aside (place_at rows spot) None)
  left_less spot aside low left k k_low past =
      get_or-set_other aside (place_at rows spot) k None None (λ e. past_spot (spot_of rows k) spot past (ap (spot_of rows) e ∙ spot_place rows spot low)) ∙ left k k_low (next_spot (spot_of rows k) spot past)

  -- what is aside for the place of the spot
  pub left_here : (spot : ℕ) (aside : List (Option S)) → spot < 960 * rows → Left spot aside → get_or aside (place_at rows spot) None ≡ get_or was (place_at rows spot) None
  left_here spot aside low left = left (place_at rows spot) (place_low rows spot low) (subst (λ i. spot ≤ i) (sym (spot_place rows spot low)) (omega arith))

  pub laid_more : (spot : ℕ) (slots : List (Option S)) (y : Option S) → spot < 960 * rows → length slots ≡ spot → y ≡ get_or was (place_at rows spot) None → Laid spot slots → Laid (spot + 1) (slots ++ y ∷ [])
  laid_more spot slots y low long is laid k k_low early = dite (ℕ_discrete (spot_of rows k) spot)
      (λ e. let p : k ≡ place_at rows spot = sym (place_spot rows k k_low) ∙ ap (place_at rows) e in
      ap (get_elem? (slots ++ y ∷ [])) (e ∙ sym long) ∙ (at_last slots y ∙ ap some (is ∙ ap (λ i. get_or was i None) (sym p))))
      (λ ne. at_longer slots (y ∷ []) (spot_of rows k) (get_or was k None) (laid k k_low (early_spot (spot_of rows k) spot early ne)))

  -- at the end each state lies in the slot of its place
  pub laid_all : (spot : ℕ) (slots : List (Option S)) → 960 * rows ≤ spot → Laid spot slots → (k : ℕ) → k < 960 * rows → get_elem? slots (spot_of rows k) ≡ some (get_or was k None)
  laid_all spot slots high laid k low = laid k low (before (spot_of rows k) (spot_low rows k low))
    where
      before : (a : ℕ) → a < 960 * rows → a < spot
      before a h = omega arith

-- before the slot of a place is taken: which slots are full, and what is back
module _ (rows : ℕ) where
  abbrev pub Full : ℕ → List Bool → Type 0
  Full place filled = (k : ℕ) → k < 960 * rows → place ≤ k → get_or filled (spot_of rows k) false ≡ true

  abbrev pub Taken : ℕ → List Bool → Type 0
  Taken place filled = (k : ℕ) → k < place → get_or filled (spot_of rows k) false ≡ false

  pub full_less : (place : ℕ) (filled : List Bool) → place < 960 * rows → Full place filled → Full (place + 1) (set filled (spot_of rows place) false)
  full_less place filled low full k k_low past =
      get_or-set_other filled (spot_of rows place) (spot_of rows k) false false (λ e. past_spot k place past (one_spot rows k place k_low low e)) ∙ full k k_low (next_spot k place past)

  pub full_first : (filled : List Bool) (n : ℕ) → ((j : ℕ) → 0 ≤ j → j < n → get_or filled j false ≡ true) → n ≡ 960 * rows → Full 0 filled
  full_first filled n full deep k low past = full (spot_of rows k) (least (spot_of rows k)) (subst (λ m. spot_of rows k < m) (sym deep) (spot_low rows k low))

  pub taken_none : (filled : List Bool) → Taken 0 filled
  taken_none filled k early = absurd (no_less k early)

  pub taken_more : (place : ℕ) (filled : List Bool) → place < 960 * rows → spot_of rows place < length filled → Taken place filled → Taken (place + 1) (set filled (spot_of rows place) false)
  taken_more place filled low inside taken k early = dite (ℕ_discrete k place)
      (λ e. ap (λ i. get_or (set filled (spot_of rows place) false) (spot_of rows i) false) e ∙ get_or-set_same filled (spot_of rows place) false false inside)
      (λ ne. get_or-set_other filled (spot_of rows place) (spot_of rows k) false false (λ e. ne (one_spot rows k place (omega arith) low e)) ∙ taken k (omega arith))

  -- at the end no slot is full
  pub all_taken : (place : ℕ) (filled : List Bool) → 960 * rows ≤ place → Taken place filled → (i : ℕ) → i < 960 * rows → get_or filled i false ≡ false
  all_taken place filled high taken i low = subst (λ j. get_or filled j false ≡ false) (spot_place rows i low) (taken (place_at rows i) (before (place_at rows i) (place_low rows i low)))
    where
      before : (a : ℕ) → a < 960 * rows → a < place
      before a h = omega arith

module _ {S : Type 0} (rows places : ℕ) (there : List (Option S)) where
  abbrev pub Home : Type 0
  Home = (k : ℕ) → k < places → (x : S) × (get_elem? there (spot_of rows k) ≡ some (Some x))

  abbrev pub Spare : Type 0
  Spare = (k : ℕ) → places ≤ k → k < 960 * rows → get_elem? there (spot_of rows k) ≡ some None

  abbrev pub Back : ℕ → List S → Type 0
  Back place states = (k : ℕ) (x : S) → k < place → k < places → get_elem? there (spot_of rows k) ≡ some (Some x) → slice_get states k ≡ Some x

  -- what lies in the slot of a place is its state, and of a spare spot nothing
  pub state_in : Home → (k : ℕ) (y : Option S) → k < places → get_elem? there (spot_of rows k) ≡ some y → (x : S) × (y ≡ Some x)
  state_in home k y inside at = let h = home k inside in (h.0, some-injective y (Some h.0) (sym at ∙ h.1))

  pub none_in : Spare → (k : ℕ) (y : Option S) → places ≤ k → k < 960 * rows → get_elem? there (spot_of rows k) ≡ some y → y ≡ None
  none_in spare k y past low at = some-injective y None (sym at ∙ spare k past low)

  -- so a slot that isn't empty is that of a place
  pub room_left : Spare → (k : ℕ) (y : Option S) (x : S) → y ≡ Some x → k < 960 * rows → get_elem? there (spot_of rows k) ≡ some y → k < places
  room_left spare k y x is low at = dite (dec_le places k) (λ past. absurd (let e : None ≡ Some x = sym (none_in spare k y past low at) ∙ is in cc)) (λ inside. lt_of_not-le inside)

  pub count_more : Home → Spare → (k : ℕ) (states : List S) (y : Option S) → k < 960 * rows → get_elem? there (spot_of rows k) ≡ some y → length states ≡ min k places → length (states ++ option_to_list y) ≡ min (k + 1) places
  count_more home spare k states y low at long = dite (dec_le places k)
      (λ past. ap (λ z. length (states ++ option_to_list z)) (none_in spare k y past low at) ∙ (ap length (append-nil states) ∙ (long ∙ same past)))
      (λ more. let inside = lt_of_not-le more in let h = state_in home k y inside at in ap (λ z. length (states ++ option_to_list z)) h.1 ∙ one h.0 inside)
    where
      same : places ≤ k → min k places ≡ min (k + 1) places
      same past = omega arith

      one : (x : S) → k < places → length (states ++ x ∷ []) ≡ min (k + 1) places
      one x inside = let a = length-append states (x ∷ []) in let l = long in omega arith

  pub back_none : (states : List S) → Back 0 states
  back_none states k x early inside at = absurd (no_less k early)

  pub back_more : Home → Spare → (place : ℕ) (states : List S) (y : Option S) → place < 960 * rows → get_elem? there (spot_of rows place) ≡ some y → length states ≡ min place places → Back place states → Back (place + 1) (states ++ option_to_list y)
  back_more home spare place states y low at long back k x early inside at' = dite (ℕ_discrete k place)
      (λ e. let p : length states ≡ place = omega arith in
      let is : y ≡ Some x = some-injective y (Some x) (sym at ∙ (ap (λ i. get_elem? there (spot_of rows i)) (sym e) ∙ at')) in
      ap (λ z. slice_get (states ++ option_to_list z) k) is ∙ (ap (slice_get (states ++ x ∷ [])) (e ∙ sym p) ∙ get_last states x))
      (λ ne. get_longer states (option_to_list y) k x (back k x (omega arith) inside at'))

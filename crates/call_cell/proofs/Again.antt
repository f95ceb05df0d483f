-- What an offer and an answer ask of a cell's history holds of each history for which the cell stands, where it holds of one.
use Rattle.std.proofs.Common.{◌≡◌, refl, ap, subst, sym, ◌∙◌, ℕ, ◌<◌, ◌^◌, arith, Bool, true, false, List, [], ◌∷◌, ◌++◌, Some, None, filter, not, inl, inr}
use Rattle.std.specs.List.{list_any}
use Rattle.sdes_lines.specs.declared.crypto_line.Suite.{Suite}
use Rattle.sdes_lines.specs.declared.crypto_line.Suite.TheVariants.{Tag80, Tag32}
use Rattle.relay_outside.specs.declared.settings.Config.{Config}
use Rattle.histories.specs.Words.{In, here, first, has}
use Rattle.histories.proofs.Lists.{in_left, in_right, in_append, filtered, keeps, first_is_in, maps, mapped}
use Rattle.port_pool.specs.declared.holder.Holder.{Holder}
use Rattle.port_pool.specs.declared.signal.SectionSignal.{SectionSignal}
use Rattle.port_pool.specs.Signals.{NewKey, same_leg, suite_eq}
use Rattle.call_cell.specs.declared.leg.Leg.{Leg}
use Rattle.call_cell.specs.declared.prepare.Prepare as prepared
use Rattle.call_cell.specs.declared.cell.Cell.{Cell}
use Rattle.call_cell.specs.Cells.{CellEntry, legs, since_end, key_numbered}
use Rattle.call_cell.specs.LegKeys.{keys_for, key_number_for, key_number_of, is_for_leg, OnePerSuite}
use Rattle.call_cell.specs.Demands.{CountsBelow, accepted_count, sent_count}
use Rattle.call_cell.specs.Counts.{accepted_in, sent_in, as_counted}
use Rattle.call_cell.specs.LegHistories.{LegStandsFor, LegsStandFor}
use Rattle.call_cell.specs.CellHistories.{CellFor}
use Rattle.call_cell.specs.Commits.{NamesKeys}
use Rattle.call_cell.specs.Preparations.{CanCome, added, prepare_entry}
use Rattle.call_cell.proofs.Legs.{is_same_leg}
use Rattle.call_cell.proofs.Few.{each_in}
use Rattle.call_cell.proofs.KeysEqual.{suite_is}
use Rattle.call_cell.proofs.PrepareSteps.{keys_stay, keys_new, any_true}

-- The keys of a leg.

-- a key of the same suite and number
pub record Twin (key : NewKey) (keys : List NewKey) : Type 0 where
  pub other : NewKey
  pub is_there : In other keys
  pub suite : other.suite ≡ key.suite
  pub number : other.number ≡ key.number

suite_itself : (s : Suite) → suite_eq s s ≡ true
suite_itself Tag80 = refl
suite_itself Tag32 = refl

for_suite : Suite → NewKey → Bool
for_suite suite key = suite_eq key.suite suite

first_there : (key : NewKey) (keys : List NewKey) → In key keys → (k : NewKey) × (first keys ≡ Some k)
first_there key [] i = elim i [ ]
first_there key (k ∷ keys) i = (k, refl)

-- the key of a leg for a suite is the one that the leg's contexts are of
key_is : (key : NewKey) (keys : List NewKey) → In key keys → OnePerSuite keys → key_number_for key.suite keys ≡ Some key.number
unfolding for_suite
key_is key keys i one =
    let test : NewKey → Bool = for_suite key.suite in
    let f = first_there key (filter test keys) (keeps test keys i (suite_itself key.suite)) in
    let there = filtered test keys (first_is_in (filter test keys) f.1) in
    ap key_number_of f.1 ∙ ap Some (one f.0 key there.0 i (suite_is f.0.suite key.suite there.1))

first_numbered : (keys : List NewKey) (n : ℕ) → key_number_of (first keys) ≡ Some n → (key : NewKey) × In key keys × (key.number ≡ n)
first_numbered [] n q = absurd (let e = q in cc)
first_numbered (key ∷ keys) n q = (key, here refl, (let e = q in cc))

twin_of : (key : NewKey) (keys : List NewKey) → key_number_for key.suite keys ≡ Some key.number → Twin key keys
unfolding for_suite
twin_of key keys q =
    let test : NewKey → Bool = for_suite key.suite in
    let f = first_numbered (filter test keys) key.number q in
    let there = filtered test keys f.1 in
    record { other = f.0; is_there = there.0; suite = suite_is f.0.suite key.suite there.1; number = f.2 }

-- one leg, two histories
twin_for : {O : Type 0} (config : Config) (h k : List CellEntry) (leg : Leg O) → LegStandsFor config h leg → LegStandsFor config k leg
    → (key : NewKey) → In key (keys_for k leg.holder) → Twin key (keys_for h leg.holder)
twin_for config h k leg for again key i =
    twin_of key (keys_for h leg.holder)
    (sym (for.held key.suite) ∙ again.held key.suite ∙ key_is key (keys_for k leg.holder) i again.one_each)

twins : {O : Type 0} (config : Config) (h k : List CellEntry) (those : List (Leg O)) → LegsStandFor config h those → LegsStandFor config k those
    → (leg : Holder) → In leg (legs k) → (key : NewKey) → In key (keys_for k leg) → Twin key (keys_for h leg)
twins {O} config h k those for again leg i =
    let m = mapped (λ (x : Leg O). x.holder) those (subst (λ (l : List Holder). In leg l) (sym again.holders) i) in
    subst (λ (x : Holder). (key : NewKey) → In key (keys_for k x) → Twin key (keys_for h x)) m.makes
    (twin_for config h k m.from (each_in config h those m.from for m.is_in) (each_in config k those m.from again m.is_in))

itself : (key : NewKey) (keys : List NewKey) → In key keys → Twin key keys
itself key keys i = record { other = key; is_there = i; suite = refl; number = refl }

twin_in : (key : NewKey) (keys more : List NewKey) → Twin key more → Twin key (keys ++ more)
twin_in key keys more t = record { other = t.other; is_there = in_right keys more t.is_there; suite = t.suite; number = t.number }

-- over an offer, where its leg is one of it or has its twins
twin_case : (m call : ℕ) (new : List Holder) (keys : List NewKey) (dropped : List ℕ) (h k : List CellEntry) (leg : Holder) (b : Bool)
    → list_any (same_leg leg) new ≡ b → (b ≡ false → (key : NewKey) → In key (keys_for k leg) → Twin key (keys_for h leg))
    → (key : NewKey) → In key (keys_for (prepare_entry m call new keys dropped ∷ k) leg) → Twin key (keys_for (prepare_entry m call new keys dropped ∷ h) leg)
twin_case m call new keys dropped h k leg true q rest key i =
    subst (λ (l : List NewKey). Twin key l) (sym (keys_new m call new keys dropped h leg q))
    (itself key (filter (is_for_leg leg) keys ++ []) (subst (λ (l : List NewKey). In key l) (keys_new m call new keys dropped k leg q) i))
twin_case m call new keys dropped h k leg false q rest key i =
    let here_keys = filter (is_for_leg leg) keys in
    subst (λ (l : List NewKey). Twin key l) (sym (keys_stay m call new keys dropped h leg q))
    (elim (in_append here_keys (keys_for k leg) (subst (λ (l : List NewKey). In key l) (keys_stay m call new keys dropped k leg q) i)) [
      | inl one ↦ itself key (here_keys ++ keys_for h leg) (in_left here_keys (keys_for h leg) one)
      | inr two ↦ twin_in key here_keys (keys_for h leg) (rest refl key two)
    ])

one_by_twins : (keys others : List NewKey) → ((key : NewKey) → In key keys → Twin key others) → OnePerSuite others → OnePerSuite keys
one_by_twins keys others twin one a b i j same =
    let s = twin a i in
    let t = twin b j in
    sym s.number ∙ one s.other t.other s.is_there t.is_there (s.suite ∙ same ∙ sym t.suite) ∙ t.number

-- The cell.

same_legs : {O : Type 0} (config : Config) (cell : Cell O) (h k : List CellEntry) → CellFor config cell h → CellFor config cell k
    → legs (since_end k) ≡ legs (since_end h)
same_legs config cell h k for again = sym again.legs_for.holders ∙ for.legs_for.holders

-- a leg that stands after an offer stood before it, or is one of it
stood : (new : List Holder) (before : List Holder) (dropped : List ℕ) (leg : Holder)
    → In leg (filter (λ (x : Holder). not (has dropped x.section)) before ++ new) → list_any (same_leg leg) new ≡ false → In leg before
stood new before dropped leg i none =
    elim (in_append (filter (λ (x : Holder). not (has dropped x.section)) before) new i) [
      | inl one ↦ (filtered (λ (x : Holder). not (has dropped x.section)) before one).0
      | inr two ↦ absurd (let yes = any_true (same_leg leg) leg new two (is_same_leg leg) in cc)
    ]

-- what an offer brings can come after each history for which the cell stands, if its keys are new there
pub can_come_again : {O : Type 0} (config : Config) (cell : Cell O) (h k : List CellEntry) (signal : prepared.Prepare O) (call : ℕ) (keys : List NewKey)
    (dropped : List ℕ) → CellFor config cell h → CellFor config cell k → CanCome config (since_end h) signal call keys dropped
    → ((key : NewKey) → In key keys → key_numbered (since_end k) key.number ≡ None) → CanCome config (since_end k) signal call keys dropped
can_come_again {O} config cell h k signal call keys dropped for again can new =
    let same = same_legs config cell h k for again in
    let in_legs : (leg : Holder) → In leg (legs (since_end k)) → In leg (legs (since_end h)) = λ leg i. subst (λ (l : List Holder). In leg l) same i in
    let before : (leg : Holder) → list_any (same_leg leg) (added signal) ≡ false → In leg (legs (prepare_entry 0 call (added signal) keys dropped ∷ since_end k))
    → (key : NewKey) → In key (keys_for (since_end k) leg) → Twin key (keys_for (since_end h) leg)
    = λ leg none i. twins config (since_end h) (since_end k) cell.legs.items for.legs_for again.legs_for leg
    (stood (added signal) (legs (since_end k)) dropped leg i none) in
    record {
      sections = can.sections;
      families = can.families;
      ports = can.ports;
      differ = can.differ;
      new_lease = λ leg other i j. can.new_lease leg other i (in_legs other j);
      free_place = λ leg other i j. can.free_place leg other i (in_legs other j);
      one_each = λ leg i.
          one_by_twins (keys_for (prepare_entry 0 call (added signal) keys dropped ∷ since_end k) leg)
          (keys_for (prepare_entry 0 call (added signal) keys dropped ∷ since_end h) leg)
          (twin_case 0 call (added signal) keys dropped (since_end h) (since_end k) leg (list_any (same_leg leg) (added signal)) refl (λ none. before leg none i))
          (can.one_each leg (subst (λ (l : List Holder). In leg (filter (λ (x : Holder). not (has dropped x.section)) l ++ added signal)) same i));
      new_number = new;
      numbers_differ = can.numbers_differ;
    }

-- what an answer names are keys of the legs after each history for which the cell stands
pub names_keys_again : {O : Type 0} (config : Config) (cell : Cell O) (h k : List CellEntry) (signal : List SectionSignal) → CellFor config cell h
    → CellFor config cell k → NamesKeys (since_end h) signal → NamesKeys (since_end k) signal
names_keys_again {O} config cell h k signal for again names leg number i q =
    let stands = subst (λ (l : List Holder). In leg l) (same_legs config cell h k for again) i in
    let has = names leg number stands q in
    let t = twins config (since_end k) (since_end h) cell.legs.items again.legs_for for.legs_for leg stands has.key has.is_there in
    record { key = t.other; is_there = t.is_there; number_is = t.number ∙ has.number_is }

-- and its counts are below 2 ^ 63
pub counts_again : {O : Type 0} (config : Config) (cell : Cell O) (h k : List CellEntry) → CellFor config cell h → CellFor config cell k
    → CountsBelow (since_end h) → CountsBelow (since_end k)
counts_again {O} config cell h k for again below leg half i =
    let holder : Leg O → Holder = λ (l : Leg O). l.holder in
    let m = mapped holder cell.legs.items (subst (λ (l : List Holder). In leg l) (sym again.legs_for.holders) i) in
    let one = each_in config (since_end h) cell.legs.items m.from for.legs_for m.is_in in
    let two = each_in config (since_end k) cell.legs.items m.from again.legs_for m.is_in in
    let was = below m.from.holder half (subst (λ (l : List Holder). In m.from.holder l) for.legs_for.holders (maps holder cell.legs.items m.is_in)) in
    subst (λ (x : Holder). (accepted_count (since_end k) x half < 2 ^ 63) × (sent_count (since_end k) x half < 2 ^ 63)) m.makes (
      small (accepted_in half m.from.counts) _ _ (one.counted.accepted half) (two.counted.accepted half) was.0,
      small (sent_in half m.from.counts) _ _ (one.counted.sent half) (two.counted.sent half) was.1,
    )
  where
    small : (kept a b : ℕ) → kept ≡ as_counted a → kept ≡ as_counted b → a < 2 ^ 63 → b < 2 ^ 63
    small kept a b q r less = omega (arith, q, r, less)

-- A leg over one Prepare: it stays, or it is new; and the keys that came for it.
use Rattle.std.proofs.Common.{◌≡◌, refl, ap, subst, sym, ◌∙◌, ℕ, ◌<◌, ◌⊎◌, inl, inr, Bool, true, false, cond, List, [], ◌∷◌, ◌++◌, filter, Option, Some, None, Box, Global, append-nil}
use Rattle.std.specs.Prelude.{◌&&◌, ◌||◌, ◌==◌, IsSome}
use Rattle.std.specs.List.{AllZip, list_any}
use Rattle.std.proofs.lemmas.List.Elements.{filter-append}
use Rattle.relay_outside.specs.declared.address.Addr.{Addr}
use Rattle.relay_outside.specs.declared.settings.Config.{Config}
use Rattle.rtp_packet.specs.declared.head.Half.{Half}
use Rattle.sdes_lines.specs.declared.crypto_line.Suite.{Suite}
use Rattle.sdes_lines.specs.declared.crypto_line.Suite.TheVariants.{Tag80, Tag32}
use Rattle.srtp_sources.specs.Notes.{Note}
use Rattle.srtp_sources.proofs.Knowing.{equal, equal_if}
use Rattle.histories.specs.Words.{In, here, there, first, or_else}
use Rattle.histories.proofs.Lists.{filtered, keeps, in_left, in_right, in_append, any_is_in}
use Rattle.port_pool.specs.declared.holder.Side.{Side}
use Rattle.port_pool.specs.Ports.{pair_family, half_port}
use Rattle.port_pool.specs.declared.holder.Holder.{Holder}
use Rattle.port_pool.specs.declared.signal.LegSignal.{LegSignal}
use Rattle.port_pool.specs.Signals.{NewKey, same_leg, side_eq, suite_eq}
use Rattle.call_cell.specs.Parts.{inbound_of, learner_of}
use Rattle.call_cell.specs.declared.contexts.Outbound.{Outbound}
use Rattle.call_cell.specs.declared.sender.Sending.{Sending}
use Rattle.call_cell.specs.declared.leg.Leg.{Leg}
use Rattle.call_cell.specs.declared.prepare.PreparedKey.{PreparedKey}
use Rattle.call_cell.specs.Cells.{CellEntry, key_numbered, keys_in}
use Rattle.call_cell.specs.Protection.{accepted, protected}
use Rattle.call_cell.specs.Lessons.{learned}
use Rattle.call_cell.specs.LegKeys.{keys_for, keys_since, is_for_leg, key_number_for, key_number_of, OnePerSuite}
use Rattle.call_cell.specs.Contexts.{OutboundFor}
use Rattle.call_cell.specs.Parts.{InboundIn, OutboundIn, SendingFor, HasIt, boxed_in, contexts_of, has_number, is_numbered, key_number_in}
use Rattle.call_cell.specs.LegHistories.{LegStandsFor, outbound_of, port_by, with_sending}
use Rattle.call_cell.specs.Preparations.{IsPrepared, IsFreshLeg, IsOutboundAnew, prepare_entry, is_key_at, with_contexts, with_key, put_if, with_keys}
use Rattle.call_cell.proofs.Splits.{both_left, both_right}
use Rattle.call_cell.proofs.Keys.{finds_key}
use Rattle.call_cell.proofs.Placing.{true_or_not}
use Rattle.call_cell.proofs.KeysEqual.{suite_is}
use Rattle.call_cell.proofs.Steps.{prepare_in_force, prepare_accepted, prepare_learned, new_leg_unanswered, new_leg_notes_nothing}
use Rattle.call_cell.proofs.CommitSteps.{has_of}
use Rattle.call_cell.proofs.Joined.{side_is}
use Rattle.call_cell.specs.Blocks.{last_report}
use Rattle.call_cell.proofs.Counting.{counted_stays, counted_begins}

-- A leg with keys is the leg with another part for sending.

one_put : {O : Type 0} (key : PreparedKey) (leg : Leg O) → put_if key leg ≡ with_sending leg (put_if key leg).sending
one_put {O} key leg = of_case (is_key_at key leg)
  where
    of_case : (b : Bool) → cond b (with_key key leg) leg ≡ with_sending leg (cond b (with_key key leg) leg).sending
    of_case true = refl
    of_case false = refl

pub sending_only : {O : Type 0} (keys : List PreparedKey) (leg : Leg O) → with_keys keys leg ≡ with_sending leg (with_keys keys leg).sending
sending_only [] leg = refl
sending_only {O} (key ∷ keys) leg =
    one_put key (with_keys keys leg) ∙ ap (λ (l : Leg O). with_sending l (put_if key (with_keys keys leg)).sending) (sending_only keys leg)

pub same_holder : {O : Type 0} (keys : List PreparedKey) (leg : Leg O) → (with_keys keys leg).holder ≡ leg.holder
same_holder {O} keys leg = ap (λ (l : Leg O). l.holder) (sending_only keys leg)

-- The contexts for a suite.

contexts_put : {O : Type 0} (t s : Suite) (box : Box (Option Outbound) Global) (sending : Sending O)
    → contexts_of s (with_contexts t box sending) ≡ cond (suite_eq t s) box.value (contexts_of s sending)
contexts_put Tag80 Tag80 box sending = refl
contexts_put Tag80 Tag32 box sending = refl
contexts_put Tag32 Tag80 box sending = refl
contexts_put Tag32 Tag32 box sending = refl

put_case : {O : Type 0} (s : Suite) (key : PreparedKey) (leg : Leg O) (b : Bool)
    → contexts_of s (cond b (with_key key leg) leg).sending ≡ cond (b && suite_eq key.suite s) key.contexts.value (contexts_of s leg.sending)
put_case s key leg true = contexts_put key.suite s key.contexts leg.sending
put_case s key leg false = refl

-- the test is that of the key and the leg
at_is : {O : Type 0} (prepared : PreparedKey) (key : NewKey) (leg : Leg O) (holder : Holder) → IsPrepared prepared key → leg.holder ≡ holder
    → is_key_at prepared leg ≡ is_for_leg holder key
at_is prepared key leg holder is same =
    ap (λ (x : Holder). (prepared.section == x.section) && side_eq prepared.side x.side) same
    ∙ ap (λ (n : ℕ). (n == holder.section) && side_eq prepared.side holder.side) is.section
    ∙ ap (λ (x : Side). (key.section == holder.section) && side_eq x holder.side) is.side

pub put_contexts : {O : Type 0} (s : Suite) (prepared : PreparedKey) (key : NewKey) (leg : Leg O) (holder : Holder) → IsPrepared prepared key → leg.holder ≡ holder
    → contexts_of s (put_if prepared leg).sending ≡ cond (is_for_leg holder key && suite_eq key.suite s) prepared.contexts.value (contexts_of s leg.sending)
put_contexts s prepared key leg holder is same =
    put_case s prepared leg (is_key_at prepared leg)
    ∙ ap (λ (b : Bool). cond (b && suite_eq prepared.suite s) prepared.contexts.value (contexts_of s leg.sending)) (at_is prepared key leg holder is same)
    ∙ ap (λ (x : Suite). cond (is_for_leg holder key && suite_eq x s) prepared.contexts.value (contexts_of s leg.sending)) is.suite

-- The number of the key for a suite.

anew_number : (key : NewKey) (o : Option Outbound) → IsOutboundAnew key o → key_number_in o ≡ Some key.number
anew_number key None is = absurd is
anew_number key (Some x) is = ap Some is.number

abbrev for_suite : Suite → NewKey → Bool
for_suite suite key = suite_eq key.suite suite

suite_case : (t : Bool) (o rest : Option Outbound) (key : NewKey) (keys : List NewKey) (old : Option ℕ) → key_number_in o ≡ Some key.number
    → key_number_in rest ≡ or_else (key_number_of (first keys)) old → key_number_in (cond t o rest) ≡ or_else (key_number_of (first (cond t (key ∷ keys) keys))) old
suite_case true o rest key keys old is more = is
suite_case false o rest key keys old is more = more

number_case : (b : Bool) (suite : Suite) (o rest : Option Outbound) (key : NewKey) (keys : List NewKey) (old : Option ℕ) → key_number_in o ≡ Some key.number
    → key_number_in rest ≡ or_else (key_number_for suite keys) old
    → key_number_in (cond (b && suite_eq key.suite suite) o rest) ≡ or_else (key_number_for suite (cond b (key ∷ keys) keys)) old
number_case true suite o rest key keys old is more = suite_case (suite_eq key.suite suite) o rest key (filter (for_suite suite) keys) old is more
number_case false suite o rest key keys old is more = more

pub number_so : {O : Type 0} (suite : Suite) (prepared : List PreparedKey) (keys : List NewKey) (leg : Leg O) → AllZip IsPrepared prepared keys
    → key_number_in (contexts_of suite (with_keys prepared leg).sending)
    ≡ or_else (key_number_for suite (filter (is_for_leg leg.holder) keys)) (key_number_in (contexts_of suite leg.sending))
number_so suite [] [] leg zip = refl
number_so suite [] (key ∷ keys) leg zip = absurd zip
number_so suite (p ∷ prepared) [] leg zip = absurd zip
number_so suite (p ∷ prepared) (key ∷ keys) leg zip =
    let x = with_keys prepared leg in
    ap key_number_in (put_contexts suite p key x leg.holder zip.0 (same_holder prepared leg))
    ∙ number_case (is_for_leg leg.holder key) suite p.contexts.value (contexts_of suite x.sending) key (filter (is_for_leg leg.holder) keys)
    (key_number_in (contexts_of suite leg.sending)) (anew_number key p.contexts.value zip.0.contexts) (number_so suite prepared keys leg zip.1)

first_append : (keys more : List NewKey) → key_number_of (first (keys ++ more)) ≡ or_else (key_number_of (first keys)) (key_number_of (first more))
first_append [] more = refl
first_append (key ∷ keys) more = refl

pub key_of_append : (suite : Suite) (keys more : List NewKey) → key_number_for suite (keys ++ more) ≡ or_else (key_number_for suite keys) (key_number_for suite more)
key_of_append suite keys more =
    ap (λ (l : List NewKey). key_number_of (first l)) (filter-append (for_suite suite) keys more)
    ∙ first_append (filter (for_suite suite) keys) (filter (for_suite suite) more)

-- The contexts stand for their keys.

side_test : (leg : Holder) (key : NewKey) → is_for_leg leg key ≡ true → (key.section ≡ leg.section) × (key.side ≡ leg.side)
side_test leg key q = (
  equal_if key.section leg.section (both_left (key.section == leg.section) (side_eq key.side leg.side) q),
  side_is key.side leg.side (both_right (key.section == leg.section) (side_eq key.side leg.side) q),
)

anew_kept : (leg : Holder) (suite : Suite) (keys : ℕ → Option NewKey) (notes : ℕ → List Note) (key : NewKey) (o : Option Outbound) → is_for_leg leg key ≡ true
    → suite_eq key.suite suite ≡ true → keys key.number ≡ Some key → notes key.number ≡ [] → IsOutboundAnew key o → OutboundIn leg suite keys notes o
anew_kept leg suite keys notes key None for right known none is = absurd is
anew_kept leg suite keys notes key (Some x) for right known none is =
    let at = side_test leg key for in
    record {
      key = key;
      is_there = ap keys is.number ∙ known;
      section = at.0;
      side = at.1;
      suite_is = suite_is key.suite suite right;
      contexts_for = subst (λ (l : List Note). OutboundFor key x l) (sym (ap notes is.number ∙ none)) is;
    }

kept_case : (leg : Holder) (suite : Suite) (keys : ℕ → Option NewKey) (notes : ℕ → List Note) (key : NewKey) (o rest : Option Outbound) (b t : Bool)
    → is_for_leg leg key ≡ b → suite_eq key.suite suite ≡ t → keys key.number ≡ Some key → notes key.number ≡ [] → IsOutboundAnew key o
    → OutboundIn leg suite keys notes rest → OutboundIn leg suite keys notes (cond (b && t) o rest)
kept_case leg suite keys notes key o rest true true for right known none is more = anew_kept leg suite keys notes key o for right known none is
kept_case leg suite keys notes key o rest true false for right known none is more = more
kept_case leg suite keys notes key o rest false t for right known none is more = more

pub kept_so : {O : Type 0} (suite : Suite) (keys : ℕ → Option NewKey) (notes : ℕ → List Note) (prepared : List PreparedKey) (new : List NewKey) (leg : Leg O)
    → AllZip IsPrepared prepared new → ((key : NewKey) → In key new → keys key.number ≡ Some key) → ((key : NewKey) → In key new → notes key.number ≡ [])
    → OutboundIn leg.holder suite keys notes (contexts_of suite leg.sending)
    → OutboundIn leg.holder suite keys notes (contexts_of suite (with_keys prepared leg).sending)
kept_so suite keys notes [] [] leg zip known none old = old
kept_so suite keys notes [] (key ∷ new) leg zip known none old = absurd zip
kept_so suite keys notes (p ∷ prepared) [] leg zip known none old = absurd zip
kept_so suite keys notes (p ∷ prepared) (key ∷ new) leg zip known none old =
    let x = with_keys prepared leg in
    subst (λ (o : Option Outbound). OutboundIn leg.holder suite keys notes o) (sym (put_contexts suite p key x leg.holder zip.0 (same_holder prepared leg)))
    (kept_case leg.holder suite keys notes key p.contexts.value (contexts_of suite x.sending) (is_for_leg leg.holder key) (suite_eq key.suite suite) refl refl
    (known key (here refl)) (none key (here refl)) zip.0.contexts
    (kept_so suite keys notes prepared new leg zip.1 (λ k i. known k (there i)) (λ k i. none k (there i)) old))

-- Numbers.

abbrev numbered : ℕ → NewKey → Bool
numbered n key = key.number == n

-- a number that no new key has is found as before
skips_case : (n : ℕ) (key : NewKey) (keys : List NewKey) (r : Option NewKey) → (key.number ≡ n → ⊥) → first (filter (numbered n) keys) ≡ r → (b : Bool)
    → numbered n key ≡ b → first (cond b (key ∷ filter (numbered n) keys) (filter (numbered n) keys)) ≡ r
skips_case n key keys r off rest true q = absurd (off (equal_if key.number n q))
skips_case n key keys r off rest false q = rest

skips : (n : ℕ) (new old : List NewKey) → ((key : NewKey) → In key new → key.number ≡ n → ⊥)
    → first (filter (numbered n) (new ++ old)) ≡ first (filter (numbered n) old)
skips n [] old off = refl
skips n (key ∷ new) old off =
    skips_case n key (new ++ old) (first (filter (numbered n) old)) (off key (here refl)) (skips n new old (λ k i. off k (there i))) (numbered n key) refl

some_first : (key : NewKey) (keys : List NewKey) → In key keys → first keys ≡ None → ⊥
some_first key [] i q = elim i [ ]
some_first key (k ∷ keys) i q = let e = q in cc

pub found_none : (h : List CellEntry) (key : NewKey) → In key (keys_in h) → key_numbered h key.number ≡ None → ⊥
found_none h key i none =
    some_first key (filter (numbered key.number) (keys_in h)) (keeps (numbered key.number) (keys_in h) i (equal key.number key.number refl)) none

-- a number that isn't found after the new keys wasn't found before
none_case : (n : ℕ) (key : NewKey) (keys : List NewKey) (b : Bool) → first (cond b (key ∷ keys) keys) ≡ None → first keys ≡ None
none_case n key keys true q = absurd (let e = q in cc)
none_case n key keys false q = q

pub none_before : (n : ℕ) (new old : List NewKey) → first (filter (numbered n) (new ++ old)) ≡ None → first (filter (numbered n) old) ≡ None
none_before n [] old q = q
none_before n (key ∷ new) old q = none_before n new old (none_case n key (filter (numbered n) (new ++ old)) (numbered n key) q)

pub found_new : (m call : ℕ) (legs : List Holder) (keys : List NewKey) (dropped : List ℕ) (h : List CellEntry)
    → ((key : NewKey) → In key keys → key_numbered h key.number ≡ None)
    → ((key other : NewKey) → In key keys → In other keys → key.number ≡ other.number → key ≡ other)
    → (key : NewKey) → In key keys → key_numbered (prepare_entry m call legs keys dropped ∷ h) key.number ≡ Some key
found_new m call legs keys dropped h new differ key i =
    finds_key (prepare_entry m call legs keys dropped ∷ h) key (in_left keys (keys_in h) i)
    (λ other j same. elim (in_append keys (keys_in h) j) [
      | inl newer ↦ differ other key newer i same
      | inr older ↦ absurd (found_none h other older (ap (λ (n : ℕ). key_numbered h n) same ∙ new key i))
    ])

-- contexts that were there stand as before
pub kept_over : (m call : ℕ) (legs : List Holder) (keys : List NewKey) (dropped : List ℕ) (h : List CellEntry) (leg : Holder) (suite : Suite) (o : Option Outbound)
    → ((key : NewKey) → In key keys → key_numbered h key.number ≡ None) → OutboundIn leg suite (key_numbered h) (protected h) o
    → OutboundIn leg suite (key_numbered (prepare_entry m call legs keys dropped ∷ h)) (protected (prepare_entry m call legs keys dropped ∷ h)) o
kept_over m call legs keys dropped h leg suite None new for = tt
kept_over m call legs keys dropped h leg suite (Some x) new for =
    record {
      key = for.key;
      is_there = skips x.number keys (keys_in h)
          (λ k i same. let e : ◌≡◌ {A = Option NewKey} None (Some for.key) = sym (new k i) ∙ ap (λ (n : ℕ). key_numbered h n) same ∙ for.is_there in cc)
          ∙ for.is_there;
      section = for.section;
      side = for.side;
      suite_is = for.suite_is;
      contexts_for = for.contexts_for;
    }

-- The keys of a leg.

pub any_false : {X : Type 0} (p : X → Bool) (xs : List X) → ((x : X) → In x xs → p x ≡ true → ⊥) → list_any p xs ≡ false
any_false p xs none = elim (true_or_not (list_any p xs)) [
  | inl so ↦ (let m = any_is_in p xs so in absurd (none m.from m.is_in m.makes))
  | inr off_it ↦ off_it
]

or_true : (a : Bool) → (a || true) ≡ true
or_true true = refl
or_true false = refl

pub any_true : {X : Type 0} (p : X → Bool) (x : X) (xs : List X) → In x xs → p x ≡ true → list_any p xs ≡ true
any_true p x [] i q = elim i [ ]
any_true p x (y ∷ ys) (here e) q = ap (λ (b : Bool). b || list_any p ys) (sym (ap p e) ∙ q)
any_true p x (y ∷ ys) (there i) q = ap (λ (b : Bool). p y || b) (any_true p x ys i q) ∙ or_true (p y)

pub keys_stay : (m call : ℕ) (legs : List Holder) (keys : List NewKey) (dropped : List ℕ) (h : List CellEntry) (leg : Holder) → list_any (same_leg leg) legs ≡ false
    → keys_for (prepare_entry m call legs keys dropped ∷ h) leg ≡ filter (is_for_leg leg) keys ++ keys_for h leg
keys_stay m call legs keys dropped h leg q =
    ap (λ (b : Bool). filter (is_for_leg leg) (keys ++ cond b [] (keys_since h leg))) q ∙ filter-append (is_for_leg leg) keys (keys_since h leg)

pub keys_new : (m call : ℕ) (legs : List Holder) (keys : List NewKey) (dropped : List ℕ) (h : List CellEntry) (leg : Holder) → list_any (same_leg leg) legs ≡ true
    → keys_for (prepare_entry m call legs keys dropped ∷ h) leg ≡ filter (is_for_leg leg) keys ++ []
keys_new m call legs keys dropped h leg q =
    ap (λ (b : Bool). filter (is_for_leg leg) (keys ++ cond b [] (keys_since h leg))) q
    ∙ ap (λ (l : List NewKey). filter (is_for_leg leg) l) (append-nil keys) ∙ sym (append-nil (filter (is_for_leg leg) keys))

-- a number that has its contexts is that of a key
numbered_in : (o : Option Outbound) (n : ℕ) → is_numbered o n ≡ true → key_number_in o ≡ Some n
numbered_in None n q = absurd (let e = q in cc)
numbered_in (Some x) n q = ap Some (equal_if x.number n q)

or_case : (a b : Bool) → (a || b) ≡ true → (a ≡ true) ⊎ (b ≡ true)
or_case true b q = inl refl
or_case false b q = inr q

key_back : (n : ℕ) (keys all : List NewKey) → ((key : NewKey) → In key keys → In key all) → key_number_of (first keys) ≡ Some n
    → (key : NewKey) × In key all × (key.number ≡ n)
key_back n [] all sub q = absurd (let e = q in cc)
key_back n (key ∷ keys) all sub q = (key, sub key (here refl), (let e = q in cc))

key_in : (n : ℕ) (suite : Suite) (keys : List NewKey) → key_number_for suite keys ≡ Some n → (key : NewKey) × In key keys × (key.number ≡ n)
key_in n suite keys q = key_back n (filter (for_suite suite) keys) keys (λ key i. (filtered (for_suite suite) keys i).0) q

pub key_of_contexts : {O : Type 0} (keys : List NewKey) (sending : Sending O) (n : ℕ)
    → ((suite : Suite) → key_number_in (contexts_of suite sending) ≡ key_number_for suite keys) → has_number sending n ≡ true
    → (key : NewKey) × In key keys × (key.number ≡ n)
key_of_contexts keys sending n held q = elim (or_case (is_numbered (boxed_in sending.tag80) n) (is_numbered (boxed_in sending.tag32) n) q) [
  | inl one ↦ key_in n Tag80 keys (sym (held Tag80) ∙ numbered_in (boxed_in sending.tag80) n one)
  | inr two ↦ key_in n Tag32 keys (sym (held Tag32) ∙ numbered_in (boxed_in sending.tag32) n two)
]

-- The leg.

-- what came: legs and keys
pub record Came (config : Config) (m call : ℕ) (legs : List Holder) (prepared : List PreparedKey) (keys : List NewKey) (dropped : List ℕ) (h : List CellEntry) : Type 0 where
  pub zip : AllZip IsPrepared prepared keys
  pub new_number : (key : NewKey) → In key keys → key_numbered h key.number ≡ None
  pub numbers_differ : (key other : NewKey) → In key keys → In other keys → key.number ≡ other.number → key ≡ other
  pub unnoted : (number : ℕ) → key_numbered h number ≡ None → protected h number ≡ []

held_so : {O : Type 0} (config : Config) (m call : ℕ) (legs : List Holder) (prepared : List PreparedKey) (keys : List NewKey) (dropped : List ℕ) (h : List CellEntry)
    → Came config m call legs prepared keys dropped h → (leg : Leg O) (base : List NewKey)
    → keys_for (prepare_entry m call legs keys dropped ∷ h) leg.holder ≡ filter (is_for_leg leg.holder) keys ++ base
    → ((suite : Suite) → key_number_in (contexts_of suite leg.sending) ≡ key_number_for suite base) → (suite : Suite)
    → key_number_in (contexts_of suite (with_keys prepared leg).sending) ≡ key_number_for suite (keys_for (prepare_entry m call legs keys dropped ∷ h) leg.holder)
held_so config m call legs prepared keys dropped h came leg base are held suite =
    number_so suite prepared keys leg came.zip
    ∙ ap (λ (o : Option ℕ). or_else (key_number_for suite (filter (is_for_leg leg.holder) keys)) o) (held suite)
    ∙ sym (key_of_append suite (filter (is_for_leg leg.holder) keys) base) ∙ ap (λ (l : List NewKey). key_number_for suite l) (sym are)

put_ends : {O : Type 0} (t : Suite) (box : Box (Option Outbound) Global) (leg : Leg O) → (with_sending leg (with_contexts t box leg.sending)).sending.ends ≡ leg.sending.ends
put_ends Tag80 box leg = refl
put_ends Tag32 box leg = refl

if_ends : {O : Type 0} (key : PreparedKey) (leg : Leg O) (b : Bool) → (cond b (with_key key leg) leg).sending.ends ≡ leg.sending.ends
if_ends key leg true = put_ends key.suite key.contexts leg
if_ends key leg false = refl

keys_ends : {O : Type 0} (keys : List PreparedKey) (leg : Leg O) → (with_keys keys leg).sending.ends ≡ leg.sending.ends
keys_ends [] leg = refl
keys_ends (key ∷ keys) leg = if_ends key (with_keys keys leg) (is_key_at key (with_keys keys leg)) ∙ keys_ends keys leg

sending_so : {O : Type 0} (config : Config) (m call : ℕ) (legs : List Holder) (prepared : List PreparedKey) (keys : List NewKey) (dropped : List ℕ) (h : List CellEntry)
    → Came config m call legs prepared keys dropped h → (leg : Leg O) → IsSome leg.sending.ends
    → ((suite : Suite) → OutboundIn leg.holder suite (key_numbered h) (protected h) (contexts_of suite leg.sending))
    → SendingFor leg.holder (key_numbered (prepare_entry m call legs keys dropped ∷ h)) (protected (prepare_entry m call legs keys dropped ∷ h)) (with_keys prepared leg).sending
sending_so {O} config m call legs prepared keys dropped h came leg ends old =
    record { ends = subst (λ (o : Option (O × O)). IsSome o) (sym (keys_ends prepared leg)) ends; tag80 = part Tag80; tag32 = part Tag32 }
  where
    part : (suite : Suite) → OutboundIn leg.holder suite (key_numbered (prepare_entry m call legs keys dropped ∷ h)) (protected (prepare_entry m call legs keys dropped ∷ h))
        (contexts_of suite (with_keys prepared leg).sending)
    part suite =
        kept_so suite (key_numbered (prepare_entry m call legs keys dropped ∷ h)) (protected (prepare_entry m call legs keys dropped ∷ h)) prepared keys leg came.zip
        (found_new m call legs keys dropped h came.new_number came.numbers_differ)
        (λ key i. came.unnoted key.number (came.new_number key i))
        (kept_over m call legs keys dropped h leg.holder suite (contexts_of suite leg.sending) came.new_number (old suite))

of_suite : {O : Type 0} (leg : Holder) (keys : ℕ → Option NewKey) (notes : ℕ → List Note) (sending : Sending O) → SendingFor leg keys notes sending
    → (suite : Suite) → OutboundIn leg suite keys notes (contexts_of suite sending)
of_suite leg keys notes sending for Tag80 = for.tag80
of_suite leg keys notes sending for Tag32 = for.tag32

named_over : {O : Type 0} (keys base more : List NewKey) (old new : Sending O) (o : Option ℕ) → keys ≡ more ++ base
    → ((suite : Suite) → key_number_in (contexts_of suite old) ≡ key_number_for suite base) → ((suite : Suite) → key_number_in (contexts_of suite new) ≡ key_number_for suite keys)
    → OnePerSuite keys → HasIt o old → HasIt o new
named_over keys base more old new None are held now one for = tt
named_over keys base more old new (Some n) are held now one for =
    let k = key_of_contexts base old n held for in
    has_of keys new n now one k.0 (subst (λ (l : List NewKey). In k.0 l) (sym are) (in_right more base k.1)) k.2

pub leg_stays : {O : Type 0} (config : Config) (m call : ℕ) (legs : List Holder) (prepared : List PreparedKey) (keys : List NewKey) (dropped : List ℕ) (h : List CellEntry)
    → Came config m call legs prepared keys dropped h → (leg : Leg O) → list_any (same_leg leg.holder) legs ≡ false
    → OnePerSuite (keys_for (prepare_entry m call legs keys dropped ∷ h) leg.holder) → LegStandsFor config h leg
    → LegStandsFor config (prepare_entry m call legs keys dropped ∷ h) (with_keys prepared leg)
leg_stays {O} config m call legs prepared keys dropped h came leg stays one for =
    let are = keys_stay m call legs keys dropped h leg.holder stays in
    let held = held_so config m call legs prepared keys dropped h came leg (keys_for h leg.holder) are for.held in
    subst (λ (l : Leg O). LegStandsFor config (prepare_entry m call legs keys dropped ∷ h) l) (sym (sending_only prepared leg))
    (record {
      pair = for.pair;
      generation = for.generation;
      signal = for.signal ∙ sym (prepare_in_force m call legs keys dropped h leg.holder stays);
      family = for.family;
      port = for.port;
      receiving = record {
        learned = λ half. for.receiving.learned half ∙ ap (λ (o : Option Addr). learner_of half leg.signal o) (sym (prepare_learned m call legs keys dropped h leg.holder half stays));
        inbound = subst (λ (l : List Note). InboundIn (inbound_of leg.signal) (boxed_in leg.receiving.inbound) l)
            (sym (prepare_accepted m call legs keys dropped h leg.holder stays)) for.receiving.inbound;
      };
      sending = sending_so config m call legs prepared keys dropped h came leg for.sending.ends (of_suite leg.holder (key_numbered h) (protected h) leg.sending for.sending);
      named = named_over (keys_for (prepare_entry m call legs keys dropped ∷ h) leg.holder) (keys_for h leg.holder) (filter (is_for_leg leg.holder) keys)
          leg.sending (with_keys prepared leg).sending (outbound_of leg.signal) are for.held held one for.named;
      section = for.section;
      held = held;
      one_each = one;
      counted = counted_stays m call legs keys dropped h leg.holder leg.counts stays for.counted;
      reported = for.reported ∙ sym (ap (λ (b : Bool). cond b None (last_report h leg.holder)) stays);
    })

pub leg_begins : {O : Type 0} (config : Config) (m call : ℕ) (legs : List Holder) (prepared : List PreparedKey) (keys : List NewKey) (dropped : List ℕ) (h : List CellEntry)
    → Came config m call legs prepared keys dropped h → (leg : Leg O) → list_any (same_leg leg.holder) legs ≡ true
    → OnePerSuite (keys_for (prepare_entry m call legs keys dropped ∷ h) leg.holder) → leg.holder.section < 8
    → leg.lease.family ≡ pair_family config leg.holder.pair
    → ((half : Half) → port_by half leg.lease.rtp_port ≡ half_port config leg.holder.pair half) → IsFreshLeg leg
    → LegStandsFor config (prepare_entry m call legs keys dropped ∷ h) (with_keys prepared leg)
leg_begins {O} config m call legs prepared keys dropped h came leg new one small family port fresh =
    let are = keys_new m call legs keys dropped h leg.holder new in
    let held = held_so config m call legs prepared keys dropped h came leg [] are (λ suite. ap key_number_in (fresh.keyless suite)) in
    subst (λ (l : Leg O). LegStandsFor config (prepare_entry m call legs keys dropped ∷ h) l) (sym (sending_only prepared leg))
    (record {
      pair = fresh.pair;
      generation = fresh.generation;
      signal = fresh.signal ∙ sym (new_leg_unanswered m call legs keys dropped h leg.holder new);
      family = family;
      port = port;
      receiving = record {
        learned = λ half. fresh.receiving.learned half ∙ ap (λ (o : Option LegSignal). learner_of half o (learned (prepare_entry m call legs keys dropped ∷ h) leg.holder half)) (sym fresh.signal);
        inbound = subst (λ (k : Option (List ℕ × Suite)). InboundIn k (boxed_in leg.receiving.inbound) (accepted (prepare_entry m call legs keys dropped ∷ h) leg.holder))
            (sym (ap inbound_of fresh.signal))
            (subst (λ (l : List Note). InboundIn None (boxed_in leg.receiving.inbound) l)
            (sym (new_leg_notes_nothing m call legs keys dropped h leg.holder new)) fresh.receiving.inbound);
      };
      sending = sending_so config m call legs prepared keys dropped h came leg fresh.ends
          (λ suite. subst (λ (o : Option Outbound). OutboundIn leg.holder suite (key_numbered h) (protected h) o) (sym (fresh.keyless suite)) tt);
      named = subst (λ (o : Option ℕ). HasIt o (with_keys prepared leg).sending) (sym (ap outbound_of fresh.signal)) tt;
      section = small;
      held = held;
      one_each = one;
      counted = counted_begins m call legs keys dropped h leg.holder leg.counts new fresh.uncounted;
      reported = fresh.unreported ∙ sym (ap (λ (b : Bool). cond b None (last_report h leg.holder)) new);
    })

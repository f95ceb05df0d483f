-- What a leg's part for sending does: a packet is noted under the key that it was protected with, and under no other.
use Rattle.std.proofs.Common.{◌≡◌, refl, ap, subst, sym, ◌∙◌, ℕ, Bool, true, List, Option, Some, None, Result}
use Rattle.std.specs.Prelude.{Box, if◌then◌else◌}
use Rattle.std.specs.Global.{Global}
use Rattle.std.specs.Box.{with_value}
use Rattle.std.specs.List.{cons_option}
use Rattle.rtp_packet.specs.declared.head.Half.{Half}
use Rattle.sdes_lines.specs.declared.crypto_line.Suite.{Suite}
use Rattle.sdes_lines.specs.declared.crypto_line.Suite.TheVariants.{Tag80, Tag32}
use Rattle.srtp_sources.specs.Notes.{Note}
use Rattle.srtp_sources.proofs.Knowing.{equal, differ, equal_if}
use Rattle.port_pool.specs.declared.holder.Holder.{Holder}
use Rattle.port_pool.specs.Signals.{NewKey}
use Rattle.call_cell.specs.declared.outcome.Lost.{Lost}
use Rattle.call_cell.specs.declared.contexts.Outbound.{Outbound}
use Rattle.call_cell.specs.declared.sender.Sending.{Sending}
use Rattle.call_cell.specs.Cells.{Shield}
use Rattle.call_cell.specs.Protection.{Departure, Held, Leaves, wrapped_under, wrapped_with}
use Rattle.call_cell.specs.Contexts.{OutboundFor, OutboundWrapsTo, IsUnder, note_of}
use Rattle.call_cell.specs.Parts.{boxed_in, WrapsInTo, IsKept, IsOf, OutboundIn, is_numbered, note_under, noted_under, SendingFor, ProtectsTo}
use Rattle.call_cell.proofs.Boxed.{same_place}

-- under its own key a shield's note is noted
own_note : (number : ℕ) (shield : Option Shield) → IsUnder number shield → note_under number shield ≡ note_of shield
own_note number None under = refl
own_note number (Some s) under = ap (λ (b : Bool). if b then Some s.note else None) (equal s.key number under)

-- under another key nothing is noted
pub other_note : (number : ℕ) (shield : Option Shield) → ((s : Shield) → shield ≡ Some s → s.key ≡ number → ⊥) → note_under number shield ≡ None
other_note number None apart = refl
other_note number (Some s) apart = ap (λ (b : Bool). if b then Some s.note else None) (differ s.key number (apart s refl))

shield_of_key : (leg : Holder) (suite : Suite) (keys : ℕ → Option NewKey) (notes : ℕ → List Note) (old : Outbound) (k : IsKept leg suite keys notes old)
    → (shield : Option Shield) → IsUnder k.key.number shield → (s : Shield) → shield ≡ Some s → IsOf leg suite keys s.key
shield_of_key leg suite keys notes old k None under s q = absurd (let f = q in cc)
shield_of_key leg suite keys notes old k (Some t) under s q =
    let f = q in
    let same : t.key ≡ s.key = ap (λ (o : Option Shield). key_in o) f in
    let number : s.key ≡ old.number = sym same ∙ under ∙ sym k.contexts_for.number in
    record {
      key = k.key;
      is_there = ap keys number ∙ k.is_there;
      section = k.section;
      side = k.side;
      suite_is = k.suite_is;
    }
  where
    key_in : Option Shield → ℕ
    key_in None = 0
    key_in (Some x) = x.key

wraps_case : (leg : Holder) (suite : Suite) (keys : ℕ → Option NewKey) (notes : ℕ → List Note) (place : Box (Option Outbound) Global) (old new : Outbound)
    (buf : List ℕ) (result : Result ℕ Lost) (o : Option (Box (Option Outbound) Global)) → Some (with_value place (Some old)) ≡ o
    → (k : IsKept leg suite keys notes old) → (w : Departure) → OutboundWrapsTo w k.key (notes old.number) old new buf result
    → WrapsInTo w leg suite keys notes o (Some (with_value place (Some new))) buf result
wraps_case leg suite keys notes place old new buf result o same k (Held cause) does =
    record { answer = does.answer; contexts = ap (λ (x : Outbound). Some (with_value place (Some x))) does.contexts ∙ same }
wraps_case leg suite keys notes place old new buf result o same k (Leaves shield bytes) does =
    let number : new.number ≡ old.number = does.contexts.number ∙ sym k.contexts_for.number in
    let own : note_under old.number shield ≡ note_of shield
    = own_note old.number shield (subst (λ (n : ℕ). IsUnder n shield) (sym k.contexts_for.number) does.under) in
    let noted : cons_option (note_of shield) (notes old.number) ≡ noted_under shield notes new.number
    = ap (λ (x : Option Note). cons_option x (notes old.number)) (sym own) ∙ ap (λ (n : ℕ). noted_under shield notes n) (sym number) in
    record {
      answer = does.answer;
      buffer = does.buffer;
      under = shield_of_key leg suite keys notes old k shield does.under;
      contexts = record {
        key = k.key;
        is_there = ap keys number ∙ k.is_there;
        section = k.section;
        side = k.side;
        suite_is = k.suite_is;
        contexts_for = subst (λ (l : List Note). OutboundFor k.key new l) noted does.contexts;
      };
    }

-- the contexts in a place protect a packet under the key of their number
pub wraps_in : (leg : Holder) (suite : Suite) (keys : ℕ → Option NewKey) (notes : ℕ → List Note) (number : ℕ) (half : Half) (bytes : List ℕ)
    (place : Box (Option Outbound) Global) (old new : Outbound) (buf : List ℕ) (result : Result ℕ Lost) (o : Option (Box (Option Outbound) Global)) → o ≡ Some place
    → place.value ≡ Some old
    → ((key : NewKey) (l : List Note) → OutboundFor key old l → OutboundWrapsTo (wrapped_under key l half bytes) key l old new buf result)
    → OutboundIn leg suite keys notes (boxed_in o) → is_numbered (boxed_in o) number ≡ true
    → WrapsInTo (wrapped_with (keys number) (notes number) half bytes) leg suite keys notes o (Some (with_value place (Some new))) buf result
wraps_in leg suite keys notes number half bytes place old new buf result o is there does for numbered =
    let value = ap boxed_in is ∙ there in
    let P : ℕ → Type 0 = λ (n : ℕ). WrapsInTo (wrapped_with (keys n) (notes n) half bytes) leg suite keys notes o (Some (with_value place (Some new))) buf result in
    let Q : Option NewKey → Type 0 = λ (x : Option NewKey).
    WrapsInTo (wrapped_with x (notes old.number) half bytes) leg suite keys notes o (Some (with_value place (Some new))) buf result in
    let k : IsKept leg suite keys notes old = subst (λ (x : Option Outbound). OutboundIn leg suite keys notes x) value for in
    let same : old.number ≡ number = equal_if old.number number (subst (λ (x : Option Outbound). is_numbered x number ≡ true) value numbered) in
    subst P same
    (subst Q (sym k.is_there)
    (wraps_case leg suite keys notes place old new buf result o (same_place place (Some old) o is there) k
    (wrapped_under k.key (notes old.number) half bytes) (does k.key (notes old.number) k.contexts_for)))

-- Contexts of another key.

kept_apart : (leg : Holder) (suite : Suite) (keys : ℕ → Option NewKey) (notes : ℕ → List Note) (shield : Option Shield) (x : Outbound)
    → ((s : Shield) → shield ≡ Some s → s.key ≡ x.number → ⊥) → IsKept leg suite keys notes x → IsKept leg suite keys (noted_under shield notes) x
kept_apart leg suite keys notes shield x apart k =
    let same : notes x.number ≡ noted_under shield notes x.number
    = sym (ap (λ (o : Option Note). cons_option o (notes x.number)) (other_note x.number shield apart)) in
    record {
      key = k.key;
      is_there = k.is_there;
      section = k.section;
      side = k.side;
      suite_is = k.suite_is;
      contexts_for = subst (λ (l : List Note). OutboundFor k.key x l) same k.contexts_for;
    }

-- one number has one key
one_key : (keys : ℕ → Option NewKey) (m n : ℕ) (k l : NewKey) → keys m ≡ Some k → keys n ≡ Some l → m ≡ n → k ≡ l
one_key keys m n k l p q same =
    let e : ◌≡◌ {A = Option NewKey} (Some k) (Some l) = sym p ∙ ap keys same ∙ q in
    cc

pub other_kept : (leg : Holder) (suite : Suite) (keys : ℕ → Option NewKey) (notes : ℕ → List Note) (shield : Option Shield) (o : Option Outbound)
    → ((s : Shield) → shield ≡ Some s → (key : NewKey) → keys s.key ≡ Some key → key.section ≡ leg.section → key.side ≡ leg.side → key.suite ≡ suite → ⊥)
    → OutboundIn leg suite keys notes o → OutboundIn leg suite keys (noted_under shield notes) o
other_kept leg suite keys notes shield None apart for = tt
other_kept leg suite keys notes shield (Some x) apart for =
    kept_apart leg suite keys notes shield x
    (λ s q same. apart s q for.key (ap keys same ∙ for.is_there) for.section for.side for.suite_is)
    for

other_suite : (leg : Holder) (suite other : Suite) (keys : ℕ → Option NewKey) (shield : Option Shield) → (suite ≡ other → ⊥)
    → ((s : Shield) → shield ≡ Some s → IsOf leg suite keys s.key)
    → (s : Shield) → shield ≡ Some s → (key : NewKey) → keys s.key ≡ Some key → key.section ≡ leg.section → key.side ≡ leg.side → key.suite ≡ other → ⊥
other_suite leg suite other keys shield differ under s q key there section side is =
    let u = under s q in
    differ (sym u.suite_is ∙ ap (λ (k : NewKey). k.suite) (one_key keys s.key s.key u.key key u.is_there there refl) ∙ is)

tags_differ : ◌≡◌ {A = Suite} Tag80 Tag32 → ⊥
tags_differ q = let f = q in cc

pub protects_80 : {O : Type 0} (leg : Holder) (keys : ℕ → Option NewKey) (notes : ℕ → List Note) (old : Sending O) (new : Option (Box (Option Outbound) Global)) (buf : List ℕ)
    (result : Result ℕ Lost) → SendingFor leg keys notes old → (w : Departure) → WrapsInTo w leg Tag80 keys notes old.tag80 new buf result
    → ProtectsTo w leg keys notes old (record { ends = old.ends; tag80 = new; tag32 = old.tag32 }) buf result
protects_80 {O} leg keys notes old new buf result for (Held cause) does =
    record {
      answer = does.answer;
      contexts = ap (λ (x : Option (Box (Option Outbound) Global)). as_it_is (record { ends = old.ends; tag80 = x; tag32 = old.tag32 })) does.contexts;
    }
  where
    as_it_is : Sending O → Sending O
    as_it_is x = x
protects_80 leg keys notes old new buf result for (Leaves shield bytes) does =
    record {
      answer = does.answer;
      buffer = does.buffer;
      under = λ s q. (Tag80, does.under s q);
      keeps = record {
        ends = for.ends;
        tag80 = does.contexts;
        tag32 = other_kept leg Tag32 keys notes shield (boxed_in old.tag32) (other_suite leg Tag80 Tag32 keys shield tags_differ does.under) for.tag32;
      };
    }

pub protects_32 : {O : Type 0} (leg : Holder) (keys : ℕ → Option NewKey) (notes : ℕ → List Note) (old : Sending O) (new : Option (Box (Option Outbound) Global)) (buf : List ℕ)
    (result : Result ℕ Lost) → SendingFor leg keys notes old → (w : Departure) → WrapsInTo w leg Tag32 keys notes old.tag32 new buf result
    → ProtectsTo w leg keys notes old (record { ends = old.ends; tag80 = old.tag80; tag32 = new }) buf result
protects_32 {O} leg keys notes old new buf result for (Held cause) does =
    record {
      answer = does.answer;
      contexts = ap (λ (x : Option (Box (Option Outbound) Global)). as_it_is (record { ends = old.ends; tag80 = old.tag80; tag32 = x })) does.contexts;
    }
  where
    as_it_is : Sending O → Sending O
    as_it_is x = x
protects_32 leg keys notes old new buf result for (Leaves shield bytes) does =
    record {
      answer = does.answer;
      buffer = does.buffer;
      under = λ s q. (Tag32, does.under s q);
      keeps = record {
        ends = for.ends;
        tag80 = other_kept leg Tag80 keys notes shield (boxed_in old.tag80) (other_suite leg Tag32 Tag80 keys shield (λ q. tags_differ (sym q)) does.under) for.tag80;
        tag32 = does.contexts;
      };
    }

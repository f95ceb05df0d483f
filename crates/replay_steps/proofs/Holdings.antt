-- The receipts that are held are receipts of the list, of different takes.
use Rattle.std.proofs.Common.{◌≡◌, ◌∙◌, refl, sym, ap, subst, ℕ, zero, suc, ◌+◌, ◌<◌, true, List, [], ◌∷◌, ◌++◌, Some, length, take, drop, position, arith}
use Rattle.std.proofs.lemmas.Bool.{eqb-true}
use Rattle.std.proofs.lemmas.List.Quantifiers.{position-Some}
use Rattle.std.proofs.Math.ListN.{get_or}
use Rattle.relay_outside.specs.declared.settings.Config.{Config}
use Rattle.relay_core.specs.Entries.{Entry}
use Rattle.media_lane.specs.declared.receipt.Receipt.{Receipt}
use Rattle.media_lane.specs.Steps.{IsIn, AreOfTwoTakes, KeepsReceipts, KeepsOthers}
use Rattle.replay_steps.specs.Receipts.{NumberedReceipt, ReceiptList, receipt_has_number, TakesOut, taken_with_pair, IsApart, AreReceipts}

-- a list about one of its items
pub around : {X : Type 0} (xs : List X) (i : ℕ) (d : X) → i < length xs → xs ≡ take i xs ++ get_or xs i d ∷ drop (suc i) xs
around [] i d less = absurd (omega (arith, less))
around (x ∷ xs) zero d less = refl
around (x ∷ xs) (suc i) d less = ap (λ ys. x ∷ ys) (around xs i d (omega (arith, less)))

pub next : (i : ℕ) → suc i ≡ i + 1
next i = omega arith

pair_of_number : (number : ℕ) (h : NumberedReceipt) → receipt_has_number number h ≡ true → h ≡ (number, h.1)
pair_of_number number h has = ap (λ (n : ℕ). (n, h.1)) (eqb-true h.0 number has)

-- the receipt that stands where the number was found is taken out
pub takes_out : (number at : ℕ) (h : NumberedReceipt) (items : List NumberedReceipt) (old new : ReceiptList) → position (receipt_has_number number) old.list ≡ Some at → old.list ≡ items
    → h ≡ get_or items at h → new.list ≡ take at items ++ drop (at + 1) items → new.received ≡ old.received → new.room ≡ old.room → TakesOut number h.1 old new
takes_out number at h items old new found same is rest received room =
    let place : position (receipt_has_number number) items ≡ Some at = subst (λ (list : List NumberedReceipt). position (receipt_has_number number) list ≡ Some at) same found in
    let facts = position-Some (receipt_has_number number) items at h place in
    let has : receipt_has_number number h ≡ true = subst (λ (x : NumberedReceipt). receipt_has_number number x ≡ true) (sym is) facts.1 in
    record {
      before = take at items;
      after = drop (at + 1) items;
      old_is = same ∙ around items at h facts.0
          ∙ ap (λ (x : NumberedReceipt). take at items ++ x ∷ drop (suc at) items) (sym is ∙ pair_of_number number h has)
          ∙ ap (λ (n : ℕ). take at items ++ (number, h.1) ∷ drop n items) (next at);
      new_is = rest;
      received_is = received;
      room_is = room;
    }

apart_back : (r s : Receipt) → AreOfTwoTakes (taken_with_pair r) (taken_with_pair s) → AreOfTwoTakes (taken_with_pair s) (taken_with_pair r)
apart_back r s apart pair take = apart (sym pair) (sym take)

module _ (config : Config) where
  -- a receipt that is apart from all receipts of the list is apart from those
  pub all_apart : (l : List Entry) (r : Receipt) (list : List NumberedReceipt)
      → ((s : ℕ × _) → IsIn config l s → AreOfTwoTakes (taken_with_pair r) s) → AreReceipts config l list → IsApart r list
  all_apart l r [] apart are = tt
  all_apart l r (h ∷ list) apart are = (apart (taken_with_pair h.1) are.0, all_apart l r list apart are.2)

  pub receipts_kept : (l new : List Entry) (list : List NumberedReceipt) → KeepsReceipts config l new → AreReceipts config l list → AreReceipts config new list
  receipts_kept l new [] keeps are = tt
  receipts_kept l new (h ∷ list) keeps are = (keeps (taken_with_pair h.1) are.0, are.1, receipts_kept l new list keeps are.2)

  apart_pushed : (r : Receipt) (list : List NumberedReceipt) (h : NumberedReceipt) → IsApart r list → AreOfTwoTakes (taken_with_pair r) (taken_with_pair h.1) → IsApart r (list ++ h ∷ [])
  apart_pushed r [] h apart last = (last, tt)
  apart_pushed r (x ∷ list) h apart last = (apart.0, apart_pushed r list h apart.1 last)

  -- one more at the end
  pub receipts_pushed : (l : List Entry) (list : List NumberedReceipt) (h : NumberedReceipt) → AreReceipts config l list → IsIn config l (taken_with_pair h.1) → IsApart h.1 list
      → AreReceipts config l (list ++ h ∷ [])
  receipts_pushed l [] h are is apart = (is, tt, tt)
  receipts_pushed l (x ∷ list) h are is apart =
      (are.0, apart_pushed x.1 list h are.1 (apart_back h.1 x.1 apart.0), receipts_pushed l list h are.2 is apart.1)

  -- one of them, and the others
  pub record Picks (l : List Entry) (before : List NumberedReceipt) (h : NumberedReceipt) (after : List NumberedReceipt) : Type 0 where
    pub is : IsIn config l (taken_with_pair h.1)
    pub apart : IsApart h.1 (before ++ after)
    pub others : AreReceipts config l (before ++ after)

  apart_at : (r : Receipt) (before : List NumberedReceipt) (h : NumberedReceipt) (after : List NumberedReceipt) → IsApart r (before ++ h ∷ after) → AreOfTwoTakes (taken_with_pair r) (taken_with_pair h.1)
  apart_at r [] h after apart = apart.0
  apart_at r (x ∷ before) h after apart = apart_at r before h after apart.1

  apart_without : (r : Receipt) (before : List NumberedReceipt) (h : NumberedReceipt) (after : List NumberedReceipt) → IsApart r (before ++ h ∷ after) → IsApart r (before ++ after)
  apart_without r [] h after apart = apart.1
  apart_without r (x ∷ before) h after apart = (apart.0, apart_without r before h after apart.1)

  pub picked : (l : List Entry) (before : List NumberedReceipt) (h : NumberedReceipt) (after : List NumberedReceipt) → AreReceipts config l (before ++ h ∷ after) → Picks l before h after
  picked l [] h after are = record { is = are.0; apart = are.1; others = are.2 }
  picked l (x ∷ before) h after are =
      let rest = picked l before h after are.2 in record {
        is = rest.is;
        apart = (apart_back x.1 h.1 (apart_at x.1 before h after are.1), rest.apart);
        others = (are.0, apart_without x.1 before h after are.1, rest.others);
      }

  -- the relay of a receipt keeps those that are apart from it
  pub receipts_passed : (l new : List Entry) (r : Receipt) (list : List NumberedReceipt) → KeepsOthers config l (taken_with_pair r) new → IsApart r list → AreReceipts config l list
      → AreReceipts config new list
  receipts_passed l new r [] keeps apart are = tt
  receipts_passed l new r (h ∷ list) keeps apart are = (keeps (taken_with_pair h.1) apart.0 are.0, are.1, receipts_passed l new r list keeps apart.1 are.2)

-- Receipts stay receipts of a longer list.
use Rattle.std.proofs.Common.{◌≡◌, ◌∙◌, refl, sym, ap, ℕ, inl, inr, List, [], ◌∷◌, ◌++◌, arith}
use Rattle.relay_outside.specs.declared.settings.Config.{Config}
use Rattle.rtp_packet.specs.declared.head.Half.{Half}
use Rattle.turn_table.specs.Steps.{entry}
use Rattle.histories.specs.Words.{In, here, there}
use Rattle.histories.proofs.Lists.{in_left, in_append}
use Rattle.port_pool.specs.Boxes.{Take, Taken}
use Rattle.call_cell.specs.declared.outcome.Outcome.{Outcome}
use Rattle.call_cell.specs.Cells.{Relay, Relayed, Receipt}
use Rattle.relay_core.specs.Entries.{Cell, Box, Entry, box_of}
use Rattle.relay_core.specs.Records.{logged_relay, entry_of}
use Rattle.relay_core.specs.Joins.{TakesOwnPairs}
use Rattle.relay_core.specs.Turns.{IsReceiving, Numbered}
use Rattle.relay_core.proofs.Joins.{not_in_both}
use Rattle.media_lane.specs.declared.answers.Received.{Received}
use Rattle.media_lane.specs.declared.answers.Received.TheVariants as answer
use Rattle.media_lane.specs.Receipts.{IsReceiptOf, IsUnspent}
use Rattle.media_lane.specs.Relays.{relay_made}
use Rattle.media_lane.specs.Takes.{take_made, TellsOfTake}
use Rattle.media_lane.specs.Steps.{IsIn, AreOfTwoTakes, IsNew, take_entry}

-- a relay of that take
pub record Spends (config : Config) (p : Receipt) (e : Entry) : Type 0 where
  pub relay : Relayed
  pub is : e.event ≡ Cell (Relay relay)
  pub pair_is : relay.packet.holder.pair ≡ p.holder.pair
  pub take_is : relay.packet.take ≡ p.take

module _ (config : Config) (l ls : List Entry) where
  pub own_left : TakesOwnPairs config (l ++ ls) → TakesOwnPairs config l
  own_left own e half leg source bytes i q = own e half leg source bytes (in_left l ls i) q

  -- a receipt stays one where no later entry relays its take
  pub receipt_stays : (TakesOwnPairs config l → IsReceiving config l) → (r : ℕ × Receipt)
      → (TakesOwnPairs config (l ++ ls) → (e : Entry) → In e ls → Spends config r.1 e → ⊥)
      → IsReceiptOf config l r.0 r.1 → IsReceiptOf config (l ++ ls) r.0 r.1
  receipt_stays receiving r none of = record {
    taking = of.taking;
    is_there = in_left l ls of.is_there;
    at_box = of.at_box;
    with_number = of.with_number;
    gave = of.gave;
    for_cell = of.for_cell;
    unspent = unspent;
  }
    where
      unspent : TakesOwnPairs config (l ++ ls) → IsReceiving config (l ++ ls) → IsUnspent (l ++ ls) r.1
      unspent own all e x i q pair take = elim (in_append l ls i) [
        | inl j ↦ of.unspent (own_left own) (receiving (own_left own)) e x j q pair take
        | inr j ↦ none own e j (record { relay = x; is = q; pair_is = pair; take_is = take })
      ]

-- the pair of a receipt's box is that of its leg
pub leg_pair : (config : Config) (l : List Entry) (r : ℕ × Receipt) → TakesOwnPairs config l → IsReceiptOf config l r.0 r.1 → r.1.holder.pair ≡ r.0
leg_pair config l r own of =
    let box : of.taking.place ≡ box_of config r.1.holder.pair = own of.taking r.1.half r.1.holder r.1.source r.1.bytes of.is_there of.gave in
    let at = of.at_box in omega (arith, box, at)

-- a relay of the one spends no other
pub apart_unspent : (config : Config) (l : List Entry) (r s : ℕ × Receipt) → TakesOwnPairs config l → IsReceiptOf config l r.0 r.1 → IsReceiptOf config l s.0 s.1
    → AreOfTwoTakes r s → r.1.holder.pair ≡ s.1.holder.pair → r.1.take ≡ s.1.take → ⊥
apart_unspent config l r s own of also apart pair take =
    apart (sym (leg_pair config l r own of) ∙ pair ∙ leg_pair config l s own also) take

-- A take spends no receipt.
pub take_spends : (config : Config) (p : Receipt) (place number : ℕ) (half : Half) (taken : Taken) (e : Entry)
    → In e (entry_of (entry place number (take_made half taken) (tt {0})) ∷ []) → Spends config p e → ⊥
take_spends config p place number half taken e (here q) s =
    let is : Box (Take half taken) ≡ Cell (Relay s.relay) = sym (ap (λ (x : Entry). x.event) q) ∙ s.is in absurd cc
take_spends config p place number half taken e (there i) s = elim i [ ]

-- a take is another one than those of the receipts before it
new_take : (config : Config) (l : List Entry) (pair number : ℕ) (half : Half) (taken : Taken) → Numbered (l ++ take_entry config pair half number taken ∷ [])
    → (s : ℕ × Receipt) → IsIn config l s → pair ≡ s.0 → number ≡ s.1.take → ⊥
new_take config l pair number half taken numbered s of pairs numbers =
    not_in_both l (take_entry config pair half number taken ∷ []) numbered of.taking (take_entry config pair half number taken) of.is_there (here refl)
    (of.at_box ∙ ap (box_of config) (sym pairs)) (of.with_number ∙ sym numbers)

pub is_new : (config : Config) (l : List Entry) (pair number : ℕ) (half : Half) (taken : Taken) (answer : Received)
    → Numbered (l ++ take_entry config pair half number taken ∷ []) → TellsOfTake answer pair number half taken → IsNew config l answer
is_new config l pair number half taken (answer.Got r) numbered tells = λ s of pairs takes.
    new_take config l pair number half taken numbered s of (sym tells.pair_is ∙ pairs) (sym tells.number_is ∙ takes)
is_new config l pair number half taken answer.Nothing numbered tells = tt
is_new config l pair number half taken (answer.Busy front) numbered tells = tt
is_new config l pair number half taken answer.TooLong numbered tells = tt
is_new config l pair number half taken answer.TakeFault numbered tells = tt

-- the relay of the one receipt spends no other
relay_is : (x y : Relayed) → Cell (Relay x) ≡ Cell (Relay y) → x ≡ y
relay_is x y q = cc

pub relay_spends : (config : Config) (l : List Entry) (r s : ℕ × Receipt) (place number now moment : ℕ) (outcome : Outcome) → TakesOwnPairs config l
    → IsReceiptOf config l r.0 r.1 → IsReceiptOf config l s.0 s.1 → AreOfTwoTakes r s → (e : Entry)
    → In e (entry_of (entry place number (relay_made r.1 now moment outcome) (tt {0})) ∷ []) → Spends config s.1 e → ⊥
relay_spends config l r s place number now moment outcome own of also apart e (here q) spent =
    let same : logged_relay r.1 outcome ≡ spent.relay =
    relay_is (logged_relay r.1 outcome) spent.relay (sym (ap (λ (x : Entry). x.event) q) ∙ spent.is) in
    apart_unspent config l r s own of also apart
    (ap (λ (x : Relayed). x.packet.holder.pair) same ∙ spent.pair_is) (ap (λ (x : Relayed). x.packet.take) same ∙ spent.take_is)
relay_spends config l r s place number now moment outcome own of also apart e (there i) spent = elim i [ ]

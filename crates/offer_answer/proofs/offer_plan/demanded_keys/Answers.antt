use Rattle.std.proofs.Common.{◌<◌, ◌≤◌, ◌++◌, ℕ, map, sym, ap, ◌∙◌, arith}
use Rattle.offer_answer.specs.Sections.{section_count}
use Rattle.offer_answer.specs.Offers.{key_asked, keys_asked}
use Rattle.offer_answer.specs.OfferPlaces.{AsksKey}
use Rattle.offer_answer.proofs.Offering.{count-heard, keys_left, keys-gathered, keys-are, keys-begin, keys-end}
use Rattle.offer_answer.proofs.Places.{keys-none, keys-more, keys-all, asks-key}
use Rattle.offer_answer.proofs.offer_plan.demanded_keys.Goals as goal

pub loop-index-init : goal.loop-index-init
loop-index-init c = record {
  keys = λ config rounds ask s h t e.
      ap (λ xs. map key_asked xs ++ keys_left rounds ask 0 (section_count ask.sdp)) c.new-keys.ensures.items ∙ keys-begin rounds ask;
  places = keys-none _ _ c.new-keys.ensures.items;
}

pub loop-index-preserved : goal.loop-index-preserved
loop-index-preserved c = record {
  keys = λ config rounds ask s h t e.
      let i : ℕ = c.loop-index.index in
      let n : ℕ = section_count ask.sdp in
      let below : i < n = omega (arith, c.loop-index-test.true, c.section_count-index-end.ensures.count, count-heard c.args.sdp.now ask h) in
      let o = c.offered_section-offered.result in
      keys-gathered rounds ask i n (keys_asked o c.args.transport i c.args.side) c.loop-index.keys.items c.push_keys.new.keys.items below
      (keys-are config rounds ask i o c.args.transport c.args.side (c.offered_section-offered.ensures.offered config rounds ask s h) t e) c.in_ok-push_keys.ensures
      ∙ c.loop-index.invariant.keys config rounds ask s h t e;
  places =
      let i : ℕ = c.loop-index.index in
      let o = c.offered_section-offered.result in
      keys-more (AsksKey c.args.sdp.now c.args.dialog.now) o c.args.transport i c.args.side c.loop-index.keys.items c.push_keys.new.keys.items
      (omega (arith, c.loop-index-test.true, c.section_count-index-end.ensures.most)) c.in_ok-push_keys.ensures
      (asks-key c.args.sdp.now c.args.dialog.now o i c.offered_section-offered.ensures.active c.offered_section-offered.ensures.kept)
      c.loop-index.invariant.places;
}

pub returns-clause-keys : goal.returns-clause-keys
returns-clause-keys c = λ config rounds ask s h t e.
    let past : section_count ask.sdp ≤ c.loop-index.index = omega (arith, c.loop-index-test.false, c.section_count-index-end.ensures.count, count-heard c.args.sdp.now ask h) in
    sym (keys-end rounds ask c.loop-index.index (section_count ask.sdp) (map key_asked c.loop-index.keys.items) past) ∙ c.loop-index.invariant.keys config rounds ask s h t e

pub returns-clause-places : goal.returns-clause-places
returns-clause-places c = keys-all (AsksKey c.args.sdp.now c.args.dialog.now) c.loop-index.index c.loop-index.keys.items c.loop-index.invariant.places

pub returns-clause-asked : goal.returns-clause-asked
returns-clause-asked c = c.loop-index.invariant.places.each

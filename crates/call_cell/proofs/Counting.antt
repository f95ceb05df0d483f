-- The counts of a leg over one entry of its cell's history.
use Rattle.std.proofs.Common.{◌≡◌, refl, ap, sym, ◌∙◌, ℕ, suc, ◌+◌, ◌-◌, ◌^◌, ◌<◌, ◌≤◌, Bool, true, false, cond, min, List, [], ◌∷◌, length, filter, filter_map, count_by, Option, Some, None, arith}
use Rattle.std.specs.Prelude.{◌&&◌}
use Rattle.std.specs.List.{list_any, cons_option}
use Rattle.std.proofs.lemmas.List.Sums.{sum_by-cons, length-filter, count_by-le-length}
use Rattle.rtp_packet.specs.declared.head.Half.{Half}
use Rattle.rtp_packet.specs.declared.head.Half.TheVariants.{Rtp, Rtcp}
use Rattle.srtp_sources.specs.Notes.{is_half}
use Rattle.histories.specs.Words.{until}
use Rattle.port_pool.specs.declared.holder.Holder.{Holder}
use Rattle.port_pool.specs.Signals.{NewKey, same_leg}
use Rattle.call_cell.specs.declared.counts.Counts.{Counts}
use Rattle.call_cell.specs.Cells.{CellEntry, Receipt, Relayed, Deed, is_accepted, is_end, legs_of, life, relayed, accepted_of, since_end}
use Rattle.call_cell.specs.Deeds.{kind, way, found, opposite_of, is_leaving}
use Rattle.call_cell.specs.Demands.{accepted_count, sent_count, is_sent, is_sent_by, CountsBelow}
use Rattle.call_cell.specs.LegHistories.{relay_entry}
use Rattle.call_cell.specs.Preparations.{prepare_entry}
use Rattle.call_cell.specs.Counts.{IsCounted, no_counts, as_counted, accepted_in, sent_in, more_accepted, more_sent}
use Rattle.call_cell.proofs.Steps.{prepare_goes_on, prepare_begins}

-- One packet more.

accepted_after : (half other : Half) (counts : Counts) → accepted_in other (more_accepted half counts)
    ≡ cond (is_half half other) (as_counted (accepted_in other counts + 1)) (accepted_in other counts)
accepted_after Rtp Rtp counts = refl
accepted_after Rtp Rtcp counts = refl
accepted_after Rtcp Rtp counts = refl
accepted_after Rtcp Rtcp counts = refl

sent_unaccepted : (half other : Half) (counts : Counts) → sent_in other (more_accepted half counts) ≡ sent_in other counts
sent_unaccepted Rtp Rtp counts = refl
sent_unaccepted Rtp Rtcp counts = refl
sent_unaccepted Rtcp Rtp counts = refl
sent_unaccepted Rtcp Rtcp counts = refl

sent_after : (half other : Half) (ok : Bool) (counts : Counts) → sent_in other (more_sent half ok counts)
    ≡ cond (ok && is_half half other) (as_counted (sent_in other counts + 1)) (sent_in other counts)
sent_after half other false counts = refl
sent_after Rtp Rtp true counts = refl
sent_after Rtp Rtcp true counts = refl
sent_after Rtcp Rtp true counts = refl
sent_after Rtcp Rtcp true counts = refl

accepted_unsent : (half other : Half) (ok : Bool) (counts : Counts) → accepted_in other (more_sent half ok counts) ≡ accepted_in other counts
accepted_unsent half other false counts = refl
accepted_unsent Rtp Rtp true counts = refl
accepted_unsent Rtp Rtcp true counts = refl
accepted_unsent Rtcp Rtp true counts = refl
accepted_unsent Rtcp Rtcp true counts = refl

none_accepted : (half : Half) → accepted_in half no_counts ≡ as_counted 0
none_accepted Rtp = refl
none_accepted Rtcp = refl

none_sent : (half : Half) → sent_in half no_counts ≡ as_counted 0
none_sent Rtp = refl
none_sent Rtcp = refl

-- a count rises as far as it goes
rises_case : (b : Bool) (n : ℕ) → cond b (as_counted (as_counted n + 1)) (as_counted n) ≡ as_counted (cond b (n + 1) n)
rises_case true n = let e : min (min n (2 ^ 64 - 1) + 1) (2 ^ 64 - 1) ≡ min (n + 1) (2 ^ 64 - 1) = omega arith in e
rises_case false n = refl

rises : (b : Bool) (old n : ℕ) → old ≡ as_counted n → cond b (as_counted (old + 1)) old ≡ as_counted (cond b (n + 1) n)
rises b old n q = ap (λ (m : ℕ). cond b (as_counted (m + 1)) m) q ∙ rises_case b n

-- What a relay adds.

-- the leg accepts the packet
abbrev accepts : Holder → Receipt → Deed → Bool
accepts leg p d = same_leg leg p.holder && is_accepted d.outcome

-- the packet is sent by the leg's end of a half
abbrev pub sent_from : List CellEntry → Holder → Half → Receipt → Deed → Bool
sent_from h leg half p d = is_sent d.outcome && (is_half (way h p) half && is_leaving (opposite_of h (found h p)) leg)

count_case : (half : Half) (r : Relayed) (rest : List Relayed) (n : ℕ) → count_by (λ (x : Relayed). is_half x.deed.kind half) rest ≡ n → (b : Bool)
    → count_by (λ (x : Relayed). is_half x.deed.kind half) (cond b (r ∷ rest) rest) ≡ cond (b && is_half r.deed.kind half) (n + 1) n
count_case half r rest n is true =
    sum_by-cons (λ (x : Relayed). cond (is_half x.deed.kind half) 1 0) r rest ∙ one_case (is_half r.deed.kind half)
  where
    one_case : (c : Bool) → cond c 1 0 + count_by (λ (x : Relayed). is_half x.deed.kind half) rest ≡ cond c (n + 1) n
    one_case true = omega (arith, is)
    one_case false = omega (arith, is)
count_case half r rest n is false = is

accepted_more : (m : ℕ) (p : Receipt) (ok : Bool) (d : Deed) (h : List CellEntry) (leg : Holder) (half : Half)
    → accepted_count (relay_entry m p ok d ∷ h) leg half ≡ cond (accepts leg p d && is_half d.kind half) (accepted_count h leg half + 1) (accepted_count h leg half)
accepted_more m p ok d h leg half =
    count_case half (record { packet = p; sent_ok = ok; deed = d }) (accepted_of (life h leg) leg) (accepted_count h leg half) refl (accepts leg p d)

module _ (m : ℕ) (p : Receipt) (ok : Bool) (d : Deed) (h : List CellEntry) (leg : Holder) (counts : Counts) where
  accepted_same : IsCounted h leg counts → accepts leg p d ≡ false → (half : Half) → accepted_in half counts ≡ as_counted (accepted_count (relay_entry m p ok d ∷ h) leg half)
  accepted_same for none half =
      for.accepted half
      ∙ sym (ap as_counted (accepted_more m p ok d h leg half
      ∙ ap (λ (b : Bool). cond (b && is_half d.kind half) (accepted_count h leg half + 1) (accepted_count h leg half)) none))

  sent_same : IsCounted h leg counts → (half : Half) → sent_from h leg half p d ≡ false → sent_in half counts ≡ as_counted (sent_count (relay_entry m p ok d ∷ h) leg half)
  sent_same for half none =
      for.sent half ∙ sym (ap as_counted (ap (λ (b : Bool). cond b (sent_count h leg half + 1) (sent_count h leg half)) none))

  -- neither accepted nor sent
  pub counted_still : IsCounted h leg counts → accepts leg p d ≡ false → ((half : Half) → sent_from h leg half p d ≡ false)
      → IsCounted (relay_entry m p ok d ∷ h) leg counts
  counted_still for none unsent = record { accepted = accepted_same for none; sent = λ half. sent_same for half (unsent half) }

  -- accepted, and sent by another leg or not at all
  pub counted_accepts : IsCounted h leg counts → accepts leg p d ≡ true → d.kind ≡ (kind h p) → ((half : Half) → sent_from h leg half p d ≡ false)
      → IsCounted (relay_entry m p ok d ∷ h) leg (more_accepted (kind h p) counts)
  counted_accepts for so is_kind unsent = record {
    accepted = λ half.
        accepted_after (kind h p) half counts
        ∙ rises (is_half (kind h p) half) (accepted_in half counts) (accepted_count h leg half) (for.accepted half)
        ∙ sym (ap as_counted (accepted_more m p ok d h leg half
        ∙ ap (λ (b : Bool). cond (b && is_half d.kind half) (accepted_count h leg half + 1) (accepted_count h leg half)) so
        ∙ ap (λ (k : Half). cond (is_half k half) (accepted_count h leg half + 1) (accepted_count h leg half)) is_kind));
    sent = λ half. sent_unaccepted (kind h p) half counts ∙ sent_same for half (unsent half);
  }

  -- accepted by another leg, and sent by this one where the send returned Ok
  pub counted_sends : (done : Bool) → IsCounted h leg counts → accepts leg p d ≡ false → ((half : Half) → sent_from h leg half p d ≡ (done && is_half (way h p) half))
      → IsCounted (relay_entry m p ok d ∷ h) leg (more_sent (way h p) done counts)
  counted_sends done for none sent_so = record {
    accepted = λ half. accepted_unsent (way h p) half done counts ∙ accepted_same for none half;
    sent = λ half.
        sent_after (way h p) half done counts
        ∙ rises (done && is_half (way h p) half) (sent_in half counts) (sent_count h leg half) (for.sent half)
        ∙ sym (ap as_counted (ap (λ (b : Bool). cond b (sent_count h leg half + 1) (sent_count h leg half)) (sent_so half)));
  }

-- What an offer adds.

pub counted_stays : (m call : ℕ) (legs : List Holder) (keys : List NewKey) (dropped : List ℕ) (h : List CellEntry) (leg : Holder) (counts : Counts)
    → list_any (same_leg leg) legs ≡ false → IsCounted h leg counts → IsCounted (prepare_entry m call legs keys dropped ∷ h) leg counts
counted_stays m call legs keys dropped h leg counts stays for = record {
  accepted = λ half. for.accepted half
      ∙ sym (ap as_counted (ap (λ (k : List CellEntry). count_by (λ (r : Relayed). is_half r.deed.kind half) (accepted_of k leg))
      (prepare_goes_on m call legs keys dropped h leg stays)));
  sent = λ half. for.sent half ∙ sym (ap as_counted (ap (λ (b : Bool). cond b 0 (sent_count h leg half)) stays));
}

pub counted_begins : (m call : ℕ) (legs : List Holder) (keys : List NewKey) (dropped : List ℕ) (h : List CellEntry) (leg : Holder) (counts : Counts)
    → list_any (same_leg leg) legs ≡ true → counts ≡ no_counts → IsCounted (prepare_entry m call legs keys dropped ∷ h) leg counts
counted_begins m call legs keys dropped h leg counts begins none = record {
  accepted = λ half. ap (accepted_in half) none ∙ none_accepted half
      ∙ sym (ap as_counted (ap (λ (k : List CellEntry). count_by (λ (r : Relayed). is_half r.deed.kind half) (accepted_of k leg))
      (prepare_begins m call legs keys dropped h leg begins)));
  sent = λ half. ap (sent_in half) none ∙ none_sent half ∙ sym (ap as_counted (ap (λ (b : Bool). cond b 0 (sent_count h leg half)) begins));
}

-- How many there can be.

until_case : {X : Type 0} (x : X) (xs rest : List X) → length rest ≤ length xs → (b : Bool) → length (cond b [] (x ∷ rest)) ≤ suc (length xs)
until_case x xs rest few true = omega arith
until_case x xs rest few false = omega (arith, few)

until_few : {X : Type 0} (p : X → Bool) (xs : List X) → length (until p xs) ≤ length xs
until_few p [] = omega arith
until_few p (x ∷ xs) = until_case x xs (until p xs) (until_few p xs) (p x)

picked_case : {X Y : Type 0} (xs : List X) (rest : List Y) → length rest ≤ length xs → (o : Option Y) → length (cons_option o rest) ≤ suc (length xs)
picked_case xs rest few None = omega (arith, few)
picked_case xs rest few (Some y) = omega (arith, few)

pub picked_few : {X Y : Type 0} (f : X → Option Y) (xs : List X) → length (filter_map f xs) ≤ length xs
picked_few f [] = omega arith
picked_few f (x ∷ xs) = picked_case xs (filter_map f xs) (picked_few f xs) (f x)

accepted_few : (h : List CellEntry) (leg : Holder) (half : Half) → accepted_count h leg half ≤ length h
accepted_few h leg half =
    let adds : CellEntry → Bool = λ (e : CellEntry). list_any (same_leg leg) (legs_of e.event) in
    let hears : Relayed → Bool = λ (r : Relayed). same_leg leg r.packet.holder && is_accepted r.deed.outcome in
    let all : List Relayed = filter_map relayed (until adds h) in
    omega (
      arith,
      count_by-le-length (λ (r : Relayed). is_half r.deed.kind half) (filter hears all),
      length-filter hears all,
      count_by-le-length hears all,
      picked_few relayed (until adds h),
      until_few adds h,
    )

sent_case : (n m : ℕ) → n ≤ m → (a b : Bool) → cond a 0 (cond b (n + 1) n) ≤ suc m
sent_case n m few true b = omega arith
sent_case n m few false true = omega (arith, few)
sent_case n m few false false = omega (arith, few)

sent_few : (h : List CellEntry) (leg : Holder) (half : Half) → sent_count h leg half ≤ length h
sent_few [] leg half = omega arith
sent_few (e ∷ h) leg half =
    sent_case (sent_count h leg half) (length h) (sent_few h leg half) (list_any (same_leg leg) (legs_of e.event)) (is_sent_by leg half h (relayed e))

-- after fewer than 2 ^ 63 entries all counts are below that
pub counts_below : (h : List CellEntry) → length h < 2 ^ 63 → CountsBelow (since_end h)
counts_below h short leg half i =
    let few = until_few is_end h in
    (omega (arith, accepted_few (since_end h) leg half, few, short), omega (arith, sent_few (since_end h) leg half, few, short))

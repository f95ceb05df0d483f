-- What a table of counts returns and what a count changes, for the notes that it stands for.
use Rattle.std.proofs.Common.{◌≡◌, ◌≢◌, ℕ, ◌+◌, ◌<◌, ◌≤◌, ◌⊎◌, inl, inr, Bool, true, false, List, [], ◌∷◌, ◌++◌, length, Option, Some, None, IfSome, arith, sym, ◌∙◌, ap, refl, take, get_or-take, length-take-le, get_or-set_other, get_or-set_same}
use Rattle.std.specs.Prelude.{◌==◌, ◌||◌, nat_lt, slice_index, slice_set, is_some, position}
use Rattle.std.proofs.lemmas.Bool.{cases_lt, cases_eq}
use Rattle.std.proofs.lemmas.Bool.Decides.{nat_tests}
use Rattle.std.proofs.lemmas.List.{take_more_set}
use Rattle.std.proofs.lemmas.List.Folds.{list_any_at}
use Rattle.std.proofs.lemmas.List.Quantifiers.{position-Some}
use Rattle.rtp_packet.specs.declared.head.Half.TheVariants.{Rtcp}
use Rattle.srtp_sources.specs.Notes.{Note, indices, sources, has_room, is_room_in}
use Rattle.srtp_sources.proofs.Knowing.{has, equal, equal_if, any-position, indices-unknown, note_of, sources-known, sources-new, indices-noted, indices-other, same_source}
use Rattle.srtcp_context.specs.declared.counts.Counts.{Counts}
use Rattle.srtcp_context.specs.declared.counts.Sender.{Sender}
use Rattle.srtcp_context.specs.OutboundPackets.{next_index}
use Rattle.srtcp_context.specs.Counts.{CountsFor, IsSenderPlaced, can_count}

pub none_known : (table : Counts) → table.count ≡ 0 → CountsFor table []
unfolding sources
none_known table none = record {
  known = ap (λ n. take n table.ssrcs) none;
  each = λ place below. absurd (omega arith);
}

-- where a source stands that was found
pub stands_there : (table : Counts) (sender : Sender) → length table.ssrcs ≡ 32 → table.count ≤ 32 → IsSenderPlaced table sender
    → IfSome sender.place (λ place. (place < table.count) × (slice_index table.ssrcs place ≡ sender.ssrc))
stands_there table sender places within placed = by_place sender.place placed
  where
    by_place : (found : Option ℕ) → found ≡ position (λ known. known == sender.ssrc) (take table.count table.ssrcs)
        → IfSome found (λ place. (place < table.count) × (slice_index table.ssrcs place ≡ sender.ssrc))
    by_place None is = tt
    by_place (Some place) is =
        let at = position-Some (λ known. known == sender.ssrc) (take table.count table.ssrcs) place 0 (sym is) in
        let size : length (take table.count table.ssrcs) ≡ table.count = length-take-le table.count table.ssrcs (omega arith) in
        let below : place < table.count = omega (arith, at.0, size) in
        (below, sym (get_or-take table.count table.ssrcs place 0 below) ∙ equal_if _ sender.ssrc at.1)

-- a source that the table does not find has sent nothing
pub not_found : (table : Counts) (ssrc : ℕ) (notes : List Note) → CountsFor table notes
    → position (λ known. known == ssrc) (take table.count table.ssrcs) ≡ None → 0 ≡ next_index ssrc notes
not_found table ssrc notes for none =
    let nothing : indices Rtcp ssrc notes ≡ [] = indices-unknown Rtcp ssrc notes
    (ap (λ l. has ssrc l) (sym for.known) ∙ any-position (λ known. known == ssrc) (take table.count table.ssrcs) ∙ ap is_some none) in
    sym (ap length nothing)

pub can_count-is : (table : Counts) (ssrc : ℕ) (notes : List Note) → CountsFor table notes
    → can_count table ssrc ≡ has_room Rtcp ssrc notes
unfolding can_count has_room
can_count-is table ssrc notes for = ap (λ known. is_room_in known ssrc) for.known

pub less : (a b : ℕ) → a < b → nat_lt a b ≡ true
less a b is = grind (arith, nat_tests)

pub not_less : (a b : ℕ) → b ≤ a → nat_lt a b ≡ false
not_less a b is = grind (arith, nat_tests)

or_left : (a b : Bool) → a ≡ true → (a || b) ≡ true
or_left true b is = refl
or_left false b is = cc

or_right : (a b : Bool) → a ≡ false → (a || b) ≡ b
or_right false b is = refl
or_right true b is = cc

pub can_count-below : (table : Counts) (ssrc : ℕ) → length table.ssrcs ≡ 32 → table.count < 32 → can_count table ssrc ≡ true
unfolding can_count
can_count-below table ssrc places below =
    let size : length (take table.count table.ssrcs) ≡ table.count = length-take-le table.count table.ssrcs (omega arith) in
    or_left _ _ (less (length (take table.count table.ssrcs)) 32 (omega arith))

pub can_count-full : (table : Counts) (ssrc : ℕ) → length table.ssrcs ≡ 32 → table.count ≤ 32 → 32 ≤ table.count
    → can_count table ssrc ≡ is_some (position (λ known. known == ssrc) (take table.count table.ssrcs))
unfolding can_count
can_count-full table ssrc places within full =
    let size : length (take table.count table.ssrcs) ≡ table.count = length-take-le table.count table.ssrcs (omega arith) in
    or_right _ _ (not_less (length (take table.count table.ssrcs)) 32 (omega arith))
    ∙ any-position (λ known. known == ssrc) (take table.count table.ssrcs)

-- a table that can count a source that it doesn't know has a place
pub place_left : (table : Counts) (ssrc : ℕ) → length table.ssrcs ≡ 32 → table.count ≤ 32 → can_count table ssrc ≡ true
    → position (λ known. known == ssrc) (take table.count table.ssrcs) ≡ None → table.count < 32
place_left table ssrc places within can none = elim (cases_lt table.count 32) [
  | inl below ↦ below
  | inr full ↦
      let clash : true ≡ false = sym can ∙ can_count-full table ssrc places within full ∙ ap is_some none in cc
]

-- how many a source has sent after a further note
counted_here : (ssrc next : ℕ) (notes : List Note) → next ≡ next_index ssrc notes
    → next + 1 ≡ length (indices Rtcp ssrc (note_of Rtcp ssrc next ∷ notes))
counted_here ssrc next notes is = omega (arith, ap length (indices-noted Rtcp ssrc next notes), is)

counted_other : (ssrc other next : ℕ) (notes : List Note) → ssrc ≢ other
    → length (indices Rtcp other (note_of Rtcp ssrc next ∷ notes)) ≡ length (indices Rtcp other notes)
counted_other ssrc other next notes apart = ap length (indices-other Rtcp ssrc other next notes apart)

pub counted_known : (old new : Counts) (ssrc next place : ℕ) (notes : List Note)
    → CountsFor old notes → length old.ssrcs ≡ 32 → length old.sent ≡ 32 → old.count ≤ 32
    → new.ssrcs ≡ old.ssrcs → new.sent ≡ slice_set old.sent place (next + 1) → new.count ≡ old.count
    → position (λ known. known == ssrc) (take old.count old.ssrcs) ≡ Some place
    → (place < old.count) × (slice_index old.ssrcs place ≡ ssrc) → next ≡ next_index ssrc notes
    → CountsFor new (note_of Rtcp ssrc next ∷ notes)
counted_known old new ssrc next place notes for places tallies within same_ssrcs written same_count first at is = record {
  known = ap (λ n. take n new.ssrcs) same_count ∙ ap (λ l. take old.count l) same_ssrcs ∙ for.known
      ∙ sym (sources-known Rtcp ssrc next notes known);
  each = λ k below. by_place k (omega (arith, same_count)) (cases_eq k place);
}
  where
    known : has ssrc (sources Rtcp notes) ≡ true
    known = ap (λ l. has ssrc l) (sym for.known) ∙ any-position (λ known. known == ssrc) (take old.count old.ssrcs) ∙ ap is_some first

    size : length (sources Rtcp notes) ≡ old.count
    size = ap length (sym for.known) ∙ length-take-le old.count old.ssrcs (omega arith)

    source_at : (k : ℕ) → k < old.count → slice_index (sources Rtcp notes) k ≡ slice_index old.ssrcs k
    source_at k below = ap (λ l. slice_index l k) (sym for.known) ∙ get_or-take old.count old.ssrcs k 0 below

    of_source : (k s : ℕ) → slice_index new.ssrcs k ≡ s
        → length (indices Rtcp s (note_of Rtcp ssrc next ∷ notes)) ≡ length (indices Rtcp (slice_index new.ssrcs k) (note_of Rtcp ssrc next ∷ notes))
    of_source k s is = ap (λ t. length (indices Rtcp t (note_of Rtcp ssrc next ∷ notes))) (sym is)

    by_place : (k : ℕ) → k < old.count → (k ≡ place) ⊎ (k ≡ place → ⊥)
        → slice_index new.sent k ≡ length (indices Rtcp (slice_index new.ssrcs k) (note_of Rtcp ssrc next ∷ notes))
    by_place k below (inl here) =
        ap (λ l. slice_index l k) written ∙ ap (λ n. slice_index (slice_set old.sent place (next + 1)) n) here
        ∙ get_or-set_same old.sent place (next + 1) 0 (omega (arith, at.0)) ∙ counted_here ssrc next notes is
        ∙ of_source k ssrc (ap (λ l. slice_index l k) same_ssrcs ∙ ap (λ n. slice_index old.ssrcs n) here ∙ at.1)
    by_place k below (inr apart) =
        let others : ssrc ≢ slice_index old.ssrcs k = λ same. apart (same_source Rtcp notes k place (omega (arith, size)) (omega (arith, size, at.0))
        (source_at k below ∙ sym same ∙ sym at.1 ∙ sym (source_at place at.0))) in
        ap (λ l. slice_index l k) written ∙ get_or-set_other old.sent place k (next + 1) 0 apart ∙ for.each k below
        ∙ sym (counted_other ssrc (slice_index old.ssrcs k) next notes others)
        ∙ of_source k (slice_index old.ssrcs k) (ap (λ l. slice_index l k) same_ssrcs)

pub counted_new : (old new : Counts) (ssrc next : ℕ) (notes : List Note)
    → CountsFor old notes → length old.ssrcs ≡ 32 → length old.sent ≡ 32 → old.count < 32
    → new.ssrcs ≡ slice_set old.ssrcs old.count ssrc → new.sent ≡ slice_set old.sent old.count (next + 1) → new.count ≡ old.count + 1
    → position (λ known. known == ssrc) (take old.count old.ssrcs) ≡ None → next ≡ next_index ssrc notes
    → CountsFor new (note_of Rtcp ssrc next ∷ notes)
counted_new old new ssrc next notes for places tallies within more_ssrcs written more_count none is = record {
  known = ap (λ n. take n new.ssrcs) more_count ∙ ap (λ l. take (old.count + 1) l) more_ssrcs
      ∙ take_more_set old.ssrcs old.count ssrc (omega arith) ∙ ap (λ l. l ++ ssrc ∷ []) for.known
      ∙ sym (sources-new Rtcp ssrc next notes unknown);
  each = λ k below. by_place k (cases_lt k old.count) (omega (arith, more_count));
}
  where
    unknown : has ssrc (sources Rtcp notes) ≡ false
    unknown = ap (λ l. has ssrc l) (sym for.known) ∙ any-position (λ known. known == ssrc) (take old.count old.ssrcs) ∙ ap is_some none

    of_source : (k s : ℕ) → slice_index new.ssrcs k ≡ s
        → length (indices Rtcp s (note_of Rtcp ssrc next ∷ notes)) ≡ length (indices Rtcp (slice_index new.ssrcs k) (note_of Rtcp ssrc next ∷ notes))
    of_source k s is = ap (λ t. length (indices Rtcp t (note_of Rtcp ssrc next ∷ notes))) (sym is)

    by_place : (k : ℕ) → (k < old.count) ⊎ (old.count ≤ k) → k < old.count + 1
        → slice_index new.sent k ≡ length (indices Rtcp (slice_index new.ssrcs k) (note_of Rtcp ssrc next ∷ notes))
    by_place k (inl below) _ =
        let there : slice_index new.ssrcs k ≡ slice_index old.ssrcs k =
        ap (λ l. slice_index l k) more_ssrcs ∙ get_or-set_other old.ssrcs old.count k ssrc 0 (omega arith) in
        let others : ssrc ≢ slice_index old.ssrcs k = λ same.
        (let known : has ssrc (sources Rtcp notes) ≡ true = ap (λ l. has ssrc l) (sym for.known)
        ∙ list_any_at (λ known. known == ssrc) (take old.count old.ssrcs) k 0 (omega (arith, length-take-le old.count old.ssrcs))
        (equal _ ssrc (get_or-take old.count old.ssrcs k 0 below ∙ sym same)) in
        let clash : true ≡ false = sym known ∙ unknown in cc) in
        ap (λ l. slice_index l k) written ∙ get_or-set_other old.sent old.count k (next + 1) 0 (omega arith) ∙ for.each k below
        ∙ sym (counted_other ssrc (slice_index old.ssrcs k) next notes others) ∙ of_source k (slice_index old.ssrcs k) there
    by_place k (inr full) last =
        let here : k ≡ old.count = omega arith in
        ap (λ l. slice_index l k) written ∙ ap (λ n. slice_index (slice_set old.sent old.count (next + 1)) n) here
        ∙ get_or-set_same old.sent old.count (next + 1) 0 (omega arith) ∙ counted_here ssrc next notes is
        ∙ of_source k ssrc (ap (λ l. slice_index l k) more_ssrcs ∙ ap (λ n. slice_index (slice_set old.ssrcs old.count ssrc) n) here
        ∙ get_or-set_same old.ssrcs old.count ssrc 0 (omega arith))

-- What a table's results and changes mean for the notes that it stands for.
use Rattle.std.proofs.Common.{◌≡◌, ◌≢◌, ℕ, ◌+◌, ◌<◌, ◌≤◌, ◌⊎◌, inl, inr, Bool, true, false, List, [], ◌∷◌, ◌++◌, length, Option, Some, None, IfSome, arith, sym, ◌∙◌, ap, subst, refl, take, get_or-take, length-take-le, get_or-set_other, get_or-set_same}
use Rattle.std.proofs.lemmas.List.{take_more_set}
use Rattle.std.proofs.lemmas.List.Folds.{list_any_at}
use Rattle.std.proofs.lemmas.List.Quantifiers.{position-Some}
use Rattle.std.proofs.lemmas.Bool.{cases_lt, cases_eq}
use Rattle.std.proofs.lemmas.Bool.Decides.{nat_tests}
use Rattle.std.specs.Prelude.{◌==◌, ◌||◌, nat_lt, slice_index, slice_index_or, slice_set, is_some, position}
use Rattle.rtp_packet.specs.declared.head.Half.{Half}
use Rattle.replay_window.specs.declared.window.Window.{Window}
use Rattle.replay_window.specs.declared.answers.Near.TheVariants.{At}
use Rattle.replay_window.specs.declared.answers.Fresh.TheVariants.{Yes}
use Rattle.replay_window.specs.Indices.{near, fresh}
use Rattle.replay_window.specs.Windows.{WindowStandsFor}
use Rattle.srtp_sources.specs.declared.sources.Source.{Source}
use Rattle.srtp_sources.specs.declared.sources.Sources.{Sources}
use Rattle.std.specs.Prelude.{◌&&◌, if◌then◌else◌}
use Rattle.std.specs.List.{cons_option, filter_map}
use Rattle.srtp_sources.specs.Notes.{Note, is_half, once, source_under, indices, sources, has_room, is_room_in}
use Rattle.srtp_sources.specs.Tables.{SourcesFor, IsPlaced, can_note}
use Rattle.srtp_sources.proofs.Knowing.{has, equal, equal_if, any-position, indices-unknown, note_of, sources-known, sources-new, indices-noted, indices-other, same_source}

-- where a source stands that was found
pub stands_there : (table : Sources) (source : Source) → length table.ssrcs ≡ 32 → table.count ≤ 32 → IsPlaced table source
    → IfSome source.place (λ place. (place < table.count) × (slice_index table.ssrcs place ≡ source.ssrc))
stands_there table source places within placed = by_place source.place placed
  where
    by_place : (found : Option ℕ) → found ≡ position (λ known. known == source.ssrc) (take table.count table.ssrcs)
        → IfSome found (λ place. (place < table.count) × (slice_index table.ssrcs place ≡ source.ssrc))
    by_place None is = tt
    by_place (Some place) is =
        let at = position-Some (λ known. known == source.ssrc) (take table.count table.ssrcs) place 0 (sym is) in
        let size : length (take table.count table.ssrcs) ≡ table.count = length-take-le table.count table.ssrcs (omega arith) in
        let below : place < table.count = omega (arith, at.0, size) in
        (below, sym (get_or-take table.count table.ssrcs place 0 below) ∙ equal_if _ source.ssrc at.1)

-- a source that the table does not find has no index
pub not_found : (half : Half) (table : Sources) (ssrc : ℕ) (notes : List Note) → SourcesFor half table notes
    → position (λ known. known == ssrc) (take table.count table.ssrcs) ≡ None → indices half ssrc notes ≡ []
not_found half table ssrc notes for none = indices-unknown half ssrc notes
    (ap (λ l. has ssrc l) (sym for.known) ∙ any-position (λ known. known == ssrc) (take table.count table.ssrcs) ∙ ap is_some none)

pub near_nothing : (half : Half) (ssrc seq : ℕ) (notes : List Note) → indices half ssrc notes ≡ []
    → At seq ≡ near (indices half ssrc notes) seq
unfolding near
near_nothing half ssrc seq notes none = sym (ap (λ l. near l seq) none)

pub fresh_nothing : (half : Half) (ssrc index : ℕ) (notes : List Note) → indices half ssrc notes ≡ []
    → Yes ≡ fresh (indices half ssrc notes) index
unfolding fresh
fresh_nothing half ssrc index notes none = sym (ap (λ l. fresh l index) none)

-- what the table can note is what the notes leave room for
pub can_note-is : (half : Half) (table : Sources) (ssrc : ℕ) (notes : List Note) → SourcesFor half table notes
    → can_note table ssrc ≡ has_room half ssrc notes
unfolding can_note has_room
can_note-is half table ssrc notes for = ap (λ known. is_room_in known ssrc) for.known

pub less : (a b : ℕ) → a < b → nat_lt a b ≡ true
less a b is = grind (arith, nat_tests)

not_less : (a b : ℕ) → b ≤ a → nat_lt a b ≡ false
not_less a b is = grind (arith, nat_tests)

or_left : (a b : Bool) → a ≡ true → (a || b) ≡ true
or_left true b is = refl
or_left false b is = cc

or_right : (a b : Bool) → a ≡ false → (a || b) ≡ b
or_right false b is = refl
or_right true b is = cc

pub can_note-below : (table : Sources) (ssrc : ℕ) → length table.ssrcs ≡ 32 → table.count < 32 → can_note table ssrc ≡ true
unfolding can_note
can_note-below table ssrc places below =
    let size : length (take table.count table.ssrcs) ≡ table.count = length-take-le table.count table.ssrcs (omega arith) in
    or_left _ _ (less (length (take table.count table.ssrcs)) 32 (omega arith))

pub can_note-full : (table : Sources) (ssrc : ℕ) → length table.ssrcs ≡ 32 → table.count ≤ 32 → 32 ≤ table.count
    → can_note table ssrc ≡ is_some (position (λ known. known == ssrc) (take table.count table.ssrcs))
unfolding can_note
can_note-full table ssrc places within full =
    let size : length (take table.count table.ssrcs) ≡ table.count = length-take-le table.count table.ssrcs (omega arith) in
    or_right _ _ (not_less (length (take table.count table.ssrcs)) 32 (omega arith))
    ∙ any-position (λ known. known == ssrc) (take table.count table.ssrcs)

-- a table that can note a source that it doesn't know has a place
pub place_left : (table : Sources) (ssrc : ℕ) → length table.ssrcs ≡ 32 → table.count ≤ 32 → can_note table ssrc ≡ true
    → position (λ known. known == ssrc) (take table.count table.ssrcs) ≡ None → table.count < 32
place_left table ssrc places within can none = elim (cases_lt table.count 32) [
  | inl below ↦ below
  | inr full ↦
      let clash : true ≡ false = sym can ∙ can_note-full table ssrc places within full ∙ ap is_some none in cc
]

-- the source at a place, as the notes have it
source_at : (half : Half) (table : Sources) (notes : List Note) (place : ℕ) → SourcesFor half table notes → place < table.count
    → slice_index (sources half notes) place ≡ slice_index table.ssrcs place
source_at half table notes place for below =
    ap (λ l. slice_index l place) (sym for.known) ∙ get_or-take table.count table.ssrcs place 0 below

count_is : (half : Half) (table : Sources) (notes : List Note) → SourcesFor half table notes → length table.ssrcs ≡ 32
    → table.count ≤ 32 → length (sources half notes) ≡ table.count
count_is half table notes for places within =
    ap length (sym for.known) ∙ length-take-le table.count table.ssrcs (omega arith)

found_is : (half : Half) (table : Sources) (ssrc place : ℕ) (notes : List Note) → SourcesFor half table notes
    → position (λ known. known == ssrc) (take table.count table.ssrcs) ≡ Some place → has ssrc (sources half notes) ≡ true
found_is half table ssrc place notes for at =
    ap (λ l. has ssrc l) (sym for.known) ∙ any-position (λ known. known == ssrc) (take table.count table.ssrcs) ∙ ap is_some at

pub noted_known : (half : Half) (old new : Sources) (ssrc index place : ℕ) (notes : List Note)
    → SourcesFor half old notes → length old.ssrcs ≡ 32 → old.count ≤ 32
    → new.ssrcs ≡ old.ssrcs → new.count ≡ old.count
    → position (λ known. known == ssrc) (take old.count old.ssrcs) ≡ Some place
    → (place < old.count) × (slice_index old.ssrcs place ≡ ssrc)
    → ((other : Window) → WindowStandsFor (slice_index_or new.windows place other) (index ∷ indices half ssrc notes))
    → ((at : ℕ) (other : Window) → at ≢ place → slice_index_or new.windows at other ≡ slice_index_or old.windows at other)
    → SourcesFor half new (note_of half ssrc index ∷ notes)
noted_known half old new ssrc index place notes for places within same_ssrcs same_count first at here elsewhere = record {
  known = ap (λ n. take n new.ssrcs) same_count ∙ ap (λ l. take old.count l) same_ssrcs ∙ for.known
      ∙ sym (sources-known half ssrc index notes (found_is half old ssrc place notes for first));
  each = λ k other below. by_place k other (omega (arith, same_count)) (cases_eq k place);
}
  where
    stand : (k : ℕ) (other : Window) (ssrc_there : ℕ) → slice_index new.ssrcs k ≡ ssrc_there → (list : List ℕ)
        → indices half ssrc_there (note_of half ssrc index ∷ notes) ≡ list
        → WindowStandsFor (slice_index_or new.windows k other) list
        → WindowStandsFor (slice_index_or new.windows k other) (indices half (slice_index new.ssrcs k) (note_of half ssrc index ∷ notes))
    stand k other ssrc_there is list noted stands =
        let P : List ℕ → Type 0 = λ l. WindowStandsFor (slice_index_or new.windows k other) l in
        subst P (sym (ap (λ s. indices half s (note_of half ssrc index ∷ notes)) is ∙ noted)) stands

    there : (k : ℕ) → slice_index new.ssrcs k ≡ slice_index old.ssrcs k
    there k = ap (λ l. slice_index l k) same_ssrcs

    by_place : (k : ℕ) (other : Window) → k < old.count → (k ≡ place) ⊎ (k ≡ place → ⊥)
        → WindowStandsFor (slice_index_or new.windows k other) (indices half (slice_index new.ssrcs k) (note_of half ssrc index ∷ notes))
    by_place k other below (inl is) =
        let at_place : WindowStandsFor (slice_index_or new.windows k other) (index ∷ indices half ssrc notes) =
        (let P : ℕ → Type 0 = λ n. WindowStandsFor (slice_index_or new.windows n other) (index ∷ indices half ssrc notes) in
        subst P (sym is) (here other)) in
        stand k other ssrc (there k ∙ ap (λ n. slice_index old.ssrcs n) is ∙ at.1) _ (indices-noted half ssrc index notes) at_place
    by_place k other below (inr apart) =
        let others : ssrc ≢ slice_index old.ssrcs k = λ same. apart (same_source half notes k place
        (omega (arith, count_is half old notes for places within)) (omega (arith, at.0, count_is half old notes for places within))
        (source_at half old notes k for below ∙ sym same ∙ sym at.1 ∙ sym (source_at half old notes place for at.0))) in
        let kept : WindowStandsFor (slice_index_or new.windows k other) (indices half (slice_index old.ssrcs k) notes) =
        (let P : Window → Type 0 = λ w. WindowStandsFor w (indices half (slice_index old.ssrcs k) notes) in
        subst P (sym (elsewhere k other apart)) (for.each k other below)) in
        stand k other (slice_index old.ssrcs k) (there k) _ (indices-other half ssrc (slice_index old.ssrcs k) index notes others) kept

pub noted_new : (half : Half) (old new : Sources) (ssrc index : ℕ) (notes : List Note)
    → SourcesFor half old notes → length old.ssrcs ≡ 32 → old.count < 32
    → new.ssrcs ≡ slice_set old.ssrcs old.count ssrc → new.count ≡ old.count + 1
    → position (λ known. known == ssrc) (take old.count old.ssrcs) ≡ None
    → ((other : Window) → WindowStandsFor (slice_index_or new.windows old.count other) (index ∷ []))
    → ((at : ℕ) (other : Window) → at < old.count → slice_index_or new.windows at other ≡ slice_index_or old.windows at other)
    → SourcesFor half new (note_of half ssrc index ∷ notes)
noted_new half old new ssrc index notes for places within more_ssrcs more_count none here elsewhere = record {
  known = ap (λ n. take n new.ssrcs) more_count ∙ ap (λ l. take (old.count + 1) l) more_ssrcs
      ∙ take_more_set old.ssrcs old.count ssrc (omega arith) ∙ ap (λ l. l ++ ssrc ∷ []) for.known
      ∙ sym (sources-new half ssrc index notes unknown);
  each = λ k other below. by_place k other (cases_lt k old.count) (omega (arith, more_count));
}
  where
    unknown : has ssrc (sources half notes) ≡ false
    unknown = ap (λ l. has ssrc l) (sym for.known) ∙ any-position (λ known. known == ssrc) (take old.count old.ssrcs) ∙ ap is_some none

    stand : (k : ℕ) (other : Window) (ssrc_there : ℕ) → slice_index new.ssrcs k ≡ ssrc_there → (list : List ℕ)
        → indices half ssrc_there (note_of half ssrc index ∷ notes) ≡ list
        → WindowStandsFor (slice_index_or new.windows k other) list
        → WindowStandsFor (slice_index_or new.windows k other) (indices half (slice_index new.ssrcs k) (note_of half ssrc index ∷ notes))
    stand k other ssrc_there is list noted stands =
        let P : List ℕ → Type 0 = λ l. WindowStandsFor (slice_index_or new.windows k other) l in
        subst P (sym (ap (λ s. indices half s (note_of half ssrc index ∷ notes)) is ∙ noted)) stands

    by_place : (k : ℕ) (other : Window) → (k < old.count) ⊎ (old.count ≤ k) → k < old.count + 1
        → WindowStandsFor (slice_index_or new.windows k other) (indices half (slice_index new.ssrcs k) (note_of half ssrc index ∷ notes))
    by_place k other (inl below) _ =
        let there : slice_index new.ssrcs k ≡ slice_index old.ssrcs k =
        ap (λ l. slice_index l k) more_ssrcs ∙ get_or-set_other old.ssrcs old.count k ssrc 0 (omega arith) in
        let others : ssrc ≢ slice_index old.ssrcs k = λ same.
        (let known : has ssrc (sources half notes) ≡ true = ap (λ l. has ssrc l) (sym for.known)
        ∙ list_any_at (λ known. known == ssrc) (take old.count old.ssrcs) k 0 (omega (arith, length-take-le old.count old.ssrcs))
        (equal _ ssrc (get_or-take old.count old.ssrcs k 0 below ∙ sym same)) in
        let clash : true ≡ false = sym known ∙ unknown in cc) in
        let kept : WindowStandsFor (slice_index_or new.windows k other) (indices half (slice_index old.ssrcs k) notes) =
        (let P : Window → Type 0 = λ w. WindowStandsFor w (indices half (slice_index old.ssrcs k) notes) in
        subst P (sym (elsewhere k other below)) (for.each k other below)) in
        stand k other (slice_index old.ssrcs k) there _ (indices-other half ssrc (slice_index old.ssrcs k) index notes others) kept
    by_place k other (inr full) last =
        let is : k ≡ old.count = omega arith in
        let at_place : WindowStandsFor (slice_index_or new.windows k other) (index ∷ []) =
        (let P : ℕ → Type 0 = λ n. WindowStandsFor (slice_index_or new.windows n other) (index ∷ []) in subst P (sym is) (here other)) in
        let there : slice_index new.ssrcs k ≡ ssrc =
        ap (λ n. slice_index new.ssrcs n) is ∙ ap (λ l. slice_index l old.count) more_ssrcs
        ∙ get_or-set_same old.ssrcs old.count ssrc 0 (omega arith) in
        stand k other ssrc there _ (indices-noted half ssrc index notes ∙ ap (λ l. index ∷ l) (indices-unknown half ssrc notes unknown)) at_place

pub none_known : (half : Half) (table : Sources) → table.count ≡ 0 → SourcesFor half table []
unfolding sources
none_known half table none = record {
  known = ap (λ n. take n table.ssrcs) none;
  each = λ place other below. absurd (omega arith);
}

-- the window of a source that the table finds
pub found_stands : (half : Half) (table : Sources) (ssrc place : ℕ) (notes : List Note) → SourcesFor half table notes
    → (place < table.count) × (slice_index table.ssrcs place ≡ ssrc)
    → (other : Window) → WindowStandsFor (slice_index_or table.windows place other) (indices half ssrc notes)
found_stands half table ssrc place notes for at other =
    let P : ℕ → Type 0 = λ s. WindowStandsFor (slice_index_or table.windows place other) (indices half s notes) in
    subst P at.1 (for.each place other at.0)

-- what noting an index of a source that was found means for the SSRC that was looked up
pub noted_found : (half : Half) (new : Sources) (ssrc found index : ℕ) (notes : List Note) → found ≡ ssrc
    → (fresh (indices half found notes) index ≡ Yes → SourcesFor half new (note_of half found index ∷ notes))
    → fresh (indices half ssrc notes) index ≡ Yes → SourcesFor half new (note_of half ssrc index ∷ notes)
noted_found half new ssrc found index notes same noted allowed =
    let P : ℕ → Type 0 = λ s. SourcesFor half new (note_of half s index ∷ notes) in
    subst P same (noted (ap (λ s. fresh (indices half s notes) index) same ∙ allowed))

pub fresh_first : (index : ℕ) → fresh [] index ≡ Yes
unfolding fresh
fresh_first index = refl

sources-elsewhere : (half : Half) (note : Note) (notes : List Note) → is_half half note.half ≡ false
    → sources half (note ∷ notes) ≡ sources half notes
unfolding sources
sources-elsewhere half note notes not =
    ap (λ t. once (cons_option (if t then Some note.ssrc else None) (filter_map (source_under half) notes))) not

indices-elsewhere : (half : Half) (ssrc : ℕ) (note : Note) (notes : List Note) → is_half half note.half ≡ false
    → indices half ssrc (note ∷ notes) ≡ indices half ssrc notes
unfolding indices
indices-elsewhere half ssrc note notes not =
    ap (λ t. cons_option (if t && (note.ssrc == ssrc) then Some note.index else None) (indices half ssrc notes)) not

-- a note of the other half changes nothing
pub noted_elsewhere : (half : Half) (table : Sources) (note : Note) (notes : List Note) → is_half half note.half ≡ false
    → SourcesFor half table notes → SourcesFor half table (note ∷ notes)
noted_elsewhere half table note notes not for = record {
  known = for.known ∙ sym (sources-elsewhere half note notes not);
  each = λ place other below.
      let P : List ℕ → Type 0 = λ l. WindowStandsFor (slice_index_or table.windows place other) l in
      subst P (sym (indices-elsewhere half (slice_index table.ssrcs place) note notes not)) (for.each place other below);
}

-- The notes under an outbound key: what one entry adds, and that the indices of RTCP packets are below their count.
use Rattle.std.proofs.Common.{◌≡◌, refl, ap, ◌∙◌, ℕ, ◌<◌, List, ◌∷◌, Bool, true, false, cond, Option, Some, None, map, filter, filter_map, length, ◌==◌, arith}
use Rattle.std.specs.Prelude.{◌&&◌}
use Rattle.std.specs.List.{cons_option}
use Rattle.rtp_packet.specs.declared.head.Half.{Half}
use Rattle.rtp_packet.specs.declared.head.Half.TheVariants.{Rtp, Rtcp}
use Rattle.srtp_sources.specs.Notes.{Note, indices, index_under, is_half}
use Rattle.histories.specs.Words.{In, here, there}
use Rattle.histories.proofs.Lists.{picks, maps, keeps, equal, equal_if}
use Rattle.call_cell.specs.Cells.{CellEntry, Shield}
use Rattle.call_cell.specs.Protection.{shield_of, protected}
use Rattle.call_cell.proofs.Splits.{both, both_left, both_right}

-- what an entry protected is among the notes of its key
pub in_protected : (h : List CellEntry) (e : CellEntry) (s : Shield) → In e h → shield_of e ≡ Some s → In s.note (protected h s.key)
in_protected h e s i q =
    maps (λ (x : Shield). x.note) (filter (λ (x : Shield). x.key == s.key) (filter_map shield_of h))
    (keeps (λ (x : Shield). x.key == s.key) (filter_map shield_of h) (picks shield_of h i q) (equal s.key s.key refl))

-- a note is the first under its key, or one of the earlier ones
pub data Adds (e : CellEntry) (h : List CellEntry) (key : ℕ) : Type 0 where
  adds : (s : Shield) → shield_of e ≡ Some s → s.key ≡ key → protected (e ∷ h) key ≡ s.note ∷ protected h key → Adds e h key
  stays : protected (e ∷ h) key ≡ protected h key → Adds e h key

abbrev under : ℕ → List Shield → List Note
under key shields = map (λ (x : Shield). x.note) (filter (λ (x : Shield). x.key == key) shields)

adds_key : (e : CellEntry) (h : List CellEntry) (key : ℕ) (s : Shield) → shield_of e ≡ Some s
    → protected (e ∷ h) key ≡ under key (s ∷ filter_map shield_of h) → (b : Bool) → (s.key == key) ≡ b → Adds e h key
adds_key e h key s q p true r =
    adds s q (equal_if s.key key r)
    (p ∙ ap (λ (b : Bool). map (λ (x : Shield). x.note) (cond b (s ∷ filter (λ (x : Shield). x.key == key) (filter_map shield_of h))
    (filter (λ (x : Shield). x.key == key) (filter_map shield_of h)))) r)
adds_key e h key s q p false r =
    stays
    (p ∙ ap (λ (b : Bool). map (λ (x : Shield). x.note) (cond b (s ∷ filter (λ (x : Shield). x.key == key) (filter_map shield_of h))
    (filter (λ (x : Shield). x.key == key) (filter_map shield_of h)))) r)

adds_case : (e : CellEntry) (h : List CellEntry) (key : ℕ) (o : Option Shield) → shield_of e ≡ o → Adds e h key
adds_case e h key None q = stays (ap (λ (o : Option Shield). under key (cons_option o (filter_map shield_of h))) q)
adds_case e h key (Some s) q =
    adds_key e h key s q (ap (λ (o : Option Shield). under key (cons_option o (filter_map shield_of h))) q) (s.key == key) refl

pub adds_note : (e : CellEntry) (h : List CellEntry) (key : ℕ) → Adds e h key
adds_note e h key = adds_case e h key (shield_of e) refl

-- the index of a note is among those of its half and source
half_is_half : (half : Half) → is_half half half ≡ true
half_is_half Rtp = refl
half_is_half Rtcp = refl

own_index : (note : Note) → index_under note.half note.ssrc note ≡ Some note.index
own_index note =
    ap (λ (b : Bool). cond b (Some note.index) None)
    (both (is_half note.half note.half) (note.ssrc == note.ssrc) (half_is_half note.half) (equal note.ssrc note.ssrc refl))

pub in_indices : (notes : List Note) (note : Note) → In note notes → In note.index (indices note.half note.ssrc notes)
unfolding indices
in_indices notes note i = picks (index_under note.half note.ssrc) notes i (own_index note)

-- one more note adds no index, or its own
pub data Counts (half : Half) (ssrc : ℕ) (note : Note) (notes : List Note) : Type 0 where
  more : note.half ≡ half → note.ssrc ≡ ssrc → indices half ssrc (note ∷ notes) ≡ note.index ∷ indices half ssrc notes → Counts half ssrc note notes
  same : indices half ssrc (note ∷ notes) ≡ indices half ssrc notes → Counts half ssrc note notes

is_half_is : (a b : Half) → is_half a b ≡ true → b ≡ a
is_half_is Rtp Rtp q = refl
is_half_is Rtcp Rtcp q = refl
is_half_is Rtp Rtcp q = absurd (let e = q in cc)
is_half_is Rtcp Rtp q = absurd (let e = q in cc)

counts_case : (half : Half) (ssrc : ℕ) (note : Note) (notes : List Note) (b : Bool) → (is_half half note.half && (note.ssrc == ssrc)) ≡ b
    → Counts half ssrc note notes
unfolding indices
counts_case half ssrc note notes true q =
    more (is_half_is half note.half (both_left (is_half half note.half) (note.ssrc == ssrc) q))
    (equal_if note.ssrc ssrc (both_right (is_half half note.half) (note.ssrc == ssrc) q))
    (ap (λ (c : Bool). cons_option (cond c (Some note.index) None) (filter_map (index_under half ssrc) notes)) q)
counts_case half ssrc note notes false q =
    same (ap (λ (c : Bool). cons_option (cond c (Some note.index) None) (filter_map (index_under half ssrc) notes)) q)

pub counts_note : (half : Half) (ssrc : ℕ) (note : Note) (notes : List Note) → Counts half ssrc note notes
counts_note half ssrc note notes = counts_case half ssrc note notes (is_half half note.half && (note.ssrc == ssrc)) refl

-- all of a list are below its length
abbrev pub Below : List ℕ → Type 0
Below xs = (x : ℕ) → In x xs → x < length xs

one_more : (xs : List ℕ) → Below xs → (n x : ℕ) → n ≡ length xs → In x (n ∷ xs) → x < length (n ∷ xs)
one_more xs below n x q (here p) = let e = q in let f = p in omega (arith, e, f)
one_more xs below n x q (there i) = let e = below x i in omega (arith, e)

pub below_more : (xs : List ℕ) (n : ℕ) → Below xs → n ≡ length xs → Below (n ∷ xs)
below_more xs n below q x i = one_more xs below n x q i

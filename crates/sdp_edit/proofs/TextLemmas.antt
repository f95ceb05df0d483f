-- The texts of rewritten lines, from the fields that were cut.
use Rattle.std.proofs.Common.{◌≡◌, ℕ, ◌+◌, ◌-◌, ◌<◌, ◌≤◌, eqb, true, List, [], ◌∷◌, ◌++◌, length, take, drop, codes, decimal, refl, sym, ap, ◌∙◌, arith, append_assoc}
use Rattle.std.proofs.lemmas.Slice.Eq.{starts_is}
use Rattle.std.proofs.lemmas.Bool.Decides.{Decides-eqb}
use Rattle.std.proofs.lemmas.List.{take_at, append-nil, length-append, length-take, take_rest}
use Rattle.std.proofs.lemmas.List.Splits.{join_with_byte-slice_split, length-slice_split}
use Rattle.std.specs.List.{join_with_byte}
use Rattle.sdp_text.specs.Pieces.{fields}
use Rattle.sdp_text.specs.Roles.{is_media, is_origin}
use Rattle.sdp_text.specs.Hosts.{text_of}
use Rattle.sdp_text.specs.declared.host.Host.{Host}
use Rattle.sdp_edit.specs.declared.edits.SectionEdit.{SectionEdit}
use Rattle.sdp_edit.specs.Texts.{with_end, family_of, proto_text, edited_media_fields, media_text, origin_fields, origin_text, IsOriginTail}

pub length-with_end : (text : List ℕ) → length (with_end text) ≡ length text + 2
unfolding with_end
length-with_end text = length-append text (codes "\r\n")

-- a text inserted between two parts of a line
pub around_short : (line inserted rest : List ℕ) (k : ℕ) → k + length rest ≤ length line
    → length (with_end (take k line ++ inserted ++ rest)) ≤ length line + length inserted + 2
around_short line inserted rest k fits =
    omega (arith, length-with_end (take k line ++ inserted ++ rest), length-append (take k line ++ inserted) rest, length-append (take k line) inserted, length-take k line)

pub cut_size : (text a rest : List ℕ) → text ≡ a ++ 32 ∷ rest → length text ≡ length a + (length rest + 1)
cut_size text a rest is = omega (arith, ap length is, length-append a (32 ∷ rest))

-- there is always a first field
open_at : (texts : List (List ℕ)) → 0 < length texts → (first : List ℕ) × (more : List (List ℕ)) × (texts ≡ first ∷ more)
open_at [] some = absurd (omega arith)
open_at (first ∷ more) some = (first, more, refl)

fields_open : (text : List ℕ) → (first : List ℕ) × (more : List (List ℕ)) × (fields text ≡ first ∷ more)
fields_open text = open_at (fields text) (omega (arith, length-slice_split (λ b. eqb b 32) text))

joined : (text : List ℕ) → join_with_byte 32 (fields text) ≡ text
joined text = join_with_byte-slice_split 32 text

pub media_prefix : (line : List ℕ) → is_media line ≡ true → line ≡ codes "m=" ++ drop 2 line
media_prefix line media = (starts_is Decides-eqb line (codes "m=") (is_media line) refl).0 media

origin_prefix : (line : List ℕ) → is_origin line ≡ true → line ≡ codes "o=" ++ drop 2 line
origin_prefix line origin = (starts_is Decides-eqb line (codes "o=") (is_origin line) refl).0 origin

-- a line with fewer than four fields stays
pub media_stays : (edit : SectionEdit) (line body : List ℕ) → is_media line ≡ true → body ≡ take (length line - 2) (drop 2 line)
    → edited_media_fields edit (fields body) ≡ fields body → with_end line ≡ with_end (media_text edit line)
unfolding media_text
media_stays edit line body media is same =
    let rest : body ≡ drop 2 line = is ∙ take_rest line 2 in
    ap with_end (media_prefix line media ∙ ap (λ text. codes "m=" ++ text) (sym (ap (λ t. join_with_byte 32 (edited_media_fields edit (fields t))) (sym rest) ∙ ap (join_with_byte 32) same ∙ joined body ∙ rest)))

pub media_one : (edit : SectionEdit) (body : List ℕ) → fields body ≡ body ∷ [] → edited_media_fields edit (fields body) ≡ fields body
media_one edit body one = rw one refl

pub media_two : (edit : SectionEdit) (body a rest : List ℕ) → fields body ≡ a ∷ fields rest → fields rest ≡ rest ∷ [] → edited_media_fields edit (fields body) ≡ fields body
media_two edit body a rest first one = let all : fields body ≡ a ∷ rest ∷ [] = first ∙ ap (λ t. a ∷ t) one in rw all refl

pub media_three : (edit : SectionEdit) (body a r1 b r2 : List ℕ) → fields body ≡ a ∷ fields r1 → fields r1 ≡ b ∷ fields r2 → fields r2 ≡ r2 ∷ []
    → edited_media_fields edit (fields body) ≡ fields body
media_three edit body a r1 b r2 first second one =
    let all : fields body ≡ a ∷ b ∷ r2 ∷ [] = first ∙ ap (λ t. a ∷ t) (second ∙ ap (λ t. b ∷ t) one) in rw all refl

-- the first three fields of an `m=` line, and the text of the others
pub record IsMediaCut (line media port proto formats : List ℕ) : Type 0 where
  pub fields_are : fields (drop 2 line) ≡ media ∷ port ∷ proto ∷ fields formats
  pub head_is : take (2 + length media) line ≡ codes "m=" ++ media

pub media_cut : (line body media r1 port r2 proto formats : List ℕ) → is_media line ≡ true → body ≡ take (length line - 2) (drop 2 line)
    → fields body ≡ media ∷ fields r1 → body ≡ media ++ 32 ∷ r1 → fields r1 ≡ port ∷ fields r2 → fields r2 ≡ proto ∷ fields formats
    → IsMediaCut line media port proto formats
media_cut line body media r1 port r2 proto formats is_media is first text second third =
    let rest : body ≡ drop 2 line = is ∙ take_rest line 2 in
    let whole : line ≡ (codes "m=" ++ media) ++ 32 ∷ r1 = media_prefix line is_media ∙ ap (λ t. codes "m=" ++ t) (sym rest ∙ text) ∙ sym (append_assoc (codes "m=") media (32 ∷ r1)) in
    let size : length (codes "m=" ++ media) ≡ 2 + length media = omega arith in record {
      fields_are = ap fields (sym rest) ∙ first ∙ ap (λ t. media ∷ t) (second ∙ ap (λ t. port ∷ t) third);
      head_is = rw whole (take_at (codes "m=" ++ media) (32 ∷ r1) (2 + length media) size);
    }

-- the edited text of such a line
media_is : (edit : SectionEdit) (line media port proto formats : List ℕ) → IsMediaCut line media port proto formats
    → media_text edit line ≡ codes "m=" ++ (media ++ 32 ∷ (decimal edit.port ++ 32 ∷ (proto_text edit.proto proto ++ 32 ∷ formats)))
unfolding media_text
media_is edit line media port proto formats cut =
    let o = fields_open formats in
    let all : fields (drop 2 line) ≡ media ∷ port ∷ proto ∷ o.0 ∷ o.1 = cut.fields_are ∙ ap (λ t. media ∷ port ∷ proto ∷ t) o.2 in
    let tail : join_with_byte 32 (o.0 ∷ o.1) ≡ formats = ap (join_with_byte 32) (sym o.2) ∙ joined formats in
    rw (all, tail) refl

regroup : (a m s d t r : List ℕ) → ((a ++ m) ++ ((s ++ d) ++ t)) ++ r ≡ a ++ (m ++ (s ++ (d ++ (t ++ r))))
regroup a m s d t r = simp append_assoc

regroup_more : (a m s d t n u r : List ℕ) → ((a ++ m) ++ ((((s ++ d) ++ t) ++ n) ++ u)) ++ r ≡ a ++ (m ++ (s ++ (d ++ (t ++ (n ++ (u ++ r))))))
regroup_more a m s d t n u r = simp append_assoc

-- under `Other` the protocol stays
pub media_kept_proto : (edit : SectionEdit) (line media port r2 proto formats inserted : List ℕ) → IsMediaCut line media port proto formats
    → r2 ≡ proto ++ 32 ∷ formats → proto_text edit.proto proto ≡ proto → inserted ≡ codes " " ++ decimal edit.port ++ codes " "
    → with_end (take (2 + length media) line ++ inserted ++ r2) ≡ with_end (media_text edit line)
media_kept_proto edit line media port r2 proto formats inserted cut text same is =
    ap with_end (rw (cut.head_is, is, text, media_is edit line media port proto formats cut, same)
    (regroup (codes "m=") media (codes " ") (decimal edit.port) (codes " ") (proto ++ 32 ∷ formats)))

pub media_new_proto : (edit : SectionEdit) (line media port proto formats inserted name : List ℕ) → IsMediaCut line media port proto formats
    → proto_text edit.proto proto ≡ name → inserted ≡ (codes " " ++ decimal edit.port ++ codes " ") ++ name ++ codes " "
    → with_end (take (2 + length media) line ++ inserted ++ formats) ≡ with_end (media_text edit line)
media_new_proto edit line media port proto formats inserted name cut same is =
    ap with_end (rw (cut.head_is, is, media_is edit line media port proto formats cut, same)
    (regroup_more (codes "m=") media (codes " ") (decimal edit.port) (codes " ") name (codes " ") formats))

-- a line without exactly six fields stays
pub origin_stays : (host : Host) (line body : List ℕ) → is_origin line ≡ true → body ≡ take (length line - 2) (drop 2 line)
    → origin_fields host (fields body) ≡ fields body → with_end line ≡ with_end (origin_text host line)
unfolding origin_text
origin_stays host line body origin is same =
    let rest : body ≡ drop 2 line = is ∙ take_rest line 2 in
    ap with_end (origin_prefix line origin ∙ ap (λ text. codes "o=" ++ text) (sym (ap (λ t. join_with_byte 32 (origin_fields host (fields t))) (sym rest) ∙ ap (join_with_byte 32) same ∙ joined body ∙ rest)))

-- seven fields or more
pub origin_long : (host : Host) (text a r1 b r2 c r3 d r4 e r5 f r6 : List ℕ) → fields text ≡ a ∷ fields r1 → fields r1 ≡ b ∷ fields r2 → fields r2 ≡ c ∷ fields r3
    → fields r3 ≡ d ∷ fields r4 → fields r4 ≡ e ∷ fields r5 → fields r5 ≡ f ∷ fields r6 → origin_fields host (fields text) ≡ fields text
origin_long host text a r1 b r2 c r3 d r4 e r5 f r6 e1 e2 e3 e4 e5 e6 =
    let o = fields_open r6 in
    let all : fields text ≡ a ∷ b ∷ c ∷ d ∷ e ∷ f ∷ o.0 ∷ o.1 =
    e1 ∙ ap (λ t. a ∷ t) (e2 ∙ ap (λ t. b ∷ t) (e3 ∙ ap (λ t. c ∷ t) (e4 ∙ ap (λ t. d ∷ t) (e5 ∙ ap (λ t. e ∷ t) (e6 ∙ ap (λ t. f ∷ t) o.2))))) in
    rw all refl

split_tail : (o n s i v k t : List ℕ)
    → o ++ (n ++ (s ++ (i ++ (s ++ (v ++ (s ++ (k ++ (s ++ t)))))))) ≡ (o ++ (n ++ (s ++ (i ++ (s ++ (v ++ (s ++ (k ++ s)))))))) ++ t
split_tail o n s i v k t = simp append_assoc

-- the front of an `o=` line, up to its family
abbrev origin_front : {text tail : List ℕ} → IsOriginTail text tail → List ℕ
origin_front cut = codes "o=" ++ (cut.name ++ (codes " " ++ (cut.id ++ (codes " " ++ (cut.version ++ (codes " " ++ (cut.network ++ codes " ")))))))

origin_is : (host : Host) (line body tail : List ℕ) → is_origin line ≡ true → body ≡ drop 2 line → (cut : IsOriginTail body tail)
    → (origin_text host line ≡ origin_front cut ++ (family_of host ++ codes " " ++ text_of host)) × (line ≡ origin_front cut ++ tail)
unfolding origin_text
origin_is host line body tail origin rest cut =
    let all : fields (drop 2 line) ≡ cut.name ∷ cut.id ∷ cut.version ∷ cut.network ∷ cut.family ∷ cut.address ∷ [] = ap fields (sym rest) ∙ cut.fields_are in
    let whole : line ≡ codes "o=" ++ body = origin_prefix line origin ∙ ap (λ t. codes "o=" ++ t) (sym rest) in (
      rw all (split_tail (codes "o=") cut.name (codes " ") cut.id cut.version cut.network (family_of host ++ 32 ∷ text_of host) ∙ ap (λ t. origin_front cut ++ t) (sym (append_assoc (family_of host) (codes " ") (text_of host)))),
      whole ∙ ap (λ t. codes "o=" ++ t) cut.text_is ∙ split_tail (codes "o=") cut.name (codes " ") cut.id cut.version cut.network tail,
    )

origin_is_line : (line tail : List ℕ) → is_origin line ≡ true → (cut : IsOriginTail (take (length line - 2) (drop 2 line)) tail) → line ≡ origin_front cut ++ tail
origin_is_line line tail origin cut =
    let body : List ℕ = take (length line - 2) (drop 2 line) in
    let whole : line ≡ codes "o=" ++ body = origin_prefix line origin ∙ ap (λ t. codes "o=" ++ t) (sym (take_rest line 2)) in
    whole ∙ ap (λ t. codes "o=" ++ t) cut.text_is ∙ split_tail (codes "o=") cut.name (codes " ") cut.id cut.version cut.network tail

pub origin_fits : (line tail : List ℕ) → is_origin line ≡ true → IsOriginTail (take (length line - 2) (drop 2 line)) tail → length tail ≤ length line
origin_fits line tail origin cut =
    let parts = origin_is_line line tail origin cut in
    omega (arith, ap length parts, length-append (origin_front cut) tail)

pub origin_new : (host : Host) (line tail inserted rest : List ℕ) → is_origin line ≡ true → IsOriginTail (take (length line - 2) (drop 2 line)) tail
    → inserted ≡ family_of host ++ codes " " ++ text_of host → rest ≡ []
    → with_end (take (length line - length tail) line ++ inserted ++ rest) ≡ with_end (origin_text host line)
origin_new host line tail inserted rest origin cut is none =
    let parts = origin_is host line (take (length line - 2) (drop 2 line)) tail origin (take_rest line 2) cut in
    let size : length (origin_front cut) ≡ length line - length tail = omega (arith, ap length parts.1, length-append (origin_front cut) tail) in
    let front : take (length line - length tail) line ≡ origin_front cut = ap (take (length line - length tail)) parts.1 ∙ take_at (origin_front cut) tail (length line - length tail) size in
    ap with_end (rw (front, is, none) (append-nil (origin_front cut ++ (family_of host ++ codes " " ++ text_of host)) ∙ sym parts.0))

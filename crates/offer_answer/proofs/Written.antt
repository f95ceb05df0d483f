-- What is written, from what a dialog keeps.
use Rattle.std.proofs.Common.{◌≡◌, ℕ, zero, suc, ◌+◌, ◌-◌, ◌<◌, ◌≤◌, ◌==◌, nat_le, Bool, true, false, not, ◌&&◌, List, [], ◌∷◌, ◌++◌, length, decimal, Option, Some, None, refl, sym, ap, ◌∙◌, subst, if◌then◌else◌, map, option_map, unwrap_or, filter, slice_index_or, append_assoc, append-nil, arith}
use Rattle.std.proofs.lemmas.List.Elements.{All-nil, All-cons}
use Rattle.std.proofs.lemmas.Fmt.{length-decimal-le}
use Rattle.std.specs.Fmt.{digits}
use Rattle.histories.specs.Words.{numbers}
use Rattle.relay_outside.specs.declared.settings.Config.{Config}
use Rattle.relay_outside.specs.declared.address.Family.{Family}
use Rattle.relay_outside.specs.declared.address.Family.TheVariants.{V4, V6}
use Rattle.relay_outside.specs.Settings.{interface_of}
use Rattle.sdes_lines.specs.declared.crypto_line.CryptoLine.{CryptoLine}
use Rattle.sdes_lines.specs.declared.crypto_line.Suite.TheVariants.{Tag80, Tag32}
use Rattle.sdp_text.specs.Lines.{lines_of}
use Rattle.sdp_text.specs.Hosts.{text_of}
use Rattle.sdp_text.specs.declared.host.Host.{Host}
use Rattle.sdp_text.specs.declared.proto.Proto.{Proto}
use Rattle.sdp_text.specs.declared.section.Section.{Section}
use Rattle.sdp_edit.specs.declared.edits.SectionEdit.{SectionEdit}
use Rattle.sdp_edit.specs.declared.edits.Edit.{Edit}
use Rattle.sdp_edit.specs.EditedText.{KeysHaveTags, HaveTags, edited}
use Rattle.sdp_edit.specs.Widths.{IsHostWithin, IsSectionWithin, AreSectionsWithin}
use Rattle.ng_command.specs.declared.command.Options.{Options}
use Rattle.port_pool.specs.declared.holder.Side.{Side}
use Rattle.port_pool.specs.Signals.{NewKey, other_side}
use Rattle.offer_answer.specs.Rounds.{Round, OfferAsk}
use Rattle.offer_answer.specs.Sides.{offerer}
use Rattle.offer_answer.specs.Sections.{most_sections, section_count, section_in, is_active, is_active_in, all_sections}
use Rattle.offer_answer.specs.Profiles.{is_srtp, written_profile}
use Rattle.offer_answer.specs.Keys.{no_lines, line_with, lines_of_keys, key_among, key_in_force, is_for, leg_keys, offered_lines}
use Rattle.offer_answer.specs.Families.{family_after}
use Rattle.offer_answer.specs.Mux.{mux_on}
use Rattle.offer_answer.specs.Texts.{host_of_ip, interface_host, written_host, session_host, edit_with, offered_port, offer_section, offer_edit}
use Rattle.offer_answer.specs.Plan.{offer_text}
use Rattle.offer_answer.specs.Dialogs.{leg_at, no_state}
use Rattle.offer_answer.specs.LastOffers.{MadeFor}
use Rattle.offer_answer.specs.PortsAndKeys.{FilledFor, port_after}
use Rattle.offer_answer.specs.Edits.{tagged_lines, has_lines, made_at, port_written, family_written, section_written, sections_written, longer_host, longest_host, widest_sections, widest_edit, widest_len}
use Rattle.offer_answer.specs.declared.last_offer.MadeSection.{MadeSection}
use Rattle.offer_answer.specs.declared.last_offer.LastOffer.{LastOffer}
use Rattle.offer_answer.specs.declared.last_offer.OfferedNext.{OfferedNext}
use Rattle.sdp_edit.proofs.Widths.{edited-within}
use Rattle.offer_answer.proofs.Edits.{edited-spare}
use Rattle.offer_answer.proofs.Offering.{numbers-next, numbers-end}

-- A loop over the sections.

-- what was pushed, with what is left to push, is the whole
pub map-begin : {Y : Type 0} (f : ℕ → Y) (old : List Y) (n : ℕ) → old ++ map f (numbers 0 (n - 0)) ≡ old ++ map f (numbers 0 n)
map-begin f old n = let whole : n - 0 ≡ n = omega arith in ap (λ k. old ++ map f (numbers 0 k)) whole

pub map-pushed : {Y : Type 0} (f : ℕ → Y) (old new : List Y) (x : Y) (i n : ℕ) → i < n → x ≡ f i → new ≡ old ++ x ∷ [] →
    new ++ map f (numbers (i + 1) (n - (i + 1))) ≡ old ++ map f (numbers i (n - i))
map-pushed {Y} f old new x i n below is pushed =
    let rest : List Y = map f (numbers (i + 1) (n - (i + 1))) in
    ap (λ xs. xs ++ rest) pushed ∙ append_assoc old (x ∷ []) rest ∙ ap (λ y. old ++ y ∷ rest) is
    ∙ ap (λ ns. old ++ map f ns) (sym (numbers-next i n below))

pub map-end : {Y : Type 0} (f : ℕ → Y) (all : List Y) (i n : ℕ) → n ≤ i → all ++ map f (numbers i (n - i)) ≡ all
map-end f all i n past = ap (λ ns. all ++ map f ns) (numbers-end i n past) ∙ append-nil all

map-alike-from : {Y : Type 0} (f g : ℕ → Y) (k n : ℕ) → ((i : ℕ) → k ≤ i → i < k + n → f i ≡ g i) → map f (numbers k n) ≡ map g (numbers k n)
map-alike-from f g k zero same = refl
map-alike-from f g k (suc n) same =
    ap (λ x. x ∷ map f (numbers (suc k) n)) (same k (omega arith) (omega arith))
    ∙ ap (λ xs. g k ∷ xs) (map-alike-from f g (suc k) n (λ i low high. same i (omega (arith, low)) (omega (arith, high))))

pub map-alike : {Y : Type 0} (f g : ℕ → Y) (n : ℕ) → ((i : ℕ) → i < n → f i ≡ g i) → map f (numbers 0 n) ≡ map g (numbers 0 n)
map-alike f g n same = map-alike-from f g 0 n (λ i low high. same i (omega (arith, high)))

within-from : (f g : ℕ → SectionEdit) (k n : ℕ) → ((i : ℕ) → k ≤ i → i < k + n → IsSectionWithin (f i) (g i)) →
    AreSectionsWithin (map f (numbers k n)) (map g (numbers k n))
within-from f g k zero within = tt
within-from f g k (suc n) within =
    (within k (omega arith) (omega arith), within-from f g (suc k) n (λ i low high. within i (omega (arith, low)) (omega (arith, high))))

pub within-all : (f g : ℕ → SectionEdit) (n : ℕ) → ((i : ℕ) → i < n → IsSectionWithin (f i) (g i)) → AreSectionsWithin (map f (numbers 0 n)) (map g (numbers 0 n))
within-all f g n within = within-from f g 0 n (λ i low high. within i (omega (arith, high)))

tags-from : (f : ℕ → SectionEdit) (k n : ℕ) → ((i : ℕ) → k ≤ i → i < k + n → KeysHaveTags (f i).crypto) → HaveTags (map f (numbers k n))
tags-from f k zero tags = All-nil (λ (e : SectionEdit). KeysHaveTags e.crypto)
tags-from f k (suc n) tags =
    All-cons (λ (e : SectionEdit). KeysHaveTags e.crypto) (f k) (map f (numbers (suc k) n)) (tags k (omega arith) (omega arith))
    (tags-from f (suc k) n (λ i low high. tags i (omega (arith, low)) (omega (arith, high))))

pub tags-all : (f : ℕ → SectionEdit) (n : ℕ) → ((i : ℕ) → i < n → KeysHaveTags (f i).crypto) → HaveTags (map f (numbers 0 n))
tags-all f n tags = tags-from f 0 n (λ i low high. tags i (omega (arith, high)))

-- The edit and its text.

abbrev pub section-of : ℕ → Proto → Host → List (Option CryptoLine) → Bool → SectionEdit
section-of port proto address crypto mux = record { port = port; proto = proto; address = address; crypto = crypto; mux = mux }

pub section-is : {p q : ℕ} {s t : Proto} {a b : Host} {xs ys : List (Option CryptoLine)} {m n : Bool} → p ≡ q → s ≡ t → a ≡ b → xs ≡ ys → m ≡ n →
    section-of p s a xs m ≡ section-of q t b ys n
section-is {p} {q} {s} {t} {a} {b} {xs} {ys} {m} {n} e f g h k =
    ap (λ x. section-of x s a xs m) e ∙ ap (λ x. section-of q x a xs m) f ∙ ap (λ x. section-of q t x xs m) g ∙ ap (λ x. section-of q t b x m) h
    ∙ ap (section-of q t b ys) k

abbrev edit-of : Host → Bool → Bool → List SectionEdit → Edit
edit-of address origin session sections = record { address = address; replace_origin = origin; replace_session = session; sections = record { list = sections; spare = 0 } }

-- the text by the parts of an edit
text-of-parts : (lines : List (List ℕ)) (edit : Edit) (address : Host) (origin session : Bool) (sections : List SectionEdit) →
    edit.address ≡ address → edit.replace_origin ≡ origin → edit.replace_session ≡ session → edit.sections.list ≡ sections →
    edited lines edit ≡ edited lines (edit-of address origin session sections)
text-of-parts lines edit address origin session sections a o s e =
    edited-spare lines edit 0
    ∙ ap (λ x. edited lines (edit-of x edit.replace_origin edit.replace_session edit.sections.list)) a
    ∙ ap (λ x. edited lines (edit-of address x edit.replace_session edit.sections.list)) o
    ∙ ap (λ x. edited lines (edit-of address origin x edit.sections.list)) s
    ∙ ap (λ x. edited lines (edit-of address origin session x)) e

-- an edit whose parts are these has the text of the edit that is made of them
pub text-is : (lines : List (List ℕ)) (edit : Edit) (config : Config) (options : Options) (sections : List SectionEdit) →
    edit.address ≡ session_host config edit.sections.list → edit.replace_origin ≡ options.replace_origin → edit.replace_session ≡ options.replace_session →
    edit.sections.list ≡ sections → edited lines edit ≡ edited lines (edit_with config options sections)
text-is lines edit config options sections a o s e =
    text-of-parts lines edit (session_host config sections) options.replace_origin options.replace_session sections (a ∙ ap (session_host config) e) o s e

-- The widest text.

-- what was pushed to no sections is all of them
pub pushed-to-none : {X : Type 0} (old new xs : List X) → old ≡ [] → new ≡ old ++ xs → new ≡ xs
pushed-to-none old new xs none e = e ∙ ap (λ ys. ys ++ xs) none

pub widest-is : (lines : List (List ℕ)) (edit : Edit) (config : Config) (host : Host) (last : LastOffer) → host ≡ longest_host config →
    edit.address ≡ host → edit.replace_origin ≡ last.options.replace_origin → edit.replace_session ≡ last.options.replace_session →
    edit.sections.list ≡ widest_sections host last → length (edited lines edit) ≡ widest_len config last lines
widest-is lines edit config host last h a o s e =
    ap length (text-of-parts lines edit host last.options.replace_origin last.options.replace_session (widest_sections host last) a o s e)
    ∙ ap (λ (x : Host). length (edited lines (widest_edit x last))) h

-- Both interfaces' addresses are within the longest one.

longer-first : (a b : Host) → IsHostWithin a (longer_host a b)
longer-first a b = go (nat_le (length (text_of a)) (length (text_of b))) refl
  where
    go : (c : Bool) → nat_le (length (text_of a)) (length (text_of b)) ≡ c → IsHostWithin a (if c then b else a)
    go true e = grind (arith, e)
    go false e = omega arith

longer-second : (a b : Host) → IsHostWithin b (longer_host a b)
longer-second a b = go (nat_le (length (text_of a)) (length (text_of b))) refl
  where
    go : (c : Bool) → nat_le (length (text_of a)) (length (text_of b)) ≡ c → IsHostWithin b (if c then b else a)
    go true e = omega arith
    go false e = grind (arith, e)

pub written-within : (config : Config) (port : ℕ) (family : Option Family) → IsHostWithin (written_host config port family) (longest_host config)
written-within config port family = go (port == 0) (unwrap_or family V4)
  where
    go : (b : Bool) (f : Family) → IsHostWithin (if b then interface_host config else host_of_ip (interface_of config f)) (longest_host config)
    go true f = longer-first (interface_host config) (host_of_ip (interface_of config V6))
    go false V4 = longer-first (interface_host config) (host_of_ip (interface_of config V6))
    go false V6 = longer-second (interface_host config) (host_of_ip (interface_of config V6))

session-within : (config : Config) (f : ℕ → SectionEdit) (ns : List ℕ) → ((k : ℕ) → IsHostWithin (f k).address (longest_host config)) →
    IsHostWithin (session_host config (map f ns)) (longest_host config)
session-within config f [] within = longer-first (interface_host config) (host_of_ip (interface_of config V6))
session-within config f (n ∷ ns) within = go (not ((f n).port == 0)) refl (session-within config f ns within)
  where
    go : (b : Bool) → not ((f n).port == 0) ≡ b → IsHostWithin (session_host config (map f ns)) (longest_host config) →
        IsHostWithin (session_host config (map f (n ∷ ns))) (longest_host config)
    go true e more = rw e (within n)
    go false e more = rw e more

-- a port has at most five digits
pub port-digits : (port : ℕ) → port < 65536 → length (decimal port) ≤ length (decimal 65535)
unfolding digits
port-digits port small =
    let five : length (decimal 65535) ≡ 5 = refl in
    omega (arith, five, length-decimal-le 5 port (omega arith) (omega (arith, small)) (omega (arith, small)))

-- the offer's text is no longer
pub offer-fits : (lines : List (List ℕ)) (edit : Edit) (config : Config) (next : OfferedNext) →
    edit.address ≡ session_host config edit.sections.list → edit.replace_origin ≡ next.last.options.replace_origin →
    edit.replace_session ≡ next.last.options.replace_session →
    edit.sections.list ≡ sections_written config next → AreSectionsWithin (sections_written config next) (widest_sections (longest_host config) next.last) →
    length (edited lines edit) ≤ widest_len config next.last lines
offer-fits lines edit config next a o s e within =
    edited-within lines edit (widest_edit (longest_host config) next.last) (record {
      address_within = subst (λ (h : Host). IsHostWithin h (longest_host config)) (sym (a ∙ ap (session_host config) e)) session;
      origin_is = o;
      session_is = s;
      sections_within = subst (λ xs. AreSectionsWithin xs (widest_sections (longest_host config) next.last)) (sym e) within;
    })
  where
    session : IsHostWithin (session_host config (sections_written config next)) (longest_host config)
    session =
        session-within config (section_written config next) (numbers 0 next.last.count)
        (λ k. written-within config (port_written next k) (family_written next k))

-- The offer.

-- the lines of an offer have the tags 1 and 2 already
numbered-lines : (o : Option NewKey) (keys : List NewKey) → tagged_lines (lines_of_keys o keys) ≡ lines_of_keys o keys
numbered-lines (Some key) keys = refl
numbered-lines None keys = go (key_among keys Tag80) (key_among keys Tag32)
  where
    go : (a b : Option NewKey) →
        tagged_lines (option_map (line_with 1) a ∷ option_map (line_with 2) b ∷ []) ≡ option_map (line_with 1) a ∷ option_map (line_with 2) b ∷ []
    go None None = refl
    go None (Some b) = refl
    go (Some a) None = refl
    go (Some a) (Some b) = refl

lines-are : (rounds : List Round) (ask : OfferAsk) (keys : List NewKey) (section : ℕ) (made : MadeSection) →
    MadeFor (record { ask = ask; keys = keys; before = rounds }) section made →
    (if has_lines made then tagged_lines made.lines else no_lines) ≡ offered_lines rounds ask keys section
lines-are rounds ask keys section made m =
    ap (λ b. if b then tagged_lines made.lines else no_lines)
    (ap (λ (s : Section). is_active s && is_srtp made.written) m.section_is ∙ ap (λ p. is_active_in ask.sdp section && is_srtp p) m.written_is)
    ∙ ap (λ ls. if is_active_in ask.sdp section && is_srtp (written_profile rounds ask section) then tagged_lines ls else no_lines) m.lines_are
    ∙ go (is_active_in ask.sdp section && is_srtp (written_profile rounds ask section))
  where
    side : Side
    side = other_side (offerer rounds ask)

    lines : List (Option CryptoLine)
    lines = lines_of_keys (key_in_force rounds section (other_side (offerer rounds ask)))
        (filter (is_for section (other_side (offerer rounds ask))) keys ++ leg_keys rounds section (other_side (offerer rounds ask)))

    go : (b : Bool) → (if b then tagged_lines (if b then lines else no_lines) else no_lines) ≡ (if b then lines else no_lines)
    go true = numbered-lines (key_in_force rounds section (other_side (offerer rounds ask)))
        (filter (is_for section (other_side (offerer rounds ask))) keys ++ leg_keys rounds section (other_side (offerer rounds ask)))
    go false = refl

port-is : (config : Config) (rounds : List Round) (ask : OfferAsk) (ports : List ℕ) (keys : List NewKey) (next : OfferedNext) (section : ℕ) →
    FilledFor config rounds ask ports keys next → section < most_sections → port_written next section ≡ offered_port config rounds ask ports section
port-is config rounds ask ports keys next section f below =
    ap (λ (b : Bool). if b then port next.last.maker else 0) (ap is_active (f.last_for.sections_are section below).section_is)
    ∙ go (is_active_in ask.sdp section) refl
  where
    port : Side → ℕ
    port maker = (leg_at (slice_index_or next.sections section no_state) (other_side maker)).port

    go : (b : Bool) → is_active_in ask.sdp section ≡ b →
        (if b then port next.last.maker else 0) ≡ (if b then port_after config rounds ask ports section (other_side (offerer rounds ask)) else 0)
    go true active = ap port f.last_for.maker_is ∙ f.ports_are section (other_side (offerer rounds ask)) below active
    go false active = refl

-- the address of a section that isn't used is that of the interface of version 4, whatever its legs
host-is : (config : Config) (rounds : List Round) (ask : OfferAsk) (ports : List ℕ) (keys : List NewKey) (next : OfferedNext) (section : ℕ) →
    FilledFor config rounds ask ports keys next → section < most_sections →
    written_host config (port_written next section) (family_written next section)
    ≡ written_host config (offered_port config rounds ask ports section) (Some (family_after rounds ask section (other_side (offerer rounds ask))))
host-is config rounds ask ports keys next section f below =
    ap (λ port. written_host config port (family_written next section)) (port-is config rounds ask ports keys next section f below)
    ∙ go (is_active_in ask.sdp section) refl
  where
    go : (b : Bool) → is_active_in ask.sdp section ≡ b →
        written_host config (if b then port_after config rounds ask ports section (other_side (offerer rounds ask)) else 0) (family_written next section)
        ≡ written_host config (if b then port_after config rounds ask ports section (other_side (offerer rounds ask)) else 0) (Some (family_after rounds ask section (other_side (offerer rounds ask))))
    go true active =
        ap (λ (o : Option Family). written_host config (port_after config rounds ask ports section (other_side (offerer rounds ask))) o)
        (ap (λ maker. (leg_at (slice_index_or next.sections section no_state) (other_side maker)).family) f.last_for.maker_is
        ∙ f.families_are section (other_side (offerer rounds ask)) below active)
    go false active = refl

mux-is : (config : Config) (rounds : List Round) (ask : OfferAsk) (ports : List ℕ) (keys : List NewKey) (next : OfferedNext) (section : ℕ) →
    FilledFor config rounds ask ports keys next → section < most_sections →
    mux_on next.last.options (made_at next.last section).section ≡ mux_on ask.options (section_in ask.sdp section)
mux-is config rounds ask ports keys next section f below =
    ap (mux_on next.last.options) (f.last_for.sections_are section below).section_is
    ∙ ap (λ (options : Options). mux_on options (section_in ask.sdp section)) f.last_for.options_are

section-is-written : (config : Config) (rounds : List Round) (ask : OfferAsk) (ports : List ℕ) (keys : List NewKey) (next : OfferedNext) (section : ℕ) →
    FilledFor config rounds ask ports keys next → section < most_sections → section_written config next section ≡ offer_section config rounds ask ports keys section
section-is-written config rounds ask ports keys next section f below =
    let m = f.last_for.sections_are section below in
    section-is (port-is config rounds ask ports keys next section f below) m.written_is
    (host-is config rounds ask ports keys next section f below)
    (lines-are rounds ask keys section (made_at next.last section) m)
    (mux-is config rounds ask ports keys next section f below)

-- the edit with what is written of the offer's sections has the offer's text
pub offer-written : (config : Config) (rounds : List Round) (ask : OfferAsk) (ports : List ℕ) (keys : List NewKey) (next : OfferedNext)
    (lines : List (List ℕ)) (edit : Edit) → FilledFor config rounds ask ports keys next → lines_of ask.sdp ≡ lines →
    edit.address ≡ session_host config edit.sections.list → edit.replace_origin ≡ next.last.options.replace_origin →
    edit.replace_session ≡ next.last.options.replace_session →
    edit.sections.list ≡ sections_written config next → edited lines edit ≡ offer_text config rounds ask ports keys
unfolding offer_text
offer-written config rounds ask ports keys next lines edit f l a o s e =
    let last = f.last_for in
    let sections : sections_written config next ≡ map (offer_section config rounds ask ports keys) (all_sections ask.sdp) =
    ap (λ n. map (section_written config next) (numbers 0 n)) last.count_is
    ∙ map-alike (section_written config next) (offer_section config rounds ask ports keys) (section_count ask.sdp)
    (λ k below. section-is-written config rounds ask ports keys next k f (omega (arith, below, last.few))) in
    text-is lines edit config ask.options (map (offer_section config rounds ask ports keys) (all_sections ask.sdp)) a
    (o ∙ ap (λ (x : Options). x.replace_origin) last.options_are) (s ∙ ap (λ (x : Options). x.replace_session) last.options_are) (e ∙ sections)
    ∙ ap (λ ls. edited ls (offer_edit config rounds ask ports keys)) (sym l)

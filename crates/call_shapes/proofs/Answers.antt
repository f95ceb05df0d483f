-- An answer keeps a call and its cell agreeing.
use Rattle.std.proofs.Common.{◌≡◌, ◌∙◌, refl, sym, ap, subst, ℕ, zero, suc, ◌<◌, ◌≤◌, ◌⊎◌, inl, inr, Bool, true, false, not, cond, ◌&&◌, ◌||◌, ◌==◌, List, [], ◌∷◌, map, filter, length, Option, Some, None, arith}
use Rattle.std.specs.Prelude.{slice_get, is_some}
use Rattle.std.proofs.lemmas.Bool.{and_parts}
use Rattle.relay_outside.specs.declared.settings.Config.{Config}
use Rattle.histories.specs.Words.{In, here}
use Rattle.histories.proofs.Lists.{equal_if, filtered, mapped}
use Rattle.port_pool.specs.declared.holder.Side.{Side}
use Rattle.port_pool.specs.declared.holder.Side.TheVariants.{A, B}
use Rattle.port_pool.specs.declared.signal.LegSignal.{LegSignal}
use Rattle.port_pool.specs.declared.signal.SectionSignal.{SectionSignal}
use Rattle.port_pool.specs.declared.signal.SectionSignal.TheVariants.{Commit, Reject}
use Rattle.port_pool.specs.Signals.{side_eq, is_rejected, signal_at}
use Rattle.offer_answer.specs.Shapes.{LegShape, SectionShape, bare_shape}
use Rattle.offer_answer.specs.AnswerShapes.{ShapeAnswered, SectionShapeCommits, LegShapeCommits}
use Rattle.call_cell.specs.Shapes.{CellLegShape, CellShape, answered_leg, answered_shape}
use Rattle.call_cell.specs.Commits.{said_of}
use Rattle.offer_answer.specs.Shapes.{DialogShape}
use Rattle.call_shapes.specs.Turns.{DialogAnswered}
use Rattle.call_shapes.specs.Agreement.{IsLegOf, LegAgrees, SideAgrees, CountsAgree, CallAgrees, section_kept, side_of_shape, stands_on}

-- a list ends before the places where it has no element
pub past_end : {A : Type 0} (xs : List A) (k : ℕ) → slice_get xs k ≡ None → length xs ≤ k
past_end [] k h = omega arith
past_end (x ∷ xs) zero h = absurd (let e = h in cc)
past_end (x ∷ xs) (suc k) h = let rest = past_end xs k h in omega (arith, rest)

pub within_end : {A : Type 0} (xs : List A) (k : ℕ) (x : A) → slice_get xs k ≡ Some x → k < length xs
within_end [] k x h = absurd (let e = h in cc)
within_end (y ∷ xs) zero x h = omega arith
within_end (y ∷ xs) (suc k) x h = let rest = within_end xs k x h in omega (arith, rest)

-- the legs that stand on a place after an answer
abbrev stays : List SectionSignal → CellLegShape → Bool
stays signal leg = not (is_rejected signal leg.holder.section)

map_case : (signal : List SectionSignal) (section : ℕ) (side : Side) (leg : CellLegShape) (legs : List CellLegShape)
    → filter (stands_on section side) (map (answered_leg signal) legs) ≡ map (answered_leg signal) (filter (stands_on section side) legs)
    → (b : Bool) → cond b (answered_leg signal leg ∷ filter (stands_on section side) (map (answered_leg signal) legs)) (filter (stands_on section side) (map (answered_leg signal) legs))
    ≡ map (answered_leg signal) (cond b (leg ∷ filter (stands_on section side) legs) (filter (stands_on section side) legs))
map_case signal section side leg legs rest true = ap (λ (l : List CellLegShape). answered_leg signal leg ∷ l) rest
map_case signal section side leg legs rest false = rest

on_answered : (signal : List SectionSignal) (section : ℕ) (side : Side) (legs : List CellLegShape)
    → filter (stands_on section side) (map (answered_leg signal) legs) ≡ map (answered_leg signal) (filter (stands_on section side) legs)
on_answered signal section side [] = refl
on_answered signal section side (leg ∷ legs) = map_case signal section side leg legs (on_answered signal section side legs) (stands_on section side leg)

-- those on a place all stay, or none does
stays_on : (signal : List SectionSignal) (section : ℕ) (side : Side) (leg : CellLegShape) → stands_on section side leg ≡ true → stays signal leg ≡ not (is_rejected signal section)
stays_on signal section side leg on = ap (λ n. not (is_rejected signal n)) (equal_if leg.holder.section section (and_parts (leg.holder.section == section) (side_eq leg.holder.side side) on).0)

abbrev Keeps : List SectionSignal → ℕ → Side → List CellLegShape → Bool → Type 0
Keeps signal section side legs true = filter (stands_on section side) (filter (stays signal) legs) ≡ filter (stands_on section side) legs
Keeps signal section side legs false = filter (stands_on section side) (filter (stays signal) legs) ≡ []

keep_case : (signal : List SectionSignal) (section : ℕ) (side : Side) (leg : CellLegShape) (legs : List CellLegShape) (kept : Bool) → Keeps signal section side legs kept
    → (on stay : Bool) → stands_on section side leg ≡ on → (on ≡ true → stay ≡ kept)
    → (rest : List CellLegShape) → rest ≡ filter (stays signal) legs
    → filter (stands_on section side) (cond stay (leg ∷ rest) rest) ≡ cond (kept && on) (leg ∷ filter (stands_on section side) legs) (cond kept (filter (stands_on section side) legs) [])
keep_case signal section side leg legs true h true true on_is same rest is =
    rw on_is (ap (λ (l : List CellLegShape). leg ∷ filter (stands_on section side) l) is ∙ ap (λ (l : List CellLegShape). leg ∷ l) h)
keep_case signal section side leg legs true h true false on_is same rest is = absurd (let e = same refl in cc)
keep_case signal section side leg legs false h true true on_is same rest is = absurd (let e = same refl in cc)
keep_case signal section side leg legs false h true false on_is same rest is = ap (filter (stands_on section side)) is ∙ h
keep_case signal section side leg legs true h false true on_is same rest is = rw on_is (ap (filter (stands_on section side)) is ∙ h)
keep_case signal section side leg legs true h false false on_is same rest is = ap (filter (stands_on section side)) is ∙ h
keep_case signal section side leg legs false h false true on_is same rest is = rw on_is (ap (filter (stands_on section side)) is ∙ h)
keep_case signal section side leg legs false h false false on_is same rest is = ap (filter (stands_on section side)) is ∙ h

keeps_more : (signal : List SectionSignal) (section : ℕ) (side : Side) (leg : CellLegShape) (legs : List CellLegShape) (kept on : Bool) → stands_on section side leg ≡ on
    → filter (stands_on section side) (filter (stays signal) (leg ∷ legs)) ≡ cond (kept && on) (leg ∷ filter (stands_on section side) legs) (cond kept (filter (stands_on section side) legs) [])
    → Keeps signal section side (leg ∷ legs) kept
keeps_more signal section side leg legs true true on_is h = h ∙ rw on_is refl
keeps_more signal section side leg legs true false on_is h = h ∙ rw on_is refl
keeps_more signal section side leg legs false on on_is h = h

keeps_on : (signal : List SectionSignal) (section : ℕ) (side : Side) (legs : List CellLegShape) (kept : Bool) → not (is_rejected signal section) ≡ kept → Keeps signal section side legs kept
keeps_on signal section side [] true is = refl
keeps_on signal section side [] false is = refl
keeps_on signal section side (leg ∷ legs) kept is =
    keeps_more signal section side leg legs kept (stands_on section side leg) refl
    (keep_case signal section side leg legs kept (keeps_on signal section side legs kept is) (stands_on section side leg) (stays signal leg) refl
    (λ on. stays_on signal section side leg on ∙ is) (filter (stays signal) legs) refl)

-- the legs on a place of a section that isn't rejected, and of one that is
pub legs_kept : (signal : List SectionSignal) (section : ℕ) (side : Side) (shape : CellShape) → is_rejected signal section ≡ false
    → filter (stands_on section side) (answered_shape signal shape).legs ≡ map (answered_leg signal) (filter (stands_on section side) shape.legs)
legs_kept signal section side shape is =
    on_answered signal section side (filter (stays signal) shape.legs) ∙ ap (map (answered_leg signal)) (keeps_on signal section side shape.legs true (ap not is))

pub legs_went : (signal : List SectionSignal) (section : ℕ) (side : Side) (shape : CellShape) → is_rejected signal section ≡ true
    → filter (stands_on section side) (answered_shape signal shape).legs ≡ []
legs_went signal section side shape is =
    on_answered signal section side (filter (stays signal) shape.legs) ∙ ap (map (answered_leg signal)) (keeps_on signal section side shape.legs false (ap not is))

-- The section.

said_some : (signal : List SectionSignal) (leg : CellLegShape) (section : ℕ) (side : Side) (a b : LegSignal) → stands_on section side leg ≡ true → slice_get signal section ≡ Some (Commit a b)
    → is_some (said_of signal leg.holder) ≡ true
said_some signal leg section side a b on is =
    let at = equal_if leg.holder.section section (and_parts (leg.holder.section == section) (side_eq leg.holder.side side) on).0 in
    ap (λ n. is_some (signal_at signal n leg.holder.side)) at ∙ by leg.holder.side
  where
    by : (s : Side) → is_some (signal_at signal section s) ≡ true
    by A = rw (is, is_some) refl
    by B = rw (is, is_some) refl

first_is_in : (section : ℕ) (side : Side) (legs : List CellLegShape) (leg : CellLegShape) → filter (stands_on section side) legs ≡ leg ∷ [] → stands_on section side leg ≡ true
first_is_in section side legs leg is = (filtered (stands_on section side) legs (subst (λ (l : List CellLegShape). In leg l) (sym is) (here refl))).1

leg_commits : (config : Config) (s : LegSignal) (old new : LegShape) (signal : List SectionSignal) (leg : CellLegShape) → LegShapeCommits s old new → LegAgrees config old leg
    → LegAgrees config new (answered_leg signal leg)
leg_commits config s old new signal leg commits agrees = record {
  port_is = ap (λ (l : LegShape). l.port) commits.new_is ∙ agrees.port_is;
  long_is = ap (λ (l : LegShape). l.long_key) commits.new_is ∙ agrees.long_is;
  short_is = ap (λ (l : LegShape). l.short_key) commits.new_is ∙ agrees.short_is;
}

side_commits : (config : Config) (a b : LegSignal) (old new : SectionShape) (side : Side) (signal : List SectionSignal) (leg : CellLegShape) → SectionShapeCommits a b old new
    → LegAgrees config (side_of_shape old side) leg → LegAgrees config (side_of_shape new side) (answered_leg signal leg)
side_commits config a b old new A signal leg commits agrees = leg_commits config a old.a new.a signal leg commits.a_commits agrees
side_commits config a b old new B signal leg commits agrees = leg_commits config b old.b new.b signal leg commits.b_commits agrees

-- a section of which nothing is said had no pairs
bare_side : (config : Config) (side : Side) (found : List CellLegShape) → found ≡ [] → SideAgrees config false false (side_of_shape bare_shape side) found
bare_side config A found is = (is, refl, refl)
bare_side config B found is = (is, refl, refl)

bare_agrees : (config : Config) (new : SectionShape) (side : Side) (found : List CellLegShape) → new ≡ bare_shape → found ≡ [] → SideAgrees config new.has_pairs new.is_committed (side_of_shape new side) found
bare_agrees config new side found is none =
    subst (λ (s : SectionShape). SideAgrees config s.has_pairs s.is_committed (side_of_shape s side) found) (sym is) (bare_side config side found none)

had_none : (config : Config) (old : SectionShape) (side : Side) (found : List CellLegShape) → (old.has_pairs ≡ true → ⊥) → (b : Bool) → old.has_pairs ≡ b
    → SideAgrees config b old.is_committed (side_of_shape old side) found → found ≡ []
had_none config old side found none true is h = absurd (none is)
had_none config old side found none false is h = h.0

commits_agrees : (config : Config) (a b : LegSignal) (old new : SectionShape) (section : ℕ) (side : Side) (signal : List SectionSignal) (shape : CellShape)
    → SectionShapeCommits a b old new → slice_get signal section ≡ Some (Commit a b)
    → SideAgrees config true old.is_committed (side_of_shape old side) (filter (stands_on section side) shape.legs)
    → SideAgrees config true true (side_of_shape new side) (map (answered_leg signal) (filter (stands_on section side) shape.legs))
commits_agrees config a b old new section side signal shape commits is (leg, found, agrees, committed) = (
  answered_leg signal leg,
  ap (map (answered_leg signal)) found,
  side_commits config a b old new side signal leg commits agrees,
  ap (λ t. t || leg.is_committed) (said_some signal leg section side a b (first_is_in section side shape.legs leg found) is),
)

section_by : (config : Config) (old new : SectionShape) (section : ℕ) (side : Side) (signal : List SectionSignal) (shape : CellShape) (count : ℕ)
    → length signal ≡ count → (old.has_pairs ≡ true → section < count)
    → (said : Option SectionSignal) → slice_get signal section ≡ said → ShapeAnswered said old new
    → SideAgrees config old.has_pairs old.is_committed (side_of_shape old side) (filter (stands_on section side) shape.legs)
    → SideAgrees config new.has_pairs new.is_committed (side_of_shape new side) (filter (stands_on section side) (answered_shape signal shape).legs)
section_by config old new section side signal shape count long offered None is answered was =
    let past = past_end signal section is in
    let none = λ (pairs : old.has_pairs ≡ true). (let within = offered pairs in absurd {A = ⊥} (omega (arith, within, past, long))) in
    bare_agrees config new side (filter (stands_on section side) (answered_shape signal shape).legs) answered
    (legs_kept signal section side shape (rw (is, is_rejected) refl)
    ∙ ap (map (answered_leg signal)) (had_none config old side (filter (stands_on section side) shape.legs) none old.has_pairs refl was))
section_by config old new section side signal shape count long offered (Some Reject) is answered was =
    bare_agrees config new side (filter (stands_on section side) (answered_shape signal shape).legs) answered (legs_went signal section side shape (rw (is, is_rejected) refl))
section_by config old new section side signal shape count long offered (Some (Commit a b)) is answered was =
    let agrees = commits_agrees config a b old new section side signal shape answered is
    (subst (λ pairs. SideAgrees config pairs old.is_committed (side_of_shape old side) (filter (stands_on section side) shape.legs)) answered.had_pairs was) in
    subst (λ (l : List CellLegShape). SideAgrees config new.has_pairs new.is_committed (side_of_shape new side) l) (sym (legs_kept signal section side shape (rw (is, is_rejected) refl)))
    (subst (λ pairs. SideAgrees config pairs new.is_committed (side_of_shape new side) (map (answered_leg signal) (filter (stands_on section side) shape.legs))) (sym answered.pairs_are)
    (subst (λ done. SideAgrees config true done (side_of_shape new side) (map (answered_leg signal) (filter (stands_on section side) shape.legs))) (sym answered.committed_is) agrees))

-- a section with pairs, or a committed one, is among those of which the signal says something
signalled : (old new : SectionShape) (section : ℕ) (signal : List SectionSignal) (said : Option SectionSignal) → slice_get signal section ≡ said → ShapeAnswered said old new
    → (new.has_pairs ≡ true) ⊎ (new.is_committed ≡ true) → section < length signal
signalled old new section signal None is answered (inl h) = absurd (let e = ap (λ (s : SectionShape). s.has_pairs) answered in let wrong : false ≡ true = sym e ∙ h in cc)
signalled old new section signal None is answered (inr h) = absurd (let e = ap (λ (s : SectionShape). s.is_committed) answered in let wrong : false ≡ true = sym e ∙ h in cc)
signalled old new section signal (Some x) is answered h = within_end signal section x is

-- The call.

leg_answered : (config : Config) (cell call : ℕ) (signal : List SectionSignal) (leg from : CellLegShape) → answered_leg signal from ≡ leg → IsLegOf config cell call from → IsLegOf config cell call leg
leg_answered config cell call signal leg from is h = subst (IsLegOf config cell call) is (record {
  cell_is = h.cell_is;
  call_is = h.call_is;
  section = h.section;
  pair = h.pair;
  lease_is = h.lease_is;
  has_ends = h.has_ends;
})

counted : (old new : DialogShape) (signal : List SectionSignal) → CountsAgree old → DialogAnswered signal old new → CountsAgree new
counted old new signal h a = record {
  most = (let most = h.most in let same = a.offered_is in omega (arith, most, same));
  no_more = (let offered = a.offered_is in let committed = a.committed_is in omega (arith, offered, committed));
  offered = λ section below pairs.
      (let within = signalled (section_kept old section) (section_kept new section) section signal (slice_get signal section) refl (a.sections section below) (inl pairs) in
      let many = a.as_many in let same = a.offered_is in omega (arith, within, many, same));
  committed = λ section below done.
      (let within = signalled (section_kept old section) (section_kept new section) section signal (slice_get signal section) refl (a.sections section below) (inr done) in
      let many = a.as_many in let same = a.committed_is in omega (arith, within, many, same));
}

pub answers_agree : (config : Config) (cell call : ℕ) (old new : DialogShape) (shape : CellShape) (signal : List SectionSignal) → CallAgrees config cell call old shape
    → DialogAnswered signal old new → CallAgrees config cell call new (answered_shape signal shape)
answers_agree config cell call old new shape signal h a = record {
  config_is = h.config_is;
  call_is = h.call_is;
  legs = λ leg i.
      (let made = mapped (answered_leg signal) (filter (stays signal) shape.legs) i in
      leg_answered config cell call signal leg made.from made.makes (h.legs made.from (filtered (stays signal) shape.legs made.is_in).0));
  sections = λ section side below. section_by config (section_kept old section) (section_kept new section) section side signal shape old.offered_count a.as_many
      (h.counts.offered section below) (slice_get signal section) refl (a.sections section below) (h.sections section side below);
  counts = counted old new signal h.counts a;
}

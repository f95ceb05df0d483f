-- What an answer makes of the shape of a dialog's sections. This too is said of each dialog.
use Rattle.std.specs.Prelude.{◌≡◌, ◌<◌, ◌≤◌, ◌&&◌, ℕ, Bool, true, false, not, List, length, Option, Some, None, unwrap_or, option_map, slice_get, slice_index_or}
use Rattle.sdes_lines.specs.declared.crypto_line.Suite.{Suite}
use Rattle.sdes_lines.specs.declared.crypto_line.Suite.TheVariants.{Tag80, Tag32}
use Rattle.sdes_lines.specs.declared.crypto_line.CryptoLine.{CryptoLine}
use Rattle.sdp_text.specs.Descriptions.{sections_in}
use Rattle.sdp_edit.specs.ChosenLines.{section_lines, IsFirstOf, IsOffered}
use Rattle.port_pool.specs.declared.holder.Side.{Side}
use Rattle.port_pool.specs.declared.holder.Side.TheVariants.{A, B}
use Rattle.port_pool.specs.declared.signal.LegSignal.{LegSignal}
use Rattle.port_pool.specs.declared.signal.SectionSignal.{SectionSignal}
use Rattle.port_pool.specs.declared.signal.SectionSignal.TheVariants.{Commit, Reject}
use Rattle.offer_answer.specs.Sections.{no_section, is_active}
use Rattle.offer_answer.specs.Signals.{line_key}
use Rattle.offer_answer.specs.Dialogs.{leg_at, no_state}
use Rattle.offer_answer.specs.LastOffers.{no_made}
use Rattle.offer_answer.specs.Answers.{line_committed, key_for_line}
use Rattle.offer_answer.specs.Shapes.{LegShape, SectionShape, key_shape, leg_shape, shape_in, shape_of, bare_shape, is_active_at}
use Rattle.offer_answer.specs.declared.leg.DrawnKey.{DrawnKey}
use Rattle.offer_answer.specs.declared.last_offer.LastOffer.{LastOffer}
use Rattle.offer_answer.specs.declared.answered_section.AnsweredSection.{AnsweredSection}
use Rattle.offer_answer.specs.declared.dialog.Dialog.{Dialog}
use Rattle.offer_answer.specs.declared.plan.Next.{Next}
use Rattle.offer_answer.specs.declared.plan.Next.TheVariants.{Offer, Answer}
use Rattle.offer_answer.specs.declared.plan.Plan.{Plan}

-- the leg's key for a suite
abbrev pub shape_key : LegShape → Suite → Option (ℕ × Suite)
shape_key leg Tag80 = leg.long_key
shape_key leg Tag32 = leg.short_key

-- the leg's key for the suite under which its side sends, where that sends SRTP
abbrev pub shape_chosen : LegSignal → LegShape → Option (ℕ × Suite)
shape_chosen s leg = elim s.inbound [ None ↦ None | Some key ↦ shape_key leg key.1 ]

abbrev pub with_key_in_force : Option (ℕ × Suite) → LegShape → LegShape
with_key_in_force key leg = record leg { key_in_force = key }

-- the leg is committed: that key is in force, and its number is signalled
pub record LegShapeCommits (s : LegSignal) (old new : LegShape) : Type 0 where
  pub new_is : new ≡ with_key_in_force (shape_chosen s old) old
  pub outbound_is : s.outbound ≡ option_map (λ (key : ℕ × Suite). key.0) (shape_chosen s old)

-- a section with pairs is committed: it keeps them and is committed from then on
pub record SectionShapeCommits (a b : LegSignal) (old new : SectionShape) : Type 0 where
  pub had_pairs : old.has_pairs ≡ true
  pub pairs_are : new.has_pairs ≡ true
  pub committed_is : new.is_committed ≡ true
  pub a_commits : LegShapeCommits a old.a new.a
  pub b_commits : LegShapeCommits b old.b new.b

-- the section after an answer that signals this of it; one of which it signals nothing has no pairs from then on
abbrev pub ShapeAnswered : Option SectionSignal → SectionShape → SectionShape → Type 0
ShapeAnswered None old new = new ≡ bare_shape
ShapeAnswered (Some Reject) old new = new ≡ bare_shape
ShapeAnswered (Some (Commit a b)) old new = SectionShapeCommits a b old new

-- what the plan's answer makes of the dialog
abbrev pub AnswerShapes : Plan → Dialog → Next → Type 0
AnswerShapes plan dialog (Offer next) = ⊥
AnswerShapes plan dialog (Answer next) = (section : ℕ) → section < 8 →
    ShapeAnswered (slice_get plan.signal section) (shape_of dialog section) (shape_in next.sections section)

-- How it comes about.

-- the first usable crypto line of the section among the offered ones; none past the end of the description
pub record TakesLine (lines : List (List ℕ)) (section : ℕ) (offered : List (Option CryptoLine)) (line : Option CryptoLine) : Type 0 where
  pub first : section < length (sections_in lines) → IsFirstOf (IsOffered offered) (section_lines section lines) line
  pub none : length (sections_in lines) ≤ section → line ≡ None

-- a section of an answer with these lines, with what the dialog and its last offer keep of it
pub record AnsweredNow (dialog : Dialog) (last : LastOffer) (lines : List (List ℕ)) (section : ℕ) (answered : AnsweredSection) : Type 0 where
  pub section_is : answered.section ≡ unwrap_or (slice_get (sections_in lines) section) no_section
  pub made_is : answered.made ≡ slice_index_or last.sections section no_made
  pub kept_is : answered.kept ≡ slice_index_or dialog.sections section no_state
  pub takes : TakesLine lines section answered.made.lines answered.line

-- an answer with these lines rejects the section
abbrev pub refuses_section : LastOffer → List (List ℕ) → ℕ → SectionShape → Bool
refuses_section last lines section old = not (is_active (slice_index_or last.sections section no_made).section && is_active_at lines section && old.has_pairs)

-- the leg and the section with the keys in force that the answer's crypto lines choose
abbrev pub leg_taken : AnsweredSection → Side → Side → LegShape
leg_taken answered maker side =
    with_key_in_force (option_map key_shape (key_for_line (leg_at answered.kept side) (line_committed answered maker side))) (leg_shape (leg_at answered.kept side))

abbrev pub shape_taken : AnsweredSection → Side → SectionShape
shape_taken answered maker = record { has_pairs = true; is_committed = true; a = leg_taken answered maker A; b = leg_taken answered maker B }

-- what the section becomes, where it is rejected or not
abbrev pub NextShape : Bool → Dialog → LastOffer → List (List ℕ) → ℕ → SectionShape → Type 0
NextShape true dialog last lines section new = new ≡ bare_shape
NextShape false dialog last lines section new =
    (answered : AnsweredSection) × AnsweredNow dialog last lines section answered × (new ≡ shape_taken answered last.maker)

-- the keys that are signalled for a leg
pub record SignalsLeg (answered : AnsweredSection) (maker side : Side) (s : LegSignal) : Type 0 where
  pub inbound_is : s.inbound ≡ option_map line_key (line_committed answered maker side)
  pub outbound_is : s.outbound
      ≡ option_map (λ (key : DrawnKey). key.number) (key_for_line (leg_at answered.kept side) (line_committed answered maker side))

abbrev pub SignalsSection : AnsweredSection → Side → SectionSignal → Type 0
SignalsSection answered maker Reject = ⊥
SignalsSection answered maker (Commit a b) = SignalsLeg answered maker A a × SignalsLeg answered maker B b

-- what is signalled of the section, where it is rejected or not
abbrev pub SignalShape : Bool → Dialog → LastOffer → List (List ℕ) → ℕ → SectionSignal → Type 0
SignalShape true dialog last lines section signal = signal ≡ Reject
SignalShape false dialog last lines section signal =
    (answered : AnsweredSection) → AnsweredNow dialog last lines section answered → SignalsSection answered last.maker signal

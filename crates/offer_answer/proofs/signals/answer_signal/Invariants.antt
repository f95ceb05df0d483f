use Rattle.std.proofs.Common.{◌≡◌, ◌<◌, ◌≤◌, ◌++◌, ℕ, List, length, slice_index_or}
use Rattle.relay_outside.specs.declared.settings.Config.{Config}
use Rattle.offer_answer.specs.Rounds.{Round, AnswerAsk}
use Rattle.offer_answer.specs.Sides.{MadeOffer}
use Rattle.offer_answer.specs.Sections.{section_count}
use Rattle.offer_answer.specs.Signals.{answer_signal}
use Rattle.offer_answer.specs.Dialogs.{DialogFor}
use Rattle.offer_answer.specs.Answers.{IsLast, ReadsAnswer}
use Rattle.sdp_text.specs.Descriptions.{sections_in}
use Rattle.port_pool.specs.declared.signal.SectionSignal.{SectionSignal}
use Rattle.offer_answer.specs.Shapes.{shape_of}
use Rattle.offer_answer.specs.AnswerShapes.{refuses_section, SignalShape}
use Rattle.offer_answer.proofs.AnswerParts.{signal_left}
use Rattle.offer_answer.proofs.signals.answer_signal.Given as goal

-- what is committed so far, with what is left, is all
abbrev pub invariant-loop-index : goal.invariant-loop-index
invariant-loop-index l = record {
  count : length l.signal ≡ l.index;
  most : l.index ≤ length (sections_in l.fn.sdp);
  shapes : (section : ℕ) (none : SectionSignal) → section < l.index →
      SignalShape (refuses_section l.fn.last l.fn.sdp section (shape_of l.fn.dialog section)) l.fn.dialog l.fn.last l.fn.sdp section (slice_index_or l.signal section none);
  whole : (config : Config) (rounds : List Round) (offer : MadeOffer) (ask : AnswerAsk) → DialogFor config l.fn.dialog rounds →
      IsLast rounds offer l.fn.last → ReadsAnswer l.fn.sdp rounds ask → ask.options ≡ l.fn.options →
      l.signal ++ signal_left rounds offer ask l.index (section_count ask.sdp) ≡ answer_signal rounds offer ask;
}

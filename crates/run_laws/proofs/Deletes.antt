-- A datagram of a load ends no call: neither it nor a kept reply acts a delete.
use Rattle.std.proofs.Common.{◌≡◌, refl, subst, ℕ, ◌<◌, ◌^◌, true, false, cond, not, Bool, List, [], length, Option, None, Some, Result, Ok, Err}
use Rattle.std.specs.Prelude.{◌&&◌, ◌||◌, nat_le, is_some}
use Rattle.std.specs.List.{list_any}
use Rattle.histories.specs.Words.{or_else}
use Rattle.relay_outside.specs.declared.settings.Config.{Config}
use Rattle.ng_bencode.specs.Spells.{spelling}
use Rattle.ng_command.specs.Meanings.{Said, Ping, Offer, Answer, Delete, Query, Listing}
use Rattle.ng_reply.specs.declared.code.ErrorCode.{ErrorCode}
use Rattle.ng_reply.specs.declared.code.ErrorCode.TheVariants.{E17}
use Rattle.offer_answer.specs.Rounds.{Round, OfferAsk, AnswerAsk}
use Rattle.offer_answer.specs.Plan as plan
use Rattle.call_board.specs.Acts as act
use Rattle.call_board.specs.Acts.{Call, Act, Given, Control, BoardEntry}
use Rattle.call_board.specs.Answers.{Answering, ending_error, leased_pairs, offer_ask, offer_leased, offer_unless, offer_to, answer_ask, answer_unless, answer_to, query_of, answering_command, answering_asked, answering, Answered, spelled, answering_unless}
use Rattle.call_board.specs.Requests.{ReadsBody, asked}
use Rattle.call_board.specs.Calls.{live, find_call, new_call, is_ending, rounds}
use Rattle.call_board.specs.Fits.{is_repeat, is_read}
use Rattle.call_board.specs.Pairs.{free_in, is_short}
use Rattle.call_board.specs.Replies.{Fault, reply_datagram}
use Rattle.board_turns.specs.Controls.{RequestRecord, unanswered, with_answer}
use Rattle.load_maker.specs.Datagrams.{body_of}
use Rattle.run_laws.proofs.Bodies.{EndsNothing, AsksNoEnd, asks_no_end}

-- the act ends no call at once
abbrev pub EndsNone : Act → Type 0
EndsNone (act.Deleted of) = ⊥
EndsNone _ = Unit {0}

by_cond : (b : Bool) (x y : Answering) → EndsNone x.act → EndsNone y.act → EndsNone (cond b x y).act
by_cond true x y first second = first
by_cond false x y first second = second

module _ (config : Config) (h : List BoardEntry) (given : Given) where
  by_leases : (ask : OfferAsk) (of : Call) (begins : Bool) (before : List Round) (pairs : List ℕ) → EndsNone (offer_leased config h given ask of begins before pairs).act
  by_leases ask of begins before pairs = by_cond (list_any not given.opens) _ _ tt (by_cond given.draw_failed _ _ tt tt)

  by_plan : (ask : OfferAsk) (of : Call) (begins : Bool) (before : List Round) (fault : Option ErrorCode) → EndsNone (offer_unless config h given ask of begins before fault).act
  by_plan ask of begins before (Some code) = tt
  by_plan ask of begins before None =
      by_cond (begins && nat_le config.max_sessions (length (live h))) _ _ tt
      (by_cond (is_short (free_in config h) (plan.demand before ask).pairs) _ _ tt
      (by_leases ask of begins before (leased_pairs config h (plan.demand before ask))))

  by_offer : (id : List ℕ) (ask : OfferAsk) (found : Option Call) → EndsNone (offer_to config h given id ask found).act
  by_offer id ask None = by_plan ask (new_call h id) true [] (plan.offer_fault [] ask)
  by_offer id ask (Some of) = by_plan ask of false (rounds h of.number) (or_else (ending_error (is_ending h of.number)) (plan.offer_fault (rounds h of.number) ask))

  by_signal : (ask : AnswerAsk) (of : Call) (before : List Round) (fault : Option ErrorCode) → EndsNone (answer_unless config ask of before fault).act
  by_signal ask of before (Some code) = tt
  by_signal ask of before None = tt

  by_answer : (ask : AnswerAsk) (found : Option Call) → EndsNone (answer_to config h ask found).act
  by_answer ask None = tt
  by_answer ask (Some of) = by_signal ask of (rounds h of.number) (or_else (ending_error (is_ending h of.number)) (plan.answer_fault (rounds h of.number) ask))

  by_query : (found : Option Call) → EndsNone (query_of h given found).act
  by_query None = tt
  by_query (Some of) = tt

module _ (config : Config) (h : List BoardEntry) (c : Control) where
  by_command : (says : Said) → EndsNothing says → EndsNone (answering_command config h c says).act
  by_command Ping none = tt
  by_command (Offer id from_tag sdp options) none = by_offer config h c.given id (offer_ask from_tag sdp options c.chosen) (find_call h id)
  by_command (Answer id from_tag to_tag sdp options) none = by_answer config h c.given (answer_ask from_tag to_tag sdp options c.chosen) (find_call h id)
  by_command (Delete id from_tag fatal seconds) none = absurd none
  by_command (Query id) none = by_query config h c.given (find_call h id)
  by_command (Listing limit) none = tt

  by_asked : (says : Result Said ErrorCode) → AsksNoEnd says → EndsNone (answering_asked config h c says).act
  by_asked (Err code) none = tt
  by_asked (Ok says) none = by_command says none

-- a datagram that ends a call was read
was_read : (a : Act) (of : Call) (long memory report : Bool) → a ≡ act.Deleted of → long ≡ false → memory ≡ false
    → (not (is_repeat a) && not long && (not memory || report)) ≡ true
was_read a of long memory report is fits some = rw (is, fits, some) refl

unless_ends : (a : Act) → ((of : Call) → a ≡ act.Deleted of → ⊥) → EndsNone a
unless_ends act.Repeated never = tt
unless_ends act.OutOfMemory never = tt
unless_ends (act.Failed code) never = tt
unless_ends (act.Undone code leases draws) never = tt
unless_ends (act.Offered offer) never = tt
unless_ends (act.Answered answer) never = tt
unless_ends (act.Deleted of) never = never of refl
unless_ends (act.Queried of) never = tt
unless_ends act.Told never = tt
unless_ends (act.Delayed of s) never = tt

-- What the datagram does that is recorded so, where its body is one of a load
module _ (config : Config) (h : List BoardEntry) (x : RequestRecord) (number : ℕ) (body_is : x.body ≡ spelling (body_of number)) (short : x.too_long ≡ false → length x.body < 2 ^ 64) where
  by_memory : (memory : Bool) (bytes : List ℕ) (of : Call) → x.given.out_of_memory ≡ memory → (x.too_long ≡ false → x.given.out_of_memory ≡ false → ReadsBody x.body x.pairs)
      → (cond {A = Answered} memory (record { bytes = bytes; act = act.OutOfMemory }) (spelled config x.cookie x.body (answering config h (unanswered x)))).act ≡ act.Deleted of → ⊥
  by_memory true bytes of is reads e = cc
  by_memory false bytes of is reads e =
      let none : EndsNone (answering config h (unanswered x)).act =
      by_asked config h (unanswered x) (asked config x.too_long x.pairs) (asks_no_end config number x.body x.too_long x.pairs body_is short (λ fits. reads fits is)) in
      subst (λ (a : Act). EndsNone a) e none

  by_kept : (kept : Option (List ℕ)) (of : Call) → (is_read (with_answer x (answering_unless config h (unanswered x) kept)) ≡ true → ReadsBody x.body x.pairs)
      → (answering_unless config h (unanswered x) kept).act ≡ act.Deleted of → ⊥
  by_kept (Some bytes) of reads e = cc
  by_kept None of reads e =
      by_memory x.given.out_of_memory (reply_datagram config x.cookie x.body (Fault E17)) of refl
      (λ fits some. reads (was_read (answering_unless config h (unanswered x) None).act of x.too_long x.given.out_of_memory (is_some x.given.report) e fits some)) e

  pub acts_none : (kept : Option (List ℕ)) → (is_read (with_answer x (answering_unless config h (unanswered x) kept)) ≡ true → ReadsBody x.body x.pairs)
      → EndsNone (answering_unless config h (unanswered x) kept).act
  acts_none kept reads = unless_ends (answering_unless config h (unanswered x) kept).act (λ of e. by_kept kept of reads e)

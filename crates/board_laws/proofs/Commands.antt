-- Two turns of one command in which the devices returned the same have the same reply and do the same.
use Rattle.std.proofs.Common.{◌≡◌, ◌∙◌, sym, ap, subst, refl, ℕ, ◌⊎◌, inl, inr, List, [], length, Bool, true, false, cond, not, Option, Some, None, Result, Ok, Err}
use Rattle.std.specs.Prelude.{nat_le, ◌&&◌, ◌==◌}
use Rattle.std.specs.List.{list_any}
use Rattle.relay_outside.specs.declared.settings.Config.{Config}
use Rattle.histories.specs.Words.{or_else}
use Rattle.ng_command.specs.declared.command.Options.{Options}
use Rattle.ng_command.specs.Meanings as said
use Rattle.ng_command.specs.Meanings.{Said}
use Rattle.ng_reply.specs.declared.code.ErrorCode.{ErrorCode}
use Rattle.ng_reply.specs.declared.code.ErrorCode.TheVariants.{E8, E9, E10, E13, E14}
use Rattle.port_pool.specs.declared.reports.LegReport.{LegReport}
use Rattle.offer_answer.specs.Rounds.{Round, OfferAsk, AnswerAsk, Demand}
use Rattle.offer_answer.specs.Plan as plan
use Rattle.call_board.specs.Acts as act
use Rattle.call_board.specs.Acts.{Act, Call, Given, Control, BoardEntry}
use Rattle.call_board.specs.Calls.{live, find_call, new_call, rounds, rounds_of_call, is_ending}
use Rattle.call_board.specs.Pairs.{free_in, is_short}
use Rattle.call_board.specs.Replies.{Done}
use Rattle.call_board.specs.Answers.{Answering, failing, ending_error, deleting, leased_pairs, offer_ask, answer_ask, offer_leased, offer_unless, offer_to, answer_unless, answer_to, nothing_to_end, names_side, delete_of, query_of, answering_asked}
use Rattle.call_board.specs.Fits.{GivesFor, GivesNothing, ReadsRequest, ReadsAnswerOf, is_request_read, demanded_by}
use Rattle.call_board.proofs.Tells.{leased_case}
use Rattle.board_laws.proofs.Spelled.{offer_once, answer_once}
use Rattle.board_laws.proofs.Faults.{Chosen, offer_refusal, offer_split, answer_refusal, answer_split}
use Rattle.board_laws.proofs.Given.{Fed, nothing_same, report_same, leased_once}

-- the devices returned the same, and the results are one
pub record Same (a b : Given) (x y : Answering) : Type 0 where
  pub given : a ≡ b
  pub answer : x ≡ y

-- nothing was asked of the outside
abbrev Nothing : Given → Type 0
Nothing g = GivesNothing g × (g.report ≡ None)

nothing : (a b : Given) (x y : Answering) → Fed a b → Nothing a → Nothing b → x ≡ y → Same a b x y
nothing a b x y fed m n answer = record { given = nothing_same a b fed.left fed.right m.0 n.0 (m.1 ∙ sym n.1); answer = answer }

-- Offers.

leased_same : (config : Config) (h : List BoardEntry) (ask : OfferAsk) (of : Call) (begins : Bool) (before : List Round) (pairs : List ℕ) (d : Demand) (a b : Given) → Fed a b
    → GivesFor d a (offer_leased config h a ask of begins before pairs).act → GivesFor d b (offer_leased config h b ask of begins before pairs).act
    → Same a b (offer_leased config h a ask of begins before pairs) (offer_leased config h b ask of begins before pairs)
leased_same config h ask of begins before pairs d a b fed m n =
    let same = leased_once config h ask of begins before pairs d a b fed m n in
    record { given = same; answer = ap (λ (g : Given). offer_leased config h g ask of begins before pairs) same }

abbrev pub planned : Config → List BoardEntry → OfferAsk → Call → Bool → List Round → (over short : Bool) → Given → Answering
planned config h ask of begins before over short g =
    cond over (failing E14) (cond short (failing E13) (offer_leased config h g ask of begins before (leased_pairs config h (plan.demand before ask))))

planned_same : (config : Config) (h : List BoardEntry) (ask : OfferAsk) (of : Call) (begins : Bool) (before : List Round) (over short : Bool) (d : Demand) (a b : Given) → Fed a b
    → GivesFor d a (planned config h ask of begins before over short a).act → GivesFor d b (planned config h ask of begins before over short b).act
    → Same a b (planned config h ask of begins before over short a) (planned config h ask of begins before over short b)
planned_same config h ask of begins before true short d a b fed m n = nothing a b _ _ fed m n refl
planned_same config h ask of begins before false true d a b fed m n = nothing a b _ _ fed m n refl
planned_same config h ask of begins before false false d a b fed m n =
    leased_same config h ask of begins before (leased_pairs config h (plan.demand before ask)) d a b fed m n

fault_same : (config : Config) (h : List BoardEntry) (ask : OfferAsk) (of : Call) (begins : Bool) (before : List Round) (fault : Option ErrorCode) (d : Demand) (a b : Given) → Fed a b
    → GivesFor d a (offer_unless config h a ask of begins before fault).act → GivesFor d b (offer_unless config h b ask of begins before fault).act
    → Same a b (offer_unless config h a ask of begins before fault) (offer_unless config h b ask of begins before fault)
fault_same config h ask of begins before (Some code) d a b fed m n = nothing a b _ _ fed m n refl
fault_same config h ask of begins before None d a b fed m n =
    planned_same config h ask of begins before (begins && nat_le config.max_sessions (length (live h))) (is_short (free_in config h) (plan.demand before ask).pairs) d a b fed m n

leased_heard : (config : Config) (h : List BoardEntry) (g : Given) (ask : OfferAsk) (of : Call) (begins : Bool) (before : List Round) (pairs : List ℕ) (failed drew : Bool)
    → is_request_read (leased_case config h g ask of begins before pairs failed drew).act ≡ true
leased_heard config h g ask of begins before pairs true drew = refl
leased_heard config h g ask of begins before pairs false true = refl
leased_heard config h g ask of begins before pairs false false = refl

planned_heard : (config : Config) (h : List BoardEntry) (g : Given) (ask : OfferAsk) (of : Call) (begins : Bool) (before : List Round) (over short : Bool)
    → is_request_read (planned config h ask of begins before over short g).act ≡ true
planned_heard config h g ask of begins before true short = refl
planned_heard config h g ask of begins before false true = refl
planned_heard config h g ask of begins before false false =
    leased_heard config h g ask of begins before (leased_pairs config h (plan.demand before ask)) (list_any not g.opens) g.draw_failed

late_heard : (config : Config) (h : List BoardEntry) (g : Given) (ask : OfferAsk) (of : Call) (begins : Bool) (before : List Round) (fault : Option ErrorCode)
    → (fault ≡ Some E8) ⊎ (fault ≡ None) → is_request_read (offer_unless config h g ask of begins before fault).act ≡ true
late_heard config h g ask of begins before fault (inl is) = ap (λ (f : Option ErrorCode). is_request_read (offer_unless config h g ask of begins before f).act) is
late_heard config h g ask of begins before fault (inr is) =
    ap (λ (f : Option ErrorCode). is_request_read (offer_unless config h g ask of begins before f).act) is
    ∙ planned_heard config h g ask of begins before (begins && nat_le config.max_sessions (length (live h))) (is_short (free_in config h) (plan.demand before ask).pairs)

-- an offer of this call, which is ending or isn't, with what was chosen, and what it demands
abbrev offered : Config → List BoardEntry → Call → (begins ending : Bool) → List Round → (from_tag sdp : List ℕ) → Options → Given → Chosen → Answering
offered config h of begins ending before from_tag sdp options g xs =
    offer_unless config h g (offer_ask from_tag sdp options xs) of begins before (offer_refusal ending before from_tag sdp options xs)

abbrev wanted : List Round → (from_tag sdp : List ℕ) → Options → Chosen → Demand
wanted before from_tag sdp options xs = plan.demand before (offer_ask from_tag sdp options xs)

offer_same : (config : Config) (h : List BoardEntry) (of : Call) (begins ending : Bool) (before : List Round) (from_tag sdp : List ℕ) (options : Options) (a b : Given) (xs ys : Chosen) → Fed a b
    → (is_request_read (offered config h of begins ending before from_tag sdp options a xs).act ≡ true → plan.OfferRead (offer_ask from_tag sdp options xs))
    → (is_request_read (offered config h of begins ending before from_tag sdp options b ys).act ≡ true → plan.OfferRead (offer_ask from_tag sdp options ys))
    → GivesFor (wanted before from_tag sdp options xs) a (offered config h of begins ending before from_tag sdp options a xs).act
    → GivesFor (wanted before from_tag sdp options ys) b (offered config h of begins ending before from_tag sdp options b ys).act
    → Same a b (offered config h of begins ending before from_tag sdp options a xs) (offered config h of begins ending before from_tag sdp options b ys)
offer_same config h of begins ending before from_tag sdp options a b xs ys fed hear_a hear_b m n =
    elim (offer_split ending before from_tag sdp options) [
      | inl early ↦
          let left : offered config h of begins ending before from_tag sdp options a xs ≡ failing early.0 =
          ap (λ (f : Option ErrorCode). offer_unless config h a (offer_ask from_tag sdp options xs) of begins before f) (early.1 xs) in
          let right : offered config h of begins ending before from_tag sdp options b ys ≡ failing early.0 =
          ap (λ (f : Option ErrorCode). offer_unless config h b (offer_ask from_tag sdp options ys) of begins before f) (early.1 ys) in
          nothing a b _ _ fed
          (subst (λ (x : Answering). GivesFor (wanted before from_tag sdp options xs) a x.act) left m)
          (subst (λ (x : Answering). GivesFor (wanted before from_tag sdp options ys) b x.act) right n) (left ∙ sym right)
      | inr late ↦
          let one : xs ≡ ys = offer_once from_tag sdp options xs ys
          (hear_a (late_heard config h a (offer_ask from_tag sdp options xs) of begins before (offer_refusal ending before from_tag sdp options xs) (late xs)))
          (hear_b (late_heard config h b (offer_ask from_tag sdp options ys) of begins before (offer_refusal ending before from_tag sdp options ys) (late ys))) in
          subst
          (λ (zs : Chosen). GivesFor (wanted before from_tag sdp options zs) b (offered config h of begins ending before from_tag sdp options b zs).act
          → Same a b (offered config h of begins ending before from_tag sdp options a xs) (offered config h of begins ending before from_tag sdp options b zs))
          one
          (λ there. fault_same config h (offer_ask from_tag sdp options xs) of begins before (offer_refusal ending before from_tag sdp options xs)
          (wanted before from_tag sdp options xs) a b fed m there)
          n
    ]

offers_same : (config : Config) (h : List BoardEntry) (id from_tag sdp : List ℕ) (options : Options) (found : Option Call) (a b : Given) (xs ys : Chosen) → Fed a b
    → (is_request_read (offer_to config h a id (offer_ask from_tag sdp options xs) found).act ≡ true → plan.OfferRead (offer_ask from_tag sdp options xs))
    → (is_request_read (offer_to config h b id (offer_ask from_tag sdp options ys) found).act ≡ true → plan.OfferRead (offer_ask from_tag sdp options ys))
    → GivesFor (wanted (rounds_of_call h found) from_tag sdp options xs) a (offer_to config h a id (offer_ask from_tag sdp options xs) found).act
    → GivesFor (wanted (rounds_of_call h found) from_tag sdp options ys) b (offer_to config h b id (offer_ask from_tag sdp options ys) found).act
    → Same a b (offer_to config h a id (offer_ask from_tag sdp options xs) found) (offer_to config h b id (offer_ask from_tag sdp options ys) found)
offers_same config h id from_tag sdp options None a b xs ys fed hear_a hear_b m n =
    offer_same config h (new_call h id) true false [] from_tag sdp options a b xs ys fed hear_a hear_b m n
offers_same config h id from_tag sdp options (Some of) a b xs ys fed hear_a hear_b m n =
    offer_same config h of false (is_ending h of.number) (rounds h of.number) from_tag sdp options a b xs ys fed hear_a hear_b m n

-- Answers.

unless_nothing : (config : Config) (ask : AnswerAsk) (of : Call) (before : List Round) (d : Demand) (g : Given) (fault : Option ErrorCode)
    → GivesFor d g (answer_unless config ask of before fault).act → Nothing g
unless_nothing config ask of before d g (Some code) gives = gives
unless_nothing config ask of before d g None gives = gives

answer_nothing : (config : Config) (h : List BoardEntry) (ask : AnswerAsk) (d : Demand) (g : Given) (found : Option Call)
    → GivesFor d g (answer_to config h ask found).act → Nothing g
answer_nothing config h ask d g None gives = gives
answer_nothing config h ask d g (Some of) gives = unless_nothing config ask of (rounds h of.number) d g (or_else (ending_error (is_ending h of.number)) (plan.answer_fault (rounds h of.number) ask)) gives

answer_late : (config : Config) (ask : AnswerAsk) (of : Call) (before : List Round) (fault : Option ErrorCode)
    → (fault ≡ Some E8) ⊎ (fault ≡ None) → is_request_read (answer_unless config ask of before fault).act ≡ true
answer_late config ask of before fault (inl is) = ap (λ (f : Option ErrorCode). is_request_read (answer_unless config ask of before f).act) is
answer_late config ask of before fault (inr is) = ap (λ (f : Option ErrorCode). is_request_read (answer_unless config ask of before f).act) is

abbrev answered : Config → Call → (ending : Bool) → List Round → (from_tag to_tag sdp : List ℕ) → Options → Chosen → Answering
answered config of ending before from_tag to_tag sdp options xs =
    answer_unless config (answer_ask from_tag to_tag sdp options xs) of before (answer_refusal ending before from_tag to_tag sdp options xs)

answer_same : (config : Config) (of : Call) (ending : Bool) (before : List Round) (from_tag to_tag sdp : List ℕ) (options : Options) (xs ys : Chosen)
    → (is_request_read (answered config of ending before from_tag to_tag sdp options xs).act ≡ true → plan.AnswerRead before (answer_ask from_tag to_tag sdp options xs))
    → (is_request_read (answered config of ending before from_tag to_tag sdp options ys).act ≡ true → plan.AnswerRead before (answer_ask from_tag to_tag sdp options ys))
    → answered config of ending before from_tag to_tag sdp options xs ≡ answered config of ending before from_tag to_tag sdp options ys
answer_same config of ending before from_tag to_tag sdp options xs ys hear_a hear_b =
    elim (answer_split ending before from_tag to_tag sdp options) [
      | inl early ↦
          ap (λ (f : Option ErrorCode). answer_unless config (answer_ask from_tag to_tag sdp options xs) of before f) (early.1 xs)
          ∙ sym (ap (λ (f : Option ErrorCode). answer_unless config (answer_ask from_tag to_tag sdp options ys) of before f) (early.1 ys))
      | inr late ↦
          ap (answered config of ending before from_tag to_tag sdp options)
          (answer_once before from_tag to_tag sdp options xs ys
          (hear_a (answer_late config (answer_ask from_tag to_tag sdp options xs) of before (answer_refusal ending before from_tag to_tag sdp options xs) (late xs)))
          (hear_b (answer_late config (answer_ask from_tag to_tag sdp options ys) of before (answer_refusal ending before from_tag to_tag sdp options ys) (late ys))))
    ]

answers_same : (config : Config) (h : List BoardEntry) (from_tag to_tag sdp : List ℕ) (options : Options) (found : Option Call) (xs ys : Chosen)
    → (is_request_read (answer_to config h (answer_ask from_tag to_tag sdp options xs) found).act ≡ true → ReadsAnswerOf h (answer_ask from_tag to_tag sdp options xs) found)
    → (is_request_read (answer_to config h (answer_ask from_tag to_tag sdp options ys) found).act ≡ true → ReadsAnswerOf h (answer_ask from_tag to_tag sdp options ys) found)
    → answer_to config h (answer_ask from_tag to_tag sdp options xs) found ≡ answer_to config h (answer_ask from_tag to_tag sdp options ys) found
answers_same config h from_tag to_tag sdp options None xs ys hear_a hear_b = refl
answers_same config h from_tag to_tag sdp options (Some of) xs ys hear_a hear_b =
    answer_same config of (is_ending h of.number) (rounds h of.number) from_tag to_tag sdp options xs ys hear_a hear_b

-- Deletes and queries.

missing_nothing : (d : Demand) (g : Given) (fatal : Bool) (code : ErrorCode) → GivesFor d g (nothing_to_end fatal code).act → Nothing g
missing_nothing d g true code gives = gives
missing_nothing d g false code gives = gives

deleting_nothing : (d : Demand) (g : Given) (of : Call) (seconds : ℕ) (at_once : Bool) → GivesFor d g (cond at_once (act.Deleted of) (act.Delayed of seconds)) → Nothing g
deleting_nothing d g of seconds true gives = gives
deleting_nothing d g of seconds false gives = gives

named_nothing : (d : Demand) (g : Given) (fatal : Bool) (seconds : ℕ) (of : Call) (named : Bool)
    → GivesFor d g (cond named (record { reply = Done; act = deleting of seconds }) (nothing_to_end fatal E10)).act → Nothing g
named_nothing d g fatal seconds of true gives = deleting_nothing d g of seconds (seconds == 0) gives
named_nothing d g fatal seconds of false gives = missing_nothing d g fatal E10 gives

delete_nothing : (h : List BoardEntry) (tag : Option (List ℕ)) (fatal : Bool) (seconds : ℕ) (d : Demand) (g : Given) (found : Option Call)
    → GivesFor d g (delete_of h tag fatal seconds found).act → Nothing g
delete_nothing h tag fatal seconds d g None gives = missing_nothing d g fatal E9 gives
delete_nothing h tag fatal seconds d g (Some of) gives = named_nothing d g fatal seconds of (names_side (rounds h of.number) tag) gives

-- both asked after one call, and were told the same
abbrev pub ToldAlike : Given → Given → Act → Act → Type 0
ToldAlike a b x y = (of : Call) (m n : List LegReport) → x ≡ act.Queried of → y ≡ act.Queried of → a.report ≡ Some m → b.report ≡ Some n → m ≡ n

query_same : (h : List BoardEntry) (d e : Demand) (a b : Given) (found : Option Call) → Fed a b → ToldAlike a b (query_of h a found).act (query_of h b found).act
    → GivesFor d a (query_of h a found).act → GivesFor e b (query_of h b found).act → Same a b (query_of h a found) (query_of h b found)
query_same h d e a b None fed log m n = nothing a b _ _ fed m n refl
query_same h d e a b (Some of) fed log m n =
    let same = nothing_same a b fed.left fed.right m.0 n.0 (report_same a.report b.report m.1 n.1 (λ x y p q. log of x y refl refl p q)) in
    record { given = same; answer = ap (λ (g : Given). query_of h g (Some of)) same }

-- Any command.

pub asked_same : (config : Config) (h : List BoardEntry) (c d : Control) (r : Result Said ErrorCode) → Fed c.given d.given → ToldAlike c.given d.given (answering_asked config h c r).act (answering_asked config h d r).act
    → (is_request_read (answering_asked config h c r).act ≡ true → ReadsRequest h c r) → (is_request_read (answering_asked config h d r).act ≡ true → ReadsRequest h d r)
    → GivesFor (demanded_by h c r) c.given (answering_asked config h c r).act → GivesFor (demanded_by h d r) d.given (answering_asked config h d r).act
    → Same c.given d.given (answering_asked config h c r) (answering_asked config h d r)
asked_same config h c d (Err code) fed log hear_c hear_d m n = nothing c.given d.given _ _ fed m n refl
asked_same config h c d (Ok said.Ping) fed log hear_c hear_d m n = nothing c.given d.given _ _ fed m n refl
asked_same config h c d (Ok (said.Offer id from_tag sdp options)) fed log hear_c hear_d m n =
    offers_same config h id from_tag sdp options (find_call h id) c.given d.given c.chosen d.chosen fed hear_c hear_d m n
asked_same config h c d (Ok (said.Answer id from_tag to_tag sdp options)) fed log hear_c hear_d m n =
    nothing c.given d.given _ _ fed
    (answer_nothing config h (answer_ask from_tag to_tag sdp options c.chosen) (demanded_by h c (Ok (said.Answer id from_tag to_tag sdp options))) c.given (find_call h id) m)
    (answer_nothing config h (answer_ask from_tag to_tag sdp options d.chosen) (demanded_by h d (Ok (said.Answer id from_tag to_tag sdp options))) d.given (find_call h id) n)
    (answers_same config h from_tag to_tag sdp options (find_call h id) c.chosen d.chosen hear_c hear_d)
asked_same config h c d (Ok (said.Delete id from_tag fatal seconds)) fed log hear_c hear_d m n =
    nothing c.given d.given _ _ fed
    (delete_nothing h from_tag fatal seconds (demanded_by h c (Ok (said.Delete id from_tag fatal seconds))) c.given (find_call h id) m)
    (delete_nothing h from_tag fatal seconds (demanded_by h d (Ok (said.Delete id from_tag fatal seconds))) d.given (find_call h id) n) refl
asked_same config h c d (Ok (said.Query id)) fed log hear_c hear_d m n =
    query_same h (demanded_by h c (Ok (said.Query id))) (demanded_by h d (Ok (said.Query id))) c.given d.given (find_call h id) fed log m n
asked_same config h c d (Ok (said.Listing limit)) fed log hear_c hear_d m n = nothing c.given d.given _ _ fed m n refl

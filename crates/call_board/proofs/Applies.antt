-- What a board becomes by a plan that is taken in.
use Rattle.std.proofs.Common.{◌≡◌, ◌∙◌, refl, ap, sym, subst, ℕ, zero, suc, ◌+◌, ◌-◌, ◌<◌, ◌≤◌, Bool, true, false, cond, List, [], ◌∷◌, ◌++◌, map, length, filter, Some, get_or, set, arith, if◌then◌else◌}
use Rattle.std.specs.Prelude.{◌==◌, position}
use Rattle.std.proofs.lemmas.List.{length-set, get_or-set_same, get_or-set_other, map_push}
use Rattle.std.proofs.lemmas.List.Quantifiers.{position-Some}
use Rattle.relay_outside.specs.declared.settings.Config.{Config}
use Rattle.histories.specs.Words.{first, has}
use Rattle.histories.proofs.Lists.{equal, equal_if}
use Rattle.port_pool.specs.declared.holder.Holder.{Holder}
use Rattle.port_pool.specs.Signals.{NewKey}
use Rattle.offer_answer.specs.Rounds.{Round, Offered, Answered, OfferAsk, AnswerAsk}
use Rattle.offer_answer.specs.Sides.{is_begun}
use Rattle.offer_answer.specs.PortsAndKeys.{AreDemandedLegs}
use Rattle.offer_answer.specs.Plans.{OfferFilled, AnswerNext}
use Rattle.offer_answer.specs.Dialogs.{DialogFor, Awaits}
use Rattle.offer_answer.specs.declared.dialog.Dialog.{Dialog}
use Rattle.offer_answer.specs.declared.plan.Plan.{Plan}
use Rattle.call_board.specs.declared.live_call.LiveCall.{LiveCall}
use Rattle.call_board.specs.Views.{CallView, is_call_numbered, change_call}
use Rattle.call_board.specs.Boards.{CallFor, CallsFor, CellsFor}
use Rattle.call_board.specs.NextBoards.{IsPlanOf, BeginsBy}
use Rattle.call_board.specs.declared.board_plan.NewCall.{NewCall}

abbrev pub AwaitsRound : Dialog → Round → Type 0
AwaitsRound dialog (Offered ask legs keys) = Awaits dialog ask.from_tag
AwaitsRound dialog (Answered ask) = Unit {0}

pub begun_awaits : (config : Config) (dialog : Dialog) (rounds : List Round) (round : Round) → DialogFor config dialog rounds → is_begun rounds ≡ true → AwaitsRound dialog round
begun_awaits config dialog rounds (Offered ask legs keys) d e = λ f. absurd (let g : true ≡ false = sym e ∙ sym d.begun_is ∙ f in cc)
begun_awaits config dialog rounds (Answered ask) d e = _

-- a dialog that takes the plan in stands for the rounds with this one
pub applied : (config : Config) (old new : Dialog) (plan : Plan) (rounds : List Round) (round : Round) →
    ((config : Config) (rounds : List Round) (ask : OfferAsk) (ports : List ℕ) (keys : List NewKey) (legs : List Holder) → DialogFor config old rounds → Awaits old ask.from_tag →
    OfferFilled config rounds ask ports keys plan.next → AreDemandedLegs config rounds ask ports legs → DialogFor config new (Offered ask legs keys ∷ rounds)) →
    ((config : Config) (rounds : List Round) (ask : AnswerAsk) → DialogFor config old rounds → AnswerNext config rounds ask plan.next → DialogFor config new (Answered ask ∷ rounds)) →
    DialogFor config old rounds → AwaitsRound old round → IsPlanOf config rounds round plan → DialogFor config new (round ∷ rounds)
applied config old new plan rounds (Offered ask legs keys) o a d w p = o config rounds ask p.0 keys legs d w p.1 p.2
applied config old new plan rounds (Answered ask) o a d w p = a config rounds ask d p

-- Live calls of which one changes: its number and its cell stay.
module _ (config : Config) (number : ℕ) (change : CallView → CallView) where
  changed_at : (calls : List LiveCall) (cs : List CallView) (i : ℕ) (d new : LiveCall) → CallsFor config calls cs → i < length calls →
      ((get_or calls i d).number == number) ≡ true → ((k : ℕ) → k < i → ((get_or calls k d).number == number) ≡ false) →
      ((c : CallView) → first (filter (is_call_numbered number) cs) ≡ Some c → CallFor config new (change c)) → CallsFor config (set calls i new) (change_call number change cs)
  changed_at [] cs i d new s below is_so is_not step = absurd (omega (arith, below))
  changed_at (call ∷ calls) [] i d new s below is_so is_not step = elim s [ ]
  changed_at (call ∷ calls) (c ∷ cs) zero d new s below is_so is_not step =
      let is : is_call_numbered number c ≡ true = ap (λ n. n == number) (sym s.0.number_is) ∙ is_so in
      subst (λ (b : Bool). CallsFor config (new ∷ calls) (cond b (change c ∷ cs) (c ∷ change_call number change cs))) (sym is)
      (step c (ap (λ (b : Bool). first (cond b (c ∷ filter (is_call_numbered number) cs) (filter (is_call_numbered number) cs))) is), s.1)
  changed_at (call ∷ calls) (c ∷ cs) (suc i) d new s below is_so is_not step =
      let is : is_call_numbered number c ≡ false = ap (λ n. n == number) (sym s.0.number_is) ∙ is_not zero (omega arith) in
      subst (λ (b : Bool). CallsFor config (call ∷ set calls i new) (cond b (change c ∷ cs) (c ∷ change_call number change cs))) (sym is) (
        s.0,
        changed_at calls cs i d new s.1 (omega (arith, below)) is_so (λ k lt. is_not (suc k) (omega (arith, lt)))
            (λ e f. step e (ap (λ (b : Bool). first (cond b (c ∷ filter (is_call_numbered number) cs) (filter (is_call_numbered number) cs))) is ∙ f)),
      )

  -- the other calls are kept as before
  pub changed : (calls : List LiveCall) (cs : List CallView) (i : ℕ) (d new : LiveCall) → CallsFor config calls cs →
      position (λ (call : LiveCall). call.number == number) calls ≡ Some i →
      ((c : CallView) → first (filter (is_call_numbered number) cs) ≡ Some c → CallFor config new (change c)) → CallsFor config (set calls i new) (change_call number change cs)
  changed calls cs i d new s e step =
      let f = position-Some (λ (call : LiveCall). call.number == number) calls i d e in changed_at calls cs i d new s f.0 f.1 f.2 step

abbrev cells : List CallView → List ℕ
cells cs = map (λ (c : CallView). c.of.cell) cs

same_cells : (number : ℕ) (change : CallView → CallView) → ((c : CallView) → (change c).of.cell ≡ c.of.cell) → (cs : List CallView) → cells (change_call number change cs) ≡ cells cs
same_cells number change same [] = refl
same_cells number change same (c ∷ cs) = go (is_call_numbered number c) (same_cells number change same cs)
  where
    go : (b : Bool) → cells (change_call number change cs) ≡ cells cs → cells (cond b (change c ∷ cs) (c ∷ change_call number change cs)) ≡ c.of.cell ∷ cells cs
    go true more = ap (λ (n : ℕ). n ∷ cells cs) (same c)
    go false more = ap (λ (ns : List ℕ). c.of.cell ∷ ns) more

pub cells_stay : (config : Config) (taken : List Bool) (number : ℕ) (change : CallView → CallView) → ((c : CallView) → (change c).of.cell ≡ c.of.cell) → (cs : List CallView) →
    CellsFor config taken cs → CellsFor config taken (change_call number change cs)
cells_stay config taken number change same cs s = record {
  count_is = s.count_is;
  taken_are = λ k d below. s.taken_are k d below ∙ ap (λ (ns : List ℕ). has ns (1 + k)) (sym (same_cells number change same cs));
}

-- one more call, after the others
pub one_more_call : (config : Config) (calls : List LiveCall) (cs : List CallView) (call : LiveCall) (c : CallView) → CallsFor config calls cs → CallFor config call c →
    CallsFor config (calls ++ call ∷ []) (cs ++ c ∷ [])
one_more_call config [] [] call c s one = (one, _)
one_more_call config [] (d ∷ cs) call c s one = elim s [ ]
one_more_call config (x ∷ calls) [] call c s one = elim s [ ]
one_more_call config (x ∷ calls) (d ∷ cs) call c s one = (s.0, one_more_call config calls cs call c s.1 one)

-- the same, where it came since it wasn't there
pub one_more_pushed : (config : Config) (calls new : List LiveCall) (cs : List CallView) (call : LiveCall) (c : CallView) (there : Bool) →
    new ≡ (if there then calls else calls ++ call ∷ []) → there ≡ false → CallsFor config calls cs → CallFor config call c → CallsFor config new (cs ++ c ∷ [])
one_more_pushed config calls new cs call c true is absent s one = absurd (let f = absent in cc)
one_more_pushed config calls new cs call c false is absent s one = subst (λ (those : List LiveCall). CallsFor config those (cs ++ c ∷ [])) (sym is) (one_more_call config calls cs call c s one)

has-push : (xs : List ℕ) (p q : ℕ) → has (xs ++ p ∷ []) q ≡ cond (p == q) true (has xs q)
has-push [] p q = refl
has-push (x ∷ xs) p q = ap (λ (b : Bool). cond (x == q) true b) (has-push xs p q) ∙ swap (x == q) (p == q) (has xs q)
  where
    swap : (a b c : Bool) → cond a true (cond b true c) ≡ cond b true (cond a true c)
    swap true true c = refl
    swap true false c = refl
    swap false true c = refl
    swap false false c = refl

pub cells_more : (config : Config) (taken : List Bool) (cs : List CallView) (c : CallView) → CellsFor config taken cs → 1 ≤ c.of.cell → c.of.cell ≤ config.max_sessions →
    CellsFor config (set taken (c.of.cell - 1) true) (cs ++ c ∷ [])
cells_more config taken cs c s low high = record {
  count_is = length-set taken (c.of.cell - 1) true ∙ s.count_is;
  taken_are = λ k d below. at k d (omega (arith, below, length-set taken (c.of.cell - 1) true)) (c.of.cell == 1 + k) refl ∙ sym (log k);
}
  where
    log : (k : ℕ) → has (cells (cs ++ c ∷ [])) (1 + k) ≡ cond (c.of.cell == 1 + k) true (has (cells cs) (1 + k))
    log k = ap (λ (ns : List ℕ). has ns (1 + k)) (map_push (λ (d : CallView). d.of.cell) cs c) ∙ has-push (cells cs) c.of.cell (1 + k)

    at : (k : ℕ) (d : Bool) → k < length taken → (b : Bool) → (c.of.cell == 1 + k) ≡ b → get_or (set taken (c.of.cell - 1) true) k d ≡ cond (c.of.cell == 1 + k) true (has (cells cs) (1 + k))
    at k d below true is =
        let same : c.of.cell - 1 ≡ k = (let n = equal_if c.of.cell (1 + k) is in omega (arith, n)) in
        subst (λ i. get_or (set taken i true) k d ≡ true) (sym same) (get_or-set_same taken k true d below)
        ∙ sym (ap (λ (b : Bool). cond b true (has (cells cs) (1 + k))) is)
    at k d below false is =
        get_or-set_other taken (c.of.cell - 1) k true d (λ same. let n : c.of.cell ≡ 1 + k = omega (arith, same, low) in let f : true ≡ false = sym (equal c.of.cell (1 + k) n) ∙ is in cc)
        ∙ s.taken_are k d below
        ∙ sym (ap (λ (b : Bool). cond b true (has (cells cs) (1 + k))) is)

-- what is kept of a call that begins by this round
pub begins_by : (config : Config) (id : List ℕ) (round : Round) (new : NewCall) → BeginsBy config id round new → (new.id.list ≡ id) × DialogFor config new.dialog.value [] × AwaitsRound new.dialog.value round
begins_by config id (Offered ask legs keys) new b = (b.id_is, b.dialog_for, b.awaits)
begins_by config id (Answered ask) new b = elim b [ ]

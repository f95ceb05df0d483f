use Rattle.std.proofs.Common.{◌∙◌, sym, ap, subst, ◌++◌, [], ◌∷◌, List, append_assoc}
use Rattle.std.specs.Map.{values_of}
use Rattle.std.proofs.lemmas.List.{append-nil}
use Rattle.call_board.specs.declared.live_call.LiveCall.{LiveCall}
use Rattle.call_board.specs.declared.saved_board.CallSaved.{CallSaved}
use Rattle.call_board.specs.SavedBoards.{CallsSave}
use Rattle.call_board.proofs.saved_board.saved_calls.Goals as goal

pub loop-entry-preserved : goal.loop-entry-preserved
loop-entry-preserved c =
    let all = values_of c.args.calls.entries in
    let saved = c.loop-entry.saved.items in
    let one = c.in_ok-one.one in (
      tt,
      tt,
      λ more given.
          let both : CallsSave (values_of c.loop-entry.entry-iterator) (one ∷ more) = subst (λ (calls : List LiveCall). CallsSave calls (one ∷ more)) (sym (ap values_of c.in-Some.ensures.steps)) (c.in_ok-one.ensures, given) in
          let joined = ap (λ (items : List CallSaved). items ++ more) c.in_ok-push.ensures.items ∙ append_assoc saved (one ∷ []) more in
          subst (λ (items : List CallSaved). CallsSave all items) (sym joined) (c.loop-entry.invariant.2 (one ∷ more) both),
    )

pub returns : goal.returns
returns c =
    let all = values_of c.args.calls.entries in
    let none : CallsSave (values_of c.loop-entry.entry-iterator) [] = subst (λ (calls : List LiveCall). CallsSave calls []) (sym (ap values_of c.in-None.ensures.steps.0)) tt in
    subst (λ (items : List CallSaved). CallsSave all items) (append-nil c.loop-entry.saved.items) (c.loop-entry.invariant.2 [] none)

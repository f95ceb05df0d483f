use Rattle.std.proofs.Common.{ℕ, Some, sym, ap, ◌∙◌, option_map}
use Rattle.ng_bencode.specs.Room.{Room}
use Rattle.offer_answer.proofs.Dialogs.{answering}
use Rattle.offer_answer.proofs.dialog.Dialog.answerer.Goals as goal

pub returns-in-Some : goal.returns-in-Some
returns-in-Some c = λ config rounds s.
    answering config c.args.self.now rounds s ∙ ap (option_map (λ (t : Room ℕ). t.list)) c.in-Some.is ∙ ap Some (sym c.as_slice.ensures)

pub returns-in-None : goal.returns-in-None
returns-in-None c = λ config rounds s.
    answering config c.args.self.now rounds s ∙ ap (option_map (λ (t : Room ℕ). t.list)) c.in-None.is

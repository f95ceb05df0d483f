use Rattle.std.proofs.Common.{refl}
use Rattle.load_maker.proofs.Links.{noted_other}
use Rattle.load_maker.proofs.link.LoadLinkControlLink.bind.Goals as goal

pub invariant_of-self : goal.invariant_of-self
invariant_of-self c =
    let before = c.self.invariant in
    record {
      few = before.few;
      left = before.left;
      log = noted_other c.self.inside.given c.self.inside.well c.self.inside.log c.note.new.self _ refl refl c.note.ensures before.log;
    }

use Rattle.std.proofs.Common.{ap, sym, ◌||◌, ◌&&◌}
use Rattle.sdp_edit.proofs.PlaceLemmas.{after_media, after_other}
use Rattle.sdp_edit.proofs.place.Place.after.Goals as goal

pub returns-then-is_media : goal.returns-then-is_media
returns-then-is_media c = λ before is.
    after_media c.args.self c.args.line.now before _ is (sym c.if-is_media.ensures) (ap (λ b. b || c.args.self.has_origin) c.is_origin.ensures)

pub returns-else-is_media : goal.returns-else-is_media
returns-else-is_media c = λ before is.
    after_other c.args.self c.args.line.now before _ _ _ is (sym c.if-is_media.ensures) (ap (λ b. b || c.args.self.has_origin) c.is_origin.ensures)
    (ap (λ b. b || c.args.self.has_connection) c.is_connection.ensures) (ap (λ b. b && c.args.self.is_head) c.is_title.ensures)

-- What a hand with all parts knows of its list.
use Rattle.std.proofs.Common.{◌≡◌, ◌∙◌, subst, refl, length, filter}
use Rattle.std.proofs.lemmas.Option.{slice_get_within}
use Rattle.turn_table.specs.declared.view.View.{View}
use Rattle.turn_table.specs.Steps.{AreKnown}
use Rattle.turn_table.proofs.Lists.{below_in}
use Rattle.relay_core.specs.Entries.{Entry, is_at}
use Rattle.relay_core.specs.Records.{Made, list_of}
use Rattle.relay_core.specs.Turns.{Numbered}
use Rattle.relay_core.proofs.Closed.{in_range, count_is}
use Rattle.relay_core.proofs.Own.{in_rows}

-- each place and number stands once in it
pub known_numbered : {S T : Type 0} (v : View S Made T) → AreKnown v → Numbered (list_of v.entries)
known_numbered v known e i =
    let r = in_rows v.entries i in
    let a = in_range v.starts r.row.place (known.range r.row r.is_in) in
    let h = known.histories r.row.place a.0 a.1 in
    let at = h.1.own r.row r.is_in refl in
    subst (λ (x : Entry). length (filter (is_at x.place x.number) (list_of v.entries)) ≡ 1) r.is
    (count_is r.row.place r.row.number v.entries ∙ h.1.once r.row.number ∙ below_in r.row.number (length h.0) (slice_get_within h.0 r.row.number r.row at))

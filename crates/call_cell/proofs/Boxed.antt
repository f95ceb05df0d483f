-- Contexts that stand in a place on the heap.
use Rattle.std.proofs.Common.{◌≡◌, ap, subst, sym, ◌∙◌, ℕ, List, Option, Some, None, Result, Box, Global}
use Rattle.std.specs.Box.{with_value}
use Rattle.rtp_packet.specs.declared.head.Half.{Half}
use Rattle.sdes_lines.specs.declared.crypto_line.Suite.{Suite}
use Rattle.srtp_sources.specs.Notes.{Note}
use Rattle.call_cell.specs.declared.outcome.Refused.{Refused}
use Rattle.call_cell.specs.declared.contexts.Inbound.{Inbound}
use Rattle.call_cell.specs.Contexts.{InboundFor, InboundOpensTo}
use Rattle.call_cell.specs.Protection.{Judged, Stopped, Passed, opened_by, opened_under}
use Rattle.call_cell.specs.Parts.{InboundIn, OpensIn, boxed_in}

-- the place with what stands in it
pub same_place : {C : Type 0} (place : Box (Option C) Global) (value : Option C) (o : Option (Box (Option C) Global)) → o ≡ Some place → place.value ≡ value
    → Some (with_value place value) ≡ o
same_place {C} place value o is there = ap (λ (x : Option C). Some (with_value place x)) (sym there) ∙ sym is

opens_case : (key : List ℕ × Suite) (notes : List Note) (place : Box (Option Inbound) Global) (old new : Inbound) (buf : List ℕ)
    (result : Result ℕ Refused) (o : Option (Box (Option Inbound) Global)) → Some (with_value place (Some old)) ≡ o → (j : Judged)
    → InboundOpensTo j key notes old new buf result → OpensIn j (Some key) notes o (Some (with_value place (Some new))) buf result
opens_case key notes place old new buf result o same (Stopped cause) does =
    record { answer = does.answer; contexts = ap (λ (x : Inbound). Some (with_value place (Some x))) does.contexts ∙ same }
opens_case key notes place old new buf result o same (Passed noted plain) does =
    record { answer = does.answer; buffer = does.buffer; contexts = does.contexts }

pub opens_in : (key : Option (List ℕ × Suite)) (notes : List Note) (kind : Half) (bytes : List ℕ) (place : Box (Option Inbound) Global) (old new : Inbound)
    (buf : List ℕ) (result : Result ℕ Refused) (o : Option (Box (Option Inbound) Global)) → o ≡ Some place → place.value ≡ Some old
    → ((k : List ℕ × Suite) (l : List Note) → InboundFor k old l → InboundOpensTo (opened_under k l kind bytes) k l old new buf result)
    → InboundIn key (boxed_in o) notes → OpensIn (opened_by key notes kind bytes) key notes o (Some (with_value place (Some new))) buf result
opens_in None notes kind bytes place old new buf result o is there does for =
    absurd (subst (λ (x : Option Inbound). InboundIn None x notes) (ap boxed_in is ∙ there) for)
opens_in (Some key) notes kind bytes place old new buf result o is there does for =
    opens_case key notes place old new buf result o (same_place place (Some old) o is there) (opened_under key notes kind bytes)
    (does key notes (subst (λ (x : Option Inbound). InboundIn (Some key) x notes) (ap boxed_in is ∙ there) for))

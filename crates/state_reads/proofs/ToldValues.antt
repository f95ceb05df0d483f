-- From the reads of a text to what is told of them.
use Rattle.std.proofs.Common.{◌≡◌, ℕ, ◌+◌, List, Option, Some, None, IfSome, IfNone, Result, Ok, Err, IfOk, length, map, sym, subst}
use Rattle.relay_outside.specs.declared.lines.LineCall.{LineCall}
use Rattle.relay_outside.specs.DeviceLogs.{Gained}
use Rattle.relay_outside.proofs.Telling.{gained_less}
use Rattle.state_lines.specs.declared.faults.LineFault.{LineFault}
use Rattle.state_lines.specs.declared.faults.LineFault.TheVariants.{NotState, Source, OutOfMemory}
use Rattle.state_lines.specs.LineReads.{text_read, RefusesForm}
use Rattle.state_lines.specs.StateLines.{IsValue, IsValueText, value_lines}
use Rattle.state_reads.specs.ValueReads.{ReadsText, ReadsValue, told_of, of_line, of_value}

refused : {T : Type 0} (takes : List ℕ → T → Type 0) (refuses : List ℕ → Type 0) (earlier now : ℕ) (fault : LineFault) (calls : List LineCall)
    → RefusesForm IsValue earlier fault calls → ReadsValue takes refuses earlier now (Err fault) calls
refused takes refuses earlier now (NotState n) calls is = of_line is
refused takes refuses earlier now Source calls is = is
refused takes refuses earlier now OutOfMemory calls is = tt

-- no text was read
pub told_no_text : {T : Type 0} (old new : Option (List LineCall)) (takes : List ℕ → T → Type 0) (refuses : List ℕ → Type 0) (earlier now : ℕ) (fault : LineFault)
    → Gained old new (RefusesForm IsValue earlier fault) → Gained old new (ReadsValue takes refuses earlier now (Err fault))
told_no_text old new takes refuses earlier now fault =
    gained_less old new (RefusesForm IsValue earlier fault) (ReadsValue takes refuses earlier now (Err fault)) (refused takes refuses earlier now fault)

tells : {T E : Type 0} (takes : List ℕ → T → Type 0) (refuses : List ℕ → Type 0) (earlier now : ℕ) (text : List ℕ) (read : Result (Option T) E) (calls : List LineCall)
    → ReadsText earlier now text calls → IfOk read (λ given. IfSome given (takes text)) → IfOk read (λ given. IfNone given (refuses text))
    → ReadsValue takes refuses earlier now (told_of now read) calls
tells takes refuses earlier now text (Ok (Some saved)) calls is some none = record { text = text; is_read = is; taken = some }
tells takes refuses earlier now text (Ok None) calls is some none = of_value (record { text = text; is_read = is; refused = none })
tells takes refuses earlier now text (Err why) calls is some none = tt

-- a text was read
pub told_text : {T E : Type 0} (old new : Option (List LineCall)) (takes : List ℕ → T → Type 0) (refuses : List ℕ → Type 0) (earlier now : ℕ) (text : List ℕ)
    (read : Result (Option T) E) (result : Result T LineFault) → result ≡ told_of now read
    → IsValueText text → now ≡ earlier + length (value_lines text) → IfOk read (λ given. IfSome given (takes text)) → IfOk read (λ given. IfNone given (refuses text))
    → Gained old new (λ calls. calls ≡ map text_read (value_lines text)) → Gained old new (ReadsValue takes refuses earlier now result)
told_text old new takes refuses earlier now text read result is fits number some none =
    gained_less old new (λ calls. calls ≡ map text_read (value_lines text)) (ReadsValue takes refuses earlier now result)
    (λ calls reads. subst (λ (r : Result _ LineFault). ReadsValue takes refuses earlier now r calls) (sym is)
    (tells takes refuses earlier now text read calls (record { fits = fits; reads = reads; number = number }) some none))

-- the same, where the text was handed on as a slice, and the number was asked for
pub told_slice : {T E : Type 0} (old new : Option (List LineCall)) (takes : List ℕ → T → Type 0) (refuses : List ℕ → Type 0) (earlier now asked : ℕ) (text slice : List ℕ)
    (read : Result (Option T) E) (result : Result T LineFault) → result ≡ told_of asked read → asked ≡ now → slice ≡ text
    → IsValueText text → now ≡ earlier + length (value_lines text) → IfOk read (λ given. IfSome given (takes slice)) → IfOk read (λ given. IfNone given (refuses slice))
    → Gained old new (λ calls. calls ≡ map text_read (value_lines text)) → Gained old new (ReadsValue takes refuses earlier now result)
told_slice old new takes refuses earlier now asked text slice read result is number_is same fits number some none =
    told_text old new takes refuses earlier now text read result (subst (λ (n : ℕ). result ≡ told_of n read) number_is is) fits number
    (subst (λ (l : List ℕ). IfOk read (λ given. IfSome given (takes l))) same some) (subst (λ (l : List ℕ). IfOk read (λ given. IfNone given (refuses l))) same none)

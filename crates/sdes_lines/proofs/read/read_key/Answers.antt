use Rattle.std.proofs.Common.{◌≡◌, ◌<◌, length, take, drop, ℕ, List, sym, ◌∙◌, arith}
use Rattle.std.proofs.lemmas.List.{take-append-drop}
use Rattle.sdes_lines.proofs.Keys.{key_in_front}
use Rattle.sdes_lines.proofs.read.read_key.Goals as goal

pub returns-in_err-characters-clause-complete : goal.returns-in_err-characters-clause-complete
returns-in_err-characters-clause-complete c = λ key rest is_key is.
    let front = key_in_front c.args.text.now key rest is_key is in
    let short : length c.args.text.now < 40 = c.in_err-characters.ensures.cases in
    absurd (omega (arith, front.fits))

pub returns-in_err-key-clause-complete : goal.returns-in_err-key-clause-complete
returns-in_err-key-clause-complete c = λ key rest is_key is.
    let front = key_in_front c.args.text.now key rest is_key is in
    let none = c.in_err-key.ensures.complete key is_key (c.in_ok-characters.ensures.cases.0 ∙ front.characters) in
    cc

pub returns-clause-sound : goal.returns-clause-sound
returns-clause-sound c =
    let text : List ℕ = c.args.text.now in
    let front : take 40 text ≡ c.in_ok-characters.characters.now = sym c.in_ok-characters.ensures.cases.0 in
    let back : drop 40 text ≡ c.in_ok-characters.rest.now = sym c.in_ok-characters.ensures.cases.1 in
    let whole = sym (take-append-drop 40 text) in
    (rw (front, back, c.in_ok-key.ensures.sound.0) at whole, c.in_ok-key.ensures.sound.1)

pub returns-clause-complete : goal.returns-clause-complete
returns-clause-complete c = λ key rest is_key is.
    let front = key_in_front c.args.text.now key rest is_key is in
    let some = c.in_ok-key.ensures.complete key is_key (c.in_ok-characters.ensures.cases.0 ∙ front.characters) in
    (cc some, c.in_ok-characters.ensures.cases.1 ∙ front.rest_is)

-- What a datagram with a frame gets for which no reply is kept, where no port and no key failed.
use Rattle.std.specs.Prelude.{◌≡◌, true, false, List}
use Rattle.histories.specs.Words.{In}
use Rattle.relay_outside.specs.declared.settings.Config.{Config}
use Rattle.ng_reply.specs.declared.code.ErrorCode.{ErrorCode}
use Rattle.ng_reply.specs.declared.code.ErrorCode.TheVariants.{E1, E2, E3, E4, E5, E6, E7, E8, E9, E10, E11, E12, E13, E14, E15, E16, E17, E18, E19, E20}
use Rattle.call_board.specs.Acts as act
use Rattle.call_board.specs.Acts.{Given, Control, BoardEntry}
use Rattle.call_board.specs.Replies.{Reply, Pong, Done, Warned, Described, Reported, Listed, Fault, reply_datagram}
use Rattle.call_board.specs.Answers.{failing, answering, spelled}
use Rattle.call_board.specs.Fits.{answered_in}

-- no opening of a port failed, and no draw of a key
pub record FailsNowhere (given : Given) : Type 0 where
  pub opened : In false given.opens → ⊥
  pub drew : given.draw_failed ≡ true → ⊥

-- the errors that come before a device is called: those of the datagram and its command, of its call, of the pairs that are free and of the
-- session limit
abbrev pub ComesFirst : ErrorCode → Type 0
ComesFirst E1 = Unit {0}
ComesFirst E2 = Unit {0}
ComesFirst E3 = Unit {0}
ComesFirst (E4 name) = Unit {0}
ComesFirst (E5 name) = Unit {0}
ComesFirst (E6 line) = Unit {0}
ComesFirst (E7 part) = Unit {0}
ComesFirst E8 = Unit {0}
ComesFirst E9 = Unit {0}
ComesFirst E10 = Unit {0}
ComesFirst E11 = Unit {0}
ComesFirst E12 = Unit {0}
ComesFirst E13 = Unit {0}
ComesFirst E14 = Unit {0}
ComesFirst E15 = ⊥
ComesFirst E16 = ⊥
ComesFirst E17 = ⊥
ComesFirst E18 = Unit {0}
ComesFirst E19 = Unit {0}
ComesFirst E20 = Unit {0}

-- the reply says `ok` or `pong`
abbrev pub IsSuccess : Reply → Type 0
IsSuccess Pong = Unit {0}
IsSuccess Done = Unit {0}
IsSuccess (Warned code) = Unit {0}
IsSuccess (Described sdp) = Unit {0}
IsSuccess (Reported log) = Unit {0}
IsSuccess (Listed call_ids) = Unit {0}
IsSuccess (Fault code) = ⊥

-- the datagram, where the devices returned this
abbrev pub given_this : Control → Given → Control
given_this c given = record c { given = given }

-- the error is due whatever the devices return, and then nothing is done
abbrev pub FailsAnyway : Config → List BoardEntry → Control → ErrorCode → Type 0
FailsAnyway config h c code = (given : Given) → answering config h (given_this c given) ≡ failing code

-- What the datagram got, and what was done: the success that is due; or an error that comes first, and that it would get whatever the devices
-- return; or, where memory ran out, the error that says so
pub data IsAnswered (config : Config) (h : List BoardEntry) (c : Control) : Type 0 where
  well : c.given.out_of_memory ≡ false → IsSuccess (answering config h c).reply
      → answered_in c ≡ spelled config c.cookie c.body (answering config h c) → IsAnswered config h c
  failed : (code : ErrorCode) → c.given.out_of_memory ≡ false → ComesFirst code → FailsAnyway config h c code
      → answered_in c ≡ spelled config c.cookie c.body (failing code) → IsAnswered config h c
  no_memory : c.given.out_of_memory ≡ true → c.reply ≡ reply_datagram config c.cookie c.body (Fault E17) → c.act ≡ act.OutOfMemory → IsAnswered config h c

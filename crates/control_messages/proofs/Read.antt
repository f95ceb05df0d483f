-- What is read of a body, by its dictionary.
use Rattle.std.proofs.Common.{◌≡◌, ◌≤◌, ℕ, Bool, false, List, length, Option, Some, None, Result, Ok, Err, sym, subst}
use Rattle.std.specs.Prelude.{IfOk, MatchOption}
use Rattle.ng_bencode.specs.Room.{Room}
use Rattle.ng_bencode.specs.Row.{list_in}
use Rattle.ng_bencode.specs.Tree.{Tree, Dict, Entries, tree_of, pairs_of}
use Rattle.ng_bencode.specs.declared.row.Row.{Row}
use Rattle.ng_bencode.specs.declared.value.Value.{Value}
use Rattle.ng_command.specs.Meanings.{said}
use Rattle.ng_command.specs.declared.command.Command.{Command}
use Rattle.ng_reply.specs.declared.code.ErrorCode.{ErrorCode}
use Rattle.relay_outside.specs.declared.answers.OutOfMemory.{OutOfMemory}
use Rattle.call_board.specs.Dialects.{is_json, SaysIn}
use Rattle.call_board.specs.Requests.{ReadsIn, ReadsBody, command_in}
use Rattle.control_messages.specs.Bodies.{pairs_if, dictionary_in, said_by, description_in}
use Rattle.control_messages.specs.declared.body.Body.{Body}
use Rattle.control_messages.proofs.Sizes.{description_small}

-- the body reads so
pub reads_so : (body : List ℕ) (pairs : Entries) (r : Result Body OutOfMemory) → ReadsBody body (Some pairs) → IfOk r (λ read. dictionary_in read ≡ Some pairs) →
    IfOk r (λ read. ReadsBody body (dictionary_in read))
reads_so body pairs (Ok read) reads is = subst (ReadsBody body) (sym is) reads
reads_so body pairs (Err e) reads is = tt

-- what was read in the dialect of the body
pub read_in : (body : List ℕ) (in_json : Bool) (r : Result (Option (Row (Room ℕ × Value))) OutOfMemory) → is_json body ≡ in_json → IfOk r (λ dictionary. ReadsIn in_json body (pairs_if dictionary)) →
    IfOk r (λ dictionary. ReadsBody body (pairs_if dictionary))
read_in body in_json r is reads = subst (λ (b : Bool). IfOk r (λ dictionary. ReadsIn b body (pairs_if dictionary))) (sym is) reads

small_so : (body : List ℕ) (pairs : Option Entries) (command : Result Command ErrorCode) → ReadsBody body pairs → command_in false pairs ≡ said_by command →
    IfOk command (λ command. length (description_in (said command)) ≤ length body)
small_so body pairs (Ok command) reads is = description_small body pairs (said command) reads is
small_so body pairs (Err code) reads is = tt

-- its description is no longer
pub is_small : (body : List ℕ) (r : Result Body OutOfMemory) → IfOk r (λ read. ReadsBody body (dictionary_in read)) →
    IfOk r (λ read. command_in false (dictionary_in read) ≡ said_by read.command) →
    IfOk r (λ read. IfOk read.command (λ command. length (description_in (said command)) ≤ length body))
is_small body (Ok read) reads is = small_so body (dictionary_in read) read.command reads is
is_small body (Err e) reads is = tt

-- the dictionary of the value that the body says, if it is one
pub dictionary_read : (in_json : Bool) (body : List ℕ) (value : Value) (dictionary : Option (Row (Room ℕ × Value))) → SaysIn in_json body (tree_of value) →
    ((tree : Tree) → SaysIn in_json body tree → tree ≡ tree_of value) →
    MatchOption dictionary ((pairs : Entries) → tree_of value ≡ Dict pairs → ⊥) (λ pairs. tree_of value ≡ Dict (pairs_of (list_in pairs))) →
    ReadsIn in_json body (pairs_if dictionary)
dictionary_read in_json body value None says only not = λ pairs other. not pairs (sym (only (Dict pairs) other))
dictionary_read in_json body value (Some pairs) says only is = subst (SaysIn in_json body) is says

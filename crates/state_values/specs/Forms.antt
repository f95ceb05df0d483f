-- How flags, options and variants of enumerations are written. A byte string stands for a text and for an array of bytes.
use Rattle.std.specs.Prelude.{ℕ, Bool, true, false, Option, None, Some}
use Rattle.relay_outside.specs.declared.address.Family.{Family}
use Rattle.relay_outside.specs.declared.address.Family.TheVariants as family
use Rattle.sdes_lines.specs.declared.crypto_line.Suite.{Suite}
use Rattle.sdes_lines.specs.declared.crypto_line.Suite.TheVariants.{Tag80, Tag32}
use Rattle.sdp_text.specs.declared.proto.Proto.{Proto}
use Rattle.sdp_text.specs.declared.proto.Proto.TheVariants.{Avp, Avpf, Savp, Savpf, Other}
use Rattle.port_pool.specs.declared.holder.Side.{Side}
use Rattle.port_pool.specs.declared.holder.Side.TheVariants.{A, B}
use Rattle.ng_bencode.specs.Tree.{Tree, Items, no_items, item}
use Rattle.state_values.specs.Numbers.{number_tree}

-- an option is a list of none or of one
abbrev pub option_tree : {T : Type 0} → (T → Tree) → Option T → Tree
option_tree written None = Items no_items
option_tree written (Some it) = Items (item (written it) no_items)

-- a flag is 0 or 1
abbrev pub flag_number : Bool → ℕ
flag_number false = 0
flag_number true = 1

abbrev pub flag_tree : Bool → Tree
flag_tree flag = number_tree (flag_number flag)

-- a variant is its number from 0, in the order in which its type declares them
abbrev pub side_number : Side → ℕ
side_number A = 0
side_number B = 1

abbrev pub family_number : Family → ℕ
family_number family.V4 = 0
family_number family.V6 = 1

abbrev pub suite_number : Suite → ℕ
suite_number Tag80 = 0
suite_number Tag32 = 1

abbrev pub proto_number : Proto → ℕ
proto_number Avp = 0
proto_number Avpf = 1
proto_number Savp = 2
proto_number Savpf = 3
proto_number Other = 4

abbrev pub side_tree : Side → Tree
side_tree side = number_tree (side_number side)

abbrev pub family_tree : Family → Tree
family_tree family = number_tree (family_number family)

abbrev pub suite_tree : Suite → Tree
suite_tree suite = number_tree (suite_number suite)

abbrev pub proto_tree : Proto → Tree
proto_tree proto = number_tree (proto_number proto)

-- What a media socket is to the system: its number among those that are watched, and the bytes of its address.
use Rattle.std.specs.Prelude.{ℕ, ◌*◌, ◌++◌, List, replicate}
use Rattle.std.specs.Net.SockAddr.{family_and_port}
use Rattle.relay_outside.specs.declared.address.Family.{Family}
use Rattle.relay_outside.specs.declared.address.Family.TheVariants.{V4, V6}

-- the number of a family's first socket, where the range has so many pairs: those of version 4 stand first, two of each pair
abbrev pub first_socket : Family → (range_pairs : ℕ) → ℕ
first_socket V4 range_pairs = 0
first_socket V6 range_pairs = 2 * range_pairs

-- the fields of C's `sockaddr_in6` on Linux (RFC 3493 section 3.3) for an address and a port, without a flow and a zone
abbrev pub sockaddr_in6 : List ℕ → ℕ → List ℕ
sockaddr_in6 ip port = family_and_port 10 port ++ replicate 4 0 ++ ip ++ replicate 4 0

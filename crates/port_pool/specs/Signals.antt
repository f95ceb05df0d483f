-- Legs, and what a signal says of them.
use Rattle.std.specs.Prelude.{ℕ, Bool, true, false, ◌&&◌, ◌==◌, List, Option, Some, None, slice_get}
use Rattle.std.specs.Str.{bytes_eq}
use Rattle.sdes_lines.specs.declared.crypto_line.Suite.{Suite}
use Rattle.sdes_lines.specs.declared.crypto_line.Suite.TheVariants.{Tag80, Tag32}
use Rattle.port_pool.specs.declared.holder.Side.{Side}
use Rattle.port_pool.specs.declared.holder.Side.TheVariants.{A, B}
use Rattle.port_pool.specs.declared.holder.Holder.{Holder}
use Rattle.port_pool.specs.declared.signal.LegSignal.{LegSignal}
use Rattle.port_pool.specs.declared.signal.SectionSignal.{SectionSignal}
use Rattle.port_pool.specs.declared.signal.SectionSignal.TheVariants.{Commit, Reject}

abbrev pub side_eq : Side → Side → Bool
side_eq A A = true
side_eq B B = true
side_eq A B = false
side_eq B A = false

abbrev pub other_side : Side → Side
other_side A = B
other_side B = A

abbrev pub suite_eq : Suite → Suite → Bool
suite_eq Tag80 Tag80 = true
suite_eq Tag32 Tag32 = true
suite_eq Tag80 Tag32 = false
suite_eq Tag32 Tag80 = false

-- the same leg, in the same lease of its pair
abbrev pub same_leg : Holder → Holder → Bool
same_leg a b = (a.call == b.call) && (a.pair == b.pair) && (a.generation == b.generation)

-- a key that an offer drew: its number, and the leg and the suite that it is for
pub record NewKey : Type 0 where
  pub number : ℕ
  pub section : ℕ
  pub side : Side
  pub suite : Suite
  pub bytes : List ℕ

-- the same key and suite, or none in both
abbrev pub key_eq : Option (List ℕ × Suite) → Option (List ℕ × Suite) → Bool
key_eq None None = true
key_eq None (Some k) = false
key_eq (Some k) None = false
key_eq (Some k) (Some l) = bytes_eq k.0 l.0 && suite_eq k.1 l.1

abbrev pub rejects : SectionSignal → Bool
rejects (Commit a b) = false
rejects Reject = true

-- the signal rejects this section
abbrev pub is_rejected : List SectionSignal → ℕ → Bool
is_rejected signal section = elim (slice_get signal section) [ None ↦ false | Some s ↦ rejects s ]

abbrev pub side_of : Side → SectionSignal → Option LegSignal
side_of A (Commit a b) = Some a
side_of B (Commit a b) = Some b
side_of A Reject = None
side_of B Reject = None

-- what the signal commits for a section's leg on a side
abbrev pub signal_at : List SectionSignal → ℕ → Side → Option LegSignal
signal_at signal section side = elim (slice_get signal section) [ None ↦ None | Some s ↦ side_of side s ]

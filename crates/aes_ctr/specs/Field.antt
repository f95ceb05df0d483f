-- The field GF(2^8) of FIPS 197, section 4. A byte is a number below 256, and its bit i is the
-- coefficient of x^i. The sum of two bytes is their exclusive or, `bit_xor` (section 4.1).
use Rattle.std.specs.Prelude.{ℕ, zero, suc, ◌+◌, ◌*◌, ◌/◌, ◌%◌, nat_lt, nat_eq, bit_xor, if◌then◌else◌}
use Rattle.std.specs.Int.{bit_at}

-- b times x, modulo the polynomial x^8 + x^4 + x^3 + x + 1 (section 4.2)
abbrev pub times_x : ℕ → ℕ
times_x b = if nat_lt b 128 then 2 * b else bit_xor (2 * b % 256) 0x1b

-- the sum of b * x^i over the bits i below `count` that a has
unfoldable pub sum_of_multiples : ℕ → ℕ → ℕ → ℕ
sum_of_multiples zero a b = 0
sum_of_multiples (suc count) a b = bit_xor (if nat_eq (a % 2) 1 then b else 0) (sum_of_multiples count (a / 2) (times_x b))

-- the product of two bytes (section 4.2)
unfoldable pub product : ℕ → ℕ → ℕ
product a b = sum_of_multiples 8 a b

-- b to the n
unfoldable pub power : ℕ → ℕ → ℕ
power b zero = 1
power b (suc n) = product b (power b n)

-- the multiplicative inverse, which is the power 254, and 0 for 0 (section 4.4)
unfoldable pub inverse : ℕ → ℕ
inverse b = power b 254

-- bit i of the affine transformation with the constant 0x63 (section 5.1.1)
abbrev pub affine_bit : ℕ → ℕ → ℕ
affine_bit b i = (bit_at b i + bit_at b ((i + 4) % 8) + bit_at b ((i + 5) % 8) + bit_at b ((i + 6) % 8) + bit_at b ((i + 7) % 8) + bit_at 0x63 i) % 2

-- the affine transformation (section 5.1.1)
unfoldable pub affine : ℕ → ℕ
affine b = affine_bit b 0 + affine_bit b 1 * 2 + affine_bit b 2 * 4 + affine_bit b 3 * 8 + affine_bit b 4 * 16 + affine_bit b 5 * 32 + affine_bit b 6 * 64 + affine_bit b 7 * 128

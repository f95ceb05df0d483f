use Rattle.std.proofs.Common.{◌/◌, ◌^◌, bit_and, refl}
use Rattle.aes_ctr.proofs.Numbers.{columns_in, masked}
use Rattle.aes_ctr.proofs.state.parted.Goals as goal

pub returns : goal.returns
returns c =
    let n = c.args.number in
    columns_in n (n / 2 ^ 96) (bit_and (n / 2 ^ 64) 4294967295) (bit_and (n / 2 ^ 32) 4294967295) (bit_and n 4294967295) refl (masked (n / 2 ^ 64)) (masked (n / 2 ^ 32)) (masked n)

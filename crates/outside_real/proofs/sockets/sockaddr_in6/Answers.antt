use Rattle.std.proofs.Common.{[], ◌++◌, refl, ap, ◌∙◌, w16, arith}
use Rattle.std.specs.Int.{to_le_bytes}
use Rattle.std.specs.Net.SockAddr.{in_storage}
use Rattle.std.proofs.NetLemmas.SockAddrs.{in_storage-nil}
use Rattle.outside_real.proofs.sockets.sockaddr_in6.Goals as goal

pub returns : goal.returns
returns c =
    let family = c.put.ensures [] refl in_storage-nil ∙ ap in_storage c.to_ne_bytes.ensures in
    let ported = c.put-2.ensures _ refl family ∙ ap (λ port. in_storage (to_le_bytes w16 10 ++ port)) c.to_be_bytes.ensures in
    let hosted = c.put-4.ensures _ refl (c.put-3.ensures _ refl ported) in
    c.put-5.ensures _ (omega (arith, c.put-4.array_long)) hosted

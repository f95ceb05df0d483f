-- Addresses of a line: a host and a port stand around the last colon of a word.
use Rattle.std.proofs.Common.{◌≡◌, ℕ, List, ◌∷◌, ◌++◌, ◌+◌, ◌-◌, ◌^◌, inr, length, take, drop, sym, ◌∙◌, subst, arith}
use Rattle.ng_bencode.specs.Fits.{IsFreeOf}
use Rattle.ng_bencode.proofs.Numbers.{rest_all}
use Rattle.relay_outside.specs.declared.address.Addr.{Addr}
use Rattle.relay_outside.specs.declared.address.Ip.{Ip}
use Rattle.relay_script.specs.Fields.{IsNumber, IsHostText, IsAddr}
use Rattle.relay_script.proofs.Texts.{free_not, same_back}
use Rattle.relay_script.proofs.Digits.{free_in_number}

pub no_colon : (word : List ℕ) → IsFreeOf 58 word → (addr : Addr) → IsAddr word addr → ⊥
no_colon word free addr is = free_not 58 is.host_text is.port_text (subst (IsFreeOf 58) is.parts free)

-- the parts around the last colon are those of the address
around : (word : List ℕ) (at : ℕ) → word ≡ take at word ++ 58 ∷ drop (at + 1) word → IsFreeOf 58 (drop (at + 1) word) → (addr : Addr) → (is : IsAddr word addr) → (take at word ≡ is.host_text) × (drop (at + 1) word ≡ is.port_text)
around word at found last addr is =
    same_back 58 (take at word) is.host_text (drop (at + 1) word) is.port_text last
    (free_in_number 58 (inr (omega arith)) (2 ^ 16) (omega arith) is.port_text addr.port is.port) (sym found ∙ is.parts)

pub no_host : (word : List ℕ) (at : ℕ) → word ≡ take at word ++ 58 ∷ drop (at + 1) word → IsFreeOf 58 (drop (at + 1) word) → ((ip : Ip) → IsHostText (take at word) ip → ⊥) → (addr : Addr) → IsAddr word addr → ⊥
no_host word at found last none addr is =
    none addr.ip (subst (λ t. IsHostText t addr.ip) (sym (around word at found last addr is).0) is.host)

pub no_port : (word : List ℕ) (at : ℕ) → word ≡ take at word ++ 58 ∷ drop (at + 1) word → IsFreeOf 58 (drop (at + 1) word) → ((n : ℕ) → IsNumber (2 ^ 16) (take (length word - (at + 1)) (drop (at + 1) word)) n → ⊥) → (addr : Addr) → IsAddr word addr → ⊥
no_port word at found last none addr is =
    none addr.port (subst (λ t. IsNumber (2 ^ 16) t addr.port) (sym (rest_all (at + 1) word ∙ (around word at found last addr is).1)) is.port)

-- A JSON text says one value, or none.
use Rattle.std.proofs.Common.{◌≡◌, ◌∙◌, sym, ap, ℕ, List}
use Rattle.ng_bencode.specs.Tree.{Tree}
use Rattle.ng_json.specs.Twins.{SaysInJson, HasNoTwin, twin}

pub says_once : (text : List ℕ) (s t : Tree) → SaysInJson text s → SaysInJson text t → s ≡ t
says_once text s t a b =
    let same : a.value ≡ b.value = (let e = sym a.is_json.is ∙ b.is_json.is in cc) in
    let both = sym a.is_twin ∙ ap twin same ∙ b.is_twin in cc

pub says_nothing : (text : List ℕ) (t : Tree) → HasNoTwin text → SaysInJson text t → ⊥
says_nothing text t n a =
    let same : a.value ≡ n.value = (let e = sym a.is_json.is ∙ n.is_json.is in cc) in
    let both = sym a.is_twin ∙ ap twin same ∙ n.is_none in cc

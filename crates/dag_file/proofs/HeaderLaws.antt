-- The parts of a file, put one after the other.
use Rattle.std.proofs.Common.{◌≡◌, ℕ, List, [], ◌∷◌, ◌++◌, length, ap, sym, ◌∙◌, append_assoc}
use Rattle.std.specs.Prelude.{codes}
use Rattle.std.specs.List.{flat_map}
use Rattle.std.proofs.lemmas.List.Concat.{flat_map-append}
use Rattle.dag_file.specs.Writes.{word_bytes, leaf_bytes, numbers_bytes, header_bytes, file_bytes}

three : (i m p q a b c : List ℕ) → a ≡ i ++ m → b ≡ a ++ p → c ≡ b ++ q → c ≡ i ++ (m ++ (p ++ q))
three i m p q a b c ea eb ec =
    ec ∙ ap (λ (l : List ℕ). l ++ q) eb ∙ append_assoc a p q
    ∙ ap (λ (l : List ℕ). l ++ (p ++ q)) ea ∙ append_assoc i m (p ++ q)

pub header_put : (side versions : ℕ) (counts i a b c : List ℕ) → a ≡ i ++ codes "VDAG"
    → b ≡ a ++ numbers_bytes (1 ∷ (side ∷ (versions ∷ []))) → c ≡ b ++ numbers_bytes counts
    → c ≡ i ++ header_bytes side versions counts
unfolding header_bytes
header_put side versions counts i a b c ea eb ec =
    three i (codes "VDAG") (numbers_bytes (1 ∷ (side ∷ (versions ∷ [])))) (numbers_bytes counts) a b c ea eb ec
    ∙ ap (λ (l : List ℕ). i ++ (codes "VDAG" ++ l))
    (sym (flat_map-append word_bytes (1 ∷ (side ∷ (versions ∷ []))) counts))

-- the whole file
pub file_put : (side versions : ℕ) (counts leaves : List ℕ) (nodes pairs : List (List ℕ))
    (i a b c d : List ℕ) → versions ≡ length pairs → i ≡ []
    → a ≡ i ++ header_bytes side versions counts → b ≡ a ++ flat_map leaf_bytes leaves
    → c ≡ b ++ flat_map numbers_bytes nodes → d ≡ c ++ flat_map numbers_bytes pairs
    → d ≡ file_bytes side counts leaves nodes pairs
unfolding file_bytes
file_put side versions counts leaves nodes pairs i a b c d many none ea eb ec ed =
    three (header_bytes side versions counts) (flat_map leaf_bytes leaves)
    (flat_map numbers_bytes nodes) (flat_map numbers_bytes pairs) b c d
    (eb ∙ ap (λ (l : List ℕ). l ++ flat_map leaf_bytes leaves)
    (ea ∙ ap (λ (l : List ℕ). l ++ header_bytes side versions counts) none)) ec ed
    ∙ ap
    (λ (n : ℕ). header_bytes side n counts ++
    (flat_map leaf_bytes leaves ++
    (flat_map numbers_bytes nodes ++ flat_map numbers_bytes pairs))) many

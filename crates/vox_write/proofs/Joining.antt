-- Parts of a file that are put one behind the other.
use Rattle.std.proofs.Common.{◌≡◌, ℕ, ◌+◌, ◌*◌, List, ◌++◌, length, codes, sym, ap, ◌∙◌, append_assoc}
use Rattle.std.specs.List.{flat_map}
use Rattle.vox_read.specs.Contents.{Content}
use Rattle.vox_write.specs.Written.{number_bytes, chunk_head, size_bytes, voxel_bytes, model_chunks, chunks_length, models_file}

-- two parts behind something are one part behind it
two : (old a b : List ℕ) → old ++ a ++ b ≡ old ++ (a ++ b)
two old a b = append_assoc old a b

five : (old a b c d e : List ℕ) → old ++ a ++ b ++ c ++ d ++ e ≡ old ++ (a ++ b ++ c ++ d ++ e)
five old a b c d e =
    ap (λ (t : List ℕ). t ++ c ++ d ++ e) (two old a b)
    ∙ ap (λ (t : List ℕ). t ++ d ++ e) (two old (a ++ b) c)
    ∙ ap (λ (t : List ℕ). t ++ e) (two old (a ++ b ++ c) d)
    ∙ two old (a ++ b ++ c ++ d) e

four : (old a b c d : List ℕ) → old ++ a ++ b ++ c ++ d ≡ old ++ (a ++ b ++ c ++ d)
four old a b c d =
    ap (λ (t : List ℕ). t ++ c ++ d) (two old a b)
    ∙ ap (λ (t : List ℕ). t ++ d) (two old (a ++ b) c)
    ∙ two old (a ++ b ++ c) d

pub model_put : (m : Content) (n : ℕ) (old x y z : List ℕ) → n ≡ length m.voxels
    → x ≡ old ++ chunk_head (codes "SIZE") 12 0 ++ size_bytes m.size
    → y ≡ x ++ chunk_head (codes "XYZI") (4 + 4 * n) 0 ++ number_bytes n
    → z ≡ y ++ flat_map voxel_bytes m.voxels → z ≡ old ++ model_chunks m
unfolding model_chunks
model_put m n old x y z few is_x is_y is_z =
    is_z ∙ ap (λ (t : List ℕ). t ++ flat_map voxel_bytes m.voxels)
    (is_y ∙ ap (λ (t : List ℕ). t ++ chunk_head (codes "XYZI") (4 + 4 * n) 0 ++ number_bytes n) is_x
    ∙ ap (λ (k : ℕ). old ++ chunk_head (codes "SIZE") 12 0 ++ size_bytes m.size
    ++ chunk_head (codes "XYZI") (4 + 4 * k) 0 ++ number_bytes k) few)
    ∙ five old (chunk_head (codes "SIZE") 12 0) (size_bytes m.size)
    (chunk_head (codes "XYZI") (4 + 4 * length m.voxels) 0) (number_bytes (length m.voxels))
    (flat_map voxel_bytes m.voxels)

pub models_put : (models : List Content) (n : ℕ) (old x y : List ℕ) → n ≡ chunks_length models
    → x ≡ old ++ codes "VOX " ++ number_bytes 150 ++ chunk_head (codes "MAIN") 0 n
    → y ≡ x ++ flat_map model_chunks models → y ≡ old ++ models_file models
unfolding models_file
models_put models n old x y long is_x is_y =
    is_y ∙ ap (λ (t : List ℕ). t ++ flat_map model_chunks models)
    (is_x ∙ ap (λ (k : ℕ). old ++ codes "VOX " ++ number_bytes 150
    ++ chunk_head (codes "MAIN") 0 k) long)
    ∙ four old (codes "VOX ") (number_bytes 150)
    (chunk_head (codes "MAIN") 0 (chunks_length models))
    (flat_map model_chunks models)

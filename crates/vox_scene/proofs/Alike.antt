-- What stands alike is turned alike.
use Rattle.std.proofs.Common.{◌≡◌, ℕ, ◌<◌, List, length, map, take, subst, arith}
use Rattle.std.proofs.lemmas.List.{length-map, length-take}
use Rattle.std.proofs.lemmas.Slice.Zip.{AllZip-long}
use Rattle.vox_read.specs.Contents.{Content}
use Rattle.vox_scene.specs.declared.rotations.Row.{Row}
use Rattle.vox_scene.specs.declared.rotations.Rotation.{Rotation}
use Rattle.vox_scene.specs.Placing.{SceneInstance, IndexedInstance, instance_at, IsRotated, AreRotated}

pub same_row : (a b : Row) → a.column ≡ b.column → a.is_negative ≡ b.is_negative → a ≡ b
same_row a b column sign = λ i. record { column = column i; is_negative = sign i }

pub same_rotation : (a b : Rotation) → a.x ≡ b.x → a.y ≡ b.y → a.z ≡ b.z → a ≡ b
same_rotation a b x y z = λ i. record { x = x i; y = y i; z = z i }

-- the turned model of one instance is that of another that shows the same model turned alike
pub alike_turned : (models : List Content) (a b : IndexedInstance) (m : Content) → a.model ≡ b.model
    → a.axis_map ≡ b.axis_map
    → IsRotated (instance_at models a).model (instance_at models a).axis_map m
    → IsRotated (instance_at models b).model (instance_at models b).axis_map m
alike_turned models a b m same turned is =
    subst (λ (r : Rotation). IsRotated (instance_at models b).model r m) turned
    (subst (λ (n : ℕ). IsRotated
    (instance_at models
    (record { model = n; axis_map = a.axis_map; corner = a.corner })).model a.axis_map m) same is)

-- as many stands as turned models are known
pub known_first : (f : IndexedInstance → SceneInstance) (instanced : List IndexedInstance) (i : ℕ)
    (known : List Content) → i < length instanced → AreRotated (map f (take i instanced)) known
    → AreRotated (map f (take (length known) instanced)) known
known_first f instanced i known lt are =
    let long =
    AllZip-long (λ s m. IsRotated s.model s.axis_map m) (map f (take i instanced)) known are in
    let mapped = length-map (take i instanced) f in
    let taken = length-take i instanced in
    let same : i ≡ length known = omega (arith, long, mapped, taken, lt) in
    subst (λ (n : ℕ). AreRotated (map f (take n instanced)) known) same are

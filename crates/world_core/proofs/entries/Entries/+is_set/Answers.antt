use Rattle.std.proofs.Common.{arith, ap, sym, ◌∙◌, ◌-◌, ◌/◌, ◌%◌, ℕ, Option}
use Rattle.node_words.specs.declared.shapes.names.Name.{Name}
use Rattle.node_words.specs.shapes.Shape.{Leaf, has}
use Rattle.node_words.specs.declared.keys.Key.{Key}
use Rattle.core_laws.specs.places.Names.{key_bits, key_child}
use Rattle.world_core.specs.Reads.{keys_in}
use Rattle.world_core.proofs.Cells.{set_at, none_set, leaf_set, past_set, below_set, half_of}
use Rattle.world_core.proofs.entries.Entries.+is_set.Goals as goal

pub returns-in-None : goal.returns-in-None
returns-in-None t c =
    let key : Name → Key = keys_in c.args.self.now in
    none_set key c.args.level c.args.q.x c.args.q.y c.args.q.z
    ∙ ap (λ (o : Option Name). set_at key c.args.level o c.args.q.x c.args.q.y c.args.q.z)
    (sym c.in-None.is)

pub returns-then-level-eq0 : goal.returns-then-level-eq0
returns-then-level-eq0 t c =
    let key : Name → Key = keys_in c.args.self.now in
    c.is_bit_set.ensures
    ∙ ap (λ (b : ℕ). has 0 (Leaf b) c.args.q.x c.args.q.y c.args.q.z)
    (c.bits_in.ensures ∙ ap key_bits c.key_or_empty-key.ensures)
    ∙ leaf_set key c.args.level c.in-Some.n c.args.q.x c.args.q.y c.args.q.z c.if-level-eq0.true
    ∙ ap (λ (o : Option Name). set_at key c.args.level o c.args.q.x c.args.q.y c.args.q.z)
    (sym c.in-Some.is)

pub returns-then-octant-gt7 : goal.returns-then-octant-gt7
returns-then-octant-gt7 t c =
    let key : Name → Key = keys_in c.args.self.now in
    past_set key c.args.side c.args.level c.in-Some.n c.args.q.x c.args.q.y c.args.q.z c.octant_with-octant.result
    c.requires (let h = c.if-level-eq0.false in omega arith) c.octant_with-octant.ensures c.if-octant-gt7.true
    ∙ ap (λ (o : Option Name). set_at key c.args.level o c.args.q.x c.args.q.y c.args.q.z)
    (sym c.in-Some.is)

pub is_set-requires : goal.is_set-requires
is_set-requires t c =
    (let h = c.if-level-eq0.false in let d = c.decreases in omega arith, half_of c.args.side c.args.level c.requires (let h = c.if-level-eq0.false in omega arith))

pub returns : goal.returns
returns t c =
    let key : Name → Key = keys_in c.args.self.now in
    below_set key c.args.side c.args.level c.in-Some.n c.args.q.x c.args.q.y c.args.q.z c.octant_with-octant.result c.is_set.result
    c.requires (let h = c.if-level-eq0.false in omega arith) c.octant_with-octant.ensures c.if-octant-gt7.false
    (c.is_set.ensures
    ∙ ap
    (λ (o : Option Name). set_at key (c.args.level - 1) o (c.args.q.x % (c.args.side / 2))
    (c.args.q.y % (c.args.side / 2)) (c.args.q.z % (c.args.side / 2)))
    (c.child_in.ensures
    ∙ ap (λ (k : Key). key_child k c.octant_with-octant.result) c.key_or_empty-key.ensures))
    ∙ ap (λ (o : Option Name). set_at key c.args.level o c.args.q.x c.args.q.y c.args.q.z)
    (sym c.in-Some.is)

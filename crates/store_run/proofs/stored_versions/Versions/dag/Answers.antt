use Rattle.std.proofs.Common.{rules, ◌≡◌, ◌+◌, ◌-◌, List, sym, subst}
use Rattle.std.specs.Prelude.{IfOk}
use Rattle.dag_file.specs.Lists.{HoldsList, DoNumbersRise, AreNumbersSmall, IsFileOfList}
use Rattle.store_run.specs.Marked.{Rooted}
use Rattle.store_run.proofs.Lent.{taken_of, back_again, lent_all, lent_are, lent_plain, lent_leaves, lent_nothing, lent_held, lent_rise, lent_small, lent_file}
use Rattle.store_run.proofs.stored_versions.Versions.dag.Goals as goal

pub file_of_list-file-requires-clause-roots : goal.file_of_list-file-requires-clause-roots
file_of_list-file-requires-clause-roots c =
    let v = c.args.self.now in
    let s = c.take_roots.new.store in
    let roots = c.take_roots.new.roots.items in
    let taken = taken_of v s c.as_slice.result.now (c.len-versions.result + 1) roots c.requires.are
    c.requires.free (sym c.as_slice.ensures.value) (search rules) c.take_roots.ensures in
    subst (λ (l : List Rooted). HoldsList s.told.held (v.side - 1) l) (sym c.as_slice-2.ensures.value)
    (lent_held v s roots c.number-before.result c.requires.are taken
    c.number-before.ensures.store)

pub file_of_list-file-requires-clause-rise : goal.file_of_list-file-requires-clause-rise
file_of_list-file-requires-clause-rise c =
    let v = c.args.self.now in
    let s = c.take_roots.new.store in
    let roots = c.take_roots.new.roots.items in
    let taken = taken_of v s c.as_slice.result.now (c.len-versions.result + 1) roots c.requires.are
    c.requires.free (sym c.as_slice.ensures.value) (search rules) c.take_roots.ensures in
    subst (λ (l : List Rooted). DoNumbersRise l) (sym c.as_slice-2.ensures.value)
    (lent_rise v s roots c.number-before.result c.requires.are taken
    c.number-before.ensures.store)

pub file_of_list-file-requires-clause-small : goal.file_of_list-file-requires-clause-small
file_of_list-file-requires-clause-small c =
    let v = c.args.self.now in
    let s = c.take_roots.new.store in
    let roots = c.take_roots.new.roots.items in
    let taken = taken_of v s c.as_slice.result.now (c.len-versions.result + 1) roots c.requires.are
    c.requires.free (sym c.as_slice.ensures.value) (search rules) c.take_roots.ensures in
    subst (λ (l : List Rooted). AreNumbersSmall l) (sym c.as_slice-2.ensures.value)
    (lent_small v s roots c.number-before.result c.requires.are taken
    c.number-before.ensures.store)

pub put_roots-requires : goal.put_roots-requires
put_roots-requires c =
    let v = c.args.self.now in
    let s = c.take_roots.new.store in
    let roots = c.take_roots.new.roots.items in
    let taken = taken_of v s c.as_slice.result.now (c.len-versions.result + 1) roots c.requires.are
    c.requires.free (sym c.as_slice.ensures.value) (search rules) c.take_roots.ensures in
    lent_all v s c.file_of_list-file.new.store roots c.number-lent.result c.requires.are taken
    c.file_of_list-file.ensures.spares c.file_of_list-file.ensures.seen c.number-lent.ensures.store

pub returns-clause-are : goal.returns-clause-are
returns-clause-are c =
    let v = c.args.self.now in
    let s = c.take_roots.new.store in
    let roots = c.take_roots.new.roots.items in
    let taken = taken_of v s c.as_slice.result.now (c.len-versions.result + 1) roots c.requires.are
    c.requires.free (sym c.as_slice.ensures.value) (search rules) c.take_roots.ensures in
    let left = back_again v s c.file_of_list-file.new.store c.put_roots.new.store roots
    c.number-lent.result c.requires.are taken c.file_of_list-file.ensures.spares
    c.file_of_list-file.ensures.seen c.number-lent.ensures.store c.put_roots.ensures in
    lent_are v c.put_roots.new.store c.number-before.result c.number-after.result left
    c.number-before.ensures.store c.number-after.ensures.store c.requires.are

pub returns-clause-plain : goal.returns-clause-plain
returns-clause-plain c =
    let v = c.args.self.now in
    let s = c.take_roots.new.store in
    let roots = c.take_roots.new.roots.items in
    let taken = taken_of v s c.as_slice.result.now (c.len-versions.result + 1) roots c.requires.are
    c.requires.free (sym c.as_slice.ensures.value) (search rules) c.take_roots.ensures in
    let left = back_again v s c.file_of_list-file.new.store c.put_roots.new.store roots
    c.number-lent.result c.requires.are taken c.file_of_list-file.ensures.spares
    c.file_of_list-file.ensures.seen c.number-lent.ensures.store c.put_roots.ensures in
    lent_plain v c.put_roots.new.store c.number-before.result c.number-after.result left
    c.number-before.ensures.store c.number-after.ensures.store

pub returns-clause-leaves : goal.returns-clause-leaves
returns-clause-leaves c =
    let v = c.args.self.now in
    let s = c.take_roots.new.store in
    let roots = c.take_roots.new.roots.items in
    let taken = taken_of v s c.as_slice.result.now (c.len-versions.result + 1) roots c.requires.are
    c.requires.free (sym c.as_slice.ensures.value) (search rules) c.take_roots.ensures in
    let left = back_again v s c.file_of_list-file.new.store c.put_roots.new.store roots
    c.number-lent.result c.requires.are taken c.file_of_list-file.ensures.spares
    c.file_of_list-file.ensures.seen c.number-lent.ensures.store c.put_roots.ensures in
    lent_leaves v c.put_roots.new.store c.number-before.result c.number-after.result left
    c.number-before.ensures.store c.number-after.ensures.store

pub returns-clause-nothing : goal.returns-clause-nothing
returns-clause-nothing c =
    let v = c.args.self.now in
    let s = c.take_roots.new.store in
    let roots = c.take_roots.new.roots.items in
    let taken = taken_of v s c.as_slice.result.now (c.len-versions.result + 1) roots c.requires.are
    c.requires.free (sym c.as_slice.ensures.value) (search rules) c.take_roots.ensures in
    let left = back_again v s c.file_of_list-file.new.store c.put_roots.new.store roots
    c.number-lent.result c.requires.are taken c.file_of_list-file.ensures.spares
    c.file_of_list-file.ensures.seen c.number-lent.ensures.store c.put_roots.ensures in
    lent_nothing v c.put_roots.new.store c.number-before.result c.number-after.result left
    c.number-before.ensures.store c.number-after.ensures.store

pub returns-clause-file : goal.returns-clause-file
returns-clause-file c =
    let v = c.args.self.now in
    let s = c.take_roots.new.store in
    let roots = c.take_roots.new.roots.items in
    let taken = taken_of v s c.as_slice.result.now (c.len-versions.result + 1) roots c.requires.are
    c.requires.free (sym c.as_slice.ensures.value) (search rules) c.take_roots.ensures in
    lent_file v s roots c.number-before.result c.requires.are taken
    c.number-before.ensures.store c.file_of_list-file.result
    (subst (λ (l : List Rooted). IfOk c.file_of_list-file.result
    (λ file. IsFileOfList s.told.held (v.side - 1) l file.items)) c.as_slice-2.ensures.value
    c.file_of_list-file.ensures.file)

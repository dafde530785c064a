use Rattle.std.proofs.Common.{sym}
use Rattle.std.proofs.lemmas.Cmp.{nat_list_eq_equiv}
use Rattle.std.proofs.lemmas.List.Filters.{dedup_is}
use Rattle.std.proofs.lemmas.List.Kept.{IsStrictlySortedBy-dedup, Contains-dedup, Contains-from_dedup}
use Rattle.std.proofs.lemmas.List.Sorted.{Contains-permutation, IsPermutation-sym}
use Rattle.std.specs.Cmp.Lexicographic.{on_texts, texts_ties, same_text}
use Rattle.dag_file.proofs.OrderLaws.{filtered_shorter}
use Rattle.dag_file.proofs.contents.sort_words.Goals as goal

pub returns : goal.returns
returns c =
    let is = dedup_is _ _ _ c.dedup.ensures.filtered in
    let moved = c.sort_unstable.ensures.permutation in
    record {
      rises = rw is
          (IsStrictlySortedBy-dedup (on_texts (λ x. x))
          (λ x y. texts_ties x y) _ c.sort_unstable.ensures.sorted);
      keeps = λ x h. rw is
          (Contains-dedup nat_list_eq_equiv (λ xs ys e. same_text xs ys (sym e)) _ x
          (Contains-permutation _ _ x moved h));
      adds_none = λ x h. Contains-permutation _ _ x (IsPermutation-sym _ _ moved)
          (Contains-from_dedup _ _ x (rw is at h));
      few = filtered_shorter _ _ _ _ c.dedup.ensures.filtered moved;
    }

use Rattle.std.proofs.Common.{◌+◌, ◌*◌, get_or}
use Rattle.core_laws.specs.places.WordIds.{first_bucket, key_words, whole_lines}
use Rattle.core_laws.proofs.OfPlaces.Prefixes.{EndsTo}
use Rattle.core_laws.proofs.places.places.starts_of.Given as goal

abbrev pub invariant-loop-level : goal.invariant-loop-level
invariant-loop-level l = EndsTo l.level first_bucket
    (λ level. (whole_lines (l.cap + 2) + whole_lines (key_words level * l.cap))
    * get_or l.buckets level 0) l.ends

-- The texts of a scene's nodes. A number has four bytes, the lowest first. A STRING is a number and
-- that many bytes; a DICT is a number and that many pairs of STRINGs, a key and its value.
use Rattle.std.specs.Prelude.{ℕ, zero, suc, ◌+◌, ◌&&◌, Bool, List, [], ◌∷◌, length, take, drop, Option, Some, None, nat_le, if◌then◌else◌}
use Rattle.std.specs.Str.{bytes_eq}
use Rattle.vox_chunk.specs.Frames.{number_at}

-- a STRING at the front of some bytes, and what stands behind it
pub record Cut : Type 0 where
  pub text : List ℕ
  pub rest : List ℕ

abbrev pub is_string_at_front : List ℕ → Bool
is_string_at_front bytes = nat_le 4 (length bytes) && nat_le (4 + number_at bytes 0) (length bytes)

abbrev pub text_in : List ℕ → Option Cut
text_in bytes =
    if is_string_at_front bytes then Some (record {
      text = take (number_at bytes 0) (drop 4 bytes);
      rest = drop (4 + number_at bytes 0) bytes;
    }) else None

pub record Pair : Type 0 where
  pub key : List ℕ
  pub value : List ℕ

-- a pair at the front of some bytes, and what stands behind it
pub record PairCut : Type 0 where
  pub key : List ℕ
  pub value : List ℕ
  pub rest : List ℕ

abbrev pub with_key : List ℕ → Option Cut → Option PairCut
with_key key None = None
with_key key (Some cut) = Some (record { key = key; value = cut.text; rest = cut.rest })

abbrev pub behind_key : Option Cut → Option PairCut
behind_key None = None
behind_key (Some cut) = with_key cut.text (text_in cut.rest)

abbrev pub pair_in : List ℕ → Option PairCut
pair_in bytes = behind_key (text_in bytes)

-- the pairs at the front of some bytes, and what stands behind them
pub record Pairs : Type 0 where
  pub list : List Pair
  pub rest : List ℕ

abbrev pub with_pair : PairCut → Option Pairs → Option Pairs
with_pair first None = None
with_pair first (Some more) = Some (record {
  list = record { key = first.key; value = first.value } ∷ more.list;
  rest = more.rest;
})

abbrev pub behind_pair : Option PairCut → (List ℕ → Option Pairs) → Option Pairs
behind_pair None more = None
behind_pair (Some first) more = with_pair first (more first.rest)

-- so many pairs
unfoldable pub dict_pairs : ℕ → List ℕ → Option Pairs
dict_pairs zero bytes = Some (record { list = []; rest = bytes })
dict_pairs (suc n) bytes = behind_pair (pair_in bytes) (λ rest. dict_pairs n rest)

-- a DICT at the front of some bytes
abbrev pub dict_in : List ℕ → Option Pairs
dict_in bytes =
    if nat_le 4 (length bytes) then dict_pairs (number_at bytes 0) (drop 4 bytes) else None

-- the value of the first pair with this key
abbrev pub value_of : List ℕ → List Pair → Option (List ℕ)
value_of key [] = None
value_of key (first ∷ more) = if bytes_eq first.key key then Some first.value else value_of key more

-- the pairs, where there are as many
abbrev pub pairs_of : Option Pairs → List Pair
pairs_of None = []
pairs_of (Some pairs) = pairs.list

abbrev pub rest_behind : Option Pairs → Option (List ℕ)
rest_behind None = None
rest_behind (Some pairs) = Some pairs.rest

-- Document 01, 'Preconditions and response': how many rules fired is the fired record's count of one bits.
use Rattle.std.specs.Prelude.{Bool, false, List, [], ◌∷◌, ℕ, ◌+◌, get_or}
use Rattle.std.specs.Int.Count.{ones}
use Rattle.laws.specs.Packed.{byte_bits}

-- The bit of rule n in the bytes of a record, rule 1 first.
unfoldable pub bit_of : List ℕ → ℕ → Bool
bit_of ys n = get_or (false ∷ byte_bits ys) n false

-- The one bits of some bytes.
unfoldable pub ones_in : List ℕ → ℕ
ones_in [] = 0
ones_in (b ∷ bs) = ones b + ones_in bs

-- The fired record of flags: one for each rule, rule 1 first.
use Rattle.std.specs.Prelude.{Bool, false, List, ℕ, get_or}
use Rattle.laws.specs.Tabulated.{tabulate}
use Rattle.laws.specs.Packed.{pack}

-- The bits of the record: the flags of so many rules.
unfoldable pub fired_bits : List Bool → ℕ → List Bool
fired_bits fired count = tabulate (λ i. get_or fired i false) count

-- The record.
unfoldable pub flag_record : List Bool → ℕ → List ℕ
flag_record fired count = pack (fired_bits fired count)

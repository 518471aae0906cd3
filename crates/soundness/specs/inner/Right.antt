-- What 31 asks of one rule, as the code goes by rules.
use Rattle.std.specs.Prelude.{Bool, List, ℕ, leb}
use Rattle.laws.specs.Truth.{◌∧ᵇ◌}
use Rattle.laws.specs.Listed.{all_of}
use Rattle.model.specs.Rules.{each_once}
use Rattle.table.specs.declared.Rule.{Rule}
use Rattle.laws.specs.Limits.{literal_limit, assignment_limit}
use Rattle.table.specs.Link.{assignments_of}
use Rattle.soundness.specs.Sound.{has_pair, named}

-- What one rule is asked for: the limits, the slots and values of the table and NONE, no slot assigned twice.
unfoldable pub rule_right : ℕ → List ℕ → Rule → Bool
rule_right width counts r =
    leb r.tested literal_limit ∧ᵇ leb r.assigned assignment_limit ∧ᵇ all_of (has_pair width counts) (named r)
    ∧ᵇ each_once (assignments_of r)

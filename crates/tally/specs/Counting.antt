-- The tally of a day: slips answered and slips refused, 0 to 9,999 each.
use Rattle.std.specs.Prelude.{◌+◌, Bool, leb}
use Rattle.laws.specs.Limits.{tally_limit}
use Rattle.laws.specs.Truth.{◌∨ᵇ◌}
use Rattle.tally.specs.declared.Tally.{Tally}

-- The tally at which a day begins.
abbrev pub fresh : Tally
fresh = record { answered = 0; refused = 0 }

-- 32: either tally at 9,999 or above.
unfoldable pub is_full : Tally → Bool
is_full y = leb tally_limit y.answered ∨ᵇ leb tally_limit y.refused

-- One slip more answered, or one more refused.
abbrev pub one_answered : Tally → Tally
one_answered y = record { answered = y.answered + 1; refused = y.refused }

abbrev pub one_refused : Tally → Tally
one_refused y = record { answered = y.answered; refused = y.refused + 1 }

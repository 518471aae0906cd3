-- The parts of a list, in places of a fixed number.
use Rattle.std.specs.Prelude.{ℕ, ◌+◌, replicate, set}
use Rattle.steps.specs.declared.parts.Parts.{Parts}

-- No place of n is used; each holds `unused`.
abbrev pub no_parts : {A : Type 0} (n : ℕ) → A → Parts A n
no_parts n unused = record { places = replicate n unused; count = 0 }

-- One part more, in the first place that is not used.
abbrev pub one_more : {A : Type 0} {n : ℕ} → Parts A n → A → Parts A n
one_more list part = record { places = set list.places list.count part; count = list.count + 1 }

-- Where the remainder of a text stands in it.
use Rattle.std.specs.Prelude.{ℕ, ◌≤◌, ◌≡◌, List, length, drop}
use Rattle.laws.specs.Limits.{text_limit}

-- The remainder begins at place `base` of the text, which is no longer than a text may be.
pub record Remainder (text rest : List ℕ) (base : ℕ) : Type 0 where
  pub begins : rest ≡ drop base text
  pub short : length text ≤ text_limit

-- An array of which a number of places is used.
use Rattle.std.specs.Prelude.{ℕ, ◌-◌, List, ◌++◌, length, replicate}

-- A list filled up to n places with `unused`.
unfoldable pub filled : {A : Type 0} → ℕ → A → List A → List A
filled n unused xs = xs ++ replicate (n - length xs) unused

-- An array that is filled while it is read: how many of its places are used, and what the others hold.
use Rattle.std.specs.Prelude.{ℕ, ◌-◌, ◌≤◌, ◌≡◌, List, length, drop, replicate}

-- Of n places `count` are used, and the others hold `unused`.
pub record Filled {A : Type 0} (n : ℕ) (unused : A) (places : List A) (count : ℕ) : Type 0 where
  pub used : count ≤ n
  pub size : length places ≡ n
  pub rest : drop count places ≡ replicate (n - count) unused

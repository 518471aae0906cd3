-- What the search for justified strata begins with.
-- A reader need not believe what stands here: `carries_least` says what is tested.
use Rattle.std.specs.Prelude.{◌≡◌, Bool, false, List, [], ℕ, ◌*◌, ◌≤◌, ◌<◌, length, get_or}

-- No row of the first n carries a stratum above n.
pub record Low (rows : List (List ℕ)) (n : ℕ) : Type 0 where
  pub each : (i : ℕ) → i < n → get_or (get_or rows i []) 3 0 ≤ n

-- There are flags for n rules, and none is held.
pub record Unheld (n : ℕ) (held : List Bool) : Type 0 where
  pub places : n ≤ length held
  pub none : (k : ℕ) → get_or held k false ≡ false

-- There are places for the needs of n rules, and none is chained.
pub record Unchained (n : ℕ) (nexts : List ℕ) : Type 0 where
  pub places : n * 9 ≤ length nexts
  pub none : (o : ℕ) → get_or nexts o 0 ≡ 0

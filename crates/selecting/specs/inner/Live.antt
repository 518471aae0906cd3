-- The assignments to each pair that are left: those of rules that have not been found False.
use Rattle.std.specs.Prelude.{◌≡◌, Bool, false, cond, List, [], ℕ, zero, suc, ◌+◌, ◌<◌, get_or}
use Rattle.table.specs.Link.{assignments_of}
use Rattle.table.specs.inner.Flat.{pair_places}
use Rattle.rows.specs.inner.Rows.{rule_in}
use Rattle.judging.specs.inner.Times.{times}

-- How often the first n rules that are not dead assign the pair at q.
unfoldable pub live_below : List (List ℕ) → List Bool → ℕ → ℕ → ℕ
live_below rows dead q zero = 0
live_below rows dead q (suc i) = live_below rows dead q i + cond (get_or dead i false) 0 (times q (assignments_of (rule_in (get_or rows i []))))

-- The counts are these.
unfoldable pub Live : List (List ℕ) → List Bool → ℕ → List ℕ → Type 0
Live rows dead n live = (q : ℕ) → q < pair_places → get_or live q 0 ≡ live_below rows dead q n

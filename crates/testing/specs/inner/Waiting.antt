-- The rules that wait at a pair, in lists: the first of each pair, the one after each rule, counted from 1 with 0 for none; and the rules woken.
use Rattle.std.specs.Prelude.{List, ℕ, zero, suc, ◌+◌, ◌≤◌, ◌<◌, length, get_or}
use Rattle.testing.specs.declared.waiting.Turn.{Turn}

-- The lists name rules only.
pub record Waiting (n : ℕ) (heads nexts : List ℕ) : Type 0 where
  pub heads_low : (p : ℕ) → get_or heads p 0 ≤ n
  pub nexts_low : (i : ℕ) → get_or nexts i 0 ≤ n

-- The rules woken are rules, and find room.
pub record Woken (n left : ℕ) (woken : List ℕ) : Type 0 where
  pub room : n ≤ length woken
  pub few : left ≤ n
  pub low : (k : ℕ) → k < left → get_or woken k 0 < n

-- The rule looked at next: the one woken last, or where none is woken the given one, which stands at place k.
abbrev pub turn_or : ℕ → ℕ → List ℕ → ℕ → Turn
turn_or rule k woken zero = record { rule = rule; place = k + 1; left = 0 }
turn_or rule k woken (suc left) = record { rule = get_or woken left 0; place = k; left = left }

-- So with the one at place k of the sorted rules.
unfoldable pub turn_of : List ℕ → ℕ → List ℕ → ℕ → Turn
turn_of positions k woken left = turn_or (get_or positions k 0) k woken left

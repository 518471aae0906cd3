-- What a function that puts bytes into an output leaves: the output with them at their place, where they fit, and the place after them.
use Rattle.std.specs.Prelude.{ℕ, ◌+◌, ◌*◌, ◌≤◌, ◌≡◌, List, ◌++◌, length, take, drop}
use Rattle.writing.specs.declared.sheet.Sheet.{Sheet}
use Rattle.laws.specs.Limits.{name_limit, slot_limit, value_limit, rule_limit, literal_limit, assignment_limit}

-- No pair with its mark, no line of a slot and no line of a rule has more bytes, and so no print of an accepted text has more than `longest` (`print_bounded`, crate `printing`).
abbrev pub pair_most : ℕ
pair_most = name_limit + 4 + name_limit

abbrev pub slot_line_most : ℕ
slot_line_most = 5 + name_limit + 3 + value_limit * (name_limit + 2) + 4

abbrev pub rule_line_most : ℕ
rule_line_most = 5 + pair_most + 4 + (4 + literal_limit * (pair_most + 9)) + 6 + (4 + assignment_limit * (pair_most + 2)) + 2

abbrev pub longest : ℕ
longest = slot_limit * slot_line_most + rule_limit * rule_line_most

-- An output with bytes put at a place of it: what stands before and after them stays.
unfoldable pub put_in : List ℕ → ℕ → List ℕ → List ℕ
put_in out at ys = take at out ++ (ys ++ drop (at + length ys) out)

-- Bytes put at place `at` of `before`: they end at `end`, and where there is room for them `after` has them there.
pub record Puts (before : List ℕ) (at : ℕ) (ys after : List ℕ) (end : ℕ) : Type 0 where
  pub ends : end ≡ at + length ys
  pub same_length : length after ≡ length before
  pub there : at + length ys ≤ length before → after ≡ put_in before at ys

-- The same on a sheet, which keeps its output.
pub record PutsOn (before : Sheet) (ys : List ℕ) (after : Sheet) : Type 0 where
  pub same_output : after.out.ghost_name ≡ before.out.ghost_name
  pub puts : Puts before.out.now before.at ys after.out.now after.at

-- The values of a slot's line, the lines of slots and those of rules, one after the other.
-- Assumes nothing.
use Prim.Native.Nat.{ℕ, ◌+◌, ◌*◌, ◌≤◌, ◌<◌}
use native.Mathlib.Omega.{arith}
use native.Mathlib.Numerals.{add-one}
use mathlib.Core.Path.{◌≡◌, refl, ap, ◌∙◌}
use mathlib.Core.List.{List, [], ◌∷◌, ◌++◌, map}
use lib.ListN.{length, get_or, drop, drop_of_length-le}
use lib.Seq.{drop-cons}
use Rattle.laws.specs.Quoted.{bytes}
use Rattle.laws.specs.Tabulated.{tabulate}
use Rattle.laws.proofs.Tabulated.{tabulate_length, tabulate_at}
use Rattle.laws.proofs.Listed.{used_next, used_end}
use Rattle.model.specs.Rules as model
use Rattle.table.specs.declared.Table.{Table}
use Rattle.table.specs.Zero.{zero_slot, zero_rule}
use Rattle.table.specs.inner.Shape.{Shaped}
use Rattle.laws.specs.Limits.{row, rule_limit}
use Rattle.table.specs.Link.{rule_of, rules_of}
use Rattle.writing.specs.inner.Written.{followed, separated, rule_bytes, lines_joined}
use Rattle.writing.specs.inner.Spelled.{spelled, spelled_pair, spelled_values, spelled_line, spelled_lines, spelled_rules, spelled_file}

-- A list by its rule, from a place on.
tabulate_from : {A : Type 0} (f : ℕ → A) (n i : ℕ) (d : A) → i < n → drop i (tabulate f n) ≡ f i ∷ drop (i + 1) (tabulate f n)
tabulate_from f n i d h =
    let l = tabulate_length f n in
    drop-cons (tabulate f n) i d (omega arith) ∙ rw (tabulate_at f n i d h, add-one i)

tabulate_end : {A : Type 0} (f : ℕ → A) (n i : ℕ) → n ≤ i → drop i (tabulate f n) ≡ []
tabulate_end f n i h = let k : length (tabulate f n) ≤ i = let l = tabulate_length f n in omega arith in drop_of_length-le (tabulate f n) k

module _ (text vs : List ℕ) (slot count : ℕ) where
  -- The name of a value, and those from place j on, each after a comma.
  abbrev pub value_at : ℕ → List ℕ
  value_at j = spelled text (get_or vs (slot * row + 1 + j) 0)

  unfoldable pub more_values : ℕ → List ℕ
  more_values j = followed (bytes ", ") (drop j (spelled_values text vs slot count))

  pub values_some : 0 < count → separated (bytes ", ") (spelled_values text vs slot count) ≡ spelled text (get_or vs (slot * row + 1) 0) ++ more_values 1
  unfolding separated more_values spelled_values
  values_some h =
      let z : slot * row + 1 + 0 ≡ slot * row + 1 = omega arith in
      ap (separated (bytes ", ")) (tabulate_from value_at count 0 [] h) ∙ ap (λ (k : ℕ). spelled text (get_or vs k 0) ++ more_values 1) z

  pub values_on : (j : ℕ) → j < count → more_values j ≡ bytes ", " ++ (value_at j ++ more_values (j + 1))
  unfolding followed more_values spelled_values
  values_on j h = ap (followed (bytes ", ")) (tabulate_from value_at count j [] h)

  pub values_over : (j : ℕ) → count ≤ j → more_values j ≡ []
  unfolding followed more_values spelled_values
  values_over j h = ap (followed (bytes ", ")) (tabulate_end value_at count j h)

module _ (text ss vs : List ℕ) (t : Table) where
  -- The line of a slot of the table, and those from slot i on.
  abbrev pub line_at : ℕ → List ℕ
  line_at i = spelled_line text ss vs i (get_or t.slots i zero_slot).count

  unfoldable pub lines_from : ℕ → List ℕ
  lines_from i = lines_joined (drop i (spelled_lines text ss vs t))

  -- The line of a rule of the table, and those from place j on.
  abbrev pub rule_at : ℕ → List ℕ
  rule_at j = rule_bytes (spelled_pair text ss vs) (rule_of (get_or t.rules j zero_rule))

  unfoldable pub rules_from : ℕ → List ℕ
  rules_from j = lines_joined (map (rule_bytes (spelled_pair text ss vs)) (drop j (rules_of t)))

  -- A file is its lines from the first on.
  pub file_lines : spelled_file text ss vs t ≡ lines_from 0 ++ rules_from 0
  unfolding spelled_file lines_from rules_from spelled_rules
  file_lines = refl

  pub lines_on : (i : ℕ) → i < t.width → lines_from i ≡ line_at i ++ lines_from (i + 1)
  unfolding lines_joined lines_from spelled_lines
  lines_on i h = ap lines_joined (tabulate_from line_at t.width i [] h)

  pub lines_over : (i : ℕ) → t.width ≤ i → lines_from i ≡ []
  unfolding lines_joined lines_from spelled_lines
  lines_over i h = ap lines_joined (tabulate_end line_at t.width i h)

  pub rules_on : (j : ℕ) → Shaped t → j < t.count → t.count ≤ rule_limit → rules_from j ≡ rule_at j ++ rules_from (j + 1)
  unfolding lines_joined rules_from rules_of
  rules_on j sh h k = ap (λ (rs : List model.Rule). lines_joined (map (rule_bytes (spelled_pair text ss vs)) rs)) (used_next rule_of t.count t.rules j zero_rule h (omega (arith, sh.rule_places k)))

  pub rules_over : (j : ℕ) → t.count ≤ j → rules_from j ≡ []
  unfolding lines_joined rules_from rules_of
  rules_over j h = ap (λ (rs : List model.Rule). lines_joined (map (rule_bytes (spelled_pair text ss vs)) rs)) (used_end rule_of t.count t.rules j h)

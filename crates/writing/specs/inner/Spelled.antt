-- The same lines by the spans of a text: names are stretches of it, found by the number of a slot and by the place of a pair. Nothing here need be believed: for an accepted text it is the print (`print_spelled`, crate `printing`).
use Rattle.std.specs.Prelude.{ℕ, ◌+◌, ◌*◌, ◌%◌, ◌≤◌, ◌<◌, cond, List, [], ◌++◌, map, eqb, leb, length, get_or}
use Rattle.laws.specs.Tabulated.{tabulate}
use Rattle.laws.specs.Quoted.{bytes}
use Rattle.model.specs.Rules.{Pair}
use Rattle.table.specs.declared.Table.{Table}
use Rattle.laws.specs.Limits.{slot_limit, value_limit, row}
use Rattle.table.specs.Zero.{zero_slot, zero_rule}
use Rattle.table.specs.inner.Flat.{place_of}
use Rattle.table.specs.Link.{rules_of}
use Rattle.steps.specs.inner.Spans.{span_start, span_letters}
use Rattle.writing.specs.declared.spelling.Spelling.{Spelling}
use Rattle.writing.specs.inner.Written.{Pairing, rule_bytes, line_bytes, lines_joined}

-- The letters at a span; none where it does not lie in the text.
unfoldable pub spelled : List ℕ → ℕ → List ℕ
spelled text k = cond (leb (span_start k + k % 32) (length text)) (span_letters text k) []

-- A pair's value by its span, and NONE for 0.
unfoldable pub spelled_value : List ℕ → List ℕ → Pair → List ℕ
spelled_value text valuespans p = cond (eqb p.value 0) (bytes "NONE") (spelled text (get_or valuespans (place_of p) 0))

-- A pair by the spans of its slot and of its value.
unfoldable pub spelled_pair : List ℕ → List ℕ → List ℕ → Pairing
spelled_pair text slotspans valuespans mark p = spelled text (get_or slotspans p.slot 0) ++ (mark ++ spelled_value text valuespans p)

-- The same by a spelling.
abbrev pub paired : Spelling → Pairing
paired s = spelled_pair s.text.now s.slotspans.now s.valuespans.now

-- The names of the first values of a slot.
unfoldable pub spelled_values : List ℕ → List ℕ → ℕ → ℕ → List (List ℕ)
spelled_values text valuespans slot count = tabulate (λ j. spelled text (get_or valuespans (slot * row + 1 + j) 0)) count

-- The line of a slot.
abbrev pub spelled_line : List ℕ → List ℕ → List ℕ → ℕ → ℕ → List ℕ
spelled_line text slotspans valuespans slot count = line_bytes (spelled text (get_or slotspans slot 0)) (spelled_values text valuespans slot count)

-- The lines of the slots of a table.
unfoldable pub spelled_lines : List ℕ → List ℕ → List ℕ → Table → List (List ℕ)
spelled_lines text slotspans valuespans t = tabulate (λ i. spelled_line text slotspans valuespans i (get_or t.slots i zero_slot).count) t.width

-- Those of its rules.
unfoldable pub spelled_rules : List ℕ → List ℕ → List ℕ → Table → List (List ℕ)
spelled_rules text slotspans valuespans t = map (rule_bytes (spelled_pair text slotspans valuespans)) (rules_of t)

-- A table line by line.
unfoldable pub spelled_file : List ℕ → List ℕ → List ℕ → Table → List ℕ
spelled_file text slotspans valuespans t = lines_joined (spelled_lines text slotspans valuespans t) ++ lines_joined (spelled_rules text slotspans valuespans t)

-- The slots of a table are within the limits, each with values, and each rule assigns something.
pub record LinesFit (t : Table) : Type 0 where
  pub few : t.width ≤ slot_limit
  pub some : (i : ℕ) → i < t.width → 1 ≤ (get_or t.slots i zero_slot).count
  pub within : (i : ℕ) → i < t.width → (get_or t.slots i zero_slot).count ≤ value_limit
  pub assigns : (j : ℕ) → j < t.count → 1 ≤ (get_or t.rules j zero_rule).assigned

-- What the selection is given and what it comes to.
use Rattle.std.specs.Prelude.{◌≡◌, Bool, false, List, [], ℕ, suc, ◌*◌, ◌≤◌, ◌<◌, T, length, get_or, Result, Ok, Err}
use Rattle.laws.specs.Limits.{slot_limit, value_limit, rule_limit, row}
use Rattle.model.specs.Rules.{Pair, Rule, among}
use Rattle.model.specs.Orders.{names}
use Rattle.table.specs.Link.{assignments_of, rules_of}
use Rattle.table.specs.inner.Flat.{pair_places, set_of}
use Rattle.rows.specs.declared.RuleRow.{RuleRow}
use Rattle.rows.specs.inner.Rows.{rule_in}
use Rattle.rows.specs.inner.RuleRows.{numbers_of, rows_table}
use Rattle.refusals.specs.declared.Refusal.{Refusal}
use Rattle.refusals.specs.Numbers.{refusal_number}
use Rattle.marks.specs.Marks.{declared_pairs}
use Rattle.marks.specs.inner.Declared.{Declared}
use Rattle.marks.specs.Selection.{order_fired, marks_after, selection_refusal, selection}

-- At most 2000 rules, at most 32 slots with at most 15 values each and nothing assigned beyond them, a card's values, flags of pairs, and flags of rules of which none is set.
pub record Selectable (rows : List RuleRow) (counts card : List ℕ) (positive fired : List Bool) : Type 0 where
  pub few_rules : length rows ≤ rule_limit
  pub few_slots : length counts ≤ slot_limit
  pub few_values : (s : ℕ) → s < length counts → get_or counts s 0 ≤ value_limit
  pub assigned_below : (i : ℕ) (p : Pair) → i < length rows → T (among p (assignments_of (rule_in (get_or (numbers_of rows) i [])))) → p.slot < length counts
  pub card_values : (s : ℕ) → s < slot_limit → get_or card s 0 < row
  pub pair_flags : length positive ≡ pair_places
  pub fired_room : length rows ≤ length fired
  pub none_fired : (i : ℕ) → get_or fired i false ≡ false

-- What is set aside for n rules has room for them; no test is chained, no rule dead.
pub record SetAside (n : ℕ) (nexts : List ℕ) (dead queued : List Bool) (woken : List ℕ) : Type 0 where
  pub nexts_room : n * 9 ≤ length nexts
  pub none_chained : (o : ℕ) → get_or nexts o 0 ≡ 0
  pub dead_room : n ≤ length dead
  pub none_dead : (i : ℕ) → get_or dead i false ≡ false
  pub queued_room : n ≤ length queued
  pub woken_room : n ≤ length woken

-- An array has how many values each of the slots has.
pub record Counts (ks : List ℕ) (width : ℕ) (counts : List ℕ) : Type 0 where
  pub slots : length ks ≡ width
  pub each : (s : ℕ) → s < width → get_or ks s 0 ≡ get_or counts s 0

-- An array has the card's values.
unfoldable pub CardIs : List ℕ → List ℕ → Type 0
CardIs S card = (s : ℕ) → get_or S s 0 ≡ get_or card s 0

-- An array of flags has the slip's pairs.
unfoldable pub SlipIs : List Pair → List Bool → Type 0
SlipIs I flags = (p : Pair) → set_of flags p ≡ among p I

-- A slip gives no slot two values.
unfoldable pub OneValue : List Pair → Type 0
OneValue I = (p q : Pair) → T (among p I) → T (among q I) → p.slot ≡ q.slot → p.value ≡ q.value

-- The number of a refusal, 0 where there is none.
abbrev pub number_from_0 : {A : Type 0} → Result A Refusal → ℕ
number_from_0 (Ok a) = 0
number_from_0 (Err r) = refusal_number r

-- The selection is refused with k; where it is not, its positive pairs and its fired rules are these.
pub record Selected (ps : List Pair) (rs : List Rule) (S : List ℕ) (I : List Pair) (k : ℕ) (positive fired : List Bool) : Type 0 where
  pub number : k ≡ selection_refusal ps rs S I (selection ps rs S I)
  pub same_positive : k ≡ 0 → (p : Pair) → set_of positive p ≡ (marks_after rs I (selection ps rs S I)).positive p
  pub same_fired : k ≡ 0 → (i : ℕ) → i < length rs → get_or fired i false ≡ names (order_fired (selection ps rs S I)) (suc i)

-- Whatever card and slip the arrays stand for, the selection of these comes to k and to these flags.
abbrev pub SelectedBy : List RuleRow → List ℕ → List ℕ → List Bool → ℕ → List Bool → List Bool → Type 0
SelectedBy rows counts card slip k positive fired =
    (S : List ℕ) (I : List Pair) → CardIs S card → SlipIs I slip → OneValue I
    → Declared (declared_pairs counts) (rules_of (rows_table rows)) I → Selected (declared_pairs counts) (rules_of (rows_table rows)) S I k positive fired

-- What a rule file declares and says: slots with their names, and rules over slot and value numbers (document 01, 'Rule text').
use Rattle.std.specs.Prelude.{ℕ, zero, suc, List, [], map, length, get_or}
use Rattle.text.specs.Tokens.{Name, place}
use Rattle.model.specs.Rules.{Pair, Rule}
use Rattle.grammar.specs.Grammar.{SlotvalTree, slotval_name, slotval_none}

-- A slot as declared: its name, and the names of its values, numbered from 1 in declared order.
pub record Slot : Type 0 where
  pub name : Name
  pub values : List Name

-- A file: slots numbered from 0, rules numbered from 1.
pub record File : Type 0 where
  pub slots : List Slot
  pub rules : List Rule

-- The bytes of names.
abbrev pub spellings : List Name → List (List ℕ)
spellings ns = map (λ (n : Name). n.letters) ns

-- The place of a name among names, from 1; 0 where it is not there.
abbrev pub place_in : List Name → Name → ℕ
place_in ns n = place n.letters (spellings ns)

-- The names of slots.
abbrev pub slot_names : List Slot → List Name
slot_names slots = map (λ (s : Slot). s.name) slots

-- A slot without values, which stands for one that is not there.
abbrev pub no_slot : Slot
no_slot = record { name = record { start = 0; letters = [] }; values = [] }

-- The names of the values of slot `s`.
abbrev pub values_of : List Slot → ℕ → List Name
values_of slots s = (get_or slots s no_slot).values

-- The declared name of a pair's slot.
abbrev pub slot_named : List Slot → Pair → Name
slot_named slots p = (get_or slots p.slot no_slot).name

-- The value of a number as a rule writes it, by the declared names of its slot's values: NONE for 0, and names from 1 on.
abbrev pub slotval_of : List Name → ℕ → SlotvalTree
slotval_of names zero = slotval_none
slotval_of names (suc k) = slotval_name (get_or names k no_slot.name)

-- The value of a pair as a rule writes it.
abbrev pub value_written : List Slot → Pair → SlotvalTree
value_written slots p = slotval_of (values_of slots p.slot) p.value

-- How many values each slot has.
abbrev pub slot_counts : List Slot → List ℕ
slot_counts slots = map (λ (s : Slot). length s.values) slots

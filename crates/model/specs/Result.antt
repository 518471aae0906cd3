-- What is worked out of C alone: document 01, 'If C then holds two values for a slot ..'. Slots are below `slots`, values below `values`.
-- Value 0 is a value like any other in a pair and in C. Only a card's 0 says something else: no value. Where nothing is found the answer is the bound itself.
use Rattle.std.specs.Prelude.{ℕ, zero, suc, ◌<◌, Bool, cond, List, [], ◌∷◌, ◌++◌, T, leb, ltb, get_or}
use Rattle.laws.specs.Below.{first_below, count_below}
use Rattle.laws.specs.Tabulated.{tabulate}
use Rattle.model.specs.Rules.{Pair, Pairs}

-- A slot and a value.
abbrev pub pair : ℕ → ℕ → Pair
pair s v = record { slot = s; value = v }

module _ (values : ℕ) (C : Pairs) where
  -- The lowest value that C has for a slot; `values` where it has none.
  unfoldable pub value_in : ℕ → ℕ
  value_in s = first_below (λ v. C (pair s v)) values

  -- C has a value for a slot.
  unfoldable pub is_changed : ℕ → Bool
  is_changed s = ltb (value_in s) values

  -- A slot is in conflict: C has two or more values for it.
  unfoldable pub in_conflict : ℕ → Bool
  in_conflict s = leb 2 (count_below (λ v. C (pair s v)) values)

  -- The new value of a slot: C's where C has one, else the card's.
  unfoldable pub new_value : List ℕ → ℕ → ℕ
  new_value S s = cond (is_changed s) (value_in s) (get_or S s 0)

-- The lowest slot in conflict, the second number of 40; `slots` where none is.
unfoldable pub conflict_slot : ℕ → ℕ → Pairs → ℕ
conflict_slot slots values C = first_below (in_conflict values C) slots

-- The new card: the new value of each slot.
unfoldable pub new_card : ℕ → ℕ → Pairs → List ℕ → List ℕ
new_card slots values C S = tabulate (new_value values C S) slots

-- The changes as a slip: the slots that C has a value for, rising, each with that value.
unfoldable pub changes_slip : ℕ → ℕ → Pairs → List Pair
changes_slip zero values C = []
changes_slip (suc s) values C = changes_slip s values C ++ cond (is_changed values C s) (pair s (value_in values C s) ∷ []) []

-- Every pair of C has its slot and its value within the bounds.
pub record Bounded (slots values : ℕ) (C : Pairs) : Type 0 where
  pub slot_below : (p : Pair) → T (C p) → p.slot < slots
  pub value_below : (p : Pair) → T (C p) → p.value < values

-- Computed examples of what is worked out of C: document 01, 'If C then holds two values for a slot ..'; value 0 as document 02, section 6, has it.
-- Assumes nothing.
use mathlib.Core.Path.{◌≡◌, refl}
use mathlib.Core.Bool.{true, false}
use mathlib.Core.List.{List, [], ◌∷◌}
use Rattle.model.specs.Rules.{Pair, Pairs, among}
use Rattle.model.specs.Result.{pair, in_conflict, conflict_slot, new_card, changes_slip}
use Rattle.model.proofs.CaseRules.{computes, x, y, z, v0, v1}

-- The set of the pairs of a list.
unfoldable pub set : List Pair → Pairs
set I p = among p I

-- C's value where C has one, else the card's; no value stays no value.
pub card_plain : new_card 3 3 (set (pair y v1 ∷ [])) (v0 ∷ v0 ∷ 0 ∷ []) ≡ v0 ∷ v1 ∷ 0 ∷ []
unfolding computes set
card_plain = refl

-- A withdrawal in C is a value of C: the card goes back to no value.
pub card_withdrawn : new_card 3 3 (set (pair y 0 ∷ [])) (v0 ∷ v0 ∷ v0 ∷ []) ≡ v0 ∷ 0 ∷ v0 ∷ []
unfolding computes set
card_withdrawn = refl

-- The slip has it as a change.
pub slip_withdrawn : changes_slip 3 3 (set (pair y 0 ∷ [])) ≡ pair y 0 ∷ []
unfolding computes set
slip_withdrawn = refl

-- The changes stand in slot order, each once, a repeated card's value too.
pub slip_order : changes_slip 3 3 (set (pair z v1 ∷ pair x v0 ∷ pair z v1 ∷ [])) ≡ pair x v0 ∷ pair z v1 ∷ []
unfolding computes set
slip_order = refl

-- An empty C is an empty slip.
pub slip_empty : changes_slip 3 3 (set []) ≡ []
unfolding computes set
slip_empty = refl

-- Two values make a conflict, a withdrawal and a value too; the same pair twice does not, nor one value in each of two slots.
pub conflicts : in_conflict 3 (set []) x
    ∷ in_conflict 3 (set (pair x v0 ∷ [])) x
    ∷ in_conflict 3 (set (pair x v0 ∷ pair x v1 ∷ [])) x
    ∷ in_conflict 3 (set (pair x 0 ∷ pair x v1 ∷ [])) x
    ∷ in_conflict 3 (set (pair x v1 ∷ pair x v1 ∷ [])) x
    ∷ in_conflict 3 (set (pair x v0 ∷ pair y v1 ∷ [])) x
    ∷ []
    ≡ false ∷ false ∷ true ∷ true ∷ false ∷ false ∷ []
unfolding computes set
conflicts = refl

-- The lowest slot in conflict is named; 3, the number of slots, says that there is none.
pub lowest : conflict_slot 3 3 (set (pair z v0 ∷ pair z v1 ∷ pair y v0 ∷ pair y v1 ∷ []))
    ∷ conflict_slot 3 3 (set (pair z v0 ∷ pair z v1 ∷ []))
    ∷ conflict_slot 3 3 (set (pair z v0 ∷ []))
    ∷ []
    ≡ 1 ∷ 2 ∷ 3 ∷ []
unfolding computes set
lowest = refl

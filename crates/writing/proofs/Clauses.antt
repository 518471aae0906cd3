-- The condition and the assignments of a rule in its places, one part after the other.
-- Assumes nothing.
use Prim.Native.Nat.{ℕ, ◌+◌, ◌≤◌, ◌<◌}
use native.Mathlib.Omega.{arith}
use mathlib.Core.Path.{◌≡◌, sym, ap, ◌∙◌}
use mathlib.Core.List.{List, [], ◌∷◌, ◌++◌, map, append-nil}
use lib.ListN.{get_or}
use Rattle.laws.specs.Quoted.{bytes}
use Rattle.model.specs.Rules as model
use Rattle.model.specs.Result.{pair}
use Rattle.table.specs.declared.Rule.{Rule}
use Rattle.table.specs.Zero.{zero_literal, zero_assignment}
use Rattle.table.specs.inner.Shape.{RuleShaped}
use Rattle.laws.specs.Limits.{literal_limit, assignment_limit}
use Rattle.table.specs.Link.{literal_of, literals_of, assignments_of}
use Rattle.table.proofs.Walks.{literals_from, literals_start, literals_next, literals_end, assigned_from, assigned_start, assigned_next, assigned_end}
use Rattle.writing.specs.inner.Written.{Pairing, followed, separated, literal_bytes, condition_bytes, assign_bytes}

module _ (paired : Pairing) (r : Rule) where
  -- A literal of the rule, and those from place j on, each after AND.
  abbrev pub literal_at : ℕ → List ℕ
  literal_at j = literal_bytes paired (literal_of (get_or r.literals j zero_literal))

  unfoldable pub more_literals : ℕ → List ℕ
  more_literals j = followed (bytes " AND ") (map (literal_bytes paired) (literals_from r j))

  -- An assignment of the rule, and those from place j on, each after a comma.
  abbrev pub assignment_at : ℕ → List ℕ
  assignment_at j = paired (bytes " := ") (pair (get_or r.assignments j zero_assignment).slot (get_or r.assignments j zero_assignment).value)

  unfoldable pub more_assignments : ℕ → List ℕ
  more_assignments j = followed (bytes ", ") (map (paired (bytes " := ")) (assigned_from r j))

  -- The assignments without braces.
  abbrev pub listed : List ℕ
  listed = separated (bytes ", ") (map (paired (bytes " := ")) (assignments_of r))

  -- No literal.
  pub condition_none : r.tested ≡ 0 → condition_bytes paired (literals_of r) ≡ bytes "TRUE"
  unfolding condition_bytes
  condition_none z = ap (condition_bytes paired) (sym (literals_start r) ∙ literals_end r 0 (omega arith))

  pub literals_over : (j : ℕ) → r.tested ≤ j → more_literals j ≡ []
  unfolding more_literals followed
  literals_over j h = ap (λ (ms : List model.Literal). followed (bytes " AND ") (map (literal_bytes paired) ms)) (literals_end r j h)

  pub assignments_over : (j : ℕ) → r.assigned ≤ j → more_assignments j ≡ []
  unfolding more_assignments followed
  assignments_over j h = ap (λ (ps : List model.Pair). followed (bytes ", ") (map (paired (bytes " := ")) ps)) (assigned_end r j h)

  module _ (sh : RuleShaped r) where
    -- The first literal and the others.
    pub condition_some : 0 < r.tested → r.tested ≤ literal_limit → condition_bytes paired (literals_of r) ≡ literal_at 0 ++ more_literals 1
    unfolding condition_bytes separated more_literals
    condition_some h k = ap (condition_bytes paired) (sym (literals_start r) ∙ literals_next r sh 0 h k)

    pub literals_on : (j : ℕ) → j < r.tested → r.tested ≤ literal_limit → more_literals j ≡ bytes " AND " ++ (literal_at j ++ more_literals (j + 1))
    unfolding followed more_literals
    literals_on j h k = ap (λ (ms : List model.Literal). followed (bytes " AND ") (map (literal_bytes paired) ms)) (literals_next r sh j h k)

    -- The first assignment and the others.
    pub listed_some : 0 < r.assigned → r.assigned ≤ assignment_limit → listed ≡ assignment_at 0 ++ more_assignments 1
    unfolding separated more_assignments
    listed_some h k = ap (λ (ps : List model.Pair). separated (bytes ", ") (map (paired (bytes " := ")) ps)) (sym (assigned_start r) ∙ assigned_next r sh 0 h k)

    pub assignments_on : (j : ℕ) → j < r.assigned → r.assigned ≤ assignment_limit → more_assignments j ≡ bytes ", " ++ (assignment_at j ++ more_assignments (j + 1))
    unfolding followed more_assignments
    assignments_on j h k = ap (λ (ps : List model.Pair). followed (bytes ", ") (map (paired (bytes " := ")) ps)) (assigned_next r sh j h k)

    -- One assignment stands alone, two or more stand in braces.
    pub assign_one : r.assigned ≡ 1 → r.assigned ≤ assignment_limit → assign_bytes paired (assignments_of r) ≡ listed
    unfolding assign_bytes separated followed
    assign_one e k =
        let a = sym (assigned_start r) ∙ assigned_next r sh 0 (omega arith) k ∙ ap (λ (ps : List model.Pair). pair (get_or r.assignments 0 zero_assignment).slot (get_or r.assignments 0 zero_assignment).value ∷ ps) (assigned_end r 1 (omega arith)) in
        ap (assign_bytes paired) a ∙ sym (alone (pair (get_or r.assignments 0 zero_assignment).slot (get_or r.assignments 0 zero_assignment).value))
        ∙ ap (λ (ps : List model.Pair). separated (bytes ", ") (map (paired (bytes " := ")) ps)) (sym a)
      where
        alone : (p : model.Pair) → separated (bytes ", ") (map (paired (bytes " := ")) (p ∷ [])) ≡ paired (bytes " := ") p
        alone p = append-nil (paired (bytes " := ") p)

    pub assign_more : 2 ≤ r.assigned → r.assigned ≤ assignment_limit → assign_bytes paired (assignments_of r) ≡ bytes "{ " ++ (listed ++ bytes " }")
    unfolding assign_bytes
    assign_more h k =
        let a = sym (assigned_start r) ∙ assigned_next r sh 0 (omega arith) k ∙ ap (λ (ps : List model.Pair). pair (get_or r.assignments 0 zero_assignment).slot (get_or r.assignments 0 zero_assignment).value ∷ ps) (assigned_next r sh 1 (omega arith) k) in
        ap (assign_bytes paired) a ∙ ap (λ (ps : List model.Pair). bytes "{ " ++ (separated (bytes ", ") (map (paired (bytes " := ")) ps) ++ bytes " }")) (sym a)

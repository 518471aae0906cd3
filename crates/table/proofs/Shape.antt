-- What holding a table, a rule or a slot tells of its arrays and bytes: the shape law.
-- Assumes nothing.
use mathlib.Core.Path.{◌≡◌}
use mathlib.Core.List.{List, [], ◌∷◌}
use Prim.Native.Nat.{ℕ, zero, suc, ◌<◌}
use native.Mathlib.Nat.{le_of_suc-le-suc}
use native.Mathlib.Omega.{arith}
use lib.ListN.{length, get_or}
use mir.Val.{Val}
use base.Fml.{Fml}
use borrow.Struct.Parts.{StructFacts}
use denote.Array.{each}
use denote.Shadow.{shadow}
use Rattle.table.specs.declared.Literal.{Literal}
use Rattle.table.specs.declared.Assignment.{Assignment}
use Rattle.table.specs.declared.Rule.{Rule}
use Rattle.table.specs.declared.Slot.{Slot}
use Rattle.table.specs.declared.Table.{Table}
use Rattle.laws.specs.Limits.{slot_limit, rule_limit, literal_limit, assignment_limit}
use Rattle.table.specs.Zero.{zero_literal, zero_assignment, zero_rule, zero_slot}
use Rattle.table.specs.inner.Shape.{LiteralShaped, AssignmentShaped, RuleShaped, SlotShaped, Shaped}
use Rattle.table.specs.contracts.Literal as literal
use Rattle.table.specs.contracts.Assignment as assignment
use Rattle.table.specs.contracts.Rule as rule
use Rattle.table.specs.contracts.Slot as slot
use Rattle.table.specs.contracts.Table as table
use Rattle.table.proofs.Table.TheLaws.{the_maybe}

-- What holds of each element of an array holds of the one at a place.
each_at : {X : Type 0} (f : X → List Val → Fml) (xs : List X) (us : List Val) (d : X) (i : ℕ)
    → i < length xs → shadow (each X f xs us) → (u : Val) × shadow (f (get_or xs i d) (u ∷ []))
each_at f [] us d i h g = absurd (omega arith)
each_at f (x ∷ xs) [] d i h g = absurd g
each_at f (x ∷ xs) (u ∷ us) d zero h g = (u, g.0)
each_at f (x ∷ xs) (u ∷ us) d (suc i) h g = each_at f xs us d i (le_of_suc-le-suc h) g.1

-- The field at place k of a struct is at `.1 .1`, then k times `.1`, then `.0`; there an array's length is at `.1 .0 .1`, its elements at `.1 .1`, a byte's range at `.1`.
pub literal_shaped : (l : Literal) (vs : List Val) → shadow ((literal.the_row).own_val l vs) → LiteralShaped l
literal_shaped l vs g = record { slot_byte = g.1.1.1.1.0.1; value_byte = g.1.1.1.1.1.0.1 }

pub assignment_shaped : (a : Assignment) (vs : List Val) → shadow ((assignment.the_row).own_val a vs) → AssignmentShaped a
assignment_shaped a vs g = record { slot_byte = g.1.1.0.1; value_byte = g.1.1.1.0.1 }

pub rule_shaped : (r : Rule) (vs : List Val) → shadow ((rule.the_row).own_val r vs) → RuleShaped r
rule_shaped r vs g =
    let l : length r.literals ≡ literal_limit = g.1.1.1.1.0.1.0.1 in
    let a : length r.assignments ≡ assignment_limit = g.1.1.1.1.1.1.0.1.0.1 in
    record {
      slot_byte = g.1.1.0.1;
      value_byte = g.1.1.1.0.1;
      literal_places = l;
      each_literal = λ j h. (let k : j < length r.literals = omega arith in let e = each_at (λ y us. (literal.the_row).own_val y us) r.literals g.1.1.1.1.0.0 zero_literal j k g.1.1.1.1.0.1.1 in literal_shaped (get_or r.literals j zero_literal) (e.0 ∷ []) e.1);
      assignment_places = a;
      each_assignment = λ j h. (let k : j < length r.assignments = omega arith in let e = each_at (λ y us. (assignment.the_row).own_val y us) r.assignments g.1.1.1.1.1.1.0.0 zero_assignment j k g.1.1.1.1.1.1.0.1.1 in assignment_shaped (get_or r.assignments j zero_assignment) (e.0 ∷ []) e.1);
      stratum_small = g.1.1.1.1.1.1.1.1.0.1;
    }

pub slot_shaped : (s : Slot) (vs : List Val) → shadow ((slot.the_row).own_val s vs) → SlotShaped s
slot_shaped s vs g = record { value_places = g.1.1.1.0.1.0.1 }

-- A table that the code has has all places for rules.
pub all_places : (t : Table) (vs : List Val) → shadow ((table.the_row).own_val t vs) → length t.rules ≡ rule_limit
all_places t vs g = g.1.1.1.1.0.1.0.1

-- A table is shaped by what holds of its slots and its rules.
by_parts : (t : Table) (us ws : List Val) → length t.slots ≡ slot_limit → shadow (each Slot (λ y vs. (slot.the_row).own_val y vs) t.slots us)
    → length t.rules ≡ rule_limit → shadow (each Rule (λ y vs. (rule.the_row).own_val y vs) t.rules ws) → Shaped t
by_parts t us ws s gs r gr = record {
  slot_places = s;
  each_slot = λ i h. (let k : i < length t.slots = omega arith in let e = each_at (λ y vs. (slot.the_row).own_val y vs) t.slots us zero_slot i k gs in slot_shaped (get_or t.slots i zero_slot) (e.0 ∷ []) e.1);
  rule_places = λ h. omega (arith, h, r);
  each_rule = λ i k. (let e = each_at (λ y vs. (rule.the_row).own_val y vs) t.rules ws zero_rule i k gr in rule_shaped (get_or t.rules i zero_rule) (e.0 ∷ []) e.1);
}

-- One by value is.
pub shaped : (t : Table) (vs : List Val) → shadow ((table.the_row).own_val t vs) → Shaped t
shaped t vs g = by_parts t g.1.1.0.0 g.1.1.1.1.0.0 g.1.1.0.1.0.1 g.1.1.0.1.1 g.1.1.1.1.0.1.0.1 g.1.1.1.1.0.1.1

-- One that is lent is.
pub lent_shaped : (t : Table) → StructFacts table.the_type the_maybe t → Shaped t
lent_shaped t g = by_parts t g.0.0 g.1.1.0.0 g.0.1.0.1 g.0.1.1 g.1.1.0.1.0.1 g.1.1.0.1.1

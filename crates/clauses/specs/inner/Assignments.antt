-- What the steps over assignments mean.
use Rattle.std.specs.Prelude.{ℕ, Result, Ok, Err, ◌≤◌, ◌<◌, List, [], ◌∷◌, map, length, take}
use Rattle.laws.specs.Filled.{filled}
use Rattle.laws.specs.inner.Filled.{Filled}
use Rattle.text.specs.Tokens.{Token, GETS}
use Rattle.model.specs.Rules.{Pair}
use Rattle.laws.specs.Limits.{assignment_limit}
use Rattle.table.specs.Zero.{zero_assignment}
use Rattle.table.specs.Link.{assignment_of}
use Rattle.grammar.specs.Files.{Slot}
use Rattle.grammar.specs.Reading.{Part, took, ◌then◌, expects, read_value, read_assignment}
use Rattle.model.specs.Result.{pair}
use Rattle.steps.specs.inner.Places.{read_part}
use Rattle.steps.specs.declared.parts.Parts.{Parts}
use Rattle.table.specs.declared.Assignment.{Assignment}
use Rattle.steps.specs.declared.step.Fault.{Fault}
use Rattle.steps.specs.declared.step.Read.{Read}
use Rattle.grammar.specs.TableFor.{assignment_for}

-- The assignment places of a rule, with the number used.
abbrev pub AssignmentPlaces : Type 0
AssignmentPlaces = Parts Assignment assignment_limit

-- The assignment places for these pairs; the places that are not used are zero.
abbrev pub assignment_list : List Pair → AssignmentPlaces
assignment_list ps = record { places = filled assignment_limit zero_assignment (map assignment_for ps); count = length ps }

-- The assignment places that are not used are zero.
abbrev pub UnusedZero : AssignmentPlaces → Type 0
UnusedZero list = Filled assignment_limit zero_assignment list.places list.count

-- The pairs in the assignment places that are used.
abbrev pub pairs_in : AssignmentPlaces → List Pair
pairs_in list = map assignment_of (take list.count list.places)

-- The `:=` and the value of an assignment, after its slot.
unfoldable pub value_assignment : List Slot → ℕ → List Token → Part Pair
value_assignment slots s ts =
    expects GETS ts then λ u t2.
    read_value slots s t2 then λ v t3.
    took (pair s v) t3

-- One assignment alone.
unfoldable pub single_assignment : List Slot → List Token → Part (List Pair)
single_assignment slots ts = read_assignment slots [] ts then λ p rest. took (p ∷ []) rest

-- An assignment read.
abbrev pub assignment_part : List ℕ → ℕ → Result (Read Assignment) Fault → Part Pair
assignment_part rest base r = read_part assignment_of rest base r

-- The position after it moves on and stays in the remainder.
abbrev pub AssignmentLies : ℕ → ℕ → Result (Read Assignment) Fault → Type 0
AssignmentLies size from (Ok r) = (from < r.next) × (r.next ≤ size)
AssignmentLies size from (Err k) = Unit

-- Assignments read: the pairs in the used places.
abbrev pub assignments_part : List ℕ → ℕ → Result (Read AssignmentPlaces) Fault → Part (List Pair)
assignments_part rest base r = read_part pairs_in rest base r

-- The position after them moves on and stays in the remainder, and the places that are not used are zero.
abbrev pub AssignmentsLies : ℕ → ℕ → Result (Read AssignmentPlaces) Fault → Type 0
AssignmentsLies size from (Ok r) = (from < r.next) × (r.next ≤ size) × UnusedZero r.value
AssignmentsLies size from (Err k) = Unit

-- What the steps over conditions mean.
use Rattle.std.specs.Prelude.{ℕ, ◌<◌, ◌≤◌, Result, Ok, Err, List, map, take}
use Rattle.model.specs.Rules as model
use Rattle.table.specs.Link.{literal_of}
use Rattle.laws.specs.Limits.{literal_limit}
use Rattle.laws.specs.inner.Filled.{Filled}
use Rattle.table.specs.Zero.{zero_literal}
use Rattle.grammar.specs.Reading.{Part}
use Rattle.steps.specs.declared.step.Fault.{Fault}
use Rattle.steps.specs.declared.step.Read.{Read}
use Rattle.steps.specs.inner.Places.{read_part}
use Rattle.steps.specs.declared.parts.Parts.{Parts}
use Rattle.table.specs.declared.Literal.{Literal}

-- The literal places of a rule, with the number used.
abbrev pub LiteralPlaces : Type 0
LiteralPlaces = Parts Literal literal_limit

-- The literals in the places used.
abbrev pub literals_in : LiteralPlaces → List model.Literal
literals_in l = map literal_of (take l.count l.places)

-- A condition read.
abbrev pub condition_part : List ℕ → ℕ → Result (Read LiteralPlaces) Fault → Part (List model.Literal)
condition_part rest base r = read_part literals_in rest base r

-- The position after it moves on and stays in the remainder, and the places that are not used are zero.
abbrev pub ConditionLies : ℕ → ℕ → Result (Read LiteralPlaces) Fault → Type 0
ConditionLies size from (Ok r) = (from < r.next) × (r.next ≤ size) × Filled literal_limit zero_literal r.value.places r.value.count
ConditionLies size from (Err k) = Unit

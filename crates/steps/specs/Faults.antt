-- The number of each refusal of a statement, as document 01 counts them.
use Rattle.std.specs.Prelude.{ℕ}
use Rattle.steps.specs.declared.step.Fault.{Fault}
use Rattle.steps.specs.declared.step.Fault.TheVariants as fault

abbrev pub fault_number : Fault → ℕ
fault_number fault.BadByte = 11
fault_number fault.OutOfPlace = 12
fault_number fault.LongName = 13
fault_number fault.DeclaredTwice = 14
fault_number fault.TooMany = 15
fault_number fault.Undeclared = 16
fault_number fault.AssignedTwice = 17

-- The place of a name by numbers, as the code has it. Nothing here need be believed.
use Rattle.std.specs.Prelude.{Result, Ok, Err}
use Rattle.refusals.specs.declared.Refusal.{Refusal}
use Rattle.refusals.specs.Numbers.{refusal_number}
use Rattle.library.specs.declared.RlName.{RlName}
use Rattle.library.specs.declared.places.Place.{Place}

-- A place, or a refusal with its number.
abbrev pub place_numbers : Result Place Refusal → RlName
place_numbers (Ok p) = record { number = 0; start = p.start; size = p.size }
place_numbers (Err r) = record { number = refusal_number r; start = 0; size = 0 }

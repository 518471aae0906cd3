-- Document 01, 'Rule text': a name is the very stretch of the text where it was declared.
use Rattle.std.specs.Prelude.{ℕ, List}
use Rattle.laws.specs.Listed.{Each}
use Rattle.text.specs.Tokens.{Name}
use Rattle.text.specs.Cut.{Stands}
use Rattle.grammar.specs.Files.{Slot}

-- The name of a slot has a property of names, and so has the name of each of its values.
abbrev pub NamedBy : (Name → Type 0) → Slot → Type 0
NamedBy P s = P s.name × Each P s.values

-- Every name of some slots lies inside the text and is the text at its place.
abbrev pub SlotsStand : List ℕ → List Slot → Type 0
SlotsStand text = Each (NamedBy (Stands text))

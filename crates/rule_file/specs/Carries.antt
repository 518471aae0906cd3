-- What an accepted text's table is to its file.
use Rattle.std.specs.Prelude.{◌≡◌, List, cond, ℕ, ◌-◌, length, get_or}
use Rattle.laws.specs.Numbers.{Numbered}
use Rattle.model.specs.Rules.{Rule}
use Rattle.model.specs.Strata.{weak}
use Rattle.model.specs.Circles.{circle_of}
use Rattle.model.specs.Least.{strata_of}
use Rattle.text.specs.Tokens.{Name}
use Rattle.table.specs.declared.Table.{Table}
use Rattle.table.specs.declared.Way.{Way}
use Rattle.table.specs.declared.Way.TheVariants.{Strata, Marks}
use Rattle.table.specs.Link.{rules_of, stratum_at, value_counts}
use Rattle.names.specs.Names.{Showing, not_shown, has_slot, has_value, show_slot, show_value}
use Rattle.grammar.specs.Files.{Slot, File, no_slot, values_of, slot_counts}
use Rattle.grammar.specs.Meaning.{IsFile}

-- A name as it was declared: its letters, where they stand.
abbrev pub declared : Name → Showing
declared n = record { code = 0; start = n.start; part = n.letters }

-- The name of a slot as a file declares it; 31 where the file lacks the slot.
abbrev pub declared_slot : List Slot → ℕ → Showing
declared_slot slots s = cond (has_slot (length slots) s) (declared (get_or slots s no_slot).name) not_shown

-- The same of a value of a slot.
abbrev pub declared_value : List Slot → ℕ → ℕ → Showing
declared_value slots s v =
    cond (has_slot (length slots) s)
    (cond (has_value (length (values_of slots s)) v) (declared (get_or (values_of slots s) (v - 1) no_slot.name)) not_shown)
    not_shown

-- What test 18 says of rules: that no circle through a NOT is there; without it, nothing.
abbrev pub Passed18 : Way → List Rule → Type 0
Passed18 Strata rs = circle_of weak rs ≡ 0
Passed18 Marks rs = Unit

-- The strata of rules as they are read: the least; without test 18, 0 throughout.
abbrev pub strata_by : Way → List Rule → ℕ → ℕ
strata_by Strata rs n = strata_of weak rs n
strata_by Marks rs n = 0

-- The table carries the rules and slots of the file that the text is, shows the names that it declares, and has the strata of the response that it is read for.
pub record CarriesBy (way : Way) (text : List ℕ) (t : Table) : Type 0 where
  pub file : File
  pub is_file : IsFile text file
  pub rules_are : rules_of t ≡ file.rules
  pub counts_are : value_counts t ≡ slot_counts file.slots
  pub slots_shown : (s : ℕ) → show_slot text t s ≡ declared_slot file.slots s
  pub values_shown : (s v : ℕ) → show_value text t s v ≡ declared_value file.slots s v
  pub strata_are : (n : ℕ) → Numbered (length file.rules) n → stratum_at t n ≡ strata_by way file.rules n
  pub no_circle : Passed18 way file.rules

-- The same of a table with the least strata.
abbrev pub Carries : List ℕ → Table → Type 0
Carries = CarriesBy Strata

-- The number of each refusal and its second number, 0 unless stated: document 01, 'Refusals by who can cause them'; 33 and 34 by document 02, section 1, 41 and 42 by section 3, 44 by section 4.
use Rattle.std.specs.Prelude.{ℕ}
use Rattle.steps.specs.Faults.{fault_number}
use Rattle.refusals.specs.declared.ChangeFault.{ChangeFault}
use Rattle.refusals.specs.declared.ChangeFault.TheVariants as change
use Rattle.refusals.specs.declared.Output.{Output}
use Rattle.refusals.specs.declared.Output.TheVariants as output
use Rattle.refusals.specs.declared.Refusal.{Refusal}
use Rattle.refusals.specs.declared.Refusal.TheVariants as refusal

-- 25 slot not below the slot count, 26 slot not above the one before, 27 value above the slot's last.
abbrev pub change_number : ChangeFault → ℕ
change_number change.UnknownSlot = 25
change_number change.NotRising = 26
change_number change.UnknownValue = 27

-- 30 an output too short: 1 card, 2 changes, 3 fired record.
abbrev pub output_number : Output → ℕ
output_number output.Card = 1
output_number output.Changes = 2
output_number output.Fired = 3

-- The number.
abbrev pub refusal_number : Refusal → ℕ
refusal_number refusal.LongText = 10
refusal_number (refusal.Statement f rules) = fault_number f
refusal_number (refusal.Circle rule) = 18
refusal_number refusal.CardSize = 20
refusal_number refusal.CardCount = 21
refusal_number (refusal.CardValue slot) = 22
refusal_number refusal.CardPadding = 23
refusal_number refusal.SlipSize = 24
refusal_number (refusal.Change f place) = change_number f
refusal_number refusal.SlipPadding = 28
refusal_number (refusal.NoRoom o) = 30
refusal_number refusal.UnsoundTable = 31
refusal_number refusal.FullTally = 32
refusal_number refusal.ShortPrint = 33
refusal_number refusal.LongPrint = 34
refusal_number (refusal.Conflict slot) = 40
refusal_number refusal.Clash = 41
refusal_number refusal.Unknown = 42
refusal_number refusal.NoEditor = 44

-- The second number.
abbrev pub refusal_second : Refusal → ℕ
refusal_second refusal.LongText = 0
refusal_second (refusal.Statement f rules) = rules
refusal_second (refusal.Circle rule) = rule
refusal_second refusal.CardSize = 0
refusal_second refusal.CardCount = 0
refusal_second (refusal.CardValue slot) = slot
refusal_second refusal.CardPadding = 0
refusal_second refusal.SlipSize = 0
refusal_second (refusal.Change f place) = place
refusal_second refusal.SlipPadding = 0
refusal_second (refusal.NoRoom o) = output_number o
refusal_second refusal.UnsoundTable = 0
refusal_second refusal.FullTally = 0
refusal_second refusal.ShortPrint = 0
refusal_second refusal.LongPrint = 0
refusal_second (refusal.Conflict slot) = slot
refusal_second refusal.Clash = 0
refusal_second refusal.Unknown = 0
refusal_second refusal.NoEditor = 0

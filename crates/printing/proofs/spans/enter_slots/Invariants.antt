use mathlib.Core.List.{List}
use lib.ListN.{take}
use Rattle.grammar.specs.Files.{Slot}
use Rattle.lines.specs.inner.Index.{Indexed}
use Rattle.printing.specs.inner.Tabled.{Tabled}
use Rattle.printing.proofs.spans.enter_slots.Given as goal

abbrev pub invariant-loop-i : goal.invariant-loop-i
invariant-loop-i l = (slots : List Slot) → Tabled l.text slots l.t → Indexed l.text (take l.i slots) l.slotspans l.valuespans

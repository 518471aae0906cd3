use mathlib.Core.List.{map}
use Rattle.cards.specs.Forms.{changes_in}
use Rattle.writing.proofs.Putting.{Left}
use Rattle.listing.specs.Listing.{change_line}
use Rattle.listing.specs.Printed.{changes_text}
use Rattle.listing.proofs.ChangeLines.{changes_from}
use Rattle.listing.proofs.changes.put_changes.Given as goal

abbrev pub invariant-loop-i : goal.invariant-loop-i
invariant-loop-i l = Left l.initial.sheet (changes_text (map (change_line l.text l.t) (changes_in l.changes))) l.sheet (changes_from l.text l.t l.changes l.i)

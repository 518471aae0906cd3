use mathlib.Core.Path.{◌≡◌}
use mathlib.Core.Bool.{false}
use lib.ListN.{drop, replicate}
use Rattle.table.specs.inner.Flat.{add_pairs, pair_places}
use Rattle.cards.specs.Cards.{changes_of}
use Rattle.response.proofs.slips.flags_of.Given as goal

abbrev pub invariant-loop-j : goal.invariant-loop-j
invariant-loop-j l = add_pairs (drop l.j (changes_of l.slip)) l.flags ≡ add_pairs (changes_of l.slip) (replicate pair_places false)

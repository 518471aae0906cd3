-- `response::slips::slip_of` meets its contract.
use Rattle.response.proofs.SlipLaws.{listed_start, listed_over, listed_more, listed_end}
use borrow.Author.Rules.{rules}
use native.Mathlib.Omega.{arith}
use Rattle.laws.specs.Limits.{row}
use Rattle.response.proofs.slips.slip_of.Goals.{in-Some, in_default}
use Rattle.response.proofs.slips.slip_of.Goals as goal

pub loop-s-init : goal.loop-s-init
loop-s-init c = listed_start _

pub returns : goal.returns
returns c = listed_end _ _ _ _ _ (search rules) c.loop-s.invariant

pub loop-s-preserved : goal.loop-s-preserved
loop-s-preserved c = elim c.match-changed_value.branch [
  | in-Some w ↦ rw (w.listed-is, w.count-is) (listed_more _ _ _ _ _ w.in-Some.ensures.1 w.in-Some.ensures.0 (omega (arith, c.requires)) c.loop-s.invariant)
  | in_default w ↦ rw (w.listed-is, w.count-is) (listed_over _ _ row _ _ w.in_default.ensures (omega arith) c.loop-s.invariant)
]

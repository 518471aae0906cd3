-- `cards::change_fault` meets its contract.
use mathlib.Core.Path.{sym}
use native.Mathlib.Omega.{arith}
use Rattle.cards.proofs.Tested.{fault_25, fault_26, fault_27, no_fault}
use Rattle.cards.proofs.change_fault.Goals as goal

pub returns-then-counts-slot : goal.returns-then-counts-slot
returns-then-counts-slot c = sym (fault_25 c.args.counts.now c.args.low _ (omega arith))

pub returns-then-slot-low : goal.returns-then-slot-low
returns-then-slot-low c = sym (fault_26 c.args.counts.now c.args.low _ (omega arith) (omega arith))

pub returns-then-last-value : goal.returns-then-last-value
returns-then-last-value c = sym (fault_27 c.args.counts.now c.args.low _ (omega arith) (omega arith) (omega arith))

pub returns : goal.returns
returns c = sym (no_fault c.args.counts.now c.args.low _ (omega arith) (omega arith) (omega arith))

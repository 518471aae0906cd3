-- `rules::put_rules` meets its contract.
use Prim.Native.Nat.{ℕ, ◌+◌}
use mathlib.Core.Path.{◌≡◌, ap₂}
use mathlib.Core.Bool.{Bool}
use mathlib.Core.List.{◌++◌}
use borrow.Author.Rules.{rules}
use Rattle.writing.proofs.Putting.{puts_as, Left, left_start, left_on, left_room, left_as, left_end}
use Rattle.listing.specs.Printed.{rule_text, rules_text}
use Rattle.listing.specs.inner.AnswerLines.{fired_line, fired_lines}
use Rattle.listing.proofs.RuleLines.{line_there, rules_from, rules_all, rules_on, rules_over}
use Rattle.listing.proofs.rules.put_rules.Goals.{In-loop-i}
use Rattle.listing.proofs.rules.put_rules.Goals as goal

-- The line of the next rule is left, and those behind it.
next : (c : In-loop-i) → Left c.args.sheet.now (rules_text 1 (fired_lines c.args.t c.args.bits.now)) c.loop-i.sheet (rule_text (c.loop-i.i + 1) (line_there c.args.t c.args.bits.now c.loop-i.i) ++ rules_from c.args.t c.args.bits.now (c.loop-i.i + 1))
next c = left_as (rules_on c.args.t c.args.bits.now c.loop-i.i (search rules)) c.loop-i.invariant

-- What is put of it.
is_one : (i : ℕ) {stratum s : ℕ} {fired f : Bool} → stratum ≡ s → fired ≡ f → rule_text i (fired_line stratum fired) ≡ rule_text i (fired_line s f)
is_one i d e = ap₂ (λ (s : ℕ) (b : Bool). rule_text i (fired_line s b)) d e

pub loop-i-init : goal.loop-i-init
loop-i-init c = left_as (rules_all c.args.t c.args.bits.now) (left_start _ _ c.requires.1)

pub put_rule-requires : goal.put_rule-requires
put_rule-requires c = rw (is_one (c.loop-i.i + 1) c.from-stratum.ensures c.is_fired-fired.ensures) (left_room _ _ (next (goal.at.put_rule-requires c).In-loop-i))

pub loop-i-preserved : goal.loop-i-preserved
loop-i-preserved c = left_on _ (next (goal.at.loop-i-preserved c).In-loop-i) (puts_as (is_one (c.loop-i.i + 1) c.from-stratum.ensures c.is_fired-fired.ensures) c.put_rule.ensures)

pub returns : goal.returns
returns c = left_end (left_as (rules_over c.args.t c.args.bits.now c.loop-i.i (search rules)) c.loop-i.invariant)

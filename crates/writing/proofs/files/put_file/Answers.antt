-- `files::put_file` meets its contract.
use Prim.Native.Nat.{ℕ, ◌+◌, ◌≤◌, ◌<◌}
use native.Mathlib.Omega.{arith}
use mathlib.Core.Path.{ap, ◌∙◌}
use mathlib.Core.List.{List, ◌++◌, append_assoc}
use Rattle.std.proofs.Common.{rules}
use Rattle.table.specs.declared.Table.{Table}
use Rattle.table.proofs.Shape.{shaped}
use Rattle.writing.specs.declared.sheet.Sheet.{Sheet}
use Rattle.writing.proofs.Putting.{Left, puts_in, left_start, left_on, left_room, left_as, left_end}
use Rattle.writing.proofs.Lines.{line_at, lines_from, rules_from, file_lines, lines_on, lines_over, rules_on, rules_over}
use Rattle.writing.proofs.files.put_file.Goals as goal

module _ (text ss vs : List ℕ) (t : Table) {first s : Sheet} {whole : List ℕ} where
  -- In the first loop a slot's line is left, and what is behind it.
  next_line : (i : ℕ) → i < t.width → Left first whole s (lines_from text ss vs t i ++ rules_from text ss vs t 0) → Left first whole s (line_at text ss vs t i ++ (lines_from text ss vs t (i + 1) ++ rules_from text ss vs t 0))
  next_line i h = left_as (ap (λ (ys : List ℕ). ys ++ rules_from text ss vs t 0) (lines_on text ss vs t i h) ∙ append_assoc (line_at text ss vs t i) (lines_from text ss vs t (i + 1)) (rules_from text ss vs t 0))

  -- After it the rules are left.
  rules-left : (i : ℕ) → t.width ≤ i → Left first whole s (lines_from text ss vs t i ++ rules_from text ss vs t 0) → Left first whole s (rules_from text ss vs t 0)
  rules-left i h = left_as (ap (λ (ys : List ℕ). ys ++ rules_from text ss vs t 0) (lines_over text ss vs t i h))

pub loop-i-init : goal.loop-i-init
loop-i-init c =
    let a = c.args.spelling in
    left_as (file_lines a.text.now a.slotspans.now a.valuespans.now c.args.t) (left_start _ _ (omega (arith, c.requires.2)))

pub put_line-requires : goal.put_line-requires
put_line-requires c =
    let a = c.args.spelling in
    let l = c.loop-i in
    let f = c.requires.1 in
    (omega (arith, f.few), f.some l.i (omega arith), f.within l.i (omega arith), left_room _ _ (next_line a.text.now a.slotspans.now a.valuespans.now c.args.t l.i (omega arith) l.invariant))

pub loop-i-preserved : goal.loop-i-preserved
loop-i-preserved c =
    let a = c.args.spelling in
    left_on _ (next_line a.text.now a.slotspans.now a.valuespans.now c.args.t c.loop-i.i (omega arith) c.loop-i.invariant) c.put_line.ensures

pub put_rule-requires : goal.put_rule-requires
put_rule-requires c =
    let a = c.args.spelling in
    let l = c.loop-j in
    (c.requires.0.each_fits l.j (omega arith), c.requires.1.assigns l.j (omega arith), left_room _ _ (left_as (rules_on a.text.now a.slotspans.now a.valuespans.now c.args.t l.j (shaped c.args.t _ c.well_formed.1.1.0) (omega arith) c.requires.0.rules_fit) l.invariant))

pub loop-j-preserved : goal.loop-j-preserved
loop-j-preserved c =
    let a = c.args.spelling in
    left_on _ (left_as (rules_on a.text.now a.slotspans.now a.valuespans.now c.args.t c.loop-j.j (shaped c.args.t _ c.well_formed.1.1.0) (omega arith) c.requires.0.rules_fit) c.loop-j.invariant) c.put_rule.ensures

pub returns : goal.returns
returns c =
    let a = c.args.spelling in
    let l = c.loop-j in
    let p = (rules-left a.text.now a.slotspans.now a.valuespans.now c.args.t c.loop-i.i (omega arith) c.loop-i.invariant).on (left_end (left_as (rules_over a.text.now a.slotspans.now a.valuespans.now c.args.t l.j (omega arith)) l.invariant)) in
    puts_in {s1 = l.sheet} p (search (rules, p.same_output))

-- `sheet::Sheet::put` meets its contract.
use Prim.Native.Nat.{ℕ, ◌+◌, ◌≤◌, ◌<◌}
use native.Mathlib.Numerals.{add-one}
use native.Mathlib.Omega.{arith}
use mathlib.Core.List.{List}
use mathlib.Core.Path.{◌≡◌, refl, sym, ap, ap₂, ◌∙◌}
use lib.Seq.{length-take-le, take-suc, take-length}
use lib.ListN.{length, get_or, set, take}
use Rattle.writing.specs.inner.Puts.{put_in}
use Rattle.writing.proofs.Putting.{put_none, put_length, put_byte}
use Rattle.writing.proofs.sheet.Sheet.put.Goals.{then-end-self+else-loop-j-test, else-end-self}
use Rattle.writing.proofs.sheet.Sheet.put.Goals as goal

-- One byte more of the part.
put_next : (out : List ℕ) (at : ℕ) (part : List ℕ) (j : ℕ) → at + length part ≤ length out → j < length part
    → set (put_in out at (take j part)) (at + j) (get_or part j 0) ≡ put_in out at (take (j + 1) part)
put_next out at part j h i =
    let l = length-take-le j part (omega arith) in
    ap (λ (k : ℕ). set (put_in out at (take j part)) (at + k) (get_or part j 0)) (sym l)
    ∙ put_byte out at (take j part) (get_or part j 0) (omega arith)
    ∙ ap (put_in out at) (sym (take-suc part j 0 i) ∙ rw (add-one j))

pub loop-j-init : goal.loop-j-init
loop-j-init c = (refl, refl, c.if-end-self.true, sym (put_none c.args.self.now.out.now c.args.self.now.at))

pub loop-j-preserved : goal.loop-j-preserved
loop-j-preserved c =
    let l = c.loop-j in
    let s = c.args.self.now in
    let part = c.args.part.now in (
      l.invariant.0,
      l.invariant.1,
      l.invariant.2,
      ap₂ (λ (x : List ℕ) (k : ℕ). set x (k + l.j) (get_or part l.j 0)) l.invariant.3 l.invariant.1
          ∙ put_next s.out.now s.at part l.j l.invariant.2 (omega (arith, l.auto.j-end, c.loop-j-test.true)),
    )

pub returns : goal.returns
returns c =
    let s = c.args.self.now in
    let part = c.args.part.now in
    elim c.if-end-self.branch [
      | then-end-self+else-loop-j-test w ↦
          let whole : w.loop-j.j ≡ length part = omega (arith, w.loop-j.auto.j-end, w.loop-j-test.false) in
          let e = w.loop-j.invariant.3 ∙ ap (put_in s.out.now s.at) (ap (λ (k : ℕ). take k part) whole ∙ take-length part) in
          rw w.self-is (record { same_output = w.loop-j.invariant.0; puts = record { ends = refl; same_length = ap length e ∙ put_length s.out.now s.at part w.loop-j.invariant.2; there = λ h. e } })
      | else-end-self w ↦ rw w.self-is (record { same_output = refl; puts = record { ends = refl; same_length = refl; there = λ h. absurd (omega (arith, h, w.if-end-self.false)) } })
    ]

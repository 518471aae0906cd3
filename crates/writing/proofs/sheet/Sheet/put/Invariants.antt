use Prim.Native.Nat.{◌+◌, ◌≤◌}
use mathlib.Core.Path.{◌≡◌}
use lib.ListN.{length, take}
use Rattle.writing.specs.inner.Puts.{put_in}
use Rattle.writing.proofs.sheet.Sheet.put.Given as goal

abbrev pub invariant-loop-j : goal.invariant-loop-j
invariant-loop-j l =
    (l.self.out.ghost_name ≡ l.initial.self.out.ghost_name)
    × (l.self.at ≡ l.initial.self.at)
    × (l.initial.self.at + length l.part ≤ length l.initial.self.out.now)
    × (l.self.out.now ≡ put_in l.initial.self.out.now l.initial.self.at (take l.j l.part))

-- The invariants of the loops of `selecting::select_with`: the rules are entered; a sweep; its rules.
use mathlib.Core.Path.{◌≡◌}
use mathlib.Core.Bool.{false}
use mathlib.Core.List.{List}
use Prim.Native.Nat.{ℕ, ◌*◌, ◌≤◌}
use lib.ListN.{length}
use Rattle.model.specs.Rules.{Pair}
use Rattle.table.specs.inner.Flat.{pair_places}
use Rattle.rows.specs.inner.RuleRows.{numbers_of}
use Rattle.testing.specs.inner.Waiting.{Woken}
use Rattle.marking.specs.inner.Waking.{Chained}
use Rattle.selecting.specs.inner.Live.{Live}
use Rattle.selecting.specs.inner.Selected.{CardIs, SlipIs, OneValue}
use Rattle.selecting.proofs.Turns.{Kept, turns_left, sweeps_left}
use Rattle.selecting.proofs.Sweeping.{Held, Seen}
use Rattle.selecting.proofs.Given.{Given}
use Rattle.selecting.proofs.Standing.{Standing}
use Rattle.selecting.proofs.select_with.Given as goal

abbrev pub invariant-enter : goal.invariant-enter
invariant-enter l = (length l.live ≡ pair_places) × Live (numbers_of l.rows) l.dead l.e l.live × Chained (l.e * 9) l.heads l.nexts × (length l.nexts ≡ length l.initial.nexts)

abbrev pub invariant-rules : goal.invariant-rules
invariant-rules l =
    (l.k ≤ length l.rows) × Woken (length l.rows) l.left l.woken × Kept l.initial.fired l.initial.dead l.fired l.dead l.moved × Held (numbers_of l.rows) (length l.rows) l.heads l.nexts l.live l.dead
    × ((S : List ℕ) (I : List Pair) → Given (numbers_of l.rows) (length l.rows) l.counts (length l.counts) l.counts I → Standing (numbers_of l.rows) (length l.rows) l.counts S I l.initial.marks l.initial.live l.initial.dead l.initial.fired → Standing (numbers_of l.rows) (length l.rows) l.counts S I l.marks l.live l.dead l.fired)
    × (l.moved ≡ false → Seen (numbers_of l.rows) l.marks l.fired l.dead l.k) × (length l.queued ≡ length l.initial.queued) × (length l.woken ≡ length l.initial.woken)

abbrev pub decreases-rules : goal.decreases-rules
decreases-rules l =
    turns_left l.fired l.dead (length l.rows) l.k l.left

abbrev pub invariant-sweeps : goal.invariant-sweeps
invariant-sweeps l =
    (length l.fired ≡ length l.initial.fired) × (length l.dead ≡ length l.initial.dead) × (length l.queued ≡ length l.initial.queued) × (length l.woken ≡ length l.initial.woken) × Held (numbers_of l.rows) (length l.rows) l.heads l.nexts l.live l.dead
    × ((S : List ℕ) (I : List Pair) → Given (numbers_of l.rows) (length l.rows) l.counts (length l.counts) l.counts I → CardIs S l.card → SlipIs I l.positive → OneValue I → Standing (numbers_of l.rows) (length l.rows) l.counts S I l.marks l.live l.dead l.fired)
    × (l.moved ≡ false → Seen (numbers_of l.rows) l.marks l.fired l.dead (length l.rows))

abbrev pub decreases-sweeps : goal.decreases-sweeps
decreases-sweeps l =
    sweeps_left l.fired l.dead l.moved

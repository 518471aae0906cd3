-- What a table that passes 31 tells those that take one.
-- Assumes nothing.
use mathlib.Core.Path.{◌≡◌}
use mathlib.Core.Bool.{true}
use mathlib.Core.Logic.{◌↔◌}
use Prim.Native.Nat.{ℕ, ◌≤◌, ◌<◌}
use lib.Dec.{T, leb, leb→le}
use lib.ListN.{get_or}
use Rattle.laws.proofs.Truth.{and_l, and_r, and_i}
use Rattle.laws.proofs.Equations.{from_true}
use Rattle.model.specs.Strata.{weak}
use Rattle.model.specs.Least.{LeastStrata}
use Rattle.table.specs.declared.Table.{Table}
use Rattle.laws.specs.Limits.{slot_limit, value_limit}
use Rattle.table.specs.Zero.{zero_slot}
use Rattle.table.specs.inner.Shape.{Shaped}
use Rattle.table.specs.Link.{rules_of, stratum_at}
use Rattle.soundness.specs.Sound.{within_limits, well_formed, sound}
use Rattle.soundness.proofs.WellFormed.{well_formed_e, sound_parts}
use Rattle.leastness.proofs.Carried.{carries_iff}

-- It has at most 32 slots.
pub sound_width : (t : Table) → sound t ≡ true → t.width ≤ slot_limit
unfolding well_formed within_limits
sound_width t e =
    leb→le t.width slot_limit (and_l (leb t.width slot_limit) _ (and_l _ _ (and_l _ _ (and_l _ _ (and_l _ _ (and_l _ _ (sound_parts t (from_true (sound t) e)).0))))))

-- Each slot has 1 to 15 values.
pub sound_values : (t : Table) → Shaped t → sound t ≡ true → (i : ℕ) → i < t.width → (1 ≤ (get_or t.slots i zero_slot).count) × ((get_or t.slots i zero_slot).count ≤ value_limit)
sound_values t sh e i h =
    let w = well_formed_e t sh (sound_parts t (from_true (sound t) e)).0 in
    (w.some_value i h, w.few_values i h)

-- A table that is otherwise in order passes exactly where it carries the least strata.
pub sound_iff_least : (t : Table) → T (well_formed t) → T (sound t) ↔ LeastStrata weak (rules_of t) (stratum_at t)
unfolding sound
sound_iff_least t w = (λ u. (carries_iff t).0 (and_r _ _ u), λ l. and_i _ _ w ((carries_iff t).1 l))

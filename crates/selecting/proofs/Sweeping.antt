-- What a sweep keeps of the arrays beside the marks that they stand for.
-- Assumes nothing.
use mathlib.Core.Path.{◌≡◌}
use mathlib.Core.Bool.{Bool, false}
use mathlib.Core.List.{List, []}
use Prim.Native.Nat.{ℕ, ◌*◌, ◌<◌}
use lib.ListN.{length, get_or}
use Rattle.table.specs.Link.{rule_of}
use Rattle.table.specs.inner.Flat.{pair_places}
use Rattle.rows.specs.inner.Rows.{rule_in}
use Rattle.truths.specs.declared.Truth3.TheVariants.{Unknown}
use Rattle.marks.specs.Marks.{truth_rule}
use Rattle.judging.specs.declared.truth.Known.{Known}
use Rattle.judging.specs.inner.Known.{marks_of, Truths}
use Rattle.marking.specs.inner.Waking.{Chained}
use Rattle.selecting.specs.inner.Live.{Live}

-- The chains are in order, and the assignments left are counted.
pub record Held (rows : List (List ℕ)) (n : ℕ) (heads nexts live : List ℕ) (dead : List Bool) : Type 0 where
  pub chained : Chained (n * 9) heads nexts
  pub live_size : length live ≡ pair_places
  pub counted : Live rows dead n live

-- Of the first j rules those that are not done are Unknown.
unfoldable pub Seen : List (List ℕ) → Known → List Bool → List Bool → ℕ → Type 0
Seen rows k fired dead j =
    (i : ℕ) → i < j → get_or fired i false ≡ false → get_or dead i false ≡ false → (S : List ℕ) → Truths S k → truth_rule S (marks_of k) (rule_of (rule_in (get_or rows i []))) ≡ Unknown

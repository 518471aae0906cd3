-- Marks in arrays indexed by pair, with what the tests come to by them.
use Rattle.std.specs.Prelude.{◌≡◌, Bool, List, ℕ, ◌+◌, ◌*◌, ◌<◌, length, get_or}
use Rattle.table.specs.inner.Flat.{pair_places, pair_at, set_of}
use Rattle.judging.specs.declared.truth.Known.{Known}
use Rattle.truths.specs.declared.Truth3.{Truth3}
use Rattle.truths.specs.declared.Truth3.TheVariants.{False}
use Rattle.marks.specs.Marks.{Marks, truth_had, truth_turns}

-- The positive and the negative pairs and the tests of three lists.
abbrev pub known : List Bool → List Bool → List Truth3 → Known
known a b c = record { positive = a; negative = b; truth = c }

-- The marks that they stand for.
abbrev pub marks_of : Known → Marks
marks_of k = record { positive = set_of k.positive; negative = set_of k.negative }

-- The tests come to what the card and the marks say.
pub record Truths (S : List ℕ) (k : Known) : Type 0 where
  pub size : length k.truth ≡ 2 * pair_places
  pub had : (q : ℕ) → q < pair_places → get_or k.truth q False ≡ truth_had S (marks_of k) (pair_at q)
  pub turns : (q : ℕ) → q < pair_places → get_or k.truth (pair_places + q) False ≡ truth_turns S (marks_of k) (pair_at q)

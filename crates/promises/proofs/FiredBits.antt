-- The fired record: its bits are the rules named, and its count of one bits is how many these are.
-- Assumes nothing.
use Prim.Native.Nat.{ℕ, zero, suc, ◌≤◌, ◌<◌}
use native.Mathlib.Omega.{arith}
use mathlib.Core.Path.{◌≡◌, refl, sym, ap, ◌∙◌}
use mathlib.Core.Bool.{Bool, false}
use mathlib.Core.List.{List}
use mathlib.Core.Logic.{⊎_elim}
use lib.Dec.{T}
use lib.ListN.{length, get_or, get_or-eq_default}
use Rattle.laws.specs.Numbers.{Numbered, how_many}
use Rattle.laws.specs.Tabulated.{tabulate}
use Rattle.laws.specs.Packed.{byte_count, byte_at, pack}
use Rattle.laws.proofs.Truth.{le_or_lt}
use Rattle.laws.proofs.Numbers.{is_false}
use Rattle.laws.proofs.Tabulated.{tabulate_length, tabulate_at, is_tabulate}
use Rattle.laws.proofs.Packed.{pack_bit}
use Rattle.model.specs.Orders.{names}
use Rattle.results.specs.Record.{bit_of, ones_in}
use Rattle.results.specs.inner.Record.{fired_bits, flag_record}
use Rattle.results.proofs.Bits as bits
use Rattle.response.specs.Ending.{fired_record}

-- Where only numbers from 1 to `count` are named, the bit of each number says whether it is named.
pub record_bit : (count : ℕ) (ns : List ℕ) → ((n : ℕ) → T (names ns n) → Numbered count n) → (n : ℕ) → names ns n ≡ bit_of (fired_record count ns) n
unfolding bit_of fired_record
record_bit count ns only zero = is_false (names ns 0) (λ t. omega (arith, (only 0 t).first))
record_bit count ns only (suc i) =
    sym (pack_bit (tabulate (λ j. names ns (suc j)) count) i ∙ ⊎_elim beyond (λ (l : i < count). tabulate_at (λ j. names ns (suc j)) count i false l) (le_or_lt count i))
  where
    beyond : count ≤ i → get_or (tabulate (λ j. names ns (suc j)) count) i false ≡ names ns (suc i)
    beyond l =
        get_or-eq_default (tabulate (λ j. names ns (suc j)) count) false {n = i} (rw tabulate_length l)
        ∙ sym (is_false (names ns (suc i)) (λ t. omega (arith, (only (suc i) t).last)))

-- The record has one bit for each rule, padded to bytes.
pub record_length : (count : ℕ) (ns : List ℕ) → length (fired_record count ns) ≡ byte_count count
unfolding fired_record pack
record_length count ns = tabulate_length (byte_at (tabulate (λ i. names ns (suc i)) count)) _ ∙ ap byte_count (tabulate_length (λ i. names ns (suc i)) count)

-- How many rules fired is how many are named.
pub record_ones : (count : ℕ) (ns : List ℕ) → ones_in (fired_record count ns) ≡ how_many (names ns) count
unfolding fired_record flag_record fired_bits
record_ones count ns =
    ap (λ (bs : List Bool). ones_in (pack bs))
    (is_tabulate (λ i. get_or (tabulate (λ j. names ns (suc j)) count) i false) count false (tabulate (λ j. names ns (suc j)) count) (tabulate_length (λ j. names ns (suc j)) count) (λ i h. refl))
    ∙ bits.record_ones (tabulate (λ j. names ns (suc j)) count) count (names ns) (λ i h. tabulate_at (λ j. names ns (suc j)) count i false h)

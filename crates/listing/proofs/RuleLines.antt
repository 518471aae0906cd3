-- The bit of a rule in a fired record, and the lines of rules one after the other.
-- Assumes nothing.
use Prim.Native.Nat.{ℕ, zero, suc, ◌+◌, ◌-◌, ◌*◌, ◌/◌, ◌%◌, ◌^◌, ◌≤◌, ◌<◌}
use native.Mathlib.Omega.{arith}
use native.Mathlib.Numerals.{add-one}
use mathlib.Core.Path.{◌≡◌, refl, sym, ap, ◌∙◌}
use mathlib.Core.Bool.{false}
use mathlib.Core.List.{List, [], ◌∷◌, ◌++◌}
use lib.Dec.{eqb}
use lib.ListN.{length, get_or, drop, drop_of_length-le}
use lib.Seq.{drop-cons}
use Rattle.laws.specs.Words.{bit}
use Rattle.laws.specs.Packed.{bits, byte_bits}
use Rattle.laws.proofs.Packed.{byte_bits_length, byte_bits_at}
use Rattle.laws.proofs.Tabulated.{tabulate_length, tabulate_at}
use Rattle.table.specs.declared.Table.{Table}
use Rattle.table.specs.Zero.{zero_rule}
use Rattle.table.specs.Link.{stratum_at}
use Rattle.table.proofs.Link.{stratum_at_is}
use Rattle.results.specs.Record.{bit_of}
use Rattle.results.proofs.Bits.{bit_past}
use Rattle.listing.specs.Listing.{RuleLine}
use Rattle.listing.specs.Printed.{rule_text, rules_text}
use Rattle.listing.specs.inner.AnswerLines.{fired_line, fired_lines}

-- The bits of a word, the most significant first.
bits_at : (w x j : ℕ) → j < w → get_or (bits w x) j false ≡ bit x (w - 1 - j)
unfolding bits
bits_at zero x j h = absurd (omega arith)
bits_at (suc w) x zero h = let z : w ≡ suc w - 1 - 0 = omega arith in ap (bit x) z
bits_at (suc w) x (suc j) h = let z : w - 1 - j ≡ suc w - 1 - suc j = omega arith in bits_at w x j (omega arith) ∙ ap (bit x) z

-- The bit of the rule at place i, from 0, stands in byte i / 8, from its top.
pub bit_there : (ys : List ℕ) (i : ℕ) → i / 8 < length ys → bit_of ys (i + 1) ≡ eqb (get_or ys (i / 8) 0 / 2 ^ (7 - i % 8) % 2) 1
unfolding bit_of bit
bit_there ys i h =
    let z : i ≡ 8 * (i / 8) + i % 8 = omega arith in
    ap (λ (n : ℕ). bit_of ys n) (add-one i) ∙ ap (λ (n : ℕ). get_or (byte_bits ys) n false) z
    ∙ byte_bits_at ys (i / 8) (i % 8) h (omega arith) ∙ bits_at 8 (get_or ys (i / 8) 0) (i % 8) (omega arith)

pub bit_beyond : (ys : List ℕ) (i : ℕ) → length ys ≤ i / 8 → bit_of ys (i + 1) ≡ false
unfolding bit_of
bit_beyond ys i h = ap (λ (n : ℕ). bit_of ys n) (add-one i) ∙ bit_past (byte_bits ys) i (omega (arith, h, byte_bits_length ys))

module _ (t : Table) (ys : List ℕ) where
  -- The line of the rule at a place, by its number.
  abbrev line_by : ℕ → RuleLine
  line_by k = fired_line (stratum_at t (suc k)) (bit_of ys (suc k))

  -- The same as the table has it, and the lines from there on.
  abbrev pub line_there : ℕ → RuleLine
  line_there i = fired_line (get_or t.rules i zero_rule).stratum (bit_of ys (i + 1))

  unfoldable pub rules_from : ℕ → List ℕ
  rules_from i = rules_text (i + 1) (drop i (fired_lines t ys))

  pub rules_all : rules_text 1 (fired_lines t ys) ≡ rules_from 0
  unfolding rules_from
  rules_all = refl

  lines_on : (i : ℕ) → i < t.count → drop i (fired_lines t ys) ≡ line_there i ∷ drop (i + 1) (fired_lines t ys)
  lines_on i h =
      let l = tabulate_length line_by t.count in
      drop-cons (fired_lines t ys) i (fired_line 0 false) (omega arith) ∙ rw (tabulate_at line_by t.count i (fired_line 0 false) h, stratum_at_is t i h, add-one i)

  pub rules_on : (i : ℕ) → i < t.count → rules_from i ≡ rule_text (i + 1) (line_there i) ++ rules_from (i + 1)
  unfolding rules_from rules_text
  rules_on i h = ap (rules_text (i + 1)) (lines_on i h) ∙ ap (λ (n : ℕ). rule_text (i + 1) (line_there i) ++ rules_text n (drop (i + 1) (fired_lines t ys))) (sym (add-one (i + 1)))

  pub rules_over : (i : ℕ) → t.count ≤ i → rules_from i ≡ []
  unfolding rules_from rules_text
  rules_over i h =
      let l = tabulate_length line_by t.count in
      let k : length (fired_lines t ys) ≤ i = omega arith in
      ap (rules_text (i + 1)) (drop_of_length-le (fired_lines t ys) k)

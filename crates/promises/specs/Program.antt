-- Document 01, 'The program': the tally starts at 0 and 0, the outputs are the program's own and the table is the reading's, so that 30, 31 and 32 cannot occur.
-- Document 02, section 4: 'The program reads the number from editor.bin .. (not one byte long: 44)', ahead of every other refusal; the last line of an answer has that number, 1 and 0.
use Rattle.std.specs.Prelude.{ℕ, ◌≡◌, List, [], ◌∷◌, ◌↔◌}
use Rattle.laws.specs.Limits.{editor_limit}
use Rattle.laws.specs.Numbers.{Numbered}
use Rattle.tally.specs.declared.Tally.{Tally}
use Rattle.tally.specs.Counting.{fresh, one_answered}
use Rattle.listing.specs.Listing.{RuleLine, ChangeLine, listed, refusal, listing}

-- What is listed is no refusal that a calling program causes.
pub record NoneOfCaller (text card slip editor : List ℕ) : Type 0 where
  pub no_30 : (s : ℕ) → ¬ (listing text card slip editor ≡ refusal 30 s)
  pub no_31 : (s : ℕ) → ¬ (listing text card slip editor ≡ refusal 31 s)
  pub no_32 : (s : ℕ) → ¬ (listing text card slip editor ≡ refusal 32 s)

-- The bytes of an editor file are one editor number.
abbrev pub OneEditor : List ℕ → Type 0
OneEditor editor = (n : ℕ) × (editor ≡ n ∷ []) × Numbered editor_limit n

-- 44 exactly where they are not, whatever text, card and slip there are; an answer is listed with that number, and with one slip answered.
pub record EditorFirst (text card slip editor : List ℕ) : Type 0 where
  pub exactly_44 : (listing text card slip editor ≡ refusal 44 0) ↔ (¬ OneEditor editor)
  pub second_0 : (s : ℕ) → listing text card slip editor ≡ refusal 44 s → s ≡ 0
  pub last_line : (rs : List RuleLine) (cs : List ChangeLine) (new : List ℕ) (n : ℕ) (r : Tally) → listing text card slip editor ≡ listed rs cs new n r → (editor ≡ n ∷ []) × (r ≡ one_answered fresh)

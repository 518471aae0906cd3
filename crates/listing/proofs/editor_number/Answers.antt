-- `editor_number` meets its contract.
use Prim.Native.Nat.{ℕ}
use native.Mathlib.Omega.{arith}
use mathlib.Core.Path.{◌≡◌, refl, ◌∙◌}
use mathlib.Core.List.{List, [], ◌∷◌}
use lib.ListN.{length, get_or}
use Rattle.listing.specs.Listing.{editor_number}
use Rattle.listing.proofs.editor_number.Goals as goal

-- A file that is not one byte long holds 0, another the byte that it has.
not-one : (ys : List ℕ) → ¬ (length ys ≡ 1) → 0 ≡ editor_number ys
unfolding editor_number
not-one [] h = refl
not-one (b ∷ []) h = absurd (h refl)
not-one (b ∷ c ∷ bs) h = refl

one : (ys : List ℕ) → length ys ≡ 1 → get_or ys 0 0 ≡ editor_number ys
unfolding editor_number
one [] h = absurd (omega (arith, h))
one (b ∷ []) h = refl
one (b ∷ c ∷ bs) h = absurd (omega (arith, h))

pub returns-in-len1 : goal.returns-in-len1
returns-in-len1 c = c.from.ensures ∙ one _ (omega (arith, c.in-len1.len_at_least, c.in-len1.len_below))

pub returns-in_default : goal.returns-in_default
returns-in_default c = not-one c.args.bytes.now (λ e. omega (arith, e, c.in_default.len_below))

pub returns-in_default-2 : goal.returns-in_default-2
returns-in_default-2 c = not-one c.args.bytes.now (λ e. omega (arith, e, c.in_default.len_at_least))

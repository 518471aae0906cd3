-- The places of names.
-- Assumes nothing.
use mathlib.Core.Path.{◌≡◌, ap}
use mathlib.Core.Bool.{Bool, true, false, cond}
use mathlib.Core.List.{List}
use Prim.Native.Nat.{ℕ, ◌+◌}
use native.Mathlib.Omega.{arith}
use lib.Dec.{leb}
use lib.ListN.{length, take, drop}
use Rattle.table.specs.declared.Name.{Name}
use Rattle.names.specs.Names.{Showing, not_shown, show_name}
use Rattle.library.specs.Results.{name_numbers}

-- A name that is shown stands where it begins, and is as long as its part.
pub place_shown : (text : List ℕ) (x : Name) (part : List ℕ) → (show_name text x).code ≡ 0 → part ≡ (show_name text x).part → record { number = 0; start = x.start; size = length part } ≡ name_numbers (show_name text x)
unfolding show_name
place_shown text x part = go (leb (x.start + x.size) (length text))
  where
    shown : Bool → Showing
    shown b = cond b (record { code = 0; start = x.start; part = take x.size (drop x.start text) }) not_shown

    go : (b : Bool) → (shown b).code ≡ 0 → part ≡ (shown b).part → record { number = 0; start = x.start; size = length part } ≡ name_numbers (shown b)
    go true z e = ap (λ (ys : List ℕ). record { number = 0; start = x.start; size = length ys }) e
    go false z e = absurd (omega (arith, z))

-- The reserved words.
-- Assumes nothing.
use Prim.Native.Nat.{ℕ}
use mathlib.Core.Path.{◌≡◌, refl}
use mathlib.Core.Bool.{Bool, true, false}
use mathlib.Core.List.{List, [], ◌∷◌}
use Rattle.text.specs.Tokens.{same_letters, place, reserved}
use Rattle.text.proofs.Covering.{same_letters_eq}

differs : (n m : List ℕ) → (n ≡ m → ⊥) → same_letters n m ≡ false
differs n m h = go (same_letters n m) refl
  where
    go : (t : Bool) → same_letters n m ≡ t → same_letters n m ≡ false
    go true e = absurd (h (same_letters_eq n m e))
    go false e = e

-- A name that is no reserved word has place 0.
pub no_word : (n : List ℕ) → (n ≡ 83 ∷ 76 ∷ 79 ∷ 84 ∷ [] → ⊥) → (n ≡ 87 ∷ 72 ∷ 69 ∷ 78 ∷ [] → ⊥) → (n ≡ 73 ∷ 70 ∷ [] → ⊥) → (n ≡ 84 ∷ 72 ∷ 69 ∷ 78 ∷ [] → ⊥) → (n ≡ 65 ∷ 78 ∷ 68 ∷ [] → ⊥) → (n ≡ 78 ∷ 79 ∷ 84 ∷ [] → ⊥) → (n ≡ 84 ∷ 82 ∷ 85 ∷ 69 ∷ [] → ⊥) → (n ≡ 78 ∷ 79 ∷ 78 ∷ 69 ∷ [] → ⊥) → 0 ≡ place n reserved
unfolding reserved
no_word n a b c d e f g h = simp (differs n (83 ∷ 76 ∷ 79 ∷ 84 ∷ []) a, differs n (87 ∷ 72 ∷ 69 ∷ 78 ∷ []) b, differs n (73 ∷ 70 ∷ []) c, differs n (84 ∷ 72 ∷ 69 ∷ 78 ∷ []) d, differs n (65 ∷ 78 ∷ 68 ∷ []) e, differs n (78 ∷ 79 ∷ 84 ∷ []) f, differs n (84 ∷ 82 ∷ 85 ∷ 69 ∷ []) g, differs n (78 ∷ 79 ∷ 78 ∷ 69 ∷ []) h)

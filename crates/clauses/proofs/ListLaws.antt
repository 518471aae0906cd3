-- Laws of the reading of lists, one part at a time.
-- Assumes nothing.
use Prim.Native.Nat.{ℕ, suc, ◌+◌, ◌<◌}
use mathlib.Core.Path.{◌≡◌, refl, ap, ◌∙◌}
use mathlib.Core.List.{List, [], ◌∷◌, ◌++◌, map}
use lib.ListN.{take}
use Rattle.laws.specs.inner.Filled.{Filled}
use Rattle.laws.proofs.Filled.{filled_add, filled_used}
use Rattle.laws.proofs.Lists.{map_append}
use Rattle.steps.specs.declared.parts.Parts.{Parts}
use Rattle.steps.specs.inner.Parts.{one_more}
use Rattle.text.specs.Tokens.{Token}
use Rattle.grammar.specs.Reading.{Part, took, stop, ◌then◌, read_list}
use Rattle.steps.specs.inner.Places.{which, one, other, neither}
use Rattle.steps.proofs.Places.{follow, fork_which}

-- One part more: the parts are those before and the new one, and the places that are not used hold what they held.
pub longer : {A B : Type 0} (f : A → B) (n : ℕ) (unused part : A) (list more : Parts A n) → more ≡ one_more list part → Filled n unused list.places list.count → list.count < n
    → (map f (take more.count more.places) ≡ map f (take list.count list.places) ++ f part ∷ []) × Filled n unused more.places more.count × (more.count ≡ list.count + 1)
longer f n unused part list more e F h =
    rw e (ap (map f) (filled_used n unused list.places list.count part F h) ∙ map_append f (take list.count list.places) (part ∷ []), filled_add n unused list.places list.count part F h, refl)

module _ {A : Type 0} (each : List A → List Token → Part A) (none : List A → List Token → Part (List A)) (sep end : ℕ) where
  -- No part may follow.
  pub list_full : (room : ℕ) (sofar : List A) (ts : List Token) → room ≡ 0 → read_list each none sep end room sofar ts ≡ none sofar ts
  unfolding read_list
  list_full room sofar ts e = rw e

  -- The next part is refused.
  pub list_stop : (room r : ℕ) (sofar : List A) (ts : List Token) (k : ℕ) → room ≡ suc r → each sofar ts ≡ stop k → read_list each none sep end room sofar ts ≡ stop k
  unfolding read_list ◌then◌
  list_stop room r sofar ts k e f = rw (e, f)

  -- The next part is read: the list goes on, ends, or is refused.
  list_way : (room r : ℕ) (sofar : List A) (ts left : List Token) (a : A) → room ≡ suc r → each sofar ts ≡ took a left
      → read_list each none sep end room sofar ts ≡ follow (read_list each none sep end r (sofar ++ a ∷ [])) (took (sofar ++ a ∷ [])) (which sep end left)
  unfolding read_list ◌then◌
  list_way room r sofar ts left a e f = rw (e, f) (fork_which sep end _ _ left)

  pub list_on : (room r : ℕ) (sofar : List A) (ts left more : List Token) (a : A) → room ≡ suc r → each sofar ts ≡ took a left → which sep end left ≡ one more
      → read_list each none sep end room sofar ts ≡ read_list each none sep end r (sofar ++ a ∷ []) more
  list_on room r sofar ts left more a e f g = list_way room r sofar ts left a e f ∙ ap (follow (read_list each none sep end r (sofar ++ a ∷ [])) (took (sofar ++ a ∷ []))) g

  pub list_end : (room r : ℕ) (sofar : List A) (ts left more : List Token) (a : A) → room ≡ suc r → each sofar ts ≡ took a left → which sep end left ≡ other more
      → read_list each none sep end room sofar ts ≡ took (sofar ++ a ∷ []) more
  list_end room r sofar ts left more a e f g = list_way room r sofar ts left a e f ∙ ap (follow (read_list each none sep end r (sofar ++ a ∷ [])) (took (sofar ++ a ∷ []))) g

  pub list_fault : (room r : ℕ) (sofar : List A) (ts left : List Token) (a : A) (k : ℕ) → room ≡ suc r → each sofar ts ≡ took a left → which sep end left ≡ neither k
      → read_list each none sep end room sofar ts ≡ stop k
  list_fault room r sofar ts left a k e f g = list_way room r sofar ts left a e f ∙ ap (follow (read_list each none sep end r (sofar ++ a ∷ [])) (took (sofar ++ a ∷ []))) g

-- The lines of changes one after the other, by the fields of their bytes.
-- Assumes nothing.
use Prim.Native.Nat.{ℕ, ◌+◌, ◌*◌, ◌≤◌, ◌<◌}
use native.Mathlib.Omega.{arith}
use native.Mathlib.Numerals.{add-one}
use mathlib.Core.Path.{◌≡◌, refl, ap, ap₂, ◌∙◌}
use mathlib.Core.Bool.{true}
use mathlib.Core.List.{List, [], ◌∷◌, ◌++◌, map}
use lib.ListN.{length, get_or, drop, drop_of_length-le}
use lib.Seq.{drop-cons}
use borrow.Author.Tests.{lt-ltb}
use Rattle.laws.specs.Truth.{◌∧ᵇ◌}
use Rattle.laws.specs.Packed.{field_at}
use Rattle.model.specs.Rules.{Pair}
use Rattle.model.specs.Result.{pair}
use Rattle.table.specs.declared.Table.{Table}
use Rattle.table.specs.Zero.{zero_slot}
use Rattle.laws.specs.Limits.{slot_limit}
use Rattle.names.specs.Names.{Showing, has_slot}
use Rattle.names.proofs.Names.{slot_shown, value_shown}
use Rattle.cards.specs.Forms.{count_in, changes_in}
use Rattle.cards.proofs.Tested.{no_pair}
use Rattle.cards.proofs.Taken.{changes_length, change_at}
use Rattle.listing.specs.Listing.{ChangeLine, value_listed, change_line}
use Rattle.listing.specs.Printed.{change_text, changes_text}
use Rattle.listing.specs.inner.AnswerLines.{slot_change}

-- A slot below the number of slots is there.
there : (width slot : ℕ) → width ≤ slot_limit → slot < width → has_slot width slot ≡ true
unfolding has_slot ◌∧ᵇ◌
there width slot h l = rw (lt-ltb slot slot_limit (omega arith), lt-ltb slot width l) refl

module _ (text : List ℕ) (t : Table) where
  -- The line of a change of a slot that the table has.
  by_slot : (slot value : ℕ) → t.width ≤ slot_limit → slot < t.width → change_line text t (pair slot value) ≡ slot_change text (get_or t.slots slot zero_slot) value
  by_slot slot value h l =
      let e = there t.width slot h l in
      ap₂ (λ (s v : List ℕ). record { slot = s; value = v }) (ap (λ (q : Showing). q.part) (slot_shown text t slot e)) (ap (λ (q : Showing). value_listed value q.part) (value_shown text t slot value e))

  module _ (ys : List ℕ) where
    -- The line of the change at place j, and those from there on.
    abbrev pub change_there : ℕ → ℕ → List ℕ
    change_there slot value = change_text (slot_change text (get_or t.slots slot zero_slot) value)

    unfoldable pub changes_from : ℕ → List ℕ
    changes_from j = changes_text (map (change_line text t) (drop j (changes_in ys)))

    pub changes_all : changes_text (map (change_line text t) (changes_in ys)) ≡ changes_from 0
    unfolding changes_from
    changes_all = refl

    pairs_on : (j : ℕ) → j < count_in ys → drop j (changes_in ys) ≡ pair (field_at ys (6 + 9 * j) 5) (field_at ys (11 + 9 * j) 4) ∷ drop (j + 1) (changes_in ys)
    pairs_on j h = let z = changes_length ys in drop-cons (changes_in ys) j no_pair (omega arith) ∙ rw (change_at ys j h, add-one j)

    pub changes_on : (j : ℕ) → t.width ≤ slot_limit → j < count_in ys → field_at ys (6 + 9 * j) 5 < t.width
        → changes_from j ≡ change_there (field_at ys (6 + 9 * j) 5) (field_at ys (11 + 9 * j) 4) ++ changes_from (j + 1)
    unfolding changes_from changes_text
    changes_on j few h l =
        ap (λ (ps : List Pair). changes_text (map (change_line text t) ps)) (pairs_on j h)
        ∙ ap (λ (c : ChangeLine). change_text c ++ changes_from (j + 1)) (by_slot (field_at ys (6 + 9 * j) 5) (field_at ys (11 + 9 * j) 4) few l)

    pub changes_over : (j : ℕ) → count_in ys ≤ j → changes_from j ≡ []
    unfolding changes_from changes_text
    changes_over j h =
        let z = changes_length ys in
        let k : length (changes_in ys) ≤ j = omega arith in
        ap (λ (ps : List Pair). changes_text (map (change_line text t) ps)) (drop_of_length-le (changes_in ys) k)

-- 31 by the response asked: what both take, and what the response by marks takes beside it.
-- Assumes nothing.
use mathlib.Core.Path.{◌≡◌, refl, ap, ap₂, ◌∙◌}
use mathlib.Core.Bool.{true, false}
use mathlib.Core.List.{List, []}
use mathlib.Core.Logic.{◌⊎◌, inl, inr, ⊎_elim, ◌↔◌}
use Prim.Native.Nat.{ℕ, zero, suc, ◌<◌}
use native.Mathlib.Omega.{arith}
use lib.Dec.{T, eqb, eqb→eq}
use lib.ListN.{length, take, get_or, get_or-eq_default}
use borrow.Author.Tests.{eq-eqb}
use Rattle.laws.specs.Truth.{◌∧ᵇ◌, ◌∨ᵇ◌}
use Rattle.laws.specs.Listed.{all_of}
use Rattle.laws.proofs.Truth.{and_l, and_r, and_i, or_r, bool_ext, le_or_lt}
use Rattle.laws.proofs.Equations.{from_true}
use Rattle.laws.proofs.Listed.{all_i, all_e}
use Rattle.table.specs.declared.Table.{Table}
use Rattle.table.specs.declared.Way.{Way}
use Rattle.table.specs.declared.Way.TheVariants.{Strata, Marks}
use Rattle.table.specs.Link.{rules_of, carried_strata, stratum_at}
use Rattle.table.proofs.Link.{strata_length, stratum_is}
use Rattle.table.specs.declared.Rule.{Rule}
use Rattle.rows.specs.inner.Rows.{table_in, RowsBounded}
use Rattle.rows.specs.declared.RuleRow.{RuleRow}
use Rattle.rows.specs.inner.RuleRows.{rows_table}
use Rattle.rows.proofs.Laws.{rule_row, rows_count, rows_table_shaped}
use Rattle.leastness.specs.CarriesLeast.{carries_least}
use Rattle.soundness.specs.Sound.{well_formed, sound, stratum_0, strata_right, takes}
use Rattle.soundness.specs.inner.Admitted.{Admitted, EntryKept}
use Rattle.soundness.specs.declared.Entry.{Entry}
use Rattle.soundness.proofs.Admitted.{admitted_least}
use Rattle.soundness.proofs.WellFormed.{sound_parts}
use Rattle.soundness.proofs.Sound.{sound_iff_least}

-- 31 of a well-formed table is the test of its strata; a table that is not well-formed is not taken.
pub takes_form : (way : Way) (t : Table) → well_formed t ≡ true → takes way t ≡ strata_right way t
unfolding takes ◌∧ᵇ◌
takes_form way t e = rw e

pub not_taken_form : (way : Way) (t : Table) → well_formed t ≡ false → takes way t ≡ false
unfolding takes ◌∧ᵇ◌
not_taken_form way t e = rw e

pub takes_parts : (way : Way) (t : Table) → T (takes way t) → T (well_formed t) × T (strata_right way t)
unfolding takes
takes_parts way t u = (and_l _ _ u, and_r _ _ u)

-- The response by strata takes the sound tables.
pub takes_strata : (t : Table) → takes Strata t ≡ sound t
unfolding takes strata_right sound
takes_strata t = refl

-- Both take these.
pub sound_taken : (way : Way) (t : Table) → T (sound t) → T (takes way t)
unfolding takes strata_right
sound_taken Strata t u = let p = sound_parts t u in and_i _ _ p.0 p.1
sound_taken Marks t u = let p = sound_parts t u in and_i _ _ p.0 (or_r (stratum_0 t) _ p.1)

-- Stratum 0 throughout: every rule has it.
pub stratum_0_at : (t : Table) → T (stratum_0 t) → (n : ℕ) → stratum_at t n ≡ 0
unfolding stratum_0 stratum_at
stratum_0_at t u zero = refl
stratum_0_at t u (suc i) = ⊎_elim
    (λ le. get_or-eq_default (carried_strata t) 0 {n = i} le)
    (λ lt. eqb→eq (get_or (carried_strata t) i 0) 0 (all_e (λ s. eqb s 0) (carried_strata t) 0 u i lt))
    (le_or_lt (length (carried_strata t)) i)

-- So the response by strata takes such a table exactly where it has no rules.
pub stratum_0_sound : (t : Table) → T (well_formed t) → T (stratum_0 t) → T (sound t) ↔ (length (rules_of t) ≡ 0)
stratum_0_sound t w u = (there (length (rules_of t)) refl, back)
  where
    there : (n : ℕ) → length (rules_of t) ≡ n → T (sound t) → n ≡ 0
    there zero e v = refl
    there (suc n) e v = absurd (omega (arith, stratum_0_at t u 1, ((sound_iff_least t w).0 v).strata.from_one 1 (record { first = omega arith; last = omega (arith, e) })))

    back : length (rules_of t) ≡ 0 → T (sound t)
    back e = (sound_iff_least t w).1 (record {
      strata = record {
        from_one = λ n i. absurd (omega (arith, e, i.first, i.last));
        no_higher = λ n m i j d. absurd (omega (arith, e, i.first, i.last));
        smaller = λ n m i j d. absurd (omega (arith, e, i.first, i.last));
      };
      least = λ v s n i. absurd (omega (arith, e, i.first, i.last));
    })

-- The rows of an admitted table carry what the response asked takes exactly where the table does.
admitted_right : (way : Way) (t : Table) (counts : List ℕ) (rows : List RuleRow) → Admitted t counts rows → strata_right way (rows_table (take t.count rows)) ≡ strata_right way t
unfolding strata_right stratum_0
admitted_right Strata t counts rows a = admitted_least t counts rows a
admitted_right Marks t counts rows a = ap₂ (λ x y. x ∨ᵇ y) (ap (all_of (λ s. eqb s 0)) a.same_strata) (admitted_least t counts rows a)

-- So by the number of rules that is said when it is entered.
pub kept_right : (way : Way) (t : Table) (e : Entry) (counts : List ℕ) (rows : List RuleRow) → EntryKept t e counts rows → strata_right way (rows_table (take e.count rows)) ≡ strata_right way t
kept_right way t e counts rows w = rw w.count_is (admitted_right way t counts rows w.admitted)

-- Rows carry stratum 0 throughout exactly where each does.
module _ (rows : List (List ℕ)) (n : ℕ) (f : RowsBounded rows n) where
  stratum_here : (i : ℕ) → i < n → get_or (carried_strata (table_in rows n)) i 0 ≡ get_or (get_or rows i []) 3 0
  stratum_here i h = stratum_is (table_in rows n) i (omega (arith, h, rows_count rows n)) ∙ ap (λ (r : Rule). r.stratum) (rule_row rows n i)

  as_many : length (carried_strata (table_in rows n)) ≡ n
  as_many =
      let c = rows_count rows n in
      strata_length (table_in rows n) ((rows_table_shaped rows n f).rule_places (omega (arith, f.few, c))) ∙ c

  pub rows_stratum_0 : ((i : ℕ) → i < n → get_or (get_or rows i []) 3 0 ≡ 0) → true ≡ stratum_0 (table_in rows n)
  unfolding stratum_0
  rows_stratum_0 h = bool_ext true (all_of (λ s. eqb s 0) (carried_strata (table_in rows n)))
      (λ u. all_i (λ s. eqb s 0) (carried_strata (table_in rows n)) 0 (λ i l.
      let k : i < n = omega (arith, l, as_many) in
      from_true _ (eq-eqb (get_or (carried_strata (table_in rows n)) i 0) 0 (stratum_here i k ∙ h i k))))
      (λ u. tt)

  pub rows_other : (i : ℕ) → i < n → 0 < get_or (get_or rows i []) 3 0 → false ≡ stratum_0 (table_in rows n)
  unfolding stratum_0
  rows_other i h l = bool_ext false (all_of (λ s. eqb s 0) (carried_strata (table_in rows n))) (λ u. absurd u)
      (λ u. omega (arith, l, stratum_here i h, eqb→eq (get_or (carried_strata (table_in rows n)) i 0) 0 (all_e (λ s. eqb s 0) (carried_strata (table_in rows n)) 0 u i (omega (arith, h, as_many)))))

-- The test of the strata by the response asked: stratum 0 throughout by marks, and where that is not asked or not there, the least strata.
pub right_by_0 : (way : Way) (t : Table) → way ≡ Marks → stratum_0 t ≡ true → true ≡ strata_right way t
unfolding strata_right ◌∨ᵇ◌
right_by_0 way t e z = rw (e, z) refl

pub right_by_least : (way : Way) (t : Table) → (way ≡ Strata) ⊎ (stratum_0 t ≡ false) → strata_right way t ≡ carries_least t
unfolding strata_right ◌∨ᵇ◌
right_by_least way t (inl e) = rw e refl
right_by_least Strata t (inr z) = refl
right_by_least Marks t (inr z) = rw z refl

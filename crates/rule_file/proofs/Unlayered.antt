-- The reading without test 18 (document 02, section 3): it accepts exactly the files, each with its table and stratum 0 throughout; and the reading with test 18 is this one with 18 added.
-- Assumes nothing.
use mathlib.Core.Path.{◌≡◌, refl, sym, ap, ◌∙◌}
use mathlib.Core.Bool.{Bool, true, false}
use mathlib.Core.List.{List}
use mathlib.Core.Logic.{◌⊎◌, inl, inr, ◌↔◌}
use Prim.Native.Nat.{ℕ, ◌≤◌}
use native.Mathlib.Omega.{arith}
use lib.Dec.{T, eqb}
use borrow.Author.Tests.{eqb-true, eqb-false}
use Rattle.laws.specs.Listed.{all_of}
use Rattle.laws.proofs.Truth.{and_i, or_l}
use Rattle.model.specs.Strata.{weak}
use Rattle.model.specs.Circles.{circle_of}
use Rattle.table.specs.declared.Way.TheVariants.{Marks}
use Rattle.table.specs.Empty.{empty_table}
use Rattle.table.specs.Link.{carried_strata}
use Rattle.grammar.specs.Files.{File}
use Rattle.grammar.specs.Meaning.{IsFile}
use Rattle.grammar.specs.Reading.{Parsed, accepted, refused, parse}
use Rattle.grammar.specs.TableFor.{table_for}
use Rattle.grammar.proofs.Accepts.{accepts_iff}
use Rattle.grammar.proofs.Declared.{file_declared}
use Rattle.grammar.proofs.Stands.{file_stands}
use Rattle.strata.specs.Layered.{with_strata}
use Rattle.soundness.specs.Sound.{stratum_0, strata_right, takes}
use Rattle.soundness.proofs.Passes.{empty_passes}
use Rattle.soundness.proofs.Taken.{stratum_0_at, sound_taken}
use Rattle.reader.specs.Tables.{reading_refusal, Accepted, Refused, FileRead}
use Rattle.rule_file.specs.Whole.{reading, unlayered, reading_without_18}
use Rattle.rule_file.specs.Carries.{CarriesBy}
use Rattle.rule_file.proofs.FileTable.{file_rules, file_counts, file_well_formed, file_stratum_0}
use Rattle.rule_file.proofs.Shown.{slots_show, values_show}
use Rattle.rule_file.proofs.Answers.{reading_file, reading_refused, without_18_file, without_18_refused, layered_zero, layered_circle, refused_range, outcomes_differ, reading_18_iff, accepted_table}

-- A text is accepted exactly where it is a file, whether its rules have strata or not.
pub unlayered_accepted_iff : (text : List ℕ) → ((f : File) × IsFile text f) ↔ ((reading_without_18 text).outcome ≡ Accepted)
unfolding unlayered
unlayered_accepted_iff text = (λ w. ap (λ (a : FileRead). a.outcome) (without_18_file text w.0 ((accepts_iff text w.0).1 w.1)), λ o. back o (parse text) refl)
  where
    back : (reading_without_18 text).outcome ≡ Accepted → (a : Parsed) → parse text ≡ a → (f : File) × IsFile text f
    back o (accepted f) e = (f, (accepts_iff text f).0 e)
    back o (refused k n) e = absurd (outcomes_differ k n (sym o ∙ ap (λ (a : FileRead). a.outcome) (without_18_refused text k n e)))

-- That is, where the number of its refusal is 0.
pub unlayered_no_refusal : (text : List ℕ) → reading_refusal (reading_without_18 text).outcome ≡ 0 → (reading_without_18 text).outcome ≡ Accepted
unfolding unlayered
unlayered_no_refusal text e = go (parse text) refl
  where
    go : (a : Parsed) → parse text ≡ a → (reading_without_18 text).outcome ≡ Accepted
    go (accepted f) r = ap (λ (a : FileRead). a.outcome) (without_18_file text f r)
    go (refused k n) r = absurd (omega (arith, ap (λ (a : FileRead). reading_refusal a.outcome) (without_18_refused text k n r), e, (refused_range text k n r).0))

-- An accepted text's table carries its file, with stratum 0 throughout.
pub unlayered_carries : (text : List ℕ) → (reading_without_18 text).outcome ≡ Accepted → CarriesBy Marks text (reading_without_18 text).table
unfolding unlayered
unlayered_carries text o =
    let w = (unlayered_accepted_iff text).1 o in
    let f = w.0 in
    let e = (accepts_iff text f).1 w.1 in
    rw (without_18_file text f e) (record {
      file = f;
      is_file = w.1;
      rules_are = file_rules f;
      counts_are = file_counts f;
      slots_shown = slots_show text f (file_stands text f e);
      values_shown = values_show text f (file_stands text f e);
      strata_are = λ n i. stratum_0_at (table_for f) (file_stratum_0 f) n;
      no_circle = tt;
    })

-- Every table that this reading hands out has stratum 0 throughout, and the response by marks takes it.
empty_stratum_0 : T (stratum_0 empty_table)
unfolding stratum_0 carried_strata all_of
empty_stratum_0 = tt

pub unlayered_stratum_0 : (text : List ℕ) → T (stratum_0 (reading_without_18 text).table)
unfolding unlayered
unlayered_stratum_0 text = go (parse text) refl
  where
    go : (a : Parsed) → parse text ≡ a → T (stratum_0 (reading_without_18 text).table)
    go (accepted f) e = rw (without_18_file text f e) (file_stratum_0 f)
    go (refused k n) e = rw (without_18_refused text k n e) empty_stratum_0

pub unlayered_taken : (text : List ℕ) → T (takes Marks (reading_without_18 text).table)
unfolding unlayered takes strata_right
unlayered_taken text = go (parse text) refl
  where
    go : (a : Parsed) → parse text ≡ a → T (takes Marks (reading_without_18 text).table)
    go (accepted f) e =
        rw (without_18_file text f e) (and_i _ _ (file_well_formed f (file_declared text f ((accepts_iff text f).0 e))) (or_l _ _ (file_stratum_0 f)))
    go (refused k n) e = rw (without_18_refused text k n e) (sound_taken Marks empty_table empty_passes)

-- Where the reading with test 18 accepts, this one does, with the same table but for the strata;
pub accepted_both : (text : List ℕ) → (reading text).outcome ≡ Accepted → ((reading_without_18 text).outcome ≡ Accepted) × ((reading text).table ≡ with_strata (reading_without_18 text).table)
unfolding unlayered
accepted_both text o =
    let a = accepted_table text o in
    let w = without_18_file text a.0 a.1 in
    (ap (λ (r : FileRead). r.outcome) w, a.2 ∙ ap (λ (r : FileRead). with_strata r.table) (sym w))

-- where it refuses with 18, this one accepts;
pub accepted_18 : (text : List ℕ) (k : ℕ) → (reading text).outcome ≡ Refused 18 k → (reading_without_18 text).outcome ≡ Accepted
accepted_18 text k o = let w = (reading_18_iff text k).0 o in (unlayered_accepted_iff text).0 (w.0, w.1)

-- what this one accepts, it accepts or refuses with 18;
pub accepted_or_18 : (text : List ℕ) → (reading_without_18 text).outcome ≡ Accepted → ((reading text).outcome ≡ Accepted) ⊎ ((k : ℕ) × ((reading text).outcome ≡ Refused 18 k))
accepted_or_18 text o =
    let w = (unlayered_accepted_iff text).1 o in
    go w.0 ((accepts_iff text w.0).1 w.1) (eqb (circle_of weak w.0.rules) 0) refl
  where
    go : (f : File) → parse text ≡ accepted f → (b : Bool) → eqb (circle_of weak f.rules) 0 ≡ b → ((reading text).outcome ≡ Accepted) ⊎ ((k : ℕ) × ((reading text).outcome ≡ Refused 18 k))
    go f e true q = inl (ap (λ (a : FileRead). a.outcome) (reading_file text f e ∙ layered_zero f (eqb-true (circle_of weak f.rules) 0 q)))
    go f e false q = inr (circle_of weak f.rules, ap (λ (a : FileRead). a.outcome) (reading_file text f e ∙ layered_circle f (eqb-false (circle_of weak f.rules) 0 q)))

-- and a refusal with another number than 18 is the same in both, with both numbers.
numbers : (j m k n : ℕ) → Refused j m ≡ Refused k n → j ≡ k
numbers j m k n c = let z : j ≡ k = cc in z

pub refused_both : (text : List ℕ) (k n : ℕ) → k ≤ 17 → (reading text).outcome ≡ Refused k n → reading_without_18 text ≡ reading text
refused_both text k n h o = go (parse text) refl
  where
    go : (a : Parsed) → parse text ≡ a → reading_without_18 text ≡ reading text
    go (accepted f) e = by_circle (eqb (circle_of weak f.rules) 0) refl
      where
        by_circle : (b : Bool) → eqb (circle_of weak f.rules) 0 ≡ b → reading_without_18 text ≡ reading text
        by_circle true q = absurd (outcomes_differ k n (sym (ap (λ (a : FileRead). a.outcome) (reading_file text f e ∙ layered_zero f (eqb-true (circle_of weak f.rules) 0 q))) ∙ o))
        by_circle false q = absurd (omega (arith, h, numbers 18 _ k n (sym (ap (λ (a : FileRead). a.outcome) (reading_file text f e ∙ layered_circle f (eqb-false (circle_of weak f.rules) 0 q))) ∙ o)))
    go (refused j m) e = without_18_refused text j m e ∙ sym (reading_refused text j m e)

pub refused_without_18 : (text : List ℕ) (k n : ℕ) → (reading_without_18 text).outcome ≡ Refused k n → (10 ≤ k) × (k ≤ 17) × (reading text ≡ reading_without_18 text)
unfolding unlayered
refused_without_18 text k n o = go (parse text) refl
  where
    go : (a : Parsed) → parse text ≡ a → (10 ≤ k) × (k ≤ 17) × (reading text ≡ reading_without_18 text)
    go (accepted f) e = absurd (outcomes_differ k n (sym (ap (λ (a : FileRead). a.outcome) (without_18_file text f e)) ∙ o))
    go (refused j m) e =
        let r = refused_range text j m e in
        let z = numbers j m k n (sym (ap (λ (a : FileRead). a.outcome) (without_18_refused text j m e)) ∙ o) in
        (omega (arith, z, r.0), omega (arith, z, r.1), reading_refused text j m e ∙ sym (without_18_refused text j m e))

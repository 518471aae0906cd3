-- The reading by the program's limits: a text that it accepts is accepted by the library's with the same table, which has no more rules than the program takes.
-- Assumes nothing.
use mathlib.Core.Path.{◌≡◌, refl, sym, ap, ◌∙◌}
use mathlib.Core.Bool.{Bool, true, false}
use mathlib.Core.List.{List}
use mathlib.Core.Logic.{⊎_elim}
use Prim.Native.Nat.{ℕ, ◌≤◌}
use native.Mathlib.Omega.{arith}
use lib.Dec.{eqb}
use lib.ListN.{length}
use borrow.Author.Tests.{eqb-true, eqb-false}
use Rattle.model.specs.Strata.{weak}
use Rattle.model.specs.Circles.{circle_of}
use Rattle.laws.specs.Limits.{program_rule_limit}
use Rattle.table.specs.declared.Limits.TheVariants.{Program}
use Rattle.grammar.specs.Files.{File}
use Rattle.grammar.specs.Reading.{Parsed, accepted, refused, parse, parse_by}
use Rattle.grammar.proofs.Backward.{file_same}
use Rattle.grammar.proofs.Within.{accepted_by, refused_by}
use Rattle.reader.specs.Tables.{Accepted, Refused, FileRead}
use Rattle.rule_file.specs.Whole.{layered, answered_whole, reading, program_reading}
use Rattle.rule_file.proofs.Answers.{reading_file, layered_zero, layered_circle, refused_range, outcomes_differ}

-- The file that such a text is.
program_file : (text : List ℕ) → (program_reading text).outcome ≡ Accepted → (f : File) × (parse_by Program text ≡ accepted f)
unfolding answered_whole
program_file text o = go (parse_by Program text) o
  where
    go : (a : Parsed) → (answered_whole a).outcome ≡ Accepted → (f : File) × (a ≡ accepted f)
    go (accepted f) e = (f, refl)
    go (refused k n) e = absurd (outcomes_differ k n (sym e))

-- It is read alike by both.
pub program_accepted : (text : List ℕ) → (program_reading text).outcome ≡ Accepted → reading text ≡ program_reading text
unfolding answered_whole
program_accepted text o =
    let w = program_file text o in
    reading_file text w.0 (accepted_by Program text w.0 w.1).0 ∙ sym (ap answered_whole w.1)

-- Its file has no more rules than the program takes.
pub program_few : (text : List ℕ) → (program_reading text).outcome ≡ Accepted → (f : File) → parse text ≡ accepted f → length f.rules ≤ program_rule_limit
program_few text o f e =
    let w = program_file text o in
    let a = accepted_by Program text w.0 w.1 in
    let same : w.0 ≡ f = file_same w.0 f (sym a.0 ∙ e) in
    rw (← same) a.1

-- What it refuses is refused with 18 at most.
pub program_range : (text : List ℕ) (j n : ℕ) → (program_reading text).outcome ≡ Refused j n → j ≤ 18
unfolding answered_whole
program_range text j n q = go (parse_by Program text) refl q
  where
    by_circle : (f : File) (b : Bool) → eqb (circle_of weak f.rules) 0 ≡ b → (layered f).outcome ≡ Refused j n → j ≤ 18
    by_circle f true e o = absurd (outcomes_differ j n (sym (ap (λ (r : FileRead). r.outcome) (layered_zero f (eqb-true (circle_of weak f.rules) 0 e))) ∙ o))
    by_circle f false e o =
        let z = sym (ap (λ (r : FileRead). r.outcome) (layered_circle f (eqb-false (circle_of weak f.rules) 0 e))) ∙ o in
        let w : 18 ≡ j = cc in
        omega (arith, w)

    go : (a : Parsed) → parse_by Program text ≡ a → (answered_whole a).outcome ≡ Refused j n → j ≤ 18
    go (accepted f) e o = by_circle f (eqb (circle_of weak f.rules) 0) refl o
    go (refused k m) e o =
        let w : k ≡ j = cc in
        ⊎_elim (λ z. omega (arith, z, w)) (⊎_elim (λ z. omega (arith, z, w)) (λ z. omega (arith, (refused_range text k m z).1, w))) (refused_by Program text k m e)

-- What the whole reading answers, by the response that a text is read for; with test 18: accepted exactly where the text is a file whose rules have strata, and then with its table and the least strata; 18 exactly where the text is a file without strata.
-- Assumes nothing.
use mathlib.Core.Path.{◌≡◌, refl, sym, ap, ◌∙◌}
use mathlib.Core.Bool.{Bool, true, false, cond}
use mathlib.Core.List.{List}
use mathlib.Core.Logic.{◌↔◌, ⊎_elim}
use Prim.Native.Nat.{ℕ, ◌≤◌, ◌<◌}
use native.Mathlib.Omega.{arith}
use lib.Dec.{T, eqb}
use borrow.Author.Tests.{eqb-true, eqb-false, eq-eqb, ne_eqb}
use lib.ListN.{length}
use Rattle.laws.specs.Limits.{rule_limit}
use Rattle.model.specs.Rules as model
use Rattle.model.specs.Strata.{weak, Strata}
use Rattle.model.specs.Circles.{LowestThroughNot, circle_of}
use Rattle.model.specs.Least.{strata_of}
use Rattle.model.proofs.Circles.{NoCircle, no_circle_e}
use Rattle.model.proofs.Strata.{no_circle, least_strata}
use Rattle.model.proofs.Steps.{through_not_i, lowest_through_not, one_lowest}
use Rattle.table.specs.declared.Table.{Table}
use Rattle.table.specs.declared.Way.{Way}
use Rattle.table.specs.declared.Way.TheVariants as way
use Rattle.table.specs.declared.Limits.{Limits}
use Rattle.table.specs.declared.Limits.TheVariants.{Library}
use Rattle.table.specs.Empty.{empty_table}
use Rattle.table.specs.inner.Fits.{TableFits}
use Rattle.table.specs.inner.Shape.{Shaped}
use Rattle.table.specs.Link.{rules_of}
use Rattle.grammar.specs.Files.{File}
use Rattle.grammar.specs.Meaning.{IsFile}
use Rattle.grammar.specs.Reading.{Parsed, accepted, refused, parse, parse_by}
use Rattle.grammar.proofs.Accepts.{accepts_iff}
use Rattle.grammar.proofs.Declared.{file_declared}
use Rattle.grammar.proofs.Faults.{fault_range}
use Rattle.grammar.proofs.Refusals.{refusal_stands}
use Rattle.grammar.proofs.Stands.{file_stands}
use Rattle.names.specs.Names.{show_slot, show_value}
use Rattle.strata.specs.Layered.{with_strata}
use Rattle.soundness.specs.Sound.{sound}
use Rattle.soundness.proofs.WellFormed.{well_formed_fits}
use Rattle.strata.proofs.Written.{same_rules, same_counts, stratum_now, still_shaped}
use Rattle.soundness.proofs.Passes.{layered_passes, empty_passes}
use Rattle.reader.specs.Tables.{reading_refusal, Accepted, Refused, FileRead}
use Rattle.grammar.specs.TableFor.{table_for}
use Rattle.rule_file.specs.Carries.{Carries}
use Rattle.rule_file.specs.Whole.{layered, answered_whole, reading, unlayered, answered_without_18, reading_without_18, read_within, read_by}
use Rattle.rule_file.proofs.FileTable.{file_rules, file_counts, file_shaped, file_places, file_well_formed}
use Rattle.rule_file.proofs.Shown.{slots_show, values_show}

pub reading_file : (text : List ℕ) (f : File) → parse text ≡ accepted f → reading text ≡ layered f
unfolding reading answered_whole
reading_file text f e = ap answered_whole e

pub reading_refused : (text : List ℕ) (k n : ℕ) → parse text ≡ refused k n → reading text ≡ record { outcome = Refused k n; table = empty_table }
unfolding reading answered_whole
reading_refused text k n e = ap answered_whole e

-- The same without test 18.
pub without_18_file : (text : List ℕ) (f : File) → parse text ≡ accepted f → reading_without_18 text ≡ unlayered f
unfolding reading_without_18 answered_without_18
without_18_file text f e = ap answered_without_18 e

pub without_18_refused : (text : List ℕ) (k n : ℕ) → parse text ≡ refused k n → reading_without_18 text ≡ record { outcome = Refused k n; table = empty_table }
unfolding reading_without_18 answered_without_18 answered_whole
without_18_refused text k n e = ap answered_without_18 e

-- The two answers of a file as read.
pub layered_zero : (f : File) → circle_of weak f.rules ≡ 0 → layered f ≡ record { outcome = Accepted; table = with_strata (table_for f) }
unfolding layered
layered_zero f z = rw (eq-eqb (circle_of weak f.rules) 0 z) refl

pub layered_circle : (f : File) → (circle_of weak f.rules ≡ 0 → ⊥) → layered f ≡ record { outcome = Refused 18 (circle_of weak f.rules); table = empty_table }
unfolding layered
layered_circle f n = rw (ne_eqb (circle_of weak f.rules) 0 n) refl

-- The table of a file fits, and its arrays have their places.
pub file_table_fits : (text : List ℕ) (f : File) → parse text ≡ accepted f → TableFits (table_for f)
file_table_fits text f e =
    let D = file_declared text f ((accepts_iff text f).0 e) in
    well_formed_fits (table_for f) (file_shaped f D) (file_well_formed f D)

pub file_table_shaped : (text : List ℕ) (f : File) → parse text ≡ accepted f → Shaped (table_for f)
file_table_shaped text f e = file_shaped f (file_declared text f ((accepts_iff text f).0 e))

pub file_table_places : (text : List ℕ) (f : File) → parse text ≡ accepted f → length (table_for f).rules ≡ rule_limit
file_table_places text f e = file_places f (file_declared text f ((accepts_iff text f).0 e))

pub outcomes_differ : (k n : ℕ) → Accepted ≡ Refused k n → ⊥
outcomes_differ k n c = let z : ◌≡◌ {A = ℕ} 0 1 = cc in omega arith

-- What the code answers: a file's table with the least strata, 18, its table as it is, or the grammar's refusal.
module _ (w : Way) (l : Limits) (text : List ℕ) where
  pub whole_layered : (f : File) (u : Table) → w ≡ way.Strata → parse_by l text ≡ accepted f → circle_of weak f.rules ≡ 0 → u ≡ with_strata (table_for f)
      → record { outcome = Accepted; table = u } ≡ read_within w l text
  unfolding answered_whole
  whole_layered f u is e z d = rw is (ap (λ (x : Table). record { outcome = Accepted; table = x }) d ∙ sym (ap answered_whole e ∙ layered_zero f z))

  pub whole_circle : (f : File) (k : ℕ) → w ≡ way.Strata → parse_by l text ≡ accepted f → k ≡ circle_of weak f.rules → 0 < k
      → record { outcome = Refused 18 k; table = empty_table } ≡ read_within w l text
  unfolding answered_whole
  whole_circle f k is e z h = rw (is, z) (sym (ap answered_whole e ∙ layered_circle f (λ (n : circle_of weak f.rules ≡ 0). omega arith)))

  pub whole_unlayered : (f : File) (u : Table) → w ≡ way.Marks → parse_by l text ≡ accepted f → u ≡ table_for f → record { outcome = Accepted; table = u } ≡ read_within w l text
  unfolding unlayered answered_without_18
  whole_unlayered f u is e d = rw is (ap (λ (x : Table). record { outcome = Accepted; table = x }) d ∙ sym (ap answered_without_18 e))

  pub whole_refused : (k n : ℕ) → parse_by l text ≡ refused k n → record { outcome = Refused k n; table = empty_table } ≡ read_within w l text
  unfolding answered_whole answered_without_18
  whole_refused k n e = go w
    where
      go : (v : Way) → record { outcome = Refused k n; table = empty_table } ≡ read_within v l text
      go way.Strata = sym (ap answered_whole e)
      go way.Marks = sym (ap answered_without_18 e)

  -- A refusal has the table without slots or rules.
  pub refused_empty : (k n : ℕ) (t : Table) → record { outcome = Refused k n; table = t } ≡ read_within w l text → t ≡ empty_table
  unfolding answered_whole layered unlayered answered_without_18
  refused_empty k n t r = go w r
    where
      by_circle : (f : File) (b : Bool)
          → record { outcome = Refused k n; table = t } ≡ cond {A = FileRead} b (record { outcome = Accepted; table = with_strata (table_for f) }) (record { outcome = Refused 18 (circle_of weak f.rules); table = empty_table })
          → t ≡ empty_table
      by_circle f true e = absurd (outcomes_differ k n (sym (ap (λ (a : FileRead). a.outcome) e)))
      by_circle f false e = ap (λ (a : FileRead). a.table) e

      by_strata : (p : Parsed) → record { outcome = Refused k n; table = t } ≡ answered_whole p → t ≡ empty_table
      by_strata (accepted f) e = by_circle f (eqb (circle_of weak f.rules) 0) e
      by_strata (refused j m) e = ap (λ (a : FileRead). a.table) e

      by_marks : (p : Parsed) → record { outcome = Refused k n; table = t } ≡ answered_without_18 p → t ≡ empty_table
      by_marks (accepted f) e = absurd (outcomes_differ k n (sym (ap (λ (a : FileRead). a.outcome) e)))
      by_marks (refused j m) e = ap (λ (a : FileRead). a.table) e

      go : (v : Way) → record { outcome = Refused k n; table = t } ≡ read_within v l text → t ≡ empty_table
      go way.Strata e = by_strata (parse_by l text) e
      go way.Marks e = by_marks (parse_by l text) e

-- The library's limits are those of the answers by response alone.
pub by_library : (w : Way) (text : List ℕ) → read_within w Library text ≡ read_by w text
unfolding reading reading_without_18
by_library way.Strata text = refl
by_library way.Marks text = refl

-- The grammar's reading gives 10 to 17.
pub refused_range : (text : List ℕ) (k n : ℕ) → parse text ≡ refused k n → (10 ≤ k) × (k ≤ 17)
refused_range text k n e = ⊎_elim (λ w. (omega (arith, w.0), omega (arith, w.0))) (λ w. let r = fault_range k w.1.before w.1.after w.1.fault in (omega (arith, r.0), r.1)) (refusal_stands text k n e)

-- A text is accepted exactly where it is a file whose rules have strata.
pub reading_accepted_iff : (text : List ℕ) → ((f : File) × IsFile text f × ((u : ℕ → ℕ) × Strata weak f.rules u)) ↔ ((reading text).outcome ≡ Accepted)
reading_accepted_iff text = (there, λ o. back o (parse text) refl)
  where
    there : (f : File) × IsFile text f × ((u : ℕ → ℕ) × Strata weak f.rules u) → (reading text).outcome ≡ Accepted
    there w =
        let z = no_circle weak w.0.rules w.2.0 w.2.1 in
        ap (λ (a : FileRead). a.outcome) (reading_file text w.0 ((accepts_iff text w.0).1 w.1) ∙ layered_zero w.0 z)

    back : (reading text).outcome ≡ Accepted → (a : Parsed) → parse text ≡ a → (f : File) × IsFile text f × ((u : ℕ → ℕ) × Strata weak f.rules u)
    back o (accepted f) e = by_circle (eqb (circle_of weak f.rules) 0) refl
      where
        by_circle : (b : Bool) → eqb (circle_of weak f.rules) 0 ≡ b → (f : File) × IsFile text f × ((u : ℕ → ℕ) × Strata weak f.rules u)
        by_circle true q = (f, (accepts_iff text f).0 e, (strata_of weak f.rules, least_strata weak f.rules (eqb-true (circle_of weak f.rules) 0 q)))
        by_circle false q = absurd (outcomes_differ _ _ (sym o ∙ ap (λ (a : FileRead). a.outcome) (reading_file text f e ∙ layered_circle f (eqb-false (circle_of weak f.rules) 0 q))))
    back o (refused k n) e = absurd (outcomes_differ k n (sym o ∙ ap (λ (a : FileRead). a.outcome) (reading_refused text k n e)))

-- Strata change no name that is shown.
with_strata_shown : (text : List ℕ) (t : Table) → ((s : ℕ) → show_slot text (with_strata t) s ≡ show_slot text t s) × ((s v : ℕ) → show_value text (with_strata t) s v ≡ show_value text t s v)
unfolding with_strata show_slot show_value
with_strata_shown text t = (λ s. refl, λ s v. refl)

-- An accepted text is read as a file; its table is the file's with the least strata, and has the file's rules.
pub accepted_table : (text : List ℕ) → (reading text).outcome ≡ Accepted → (f : File) × (parse text ≡ accepted f) × ((reading text).table ≡ with_strata (table_for f)) × (rules_of (reading text).table ≡ f.rules)
accepted_table text o =
    let w = (reading_accepted_iff text).1 o in
    let f = w.0 in
    let e = (accepts_iff text f).1 w.1 in
    let D = file_declared text f w.1 in
    let sh = file_shaped f D in
    let t = ap (λ (a : FileRead). a.table) (reading_file text f e ∙ layered_zero f (no_circle weak f.rules w.2.0 w.2.1)) in
    (f, e, t, ap rules_of t ∙ same_rules (table_for f) (well_formed_fits (table_for f) sh (file_well_formed f D)) sh ∙ file_rules f)

-- An accepted text's table has its places.
pub accepted_shaped : (text : List ℕ) → (reading text).outcome ≡ Accepted → Shaped (reading text).table
accepted_shaped text o =
    let w = (reading_accepted_iff text).1 o in
    let f = w.0 in
    let e = (accepts_iff text f).1 w.1 in
    let z = no_circle weak f.rules w.2.0 w.2.1 in
    rw (reading_file text f e ∙ layered_zero f z) (still_shaped (table_for f) (file_table_fits text f e) (file_table_shaped text f e) (rw (file_rules f) z))

-- An accepted text's table carries its file.
pub reading_carries : (text : List ℕ) → (reading text).outcome ≡ Accepted → Carries text (reading text).table
reading_carries text o =
    let w = (reading_accepted_iff text).1 o in
    let f = w.0 in
    let e = (accepts_iff text f).1 w.1 in
    let z = no_circle weak f.rules w.2.0 w.2.1 in
    let D = file_declared text f w.1 in
    let sh = file_shaped f D in
    let fits = well_formed_fits (table_for f) sh (file_well_formed f D) in
    rw (reading_file text f e ∙ layered_zero f z) (record {
      file = f;
      is_file = w.1;
      rules_are = same_rules (table_for f) fits sh ∙ file_rules f;
      counts_are = same_counts (table_for f) fits sh ∙ file_counts f;
      slots_shown = λ s. (with_strata_shown text (table_for f)).0 s ∙ slots_show text f (file_stands text f e) s;
      values_shown = λ s v. (with_strata_shown text (table_for f)).1 s v ∙ values_show text f (file_stands text f e) s v;
      strata_are = λ n i. stratum_now (table_for f) fits sh n (rw (file_rules f) i) ∙ ap (λ (rs : List model.Rule). strata_of weak rs n) (file_rules f);
      no_circle = z;
    })

-- A text is refused with 18 exactly where it is a file whose rules have a circle through a NOT; the second number is the lowest rule on such a circle.
pub reading_18_iff : (text : List ℕ) (k : ℕ) → ((reading text).outcome ≡ Refused 18 k) ↔ ((f : File) × IsFile text f × LowestThroughNot f.rules k)
unfolding NoCircle
reading_18_iff text k = (λ o. there o (parse text) refl, back)
  where
    seconds : (a b : ℕ) → Refused 18 a ≡ Refused 18 b → a ≡ b
    seconds a b c = let z : a ≡ b = cc in z

    numbers : (a b m : ℕ) → Refused 18 a ≡ Refused b m → b ≡ 18
    numbers a b m c = let z : b ≡ 18 = cc in z

    there : (reading text).outcome ≡ Refused 18 k → (a : Parsed) → parse text ≡ a → (f : File) × IsFile text f × LowestThroughNot f.rules k
    there o (accepted f) e = by_circle (eqb (circle_of weak f.rules) 0) refl
      where
        by_circle : (b : Bool) → eqb (circle_of weak f.rules) 0 ≡ b → (f : File) × IsFile text f × LowestThroughNot f.rules k
        by_circle true q = absurd (outcomes_differ 18 k (sym (ap (λ (a : FileRead). a.outcome) (reading_file text f e ∙ layered_zero f (eqb-true (circle_of weak f.rules) 0 q))) ∙ o))
        by_circle false q =
            let n = eqb-false (circle_of weak f.rules) 0 q in (
              f,
              (accepts_iff text f).0 e,
              rw (seconds k _ (sym o ∙ ap (λ (a : FileRead). a.outcome) (reading_file text f e ∙ layered_circle f n))) (lowest_through_not f.rules n),
            )
    there o (refused j m) e =
        let z = numbers k j m (sym o ∙ ap (λ (a : FileRead). a.outcome) (reading_refused text j m e)) in
        absurd (omega (arith, z, (refused_range text j m e).1))

    back : (f : File) × IsFile text f × LowestThroughNot f.rules k → (reading text).outcome ≡ Refused 18 k
    back w =
        let f = w.0 in
        let some : ¬ (circle_of weak f.rules ≡ 0) = λ z. no_circle_e weak f.rules z k w.2.rule (through_not_i f.rules k w.2.circle) in
        ap (λ (a : FileRead). a.outcome) (reading_file text f ((accepts_iff text f).1 w.1) ∙ layered_circle f some)
        ∙ ap (λ (n : ℕ). Refused 18 n) (sym (one_lowest f.rules k w.2))

-- It is so refused exactly where it is a file whose rules have no strata.
pub reading_no_strata_iff : (text : List ℕ) → ((k : ℕ) × ((reading text).outcome ≡ Refused 18 k)) ↔ ((f : File) × IsFile text f × ((u : ℕ → ℕ) → ¬ Strata weak f.rules u))
reading_no_strata_iff text = (there, back)
  where
    there : (k : ℕ) × ((reading text).outcome ≡ Refused 18 k) → (f : File) × IsFile text f × ((u : ℕ → ℕ) → ¬ Strata weak f.rules u)
    there w =
        let l = (reading_18_iff text w.0).0 w.1 in
        (l.0, l.1, λ u s. outcomes_differ 18 w.0 (sym ((reading_accepted_iff text).0 (l.0, l.1, (u, s))) ∙ w.1))

    back : (f : File) × IsFile text f × ((u : ℕ → ℕ) → ¬ Strata weak f.rules u) → (k : ℕ) × ((reading text).outcome ≡ Refused 18 k)
    back w =
        let f = w.0 in
        let n : ¬ (circle_of weak f.rules ≡ 0) = λ z. w.2 (strata_of weak f.rules) (least_strata weak f.rules z) in
        (circle_of weak f.rules, ap (λ (a : FileRead). a.outcome) (reading_file text f ((accepts_iff text f).1 w.1) ∙ layered_circle f n))

-- Every table that the reading hands out passes 31.
pub reading_passes : (text : List ℕ) → T (sound (reading text).table)
reading_passes text = go (parse text) refl
  where
    go : (a : Parsed) → parse text ≡ a → T (sound (reading text).table)
    go (accepted f) e =
        rw (reading_file text f e) (by_circle (eqb (circle_of weak f.rules) 0) refl)
      where
        by_circle : (b : Bool) → eqb (circle_of weak f.rules) 0 ≡ b → T (sound (layered f).table)
        by_circle true q =
            let D = file_declared text f ((accepts_iff text f).0 e) in
            let z = eqb-true (circle_of weak f.rules) 0 q in
            rw (layered_zero f z) (layered_passes (table_for f) (file_shaped f D) (file_well_formed f D) (rw (file_rules f) z))
        by_circle false q = rw (layered_circle f (eqb-false (circle_of weak f.rules) 0 q)) empty_passes
    go (refused k n) e = rw (reading_refused text k n e) empty_passes

-- A text is accepted exactly where the number of its refusal is 0.
pub reading_no_refusal : (text : List ℕ) → reading_refusal (reading text).outcome ≡ 0 → (reading text).outcome ≡ Accepted
reading_no_refusal text e = go (parse text) refl
  where
    go : (a : Parsed) → parse text ≡ a → (reading text).outcome ≡ Accepted
    go (accepted f) r = by_circle (eqb (circle_of weak f.rules) 0) refl
      where
        by_circle : (b : Bool) → eqb (circle_of weak f.rules) 0 ≡ b → (reading text).outcome ≡ Accepted
        by_circle true q = ap (λ (a : FileRead). a.outcome) (reading_file text f r ∙ layered_zero f (eqb-true (circle_of weak f.rules) 0 q))
        by_circle false q =
            let z = ap (λ (a : FileRead). reading_refusal a.outcome) (reading_file text f r ∙ layered_circle f (eqb-false (circle_of weak f.rules) 0 q)) in
            absurd (omega (arith, z, e))
    go (refused k n) r =
        let z = ap (λ (a : FileRead). reading_refusal a.outcome) (reading_refused text k n r) in
        absurd (omega (arith, z, e, (refused_range text k n r).0))

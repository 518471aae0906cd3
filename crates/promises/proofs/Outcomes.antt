-- What the reading of a rule file comes to, accepted or one refusal from the list; and what its printing comes to, and exactly where.
-- Assumes nothing.
use Prim.Native.Nat.{ℕ, ◌≤◌, ◌<◌}
use native.Mathlib.Omega.{arith}
use mathlib.Core.Path.{◌≡◌, refl, sym, ap, ap₂, subst, ◌∙◌}
use mathlib.Core.Bool.{Bool, true, false, cond}
use mathlib.Core.List.{List}
use mathlib.Core.Logic.{◌⊎◌, inl, inr, ⊎_elim}
use lib.Dec.{eqb}
use lib.ListN.{length}
use Rattle.laws.specs.Answers.{OrRefused, taken, refused}
use Rattle.laws.proofs.Truth.{le_or_lt}
use Rattle.text.specs.Tokens.{tokens}
use Rattle.model.specs.Strata.{weak}
use Rattle.model.specs.Circles.{circle_of}
use Rattle.table.specs.declared.Way.{Way}
use Rattle.table.specs.declared.Way.TheVariants.{Strata, Marks}
use Rattle.table.specs.Empty.{empty_table}
use Rattle.laws.specs.Limits.{text_limit}
use Rattle.grammar.specs.Files.{File}
use Rattle.grammar.specs.Reading as grammar
use Rattle.grammar.specs.Reading.{Parsed, accepted, parse}
use Rattle.grammar.specs.Refusals.{StandsAt}
use Rattle.grammar.proofs.Refusals.{text_refused_iff}
use Rattle.strata.specs.Layered.{with_strata}
use Rattle.grammar.specs.TableFor.{table_for}
use Rattle.reader.specs.Tables.{ReadingOutcome, Accepted, Refused, reading_refusal, reading_second, FileRead}
use Rattle.rule_file.specs.Whole.{layered, answered_whole, reading, unlayered, read_by}
use Rattle.rule_file.proofs.Answers.{reading_file, without_18_file, whole_refused, refused_range, reading_18_iff, by_library}
use Rattle.table.specs.declared.Limits.TheVariants.{Library}
use Rattle.rule_file.proofs.Unlayered.{refused_without_18}
use Rattle.printing.specs.Printing.{print_of, print_into}
use Rattle.printing.proofs.Fitting.{fitted_34, fitted_33, fitted_all, refused_first, then_fitted}
use Rattle.promises.specs.Reasons.{FileReason, over_long, at_token, no_strata}
use Rattle.promises.proofs.Refusals.{Only, Other}

-- A refusal by its numbers.
pub by_numbers : (x : ReadingOutcome) (k n : ℕ) → 0 < k → reading_refusal x ≡ k → reading_second x ≡ n → x ≡ Refused k n
by_numbers Accepted k n l e q = absurd (omega (arith, l, e))
by_numbers (Refused j m) k n l e q = ap₂ Refused e q

-- The numbers of a reading's refusals.
abbrev pub OfFile : ℕ → Type 0
OfFile k = (10 ≤ k) × (k ≤ 18)

-- What a reading comes to.
abbrev Reads : FileRead → Type 0
Reads r = (r.outcome ≡ Accepted) ⊎ ((k : ℕ) × (n : ℕ) × OfFile k × (r ≡ record { outcome = Refused k n; table = empty_table }))

layered_comes : (f : File) → Reads (layered f)
unfolding layered
layered_comes f = go (eqb (circle_of weak f.rules) 0)
  where
    go : (b : Bool) → Reads (cond b (record { outcome = Accepted; table = with_strata (table_for f) }) (record { outcome = Refused 18 (circle_of weak f.rules); table = empty_table }))
    go true = inl refl
    go false = inr (18, circle_of weak f.rules, (omega arith, omega arith), refl)

file_comes : (way : Way) (text : List ℕ) (f : File) → parse text ≡ accepted f → Reads (read_by way text)
unfolding unlayered
file_comes Strata text f e = subst Reads (sym (reading_file text f e)) (layered_comes f)
file_comes Marks text f e = inl (ap (λ (r : FileRead). r.outcome) (without_18_file text f e))

pub text_comes : (way : Way) (text : List ℕ) → Reads (read_by way text)
text_comes way text = go (parse text) refl
  where
    go : (a : Parsed) → parse text ≡ a → Reads (read_by way text)
    go (accepted f) e = file_comes way text f e
    go (grammar.refused k n) e = let r = refused_range text k n e in inr (k, n, (r.0, omega (arith, r.1)), sym (whole_refused way Library text k n e ∙ by_library way text))

grammar_refuses : (way : Way) (text : List ℕ) (k n : ℕ) → ((k ≡ 10) × (n ≡ 0) × (text_limit < length text)) ⊎ ((length text ≤ text_limit) × StandsAt (tokens text) k n) → (read_by way text).outcome ≡ Refused k n
grammar_refuses way text k n h = sym (ap (λ (r : FileRead). r.outcome) (whole_refused way Library text k n ((text_refused_iff text k n).1 h) ∙ by_library way text))

-- A refusal has its reason,
strata_reason : (text : List ℕ) (k n : ℕ) → (reading text).outcome ≡ Refused k n → FileReason text Strata k n
unfolding reading answered_whole layered
strata_reason text k n o = go (parse text) refl o
  where
    go : (a : Parsed) → parse text ≡ a → (answered_whole a).outcome ≡ Refused k n → FileReason text Strata k n
    go (accepted f) e q = by_circle (eqb (circle_of weak f.rules) 0) q
      where
        by_circle : (b : Bool) → (cond {A = FileRead} b (record { outcome = Accepted; table = with_strata (table_for f) }) (record { outcome = Refused 18 (circle_of weak f.rules); table = empty_table })).outcome ≡ Refused k n → FileReason text Strata k n
        by_circle true q = absurd (let z : ◌≡◌ {A = ℕ} 0 1 = cc in omega arith)
        by_circle false q =
            let z : 18 ≡ k = cc in
            let w = (reading_18_iff text n).0 (o ∙ ap (λ (j : ℕ). Refused j n) (sym z)) in
            subst (λ (j : ℕ). FileReason text Strata j n) z (no_strata w.1 w.2)
    go (grammar.refused j m) e q =
        let y : j ≡ k = cc in
        let z : m ≡ n = cc in
        subst (λ (i : ℕ). FileReason text Strata i n) y (subst (λ (i : ℕ). FileReason text Strata j i) z (at text j m e))
      where
        at : (text : List ℕ) (j m : ℕ) → parse text ≡ grammar.refused j m → FileReason text Strata j m
        at text j m e = ⊎_elim (λ h. rw (h.0, h.1) (over_long h.2)) (λ h. at_token h.0 h.1) ((text_refused_iff text j m).0 e)

but_18 : (w : Way) (text : List ℕ) (k n : ℕ) → k ≤ 17 → FileReason text w k n → FileReason text Marks k n
but_18 w text k n h (over_long l) = over_long l
but_18 w text k n h (at_token s l) = at_token s l
but_18 w text k n h (no_strata i l) = absurd (omega (arith, h))

pub file_reason : (way : Way) (text : List ℕ) (k n : ℕ) → (read_by way text).outcome ≡ Refused k n → FileReason text way k n
file_reason Strata text k n o = strata_reason text k n o
file_reason Marks text k n o = let w = refused_without_18 text k n o in but_18 Strata text k n w.1 (strata_reason text k n (ap (λ (r : FileRead). r.outcome) w.2 ∙ o))

-- and where a reason holds it is refused so.
pub reason_file : (way : Way) (text : List ℕ) (k n : ℕ) → FileReason text way k n → (read_by way text).outcome ≡ Refused k n
reason_file way text k n (over_long l) = grammar_refuses way text 10 0 (inl (refl, refl, l))
reason_file way text k n (at_token s l) = grammar_refuses way text k n (inr (s, l))
reason_file way text k n (no_strata {f = f} i l) = (reading_18_iff text n).1 (f, i, l)

module _ (text : List ℕ) (room : ℕ) where
  -- The print of the text, whatever its length.
  abbrev whole : List ℕ
  whole = print_of (parse text)

  -- What a print can come to, and where.
  pub data Prints : OrRefused (List ℕ) → Type 0 where
    own_refusal : {k n : ℕ} → OfFile k → (reading text).outcome ≡ Refused k n → Prints (refused k n)
    over : (reading text).outcome ≡ Accepted → text_limit < length whole → Prints (refused 34 0)
    short : (reading text).outcome ≡ Accepted → length whole ≤ text_limit → room < length whole → Prints (refused 33 0)
    all : (reading text).outcome ≡ Accepted → length whole ≤ text_limit → length whole ≤ room → Prints (taken whole)

  pub comes_34 : ((reading text).outcome ≡ Accepted) × (text_limit < length whole) → print_into text room ≡ refused 34 0
  comes_34 h = then_fitted text room h.0 ∙ fitted_34 whole room h.1

  pub comes_33 : ((reading text).outcome ≡ Accepted) × (length whole ≤ text_limit) × (room < length whole) → print_into text room ≡ refused 33 0
  comes_33 h = then_fitted text room h.0 ∙ fitted_33 whole room h.1 h.2

  pub comes_whole : ((reading text).outcome ≡ Accepted) × (length whole ≤ text_limit) × (length whole ≤ room) → print_into text room ≡ taken whole
  comes_whole h = then_fitted text room h.0 ∙ fitted_all whole room h.1 h.2

  pub prints : Prints (print_into text room)
  prints = ⊎_elim accepts (λ w. rw (refused_first text room w.0 w.1 (ap (λ (r : FileRead). r.outcome) w.3)) (own_refusal w.2 (ap (λ (r : FileRead). r.outcome) w.3))) (text_comes Strata text)
    where
      accepts : (reading text).outcome ≡ Accepted → Prints (print_into text room)
      accepts o =
          ⊎_elim (λ l. ⊎_elim (λ s. rw (comes_whole (o, l, s)) (all o l s)) (λ s. rw (comes_33 (o, l, s)) (short o l s)) (le_or_lt (length whole) room))
          (λ l. rw (comes_34 (o, l)) (over o l)) (le_or_lt (length whole) text_limit)

  -- Each answer tells what it comes from.
  from_34 : (u : OrRefused (List ℕ)) → Prints u → u ≡ refused 34 0 → ((reading text).outcome ≡ Accepted) × (text_limit < length whole)
  from_34 u (own_refusal {k = k} {n = n} h o) e = absurd (let z : k ≡ 34 = cc in omega (arith, z, h.1))
  from_34 u (over o l) e = (o, l)
  from_34 u (short o l s) e = absurd (let z : ◌≡◌ {A = ℕ} 33 34 = cc in omega arith)
  from_34 u (all o l s) e = absurd (let z : ◌≡◌ {A = ℕ} 0 1 = cc in omega arith)

  from_33 : (u : OrRefused (List ℕ)) → Prints u → u ≡ refused 33 0 → ((reading text).outcome ≡ Accepted) × (length whole ≤ text_limit) × (room < length whole)
  from_33 u (own_refusal {k = k} {n = n} h o) e = absurd (let z : k ≡ 33 = cc in omega (arith, z, h.1))
  from_33 u (over o l) e = absurd (let z : ◌≡◌ {A = ℕ} 33 34 = cc in omega arith)
  from_33 u (short o l s) e = (o, l, s)
  from_33 u (all o l s) e = absurd (let z : ◌≡◌ {A = ℕ} 0 1 = cc in omega arith)

  from_taken : (u : OrRefused (List ℕ)) (bytes : List ℕ) → Prints u → u ≡ taken bytes → ((reading text).outcome ≡ Accepted) × (bytes ≡ whole) × (length bytes ≤ text_limit) × (length bytes ≤ room)
  from_taken u bytes (own_refusal h o) e = absurd (let z : ◌≡◌ {A = ℕ} 0 1 = cc in omega arith)
  from_taken u bytes (over o l) e = absurd (let z : ◌≡◌ {A = ℕ} 0 1 = cc in omega arith)
  from_taken u bytes (short o l s) e = absurd (let z : ◌≡◌ {A = ℕ} 0 1 = cc in omega arith)
  from_taken u bytes (all o l s) e = let z : bytes ≡ whole = cc in rw z (o, refl, l, s)

  pub is_34 : print_into text room ≡ refused 34 0 → ((reading text).outcome ≡ Accepted) × (text_limit < length whole)
  is_34 e = from_34 (print_into text room) prints e

  pub is_33 : print_into text room ≡ refused 33 0 → ((reading text).outcome ≡ Accepted) × (length whole ≤ text_limit) × (room < length whole)
  is_33 e = from_33 (print_into text room) prints e

  pub is_whole : (bytes : List ℕ) → print_into text room ≡ taken bytes → ((reading text).outcome ≡ Accepted) × (bytes ≡ whole) × (length bytes ≤ text_limit) × (length bytes ≤ room)
  is_whole bytes e = from_taken (print_into text room) bytes prints e

  never_0 : (u : OrRefused (List ℕ)) → Prints u → Only (Other 0) u
  never_0 u (own_refusal h o) = λ e. omega (arith, h.0, e)
  never_0 u (over o l) = λ e. omega (arith, e)
  never_0 u (short o l s) = λ e. omega (arith, e)
  never_0 u (all o l s) = tt

  -- No refusal of a print has number 0.
  pub print_other_0 : Only (Other 0) (print_into text room)
  print_other_0 = never_0 (print_into text room) prints

-- What rows mean: their rules fit, and rows that a table's rules were written into stand for that table's rules.
-- Assumes nothing.
use mathlib.Core.Path.{◌≡◌, refl, sym, ap, ap₂, subst, ◌∙◌}
use mathlib.Core.Bool.{Bool, true, false, cond}
use mathlib.Core.List.{List, [], ◌∷◌, map}
use mathlib.Core.Logic.{⊎_elim}
use Prim.Native.Nat.{ℕ, zero, suc, ◌+◌, ◌*◌, ◌/◌, ◌%◌, ◌≤◌, ◌<◌}
use native.Mathlib.Nat.{eq-or-lt_of_le, le_of_suc-le-suc}
use native.Mathlib.Omega.{arith}
use lib.Dec.{eqb}
use Rattle.laws.proofs.Equations.{either}
use Rattle.laws.specs.Truth.{◌∧ᵇ◌, notᵇ}
use lib.ListN.{length, get_or, set, take, drop, length-map, length-take, length-drop, length-set, length-replicate, get_or-replicate, get_or-map}
use lib.Seq.{get_or-take, get_or-drop, get_or-set_same, get_or-set_other}
use Rattle.laws.specs.Limits.{slot_limit, rule_limit, literal_limit, assignment_limit}
use Rattle.model.specs.Rules as model
use Rattle.model.specs.Result.{pair}
use Rattle.model.specs.Strata.{is_plain, is_under_not}
use Rattle.table.specs.declared.Rule.{Rule}
use Rattle.table.specs.declared.Table.{Table}
use Rattle.table.specs.Zero.{zero_literal, zero_assignment, zero_rule, zero_slot}
use Rattle.table.specs.Empty.{unused_slot}
use Rattle.table.specs.Link.{literal_of, assignment_of, rule_of, rules_of, carried_strata}
use Rattle.table.specs.inner.Flat.{Placed, pair_places}
use Rattle.table.specs.inner.Fits.{RuleFits, TableFits}
use Rattle.table.specs.inner.Shape.{RuleShaped, Shaped}
use Rattle.table.proofs.Walks.{picked_from, assigned_from, picked_next, picked_over, assigned_next}
use Rattle.rows.specs.inner.Rows.{tests, pair_in, literal_in, assignment_in, rule_in, table_in, RowShaped, RowFits, RowBounded, Row, RowsShaped, RowsFit, RowsBounded, Entered}

-- The literal at a place.
pub literal_is : (row : List ℕ) (j : ℕ) → j < literal_limit → get_or (rule_in row).literals j zero_literal ≡ literal_in (get_or row (4 + j) 0)
literal_is row j h = get_or-map literal_in (take literal_limit (drop 4 row)) j 0 ∙ ap literal_in (get_or-take literal_limit (drop 4 row) j 0 h ∙ get_or-drop 4 row j 0)

-- The assignment at a place.
pub assignment_is : (row : List ℕ) (k : ℕ) → k < assignment_limit → get_or (rule_in row).assignments k zero_assignment ≡ assignment_in (get_or row (12 + k) 0)
assignment_is row k h = get_or-map assignment_in (take assignment_limit (drop 12 row)) k 0 ∙ ap assignment_in (get_or-take assignment_limit (drop 12 row) k 0 h ∙ get_or-drop 12 row k 0)

-- A test's pair has a place.
pub pair_placed : (x : ℕ) → Placed (pair_in x).slot (pair_in x).value
pair_placed x = record { in_slots = omega arith; in_row = omega arith }

-- The rule of a row has its places.
pub row_rule_shaped : (row : List ℕ) → RowShaped row → RuleShaped (rule_in row)
row_rule_shaped row s =
    let z = s.size in
    record {
      slot_byte = omega (arith, (pair_placed (get_or row 0 0)).in_slots);
      value_byte = omega (arith, (pair_placed (get_or row 0 0)).in_row);
      literal_places = simp (length-map, length-take, length-drop) (omega arith);
      each_literal = λ j h. rw (literal_is row j h) (let p = pair_placed (get_or row (4 + j) 0) in record { slot_byte = omega (arith, p.in_slots); value_byte = omega (arith, p.in_row) });
      assignment_places = simp (length-map, length-take, length-drop) (omega arith);
      each_assignment = λ j h. rw (assignment_is row j h) (let p = pair_placed (get_or row (12 + j) 0) in record { slot_byte = omega (arith, p.in_slots); value_byte = omega (arith, p.in_row) });
      stratum_small = s.stratum_small;
    }

-- A row that fits keeps its bounds.
pub fits_bounded : (row : List ℕ) → RowFits row → RowBounded row
fits_bounded row f = record {
  row_shaped = f.row_shaped;
  few_literals = f.few_literals;
  few_assignments = f.few_assignments;
  trigger_test = omega (arith, f.trigger_becomes);
  each_test = f.each_test;
}

-- And one that keeps its bounds and whose trigger is a `*=` fits.
pub bounded_fits : (row : List ℕ) → RowBounded row → get_or row 0 0 / pair_places ≡ 1 → RowFits row
bounded_fits row f e = record {
  row_shaped = f.row_shaped;
  few_literals = f.few_literals;
  few_assignments = f.few_assignments;
  trigger_becomes = e;
  each_test = f.each_test;
}

-- The first n of rows keep their bounds, where they fit.
pub rows_fit_bounded : (rows : List (List ℕ)) (n : ℕ) → RowsFit rows n → RowsBounded rows n
rows_fit_bounded rows n f = record {
  rows_shaped = f.rows_shaped;
  few = f.few;
  inside = f.inside;
  each_bounded = λ i h. fits_bounded (get_or rows i []) (f.each_fits i h);
}

-- The rule of a row that keeps its bounds, fits.
pub row_rule_fits : (row : List ℕ) → RowBounded row → RuleFits (rule_in row)
row_rule_fits row f = record {
  trigger = pair_placed (get_or row 0 0);
  literals_fit = f.few_literals;
  assignments_fit = f.few_assignments;
  literal = λ j h. rw (literal_is row j (omega (arith, h, f.few_literals))) (pair_placed (get_or row (4 + j) 0));
  assignment = λ j h. rw (assignment_is row j (omega (arith, h, f.few_assignments))) (pair_placed (get_or row (12 + j) 0));
}

-- The rule at a place of rows.
pub rule_row : (rows : List (List ℕ)) (n i : ℕ) → get_or (table_in rows n).rules i zero_rule ≡ rule_in (get_or rows i [])
unfolding table_in
rule_row rows n i = get_or-map rule_in rows i []

-- How many rules rows have.
pub rows_count : (rows : List (List ℕ)) (n : ℕ) → (table_in rows n).count ≡ n
unfolding table_in
rows_count rows n = refl

-- The table that rows stand for has its places.
pub rows_table_shaped : (rows : List (List ℕ)) (n : ℕ) → RowsBounded rows n → Shaped (table_in rows n)
unfolding table_in
rows_table_shaped rows n f = record {
  slot_places = length-replicate slot_limit unused_slot;
  each_slot = λ i h. rw (get_or-replicate slot_limit i unused_slot zero_slot h) (record { value_places = refl });
  rule_places = λ h. rw length-map f.inside;
  each_rule = λ i h. rw (get_or-map rule_in rows i []) (row_rule_shaped (get_or rows i []) (f.rows_shaped.each_row i (simp length-map at h)));
}

-- And fits.
pub rows_table_fits : (rows : List (List ℕ)) (n : ℕ) → RowsBounded rows n → TableFits (table_in rows n)
unfolding table_in
rows_table_fits rows n f = record { rules_fit = f.few; each_fits = λ i h. rw (get_or-map rule_in rows i []) (row_rule_fits (get_or rows i []) (f.each_bounded i h)) }

-- A plain `*=` has its number between those of `|=` and those under NOT.
pub plain_number : (x : ℕ) → x < tests → is_plain (literal_of (literal_in x)) ≡ eqb (x / pair_places) 1
unfolding is_plain ◌∧ᵇ◌ notᵇ
plain_number x h =
    let e : x / (2 * pair_places) ≡ x / pair_places / 2 = omega arith in
    rw e (go (x / pair_places) (omega arith))
  where
    go : (q : ℕ) → q < 4 → (eqb (q % 2) 1 ∧ᵇ notᵇ (eqb (q / 2) 1)) ≡ eqb q 1
    go zero l = refl
    go (suc zero) l = refl
    go (suc (suc zero)) l = refl
    go (suc (suc (suc zero))) l = refl
    go (suc (suc (suc (suc q)))) l = absurd (omega arith)

-- A `*=` under NOT has the highest.
pub under_not_number : (x : ℕ) → x < tests → is_under_not (literal_of (literal_in x)) ≡ eqb (x / pair_places) 3
unfolding is_under_not ◌∧ᵇ◌
under_not_number x h =
    let e : x / (2 * pair_places) ≡ x / pair_places / 2 = omega arith in
    rw e (go (x / pair_places) (omega arith))
  where
    go : (q : ℕ) → q < 4 → (eqb (q % 2) 1 ∧ᵇ eqb (q / 2) 1) ≡ eqb q 3
    go zero l = refl
    go (suc zero) l = refl
    go (suc (suc zero)) l = refl
    go (suc (suc (suc zero))) l = refl
    go (suc (suc (suc (suc q)))) l = absurd (omega arith)

-- By how much a test raises its rule above its pair.
pub above_number : (x : ℕ) → x < tests → cond (literal_in x).negated 1 0 ≡ x / (2 * pair_places)
above_number x h = go (x / (2 * pair_places)) (omega arith)
  where
    go : (q : ℕ) → q < 2 → cond (eqb q 1) 1 0 ≡ q
    go zero l = refl
    go (suc zero) l = refl
    go (suc (suc q)) l = absurd (omega arith)

-- The number of a test of a pair, by what it is more.
pub test_number : (p : ℕ) (becomes negated : Bool) (slot value : ℕ) → p < pair_places → pair_in p ≡ pair slot value
    → (literal_in (p + cond becomes 512 0 + cond negated 1024 0) ≡ record { becomes = becomes; negated = negated; slot = slot; value = value }) × (p + cond becomes 512 0 + cond negated 1024 0 < tests)
test_number p b n slot value h e = (λ i. record { becomes = first i; negated = second i; slot = (third i).slot; value = (third i).value }, go b n)
  where
    go : (b n : Bool) → p + cond b 512 0 + cond n 1024 0 < tests
    go true true = omega arith
    go true false = omega arith
    go false true = omega arith
    go false false = omega arith

    is_b : (b n : Bool) → (p + cond b 512 0 + cond n 1024 0) / pair_places % 2 ≡ cond b 1 0
    is_b true true = omega arith
    is_b true false = omega arith
    is_b false true = omega arith
    is_b false false = omega arith

    is_n : (b n : Bool) → (p + cond b 512 0 + cond n 1024 0) / (2 * pair_places) ≡ cond n 1 0
    is_n true true = omega arith
    is_n true false = omega arith
    is_n false true = omega arith
    is_n false false = omega arith

    same : (b n : Bool) → (p + cond b 512 0 + cond n 1024 0) % pair_places ≡ p % pair_places
    same true true = omega arith
    same true false = omega arith
    same false true = omega arith
    same false false = omega arith

    back : (b : Bool) → eqb (cond b 1 0) 1 ≡ b
    back true = refl
    back false = refl

    first : eqb ((p + cond b 512 0 + cond n 1024 0) / pair_places % 2) 1 ≡ b
    first = rw (is_b b n) (back b)

    second : eqb ((p + cond b 512 0 + cond n 1024 0) / (2 * pair_places)) 1 ≡ n
    second = rw (is_n b n) (back n)

    third : pair_in (p + cond b 512 0 + cond n 1024 0) ≡ pair slot value
    third = rw (same b n) e

-- What holds at the places below i, and at i, holds below the next.
pub at_last : (P : ℕ → Type 0) (i : ℕ) → ((k : ℕ) → k < i → P k) → P i → (k : ℕ) → k < i + 1 → P k
at_last P i below top k h = ⊎_elim (λ (e : k ≡ i). subst P (sym e) top) (λ (l : k < i). below k l) (eq-or-lt_of_le (let z : k ≤ i = omega arith in z))

-- No rule is entered yet.
pub entered_start : (rs : List Rule) (rows : List (List ℕ)) → RowsShaped rows → Entered rs rows 0
entered_start rs rows s = record { shaped = s; each = λ i h. absurd (let z = h in omega arith) }

-- One row more has its rule.
pub row_next : (rs : List Rule) (rows : List (List ℕ)) (i : ℕ) (row : List ℕ) → i < length rows → Row (get_or rs i zero_rule) row → ((k : ℕ) → k < i → Row (get_or rs k zero_rule) (get_or rows k [])) → (k : ℕ) → k < i + 1 → Row (get_or rs k zero_rule) (get_or (set rows i row) k [])
row_next rs rows i row h r e = at_last (λ k. Row (get_or rs k zero_rule) (get_or (set rows i row) k [])) i
    (λ k b. rw (get_or-set_other rows i k row [] (λ (q : k ≡ i). omega arith)) (e k b))
    (rw (get_or-set_same rows i row [] h) r)

-- One rule more is written into its row.
pub entered_next : (rs : List Rule) (rows : List (List ℕ)) (i : ℕ) (row : List ℕ) → i < length rows → Row (get_or rs i zero_rule) row → Entered rs rows i → Entered rs (set rows i row) (i + 1)
entered_next rs rows i row h r e = record {
  shaped = record {
    each_row = λ k b. ⊎_elim
        (λ (q : k ≡ i). rw (q, get_or-set_same rows i row [] h) r.fits.row_shaped)
        (λ (q : k ≡ i → ⊥). rw (get_or-set_other rows i k row [] q) (e.shaped.each_row k (rw (length-set rows i row) at b)))
        (either k i);
  };
  each = row_next rs rows i row h r e.each;
}

-- Rows that rules were written into fit.
pub entered_fit : (rs : List Rule) (rows : List (List ℕ)) (n : ℕ) → n ≤ rule_limit → n ≤ length rows → Entered rs rows n → RowsFit rows n
entered_fit rs rows n few inside e = record { rows_shaped = e.shaped; few = few; inside = inside; each_fits = λ i h. (e.each i h).fits }

-- What a function makes of the first n of two lists is the same where it is at each place.
same_at : {A B : Type 0} (f : A → B) (xs ys : List A) (d : A) (n : ℕ) → n ≤ length xs → n ≤ length ys → ((i : ℕ) → i < n → f (get_or xs i d) ≡ f (get_or ys i d)) → map f (take n xs) ≡ map f (take n ys)
same_at f xs ys d zero a b h = refl
same_at f [] ys d (suc n) a b h = absurd (omega arith)
same_at f (x ∷ xs) [] d (suc n) a b h = absurd (omega arith)
same_at f (x ∷ xs) (y ∷ ys) d (suc n) a b h = ap₂ (λ u us. u ∷ us) (h 0 (omega arith)) (same_at f xs ys d n (le_of_suc-le-suc a) (le_of_suc-le-suc b) (λ i l. h (suc i) (omega arith)))

-- The rows of a table's rules stand for the same rules, with the same strata.
pub entered_rules : (t : Table) (rows : List (List ℕ)) → Shaped t → RowsFit rows t.count → Entered t.rules rows t.count → rules_of (table_in rows t.count) ≡ rules_of t
unfolding rules_of table_in
entered_rules t rows sh f e =
    same_at rule_of (map rule_in rows) t.rules zero_rule t.count (rw length-map f.inside) (sh.rule_places f.few) (λ i b. rw (get_or-map rule_in rows i []) (e.each i b).means)

pub entered_strata : (t : Table) (rows : List (List ℕ)) → Shaped t → RowsFit rows t.count → Entered t.rules rows t.count → carried_strata (table_in rows t.count) ≡ carried_strata t
unfolding carried_strata table_in
entered_strata t rows sh f e =
    same_at (λ r. r.stratum) (map rule_in rows) t.rules zero_rule t.count (rw length-map f.inside) (sh.rule_places f.few) (λ i b. rw (get_or-map rule_in rows i []) (e.each i b).carries)

-- A row into which a rule's trigger and its numbers are written.
pub record Headed (r : Rule) (row : List ℕ) : Type 0 where
  pub size : length row ≡ 16
  pub trigger_becomes : get_or row 0 0 / pair_places ≡ 1
  pub trigger_pair : pair_in (get_or row 0 0) ≡ pair r.slot r.value
  pub tested_in : get_or row 1 0 ≡ r.tested
  pub assigned_in : get_or row 2 0 ≡ r.assigned
  pub stratum_in : get_or row 3 0 ≡ r.stratum

-- A number written behind them leaves them as they are.
headed_kept : (r : Rule) (row : List ℕ) (p x : ℕ) → 4 ≤ p → Headed r row → Headed r (set row p x)
headed_kept r row p x h w =
    let kept : (i : ℕ) → i < 4 → get_or (set row p x) i 0 ≡ get_or row i 0 = λ i b. get_or-set_other row p i x 0 (λ q. omega arith) in
    record {
      size = length-set row p x ∙ w.size;
      trigger_becomes = rw (kept 0 (omega arith)) w.trigger_becomes;
      trigger_pair = rw (kept 0 (omega arith)) w.trigger_pair;
      tested_in = kept 1 (omega arith) ∙ w.tested_in;
      assigned_in = kept 2 (omega arith) ∙ w.assigned_in;
      stratum_in = kept 3 (omega arith) ∙ w.stratum_in;
    }

-- A row into which besides its first j literals and its first k assignments are written.
pub record Written (r : Rule) (row : List ℕ) (j k : ℕ) : Type 0 where
  pub head : Headed r row
  pub literals_in : (i : ℕ) → i < j → (literal_in (get_or row (4 + i) 0) ≡ get_or r.literals i zero_literal) × (get_or row (4 + i) 0 < tests)
  pub assignments_in : (i : ℕ) → i < k → pair_in (get_or row (12 + i) 0) ≡ assignment_of (get_or r.assignments i zero_assignment)

-- Its trigger and its numbers are written; then one literal more; then one assignment more.
pub written_start : (r : Rule) (row : List ℕ) (p : ℕ) → length row ≡ 16 → p < pair_places → pair_in p ≡ pair r.slot r.value
    → Written r (set (set (set (set row 0 (512 + p)) 1 r.tested) 2 r.assigned) 3 r.stratum) 0 0
written_start r row p l h e =
    let a = set row 0 (512 + p) in
    let b = set a 1 r.tested in
    let c = set b 2 r.assigned in
    let d = set c 3 r.stratum in
    let la : length a ≡ 16 = length-set row 0 _ ∙ l in
    let lb : length b ≡ 16 = length-set a 1 _ ∙ la in
    let lc : length c ≡ 16 = length-set b 2 _ ∙ lb in
    let first : get_or d 0 0 ≡ 512 + p =
    get_or-set_other c 3 0 _ 0 (λ q. omega arith) ∙ get_or-set_other b 2 0 _ 0 (λ q. omega arith) ∙ get_or-set_other a 1 0 _ 0 (λ q. omega arith) ∙ get_or-set_same row 0 _ 0 (omega arith) in
    let same : (512 + p) % pair_places ≡ p % pair_places = omega arith in
    record {
      head = record {
        size = length-set c 3 _ ∙ lc;
        trigger_becomes = rw first (omega arith);
        trigger_pair = rw (first, same) e;
        tested_in = get_or-set_other c 3 1 _ 0 (λ q. omega arith) ∙ get_or-set_other b 2 1 _ 0 (λ q. omega arith) ∙ get_or-set_same a 1 _ 0 (omega (arith, la));
        assigned_in = get_or-set_other c 3 2 _ 0 (λ q. omega arith) ∙ get_or-set_same b 2 _ 0 (omega (arith, lb));
        stratum_in = get_or-set_same c 3 _ 0 (omega (arith, lc));
      };
      literals_in = λ i b. absurd (let z = b in omega arith);
      assignments_in = λ i b. absurd (let z = b in omega arith);
    }

pub written_literal : (r : Rule) (row : List ℕ) (j x : ℕ) → j < literal_limit → literal_in x ≡ get_or r.literals j zero_literal → x < tests → Written r row j 0 → Written r (set row (4 + j) x) (j + 1) 0
written_literal r row j x h e b w =
    let l = w.head.size in
    record {
      head = headed_kept r row (4 + j) x (omega arith) w.head;
      literals_in = at_last (λ i. (literal_in (get_or (set row (4 + j) x) (4 + i) 0) ≡ get_or r.literals i zero_literal) × (get_or (set row (4 + j) x) (4 + i) 0 < tests)) j
          (λ i c. rw (get_or-set_other row (4 + j) (4 + i) x 0 (λ q. omega arith)) (w.literals_in i c))
          (rw (get_or-set_same row (4 + j) x 0 (omega arith)) (e, b));
      assignments_in = λ i b. absurd (let z = b in omega arith);
    }

pub written_assignment : (r : Rule) (row : List ℕ) (j k x : ℕ) → j ≤ literal_limit → k < assignment_limit → pair_in x ≡ assignment_of (get_or r.assignments k zero_assignment) → Written r row j k → Written r (set row (12 + k) x) j (k + 1)
written_assignment r row j k x g h e w =
    let l = w.head.size in
    record {
      head = headed_kept r row (12 + k) x (omega arith) w.head;
      literals_in = λ i b. rw (get_or-set_other row (12 + k) (4 + i) x 0 (λ q. omega arith)) (w.literals_in i b);
      assignments_in = at_last (λ i. pair_in (get_or (set row (12 + k) x) (12 + i) 0) ≡ assignment_of (get_or r.assignments i zero_assignment)) k
          (λ i c. rw (get_or-set_other row (12 + k) (12 + i) x 0 (λ q. omega arith)) (w.assignments_in i c))
          (rw (get_or-set_same row (12 + k) x 0 (omega arith)) e);
    }

-- Once all is written the row has the rule.
pub written_end : (r : Rule) (row : List ℕ) → RuleFits r → RuleShaped r → Written r row r.tested r.assigned → Row r row
written_end r row f sh w =
    let l = w.head.size in
    let a = w.head.tested_in in
    let b = w.head.assigned_in in
    let few = f.literals_fit in
    let some = f.assignments_fit in
    let shaped : RowShaped row = record { size = l; stratum_small = rw w.head.stratum_in sh.stratum_small } in
    let mine = row_rule_shaped row shaped in
    let tests_same : map literal_of (take r.tested (rule_in row).literals) ≡ map literal_of (take r.tested r.literals) =
    same_at literal_of (rule_in row).literals r.literals zero_literal r.tested (omega (arith, mine.literal_places)) (omega (arith, sh.literal_places))
    (λ i h. ap literal_of (literal_is row i (omega arith) ∙ (w.literals_in i h).0)) in
    let sets_same : map assignment_of (take r.assigned (rule_in row).assignments) ≡ map assignment_of (take r.assigned r.assignments) =
    same_at assignment_of (rule_in row).assignments r.assignments zero_assignment r.assigned (omega (arith, mine.assignment_places)) (omega (arith, sh.assignment_places))
    (λ i h. ap assignment_of (assignment_is row i (omega arith)) ∙ w.assignments_in i h) in
    record {
      fits = record {
        row_shaped = shaped;
        few_literals = omega arith;
        few_assignments = omega arith;
        trigger_becomes = w.head.trigger_becomes;
        each_test = λ j h. (w.literals_in j (omega arith)).1;
      };
      means = rw (a, b) (λ i. record { trigger = w.head.trigger_pair i; literals = tests_same i; assignments = sets_same i });
      carries = w.head.stratum_in;
    }

-- Going through the literals and the assignments of a row: the next of them by its number.
pub number_fits : (row : List ℕ) → RowBounded row → (j x : ℕ) → j < (rule_in row).tested → x ≡ get_or row (4 + j) 0 → x < tests
number_fits row f j x h e = rw e (f.each_test j h)

pub row_picked_next : (row : List ℕ) → RowBounded row → (f : model.Literal → Bool) (j x : ℕ) → j < (rule_in row).tested → x ≡ get_or row (4 + j) 0 → f (literal_of (literal_in x)) ≡ true
    → picked_from (rule_in row) f j ≡ pair_in x ∷ picked_from (rule_in row) f (j + 1)
row_picked_next row fits f j x h e t =
    let l : get_or (rule_in row).literals j zero_literal ≡ literal_in x = literal_is row j (omega (arith, h, fits.few_literals)) ∙ ap literal_in (sym e) in
    picked_next (rule_in row) (row_rule_shaped row fits.row_shaped) f j h fits.few_literals (rw l t) ∙ ap (λ k. pair k.slot k.value ∷ picked_from (rule_in row) f (j + 1)) l

pub row_picked_over : (row : List ℕ) → RowBounded row → (f : model.Literal → Bool) (j x : ℕ) → j < (rule_in row).tested → x ≡ get_or row (4 + j) 0 → f (literal_of (literal_in x)) ≡ false
    → picked_from (rule_in row) f j ≡ picked_from (rule_in row) f (j + 1)
row_picked_over row fits f j x h e t =
    let l : get_or (rule_in row).literals j zero_literal ≡ literal_in x = literal_is row j (omega (arith, h, fits.few_literals)) ∙ ap literal_in (sym e) in
    picked_over (rule_in row) (row_rule_shaped row fits.row_shaped) f j h fits.few_literals (rw l t)

pub row_assigned_next : (row : List ℕ) → RowBounded row → (k x : ℕ) → k < (rule_in row).assigned → x ≡ get_or row (12 + k) 0 → assigned_from (rule_in row) k ≡ pair_in x ∷ assigned_from (rule_in row) (k + 1)
row_assigned_next row fits k x h e =
    let l : get_or (rule_in row).assignments k zero_assignment ≡ assignment_in x = assignment_is row k (omega (arith, h, fits.few_assignments)) ∙ ap assignment_in (sym e) in
    assigned_next (rule_in row) (row_rule_shaped row fits.row_shaped) k h fits.few_assignments ∙ ap (λ a. pair a.slot a.value ∷ assigned_from (rule_in row) (k + 1)) l

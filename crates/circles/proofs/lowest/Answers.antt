-- `circles::lowest` meets its contract.
use mathlib.Core.Path.{◌≡◌, refl, sym, ap, subst, ◌∙◌}
use mathlib.Core.Bool.{Bool, true, false}
use mathlib.Core.List.{List}
use Prim.Native.Nat.{ℕ, suc, ◌+◌, ◌≤◌, ◌<◌}
use lib.ListN.{get_or, length}
use native.Mathlib.Numerals.{add-one}
use native.Mathlib.Omega.{arith}
use Rattle.laws.specs.Limits.{rule_limit}
use Rattle.laws.specs.Numbers.{first_of}
use Rattle.laws.proofs.First.{first_start}
use Rattle.model.specs.Strata.{weak}
use Rattle.model.specs.Circles.{on_circle, circle_of}
use Rattle.table.specs.inner.Flat.{pair_places}
use Rattle.table.specs.Link.{rule_of, rules_of, assignments_of}
use Rattle.model.specs.Strata.{barred, tested}
use Rattle.rows.specs.declared.RuleRow.{RuleRow}
use Rattle.rows.specs.inner.Rows.{rule_in}
use Rattle.rows.specs.inner.RuleRows.{rows_table}
use Rattle.rows.proofs.RuleRows.{all_table_fits, all_shaped, all_count, item_rule}
use Rattle.circles.specs.inner.Links.{no_links, link_all, flag_leading, spread, circled_by}
use Rattle.circles.proofs.Circled.{closed, Gathered, Barring, gathered_start, gathered_step, barring_start, barring_step, low_over, low_new, low_found, low_end}
use Rattle.std.specs.Prelude.{Some}
use Rattle.circles.proofs.lowest.Goals.{After-flags, After-is_circled, After-links}
use Rattle.circles.proofs.lowest.Goals as goal

-- The rows of a table's rules, no more than a table can have.
module _ (rows : List RuleRow) (few : length rows ≤ rule_limit) where
  -- A row's links are those of the rule at its place.
  linked_on : (i : ℕ) (row : RuleRow) (ws : List ℕ) → i < length rows → row ≡ get_or rows i row → Gathered (rows_table rows) i ws
      → Gathered (rows_table rows) (i + 1) (link_all (assignments_of (rule_in row.numbers)) (tested (rule_of (rule_in row.numbers))) ws)
  linked_on i row ws l e g = rw (item_rule rows i row l e) at (gathered_step (rows_table rows) (all_table_fits rows few) (all_shaped rows few) i ws (rw (all_count rows) l) g)

  -- So are its flags.
  barred_on : (ws : List ℕ) (i : ℕ) (row : RuleRow) (bs : List Bool) → i < length rows → row ≡ get_or rows i row → Barring (rows_table rows) ws i bs
      → Barring (rows_table rows) ws (i + 1) (flag_leading ws (barred (rule_of (rule_in row.numbers))) (assignments_of (rule_in row.numbers)) bs)
  barred_on ws i row bs l e b = rw (item_rule rows i row l e) at (barring_step (rows_table rows) (all_table_fits rows few) (all_shaped rows few) ws i bs (rw (all_count rows) l) b)

  -- By the closed links and the flags spread a row says of its rule whether it is on a circle.
  module _ (ws : List ℕ) (g : Gathered (rows_table rows) (length rows) ws) (bs : List Bool) (b : Barring (rows_table rows) (closed ws) (length rows) bs) (k : ℕ) (row : RuleRow) (l : k < length rows) (e : row ≡ get_or rows k row) where
    passed_over : circled_by (closed ws) (spread (closed ws) bs pair_places) (rule_of (rule_in row.numbers)) ≡ false
        → first_of (on_circle weak (rules_of (rows_table rows))) k ≡ 0 → first_of (on_circle weak (rules_of (rows_table rows))) (k + 1) ≡ 0
    passed_over z n = low_over (rows_table rows) (all_table_fits rows few) (all_shaped rows few) ws (subst (λ m. Gathered (rows_table rows) m ws) (sym (all_count rows)) g) bs (subst (λ m. Barring (rows_table rows) (closed ws) m bs) (sym (all_count rows)) b) k (rw (all_count rows) l) (rw (item_rule rows k row l e) z) ∙ n

    found : circled_by (closed ws) (spread (closed ws) bs pair_places) (rule_of (rule_in row.numbers)) ≡ true
        → first_of (on_circle weak (rules_of (rows_table rows))) k ≡ 0 → circle_of weak (rules_of (rows_table rows)) ≡ suc k
    found z n =
        let T = rows_table rows in
        let F = all_table_fits rows few in
        let S = all_shaped rows few in
        let m : k < (rows_table rows).count = rw (all_count rows) l in
        low_found T F S k m (low_new T F S ws (subst (λ m. Gathered (rows_table rows) m ws) (sym (all_count rows)) g) bs (subst (λ m. Barring (rows_table rows) (closed ws) m bs) (sym (all_count rows)) b) k m (rw (item_rule rows k row l e) z) n) ∙ add-one k

  none : first_of (on_circle weak (rules_of (rows_table rows))) (length rows) ≡ 0 → circle_of weak (rules_of (rows_table rows)) ≡ 0
  none z = sym (low_end (rows_table rows) (all_table_fits rows few) (all_shaped rows few)) ∙ ap (first_of (on_circle weak (rules_of (rows_table rows)))) (all_count rows) ∙ z

pub links-init : goal.links-init
unfolding no_links
links-init c = gathered_start (rows_table c.args.rows.now) (all_table_fits c.args.rows.now c.requires) (all_shaped c.args.rows.now c.requires)

pub links-preserved : goal.links-preserved
links-preserved c = rw c.link_rule.ensures (linked_on c.args.rows.now c.requires c.links.row-index c.row-item.result c.links.links c.links-test.true c.row-item.is c.links.invariant)

pub flags-init : goal.flags-init
flags-init c = barring_start (rows_table c.args.rows.now) (all_table_fits c.args.rows.now c.requires) (all_shaped c.args.rows.now c.requires) _

pub flags-preserved : goal.flags-preserved
flags-preserved c = rw c.flag_barred.ensures (barred_on c.args.rows.now c.requires _ c.flags.row-index c.row-item-in-flags.result c.flags.flags c.flags-test.true c.row-item-in-flags.is c.flags.invariant)

pub search-init : goal.search-init
search-init c = first_start _

-- All rows have their links, and their flags by the closed links.
full : (c : After-links) → Gathered (rows_table c.args.rows.now) (length c.args.rows.now) c.links.links
full c =
    let e : c.links.row-index ≡ length c.args.rows.now = omega arith in
    rw e at c.links.invariant

all-flagged : (c : After-flags) → Barring (rows_table c.args.rows.now) (closed c.links.links) (length c.args.rows.now) c.flags.flags
all-flagged c =
    let e : c.flags.row-index ≡ length c.args.rows.now = omega arith in
    rw (e, c.close.ensures) at c.flags.invariant

-- The answer at a row, by the closed links and the flags spread.
circled : (c : After-is_circled) {b : Bool} → c.is_circled.result ≡ b → circled_by (closed c.links.links) (spread (closed c.links.links) c.flags.flags pair_places) (rule_of (rule_in c.index-rows-k.result.numbers)) ≡ b
circled c e = rw (← c.close.ensures, ← c.spread-all.ensures) (sym c.is_circled.ensures ∙ e)

pub returns-then-is_circled : goal.returns-then-is_circled
returns-then-is_circled c =
    let a = (goal.at.returns-then-is_circled c).After-is_circled in
    rw (found c.args.rows.now c.requires c.links.links (full (goal.at.returns-then-is_circled c).After-links) c.flags.flags (all-flagged (goal.at.returns-then-is_circled c).After-flags) c.search.k c.index-rows-k.result c.search-test.true c.index-rows-k.is (circled a c.if-is_circled.true) c.search.invariant) (ap Some (add-one c.search.k))

pub search-preserved : goal.search-preserved
search-preserved c =
    let a = (goal.at.search-preserved c).After-is_circled in
    passed_over c.args.rows.now c.requires c.links.links (full (goal.at.search-preserved c).After-links) c.flags.flags (all-flagged (goal.at.search-preserved c).After-flags) c.search.k c.index-rows-k.result c.search-test.true c.index-rows-k.is (circled a c.if-is_circled.false) c.search.invariant

pub returns : goal.returns
returns c =
    let e : c.search.k ≡ length c.args.rows.now = omega arith in
    rw (none c.args.rows.now c.requires (rw e at c.search.invariant)) refl

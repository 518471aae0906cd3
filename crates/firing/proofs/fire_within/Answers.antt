-- `firing::fire_within` meets its contract.
use mathlib.Core.Path.{◌≡◌, sym, ap, ◌∙◌, refl}
use mathlib.Core.Bool.{Bool, true, false, true≢false}
use mathlib.Core.List.{List}
use mathlib.Core.Logic.{⊎_elim}
use Prim.Native.Nat.{ℕ, suc, ◌+◌, ◌≤◌, ◌<◌}
use native.Mathlib.Numerals.{add-one}
use native.Mathlib.Nat.{eq-or-lt_of_le}
use lib.ListN.{length, get_or}
use Rattle.laws.specs.Limits.{rule_limit}
use Rattle.model.specs.Rules.{became, holds, enabled}
use Rattle.table.specs.declared.Literal.{Literal}
use Rattle.table.specs.declared.Table.{Table}
use Rattle.table.specs.Zero.{zero_literal, zero_rule}
use Rattle.table.specs.Link.{literal_of, rule_of, stratum_at}
use Rattle.table.specs.inner.Shape.{Shaped}
use Rattle.table.specs.inner.Flat.{set_of}
use Rattle.rows.specs.inner.Rows.{literal_in, rule_in}
use Rattle.rows.specs.declared.RuleRow.{RuleRow}
use Rattle.rows.specs.inner.RuleRows.{numbers_of, rows_table}
use Rattle.rows.proofs.Laws.{literal_is, row_rule_shaped}
use Rattle.rows.proofs.RuleRows.{all_count, all_shaped, item_rule, item_numbers}
use Rattle.testing.specs.inner.Truth.{Truth}
use Rattle.testing.specs.inner.Waiting.{Waiting, Woken}
use Rattle.testing.proofs.Truths.{trigger_holds}
use Rattle.testing.proofs.Lists.{turn_rule, turn_woken, turn_place, waiting_start}
use Rattle.firing.proofs.Sorted.{Sorts, carried_at, sorts_rules, strata_below}
use Rattle.firing.proofs.Running.{Kept, turns_left, turn_over, Running, run_pass, run_turn, kept_fire, turn_fire, pass_moved, pass_last, run_start, run_again, run_higher, run_fire, run_end}
use native.Mathlib.Omega.{arith}
use borrow.Author.Tests.{not-true, not-false}
use Rattle.model.specs.Strata.{weak}
use Rattle.testing.proofs.Holding.{enabled_off, enabled_on, literal_false, literal_true, literals_held}
use Rattle.firing.proofs.Responses.{carried_response}
use borrow.Author.Rules.{rules}
use Rattle.firing.proofs.fire_within.Goals.{After-is_true, After-is_true-in-literals, After-next_rule-turn, At-passes, At-rules, Else-from-stratum, In-literals, In-passes, In-rules, Start, then-fired-i-via-then-fired-i, then-fired-i-via-else-fired-i+then-from-stratum}
use Rattle.firing.proofs.fire_within.Goals as goal

-- The rows' table, sorted: where a stratum that has rules begins and ends, its rules are listed.
module _ (rows : List RuleRow) (positions starts : List ℕ) (o : Sorts (rows_table rows) positions starts) (stratum : ℕ) where
  below_top : stratum ≤ o.top → get_or starts stratum 0 < length rows → stratum < o.top
  below_top h l = ⊎_elim
      (λ e. absurd (omega (arith, l, ap (λ (x : ℕ). get_or starts x 0) e, o.end, all_count rows)))
      (λ m. m) (eq-or-lt_of_le h)

  listed : (q : ℕ) → stratum ≤ o.top → get_or starts stratum 0 < length rows → get_or starts stratum 0 ≤ q → q < get_or starts (stratum + 1) 0
      → (get_or positions q 0 < (rows_table rows).count) × (stratum_at (rows_table rows) (suc (get_or positions q 0)) ≡ stratum)
  listed q h l lo hi = o.lists stratum q (below_top h l) lo (rw (← (add-one stratum)) hi)

  ends_inside : stratum ≤ o.top → get_or starts stratum 0 < length rows → get_or starts (stratum + 1) 0 ≤ length rows
  ends_inside h l = let z = below_top h l in omega (arith, o.inside (stratum + 1) (omega (arith, z)), all_count rows)

-- The table that the rows stand for.
abbrev table : Start → Table
table s = rows_table s.args.rows.now

counted : (s : Start) → (table s).count ≡ length s.args.rows.now
counted s = all_count s.args.rows.now

shape : (s : Start) → Shaped (table s)
shape s = all_shaped s.args.rows.now s.requires.0

-- The rules sorted by stratum.
abbrev starts-at : At-passes → List ℕ
starts-at p = p.sort.new.starts

abbrev positions-at : At-passes → List ℕ
positions-at p = p.sort.new.positions

sorts : (p : At-passes) → Sorts (rows_table p.args.rows.now) p.sort.new.positions p.sort.new.starts
sorts p = sorts_rules (numbers_of p.args.rows.now) (length p.args.rows.now) p.sort.new.positions p.sort.new.starts p.sort.ensures.0 p.sort.ensures.1

-- The starts are as many as were lent.
starts_room : (p : At-passes) → length p.args.rows.now + 2 ≤ length p.sort.new.starts
starts_room p = omega (arith, p.requires.6.starts_room, p.starts-1.given)

-- The stratum has a place.
placed : (p : At-passes) → (p.passes.stratum < length p.sort.new.starts) × (p.passes.stratum ≤ rule_limit + 1)
placed p =
    let o = sorts p in
    let h : p.passes.stratum ≤ length p.args.rows.now + 1 = omega (arith, p.passes.invariant.0 o, o.top_low, all_count p.args.rows.now) in
    (omega (arith, h, starts_room p), omega (arith, h, p.requires.0))

-- One with rules is below the top, so the next has a place too.
low : (c : In-passes) → (c.passes.stratum + 1 < length c.sort.new.starts) × (c.passes.stratum ≤ length c.args.rows.now)
low c =
    let o : Sorts (rows_table c.args.rows.now) c.sort.new.positions c.sort.new.starts = sorts_rules (numbers_of c.args.rows.now) (length c.args.rows.now) c.sort.new.positions c.sort.new.starts c.sort.ensures.0 c.sort.ensures.1 in
    let b = below_top c.args.rows.now c.sort.new.positions c.sort.new.starts o c.passes.stratum (c.passes.invariant.0 o) (omega (arith, c.passes-test.true, c.from.ensures)) in
    let h : c.passes.stratum ≤ length c.args.rows.now = omega (arith, b, o.top_low, all_count c.args.rows.now) in
    (omega (arith, h, c.requires.6.starts_room, c.starts-1.given), h)

place_inside : (c : In-rules) → c.rules.left ≡ 0 → c.rules.k < length c.sort.new.positions
place_inside c z =
    let o : Sorts (rows_table c.args.rows.now) c.sort.new.positions c.sort.new.starts = sorts_rules (numbers_of c.args.rows.now) (length c.args.rows.now) c.sort.new.positions c.sort.new.starts c.sort.ensures.0 c.sort.ensures.1 in
    let e = ends_inside c.args.rows.now c.sort.new.positions c.sort.new.starts o c.passes.stratum (c.passes.invariant.0 o) (omega (arith, c.passes-test.true, c.from.ensures)) in
    omega (arith, e, c.from-to.ensures, c.rules-test.true, c.requires.6.positions_room, c.positions-1.given)

-- The rule at hand, from 0: listed in its stratum, or woken.
abbrev rule : After-next_rule-turn → ℕ
rule d = d.next_rule-turn.result.rule

at_turn : (d : After-next_rule-turn) → d.rules.left ≡ 0
    → (get_or d.sort.new.positions d.rules.k 0 < (rows_table d.args.rows.now).count) × (stratum_at (rows_table d.args.rows.now) (suc (get_or d.sort.new.positions d.rules.k 0)) ≡ d.passes.stratum)
at_turn d z =
    let o : Sorts (rows_table d.args.rows.now) d.sort.new.positions d.sort.new.starts = sorts_rules (numbers_of d.args.rows.now) (length d.args.rows.now) d.sort.new.positions d.sort.new.starts d.sort.ensures.0 d.sort.ensures.1 in
    listed d.args.rows.now d.sort.new.positions d.sort.new.starts o d.passes.stratum d.rules.k (d.passes.invariant.0 o) (omega (arith, d.passes-test.true, d.from.ensures))
    (omega (arith, d.from-k.ensures, d.rules.invariant.0)) (omega (arith, d.from-to.ensures, d.rules-test.true, z))

is-rule : (d : After-next_rule-turn) → rule d < length d.args.rows.now
is-rule d = turn_rule d.sort.new.positions d.rules.k d.rules.woken d.rules.left d.next_rule-turn.result d.next_rule-turn.ensures (length d.args.rows.now) (λ z. omega (arith, (at_turn d z).0, all_count d.args.rows.now)) d.rules.invariant.4

-- The stratum that it carries.
carried : (rows : List RuleRow) (i : ℕ) (row : RuleRow) → i < length rows → row ≡ get_or rows i row → stratum_at (rows_table rows) (suc i) ≡ (rule_in row.numbers).stratum
carried rows i row l e = carried_at (numbers_of rows) (length rows) i l ∙ ap (λ (r : List ℕ). (rule_in r).stratum) (item_numbers rows i row l e)

-- There is a flag for it, and a place among those that wait.
flag_inside : (d : After-next_rule-turn) → rule d < length d.rules.fired
flag_inside d = omega (arith, is-rule d, d.requires.4, d.passes.invariant.4, d.rules.invariant.1.size)

wait-inside : (d : After-next_rule-turn) (nexts : List ℕ) → length nexts ≡ length d.passes.nexts → (rule d < length nexts) × (length nexts ≤ rule_limit)
wait-inside d nexts e =
    let r = d.requires.6 in
    (omega (arith, is-rule d, r.nexts_room, d.passes.invariant.5, e), omega (arith, r.nexts_few, d.passes.invariant.5, e))

counted-rule : (d : After-next_rule-turn) → rule d < (rows_table d.args.rows.now).count
counted-rule d = omega (arith, all_count d.args.rows.now, is-rule d)

further : (d : After-next_rule-turn) → d.from-k.result ≤ d.next_rule-turn.result.place
further d = omega (arith, d.rules.invariant.0, turn_place d.sort.new.positions d.rules.k d.rules.woken d.rules.left d.next_rule-turn.result d.next_rule-turn.ensures)

-- It is passed over where it has fired, is of another stratum or is not enabled.
over : (d : After-next_rule-turn) (heads nexts : List ℕ) →
    (stratum_at (rows_table d.args.rows.now) (suc (rule d)) ≡ d.passes.stratum → get_or d.rules.fired (rule d) false ≡ false → enabled d.args.card.now (set_of d.rules.changes) (rule_of (get_or (rows_table d.args.rows.now).rules (rule d) zero_rule)) ≡ false)
    → Waiting (length d.args.rows.now) heads nexts → length nexts ≡ length d.passes.nexts
    → (d.from-k.result ≤ d.next_rule-turn.result.place) × Kept d.passes.fired d.rules.fired d.rules.moved × Truth d.args.card.now d.rules.changes d.rules.truth
    × Waiting (length d.args.rows.now) heads nexts × Woken (length d.args.rows.now) d.next_rule-turn.result.left d.rules.woken
    × ((slip : List Bool) → Running (rows_table d.args.rows.now) d.args.card.now slip d.sort.new.positions d.passes.stratum d.from-k.result d.from-k.result false d.passes.changes d.passes.fired
    → Running (rows_table d.args.rows.now) d.args.card.now slip d.sort.new.positions d.passes.stratum d.from-k.result d.next_rule-turn.result.place d.rules.moved d.rules.changes d.rules.fired)
    × (length nexts ≡ length d.passes.nexts) × (length d.rules.woken ≡ length d.passes.woken)
over d heads nexts off w l =
    let e = d.next_rule-turn.ensures in (
      further d,
      d.rules.invariant.1,
      d.rules.invariant.2,
      w,
      turn_woken d.sort.new.positions d.rules.k d.rules.woken d.rules.left d.next_rule-turn.result e (length d.args.rows.now) d.rules.invariant.4,
      λ slip q. run_turn (rows_table d.args.rows.now) d.args.card.now slip d.sort.new.positions d.requires.1.fits (all_shaped d.args.rows.now d.requires.0) d.passes.stratum d.from-k.result d.rules.k d.rules.left d.rules.woken d.rules.moved d.rules.changes d.rules.fired d.next_rule-turn.result e (at_turn d) off (d.rules.invariant.5 slip q),
      l,
      d.rules.invariant.7,
    )

less : (d : After-next_rule-turn) →
    turns_left d.rules.fired d.from-to.result d.next_rule-turn.result.place d.next_rule-turn.result.left < turns_left d.rules.fired d.from-to.result d.rules.k d.rules.left
less d = turn_over d.sort.new.positions d.rules.woken d.rules.fired d.from-to.result d.rules.k d.rules.left d.next_rule-turn.result d.next_rule-turn.ensures d.rules-test.true

-- A rule whose literals are tested has not fired.
unfired : (c : Else-from-stratum) → get_or c.rules.fired c.next_rule-turn.result.rule false ≡ false
unfired c = c.if-fired-i.false

-- Whether its trigger came where the test of it is true.
trigger-came : (c : After-is_true) → c.is_true.result ≡ became c.args.card.now (set_of c.rules.changes) (rule_of (rule_in c.index-rows-i.result.numbers)).trigger
trigger-came c =
    c.is_true.ensures c.args.card.now c.rules.changes c.rules.invariant.2
    ∙ trigger_holds c.args.card.now (set_of c.rules.changes) c.awaited-trigger.result c.awaited-trigger.ensures.1
    ∙ ap (became c.args.card.now (set_of c.rules.changes)) c.awaited-trigger.ensures.0

-- The literal at hand.
literal-low : (c : In-literals) → c.literals.j < (rule_in c.index-rows-i.result.numbers).tested
literal-low c = omega (arith, c.tested-j-end.ensures.0)

literal-held : (c : After-is_true-in-literals) →
    c.is_true-in-literals.result ≡ holds c.args.card.now (set_of c.rules.changes) (literal_of (get_or (rule_in c.index-rows-i.result.numbers).literals c.literals.j zero_literal))
literal-held c =
    c.is_true-in-literals.ensures c.args.card.now c.rules.changes c.rules.invariant.2
    ∙ ap (λ (x : ℕ). holds c.args.card.now (set_of c.rules.changes) (literal_of (literal_in x))) c.literal-number.ensures.0
    ∙ ap (λ (y : Literal). holds c.args.card.now (set_of c.rules.changes) (literal_of y)) (sym (literal_is c.index-rows-i.result.numbers c.literals.j (omega (arith, c.tested-j-end.ensures))))

-- A pass, up to the place that it has come to.
passed : (u : At-rules) →
    Running (rows_table u.args.rows.now) u.args.card.now u.args.changes.now u.sort.new.positions u.passes.stratum u.from-k.result u.rules.k u.rules.moved u.rules.changes u.rules.fired
passed u = u.rules.invariant.5 u.args.changes.now (run_pass (rows_table u.args.rows.now) u.args.card.now u.args.changes.now u.sort.new.positions u.passes.stratum 0 0 u.from-k.result true u.passes.changes u.passes.fired u.passes.invariant.1)

-- `firing::fire_within` meets its contract.
pub sort-requires : goal.sort-requires
sort-requires c = (c.requires.0, strata_below (numbers_of c.args.rows.now) (length c.args.rows.now) c.requires.1, c.requires.6.starts_room, c.requires.6.no_starts, c.requires.6.positions_room)

pub passes-init : goal.passes-init
passes-init c = (λ o. omega arith, run_start (table (goal.at.passes-init c).Start) _ _ _ _ c.requires.5 c.requires.3, c.truth_of-truth.ensures, rw c.requires.6.none_waits (waiting_start _ (length c.args.nexts.now)), refl, refl, refl)

pub offset_bounds-starts-stratum : goal.offset_bounds-starts-stratum
offset_bounds-starts-stratum c = let h = placed (goal.at.offset_bounds-starts-stratum c).At-passes in search rules

pub bounds-starts-stratum : goal.bounds-starts-stratum
bounds-starts-stratum c = (placed (goal.at.bounds-starts-stratum c).At-passes).0

pub overflow_add-stratum : goal.overflow_add-stratum
overflow_add-stratum c = let h = low (goal.at.overflow_add-stratum c).In-passes in search rules

pub offset_bounds-starts-stratum-in-passes : goal.offset_bounds-starts-stratum-in-passes
offset_bounds-starts-stratum-in-passes c = let h = low (goal.at.offset_bounds-starts-stratum-in-passes c).In-passes in search rules

pub bounds-starts-stratum-in-passes : goal.bounds-starts-stratum-in-passes
bounds-starts-stratum-in-passes c = (low (goal.at.bounds-starts-stratum-in-passes c).In-passes).0

pub offset_bounds-starts-stratum-in-passes-2 : goal.offset_bounds-starts-stratum-in-passes-2
offset_bounds-starts-stratum-in-passes-2 c = let h = low (goal.at.offset_bounds-starts-stratum-in-passes-2 c).In-passes in search rules

pub bounds-starts-stratum-in-passes-2 : goal.bounds-starts-stratum-in-passes-2
bounds-starts-stratum-in-passes-2 c = let h = low (goal.at.bounds-starts-stratum-in-passes-2 c).In-passes in search rules

pub next_rule-turn-requires : goal.next_rule-turn-requires
next_rule-turn-requires c =
    let w = c.rules.invariant.4 in
    (omega (arith, w.few, w.room), place_inside (goal.at.next_rule-turn-requires c).In-rules)

pub bounds-fired-i : goal.bounds-fired-i
bounds-fired-i c = flag_inside (goal.at.bounds-fired-i c).After-next_rule-turn

pub rules-smaller-then-fired-i : goal.rules-smaller-then-fired-i
rules-smaller-then-fired-i c = less (goal.at.rules-smaller-then-fired-i c).After-next_rule-turn

pub rules-preserved-then-fired-i : goal.rules-preserved-then-fired-i
rules-preserved-then-fired-i c = over (goal.at.rules-preserved-then-fired-i c).After-next_rule-turn _ _
    (λ st un. elim c.then-fired-i.branch [
      | then-fired-i-via-then-fired-i w ↦ absurd (true≢false (sym w.if-fired-i.true ∙ un))
      | then-fired-i-via-else-fired-i+then-from-stratum w ↦ absurd (w.if-from-stratum.true (w.from-else-fired-i.ensures ∙ w.stratum.ensures ∙ sym (carried c.args.rows.now c.next_rule-turn.result.rule c.index-rows-i.result (is-rule (goal.at.rules-preserved-then-fired-i c).After-next_rule-turn) c.index-rows-i.is) ∙ st))
    ])
    c.rules.invariant.3 c.rules.invariant.6

pub offset_bounds-rows-i : goal.offset_bounds-rows-i
offset_bounds-rows-i c = omega (arith, is-rule (goal.at.offset_bounds-rows-i c).After-next_rule-turn, c.requires.0)

pub bounds-rows-i : goal.bounds-rows-i
bounds-rows-i c = is-rule (goal.at.bounds-rows-i c).After-next_rule-turn

pub wait-requires : goal.wait-requires
wait-requires c =
    let w = wait-inside (goal.at.wait-requires c).After-next_rule-turn c.rules.nexts c.rules.invariant.6 in
    (omega (arith, c.awaited-trigger.ensures.1), w.0, w.1)

pub rules-smaller-then-not-is_true : goal.rules-smaller-then-not-is_true
rules-smaller-then-not-is_true c = less (goal.at.rules-smaller-then-not-is_true c).After-next_rule-turn

pub rules-preserved-then-not-is_true : goal.rules-preserved-then-not-is_true
rules-preserved-then-not-is_true c =
    over (goal.at.rules-preserved-then-not-is_true c).After-next_rule-turn _ _ (λ st un. rw (item_rule c.args.rows.now c.next_rule-turn.result.rule c.index-rows-i.result (is-rule (goal.at.rules-preserved-then-not-is_true c).After-next_rule-turn) c.index-rows-i.is) (enabled_off _ _ (rule_of (rule_in c.index-rows-i.result.numbers)) (sym (trigger-came (goal.at.rules-preserved-then-not-is_true c).After-is_true) ∙ not-true c.is_true.result c.if-not-is_true.true-raw)))
    (c.wait.ensures (length c.args.rows.now) (is-rule (goal.at.rules-preserved-then-not-is_true c).After-next_rule-turn) c.rules.invariant.3) (c.nexts-1.given ∙ c.rules.invariant.6)

pub literals-init : goal.literals-init
literals-init c = (enabled_on _ _ (rule_in c.index-rows-i.result.numbers) (sym (trigger-came (goal.at.literals-init c).After-is_true) ∙ not-false c.is_true.result c.if-not-is_true.false-raw), c.rules.invariant.3, refl)

pub wait-requires-then-not-is_true-2 : goal.wait-requires-then-not-is_true-2
wait-requires-then-not-is_true-2 c =
    let w = wait-inside (goal.at.wait-requires-then-not-is_true-2 c).After-next_rule-turn c.literals.nexts (c.literals.invariant.2 ∙ c.rules.invariant.6) in
    (c.literal-number.ensures.1 (literal-low (goal.at.wait-requires-then-not-is_true-2 c).In-literals), w.0, w.1)

pub rules-smaller-then-not-is_true-2 : goal.rules-smaller-then-not-is_true-2
rules-smaller-then-not-is_true-2 c = less (goal.at.rules-smaller-then-not-is_true-2 c).After-next_rule-turn

pub rules-preserved-then-not-is_true-2 : goal.rules-preserved-then-not-is_true-2
rules-preserved-then-not-is_true-2 c =
    over (goal.at.rules-preserved-then-not-is_true-2 c).After-next_rule-turn _ _
    (λ st un. rw (item_rule c.args.rows.now c.next_rule-turn.result.rule c.index-rows-i.result (is-rule (goal.at.rules-preserved-then-not-is_true-2 c).After-next_rule-turn) c.index-rows-i.is) (sym c.literals.invariant.0
    ∙ literal_false _ _ (rule_in c.index-rows-i.result.numbers) (row_rule_shaped c.index-rows-i.result.numbers c.index-rows-i.result.fits.row_shaped) c.literals.j (literal-low (goal.at.rules-preserved-then-not-is_true-2 c).In-literals) c.index-rows-i.result.fits.few_literals (sym (literal-held (goal.at.rules-preserved-then-not-is_true-2 c).After-is_true-in-literals) ∙ not-true c.is_true-in-literals.result c.if-not-is_true-2.true-raw)))
    (c.wait-then-not-is_true-2.ensures (length c.args.rows.now) (is-rule (goal.at.rules-preserved-then-not-is_true-2 c).After-next_rule-turn) c.literals.invariant.1) (c.nexts-then-not-is_true-2-1.given ∙ c.literals.invariant.2 ∙ c.rules.invariant.6)

pub literals-preserved : goal.literals-preserved
literals-preserved c = (sym (literal_true _ _ (rule_in c.index-rows-i.result.numbers) (row_rule_shaped c.index-rows-i.result.numbers c.index-rows-i.result.fits.row_shaped) c.literals.j (literal-low (goal.at.literals-preserved c).In-literals) c.index-rows-i.result.fits.few_literals (sym (literal-held (goal.at.literals-preserved c).After-is_true-in-literals) ∙ not-false c.is_true-in-literals.result c.if-not-is_true-2.false-raw)) ∙ c.literals.invariant.0, c.literals.invariant.1, c.literals.invariant.2)

pub assign-left-requires : goal.assign-left-requires
assign-left-requires c = ((passed (goal.at.assign-left-requires c).At-rules).changes_size, c.requires.0, omega (arith, c.requires.6.nexts_room, c.passes.invariant.5, c.literals.invariant.2 ∙ c.rules.invariant.6), c.literals.invariant.1, turn_woken (positions-at (goal.at.assign-left-requires c).At-passes) c.rules.k c.rules.woken c.rules.left c.next_rule-turn.result c.next_rule-turn.ensures (length c.args.rows.now) c.rules.invariant.4)

pub bounds-fired-i-in-rules : goal.bounds-fired-i-in-rules
bounds-fired-i-in-rules c = flag_inside (goal.at.bounds-fired-i-in-rules c).After-next_rule-turn

pub rules-smaller : goal.rules-smaller
rules-smaller c =
    turn_fire (positions-at (goal.at.rules-smaller c).At-passes) c.rules.woken c.rules.fired c.from-to.result c.rules.k c.rules.left c.next_rule-turn.result c.next_rule-turn.ensures c.assign-left.result (rule (goal.at.rules-smaller c).After-next_rule-turn) (flag_inside (goal.at.rules-smaller c).After-next_rule-turn) (unfired (goal.at.rules-smaller c).Else-from-stratum)
    (omega (arith, c.assign-left.ensures.3.few, c.requires.0))

pub rules-preserved : goal.rules-preserved
rules-preserved c =
    let r = rule_in c.index-rows-i.result.numbers in
    let e = item_rule c.args.rows.now c.next_rule-turn.result.rule c.index-rows-i.result (is-rule (goal.at.rules-preserved c).After-next_rule-turn) c.index-rows-i.is in
    let on = sym c.literals.invariant.0 ∙ literals_held _ _ r c.literals.j (omega (arith, c.tested-j-end.ensures.0)) in
    let st = carried c.args.rows.now c.next_rule-turn.result.rule c.index-rows-i.result (is-rule (goal.at.rules-preserved c).After-next_rule-turn) c.index-rows-i.is ∙ sym c.stratum.ensures ∙ sym c.from-else-fired-i.ensures ∙ c.if-from-stratum.false in (
      further (goal.at.rules-preserved c).After-next_rule-turn,
      kept_fire _ c.rules.fired c.rules.moved (rule (goal.at.rules-preserved c).After-next_rule-turn) (flag_inside (goal.at.rules-preserved c).After-next_rule-turn) (unfired (goal.at.rules-preserved c).Else-from-stratum) c.rules.invariant.1,
      c.assign-left.ensures.1 c.args.card.now c.rules.invariant.2,
      c.assign-left.ensures.2,
      c.assign-left.ensures.3,
      λ slip q. rw c.assign-left.ensures.0
          (rw e at (run_fire (table (goal.at.rules-preserved c).Start) c.args.card.now slip (positions-at (goal.at.rules-preserved c).At-passes) c.requires.1.fits (shape (goal.at.rules-preserved c).Start) weak c.requires.1.strata c.passes.stratum c.from-k.result c.rules.k c.next_rule-turn.result.place (rule (goal.at.rules-preserved c).After-next_rule-turn) c.rules.moved c.rules.changes c.rules.fired (counted-rule (goal.at.rules-preserved c).After-next_rule-turn) (flag_inside (goal.at.rules-preserved c).After-next_rule-turn) st (unfired (goal.at.rules-preserved c).Else-from-stratum) (rw e on) (c.rules.invariant.5 slip q))),
      c.literals.invariant.2 ∙ c.rules.invariant.6,
      c.woken-1.given ∙ c.rules.invariant.7,
    )

pub passes-smaller : goal.passes-smaller
passes-smaller c = pass_moved ((length c.args.rows.now) + 1) c.passes.stratum c.passes.fired c.rules.fired c.rules.moved c.rules.invariant.1 c.if-not-moved.false

pub passes-preserved : goal.passes-preserved
passes-preserved c = (c.passes.invariant.0, run_again _ _ _ _ c.passes.stratum _ _ 0 0 c.rules.moved _ _ (passed (goal.at.passes-preserved c).At-rules), c.rules.invariant.2, c.rules.invariant.3, c.rules.invariant.1.size ∙ c.passes.invariant.4, c.rules.invariant.6 ∙ c.passes.invariant.5, c.rules.invariant.7 ∙ c.passes.invariant.6)

pub overflow_add-stratum-then-not-moved : goal.overflow_add-stratum-then-not-moved
overflow_add-stratum-then-not-moved c =
    let h = low (goal.at.overflow_add-stratum-then-not-moved c).In-passes in
    let f = c.requires.0 in
    search rules

pub passes-smaller-then-not-moved : goal.passes-smaller-then-not-moved
passes-smaller-then-not-moved c = pass_last ((length c.args.rows.now) + 1) c.passes.stratum c.passes.fired c.rules.fired c.rules.moved c.rules.invariant.1 (omega (arith, (low (goal.at.passes-smaller-then-not-moved c).In-passes).1))

pub passes-preserved-then-not-moved : goal.passes-preserved-then-not-moved
passes-preserved-then-not-moved c = (
  λ o. omega (arith, below_top c.args.rows.now c.sort.new.positions c.sort.new.starts o c.passes.stratum (c.passes.invariant.0 o) (omega (arith, c.passes-test.true, c.from.ensures))),
  run_higher (table (goal.at.passes-preserved-then-not-moved c).Start) c.args.card.now c.args.changes.now (positions-at (goal.at.passes-preserved-then-not-moved c).At-passes) c.requires.1.fits (shape (goal.at.passes-preserved-then-not-moved c).Start) (starts-at (goal.at.passes-preserved-then-not-moved c).At-passes) (sorts (goal.at.passes-preserved-then-not-moved c).At-passes) c.passes.stratum c.from-k.result c.rules.k c.rules.moved c.rules.changes c.rules.fired c.from-k.ensures (omega (arith, c.from-to.ensures, c.rules-test.false)) c.if-not-moved.true (passed (goal.at.passes-preserved-then-not-moved c).At-rules),
  c.rules.invariant.2,
  c.rules.invariant.3,
  c.rules.invariant.1.size ∙ c.passes.invariant.4,
  c.rules.invariant.6 ∙ c.passes.invariant.5,
  c.rules.invariant.7 ∙ c.passes.invariant.6,
)

pub returns : goal.returns
returns c =
    carried_response (table (goal.at.returns c).Start) c.requires.1 c.args.card.now c.args.changes.now c.passes.changes c.passes.fired
    (run_end (table (goal.at.returns c).Start) c.args.card.now c.args.changes.now (positions-at (goal.at.returns c).At-passes) c.requires.1.fits (shape (goal.at.returns c).Start) weak c.requires.1.strata (starts-at (goal.at.returns c).At-passes) (sorts (goal.at.returns c).At-passes) c.passes.stratum 0 0 true c.passes.changes c.passes.fired (c.passes.invariant.0 (sorts (goal.at.returns c).At-passes)) (omega (arith, c.passes-test.false, c.from.ensures, counted (goal.at.returns c).Start)) c.passes.invariant.1)

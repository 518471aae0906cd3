-- `read_into` meets its contract.
use Prim.Native.Nat.{ℕ, ◌≤◌}
use native.Mathlib.Omega.{arith}
use mathlib.Core.Path.{◌≡◌, sym, ap, ◌∙◌, subst}
use borrow.Author.Rules.{rules}
use lib.ListN.{replicate, length, take, length-set}
use Rattle.std.proofs.lemmas.List.{length-take-le}
use Rattle.laws.specs.Limits.{rule_limit}
use Rattle.grammar.specs.Reading.{refused, bytes_by, rules_by, Parsed, parse, parse_by, accepted, read_tokens}
use Rattle.grammar.proofs.Forward.{read_long, read_short}
use Rattle.grammar.proofs.Within.{bytes_low, rules_low, accepted_by}
use Rattle.reader.proofs.ReadLaws.{halfway_start, halfway_width, halfway_count, halfway_slot, halfway_rule, Halfway}
use Rattle.rows.proofs.Laws.{entered_start}
use Rattle.rows.proofs.RuleRows.{all_rows_shaped, all_count, entered_set, held_rules}
use Rattle.strata.specs.inner.Settled.{settled}
use Rattle.strata.proofs.Settled.{circle_named, no_circle_named}
use Rattle.strata.specs.Layered.{with_strata}
use Rattle.model.specs.Strata.{weak}
use Rattle.model.specs.Circles.{circle_of}
use Rattle.strata.proofs.Layered.{numbering_step, numbering_end, same_numbers}
use Rattle.rule_file.proofs.Answers.{whole_layered, whole_circle, whole_unlayered, whole_refused, file_table_fits, file_table_shaped, file_table_places}
use mathlib.Core.List.{List}
use Rattle.text.specs.Tokens.{tokens}
use Rattle.grammar.specs.Files.{File}
use Rattle.table.specs.declared.Table.{Table}
use Rattle.table.specs.declared.Limits.{Limits}
use Rattle.table.specs.inner.Fits.{TableFits}
use Rattle.table.specs.inner.Shape.{Shaped}
use Rattle.rows.specs.declared.RuleRow.{RuleRow}
use Rattle.rows.specs.inner.Rows.{Entered}
use Rattle.rows.specs.inner.RuleRows.{numbers_of, rows_table}
use Rattle.strata.specs.inner.Heights.{least_numbers}
use Rattle.table.specs.Link.{rules_of}
use Rattle.rule_file.proofs.FileTable.{file_rules}
use Rattle.table.specs.declared.Way.TheVariants as way
use Rattle.rule_file.proofs.read_into.Goals.{After-find, After-statement_next, At-rows, In-Ok-End}
use Rattle.rule_file.proofs.read_into.Goals as goal
use Rattle.std.specs.Prelude.{Result, Ok, Err}
use Rattle.steps.specs.Faults.{fault_number}
use Rattle.steps.specs.declared.step.Fault.{Fault}
use Rattle.reader.specs.inner.Statements.{statement_answer, StatementLies}
use Rattle.reader.specs.declared.statements.Statement.{Statement}
use Rattle.reader.specs.declared.statements.Statement.TheVariants as statement
use Rattle.grammar.specs.TableFor.{table_for}

-- Before a statement: the text and the response that it is read for, what is left of the text and where that begins, and the table so far.
abbrev text_at : After-statement_next → List ℕ
text_at c = c.args.text.now

abbrev limits-at : After-statement_next → Limits
limits-at c = c.args.limits

-- How many rules are taken.
abbrev most-at : After-statement_next → ℕ
most-at c = c.most_rules-most.result

most-is : (c : After-statement_next) → most-at c ≡ rules_by (limits-at c)
most-is c = c.most_rules-most.ensures

abbrev table_at : After-statement_next → Table
table_at c = c.statements.t

halfway : (c : After-statement_next) → Halfway (most-at c) (text_at c) (table_at c) c.statements.slotspans c.statements.valuespans c.statements.rest.now c.statements.base
halfway c = c.statements.invariant

-- How many slots and rules it has.
width-is : (c : After-statement_next) → c.from-width.result ≡ length (halfway c).slots
width-is c = c.from-width.ensures ∙ halfway_width (halfway c)

count-is : (c : After-statement_next) → c.from-count.result ≡ length (halfway c).rules
count-is c = c.from-count.ensures ∙ halfway_count (halfway c)

-- What the reading comes to by the statement, and where that lies.
answer : (c : After-statement_next) (r : Result Statement Fault) → c.statement_next.result ≡ r
    → read_tokens (most-at c) (tokens (text_at c)) ≡ statement_answer (most-at c) (text_at c) c.statements.rest.now c.statements.base (halfway c).slots (halfway c).rules r
answer c r e =
    let H = halfway c in
    sym H.same ∙ c.statement_next.ensures.0 H.slots H.rules H.indexed (width-is c) (count-is c) ∙ ap (statement_answer (most-at c) (text_at c) c.statements.rest.now c.statements.base H.slots H.rules) e

lies : (c : After-statement_next) (r : Result Statement Fault) → c.statement_next.result ≡ r → StatementLies (most-at c) (text_at c) (length c.statements.rest.now) c.from-width.result c.from-count.result r
lies c r e = subst (StatementLies (most-at c) (text_at c) (length c.statements.rest.now) c.from-width.result c.from-count.result) e c.statement_next.ensures.1

-- At the end of the text: the file that it is.
abbrev file-of : In-Ok-End → File
file-of e = record { slots = (halfway (goal.at.In-Ok-End e).After-statement_next).slots; rules = (halfway (goal.at.In-Ok-End e).After-statement_next).rules }

-- What the reading of the text by its limits comes to.
short : (c : After-statement_next) → length (text_at c) ≤ bytes_by (limits-at c)
short c = omega (arith, c.if-most_bytes-text.false, c.most_bytes.ensures)

within : (c : After-statement_next) (a : Parsed) → read_tokens (most-at c) (tokens (text_at c)) ≡ a → parse_by (limits-at c) (text_at c) ≡ a
within c a e = read_short (bytes_by (limits-at c)) (rules_by (limits-at c)) (text_at c) (short c) ∙ ap (λ (m : ℕ). read_tokens m (tokens (text_at c))) (sym (most-is c)) ∙ e

ended_by : (e : In-Ok-End) → parse_by (limits-at (goal.at.In-Ok-End e).After-statement_next) (text_at (goal.at.In-Ok-End e).After-statement_next) ≡ accepted (file-of e)
ended_by e =
    let k = (goal.at.In-Ok-End e).After-statement_next in
    within k _ (answer k (Ok statement.End) (e.in-Ok-End.is ∙ ap Ok e.in-Ok-End.field-0-is))

ended : (e : In-Ok-End) → parse (text_at (goal.at.In-Ok-End e).After-statement_next) ≡ accepted (file-of e)
ended e = let k = (goal.at.In-Ok-End e).After-statement_next in (accepted_by (limits-at k) (text_at k) (file-of e) (ended_by e)).0

-- Its table fits, has its places and has the file's rules.
abbrev table-of : In-Ok-End → Table
table-of e = table_at (goal.at.In-Ok-End e).After-statement_next

tabled : (e : In-Ok-End) → table-of e ≡ table_for (file-of e)
tabled e = (halfway (goal.at.In-Ok-End e).After-statement_next).tabled

fits : (e : In-Ok-End) → TableFits (table-of e)
fits e = rw (tabled e) (file_table_fits (text_at (goal.at.In-Ok-End e).After-statement_next) (file-of e) (ended e))

shape : (e : In-Ok-End) → Shaped (table-of e)
shape e = rw (tabled e) (file_table_shaped (text_at (goal.at.In-Ok-End e).After-statement_next) (file-of e) (ended e))

places : (e : In-Ok-End) → length (table-of e).rules ≡ rule_limit
places e = rw (tabled e) (file_table_places (text_at (goal.at.In-Ok-End e).After-statement_next) (file-of e) (ended e))

rules_are : (e : In-Ok-End) → rules_of (table-of e) ≡ (file-of e).rules
rules_are e = ap rules_of (tabled e) ∙ file_rules (file-of e)

-- For the response by strata: the end of the text, and the table there.
abbrev end-at : At-rows → In-Ok-End
end-at a = (goal.at.At-rows a).In-Ok-End

by_strata : (a : At-rows) → a.args.way ≡ way.Strata
by_strata a = a.in_default.is

-- Its rules are entered.
entered : (c : After-find) → Entered c.statements.t.rules (numbers_of c.rows.rows) c.statements.t.count
entered c =
    let e : c.rows.i ≡ c.statements.t.count = omega (arith, c.rows.auto.i-end, c.rows-test.false, c.from-count.ensures) in
    rw e at c.rows.invariant.2

-- The rows of that many have the table's rules.
same : (c : After-find) → rules_of (rows_table (take c.from-count.result c.rows.rows)) ≡ rules_of c.statements.t
same c =
    let t = c.statements.t in
    let few : t.count ≤ rule_limit = omega (arith, c.rows.invariant.0, c.from-count.ensures) in
    let inside : t.count ≤ length c.rows.rows = omega (arith, few, c.rows.invariant.1) in
    rw c.from-count.ensures (held_rules (λ (r : RuleRow). r.numbers) t c.rows.rows (shape (end-at (goal.at.After-find c).At-rows)) few inside (entered c).each)

-- What is found of them is what the table's rules have.
circle-is : (c : After-find) → c.find.result ≡ settled (circle_of weak (rules_of c.statements.t))
circle-is c = c.find.ensures.0 ∙ ap (λ rs. settled (circle_of weak rs)) (same c)

numbers-are : (c : After-find) → circle_of weak (rules_of c.statements.t) ≡ 0 → c.find.new.numbers ≡ least_numbers c.statements.t
numbers-are c z =
    let t = c.statements.t in
    let rows = take c.from-count.result c.rows.rows in
    let n : length rows ≡ c.from-count.result = length-take-le c.from-count.result c.rows.rows (omega (arith, c.rows.invariant.0, c.rows.invariant.1)) in
    c.find.ensures.1 (ap (circle_of weak) (same c) ∙ z) ∙ same_numbers (rows_table rows) t (all_count rows ∙ n ∙ c.from-count.ensures) (same c)

pub returns-then-most_bytes-text : goal.returns-then-most_bytes-text
returns-then-most_bytes-text c = rw c.empty_table.ensures (whole_refused c.args.way c.args.limits c.args.text.now 10 0 (read_long (bytes_by c.args.limits) (rules_by c.args.limits) c.args.text.now (omega (arith, c.if-most_bytes-text.true, c.most_bytes.ensures))))

pub statements-init : goal.statements-init
statements-init c = rw c.empty_table.ensures (halfway_start c.most_rules-most.result c.args.text.now (omega (arith, c.if-most_bytes-text.false, c.most_bytes.ensures, bytes_low c.args.limits)))

pub returns-in-Marks : goal.returns-in-Marks
returns-in-Marks c =
    let e = (goal.at.returns-in-Marks c).In-Ok-End in
    whole_unlayered c.args.way c.args.limits c.args.text.now (file-of e) c.statements.t c.in-Marks.is (ended_by e) (tabled e)

pub rows-init : goal.rows-init
rows-init c = let f = (fits (goal.at.rows-init c).In-Ok-End).rules_fit in (omega (arith, f, c.from-count.ensures), search rules, entered_start _ _ (all_rows_shaped (replicate rule_limit c.empty_row-rows.result)))

pub of-requires : goal.of-requires
of-requires c = (fits (goal.at.of-requires c).In-Ok-End).each_fits c.rows.i (omega (arith, c.rows-test.true, c.from-count.ensures))

pub rows-preserved : goal.rows-preserved
rows-preserved c = (c.rows.invariant.0, length-set c.rows.rows _ _ ∙ c.rows.invariant.1, entered_set c.statements.t.rules c.rows.rows c.rows.i _ (omega (arith, c.rows-test.true, c.rows.invariant.0, c.rows.invariant.1)) c.of.ensures c.rows.invariant.2)

pub returns-in-Err-find : goal.returns-in-Err-find
returns-in-Err-find c =
    let a = (goal.at.returns-in-Err-find c).At-rows in
    let e = end-at a in
    let z = circle_named _ _ (sym (circle-is (goal.at.returns-in-Err-find c).After-find) ∙ c.in-Err-find.is) in
    rw (c.refuse.ensures.0, c.refuse.ensures.1) (whole_circle c.args.way c.args.limits c.args.text.now (file-of e) c.in-Err-find.rule (by_strata a) (ended_by e) (z.0 ∙ ap (circle_of weak) (rules_are e)) z.1)

pub strata-preserved : goal.strata-preserved
strata-preserved c =
    let p = places (goal.at.strata-preserved c).In-Ok-End in
    (c.rows.invariant.0, numbering_step _ c.statements.t c.strata.j c.strata.t (omega (arith, p, c.strata-test.true, c.rows.invariant.0)) c.strata.invariant.1)

pub returns-in-Ok-End : goal.returns-in-Ok-End
returns-in-Ok-End c =
    let f = (goal.at.returns-in-Ok-End c).After-find in
    let a = (goal.at.returns-in-Ok-End c).At-rows in
    let e = end-at a in
    let z = no_circle_named _ _ (sym (circle-is f) ∙ c.in_default-find.is) in
    let w : c.strata.j ≡ c.statements.t.count = omega (arith, c.strata.auto.j-end, c.strata-test.false, c.from-count.ensures) in
    let u = numbering_end c.statements.t (fits e) (shape e) _ c.strata.t (numbers-are f z) (rw w at c.strata.invariant.1) in
    whole_layered c.args.way c.args.limits c.args.text.now (file-of e) c.strata.t (by_strata a) (ended_by e) (ap (circle_of weak) (sym (rules_are e)) ∙ z) (u ∙ ap with_strata (tabled e))

pub statements-preserved-in-Ok-Slot : goal.statements-preserved-in-Ok-Slot
statements-preserved-in-Ok-Slot c =
    let k = (goal.at.statements-preserved-in-Ok-Slot c).After-statement_next in
    let H = halfway k in
    let q : k.statement_next.result ≡ Ok (statement.Slot c.in-Ok-Slot.read) = c.in-Ok-Slot.is ∙ ap Ok c.in-Ok-Slot.field-0-is in
    let l = lies k (Ok (statement.Slot c.in-Ok-Slot.read)) q in
    rw (c.enter.ensures.0, c.enter.ensures.1, c.slot_of.ensures, c.from-width.ensures)
    (halfway_slot (most-at k) _ _ _ _ _ _ _ _ _ _ H (omega (arith, l.2, c.from-width.ensures)) l.4 l.5 l.6 (H.same ∙ answer k (Ok (statement.Slot c.in-Ok-Slot.read)) q))

pub statements-preserved : goal.statements-preserved
statements-preserved c =
    let k = (goal.at.statements-preserved c).After-statement_next in
    let H = halfway k in
    let q : k.statement_next.result ≡ Ok (statement.Rule c.in-Ok-Rule.read) = c.in-Ok-Rule.is ∙ ap Ok c.in-Ok-Rule.field-0-is in
    let l = lies k (Ok (statement.Rule c.in-Ok-Rule.read)) q in
    rw c.from-count.ensures (halfway_rule (most-at k) _ _ _ _ _ _ _ _ H (omega (arith, l.2, c.from-count.ensures)) (omega (arith, most-is k, rules_low (limits-at k))) l.3 (H.same ∙ answer k (Ok (statement.Rule c.in-Ok-Rule.read)) q))

pub returns-in-Err : goal.returns-in-Err
returns-in-Err c =
    let k = (goal.at.returns-in-Err c).After-statement_next in
    rw (c.refuse-in-Err.ensures.0, c.refuse-in-Err.ensures.1) (whole_refused c.args.way c.args.limits c.args.text.now _ _ (within k _ (answer k (Err c.in-Err.fault) c.in-Err.is ∙ ap (refused (fault_number c.in-Err.fault)) (sym (count-is k)))))

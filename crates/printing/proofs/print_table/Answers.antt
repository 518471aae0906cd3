-- `print_table` meets its contract.
use Prim.Native.Nat.{ℕ}
use native.Mathlib.Omega.{arith}
use mathlib.Core.Path.{◌≡◌, refl, sym, ap, ◌∙◌}
use mathlib.Core.List.{List}
use lib.ListN.{length}
use Rattle.grammar.specs.Reading.{parse}
use Rattle.table.specs.declared.Table.{Table}
use Rattle.lines.specs.inner.Index.{Indexed}
use Rattle.reader.specs.Tables.{Accepted}
use Rattle.rule_file.specs.Whole.{reading}
use Rattle.rule_file.proofs.Answers.{accepted_shaped}
use Rattle.writing.specs.inner.Puts.{put_in}
use Rattle.printing.specs.Printing.{print_of}
use Rattle.printing.specs.inner.Tabled.{Tabled}
use Rattle.writing.specs.inner.Spelled.{spelled_file}
use Rattle.printing.proofs.Filed.{file, is_file, tabled, lines_fit, table_fits, print_spelled, spelled_bounded}
use Rattle.printing.proofs.Fitting.{print_is, fitted_34, fitted_33, fitted_all, answer_refused, answer_taken}
use Rattle.printing.proofs.print_table.Goals.{After-nowhere-2-1, Start}
use Rattle.printing.proofs.print_table.Goals as goal

slots-tabled : (s : Start) → Tabled s.args.text.now (file s.args.text.now s.requires.0).slots s.args.t.now
slots-tabled s = rw s.requires.1 (tabled s.args.text.now s.requires.0)

pub enter_slots-requires : goal.enter_slots-requires
enter_slots-requires c = (refl, refl, ((file c.args.text.now c.requires.0).slots, slots-tabled (goal.at.enter_slots-requires c).Start))

pub put_file-size-requires : goal.put_file-size-requires
put_file-size-requires c =
    let text = c.args.text.now in
    let I = c.enter_slots.ensures (file text c.requires.0).slots (slots-tabled (goal.at.put_file-size-requires c).Start) in
    let sh = accepted_shaped text c.requires.0 in
    rw c.requires.1 (table_fits text c.requires.0 sh, lines_fit text c.requires.0 sh, spelled_bounded text c.requires.0 _ _ I)

-- The lines of the table are the print of the text.
is_print : (text : List ℕ) (o : (reading text).outcome ≡ Accepted) (t : Table) {ss vs : List ℕ} → t ≡ (reading text).table → Indexed text (file text o).slots ss vs → spelled_file text ss vs t ≡ print_of (parse text)
is_print text o t {ss} {vs} e I = rw e (print_spelled text o ss vs I ∙ sym (print_is text (file text o) (is_file text o)))

-- How long the print is.
size : (c : After-nowhere-2-1) → length (print_of (parse c.args.text.now)) ≡ c.put_file-size.result
size c =
    let text = c.args.text.now in
    let I = c.enter_slots.ensures (file text c.requires.0).slots ((let it : Tabled c.args.text.now (file c.args.text.now c.requires.0).slots c.args.t.now = rw c.requires.1 (tabled c.args.text.now c.requires.0) in it)) in
    let z = ap length (is_print text c.requires.0 c.args.t.now c.requires.1 I) in
    omega (arith, z, c.put_file-size.ensures.ends)

pub returns-then-size-gt-TEXT_LIMIT : goal.returns-then-size-gt-TEXT_LIMIT
returns-then-size-gt-TEXT_LIMIT c = answer_refused _ 34 0 c.args.out.now (fitted_34 (print_of (parse c.args.text.now)) (length c.args.out.now) (omega (arith, size (goal.at.returns-then-size-gt-TEXT_LIMIT c).After-nowhere-2-1)))

pub returns-then-out-size : goal.returns-then-out-size
returns-then-out-size c =
    answer_refused _ 33 0 c.args.out.now
    (fitted_33 (print_of (parse c.args.text.now)) (length c.args.out.now) (omega (arith, size (goal.at.returns-then-out-size c).After-nowhere-2-1)) (omega (arith, size (goal.at.returns-then-out-size c).After-nowhere-2-1)))

pub put_file-end-requires : goal.put_file-end-requires
put_file-end-requires c =
    let text = c.args.text.now in
    let I = c.enter_slots.ensures (file text c.requires.0).slots (slots-tabled (goal.at.put_file-end-requires c).Start) in
    let sh = accepted_shaped text c.requires.0 in
    rw c.requires.1 (table_fits text c.requires.0 sh, lines_fit text c.requires.0 sh, spelled_bounded text c.requires.0 _ _ I)

pub returns : goal.returns
returns c =
    let text = c.args.text.now in
    let out = c.args.out.now in
    let I = c.enter_slots.ensures (file text c.requires.0).slots (slots-tabled (goal.at.returns c).Start) in
    let is = is_print text c.requires.0 c.args.t.now c.requires.1 I in
    let l = size (goal.at.returns c).After-nowhere-2-1 in
    let z = ap length is in
    answer_taken _ (print_of (parse text)) out _ c.put_file-end.result (fitted_all (print_of (parse text)) (length out) (omega (arith, l)) (omega (arith, l)))
    (omega (arith, z, c.put_file-end.ensures.ends))
    (c.put_file-end.ensures.there (omega (arith, l, z)) ∙ ap (put_in out 0) is)

-- `list_response` meets its contract.
use Prim.Native.Nat.{ℕ, ◌≤◌}
use native.Mathlib.Omega.{arith}
use mathlib.Core.Path.{◌≡◌, sym, ap, ◌∙◌}
use mathlib.Core.Bool.{true}
use mathlib.Core.List.{List}
use lib.ListN.{length}
use lib.Seq.{length-take-le}
use borrow.Author.Rules.{rules}
use Rattle.laws.specs.Answers.{taken}
use Rattle.table.specs.declared.Table.{Table}
use Rattle.table.specs.declared.Way.TheVariants.{Strata}
use Rattle.laws.specs.Limits.{slot_limit, program_rule_limit}
use Rattle.tally.specs.Counting.{fresh}
use Rattle.tally.specs.Editors.{is_editor}
use Rattle.reader.specs.Tables.{Accepted}
use Rattle.rule_file.specs.Whole.{program_reading}
use Rattle.response.specs.Ending.{Answer}
use Rattle.response.specs.Respond.{answer_at, outcome_said, response_said}
use Rattle.writing.specs.inner.Puts.{longest}
use Rattle.listing.specs.Listing.{program_rooms, program_editors, list_response}
use Rattle.listing.specs.Printed.{page, printed}
use Rattle.listing.proofs.Accepted.{few_slots, few_rules}
use Rattle.listing.proofs.Answered.{Parts}
use Rattle.listing.proofs.Callers.{program_answer}
use Rattle.listing.proofs.Bounded.{parts_of, answer_bounded}
use Rattle.listing.proofs.Delivered.{Delivered, delivers, delivered_listed, refused_listed}
use Rattle.listing.proofs.list_response.Goals.{In-Ok, Start}
use Rattle.listing.proofs.list_response.Goals as goal

-- What is known of an answer by an accepted text's table, and how long its lines are.
module _ (text : List ℕ) (o : (program_reading text).outcome ≡ Accepted) (t : Table) (e : t ≡ (program_reading text).table) (card slip : List ℕ) (a : Answer) (q : answer_at Strata t fresh card slip program_rooms ≡ taken a) where
  parts-for : Parts t.width t.count a
  parts-for = rw e (parts_of text o card slip a (rw e at q))

  short : (n : ℕ) → is_editor n ≡ true → length (printed (list_response text t (program_editors n) (taken a))) ≤ longest
  short n w = let h : length (printed (list_response text t (program_editors n) (taken a))) ≤ page = rw e (answer_bounded text o n card slip a w (rw e at q)) in omega arith

within : (s : Start) → (s.args.t.width ≤ slot_limit) × (s.args.t.count ≤ program_rule_limit)
within s = rw s.requires.1 (few_slots s.args.text.now s.requires.0, few_rules s.args.text.now s.requires.0)

-- What the response showed and left in its outputs.
told : (c : In-Ok) → let g = c.args in Delivered g.text.now g.t g.card.now g.slip.now c.in-Ok.answer.length c.respond-response.result.tally c.respond-response.new.renewed c.respond-response.new.changes c.respond-response.new.fired
told c =
    let g = c.args in
    delivers g.text.now g.t g.card.now g.slip.now (response_said c.respond-response.result) _ _ c.respond-response.new.renewed c.respond-response.new.changes c.respond-response.new.fired _ _ _ c.respond-response.ensures.0 c.respond-response.ensures.1 (ap outcome_said c.in-Ok.is)

parts : (c : In-Ok) → let g = c.args in Parts g.t.width g.t.count (told c).shown
parts c =
    let g = c.args in
    parts-for g.text.now c.requires.0 g.t c.requires.1 g.card.now g.slip.now (told c).shown (told c).is_taken

pub overflow_mul-t : goal.overflow_mul-t
overflow_mul-t c = record { fits = omega (arith, (within (goal.at.overflow_mul-t c).Start).0) }

pub overflow_add-t : goal.overflow_add-t
overflow_add-t c = record { fits = omega (arith, (within (goal.at.overflow_add-t c).Start).0) }

pub bytes_for-n-requires : goal.bytes_for-n-requires
bytes_for-n-requires c = omega (arith, (within (goal.at.bytes_for-n-requires c).Start).0)

pub bytes_for-m-requires : goal.bytes_for-m-requires
bytes_for-m-requires c = omega (arith, (within (goal.at.bytes_for-m-requires c).Start).1)

pub slice_bounds-renewed-end : goal.slice_bounds-renewed-end
slice_bounds-renewed-end c = let w = (within (goal.at.slice_bounds-renewed-end c).Start).0 in search rules

pub slice_bounds-list_answer-end : goal.slice_bounds-list_answer-end
slice_bounds-list_answer-end c = sym (length-take-le c.bytes_for-n.result c.respond-response.new.renewed (omega (arith, c.bytes_for-n.ensures, (within (goal.at.slice_bounds-list_answer-end c).Start).0, c.respond-response.auto.renewed)))

pub slice_bounds-changes-end : goal.slice_bounds-changes-end
slice_bounds-changes-end c =
    let h = (told (goal.at.slice_bounds-changes-end c).In-Ok).length_is in
    let k = (parts (goal.at.slice_bounds-changes-end c).In-Ok).changes_short in
    search rules

pub slice_bounds-list_answer-end-in-Ok : goal.slice_bounds-list_answer-end-in-Ok
slice_bounds-list_answer-end-in-Ok c = sym (length-take-le c.in-Ok.answer.length c.respond-response.new.changes (omega (arith, (told (goal.at.slice_bounds-list_answer-end-in-Ok c).In-Ok).length_is, (parts (goal.at.slice_bounds-list_answer-end-in-Ok c).In-Ok).changes_short, c.respond-response.auto.changes)))

pub slice_bounds-bits-end : goal.slice_bounds-bits-end
slice_bounds-bits-end c =
    let w = (within (goal.at.slice_bounds-bits-end c).Start).1 in
    search rules

pub slice_bounds-list_answer-end-in-Ok-2 : goal.slice_bounds-list_answer-end-in-Ok-2
slice_bounds-list_answer-end-in-Ok-2 c = sym (length-take-le c.bytes_for-m.result c.respond-response.new.fired (omega (arith, c.bytes_for-m.ensures, (within (goal.at.slice_bounds-list_answer-end-in-Ok-2 c).Start).1, c.respond-response.auto.fired)))

pub list_answer-requires : goal.list_answer-requires
list_answer-requires c =
    let g = c.args in
    let D = told (goal.at.list_answer-requires c).In-Ok in
    let P = parts (goal.at.list_answer-requires c).In-Ok in
    let w = P.changes_whole in
    (omega (arith, (within (goal.at.list_answer-requires c).Start).1), rw D.changes_front w, rw (delivered_listed g.text.now g.t g.card.now g.slip.now g.editor c.in-Ok.answer.length c.bytes_for-n.result c.bytes_for-m.result c.respond-response.result.tally c.respond-response.new.renewed c.respond-response.new.changes c.respond-response.new.fired D c.requires.2 (c.bytes_for-n.ensures ∙ sym P.card_length) (c.bytes_for-m.ensures ∙ sym P.fired_there)) (short g.text.now c.requires.0 g.t c.requires.1 g.card.now g.slip.now D.shown D.is_taken g.editor c.requires.2))

pub returns-in-Ok : goal.returns-in-Ok
returns-in-Ok c =
    let g = c.args in
    let D = told (goal.at.returns-in-Ok c).In-Ok in
    let P = parts (goal.at.returns-in-Ok c).In-Ok in
    rw (program_answer g.editor c.requires.2 g.t g.card.now g.slip.now program_rooms, D.is_taken, ← (delivered_listed g.text.now g.t g.card.now g.slip.now g.editor c.in-Ok.answer.length c.bytes_for-n.result c.bytes_for-m.result c.respond-response.result.tally c.respond-response.new.renewed c.respond-response.new.changes c.respond-response.new.fired D c.requires.2 (c.bytes_for-n.ensures ∙ sym P.card_length) (c.bytes_for-m.ensures ∙ sym P.fired_there))) c.list_answer.ensures

pub returns-in-Err : goal.returns-in-Err
returns-in-Err c =
    let g = c.args in
    rw (program_answer g.editor c.requires.2 g.t g.card.now g.slip.now program_rooms, ← refused_listed g.text.now g.t g.card.now g.slip.now (program_editors g.editor) (response_said c.respond-response.result) _ _ c.respond-response.ensures.0 (ap outcome_said c.in-Err.is)) c.list_refusal.ensures

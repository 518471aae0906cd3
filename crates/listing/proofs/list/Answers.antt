-- `list` meets its contract.
use Prim.Native.Nat.{ℕ}
use mathlib.Core.Path.{◌≡◌, sym, ap, ◌∙◌}
use mathlib.Core.Bool.{true, false}
use mathlib.Core.List.{List}
use borrow.Author.Tests.{not-true, not-false}
use Rattle.reader.specs.Tables.{FileRead, Accepted, Refused}
use Rattle.rule_file.specs.Whole.{program_reading}
use Rattle.tally.specs.Editors.{is_editor}
use Rattle.response.specs.Respond.{answer_to}
use Rattle.listing.specs.Listing.{refusal, program_rooms, editor_number, program_editors, list_response, list_reading, listing}
use Rattle.listing.proofs.Callers.{listing_read, listing_44}
use Rattle.listing.proofs.list.Goals.{Else-not-is_editor}
use Rattle.listing.proofs.list.Goals as goal

-- The listing by what the code has of the editor: 44, or that of an accepted text, or of one that is refused.
module _ (text card slip editor : List ℕ) (n : ℕ) (e : n ≡ editor_number editor) where
  by-44 : is_editor n ≡ false → refusal 44 0 ≡ listing text card slip editor
  by-44 w = sym (listing_44 text card slip editor (ap is_editor (sym e) ∙ w))

  by-reading : is_editor n ≡ true → list_reading text (program_reading text).outcome (program_reading text).table (program_editors n) card slip ≡ listing text card slip editor
  by-reading w = rw e (sym (listing_read text card slip editor (ap is_editor (sym e) ∙ w)))

  by-response : is_editor n ≡ true → (program_reading text).outcome ≡ Accepted → list_response text (program_reading text).table (program_editors n) (answer_to (program_reading text).table (program_editors n) card slip program_rooms) ≡ listing text card slip editor
  unfolding list_reading
  by-response w o = rw o at (by-reading w)

  by-refusal : is_editor n ≡ true → {k s : ℕ} → (program_reading text).outcome ≡ Refused k s → refusal k s ≡ listing text card slip editor
  unfolding list_reading
  by-refusal w o = rw o at (by-reading w)

pub returns-then-not-is_editor : goal.returns-then-not-is_editor
returns-then-not-is_editor c =
    let a = c.args in
    rw (← by-44 a.text.now a.card.now a.slip.now a.editor.now c.editor_number-caller.result c.editor_number-caller.ensures (sym c.is_editor.ensures ∙ not-true _ c.if-not-is_editor.true-raw)) c.list_refusal.ensures

-- It is an editor's from here on.
editor : (c : Else-not-is_editor) → is_editor c.editor_number-caller.result ≡ true
editor c = sym c.is_editor.ensures ∙ not-false _ c.if-not-is_editor.false-raw

-- What the reading's answer says of the outcome.
outcome-is : (text : List ℕ) {r : FileRead} → r ≡ program_reading text → (program_reading text).outcome ≡ r.outcome
outcome-is text e = sym (ap (λ (r : FileRead). r.outcome) e)

pub list_response-requires : goal.list_response-requires
list_response-requires c = (outcome-is c.args.text.now c.in-Ok.ensures, ap (λ (r : FileRead). r.table) c.in-Ok.ensures, editor (goal.at.list_response-requires c).Else-not-is_editor)

pub returns-in-Ok : goal.returns-in-Ok
returns-in-Ok c =
    let n = c.editor_number-caller in
    let a = c.args in
    let e = rw (← ap (λ (q : FileRead). q.table) c.in-Ok.ensures) at (by-response a.text.now a.card.now a.slip.now a.editor.now n.result n.ensures (editor (goal.at.returns-in-Ok c).Else-not-is_editor) (outcome-is a.text.now c.in-Ok.ensures)) in
    rw (← e) c.list_response.ensures

pub returns-in-Err : goal.returns-in-Err
returns-in-Err c =
    let n = c.editor_number-caller in
    let a = c.args in
    rw (← by-refusal a.text.now a.card.now a.slip.now a.editor.now n.result n.ensures (editor (goal.at.returns-in-Err c).Else-not-is_editor) (outcome-is a.text.now c.in-Err.ensures)) c.list_refusal-in-Err.ensures

-- What is answered to a card and a slip that are in order: document 01, 'If C then holds two values for a slot, the answer is 40. Otherwise it is ..'.
use Rattle.std.specs.Prelude.{ℕ, zero, suc, cond, List, ltb, length}
use Rattle.laws.specs.Tabulated.{tabulate}
use Rattle.laws.specs.Packed.{pack}
use Rattle.model.specs.Rules.{Pair, Pairs, Rule}
use Rattle.model.specs.Orders.{names, changes}
use Rattle.model.specs.Strata.{weak}
use Rattle.model.specs.Response.{response}
use Rattle.model.specs.Result.{conflict_slot, new_card, changes_slip}
use Rattle.laws.specs.Limits.{row}
use Rattle.marks.specs.Marks.{declared_pairs}
use Rattle.marks.specs.Selection.{marks_after, selection_refusal, selection, order_fired}
use Rattle.laws.specs.Answers.{OrRefused, taken, refused}
use Rattle.cards.specs.Forms.{card_bytes, slip_bytes}

-- The bytes of an answer: the new card, the changes and the fired record.
pub record Answer : Type 0 where
  pub new_card : List ℕ
  pub changes : List ℕ
  pub fired : List ℕ

-- The fired record: one bit for each of so many rules, rule 1 first, padded to bytes.
unfoldable pub fired_record : ℕ → List ℕ → List ℕ
fired_record count ns = pack (tabulate (λ i. names ns (suc i)) count)

-- The answer of so many slots for the changes C and the rules fired, over the card S.
unfoldable pub answer_of : ℕ → ℕ → List ℕ → Pairs → List ℕ → Answer
answer_of width count S C ns = record { new_card = card_bytes (new_card width row C S); changes = slip_bytes (changes_slip width row C); fired = fired_record count ns }

-- 40 with the lowest slot that has two values in C, else the answer.
unfoldable pub unless_conflict : ℕ → ℕ → List ℕ → Pairs → List ℕ → OrRefused Answer
unless_conflict width count S C ns =
    cond (ltb (conflict_slot width row C) width) (refused 40 (conflict_slot width row C)) (taken (answer_of width count S C ns))

-- All firing ends before conflicts are looked for.
unfoldable pub answer_by_firing : List Rule → ℕ → List ℕ → List Pair → OrRefused Answer
answer_by_firing rs width S I = unless_conflict width (length rs) S (changes rs I (response weak rs S I)) (response weak rs S I)

-- The response by marks, document 02, section 3: 41 where a pair would be both positive and negative, otherwise 42 where a pair stays unknown, else the answer of the positive pairs and the rules fired.
unfoldable pub unless_refused : ℕ → Answer → OrRefused Answer
unless_refused zero a = taken a
unless_refused (suc k) a = refused (suc k) 0

-- All selection ends before it is looked at what it came to.
unfoldable pub answer_by_marks : List Rule → List ℕ → List ℕ → List Pair → OrRefused Answer
answer_by_marks rs counts S I =
    unless_refused (selection_refusal (declared_pairs counts) rs S I (selection (declared_pairs counts) rs S I))
    (answer_of (length counts) (length rs) S (marks_after rs I (selection (declared_pairs counts) rs S I)).positive (order_fired (selection (declared_pairs counts) rs S I)))

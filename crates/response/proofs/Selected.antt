-- The response by marks to a card and a slip that are in order: what the selection is given, and the answer of what it comes to.
-- Assumes nothing.
use mathlib.Core.Path.{◌≡◌, refl, sym, ap₂, fun_ext, ◌∙◌}
use mathlib.Core.Bool.{Bool, false}
use mathlib.Core.List.{List, []}
use Prim.Native.Nat.{ℕ, zero, suc, ◌<◌}
use native.Mathlib.Omega.{arith}
use lib.Dec.{T}
use lib.ListN.{length, get_or, replicate}
use Rattle.laws.specs.Answers.{taken, refused}
use Rattle.model.specs.Rules.{Pair, Pairs, Rule, among}
use Rattle.model.specs.Orders.{names}
use Rattle.model.proofs.Alike.{SameCard, SamePairs}
use Rattle.table.specs.declared.Way.TheVariants.{Marks}
use Rattle.table.specs.Link.{assignments_of, rules_of}
use Rattle.table.specs.inner.Flat.{set_of, add_pairs, pair_places}
use Rattle.table.proofs.Flat.{pairs_of_set}
use Rattle.rows.specs.declared.RuleRow.{RuleRow}
use Rattle.rows.specs.inner.Rows.{rule_in}
use Rattle.rows.specs.inner.RuleRows.{numbers_of, rows_table}
use Rattle.rows.proofs.RuleRows.{all_bounded}
use Rattle.cards.specs.declared.Card.{Card}
use Rattle.cards.specs.declared.Slip.{Slip}
use Rattle.cards.specs.Cards.{card_values, changes_of}
use Rattle.marks.specs.Marks.{declared_pairs}
use Rattle.marks.specs.inner.Declared.{Declared}
use Rattle.marks.specs.Selection.{Move, marks_after, selection, order_fired}
use Rattle.firing.proofs.Responses.{slip_flags}
use Rattle.selecting.specs.inner.Selected.{CardIs, SlipIs, Selected}
use Rattle.selecting.proofs.Given.{Given, own_counts, declared_value, assigns_declared}
use Rattle.response.specs.Ending.{Answer, answer_of, unless_refused, answer_by_marks}
use Rattle.response.specs.inner.InOrder.{InOrder}
use Rattle.response.proofs.InOrder.{values_same, slip_placed, flags_length, rules_counted}

-- A number other than 0 refuses.
refuses : (k : ℕ) (a : Answer) → 0 < k → unless_refused k a ≡ refused k 0
unfolding unless_refused
refuses zero a h = absurd (omega arith)
refuses (suc k) a h = refl

-- 0 answers.
answers : (k : ℕ) (a : Answer) → k ≡ 0 → unless_refused k a ≡ taken a
unfolding unless_refused
answers k a e = rw e refl

module _ (rows : List RuleRow) (counts : List ℕ) (card : Card) (slip : Slip) (O : InOrder Marks rows counts card slip) where
  abbrev rs : List Rule
  rs = rules_of (rows_table rows)

  -- What the selection is given.
  pub card_is : CardIs (card_values card) card.values
  unfolding CardIs SameCard
  card_is s = sym (values_same card O.rest_empty s)

  pub slip_is : (flags : List Bool) → flags ≡ add_pairs (changes_of slip) (replicate pair_places false) → SlipIs (changes_of slip) flags
  unfolding SlipIs SamePairs
  slip_is flags e p =
      rw e (sym (pairs_of_set (add_pairs (changes_of slip) (replicate pair_places false)) p (flags_length (changes_of slip))) ∙ slip_flags (changes_of slip) (slip_placed slip O.slip_fits) p)

  pub all_declared : Declared (declared_pairs counts) rs (changes_of slip)
  all_declared = record { slip = O.slip_declared; assigned = O.kept.assigned; in_tests = O.kept.in_tests }

  pub assigned_below : (i : ℕ) (p : Pair) → i < length rows → T (among p (assignments_of (rule_in (get_or (numbers_of rows) i [])))) → p.slot < length counts
  assigned_below i p h t =
      let I = changes_of slip in
      let G : Given (numbers_of rows) (length rows) counts (length counts) counts I = record { rows_bounded = all_bounded rows O.kept.few_rules; counted = own_counts counts; narrow = O.kept.few_slots; few_values = O.kept.few_values; all_declared = all_declared } in
      (declared_value (numbers_of rows) (length rows) counts (length counts) counts I G p (assigns_declared (numbers_of rows) (length rows) counts (length counts) counts I G i p h t)).0

  -- What it comes to.
  abbrev chosen : List Move
  chosen = selection (declared_pairs counts) rs (card_values card) (changes_of slip)

  abbrev made_positive : Pairs
  made_positive = (marks_after rs (changes_of slip) chosen).positive

  module _ (k : ℕ) (bs ran : List Bool) (selected : Selected (declared_pairs counts) rs (card_values card) (changes_of slip) k bs ran) where
    -- 41 and 42,
    pub selected_refused : 0 < k → answer_by_marks rs counts (card_values card) (changes_of slip) ≡ refused k 0
    unfolding answer_by_marks
    selected_refused h = rw (← selected.number) (refuses k _ h)

    -- or the answer of the positive pairs and the rules fired.
    pub selected_answer : k ≡ 0 → answer_by_marks rs counts (card_values card) (changes_of slip) ≡ taken (answer_of card.count (length rows) (card_values card) made_positive (order_fired chosen))
    unfolding answer_by_marks
    selected_answer e =
        answers _ _ (sym selected.number ∙ e)
        ∙ ap₂ (λ (w m : ℕ). taken (answer_of w m (card_values card) made_positive (order_fired chosen))) (sym O.same_width) (rules_counted rows O.kept.few_rules)

    pub selected_positive : k ≡ 0 → set_of bs ≡ made_positive
    selected_positive e = fun_ext (selected.same_positive e)

    pub selected_fired : k ≡ 0 → (i : ℕ) → i < length rows → get_or ran i false ≡ names (order_fired chosen) (suc i)
    selected_fired e i h = selected.same_fired e i (omega (arith, h, rules_counted rows O.kept.few_rules))

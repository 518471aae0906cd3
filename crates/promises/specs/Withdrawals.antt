-- A dating withdrawn: document 02, section 6. NONE is value 0 in rules, in slips and in C.
-- What is said of responses is said of what the entry points return (Returned), by any table, records, editor, card, slip and outputs.
use Rattle.std.specs.Prelude.{ℕ, ◌≤◌, ◌<◌, ◌≡◌, List, ◌∷◌, ◌↔◌, ◌⊎◌, T, length, get_or}
use Rattle.laws.specs.Answers.{taken}
use Rattle.laws.specs.Limits.{text_limit}
use Rattle.text.specs.Tokens.{Token, word, NONE, tokens}
use Rattle.grammar.specs.Refusals.{StandsAt}
use Rattle.reader.specs.Tables.{reading_refusal}
use Rattle.rule_file.specs.Whole.{read_by}
use Rattle.model.specs.Rules.{Pair, Pairs, among, was, became}
use Rattle.model.specs.Result.{pair}
use Rattle.marks.specs.Marks.{Marks, declared_pairs, update}
use Rattle.table.specs.declared.Table.{Table}
use Rattle.table.specs.declared.Way.{Way}
use Rattle.table.specs.declared.Way.TheVariants as ways
use Rattle.table.specs.Link.{rules_of, value_counts}
use Rattle.cards.specs.Forms.{read_card, read_slip}
use Rattle.tally.specs.Editors.{Editors}
use Rattle.response.specs.Ending.{Answer}
use Rattle.response.specs.Respond.{Outputs}
use Rattle.promises.specs.Returned.{number_in, second_in, AnswersIn}
use Rattle.promises.specs.Reasons.{ends_with}

-- The C that a response by a table ends with.
abbrev pub C_of : Way → Table → List ℕ → List ℕ → Pairs
C_of way t card slip = ends_with way (value_counts t) (rules_of t) card slip

-- An answer to a card and a slip, over slots of so many values each, where the response ended with C: what each slot held and holds.
pub record SlotsHold (counts : List ℕ) (C : Pairs) (card slip : List ℕ) (a : Answer) : Type 0 where
  -- The card, the slip, the new card and the changes unpack.
  pub old : List ℕ
  pub handed_in : List Pair
  pub new : List ℕ
  pub pairs : List Pair
  pub card_is : read_card counts card ≡ taken old
  pub slip_is : read_slip counts slip ≡ taken handed_in
  pub new_card_is : read_card counts a.new_card ≡ taken new
  pub changes_are : read_slip counts a.changes ≡ taken pairs
  -- The slip's pairs are in C, withdrawals of what is not there too, and the changes are the pairs that C has for these slots.
  pub slip_in_C : (p : Pair) → T (among p handed_in) → T (C p)
  pub same_changes : (p : Pair) → p.slot < length counts → C p ≡ among p pairs
  -- NO VALUE STAYS NO VALUE: a slot without a value on the card has none on the new card unless C has a value other than NONE for it;
  pub stays_empty : (s : ℕ) → s < length counts → get_or old s 0 ≡ 0 → ((v : ℕ) → ¬ (v ≡ 0) → ¬ T (C (pair s v))) → get_or new s 0 ≡ 0
  -- and a slot with a value keeps it unless C has another or NONE.
  pub keeps_value : (s : ℕ) → s < length counts → ¬ (get_or old s 0 ≡ 0) → ((v : ℕ) → ¬ (v ≡ get_or old s 0) → ¬ T (C (pair s v))) → get_or new s 0 ≡ get_or old s 0
  -- Where C has a value for a slot the new card has it, and no value where that is NONE.
  pub new_value : (s v : ℕ) → s < length counts → T (C (pair s v)) → get_or new s 0 ≡ v

pub record Withdrawals : Type 0 where
  -- `s |= NONE` holds when the card has nothing there; `s *= NONE` holds when it had something and the withdrawal is among the changes.
  pub had_nothing : (S : List ℕ) (s : ℕ) → T (was S (pair s 0)) ↔ (get_or S s 0 ≡ 0)
  pub is_withdrawn : (S : List ℕ) (C : Pairs) (s : ℕ) → T (became S C (pair s 0)) ↔ ((¬ (get_or S s 0 ≡ 0)) × T (C (pair s 0)))
  -- NONE of every slot is one of the pairs that are marked; a positive value makes NONE of its slot negative, and a positive NONE every value.
  pub none_marked : (counts : List ℕ) (s : ℕ) → s < length counts → T (among (pair s 0) (declared_pairs counts))
  pub value_rivals_none : (Z : Marks) (D : List Pair) (s v : ℕ) → ¬ (v ≡ 0) → T (among (pair s v) D) → T ((update Z D).negative (pair s 0))
  pub none_rivals_values : (Z : Marks) (D : List Pair) (s v : ℕ) → ¬ (v ≡ 0) → T (among (pair s 0) D) → T ((update Z D).negative (pair s v))
  -- A text within the limit that is refused at a NONE is refused with 12, never with 16.
  pub refused_at_none : (way : Way) (text : List ℕ) → length text ≤ text_limit → (k n : ℕ) (r : StandsAt (tokens text) k n) (later : List Token) → r.after ≡ word NONE ∷ later
      → reading_refusal (read_by way text).outcome ≡ 12
  -- Each answer, by strata or by marks: what each slot held and holds.
  pub slots_hold : (way : Way) (t : Table) (y : Editors) (card slip : List ℕ) (o : Outputs) → number_in way t y card slip o ≡ 0
      → (a : Answer) × AnswersIn way t y card slip o a × SlotsHold (value_counts t) (C_of way t card slip) card slip a
  -- Withdrawal and a value together are a conflict: where all was in order before, 40 of that slot or of a lower one; by marks 41.
  pub both_40 : (t : Table) (y : Editors) (card slip : List ℕ) (o : Outputs) (s v : ℕ) → s < length (value_counts t) → ¬ (v ≡ 0) → T (C_of ways.Strata t card slip (pair s 0)) → T (C_of ways.Strata t card slip (pair s v))
      → (number_in ways.Strata t y card slip o ≡ 0) ⊎ (number_in ways.Strata t y card slip o ≡ 40) → (number_in ways.Strata t y card slip o ≡ 40) × (second_in ways.Strata t y card slip o ≤ s)
  pub both_41 : (t : Table) (y : Editors) (card slip : List ℕ) (o : Outputs) (s v : ℕ) → s < length (value_counts t) → ¬ (v ≡ 0) → T (C_of ways.Marks t card slip (pair s 0)) → T (C_of ways.Marks t card slip (pair s v))
      → (number_in ways.Marks t y card slip o ≡ 0) ⊎ ((number_in ways.Marks t y card slip o ≡ 41) ⊎ (number_in ways.Marks t y card slip o ≡ 42)) → number_in ways.Marks t y card slip o ≡ 41

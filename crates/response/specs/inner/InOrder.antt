-- What is in order when the rules fire: the table, the card and the slip passed their tests, the outputs have room.
use Rattle.std.specs.Prelude.{Bool, false, List, ℕ, ◌≤◌, ◌<◌, ◌≡◌, T, length, get_or, replicate}
use Rattle.laws.specs.Numbers.{Numbered}
use Rattle.model.specs.Rules.{Pair, among}
use Rattle.model.specs.Orders.{rule_at}
use Rattle.model.specs.Strata.{tested}
use Rattle.table.specs.declared.Way.{Way}
use Rattle.table.specs.declared.Way.TheVariants as ways
use Rattle.table.specs.Link.{rules_of}
use Rattle.leastness.specs.CarriesLeast.{carries_least}
use Rattle.marks.specs.Marks.{declared_pairs}
use Rattle.selecting.specs.inner.Selected.{OneValue}
use Rattle.cards.specs.Cards.{changes_of}
use Rattle.laws.specs.Packed.{byte_count}
use Rattle.laws.specs.Limits.{slot_limit, value_limit, rule_limit}
use Rattle.rows.specs.declared.RuleRow.{RuleRow}
use Rattle.rows.specs.inner.RuleRows.{rows_table}
use Rattle.cards.specs.declared.Card.{Card}
use Rattle.cards.specs.declared.Slip.{Slip}
use Rattle.cards.specs.Forms.{card_bits}
use Rattle.cards.specs.inner.Fitting.{CardFits, SlipFits}
use Rattle.response.specs.Respond.{Rooms, changes_room, outcome_of, Outputs, outputs_after}
use Rattle.laws.specs.Answers.{OrRefused}
use Rattle.response.specs.Outcomes.{Outcome}
use Rattle.response.specs.Ending.{Answer}

-- What is left of a table that passed 31: rows of its rules, which name declared pairs alone and, for the response by strata, carry the least strata; and how many values each of its slots has.
pub record Kept (way : Way) (rows : List RuleRow) (counts : List ℕ) : Type 0 where
  pub few_rules : length rows ≤ rule_limit
  pub least : way ≡ ways.Strata → T (carries_least (rows_table rows))
  pub few_slots : length counts ≤ slot_limit
  pub few_values : (i : ℕ) → i < length counts → get_or counts i 0 ≤ value_limit
  pub assigned : (m : ℕ) (p : Pair) → Numbered (length (rules_of (rows_table rows))) m → T (among p (rule_at (rules_of (rows_table rows)) m).assignments) → T (among p (declared_pairs counts))
  pub in_tests : (m : ℕ) (p : Pair) → Numbered (length (rules_of (rows_table rows))) m → T (among p (tested (rule_at (rules_of (rows_table rows)) m))) → T (among p (declared_pairs counts))

-- With a card that counts as many slots, in 4 bits each, and is empty beyond them, and a slip whose changes go into 5 and 4 bits, are declared, and give no slot two values.
pub record InOrder (way : Way) (rows : List RuleRow) (counts : List ℕ) (card : Card) (slip : Slip) : Type 0 where
  pub kept : Kept way rows counts
  pub same_width : card.count ≡ length counts
  pub card_fits : CardFits card
  pub rest_empty : (s : ℕ) → card.count ≤ s → get_or card.values s 0 ≡ 0
  pub slip_fits : SlipFits slip
  pub slip_declared : (p : Pair) → T (among p (changes_of slip)) → T (among p (declared_pairs counts))
  pub slip_once : OneValue (changes_of slip)

-- Flags of the rules that ran, for at least so many: none as yet.
pub record NoneRan (count : ℕ) (ran : List Bool) : Type 0 where
  pub room : count ≤ length ran
  pub none : ran ≡ replicate (length ran) false

-- The outputs have room for so many slots and rules.
pub record HasRoom (width count : ℕ) (rooms : Rooms) : Type 0 where
  pub card_room : byte_count (card_bits width) ≤ rooms.for_card
  pub changes_there : changes_room ≤ rooms.for_changes
  pub fired_room : byte_count count ≤ rooms.for_fired

-- What a function that works out a response leaves: its outcome, and the outputs.
abbrev pub Ends : OrRefused Answer → Outcome → Outputs → Outputs → Type 0
Ends u r before after = (r ≡ outcome_of u) × (after ≡ outputs_after u before)

-- Files that no layering fits: document 02, section 3, 'Give a separate response by section 6 of document 002. For it a file may be read without test 18; the table then has stratum 0 throughout, which this response takes
-- beside ordinary tables and the strata response calls 31.' It is said of what the entry points return (Returned), of any text, table, records, editor, card, slip and outputs.
use Rattle.std.specs.Prelude.{ℕ, ◌≤◌, ◌<◌, ◌≡◌, List, ◌↔◌, ◌⊎◌, T, length}
use Rattle.model.specs.Strata.{strict, weak, Strata}
use Rattle.model.specs.Least.{LeastStrata}
use Rattle.table.specs.declared.Table.{Table}
use Rattle.table.specs.declared.Way.{Way}
use Rattle.table.specs.declared.Way.TheVariants as ways
use Rattle.table.specs.Link.{rules_of, stratum_at}
use Rattle.grammar.specs.Files.{File}
use Rattle.grammar.specs.Meaning.{IsFile}
use Rattle.grammar.specs.Pieces.{Rearranges}
use Rattle.strata.specs.Layered.{with_strata}
use Rattle.soundness.specs.Sound.{well_formed, stratum_0}
use Rattle.reader.specs.Tables.{reading_refusal}
use Rattle.rule_file.specs.Whole.{reading, reading_without_18}
use Rattle.rule_file.specs.Carries.{CarriesBy}
use Rattle.cards.specs.declared.Card.{Card}
use Rattle.cards.specs.declared.Slip.{Slip}
use Rattle.cards.specs.Cards.{unpacking_refusal, unpacking_second, packing_refusal, packing_second}
use Rattle.tally.specs.Editors.{Editors}
use Rattle.response.specs.Ending.{Answer}
use Rattle.response.specs.Respond.{Outputs, rooms_of}
use Rattle.promises.specs.Returned.{IsAccepted, card_told, slip_told, card_packing, slip_packing, told_in, left_in, number_in, second_in, AnswersIn}
use Rattle.promises.specs.Reasons.{Countable}
use Rattle.promises.specs.Paper.{PaperAnswer}
use Rattle.promises.specs.Selections.{HandedIn, SelectionsAgree, OwedAnswer, OwedClash, UnmovedMarks}

-- A file is accepted without test 18 when that reading gives no refusal.
abbrev pub IsRead : List ℕ → Type 0
IsRead text = reading_refusal (reading_without_18 text).outcome ≡ 0

-- Two responses by two tables, to the same editor, records, card, slip and outputs, are the same: the outcome and the records after it, and what the outputs hold afterwards.
pub record SameReturned (way way' : Way) (t t' : Table) (y : Editors) (card slip : List ℕ) (o : Outputs) : Type 0 where
  pub same_told : told_in way t y card slip o ≡ told_in way' t' y card slip o
  pub same_left : left_in way t y card slip o ≡ left_in way' t' y card slip o

-- An answer by marks is returned: it is a correct declarative response by Definition 2, and what is owed of every order of selection and of firing.
pub record MarksAnswered (f : File) (t : Table) (y : Editors) (card slip : List ℕ) (o : Outputs) : Type 0 where
  pub answer : Answer
  pub returned : AnswersIn ways.Marks t y card slip o answer
  pub paper : PaperAnswer f card slip answer
  pub owed : OwedAnswer f card slip answer

-- The response by marks with a table of the file f: what comes of a call by its two numbers.
pub record MarksCalled (f : File) (t : Table) (y : Editors) (card slip : List ℕ) (o : Outputs) : Type 0 where
  -- Where all is in order, and only there, it ends in an answer, 41 or 42; both stand in 40's place, with second number 0. It is never 31.
  pub ends : ((number_in ways.Marks t y card slip o ≡ 0) ⊎ ((number_in ways.Marks t y card slip o ≡ 41) ⊎ (number_in ways.Marks t y card slip o ≡ 42)))
      ↔ HandedIn f y card slip (rooms_of o.card o.changes o.fired)
  pub second_0 : HandedIn f y card slip (rooms_of o.card o.changes o.fired) → second_in ways.Marks t y card slip o ≡ 0
  pub not_31 : ¬ (number_in ways.Marks t y card slip o ≡ 31)
  -- Every complete order of selection comes to this number.
  pub selections : HandedIn f y card slip (rooms_of o.card o.changes o.fired) → SelectionsAgree f card slip (number_in ways.Marks t y card slip o)
  pub where_answered : number_in ways.Marks t y card slip o ≡ 0 → MarksAnswered f t y card slip o
  pub where_41 : number_in ways.Marks t y card slip o ≡ 41 → OwedClash f card slip

-- The two responses to a call with tables of the file f: by marks with the table t, by strata with the table t'.
pub record BothCalled (f : File) (t t' : Table) (y : Editors) (card slip : List ℕ) (o : Outputs) : Type 0 where
  -- Where the response by marks gives neither 41 nor 42 the two are the same, answers and refusals; so the response by strata gives 40 only where this gives 41 or 42.
  pub neither_41_nor_42 : ¬ (number_in ways.Marks t y card slip o ≡ 41) → ¬ (number_in ways.Marks t y card slip o ≡ 42) → SameReturned ways.Marks ways.Strata t t' y card slip o
  -- They are the same also where the response by strata gives a refusal other than 40.
  pub refused_before_40 : ¬ (number_in ways.Strata t' y card slip o ≡ 0) → ¬ (number_in ways.Strata t' y card slip o ≡ 40) → SameReturned ways.Marks ways.Strata t t' y card slip o
  -- With strata of section 7 it is never 42, 41 exactly where the other is 40, and an answer exactly where the other is.
  pub with_section_7 : (u : ℕ → ℕ) → Strata strict f.rules u → (¬ (number_in ways.Marks t y card slip o ≡ 42))
      × ((number_in ways.Marks t y card slip o ≡ 41) ↔ (number_in ways.Strata t' y card slip o ≡ 40)) × ((number_in ways.Marks t y card slip o ≡ 0) ↔ (number_in ways.Strata t' y card slip o ≡ 0))

pub record ByMarks : Type 0 where
  -- Read without test 18: accepted are exactly the texts of files. The table has the file's rules and as many values for each slot, shows the names that it declares, and has stratum 0 throughout.
  pub accepted : (text : List ℕ) → ((f : File) × IsFile text f) ↔ IsRead text
  pub carried : (text : List ℕ) (f : File) → IsFile text f → (c : CarriesBy ways.Marks text (reading_without_18 text).table) × (c.file ≡ f) × T (stratum_0 (reading_without_18 text).table)
  -- What it refuses, with 10 to 17, the reading with test 18 refuses with the same two numbers and the same table, and all that that refuses with another number than 18 it refuses so.
  pub refused_alike : (text : List ℕ) → ¬ IsRead text → (10 ≤ reading_refusal (reading_without_18 text).outcome) × (reading_refusal (reading_without_18 text).outcome ≤ 17) × (reading text ≡ reading_without_18 text)
  pub refused_too : (text : List ℕ) → ¬ IsAccepted text → ¬ (reading_refusal (reading text).outcome ≡ 18) → reading_without_18 text ≡ reading text
  -- What the reading with test 18 accepts, or refuses with 18, it accepts; the tables of an accepted text differ in their strata alone.
  pub read_with_18 : (text : List ℕ) → reading_refusal (reading text).outcome ≡ 18 → IsRead text
  pub read_accepted : (text : List ℕ) → IsAccepted text → IsRead text × ((reading text).table ≡ with_strata (reading_without_18 text).table)
  -- 31 of the response by marks, where the slip can be counted: exactly for a table that is not in order but for its strata, or carries neither stratum 0 throughout nor the least strata.
  pub exactly_31 : (t : Table) (y : Editors) (card slip : List ℕ) (o : Outputs) → Countable y
      → (number_in ways.Marks t y card slip o ≡ 31) ↔ (¬ (T (well_formed t) × (T (stratum_0 t) ⊎ LeastStrata weak (rules_of t) (stratum_at t))))
  -- A table with rules and stratum 0 throughout is 31 elsewhere: by strata, in unpacking and in packing.
  pub strata_31 : (t : Table) → T (stratum_0 t) → 0 < length (rules_of t) → (y : Editors) (card slip : List ℕ) (o : Outputs) → Countable y
      → (number_in ways.Strata t y card slip o ≡ 31) × (second_in ways.Strata t y card slip o ≡ 0)
  pub unpacking_31 : (t : Table) → T (stratum_0 t) → 0 < length (rules_of t) → (ys : List ℕ) → (unpacking_refusal (card_told t ys).outcome ≡ 31) × (unpacking_second (card_told t ys).outcome ≡ 0)
      × (unpacking_refusal (slip_told t ys).outcome ≡ 31) × (unpacking_second (slip_told t ys).outcome ≡ 0)
  pub packing_31 : (t : Table) → T (stratum_0 t) → 0 < length (rules_of t) → (card : Card) (slip : Slip) (out : List ℕ) → (packing_refusal (card_packing t card out) ≡ 31) × (packing_second (card_packing t card out) ≡ 0)
      × (packing_refusal (slip_packing t slip out) ≡ 31) × (packing_second (slip_packing t slip out) ≡ 0)
  -- A call with the table of a text that is read without test 18; and with both tables of a text, where test 18 accepts it too, the same comes back.
  pub called : (text : List ℕ) (f : File) → IsFile text f → (y : Editors) (card slip : List ℕ) (o : Outputs) → MarksCalled f (reading_without_18 text).table y card slip o
  pub both_tables : (text : List ℕ) → IsAccepted text → (y : Editors) (card slip : List ℕ) (o : Outputs) → SameReturned ways.Marks ways.Marks (reading_without_18 text).table (reading text).table y card slip o
  -- The two responses, where test 18 accepts the text.
  pub both_called : (text : List ℕ) (f : File) → IsFile text f → IsAccepted text → (y : Editors) (card slip : List ℕ) (o : Outputs) → BothCalled f (reading_without_18 text).table (reading text).table y card slip o
  -- Rearranged rules, whether test 18 accepts the text or not.
  pub rearranged : (text : List ℕ) (f : File) → IsFile text f → (text' : List ℕ) (R : Rearranges text text') → UnmovedMarks f text text' R

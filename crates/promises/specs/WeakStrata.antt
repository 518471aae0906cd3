-- Rules that wake each other, document 02, section 2: 'A plain `*=` now needs its defining rules at the same or a lower stratum; only one under NOT needs them strictly lower.
-- The table still carries the least numbers.' That the table of an accepted text carries the least and that 18 is for circles through a NOT are parts of demand 2; that no firing order reaches another consistent outcome is demand 3.
use Rattle.std.specs.Prelude.{ℕ, ◌≡◌, Bool, false, List, ◌↔◌, T}
use Rattle.laws.specs.Answers.{taken, refused}
use Rattle.model.specs.Rules.{Pair}
use Rattle.model.specs.Orders.{whole_order}
use Rattle.model.specs.Strata.{strict, weak, Strata}
use Rattle.model.specs.Least.{LeastStrata}
use Rattle.model.specs.Causes.{NoOutsideCause}
use Rattle.model.specs.Response.{response_by}
use Rattle.table.specs.declared.Table.{Table}
use Rattle.table.specs.Link.{rules_of, stratum_at}
use Rattle.grammar.specs.Files.{File, slot_counts}
use Rattle.grammar.specs.Meaning.{IsFile}
use Rattle.reader.specs.Tables.{Accepted}
use Rattle.rule_file.specs.Whole.{reading}
use Rattle.soundness.specs.Sound.{well_formed, sound}
use Rattle.cards.specs.Forms.{read_card, read_slip}
use Rattle.tally.specs.Editors.{Editors}
use Rattle.response.specs.Ending.{Answer}
use Rattle.response.specs.Respond.{Rooms, answer_to}
use Rattle.results.specs.Record.{bit_of}
use Rattle.promises.specs.Agreement.{responds}
use Rattle.promises.specs.Reasons.{Countable}

pub record WeakStrata : Type 0 where
  -- 31 passes a table that is otherwise in order exactly where it carries the least.
  pub tested : (t : Table) → T (well_formed t) → T (sound t) ↔ LeastStrata weak (rules_of t) (stratum_at t)
  -- So a response by such a table, where the slip can be counted, is refused with 31 exactly where it does not.
  pub refused_31 : (t : Table) → T (well_formed t) → (y : Editors) → Countable y → (card slip : List ℕ) (rooms : Rooms)
      → (answer_to t y card slip rooms ≡ refused 31 0) ↔ (¬ LeastStrata weak (rules_of t) (stratum_at t))
  -- Rules without a cause outside their set do not fire.
  pub idle : (text : List ℕ) (f : File) → IsFile text f → (reading text).outcome ≡ Accepted → (y : Editors) (card slip : List ℕ) (rooms : Rooms) (a : Answer) → responds text y card slip rooms ≡ taken a
      → (S : List ℕ) (I : List Pair) → read_card (slot_counts f.slots) card ≡ taken S → read_slip (slot_counts f.slots) slip ≡ taken I
      → (X : ℕ → Bool) → NoOutsideCause f.rules S I X → (n : ℕ) → T (X n) → bit_of a.fired n ≡ false
  -- A file with strata of section 7, which fall along every `*=`, is accepted; and firing by those strata is one of the orders that demand 3 holds to the answer.
  pub section_7 : (text : List ℕ) (f : File) → IsFile text f → (u : ℕ → ℕ) → Strata strict f.rules u
      → ((reading text).outcome ≡ Accepted) × ((S : List ℕ) (I : List Pair) → T (whole_order f.rules S I (response_by f.rules S I u)))

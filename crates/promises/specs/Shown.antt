-- From the text to the name shown: document 01, 'When a name is shown, it is the very stretch of text where it was declared (31 if the table lacks the slot or value asked for or puts its name outside the text ..)'.
use Rattle.std.specs.Prelude.{ℕ, suc, ◌≤◌, ◌<◌, ◌≡◌, List, ◌⊎◌, length, get_or}
use Rattle.text.specs.Tokens.{Name}
use Rattle.text.specs.Cut.{Stands}
use Rattle.grammar.specs.Files.{File, no_slot, values_of}
use Rattle.names.specs.Names.{Showing, not_shown, show_slot, show_value}
use Rattle.rule_file.specs.Whole.{reading}

-- A name is shown: with 0, its letters, from where they were declared on; and there in the text they stand.
pub record ShowsName (text : List ℕ) (n : Name) (s : Showing) : Type 0 where
  pub number : s.code ≡ 0
  pub letters : s.part ≡ n.letters
  pub place : s.start ≡ n.start
  pub stands : Stands text n

-- The names that an accepted text shows are those that its file declares: every slot's and every value's, values counted from 1; past the last of them it is 31, and for value 0, NONE, which no text declares.
pub record NamesShown (text : List ℕ) (f : File) : Type 0 where
  pub slot : (s : ℕ) → s < length f.slots → ShowsName text (get_or f.slots s no_slot).name (show_slot text (reading text).table s)
  pub value : (s i : ℕ) → s < length f.slots → i < length (values_of f.slots s)
      → ShowsName text (get_or (values_of f.slots s) i no_slot.name) (show_value text (reading text).table s (suc i))
  pub past_slots : (s : ℕ) → length f.slots ≤ s → (show_slot text (reading text).table s ≡ not_shown) × ((v : ℕ) → show_value text (reading text).table s v ≡ not_shown)
  pub past_values : (s v : ℕ) → s < length f.slots → (v ≡ 0) ⊎ (length (values_of f.slots s) < v) → show_value text (reading text).table s v ≡ not_shown

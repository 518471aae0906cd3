-- What is known of an accepted text's table: how many slots and rules, how high its strata and how long its names are.
-- Assumes nothing.
use Prim.Native.Nat.{ℕ, suc, ◌-◌, ◌≤◌, ◌<◌}
use native.Mathlib.Omega.{arith}
use mathlib.Core.Path.{◌≡◌, refl, sym, ap, subst, ◌∙◌}
use mathlib.Core.Bool.{Bool, true, false, cond}
use mathlib.Core.List.{List}
use lib.ListN.{length, get_or, length-map}
use Rattle.laws.specs.Numbers.{Numbered}
use Rattle.laws.proofs.Listed.{each_at}
use Rattle.model.specs.Strata.{weak}
use Rattle.model.proofs.Strata.{least_top}
use Rattle.laws.specs.Limits.{name_limit, slot_limit, program_rule_limit}
use Rattle.grammar.specs.Files.{Slot, File, no_slot, values_of}
use Rattle.grammar.proofs.Accepts.{accepts_iff, one_meaning}
use Rattle.grammar.proofs.Declared.{DeclaredFile, file_declared}
use Rattle.style.specs.inner.Named.{Named, WellNamed}
use Rattle.style.proofs.Formed.{file_formed}
use Rattle.table.specs.declared.Table.{Table}
use Rattle.table.specs.Link.{rules_of, stratum_at, value_counts}
use Rattle.names.specs.Names.{not_shown, has_slot, has_value, show_slot, show_value}
use Rattle.names.proofs.Names.{slot_inside, value_inside}
use Rattle.strata.specs.Layered.{with_strata}
use Rattle.grammar.specs.TableFor.{table_for}
use Rattle.reader.specs.Tables.{Accepted, FileRead}
use Rattle.rule_file.specs.Whole.{reading, program_reading}
use Rattle.rule_file.proofs.Within.{program_accepted, program_few}
use Rattle.rule_file.specs.Carries.{Carries, declared, declared_slot, declared_value}
use Rattle.rule_file.proofs.Answers.{accepted_table, reading_carries}

-- A name that a file declares has at most as many bytes as the limit, and there is none beyond those.
slot_le : (slots : List Slot) (s : ℕ) → ((i : ℕ) → i < length slots → WellNamed (get_or slots i no_slot)) → length (declared_slot slots s).part ≤ name_limit
slot_le slots s named = go (has_slot (length slots) s) refl
  where
    go : (b : Bool) → has_slot (length slots) s ≡ b → length (cond b (declared (get_or slots s no_slot).name) not_shown).part ≤ name_limit
    go true e = (named s (slot_inside (length slots) s e).1).0.short
    go false e = omega arith

value_le : (slots : List Slot) (s v : ℕ) → ((i : ℕ) → i < length slots → WellNamed (get_or slots i no_slot)) → length (declared_value slots s v).part ≤ name_limit
value_le slots s v named = go (has_slot (length slots) s) refl (has_value (length (values_of slots s)) v) refl
  where
    go : (b : Bool) → has_slot (length slots) s ≡ b → (c : Bool) → has_value (length (values_of slots s)) v ≡ c
        → length (cond b (cond c (declared (get_or (values_of slots s) (v - 1) no_slot.name)) not_shown) not_shown).part ≤ name_limit
    go true e true h =
        let w = value_inside (length (values_of slots s)) v h in
        (each_at Named (values_of slots s) (v - 1) no_slot.name (named s (slot_inside (length slots) s e).1).1 (omega (arith, w.0, w.1.1))).short
    go true e false h = omega arith
    go false e c h = omega arith

module _ (text : List ℕ) (o : (program_reading text).outcome ≡ Accepted) where
  abbrev read_table : Table
  read_table = (program_reading text).table

  -- The library accepts it too, with the same table.
  library_accepts : (reading text).outcome ≡ Accepted
  library_accepts = ap (λ (r : FileRead). r.outcome) (program_accepted text o) ∙ o

  same_table : (reading text).table ≡ read_table
  same_table = ap (λ (r : FileRead). r.table) (program_accepted text o)

  abbrev carries : Carries text read_table
  carries = subst (Carries text) same_table (reading_carries text library_accepts)

  abbrev file : File
  file = carries.file

  same_file : (accepted_table text library_accepts).0 ≡ file
  same_file = one_meaning text (accepted_table text library_accepts).0 file ((accepts_iff text (accepted_table text library_accepts).0).0 (accepted_table text library_accepts).1) carries.is_file

  file_is : DeclaredFile file
  file_is = file_declared text file carries.is_file

  -- The table counts the slots and rules of its file.
  width_is : read_table.width ≡ length file.slots
  unfolding with_strata table_for
  width_is = ap (λ (t : Table). t.width) (sym same_table ∙ (accepted_table text library_accepts).2) ∙ ap (λ (f : File). length f.slots) same_file

  count_is : read_table.count ≡ length file.rules
  unfolding with_strata table_for
  count_is = ap (λ (t : Table). t.count) (sym same_table ∙ (accepted_table text library_accepts).2) ∙ ap (λ (f : File). length f.rules) same_file

  pub slots_counted : length (value_counts read_table) ≡ read_table.width
  slots_counted = ap length carries.counts_are ∙ length-map file.slots (λ (s : Slot). length s.values) ∙ sym width_is

  pub rules_counted : length (rules_of read_table) ≡ read_table.count
  rules_counted = ap length carries.rules_are ∙ sym count_is

  pub few_slots : read_table.width ≤ slot_limit
  few_slots = omega (arith, width_is, file_is.few_slots)

  pub few_rules : read_table.count ≤ program_rule_limit
  few_rules = omega (arith, count_is, program_few text o file ((accepts_iff text file).1 carries.is_file))

  -- No stratum is above the number of rules.
  pub strata_low : (i : ℕ) → i < read_table.count → stratum_at read_table (suc i) ≤ program_rule_limit
  strata_low i h =
      let n : Numbered (length file.rules) (suc i) = record { first = omega arith; last = omega (arith, h, count_is) } in
      omega (arith, carries.strata_are (suc i) n, least_top weak file.rules carries.no_circle (suc i) n, count_is, few_rules)

  -- The names that it shows.
  named : (i : ℕ) → i < length file.slots → WellNamed (get_or file.slots i no_slot)
  named i h = each_at WellNamed file.slots i no_slot (file_formed text file carries.is_file) h

  pub slot_short : (s : ℕ) → length (show_slot text read_table s).part ≤ name_limit
  slot_short s = rw (carries.slots_shown s) (slot_le file.slots s named)

  pub value_short : (s v : ℕ) → length (show_value text read_table s v).part ≤ name_limit
  value_short s v = rw (carries.values_shown s v) (value_le file.slots s v named)

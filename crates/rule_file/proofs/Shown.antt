-- The names that a file's table shows are those that the file declares.
-- Assumes nothing.
use Prim.Native.Nat.{ℕ, ◌-◌, ◌<◌}
use native.Mathlib.Omega.{arith}
use mathlib.Core.Path.{◌≡◌, refl, ap, ◌∙◌}
use mathlib.Core.Bool.{Bool, true, false, cond}
use mathlib.Core.List.{List}
use lib.ListN.{length, get_or}
use Rattle.laws.specs.Listed.{Each}
use Rattle.laws.proofs.Listed.{each_at}
use Rattle.text.specs.Tokens.{Name}
use Rattle.text.specs.Cut.{Stands}
use Rattle.grammar.specs.Files as files
use Rattle.grammar.specs.Files.{File, values_of}
use Rattle.grammar.specs.Standing.{NamedBy, SlotsStand}
use Rattle.table.specs.declared.Slot.{Slot}
use Rattle.laws.specs.Limits.{slot_limit, value_limit}
use Rattle.table.specs.Zero.{zero_name, zero_slot}
use Rattle.table.specs.Empty.{unused_slot}
use Rattle.names.specs.Names.{not_shown, has_slot, has_value, show_name, show_slot, show_value_of, show_value}
use Rattle.names.proofs.Names.{slot_inside, value_inside, name_inside}
use Rattle.grammar.specs.TableFor.{name_for, slot_for, table_for}
use Rattle.rule_file.specs.Carries.{declared, declared_slot, declared_value}
use Rattle.rule_file.proofs.FileTable.{image_at}

module _ (text : List ℕ) (f : File) (stands : SlotsStand text f.slots) where
  name_shown : (n : Name) → Stands text n → show_name text (name_for n) ≡ declared n
  name_shown n h = name_inside text (name_for n) h.inside ∙ ap (λ (l : List ℕ). record { code = 0; start = n.start; part = l }) h.there

  slot_here : (s : ℕ) → s < length f.slots → get_or (table_for f).slots s zero_slot ≡ slot_for (get_or f.slots s files.no_slot)
  unfolding table_for
  slot_here s h = image_at slot_limit unused_slot zero_slot slot_for f.slots s files.no_slot h

  names_here : (s : ℕ) → s < length f.slots → NamedBy (Stands text) (get_or f.slots s files.no_slot)
  names_here s h = each_at (NamedBy (Stands text)) f.slots s files.no_slot stands h

  -- The name of each slot.
  pub slots_show : (s : ℕ) → show_slot text (table_for f) s ≡ declared_slot f.slots s
  unfolding show_slot table_for
  slots_show s = go (has_slot (length f.slots) s) refl
    where
      go : (b : Bool) → has_slot (length f.slots) s ≡ b
          → cond b (show_name text (get_or (table_for f).slots s zero_slot).name) not_shown ≡ cond b (declared (get_or f.slots s files.no_slot).name) not_shown
      go true e =
          let h = (slot_inside (length f.slots) s e).1 in
          ap (λ (t : Slot). show_name text t.name) (slot_here s h) ∙ name_shown (get_or f.slots s files.no_slot).name (names_here s h).0
      go false e = refl

  value_here : (ns : List Name) (v : ℕ) → Each (Stands text) ns → has_value (length ns) v ≡ true
      → show_name text (get_or (slot_for (record { name = (files.no_slot).name; values = ns })).values (v - 1) zero_name) ≡ declared (get_or ns (v - 1) (files.no_slot).name)
  value_here ns v h e =
      let i = value_inside (length ns) v e in
      let l : v - 1 < length ns = omega (arith, i.0, i.1.1) in
      ap (show_name text) (image_at value_limit zero_name zero_name name_for ns (v - 1) (files.no_slot).name l)
      ∙ name_shown (get_or ns (v - 1) (files.no_slot).name) (each_at (Stands text) ns (v - 1) (files.no_slot).name h l)

  -- The name of each value.
  pub values_show : (s v : ℕ) → show_value text (table_for f) s v ≡ declared_value f.slots s v
  unfolding show_value show_value_of table_for
  values_show s v = go (has_slot (length f.slots) s) refl
    where
      within : (ns : List Name) (b : Bool) → has_value (length ns) v ≡ b → Each (Stands text) ns
          → cond b (show_name text (get_or (slot_for (record { name = (files.no_slot).name; values = ns })).values (v - 1) zero_name)) not_shown
          ≡ cond b (declared (get_or ns (v - 1) (files.no_slot).name)) not_shown
      within ns true e h = value_here ns v h e
      within ns false e h = refl

      go : (b : Bool) → has_slot (length f.slots) s ≡ b
          → cond b (show_value_of text (get_or (table_for f).slots s zero_slot) v) not_shown
          ≡ cond b (cond (has_value (length (values_of f.slots s)) v) (declared (get_or (values_of f.slots s) (v - 1) (files.no_slot).name)) not_shown) not_shown
      go true e =
          let h = (slot_inside (length f.slots) s e).1 in
          ap (λ (t : Slot). show_value_of text t v) (slot_here s h)
          ∙ within (values_of f.slots s) (has_value (length (values_of f.slots s)) v) refl (names_here s h).1
      go false e = refl

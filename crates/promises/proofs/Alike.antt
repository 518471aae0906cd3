-- Two accepted texts are alike to a caller exactly where their files agree.
-- Assumes nothing.
use Prim.Native.Nat.{ℕ, suc, ◌-◌, ◌≤◌, ◌<◌}
use native.Mathlib.Omega.{arith}
use mathlib.Core.Path.{◌≡◌, refl, sym, ap, ap₂, ◌∙◌}
use mathlib.Core.Bool.{Bool, true, false, cond}
use mathlib.Core.List.{List, [], ◌∷◌, map, head-eq_of_cons-eq, tail-eq_of_cons-eq}
use lib.ListN.{length, get_or, length-map, get_or-map}
use lib.Seq.{ext_get_or}
use Rattle.text.specs.Tokens.{Name}
use Rattle.model.specs.Rules.{Rule}
use Rattle.model.specs.Strata.{weak}
use Rattle.model.specs.Least.{strata_of}
use Rattle.table.specs.declared.Table.{Table}
use Rattle.laws.specs.Limits.{value_limit}
use Rattle.table.specs.Link.{used_rules, rules_of, carried_strata, stratum_at}
use Rattle.names.specs.Names.{Showing, not_shown, unplaced, has_slot, has_value}
use Rattle.grammar.specs.Files.{Slot, File, spellings, no_slot, values_of, slot_counts}
use Rattle.style.specs.Printed.{lettered, Agree}
use Rattle.style.proofs.Prints.{agree_counts}
use Rattle.rule_file.specs.Whole.{reading}
use Rattle.rule_file.specs.Carries.{declared, declared_slot, declared_value, Carries}
use Rattle.grammar.proofs.Declared.{DeclaredFile, file_declared}
use Rattle.promises.proofs.Shown.{slot_told, value_told}
use Rattle.promises.specs.HouseStyle.{Alike}
use Rattle.promises.proofs.Bounds.{few_values}

-- The bytes of names, each at its place.
letters_at : (ns : List Name) (i : ℕ) → get_or (spellings ns) i [] ≡ (get_or ns i no_slot.name).letters
letters_at ns i = get_or-map (λ (m : Name). m.letters) ns i no_slot.name

spellings_length : (ns : List Name) → length (spellings ns) ≡ length ns
spellings_length ns = length-map ns (λ (m : Name). m.letters)

-- A name shown by its letters.
abbrev lettering : List ℕ → Showing
lettering l = record { code = 0; start = 0; part = l }

unplaced_if : (b : Bool) (x : Showing) → unplaced (cond b x not_shown) ≡ cond b (unplaced x) not_shown
unplaced_if true x = refl
unplaced_if false x = refl

module _ (ss ss' : List Slot) (e : map lettered ss ≡ map lettered ss') where
  as_many : length ss ≡ length ss'
  as_many = sym (length-map ss lettered) ∙ ap length e ∙ length-map ss' lettered

  lettered_at : (s : ℕ) → lettered (get_or ss s no_slot) ≡ lettered (get_or ss' s no_slot)
  lettered_at s = sym (get_or-map lettered ss s no_slot) ∙ ap (λ (ls : List (List (List ℕ))). get_or ls s (lettered no_slot)) e ∙ get_or-map lettered ss' s no_slot

  -- Slots with the same letters are declared alike,
  slots_alike : (s : ℕ) → unplaced (declared_slot ss s) ≡ unplaced (declared_slot ss' s)
  slots_alike s =
      unplaced_if (has_slot (length ss) s) _ ∙ ap₂ (λ (n : ℕ) (l : List ℕ). cond (has_slot n s) (lettering l) not_shown) as_many (head-eq_of_cons-eq (lettered_at s))
      ∙ sym (unplaced_if (has_slot (length ss') s) _)

  -- and so are their values.
  values_alike : (s v : ℕ) → unplaced (declared_value ss s v) ≡ unplaced (declared_value ss' s v)
  values_alike s v =
      unplaced_if (has_slot (length ss) s) _
      ∙ ap₂ (λ (n : ℕ) (x : Showing). cond (has_slot n s) x not_shown) as_many (by_letters (values_of ss s) ∙ ap shown (tail-eq_of_cons-eq (lettered_at s)) ∙ sym (by_letters (values_of ss' s)))
      ∙ sym (unplaced_if (has_slot (length ss') s) _)
    where
      shown : List (List ℕ) → Showing
      shown ls = cond (has_value (length ls) v) (lettering (get_or ls (v - 1) [])) not_shown

      by_letters : (ns : List Name) → unplaced (cond (has_value (length ns) v) (declared (get_or ns (v - 1) no_slot.name)) not_shown) ≡ shown (spellings ns)
      by_letters ns = unplaced_if (has_value (length ns) v) _ ∙ ap₂ (λ (n : ℕ) (l : List ℕ). cond (has_value n v) (lettering l) not_shown) (sym (spellings_length ns)) (sym (letters_at ns (v - 1)))

-- The strata that a table carries are the least, rule by rule.
strata_at : (text : List ℕ) (t : Table) (c : Carries text t) (i : ℕ) → i < length c.file.rules → get_or (carried_strata t) i 0 ≡ strata_of weak c.file.rules (suc i)
unfolding stratum_at
strata_at text t c i h = c.strata_are (suc i) (record { first = omega arith; last = omega arith })

as_many_strata : (text : List ℕ) (t : Table) (c : Carries text t) → length (carried_strata t) ≡ length c.file.rules
unfolding carried_strata rules_of
as_many_strata text t c = rw (length-map) (sym (length-map (used_rules t) _) ∙ ap length c.rules_are)

module _ (text text' : List ℕ) (c : Carries text (reading text).table) (c' : Carries text' (reading text').table) where
  abbrev f : File
  f = c.file

  abbrev g : File
  g = c'.file

  -- Files that agree make their texts alike.
  pub agree_alike : Agree f g → Alike text text'
  agree_alike a = record {
    same_counts = c.counts_are ∙ agree_counts f g a ∙ sym c'.counts_are;
    same_slots = λ s. ap unplaced (c.slots_shown s) ∙ slots_alike f.slots g.slots a.same_slots s ∙ sym (ap unplaced (c'.slots_shown s));
    same_values = λ s v. ap unplaced (c.values_shown s v) ∙ values_alike f.slots g.slots a.same_slots s v ∙ sym (ap unplaced (c'.values_shown s v));
    same_rules = c.rules_are ∙ a.same_rules ∙ sym c'.rules_are;
    same_strata = ext_get_or 0 (carried_strata (reading text).table) (carried_strata (reading text').table) as_many_rules each;
  }
    where
      counted : length f.rules ≡ length g.rules
      counted = ap length a.same_rules

      as_many_rules : length (carried_strata (reading text).table) ≡ length (carried_strata (reading text').table)
      as_many_rules = as_many_strata text _ c ∙ counted ∙ sym (as_many_strata text' _ c')

      each : (i : ℕ) → i < length (carried_strata (reading text).table) → get_or (carried_strata (reading text).table) i 0 ≡ get_or (carried_strata (reading text').table) i 0
      each i h =
          let k : i < length f.rules = omega (arith, h, as_many_strata text _ c) in
          strata_at text _ c i k ∙ ap (λ (rs : List Rule). strata_of weak rs (suc i)) a.same_rules ∙ sym (strata_at text' _ c' i (omega (arith, k, counted)))

  file_is : DeclaredFile f
  file_is = file_declared text f c.is_file

  file_is' : DeclaredFile g
  file_is' = file_declared text' g c'.is_file

  -- A slot of a file has no more values than the limit.
  most : (h : File) → DeclaredFile h → (s : ℕ) → length (values_of h.slots s) ≤ value_limit
  most h d s = let z = get_or-map (λ (x : Slot). length x.values) h.slots s no_slot in omega (arith, few_values h d s, z)

  -- Texts that are alike have files that agree.
  pub alike_agree : Alike text text' → Agree f g
  alike_agree a = record {
    same_slots = ext_get_or (lettered no_slot) (map lettered f.slots) (map lettered g.slots) (length-map f.slots lettered ∙ as_many_slots ∙ sym (length-map g.slots lettered)) each;
    same_rules = sym c.rules_are ∙ a.same_rules ∙ c'.rules_are;
  }
    where
      counts : slot_counts f.slots ≡ slot_counts g.slots
      counts = sym c.counts_are ∙ a.same_counts ∙ c'.counts_are

      as_many_slots : length f.slots ≡ length g.slots
      as_many_slots = sym (length-map f.slots _) ∙ ap length counts ∙ length-map g.slots _

      as_many_values : (s : ℕ) → length (values_of f.slots s) ≡ length (values_of g.slots s)
      as_many_values s =
          sym (get_or-map (λ (x : Slot). length x.values) f.slots s no_slot) ∙ ap (λ (ns : List ℕ). get_or ns s 0) counts
          ∙ get_or-map (λ (x : Slot). length x.values) g.slots s no_slot

      name_same : (s : ℕ) → s < length f.slots → (get_or f.slots s no_slot).name.letters ≡ (get_or g.slots s no_slot).name.letters
      name_same s h = ap (λ (x : Showing). x.part)
          (ap unplaced (sym (slot_told f.slots s file_is.few_slots h) ∙ sym (c.slots_shown s)) ∙ a.same_slots s
          ∙ ap unplaced (c'.slots_shown s ∙ slot_told g.slots s file_is'.few_slots (omega (arith, h, as_many_slots))))

      value_same : (s i : ℕ) → s < length f.slots → i < length (values_of f.slots s) → (get_or (values_of f.slots s) i no_slot.name).letters ≡ (get_or (values_of g.slots s) i no_slot.name).letters
      value_same s i h l = ap (λ (x : Showing). x.part)
          (ap unplaced (sym (value_told f.slots s i file_is.few_slots h (most f file_is s) l) ∙ sym (c.values_shown s (suc i))) ∙ a.same_values s (suc i)
          ∙ ap unplaced (c'.values_shown s (suc i) ∙ value_told g.slots s i file_is'.few_slots (omega (arith, h, as_many_slots)) (most g file_is' s) (omega (arith, l, as_many_values s))))

      values_same : (s : ℕ) → s < length f.slots → spellings (values_of f.slots s) ≡ spellings (values_of g.slots s)
      values_same s h =
          ext_get_or [] (spellings (values_of f.slots s)) (spellings (values_of g.slots s)) (spellings_length (values_of f.slots s) ∙ as_many_values s ∙ sym (spellings_length (values_of g.slots s)))
          (λ i l. letters_at (values_of f.slots s) i ∙ value_same s i h (omega (arith, l, spellings_length (values_of f.slots s))) ∙ sym (letters_at (values_of g.slots s) i))

      each : (s : ℕ) → s < length (map lettered f.slots) → get_or (map lettered f.slots) s (lettered no_slot) ≡ get_or (map lettered g.slots) s (lettered no_slot)
      each s h =
          let k : s < length f.slots = omega (arith, h, length-map f.slots lettered) in
          get_or-map lettered f.slots s no_slot ∙ ap₂ (λ (n : List ℕ) (vs : List (List ℕ)). n ∷ vs) (name_same s k) (values_same s k) ∙ sym (get_or-map lettered g.slots s no_slot)

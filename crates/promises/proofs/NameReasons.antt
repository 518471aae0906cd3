-- A name is shown, or refused with 31 for its reason.
-- Assumes nothing.
use Prim.Native.Nat.{ℕ, ◌+◌, ◌≤◌, ◌<◌}
use native.Mathlib.Omega.{arith}
use mathlib.Core.Path.{◌≡◌, refl, ◌∙◌}
use mathlib.Core.Bool.{Bool, true, false}
use mathlib.Core.List.{List}
use mathlib.Core.Logic.{◌⊎◌, inl, inr, ⊎_elim}
use lib.Dec.{leb, ltb}
use lib.ListN.{length}
use borrow.Author.Tests.{leb-false, ltb-false}
use Rattle.laws.specs.Limits.{slot_limit, value_limit}
use Rattle.laws.specs.Truth.{◌∧ᵇ◌}
use Rattle.laws.proofs.Truth.{le_or_lt}
use Rattle.table.specs.declared.Name.{Name}
use Rattle.table.specs.declared.Table.{Table}
use Rattle.names.specs.Names.{not_shown, has_slot, has_value, show_name, show_slot, show_value}
use Rattle.names.proofs.Names.{slot_inside, value_inside, name_inside, name_outside, slot_shown, slot_lacking, value_shown, value_lacking, value_of_shown, value_of_lacking}
use Rattle.promises.specs.Reasons.{HasSlot, HasValue, slot_at, value_name_at, ShownInside, SlotNameReason, lacks_slot, slot_outside, ValueNameReason, lacks_its_slot, lacks_value, value_outside}

-- What a test of both says where it fails.
either_fails : (a b : Bool) → (a ∧ᵇ b) ≡ false → (a ≡ false) ⊎ (b ≡ false)
unfolding ◌∧ᵇ◌
either_fails true b e = inr e
either_fails false b e = inl refl

slot_lacked : (width slot : ℕ) → has_slot width slot ≡ false → (slot_limit ≤ slot) ⊎ (width ≤ slot)
unfolding has_slot
slot_lacked width slot e = ⊎_elim (λ q. inl (ltb-false slot slot_limit q)) (λ q. inr (ltb-false slot width q)) (either_fails (ltb slot slot_limit) (ltb slot width) e)

value_lacked : (count value : ℕ) → has_value count value ≡ false → (value ≡ 0) ⊎ ((value_limit < value) ⊎ (count < value))
unfolding has_value
value_lacked count value e =
    ⊎_elim (λ q. ⊎_elim (λ r. inl (let l = leb-false 1 value r in omega (arith, l))) (λ r. inr (inl (leb-false value value_limit r))) (either_fails (leb 1 value) (leb value value_limit) q))
    (λ q. inr (inr (leb-false value count q))) (either_fails (leb 1 value ∧ᵇ leb value value_limit) (leb value count) e)

-- A name lies inside the text and is shown, or outside.
stretch_shown : (text : List ℕ) (n : Name) → ShownInside text n (show_name text n) ⊎ ((length text < n.start + n.size) × (show_name text n ≡ not_shown))
stretch_shown text n = ⊎_elim (λ h. inl (record { inside = h; shown = name_inside text n h })) (λ h. inr (h, name_outside text n h)) (le_or_lt (n.start + n.size) (length text))

pub slot_name_shown : (text : List ℕ) (t : Table) (slot : ℕ) → (HasSlot t slot × ShownInside text (slot_at t slot).name (show_slot text t slot)) ⊎ (SlotNameReason text t slot × (show_slot text t slot ≡ not_shown))
slot_name_shown text t slot = go (has_slot t.width slot) refl
  where
    go : (b : Bool) → has_slot t.width slot ≡ b → (HasSlot t slot × ShownInside text (slot_at t slot).name (show_slot text t slot)) ⊎ (SlotNameReason text t slot × (show_slot text t slot ≡ not_shown))
    go true e =
        let has = slot_inside t.width slot e in
        let same = slot_shown text t slot e in
        ⊎_elim (λ h. inl (has, record { inside = h.inside; shown = same ∙ h.shown })) (λ h. inr (slot_outside has h.0, same ∙ h.1)) (stretch_shown text (slot_at t slot).name)
    go false e = inr (lacks_slot (slot_lacked t.width slot e), slot_lacking text t slot e)

pub value_name_shown : (text : List ℕ) (t : Table) (slot value : ℕ)
    → (HasSlot t slot × HasValue (slot_at t slot) value × ShownInside text (value_name_at (slot_at t slot) value) (show_value text t slot value)) ⊎ (ValueNameReason text t slot value × (show_value text t slot value ≡ not_shown))
value_name_shown text t slot value = go (has_slot t.width slot) refl (has_value (slot_at t slot).count value) refl
  where
    go : (b : Bool) → has_slot t.width slot ≡ b → (c : Bool) → has_value (slot_at t slot).count value ≡ c
        → (HasSlot t slot × HasValue (slot_at t slot) value × ShownInside text (value_name_at (slot_at t slot) value) (show_value text t slot value)) ⊎ (ValueNameReason text t slot value × (show_value text t slot value ≡ not_shown))
    go true e true d =
        let has = slot_inside t.width slot e in
        let v = value_inside (slot_at t slot).count value d in
        let same = value_shown text t slot value e ∙ value_of_shown text (slot_at t slot) value d in
        ⊎_elim (λ h. inl (has, (v.0, v.1.0, v.1.1), record { inside = h.inside; shown = same ∙ h.shown })) (λ h. inr (value_outside has (v.0, v.1.0, v.1.1) h.0, same ∙ h.1))
        (stretch_shown text (value_name_at (slot_at t slot) value))
    go true e false d = inr (lacks_value (slot_inside t.width slot e) (value_lacked (slot_at t slot).count value d), value_shown text t slot value e ∙ value_of_lacking text (slot_at t slot) value d)
    go false e c d = inr (lacks_its_slot (slot_lacked t.width slot e), value_lacking text t slot value e)

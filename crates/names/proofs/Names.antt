-- The tests by which a name is found.
-- Assumes nothing.
use mathlib.Core.Path.{◌≡◌, sym, ap, ◌∙◌}
use mathlib.Core.Bool.{true, false}
use mathlib.Core.List.{List, []}
use Prim.Native.Nat.{ℕ, ◌+◌, ◌-◌, ◌≤◌, ◌<◌}
use native.Mathlib.Nat.{add_comm}
use lib.Dec.{leb, ltb, leb→le, ltb→lt}
use lib.ListN.{length, take, drop, get_or}
use borrow.Author.Tests.{le-leb, lt-leb}
use Rattle.std.specs.Prelude.{Option, Some, None}
use Rattle.std.specs.Option.{unwrap_or}
use Rattle.std.specs.Borrow.{Bor}
use Rattle.laws.specs.Truth.{◌∧ᵇ◌}
use Rattle.laws.proofs.Truth.{and_l, and_r}
use Rattle.laws.proofs.Equations.{from_true}
use Rattle.table.specs.declared.Name.{Name}
use Rattle.table.specs.declared.Slot.{Slot}
use Rattle.table.specs.declared.Table.{Table}
use Rattle.laws.specs.Limits.{slot_limit, value_limit}
use Rattle.table.specs.Zero.{zero_name, zero_slot}
use Rattle.names.specs.Names.{Showing, not_shown, IsShown, has_slot, has_value, show_name, show_slot, show_value_of, show_value}

pub slot_inside : (width slot : ℕ) → has_slot width slot ≡ true → (slot < slot_limit) × (slot < width)
unfolding has_slot
slot_inside width slot e =
    let t = from_true (ltb slot slot_limit ∧ᵇ ltb slot width) e in
    (ltb→lt slot slot_limit (and_l (ltb slot slot_limit) _ t), ltb→lt slot width (and_r (ltb slot slot_limit) (ltb slot width) t))

pub value_inside : (count value : ℕ) → has_value count value ≡ true → (1 ≤ value) × ((value ≤ value_limit) × (value ≤ count))
unfolding has_value
value_inside count value e =
    let t = from_true (leb 1 value ∧ᵇ leb value value_limit ∧ᵇ leb value count) e in
    let l = and_l (leb 1 value ∧ᵇ leb value value_limit) (leb value count) t in
    (leb→le 1 value (and_l (leb 1 value) (leb value value_limit) l), (leb→le value value_limit (and_r (leb 1 value) (leb value value_limit) l), leb→le value count (and_r (leb 1 value ∧ᵇ leb value value_limit) (leb value count) t)))

pub name_inside : (text : List ℕ) (n : Name) → n.start + n.size ≤ length text → show_name text n ≡ record { code = 0; start = n.start; part = take n.size (drop n.start text) }
unfolding show_name
name_inside text n h = rw (le-leb (n.start + n.size) (length text) h)

pub name_outside : (text : List ℕ) (n : Name) → length text < n.start + n.size → show_name text n ≡ not_shown
unfolding show_name
name_outside text n h = rw (lt-leb (n.start + n.size) (length text) h)

pub slot_shown : (text : List ℕ) (t : Table) (slot : ℕ) → has_slot t.width slot ≡ true → show_slot text t slot ≡ show_name text (get_or t.slots slot zero_slot).name
unfolding show_slot
slot_shown text t slot e = rw e

pub slot_lacking : (text : List ℕ) (t : Table) (slot : ℕ) → has_slot t.width slot ≡ false → show_slot text t slot ≡ not_shown
unfolding show_slot
slot_lacking text t slot e = rw e

pub value_of_shown : (text : List ℕ) (s : Slot) (value : ℕ) → has_value s.count value ≡ true → show_value_of text s value ≡ show_name text (get_or s.values (value - 1) zero_name)
unfolding show_value_of
value_of_shown text s value e = rw e

pub value_of_lacking : (text : List ℕ) (s : Slot) (value : ℕ) → has_value s.count value ≡ false → show_value_of text s value ≡ not_shown
unfolding show_value_of
value_of_lacking text s value e = rw e

pub value_shown : (text : List ℕ) (t : Table) (slot value : ℕ) → has_slot t.width slot ≡ true → show_value text t slot value ≡ show_value_of text (get_or t.slots slot zero_slot) value
unfolding show_value
value_shown text t slot value e = rw e

pub value_lacking : (text : List ℕ) (t : Table) (slot value : ℕ) → has_slot t.width slot ≡ false → show_value text t slot value ≡ not_shown
unfolding show_value
value_lacking text t slot value e = rw e

-- A part lies as far from the beginning of its text as it begins.
pub begins_at : (text : ℕ × ℕ) (start : ℕ) → ◌≡◌ {A = ℕ × ℕ} (text.0, start + text.1) (text.0, text.1 + start)
begins_at text start = ap (λ (o : ℕ). (text.0, o)) (add_comm start text.1)

-- What is shown, and nothing in its place where nothing is.
pub shown_part : (text : ℕ × ℕ) (s : Showing) (o : Option (Bor (List ℕ))) (d r : Bor (List ℕ)) → r ≡ unwrap_or o d → d.now ≡ [] → IsShown text s o → r.now ≡ s.part
shown_part text s None d r e z h = ap (λ (b : Bor (List ℕ)). b.now) e ∙ z ∙ sym (ap (λ (x : Showing). x.part) h)
shown_part text s (Some part) d r e z h = ap (λ (b : Bor (List ℕ)). b.now) e ∙ h.1.0

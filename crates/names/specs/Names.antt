-- Document 01, 'Rule text': a name is shown as the very stretch of text where it was declared; 31 where the table lacks the slot or value asked for or puts its name outside the text.
-- A table has the slots and values that its numbers count, and at most the limits: a number above the limit gives it no more.
use Rattle.std.specs.Borrow.{Bor}
use Rattle.std.specs.Prelude.{Bool, cond, List, [], Option, MatchOption, ◌≡◌, ℕ, ◌+◌, ◌-◌, leb, ltb, length, take, drop, get_or}
use Rattle.laws.specs.Truth.{◌∧ᵇ◌}
use Rattle.table.specs.declared.Name.{Name}
use Rattle.table.specs.declared.Slot.{Slot}
use Rattle.table.specs.declared.Table.{Table}
use Rattle.laws.specs.Limits.{slot_limit, value_limit}
use Rattle.table.specs.Zero.{zero_name, zero_slot}

-- An answer: 0, where a part of the text begins, and that part; or a refusal's number and an empty part at the beginning.
pub record Showing : Type 0 where
  pub code : ℕ
  pub start : ℕ
  pub part : List ℕ

-- Refusal 31.
abbrev pub not_shown : Showing
not_shown = record { code = 31; start = 0; part = [] }

-- A showing with the place of its part left aside.
abbrev pub unplaced : Showing → Showing
unplaced s = record { code = s.code; start = 0; part = s.part }

-- A part lies in a text where its showing says: in the same block of memory, as far from the text's first byte as it begins.
abbrev pub part_place : ℕ × ℕ → Showing → ℕ × ℕ
part_place text s = (text.0, text.1 + s.start)

-- What shows a name of a text that lies at `text`: the very part that the showing says, at its place; or nothing, where the showing is refusal 31.
abbrev pub IsShown : ℕ × ℕ → Showing → Option (Bor (List ℕ)) → Type 0
IsShown text s shown = MatchOption shown (s ≡ not_shown) (λ part. (s.code ≡ 0) × ((part.now ≡ s.part) × (part.ref_ptr ≡ part_place text s)))

-- A name: the stretch of text from its start, as long as its size.
unfoldable pub show_name : List ℕ → Name → Showing
show_name text n = cond (leb (n.start + n.size) (length text)) (record { code = 0; start = n.start; part = take n.size (drop n.start text) }) not_shown

-- A table with so many slots has this one.
unfoldable pub has_slot : ℕ → ℕ → Bool
has_slot width slot = ltb slot slot_limit ∧ᵇ ltb slot width

-- A slot with so many declared values has this one; they count from 1, and NONE, value 0, is none of them.
unfoldable pub has_value : ℕ → ℕ → Bool
has_value count value = leb 1 value ∧ᵇ leb value value_limit ∧ᵇ leb value count

-- The name of a slot.
unfoldable pub show_slot : List ℕ → Table → ℕ → Showing
show_slot text t slot = cond (has_slot t.width slot) (show_name text (get_or t.slots slot zero_slot).name) not_shown

-- The name of a value of a slot that the table has.
unfoldable pub show_value_of : List ℕ → Slot → ℕ → Showing
show_value_of text s value = cond (has_value s.count value) (show_name text (get_or s.values (value - 1) zero_name)) not_shown

-- The name of a value.
unfoldable pub show_value : List ℕ → Table → ℕ → ℕ → Showing
show_value text t slot value = cond (has_slot t.width slot) (show_value_of text (get_or t.slots slot zero_slot) value) not_shown

-- Cases of document 01, by evaluation: three slots of two values each.
-- Assumes nothing.
use mathlib.Core.Path.{◌≡◌, refl}
use mathlib.Core.List.{List, [], ◌∷◌}
use Prim.Native.Nat.{ℕ}
use Rattle.laws.specs.Words.{bit}
use Rattle.laws.specs.Tabulated.{tabulate}
use Rattle.laws.specs.Packed.{bits, number_of, field_bits, byte_bits, byte_at, pack, pack_fields, field_at}
use Rattle.model.specs.Result.{pair}
use Rattle.laws.specs.Answers.{taken, refused, after}
use Rattle.cards.specs.Forms.{card_fields, change_fields, slip_fields, card_bytes, slip_bytes, values_in, changes_in, values_test, card_test, change_fault, changes_test, read_card, read_slip}

-- The slots x, y and z, with the values 0 and 1.
unfoldable pub counts : List ℕ
counts = 2 ∷ 2 ∷ 2 ∷ []

-- K: card 0C 44 C0 is 22, slot 2.
pub case_k : read_card counts (0x0C ∷ 0x44 ∷ 0xC0 ∷ []) ≡ refused 22 2
unfolding counts read_card values_in card_test values_test after field_at byte_bits bits bit number_of tabulate
case_k = refl

-- L: card 0C 44 41 is 23.
pub case_l : read_card counts (0x0C ∷ 0x44 ∷ 0x41 ∷ []) ≡ refused 23 0
unfolding counts read_card values_in card_test values_test after field_at byte_bits bits bit number_of tabulate
case_l = refl

-- Card 0C 44 40 has all slots at the first value; it is packed to the same bytes.
pub card_taken : read_card counts (0x0C ∷ 0x44 ∷ 0x40 ∷ []) ≡ taken (1 ∷ 1 ∷ 1 ∷ [])
unfolding counts read_card values_in card_test values_test after field_at byte_bits bits bit number_of tabulate
card_taken = refl

pub card_packed : card_bytes (1 ∷ 1 ∷ 1 ∷ []) ≡ 0x0C ∷ 0x44 ∷ 0x40 ∷ []
unfolding card_bytes card_fields pack_fields field_bits pack byte_at bits bit number_of tabulate
card_packed = refl

-- Card 0C 44 is 20, and so is no card.
pub card_short : read_card counts (0x0C ∷ 0x44 ∷ []) ≡ refused 20 0
unfolding counts read_card field_at byte_bits bits bit number_of
card_short = refl

pub card_empty : read_card counts [] ≡ refused 20 0
unfolding counts read_card field_at byte_bits bits bit number_of
card_empty = refl

-- Slip 00 has no changes, slip 04 04 is x to 1.
pub slip_none : read_slip counts (0x00 ∷ []) ≡ taken []
unfolding counts read_slip changes_in changes_test after field_at byte_bits bits bit number_of tabulate
slip_none = refl

pub slip_x : read_slip counts (0x04 ∷ 0x04 ∷ []) ≡ taken (pair 0 2 ∷ [])
unfolding counts read_slip changes_in changes_test change_fault after field_at byte_bits bits bit number_of tabulate
slip_x = refl

-- Slip 04 00 withdraws x, and is packed to the same bytes; slip 04 06 is 27, for x has two values.
pub slip_withdraws : read_slip counts (0x04 ∷ 0x00 ∷ []) ≡ taken (pair 0 0 ∷ [])
unfolding counts read_slip changes_in changes_test change_fault after field_at byte_bits bits bit number_of tabulate
slip_withdraws = refl

pub withdrawal_packed : slip_bytes (pair 0 0 ∷ []) ≡ 0x04 ∷ 0x00 ∷ []
unfolding slip_bytes slip_fields change_fields pack_fields field_bits pack byte_at bits bit number_of tabulate
withdrawal_packed = refl

pub slip_above : read_slip counts (0x04 ∷ 0x06 ∷ []) ≡ refused 27 0
unfolding counts read_slip changes_in changes_test change_fault after field_at byte_bits bits bit number_of tabulate
slip_above = refl

-- The changes of case C: x, y and z to 1.
pub slip_packed : slip_bytes (pair 0 2 ∷ pair 1 2 ∷ pair 2 2 ∷ []) ≡ 0x0C ∷ 0x04 ∷ 0x12 ∷ 0x11 ∷ 0x00 ∷ []
unfolding slip_bytes slip_fields change_fields pack_fields field_bits pack byte_at bits bit number_of tabulate
slip_packed = refl

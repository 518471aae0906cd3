-- The answers of the entry points, test by test.
-- Assumes nothing.
use mathlib.Core.Path.{◌≡◌, refl}
use mathlib.Core.Bool.{true, false}
use mathlib.Core.List.{List, ◌++◌}
use Prim.Native.Nat.{ℕ, ◌≤◌, ◌<◌}
use lib.ListN.{length, drop}
use borrow.Author.Tests.{lt-ltb, le-ltb}
use Rattle.laws.specs.Limits.{slot_limit}
use Rattle.laws.specs.Packed.{byte_count}
use Rattle.table.specs.declared.Table.{Table}
use Rattle.table.specs.Link.{value_counts}
use Rattle.soundness.specs.Sound.{sound}
use Rattle.cards.specs.declared.Card.{Card}
use Rattle.cards.specs.declared.Slip.{Slip}
use Rattle.cards.specs.Packings as packing
use Rattle.laws.specs.Answers.{passed, fault, OrRefused, taken, refused, after, output_of}
use Rattle.cards.specs.Forms.{card_bits, slip_bits, card_bytes, slip_bytes, card_test, slip_test, read_card, read_slip, write_card, write_slip}
use Rattle.cards.specs.Cards.{card_values, changes_of, if_sound, unpacked_card, unpacked_slip, packed_card, packed_slip, packing_of}
use Rattle.cards.proofs.Formed.{card_length, slip_length}

-- What the code gives for a refusal, and for bytes that are written.
pub answer_refused : (u : OrRefused (List ℕ)) (k s : ℕ) (out : List ℕ) → u ≡ refused k s → (packing.Refused k s ≡ packing_of u) × (out ≡ output_of u out)
unfolding packing_of output_of
answer_refused u k s out e = rw e (refl, refl)

pub answer_taken : (u : OrRefused (List ℕ)) (ys first out : List ℕ) (n : ℕ) → u ≡ taken ys → n ≡ length ys → out ≡ ys ++ drop n first → (packing.Packed n ≡ packing_of u) × (out ≡ output_of u first)
unfolding packing_of output_of
answer_taken u ys first out n e l w = rw (e, ← l) (refl, w)

-- 31 before all else.
module _ {A : Type 0} (t : Table) (u : OrRefused A) where
  pub unsound : sound t ≡ false → if_sound t u ≡ refused 31 0
  unfolding if_sound
  unsound e = rw e

  pub when_sound : sound t ≡ true → if_sound t u ≡ u
  unfolding if_sound
  when_sound e = rw e

module _ (t : Table) (e : sound t ≡ true) where
  pub sound_card_read : (ys : List ℕ) → unpacked_card t ys ≡ read_card (value_counts t) ys
  unfolding unpacked_card
  sound_card_read ys = when_sound t _ e

  pub sound_slip_read : (ys : List ℕ) → unpacked_slip t ys ≡ read_slip (value_counts t) ys
  unfolding unpacked_slip
  sound_slip_read ys = when_sound t _ e

  pub sound_card : (c : Card) (room : ℕ) → packed_card t c room ≡ write_card (value_counts t) (card_values c) room
  unfolding packed_card
  sound_card c room = when_sound t _ e

  pub sound_slip : (s : Slip) (room : ℕ) → packed_slip t s room ≡ write_slip (value_counts t) (changes_of s) room
  unfolding packed_slip
  sound_slip s room = when_sound t _ e

-- Packing a card: a fault, no room, or its bytes.
module _ (counts : List ℕ) (c : Card) (room : ℕ) where
  pub card_faulty : (k s : ℕ) → card_test counts (card_values c) ≡ fault k s → write_card counts (card_values c) room ≡ refused k s
  unfolding write_card after
  card_faulty k s f = rw f

  pub card_without_room : card_test counts (card_values c) ≡ passed → room < byte_count (card_bits c.count) → write_card counts (card_values c) room ≡ refused 30 1
  unfolding write_card after
  card_without_room f h = rw (f, card_length c, lt-ltb room (byte_count (card_bits c.count)) h)

  pub card_with_room : card_test counts (card_values c) ≡ passed → byte_count (card_bits c.count) ≤ room → write_card counts (card_values c) room ≡ taken (card_bytes (card_values c))
  unfolding write_card after
  card_with_room f h = rw (f, card_length c, le-ltb room (byte_count (card_bits c.count)) h)

-- Packing a slip: too many changes, a fault, no room, or its bytes.
module _ (counts : List ℕ) (s : Slip) (room : ℕ) where
  pub slip_too_many : slot_limit < s.count → write_slip counts (changes_of s) room ≡ refused 24 0
  unfolding write_slip
  slip_too_many h = rw (slip_length s, lt-ltb slot_limit s.count h)

  module _ (l : s.count ≤ slot_limit) where
    pub slip_faulty : (k r : ℕ) → slip_test counts (changes_of s) ≡ fault k r → write_slip counts (changes_of s) room ≡ refused k r
    unfolding write_slip after
    slip_faulty k r f = rw (slip_length s, le-ltb slot_limit s.count l, f)

    pub slip_without_room : slip_test counts (changes_of s) ≡ passed → room < byte_count (slip_bits s.count) → write_slip counts (changes_of s) room ≡ refused 30 2
    unfolding write_slip after
    slip_without_room f h = rw (slip_length s, le-ltb slot_limit s.count l, f, lt-ltb room (byte_count (slip_bits s.count)) h)

    pub slip_with_room : slip_test counts (changes_of s) ≡ passed → byte_count (slip_bits s.count) ≤ room → write_slip counts (changes_of s) room ≡ taken (slip_bytes (changes_of s))
    unfolding write_slip after
    slip_with_room f h = rw (slip_length s, le-ltb slot_limit s.count l, f, le-ltb room (byte_count (slip_bits s.count)) h)

-- Document 01, 'Cards and slips' and refusals 20 to 28: the packed forms, and the tests, by how many values each slot has. A change to value 0, NONE, withdraws a slot's value (document 02, section 6).
use Rattle.std.specs.Prelude.{ℕ, suc, ◌+◌, ◌-◌, ◌*◌, cond, List, [], ◌∷◌, map, eqb, leb, ltb, length, get_or}
use Rattle.laws.specs.Limits.{slot_limit}
use Rattle.laws.specs.Tabulated.{tabulate}
use Rattle.laws.specs.Packed.{Field, field, byte_count, pack_fields, field_at}
use Rattle.model.specs.Rules.{Pair}
use Rattle.model.specs.Result.{pair}
use Rattle.laws.specs.Answers.{Verdict, passed, fault, OrRefused, taken, refused, after}

-- A card: 6 bits, the slot count; then for each slot a field of 4 bits, 0 for no value, k for the k-th declared value.
unfoldable pub card_fields : List ℕ → List Field
card_fields vs = field 6 (length vs) ∷ map (field 4) vs

-- A change: 5 bits slot and 4 bits value, 0 for NONE.
unfoldable pub change_fields : List Pair → List Field
change_fields [] = []
change_fields (p ∷ ps) = field 5 p.slot ∷ field 4 p.value ∷ change_fields ps

-- A slip: 6 bits, the count of changes; then the changes.
unfoldable pub slip_fields : List Pair → List Field
slip_fields ps = field 6 (length ps) ∷ change_fields ps

-- The bits of a card of n slots, and of a slip of m changes.
abbrev pub card_bits : ℕ → ℕ
card_bits n = 6 + 4 * n

abbrev pub slip_bits : ℕ → ℕ
slip_bits m = 6 + 9 * m

-- The bytes of a card and of a slip.
unfoldable pub card_bytes : List ℕ → List ℕ
card_bytes vs = pack_fields (card_fields vs)

unfoldable pub slip_bytes : List Pair → List ℕ
slip_bytes ps = pack_fields (slip_fields ps)

-- The count that bytes of a card or a slip have in their first six bits, 0 to 63.
abbrev pub count_in : List ℕ → ℕ
count_in ys = field_at ys 0 6

-- The values that bytes of a card have, as many as they count.
unfoldable pub values_in : List ℕ → List ℕ
values_in ys = tabulate (λ i. field_at ys (6 + 4 * i) 4) (count_in ys)

-- The changes that bytes of a slip have, as many as they count.
unfoldable pub changes_in : List ℕ → List Pair
changes_in ys = tabulate (λ j. pair (field_at ys (6 + 9 * j) 5) (field_at ys (11 + 9 * j) 4)) (count_in ys)

-- The number in the bits from place p to the end.
abbrev pub padding : List ℕ → ℕ → ℕ
padding ys p = field_at ys p (8 * length ys - p)

-- 22: the first value above its slot's last. Slots are counted from `at` on.
unfoldable pub values_test : ℕ → List ℕ → List ℕ → Verdict
values_test at [] vs = passed
values_test at (n ∷ ns) [] = passed
values_test at (n ∷ ns) (v ∷ vs) = cond (ltb n v) (fault 22 at) (values_test (suc at) ns vs)

-- 21, 22: the tests of a card's values.
unfoldable pub card_test : List ℕ → List ℕ → Verdict
card_test counts vs = cond (eqb (length vs) (length counts)) (values_test 0 counts vs) (fault 21 0)

-- The fault of a change, or 0: 25 slot not below the slot count; 26 slot below `low`, which is one above the slot before; 27 value above the slot's last.
unfoldable pub change_fault : List ℕ → ℕ → Pair → ℕ
change_fault counts low p =
    cond (leb (length counts) p.slot) 25 (cond (ltb p.slot low) 26 (cond (ltb (get_or counts p.slot 0) p.value) 27 0))

-- The first faulty change, with its position, counted from `at` on.
unfoldable pub changes_test : List ℕ → ℕ → ℕ → List Pair → Verdict
changes_test counts low at [] = passed
changes_test counts low at (p ∷ ps) =
    cond (eqb (change_fault counts low p) 0) (changes_test counts (suc p.slot) (suc at) ps) (fault (change_fault counts low p) at)

-- 25 to 27: the tests of a slip's changes.
abbrev pub slip_test : List ℕ → List Pair → Verdict
slip_test counts ps = changes_test counts 0 0 ps

-- Unpacking a card: 20 where its length is not that of its own count (so where it is empty, for that counts 0 and lacks its byte), 21, 22, and 23 where the padding is not zero.
unfoldable pub read_card : List ℕ → List ℕ → OrRefused (List ℕ)
read_card counts ys =
    cond (eqb (length ys) (byte_count (card_bits (count_in ys))))
    (after (card_test counts (values_in ys)) (cond (eqb (padding ys (card_bits (count_in ys))) 0) (taken (values_in ys)) (refused 23 0)))
    (refused 20 0)

-- Unpacking a slip: 24 as 20 for a card; the first faulty change by 25, 26, 27; and 28 where the padding is not zero.
unfoldable pub read_slip : List ℕ → List ℕ → OrRefused (List Pair)
read_slip counts ys =
    cond (eqb (length ys) (byte_count (slip_bits (count_in ys))))
    (after (slip_test counts (changes_in ys)) (cond (eqb (padding ys (slip_bits (count_in ys))) 0) (taken (changes_in ys)) (refused 28 0)))
    (refused 24 0)

-- Packing a card into so much room: 21, 22, and 30 with 1 where the room is under the packed length.
unfoldable pub write_card : List ℕ → List ℕ → ℕ → OrRefused (List ℕ)
write_card counts vs room = after (card_test counts vs) (cond (ltb room (byte_count (card_bits (length vs)))) (refused 30 1) (taken (card_bytes vs)))

-- Packing a slip: 24 where it has over 32 changes, 25 to 27, and 30 with 2.
unfoldable pub write_slip : List ℕ → List Pair → ℕ → OrRefused (List ℕ)
write_slip counts ps room =
    cond (ltb slot_limit (length ps)) (refused 24 0)
    (after (slip_test counts ps) (cond (ltb room (byte_count (slip_bits (length ps)))) (refused 30 2) (taken (slip_bytes ps))))

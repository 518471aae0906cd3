-- The round trips of the four entry points: what is unpacked is packed to the same bytes, what is packed is unpacked to the same form.
-- Assumes nothing.
use mathlib.Core.Path.{◌≡◌, refl, sym, ap, ◌∙◌}
use mathlib.Core.Bool.{Bool, true, false, cond}
use mathlib.Core.List.{List, [], ◌∷◌, map}
use Prim.Native.Nat.{ℕ, suc, ◌+◌, ◌-◌, ◌≤◌, ◌<◌}
use native.Mathlib.Omega.{arith}
use lib.Dec.{eqb, ltb}
use lib.ListN.{length, take, replicate, length-map, length-take, get_or-append, get_or-map}
use lib.Seq.{ext_get_or}
use borrow.Author.Tests.{ltb-false, eqb-true}
use Rattle.laws.specs.Filled.{filled}
use Rattle.laws.specs.Packed.{byte_count, Bytes}
use Rattle.model.specs.Rules.{Pair}
use Rattle.table.specs.declared.Slot.{Slot}
use Rattle.table.specs.declared.Table.{Table}
use Rattle.laws.specs.Limits.{slot_limit}
use Rattle.table.specs.inner.Shape.{Shaped}
use Rattle.table.specs.Link.{value_counts}
use Rattle.soundness.specs.Sound.{sound}
use Rattle.soundness.proofs.Sound.{sound_width}
use Rattle.cards.specs.declared.Card.{Card}
use Rattle.cards.specs.declared.Slip.{Slip}
use Rattle.laws.specs.Answers.{Verdict, passed, fault, OrRefused, taken, refused, after}
use Rattle.cards.specs.Forms.{card_bits, slip_bits, card_bytes, slip_bytes, card_test, change_fault, changes_test, slip_test, read_card, read_slip, write_card, write_slip}
use Rattle.cards.specs.Cards.{card_values, card_of, changes_of, slip_of, pair_of, change_of, no_change, if_sound, unpacked_card, unpacked_slip, packed_card, packed_slip}
use Rattle.cards.proofs.Formed.{card_length, card_at, slip_length, slip_at}
use Rattle.cards.proofs.Tested.{no_pair, change_right}
use Rattle.cards.proofs.Passed.{sound_slots}
use Rattle.cards.proofs.Written.{card_bytes_length, slip_bytes_length}
use Rattle.cards.proofs.Answered.{card_with_room, slip_with_room, sound_card_read, sound_slip_read, sound_card, sound_slip}
use Rattle.cards.proofs.RoundTrip.{card_accepted, slip_accepted, card_packs_back, slip_packs_back, card_reads_back, slip_reads_back}

-- The form that the code hands out for some values has just those values, and so with changes.
pub card_of_values : (vs : List ℕ) → card_values (card_of vs) ≡ vs
unfolding card_of filled
card_of_values vs =
    ext_get_or 0 (card_values (card_of vs)) vs (card_length (card_of vs))
    (λ i h. let k : i < length vs = omega (arith, card_length (card_of vs)) in
    card_at (card_of vs) i k ∙ get_or-append vs (replicate (slot_limit - length vs) 0) 0 i k)

pub slip_of_changes : (ps : List Pair) → changes_of (slip_of ps) ≡ ps
unfolding slip_of filled
slip_of_changes ps =
    ext_get_or no_pair (changes_of (slip_of ps)) ps (slip_length (slip_of ps))
    (λ j h. let k : j < length ps = omega (arith, slip_length (slip_of ps)) in
    let l : j < length (map change_of ps) = rw length-map k in
    slip_at (slip_of ps) j k
    ∙ ap (λ x. pair_of x) (get_or-append (map change_of ps) (replicate (slot_limit - length (map change_of ps)) no_change) no_change j l ∙ get_or-map change_of ps j no_pair))

-- Only a sound table lets pass.
is_sound : {A : Type 0} (t : Table) (u : OrRefused A) (x : A) → if_sound t u ≡ taken x → sound t ≡ true
unfolding if_sound
is_sound {A} t u x e = go (sound t) refl e
  where
    go : (b : Bool) → sound t ≡ b → cond b u (refused 31 0) ≡ taken x → sound t ≡ true
    go true d e = d
    go false d e = absurd (let z : ◌≡◌ {A = ℕ} 0 1 = cc in omega arith)

-- Changes that pass are no more than the slots, for their slots rise.
few_from : (counts : List ℕ) (low at : ℕ) (ps : List Pair) → changes_test counts low at ps ≡ passed → low ≤ length counts → length ps + low ≤ length counts
unfolding changes_test
few_from counts low at [] e h = omega arith
few_from counts low at (p ∷ ps) e h = go (few_from counts (suc p.slot) (suc at) ps) (eqb (change_fault counts low p) 0) refl e
  where
    go : (changes_test counts (suc p.slot) (suc at) ps ≡ passed → suc p.slot ≤ length counts → length ps + suc p.slot ≤ length counts) → (b : Bool) → eqb (change_fault counts low p) 0 ≡ b
        → cond b (changes_test counts (suc p.slot) (suc at) ps) (fault (change_fault counts low p) at) ≡ passed → length (p ∷ ps) + low ≤ length counts
    go rest true d e = let r = change_right counts low p (eqb-true (change_fault counts low p) 0 d) in omega (arith, rest e r.below, r.above)
    go rest false d e = absurd (let z : ◌≡◌ {A = ℕ} 0 1 = cc in omega arith)

slip_few : (counts : List ℕ) (ps : List Pair) → slip_test counts ps ≡ passed → length ps ≤ length counts
slip_few counts ps e = omega (arith, few_from counts 0 0 ps e (omega arith))

-- What is packed passed the tests and is the bytes of the form.
written : (test : Verdict) (short : Bool) (k s : ℕ) (bytes ys : List ℕ) → after test (cond short (refused k s) (taken bytes)) ≡ taken ys → (test ≡ passed) × (bytes ≡ ys)
unfolding after
written (fault j r) short k s bytes ys e = absurd (let z : ◌≡◌ {A = ℕ} 0 1 = cc in omega arith)
written passed true k s bytes ys e = absurd (let z : ◌≡◌ {A = ℕ} 0 1 = cc in omega arith)
written passed false k s bytes ys e = (refl, (let z : bytes ≡ ys = cc in z))

card_written : (counts vs : List ℕ) (room : ℕ) (ys : List ℕ) → write_card counts vs room ≡ taken ys → (card_test counts vs ≡ passed) × (card_bytes vs ≡ ys)
unfolding write_card
card_written counts vs room ys e = written (card_test counts vs) (ltb room (byte_count (card_bits (length vs)))) 30 1 (card_bytes vs) ys e

slip_written : (counts : List ℕ) (ps : List Pair) (room : ℕ) (ys : List ℕ) → write_slip counts ps room ≡ taken ys → (length ps ≤ slot_limit) × (slip_test counts ps ≡ passed) × (slip_bytes ps ≡ ys)
unfolding write_slip
slip_written counts ps room ys e = go (ltb slot_limit (length ps)) refl e
  where
    go : (b : Bool) → ltb slot_limit (length ps) ≡ b → cond b (refused 24 0) (after (slip_test counts ps) (cond (ltb room (byte_count (slip_bits (length ps)))) (refused 30 2) (taken (slip_bytes ps)))) ≡ taken ys
        → (length ps ≤ slot_limit) × (slip_test counts ps ≡ passed) × (slip_bytes ps ≡ ys)
    go true d e = absurd (let z : ◌≡◌ {A = ℕ} 0 1 = cc in omega arith)
    go false d e = let w = written (slip_test counts ps) (ltb room (byte_count (slip_bits (length ps)))) 30 2 (slip_bytes ps) ys e in (ltb-false 32 (length ps) d, w.0, w.1)

packed_sound_card : (t : Table) (c : Card) (room : ℕ) (ys : List ℕ) → packed_card t c room ≡ taken ys → (sound t ≡ true) × (write_card (value_counts t) (card_values c) room ≡ taken ys)
unfolding packed_card if_sound
packed_sound_card t c room ys e = let d = is_sound t _ ys e in (d, rw d at e)

packed_sound_slip : (t : Table) (s : Slip) (room : ℕ) (ys : List ℕ) → packed_slip t s room ≡ taken ys → (sound t ≡ true) × (write_slip (value_counts t) (changes_of s) room ≡ taken ys)
unfolding packed_slip if_sound
packed_sound_slip t s room ys e = let d = is_sound t _ ys e in (d, rw d at e)

unpacked_sound_card : (t : Table) (ys vs : List ℕ) → unpacked_card t ys ≡ taken vs → sound t ≡ true
unfolding unpacked_card
unpacked_sound_card t ys vs e = is_sound t _ vs e

unpacked_sound_slip : (t : Table) (ys : List ℕ) (ps : List Pair) → unpacked_slip t ys ≡ taken ps → sound t ≡ true
unfolding unpacked_slip
unpacked_sound_slip t ys ps e = is_sound t _ ps e

-- A sound table has at most 32 slots.
pub few_slots : (t : Table) → sound t ≡ true → length (value_counts t) ≤ slot_limit
unfolding value_counts
few_slots t e =
    let l = length-map (take t.width t.slots) (λ (s : Slot). s.count) in
    let k = length-take t.width t.slots in
    omega (arith, l, k, sound_width t e)

module _ (t : Table) where
  -- An accepted card is packed back to the same bytes wherever there is room for them,
  pub unpack_pack_card : (ys vs : List ℕ) (room : ℕ) → Bytes ys → length ys ≤ room → unpacked_card t ys ≡ taken vs → packed_card t (card_of vs) room ≡ taken ys
  unfolding card_of
  unpack_pack_card ys vs room b h e =
      let d = unpacked_sound_card t ys vs e in
      let r = sym (sound_card_read t d ys) ∙ e in
      let a = card_accepted (value_counts t) ys vs r in
      let p : card_test (value_counts t) (card_values (card_of vs)) ≡ passed = rw (card_of_values vs, ← a.same_form) a.passes in
      let k = card_packs_back (value_counts t) ys vs b r in
      sound_card t d (card_of vs) room ∙ card_with_room (value_counts t) (card_of vs) room p (omega (arith, h, card_bytes_length vs, ap length k)) ∙ ap taken (ap card_bytes (card_of_values vs) ∙ k)

  -- and an accepted slip.
  pub unpack_pack_slip : (ys : List ℕ) (ps : List Pair) (room : ℕ) → Bytes ys → length ys ≤ room → unpacked_slip t ys ≡ taken ps → packed_slip t (slip_of ps) room ≡ taken ys
  unfolding slip_of
  unpack_pack_slip ys ps room b h e =
      let d = unpacked_sound_slip t ys ps e in
      let r = sym (sound_slip_read t d ys) ∙ e in
      let a = slip_accepted (value_counts t) ys ps r in
      let q : slip_test (value_counts t) ps ≡ passed = rw (← a.same_form) a.passes in
      let p : slip_test (value_counts t) (changes_of (slip_of ps)) ≡ passed = rw (slip_of_changes ps) q in
      let k = slip_packs_back (value_counts t) ys ps b r in
      let f : length ps ≤ slot_limit = omega (arith, slip_few (value_counts t) ps q, few_slots t d) in
      sound_slip t d (slip_of ps) room ∙ slip_with_room (value_counts t) (slip_of ps) room f p (omega (arith, h, slip_bytes_length ps, ap length k)) ∙ ap taken (ap slip_bytes (slip_of_changes ps) ∙ k)

module _ (t : Table) (sh : Shaped t) where
  -- A card that is packed is unpacked to itself,
  pub pack_unpack_card : (c : Card) (room : ℕ) (ys : List ℕ) → packed_card t c room ≡ taken ys → unpacked_card t ys ≡ taken (card_values c)
  pack_unpack_card c room ys e =
      let d = packed_sound_card t c room ys e in
      let w = card_written (value_counts t) (card_values c) room ys d.1 in
      sound_card_read t d.0 ys ∙ ap (read_card (value_counts t)) (sym w.1) ∙ card_reads_back (value_counts t) (card_values c) (sound_slots t sh d.0) w.0

  -- and so is a slip.
  pub pack_unpack_slip : (s : Slip) (room : ℕ) (ys : List ℕ) → packed_slip t s room ≡ taken ys → unpacked_slip t ys ≡ taken (changes_of s)
  pack_unpack_slip s room ys e =
      let d = packed_sound_slip t s room ys e in
      let w = slip_written (value_counts t) (changes_of s) room ys d.1 in
      sound_slip_read t d.0 ys ∙ ap (read_slip (value_counts t)) (sym w.2) ∙ slip_reads_back (value_counts t) (changes_of s) (sound_slots t sh d.0) w.0 w.1

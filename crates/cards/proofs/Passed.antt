-- What a sound table and passed tests tell: counts within their fields, values and changes within theirs.
-- Assumes nothing.
use mathlib.Core.Path.{◌≡◌, refl, sym, ap, ◌∙◌}
use mathlib.Core.Bool.{Bool, true, false, cond}
use mathlib.Core.List.{List, [], ◌∷◌}
use Prim.Native.Nat.{ℕ, zero, suc, ◌≤◌, ◌<◌}
use native.Mathlib.Omega.{arith}
use lib.Dec.{eqb, ltb}
use lib.ListN.{length, get_or, take}
use lib.Seq.{ext_get_or, length-take-le}
use Rattle.std.proofs.lemmas.List.{get_or-take}
use borrow.Author.Tests.{ltb-false, eqb-true}
use Rattle.model.specs.Rules.{Pair}
use Rattle.table.specs.declared.Table.{Table}
use Rattle.laws.specs.Limits.{slot_limit}
use Rattle.table.specs.inner.Shape.{Shaped}
use Rattle.table.specs.Link.{value_counts}
use Rattle.table.proofs.Link.{count_is}
use Rattle.table.proofs.Link as link
use Rattle.rows.specs.declared.RuleRow.{RuleRow}
use Rattle.soundness.specs.Sound.{sound}
use Rattle.soundness.specs.declared.Entry.{Entry}
use Rattle.soundness.specs.inner.Admitted.{Admitted, EntryKept}
use Rattle.soundness.proofs.Sound.{sound_width, sound_values}
use Rattle.cards.specs.declared.Card.{Card}
use Rattle.cards.specs.declared.Slip.{Slip}
use Rattle.laws.specs.Answers.{passed, fault}
use Rattle.cards.specs.Forms.{values_test, card_test, change_fault, changes_test, slip_test}
use Rattle.cards.specs.Cards.{card_values, changes_of}
use Rattle.cards.specs.inner.Fitting.{Slots, CardFits, SlipFits}
use Rattle.cards.proofs.Tested.{no_pair, change_right}
use Rattle.cards.proofs.Formed.{card_length, card_at, slip_length, slip_at}

-- A table with slots within their limit counts as many, and the counts that were kept of it are those of its slots.
module _ (t : Table) (sh : Shaped t) (few : t.width ≤ slot_limit) where
  pub slots_length : length (value_counts t) ≡ t.width
  slots_length = link.counts_length t (omega (arith, sh.slot_places, few))

  pub counts_all : (counts : List ℕ) (rows : List RuleRow) → t.width ≤ length counts → Admitted t counts rows → take t.width counts ≡ value_counts t
  counts_all counts rows h a =
      ext_get_or 0 (take t.width counts) (value_counts t) (length-take-le t.width counts h ∙ sym slots_length)
      (λ i k. let n : i < t.width = omega (arith, length-take-le t.width counts h) in get_or-take t.width counts i 0 n ∙ a.same_count i n ∙ sym (count_is t i n))

-- Of a sound table that was entered: as many slots as is said are within the limit, with the counts that were kept.
module _ (t : Table) (sh : Shaped t) (e : Entry) (counts : List ℕ) (rows : List RuleRow) (s : sound t ≡ true) (k : EntryKept t e counts rows) where
  pub entered_width : e.width ≤ slot_limit
  entered_width = rw k.width_is (sound_width t s)

  pub entered_counts : length counts ≡ slot_limit → take e.width counts ≡ value_counts t
  entered_counts l = rw k.width_is (counts_all t sh (sound_width t s) counts rows (omega (arith, sound_width t s, l)) k.admitted)

-- The slots of a sound table are within the limits.
pub sound_slots : (t : Table) → Shaped t → sound t ≡ true → Slots (value_counts t)
sound_slots t sh e =
    let l = slots_length t sh (sound_width t e) in
    record {
      few = omega (arith, l, sound_width t e);
      small = λ i h. (let k : i < t.width = omega (arith, l) in omega (arith, count_is t i k, (sound_values t sh e i k).1));
    }

clash : (k s : ℕ) → fault k s ≡ passed → ⊥
clash k s e = let z : ◌≡◌ {A = ℕ} 0 1 = cc in omega arith

-- Values that pass are at most their slot's last.
pub values_pass : (at : ℕ) (counts vs : List ℕ) → values_test at counts vs ≡ passed → (i : ℕ) → i < length counts → i < length vs → get_or vs i 0 ≤ get_or counts i 0
unfolding values_test
values_pass at [] vs e i h g = absurd (omega arith)
values_pass at (n ∷ ns) [] e i h g = absurd (omega arith)
values_pass at (n ∷ ns) (v ∷ vs) e i h g = go (values_pass (suc at) ns vs) (ltb n v) refl e i h g
  where
    go : (values_test (suc at) ns vs ≡ passed → (i : ℕ) → i < length ns → i < length vs → get_or vs i 0 ≤ get_or ns i 0) → (b : Bool) → ltb n v ≡ b → cond b (fault 22 at) (values_test (suc at) ns vs) ≡ passed → (i : ℕ) → i < length (n ∷ ns) → i < length (v ∷ vs) → get_or (v ∷ vs) i 0 ≤ get_or (n ∷ ns) i 0
    go rest true d e i h g = absurd (clash 22 at e)
    go rest false d e zero h g = ltb-false n v d
    go rest false d e (suc i) h g = rest e i (omega arith) (omega arith)

-- A card that passes has as many values as slots, and its values pass.
pub card_pass : (counts vs : List ℕ) → card_test counts vs ≡ passed → (length vs ≡ length counts) × (values_test 0 counts vs ≡ passed)
unfolding card_test
card_pass counts vs e = go (eqb (length vs) (length counts)) refl e
  where
    go : (b : Bool) → eqb (length vs) (length counts) ≡ b → cond b (values_test 0 counts vs) (fault 21 0) ≡ passed → (length vs ≡ length counts) × (values_test 0 counts vs ≡ passed)
    go true d e = (eqb-true (length vs) (length counts) d, e)
    go false d e = absurd (clash 21 0 e)

-- Changes that pass name a slot, and a value of it or NONE.
pub changes_pass : (counts : List ℕ) (low at : ℕ) (ps : List Pair) → changes_test counts low at ps ≡ passed → (j : ℕ) → j < length ps
    → ((get_or ps j no_pair).slot < length counts) × ((get_or ps j no_pair).value ≤ get_or counts (get_or ps j no_pair).slot 0)
unfolding changes_test
changes_pass counts low at [] e j h = absurd (omega arith)
changes_pass counts low at (p ∷ ps) e j h = go (changes_pass counts (suc p.slot) (suc at) ps) (eqb (change_fault counts low p) 0) refl e j h
  where
    go : (changes_test counts (suc p.slot) (suc at) ps ≡ passed → (j : ℕ) → j < length ps → ((get_or ps j no_pair).slot < length counts) × ((get_or ps j no_pair).value ≤ get_or counts (get_or ps j no_pair).slot 0))
        → (b : Bool) → eqb (change_fault counts low p) 0 ≡ b → cond b (changes_test counts (suc p.slot) (suc at) ps) (fault (change_fault counts low p) at) ≡ passed
        → (j : ℕ) → j < length (p ∷ ps) → ((get_or (p ∷ ps) j no_pair).slot < length counts) × ((get_or (p ∷ ps) j no_pair).value ≤ get_or counts (get_or (p ∷ ps) j no_pair).slot 0)
    go rest true d e zero h = let r = change_right counts low p (eqb-true (change_fault counts low p) 0 d) in (r.below, r.last)
    go rest true d e (suc j) h = rest e j (omega arith)
    go rest false d e j h = absurd (clash (change_fault counts low p) at e)

-- Forms that pass fit their fields.
pub card_fits : (counts : List ℕ) (c : Card) → Slots counts → card_test counts (card_values c) ≡ passed → CardFits c
card_fits counts c S e =
    let p = card_pass counts (card_values c) e in
    let l = card_length c in
    record {
      few = omega (arith, p.0, l, S.few);
      values_fit = λ i h. (let k : i < length counts = omega (arith, p.0, l) in omega (arith, card_at c i h, values_pass 0 counts (card_values c) p.1 i k (omega (arith, l)), S.small i k));
    }

pub slip_fits : (counts : List ℕ) (s : Slip) → Slots counts → s.count ≤ slot_limit → slip_test counts (changes_of s) ≡ passed → SlipFits s
slip_fits counts s S f e =
    let l = slip_length s in
    record {
      few = f;
      slots_fit = λ j h. (let q = changes_pass counts 0 0 (changes_of s) e j (omega (arith, l)) in omega (arith, ap (λ (p : Pair). p.slot) (slip_at s j h), q.0, S.few));
      values_fit = λ j h. (let q = changes_pass counts 0 0 (changes_of s) e j (omega (arith, l)) in omega (arith, ap (λ (p : Pair). p.value) (slip_at s j h), q.1, S.small _ q.0));
    }

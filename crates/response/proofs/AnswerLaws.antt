-- The answer of changes and fired rules to a card that is in order, from the arrays that hold them.
-- Assumes nothing.
use mathlib.Core.Path.{◌≡◌, refl, sym, ap, ap₂, fun_ext, ◌∙◌}
use mathlib.Core.Bool.{Bool, true, false, cond}
use mathlib.Core.List.{List, [], ◌∷◌, ◌++◌, map}
use mathlib.Core.Logic.{⊎_elim}
use Prim.Native.Nat.{ℕ, suc, zero, ◌≤◌, ◌<◌}
use native.Mathlib.Omega.{arith}
use lib.Dec.{T, ltb, ltb→lt}
use lib.ListN.{length, get_or, take, drop, length-append, get_or-map}
use lib.Seq.{take-append_seam, get_or-take, length-take-le}
use borrow.Author.Tests.{lt-ltb, le-ltb}
use Rattle.laws.specs.Truth.{◌∧ᵇ◌}
use Rattle.laws.specs.Listed.{all_of}
use Rattle.laws.specs.Filled.{filled}
use Rattle.laws.specs.Tabulated.{tabulate}
use Rattle.laws.specs.Packed.{byte_count, pack}
use Rattle.laws.proofs.Truth.{le_or_lt, and_l, and_r, and_i}
use Rattle.laws.proofs.Listed.{all_e, all_append}
use Rattle.laws.proofs.Tabulated.{tabulate_length, tabulate_at, is_tabulate}
use Rattle.laws.proofs.Fronts.{filled_at}
use Rattle.laws.proofs.Packed.{pack_length}
use Rattle.model.specs.Rules.{Pair, Pairs}
use Rattle.model.specs.Orders.{names}
use Rattle.model.specs.Result.{pair, value_in, is_changed, new_value, new_card, changes_slip}
use Rattle.model.proofs.Alike.{SameCard}
use Rattle.laws.specs.Limits.{slot_limit, row}
use Rattle.table.specs.inner.Flat.{set_of}
use Rattle.cards.specs.declared.Card.{Card}
use Rattle.cards.specs.declared.Slip.{Slip}
use Rattle.laws.specs.Answers.{taken, written}
use Rattle.cards.specs.Forms.{card_bits, slip_bits, card_bytes, slip_bytes}
use Rattle.cards.specs.Cards.{no_change, change_of, card_values, changes_of, card_of, slip_of}
use Rattle.cards.specs.inner.Fitting.{CardFits, SlipFits}
use Rattle.cards.proofs.Formed.{slip_length}
use Rattle.cards.proofs.EntryTrips.{card_of_values, slip_of_changes}
use Rattle.cards.proofs.Written.{card_bytes_length, slip_bytes_length}
use Rattle.results.specs.Record.{ones_in}
use Rattle.results.specs.inner.Record.{fired_bits, flag_record}
use Rattle.results.specs.inner.Ending.{new_places}
use Rattle.response.specs.Ending.{fired_record, answer_of}
use Rattle.response.specs.Outcomes.{Answered}
use Rattle.response.specs.Respond.{outputs, outcome_of, outputs_after}
use Rattle.response.specs.inner.InOrder.{Ends}
use Rattle.response.proofs.InOrder.{values_same}

-- The card of so many values in their places has them.
pub card_values_back : (width : ℕ) (xs : List ℕ) → length xs ≡ width → card_values (record { values = filled slot_limit 0 xs; count = width }) ≡ xs
unfolding card_of
card_values_back width xs l = ap (λ (n : ℕ). card_values (record { values = filled slot_limit 0 xs; count = n })) (sym l) ∙ card_of_values xs

-- The new card by places is that by the card's values.
pub new_card_same : (width : ℕ) (D E : Pairs) (values S : List ℕ) → D ≡ E → SameCard values S → new_card width row D values ≡ new_card width row E S
unfolding SameCard new_card new_value
new_card_same width D E values S e same = rw e (ap (λ (f : ℕ → ℕ). tabulate f width) (fun_ext (λ s. ap (λ (v : ℕ). cond (is_changed row E s) (value_in row E s) v) (same s))))

pub new_card_length : (width : ℕ) (D : Pairs) (S : List ℕ) → length (new_card width row D S) ≡ width
unfolding new_card
new_card_length width D S = tabulate_length (new_value row D S) width

-- Its values fit into 4 bits where those of the card do.
pub new_value_fits : (width : ℕ) (D : Pairs) (S : List ℕ) → ((i : ℕ) → i < width → get_or S i 0 < 16) → (i : ℕ) → i < width → get_or (new_card width row D S) i 0 < 16
unfolding new_card new_value is_changed
new_value_fits width D S fits i h = rw (tabulate_at (new_value row D S) width i 0 h) (⊎_elim
    (λ x. rw (le-ltb (value_in row D i) row x) (fits i h)) (λ x. rw (lt-ltb (value_in row D i) row x) x) (le_or_lt row (value_in row D i)))

-- The card that is written fits.
pub next_fits : (width : ℕ) (xs : List ℕ) → width ≤ slot_limit → length xs ≡ width → ((i : ℕ) → i < width → get_or xs i 0 < 16) → CardFits (record { values = filled slot_limit 0 xs; count = width })
next_fits width xs few l fits = record { few = few; values_fit = λ i h. rw (filled_at slot_limit 0 xs i) (fits i h) }

-- The bounds of a pair that goes into a slip.
abbrev in_bounds : Pair → Bool
in_bounds p = ltb p.slot slot_limit ∧ᵇ ltb p.value row

slip_bounded : (D : Pairs) (w : ℕ) → w ≤ slot_limit → T (all_of in_bounds (changes_slip w row D))
unfolding changes_slip all_of is_changed
slip_bounded D zero h = tt
slip_bounded D (suc w) h =
    rw (all_append in_bounds (changes_slip w row D) (cond (ltb (value_in row D w) row) (pair w (value_in row D w) ∷ []) [])) (and_i _ _ (slip_bounded D w (omega arith)) last)
  where
    last : T (all_of in_bounds (cond (ltb (value_in row D w) row) (pair w (value_in row D w) ∷ []) []))
    last = ⊎_elim (λ x. rw (le-ltb (value_in row D w) row x) tt)
        (λ x. rw (lt-ltb (value_in row D w) row x) (and_i (in_bounds (pair w (value_in row D w))) true (and_i (ltb w slot_limit) (ltb (value_in row D w) row) (rw (lt-ltb w slot_limit (omega arith)) tt) (rw (lt-ltb (value_in row D w) row x) tt)) tt))
        (le_or_lt row (value_in row D w))

slip_few : (D : Pairs) (w : ℕ) → length (changes_slip w row D) ≤ w
unfolding changes_slip is_changed
slip_few D zero = omega arith
slip_few D (suc w) = ⊎_elim
    (λ x. rw (le-ltb (value_in row D w) row x, length-append (changes_slip w row D) []) (omega (arith, slip_few D w)))
    (λ x. rw (lt-ltb (value_in row D w) row x, length-append (changes_slip w row D) (pair w (value_in row D w) ∷ [])) (omega (arith, slip_few D w)))
    (le_or_lt row (value_in row D w))

-- The slip that is written fits, and 37 bytes hold it.
module _ (D : Pairs) (width : ℕ) (few : width ≤ slot_limit) where
  abbrev ps : List Pair
  ps = changes_slip width row D

  bound : (j : ℕ) → j < length ps → ((get_or ps j (pair 0 0)).slot < slot_limit) × ((get_or ps j (pair 0 0)).value < row)
  bound j h =
      let b = all_e in_bounds ps (pair 0 0) (slip_bounded D width few) j h in
      (ltb→lt (get_or ps j (pair 0 0)).slot slot_limit (and_l (ltb (get_or ps j (pair 0 0)).slot slot_limit) _ b), ltb→lt (get_or ps j (pair 0 0)).value row (and_r (ltb (get_or ps j (pair 0 0)).slot slot_limit) _ b))

  change_at : (j : ℕ) → j < length ps → get_or (slip_of ps).changes j no_change ≡ change_of (get_or ps j (pair 0 0))
  unfolding slip_of
  change_at j h = filled_at slot_limit no_change (map change_of ps) j ∙ get_or-map change_of ps j (pair 0 0)

  slip_count : (slip_of ps).count ≡ length ps
  unfolding slip_of
  slip_count = refl

  pub listed_fits : SlipFits (slip_of ps)
  listed_fits = record {
    few = omega (arith, slip_count, slip_few D width, few);
    slots_fit = λ j h. let k : j < length ps = omega (arith, h, slip_count) in rw (change_at j k) (bound j k).0;
    values_fit = λ j h. let k : j < length ps = omega (arith, h, slip_count) in rw (change_at j k) (bound j k).1;
  }

  pub listed_room : byte_count (slip_bits (slip_of ps).count) ≤ 37
  listed_room = omega (arith, slip_count, slip_few D width, few)

-- The record of the flags is that of the rules fired.
record_same : (ns : List ℕ) (ran : List Bool) (count : ℕ) → ((i : ℕ) → i < count → get_or ran i false ≡ names ns (suc i)) → flag_record ran count ≡ fired_record count ns
unfolding flag_record fired_bits fired_record
record_same ns ran count same =
    ap pack (is_tabulate (λ i. names ns (suc i)) count false (tabulate (λ i. get_or ran i false) count)
    (tabulate_length (λ i. get_or ran i false) count) (λ i l. tabulate_at (λ i. get_or ran i false) count i false l ∙ same i l))

-- So are the flags packed, where there is one for each rule.
record_packed : (ns : List ℕ) (ran : List Bool) → ((i : ℕ) → i < length ran → get_or ran i false ≡ names ns (suc i)) → pack ran ≡ fired_record (length ran) ns
unfolding flag_record fired_bits
record_packed ns ran same = ap pack (is_tabulate (λ i. get_or ran i false) (length ran) false ran refl (λ i l. refl)) ∙ record_same ns ran (length ran) same

-- The first flags, as many as there are rules, are those of the rules that ran.
module _ (n : ℕ) (ran : List Bool) (enough : n ≤ length ran) where
  pub cut_answer : (width : ℕ) (S : List ℕ) (C : Pairs) (ns : List ℕ) → taken (answer_of width n S C ns) ≡ taken (answer_of width (length (take n ran)) S C ns)
  cut_answer width S C ns = ap (λ (k : ℕ). taken (answer_of width k S C ns)) (sym (length-take-le n ran enough))

  pub cut_rules : (ns : List ℕ) → ((i : ℕ) → i < n → get_or ran i false ≡ names ns (suc i)) → (i : ℕ) → i < length (take n ran) → get_or (take n ran) i false ≡ names ns (suc i)
  cut_rules ns same i h =
      let k : i < n = omega (arith, h, length-take-le n ran enough) in
      get_or-take n ran i false k ∙ same i k

-- Written to the front of an output, bytes of so great a length.
front_is : (ys out : List ℕ) (n : ℕ) → length ys ≡ n → ys ++ drop n out ≡ written ys out
front_is ys out n e = rw e refl

-- The new card fits where the card does.
pub next_in_order : (width : ℕ) (card : Card) (bs : List Bool) → width ≤ slot_limit → card.count ≡ width → CardFits card → CardFits (record { values = new_places width bs card.values; count = width })
unfolding new_places
next_in_order width card bs few same fits =
    next_fits width (new_card width row (set_of bs) card.values) few (new_card_length width (set_of bs) card.values)
    (new_value_fits width (set_of bs) card.values (λ i h. fits.values_fit i (omega (arith, h, same))))

-- The answer is written: of changes C and rules fired, which the arrays hold, over a card that is empty beyond its count.
module _ (width : ℕ) (card : Card) (bs ran : List Bool) (C : Pairs) (ns : List ℕ) (same_changes : set_of bs ≡ C) (same_rules : (i : ℕ) → i < length ran → get_or ran i false ≡ names ns (suc i))
    (rest : (s : ℕ) → card.count ≤ s → get_or card.values s 0 ≡ 0) where
  next_values : card_values (record { values = new_places width bs card.values; count = width }) ≡ new_card width row C (card_values card)
  unfolding new_places
  next_values =
      card_values_back width (new_card width row (set_of bs) card.values) (new_card_length width (set_of bs) card.values)
      ∙ new_card_same width (set_of bs) C card.values (card_values card) same_changes (values_same card rest)

  pub answer_ends : (l m : ℕ) (a b c a' b' c' : List ℕ)
      → a' ≡ card_bytes (card_values (record { values = new_places width bs card.values; count = width })) ++ drop (byte_count (card_bits width)) a
      → (s : Slip) → s ≡ slip_of (changes_slip width row (set_of bs))
      → l ≡ byte_count (slip_bits s.count) → b' ≡ slip_bytes (changes_of s) ++ drop (byte_count (slip_bits s.count)) b
      → c' ≡ pack ran ++ drop (byte_count (length ran)) c → m ≡ ones_in (take (byte_count (length ran)) c')
      → Ends (taken (answer_of width (length ran) (card_values card) C ns)) (Answered l m) (outputs a b c) (outputs a' b' c')
  unfolding outcome_of outputs_after answer_of
  answer_ends l m a b c a' b' c' ea s es en eb ec em =
      (ap₂ (λ (i j : ℕ). Answered i j) (en ∙ changes_size) (em ∙ ap ones_in fired_front), λ i. outputs (card_part i) (changes_part i) (fired_part i))
    where
      listed : changes_of s ≡ changes_slip width row C
      listed = ap changes_of es ∙ slip_of_changes (changes_slip width row (set_of bs)) ∙ ap (changes_slip width row) same_changes

      size : s.count ≡ length (changes_slip width row C)
      size = sym (slip_length s) ∙ ap length listed

      changes_size : byte_count (slip_bits s.count) ≡ length (slip_bytes (changes_slip width row C))
      changes_size = ap (λ (k : ℕ). byte_count (slip_bits k)) size ∙ sym (slip_bytes_length (changes_slip width row C))

      record_is : pack ran ≡ fired_record (length ran) ns
      record_is = record_packed ns ran same_rules

      fired_front : take (byte_count (length ran)) c' ≡ fired_record (length ran) ns
      fired_front =
          ap (take (byte_count (length ran))) ec ∙ ap (λ (k : ℕ). take k (pack ran ++ drop (byte_count (length ran)) c)) (sym (pack_length ran))
          ∙ take-append_seam (pack ran) (drop (byte_count (length ran)) c) ∙ record_is

      card_part : a' ≡ written (card_bytes (new_card width row C (card_values card))) a
      card_part =
          ea ∙ ap (λ (vs : List ℕ). card_bytes vs ++ drop (byte_count (card_bits width)) a) next_values
          ∙ front_is (card_bytes (new_card width row C (card_values card))) a (byte_count (card_bits width))
          (card_bytes_length (new_card width row C (card_values card)) ∙ ap (λ (k : ℕ). byte_count (card_bits k)) (new_card_length width C (card_values card)))

      changes_part : b' ≡ written (slip_bytes (changes_slip width row C)) b
      changes_part =
          eb ∙ ap (λ (ps : List Pair). slip_bytes ps ++ drop (byte_count (slip_bits s.count)) b) listed
          ∙ front_is (slip_bytes (changes_slip width row C)) b (byte_count (slip_bits s.count)) (sym changes_size)

      fired_part : c' ≡ written (fired_record (length ran) ns) c
      fired_part =
          ec ∙ front_is (pack ran) c (byte_count (length ran)) (pack_length ran) ∙ ap (λ (ys : List ℕ). written ys c) record_is

-- A card, a slip and rows that are in order, as the model has them: what both responses use.
-- Assumes nothing.
use mathlib.Core.Path.{◌≡◌, sym, ap, ◌∙◌}
use mathlib.Core.Bool.{Bool, false}
use mathlib.Core.Logic.{⊎_elim}
use Prim.Native.Nat.{ℕ, zero, suc, ◌≤◌, ◌<◌}
use mathlib.Core.List.{List}
use native.Mathlib.Omega.{arith}
use lib.Dec.{T}
use lib.ListN.{length, get_or, replicate, length-replicate, get_or-eq_default}
use Rattle.laws.specs.Limits.{slot_limit, rule_limit, row}
use Rattle.laws.specs.Tabulated.{tabulate}
use Rattle.laws.proofs.Truth.{le_or_lt, or_e}
use Rattle.laws.proofs.Tabulated.{tabulate_length, tabulate_at}
use Rattle.laws.proofs.Filled.{replicate_at}
use Rattle.model.specs.Rules.{Pair, same, among}
use Rattle.model.proofs.Alike.{SameCard}
use Rattle.model.proofs.Pairs.{same_eq}
use Rattle.table.specs.Link.{rules_of}
use Rattle.table.specs.inner.Flat.{Placed, add_pairs, pair_places}
use Rattle.table.proofs.Link.{rules_length}
use Rattle.table.proofs.Flat.{added_length}
use Rattle.rows.specs.declared.RuleRow.{RuleRow}
use Rattle.rows.specs.inner.RuleRows.{rows_table}
use Rattle.rows.proofs.RuleRows.{all_count, all_shaped}
use Rattle.cards.specs.declared.Card.{Card}
use Rattle.cards.specs.declared.Slip.{Slip}
use Rattle.cards.specs.Cards.{no_change, pair_of, card_values, changes_of}
use Rattle.cards.specs.inner.Fitting.{CardFits, SlipFits}
use Rattle.response.specs.inner.InOrder.{NoneRan}

-- A card whose places beyond its count are empty has the values of its places.
pub values_same : (c : Card) → ((s : ℕ) → c.count ≤ s → get_or c.values s 0 ≡ 0) → SameCard c.values (card_values c)
unfolding SameCard card_values
values_same c rest s =
    ⊎_elim (λ h. rest s h ∙ sym (get_or-eq_default (tabulate (λ i. get_or c.values i 0) c.count) 0 (rw (tabulate_length (λ i. get_or c.values i 0) c.count) h)))
    (λ h. sym (tabulate_at (λ i. get_or c.values i 0) c.count s 0 h)) (le_or_lt c.count s)

-- The values of a card that is in order go into 4 bits, also beyond those that it counts.
pub values_small : (c : Card) → CardFits c → ((s : ℕ) → c.count ≤ s → get_or c.values s 0 ≡ 0) → (s : ℕ) → s < slot_limit → get_or c.values s 0 < row
values_small c f rest s h = ⊎_elim (λ k. rw (rest s k) (omega arith)) (λ k. f.values_fit s k) (le_or_lt c.count s)

-- Each pair of a list has a place in an array indexed by pair.
abbrev pub AllPlaced : List Pair → Type 0
AllPlaced I = (p : Pair) → T (among p I) → Placed p.slot p.value

-- A pair of a tabulated list is one of its entries.
tabulated_pair : (f : ℕ → Pair) (n : ℕ) (p : Pair) → T (among p (tabulate f n)) → (j : ℕ) × (j < n) × (p ≡ f j)
unfolding tabulate among
tabulated_pair f zero p t = absurd t
tabulated_pair f (suc n) p t = ⊎_elim (λ x. (0, omega arith, same_eq p (f 0) x)) (λ x. let w = tabulated_pair (λ i. f (suc i)) n p x in (suc w.0, omega (arith, w.1), w.2)) (or_e (same p (f 0)) _ t)

-- The pairs of a slip that fits have a place.
pub slip_placed : (s : Slip) → SlipFits s → AllPlaced (changes_of s)
unfolding changes_of
slip_placed s F p t =
    let w = tabulated_pair (λ j. pair_of (get_or s.changes j no_change)) s.count p t in
    rw w.2 (record { in_slots = F.slots_fit w.0 w.1; in_row = F.values_fit w.0 w.1 })

-- Their array has a place for every pair.
pub flags_length : (I : List Pair) → length (add_pairs I (replicate pair_places false)) ≡ pair_places
flags_length I = added_length I (replicate pair_places false) ∙ length-replicate pair_places false

-- Rows have as many rules as they are.
pub rules_counted : (rows : List RuleRow) → length rows ≤ rule_limit → length (rules_of (rows_table rows)) ≡ length rows
rules_counted rows few =
    let k = all_count rows in
    rules_length (rows_table rows) ((all_shaped rows few).rule_places (omega (arith, few, k))) ∙ k

-- Flags of which none is set.
pub ran_none : (n : ℕ) (ran : List Bool) → NoneRan n ran → (i : ℕ) → get_or ran i false ≡ false
ran_none n ran N i = ap (λ (bs : List Bool). get_or bs i false) N.none ∙ replicate_at (length ran) false i

-- Going through the changes of a slip, and listing them.
-- Assumes nothing.
use mathlib.Core.Path.{◌≡◌, refl, sym, ap, ◌∙◌}
use mathlib.Core.List.{List, [], ◌∷◌, map}
use Prim.Native.Nat.{ℕ, ◌+◌, ◌≤◌, ◌<◌}
use native.Mathlib.Omega.{arith}
use native.Mathlib.Numerals.{add-one}
use lib.ListN.{length, get_or, set, drop, replicate, length-map, length-append, drop_of_length-le}
use lib.Seq.{drop-cons}
use Rattle.laws.specs.Tabulated.{tabulate}
use Rattle.laws.specs.Filled.{filled}
use Rattle.laws.proofs.Tabulated.{tabulate_length, tabulate_at}
use Rattle.laws.proofs.Filled.{filled_snoc}
use Rattle.laws.proofs.Lists.{map_append}
use Rattle.model.specs.Rules.{Pair, Pairs}
use Rattle.model.specs.Result.{pair, value_in, changes_slip}
use Rattle.laws.specs.Limits.{slot_limit, row}
use Rattle.results.proofs.Values.{slip_changed, slip_kept}
use Rattle.cards.specs.declared.Change.{Change}
use Rattle.cards.specs.declared.Slip.{Slip}
use Rattle.cards.specs.Cards.{no_change, pair_of, change_of, changes_of, slip_of}

-- What is left of the changes begins with the next.
pub changes_next : (s : Slip) (j : ℕ) → j < s.count → drop j (changes_of s) ≡ pair_of (get_or s.changes j no_change) ∷ drop (j + 1) (changes_of s)
unfolding changes_of
changes_next s j h =
    let f : ℕ → Pair = λ i. pair_of (get_or s.changes i no_change) in
    rw (drop-cons (tabulate f s.count) j (pair 0 0) (rw (tabulate_length f s.count) h), add-one j, tabulate_at f s.count j (pair 0 0) h)

-- In the end nothing is left.
pub changes_end : (s : Slip) (j : ℕ) → s.count ≤ j → drop j (changes_of s) ≡ []
unfolding changes_of
changes_end s j h = drop_of_length-le (tabulate (λ i. pair_of (get_or s.changes i no_change)) s.count) {i = j} (rw (tabulate_length (λ i. pair_of (get_or s.changes i no_change)) s.count) h)

-- The changes below slot s, in their places.
pub record Listed (C : Pairs) (s : ℕ) (listed : List Change) (count : ℕ) : Type 0 where
  pub places : listed ≡ filled slot_limit no_change (map change_of (changes_slip s row C))
  pub number : count ≡ length (changes_slip s row C)
  pub few : count ≤ s

pub listed_start : (C : Pairs) → Listed C 0 (replicate slot_limit no_change) 0
unfolding filled changes_slip
listed_start C = record { places = refl; number = refl; few = omega arith }

-- A slot without a value in the changes adds nothing.
pub listed_over : (C : Pairs) (s v : ℕ) (listed : List Change) (count : ℕ) → v ≡ value_in row C s → row ≤ v → Listed C s listed count → Listed C (s + 1) listed count
listed_over C s v listed count e h L = record { places = rw (slip_kept C s v e h) L.places; number = rw (slip_kept C s v e h) L.number; few = omega (arith, L.few) }

-- One with a value adds it.
pub listed_more : (C : Pairs) (s v : ℕ) (listed : List Change) (count : ℕ) → v ≡ value_in row C s → v < row → s < slot_limit → Listed C s listed count
    → Listed C (s + 1) (set listed count (change_of (pair s v))) (count + 1)
listed_more C s v listed count e h k L =
    let l = length-map (changes_slip s row C) change_of in
    record {
      places = ap (λ (xs : List Change). set xs count (change_of (pair s v))) L.places
          ∙ ap (λ (n : ℕ). set (filled slot_limit no_change (map change_of (changes_slip s row C))) n (change_of (pair s v))) (L.number ∙ sym l)
          ∙ filled_snoc slot_limit no_change (change_of (pair s v)) (map change_of (changes_slip s row C)) (omega (arith, l, L.few, L.number, k))
          ∙ ap (filled slot_limit no_change) (sym (map_append change_of (changes_slip s row C) (pair s v ∷ [])) ∙ ap (map change_of) (sym (slip_changed C s v e h)));
      number = rw (slip_changed C s v e h, length-append (changes_slip s row C) (pair s v ∷ []), L.number) refl;
      few = omega (arith, L.few);
    }

-- In the end they are the slip.
pub listed_end : (C : Pairs) (width s : ℕ) (listed : List Change) (count : ℕ) → s ≡ width → Listed C s listed count → record { changes = listed; count = count } ≡ slip_of (changes_slip width row C)
unfolding slip_of
listed_end C width s listed count e L = rw (← e) (λ i. record { changes = L.places i; count = L.number i })

-- The selection is a complete order of selection: each sweep makes a move or finds none, and no move is made twice.
-- Assumes nothing.
use Prim.Native.Nat.{ℕ, zero, suc, ◌+◌, ◌≤◌, ◌<◌}
use native.Mathlib.Omega.{arith}
use native.Mathlib.Nat.{eq-or-lt_of_le}
use mathlib.Core.Path.{◌≡◌, refl, sym, subst}
use mathlib.Core.Bool.{Bool, true, false, cond}
use mathlib.Core.List.{List, [], ◌∷◌}
use mathlib.Core.Logic.{◌⊎◌, inl, inr, ⊎_elim}
use lib.Dec.{T}
use lib.ListN.{length, get_or}
use Rattle.laws.specs.Truth.{notᵇ}
use Rattle.laws.specs.Numbers.{Numbered, how_many}
use Rattle.laws.proofs.Truth.{and_i, or_l, or_e, not_i}
use Rattle.laws.proofs.Numbers.{how_many_top, how_many_le, how_many_lt, settles}
use Rattle.model.specs.Rules.{Pair, Rule, among}
use Rattle.model.specs.Orders.{names}
use Rattle.model.specs.Result.{pair}
use Rattle.model.proofs.Pairs.{same_refl, same_eq}
use Rattle.model.proofs.Changes.{names_first, names_more}
use Rattle.marks.specs.Marks.{rule_out}
use Rattle.marks.specs.Selection.{Move, fires, drops, fired, marks_after, applies, selects, whole_selection, try, try_pairs, try_rules, sweeps, selection}
use Rattle.marks.proofs.Selections.{negative_more, fires_e, drops_e, fires_i, drops_i, Ends, ends_i}

-- What stands before the first pair of a list.
no_pair : Pair
no_pair = pair 0 0

-- A pair of a list has a number, from 1.
number_in : (p : Pair) (ps : List Pair) → T (among p ps) → (n : ℕ) × Numbered (length ps) n × (get_or (no_pair ∷ ps) n no_pair ≡ p)
unfolding among
number_in p [] t = absurd t
number_in p (q ∷ ps) t =
    ⊎_elim (λ s. (1, record { first = omega arith; last = omega arith }, sym (same_eq p q s)))
    (λ s. later (number_in p ps s))
    (or_e _ _ t)
  where
    later : (n : ℕ) × Numbered (length ps) n × (get_or (no_pair ∷ ps) n no_pair ≡ p) → (n : ℕ) × Numbered (suc (length ps)) n × (get_or (no_pair ∷ q ∷ ps) n no_pair ≡ p)
    later (zero, i, e) = absurd (omega (arith, i.first))
    later (suc n, i, e) = (suc (suc n), record { first = omega arith; last = omega (arith, i.last) }, e)

module _ (ps : List Pair) (rs : List Rule) (S : List ℕ) (I : List Pair) where
  -- The pair of a number is negative.
  abbrev out_at : List Move → ℕ → Bool
  out_at cs n = (marks_after rs I cs).negative (get_or (no_pair ∷ ps) n no_pair)

  -- How many pairs are negative and how many rules have fired.
  size : List Move → ℕ
  size cs = how_many (out_at cs) (length ps) + how_many (names (fired cs)) (length rs)

  size_top : (cs : List Move) → size cs ≤ length ps + length rs
  unfolding size
  size_top cs = omega (arith, how_many_top (out_at cs) (length ps), how_many_top (names (fired cs)) (length rs))

  now_out : (p : Pair) (cs : List Move) → T ((marks_after rs I (drops p ∷ cs)).negative p)
  unfolding marks_after rule_out
  now_out p cs = or_l _ _ (same_refl p)

  -- Each move makes it larger.
  size_more : (c : Move) (cs : List Move) → T (applies ps rs S I cs c) → size cs < size (c ∷ cs)
  unfolding size fired
  size_more (fires n) cs t =
      let r = fires_e ps rs S I cs n t in
      omega (
        arith,
        how_many_le (out_at cs) (out_at (fires n ∷ cs)) (length ps) (λ i lo hi. negative_more rs I (fires n) cs (get_or (no_pair ∷ ps) i no_pair)),
        how_many_lt (names (fired cs)) (names (n ∷ fired cs)) (length rs) (λ i lo hi h. names_more i n (fired cs) h) n r.rule.first r.rule.last (not_i _ r.unfired) (names_first n (fired cs)),
      )
  size_more (drops p) cs t =
      let r = drops_e ps rs S I cs p t in
      let w = number_in p ps r.listed in
      omega (
        arith,
        how_many_lt (out_at cs) (out_at (drops p ∷ cs)) (length ps) (λ i lo hi. negative_more rs I (drops p) cs (get_or (no_pair ∷ ps) i no_pair)) w.0 w.1.first w.1.last
            (subst (λ (q : Pair). T (notᵇ ((marks_after rs I cs).negative q))) (sym w.2) (not_i _ r.not_negative))
            (subst (λ (q : Pair). T ((marks_after rs I (drops p ∷ cs)).negative q)) (sym w.2) (now_out p cs)),
      )

  -- A move tried: it cannot be made and nothing changes, or it is made.
  tried : (c : Move) (cs : List Move) → ((¬ T (applies ps rs S I cs c)) × (try ps rs S I c cs ≡ cs)) ⊎ (T (applies ps rs S I cs c) × (try ps rs S I c cs ≡ c ∷ cs))
  unfolding try
  tried c cs = go (applies ps rs S I cs c) (λ x. x)
    where
      go : (b : Bool) → (T b → T (applies ps rs S I cs c)) → ((¬ T b) × (cond b (c ∷ cs) cs ≡ cs)) ⊎ (T (applies ps rs S I cs c) × (cond b (c ∷ cs) cs ≡ c ∷ cs))
      go true h = inr (h tt, refl)
      go false h = inl ((λ t. t), refl)

  try_selects : (c : Move) (cs : List Move) → T (selects ps rs S I cs) → T (selects ps rs S I (try ps rs S I c cs))
  unfolding selects
  try_selects c cs t = ⊎_elim (λ w. rw w.1 t) (λ w. rw w.1 (and_i _ _ t w.0)) (tried c cs)

  pairs_select : (qs : List Pair) (cs : List Move) → T (selects ps rs S I cs) → T (selects ps rs S I (try_pairs ps rs S I qs cs))
  unfolding try_pairs
  pairs_select [] cs t = t
  pairs_select (p ∷ qs) cs t = pairs_select qs (try ps rs S I (drops p) cs) (try_selects (drops p) cs t)

  rules_select : (k : ℕ) (cs : List Move) → T (selects ps rs S I cs) → T (selects ps rs S I (try_rules ps rs S I k cs))
  unfolding try_rules
  rules_select zero cs t = t
  rules_select (suc k) cs t = try_selects (fires (suc k)) (try_rules ps rs S I k cs) (rules_select k cs t)

  sweeps_select : (k : ℕ) → T (selects ps rs S I (sweeps ps rs S I k))
  unfolding sweeps selects
  sweeps_select zero = tt
  sweeps_select (suc k) = rules_select (length rs) (try_pairs ps rs S I ps (sweeps ps rs S I k)) (pairs_select ps (sweeps ps rs S I k) (sweeps_select k))

  -- Trying pairs one after the other: none can be ruled out and nothing changes, or the size grows.
  pairs_step : (qs : List Pair) (cs : List Move)
      → (((p : Pair) → T (among p qs) → ¬ T (applies ps rs S I cs (drops p))) × (try_pairs ps rs S I qs cs ≡ cs)) ⊎ (size cs < size (try_pairs ps rs S I qs cs))
  unfolding try_pairs among
  pairs_step [] cs = inl (λ p h. absurd h, refl)
  pairs_step (q ∷ qs) cs =
      ⊎_elim
      (λ w. ⊎_elim (λ r. inl (λ p h. ⊎_elim (λ s. rw (same_eq p q s) w.0) (r.0 p) (or_e _ _ h), rw w.1 r.1)) (λ l. inr (rw w.1 l)) (pairs_step qs cs))
      (λ w. let m = size_more (drops q) cs w.0 in inr (rw w.1 (⊎_elim (λ r. rw r.1 m) (λ l. omega (arith, l, m)) (pairs_step qs (drops q ∷ cs)))))
      (tried (drops q) cs)

  -- The same for rules.
  rules_step : (k : ℕ) (cs : List Move)
      → (((n : ℕ) → Numbered k n → ¬ T (applies ps rs S I cs (fires n))) × (try_rules ps rs S I k cs ≡ cs)) ⊎ (size cs < size (try_rules ps rs S I k cs))
  unfolding try_rules
  rules_step zero cs = inl (λ n i. absurd (omega (arith, i.first, i.last)), refl)
  rules_step (suc k) cs =
      ⊎_elim
      (λ r. ⊎_elim
      (λ w. inl (λ n i. ⊎_elim (λ (e : n ≡ suc k). rw e w.0) (λ (l : n < suc k). r.0 n (record { first = i.first; last = omega arith })) (eq-or-lt_of_le i.last), rw r.1 w.1))
      (λ w. inr (rw (r.1, w.1) (size_more (fires (suc k)) cs w.0)))
      (tried (fires (suc k)) cs))
      (λ l. inr (⊎_elim (λ w. rw w.1 l) (λ w. rw w.1 (omega (arith, l, size_more (fires (suc k)) (try_rules ps rs S I k cs) w.0))) (tried (fires (suc k)) (try_rules ps rs S I k cs))))
      (rules_step k cs)

  -- A sweep finds no move, or the size grows.
  sweep_step : (k : ℕ) → Ends ps rs S I (sweeps ps rs S I k) ⊎ (size (sweeps ps rs S I k) < size (sweeps ps rs S I (suc k)))
  unfolding sweeps
  sweep_step k =
      let cs = sweeps ps rs S I k in
      ⊎_elim
      (λ a. ⊎_elim
      (λ b. inl (record { no_drop = λ p r. a.0 p r.listed (drops_i ps rs S I cs p r); no_fire = λ n r. b.0 n r.rule (fires_i ps rs S I cs n r) }))
      (λ l. inr (rw a.1 l))
      (rules_step (length rs) cs))
      (λ l. inr (⊎_elim (λ b. rw b.1 l) (λ m. omega (arith, l, m)) (rules_step (length rs) (try_pairs ps rs S I ps cs))))
      (pairs_step ps cs)

  -- Where no move can be made a sweep changes nothing.
  pairs_still : (qs : List Pair) (cs : List Move) → Ends ps rs S I cs → try_pairs ps rs S I qs cs ≡ cs
  unfolding try_pairs
  pairs_still [] cs e = refl
  pairs_still (q ∷ qs) cs e = ⊎_elim (λ w. rw w.1 (pairs_still qs cs e)) (λ w. absurd (e.no_drop q (drops_e ps rs S I cs q w.0))) (tried (drops q) cs)

  rules_still : (k : ℕ) (cs : List Move) → Ends ps rs S I cs → try_rules ps rs S I k cs ≡ cs
  unfolding try_rules
  rules_still zero cs e = refl
  rules_still (suc k) cs e =
      rw (rules_still k cs e) (⊎_elim (λ w. w.1) (λ w. absurd (e.no_fire (suc k) (fires_e ps rs S I cs (suc k) w.0))) (tried (fires (suc k)) cs))

  sweep_still : (k : ℕ) → Ends ps rs S I (sweeps ps rs S I k) → Ends ps rs S I (sweeps ps rs S I (suc k))
  unfolding sweeps
  sweep_still k e = rw (pairs_still ps (sweeps ps rs S I k) e, rules_still (length rs) (sweeps ps rs S I k) e) e

  -- The selection is a complete order of selection.
  pub selection_whole : T (whole_selection ps rs S I (selection ps rs S I))
  unfolding whole_selection selection
  selection_whole =
      let n = length ps + length rs in
      and_i _ _ (sweeps_select (suc n))
      (ends_i ps rs S I (sweeps ps rs S I (suc n))
      (settles (λ k. Ends ps rs S I (sweeps ps rs S I k)) (λ k. size (sweeps ps rs S I k)) n sweep_step sweep_still (λ k. size_top (sweeps ps rs S I k))))

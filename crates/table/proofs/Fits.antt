-- In a rule that fits every pair tested and every pair assigned has a place.
-- Assumes nothing.
use mathlib.Core.Path.{◌≡◌}
use mathlib.Core.Bool.{Bool, true, false, cond}
use mathlib.Core.List.{List, [], ◌∷◌, map}
use mathlib.Core.Logic.{◌⊎◌, inl, inr, ⊎_elim}
use Prim.Native.Nat.{ℕ, zero, suc, ◌<◌}
use native.Mathlib.Omega.{arith}
use lib.Dec.{T}
use lib.ListN.{length, get_or, take, length-take}
use lib.Seq.{get_or-take}
use Rattle.laws.proofs.Truth.{or_e}
use Rattle.laws.specs.Numbers.{Numbered}
use Rattle.model.specs.Rules.{Pair, same, among}
use Rattle.model.specs.Orders.{rule_at}
use Rattle.model.specs.Strata.{pairs_where, is_becomes, tested}
use Rattle.model.proofs.Pairs.{same_eq}
use Rattle.table.specs.declared.Literal.{Literal}
use Rattle.table.specs.declared.Rule.{Rule}
use Rattle.table.specs.declared.Table.{Table}
use Rattle.table.specs.Zero.{zero_literal, zero_assignment, zero_rule}
use Rattle.table.specs.inner.Shape.{Shaped}
use Rattle.table.specs.Link.{literal_of, assignment_of, assignments_of, rule_of, rules_of}
use Rattle.table.specs.inner.Flat.{Placed}
use Rattle.table.specs.inner.Fits.{RuleFits, TableFits}
use Rattle.table.proofs.Link.{rules_length, rule_at_is}

-- A pair of a list stands at a place of it.
among_at : {A : Type 0} (f : A → Pair) (xs : List A) (d : A) (p : Pair) → T (among p (map f xs)) → (j : ℕ) × (j < length xs) × (p ≡ f (get_or xs j d))
unfolding among
among_at f [] d p t = absurd t
among_at f (x ∷ xs) d p t =
    ⊎_elim (λ a. (0, omega arith, same_eq p (f x) a)) (λ a. let w = among_at f xs d p a in (suc w.0, omega (arith, w.1), w.2)) (or_e _ _ t)

first_or_later : (b : Bool) (p q : Pair) (ps : List Pair) → T (among p (cond b (q ∷ ps) ps)) → (p ≡ q) ⊎ T (among p ps)
unfolding among
first_or_later true p q ps t = ⊎_elim (λ a. inl (same_eq p q a)) (λ a. inr a) (or_e (same p q) _ t)
first_or_later false p q ps t = inr t

where_at : (xs : List Literal) (d : Literal) (p : Pair) → T (among p (pairs_where is_becomes (map literal_of xs))) → (j : ℕ) × (j < length xs) × (p ≡ (literal_of (get_or xs j d)).pair)
unfolding pairs_where is_becomes among
where_at [] d p t = absurd t
where_at (x ∷ xs) d p t =
    ⊎_elim (λ a. (0, omega arith, a)) (λ a. let w = where_at xs d p a in (suc w.0, omega (arith, w.1), w.2)) (first_or_later x.becomes p (literal_of x).pair _ t)

pub assigned_placed : (r : Rule) (p : Pair) → RuleFits r → T (among p (assignments_of r)) → Placed p.slot p.value
assigned_placed r p f t =
    let w = among_at assignment_of (take r.assigned r.assignments) zero_assignment p t in
    let l : w.0 < r.assigned = omega (arith, w.1, length-take r.assigned r.assignments) in
    rw (w.2, get_or-take r.assigned r.assignments w.0 zero_assignment l) (f.assignment w.0 l)

pub tested_placed : (r : Rule) (p : Pair) → RuleFits r → T (among p (tested (rule_of r))) → Placed p.slot p.value
unfolding tested among
tested_placed r p f t = ⊎_elim
    (λ a. rw (same_eq p (rule_of r).trigger a) f.trigger)
    (λ a. let w = where_at (take r.tested r.literals) zero_literal p a in
    let l : w.0 < r.tested = omega (arith, w.1, length-take r.tested r.literals) in
    rw (w.2, get_or-take r.tested r.literals w.0 zero_literal l) (f.literal w.0 l))
    (or_e _ _ t)

module _ (t : Table) (fits : TableFits t) (sh : Shaped t) where
  -- The model has as many rules as the table uses.
  pub count_of : length (rules_of t) ≡ t.count
  count_of = rules_length t (sh.rule_places fits.rules_fit)

  pub number : (i : ℕ) → i < t.count → Numbered (length (rules_of t)) (suc i)
  number i h = record { first = omega arith; last = omega (arith, count_of) }

  -- Each of them is a rule of the table that fits.
  pub fits_at : (n : ℕ) → Numbered (length (rules_of t)) n → (r : Rule) × RuleFits r × (rule_at (rules_of t) n ≡ rule_of r)
  fits_at zero i = absurd (omega (arith, i.first))
  fits_at (suc n) i = let h : n < t.count = omega (arith, i.last, count_of) in (get_or t.rules n zero_rule, fits.each_fits n h, rule_at_is t n h)

  -- What they test and what they assign has a place in an array indexed by pair.
  pub tested_in : (n : ℕ) (p : Pair) → Numbered (length (rules_of t)) n → T (among p (tested (rule_at (rules_of t) n))) → Placed p.slot p.value
  tested_in n p i a = let x = fits_at n i in tested_placed x.0 p x.1 (rw x.2 at a)

  pub assigned_in : (n : ℕ) (p : Pair) → Numbered (length (rules_of t)) n → T (among p (rule_at (rules_of t) n).assignments) → Placed p.slot p.value
  assigned_in n p i a = let x = fits_at n i in assigned_placed x.0 p x.1 (rw x.2 at a)

-- The tests of a rule: one pair, one literal, one assignment after the other.
-- Assumes nothing.
use mathlib.Core.Path.{◌≡◌, refl, ◌∙◌}
use mathlib.Core.Bool.{Bool, true, false, ◌&&◌, ◌||◌}
use mathlib.Core.List.{List, [], ◌∷◌, map}
use Prim.Native.Nat.{ℕ, zero, suc, ◌+◌, ◌-◌, ◌≤◌, ◌<◌}
use native.Mathlib.Omega.{arith}
use lib.Dec.{eqb, leb}
use lib.ListN.{get_or, take, drop}
use borrow.Author.Tests.{ne_eqb, le-leb, lt-leb}
use Rattle.laws.specs.Truth.{◌∧ᵇ◌, ◌∨ᵇ◌, notᵇ}
use Rattle.laws.specs.Listed.{all_of}
use Rattle.laws.proofs.Equations.{and_false}
use Rattle.laws.proofs.Listed.{all_append}
use Rattle.model.specs.Rules.{Pair, assigns, each_once}
use Rattle.table.specs.declared.Rule.{Rule}
use Rattle.model.specs.Result.{pair}
use Rattle.std.specs.List.{list_all, list_any}
use Rattle.table.specs.declared.Literal.{Literal}
use Rattle.table.specs.declared.Assignment.{Assignment}
use Rattle.std.proofs.lemmas.List.{drop-take, drop-map}
use Rattle.laws.specs.Limits.{value_limit, literal_limit, assignment_limit}
use Rattle.table.specs.Link.{literal_of, assignment_of, rule_of, literals_of, assignments_of}
use Rattle.names.specs.Names.{has_slot, has_value}
use Rattle.soundness.specs.Sound.{has_pair, named}
use Rattle.soundness.specs.inner.Right.{rule_right}

pub pair_lacking : (width : ℕ) (counts : List ℕ) (p : Pair) → has_slot width p.slot ≡ false → has_pair width counts p ≡ false
unfolding has_pair ◌∧ᵇ◌
pair_lacking width counts p e = rw e

pub pair_there : (width : ℕ) (counts : List ℕ) (p : Pair) → has_slot width p.slot ≡ true → has_pair width counts p ≡ (eqb p.value 0 ∨ᵇ has_value (get_or counts p.slot 0) p.value)
unfolding has_pair ◌∧ᵇ◌
pair_there width counts p e = rw e

pub pair_beyond : (width : ℕ) (counts : List ℕ) (p : Pair) → has_slot width p.slot ≡ true → value_limit < p.value → has_pair width counts p ≡ false
unfolding has_pair has_value ◌∧ᵇ◌ ◌∨ᵇ◌
pair_beyond width counts p e h = rw (e, ne_eqb p.value 0 (λ z. omega (arith, h, z)), le-leb 1 p.value (omega (arith, h)), lt-leb p.value value_limit h)

-- NONE is below every declared value, so one test tells both.
none_or_value : (count v : ℕ) → v ≤ value_limit → (eqb v 0 ∨ᵇ has_value count v) ≡ leb v count
unfolding has_value ◌∧ᵇ◌ ◌∨ᵇ◌
none_or_value count zero h = rw (le-leb 0 count (omega arith))
none_or_value count (suc v) h = rw (ne_eqb (suc v) 0 (λ z. omega (arith, z)), le-leb 1 (suc v) (omega arith), le-leb (suc v) value_limit h)

pub pair_within : (width : ℕ) (counts : List ℕ) (p : Pair) → has_slot width p.slot ≡ true → p.value ≤ value_limit → has_pair width counts p ≡ leb p.value (get_or counts p.slot 0)
pair_within width counts p e h = pair_there width counts p e ∙ none_or_value (get_or counts p.slot 0) p.value h

-- A test of the pairs of some literals, literal by literal.
pub all_pairs : (f : Pair → Bool) (ls : List Literal) → list_all (λ l. f (pair l.slot l.value)) ls ≡ all_of f (map (λ l. l.pair) (map literal_of ls))
unfolding all_of ◌∧ᵇ◌
all_pairs f [] = refl
all_pairs f (l ∷ ls) = go (f (pair l.slot l.value)) (all_pairs f ls)
  where
    go : (t : Bool) → list_all (λ l. f (pair l.slot l.value)) ls ≡ all_of f (map (λ l. l.pair) (map literal_of ls)) → t && list_all (λ l. f (pair l.slot l.value)) ls ≡ t ∧ᵇ all_of f (map (λ l. l.pair) (map literal_of ls))
    go true e = e
    go false e = refl

-- Some assignment assigns the slot.
any_assigns : (xs : List Assignment) (s : ℕ) → list_any (λ a. eqb a.slot s) xs ≡ assigns (map assignment_of xs) s
unfolding assigns ◌∨ᵇ◌
any_assigns [] s = refl
any_assigns (x ∷ xs) s = go (eqb x.slot s) (any_assigns xs s)
  where
    go : (t : Bool) → list_any (λ a. eqb a.slot s) xs ≡ assigns (map assignment_of xs) s → t || list_any (λ a. eqb a.slot s) xs ≡ t ∨ᵇ assigns (map assignment_of xs) s
    go true e = refl
    go false e = e

-- The same from place k on to place m.
pub any_from : (xs : List Assignment) (k m s : ℕ) → k ≤ m → list_any (λ a. eqb a.slot s) (take (m - k) (drop k xs)) ≡ assigns (drop k (map assignment_of (take m xs))) s
any_from xs k m s l =
    let e : k + (m - k) ≡ m = omega (arith, l) in
    rw (drop-map assignment_of k (take m xs), ← (drop-take k (m - k) xs), e) (any_assigns (drop k (take m xs)) s)

-- Both tests of some assignments.
unfoldable pub both_right : (Pair → Bool) → List Pair → Bool
both_right f ps = all_of f ps ∧ᵇ each_once ps

pub both_lacking : (f : Pair → Bool) (p : Pair) (ps : List Pair) → f p ≡ false → both_right f (p ∷ ps) ≡ false
unfolding both_right all_of ◌∧ᵇ◌
both_lacking f p ps e = rw e

pub both_twice : (f : Pair → Bool) (p : Pair) (ps : List Pair) → f p ≡ true → assigns ps p.slot ≡ true → both_right f (p ∷ ps) ≡ false
unfolding both_right all_of each_once notᵇ ◌∧ᵇ◌
both_twice f p ps e d = rw (e, d) (and_false (all_of f ps))

pub both_on : (f : Pair → Bool) (p : Pair) (ps : List Pair) → f p ≡ true → assigns ps p.slot ≡ false → both_right f (p ∷ ps) ≡ both_right f ps
unfolding both_right all_of each_once notᵇ ◌∧ᵇ◌
both_on f p ps e d = rw (e, d)

pub both_none : (f : Pair → Bool) → both_right f [] ≡ true
unfolding both_right all_of each_once ◌∧ᵇ◌
both_none f = refl

regroup : (a b t l s o : Bool) → (a ∧ᵇ b ∧ᵇ (t ∧ᵇ (l ∧ᵇ s)) ∧ᵇ o) ≡ (a ∧ᵇ (b ∧ᵇ (t ∧ᵇ (l ∧ᵇ (s ∧ᵇ o)))))
unfolding ◌∧ᵇ◌
regroup false b t l s o = refl
regroup true false t l s o = refl
regroup true true false l s o = refl
regroup true true true false s o = refl
regroup true true true true s o = refl

-- The tests of a rule in the order of the code: the limits, the trigger, the literals, the assignments.
pub right_is : (width : ℕ) (counts : List ℕ) (r : Rule)
    → rule_right width counts r ≡ (leb r.tested literal_limit ∧ᵇ (leb r.assigned assignment_limit ∧ᵇ (has_pair width counts (rule_of r).trigger ∧ᵇ (all_of (has_pair width counts) (map (λ l. l.pair) (literals_of r)) ∧ᵇ both_right (has_pair width counts) (assignments_of r)))))
unfolding rule_right named all_of both_right
right_is width counts r =
    rw (all_append (has_pair width counts) (map (λ l. l.pair) (literals_of r)) (assignments_of r))
    (regroup (leb r.tested literal_limit) (leb r.assigned assignment_limit) (has_pair width counts (rule_of r).trigger) (all_of (has_pair width counts) (map (λ l. l.pair) (literals_of r))) (all_of (has_pair width counts) (assignments_of r)) (each_once (assignments_of r)))

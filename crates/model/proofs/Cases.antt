-- The lettered cases A to H of document 01, computed from the definitions; of cases C and D what document 02, section 2, says.
-- Assumes nothing.
use Prim.Native.Nat.{zero, suc}
use native.Mathlib.Omega.{arith}
use mathlib.Core.Path.{◌≡◌, refl}
use mathlib.Core.Bool.{true}
use mathlib.Core.List.{[], ◌∷◌}
use mathlib.Core.Logic.{inl, inr}
use Rattle.model.specs.Strata.{weak}
use Rattle.model.specs.Circles.{circle_of}
use Rattle.model.specs.Causes.{FromInside, NoOutsideCause}
use Rattle.model.specs.Response.{response}
use Rattle.model.specs.Result.{pair}
use Rattle.model.proofs.CaseRules.{computes, x, y, z, v0, v1, rule_a, rule_b, rule_c, rule_d, rule_e, rule_h, all_0, no_values, strata_list, answer_of, answer}

-- A: changes x, z.
pub case_A : answer weak (rule_a ∷ []) all_0 (pair x v1 ∷ [])
    ≡ record { fired = 1 ∷ []; changed = pair x v1 ∷ pair z v1 ∷ []; card = v1 ∷ v0 ∷ v1 ∷ []; conflict = 3 }
unfolding computes answer answer_of
case_A = refl

-- B: change x only.
pub case_B : answer weak (rule_b ∷ []) all_0 (pair x v1 ∷ [])
    ≡ record { fired = []; changed = pair x v1 ∷ []; card = v1 ∷ v0 ∷ v0 ∷ []; conflict = 3 }
unfolding computes answer answer_of
case_B = refl

-- C: both rules fired; changes x, y, z.
pub case_C : answer weak (rule_a ∷ rule_b ∷ []) all_0 (pair x v1 ∷ [])
    ≡ record { fired = 1 ∷ 2 ∷ []; changed = pair x v1 ∷ pair y v1 ∷ pair z v1 ∷ []; card = v1 ∷ v1 ∷ v1 ∷ []; conflict = 3 }
unfolding computes answer answer_of
case_C = refl

-- Both are in stratum 1.
pub strata_C : strata_list weak (rule_a ∷ rule_b ∷ []) ≡ 1 ∷ 1 ∷ []
unfolding computes strata_list
strata_C = refl

-- D: accepted.
pub case_D : circle_of weak (rule_a ∷ rule_c ∷ []) ≡ 0
unfolding computes
case_D = refl

-- Both rules are in stratum 1.
pub strata_D : strata_list weak (rule_a ∷ rule_c ∷ []) ≡ 1 ∷ 1 ∷ []
unfolding computes strata_list
strata_D = refl

-- y to 1 fires neither.
pub idle_D : response weak (rule_a ∷ rule_c ∷ []) all_0 (pair y v1 ∷ []) ≡ []
unfolding computes
idle_D = refl

-- Neither has an outside cause: x to 1 comes of the second alone, z to 1 of the first alone, and the slip has neither.
pub uncaused_D : NoOutsideCause (rule_a ∷ rule_c ∷ []) all_0 (pair y v1 ∷ []) (λ n. true)
unfolding computes FromInside NoOutsideCause
uncaused_D zero i t = absurd (omega (arith, i.first))
uncaused_D (suc zero) i t = (pair x v1, tt, inr (λ h. h, λ m j h. tt))
uncaused_D (suc (suc zero)) i t = (pair z v1, tt, inr (λ h. h, λ m j h. tt))
uncaused_D (suc (suc (suc n))) i t = absurd (omega (arith, i.last))

-- Nor has the first on a card that has x to 1 already, whatever a slip repeats.
pub uncaused_had : NoOutsideCause (rule_a ∷ []) (v1 ∷ v0 ∷ v0 ∷ []) (pair x v1 ∷ []) (λ n. true)
unfolding computes FromInside NoOutsideCause
uncaused_had zero i t = absurd (omega (arith, i.first))
uncaused_had (suc zero) i t = (pair x v1, tt, inl tt)
uncaused_had (suc (suc n)) i t = absurd (omega (arith, i.last))

-- x to 1 fires the first, which wakes the second.
pub woken_D : answer weak (rule_a ∷ rule_c ∷ []) all_0 (pair x v1 ∷ [])
    ≡ record { fired = 1 ∷ 2 ∷ []; changed = pair x v1 ∷ pair z v1 ∷ []; card = v1 ∷ v0 ∷ v1 ∷ []; conflict = 3 }
unfolding computes answer answer_of
woken_D = refl

-- E: strata 2, 1; changes x, y; only rule 2 fired.
pub case_E : answer weak (rule_d ∷ rule_e ∷ []) all_0 (pair y v1 ∷ [])
    ≡ record { fired = 2 ∷ []; changed = pair x v1 ∷ pair y v1 ∷ []; card = v1 ∷ v1 ∷ v0 ∷ []; conflict = 3 }
unfolding computes answer answer_of
case_E = refl

-- The strata of case E.
pub strata_E : strata_list weak (rule_d ∷ rule_e ∷ []) ≡ 2 ∷ 1 ∷ []
unfolding computes strata_list
strata_E = refl

-- F: on a card without values only x changes.
pub case_F : answer weak (rule_a ∷ rule_b ∷ []) no_values (pair x v1 ∷ [])
    ≡ record { fired = []; changed = pair x v1 ∷ []; card = v1 ∷ 0 ∷ 0 ∷ []; conflict = 3 }
unfolding computes answer answer_of
case_F = refl

-- G: a slip that repeats the card's value fires no rule.
pub case_G : answer weak (rule_a ∷ []) all_0 (pair x v0 ∷ [])
    ≡ record { fired = []; changed = pair x v0 ∷ []; card = all_0; conflict = 3 }
unfolding computes answer answer_of
case_G = refl

-- H: 40, slot 0.
pub case_H : (answer weak (rule_h ∷ []) all_0 (pair x v1 ∷ [])).conflict ≡ 0
unfolding computes answer answer_of
case_H = refl

-- Case H has no circle: the pair tested is not the pair assigned.
pub no_circle_H : circle_of weak (rule_h ∷ []) ≡ 0
unfolding computes
no_circle_H = refl

-- The RL paper's declarative semantics in its own words: section 5, Definitions 1 and 2. A rule of the program is meant by its number.
use Rattle.std.specs.Prelude.{ℕ, zero, suc, ◌≡◌, Bool, false, List, [], ◌∷◌, ◌⊎◌, T, eqb, length}
use Rattle.laws.specs.Truth.{◌∨ᵇ◌}
use Rattle.laws.specs.Numbers.{Numbered}
use Rattle.model.specs.Rules.{Pair, Pairs, Rule, among, enabled}
use Rattle.model.specs.Orders.{rule_at, names, changes}
use Rattle.model.specs.Result.{pair}

-- A firing σ: a set of changes and a set of fired rules.
pub record Firing : Type 0 where
  pub changed : Pairs
  pub fired : ℕ → Bool

-- σ₀ = (I, ∅).
unfoldable pub first_firing : List Pair → Firing
first_firing I = record { changed = λ p. among p I; fired = λ n. false }

-- Rule r has fired: its assignments join the changes, and r joins the fired rules.
unfoldable pub fire : List Rule → Firing → ℕ → Firing
fire rs σ r = record { changed = λ p. among p (rule_at rs r).assignments ∨ᵇ σ.changed p; fired = λ n. eqb n r ∨ᵇ σ.fired n }

-- Definition 2, slot-consistent: no slot has two values among the changes.
unfoldable pub SlotConsistent : Firing → Type 0
SlotConsistent σ = (x v₁ v₂ : ℕ) → T (σ.changed (pair x v₁)) → T (σ.changed (pair x v₂)) → v₁ ≡ v₂

module _ (rs : List Rule) (S : List ℕ) where
  -- r is one of the rules not yet fired that are enabled at S and the changes.
  pub record Fireable (σ : Firing) (r : ℕ) : Type 0 where
    pub rule : Numbered (length rs) r
    pub unfired : ¬ T (σ.fired r)
    pub enabled_there : T (enabled S σ.changed (rule_at rs r))

  -- There is no such rule.
  unfoldable pub NoneFireable : Firing → Type 0
  NoneFireable σ = (r : ℕ) → ¬ Fireable σ r

  -- τ comes after σ: such a rule has fired, or there is none and τ is σ.
  unfoldable pub Follows : Firing → Firing → Type 0
  Follows σ τ = ((r : ℕ) × Fireable σ r × (τ ≡ fire rs σ r)) ⊎ (NoneFireable σ × (τ ≡ σ))

  -- Definition 1: a declarative response to the stimulus I.
  pub record DeclarativeResponse (I : List Pair) (σ : ℕ → Firing) : Type 0 where
    pub starts : σ 0 ≡ first_firing I
    pub goes_on : (i : ℕ) → Follows (σ i) (σ (suc i))

  -- Definition 2, of the last firing of a declarative response, where no rule is fireable; rule-consistent: every rule fired is enabled there.
  unfoldable pub RuleConsistent : Firing → Type 0
  RuleConsistent σ = (r : ℕ) → T (σ.fired r) → T (enabled S σ.changed (rule_at rs r))

  -- Definition 2, unambiguous: any declarative response that is rule-consistent and slot-consistent ends with the same changes.
  unfoldable pub Unambiguous : List Pair → Firing → Type 0
  Unambiguous I σ =
      (τ : ℕ → Firing) (k : ℕ) → DeclarativeResponse I τ → NoneFireable (τ k) → RuleConsistent (τ k) → SlotConsistent (τ k) → (τ k).changed ≡ σ.changed

  -- Definition 2, correct: all three.
  pub record Correct (I : List Pair) (σ : Firing) : Type 0 where
    pub rule_consistent : RuleConsistent σ
    pub slot_consistent : SlotConsistent σ
    pub unambiguous : Unambiguous I σ

module _ (rs : List Rule) (I : List Pair) where
  -- The firing at which the rules of a list have fired.
  unfoldable pub firing_of : List ℕ → Firing
  firing_of done = record { changed = changes rs I done; fired = names done }

  -- The firings of a list of rules, one after the other, where those of `done` have fired; the last one stays.
  unfoldable pub firings_from : List ℕ → List ℕ → ℕ → Firing
  firings_from done ns zero = firing_of done
  firings_from done [] (suc i) = firing_of done
  firings_from done (n ∷ ns) (suc i) = firings_from (n ∷ done) ns i

  -- The sequence of firings of a firing order.
  unfoldable pub firings : List ℕ → ℕ → Firing
  firings ns = firings_from [] ns

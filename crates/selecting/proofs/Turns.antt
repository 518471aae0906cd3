-- What ends the sweeps: each rule looked at is one less, each mark makes a rule done, and a sweep that moves nothing is the last.
-- Assumes nothing.
use mathlib.Core.Path.{◌≡◌, refl, ◌∙◌}
use mathlib.Core.Bool.{Bool, true, false, cond}
use mathlib.Core.List.{List}
use Prim.Native.Nat.{ℕ, zero, suc, ◌+◌, ◌-◌, ◌*◌, ◌≤◌, ◌<◌}
use native.Mathlib.Omega.{arith}
use lib.ListN.{length, get_or, set, length-set}
use Rattle.laws.specs.Limits.{rule_limit}
use Rattle.laws.specs.inner.Flags.{flags_set}
use Rattle.laws.proofs.Flags.{flags_more, flags_top}
use Rattle.rows.proofs.Laws.{at_last}
use Rattle.testing.specs.inner.Waiting.{turn_or}
use Rattle.testing.specs.declared.waiting.Turn.{Turn}
use Rattle.testing.proofs.Lists.{or_place, or_less}

module _ (k : ℕ) (woken : List ℕ) where
  -- The place stays within the rules,
  pub turn_place : (left : ℕ) (u : Turn) → u ≡ turn_or k k woken left → (n : ℕ) → k < n + left → k ≤ n → u.place ≤ n
  turn_place zero u e n h l = rw e (omega (arith, h))
  turn_place (suc left) u e n h l = rw e l

  -- and a place passed is that of the rule or was passed before.
  pub turn_seen : (left : ℕ) (u : Turn) → u ≡ turn_or k k woken left → (P : ℕ → Type 0) → ((i : ℕ) → i < k → P i) → P u.rule → (i : ℕ) → i < u.place → P i
  turn_seen zero u e P seen here i h = at_last P k seen (rw e at here) i (rw e at h)
  turn_seen (suc left) u e P seen here i h = seen i (rw e at h)

-- How many places of rules are not done, each counted for being unfired and for not being dead.
unfoldable pub open_rules : List Bool → List Bool → ℕ
open_rules fired dead = (length fired + length dead) - (flags_set fired + flags_set dead)

-- In a sweep what has fired and what is dead stays, and where something moved there is more.
pub record Kept (fired₀ dead₀ fired dead : List Bool) (moved : Bool) : Type 0 where
  pub fired_size : length fired ≡ length fired₀
  pub dead_size : length dead ≡ length dead₀
  pub no_more_open : open_rules fired dead ≤ open_rules fired₀ dead₀
  pub fewer_open : moved ≡ true → open_rules fired dead < open_rules fired₀ dead₀

open_fired : (fired dead : List Bool) (i : ℕ) → i < length fired → get_or fired i false ≡ false → open_rules (set fired i true) dead < open_rules fired dead
unfolding open_rules
open_fired fired dead i h e =
    let m = flags_more fired i h e in
    let t = flags_top (set fired i true) in
    let u = flags_top dead in
    let l = length-set fired i true in
    omega arith

open_dead : (fired dead : List Bool) (i : ℕ) → i < length dead → get_or dead i false ≡ false → open_rules fired (set dead i true) < open_rules fired dead
unfolding open_rules
open_dead fired dead i h e =
    let m = flags_more dead i h e in
    let t = flags_top (set dead i true) in
    let u = flags_top fired in
    let l = length-set dead i true in
    omega arith

module _ (fired₀ dead₀ fired dead : List Bool) (moved : Bool) (i : ℕ) (k : Kept fired₀ dead₀ fired dead moved) where
  -- A rule fires.
  pub kept_fire : i < length fired → get_or fired i false ≡ false → Kept fired₀ dead₀ (set fired i true) dead true
  kept_fire h e =
      let m = open_fired fired dead i h e in
      record { fired_size = length-set fired i true ∙ k.fired_size; dead_size = k.dead_size; no_more_open = omega (arith, k.no_more_open); fewer_open = λ z. omega (arith, k.no_more_open) }

  -- A rule is found False.
  pub kept_kill : i < length dead → get_or dead i false ≡ false → Kept fired₀ dead₀ fired (set dead i true) true
  kept_kill h e =
      let m = open_dead fired dead i h e in
      record { fired_size = k.fired_size; dead_size = length-set dead i true ∙ k.dead_size; no_more_open = omega (arith, k.no_more_open); fewer_open = λ z. omega (arith, k.no_more_open) }

-- How much a sweep may still look at: each rule that is done may wake others.
unfoldable pub turns_left : List Bool → List Bool → ℕ → ℕ → ℕ → ℕ
turns_left fired dead n k left = open_rules fired dead * (rule_limit + 1) + (left + (n - k))

module _ (woken : List ℕ) (fired dead : List Bool) (n k left : ℕ) (u : Turn) (e : u ≡ turn_or k k woken left) (h : k < n + left) where
  pub turn_over : turns_left fired dead n u.place u.left < turns_left fired dead n k left
  unfolding turns_left
  turn_over = omega (arith, or_less k k woken left u e n h)

  module _ (left' i : ℕ) (few : left' ≤ n) (top : n ≤ rule_limit) where
    pub turn_fire : i < length fired → get_or fired i false ≡ false → turns_left (set fired i true) dead n u.place left' < turns_left fired dead n k left
    unfolding turns_left
    turn_fire l o = let m = open_fired fired dead i l o in omega (arith, m, or_place k k woken left u e)

    pub turn_kill : i < length dead → get_or dead i false ≡ false → turns_left fired (set dead i true) n u.place left' < turns_left fired dead n k left
    unfolding turns_left
    turn_kill l o = let m = open_dead fired dead i l o in omega (arith, m, or_place k k woken left u e)

-- How many sweeps may still come.
unfoldable pub sweeps_left : List Bool → List Bool → Bool → ℕ
sweeps_left fired dead moved = open_rules fired dead * 2 + cond moved 1 0

pub sweep_less : (fired₀ dead₀ fired dead : List Bool) (moved : Bool) → Kept fired₀ dead₀ fired dead moved → sweeps_left fired dead moved < sweeps_left fired₀ dead₀ true
unfolding sweeps_left
sweep_less fired₀ dead₀ fired dead true k = omega (arith, k.fewer_open refl)
sweep_less fired₀ dead₀ fired dead false k = omega (arith, k.no_more_open)

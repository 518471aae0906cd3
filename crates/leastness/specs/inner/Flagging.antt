-- Flags at the pairs that a justified rule assigns at their highest number, and the queue of the places flagged.
-- A reader need not believe what stands here: `carries_least` says what is tested.
use Rattle.std.specs.Prelude.{Bool, true, false, cond, List, [], ◌∷◌, ◌≡◌, ℕ, ◌+◌, eqb, length, get_or, set}
use Rattle.laws.specs.Truth.{◌∧ᵇ◌, notᵇ}
use Rattle.laws.specs.inner.Flags.{flags_set}
use Rattle.model.specs.Rules.{Pair}
use Rattle.table.specs.inner.Flat.{place_of, pair_places}

-- Flags at pairs, and the places flagged in the order in which they were.
pub record Flagging : Type 0 where
  pub flags : List Bool
  pub queue : List ℕ
  pub top : ℕ

abbrev pub flagging : List Bool → List ℕ → ℕ → Flagging
flagging fl q n = record { flags = fl; queue = q; top = n }

-- As many places are flagged as stand in the queue.
pub record Room (fl : List Bool) (top : ℕ) : Type 0 where
  pub flag_places : length fl ≡ pair_places
  pub counted : flags_set fl ≡ top

-- One pair flagged, if it has the number s and is not flagged yet.
unfoldable pub flag_one : List ℕ → ℕ → Pair → Flagging → Flagging
flag_one hs s p m =
    cond (eqb (get_or hs (place_of p) 0) s ∧ᵇ notᵇ (get_or m.flags (place_of p) false))
    (record { flags = set m.flags (place_of p) true; queue = set m.queue m.top (place_of p); top = m.top + 1 }) m

-- The pairs of a list.
unfoldable pub flag_all : List ℕ → ℕ → List Pair → Flagging → Flagging
flag_all hs s [] m = m
flag_all hs s (p ∷ ps) m = flag_all hs s ps (flag_one hs s p m)

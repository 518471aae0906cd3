-- What adding links and joining rows do to the relation that the words stand for.
-- Assumes nothing.
use mathlib.Core.Path.{◌≡◌, refl, ◌∙◌}
use mathlib.Core.List.{List}
use mathlib.Core.Logic.{◌⊎◌, inl, inr, ⊎_elim}
use Prim.Native.Nat.{ℕ, zero, suc, ◌+◌, ◌*◌, ◌^◌, ◌/◌, ◌%◌, ◌≤◌, ◌<◌}
use native.Mathlib.Nat.{eq-or-lt_of_le}
use native.Mathlib.Omega.{arith}
use lib.Bits.{bit_or}
use lib.Dec.{T}
use lib.ListN.{length, get_or, length-set, length-replicate}
use lib.Seq.{get_or-set_same, get_or-set_other}
use Rattle.laws.specs.Truth.{◌∨ᵇ◌}
use Rattle.laws.specs.Words.{bit}
use Rattle.laws.proofs.Truth.{or_l, or_r, or_e}
use Rattle.laws.proofs.Equations.{from_true, either}
use Rattle.laws.proofs.Words.{bit_or_by_places, bit_none, bit_own, bit_other}
use Rattle.laws.proofs.Filled.{replicate_at}
use Rattle.table.specs.inner.Flat.{pair_places}
use Rattle.circles.specs.inner.Links.{pair_words, all_words, word_at, linked, no_links, add_link, join_words}

pub no_links_length : length no_links ≡ all_words
unfolding no_links
no_links_length = length-replicate {A = ℕ} all_words 0

zero_word : (x : ℕ) → ◌≡◌ {A = ℕ} (get_or no_links x 0) 0
unfolding no_links
zero_word x = replicate_at {A = ℕ} all_words 0 x

pub no_link : (a b : ℕ) → ¬ T (linked no_links a b)
unfolding linked
no_link a b t = rw (zero_word (word_at a b), bit_none (b % 64)) at t

module _ (ws : List ℕ) (full : length ws ≡ all_words) (p q : ℕ) (hp : p < pair_places) (hq : q < pair_places) where
  pub link_length : length (add_link ws p q) ≡ all_words
  unfolding add_link
  link_length = length-set ws _ _ ∙ full

  -- The word with the link, and any other.
  own_word : get_or (add_link ws p q) (word_at p q) 0 ≡ bit_or (get_or ws (word_at p q) 0) (2 ^ (q % 64))
  unfolding add_link
  own_word = get_or-set_same ws (word_at p q) _ 0 (omega arith)

  other_word : (x : ℕ) → (x ≡ word_at p q → ⊥) → get_or (add_link ws p q) x 0 ≡ get_or ws x 0
  unfolding add_link
  other_word x n = get_or-set_other ws (word_at p q) x _ 0 n

  pub link_here : T (linked (add_link ws p q) p q)
  unfolding linked
  link_here = rw (own_word, bit_or_by_places) (or_r (bit (get_or ws (word_at p q) 0) (q % 64)) _ (from_true (bit (2 ^ (q % 64)) (q % 64)) (bit_own (q % 64))))

  pub link_kept : (a b : ℕ) → T (linked ws a b) → T (linked (add_link ws p q) a b)
  unfolding linked
  link_kept a b t = ⊎_elim
      (λ (e : word_at a b ≡ word_at p q). rw (e, own_word, bit_or_by_places) (or_l (bit (get_or ws (word_at p q) 0) (b % 64)) _ (rw e at t)))
      (λ n. rw (other_word (word_at a b) n) t) (either (word_at a b) (word_at p q))

  pub link_from : (a b : ℕ) → b < pair_places → T (linked (add_link ws p q) a b) → ((a ≡ p) × (b ≡ q)) ⊎ T (linked ws a b)
  unfolding linked
  link_from a b hb t = ⊎_elim
      (λ (e : word_at a b ≡ word_at p q). ⊎_elim
      (λ u. inr (rw e u))
      (λ u. inl (⊎_elim (λ (d : b % 64 ≡ q % 64). (omega arith, omega arith)) (λ n. absurd (rw (bit_other (q % 64) (b % 64) n) at u)) (either (b % 64) (q % 64))))
      (or_e _ _ (rw (e, own_word, bit_or_by_places) at t)))
      (λ n. inr (rw (other_word (word_at a b) n) at t)) (either (word_at a b) (word_at p q))

module _ (ws : List ℕ) (full : length ws ≡ all_words) (p k : ℕ) (hp : p < pair_places) (hk : k < pair_places) where
  pub join_length : (w : ℕ) → length (join_words ws p k w) ≡ all_words
  unfolding join_words
  join_length zero = full
  join_length (suc w) = length-set (join_words ws p k w) _ _ ∙ join_length w

  -- The words of other rows, and the words of row p from w on, are as before.
  rest_word : (w x : ℕ) → ((v : ℕ) → v < w → x ≡ p * pair_words + v → ⊥) → get_or (join_words ws p k w) x 0 ≡ get_or ws x 0
  unfolding join_words
  rest_word zero x n = refl
  rest_word (suc w) x n = get_or-set_other (join_words ws p k w) (p * pair_words + w) x _ 0 (n w (omega arith)) ∙ rest_word w x (λ v h. n v (omega arith))

  -- The words of row p before w are joined with those of row k.
  joined_word : (w v : ℕ) → w ≤ pair_words → v < w → get_or (join_words ws p k w) (p * pair_words + v) 0 ≡ bit_or (get_or ws (p * pair_words + v) 0) (get_or ws (k * pair_words + v) 0)
  unfolding join_words
  joined_word zero v h l = absurd (omega arith)
  joined_word (suc w) v h l = ⊎_elim
      (λ (e : v ≡ w). rw (e, get_or-set_same (join_words ws p k w) (p * pair_words + w) _ 0 (omega (arith, join_length w)), rest_word w (p * pair_words + w) (λ u i z. omega arith), rest_word w (k * pair_words + w) (λ u i z. omega arith)))
      (λ (i : v < w). get_or-set_other (join_words ws p k w) (p * pair_words + w) (p * pair_words + v) _ 0 (λ (z : p * pair_words + v ≡ p * pair_words + w). omega arith) ∙ joined_word w v (omega arith) i)
      (eq-or-lt_of_le (let z : v ≤ w = omega arith in z))

  own_row : (b : ℕ) → b < pair_places → linked (join_words ws p k pair_words) p b ≡ (linked ws p b ∨ᵇ linked ws k b)
  unfolding linked
  own_row b h = rw (joined_word pair_words (b / 64) (omega arith) (omega arith), bit_or_by_places)

  other_row : (a b : ℕ) → b < pair_places → (a ≡ p → ⊥) → linked (join_words ws p k pair_words) a b ≡ linked ws a b
  unfolding linked
  other_row a b h n = rw (rest_word pair_words (word_at a b) (λ v l z. n (omega arith)))

  pub join_kept : (a b : ℕ) → b < pair_places → T (linked ws a b) → T (linked (join_words ws p k pair_words) a b)
  join_kept a b h t = ⊎_elim (λ (e : a ≡ p). rw (e, own_row b h) (or_l _ _ (rw e at t))) (λ n. rw (other_row a b h n) t) (either a p)

  pub join_gets : (b : ℕ) → b < pair_places → T (linked ws k b) → T (linked (join_words ws p k pair_words) p b)
  join_gets b h t = rw (own_row b h) (or_r _ _ t)

  pub join_from : (a b : ℕ) → b < pair_places → T (linked (join_words ws p k pair_words) a b) → T (linked ws a b) ⊎ ((a ≡ p) × T (linked ws k b))
  join_from a b h t = ⊎_elim
      (λ (e : a ≡ p). ⊎_elim (λ u. inl (rw e u)) (λ u. inr (e, u)) (or_e _ _ (rw (e, own_row b h) at t)))
      (λ n. inl (rw (other_row a b h n) at t)) (either a p)

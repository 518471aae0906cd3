-- Where a refusal stands, and why: at the earliest token with a fault, with the smallest number of its faults.
-- Assumes nothing.
use Prim.Native.Nat.{ℕ, ◌≤◌, ◌<◌}
use native.Mathlib.Omega.{arith}
use native.Mathlib.Nat.{eq-or-lt_of_le}
use mathlib.Core.Path.{◌≡◌, refl, sym, ap, ap₂, subst, ◌∙◌}
use mathlib.Core.Bool.{Bool, true, false, cond}
use mathlib.Core.List.{List, [], ◌∷◌, ◌++◌, append_assoc}
use mathlib.Core.Logic.{◌↔◌, ◌⊎◌, inl, inr, ⊎_elim}
use lib.Dec.{leb}
use lib.ListN.{length}
use borrow.Author.Tests.{leb-true, leb-false}
use Rattle.laws.proofs.Lists.{two_cuts}
use Rattle.laws.proofs.Truth.{le_or_lt}
use Rattle.text.specs.Tokens.{Token, bad, tokens}
use Rattle.laws.specs.Limits.{rule_limit, text_limit}
use Rattle.grammar.specs.Reading.{refused, read_tokens, parse, parse_within}
use Rattle.grammar.specs.Refusals.{Fault, no_token, Faultless, Completed, StandsAt, Decided, FoundByCutting, StuckFirst}
use Rattle.grammar.proofs.Forward.{read_short, read_long}
use Rattle.grammar.proofs.Halting.{refused_same}
use Rattle.grammar.proofs.Counted.{one_count}
use Rattle.grammar.proofs.Faults.{fault_range, fault_later, stuck_of, stuck_fault, stuck_first, end_of, by_least}
use Rattle.grammar.proofs.Placed.{Placed, placed, same_rest, refused_there, clean_faultless, faultless_clean}

-- A refusal of tokens stands at one of them, or at their end.
pub tokens_stand : (ts : List Token) (k n : ℕ) → read_tokens rule_limit ts ≡ refused k n → StandsAt ts k n
tokens_stand ts k n e =
    let s = placed ts k n e in record {
      before = s.before;
      after = s.after;
      whole = s.whole;
      faultless = clean_faultless s.before n s.goes_on s.no_fault;
      fault = s.fault;
      smallest = smallest s;
      completed = s.completed;
    }
  where
    smallest : (s : Placed ts k n) (j : ℕ) → j < k → ¬ Fault j s.before s.after
    smallest s j l f =
        by_least (λ i. (i < k) × Fault i s.before s.after)
        (λ i x least. let z = refused_same i n k n (sym (refused_there s.before s.after i n s.goes_on s.no_fault x.1 (λ h m g. least h m (omega (arith, x.0), g))) ∙ ap (read_tokens rule_limit) (sym s.whole) ∙ e) in
        omega (arith, x.0, z.0)) j (l, f)

-- The earliest place with a fault is one.
same_place : (xs ys zs ws : List Token) (j k : ℕ) → xs ++ ys ≡ zs ++ ws → Faultless xs → Fault j xs ys → Faultless zs → Fault k zs ws → xs ≡ zs
same_place xs ys zs ws j k e f a g b =
    ⊎_elim (λ q. q)
    (λ x. ⊎_elim (λ q. absurd (f zs q.0 q.1 q.3 k (fault_later k zs q.0 q.2 q.1 (subst (Fault k zs) q.4 b))))
    (λ q. absurd (g xs q.0 q.1 q.3 j (fault_later j xs q.0 q.2 q.1 (subst (Fault j xs) q.4 a)))) x)
    (two_cuts xs ys zs ws e)

-- The refusal of tokens is one: its place, its number and its second number.
pub one_place : (ts : List Token) (j m k n : ℕ) (a : StandsAt ts j m) (b : StandsAt ts k n) → (a.before ≡ b.before) × (j ≡ k) × (m ≡ n)
one_place ts j m k n a b = (place, number, one_count b.before m n (subst (λ (l : List Token). Completed l m) place a.completed) b.completed)
  where
    place : a.before ≡ b.before
    place = same_place a.before a.after b.before b.after j k (sym a.whole ∙ b.whole) a.faultless a.fault b.faultless b.fault

    there : Fault j b.before b.after
    there = subst (Fault j b.before) (sym (same_rest a.before a.after b.before b.after place (sym a.whole ∙ b.whole))) (subst (λ (l : List Token). Fault j l a.after) place a.fault)

    back : Fault k a.before a.after
    back = subst (Fault k a.before) (same_rest a.before a.after b.before b.after place (sym a.whole ∙ b.whole)) (subst (λ (l : List Token). Fault k l b.after) (sym place) b.fault)

    number : j ≡ k
    number =
        ⊎_elim (λ h. ⊎_elim (λ (x : k ≡ j). sym x) (λ x. absurd (a.smallest k x back)) (eq-or-lt_of_le h)) (λ h. absurd (b.smallest j h there)) (le_or_lt k j)

-- Tokens are refused with `k` and second number `n` exactly where `k` is the smallest fault of the earliest token that has one, or of their end, and `n` rules are completed before it.
pub refused_iff : (ts : List Token) (k n : ℕ) → (read_tokens rule_limit ts ≡ refused k n) ↔ StandsAt ts k n
refused_iff ts k n = (tokens_stand ts k n, back)
  where
    back : StandsAt ts k n → read_tokens rule_limit ts ≡ refused k n
    back a =
        let x = faultless_clean a.before a.faultless in
        let m = x.1.0 in
        let e : read_tokens rule_limit ts ≡ refused k m = ap (read_tokens rule_limit) a.whole ∙ refused_there a.before a.after k m x.0 x.1.1 a.fault a.smallest in
        e ∙ ap (refused k) (one_place ts k m k n (tokens_stand ts k m e) a).2

-- It is the same whatever follows the token.
pub whatever_follows : (ts : List Token) (k n : ℕ) (a : StandsAt ts k n) → Decided k n a.before a.after
whatever_follows ts k n a = go a.after a.fault a.smallest
  where
    go : (after : List Token) → Fault k a.before after → ((j : ℕ) → j < k → ¬ Fault j a.before after) → Decided k n a.before after
    go [] f least = tt
    go (t ∷ rest) f least = λ later. (refused_iff (a.before ++ t ∷ later) k n).1 (record {
      before = a.before;
      after = t ∷ later;
      whole = refl;
      faultless = a.faultless;
      fault = fault_later k a.before t rest later f;
      smallest = λ j l g. least j l (fault_later j a.before t later rest g);
      completed = a.completed;
    })

-- What begins tokens without a fault has none.
faultless_front : (front rest : List Token) → Faultless (front ++ rest) → Faultless front
faultless_front front rest h before t later w k f =
    h before t (later ++ rest) (ap (λ (l : List Token). l ++ rest) w ∙ append_assoc before (t ∷ later) rest) k (fault_later k before t later (later ++ rest) f)

-- Tokens without a fault, and a bad one behind them, are refused with 11.
bad_behind : (front later : List Token) → Faultless front → (m : ℕ) × (read_tokens rule_limit (front ++ bad ∷ later) ≡ refused 11 m)
bad_behind front later h =
    let x = faultless_clean front h in
    (x.1.0, refused_there front (bad ∷ later) 11 x.1.0 x.0 x.1.1 no_token (λ j l f. let r = fault_range j front (bad ∷ later) f in omega (arith, l, r.0)))

-- Tokens without a fault are not refused with 11.
no_eleven : (front : List Token) (m : ℕ) → Faultless front → ¬ (read_tokens rule_limit front ≡ refused 11 m)
no_eleven front m h e = let s = tokens_stand front 11 m e in at s s.after refl
  where
    at : (s : StandsAt front 11 m) (after : List Token) → s.after ≡ after → ⊥
    at s [] q = let z = end_of 11 s.before (subst (Fault 11 s.before) q s.fault) in omega (arith, z)
    at s (t ∷ later) q = h s.before t later (s.whole ∙ ap (λ (l : List Token). s.before ++ l) q) 11 (subst (Fault 11 s.before) q s.fault)

-- The place of a refusal is found by cutting.
pub found_by_cutting : (ts : List Token) (k n : ℕ) (a : StandsAt ts k n) → FoundByCutting k n a.before a.after
found_by_cutting ts k n a = record {
  cut_before = λ front rest later e. bad_behind front later (faultless_front front rest (subst Faultless e a.faultless));
  cut_alone = λ front rest m e. no_eleven front m (faultless_front front rest (subst Faultless e a.faultless));
  cut_behind = whatever_follows ts k n a;
}

-- A text is refused with 10 for its length, or its refusal stands at one of its tokens or at its end.
pub refusal_stands : (text : List ℕ) (k n : ℕ) → parse text ≡ refused k n
    → ((k ≡ 10) × (n ≡ 0) × (text_limit < length text)) ⊎ ((length text ≤ text_limit) × StandsAt (tokens text) k n)
unfolding parse_within
refusal_stands text k n e = go (leb (length text) text_limit) refl e
  where
    go : (t : Bool) → leb (length text) text_limit ≡ t → cond t (read_tokens rule_limit (tokens text)) (refused 10 0) ≡ refused k n
        → ((k ≡ 10) × (n ≡ 0) × (text_limit < length text)) ⊎ ((length text ≤ text_limit) × StandsAt (tokens text) k n)
    go true q x = inr (leb-true (length text) text_limit q, tokens_stand (tokens text) k n x)
    go false q x = let z = refused_same 10 0 k n x in inl (sym z.0, sym z.1, leb-false (length text) text_limit q)

-- A text is refused with 10 exactly for its length, and with 11 to 17 exactly for the earliest of its tokens with a fault, or for its end.
pub text_refused_iff : (text : List ℕ) (k n : ℕ) → (parse text ≡ refused k n) ↔ (((k ≡ 10) × (n ≡ 0) × (text_limit < length text)) ⊎ ((length text ≤ text_limit) × StandsAt (tokens text) k n))
text_refused_iff text k n = (refusal_stands text k n, back)
  where
    back : ((k ≡ 10) × (n ≡ 0) × (text_limit < length text)) ⊎ ((length text ≤ text_limit) × StandsAt (tokens text) k n) → parse text ≡ refused k n
    back x = ⊎_elim (λ y. read_long text_limit rule_limit text y.2 ∙ sym (ap₂ refused y.0 y.1)) (λ y. read_short text_limit rule_limit text y.0 ∙ (refused_iff (tokens text) k n).1 y.1) x

-- Refusal 12 stands exactly at the first token with which no derivation goes on, or at the end of an unfinished one, where no other fault comes before it.
pub twelve_iff : (ts : List Token) (n : ℕ) → (read_tokens rule_limit ts ≡ refused 12 n) ↔ StuckFirst ts n
twelve_iff ts n = (there, back)
  where
    there : read_tokens rule_limit ts ≡ refused 12 n → StuckFirst ts n
    there e = let s = tokens_stand ts 12 n e in record {
      before = s.before;
      after = s.after;
      whole = s.whole;
      faultless = s.faultless;
      stuck = stuck_of 12 s.before s.after refl s.fault;
      completed = s.completed;
    }

    back : StuckFirst ts n → read_tokens rule_limit ts ≡ refused 12 n
    back s = (refused_iff ts 12 n).1 (record {
      before = s.before;
      after = s.after;
      whole = s.whole;
      faultless = s.faultless;
      fault = stuck_fault s.before s.after s.stuck;
      smallest = stuck_first s.before s.after s.stuck;
      completed = s.completed;
    })

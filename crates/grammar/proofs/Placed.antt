-- The place of refused tokens: a fault at it, none before it, and the other way round.
-- Assumes nothing.
use Prim.Native.Nat.{ℕ, ◌≤◌, ◌<◌}
use native.Mathlib.Omega.{arith}
use mathlib.Core.Path.{◌≡◌, refl, sym, ap, ap₂, subst, ◌∙◌}
use mathlib.Core.Bool.{false}
use mathlib.Core.List.{List, [], ◌∷◌, ◌++◌, append_assoc, append-nil, append_cancel_left}
use mathlib.Core.Logic.{inl, inr, ⊎_elim}
use lib.ListN.{length, length-append}
use Rattle.laws.proofs.Lists.{two_cuts}
use Rattle.text.specs.Tokens.{Token, word, name, long, bad}
use Rattle.laws.specs.Limits.{rule_limit, slot_limit}
use Rattle.grammar.specs.Files.{File}
use Rattle.grammar.specs.Grammar.{FileTree, spell}
use Rattle.grammar.specs.Beginnings.{Position, Before, FaultAt}
use Rattle.grammar.specs.Reading.{Parsed, accepted, refused, read_tokens}
use Rattle.grammar.specs.Refusals.{GoesOn, OutOfPlace, Fault, no_token, no_place, ends_inside, too_long, in_place, Faultless, Completed, Decided, Stuck}
use Rattle.grammar.proofs.Backward.{refused_never, file_same, tokens_back}
use Rattle.grammar.proofs.Stopping.{is_bad, same_token, any_name, Cause, bad_token, wrong_token, the_end, long_name, later_fault, WhateverFollows}
use Rattle.grammar.proofs.Parts.{x_name}
use Rattle.grammar.proofs.Halting.{Clean, Halt, BeginsFile, FileDone, lines_halt, FitsFile, lines_fit, refused_same}
use Rattle.grammar.proofs.Reaching.{fault_refused}
use Rattle.grammar.proofs.Causes.{found}
use Rattle.grammar.proofs.Faults.{goes_front, goes_first, goes_written, out_never, from_fourteen, fault_later, stuck_of, eleven_of, end_of, thirteen_of, by_least}

goes : (ts : List Token) → BeginsFile ts → GoesOn ts
goes ts b = record { tree = record { lines = b.0; rules = b.1 }; more = b.2; derives = b.3 }

-- Where refused tokens halt, and which statements stand before that.
halt_of : (ts : List Token) (k n : ℕ) → read_tokens rule_limit ts ≡ refused k n → Halt BeginsFile (read_tokens rule_limit) (FileDone n) ts k n
unfolding read_tokens
halt_of ts k n e = lines_halt slot_limit [] ts k n e

-- No derivation is refused with 12.
derived_fits : (tree : FileTree) (n : ℕ) → read_tokens rule_limit (spell tree) ≡ refused 12 n → ⊥
unfolding read_tokens
derived_fits tree n e = let h : 14 ≤ 12 = subst FitsFile e (lines_fit tree.lines tree.rules slot_limit []) in omega arith

-- A token that is refused with 12 whatever follows is out of place.
out : (before : List Token) (t : Token) (n : ℕ) → is_bad t ≡ false → WhateverFollows (λ us. read_tokens rule_limit us ≡ refused 12 n) 12 before (t ∷ []) → OutOfPlace before t
out before (word w) n q d = λ g. derived_fits g.tree n (ap (read_tokens rule_limit) (g.derives ∙ rw append_assoc) ∙ d (word w) same_token g.more)
out before (name m) n q d = λ g. derived_fits g.tree n (ap (read_tokens rule_limit) (g.derives ∙ rw append_assoc) ∙ d (name m) same_token g.more)
out before long n q d = λ m g. derived_fits g.tree n (ap (read_tokens rule_limit) (g.derives ∙ rw append_assoc) ∙ d (name m) (any_name refl m) g.more)
out before bad n q d = let z : ◌≡◌ {A = ℕ} 0 1 = cc in absurd (omega arith)

-- No fault was found in these tokens, from which a derivation goes on: they are read to their end, which is inside a statement (12) or accepted, with `n` rules completed.
abbrev pub NoFault : List Token → ℕ → Type 0
NoFault ts n = Clean (read_tokens rule_limit) n ts

-- Tokens without a fault are refused with no other number than 12.
clean_twelve : (ts : List Token) (k m n : ℕ) → NoFault ts n → read_tokens rule_limit ts ≡ refused k m → k ≡ 12
clean_twelve ts k m n c e = ⊎_elim (λ x. (refused_same k m 12 n (sym e ∙ x)).0) (λ x. refused_never k m x.0 (sym e ∙ x.1)) c

-- The rules completed by tokens without a fault are as many as they are.
same_count : (before : List Token) (m n : ℕ) → NoFault before m → NoFault before n → m ≡ n
same_count before m n a b =
    ⊎_elim (λ x. ⊎_elim (λ y. (refused_same 12 m 12 n (sym x ∙ y)).1) (λ y. refused_never 12 m y.0 (sym x ∙ y.1)) b)
    (λ x. ⊎_elim (λ y. refused_never 12 n x.0 (sym y ∙ x.1)) (λ y. sym x.2 ∙ ap (λ (f : File). length f.rules) (file_same x.0 y.0 (sym x.1 ∙ y.1)) ∙ y.2) b) a

-- No token that has a fault at its position is passed.
none_passed : (ts : List Token) (P : Position) (t : Token) (us : List Token) (n : ℕ) → Before ts P → NoFault (ts ++ t ∷ us) n → (k : ℕ) → ¬ FaultAt k P t
none_passed ts P t us n b c =
    by_least (λ k. FaultAt k P t) (λ k f least. let x = fault_refused ts P t us k b f least in
    let r = from_fourteen k P t f in
    let z = clean_twelve (ts ++ t ∷ us) k x.0 n c x.1 in omega (arith, r.0, z))

pub same_rest : (xs ys zs ws : List Token) → xs ≡ zs → xs ++ ys ≡ zs ++ ws → ws ≡ ys
same_rest xs ys zs ws q e = append_cancel_left zs ws ys (sym e ∙ ap (λ (l : List Token). l ++ ys) q)

heads : {t u : Token} {ts us : List Token} → t ∷ ts ≡ u ∷ us → t ≡ u
heads e = cc

-- A token refused with a number from 14 on, where no token before it has a fault, has that fault.
cause_of : (mid : List Token) (t : Token) (k n : ℕ) → 14 ≤ k → NoFault mid n → read_tokens rule_limit (mid ++ t ∷ []) ≡ refused k n → Fault k mid (t ∷ [])
cause_of mid t k n lo c e =
    let f = found (mid ++ t ∷ []) k n lo e in
    ⊎_elim (λ q. subst (λ (l : List Token). Fault k l (t ∷ [])) (sym q)
    (subst (λ (u : Token). Fault k f.before (u ∷ [])) (heads (same_rest mid (t ∷ []) f.before (f.token ∷ f.later) q f.whole)) (in_place f.begun f.fault)))
    (λ x. ⊎_elim (λ q. absurd (none_passed f.before f.position f.token q.1 n f.begun
    (subst (λ (l : List Token). NoFault l n) (q.3 ∙ ap (λ (u : Token). f.before ++ u ∷ q.1) (sym (heads q.4))) c) k f.fault))
    (λ q. absurd (
    let a = ap length f.whole in
    let b = ap length q.3 in
    let i = length-append mid (t ∷ []) in
    let j = length-append f.before (f.token ∷ f.later) in
    let l = length-append mid (q.0 ∷ q.1) in
    omega arith
    )) x)
    (two_cuts mid (t ∷ []) f.before (f.token ∷ f.later) f.whole)

-- Why refused tokens halt is a fault.
fault_of : (ts : List Token) (k n : ℕ) (mid after : List Token) → read_tokens rule_limit ts ≡ refused k n → ts ≡ mid ++ after → NoFault mid n → Cause BeginsFile k mid after
    → WhateverFollows (λ us. read_tokens rule_limit us ≡ refused k n) k mid after → Fault k mid after
fault_of ts k n mid after e w c bad_token d = no_token
fault_of ts k n mid after e w c (wrong_token {t = t} q) d = no_place (out mid t n q d)
fault_of ts k n mid after e w c the_end d = ends_inside {before = mid} (λ tree x. derived_fits tree n (ap (read_tokens rule_limit) (x ∙ sym (w ∙ rw append-nil)) ∙ e))
fault_of ts k n mid after e w c (long_name g) d = too_long (λ m. goes (mid ++ name m ∷ []) (g m))
fault_of ts k n mid after e w c (later_fault {later = later} {t = t} lo g) d = fault_later k mid t [] later (cause_of mid t k n lo c (d t same_token []))

decided_of : (k n : ℕ) (mid after : List Token) → WhateverFollows (λ us. read_tokens rule_limit us ≡ refused k n) k mid after → Decided k n mid after
decided_of k n mid [] d = tt
decided_of k n mid (t ∷ rest) d = λ later. d t same_token later

-- What refused tokens come to: all that their refusal stands at, but that the fault is the smallest.
pub record Placed (ts : List Token) (k n : ℕ) : Type 0 where
  pub before : List Token
  pub after : List Token
  pub whole : ts ≡ before ++ after
  pub goes_on : GoesOn before
  pub no_fault : NoFault before n
  pub fault : Fault k before after
  pub decided : Decided k n before after
  pub completed : Completed before n
  pub cause : Cause BeginsFile k before after

pub placed : (ts : List Token) (k n : ℕ) → read_tokens rule_limit ts ≡ refused k n → Placed ts k n
placed ts k n e =
    let h = halt_of ts k n e in
    let s = h.stopped in
    let c = h.completed in record {
      before = s.mid;
      after = s.after;
      whole = s.whole;
      goes_on = goes s.mid s.begun;
      no_fault = s.ended;
      fault = fault_of ts k n s.mid s.after e s.whole s.ended s.cause s.decided;
      decided = decided_of k n s.mid s.after s.decided;
      completed = record { lines = c.0; rules = c.1; part = c.2; statements = c.3; unended = c.4; count = sym c.5 };
      cause = s.cause;
    }

decided_at : (k n : ℕ) (before after : List Token) (u : Token) (rest mid : List Token) → after ≡ u ∷ rest → Decided k n before after → read_tokens rule_limit (before ++ u ∷ mid) ≡ refused k n
decided_at k n before after u rest mid e d = (subst (Decided k n before) e d) mid

-- Where it stops with a number from 14 on a derivation goes on with the token.
cause_goes : (k : ℕ) (mid after : List Token) → 14 ≤ k → Cause BeginsFile k mid after → (t : Token) × (rest : List Token) × (after ≡ t ∷ rest) × GoesOn (mid ++ t ∷ [])
cause_goes k mid after lo bad_token = absurd (omega arith)
cause_goes k mid after lo (wrong_token q) = absurd (omega arith)
cause_goes k mid after lo the_end = absurd (omega arith)
cause_goes k mid after lo (long_name g) = absurd (omega arith)
cause_goes k mid after lo (later_fault {later = later} {t = t} l g) = (t, later, refl, goes (mid ++ t ∷ []) g)

-- A token out of place has no fault of a position.
not_out : (before : List Token) (P : Position) (t : Token) (n : ℕ) → NoFault before n → Before before P → OutOfPlace before t → (k : ℕ) → ¬ FaultAt k P t
not_out before P t n c b o = by_least (λ k. FaultAt k P t) go
  where
    go : (k : ℕ) → FaultAt k P t → ((j : ℕ) → j < k → ¬ FaultAt j P t) → ⊥
    go k f least =
        let r = from_fourteen k P t f in
        let x = fault_refused before P t [] k b f least in
        let s = placed (before ++ t ∷ []) k x.0 x.1 in
        let y = cause_goes k s.before s.after r.0 s.cause in
        ⊎_elim (λ q. out_never before t o (subst (λ (u : Token). GoesOn (before ++ u ∷ [])) (heads (sym y.2 ∙ same_rest before (t ∷ []) s.before s.after q s.whole))
        (subst (λ (l : List Token). GoesOn (l ++ y.0 ∷ [])) (sym q) y.3)))
        (λ z. ⊎_elim (λ q. let e = clean_twelve before k x.0 n c (ap (read_tokens rule_limit) q.3 ∙ decided_at k x.0 s.before s.after q.0 q.2 q.1 q.4 s.decided) in omega (arith, r.0, e))
        (λ q. let a = ap length s.whole in
        let d = ap length q.3 in
        let h = ap length y.2 in
        let i = length-append before (t ∷ []) in
        let j = length-append s.before s.after in
        let l = length-append before (q.0 ∷ q.1) in
        omega arith) z)
        (two_cuts before (t ∷ []) s.before s.after s.whole)

-- At a token that is out of place the fault is 12.
twelve_of : (k : ℕ) (before : List Token) (t : Token) (later : List Token) (n : ℕ) → NoFault before n → OutOfPlace before t → Fault k before (t ∷ later) → k ≡ 12
twelve_of k before t later n c o no_token = absurd o
twelve_of k before t later n c o (no_place p) = refl
twelve_of k before t later n c o (too_long g) = absurd (o x_name (g x_name))
twelve_of k before t later n c o (in_place {P = P} b f) = absurd (not_out before P t n c b o k f)

-- Behind tokens without a fault no refusal stands earlier.
not_earlier : (ts : List Token) (j m : ℕ) (s : Placed ts j m) (before : List Token) (n : ℕ) (u : Token) (mid rest : List Token) → GoesOn before → NoFault before n → before ≡ s.before ++ u ∷ mid → s.after ≡ u ∷ rest → ⊥
not_earlier ts j m s before n u mid rest g c e q =
    let h = clean_twelve before j m n c (ap (read_tokens rule_limit) e ∙ decided_at j m s.before s.after u rest mid q s.decided) in
    out_never s.before u (subst (Stuck s.before) q (stuck_of j s.before s.after h s.fault)) (goes_first s.before u mid (subst GoesOn e g))

-- A token that no derivation goes on with, and that has no other fault, is refused with it.
alone_refused : (before : List Token) (t : Token) (later : List Token) (k n : ℕ) → GoesOn before → NoFault before n → (GoesOn (before ++ t ∷ []) → ⊥) → ((j : ℕ) → Fault j before (t ∷ later) → j ≡ k)
    → read_tokens rule_limit (before ++ t ∷ later) ≡ refused k n
alone_refused before t later k n g c none only = go (read_tokens rule_limit (before ++ t ∷ later)) refl
  where
    at : (j m : ℕ) → Placed (before ++ t ∷ later) j m → (j ≡ k) × (m ≡ n)
    at j m s =
        ⊎_elim (λ q. (
          only j (subst (Fault j before) (same_rest before (t ∷ later) s.before s.after q s.whole) (subst (λ (l : List Token). Fault j l s.after) (sym q) s.fault)),
          same_count before m n (subst (λ (l : List Token). NoFault l m) (sym q) s.no_fault) c,
        ))
        (λ x. ⊎_elim (λ q. absurd (not_earlier (before ++ t ∷ later) j m s before n q.0 q.1 q.2 g c q.3 q.4))
        (λ q. absurd (none (goes_first before t q.1 (subst GoesOn (q.3 ∙ ap (λ (v : Token). before ++ v ∷ q.1) (sym (heads q.4))) s.goes_on)))) x)
        (two_cuts before (t ∷ later) s.before s.after s.whole)

    go : (a : Parsed) → read_tokens rule_limit (before ++ t ∷ later) ≡ a → a ≡ refused k n
    go (accepted f) e = let x = tokens_back (before ++ t ∷ later) f e in absurd (none (goes_first before t later (record { tree = x.0; more = []; derives = x.1 ∙ rw append-nil })))
    go (refused j m) e = let z = at j m (placed (before ++ t ∷ later) j m e) in ap₂ refused z.0 z.1

-- A token with a fault of its position is refused with the second number of the tokens before it.
position_refused : (before : List Token) (P : Position) (t : Token) (later : List Token) (k n : ℕ) → NoFault before n → Before before P → FaultAt k P t → ((j : ℕ) → j < k → ¬ FaultAt j P t)
    → read_tokens rule_limit (before ++ t ∷ later) ≡ refused k n
position_refused before P t later k n c b f least =
    let x = fault_refused before P t later k b f least in
    let s = placed (before ++ t ∷ later) k x.0 x.1 in
    let r = from_fourteen k P t f in
    x.1 ∙ ap (refused k) (
    ⊎_elim (λ q. same_count before x.0 n (subst (λ (l : List Token). NoFault l x.0) (sym q) s.no_fault) c)
    (λ z. ⊎_elim (λ q. absurd (let e = clean_twelve before k x.0 n c (ap (read_tokens rule_limit) q.3 ∙ decided_at k x.0 s.before s.after q.0 q.2 q.1 q.4 s.decided) in omega (arith, r.0, e)))
    (λ q. absurd (none_passed before P t q.1 x.0 b (subst (λ (l : List Token). NoFault l x.0) (q.3 ∙ ap (λ (v : Token). before ++ v ∷ q.1) (sym (heads q.4))) s.no_fault) k f)) z)
    (two_cuts before (t ∷ later) s.before s.after s.whole)
    )

-- Where no token before has a fault, the next one with its smallest fault, or the end, is refused with it, whatever follows.
pub refused_there : (before after : List Token) (k n : ℕ) → GoesOn before → NoFault before n → Fault k before after → ((j : ℕ) → j < k → ¬ Fault j before after) → read_tokens rule_limit (before ++ after) ≡ refused k n
refused_there before after k n g c (no_token {later = later}) least = alone_refused before bad later 11 n g c (goes_written before bad) (λ j f. eleven_of j before later f)
refused_there before after k n g c (no_place {later = later} {t = t} o) least = alone_refused before t later 12 n g c (out_never before t o) (λ j f. twelve_of j before t later n c o f)
refused_there before after k n g c (ends_inside u) least =
    ⊎_elim (λ x. ap (read_tokens rule_limit) (append-nil before) ∙ x) (λ x. let y = tokens_back before x.0 x.1 in absurd (u y.0 y.1)) c
refused_there before after k n g c (too_long {later = later} h) least = alone_refused before long later 13 n g c (goes_written before long) (λ j f. thirteen_of j before later (h x_name) f)
refused_there before after k n g c (in_place {later = later} {t = t} {P = P} b f) least = position_refused before P t later k n c b f (λ j l x. least j l (in_place b x))

-- What begins tokens without a fault has none.
front_clean : (ts us : List Token) (n : ℕ) → GoesOn (ts ++ us) → NoFault (ts ++ us) n → (m : ℕ) × NoFault ts m
front_clean ts us n g c = go (read_tokens rule_limit ts) refl
  where
    at : (j m : ℕ) (s : Placed ts j m) (after : List Token) → s.after ≡ after → read_tokens rule_limit ts ≡ refused j m → (i : ℕ) × NoFault ts i
    at j m s [] q e = (m, inl (e ∙ ap (λ (i : ℕ). refused i m) (end_of j s.before (subst (Fault j s.before) q s.fault))))
    at j m s (u ∷ rest) q e =
        absurd (not_earlier ts j m s (ts ++ us) n u (rest ++ us) rest g c (ap (λ (l : List Token). l ++ us) (s.whole ∙ ap (λ (l : List Token). s.before ++ l) q) ∙ append_assoc s.before (u ∷ rest) us) q)

    go : (a : Parsed) → read_tokens rule_limit ts ≡ a → (i : ℕ) × NoFault ts i
    go (accepted f) e = (length f.rules, inr (f, e, refl))
    go (refused j m) e = at j m (placed ts j m e) (placed ts j m e).after refl e

-- Tokens that are read without a fault have none, and the other way round.
pub clean_faultless : (ts : List Token) (n : ℕ) → GoesOn ts → NoFault ts n → Faultless ts
clean_faultless ts n g c before t later w =
    by_least (λ k. Fault k before (t ∷ later))
    (λ k f least. let h = subst GoesOn w g in
    let m = front_clean before (t ∷ later) n h (subst (λ (l : List Token). NoFault l n) w c) in
    let e = clean_twelve ts k m.0 n c (ap (read_tokens rule_limit) w ∙ refused_there before (t ∷ later) k m.0 (goes_front before (t ∷ later) h) m.1 f least) in
    out_never before t (stuck_of k before (t ∷ later) e f) (goes_first before t later h))

pub faultless_clean : (ts : List Token) → Faultless ts → GoesOn ts × ((n : ℕ) × NoFault ts n)
faultless_clean ts h = go (read_tokens rule_limit ts) refl
  where
    at : (j m : ℕ) (s : Placed ts j m) (after : List Token) → s.after ≡ after → GoesOn ts × ((n : ℕ) × NoFault ts n)
    at j m s [] q =
        let same : s.before ≡ ts = sym (s.whole ∙ ap (λ (l : List Token). s.before ++ l) q ∙ rw append-nil) in
        (subst GoesOn same s.goes_on, (m, subst (λ (l : List Token). NoFault l m) same s.no_fault))
    at j m s (u ∷ rest) q = absurd (h s.before u rest (s.whole ∙ ap (λ (l : List Token). s.before ++ l) q) j (subst (Fault j s.before) q s.fault))

    go : (a : Parsed) → read_tokens rule_limit ts ≡ a → GoesOn ts × ((n : ℕ) × NoFault ts n)
    go (accepted f) e = let x = tokens_back ts f e in (record { tree = x.0; more = []; derives = x.1 ∙ rw append-nil }, (length f.rules, inr (f, e, refl)))
    go (refused j m) e = at j m (placed ts j m e) (placed ts j m e).after refl

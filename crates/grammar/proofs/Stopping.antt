-- Where the reading of a part stops, and parts put together.
-- Assumes nothing.
use Prim.Native.Nat.{ℕ, ◌≤◌}
use native.Mathlib.Omega.{arith}
use mathlib.Core.Path.{◌≡◌, refl, sym, ap, subst, ◌∙◌}
use mathlib.Core.Bool.{Bool, true, false, cond}
use mathlib.Core.List.{List, [], ◌∷◌, ◌++◌}
use mathlib.Core.Logic.{◌⊎◌, inl, inr, ⊎_elim}
use lib.Dec.{eqb}
use borrow.Author.Tests.{eq-eqb}
use Rattle.text.specs.Tokens.{Name, Token, word, name, long, bad}
use Rattle.grammar.specs.Reading.{Part, took, stop, ◌then◌, expects, begins_with}
use Rattle.grammar.proofs.Forward.{took_then}
use Rattle.grammar.proofs.Steps.{never, took_same, then_back, expects_back}

-- A token is bad.
abbrev pub is_bad : Token → Bool
is_bad (word w) = false
is_bad (name n) = false
is_bad long = false
is_bad bad = true

-- Every token is a word, a mark or a name of at most 24 bytes.
abbrev pub Written : List Token → Type 0
Written [] = Unit
Written (word w ∷ ts) = Written ts
Written (name n ∷ ts) = Written ts
Written (long ∷ ts) = ⊥
Written (bad ∷ ts) = ⊥

-- Trees and the tokens that they derive, followed by others.
pub record Language : Type 1 where
  pub Tree : Type 0
  pub spells : Tree → List Token → List Token
  pub append : (x : Tree) (xs ys : List Token) → spells x (xs ++ ys) ≡ spells x xs ++ ys
  pub written : (x : Tree) (rest : List Token) → Written rest → Written (spells x rest)
  pub some_tree : Tree

-- Some tree of the language derives tokens that begin with these.
abbrev pub Begins : Language → List Token → Type 0
Begins G ts = (rest : List Token) → (x : G.Tree) × (more : List Token) × (G.spells x rest ≡ ts ++ more)

-- Tokens that get the same refusal in each other's place: a token itself, and any name for a long one where no name may stand.
pub data Alike : ℕ → Token → Token → Type 0 where
  same_token : {k : ℕ} {t : Token} → Alike k t t
  any_name : {k : ℕ} → k ≡ 12 → (n : Name) → Alike k long (name n)

-- Why a reading stops after `mid`, at the first of `after` or at the end.
pub data Cause (B : List Token → Type 0) : ℕ → List Token → List Token → Type 0 where
  bad_token : {mid later : List Token} → Cause B 11 mid (bad ∷ later)
  wrong_token : {mid later : List Token} {t : Token} → is_bad t ≡ false → Cause B 12 mid (t ∷ later)
  the_end : {mid : List Token} → Cause B 12 mid []
  long_name : {mid later : List Token} → ((n : Name) → B (mid ++ name n ∷ [])) → Cause B 13 mid (long ∷ later)
  later_fault : {k : ℕ} {mid later : List Token} {t : Token} → 14 ≤ k → B (mid ++ t ∷ []) → Cause B k mid (t ∷ later)

-- `S` holds whatever follows the first of `after`.
abbrev pub WhateverFollows : (List Token → Type 0) → ℕ → List Token → List Token → Type 0
WhateverFollows S k mid [] = Unit
WhateverFollows S k mid (t ∷ rest) = (u : Token) → Alike k t u → (later : List Token) → S (mid ++ u ∷ later)

-- A reading of `ts` stops with `k`: `B` holds of what can go on, `E` of what ends there, `S` of what stops so.
pub record Stop (B E S : List Token → Type 0) (ts : List Token) (k : ℕ) : Type 0 where
  pub mid : List Token
  pub after : List Token
  pub whole : ts ≡ mid ++ after
  pub begun : B mid
  pub cause : Cause B k mid after
  pub ended : E mid
  pub decided : WhateverFollows S k mid after

pub cause_along : (B C : List Token → Type 0) (k : ℕ) (mid mid' after : List Token) → ((z : List Token) → B (mid ++ z) → C (mid' ++ z)) → Cause B k mid after → Cause C k mid' after
cause_along B C k mid mid' after h bad_token = bad_token
cause_along B C k mid mid' after h (wrong_token e) = wrong_token e
cause_along B C k mid mid' after h the_end = the_end
cause_along B C k mid mid' after h (long_name g) = long_name (λ n. h (name n ∷ []) (g n))
cause_along B C k mid mid' after h (later_fault {t = t} lo g) = later_fault lo (h (t ∷ []) g)

pub follows_along : (S T : List Token → Type 0) (k : ℕ) (mid mid' after : List Token) → ((u : Token) (later : List Token) → S (mid ++ u ∷ later) → T (mid' ++ u ∷ later))
    → WhateverFollows S k mid after → WhateverFollows T k mid' after
follows_along S T k mid mid' [] h d = tt
follows_along S T k mid mid' (t ∷ rest) h d = λ u a later. h u later (d u a later)

-- A stop carried behind other tokens, which `g` puts before it.
unfoldable pub stop_behind : (B E S C F T : List Token → Type 0) (g : List Token → List Token) → ((xs ys : List Token) → g (xs ++ ys) ≡ g xs ++ ys)
    → ((ts : List Token) → B ts → C (g ts)) → ((ts : List Token) → E ts → F (g ts)) → ((ts : List Token) → S ts → T (g ts))
    → (ts us : List Token) (k : ℕ) → us ≡ g ts → Stop B E S ts k → Stop C F T us k
stop_behind B E S C F T g append b e s ts us k same h = record {
  mid = g h.mid;
  after = h.after;
  whole = same ∙ ap g h.whole ∙ append h.mid h.after;
  begun = b h.mid h.begun;
  cause = cause_along B C k h.mid (g h.mid) h.after (λ z x. subst C (append h.mid z) (b (h.mid ++ z) x)) h.cause;
  ended = e h.mid h.ended;
  decided = follows_along S T k h.mid (g h.mid) h.after (λ u later x. subst T (append h.mid (u ∷ later)) (s (h.mid ++ u ∷ later) x)) h.decided;
}

pub begins_front : (w : ℕ) (t : Bool) (mid after : List Token) → begins_with w (mid ++ after) ≡ t → (mid ≡ []) ⊎ (begins_with w mid ≡ t)
begins_front w t [] after e = inl refl
begins_front w t (word v ∷ mid) after e = inr e
begins_front w t (name n ∷ mid) after e = inr e
begins_front w t (long ∷ mid) after e = inr e
begins_front w t (bad ∷ mid) after e = inr e

pub begins_other : (w k : ℕ) (b : Bool) (mid : List Token) (t u : Token) (rest later : List Token) → Alike k t u → begins_with w (mid ++ t ∷ rest) ≡ b → begins_with w (mid ++ u ∷ later) ≡ b
begins_other w k b [] (word v) u rest later same_token e = e
begins_other w k b [] (name n) u rest later same_token e = e
begins_other w k b [] long u rest later same_token e = e
begins_other w k b [] bad u rest later same_token e = e
begins_other w k b [] long u rest later (any_name z n) e = e
begins_other w k b (word v ∷ mid) t u rest later a e = e
begins_other w k b (name n ∷ mid) t u rest later a e = e
begins_other w k b (long ∷ mid) t u rest later a e = e
begins_other w k b (bad ∷ mid) t u rest later a e = e

-- A stop taken over by another reading that agrees where `w` stands next, or where it does not (`b` says which).
unfoldable pub stop_where : (B E S C F T : List Token → Type 0) (w : ℕ) (b : Bool) → ((ts : List Token) → B ts → C ts)
    → ((ts : List Token) → (ts ≡ []) ⊎ (begins_with w ts ≡ b) → E ts → F ts) → ((t : Token) (ts : List Token) → begins_with w (t ∷ ts) ≡ b → S (t ∷ ts) → T (t ∷ ts))
    → (ts : List Token) (k : ℕ) → begins_with w ts ≡ b → Stop B E S ts k → Stop C F T ts k
stop_where B E S C F T w b go_on e s ts k on h = record {
  mid = h.mid;
  after = h.after;
  whole = h.whole;
  begun = go_on h.mid h.begun;
  cause = cause_along B C k h.mid h.mid h.after (λ z x. go_on (h.mid ++ z) x) h.cause;
  ended = e h.mid (begins_front w b h.mid h.after (sym (ap (begins_with w) h.whole) ∙ on)) h.ended;
  decided = go h.after (sym (ap (begins_with w) h.whole) ∙ on) h.decided;
}
  where
    one : (mid : List Token) (u : Token) (later : List Token) → begins_with w (mid ++ u ∷ later) ≡ b → S (mid ++ u ∷ later) → T (mid ++ u ∷ later)
    one [] u later q x = s u later q x
    one (m ∷ mid) u later q x = s m (mid ++ u ∷ later) q x

    go : (after : List Token) → begins_with w (h.mid ++ after) ≡ b → WhateverFollows S k h.mid after → WhateverFollows T k h.mid after
    go [] q d = tt
    go (t ∷ rest) q d = λ u a later. one h.mid u later (begins_other w k b h.mid t u rest later a q) (d u a later)

-- The tokens of an empty text begin with no word.
pub nothing_next : (w : ℕ) (ts : List Token) → (ts ≡ []) ⊎ (begins_with w ts ≡ false) → begins_with w ts ≡ false
nothing_next w ts x = ⊎_elim (λ e. ap (begins_with w) e) (λ e. e) x

-- What the reading of a derived part gives: all of it, or a refusal from 14 on.
abbrev pub Fits : {A : Type 0} → Part A → List Token → Type 0
Fits (took a ts) rest = ts ≡ rest
Fits (stop k) rest = 14 ≤ k

-- A reader of a language: what it takes is a tree's tokens, whatever follows; where it stops is known; and it takes no tree's tokens for wrong.
pub record Reader {A : Type 0} (G : Language) (R : List Token → Part A) : Type 0 where
  pub reads : (ts : List Token) (a : A) (rest : List Token) → R ts ≡ took a rest → (x : G.Tree) × (ts ≡ G.spells x rest) × ((later : List Token) → R (G.spells x later) ≡ took a later)
  pub stops : (ts : List Token) (k : ℕ) → R ts ≡ stop k → Stop (Begins G) (λ us. R us ≡ stop 12) (λ us. R us ≡ stop k) ts k
  pub fits : (x : G.Tree) (rest : List Token) → Fits (R (G.spells x rest)) rest

-- Nothing, read by taking nothing.
abbrev pub nothing : Language
nothing = record { Tree = Unit {0}; spells = λ x rest. rest; append = λ x xs ys. refl; written = λ x rest h. h; some_tree = tt }

stop_took : {A B : Type 0} (k : ℕ) (a : A) (ts : List Token) → took a ts ≡ stop k → B
stop_took k a ts e = never k a ts (sym e)

pub reader_took : {A : Type 0} (a : A) → Reader nothing (took a)
reader_took a = record {
  reads = λ ts b rest e. let h = took_same a b ts rest e in (tt, h.1, λ later. ap (λ c. took c later) h.0);
  stops = λ ts k e. stop_took k a ts e;
  fits = λ x rest. refl;
}

-- One part after the other.
abbrev pub both : Language → Language → Language
both G H = record {
  Tree = G.Tree × H.Tree;
  spells = λ x rest. G.spells x.0 (H.spells x.1 rest);
  append = λ x xs ys. ap (G.spells x.0) (H.append x.1 xs ys) ∙ G.append x.0 (H.spells x.1 xs) ys;
  written = λ x rest h. G.written x.0 (H.spells x.1 rest) (H.written x.1 rest h);
  some_tree = (G.some_tree, H.some_tree);
}

pub then_stops : {A B : Type 0} (m : Part A) (f : A → List Token → Part B) (k : ℕ) → (m then f) ≡ stop k → (m ≡ stop k) ⊎ ((a : A) × (ts : List Token) × (m ≡ took a ts) × (f a ts ≡ stop k))
unfolding ◌then◌
then_stops (took a ts) f k e = inr (a, ts, refl, e)
then_stops (stop j) f k e = inl (let z : j ≡ k = cc in ap stop z)

pub stop_then : {A B : Type 0} (m : Part A) (f : A → List Token → Part B) (k : ℕ) → m ≡ stop k → (m then f) ≡ stop k
unfolding ◌then◌
stop_then m f k e = rw e

fits_then : {A B : Type 0} (m : Part A) (f : A → List Token → Part B) (us rest : List Token) → Fits m us → ((a : A) → Fits (f a us) rest) → Fits (m then f) rest
unfolding ◌then◌
fits_then (took a ts) f us rest e h = subst (λ (ys : List Token). Fits (f a ys) rest) (sym e) (h a)
fits_then (stop k) f us rest e h = e

pub reader_then : {A B : Type 0} (G H : Language) (M : List Token → Part A) (f : A → List Token → Part B) → Reader G M → ((a : A) → Reader H (f a)) → Reader (both G H) (λ ts. M ts then f)
reader_then {A} {B} G H M f g h = record { reads = reads; stops = stops; fits = λ x rest. fits_then (M (G.spells x.0 (H.spells x.1 rest))) f (H.spells x.1 rest) rest (g.fits x.0 (H.spells x.1 rest)) (λ a. (h a).fits x.1 rest) }
  where
    reads : (ts : List Token) (b : B) (rest : List Token) → (M ts then f) ≡ took b rest
        → (x : (both G H).Tree) × (ts ≡ (both G H).spells x rest) × ((later : List Token) → (M ((both G H).spells x later) then f) ≡ took b later)
    reads ts b rest e =
        let m = then_back (M ts) f b rest e in
        let x = g.reads ts m.0 m.1 m.2 in
        let y = (h m.0).reads m.1 b rest m.3 in
        ((x.0, y.0), x.1 ∙ ap (G.spells x.0) y.1, λ later. rw (x.2 (H.spells y.0 later), took_then) (y.2 later))

    stops : (ts : List Token) (k : ℕ) → (M ts then f) ≡ stop k → Stop (Begins (both G H)) (λ us. (M us then f) ≡ stop 12) (λ us. (M us then f) ≡ stop k) ts k
    stops ts k e =
        ⊎_elim (λ m. stop_behind _ _ _ _ _ _ (λ us. us) (λ xs ys. refl)
        (λ us b rest. let x = b (H.spells H.some_tree rest) in ((x.0, H.some_tree), x.1, x.2))
        (λ us q. stop_then (M us) f 12 q) (λ us q. stop_then (M us) f k q) ts ts k refl (g.stops ts k m))
        (λ m. let x = g.reads ts m.0 m.1 m.2 in
        stop_behind _ _ _ _ _ _ (G.spells x.0) (G.append x.0)
        (λ us b rest. let y = b rest in ((x.0, y.0), y.1, ap (G.spells x.0) y.2 ∙ G.append x.0 us y.1))
        (λ us q. rw (x.2 us, took_then) q) (λ us q. rw (x.2 us, took_then) q) m.1 ts k x.1 ((h m.0).stops m.1 k m.3))
        (then_stops (M ts) f k e)

-- What `Reader.stops` gives.
abbrev pub StopsAt : {A : Type 0} → Language → (List Token → Part A) → List Token → ℕ → Type 0
StopsAt G R ts k = Stop (Begins G) (λ us. R us ≡ stop 12) (λ us. R us ≡ stop k) ts k

-- A stop at the first token, with the number `j` that the reader gives there.
pub stop_here : {A : Type 0} (G : Language) (R : List Token → Part A) (ts : List Token) (j k : ℕ) → R [] ≡ stop 12 → R ts ≡ stop j
    → Cause (Begins G) j [] ts → WhateverFollows (λ us. R us ≡ stop j) j [] ts → R ts ≡ stop k → StopsAt G R ts k
stop_here {A} G R ts j k end a c d b =
    subst (StopsAt G R ts) (same (sym a ∙ b))
    (record { mid = []; after = ts; whole = refl; begun = λ rest. (G.some_tree, G.spells G.some_tree rest, refl); cause = c; ended = end; decided = d })
  where
    same : ◌≡◌ {A = Part A} (stop j) (stop k) → j ≡ k
    same e = cc

-- A token is a name over 24 bytes.
abbrev pub is_long : Token → Bool
is_long (word w) = false
is_long (name n) = false
is_long long = true
is_long bad = false

-- Whatever follows a token that is not long.
pub follows_same : (S : List Token → Type 0) (k : ℕ) (t : Token) (rest : List Token) → is_long t ≡ false → ((later : List Token) → S (t ∷ later)) → WhateverFollows S k [] (t ∷ rest)
follows_same S k t rest l h u a later = go t u a l h later
  where
    go : (t u : Token) → Alike k t u → is_long t ≡ false → ((later : List Token) → S (t ∷ later)) → (later : List Token) → S (u ∷ later)
    go t u same_token l h later = h later
    go t u (any_name z n) l h later = absurd (let z : ◌≡◌ {A = ℕ} 0 1 = cc in omega arith)

-- Whatever follows a long token.
pub follows_long : (S : List Token → Type 0) (k : ℕ) (rest : List Token) → ((later : List Token) → S (long ∷ later)) → (k ≡ 12 → (n : Name) (later : List Token) → S (name n ∷ later)) → WhateverFollows S k [] (long ∷ rest)
follows_long S k rest h g u a later = go long u a refl later
  where
    go : (t u : Token) → Alike k t u → t ≡ long → (later : List Token) → S (u ∷ later)
    go t u same_token e later = subst (λ (x : Token). S (x ∷ later)) (sym e) (h later)
    go t u (any_name z n) e later = g z n later

-- A word or a mark.
abbrev pub the_word : ℕ → Language
the_word w = record { Tree = Unit {0}; spells = λ x rest. word w ∷ rest; append = λ x xs ys. refl; written = λ x rest h. h; some_tree = tt }

expects_word : (w v : ℕ) (t : Bool) → eqb v w ≡ t → (ts : List Token) → expects w (word v ∷ ts) ≡ cond t (took tt ts) (stop 12)
unfolding expects
expects_word w v t e ts = ap (λ (s : Bool). cond s (took tt ts) (stop 12)) e

expects_stops : (w : ℕ) (ts : List Token) (k : ℕ) → expects w ts ≡ stop k → StopsAt (the_word w) (expects w) ts k
unfolding expects
expects_stops w [] k e = stop_here (the_word w) (expects w) [] 12 k refl refl the_end tt e
expects_stops w (word v ∷ ts) k e = go (eqb v w) refl
  where
    go : (t : Bool) → eqb v w ≡ t → StopsAt (the_word w) (expects w) (word v ∷ ts) k
    go true q = stop_took k tt ts (sym (expects_word w v true q ts) ∙ e)
    go false q =
        stop_here (the_word w) (expects w) (word v ∷ ts) 12 k refl (expects_word w v false q ts) (wrong_token refl) (follows_same (λ us. expects w us ≡ stop 12) 12 (word v) ts refl (expects_word w v false q)) e
expects_stops w (name n ∷ ts) k e = stop_here (the_word w) (expects w) (name n ∷ ts) 12 k refl refl (wrong_token refl) (follows_same (λ us. expects w us ≡ stop 12) 12 (name n) ts refl (λ later. refl)) e
expects_stops w (long ∷ ts) k e = stop_here (the_word w) (expects w) (long ∷ ts) 12 k refl refl (wrong_token refl) (follows_long (λ us. expects w us ≡ stop 12) 12 ts (λ later. refl) (λ z n later. refl)) e
expects_stops w (bad ∷ ts) k e = stop_here (the_word w) (expects w) (bad ∷ ts) 11 k refl refl bad_token (follows_same (λ us. expects w us ≡ stop 11) 11 bad ts refl (λ later. refl)) e

pub reader_expects : (w : ℕ) → Reader (the_word w) (expects w)
reader_expects w = record {
  reads = λ ts u rest e. (tt, expects_back w ts u rest e, λ later. expects_word w w true (eq-eqb w w refl) later);
  stops = expects_stops w;
  fits = λ x rest. subst (λ (m : Part (Unit {0})). Fits m rest) (sym (expects_word w w true (eq-eqb w w refl) rest)) refl;
}

-- A name.
abbrev pub a_single_name : Language
a_single_name = record {
  Tree = Name;
  spells = λ n rest. name n ∷ rest;
  append = λ n xs ys. refl;
  written = λ n rest h. h;
  some_tree = record { start = 0; letters = 120 ∷ [] };
}

-- A reader of one name: it takes the name or refuses it with a number from 14 on, whatever follows.
pub record NameReader {A : Type 0} (R : List Token → Part A) : Type 0 where
  pub at_end : R [] ≡ stop 12
  pub at_word : (w : ℕ) (ts : List Token) → R (word w ∷ ts) ≡ stop 12
  pub at_long : (ts : List Token) → R (long ∷ ts) ≡ stop 13
  pub at_bad : (ts : List Token) → R (bad ∷ ts) ≡ stop 11
  pub at_name : (n : Name) → ((a : A) × ((ts : List Token) → R (name n ∷ ts) ≡ took a ts)) ⊎ ((k : ℕ) × (14 ≤ k) × ((ts : List Token) → R (name n ∷ ts) ≡ stop k))

-- It stops where some tree of the language begins with a name.
name_stops : {A : Type 0} (G : Language) (R : List Token → Part A) → NameReader R → ((n : Name) → Begins G (name n ∷ [])) → (ts : List Token) (k : ℕ) → R ts ≡ stop k → StopsAt G R ts k
name_stops G R r begin [] k e = stop_here G R [] 12 k r.at_end r.at_end the_end tt e
name_stops G R r begin (word w ∷ ts) k e =
    stop_here G R (word w ∷ ts) 12 k r.at_end (r.at_word w ts) (wrong_token refl) (follows_same (λ us. R us ≡ stop 12) 12 (word w) ts refl (r.at_word w)) e
name_stops G R r begin (name n ∷ ts) k e =
    ⊎_elim (λ x. stop_took k x.0 ts (sym (x.1 ts) ∙ e))
    (λ x. stop_here G R (name n ∷ ts) x.0 k r.at_end (x.2 ts) (later_fault x.1 (begin n)) (follows_same (λ us. R us ≡ stop x.0) x.0 (name n) ts refl x.2) e)
    (r.at_name n)
name_stops G R r begin (long ∷ ts) k e =
    stop_here G R (long ∷ ts) 13 k r.at_end (r.at_long ts) (long_name begin) (follows_long (λ us. R us ≡ stop 13) 13 ts r.at_long (λ z n later. absurd (omega arith))) e
name_stops G R r begin (bad ∷ ts) k e =
    stop_here G R (bad ∷ ts) 11 k r.at_end (r.at_bad ts) bad_token (follows_same (λ us. R us ≡ stop 11) 11 bad ts refl r.at_bad) e

name_fits : {A : Type 0} (R : List Token → Part A) → NameReader R → (n : Name) (rest : List Token) → Fits (R (name n ∷ rest)) rest
name_fits {A} R r n rest =
    ⊎_elim (λ x. subst (λ (m : Part A). Fits m rest) (sym (x.1 rest)) refl)
    (λ x. subst (λ (m : Part A). Fits m rest) (sym (x.2 rest)) x.1) (r.at_name n)

pub reader_name : {A : Type 0} (R : List Token → Part A) → NameReader R → Reader a_single_name R
reader_name {A} R r = record { reads = reads; stops = name_stops a_single_name R r (λ n rest. (n, rest, refl)); fits = name_fits R r }
  where
    reads : (ts : List Token) (a : A) (rest : List Token) → R ts ≡ took a rest → (n : Name) × (ts ≡ name n ∷ rest) × ((later : List Token) → R (name n ∷ later) ≡ took a later)
    reads [] a rest e = stop_took 12 a rest (sym e ∙ r.at_end)
    reads (word w ∷ ts) a rest e = stop_took 12 a rest (sym e ∙ r.at_word w ts)
    reads (name n ∷ ts) a rest e =
        ⊎_elim (λ x. let h = took_same x.0 a ts rest (sym (x.1 ts) ∙ e) in
        (n, ap (λ (y : List Token). name n ∷ y) h.1, λ later. x.1 later ∙ ap (λ b. took b later) h.0))
        (λ x. stop_took x.0 a rest (sym e ∙ x.2 ts)) (r.at_name n)
    reads (long ∷ ts) a rest e = stop_took 13 a rest (sym e ∙ r.at_long ts)
    reads (bad ∷ ts) a rest e = stop_took 11 a rest (sym e ∙ r.at_bad ts)

-- A reader that takes nothing, of a language whose trees begin with a name.
pub reader_full : {A : Type 0} (G : Language) (R : List Token → Part A) → NameReader R → ((n : Name) → Begins G (name n ∷ []))
    → ((x : G.Tree) (rest : List Token) → (n : Name) × (more : List Token) × (G.spells x rest ≡ name n ∷ more))
    → ((ts : List Token) (a : A) (rest : List Token) → R ts ≡ took a rest → ⊥) → Reader G R
reader_full {A} G R r begin first full = record {
  reads = λ ts a rest e. absurd (full ts a rest e);
  stops = name_stops G R r begin;
  fits = λ x rest. let y = first x rest in
      subst (λ (us : List Token). Fits (R us) rest) (sym y.2) (refits y.1 rest (R (name y.0 ∷ y.1)) (λ a us e. full (name y.0 ∷ y.1) a us e) (name_fits R r y.0 y.1));
}
  where
    refits : (us rest : List Token) (m : Part A) → ((a : A) (ts : List Token) → m ≡ took a ts → ⊥) → Fits m us → Fits m rest
    refits us rest (took a ts) h e = absurd (h a ts refl)
    refits us rest (stop k) h e = e

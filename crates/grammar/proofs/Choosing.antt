-- Where the reading of a choice or of a list stops.
-- Assumes nothing.
use Prim.Native.Nat.{ℕ, zero, suc}
use mathlib.Core.Path.{◌≡◌, refl, sym, ap, subst, ◌∙◌}
use mathlib.Core.Bool.{Bool, true, false, cond}
use mathlib.Core.List.{List, [], ◌∷◌, ◌++◌}
use mathlib.Core.Logic.{◌⊎◌, inl, inr, ⊎_elim}
use lib.Dec.{eqb}
use lib.ListN.{drop}
use borrow.Author.Tests.{eqb-true, eq-eqb, ne_eqb}
use Rattle.text.specs.Tokens.{Token, word, name, long, bad}
use Rattle.grammar.specs.Reading.{Part, took, stop, fork, begins_with, if_next, read_list}
use Rattle.grammar.proofs.Steps.{fork_back, begins_back}
use Rattle.grammar.proofs.Leftmost.{spell_more}
use Rattle.grammar.proofs.Stopping.{Written, Language, Begins, bad_token, wrong_token, the_end, stop_behind, stop_where, nothing_next, Fits, Reader, nothing, reader_took, both, reader_then, StopsAt, stop_here, follows_same, follows_long}

-- The same reader for a language whose trees stand for the same tokens.
pub reader_along : {A : Type 0} (G H : Language) (R : List Token → Part A) → Reader G R
    → (to : G.Tree → H.Tree) → ((x : G.Tree) (rest : List Token) → G.spells x rest ≡ H.spells (to x) rest)
    → (from : H.Tree → G.Tree) → ((y : H.Tree) (rest : List Token) → H.spells y rest ≡ G.spells (from y) rest) → Reader H R
reader_along {A} G H R g to same from back = record {
  reads = λ ts a rest e. let x = g.reads ts a rest e in (to x.0, x.1 ∙ same x.0 rest, λ later. ap R (sym (same x.0 later)) ∙ x.2 later);
  stops = λ ts k e. stop_behind (Begins G) (λ us. R us ≡ stop 12) (λ us. R us ≡ stop k) (Begins H) (λ us. R us ≡ stop 12) (λ us. R us ≡ stop k) (λ us. us) (λ xs ys. refl)
      (λ us b rest. let x = b rest in (to x.0, x.1, sym (same x.0 rest) ∙ x.2)) (λ us q. q) (λ us q. q) ts ts k refl (g.stops ts k e);
  fits = λ y rest. subst (λ (us : List Token). Fits (R us) rest) (sym (back y rest)) (g.fits (from y) rest);
}

-- `w` and a part, or `v` and another.
module _ (w v : ℕ) (G H : Language) where
  abbrev pub spell_either : G.Tree ⊎ H.Tree → List Token → List Token
  spell_either (inl x) rest = word w ∷ G.spells x rest
  spell_either (inr y) rest = word v ∷ H.spells y rest

  pub either_append : (x : G.Tree ⊎ H.Tree) (xs ys : List Token) → spell_either x (xs ++ ys) ≡ spell_either x xs ++ ys
  either_append (inl x) xs ys = ap (λ (z : List Token). word w ∷ z) (G.append x xs ys)
  either_append (inr y) xs ys = ap (λ (z : List Token). word v ∷ z) (H.append y xs ys)

  pub either_written : (x : G.Tree ⊎ H.Tree) (rest : List Token) → Written rest → Written (spell_either x rest)
  either_written (inl x) rest h = G.written x rest h
  either_written (inr y) rest h = H.written y rest h

  abbrev pub either : Language
  either = record { Tree = G.Tree ⊎ H.Tree; spells = spell_either; append = either_append; written = either_written; some_tree = inl G.some_tree }

module _ {A : Type 0} (w v : ℕ) (f g : List Token → Part A) where
  fork_word : (u : ℕ) (a b : Bool) → eqb u w ≡ a → eqb u v ≡ b → (ts : List Token) → fork w v f g (word u ∷ ts) ≡ cond {A = List Token → Part A} a f (cond b g (λ rest. stop 12)) ts
  unfolding fork
  fork_word u a b p q ts = rw (p, q)

  fork_first : (ts : List Token) → fork w v f g (word w ∷ ts) ≡ f ts
  fork_first ts = fork_word w true (eqb w v) (eq-eqb w w refl) refl ts

  fork_second : (v ≡ w → ⊥) → (ts : List Token) → fork w v f g (word v ∷ ts) ≡ g ts
  fork_second d ts = fork_word v false true (ne_eqb v w d) (eq-eqb v v refl) ts

  fork_stops : (G H : Language) → Reader G f → Reader H g → (v ≡ w → ⊥) → (ts : List Token) (k : ℕ) → fork w v f g ts ≡ stop k → StopsAt (either w v G H) (fork w v f g) ts k
  unfolding fork
  fork_stops G H x y d [] k e = stop_here (either w v G H) (fork w v f g) [] 12 k refl refl the_end tt e
  fork_stops G H x y d (word u ∷ ts) k e = go (eqb u w) (eqb u v) refl refl
    where
      go : (a b : Bool) → eqb u w ≡ a → eqb u v ≡ b → StopsAt (either w v G H) (fork w v f g) (word u ∷ ts) k
      go true b p q =
          stop_behind (Begins G) (λ us. f us ≡ stop 12) (λ us. f us ≡ stop k) (Begins (either w v G H)) (λ us. fork w v f g us ≡ stop 12) (λ us. fork w v f g us ≡ stop k)
          (λ us. word w ∷ us) (λ xs ys. refl) (λ us h rest. let z = h rest in (inl z.0, z.1, ap (λ (l : List Token). word w ∷ l) z.2))
          (λ us h. fork_first us ∙ h) (λ us h. fork_first us ∙ h) ts (word u ∷ ts) k (ap (λ (i : ℕ). word i ∷ ts) (eqb-true u w p))
          (x.stops ts k (sym (fork_word u true b p q ts) ∙ e))
      go false true p q =
          stop_behind (Begins H) (λ us. g us ≡ stop 12) (λ us. g us ≡ stop k) (Begins (either w v G H)) (λ us. fork w v f g us ≡ stop 12) (λ us. fork w v f g us ≡ stop k)
          (λ us. word v ∷ us) (λ xs ys. refl) (λ us h rest. let z = h rest in (inr z.0, z.1, ap (λ (l : List Token). word v ∷ l) z.2))
          (λ us h. fork_second d us ∙ h) (λ us h. fork_second d us ∙ h) ts (word u ∷ ts) k (ap (λ (i : ℕ). word i ∷ ts) (eqb-true u v q))
          (y.stops ts k (sym (fork_word u false true p q ts) ∙ e))
      go false false p q =
          stop_here (either w v G H) (fork w v f g) (word u ∷ ts) 12 k refl (fork_word u false false p q ts) (wrong_token refl)
          (follows_same (λ us. fork w v f g us ≡ stop 12) 12 (word u) ts refl (fork_word u false false p q)) e
  fork_stops G H x y d (name n ∷ ts) k e =
      stop_here (either w v G H) (fork w v f g) (name n ∷ ts) 12 k refl refl (wrong_token refl) (follows_same (λ us. fork w v f g us ≡ stop 12) 12 (name n) ts refl (λ later. refl)) e
  fork_stops G H x y d (long ∷ ts) k e =
      stop_here (either w v G H) (fork w v f g) (long ∷ ts) 12 k refl refl (wrong_token refl) (follows_long (λ us. fork w v f g us ≡ stop 12) 12 ts (λ later. refl) (λ z n later. refl)) e
  fork_stops G H x y d (bad ∷ ts) k e =
      stop_here (either w v G H) (fork w v f g) (bad ∷ ts) 11 k refl refl bad_token (follows_same (λ us. fork w v f g us ≡ stop 11) 11 bad ts refl (λ later. refl)) e

  fork_fits : (G H : Language) → Reader G f → Reader H g → (v ≡ w → ⊥) → (x : G.Tree ⊎ H.Tree) (rest : List Token) → Fits (fork w v f g (spell_either w v G H x rest)) rest
  fork_fits G H x y d (inl t) rest = subst (λ (m : Part A). Fits m rest) (sym (fork_first (G.spells t rest))) (x.fits t rest)
  fork_fits G H x y d (inr t) rest = subst (λ (m : Part A). Fits m rest) (sym (fork_second d (H.spells t rest))) (y.fits t rest)

  pub reader_fork : (G H : Language) → Reader G f → Reader H g → (v ≡ w → ⊥) → Reader (either w v G H) (fork w v f g)
  reader_fork G H x y d = record {
    reads = λ ts a rest e. ⊎_elim
        (λ m. let t = x.reads m.0 a rest m.2 in (inl t.0, m.1 ∙ ap (λ (l : List Token). word w ∷ l) t.1, λ later. fork_first (G.spells t.0 later) ∙ t.2 later))
        (λ m. let t = y.reads m.0 a rest m.2 in (inr t.0, m.1 ∙ ap (λ (l : List Token). word v ∷ l) t.1, λ later. fork_second d (H.spells t.0 later) ∙ t.2 later))
        (fork_back w v f g ts a rest e);
    stops = fork_stops G H x y d;
    fits = fork_fits G H x y d;
  }

-- `w` and a part, or another part that does not begin with `w`.
module _ (w : ℕ) (G H : Language) where
  abbrev pub spell_perhaps : G.Tree ⊎ H.Tree → List Token → List Token
  spell_perhaps (inl x) rest = word w ∷ G.spells x rest
  spell_perhaps (inr y) rest = H.spells y rest

  pub perhaps_append : (x : G.Tree ⊎ H.Tree) (xs ys : List Token) → spell_perhaps x (xs ++ ys) ≡ spell_perhaps x xs ++ ys
  perhaps_append (inl x) xs ys = ap (λ (z : List Token). word w ∷ z) (G.append x xs ys)
  perhaps_append (inr y) xs ys = H.append y xs ys

  pub perhaps_written : (x : G.Tree ⊎ H.Tree) (rest : List Token) → Written rest → Written (spell_perhaps x rest)
  perhaps_written (inl x) rest h = G.written x rest h
  perhaps_written (inr y) rest h = H.written y rest h

  abbrev pub perhaps : Language
  perhaps = record { Tree = G.Tree ⊎ H.Tree; spells = spell_perhaps; append = perhaps_append; written = perhaps_written; some_tree = inr H.some_tree }

module _ {A : Type 0} (w : ℕ) (f g : List Token → Part A) where
  abbrev pub after_word : List Token → Part A
  after_word ts = if_next w (λ more. f (drop 1 more)) g ts

  next_there : (ts : List Token) → after_word (word w ∷ ts) ≡ f ts
  unfolding if_next
  next_there ts = rw (eq-eqb w w refl)

  next_other : (ts : List Token) → begins_with w ts ≡ false → after_word ts ≡ g ts
  unfolding if_next
  next_other ts e = rw e

  -- What stands next is `w` with more, or not `w`.
  which : (ts : List Token) → ((more : List Token) × (ts ≡ word w ∷ more)) ⊎ (begins_with w ts ≡ false)
  which ts = go (begins_with w ts) refl
    where
      go : (t : Bool) → begins_with w ts ≡ t → ((more : List Token) × (ts ≡ word w ∷ more)) ⊎ (begins_with w ts ≡ false)
      go true q = inl (begins_back w ts q)
      go false q = inr q

  next_fits : (G H : Language) → Reader G f → Reader H g → ((y : H.Tree) (rest : List Token) → begins_with w (H.spells y rest) ≡ false)
      → (x : G.Tree ⊎ H.Tree) (rest : List Token) → Fits (after_word (spell_perhaps w G H x rest)) rest
  next_fits G H x y off (inl t) rest = subst (λ (m : Part A). Fits m rest) (sym (next_there (G.spells t rest))) (x.fits t rest)
  next_fits G H x y off (inr t) rest = subst (λ (m : Part A). Fits m rest) (sym (next_other (H.spells t rest) (off t rest))) (y.fits t rest)

  pub reader_next : (G H : Language) → Reader G f → Reader H g → ((y : H.Tree) (rest : List Token) → begins_with w (H.spells y rest) ≡ false) → Reader (perhaps w G H) after_word
  reader_next G H x y off = record {
    reads = λ ts a rest e. ⊎_elim
        (λ m. let t = x.reads m.0 a rest (sym (ap after_word m.1 ∙ next_there m.0) ∙ e) in
        (inl t.0, m.1 ∙ ap (λ (l : List Token). word w ∷ l) t.1, λ later. next_there (G.spells t.0 later) ∙ t.2 later))
        (λ q. let t = y.reads ts a rest (sym (next_other ts q) ∙ e) in
        (inr t.0, t.1, λ later. next_other (H.spells t.0 later) (off t.0 later) ∙ t.2 later))
        (which ts);
    stops = λ ts k e. ⊎_elim
        (λ m. stop_behind (Begins G) (λ us. f us ≡ stop 12) (λ us. f us ≡ stop k) (Begins (perhaps w G H)) (λ us. after_word us ≡ stop 12) (λ us. after_word us ≡ stop k)
        (λ us. word w ∷ us) (λ xs ys. refl) (λ us h rest. let z = h rest in (inl z.0, z.1, ap (λ (l : List Token). word w ∷ l) z.2))
        (λ us h. next_there us ∙ h) (λ us h. next_there us ∙ h) m.0 ts k m.1 (x.stops m.0 k (sym (ap after_word m.1 ∙ next_there m.0) ∙ e)))
        (λ q. stop_where (Begins H) (λ us. g us ≡ stop 12) (λ us. g us ≡ stop k) (Begins (perhaps w G H)) (λ us. after_word us ≡ stop 12) (λ us. after_word us ≡ stop k) w false
        (λ us h rest. let z = h rest in (inr z.0, z.1, z.2))
        (λ us o h. next_other us (nothing_next w us o) ∙ h) (λ t us o h. next_other (t ∷ us) o ∙ h) ts k q (y.stops ts k (sym (next_other ts q) ∙ e)))
        (which ts);
    fits = next_fits G H x y off;
  }

-- One or more parts with `sep` between and `end` after the last.
module _ (P : Language) (sep end : ℕ) where
  pub more_append : (xs : List P.Tree) (r s : List Token) → spell_more P.spells sep xs (r ++ s) ≡ spell_more P.spells sep xs r ++ s
  more_append [] r s = refl
  more_append (x ∷ xs) r s =
      ap (λ (z : List Token). word sep ∷ P.spells x z) (more_append xs r s) ∙ ap (λ (z : List Token). word sep ∷ z) (P.append x (spell_more P.spells sep xs r) s)

  pub more_written : (xs : List P.Tree) (r : List Token) → Written r → Written (spell_more P.spells sep xs r)
  more_written [] r h = h
  more_written (x ∷ xs) r h = P.written x (spell_more P.spells sep xs r) (more_written xs r h)

  abbrev pub list_of : Language
  list_of = record {
    Tree = P.Tree × List P.Tree;
    spells = λ x rest. P.spells x.0 (spell_more P.spells sep x.1 (word end ∷ rest));
    append = λ x xs ys. ap (P.spells x.0) (more_append x.1 (word end ∷ xs) ys) ∙ P.append x.0 (spell_more P.spells sep x.1 (word end ∷ xs)) ys;
    written = λ x rest h. P.written x.0 (spell_more P.spells sep x.1 (word end ∷ rest)) (more_written x.1 (word end ∷ rest) h);
    some_tree = (P.some_tree, []);
  }

  others : list_of.Tree ⊎ Unit {0} → List P.Tree
  others (inl x) = x.0 ∷ x.1
  others (inr u) = []

  others_spelled : (a : P.Tree) (x : list_of.Tree ⊎ Unit {0}) (rest : List Token) → P.spells a (spell_either sep end list_of nothing x rest) ≡ list_of.spells (a, others x) rest
  unfolding others
  others_spelled a (inl x) rest = refl
  others_spelled a (inr u) rest = refl

  split : List P.Tree → list_of.Tree ⊎ Unit {0}
  split [] = inr tt
  split (x ∷ xs) = inl (x, xs)

  split_spelled : (a : P.Tree) (xs : List P.Tree) (rest : List Token) → list_of.spells (a, xs) rest ≡ P.spells a (spell_either sep end list_of nothing (split xs) rest)
  unfolding split
  split_spelled a [] rest = refl
  split_spelled a (x ∷ xs) rest = refl

  pub reader_list : {A : Type 0} (one : List A → List Token → Part A) (none : List A → List Token → Part (List A)) → ((sofar : List A) → Reader P (one sofar)) → ((sofar : List A) → Reader list_of (none sofar))
      → (end ≡ sep → ⊥) → (room : ℕ) (sofar : List A) → Reader list_of (read_list one none sep end room sofar)
  unfolding read_list
  reader_list one none g h d zero sofar = h sofar
  reader_list {A} one none g h d (suc room) sofar =
      reader_along (both P (either sep end list_of nothing)) list_of (read_list one none sep end (suc room) sofar)
      (reader_then P (either sep end list_of nothing) (one sofar) (λ a rest. fork sep end (λ more. read_list one none sep end room (sofar ++ a ∷ []) more) (took (sofar ++ a ∷ [])) rest) (g sofar)
      (λ a. reader_fork sep end (λ more. read_list one none sep end room (sofar ++ a ∷ []) more) (took (sofar ++ a ∷ [])) list_of nothing (reader_list one none g h d room (sofar ++ a ∷ [])) (reader_took (sofar ++ a ∷ [])) d))
      (λ x. (x.0, others x.1)) (λ x rest. others_spelled x.0 x.1 rest) (λ y. (y.0, split y.1)) (λ y rest. split_spelled y.0 y.1 rest)

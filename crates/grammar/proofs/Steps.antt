-- What a step of the reading that took something tells of its tokens.
-- Assumes nothing.
use Prim.Native.Nat.{ℕ, zero, suc, ◌+◌, ◌≤◌}
use native.Mathlib.Omega.{arith}
use mathlib.Core.Path.{◌≡◌, refl, sym, ap, ap₂, subst, ◌∙◌}
use mathlib.Core.Bool.{Bool, true, false, cond}
use mathlib.Core.List.{List, [], ◌∷◌, ◌++◌}
use mathlib.Core.Logic.{◌⊎◌, inl, inr, ⊎_elim}
use lib.Dec.{eqb}
use borrow.Author.Tests.{eqb-true}
use lib.ListN.{length, length-append}
use Rattle.text.specs.Tokens.{Name, Token, word, name, long, bad, NONE}
use Rattle.model.specs.Rules.{Pair, assigns}
use Rattle.grammar.specs.Files.{Slot, place_in, slot_names, values_of}
use Rattle.grammar.specs.Grammar.{SlotvalTree, slotval_name, slotval_none, spell_slotval}
use Rattle.grammar.specs.Meaning.{MeansSlotval, means_name, means_none}
use Rattle.grammar.specs.Reading.{Part, took, stop, ◌then◌, expects, fork, a_name, begins_with, if_next, new, new_name, known_slot, known_value, unassigned, read_slot, read_place, read_value, read_target, read_list}
use Rattle.grammar.proofs.Forward.{after_part}

pub never : {A B : Type 0} (k : ℕ) (a : A) (ts : List Token) → stop k ≡ took a ts → B
never k a ts e = absurd (let z : ◌≡◌ {A = ℕ} 0 1 = cc in omega arith)

pub took_same : {A : Type 0} (a b : A) (ts us : List Token) → took a ts ≡ took b us → (a ≡ b) × (ts ≡ us)
took_same a b ts us e = (cc, cc)

pub put : (t : Token) {xs ys : List Token} → xs ≡ ys → t ∷ xs ≡ t ∷ ys
put t e = ap (λ (y : List Token). t ∷ y) e

pub then_back : {A B : Type 0} (m : Part A) (f : A → List Token → Part B) (b : B) (rest : List Token) → (m then f) ≡ took b rest
    → (a : A) × (ts : List Token) × (m ≡ took a ts) × (f a ts ≡ took b rest)
unfolding ◌then◌
then_back (took a ts) f b rest e = (a, ts, refl, e)
then_back (stop k) f b rest e = never k b rest e

-- The same for long chains: what follows is handed the facts.
pub by_then : {A B C : Type 0} (m : Part A) (f : A → List Token → Part B) (b : B) (rest : List Token) → (m then f) ≡ took b rest
    → ((a : A) (ts : List Token) → m ≡ took a ts → f a ts ≡ took b rest → C) → C
by_then m f b rest e k = let x = then_back m f b rest e in k x.0 x.1 x.2 x.3

pub cond_back : {A : Type 0} (t : Bool) (m : Part A) (k : ℕ) (a : A) (rest : List Token) → cond t m (stop k) ≡ took a rest → (t ≡ true) × (m ≡ took a rest)
cond_back true m k a rest e = (refl, e)
cond_back false m k a rest e = never k a rest e

pub expects_back : (w : ℕ) (ts : List Token) (u : Unit {0}) (rest : List Token) → expects w ts ≡ took u rest → ts ≡ word w ∷ rest
unfolding expects
expects_back w [] u rest e = never 12 u rest e
expects_back w (word v ∷ ts) u rest e =
    let h = cond_back (eqb v w) (took tt ts) 12 u rest e in
    ap₂ (λ (x : ℕ) (y : List Token). word x ∷ y) (eqb-true v w h.0) (took_same tt u ts rest h.1).1
expects_back w (name n ∷ ts) u rest e = never 12 u rest e
expects_back w (long ∷ ts) u rest e = never 12 u rest e
expects_back w (bad ∷ ts) u rest e = never 11 u rest e

pub name_back : (ts : List Token) (n : Name) (rest : List Token) → a_name ts ≡ took n rest → ts ≡ name n ∷ rest
unfolding a_name
name_back [] n rest e = never 12 n rest e
name_back (word v ∷ ts) n rest e = never 12 n rest e
name_back (name m ∷ ts) n rest e = let h = took_same m n ts rest e in ap₂ (λ (x : Name) (y : List Token). name x ∷ y) h.0 h.1
name_back (long ∷ ts) n rest e = never 13 n rest e
name_back (bad ∷ ts) n rest e = never 11 n rest e

pub known_slot_back : (k : ℕ) (ts : List Token) (s : ℕ) (rest : List Token) → known_slot k ts ≡ took s rest → (k ≡ suc s) × (ts ≡ rest)
unfolding known_slot
known_slot_back zero ts s rest e = never _ s rest e
known_slot_back (suc k) ts s rest e = let h = took_same k s ts rest e in (ap suc h.0, h.1)

pub known_value_back : (k : ℕ) (ts : List Token) (v : ℕ) (rest : List Token) → known_value k ts ≡ took v rest → (i : ℕ) × (k ≡ suc i) × (suc i ≡ v) × (ts ≡ rest)
unfolding known_value
known_value_back zero ts v rest e = never _ v rest e
known_value_back (suc k) ts v rest e = let h = took_same (suc k) v ts rest e in (k, refl, h.0, h.1)

pub unassigned_back : (t : Bool) (s : ℕ) (ts : List Token) (u : ℕ) (rest : List Token) → unassigned t s ts ≡ took u rest → (t ≡ false) × (s ≡ u) × (ts ≡ rest)
unfolding unassigned
unassigned_back true s ts u rest e = never _ u rest e
unassigned_back false s ts u rest e = let h = took_same s u ts rest e in (refl, h.0, h.1)

pub new_back : (k : ℕ) (m : Name) (ts : List Token) (n : Name) (rest : List Token) → new k m ts ≡ took n rest → (k ≡ 0) × (m ≡ n) × (ts ≡ rest)
unfolding new
new_back zero m ts n rest e = let h = took_same m n ts rest e in (refl, h.0, h.1)
new_back (suc k) m ts n rest e = never _ n rest e

pub slot_back : (slots : List Slot) (ts : List Token) (s : ℕ) (rest : List Token) → read_slot slots ts ≡ took s rest
    → (n : Name) × (ts ≡ name n ∷ rest) × (place_in (slot_names slots) n ≡ suc s)
unfolding read_slot
slot_back slots ts s rest e =
    let a = then_back (a_name ts) _ s rest e in
    let b = known_slot_back (place_in (slot_names slots) a.0) a.1 s rest a.3 in
    (a.0, name_back ts a.0 a.1 a.2 ∙ put (name a.0) b.1, b.0)

pub target_back : (slots : List Slot) (ps : List Pair) (ts : List Token) (s : ℕ) (rest : List Token) → read_target slots ps ts ≡ took s rest
    → (n : Name) × (ts ≡ name n ∷ rest) × (place_in (slot_names slots) n ≡ suc s) × (assigns ps s ≡ false)
unfolding read_target
target_back slots ps ts s rest e =
    let a = then_back (read_slot slots ts) _ s rest e in
    let b = slot_back slots ts a.0 a.1 a.2 in
    let u = unassigned_back (assigns ps a.0) a.0 a.1 s rest a.3 in
    (b.0, b.1 ∙ put (name b.0) u.2, b.2 ∙ ap suc u.1, sym (ap (assigns ps) u.1) ∙ u.0)

pub new_name_back : (ns : List Name) (ts : List Token) (n : Name) (rest : List Token) → new_name ns ts ≡ took n rest → (ts ≡ name n ∷ rest) × (place_in ns n ≡ 0)
unfolding new_name
new_name_back ns ts n rest e =
    let a = then_back (a_name ts) _ n rest e in
    let b = new_back (place_in ns a.0) a.0 a.1 n rest a.3 in
    (name_back ts a.0 a.1 a.2 ∙ ap₂ (λ (x : Name) (y : List Token). name x ∷ y) b.1 b.2, sym (ap (place_in ns) b.1) ∙ b.0)

pub fork_back : {B : Type 0} (w v : ℕ) (f g : List Token → Part B) (ts : List Token) (b : B) (rest : List Token) → fork w v f g ts ≡ took b rest
    → ((more : List Token) × (ts ≡ word w ∷ more) × (f more ≡ took b rest)) ⊎ ((more : List Token) × (ts ≡ word v ∷ more) × (g more ≡ took b rest))
unfolding fork
fork_back w v f g [] b rest e = never 12 b rest e
fork_back {B} w v f g (word u ∷ ts) b rest e = one (eqb u w) refl e
  where
    two : (t : Bool) → eqb u v ≡ t → cond {A = List Token → Part B} t g (λ more. stop 12) ts ≡ took b rest
        → ((more : List Token) × (word u ∷ ts ≡ word w ∷ more) × (f more ≡ took b rest)) ⊎ ((more : List Token) × (word u ∷ ts ≡ word v ∷ more) × (g more ≡ took b rest))
    two true q x = inr (ts, ap (λ (k : ℕ). word k ∷ ts) (eqb-true u v q), x)
    two false q x = never 12 b rest x

    one : (t : Bool) → eqb u w ≡ t → cond {A = List Token → Part B} t f (cond (eqb u v) g (λ more. stop 12)) ts ≡ took b rest
        → ((more : List Token) × (word u ∷ ts ≡ word w ∷ more) × (f more ≡ took b rest)) ⊎ ((more : List Token) × (word u ∷ ts ≡ word v ∷ more) × (g more ≡ took b rest))
    one true q x = inl (ts, ap (λ (k : ℕ). word k ∷ ts) (eqb-true u w q), x)
    one false q x = two (eqb u v) refl x
fork_back w v f g (name n ∷ ts) b rest e = never 12 b rest e
fork_back w v f g (long ∷ ts) b rest e = never 12 b rest e
fork_back w v f g (bad ∷ ts) b rest e = never 11 b rest e

pub begins_back : (w : ℕ) (ts : List Token) → begins_with w ts ≡ true → (more : List Token) × (ts ≡ word w ∷ more)
begins_back w [] e = absurd (let z : ◌≡◌ {A = ℕ} 0 1 = cc in omega arith)
begins_back w (word v ∷ ts) e = (ts, ap (λ (k : ℕ). word k ∷ ts) (eqb-true v w e))
begins_back w (name n ∷ ts) e = absurd (let z : ◌≡◌ {A = ℕ} 0 1 = cc in omega arith)
begins_back w (long ∷ ts) e = absurd (let z : ◌≡◌ {A = ℕ} 0 1 = cc in omega arith)
begins_back w (bad ∷ ts) e = absurd (let z : ◌≡◌ {A = ℕ} 0 1 = cc in omega arith)

-- Either way on gives what was read.
pub if_next_back : {B : Type 0} (w : ℕ) (f g : List Token → B) (ts : List Token) (b : B) → if_next w f g ts ≡ b
    → ((more : List Token) × (ts ≡ word w ∷ more) × (f (word w ∷ more) ≡ b)) ⊎ (g ts ≡ b)
unfolding if_next
if_next_back {B} w f g ts b e = go (begins_with w ts) refl e
  where
    go : (t : Bool) → begins_with w ts ≡ t → cond {A = List Token → B} t f g ts ≡ b → ((more : List Token) × (ts ≡ word w ∷ more) × (f (word w ∷ more) ≡ b)) ⊎ (g ts ≡ b)
    go true q x = let h = begins_back w ts q in inl (h.0, h.1, sym (ap f h.1) ∙ x)
    go false q x = inr x

-- A value that was read: NONE, or the name of one.
pub value_back : (slots : List Slot) (s : ℕ) (ts : List Token) (v : ℕ) (rest : List Token) → read_value slots s ts ≡ took v rest
    → (t : SlotvalTree) × (ts ≡ spell_slotval t ∷ rest) × MeansSlotval (values_of slots s) t v
unfolding read_value read_place
value_back slots s ts v rest e =
    ⊎_elim (λ x. let t = took_same 0 v x.0 rest x.2 in (slotval_none, x.1 ∙ put (word NONE) t.1, subst (MeansSlotval (values_of slots s) slotval_none) t.0 means_none))
    (λ x. let a = then_back (a_name ts) _ v rest x in
    let b = known_value_back (place_in (values_of slots s) a.0) a.1 v rest a.3 in
    (slotval_name a.0, name_back ts a.0 a.1 a.2 ∙ put (name a.0) b.3, subst (MeansSlotval (values_of slots s) (slotval_name a.0)) b.2 (means_name b.1)))
    (if_next_back NONE _ _ ts (took v rest) e)

-- A list that was read: the tree so far grows by each part, up to the end.
module _
    {A T : Type 0} (one : List A → List Token → Part A) (none : List A → List Token → Part (List A)) (sep end : ℕ)
    (spells : T → List Token → List Token) (Means : T → List A → Type 0)
    (full : (sofar : List A) (ts : List Token) (out : List A) (rest : List Token) → none sofar ts ≡ took out rest → ⊥)
    (grow : (c : T) (sofar : List A) (ts : List Token) (a : A) (rest : List Token) → Means c sofar → one sofar ts ≡ took a rest
    → (d : T) × (spells c (word sep ∷ ts) ≡ spells d rest) × Means d (sofar ++ a ∷ []))
  where
    pub after_back : (room : ℕ) (c : T) (sofar : List A) (ts : List Token) (out : List A) (rest : List Token) → Means c sofar → after_part one none sep end room sofar ts ≡ took out rest
        → (d : T) × (spells c ts ≡ spells d (word end ∷ rest)) × Means d out × (length out ≤ room + length sofar)
    unfolding read_list
    after_back zero c sofar ts out rest g e =
        ⊎_elim (λ x. absurd (full sofar x.0 out rest x.2))
        (λ x. let t = took_same sofar out x.0 rest x.2 in
        (c, ap (spells c) (x.1 ∙ put (word end) t.1), subst (λ (o : List A). Means c o) t.0 g, (let z = ap length t.0 in omega arith)))
        (fork_back sep end _ _ ts out rest e)
    after_back (suc room) c sofar ts out rest g e =
        ⊎_elim (λ x. let a = then_back (one sofar x.0) _ out rest x.2 in
        let b = grow c sofar x.0 a.0 a.1 g a.2 in
        let r = after_back room b.0 (sofar ++ a.0 ∷ []) a.1 out rest b.2 a.3 in
        (r.0, ap (spells c) x.1 ∙ b.1 ∙ r.1, r.2, (let y = length-append sofar (a.0 ∷ []) in let z = r.3 in omega arith)))
        (λ x. let t = took_same sofar out x.0 rest x.2 in
        (c, ap (spells c) (x.1 ∙ put (word end) t.1), subst (λ (o : List A). Means c o) t.0 g, (let z = ap length t.0 in omega arith)))
        (fork_back sep end _ _ ts out rest e)

    pub list_back : (room : ℕ) (ts : List Token) (out : List A) (rest : List Token)
        → ((a : A) (left : List Token) → one [] ts ≡ took a left → (d : T) × (ts ≡ spells d left) × Means d (a ∷ []))
        → read_list one none sep end room [] ts ≡ took out rest → (d : T) × (ts ≡ spells d (word end ∷ rest)) × Means d out × (length out ≤ room)
    unfolding read_list
    list_back zero ts out rest start e = absurd (full [] ts out rest e)
    list_back (suc room) ts out rest start e =
        let a = then_back (one [] ts) _ out rest e in
        let b = start a.0 a.1 a.2 in
        let r = after_back room b.0 (a.0 ∷ []) a.1 out rest b.2 a.3 in
        (r.0, b.1 ∙ r.1, r.2, (let z = r.3 in omega arith))

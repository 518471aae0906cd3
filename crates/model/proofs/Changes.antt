-- Laws of the rules that a list names and of C: each pair of C comes from the slip or from a rule that has fired.
-- Assumes nothing.
use Prim.Native.Nat.{ℕ}
use mathlib.Core.Path.{◌≡◌, fun_ext}
use mathlib.Core.Bool.{Bool}
use mathlib.Core.List.{List, [], ◌∷◌, reverse, reverse_aux}
use mathlib.Core.Logic.{◌⊎◌, inl, inr, ⊎_elim}
use lib.Dec.{T, eqb→eq, eqb_refl}
use Rattle.laws.proofs.Truth.{and_l, and_r, and_i, or_l, or_r, or_e, bool_ext}
use Rattle.model.specs.Rules.{Pair, Rule, among}
use Rattle.model.specs.Orders.{rule_at, names, each, changes}

-- A list names its first rule.
pub names_first : (n : ℕ) (ns : List ℕ) → T (names (n ∷ ns) n)
unfolding names
names_first n ns = or_l _ _ (eqb_refl n)

-- A longer list names what its rest names.
pub names_more : (n m : ℕ) (ms : List ℕ) → T (names ms n) → T (names (m ∷ ms) n)
unfolding names
names_more n m ms t = or_r _ _ t

-- A rule named is the first or is named by the rest.
pub names_e : (n m : ℕ) (ms : List ℕ) → T (names (m ∷ ms) n) → (n ≡ m) ⊎ T (names ms n)
unfolding names
names_e n m ms t = ⊎_elim (λ s. inl (eqb→eq n m s)) (λ s. inr s) (or_e _ _ t)

-- The empty list names no rule.
pub names_none : (n : ℕ) → ¬ T (names [] n)
unfolding names
names_none n t = t

-- Where every number passes, each that is named passes.
pub each_e : (f : ℕ → Bool) (ns : List ℕ) → T (each f ns) → (n : ℕ) → T (names ns n) → T (f n)
unfolding each
each_e f [] t n h = absurd (names_none n h)
each_e f (m ∷ ns) t n h = ⊎_elim (λ (e : n ≡ m). rw e (and_l _ _ t)) (λ s. each_e f ns (and_r _ _ t) n s) (names_e n m ns h)

-- Where each that is named passes, every number passes.
pub each_i : (f : ℕ → Bool) (ns : List ℕ) → ((n : ℕ) → T (names ns n) → T (f n)) → T (each f ns)
unfolding each
each_i f [] h = tt
each_i f (m ∷ ns) h = and_i _ _ (h m (names_first m ns)) (each_i f ns (λ n t. h n (names_more n m ns t)))

reversed_e : (ns done : List ℕ) (n : ℕ) → T (names (reverse_aux ns done) n) → T (names ns n) ⊎ T (names done n)
reversed_e [] done n t = inr t
reversed_e (m ∷ ns) done n t =
    ⊎_elim (λ h. inl (names_more n m ns h)) (λ h. ⊎_elim (λ (e : n ≡ m). inl (rw e (names_first m ns))) (λ d. inr d) (names_e n m done h)) (reversed_e ns (m ∷ done) n t)

reversed_old : (ns done : List ℕ) (n : ℕ) → T (names done n) → T (names (reverse_aux ns done) n)
reversed_old [] done n t = t
reversed_old (m ∷ ns) done n t = reversed_old ns (m ∷ done) n (names_more n m done t)

reversed_new : (ns done : List ℕ) (n : ℕ) → T (names ns n) → T (names (reverse_aux ns done) n)
reversed_new [] done n t = absurd (names_none n t)
reversed_new (m ∷ ns) done n t =
    ⊎_elim (λ (e : n ≡ m). rw e (reversed_old ns (m ∷ done) m (names_first m done))) (λ h. reversed_new ns (m ∷ done) n h) (names_e n m ns t)

-- A list and its reverse name the same rules.
pub names_reverse : (ns : List ℕ) → names (reverse ns) ≡ names ns
names_reverse ns =
    fun_ext (λ n. bool_ext (names (reverse ns) n) (names ns n) (λ t. ⊎_elim (λ h. h) (λ h. absurd (names_none n h)) (reversed_e ns [] n t)) (reversed_new ns [] n))

-- Where a pair of C comes from.
abbrev pub Cause : List Rule → List Pair → List ℕ → Pair → Type 0
Cause rs I ns p = T (among p I) ⊎ ((m : ℕ) × T (names ns m) × T (among p (rule_at rs m).assignments))

-- The slip's pairs are in C.
pub from_slip : (rs : List Rule) (I : List Pair) (ns : List ℕ) (p : Pair) → T (among p I) → T (changes rs I ns p)
unfolding changes
from_slip rs I [] p h = h
from_slip rs I (n ∷ ns) p h = or_r _ _ (from_slip rs I ns p h)

-- What a fired rule assigns is in C.
pub from_rule : (rs : List Rule) (I : List Pair) (ns : List ℕ) (p : Pair) (m : ℕ) → T (names ns m) → T (among p (rule_at rs m).assignments) → T (changes rs I ns p)
unfolding changes
from_rule rs I [] p m e h = absurd (names_none m e)
from_rule rs I (n ∷ ns) p m e h = ⊎_elim (λ (q : m ≡ n). or_l _ _ (rw q at h)) (λ t. or_r _ _ (from_rule rs I ns p m t h)) (names_e m n ns e)

-- Each pair of C comes from the slip or from a fired rule.
pub cause : (rs : List Rule) (I : List Pair) (ns : List ℕ) (p : Pair) → T (changes rs I ns p) → Cause rs I ns p
unfolding changes
cause rs I [] p h = inl h
cause rs I (n ∷ ns) p h =
    ⊎_elim (λ t. inr (n, names_first n ns, t))
    (λ t. ⊎_elim (λ i. inl i) (λ c. inr (c.0, names_more c.0 n ns c.1, c.2)) (cause rs I ns p t)) (or_e _ _ h)

-- A list that names more rules has a larger C.
pub changes_more : (rs : List Rule) (I : List Pair) (a b : List ℕ) → ((n : ℕ) → T (names a n) → T (names b n)) → (p : Pair) → T (changes rs I a p) → T (changes rs I b p)
changes_more rs I a b h p t = ⊎_elim (from_slip rs I b p) (λ c. from_rule rs I b p c.0 (h c.0 c.1) c.2) (cause rs I a p t)

-- Lists that name the same rules have the same C.
pub changes_same : (rs : List Rule) (I : List Pair) (a b : List ℕ) → names a ≡ names b → changes rs I a ≡ changes rs I b
changes_same rs I a b e =
    fun_ext (λ p. bool_ext _ _ (changes_more rs I a b (λ n t. rw (← e) t) p) (changes_more rs I b a (λ n t. rw e t) p))

-- `strata::least::asked` meets its contract.
use mathlib.Core.Path.{◌≡◌, refl, sym, ◌∙◌}
use mathlib.Core.Bool.{Bool, true, false, cond}
use mathlib.Core.Logic.{⊎_elim}
use Prim.Native.Nat.{ℕ, ◌+◌, ◌≤◌, ◌<◌, max}
use native.Mathlib.Omega.{arith}
use lib.ListN.{get_or}
use Rattle.model.specs.Strata.{is_becomes, is_plain, is_under_not}
use Rattle.model.proofs.Pairs.{when_plain, when_under_not, when_neither}
use Rattle.table.specs.Link.{rule_of, literal_of}
use Rattle.table.specs.inner.Flat.{place_of}
use Rattle.table.proofs.Walks.{needed_start, barred_start, picked_end}
use Rattle.rows.specs.inner.Rows.{pair_in, literal_in, rule_in}
use Rattle.rows.proofs.Laws.{number_fits, row_picked_next, row_picked_over}
use Rattle.strata.specs.inner.Heights.{highest_at, asked_at}
use Rattle.strata.proofs.least.asked.Invariants.{ask-from}
use Rattle.strata.proofs.least.asked.Goals.{After-literal-x, After-place-at, After-place-p, In-literals, Joined-is_becomes}
use Rattle.strata.proofs.least.asked.Goals as goal

-- The highest of several numbers, one looked at after the other.
highest-first : (h x a b : ℕ) → h ≡ max 1 x → max h (max a (b + 1)) ≡ max (max x a) (b + 1)
highest-first h x a b e = omega arith

highest-plain : (h x a b e : ℕ) → max h (max (max x a) (b + 1)) ≡ e → max h (max (x + 0) (max a (b + 1))) ≡ e
highest-plain h x a b e z = omega arith

highest-under-not : (h x a b e : ℕ) → max h (max a (max x b + 1)) ≡ e → max h (max (x + 1) (max a (b + 1))) ≡ e
highest-under-not h x a b e z = omega arith

highest-none : (h a e : ℕ) → max h a ≡ e → max h (max 0 a) ≡ e
highest-none h a e z = omega arith

at_most_one : (b : Bool) → cond b 1 0 ≤ 1
at_most_one true = omega arith
at_most_one false = omega arith

-- The literal at hand is used.
used : (c : In-literals) →
    c.literals.j < get_or c.args.row.now.numbers 1 0
used c = omega (arith, c.tested-m.ensures.0)

-- The place of the trigger's pair.
trigger-placed : (c : After-place-at) → c.place-at.result ≡ place_of (pair_in (get_or c.args.row.now.numbers 0 0))
trigger-placed c = rw c.trigger.ensures.0 at c.place-at.ensures.0

-- A literal that is a `*=` asks the number at its pair, under NOT one more.
next-by : (c : Joined-is_becomes) →
    is_becomes (literal_of (literal_in c.literal-x.result)) ≡ true → (n : Bool) → (literal_in c.literal-x.result).negated ≡ n
    → max c.literals.h (max (get_or c.args.high.now c.place-p.result 0 + cond n 1 0) (ask-from c.args.high.now c.args.row.now.numbers (c.literals.j + 1))) ≡ asked_at c.args.high.now (rule_of (rule_in c.args.row.now.numbers))
unfolding highest_at
next-by c b true n =
    let l = c in
    let a = c in
    let s = c in
    let w = when_under_not (literal_of (literal_in l.literal-x.result)) b n in
    let p = row_picked_over s.args.row.now.numbers s.args.row.now.fits is_plain a.literals.j l.literal-x.result ((let it : let a = c in let s = c in a.literals.j < get_or s.args.row.now.numbers 1 0 = omega (arith, c.tested-m.ensures.0) in it)) l.literal-x.ensures.0 w.0 in
    let q = row_picked_next s.args.row.now.numbers s.args.row.now.fits is_under_not a.literals.j l.literal-x.result ((let it : let a = c in let s = c in a.literals.j < get_or s.args.row.now.numbers 1 0 = omega (arith, c.tested-m.ensures.0) in it)) l.literal-x.ensures.0 w.1 in
    highest-under-not a.literals.h _ _ _ _ (rw (← c.place-p.ensures.0) at (rw (p, q) at a.literals.invariant.1))
next-by c b false n =
    let l = c in
    let a = c in
    let s = c in
    let w = when_plain (literal_of (literal_in l.literal-x.result)) b n in
    let p = row_picked_next s.args.row.now.numbers s.args.row.now.fits is_plain a.literals.j l.literal-x.result ((let it : let a = c in let s = c in a.literals.j < get_or s.args.row.now.numbers 1 0 = omega (arith, c.tested-m.ensures.0) in it)) l.literal-x.ensures.0 w.0 in
    let q = row_picked_over s.args.row.now.numbers s.args.row.now.fits is_under_not a.literals.j l.literal-x.result ((let it : let a = c in let s = c in a.literals.j < get_or s.args.row.now.numbers 1 0 = omega (arith, c.tested-m.ensures.0) in it)) l.literal-x.ensures.0 w.1 in
    highest-plain a.literals.h _ _ _ _ (rw (← c.place-p.ensures.0) at (rw (p, q) at a.literals.invariant.1))

-- Another asks nothing.
next_none : (c : Joined-is_becomes) →
    is_becomes (literal_of (literal_in c.literal-x.result)) ≡ false
    → max c.literals.h (max 0 (ask-from c.args.high.now c.args.row.now.numbers (c.literals.j + 1))) ≡ asked_at c.args.high.now (rule_of (rule_in c.args.row.now.numbers))
next_none c b =
    let w = when_neither (literal_of (literal_in c.literal-x.result)) b in
    let p = row_picked_over c.args.row.now.numbers c.args.row.now.fits is_plain c.literals.j c.literal-x.result ((let it : c.literals.j < get_or c.args.row.now.numbers 1 0 = omega (arith, c.tested-m.ensures.0) in it)) c.literal-x.ensures.0 w.0 in
    let q = row_picked_over c.args.row.now.numbers c.args.row.now.fits is_under_not c.literals.j c.literal-x.result ((let it : c.literals.j < get_or c.args.row.now.numbers 1 0 = omega (arith, c.tested-m.ensures.0) in it)) c.literal-x.ensures.0 w.1 in
    highest-none c.literals.h _ _ (rw (p, q) at c.literals.invariant.1)

-- Each way it asks what the code has then.
next : (c : Joined-is_becomes) →
    max c.literals.h (max c.if-is_becomes.y (ask-from c.args.high.now c.args.row.now.numbers (c.literals.j + 1))) ≡ asked_at c.args.high.now (rule_of (rule_in c.args.row.now.numbers))
next c =
    ⊎_elim
    (λ w. let y : c.if-is_becomes.y ≡ get_or c.args.high.now c.place-p.result 0 + cond (literal_in c.literal-x.result).negated 1 0 = omega (arith, w, c.above.ensures) in rw y (next-by c (sym c.is_becomes.ensures ∙ w.if-is_becomes.true) _ refl))
    (λ w. let y : c.if-is_becomes.y ≡ 0 = omega (arith, w) in rw y (next_none c (sym c.is_becomes.ensures ∙ w.if-is_becomes.false)))
    c.if-is_becomes.branch-raw

pub literals-init : goal.literals-init
unfolding asked_at highest_at
literals-init c =
    let h : c.max-h.result ≡ max 1 (get_or c.args.high.now c.place-at.result 0) = omega (arith, c.max-h.ensures) in
    (omega (arith, h), rw (needed_start (rule_in c.args.row.now.numbers), barred_start (rule_in c.args.row.now.numbers)) (highest-first c.max-h.result _ _ _ (rw (trigger-placed (goal.at.literals-init c).After-place-at) at h)))

pub literal-x-requires : goal.literal-x-requires
literal-x-requires c = omega (arith, used (goal.at.literal-x-requires c).In-literals, c.args.row.now.fits.few_literals)

pub above-requires : goal.above-requires
above-requires c = omega (arith, number_fits c.args.row.now.numbers c.args.row.now.fits c.literals.j c.literal-x.result (used (goal.at.above-requires c).In-literals) c.literal-x.ensures.0)

pub overflow_add-z : goal.overflow_add-z
overflow_add-z c = omega (arith, c.requires.below c.place-p.result, at_most_one (literal_in c.literal-x.result).negated, c.above.ensures)

pub literals-preserved : goal.literals-preserved
literals-preserved c =
    let e = next (goal.at.literals-preserved c).Joined-is_becomes in
    (omega (arith, c.max-h-in-literals.ensures), omega (arith, c.max-h-in-literals.ensures, e))

pub returns : goal.returns
unfolding highest_at
returns c =
    let p = picked_end (rule_in c.args.row.now.numbers) is_plain c.literals.j (omega (arith, c.tested-m.ensures.0)) in
    let q = picked_end (rule_in c.args.row.now.numbers) is_under_not c.literals.j (omega (arith, c.tested-m.ensures.0)) in
    omega (arith, c.literals.invariant.0, rw (p, q) at c.literals.invariant.1)

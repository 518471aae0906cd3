-- `selecting::select_with` meets its contract: what is known of a rule that is looked at, of one that is not done, of one judged; then the goals.
use mathlib.Core.Path.{◌≡◌, refl, sym, ◌∙◌}
use mathlib.Core.Bool.{false, true≢false, false≢true}
use mathlib.Core.List.{List, []}
use Prim.Native.Nat.{ℕ, suc, ◌+◌, ◌≤◌, ◌<◌}
use native.Mathlib.Omega.{arith}
use lib.Dec.{T}
use lib.ListN.{length-set, length-replicate, length, get_or}
use borrow.Author.Rules.{rules}
use Rattle.testing.proofs.Lists.{woken_none, or_rule, or_woken}
use Rattle.model.specs.Rules.{Pair, among}
use Rattle.table.specs.Link.{rules_of, rule_of, assignments_of}
use Rattle.table.specs.inner.Flat.{pair_places}
use Rattle.rows.specs.inner.Rows.{table_in, rule_in}
use Rattle.rows.specs.inner.RuleRows.{numbers_of, rows_table}
use Rattle.rows.proofs.RuleRows.{all_bounded}
use Rattle.marks.specs.Marks.{declared_pairs, truth_rule}
use Rattle.judging.specs.inner.Known.{marks_of, Truths}
use Rattle.marking.specs.inner.Marked.{AllMarked, NotMarked}
use Rattle.marking.proofs.Chains.{chained_start}
use Rattle.selecting.specs.inner.Selected.{CardIs, SlipIs, OneValue, Selected}
use Rattle.selecting.proofs.Turns.{kept_fire, kept_kill, turn_fire, turn_kill, sweep_less, turns_left, turn_place, turn_seen, turn_over}
use Rattle.selecting.proofs.MarkLaws.{truths_card}
use Rattle.judging.specs.inner.Times.{times}
use Rattle.selecting.proofs.Live.{assigned_at, live_start, live_next, live_small, live_enough, live_released}
use Rattle.selecting.proofs.Sweeping.{Seen}
use Rattle.selecting.proofs.Given.{Given, own_counts, rule_at_row, item_numbers}
use Rattle.model.specs.Orders.{rule_at}
use Rattle.testing.specs.inner.Waiting.{Woken}
use Rattle.truths.specs.declared.Truth3.TheVariants.{Unknown}
use Rattle.marks.specs.inner.Declared.{Declared}
use Rattle.selecting.proofs.Standing as standing
use Rattle.selecting.proofs.select_with.Goals.{At-rules, After-next_or-turn, Else-dead-i, After-rule_truth, After-all_known, Start, then-fired-i-via-then-fired-i, then-fired-i-via-else-fired-i+then-dead-i}
use Rattle.selecting.proofs.select_with.Goals as goal

is-rule : (d : After-next_or-turn) → d.next_or-turn.result.rule < (length d.args.rows.now)
is-rule d = or_rule d.rules.k d.rules.k d.rules.woken d.rules.left d.next_or-turn.result d.next_or-turn.ensures (length d.args.rows.now) (λ z. omega (arith, d.rules-test.true)) d.rules.invariant.1

-- What is lent keeps its length.
fired_length : (u : At-rules) → length u.rules.fired ≡ length u.args.fired.now
fired_length u = u.rules.invariant.2.fired_size ∙ u.sweeps.invariant.0

dead-length : (u : At-rules) → length u.rules.dead ≡ length u.args.dead.now
dead-length u = u.rules.invariant.2.dead_size ∙ u.sweeps.invariant.1

queued-length : (u : At-rules) → length u.rules.queued ≡ length u.args.queued.now
queued-length u = u.rules.invariant.6 ∙ u.sweeps.invariant.2

woken-length : (u : At-rules) → length u.rules.woken ≡ length u.args.woken.now
woken-length u = u.rules.invariant.7 ∙ u.sweeps.invariant.3

-- So the rule looked at has its row and its flags.
fired-inside : (d : After-next_or-turn) → d.next_or-turn.result.rule < length d.rules.fired
fired-inside d = omega (arith, is-rule d, d.requires.0.fired_room, d.rules.invariant.2.fired_size, d.sweeps.invariant.0)

dead-inside : (d : After-next_or-turn) → d.next_or-turn.result.rule < length d.rules.dead
dead-inside d = omega (arith, is-rule d, d.requires.1.dead_room, d.rules.invariant.2.dead_size, d.sweeps.invariant.1)

queued_room : (d : After-next_or-turn) → (length d.args.rows.now) ≤ length d.rules.queued
queued_room d = omega (arith, d.requires.1.queued_room, d.rules.invariant.6, d.sweeps.invariant.2)

-- What the promise of `select_with` gives for the files it is asked of.
given : (s : Start) (I : List Pair) → Declared (declared_pairs s.args.counts.now) (rules_of (rows_table s.args.rows.now)) I
    → Given (numbers_of s.args.rows.now) (length s.args.rows.now) s.args.counts.now (length s.args.counts.now) s.args.counts.now I
given s I D = record { rows_bounded = all_bounded s.args.rows.now s.requires.0.few_rules; counted = own_counts s.args.counts.now; narrow = s.requires.0.few_slots; few_values = s.requires.0.few_values; all_declared = D }

-- Those woken before stay, the place stays within the rules.
still-woken : (d : After-next_or-turn) → Woken (length d.args.rows.now) d.next_or-turn.result.left d.rules.woken
still-woken d = or_woken d.rules.k d.rules.k d.rules.woken d.rules.left d.next_or-turn.result d.next_or-turn.ensures (length d.args.rows.now) d.rules.invariant.1

place_inside : (d : After-next_or-turn) → d.next_or-turn.result.place ≤ (length d.args.rows.now)
place_inside d = turn_place d.rules.k d.rules.woken d.rules.left d.next_or-turn.result d.next_or-turn.ensures (length d.args.rows.now) d.rules-test.true d.rules.invariant.0

-- A rule passed over leaves less to look at,
less : (d : After-next_or-turn) → turns_left d.rules.fired d.rules.dead (length d.args.rows.now) d.next_or-turn.result.place d.next_or-turn.result.left < turns_left d.rules.fired d.rules.dead (length d.args.rows.now) d.rules.k d.rules.left
less d = turn_over d.rules.woken d.rules.fired d.rules.dead (length d.args.rows.now) d.rules.k d.rules.left d.next_or-turn.result d.next_or-turn.ensures d.rules-test.true

-- and is done or Unknown.
over : (d : After-next_or-turn) → (get_or d.rules.fired d.next_or-turn.result.rule false ≡ false → get_or d.rules.dead d.next_or-turn.result.rule false ≡ false → (S : List ℕ) → Truths S d.rules.marks → truth_rule S (marks_of d.rules.marks) (rule_of (rule_in (get_or (numbers_of d.args.rows.now) d.next_or-turn.result.rule []))) ≡ Unknown)
    → d.rules.moved ≡ false → Seen (numbers_of d.args.rows.now) d.rules.marks d.rules.fired d.rules.dead d.next_or-turn.result.place
unfolding Seen
over d h m =
    turn_seen d.rules.k d.rules.woken d.rules.left d.next_or-turn.result d.next_or-turn.ensures
    (λ i. get_or d.rules.fired i false ≡ false → get_or d.rules.dead i false ≡ false → (S : List ℕ) → Truths S d.rules.marks → truth_rule S (marks_of d.rules.marks) (rule_of (rule_in (get_or (numbers_of d.args.rows.now) i []))) ≡ Unknown)
    (d.rules.invariant.5 m) h

-- A rule that is not done has neither fired nor been found False.
not-fired : (o : Else-dead-i) → get_or o.rules.fired o.next_or-turn.result.rule false ≡ false
not-fired o = o.if-fired-i.false

not_dead : (o : Else-dead-i) → get_or o.rules.dead o.next_or-turn.result.rule false ≡ false
not_dead o = o.if-dead-i.false

-- The numbers of the row at hand.
here : (c : After-rule_truth) → get_or (numbers_of c.args.rows.now) c.next_or-turn.result.rule [] ≡ c.index-rows-i.result.numbers
here c = item_numbers c.args.rows.now _ c.index-rows-i.result (is-rule (goal.at.After-rule_truth c).After-next_or-turn) c.index-rows-i.is

-- What its rule comes to.
comes_to : (c : After-rule_truth) (S : List ℕ) → Truths S c.rules.marks →
    c.rule_truth.result ≡ truth_rule S (marks_of c.rules.marks) (rule_at (rules_of (rows_table c.args.rows.now)) (suc c.next_or-turn.result.rule))
comes_to c S t = rw (rule_at_row (numbers_of c.args.rows.now) (length c.args.rows.now) c.next_or-turn.result.rule (is-rule (goal.at.After-rule_truth c).After-next_or-turn), here c) (c.rule_truth.ensures S c.rules.marks t refl)

pub enter-init : goal.enter-init
enter-init c = (length-replicate {A = ℕ} 512 0, live_start _ _ _ refl, chained_start _ c.requires.1.none_chained, refl)

pub count_assigned-requires : goal.count_assigned-requires
count_assigned-requires c = (c.enter.invariant.0, live_small (numbers_of c.args.rows.now) (length c.args.rows.now) (all_bounded c.args.rows.now c.requires.0.few_rules) _ c.enter.e c.enter.live (search rules) c.enter.invariant.1 c.enter.invariant.0)

pub enter-preserved : goal.enter-preserved
enter-preserved c =
    let at = item_numbers c.args.rows.now c.enter.e c.index-rows-e.result (search rules) c.index-rows-e.is in
    let counted : (q : ℕ) → q < pair_places → get_or c.count_assigned.new.live q 0 ≡ get_or c.enter.live q 0 + times q (assigned_at (numbers_of c.args.rows.now) c.enter.e) = rw at c.count_assigned.ensures.1 in
    (c.count_assigned.ensures.0, live_next _ _ c.enter.e _ _ (c.requires.1.none_dead c.enter.e) c.enter.invariant.1 counted, c.chain.ensures c.enter.invariant.2, c.nexts-1.given ∙ c.enter.invariant.3)

pub sweeps-init : goal.sweeps-init
sweeps-init c =
    let z : c.enter.e ≡ length c.args.rows.now = omega arith in
    let l = rw z at c.enter.invariant.1 in (
      refl,
      refl,
      refl,
      refl,
      record { chained = rw z at c.enter.invariant.2; live_size = c.enter.invariant.0; counted = l },
      λ S I G d x o. standing.start _ _ _ _ _ S I G _ _ _ _ _ _ c.requires.1.none_dead c.requires.0.none_fired x o c.first_negative-negative.ensures (truths_card S _ _ d c.truth_of-truth.ensures) l c.requires.0.pair_flags,
      λ m. absurd (true≢false m),
    )

pub rules-init : goal.rules-init
unfolding Seen
rules-init c = (
  omega arith,
  woken_none (length c.args.rows.now) c.sweeps.woken (omega (arith, c.sweeps.invariant.3, c.requires.1.woken_room)),
  record { fired_size = refl; dead_size = refl; no_more_open = omega arith; fewer_open = λ m. absurd (false≢true m) },
  c.sweeps.invariant.4,
  λ S I G st. st,
  λ m i h. absurd (let z = h in omega arith),
  refl,
  refl,
)

pub sweeps-smaller : goal.sweeps-smaller
sweeps-smaller c = rw c.sweeps-test.true (sweep_less _ _ c.rules.fired c.rules.dead c.rules.moved c.rules.invariant.2)

pub sweeps-preserved : goal.sweeps-preserved
unfolding Seen
sweeps-preserved c = (
  fired_length (goal.at.sweeps-preserved c).At-rules,
  dead-length (goal.at.sweeps-preserved c).At-rules,
  queued-length (goal.at.sweeps-preserved c).At-rules,
  woken-length (goal.at.sweeps-preserved c).At-rules,
  c.rules.invariant.3,
  λ S I G d x o. c.rules.invariant.4 S I G (c.sweeps.invariant.5 S I G d x o),
  λ m i h. c.rules.invariant.5 m i (omega (arith, h, c.rules-test.false)),
)

pub bounds-fired-i : goal.bounds-fired-i
bounds-fired-i c = fired-inside (goal.at.bounds-fired-i c).After-next_or-turn

pub rules-smaller-then-fired-i : goal.rules-smaller-then-fired-i
rules-smaller-then-fired-i c = less (goal.at.rules-smaller-then-fired-i c).After-next_or-turn

pub rules-preserved-then-fired-i : goal.rules-preserved-then-fired-i
rules-preserved-then-fired-i c = (
  place_inside (goal.at.rules-preserved-then-fired-i c).After-next_or-turn,
  still-woken (goal.at.rules-preserved-then-fired-i c).After-next_or-turn,
  c.rules.invariant.2,
  c.rules.invariant.3,
  c.rules.invariant.4,
  over (goal.at.rules-preserved-then-fired-i c).After-next_or-turn
      (λ un o. elim c.then-fired-i.branch [
        | then-fired-i-via-then-fired-i w ↦ absurd (true≢false (sym w.if-fired-i.true ∙ un))
        | then-fired-i-via-else-fired-i+then-dead-i w ↦ absurd (true≢false (sym w.if-dead-i.true ∙ o))
      ]),
  c.rules.invariant.6,
  c.rules.invariant.7,
)

pub bounds-dead-i : goal.bounds-dead-i
bounds-dead-i c = dead-inside (goal.at.bounds-dead-i c).After-next_or-turn

pub bounds-queued-i : goal.bounds-queued-i
bounds-queued-i c = omega (arith, is-rule (goal.at.bounds-queued-i c).After-next_or-turn, queued_room (goal.at.bounds-queued-i c).After-next_or-turn)

pub bounds-fired-i-in-True : goal.bounds-fired-i-in-True
bounds-fired-i-in-True c = fired-inside (goal.at.bounds-fired-i-in-True c).After-next_or-turn

pub assign-requires : goal.assign-requires
assign-requires c =
    let d = (goal.at.assign-requires c).After-next_or-turn in
    let below : (p : Pair) → T (among p (assignments_of (rule_in c.index-rows-i.result.numbers))) → p.slot < length c.args.counts.now =
    λ p a. d.requires.0.assigned_below d.next_or-turn.result.rule p (is-rule d) (rw (here (goal.at.assign-requires c).After-rule_truth) a) in
    (λ p a. d.requires.0.few_values p.slot (below p a), d.requires.0.few_rules, d.rules.invariant.3.chained, still-woken d, rw length-set (queued_room d))

pub returns-in_default-clause-selected : goal.returns-in_default-clause-selected
returns-in_default-clause-selected c S I x y o D =
    let at = goal.at.returns-in_default-clause-selected c in
    let q = at.After-next_or-turn in
    let G = given at.Start I D in
    let w = q.rules.invariant.4 S I G (c.sweeps.invariant.5 S I G x y o) in
    let n = comes_to at.After-rule_truth S w.truths in
    record {
      number = sym (standing.clash _ _ _ _ _ S I G q.rules.marks _ q.rules.dead q.rules.fired q.next_or-turn.result.rule w (is-rule q) (not-fired at.Else-dead-i) (sym n ∙ c.in-True.is) (rw (here at.After-rule_truth) (sym c.in_default.ensures.clash)));
      same_positive = λ z. absurd (let e : ◌≡◌ {A = ℕ} 41 0 = z in omega arith);
      same_fired = λ z. absurd (let e : ◌≡◌ {A = ℕ} 41 0 = z in omega arith);
    }

pub rules-smaller-in-True : goal.rules-smaller-in-True
rules-smaller-in-True c =
    let o = (goal.at.rules-smaller-in-True c).Else-dead-i in
    let d = (goal.at.rules-smaller-in-True c).After-next_or-turn in
    turn_fire d.rules.woken d.rules.fired d.rules.dead _ d.rules.k d.rules.left d.next_or-turn.result d.next_or-turn.ensures d.rules-test.true _ d.next_or-turn.result.rule c.in-Ok.ensures.woken.few d.requires.0.few_rules (fired-inside d) (not-fired o)

pub rules-preserved-in-True : goal.rules-preserved-in-True
rules-preserved-in-True c =
    let o = (goal.at.rules-preserved-in-True c).Else-dead-i in
    let d = (goal.at.rules-preserved-in-True c).After-next_or-turn in
    let h = d.rules.invariant.3 in
    let e = c.in-Ok.ensures.marks in (
      place_inside d,
      c.in-Ok.ensures.woken,
      kept_fire _ _ d.rules.fired d.rules.dead d.rules.moved d.next_or-turn.result.rule d.rules.invariant.2 (fired-inside d) (not-fired o),
      record { chained = h.chained; live_size = h.live_size; counted = h.counted },
      λ S I G st. let w = d.rules.invariant.4 S I G st in let n = comes_to (goal.at.rules-preserved-in-True c).After-rule_truth S w.truths in rw (e, ← (here (goal.at.rules-preserved-in-True c).After-rule_truth)) (standing.fire _ _ _ _ _ S I G d.rules.marks _ d.rules.dead d.rules.fired d.next_or-turn.result.rule w (is-rule d) (not-fired o) (sym n ∙ c.in-True.is) (rw (here (goal.at.rules-preserved-in-True c).After-rule_truth) (sym c.in-Ok.ensures.clash)) (fired-inside d)),
      λ m. absurd (true≢false m),
      c.queued-1.given ∙ length-set d.rules.queued d.next_or-turn.result.rule false ∙ d.rules.invariant.6,
      c.woken-1.given ∙ d.rules.invariant.7,
    )

pub bounds-dead-i-in-False : goal.bounds-dead-i-in-False
bounds-dead-i-in-False c = dead-inside (goal.at.bounds-dead-i-in-False c).After-next_or-turn

pub release-requires : goal.release-requires
release-requires c =
    let o = (goal.at.release-requires c).Else-dead-i in
    let d = (goal.at.release-requires c).After-next_or-turn in
    let h = d.rules.invariant.3 in
    (h.live_size, rw (← (here (goal.at.release-requires c).After-rule_truth)) (live_enough _ d.rules.dead _ d.next_or-turn.result.rule _ h.counted (is-rule d) (not_dead o)))

pub rule_out_unassigned-left-requires : goal.rule_out_unassigned-left-requires
rule_out_unassigned-left-requires c =
    let d = (goal.at.rule_out_unassigned-left-requires c).After-next_or-turn in
    (d.requires.0.few_rules, d.rules.invariant.3.chained, still-woken d, rw length-set (queued_room d))

pub rules-smaller-in-False : goal.rules-smaller-in-False
rules-smaller-in-False c =
    let o = (goal.at.rules-smaller-in-False c).Else-dead-i in
    let d = (goal.at.rules-smaller-in-False c).After-next_or-turn in
    turn_kill d.rules.woken d.rules.fired d.rules.dead _ d.rules.k d.rules.left d.next_or-turn.result d.next_or-turn.ensures d.rules-test.true _ d.next_or-turn.result.rule c.rule_out_unassigned-left.ensures.1.few d.requires.0.few_rules (dead-inside d) (not_dead o)

pub rules-preserved-in-False : goal.rules-preserved-in-False
rules-preserved-in-False c =
    let o = (goal.at.rules-preserved-in-False c).Else-dead-i in
    let d = (goal.at.rules-preserved-in-False c).After-next_or-turn in
    let h = d.rules.invariant.3 in
    let e = c.rule_out_unassigned-left.ensures.0 in
    let r : (q : ℕ) → q < pair_places → get_or c.release.new.live q 0 + times q (assigned_at (numbers_of c.args.rows.now) d.next_or-turn.result.rule) ≡ get_or d.rules.live q 0 = rw (here (goal.at.rules-preserved-in-False c).After-rule_truth) c.release.ensures.1 in (
      place_inside d,
      c.rule_out_unassigned-left.ensures.1,
      kept_kill _ _ d.rules.fired d.rules.dead d.rules.moved d.next_or-turn.result.rule d.rules.invariant.2 (dead-inside d) (not_dead o),
      record {
        chained = h.chained;
        live_size = c.release.ensures.0;
        counted = live_released _ d.rules.dead _ d.next_or-turn.result.rule _ _ h.counted (is-rule d) (dead-inside d) (not_dead o) r;
      },
      λ S I G st. let g = d.rules.invariant.4 S I G st in rw (e, ← (here (goal.at.rules-preserved-in-False c).After-rule_truth)) (standing.kill _ _ _ _ _ S I G d.rules.marks _ _ d.rules.dead d.rules.fired d.next_or-turn.result.rule g (is-rule d) (not_dead o) (sym (comes_to (goal.at.rules-preserved-in-False c).After-rule_truth S g.truths) ∙ c.in-False.is) r (dead-inside d)),
      λ m. absurd (true≢false m),
      c.queued-in-False-1.given ∙ length-set d.rules.queued d.next_or-turn.result.rule false ∙ d.rules.invariant.6,
      c.woken-in-False-1.given ∙ d.rules.invariant.7,
    )

pub rules-smaller : goal.rules-smaller
rules-smaller c = less (goal.at.rules-smaller c).After-next_or-turn

pub rules-preserved : goal.rules-preserved
rules-preserved c =
    let d = (goal.at.rules-preserved c).After-next_or-turn in
    (place_inside d, still-woken d, d.rules.invariant.2, d.rules.invariant.3, d.rules.invariant.4, over d (λ un o S t. rw (here (goal.at.rules-preserved c).After-rule_truth) (sym (c.rule_truth.ensures S d.rules.marks t refl) ∙ c.in-Unknown.is)), length-set d.rules.queued d.next_or-turn.result.rule false ∙ d.rules.invariant.6, d.rules.invariant.7)

-- The end of the sweeps: nothing moved in the last.
ended : (k : After-all_known) →
    (S : List ℕ) (I : List Pair) → Given (numbers_of k.args.rows.now) (length k.args.rows.now) k.args.counts.now (length k.args.counts.now) k.args.counts.now I → CardIs S k.args.card.now → SlipIs I k.args.positive.now → OneValue I
    → (AllMarked k.args.counts.now k.sweeps.marks.positive k.sweeps.marks.negative → Selected (declared_pairs k.args.counts.now) (rules_of (table_in (numbers_of k.args.rows.now) (length k.args.rows.now))) S I 0 k.sweeps.marks.positive k.sweeps.fired)
    × (NotMarked k.args.counts.now k.sweeps.marks.positive k.sweeps.marks.negative → Selected (declared_pairs k.args.counts.now) (rules_of (table_in (numbers_of k.args.rows.now) (length k.args.rows.now))) S I 42 k.args.positive.now k.sweeps.fired)
unfolding Seen
ended k S I G x y o =
    let w = k.sweeps.invariant.5 S I G x y o in
    let e = standing.end _ _ _ _ _ S I G k.sweeps.marks _ k.sweeps.dead k.sweeps.fired w
    (λ i h f e. rw (rule_at_row (numbers_of k.args.rows.now) (length k.args.rows.now) i h) (k.sweeps.invariant.6 k.sweeps-test.false i h f e S w.truths)) in
    (e.0, e.1 k.args.positive.now)

pub returns-then-all_known-clause-selected : goal.returns-then-all_known-clause-selected
returns-then-all_known-clause-selected c S I x y o D = (ended (goal.at.returns-then-all_known-clause-selected c).After-all_known S I (given (goal.at.returns-then-all_known-clause-selected c).Start I D) x y o).0 (c.all_known.ensures.0 c.if-all_known.true)

pub returns-else-all_known-clause-selected : goal.returns-else-all_known-clause-selected
returns-else-all_known-clause-selected c S I x y o D =
    (ended (goal.at.returns-else-all_known-clause-selected c).After-all_known S I (given (goal.at.returns-else-all_known-clause-selected c).Start I D) x y o).1 (c.all_known.ensures.1 c.if-all_known.false)

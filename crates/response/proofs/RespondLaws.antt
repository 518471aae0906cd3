-- The tests of a response one after the other, and what they leave.
-- Assumes nothing.
use mathlib.Core.Path.{◌≡◌, refl, sym, ap, ap₂, ◌∙◌}
use mathlib.Core.Bool.{true, false}
use mathlib.Core.List.{List}
use mathlib.Core.Logic.{inl}
use Prim.Native.Nat.{ℕ, ◌≤◌, ◌<◌}
use native.Mathlib.Omega.{arith}
use lib.Dec.{T}
use lib.ListN.{length, get_or, take, get_or-eq_default}
use lib.Seq.{length-take-le}
use Rattle.std.proofs.lemmas.List.{get_or-take}
use borrow.Author.Tests.{lt-ltb, le-ltb}
use Rattle.laws.specs.Packed.{byte_count}
use Rattle.laws.proofs.Equations.{from_true}
use Rattle.laws.proofs.Fronts.{filled_at}
use Rattle.model.specs.Rules.{Pair, Rule}
use Rattle.table.specs.declared.Table.{Table}
use Rattle.table.specs.declared.Way.{Way}
use Rattle.table.specs.declared.Way.TheVariants.{Strata, Marks}
use Rattle.laws.specs.Limits.{slot_limit}
use Rattle.table.specs.inner.Shape.{Shaped}
use Rattle.table.specs.Link.{rules_of, value_counts}
use Rattle.rows.specs.declared.RuleRow.{RuleRow}
use Rattle.rows.specs.inner.RuleRows.{rows_table}
use Rattle.soundness.specs.Sound.{well_formed, takes}
use Rattle.soundness.specs.declared.Entry.{Entry}
use Rattle.soundness.specs.inner.Admitted.{Admitted}
use Rattle.soundness.specs.inner.Admitted as entered
use Rattle.soundness.proofs.WellFormed.{well_formed_e}
use Rattle.soundness.proofs.Admitted.{admitted_least}
use Rattle.soundness.proofs.Taken.{takes_parts, right_by_least}
use Rattle.std.specs.Prelude.{Ok, Err}
use Rattle.refusals.specs.declared.Refusal.{Refusal}
use Rattle.refusals.specs.declared.Refusal.TheVariants as refusal
use Rattle.refusals.specs.declared.ChangeFault.{ChangeFault}
use Rattle.refusals.specs.declared.ChangeFault.TheVariants as change
use Rattle.refusals.specs.Numbers.{change_number, refusal_number, refusal_second}
use Rattle.steps.specs.declared.step.Fault.{Fault}
use Rattle.steps.specs.declared.step.Fault.TheVariants as fault
use Rattle.steps.specs.Faults.{fault_number}
use Rattle.cards.specs.declared.Card.{Card}
use Rattle.cards.specs.declared.Slip.{Slip}
use Rattle.cards.specs.Outcomes.{Accepted, Refused, CardRead, SlipRead}
use Rattle.laws.specs.Answers.{OrRefused, taken, refused}
use Rattle.cards.specs.Forms.{card_bits, card_test, slip_test, read_card, read_slip}
use Rattle.cards.specs.Cards.{card_of, slip_of, card_read, card_read_of, slip_read, slip_read_of, changes_of}
use Rattle.cards.specs.inner.Fitting.{Slots, CardFits, SlipFits}
use Rattle.cards.proofs.Passed.{counts_all, card_pass, card_fits, slip_fits}
use Rattle.cards.proofs.EntryTrips.{card_of_values, slip_of_changes}
use Rattle.cards.proofs.Having.{tested_few, tested_once, card_tested, slip_tested}
use Rattle.selecting.specs.inner.Selected.{OneValue}
use Rattle.tally.specs.declared.Tally.{Tally}
use Rattle.response.specs.Outcomes.{Outcome}
use Rattle.response.specs.Outcomes as response
use Rattle.response.specs.Ending.{Answer, answer_by_firing, answer_by_marks}
use Rattle.response.specs.Respond.{Rooms, Outputs, changes_room, ◌and_then◌, if_room, answer_by, answer_by_rules, answer_by_table, counted, tally_after, outcome_of, outputs_after, answer_at, response_at}
use Rattle.tally.specs.Counting.{is_full, one_answered, one_refused}
use Rattle.response.specs.inner.InOrder.{Kept, InOrder, Ends}
use Rattle.response.proofs.Declared.{slip_declared, assigned_declared, tests_declared}

-- What was taken in two steps was taken in each.
pub then_taken : {A B : Type 0} (u : OrRefused A) (f : A → OrRefused B) (b : B) → (u and_then f) ≡ taken b → (a : A) × (u ≡ taken a) × (f a ≡ taken b)
unfolding ◌and_then◌
then_taken (taken a) f b e = (a, refl, e)
then_taken (refused k s) f b e = absurd (let z : ◌≡◌ {A = ℕ} 0 1 = cc in omega arith)

-- What the code says of a card and of a slip is what was taken,
pub card_taken : (u : OrRefused (List ℕ)) (q : Card) → card_read_of (Ok q) ≡ card_read u → (S : List ℕ) × (u ≡ taken S) × (q ≡ card_of S)
unfolding card_read
card_taken (taken S) q e = (S, refl, ap (λ (x : CardRead). x.card) e)
card_taken (refused k s) q e = absurd (let c : Accepted ≡ Refused k s = ap (λ (x : CardRead). x.outcome) e in let z : ◌≡◌ {A = ℕ} 0 1 = cc in omega arith)

pub slip_taken : (u : OrRefused (List Pair)) (q : Slip) → slip_read_of (Ok q) ≡ slip_read u → (I : List Pair) × (u ≡ taken I) × (q ≡ slip_of I)
unfolding slip_read
slip_taken (taken I) q e = (I, refl, ap (λ (x : SlipRead). x.slip) e)
slip_taken (refused k s) q e = absurd (let c : Accepted ≡ Refused k s = ap (λ (x : SlipRead). x.outcome) e in let z : ◌≡◌ {A = ℕ} 0 1 = cc in omega arith)

-- or what was refused.
same_refusal : {A : Type 0} (j r k s : ℕ) → Refused k s ≡ Refused j r → ◌≡◌ {A = OrRefused A} (refused j r) (refused k s)
same_refusal j r k s c = let a : j ≡ k = cc in let b : r ≡ s = cc in rw (a, b)

pub card_refused : (u : OrRefused (List ℕ)) (r : Refusal) → card_read_of (Err r) ≡ card_read u → u ≡ refused (refusal_number r) (refusal_second r)
unfolding card_read
card_refused (taken S) r e = absurd (let c : Refused (refusal_number r) (refusal_second r) ≡ Accepted = ap (λ (x : CardRead). x.outcome) e in let z : ◌≡◌ {A = ℕ} 0 1 = cc in omega arith)
card_refused (refused j i) r e = same_refusal j i (refusal_number r) (refusal_second r) (ap (λ (x : CardRead). x.outcome) e)

pub slip_refused : (u : OrRefused (List Pair)) (r : Refusal) → slip_read_of (Err r) ≡ slip_read u → u ≡ refused (refusal_number r) (refusal_second r)
unfolding slip_read
slip_refused (taken I) r e = absurd (let c : Refused (refusal_number r) (refusal_second r) ≡ Accepted = ap (λ (x : SlipRead). x.outcome) e in let z : ◌≡◌ {A = ℕ} 0 1 = cc in omega arith)
slip_refused (refused j i) r e = same_refusal j i (refusal_number r) (refusal_second r) (ap (λ (x : SlipRead). x.outcome) e)

-- A refusal has a number above 0.
fault_positive : (f : Fault) → 0 < fault_number f
fault_positive fault.BadByte = omega arith
fault_positive fault.OutOfPlace = omega arith
fault_positive fault.LongName = omega arith
fault_positive fault.DeclaredTwice = omega arith
fault_positive fault.TooMany = omega arith
fault_positive fault.Undeclared = omega arith
fault_positive fault.AssignedTwice = omega arith

change_positive : (f : ChangeFault) → 0 < change_number f
change_positive change.UnknownSlot = omega arith
change_positive change.NotRising = omega arith
change_positive change.UnknownValue = omega arith

pub number_positive : (r : Refusal) → 0 < refusal_number r
number_positive refusal.LongText = omega arith
number_positive (refusal.Statement f rules) = fault_positive f
number_positive (refusal.Circle rule) = omega arith
number_positive refusal.CardSize = omega arith
number_positive refusal.CardCount = omega arith
number_positive (refusal.CardValue slot) = omega arith
number_positive refusal.CardPadding = omega arith
number_positive refusal.SlipSize = omega arith
number_positive (refusal.Change f place) = change_positive f
number_positive refusal.SlipPadding = omega arith
number_positive (refusal.NoRoom o) = omega arith
number_positive refusal.UnsoundTable = omega arith
number_positive refusal.FullTally = omega arith
number_positive refusal.ShortPrint = omega arith
number_positive refusal.LongPrint = omega arith
number_positive (refusal.Conflict slot) = omega arith
number_positive refusal.Clash = omega arith
number_positive refusal.Unknown = omega arith
number_positive refusal.NoEditor = omega arith

-- A refusal leaves all outputs.
pub ends_refused : (u : OrRefused Answer) (k s : ℕ) (o : Outputs) → u ≡ refused k s → Ends u (response.Refused k s) o o
unfolding outcome_of outputs_after
ends_refused u k s o e = rw e (refl, refl)

-- 31, or what comes after it.
pub by_table_31 : (way : Way) (t : Table) (card slip : List ℕ) (rooms : Rooms) → takes way t ≡ false → answer_by_table way t card slip rooms ≡ refused 31 0
unfolding answer_by_table
by_table_31 way t card slip rooms e = rw e refl

by_table_on : (way : Way) (t : Table) (card slip : List ℕ) (rooms : Rooms) → takes way t ≡ true → answer_by_table way t card slip rooms ≡ answer_by_rules way (value_counts t) (rules_of t) card slip rooms
unfolding answer_by_table
by_table_on way t card slip rooms e = rw e refl

module _ (way : Way) (counts : List ℕ) (rs : List Rule) (card slip : List ℕ) (rooms : Rooms) where
  -- 20 to 23, 24 to 28, or what comes after them.
  pub by_rules_card : (k s : ℕ) → read_card counts card ≡ refused k s → answer_by_rules way counts rs card slip rooms ≡ refused k s
  unfolding answer_by_rules ◌and_then◌
  by_rules_card k s e = rw e refl

  pub by_rules_slip : (S : List ℕ) (k s : ℕ) → read_card counts card ≡ taken S → read_slip counts slip ≡ refused k s → answer_by_rules way counts rs card slip rooms ≡ refused k s
  unfolding answer_by_rules ◌and_then◌
  by_rules_slip S k s e f = rw (e, f) refl

  pub by_rules_on : (S : List ℕ) (I : List Pair) → read_card counts card ≡ taken S → read_slip counts slip ≡ taken I
      → answer_by_rules way counts rs card slip rooms ≡ if_room (length counts) (length rs) rooms (answer_by way counts rs S I)
  unfolding answer_by_rules ◌and_then◌
  by_rules_on S I e f = rw (e, f) refl

-- 30, the first output that is too short, or what comes after it.
module _ (width count : ℕ) (rooms : Rooms) (u : OrRefused Answer) where
  pub short_card : rooms.for_card < byte_count (card_bits width) → if_room width count rooms u ≡ refused 30 1
  unfolding if_room
  short_card a = rw (lt-ltb rooms.for_card (byte_count (card_bits width)) a) refl

  pub short_changes : byte_count (card_bits width) ≤ rooms.for_card → rooms.for_changes < changes_room → if_room width count rooms u ≡ refused 30 2
  unfolding if_room
  short_changes a b = rw (le-ltb rooms.for_card (byte_count (card_bits width)) a, lt-ltb rooms.for_changes changes_room b) refl

  pub short_fired : byte_count (card_bits width) ≤ rooms.for_card → changes_room ≤ rooms.for_changes → rooms.for_fired < byte_count count → if_room width count rooms u ≡ refused 30 3
  unfolding if_room
  short_fired a b c = rw (le-ltb rooms.for_card (byte_count (card_bits width)) a, le-ltb rooms.for_changes changes_room b, lt-ltb rooms.for_fired (byte_count count) c) refl

  pub room_enough : byte_count (card_bits width) ≤ rooms.for_card → changes_room ≤ rooms.for_changes → byte_count count ≤ rooms.for_fired → if_room width count rooms u ≡ u
  unfolding if_room
  room_enough a b c = rw (le-ltb rooms.for_card (byte_count (card_bits width)) a, le-ltb rooms.for_changes changes_room b, le-ltb rooms.for_fired (byte_count count) c) refl

-- The answer by the way asked for.
module _ (way : Way) (counts : List ℕ) (rs : List Rule) (S : List ℕ) (I : List Pair) where
  pub by_strata : way ≡ Strata → answer_by way counts rs S I ≡ answer_by_firing rs (length counts) S I
  unfolding answer_by
  by_strata e = rw e refl

  pub by_marks : way ≡ Marks → answer_by way counts rs S I ≡ answer_by_marks rs counts S I
  unfolding answer_by
  by_marks e = rw e refl

-- A table that 31 lets pass leaves rows that name declared pairs and carry the least strata where these are asked for, and counts within their limit.
module _ (way : Way) (t : Table) (counts : List ℕ) (rows : List RuleRow) (sh : Shaped t) (l : length counts ≡ slot_limit) (e : takes way t ≡ true) (a : Admitted t counts rows) where
  passes : T (well_formed t)
  passes = (takes_parts way t (from_true (takes way t) e)).0

  width_few : t.width ≤ slot_limit
  width_few = (well_formed_e t sh passes).few_slots

  as_many : length (take t.width counts) ≡ t.width
  as_many = length-take-le t.width counts (omega (arith, width_few, l))

  same_counts : take t.width counts ≡ value_counts t
  same_counts = counts_all t sh width_few counts rows (omega (arith, width_few, l)) a

  admitted_kept : Kept way (take t.count rows) (take t.width counts)
  admitted_kept = record {
    few_rules = omega (arith, length-take-le t.count rows a.inside, a.few);
    least = λ s. rw (admitted_least t counts rows a) (rw (right_by_least way t (inl s)) at (takes_parts way t (from_true (takes way t) e)).1);
    few_slots = omega (arith, as_many, width_few);
    few_values = λ i h. let k : i < t.width = omega (arith, as_many) in omega (arith, get_or-take t.width counts i 0 k, a.same_count i k, (well_formed_e t sh passes).few_values i k);
    assigned = rw (a.same_rules, same_counts) (assigned_declared t sh passes);
    in_tests = rw (a.same_rules, same_counts) (tests_declared t sh passes);
  }

  -- The response by what is left of it is the response by the table.
  by_table_kept : (card slip : List ℕ) (rooms : Rooms) → answer_by_table way t card slip rooms ≡ answer_by_rules way (take t.width counts) (rules_of (rows_table (take t.count rows))) card slip rooms
  by_table_kept card slip rooms =
      by_table_on way t card slip rooms e ∙ ap₂ (λ (cs : List ℕ) (rs : List Rule). answer_by_rules way cs rs card slip rooms) (sym same_counts) (sym a.same_rules)

-- So by the numbers of slots and of rules that are said when it is entered.
module _ (way : Way) (t : Table) (e : Entry) (counts : List ℕ) (rows : List RuleRow) (sh : Shaped t) (l : length counts ≡ slot_limit) (right : takes way t ≡ true) (k : entered.EntryKept t e counts rows) where
  pub entered_kept : Kept way (take e.count rows) (take e.width counts)
  entered_kept = rw (k.count_is, k.width_is) (admitted_kept way t counts rows sh l right k.admitted)

  pub by_entry : (card slip : List ℕ) (rooms : Rooms) → answer_by_table way t card slip rooms ≡ answer_by_rules way (take e.width counts) (rules_of (rows_table (take e.count rows))) card slip rooms
  by_entry card slip rooms = rw (k.count_is, k.width_is) (by_table_kept way t counts rows sh l right k.admitted card slip rooms)

module _ (way : Way) (rows : List RuleRow) (counts : List ℕ) (K : Kept way rows counts) where
  -- The counts by which card and slip are read.
  kept_slots : Slots counts
  kept_slots = record { few = K.few_slots; small = K.few_values }

  -- A card that is taken, in its places.
  card_in_order : (card S : List ℕ) → read_card counts card ≡ taken S → (length S ≡ length counts) × CardFits (card_of S) × ((s : ℕ) → (card_of S).count ≤ s → get_or (card_of S).values s 0 ≡ 0)
  unfolding card_of
  card_in_order card S r =
      let p = card_tested counts card S r in (
        (card_pass counts S p).0,
        card_fits counts (card_of S) kept_slots (ap (card_test counts) (card_of_values S) ∙ p),
        λ s h. filled_at slot_limit 0 S s ∙ get_or-eq_default S 0 h,
      )

  -- A slip that is taken, in its places, with its pairs.
  slip_in_order : (slip : List ℕ) (I : List Pair) → read_slip counts slip ≡ taken I → SlipFits (slip_of I) × OneValue (changes_of (slip_of I))
  unfolding slip_of OneValue
  slip_in_order slip I r =
      let p = slip_tested counts slip I r in (
        slip_fits counts (slip_of I) kept_slots (omega (arith, tested_few counts 0 0 I p (omega arith), K.few_slots)) (ap (slip_test counts) (slip_of_changes I) ∙ p),
        rw (slip_of_changes I) (tested_once counts 0 0 I p),
      )

  -- Together they are in order.
  both_in_order : (card slip S : List ℕ) (I : List Pair) → read_card counts card ≡ taken S → read_slip counts slip ≡ taken I → InOrder way rows counts (card_of S) (slip_of I)
  unfolding card_of
  both_in_order card slip S I r q =
      let c = card_in_order card S r in
      let s = slip_in_order slip I q in
      record { kept = K; same_width = c.0; card_fits = c.1; rest_empty = c.2; slip_fits = s.0; slip_declared = rw (slip_of_changes I) (slip_declared counts slip I q); slip_once = s.1 }

  pub in_order : (card slip S : List ℕ) (I : List Pair) (c : Card) (s : Slip) → read_card counts card ≡ taken S → read_slip counts slip ≡ taken I → c ≡ card_of S → s ≡ slip_of I → InOrder way rows counts c s
  in_order card slip S I c s r q e f = rw (e, f) (both_in_order card slip S I r q)

-- What ends as one response ends as another that is the same.
pub ends_same : (u v : OrRefused Answer) (r : Outcome) (o o' : Outputs) → u ≡ v → Ends v r o o' → Ends u r o o'
ends_same u v r o o' e w = rw e w

-- 32 leaves the tally and the outputs.
pub full_response : (way : Way) (t : Table) (y : Tally) (card slip : List ℕ) (rooms : Rooms) (o : Outputs) → is_full y ≡ true
    → (record { outcome = response.Refused 32 0; tally = y } ≡ response_at way t y card slip rooms) × (o ≡ outputs_after (answer_at way t y card slip rooms) o)
unfolding response_at answer_at tally_after outcome_of outputs_after
full_response way t y card slip rooms o e = rw e (refl, refl)

-- Otherwise an answer adds one to slips answered, a refusal one to slips refused.
answer_counted : (y : Tally) (u : OrRefused Answer) (n f : ℕ) → outcome_of u ≡ response.Answered n f → counted y u ≡ one_answered y
unfolding outcome_of counted
answer_counted y (taken a) n f e = refl
answer_counted y (refused k s) n f e = absurd (let z : ◌≡◌ {A = ℕ} 0 1 = cc in omega arith)

refusal_counted : (y : Tally) (u : OrRefused Answer) (k s : ℕ) → outcome_of u ≡ response.Refused k s → counted y u ≡ one_refused y
unfolding outcome_of counted
refusal_counted y (taken a) k s e = absurd (let z : ◌≡◌ {A = ℕ} 0 1 = cc in omega arith)
refusal_counted y (refused j r) k s e = refl

counted_response : (way : Way) (t : Table) (y z : Tally) (card slip : List ℕ) (rooms : Rooms) (r : Outcome) (o o' : Outputs) → is_full y ≡ false → Ends (answer_by_table way t card slip rooms) r o o' → z ≡ counted y (answer_by_table way t card slip rooms)
    → (record { outcome = r; tally = z } ≡ response_at way t y card slip rooms) × (o' ≡ outputs_after (answer_at way t y card slip rooms) o)
unfolding response_at answer_at tally_after
counted_response way t y z card slip rooms r o o' e w q = rw e (λ i. record { outcome = w.0 i; tally = q i }, w.1)

pub counted_answer : (way : Way) (t : Table) (y z : Tally) (card slip : List ℕ) (rooms : Rooms) (r : Outcome) (n f : ℕ) (o o' : Outputs) → is_full y ≡ false → Ends (answer_by_table way t card slip rooms) r o o'
    → r ≡ response.Answered n f → z ≡ one_answered y
    → (record { outcome = r; tally = z } ≡ response_at way t y card slip rooms) × (o' ≡ outputs_after (answer_at way t y card slip rooms) o)
counted_answer way t y z card slip rooms r n f o o' e w a q =
    counted_response way t y z card slip rooms r o o' e w (q ∙ sym (answer_counted y (answer_by_table way t card slip rooms) n f (sym w.0 ∙ a)))

pub counted_refusal : (way : Way) (t : Table) (y z : Tally) (card slip : List ℕ) (rooms : Rooms) (r : Outcome) (k s : ℕ) (o o' : Outputs) → is_full y ≡ false → Ends (answer_by_table way t card slip rooms) r o o'
    → r ≡ response.Refused k s → z ≡ one_refused y
    → (record { outcome = r; tally = z } ≡ response_at way t y card slip rooms) × (o' ≡ outputs_after (answer_at way t y card slip rooms) o)
counted_refusal way t y z card slip rooms r k s o o' e w a q =
    counted_response way t y z card slip rooms r o o' e w (q ∙ sym (refusal_counted y (answer_by_table way t card slip rooms) k s (sym w.0 ∙ a)))

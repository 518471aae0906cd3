-- The two numbers of a refusal have at most three digits: no number is above 99, no second number above 255.
-- Assumes nothing.
use Prim.Native.Nat.{ℕ, zero, suc, ◌+◌, ◌^◌, ◌≤◌, ◌<◌}
use native.Mathlib.Omega.{arith}
use mathlib.Core.Path.{◌≡◌, refl}
use mathlib.Core.Bool.{Bool, true, false, cond}
use mathlib.Core.Logic.{⊎_elim}
use mathlib.Core.List.{List, [], ◌∷◌, ◌++◌}
use lib.Dec.{eqb, leb, ltb}
use lib.ListN.{length, get_or, take, drop, length-append, length-take}
use borrow.Author.Tests.{eqb-false, ltb-true}
use Rattle.laws.specs.Packed.{byte_count, byte_bits, field_at}
use Rattle.laws.specs.Answers.{Verdict, passed, fault, OrRefused, taken, refused, after}
use Rattle.laws.proofs.Packed.{number_lt}
use Rattle.model.specs.Rules.{Pair, Pairs, Rule}
use Rattle.model.specs.Strata.{weak}
use Rattle.model.specs.Circles.{circle_of}
use Rattle.model.specs.Result.{conflict_slot}
use Rattle.model.proofs.Steps.{lowest_through_not}
use Rattle.text.specs.Tokens.{Token, WHEN, SLOT, tokens}
use Rattle.table.specs.declared.Table.{Table}
use Rattle.laws.specs.Limits.{slot_limit, row, program_text_limit, program_rule_limit}
use Rattle.table.specs.Link.{rules_of, value_counts}
use Rattle.grammar.specs.Files.{Slot}
use Rattle.grammar.specs.Reading as grammar
use Rattle.grammar.specs.Reading.{Part, took, stop, expects, begins_with, if_next, read_rule, read_line, go_on, read_rules, read_lines, read_tokens, parse_within, parse_by}
use Rattle.grammar.proofs.Within.{accepted_by, refused_by}
use Rattle.table.specs.declared.Limits.TheVariants.{Program}
use Rattle.table.specs.Empty.{empty_table}
use Rattle.strata.specs.Layered.{with_strata}
use Rattle.table.specs.declared.Way.TheVariants.{Strata}
use Rattle.soundness.specs.Sound.{takes}
use Rattle.grammar.specs.TableFor.{table_for}
use Rattle.reader.specs.Tables.{FileRead, ReadingOutcome, Accepted, Refused}
use Rattle.rule_file.specs.Whole.{layered, answered_whole, program_reading}
use Rattle.rule_file.proofs.Answers.{refused_range}
use Rattle.cards.specs.Forms.{card_bits, slip_bits, count_in, values_in, changes_in, padding, values_test, card_test, change_fault, changes_test, read_card, read_slip}
use Rattle.cards.proofs.Taken.{values_length, changes_length}
use Rattle.tally.specs.declared.Tally.{Tally}
use Rattle.tally.specs.Counting.{is_full}
use Rattle.response.specs.Ending.{Answer, answer_of, unless_conflict, answer_by_firing}
use Rattle.response.specs.Respond.{◌and_then◌, Rooms, changes_room, if_room, answer_by, answer_by_rules, answer_by_table, answer_at}

-- Both numbers of a refusal.
abbrev pub Small : ℕ → ℕ → Type 0
Small k s = (k ≤ 99) × (s ≤ 255)

-- The grammar's reading: no second number is above the limit of rules.
abbrev Low : grammar.Parsed → Type 0
Low (grammar.accepted f) = Unit
Low (grammar.refused k n) = n ≤ 255

low_on : {A : Type 0} (n : ℕ) (p : Part A) (f : A → List Token → grammar.Parsed) → n ≤ 255 → ((a : A) (ts : List Token) → Low (f a ts)) → Low (go_on n p f)
unfolding go_on
low_on n (took a ts) f h g = g a ts
low_on n (stop k) f h g = h

low_rules : (room : ℕ) (slots : List Slot) (sofar : List Rule) (ts : List Token) → length sofar + room ≤ 255 → Low (read_rules room slots sofar ts)
unfolding read_rules
low_rules zero slots sofar [] h = tt
low_rules zero slots sofar (t ∷ ts) h = low_on (length sofar) (expects WHEN (t ∷ ts)) (λ u rest. grammar.refused 15 (length sofar)) (omega arith) (λ u rest. omega arith)
low_rules (suc room) slots sofar [] h = tt
low_rules (suc room) slots sofar (t ∷ ts) h =
    low_on (length sofar) (read_rule slots (t ∷ ts)) (λ r rest. read_rules room slots (sofar ++ r ∷ []) rest) (omega arith)
    (λ r rest. low_rules room slots (sofar ++ r ∷ []) rest (omega (arith, h, length-append sofar (r ∷ []))))

low_next : (w : ℕ) (f g : List Token → grammar.Parsed) (ts : List Token) → Low (f ts) → Low (g ts) → Low (if_next w f g ts)
unfolding if_next
low_next w f g ts a b = go (begins_with w ts)
  where
    go : (c : Bool) → Low (cond {A = List Token → grammar.Parsed} c f g ts)
    go true = a
    go false = b

low_lines : (room : ℕ) (slots : List Slot) (ts : List Token) → Low (read_lines program_rule_limit room slots ts)
unfolding read_lines
low_lines zero slots ts = low_next SLOT (λ more. grammar.refused 15 0) (read_rules program_rule_limit slots []) ts (omega arith) (low_rules program_rule_limit slots [] ts (omega arith))
low_lines (suc room) slots ts =
    low_next SLOT (λ more. go_on 0 (read_line slots more) (λ s rest. read_lines program_rule_limit room (slots ++ s ∷ []) rest)) (read_rules program_rule_limit slots []) ts
    (low_on 0 (read_line slots ts) (λ s rest. read_lines program_rule_limit room (slots ++ s ∷ []) rest) (omega arith) (λ s rest. low_lines room (slots ++ s ∷ []) rest)) (low_rules program_rule_limit slots [] ts (omega arith))

low_read : (text : List ℕ) → Low (parse_by Program text)
unfolding parse_within read_tokens
low_read text = go (leb (length text) program_text_limit)
  where
    go : (b : Bool) → Low (cond b (read_lines program_rule_limit slot_limit [] (tokens text)) (grammar.refused 10 0))
    go true = low_lines slot_limit [] (tokens text)
    go false = omega arith

-- The whole reading.
abbrev pub SmallOutcome : ReadingOutcome → Type 0
SmallOutcome Accepted = Unit
SmallOutcome (Refused k n) = Small k n

pub reading_small : (text : List ℕ) → SmallOutcome (program_reading text).outcome
unfolding answered_whole layered
reading_small text = go (parse_by Program text) refl (low_read text)
  where
    go : (a : grammar.Parsed) → parse_by Program text ≡ a → Low a → SmallOutcome (answered_whole a).outcome
    go (grammar.accepted f) e l = by_circle (eqb (circle_of weak f.rules) 0) refl
      where
        by_circle : (b : Bool) → eqb (circle_of weak f.rules) 0 ≡ b
            → SmallOutcome (cond {A = FileRead} b (record { outcome = Accepted; table = with_strata (table_for f) }) (record { outcome = Refused 18 (circle_of weak f.rules); table = empty_table })).outcome
        by_circle true q = tt
        by_circle false q =
            let n = (lowest_through_not f.rules (eqb-false (circle_of weak f.rules) 0 q)).rule.last in
            (omega arith, omega (arith, n, (accepted_by Program text f e).1))
    go (grammar.refused k n) e l = (⊎_elim (λ z. omega (arith, z)) (⊎_elim (λ z. omega (arith, z)) (λ z. omega (arith, (refused_range text k n z).1))) (refused_by Program text k n e), l)

-- What is taken or refused, and what a test says.
abbrev pub SmallAnswer : {A : Type 0} → OrRefused A → Type 0
SmallAnswer (taken a) = Unit
SmallAnswer (refused k s) = Small k s

abbrev SmallVerdict : Verdict → Type 0
SmallVerdict passed = Unit
SmallVerdict (fault k s) = Small k s

small_cond : {A : Type 0} (b : Bool) (u v : OrRefused A) → SmallAnswer u → SmallAnswer v → SmallAnswer (cond b u v)
small_cond true u v g h = g
small_cond false u v g h = h

small_after : {A : Type 0} (v : Verdict) (u : OrRefused A) → SmallVerdict v → SmallAnswer u → SmallAnswer (after v u)
unfolding after
small_after passed u g h = h
small_after (fault k s) u g h = g

small_then : {A B : Type 0} (u : OrRefused A) (f : A → OrRefused B) → SmallAnswer u → ((a : A) → SmallAnswer (f a)) → SmallAnswer (u and_then f)
unfolding ◌and_then◌
small_then (taken a) f g h = h a
small_then (refused k s) f g h = g

-- The count of a card or a slip has six bits.
pub count_small : (ys : List ℕ) → count_in ys < 64
unfolding field_at
count_small ys = go (length (take 6 (drop 0 (byte_bits ys)))) (omega (arith, length-take 6 (drop 0 (byte_bits ys)))) (number_lt (take 6 (drop 0 (byte_bits ys))))
  where
    go : (n : ℕ) → n ≤ 6 → field_at ys 0 6 < 2 ^ n → field_at ys 0 6 < 64
    go zero h l = omega arith
    go (suc zero) h l = omega arith
    go (suc (suc zero)) h l = omega arith
    go (suc (suc (suc zero))) h l = omega arith
    go (suc (suc (suc (suc zero)))) h l = omega arith
    go (suc (suc (suc (suc (suc zero))))) h l = omega arith
    go (suc (suc (suc (suc (suc (suc zero)))))) h l = omega arith
    go (suc (suc (suc (suc (suc (suc (suc n))))))) h l = absurd (omega arith)

values_small : (at : ℕ) (counts vs : List ℕ) → at + length vs ≤ 255 → SmallVerdict (values_test at counts vs)
unfolding values_test
values_small at [] vs h = tt
values_small at (n ∷ ns) [] h = tt
values_small at (n ∷ ns) (v ∷ vs) h = go (ltb n v) (values_small (suc at) ns vs (omega arith))
  where
    go : (b : Bool) → SmallVerdict (values_test (suc at) ns vs) → SmallVerdict (cond b (fault 22 at) (values_test (suc at) ns vs))
    go true l = (omega arith, omega arith)
    go false l = l

card_small : (counts ys : List ℕ) → SmallAnswer (read_card counts ys)
unfolding read_card card_test
card_small counts ys =
    small_cond (eqb (length ys) (byte_count (card_bits (count_in ys)))) _ (refused 20 0)
    (small_after _ _ (go (eqb (length (values_in ys)) (length counts))) (small_cond (eqb (padding ys (card_bits (count_in ys))) 0) (taken (values_in ys)) (refused 23 0) tt (omega arith, omega arith))) (omega arith, omega arith)
  where
    go : (b : Bool) → SmallVerdict (cond b (values_test 0 counts (values_in ys)) (fault 21 0))
    go true = values_small 0 counts (values_in ys) (omega (arith, values_length ys, count_small ys))
    go false = (omega arith, omega arith)

fault_small : (counts : List ℕ) (low : ℕ) (p : Pair) → change_fault counts low p ≤ 99
unfolding change_fault
fault_small counts low p = go (leb (length counts) p.slot) (ltb p.slot low) (ltb (get_or counts p.slot 0) p.value)
  where
    go : (a b c : Bool) → cond a 25 (cond b 26 (cond c 27 0)) ≤ 99
    go true b c = omega arith
    go false true c = omega arith
    go false false true = omega arith
    go false false false = omega arith

changes_small : (counts : List ℕ) (low at : ℕ) (ps : List Pair) → at + length ps ≤ 255 → SmallVerdict (changes_test counts low at ps)
unfolding changes_test
changes_small counts low at [] h = tt
changes_small counts low at (p ∷ ps) h = go (eqb (change_fault counts low p) 0) (changes_small counts (suc p.slot) (suc at) ps (omega arith))
  where
    go : (b : Bool) → SmallVerdict (changes_test counts (suc p.slot) (suc at) ps) → SmallVerdict (cond b (changes_test counts (suc p.slot) (suc at) ps) (fault (change_fault counts low p) at))
    go true l = l
    go false l = (fault_small counts low p, omega arith)

slip_small : (counts ys : List ℕ) → SmallAnswer (read_slip counts ys)
unfolding read_slip
slip_small counts ys =
    small_cond (eqb (length ys) (byte_count (slip_bits (count_in ys)))) _ (refused 24 0)
    (small_after _ _ (changes_small counts 0 0 (changes_in ys) (omega (arith, changes_length ys, count_small ys)))
    (small_cond (eqb (padding ys (slip_bits (count_in ys))) 0) (taken (changes_in ys)) (refused 28 0) tt (omega arith, omega arith))) (omega arith, omega arith)

room_small : (width count : ℕ) (rooms : Rooms) (u : OrRefused Answer) → SmallAnswer u → SmallAnswer (if_room width count rooms u)
unfolding if_room
room_small width count rooms u h =
    small_cond (ltb rooms.for_card (byte_count (card_bits width))) (refused 30 1) _ (omega arith, omega arith)
    (small_cond (ltb rooms.for_changes changes_room) (refused 30 2) _ (omega arith, omega arith) (small_cond (ltb rooms.for_fired (byte_count count)) (refused 30 3) u (omega arith, omega arith) h))

conflict_small : (width count : ℕ) (S : List ℕ) (C : Pairs) (ns : List ℕ) → width ≤ 255 → SmallAnswer (unless_conflict width count S C ns)
unfolding unless_conflict
conflict_small width count S C ns h = go (ltb (conflict_slot width row C) width) refl
  where
    go : (b : Bool) → ltb (conflict_slot width row C) width ≡ b → SmallAnswer (cond b (refused 40 (conflict_slot width row C)) (taken (answer_of width count S C ns)))
    go true e = (omega arith, omega (arith, h, ltb-true (conflict_slot width row C) width e))
    go false e = tt

-- The response at one record by a table whose slots are within the limit.
pub answer_small : (t : Table) (y : Tally) (card slip : List ℕ) (rooms : Rooms) → length (value_counts t) ≤ slot_limit → SmallAnswer (answer_at Strata t y card slip rooms)
unfolding answer_at answer_by_table answer_by_rules answer_by answer_by_firing
answer_small t y card slip rooms h =
    small_cond (is_full y) (refused 32 0) _ (omega arith, omega arith)
    (small_cond (takes Strata t) _ (refused 31 0)
    (small_then (read_card (value_counts t) card) _ (card_small (value_counts t) card)
    (λ S. small_then (read_slip (value_counts t) slip) _ (slip_small (value_counts t) slip)
    (λ I. room_small (length (value_counts t)) (length (rules_of t)) rooms _ (conflict_small (length (value_counts t)) (length (rules_of t)) S _ _ (omega arith)))))
    (omega arith, omega arith))

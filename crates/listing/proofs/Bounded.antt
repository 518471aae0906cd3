-- How long what the program prints can be.
-- Assumes nothing.
use Prim.Native.Nat.{ℕ, zero, suc, ◌+◌, ◌*◌, ◌≤◌, ◌<◌}
use native.Mathlib.Omega.{arith}
use native.Mathlib.Nat.{suc-mul}
use mathlib.Core.Path.{◌≡◌, refl}
use mathlib.Core.Bool.{Bool, true, false}
use mathlib.Core.List.{List, [], ◌∷◌, ◌++◌, map}
use lib.ListN.{length, length-append}
use borrow.Author.Tests.{ne_eqb}
use Rattle.laws.specs.Truth.{◌∨ᵇ◌}
use Rattle.laws.specs.Quoted.{bytes_from, bytes}
use Rattle.laws.specs.Limits.{name_limit, slot_limit}
use Rattle.laws.specs.Packed.{byte_count}
use Rattle.laws.specs.Tabulated.{tabulate}
use Rattle.laws.specs.Answers.{OrRefused, taken, refused}
use Rattle.model.specs.Rules.{Pair}
use Rattle.table.specs.declared.Table.{Table}
use Rattle.table.specs.declared.Way.TheVariants.{Strata}
use Rattle.names.specs.Names.{show_slot, show_value}
use Rattle.reader.specs.Tables.{ReadingOutcome, Accepted, Refused}
use Rattle.rule_file.specs.Whole.{program_reading}
use Rattle.cards.specs.Forms.{card_bits, changes_in}
use Rattle.cards.proofs.Taken.{changes_length}
use Rattle.tally.specs.declared.Tally.{Tally}
use Rattle.tally.specs.Counting.{fresh, is_full}
use Rattle.tally.specs.Editors.{is_editor}
use Rattle.tally.proofs.EditorLaws.{editor_e}
use Rattle.response.specs.Ending.{Answer}
use Rattle.response.specs.Respond.{answer_at, counted, tally_after}
use Rattle.listing.specs.Listing.{RuleLine, program_rooms, editor_number, program_editors, rule_line, value_listed, change_line, list_response, list_reading, listing}
use Rattle.listing.specs.Printed.{decimal, hexadecimal, fired_word, rule_text, rules_text, change_text, changes_text, card_text, tally_text, refusal_text, rule_text_most, change_text_most, card_text_most, tally_text_most, page, printed}
use Rattle.listing.proofs.Digits.{decimal_short, refusal_length, hex_length}
use Rattle.listing.proofs.Accepted.{slots_counted, rules_counted, few_slots, few_rules, strata_low, slot_short, value_short}
use Rattle.listing.proofs.Answered.{Parts, by_table, answer_parts}
use Rattle.listing.proofs.Callers.{program_answer, program_listed, listing_read, listing_44}
use Rattle.listing.proofs.Small.{Small, SmallOutcome, SmallAnswer, reading_small, answer_small}

-- The line of a rule.
word_le : (b : Bool) → length (fired_word b) ≤ 7
unfolding fired_word bytes bytes_from
word_le true = omega arith
word_le false = omega arith

rule_le : (n : ℕ) (r : RuleLine) → n ≤ 255 → r.stratum ≤ 255 → length (rule_text n r) ≤ rule_text_most
unfolding rule_text bytes bytes_from
rule_le n r h l =
    let w = fired_word r.fired in
    omega (arith, decimal_short 2 n (omega arith), decimal_short 2 r.stratum (omega arith), word_le r.fired, length-append (decimal n) (bytes " stratum " ++ (decimal r.stratum ++ w)), length-append (decimal r.stratum) w)

rules_le : (f : ℕ → RuleLine) (m n : ℕ) → n + m ≤ 256 → ((i : ℕ) → i < m → (f i).stratum ≤ 255) → length (rules_text n (tabulate f m)) ≤ m * rule_text_most
unfolding rules_text tabulate
rules_le f zero n h l = omega arith
rules_le f (suc m) n h l =
    let r = rules_le (λ i. f (suc i)) m (suc n) (omega arith) (λ i k. l (suc i) (omega arith)) in
    let a = length-append (rule_text n (f 0)) (rules_text (suc n) (tabulate (λ i. f (suc i)) m)) in
    omega (arith, r, a, rule_le n (f 0) (omega arith) (l 0 (omega arith)), suc-mul m rule_text_most)

-- The line of a refusal.
refusal_le : (k s : ℕ) → Small k s → length (refusal_text k s) ≤ page
refusal_le k s h = omega (arith, refusal_length k s, decimal_short 2 k (omega (arith, h.0)), decimal_short 2 s (omega (arith, h.1)))

-- The line of the tally: an editor's number has at most two digits, and one slip is counted.
tally_le : (n : ℕ) (y : Tally) → n ≤ 99 → y.answered ≤ 9 → y.refused ≤ 9 → length (tally_text n y) ≤ tally_text_most
unfolding tally_text bytes bytes_from
tally_le n y h a r =
    let q = decimal y.refused ++ bytes "\n" in
    let p = decimal y.answered ++ (bytes " " ++ q) in
    omega (
      arith,
      decimal_short 1 n (omega (arith, h)),
      decimal_short 0 y.answered (omega (arith, a)),
      decimal_short 0 y.refused (omega (arith, r)),
      length-append (decimal n) (bytes " " ++ p),
      length-append (decimal y.answered) (bytes " " ++ q),
      length-append (decimal y.refused) (bytes "\n"),
    )

one_counted : (n : ℕ) (a : Answer) → is_editor n ≡ true → length (tally_text n (tally_after fresh (taken a))) ≤ tally_text_most
unfolding tally_after counted is_full ◌∨ᵇ◌
one_counted n a e = tally_le n (tally_after fresh (taken a)) (omega (arith, (editor_e n e).1)) (omega arith) (omega arith)

-- A value as it is listed is no longer than a name.
listed_short : (value : ℕ) (name : List ℕ) → length name ≤ name_limit → length (value_listed value name) ≤ name_limit
unfolding bytes bytes_from
listed_short zero name h = omega arith
listed_short (suc k) name h = rw (ne_eqb (suc k) 0 (λ e. omega arith)) h

-- The line of a change, by the names of an accepted text.
module _ (text : List ℕ) (o : (program_reading text).outcome ≡ Accepted) where
  abbrev t : Table
  t = (program_reading text).table

  change_le : (p : Pair) → length (change_text (change_line text t p)) ≤ change_text_most
  unfolding change_text bytes bytes_from
  change_le p =
      let s = (show_slot text t p.slot).part in
      let v = value_listed p.value (show_value text t p.slot p.value).part in
      omega (arith, slot_short text o p.slot, listed_short p.value (show_value text t p.slot p.value).part (value_short text o p.slot p.value), length-append s (bytes " " ++ (v ++ bytes "\n")), length-append v (bytes "\n"))

  changes_le : (ps : List Pair) → length (changes_text (map (change_line text t) ps)) ≤ length ps * change_text_most
  unfolding changes_text
  changes_le [] = omega arith
  changes_le (p ∷ ps) =
      omega (arith, changes_le ps, change_le p, length-append (change_text (change_line text t p)) (changes_text (map (change_line text t) ps)), suc-mul (length ps) change_text_most)

  card_le : (card : List ℕ) → length card ≤ byte_count (card_bits slot_limit) → length (card_text card) ≤ card_text_most
  unfolding card_text bytes bytes_from
  card_le card h = omega (arith, h, hex_length card, length-append (hexadecimal card) (bytes "\n"))

  pub parts_of : (card slip : List ℕ) (a : Answer) → answer_at Strata t fresh card slip program_rooms ≡ taken a → Parts t.width t.count a
  parts_of card slip a e =
      answer_parts t.width t.count a (few_slots text o) (rw (slots_counted text o, rules_counted text o) at (by_table t fresh card slip program_rooms a e))

  -- The lines of an answer to an editor.
  pub answer_bounded : (n : ℕ) (card slip : List ℕ) (a : Answer) → is_editor n ≡ true → answer_at Strata t fresh card slip program_rooms ≡ taken a → length (printed (list_response text t (program_editors n) (taken a))) ≤ page
  unfolding printed
  answer_bounded n card slip a w e =
      let p = parts_of card slip a e in
      let rs = rules_text 1 (tabulate (λ i. rule_line t a (suc i)) t.count) in
      let cs = changes_text (map (change_line text t) (changes_in a.changes)) in
      let y = tally_text n (tally_after fresh (taken a)) in
      let i = length-append rs (cs ++ (card_text a.new_card ++ y)) in
      let j = length-append cs (card_text a.new_card ++ y) in
      let k = length-append (card_text a.new_card) y in
      rw (program_listed n w text t a) (omega (
        arith,
        i,
        j,
        k,
        rules_le (λ i. rule_line t a (suc i)) t.count 1 (omega (arith, few_rules text o)) (λ i h. strata_low text o i h),
        few_rules text o,
        changes_le (changes_in a.changes),
        changes_length a.changes,
        p.few_changes,
        few_slots text o,
        card_le a.new_card (omega (arith, p.card_length, few_slots text o)),
        one_counted n a w,
      ))

  response_bounded : (n : ℕ) (card slip : List ℕ) (u : OrRefused Answer) → is_editor n ≡ true → answer_at Strata t fresh card slip program_rooms ≡ u → SmallAnswer u → length (printed (list_response text t (program_editors n) u)) ≤ page
  unfolding printed list_response
  response_bounded n card slip (taken a) w e h = answer_bounded n card slip a w e
  response_bounded n card slip (refused k s) w e h = refusal_le k s h

-- What the reading comes to for an editor.
reading_bounded : (text card slip : List ℕ) (n : ℕ) → is_editor n ≡ true → length (printed (list_reading text (program_reading text).outcome (program_reading text).table (program_editors n) card slip)) ≤ page
unfolding list_reading printed
reading_bounded text card slip n w = go (program_reading text).outcome refl (reading_small text)
  where
    go : (q : ReadingOutcome) → (program_reading text).outcome ≡ q → SmallOutcome q → length (printed (list_reading text q (program_reading text).table (program_editors n) card slip)) ≤ page
    go Accepted o h =
        rw (program_answer n w (program_reading text).table card slip program_rooms)
        (response_bounded text o n card slip (answer_at Strata (program_reading text).table fresh card slip program_rooms) w refl
        (answer_small (program_reading text).table fresh card slip program_rooms (omega (arith, slots_counted text o, few_slots text o))))
    go (Refused k m) o h = refusal_le k m h

-- ALL THAT THE PROGRAM PRINTS goes onto a page.
pub listing_bounded : (text card slip editor : List ℕ) → length (printed (listing text card slip editor)) ≤ page
unfolding printed
listing_bounded text card slip editor = go (is_editor (editor_number editor)) refl
  where
    go : (b : Bool) → is_editor (editor_number editor) ≡ b → length (printed (listing text card slip editor)) ≤ page
    go true e = rw (listing_read text card slip editor e) (reading_bounded text card slip (editor_number editor) e)
    go false e = rw (listing_44 text card slip editor e) (refusal_le 44 0 (omega arith, omega arith))

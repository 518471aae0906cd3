-- The parts of an answer: how long its bytes are, and that its changes are as many as they count.
-- Assumes nothing.
use Prim.Native.Nat.{ℕ, suc, ◌≤◌, ◌<◌}
use native.Mathlib.Omega.{arith}
use mathlib.Core.Path.{◌≡◌, sym, ap, ◌∙◌}
use mathlib.Core.Bool.{Bool, true, false, cond}
use mathlib.Core.List.{List, head-eq_of_cons-eq}
use lib.Dec.{ltb}
use lib.ListN.{length, get_or}
use Rattle.laws.specs.Packed.{Field, byte_count, fields_at}
use Rattle.laws.specs.Answers.{OrRefused, taken, refused}
use Rattle.laws.proofs.Packed.{pack_length}
use Rattle.laws.proofs.Tabulated.{tabulate_length}
use Rattle.laws.proofs.Fields.{reads_packed}
use Rattle.model.specs.Rules.{Pair, Pairs, Rule}
use Rattle.model.specs.Orders.{names, changes}
use Rattle.model.specs.Strata.{weak}
use Rattle.model.specs.Response.{response}
use Rattle.model.specs.Result.{conflict_slot, new_card, changes_slip}
use Rattle.model.proofs.Pairs.{among_at}
use Rattle.model.proofs.Results.{slip_e, slip_length}
use Rattle.table.specs.declared.Table.{Table}
use Rattle.laws.specs.Limits.{slot_limit, row}
use Rattle.table.specs.Link.{rules_of, value_counts}
use Rattle.table.specs.declared.Way.TheVariants.{Strata}
use Rattle.soundness.specs.Sound.{takes}
use Rattle.cards.specs.Forms.{card_bits, slip_fields, slip_bytes, count_in, changes_in, read_card, read_slip}
use Rattle.cards.specs.Cards.{no_change, pair_of, slip_of}
use Rattle.cards.proofs.Tested.{no_pair}
use Rattle.cards.proofs.Formed as formed
use Rattle.cards.proofs.Taken.{change_at}
use Rattle.cards.proofs.Written.{card_bytes_length, slip_bytes_length}
use Rattle.cards.proofs.EntryTrips.{slip_of_changes}
use Rattle.cards.proofs.FieldForms.{slip_bits_sum, slip_field_widths, slip_read_fields, slip_by_fields, slip_fields_fit}
use Rattle.tally.specs.declared.Tally.{Tally}
use Rattle.tally.specs.Counting.{is_full}
use Rattle.response.specs.Ending.{Answer, fired_record, answer_of, unless_conflict, answer_by_firing}
use Rattle.response.specs.Respond.{Rooms, changes_room, if_room, answer_by, answer_by_rules, answer_by_table, answer_at}
use Rattle.response.proofs.RespondLaws.{then_taken}
use Rattle.response.proofs.AnswerLaws.{new_card_length, listed_fits}
use Rattle.listing.specs.inner.AnswerLines.{ChangesWhole}

-- What is taken in the end was taken at each step.
not_taken : {A : Type 0} (k s : ℕ) (x : A) → ◌≡◌ {A = OrRefused A} (refused k s) (taken x) → ⊥
not_taken k s x e = let z : ◌≡◌ {A = ℕ} 0 1 = cc in omega arith

cond_taken : {A : Type 0} (c : Bool) (k s : ℕ) (u : OrRefused A) (a : A) → cond c (refused k s) u ≡ taken a → u ≡ taken a
cond_taken true k s u a e = absurd (not_taken k s a e)
cond_taken false k s u a e = e

-- An answer has the bytes of some new card, of the changes of some C and of some rules fired.
pub record Answering (width count : ℕ) (a : Answer) : Type 0 where
  pub S : List ℕ
  pub C : Pairs
  pub ns : List ℕ
  pub is_answer : answer_of width count S C ns ≡ a

by_rules : (counts : List ℕ) (rs : List Rule) (card slip : List ℕ) (rooms : Rooms) (a : Answer) → answer_by_rules Strata counts rs card slip rooms ≡ taken a → Answering (length counts) (length rs) a
unfolding answer_by_rules answer_by answer_by_firing unless_conflict if_room
by_rules counts rs card slip rooms a e =
    let c = then_taken (read_card counts card) _ a e in
    let s = then_taken (read_slip counts slip) _ a c.2 in
    let ns = response weak rs c.0 s.0 in
    let C = changes rs s.0 ns in
    let r = cond_taken (ltb rooms.for_fired (byte_count (length rs))) 30 3 _ a
    (cond_taken (ltb rooms.for_changes changes_room) 30 2 _ a (cond_taken (ltb rooms.for_card (byte_count (card_bits (length counts)))) 30 1 _ a s.2)) in
    let z : taken (answer_of (length counts) (length rs) c.0 C ns) ≡ taken a = cond_taken (ltb (conflict_slot (length counts) row C) (length counts)) 40 (conflict_slot (length counts) row C) _ a r in
    record { S = c.0; C = C; ns = ns; is_answer = (let w : answer_of (length counts) (length rs) c.0 C ns ≡ a = cc in w) }

pub by_table : (t : Table) (y : Tally) (card slip : List ℕ) (rooms : Rooms) (a : Answer) → answer_at Strata t y card slip rooms ≡ taken a → Answering (length (value_counts t)) (length (rules_of t)) a
unfolding answer_at answer_by_table
by_table t y card slip rooms a e = by_rules (value_counts t) (rules_of t) card slip rooms a (if_taken (takes Strata t) (cond_taken (is_full y) 32 0 _ a e))
  where
    if_taken : (b : Bool) → cond b (answer_by_rules Strata (value_counts t) (rules_of t) card slip rooms) (refused 31 0) ≡ taken a → answer_by_rules Strata (value_counts t) (rules_of t) card slip rooms ≡ taken a
    if_taken true e = e
    if_taken false e = absurd (not_taken 31 0 a e)

module _ (C : Pairs) (width : ℕ) (few : width ≤ slot_limit) where
  abbrev ps : List Pair
  ps = changes_slip width row C

  abbrev ys : List ℕ
  ys = slip_bytes ps

  -- The changes of C go into their fields.
  in_fields : (j : ℕ) → j < length ps → ((get_or ps j no_pair).slot < 32) × ((get_or ps j no_pair).value < 16)
  in_fields j h =
      let back = slip_of_changes ps in
      let n : j < (slip_of ps).count = omega (arith, h, ap length back, formed.slip_length (slip_of ps)) in
      let e : get_or ps j no_pair ≡ pair_of (get_or (slip_of ps).changes j no_change) = ap (λ (qs : List Pair). get_or qs j no_pair) (sym back) ∙ formed.slip_at (slip_of ps) j n in
      let F = listed_fits C width few in
      rw e (F.slots_fit j n, F.values_fit j n)

  fields : fields_at ys 0 (slip_bits_sum (length ps)) ≡ slip_fields ps
  unfolding slip_bytes
  fields = rw (slip_field_widths ps) at (reads_packed (slip_fields ps) (slip_fields_fit ps (omega (arith, slip_length row C width, few)) in_fields))

  counted : count_in ys ≡ length ps
  unfolding slip_fields fields_at
  counted = ap (λ (f : Field). f.number) (head-eq_of_cons-eq fields)

  listed : changes_in ys ≡ ps
  listed = slip_by_fields (changes_in ys) ps (slip_read_fields ys ∙ ap (λ (m : ℕ). fields_at ys 0 (slip_bits_sum m)) counted ∙ fields)

  changes_few : count_in ys ≤ width
  changes_few = omega (arith, counted, slip_length row C width)

  whole : ChangesWhole width ys
  whole = record {
    few = few;
    whole = omega (arith, slip_bytes_length ps, counted);
    slots_below = λ j h.
        let k : j < length ps = omega (arith, h, counted) in
        let e = ap (λ (p : Pair). p.slot) (sym (change_at ys j h) ∙ ap (λ (qs : List Pair). get_or qs j no_pair) listed) in
        omega (arith, e, (slip_e row C width (get_or ps j no_pair) (among_at ps j no_pair k)).0);
  }

fired_length : (count : ℕ) (ns : List ℕ) → length (fired_record count ns) ≡ byte_count count
unfolding fired_record
fired_length count ns = pack_length _ ∙ ap byte_count (tabulate_length (λ i. names ns (suc i)) count)

-- The parts of an answer by so many slots and rules.
pub record Parts (width count : ℕ) (a : Answer) : Type 0 where
  pub card_length : length a.new_card ≡ byte_count (card_bits width)
  pub fired_there : length a.fired ≡ byte_count count
  pub changes_whole : ChangesWhole width a.changes
  pub few_changes : count_in a.changes ≤ width
  pub changes_short : length a.changes ≤ changes_room

pub answer_parts : (width count : ℕ) (a : Answer) → width ≤ slot_limit → Answering width count a → Parts width count a
unfolding answer_of
answer_parts width count a few A =
    rw (← A.is_answer) (record {
      card_length = card_bytes_length (new_card width row A.C A.S) ∙ ap (λ (n : ℕ). byte_count (card_bits n)) (new_card_length width A.C A.S);
      fired_there = fired_length count A.ns;
      changes_whole = whole A.C width few;
      few_changes = changes_few A.C width few;
      changes_short = omega (arith, slip_bytes_length (changes_slip width row A.C), slip_length row A.C width, few);
    })

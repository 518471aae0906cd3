-- What the program lists is no refusal that a calling program causes, and 44 exactly where the editor file is not one editor number.
-- Assumes nothing.
use Prim.Native.Nat.{ℕ, ◌≤◌, ◌<◌}
use native.Mathlib.Omega.{arith}
use mathlib.Core.Path.{◌≡◌, refl, sym, ap, subst, ◌∙◌}
use mathlib.Core.Bool.{Bool, true, false, cond}
use mathlib.Core.List.{List, [], ◌∷◌}
use mathlib.Core.Logic.{◌⊎◌, inl, inr, ⊎_elim}
use lib.Dec.{T}
use lib.ListN.{length}
use Rattle.laws.specs.Limits.{slot_limit, program_rule_limit}
use Rattle.laws.specs.Answers.{OrRefused, taken, refused}
use Rattle.laws.proofs.Equations.{is_true, from_true}
use Rattle.laws.proofs.Numbers.{is_false}
use Rattle.model.specs.Rules.{Rule}
use Rattle.table.specs.declared.Table.{Table}
use Rattle.table.specs.declared.Way.{Way}
use Rattle.table.specs.declared.Way.TheVariants.{Strata}
use Rattle.table.specs.Link.{rules_of, value_counts}
use Rattle.soundness.specs.Sound.{sound, takes}
use Rattle.reader.specs.Tables.{FileRead, ReadingOutcome, Accepted, Refused}
use Rattle.rule_file.specs.Whole.{reading, program_reading}
use Rattle.rule_file.specs.Carries.{Carries}
use Rattle.rule_file.proofs.Within.{program_accepted, program_few, program_range}
use Rattle.grammar.proofs.Accepts.{accepts_iff}
use Rattle.rule_file.proofs.Answers.{reading_passes, reading_carries}
use Rattle.cards.proofs.EntryTrips.{few_slots}
use Rattle.tally.specs.declared.Tally.{Tally}
use Rattle.tally.specs.Counting.{fresh, one_answered}
use Rattle.tally.specs.Editors.{Editors, is_editor, record_at}
use Rattle.tally.proofs.TallyLaws.{not_full}
use Rattle.tally.proofs.EditorLaws.{editor_i, editor_e}
use Rattle.response.specs.Ending.{Answer}
use Rattle.response.specs.Respond.{Rooms, answer_to, counted, tally_after, records_after}
use Rattle.listing.specs.Listing.{RuleLine, ChangeLine, listed, refusal, program_rooms, editor_number, program_editors, list_response, list_reading, listing}
use Rattle.listing.proofs.Callers.{program_record, own_fresh, program_after, listing_read, listing_44}
use Rattle.promises.specs.Reasons.{TableReason, not_passed, of_others, RoomReason, card_short, changes_short, fired_short, RoomRight, EndReason, conflict, clash, unknown, RulesReason, of_card, of_slip, of_room, of_end, RulesRight, HasRecord, NotFull, Countable}
use Rattle.promises.specs.Refusals.{Passes}
use Rattle.promises.specs.Program.{NoneOfCaller, OneEditor, EditorFirst}
use Rattle.promises.proofs.Callers.{has_record_e}
use Rattle.promises.proofs.Judged.{Judged, card_below, slip_below}
use Rattle.promises.proofs.ResponseReasons.{table_judged}
use Rattle.promises.proofs.Engines.{only_44, comes_by_table, fresh_no_32, reading_no_31}

-- Outputs that have room give no reason for 30.
room_not : (width count : ℕ) (rooms : Rooms) (s : ℕ) → RoomRight width count rooms → RoomReason width count rooms s → ⊥
room_not width count rooms s h (card_short l) = omega (arith, h.for_card, l)
room_not width count rooms s h (changes_short c l) = omega (arith, h.for_changes, l)
room_not width count rooms s h (fired_short c d l) = omega (arith, h.for_fired, l)

end_not : (way : Way) (counts : List ℕ) (rs : List Rule) (card slip : List ℕ) (k s : ℕ) → EndReason counts rs card slip way k s → ¬ (k ≡ 30)
end_not way counts rs card slip k s (conflict l) e = omega (arith, e)
end_not way counts rs card slip k s (clash p d b) e = omega (arith, e)
end_not way counts rs card slip k s (unknown n p d b) e = omega (arith, e)

rules_not : (way : Way) (counts : List ℕ) (rs : List Rule) (card slip : List ℕ) (rooms : Rooms) (k s : ℕ) → RoomRight (length counts) (length rs) rooms → RulesReason way counts rs card slip rooms k s → ¬ (k ≡ 30)
rules_not way counts rs card slip rooms k s h (of_card r) e = omega (arith, card_below counts card k s r, e)
rules_not way counts rs card slip rooms k s h (of_slip c r) e = omega (arith, slip_below counts slip k s r, e)
rules_not way counts rs card slip rooms k s h (of_room c i r) e = room_not (length counts) (length rs) rooms s h r
rules_not way counts rs card slip rooms k s h (of_end c i r l) e = end_not way counts rs card slip k s l e

table_not : (way : Way) (t : Table) (card slip : List ℕ) (rooms : Rooms) (k s : ℕ) → RoomRight (length (value_counts t)) (length (rules_of t)) rooms
    → TableReason (takes way t) (RulesReason way (value_counts t) (rules_of t) card slip rooms) k s → ¬ (k ≡ 30)
table_not way t card slip rooms k s h (not_passed n) e = omega (arith, e)
table_not way t card slip rooms k s h (of_others p r) e = rules_not way (value_counts t) (rules_of t) card slip rooms k s h r e

-- The number that an editor file holds is an editor's exactly where the file is that one byte.
one_editor_e : (editor : List ℕ) → is_editor (editor_number editor) ≡ true → OneEditor editor
unfolding editor_number
one_editor_e [] e = absurd (omega (arith, (editor_e 0 e).0))
one_editor_e (b ∷ []) e = let n = editor_e b e in (b, refl, record { first = n.0; last = n.1 })
one_editor_e (b ∷ c ∷ bs) e = absurd (omega (arith, (editor_e 0 e).0))

pub one_editor_i : (editor : List ℕ) → OneEditor editor → is_editor (editor_number editor) ≡ true
unfolding editor_number
one_editor_i editor w = rw w.1 (editor_i w.0 w.2.first w.2.last)

module _ (text card slip editor : List ℕ) where
  abbrev t : Table
  t = (program_reading text).table

  -- The program's records, lent to the editor of the file.
  abbrev y : Editors
  y = program_editors (editor_number editor)

  -- What comes of that editor's call.
  abbrev came : OrRefused Answer
  came = answer_to t y card slip program_rooms

  -- An accepted text's table has at most as many slots and rules as the program's outputs have room for.
  enough : (program_reading text).outcome ≡ Accepted → RoomRight (length (value_counts t)) (length (rules_of t)) program_rooms
  enough o =
      let e = program_accepted text o in
      let same : (reading text).table ≡ t = ap (λ (r : FileRead). r.table) e in
      let c = subst (Carries text) same (reading_carries text (ap (λ (r : FileRead). r.outcome) e ∙ o)) in
      let slots : length (value_counts t) ≤ slot_limit = few_slots t (is_true (sound t) (subst (λ (u : Table). T (sound u)) same (reading_passes text))) in
      let few : length c.file.rules ≤ program_rule_limit = program_few text o c.file ((accepts_iff text c.file).1 c.is_file) in
      let rules : length (rules_of t) ≤ program_rule_limit = subst (λ (rs : List Rule). length rs ≤ program_rule_limit) (sym c.rules_are) few in
      record { for_card = omega (arith, slots); for_changes = omega arith; for_fired = omega (arith, rules) }

  -- So the response does not give 30.
  answer_not_30 : HasRecord y → (program_reading text).outcome ≡ Accepted → (s : ℕ) → ¬ (came ≡ refused 30 s)
  answer_not_30 h o s e =
      let c : Countable y = record { has_one = h; not_full = subst NotFull (sym (own_fresh (editor_number editor))) (omega arith, omega arith) } in
      table_not Strata t card slip program_rooms 30 s (enough o)
      (subst (Judged (TableReason (takes Strata t) (RulesReason Strata (value_counts t) (rules_of t) card slip program_rooms)) (λ a. Passes (takes Strata t) (RulesRight Strata (value_counts t) (rules_of t) card slip program_rooms a)))
      (sym (comes_by_table Strata t y card slip program_rooms c) ∙ e) (table_judged Strata t card slip program_rooms)) refl

  -- A number that is an editor's has a record.
  editor_has : is_editor (editor_number editor) ≡ true → HasRecord y
  editor_has e = has_record_e y (program_record (editor_number editor) ∙ e)

  -- A listing that is a refusal is the response's, or the reading's.
  response_refuses : (u : OrRefused Answer) (k s : ℕ) → list_response text t y u ≡ refusal k s → u ≡ refused k s
  unfolding list_response
  response_refuses (taken a) k s e = absurd (let z : ◌≡◌ {A = ℕ} 0 1 = cc in omega arith)
  response_refuses (refused j r) k s e = let x : j ≡ k = cc in let z : r ≡ s = cc in rw (x, z) refl

  refuses : (o : ReadingOutcome) → (program_reading text).outcome ≡ o → (k s : ℕ) → list_reading text o t y card slip ≡ refusal k s → (((program_reading text).outcome ≡ Accepted) × (came ≡ refused k s)) ⊎ (k ≤ 18)
  unfolding list_reading
  refuses Accepted q k s e = inl (q, response_refuses came k s e)
  refuses (Refused j n) q k s e = let x : j ≡ k = cc in inr (omega (arith, program_range text j n q, x))

  -- A refusal above 18 is 44, of a number that is no editor's, or that of a response.
  lists_refusal : (k s : ℕ) → 18 < k → listing text card slip editor ≡ refusal k s → ((k ≡ 44) × (s ≡ 0) × (is_editor (editor_number editor) ≡ false)) ⊎ (HasRecord y × ((program_reading text).outcome ≡ Accepted) × (came ≡ refused k s))
  lists_refusal k s l e = go (is_editor (editor_number editor)) refl
    where
      go : (b : Bool) → is_editor (editor_number editor) ≡ b → ((k ≡ 44) × (s ≡ 0) × (b ≡ false)) ⊎ (HasRecord y × ((program_reading text).outcome ≡ Accepted) × (came ≡ refused k s))
      go true q = ⊎_elim (λ w. inr (editor_has q, w.0, w.1)) (λ h. absurd (omega (arith, h, l))) (refuses (program_reading text).outcome refl k s (sym (listing_read text card slip editor q) ∙ e))
      go false q = let z = sym (listing_44 text card slip editor q) ∙ e in let x : 44 ≡ k = cc in let w : 0 ≡ s = cc in inl (sym x, sym w, refl)

  never : (k s : ℕ) → 18 < k → ¬ (k ≡ 44) → (HasRecord y → (program_reading text).outcome ≡ Accepted → ¬ (came ≡ refused k s)) → ¬ (listing text card slip editor ≡ refusal k s)
  never k s l n f e = ⊎_elim (λ w. n w.0) (λ w. f w.0 w.1 w.2) (lists_refusal k s l e)

  -- 30, 31 AND 32 CANNOT OCCUR IN THE PROGRAM.
  pub none_of_caller : NoneOfCaller text card slip editor
  none_of_caller = record {
    no_30 = λ s. never 30 s (omega arith) (λ q. omega (arith, q)) (λ h o. answer_not_30 h o s);
    no_31 = λ s. never 31 s (omega arith) (λ q. omega (arith, q)) (λ h o. subst (λ (u : Table). ¬ (answer_to u y card slip program_rooms ≡ refused 31 s)) (ap (λ (r : FileRead). r.table) (program_accepted text o)) (reading_no_31 Strata text y card slip program_rooms s));
    no_32 = λ s. never 32 s (omega arith) (λ q. omega (arith, q)) (λ h o. fresh_no_32 Strata t y card slip program_rooms (own_fresh (editor_number editor)) s);
  }

  -- Of 44 it is told that the file is no editor's, and there it is listed.
  is_44 : (s : ℕ) → listing text card slip editor ≡ refusal 44 s → (s ≡ 0) × (¬ OneEditor editor)
  is_44 s e =
      ⊎_elim (λ w. (w.1, λ i. from_true false (sym w.2 ∙ one_editor_i editor i))) (λ w. absurd (only_44 Strata t y card slip program_rooms s w.2 w.0)) (lists_refusal 44 s (omega arith) e)

  lists_44 : ¬ OneEditor editor → listing text card slip editor ≡ refusal 44 0
  lists_44 n = listing_44 text card slip editor (is_false (is_editor (editor_number editor)) (λ h. n (one_editor_e editor (is_true (is_editor (editor_number editor)) h))))

  -- An answer is listed with the number of the file and a fresh record that counts it.
  module _ (rs : List RuleLine) (cs : List ChangeLine) (new : List ℕ) (n : ℕ) (r : Tally) where
    response_lists : is_editor (editor_number editor) ≡ true → (u : OrRefused Answer) → list_response text t y u ≡ listed rs cs new n r → (editor_number editor ≡ n) × (r ≡ one_answered fresh)
    unfolding list_response tally_after counted
    response_lists i (taken a) e =
        let x : editor_number editor ≡ n = cc in
        let z : r ≡ record_at (records_after y (taken a)) (editor_number editor) = cc in
        (x, z ∙ program_after (editor_number editor) i (taken a) ∙ ap (λ (b : Bool). cond b fresh (one_answered fresh)) (not_full fresh (omega arith) (omega arith)))
    response_lists i (refused k s) e = absurd (let z : ◌≡◌ {A = ℕ} 0 1 = cc in omega arith)

    reading_lists : is_editor (editor_number editor) ≡ true → (o : ReadingOutcome) → list_reading text o t y card slip ≡ listed rs cs new n r → (editor_number editor ≡ n) × (r ≡ one_answered fresh)
    unfolding list_reading
    reading_lists i Accepted e = response_lists i came e
    reading_lists i (Refused k m) e = absurd (let z : ◌≡◌ {A = ℕ} 0 1 = cc in omega arith)

    answer_line : listing text card slip editor ≡ listed rs cs new n r → (editor ≡ n ∷ []) × (r ≡ one_answered fresh)
    unfolding editor_number
    answer_line e = go (is_editor (editor_number editor)) refl
      where
        go : (b : Bool) → is_editor (editor_number editor) ≡ b → (editor ≡ n ∷ []) × (r ≡ one_answered fresh)
        go true q =
            let w = reading_lists q (program_reading text).outcome (sym (listing_read text card slip editor q) ∙ e) in
            let f = one_editor_e editor q in
            (f.1 ∙ ap (λ (m : ℕ). m ∷ []) (sym (ap editor_number f.1) ∙ w.0), w.1)
        go false q = absurd (let c = sym (listing_44 text card slip editor q) ∙ e in let z : ◌≡◌ {A = ℕ} 0 1 = cc in omega arith)

  -- 44 COMES FIRST, EXACTLY WHERE THE EDITOR FILE IS NOT ONE EDITOR NUMBER; AN ANSWER'S LAST LINE HAS THAT NUMBER, 1 AND 0.
  pub editor_first : EditorFirst text card slip editor
  editor_first = record { exactly_44 = (λ e. (is_44 0 e).1, lists_44); second_0 = λ s e. (is_44 s e).0; last_line = answer_line }

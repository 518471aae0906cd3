-- A day of calls: each editor's record counts the editor's own calls, answered and refused, and what comes of them does not depend on the calls and the records of the others.
-- Assumes nothing.
use Prim.Native.Nat.{ℕ, suc, ◌+◌, ◌-◌, ◌≤◌, ◌<◌}
use native.Mathlib.Omega.{arith}
use mathlib.Core.Path.{◌≡◌, refl, sym, ap, ap₂, subst, ◌∙◌}
use mathlib.Core.Bool.{Bool, true, false, cond}
use mathlib.Core.List.{List, [], ◌∷◌, ◌++◌}
use mathlib.Core.Logic.{◌⊎◌, inl, inr, ⊎_elim}
use lib.Dec.{eqb}
use lib.ListN.{length, get_or, length-replicate}
use lib.Seq.{ext_get_or, get_or-set_same, get_or-set_other}
use borrow.Author.Tests.{eqb-true, eqb-false, ne_eqb}
use Rattle.laws.specs.Limits.{editor_limit, tally_limit}
use Rattle.laws.specs.Numbers.{Numbered}
use Rattle.laws.specs.Truth.{◌∧ᵇ◌}
use Rattle.laws.specs.Answers.{OrRefused, taken, refused}
use Rattle.laws.proofs.Equations.{either}
use Rattle.tally.specs.declared.Tally.{Tally}
use Rattle.tally.specs.Counting.{fresh, is_full}
use Rattle.tally.specs.Editors.{Editors, lent, fresh_records, is_editor, has_record, record_at, own_record, with_record}
use Rattle.tally.proofs.TallyLaws.{not_full, room_left}
use Rattle.tally.proofs.EditorLaws.{own_inside}
use Rattle.response.specs.Ending.{Answer}
use Rattle.response.specs.Respond.{answer_by_table, answer_at, answer_in, counted, tally_after, records_after, response_in}
use Rattle.listing.proofs.Callers.{own_fresh}
use Rattle.promises.specs.Reasons.{HasRecord}
use Rattle.promises.specs.Day.{Call, call_answer, next_records, records_over, answers_over, own_calls, own_answers, answered_in, refused_in, Forty, own_day, own_left, DayOfCalls}
use Rattle.promises.proofs.Refusals.{Only, Other, by_table_other}
use Rattle.promises.proofs.Callers.{left_44}
use Rattle.promises.proofs.Engines.{always_44}
use Rattle.promises.proofs.Editors.{records_length, records_others, records_caller, records_own, answer_own}

-- What comes of a call at one record.
abbrev at_record : Tally → Call → OrRefused Answer
at_record r c = answer_at c.way c.table r c.card c.slip c.rooms

module _ (rs : List Tally) (c : Call) where
  -- A call leaves as many records as there are.
  next_length : length (next_records rs c) ≡ length rs
  unfolding response_in
  next_length = records_length (lent rs c.editor) (call_answer rs c)

  -- Where there are not forty, 44 comes of it and they are as they were.
  not_forty : ¬ Forty rs → (call_answer rs c ≡ refused 44 0) × (next_records rs c ≡ rs)
  unfolding response_in
  not_forty k =
      let none : ¬ HasRecord (lent rs c.editor) = λ h. k h.forty in
      (always_44 c.way c.table (lent rs c.editor) c.card c.slip c.rooms none, left_44 (lent rs c.editor) none (call_answer rs c))

  -- Where there are, a call of editor n comes to what it does at the editor's record, and that record counts it;
  own_answer : Forty rs → (n : ℕ) → Numbered editor_limit n → c.editor ≡ n → call_answer rs c ≡ at_record (record_at rs n) c
  own_answer f n h e =
      answer_own c.way c.table (lent rs c.editor) c.card c.slip c.rooms (record { forty = f; number = subst (Numbered editor_limit) (sym e) h })
      ∙ ap (λ (m : ℕ). at_record (record_at rs m) c) e

  own_next : Forty rs → (n : ℕ) → Numbered editor_limit n → c.editor ≡ n → record_at (next_records rs c) n ≡ tally_after (record_at rs n) (at_record (record_at rs n) c)
  unfolding response_in
  own_next f n h e =
      ap (λ (m : ℕ). record_at (records_after (lent rs c.editor) (call_answer rs c)) m) (sym e)
      ∙ records_own (lent rs c.editor) (call_answer rs c) (record { forty = f; number = subst (Numbered editor_limit) (sym e) h })
      ∙ ap₂ tally_after (ap (record_at rs) e) (own_answer f n h e)

  -- one of another's leaves it.
  others_next : (n : ℕ) → Numbered editor_limit n → ¬ (c.editor ≡ n) → record_at (next_records rs c) n ≡ record_at rs n
  unfolding response_in
  others_next n h k = records_others (lent rs c.editor) (call_answer rs c) (n - 1) (λ q. k (omega (arith, q, h.first)))

-- A call of an editor comes to the same, and leaves the same in the editor's record, in two tables that have the same length and that record.
module _ (rs rs' : List Tally) (c : Call) (l : length rs ≡ length rs') (e : record_at rs c.editor ≡ record_at rs' c.editor) where
  same_answer : call_answer rs c ≡ call_answer rs' c
  unfolding answer_in has_record
  same_answer = ap₂ (λ (k : ℕ) (r : Tally). cond (eqb k editor_limit ∧ᵇ is_editor c.editor) (at_record r c) (refused 44 0)) l e

  same_next : record_at (next_records rs c) c.editor ≡ record_at (next_records rs' c) c.editor
  unfolding response_in has_record
  same_next =
      let after : ℕ → Tally → OrRefused Answer → Tally = λ k r u. cond (eqb k editor_limit ∧ᵇ is_editor c.editor) (tally_after r u) r in
      records_caller (lent rs c.editor) (call_answer rs c)
      ∙ ap₂ (λ (k : ℕ) (r : Tally). after k r (call_answer rs c)) l e ∙ ap (after (length rs') (record_at rs' c.editor)) same_answer
      ∙ sym (records_caller (lent rs' c.editor) (call_answer rs' c))

-- There are as many records at the end of a day as there were; they are as they were where these were not forty.
length_over : (rs : List Tally) (cs : List Call) → length (records_over rs cs) ≡ length rs
unfolding records_over
length_over rs [] = refl
length_over rs (c ∷ cs) = length_over (next_records rs c) cs ∙ next_length rs c

kept_over : (rs : List Tally) (cs : List Call) → ¬ Forty rs → records_over rs cs ≡ rs
unfolding records_over
kept_over rs [] k = refl
kept_over rs (c ∷ cs) k = ap (λ (ts : List Tally). records_over ts cs) (not_forty rs c k).1 ∙ kept_over rs cs k

-- There is an answer for each call.
answers_length : (rs : List Tally) (cs : List Call) → length (answers_over rs cs) ≡ length cs
unfolding answers_over
answers_length rs [] = refl
answers_length rs (c ∷ cs) = ap suc (answers_length (next_records rs c) cs)

-- In the list of a day's answers it stands in the call's place.
answers_in_place : (rs : List Tally) (before : List Call) (c : Call) (rest : List Call)
    → answers_over rs (before ++ c ∷ rest) ≡ answers_over rs before ++ call_answer (records_over rs before) c ∷ answers_over (records_over rs (before ++ c ∷ [])) rest
unfolding records_over answers_over
answers_in_place rs [] c rest = refl
answers_in_place rs (d ∷ ds) c rest = ap (λ (us : List (OrRefused Answer)). call_answer rs d ∷ us) (answers_in_place (next_records rs d) ds c rest)

-- What comes of a call whose record is full or not.
abbrev at_full : Bool → OrRefused Answer → OrRefused Answer
at_full full w = cond full (refused 32 0) w

-- One call, that is counted as what comes of it.
counts_one : (full : Bool) (r : Tally) (w : OrRefused Answer) (us : List (OrRefused Answer)) → Only (Other 44) w → Only (Other 32) w
    → ((cond full r (counted r (at_full full w))).answered + answered_in us ≡ r.answered + answered_in (at_full full w ∷ us))
    × ((cond full r (counted r (at_full full w))).refused + refused_in us ≡ r.refused + refused_in (at_full full w ∷ us))
unfolding counted answered_in refused_in
counts_one true r w us g h = (refl, refl)
counts_one false r (taken a) us g h = (omega arith, refl)
counts_one false r (refused k s) us g h = (refl, rw (ne_eqb k 44 g, ne_eqb k 32 h) (omega arith))

next_counts : (r : Tally) (c : Call) (us : List (OrRefused Answer))
    → ((tally_after r (at_record r c)).answered + answered_in us ≡ r.answered + answered_in (at_record r c ∷ us))
    × ((tally_after r (at_record r c)).refused + refused_in us ≡ r.refused + refused_in (at_record r c ∷ us))
unfolding tally_after answer_at
next_counts r c us =
    counts_one (is_full r) r (answer_by_table c.way c.table c.card c.slip c.rooms) us
    (by_table_other c.way c.table c.card c.slip c.rooms 44 tt) (by_table_other c.way c.table c.card c.slip c.rooms 32 tt)

answered_few : (us : List (OrRefused Answer)) → answered_in us ≤ length us
unfolding answered_in
answered_few [] = omega arith
answered_few (taken a ∷ us) = omega (arith, answered_few us)
answered_few (refused k s ∷ us) = omega (arith, answered_few us)

refused_few : (us : List (OrRefused Answer)) → refused_in us ≤ length us
unfolding refused_in
refused_few [] = omega arith
refused_few (taken a ∷ us) = omega (arith, refused_few us)
refused_few (refused k s ∷ us) = go (eqb k 44) (eqb k 32) (refused_few us)
  where
    go : (a b : Bool) → refused_in us ≤ length us → cond a (refused_in us) (cond b (refused_in us) (suc (refused_in us))) ≤ suc (length us)
    go true b h = omega arith
    go false true h = omega arith
    go false false h = omega arith

-- The record of the editor of a call counts it, in a table of any length.
call_counts : (rs : List Tally) (c : Call) (n : ℕ) → Numbered editor_limit n → c.editor ≡ n → (us : List (OrRefused Answer))
    → ((record_at (next_records rs c) n).answered + answered_in us ≡ (record_at rs n).answered + answered_in (call_answer rs c ∷ us))
    × ((record_at (next_records rs c) n).refused + refused_in us ≡ (record_at rs n).refused + refused_in (call_answer rs c ∷ us))
unfolding answered_in refused_in
call_counts rs c n h e us =
    ⊎_elim (λ f. rw (own_next rs c f n h e, own_answer rs c f n h e) (next_counts (record_at rs n) c us)) (λ k. let w = not_forty rs c k in rw (w.1, w.0) (refl, refl)) (either (length rs) editor_limit)

module _ (n : ℕ) (numbered : Numbered editor_limit n) where
  -- The calls of editor n, among others, come to what they do alone from any records, as many, of which the editor's is the same; and so that record ends.
  abbrev Alone : List Tally → List Tally → List Call → Type 0
  Alone rs rs' cs = (own_day n rs cs ≡ answers_over rs' (own_calls n cs)) × (own_left n rs cs ≡ own_left n rs' (own_calls n cs))

  alone : (rs rs' : List Tally) (cs : List Call) → length rs ≡ length rs' → record_at rs n ≡ record_at rs' n → Alone rs rs' cs
  unfolding records_over answers_over own_calls own_answers
  alone rs rs' [] l e = (refl, e)
  alone rs rs' (c ∷ cs) l e = go (eqb c.editor n) refl (λ rs rs'. alone rs rs' cs)
    where
      us : List (OrRefused Answer)
      us = own_answers n cs (answers_over (next_records rs c) cs)

      go : (b : Bool) → eqb c.editor n ≡ b → ((rs rs' : List Tally) → length rs ≡ length rs' → record_at rs n ≡ record_at rs' n → Alone rs rs' cs)
          → (cond b (call_answer rs c ∷ us) us ≡ answers_over rs' (cond b (c ∷ own_calls n cs) (own_calls n cs)))
          × (record_at (records_over (next_records rs c) cs) n ≡ record_at (records_over rs' (cond b (c ∷ own_calls n cs) (own_calls n cs))) n)
      go true q rest =
          let i = eqb-true c.editor n q in
          let s : record_at rs c.editor ≡ record_at rs' c.editor = rw i e in
          let w = rest (next_records rs c) (next_records rs' c) (next_length rs c ∙ l ∙ sym (next_length rs' c)) (rw (sym i) (same_next rs rs' c l s)) in
          (ap₂ (λ (u : OrRefused Answer) (vs : List (OrRefused Answer)). u ∷ vs) (same_answer rs rs' c l s) w.0, w.1)
      go false q rest = rest (next_records rs c) rs' (next_length rs c ∙ l) (others_next rs c n numbered (eqb-false c.editor n q) ∙ e)

  -- The editor's record counts the editor's calls, answered and refused, those with 44 and 32 aside.
  own_counts : (rs : List Tally) (cs : List Call)
      → ((own_left n rs cs).answered ≡ (record_at rs n).answered + answered_in (own_day n rs cs)) × ((own_left n rs cs).refused ≡ (record_at rs n).refused + refused_in (own_day n rs cs))
  unfolding records_over answers_over own_answers answered_in refused_in
  own_counts rs [] = (omega arith, omega arith)
  own_counts rs (c ∷ cs) = go (eqb c.editor n) refl (own_counts (next_records rs c) cs)
    where
      us : List (OrRefused Answer)
      us = own_answers n cs (answers_over (next_records rs c) cs)

      end : Tally
      end = record_at (records_over (next_records rs c) cs) n

      go : (b : Bool) → eqb c.editor n ≡ b
          → (end.answered ≡ (record_at (next_records rs c) n).answered + answered_in us) × (end.refused ≡ (record_at (next_records rs c) n).refused + refused_in us)
          → (end.answered ≡ (record_at rs n).answered + answered_in (cond b (call_answer rs c ∷ us) us)) × (end.refused ≡ (record_at rs n).refused + refused_in (cond b (call_answer rs c ∷ us) us))
      go true q h = let w = call_counts rs c n numbered (eqb-true c.editor n q) us in (h.0 ∙ w.0, h.1 ∙ w.1)
      go false q h =
          let a = others_next rs c n numbered (eqb-false c.editor n q) in
          (h.0 ∙ ap (λ (r : Tally). r.answered + answered_in us) a, h.1 ∙ ap (λ (r : Tally). r.refused + refused_in us) a)

  -- From fresh records it is the two numbers of them.
  fresh_counts : (cs : List Call) → own_left n fresh_records cs ≡ record { answered = answered_in (own_day n fresh_records cs); refused = refused_in (own_day n fresh_records cs) }
  fresh_counts cs =
      let w = own_counts fresh_records cs in
      let a : (own_left n fresh_records cs).answered ≡ answered_in (own_day n fresh_records cs) = omega (arith, w.0, ap (λ (r : Tally). r.answered) (own_fresh n)) in
      let b : (own_left n fresh_records cs).refused ≡ refused_in (own_day n fresh_records cs) = omega (arith, w.1, ap (λ (r : Tally). r.refused) (own_fresh n)) in
      λ i. record { answered = a i; refused = b i }

  -- Two days on which the editor has the same calls, in the same order, come to the same for the editor.
  same_calls : (rs : List Tally) (cs ds : List Call) → own_calls n cs ≡ own_calls n ds → (own_day n rs cs ≡ own_day n rs ds) × (own_left n rs cs ≡ own_left n rs ds)
  same_calls rs cs ds e =
      let a = alone rs rs cs refl refl in
      let b = alone rs rs ds refl refl in
      (a.0 ∙ ap (answers_over rs) e ∙ sym b.0, a.1 ∙ ap (own_left n rs) e ∙ sym b.1)

  -- A fresh record is not full before the editor's 9,999th call.
  own_room : (rs : List Tally) (before : List Call) → record_at rs n ≡ fresh → length (own_calls n before) < tally_limit → is_full (own_left n rs before) ≡ false
  own_room rs before z h =
      let w = own_counts rs before in
      let e : length (own_day n rs before) ≡ length (own_calls n before) = ap length (alone rs rs before refl refl).0 ∙ answers_length rs (own_calls n before) in
      not_full (own_left n rs before) (omega (arith, w.0, ap (λ (r : Tally). r.answered) z, answered_few (own_day n rs before), e, h))
      (omega (arith, w.1, ap (λ (r : Tally). r.refused) z, refused_few (own_day n rs before), e, h))

-- The records of a day are those of another on which each editor has the same calls in the same order.
same_records : (rs : List Tally) (cs ds : List Call) → ((n : ℕ) → Numbered editor_limit n → own_calls n cs ≡ own_calls n ds) → records_over rs cs ≡ records_over rs ds
same_records rs cs ds e =
    ⊎_elim (λ f. ext_get_or fresh (records_over rs cs) (records_over rs ds) (length_over rs cs ∙ sym (length_over rs ds)) (at f)) (λ k. kept_over rs cs k ∙ sym (kept_over rs ds k)) (either (length rs) editor_limit)
  where
    at : Forty rs → (i : ℕ) → i < length (records_over rs cs) → get_or (records_over rs cs) i fresh ≡ get_or (records_over rs ds) i fresh
    at f i l =
        let numbered : Numbered editor_limit (suc i) = record { first = omega arith; last = omega (arith, l, length_over rs cs, f) } in
        let z : suc i - 1 ≡ i = omega arith in
        rw z at (same_calls (suc i) numbered rs cs ds (e (suc i) numbered)).1

-- A call of an editor's gets what it would get on fresh records, unless the editor's record is full.
fresh_answer : (c : Call) → Numbered editor_limit c.editor → call_answer fresh_records c ≡ answer_by_table c.way c.table c.card c.slip c.rooms
unfolding answer_at
fresh_answer c h =
    own_answer fresh_records c (length-replicate editor_limit fresh) c.editor h refl ∙ rw (own_fresh c.editor, not_full fresh (omega arith) (omega arith)) refl

full_or_fresh : (rs : List Tally) (c : Call) → Forty rs → Numbered editor_limit c.editor → call_answer rs c ≡ cond (is_full (record_at rs c.editor)) (refused 32 0) (call_answer fresh_records c)
unfolding answer_at
full_or_fresh rs c f h = own_answer rs c f c.editor h refl ∙ ap (cond (is_full (record_at rs c.editor)) (refused 32 0)) (sym (fresh_answer c h))

-- Both counts of a record within 0 to 9,999.
abbrev Within : Tally → Type 0
Within r = (r.answered ≤ tally_limit) × (r.refused ≤ tally_limit)

within_after : (r : Tally) (u : OrRefused Answer) → Within r → Within (tally_after r u)
unfolding counted tally_after
within_after r u h = go (is_full r) refl u
  where
    go : (full : Bool) → is_full r ≡ full → (u : OrRefused Answer) → Within (cond full r (counted r u))
    go true e u = h
    go false e u = by u
      where
        by : (u : OrRefused Answer) → Within (counted r u)
        by (taken a) = (omega (arith, (room_left r e).0), h.1)
        by (refused k s) = (h.0, omega (arith, (room_left r e).1))

-- A record at any place is as it was or counts the call.
next_or_kept : (y : Editors) (u : OrRefused Answer) (n : ℕ) → (record_at (records_after y u) n ≡ record_at y.records n) ⊎ (record_at (records_after y u) n ≡ tally_after (record_at y.records n) u)
unfolding records_after
next_or_kept y u n = go (has_record y) refl
  where
    r : Tally
    r = tally_after (own_record y) u

    go : (b : Bool) → has_record y ≡ b → (record_at (cond b (with_record y r) y.records) n ≡ record_at y.records n) ⊎ (record_at (cond b (with_record y r) y.records) n ≡ tally_after (record_at y.records n) u)
    go true e =
        ⊎_elim (λ (q : n - 1 ≡ y.caller - 1). inr (rw q (get_or-set_same y.records (y.caller - 1) r fresh (own_inside y e))))
        (λ q. inl (get_or-set_other y.records (y.caller - 1) (n - 1) r fresh q)) (either (n - 1) (y.caller - 1))
    go false e = inl refl

within_over : (rs : List Tally) (cs : List Call) (n : ℕ) → Within (record_at rs n) → Within (own_left n rs cs)
unfolding records_over response_in
within_over rs [] n h = h
within_over rs (c ∷ cs) n h =
    within_over (next_records rs c) cs n
    (⊎_elim (λ e. subst Within (sym e) h) (λ e. subst Within (sym e) (within_after (record_at rs n) (call_answer rs c) h)) (next_or_kept (lent rs c.editor) (call_answer rs c) n))

-- A DAY OF CALLS.
pub day_of_calls : DayOfCalls
day_of_calls = record {
  forty_left = λ rs cs f. length_over rs cs ∙ f;
  each_comes = answers_length;
  in_place = answers_in_place;
  own_count = λ rs cs n h. own_counts n h rs cs;
  fresh_count = λ cs n h. fresh_counts n h cs;
  without_others = λ rs cs n h. alone n h rs rs cs refl refl;
  mixed = λ rs cs ds e. (same_records rs cs ds e, λ n h. (same_calls n h rs cs ds (e n h)).0);
  others_stop_nobody = λ rs rs' cs f f' n h e.
      let a = alone n h rs rs' cs (f ∙ sym f') e in
      let b = alone n h rs' rs' cs refl refl in
      (a.0 ∙ sym b.0, a.1 ∙ sym b.1);
  each_alone = λ rs before c f h. full_or_fresh (records_over rs before) c (length_over rs before ∙ f) h;
  no_editor = λ rs before c n. always_44 c.way c.table (lent (records_over rs before) c.editor) c.card c.slip c.rooms (λ h. n h.number);
  room = λ rs before n z h. own_room n h rs before z;
  within = within_over;
}

-- What the response told and left in its outputs, as the listing has it.
-- Assumes nothing.
use Prim.Native.Nat.{ℕ}
use native.Mathlib.Omega.{arith}
use mathlib.Core.Path.{◌≡◌, refl, sym, ap, ◌∙◌}
use mathlib.Core.Bool.{true}
use mathlib.Core.List.{List}
use lib.ListN.{length, take, drop}
use lib.Seq.{take_at}
use Rattle.laws.specs.Answers.{OrRefused, taken, refused, written}
use Rattle.table.specs.declared.Table.{Table}
use Rattle.table.specs.declared.Way.TheVariants.{Strata}
use Rattle.tally.specs.declared.Tally.{Tally}
use Rattle.tally.specs.Counting.{fresh}
use Rattle.tally.specs.Editors.{Editors, is_editor}
use Rattle.response.specs.Outcomes.{Answered, Refused, Response}
use Rattle.response.specs.Ending.{Answer}
use Rattle.response.specs.Respond.{Outputs, outputs, outputs_after, answer_at, outcome_of, tally_after, response_at}
use Rattle.listing.specs.Listing.{refusal, program_rooms, program_editors, list_response}
use Rattle.listing.specs.inner.AnswerLines.{answer_bytes, list_answer}
use Rattle.listing.proofs.Callers.{program_listed}

-- What an outcome says of the answer.
answered_e : (u : OrRefused Answer) (n f : ℕ) → outcome_of u ≡ Answered n f → (a : Answer) × (u ≡ taken a) × (length a.changes ≡ n)
unfolding outcome_of
answered_e (taken a) n f e = (a, refl, (let z : length a.changes ≡ n = cc in z))
answered_e (refused k s) n f e = absurd (let z : ◌≡◌ {A = ℕ} 0 1 = cc in omega arith)

refused_e : (u : OrRefused Answer) (k s : ℕ) → outcome_of u ≡ Refused k s → u ≡ refused k s
unfolding outcome_of
refused_e (taken a) k s e = absurd (let z : ◌≡◌ {A = ℕ} 0 1 = cc in omega arith)
refused_e (refused j r) k s e = let x : j ≡ k = cc in let y : r ≡ s = cc in rw (x, y) refl

-- Bytes written to the front of an output stand there.
front : (ys out : List ℕ) (n : ℕ) → length ys ≡ n → take n (written ys out) ≡ ys
front ys out n l = take_at ys (drop (length ys) out) n l

module _ (text : List ℕ) (t : Table) (card slip : List ℕ) where
  abbrev answer : OrRefused Answer
  answer = answer_at Strata t fresh card slip program_rooms

  -- An answer: its bytes stand at the front of the three outputs.
  pub record Delivered (n : ℕ) (y : Tally) (card_out changes_out fired_out : List ℕ) : Type 0 where
    pub shown : Answer
    pub is_taken : answer ≡ taken shown
    pub length_is : length shown.changes ≡ n
    pub tally_is : y ≡ tally_after fresh (taken shown)
    pub card_front : take (length shown.new_card) card_out ≡ shown.new_card
    pub changes_front : take n changes_out ≡ shown.changes
    pub fired_front : take (length shown.fired) fired_out ≡ shown.fired

  pub delivers : (r : Response) (n f : ℕ) (x y z first second third : List ℕ) → r ≡ response_at Strata t fresh card slip program_rooms
      → outputs x y z ≡ outputs_after answer (outputs first second third) → r.outcome ≡ Answered n f → Delivered n r.tally x y z
  unfolding response_at outputs_after
  delivers r n f x y z first second third e p o =
      let w = answered_e answer n f (sym (ap (λ (q : Response). q.outcome) e) ∙ o) in
      let a = w.0 in
      let q : outputs x y z ≡ outputs (written a.new_card first) (written a.changes second) (written a.fired third) = p ∙ ap (λ (u : OrRefused Answer). outputs_after u (outputs first second third)) w.1 in
      record {
        shown = a;
        is_taken = w.1;
        length_is = w.2;
        tally_is = ap (λ (q : Response). q.tally) e ∙ ap (tally_after fresh) w.1;
        card_front = ap (λ (v : Outputs). take (length a.new_card) v.card) q ∙ front a.new_card first (length a.new_card) refl;
        changes_front = ap (λ (v : Outputs). take n v.changes) q ∙ front a.changes second n w.2;
        fired_front = ap (λ (v : Outputs). take (length a.fired) v.fired) q ∙ front a.fired third (length a.fired) refl;
      }

  -- What is listed of it to an editor.
  pub delivered_listed : (editor n k m : ℕ) (y : Tally) (x v z : List ℕ) (S : Delivered n y x v z) → is_editor editor ≡ true → k ≡ length S.shown.new_card → m ≡ length S.shown.fired
      → list_answer text t (answer_bytes (take k x) (take n v) (take m z)) editor y ≡ list_response text t (program_editors editor) (taken S.shown)
  delivered_listed editor n k m y x v z S e g h = rw (g, h, S.card_front, S.changes_front, S.fired_front, S.tally_is) (sym (program_listed editor e text t S.shown))

  -- A refusal.
  pub refused_listed : (y : Editors) (r : Response) (k s : ℕ) → r ≡ response_at Strata t fresh card slip program_rooms → r.outcome ≡ Refused k s → refusal k s ≡ list_response text t y answer
  unfolding response_at list_response
  refused_listed y r k s e o = rw (refused_e answer k s (sym (ap (λ (q : Response). q.outcome) e) ∙ o)) refl

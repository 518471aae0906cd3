-- From the text to the name shown.
-- Assumes nothing.
use Prim.Native.Nat.{ℕ, suc, ◌-◌, ◌≤◌, ◌<◌}
use native.Mathlib.Omega.{arith}
use mathlib.Core.Path.{◌≡◌, refl, ap, ◌∙◌}
use mathlib.Core.Bool.{Bool, true, false, cond}
use mathlib.Core.List.{List}
use mathlib.Core.Logic.{◌⊎◌, ⊎_elim}
use lib.Dec.{leb, ltb}
use lib.ListN.{length, get_or}
use borrow.Author.Tests.{lt-ltb, le-ltb, le-leb, lt-leb}
use Rattle.laws.specs.Truth.{◌∧ᵇ◌}
use Rattle.laws.proofs.Listed.{each_at}
use Rattle.text.specs.Tokens.{Name}
use Rattle.text.specs.Cut.{Stands}
use Rattle.laws.specs.Limits.{slot_limit, value_limit}
use Rattle.grammar.specs.Files.{Slot, File, no_slot, values_of}
use Rattle.grammar.specs.Standing.{NamedBy}
use Rattle.grammar.specs.Meaning.{IsFile}
use Rattle.grammar.proofs.Accepts.{accepts_iff, one_meaning}
use Rattle.grammar.proofs.Declared.{Valued, file_declared}
use Rattle.grammar.proofs.Stands.{file_stands}
use Rattle.names.specs.Names.{Showing, not_shown, has_slot, has_value, show_slot, show_value}
use Rattle.rule_file.specs.Whole.{reading}
use Rattle.rule_file.specs.Carries.{declared, declared_slot, declared_value}
use Rattle.rule_file.proofs.Answers.{reading_no_refusal, reading_carries}
use Rattle.promises.specs.Returned.{IsAccepted}
use Rattle.promises.specs.Shown.{ShowsName, NamesShown}

-- A slot that is there is shown as it is declared,
pub slot_told : (ss : List Slot) (s : ℕ) → length ss ≤ slot_limit → s < length ss → declared_slot ss s ≡ declared (get_or ss s no_slot).name
unfolding has_slot ◌∧ᵇ◌
slot_told ss s few h = rw (lt-ltb s slot_limit (omega arith), lt-ltb s (length ss) h)

-- and a value that is there.
pub value_told : (ss : List Slot) (s i : ℕ) → length ss ≤ slot_limit → s < length ss → length (values_of ss s) ≤ value_limit → i < length (values_of ss s)
    → declared_value ss s (suc i) ≡ declared (get_or (values_of ss s) i no_slot.name)
unfolding has_slot has_value ◌∧ᵇ◌
value_told ss s i few h most l =
    let z : suc i - 1 ≡ i = omega arith in
    rw (lt-ltb s slot_limit (omega arith), lt-ltb s (length ss) h, le-leb 1 (suc i) (omega arith), le-leb (suc i) value_limit (omega arith), le-leb (suc i) (length (values_of ss s)) (omega arith), z)

and_false : (b : Bool) → (b ∧ᵇ false) ≡ false
unfolding ◌∧ᵇ◌
and_false true = refl
and_false false = refl

-- Past the last slot there is none,
slot_missing : (n s : ℕ) → n ≤ s → has_slot n s ≡ false
unfolding has_slot
slot_missing n s h = rw (le-ltb s n h) (and_false (ltb s slot_limit))

-- and before the first value or past the last no value.
value_missing : (n v : ℕ) → (v ≡ 0) ⊎ (n < v) → has_value n v ≡ false
unfolding has_value ◌∧ᵇ◌
value_missing n v h = ⊎_elim (λ e. rw (lt-leb 1 v (omega (arith, e))) refl) (λ l. rw (lt-leb v n l) (and_false (leb 1 v ∧ᵇ leb v value_limit))) h

-- What shows a name as it is declared shows it.
shows : (text : List ℕ) (n : Name) (s : Showing) → Stands text n → s ≡ declared n → ShowsName text n s
shows text n s h e = record { number = ap (λ (x : Showing). x.code) e; letters = ap (λ (x : Showing). x.part) e; place = ap (λ (x : Showing). x.start) e; stands = h }

-- FROM THE TEXT TO THE NAME SHOWN.
pub names_shown : (text : List ℕ) (f : File) → IsFile text f → IsAccepted text → NamesShown text f
names_shown text f h a =
    let c = reading_carries text (reading_no_refusal text a) in
    let same : c.file ≡ f = one_meaning text c.file f c.is_file h in
    let slots : (s : ℕ) → show_slot text (reading text).table s ≡ declared_slot f.slots s = λ s. c.slots_shown s ∙ ap (λ (g : File). declared_slot g.slots s) same in
    let values : (s v : ℕ) → show_value text (reading text).table s v ≡ declared_value f.slots s v = λ s v. c.values_shown s v ∙ ap (λ (g : File). declared_value g.slots s v) same in
    let D = file_declared text f h in
    let named : (s : ℕ) → s < length f.slots → NamedBy (Stands text) (get_or f.slots s no_slot) = λ s l. each_at (NamedBy (Stands text)) f.slots s no_slot (file_stands text f ((accepts_iff text f).1 h)) l in
    record {
      slot = λ s l. shows text _ _ (named s l).0 (slots s ∙ slot_told f.slots s D.few_slots l);
      value = λ s i l k. shows text _ _ (each_at (Stands text) (values_of f.slots s) i no_slot.name (named s l).1 k) (values s (suc i) ∙ value_told f.slots s i D.few_slots l (each_at Valued f.slots s no_slot D.slots_valued l).1 k);
      past_slots = λ s l. (slots s ∙ rw (slot_missing (length f.slots) s l) refl, λ v. values s v ∙ rw (slot_missing (length f.slots) s l) refl);
      past_values = λ s v l k. values s v ∙ rw (value_missing (length (values_of f.slots s)) v k) (same_either (has_slot (length f.slots) s));
    }
  where
    same_either : (b : Bool) → cond b not_shown not_shown ≡ not_shown
    same_either true = refl
    same_either false = refl

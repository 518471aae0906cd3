-- What a rearranged text is read as, and when two responses are the same with each rule's bit in its new place.
-- Assumes nothing.
use Prim.Native.Nat.{ℕ}
use mathlib.Core.Path.{◌≡◌, refl, sym, ap, ap₂, subst, fun_ext, ◌∙◌}
use mathlib.Core.Bool.{Bool, true, false, cond}
use mathlib.Core.List.{List, [], map}
use lib.Dec.{T, ltb}
use lib.ListN.{length, length-map}
use Rattle.laws.specs.Numbers.{how_many}
use Rattle.laws.specs.Packed.{byte_count}
use Rattle.laws.specs.Rearranged.{Perm, under, goes}
use Rattle.laws.specs.inner.Back.{p_sym}
use Rattle.model.specs.Rules.{Pair, Rule}
use Rattle.model.specs.Orders.{rule_at, names, firing_order}
use Rattle.model.proofs.Orders.{are_rules}
use Rattle.model.proofs.Lengths.{order_length}
use Rattle.model.proofs.Renaming.{names_moved, renaming}
use Rattle.model.proofs.Rearranged.{rearranged_order}
use Rattle.table.specs.declared.Way.{Way}
use Rattle.grammar.specs.Files.{File}
use Rattle.grammar.specs.Meaning.{IsFile}
use Rattle.grammar.specs.Pieces.{Rearranges}
use Rattle.grammar.proofs.Accepts.{accepts_iff}
use Rattle.grammar.proofs.Rearranged.{rearranged_text}
use Rattle.laws.specs.Answers.{OrRefused, taken, refused}
use Rattle.cards.specs.Forms.{card_bits, read_card, read_slip}
use Rattle.tally.specs.declared.Tally.{Tally}
use Rattle.tally.specs.Counting.{is_full}
use Rattle.tally.specs.Editors.{Editors, has_record, own_record}
use Rattle.response.specs.Outcomes.{Outcome, Answered}
use Rattle.results.specs.Record.{bit_of, ones_in}
use Rattle.response.specs.Ending.{Answer, fired_record}
use Rattle.response.specs.Respond.{◌and_then◌, Rooms, changes_room, if_room, answer_by, answer_by_rules, outcome_of, counted, tally_after, records_after, Responded}
use Rattle.promises.specs.Agreement.{SameResponse, same_refusal, same_answer, new_place}
use Rattle.promises.proofs.Callers.{by_record}
use Rattle.promises.proofs.FiredBits.{record_bit, record_ones}

-- The file of a rearranged text: the same slots, and each rule in its new place.
pub record MovedFile (f : File) (text text' : List ℕ) (R : Rearranges text text') : Type 0 where
  pub rules : List Rule
  pub is_file : IsFile text' (record { slots = f.slots; rules = rules })
  pub perm : Perm f.rules rules
  pub places : (n : ℕ) → under (goes perm) n ≡ new_place R n
  pub same_rules : (n : ℕ) → rule_at rules (new_place R n) ≡ rule_at f.rules n

pub moved_file : (f : File) (text text' : List ℕ) (R : Rearranges text text') → IsFile text f → MovedFile f text text' R
moved_file f text text' R h =
    let m = rearranged_text text text' f ((accepts_iff text f).1 h) R in
    let places : (n : ℕ) → under (goes m.2) n ≡ new_place R n = λ n. ap (λ (h : ℕ → ℕ). under h n) (fun_ext m.3) in
    record {
      rules = m.0;
      is_file = (accepts_iff text' (record { slots = f.slots; rules = m.0 })).0 m.1;
      perm = m.2;
      places = places;
      same_rules = λ n. ap (rule_at m.0) (sym (places n)) ∙ (renaming f.rules m.0 m.2).moved n;
    }

module _ (place : ℕ → ℕ) where
  -- A test that both make, those of the record, what both take, and the room of both outputs come before.
  same_cond : (b : Bool) (k s : ℕ) (u v : OrRefused Answer) → SameResponse place u v → SameResponse place (cond b (refused k s) u) (cond b (refused k s) v)
  same_cond true k s u v h = same_refusal
  same_cond false k s u v h = h

  pub same_by_record : (y : Editors) (u v : OrRefused Answer) → SameResponse place u v → SameResponse place (by_record y u) (by_record y v)
  same_by_record y u v h = go (has_record y)
    where
      go : (b : Bool) → SameResponse place (cond b (cond (is_full (own_record y)) (refused 32 0) u) (refused 44 0)) (cond b (cond (is_full (own_record y)) (refused 32 0) v) (refused 44 0))
      go true = same_cond (is_full (own_record y)) 32 0 u v h
      go false = same_refusal

  same_then : {A : Type 0} (u : OrRefused A) (f g : A → OrRefused Answer) → ((a : A) → u ≡ taken a → SameResponse place (f a) (g a)) → SameResponse place (u and_then f) (u and_then g)
  unfolding ◌and_then◌
  same_then (taken a) f g h = h a refl
  same_then (refused k s) f g h = same_refusal

  same_room : (width count : ℕ) (rooms : Rooms) (u v : OrRefused Answer) → SameResponse place u v → SameResponse place (if_room width count rooms u) (if_room width count rooms v)
  unfolding if_room
  same_room width count rooms u v h =
      same_cond (ltb rooms.for_card (byte_count (card_bits width))) 30 1 _ _
      (same_cond (ltb rooms.for_changes changes_room) 30 2 _ _ (same_cond (ltb rooms.for_fired (byte_count count)) 30 3 u v h))

  -- The responses by as many rules, over the same slots, are the same where what they come to is.
  pub same_by_rules : (way : Way) (counts : List ℕ) (rs rs' : List Rule) → length rs ≡ length rs' → (card slip : List ℕ) (rooms : Rooms)
      → ((S : List ℕ) (I : List Pair) → read_slip counts slip ≡ taken I → SameResponse place (answer_by way counts rs S I) (answer_by way counts rs' S I))
      → SameResponse place (answer_by_rules way counts rs card slip rooms) (answer_by_rules way counts rs' card slip rooms)
  unfolding answer_by_rules
  same_by_rules way counts rs rs' l card slip rooms h =
      same_then (read_card counts card) _ _ (λ S c. same_then (read_slip counts slip) _ _
      (λ I e. subst (λ (n : ℕ). SameResponse place (if_room (length counts) (length rs) rooms (answer_by way counts rs S I)) (if_room (length counts) n rooms (answer_by way counts rs' S I))) l
      (same_room (length counts) (length rs) rooms _ _ (h S I e))))

  -- The outcome and the records after it are then the same.
  told_same : (y : Editors) (u v : OrRefused Answer) → SameResponse place u v → (outcome_of u ≡ outcome_of v) × (records_after y u ≡ records_after y v)
  unfolding outcome_of records_after tally_after counted
  told_same y u v same_refusal = (refl, refl)
  told_same y u v (same_answer c k n b) = (ap₂ (λ (x z : ℕ). Answered x z) (ap length c) n, refl)

  pub same_told : (y : Editors) (u v : OrRefused Answer) → SameResponse place u v → ◌≡◌ {A = Responded} (record { outcome = outcome_of u; records = records_after y u }) (record { outcome = outcome_of v; records = records_after y v })
  same_told y u v h = let w = told_same y u v h in ap₂ (λ (x : Outcome) (rs : List Tally). record { outcome = x; records = rs }) w.0 w.1

module _ (rs rs' : List Rule) (q : Perm rs rs') (S : List ℕ) (I : List Pair) (ours theirs : List ℕ) (A : T (firing_order rs S I ours)) (B : T (firing_order rs' S I theirs))
    (same : (n : ℕ) → names ours n ≡ names theirs (under (goes q) n)) where
  -- The bit of each rule is in its new place,
  pub moved_bit : (n : ℕ) → bit_of (fired_record (length rs) ours) n ≡ bit_of (fired_record (length rs') theirs) (under (goes q) n)
  unfolding firing_order
  moved_bit n = sym (record_bit (length rs) ours (are_rules rs S I [] ours A) n) ∙ same n ∙ record_bit (length rs') theirs (are_rules rs' S I [] theirs B) (under (goes q) n)

  -- The rules fired, at their new numbers, are those of the other.
  same_names : (n : ℕ) → names (map (under (goes q)) ours) n ≡ names theirs n
  same_names n =
      let R = renaming rs rs' q in
      let m = under (goes (p_sym q)) n in
      subst (λ (k : ℕ). names (map (under (goes q)) ours) k ≡ names theirs k) (R.back_there n) (sym (names_moved rs rs' (under (goes q)) (under (goes (p_sym q))) R ours m) ∙ same m)

  -- and as many rules fire.
  pub as_many : ones_in (fired_record (length rs) ours) ≡ ones_in (fired_record (length rs') theirs)
  as_many =
      record_ones (length rs) ours ∙ order_length rs S I ours A ∙ sym (length-map ours (under (goes q)))
      ∙ sym (order_length rs' S I (map (under (goes q)) ours) (rearranged_order rs rs' q S I ours A))
      ∙ ap (λ (h : ℕ → Bool). how_many h (length rs')) (fun_ext same_names) ∙ sym (record_ones (length rs') theirs)

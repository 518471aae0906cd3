-- What a response ends in: it is refused before the rules are looked at, by strata and by marks alike, or all that was handed in is in order and it is what the rules come to.
-- Assumes nothing.
use Prim.Native.Nat.{ℕ}
use mathlib.Core.Path.{◌≡◌, refl, sym, ap, subst, ◌∙◌}
use mathlib.Core.Bool.{Bool, true, false}
use mathlib.Core.List.{List, [], ◌∷◌}
use mathlib.Core.Logic.{◌⊎◌, inl, inr, ⊎_elim}
use lib.Dec.{T, ltb}
use lib.ListN.{length}
use borrow.Author.Tests.{ltb-false, le-ltb}
use Rattle.laws.specs.Answers.{OrRefused, taken, refused}
use Rattle.laws.specs.Packed.{byte_count}
use Rattle.laws.proofs.Equations.{is_true}
use Rattle.model.specs.Rules.{Pair}
use Rattle.model.specs.Strata.{weak}
use Rattle.model.specs.Circles.{circle_of}
use Rattle.table.specs.declared.Table.{Table}
use Rattle.table.specs.declared.Way.{Way}
use Rattle.table.specs.Link.{rules_of, value_counts}
use Rattle.soundness.specs.Sound.{takes}
use Rattle.soundness.proofs.Taken.{sound_taken}
use Rattle.grammar.specs.Files.{File, slot_counts}
use Rattle.grammar.specs.Meaning.{IsFile}
use Rattle.grammar.proofs.Accepts.{one_meaning}
use Rattle.reader.specs.Tables.{Accepted}
use Rattle.rule_file.specs.Whole.{reading}
use Rattle.rule_file.proofs.Answers.{reading_carries, reading_passes}
use Rattle.cards.specs.Forms.{card_bits, read_card, read_slip}
use Rattle.tally.specs.Editors.{Editors}
use Rattle.response.specs.Ending.{Answer}
use Rattle.response.specs.Respond.{◌and_then◌, Rooms, changes_room, if_room, answer_by, answer_by_rules, answer_by_table, answer_at, answer_in}
use Rattle.promises.specs.Reasons.{Countable}
use Rattle.promises.specs.Selections.{HandedIn}
use Rattle.promises.proofs.Callers.{Caller, has_none, has_full, can_count, caller_of, by_record, comes_44, comes_32, comes_on}
use Rattle.promises.proofs.Refusals.{OneOf, of_card, of_slip, Other, only_e, one_of_other, card_refused, slip_refused}

-- What comes of a call by the slots and rules of a file.
abbrev pub comes : Way → File → Editors → List ℕ → List ℕ → Rooms → OrRefused Answer
comes way f y card slip rooms = by_record y (answer_by_rules way (slot_counts f.slots) f.rules card slip rooms)

-- So responds a table that is taken and has these.
pub taken_response : (way : Way) (f : File) (t : Table) → T (takes way t) → rules_of t ≡ f.rules → value_counts t ≡ slot_counts f.slots → (y : Editors) (card slip : List ℕ) (rooms : Rooms)
    → answer_in way t y card slip rooms ≡ comes way f y card slip rooms
unfolding answer_in answer_at answer_by_table
taken_response way f t h r n y card slip rooms = rw (is_true (takes way t) h, r, n)

-- The table of an accepted text has its file's rules and as many values for each slot,
pub file_table : (text : List ℕ) (f : File) → IsFile text f → (reading text).outcome ≡ Accepted → (rules_of (reading text).table ≡ f.rules) × (value_counts (reading text).table ≡ slot_counts f.slots)
file_table text f h o =
    let c = reading_carries text o in
    let e : c.file ≡ f = one_meaning text c.file f c.is_file h in
    (c.rules_are ∙ ap (λ (g : File). g.rules) e, c.counts_are ∙ ap (λ (g : File). slot_counts g.slots) e)

-- so it responds by them;
pub file_response : (way : Way) (text : List ℕ) (f : File) → IsFile text f → (reading text).outcome ≡ Accepted → (y : Editors) (card slip : List ℕ) (rooms : Rooms)
    → answer_in way (reading text).table y card slip rooms ≡ comes way f y card slip rooms
file_response way text f h o =
    let w = file_table text f h o in taken_response way f (reading text).table (sound_taken way (reading text).table (reading_passes text)) w.0 w.1

-- and these rules have strata.
pub file_no_circle : (text : List ℕ) (f : File) → IsFile text f → (reading text).outcome ≡ Accepted → circle_of weak f.rules ≡ 0
file_no_circle text f h o =
    let c = reading_carries text o in
    sym (ap (λ (g : File). circle_of weak g.rules) (one_meaning text c.file f c.is_file h)) ∙ c.no_circle

-- The refusals of what rules come to.
abbrev pub of_end : List ℕ
of_end = 40 ∷ 41 ∷ 42 ∷ []

-- An answer or one of them.
abbrev pub Final : OrRefused Answer → Type 0
Final (taken a) = Unit
Final (refused k s) = OneOf of_end k

-- None of them.
abbrev pub Earlier : ℕ → Type 0
Earlier k = OneOf of_end k → ⊥

-- Numbers that are none of them.
earlier : (ns : List ℕ) → ((k : ℕ) → OneOf ns k → Other 40 k) → ((k : ℕ) → OneOf ns k → Other 41 k) → ((k : ℕ) → OneOf ns k → Other 42 k) → (k : ℕ) → OneOf ns k → Earlier k
earlier ns a b c k h (inl e) = a k h e
earlier ns a b c k h (inr (inl e)) = b k h e
earlier ns a b c k h (inr (inr (inl e))) = c k h e
earlier ns a b c k h (inr (inr (inr x))) = x

module _ (f : File) (y : Editors) (card slip : List ℕ) (rooms : Rooms) where
  abbrev counts : List ℕ
  counts = slot_counts f.slots

  abbrev width : ℕ
  width = length counts

  -- Refused before the rules are looked at, by both responses alike.
  abbrev pub Before : Type 0
  Before = (k : ℕ) × (s : ℕ) × Earlier k × ((way : Way) → comes way f y card slip rooms ≡ refused k s)

  -- Where the slip can be counted it is what the rules give.
  counted_comes : Countable y → (way : Way) → comes way f y card slip rooms ≡ answer_by_rules way counts f.rules card slip rooms
  counted_comes c way = comes_on y c (answer_by_rules way counts f.rules card slip rooms)

  -- One or the other, by the outputs' room, the slip, the card and the caller.
  by_room : Countable y → (S : List ℕ) → read_card counts card ≡ taken S → (I : List Pair) → read_slip counts slip ≡ taken I
      → (a b c : Bool) → ltb rooms.for_card (byte_count (card_bits width)) ≡ a → ltb rooms.for_changes changes_room ≡ b → ltb rooms.for_fired (byte_count (length f.rules)) ≡ c
      → HandedIn f y card slip rooms ⊎ Before
  unfolding answer_by_rules ◌and_then◌ if_room
  by_room e S p I q true b c u v w = inr (30, 1, (λ x. one_of_other of_end 30 tt 30 x refl), λ way. counted_comes e way ∙ rw (p, q, u) refl)
  by_room e S p I q false true c u v w = inr (30, 2, (λ x. one_of_other of_end 30 tt 30 x refl), λ way. counted_comes e way ∙ rw (p, q, u, v) refl)
  by_room e S p I q false false true u v w = inr (30, 3, (λ x. one_of_other of_end 30 tt 30 x refl), λ way. counted_comes e way ∙ rw (p, q, u, v, w) refl)
  by_room e S p I q false false false u v w =
      inl (record { countable = e; S = S; I = I; card_is = p; slip_is = q; room = record { for_card = ltb-false _ _ u; for_changes = ltb-false _ _ v; for_fired = ltb-false _ _ w } })

  by_slip : Countable y → (S : List ℕ) → read_card counts card ≡ taken S → (u : OrRefused (List Pair)) → read_slip counts slip ≡ u → HandedIn f y card slip rooms ⊎ Before
  unfolding answer_by_rules ◌and_then◌
  by_slip e S p (taken I) q = by_room e S p I q _ _ _ refl refl refl
  by_slip e S p (refused k s) q =
      inr (k, s, earlier of_slip (one_of_other of_slip 40 tt) (one_of_other of_slip 41 tt) (one_of_other of_slip 42 tt) k (only_e (OneOf of_slip) (read_slip counts slip) k s (slip_refused counts slip) q), λ way. counted_comes e way ∙ rw (p, q) refl)

  by_card : Countable y → (u : OrRefused (List ℕ)) → read_card counts card ≡ u → HandedIn f y card slip rooms ⊎ Before
  unfolding answer_by_rules ◌and_then◌
  by_card e (taken S) p = by_slip e S p (read_slip counts slip) refl
  by_card e (refused k s) p =
      inr (k, s, earlier of_card (one_of_other of_card 40 tt) (one_of_other of_card 41 tt) (one_of_other of_card 42 tt) k (only_e (OneOf of_card) (read_card counts card) k s (card_refused counts card) p), λ way. counted_comes e way ∙ rw p refl)

  by_caller : Caller y → HandedIn f y card slip rooms ⊎ Before
  by_caller (has_none n) = inr (44, 0, (λ x. one_of_other of_end 44 tt 44 x refl), λ way. comes_44 y n (answer_by_rules way counts f.rules card slip rooms))
  by_caller (has_full h l) = inr (32, 0, (λ x. one_of_other of_end 32 tt 32 x refl), λ way. comes_32 y h l (answer_by_rules way counts f.rules card slip rooms))
  by_caller (can_count e) = by_card e (read_card counts card) refl

  -- All is in order, or it is refused before.
  pub in_order_or_before : HandedIn f y card slip rooms ⊎ Before
  in_order_or_before = by_caller (caller_of y)

  -- Where all is in order it is what the rules come to.
  pub in_order_comes : (way : Way) (d : HandedIn f y card slip rooms) → comes way f y card slip rooms ≡ answer_by way counts f.rules d.S d.I
  unfolding answer_by_rules ◌and_then◌ if_room
  in_order_comes way d =
      counted_comes d.countable way ∙ rw (d.card_is, d.slip_is, le-ltb _ _ d.room.for_card, le-ltb _ _ d.room.for_changes, le-ltb _ _ d.room.for_fired) refl

  -- And only there does it end so.
  pub ends_in_order : (way : Way) (w : OrRefused Answer) → Final w → comes way f y card slip rooms ≡ w → (d : HandedIn f y card slip rooms) × (answer_by way counts f.rules d.S d.I ≡ w)
  ends_in_order way w l e = ⊎_elim (λ d. (d, sym (in_order_comes way d) ∙ e)) (λ b. absurd (b.2 (subst Final (sym e ∙ b.3 way) l))) in_order_or_before

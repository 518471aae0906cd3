-- What the program reads of longer files.
-- Assumes nothing.
use Prim.Native.Nat.{ℕ, ◌≤◌, ◌<◌}
use native.Mathlib.Omega.{arith}
use mathlib.Core.Path.{◌≡◌, refl, sym, ap, ap₂, ◌∙◌}
use mathlib.Core.List.{List, [], ◌∷◌}
use mathlib.Core.Bool.{cond}
use mathlib.Core.Logic.{⊎_elim}
use lib.ListN.{length, take}
use lib.Seq.{take_all, length-take-le}
use Rattle.laws.specs.Answers.{OrRefused, refused}
use Rattle.laws.proofs.Truth.{le_or_lt}
use Rattle.model.specs.Rules.{Pair}
use Rattle.table.specs.declared.Table.{Table}
use Rattle.table.specs.Link.{rules_of, value_counts}
use Rattle.laws.specs.Limits.{program_text_limit, program_rule_limit}
use Rattle.grammar.proofs.Forward.{read_long}
use Rattle.table.specs.declared.Way.TheVariants.{Strata}
use Rattle.soundness.specs.Sound.{takes}
use Rattle.reader.specs.Tables.{ReadingOutcome, Accepted, Refused}
use Rattle.rule_file.specs.Whole.{answered_whole, program_reading}
use Rattle.cards.specs.Forms.{read_card, read_slip}
use Rattle.cards.proofs.Taken.{card_short, slip_short}
use Rattle.tally.specs.Counting.{is_full}
use Rattle.tally.specs.Editors.{Editors, has_record, own_record}
use Rattle.response.specs.Respond.{◌and_then◌, Rooms, if_room, answer_by, answer_by_rules, answer_by_table, answer_at, answer_in, answer_to}
use Rattle.listing.specs.Listing.{Listing, refusal, program_rooms, editor_number, program_editors, text_room, card_room, slip_room, editor_room, list_response, list_reading, listing_in, listing}
use Rattle.listing.proofs.Small.{count_small}

-- A card that fills its room is longer than any count says, and a slip too.
long_card : (counts ys : List ℕ) → card_room ≤ length ys → read_card counts ys ≡ refused 20 0
long_card counts ys h = card_short counts ys (λ (e : length ys ≡ _). omega (arith, h, e, count_small ys))

long_slip : (counts ys : List ℕ) → slip_room ≤ length ys → read_slip counts ys ≡ refused 24 0
long_slip counts ys h = slip_short counts ys (λ (e : length ys ≡ _). omega (arith, h, e, count_small ys))

-- What a reading comes to.
abbrev read : List ℕ → Editors → List ℕ → List ℕ → Listing
read text y card slip = list_reading text (program_reading text).outcome (program_reading text).table y card slip

-- A text that fills its room is too long.
long_text : (text : List ℕ) (y : Editors) (card slip : List ℕ) → text_room ≤ length text → read text y card slip ≡ refusal 10 0
unfolding list_reading answered_whole
long_text text y card slip h = rw (read_long program_text_limit program_rule_limit text (omega (arith, h)))

-- What fills a room.
full : (n : ℕ) (ys : List ℕ) → n ≤ length ys → n ≤ length (take n ys)
full n ys h = omega (arith, length-take-le n ys h)

card_cut : (counts card : List ℕ) → read_card counts (take card_room card) ≡ read_card counts card
card_cut counts card = ⊎_elim
    (λ (h : card_room ≤ length card). long_card counts (take card_room card) (full card_room card h) ∙ sym (long_card counts card h))
    (λ (h : length card < card_room). ap (read_card counts) (take_all card_room card (omega arith))) (le_or_lt card_room (length card))

slip_cut : (counts slip : List ℕ) → read_slip counts (take slip_room slip) ≡ read_slip counts slip
slip_cut counts slip = ⊎_elim
    (λ (h : slip_room ≤ length slip). long_slip counts (take slip_room slip) (full slip_room slip h) ∙ sym (long_slip counts slip h))
    (λ (h : length slip < slip_room). ap (read_slip counts) (take_all slip_room slip (omega arith))) (le_or_lt slip_room (length slip))

answer_cut : (t : Table) (y : Editors) (card slip : List ℕ) (rooms : Rooms) → answer_to t y (take card_room card) (take slip_room slip) rooms ≡ answer_to t y card slip rooms
unfolding answer_in answer_at answer_by_table answer_by_rules
answer_cut t y card slip rooms =
    ap₂ (λ (u : OrRefused (List ℕ)) (v : OrRefused (List Pair)).
    cond (has_record y)
    (cond (is_full (own_record y)) (refused 32 0)
    (cond (takes Strata t) (u and_then λ S. v and_then λ I. if_room (length (value_counts t)) (length (rules_of t)) rooms (answer_by Strata (value_counts t) (rules_of t) S I)) (refused 31 0))) (refused 44 0))
    (card_cut (value_counts t) card) (slip_cut (value_counts t) slip)

entries_cut : (text card slip : List ℕ) (q : ReadingOutcome) (t : Table) (y : Editors) → list_reading text q t y (take card_room card) (take slip_room slip) ≡ list_reading text q t y card slip
unfolding list_reading
entries_cut text card slip Accepted t y = ap (list_response text t y) (answer_cut t y card slip program_rooms)
entries_cut text card slip (Refused k n) t y = refl

reading_cut : (text card slip : List ℕ) (y : Editors) → read (take text_room text) y (take card_room card) (take slip_room slip) ≡ read text y card slip
reading_cut text card slip y = ⊎_elim
    (λ (h : text_room ≤ length text). long_text (take text_room text) y (take card_room card) (take slip_room slip) (full text_room text h) ∙ sym (long_text text y card slip h))
    (λ (h : length text < text_room). ap (λ (ys : List ℕ). read ys y (take card_room card) (take slip_room slip)) (take_all text_room text (omega arith)) ∙ entries_cut text card slip (program_reading text).outcome (program_reading text).table y) (le_or_lt text_room (length text))

-- Two bytes are enough to see that an editor file has not one.
number_cut : (editor : List ℕ) → editor_number (take editor_room editor) ≡ editor_number editor
unfolding editor_number
number_cut [] = refl
number_cut (b ∷ []) = refl
number_cut (b ∷ c ∷ bs) = refl

-- WHAT THE PROGRAM READS of longer files comes to the same as the whole of them.
pub listing_cut : (text card slip editor : List ℕ) → listing (take text_room text) (take card_room card) (take slip_room slip) (take editor_room editor) ≡ listing text card slip editor
unfolding listing listing_in
listing_cut text card slip editor =
    let y = program_editors (editor_number editor) in
    ap (λ (n : ℕ). listing_in (take text_room text) (program_editors n) (take card_room card) (take slip_room slip)) (number_cut editor)
    ∙ ap (λ (u : Listing). cond (has_record y) u (refusal 44 0)) (reading_cut text card slip y)

-- The house style: what is printed, read back, printed alike, and refused.
-- Assumes nothing.
use Prim.Native.Nat.{ℕ, ◌≤◌}
use mathlib.Core.Path.{◌≡◌, sym, ap, subst, ◌∙◌}
use mathlib.Core.List.{List}
use mathlib.Core.Logic.{◌↔◌}
use lib.ListN.{length}
use Rattle.laws.specs.Answers.{taken}
use Rattle.laws.proofs.Equations.{is_true}
use Rattle.text.specs.Tokens.{tokens}
use Rattle.model.specs.Rules.{Rule}
use Rattle.model.specs.Strata.{weak}
use Rattle.model.specs.Circles.{circle_of}
use Rattle.model.specs.Least.{strata_of}
use Rattle.model.proofs.Strata.{least_strata}
use Rattle.table.specs.declared.Way.TheVariants.{Strata}
use Rattle.soundness.specs.Sound.{takes}
use Rattle.soundness.proofs.Taken.{sound_taken}
use Rattle.laws.specs.Limits.{text_limit}
use Rattle.grammar.specs.Files.{File}
use Rattle.grammar.specs.Meaning.{IsFile}
use Rattle.grammar.specs.Reading.{accepted, parse}
use Rattle.grammar.proofs.Accepts.{accepts_iff, one_meaning}
use Rattle.style.specs.Layout.{by_letters}
use Rattle.style.specs.Printed.{print, Agree}
use Rattle.style.proofs.Trees.{canonical_means}
use Rattle.style.proofs.Tidied.{canonical_tidy, tidy_print}
use Rattle.style.proofs.Prints.{print_tokens, print_read, agree_print, print_agree}
use Rattle.reader.specs.Tables.{Accepted}
use Rattle.rule_file.specs.Whole.{reading}
use Rattle.rule_file.specs.Carries.{Carries}
use Rattle.rule_file.proofs.Answers.{reading_accepted_iff, reading_carries, reading_passes}
use Rattle.printing.specs.Printing.{print_of, print_into}
use Rattle.printing.proofs.Fitting.{print_is, refused_first}
use Rattle.tally.specs.Editors.{Editors}
use Rattle.response.specs.Respond.{Rooms, answer_by_table, answer_at, answer_in}
use Rattle.promises.specs.Agreement.{responds}
use Rattle.promises.specs.HouseStyle.{Alike, InStyle, HouseStyle}
use Rattle.promises.proofs.Outcomes.{comes_34, comes_33, comes_whole, is_34, is_33, is_whole}
use Rattle.promises.proofs.Alike.{agree_alike, alike_agree}

-- The print of every accepted text is in the style, whatever its length.
style : (text : List ℕ) → (reading text).outcome ≡ Accepted → InStyle text (print_of (parse text))
unfolding print
style text o =
    let c = reading_carries text o in
    let p = print_is text c.file c.is_file in
    record {
      file = c.file;
      is_file = c.is_file;
      means = canonical_means c.is_file.tree c.file c.is_file.means;
      tidy = canonical_tidy c.file;
      laid_out = p;
      tokens_are = ap (λ (b : List ℕ). by_letters (tokens b)) p ∙ print_tokens text c.file c.is_file;
      no_other = λ t m d. tidy_print t c.file m d ∙ sym p;
    }

-- Two accepted texts print alike exactly when they are alike.
alike_iff : (text text' : List ℕ) → (reading text).outcome ≡ Accepted → (reading text').outcome ≡ Accepted → (print_of (parse text) ≡ print_of (parse text')) ↔ Alike text text'
alike_iff text text' o o' = (there, back)
  where
    c : Carries text (reading text).table
    c = reading_carries text o

    c' : Carries text' (reading text').table
    c' = reading_carries text' o'

    f : File
    f = c.file

    g : File
    g = c'.file

    there : print_of (parse text) ≡ print_of (parse text') → Alike text text'
    there e = agree_alike text text' c c'
        (print_agree text text' f g ((accepts_iff text f).1 c.is_file) ((accepts_iff text' g).1 c'.is_file) (sym (print_is text f c.is_file) ∙ e ∙ print_is text' g c'.is_file))

    back : Alike text text' → print_of (parse text) ≡ print_of (parse text')
    back a = print_is text f c.is_file ∙ agree_print f g (alike_agree text text' c c' a) ∙ sym (print_is text' g c'.is_file)

-- A print within the limit is accepted, and alike.
reads_back : (text : List ℕ) → (reading text).outcome ≡ Accepted → length (print_of (parse text)) ≤ text_limit
    → ((reading (print_of (parse text))).outcome ≡ Accepted) × Alike text (print_of (parse text))
reads_back text o l = subst (λ (b : List ℕ). ((reading b).outcome ≡ Accepted) × Alike text b) (sym p) (o', agree_alike text (print f) c c' (subst (Agree f) (one_meaning (print f) g c'.file h c'.is_file) r.2))
  where
    c : Carries text (reading text).table
    c = reading_carries text o

    f : File
    f = c.file

    p : print_of (parse text) ≡ print f
    p = print_is text f c.is_file

    r : (g : File) × (parse (print f) ≡ accepted g) × Agree f g
    r = print_read text f ((accepts_iff text f).1 c.is_file) (subst (λ (b : List ℕ). length b ≤ text_limit) p l)

    g : File
    g = r.0

    h : IsFile (print f) g
    h = (accepts_iff (print f) g).0 r.1

    z : circle_of weak g.rules ≡ 0
    z = sym (ap (λ (rs : List Rule). circle_of weak rs) r.2.same_rules) ∙ c.no_circle

    o' : (reading (print f)).outcome ≡ Accepted
    o' = (reading_accepted_iff (print f)).0 (g, h, (strata_of weak g.rules, least_strata weak g.rules z))

    c' : Carries (print f) (reading (print f)).table
    c' = reading_carries (print f) o'

-- What is printed is the text's print, and so all that is said of it.
module _ (text : List ℕ) (room : ℕ) (bytes : List ℕ) (e : print_into text room ≡ taken bytes) where
  is_accepted : (reading text).outcome ≡ Accepted
  is_accepted = (is_whole text room bytes e).0

  is_print : bytes ≡ print_of (parse text)
  is_print = (is_whole text room bytes e).1

  short : length bytes ≤ text_limit
  short = (is_whole text room bytes e).2

  back : ((reading bytes).outcome ≡ Accepted) × Alike text bytes
  back = subst (λ (b : List ℕ). ((reading b).outcome ≡ Accepted) × Alike text b) (sym is_print) (reads_back text is_accepted (subst (λ (b : List ℕ). length b ≤ text_limit) is_print short))

  once_more : (room' : ℕ) → length bytes ≤ room' → print_into bytes room' ≡ taken bytes
  once_more room' l =
      let p : print_of (parse bytes) ≡ bytes = sym ((alike_iff text bytes is_accepted back.0).1 back.1) ∙ sym is_print in
      comes_whole bytes room' (back.0, rw p short, rw p l) ∙ ap taken p

  other : (text' : List ℕ) → (reading text').outcome ≡ Accepted → (print_into text' room ≡ taken bytes) ↔ Alike text text'
  other text' o' = (λ d. (alike_iff text text' is_accepted o').0 (sym is_print ∙ (is_whole text' room bytes d).1), λ a. same (is_print ∙ (alike_iff text text' is_accepted o').1 a))
    where
      same : bytes ≡ print_of (parse text') → print_into text' room ≡ taken bytes
      same p = comes_whole text' room (o', subst (λ (b : List ℕ). length b ≤ text_limit) p short, subst (λ (b : List ℕ). length b ≤ room) p (is_whole text room bytes e).3) ∙ ap taken (sym p)

-- Tables that have the same counts and rules, and pass 31, answer alike.
answers_alike : (text text' : List ℕ) → Alike text text' → (y : Editors) (card slip : List ℕ) (rooms : Rooms) → responds text y card slip rooms ≡ responds text' y card slip rooms
unfolding answer_in answer_at answer_by_table
answers_alike text text' a y card slip rooms =
    rw (is_true (takes Strata (reading text).table) (sound_taken Strata (reading text).table (reading_passes text)), is_true (takes Strata (reading text').table) (sound_taken Strata (reading text').table (reading_passes text')), a.same_counts, a.same_rules)

-- THE HOUSE STYLE.
pub house_style : HouseStyle
house_style = record {
  in_style = style;
  read_back = back;
  again = once_more;
  print_alike = alike_iff;
  same_print = λ text text' room bytes e o'. other text room bytes e text' o';
  same_answers = answers_alike;
  print_answers = λ text text' o o' e. answers_alike text text' ((alike_iff text text' o o').0 e);
  own_refusal = refused_first;
  exactly_34 = λ text room. (is_34 text room, comes_34 text room);
  exactly_33 = λ text room. (is_33 text room, comes_33 text room);
  exactly_printed = λ text room bytes. (is_whole text room bytes, λ h. full text room bytes h);
}
  where
    full : (text : List ℕ) (room : ℕ) (bytes : List ℕ) → ((reading text).outcome ≡ Accepted) × (bytes ≡ print_of (parse text)) × (length bytes ≤ text_limit) × (length bytes ≤ room) → print_into text room ≡ taken bytes
    full text room bytes h =
        comes_whole text room (h.0, subst (λ (b : List ℕ). length b ≤ text_limit) h.1 h.2, subst (λ (b : List ℕ). length b ≤ room) h.1 h.3) ∙ ap taken (sym h.1)

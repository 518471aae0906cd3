-- The house style as a caller sees it.
-- Assumes nothing.
use Prim.Native.Nat.{ℕ}
use mathlib.Core.Path.{◌≡◌, refl, sym, ap, subst}
use mathlib.Core.List.{List}
use lib.ListN.{length}
use Rattle.laws.specs.Answers.{OrRefused, taken, refused, output_of}
use Rattle.reader.specs.Tables.{reading_refusal}
use Rattle.printing.specs.Printing.{print_into, printing_of, printing_refusal, printing_length}
use Rattle.promises.specs.HouseStyle.{InStyle}
use Rattle.promises.specs.CalledPrint.{PrintGiven, CalledPrint}
use Rattle.promises.proofs.Refusals.{Other, only_e}
use Rattle.promises.proofs.Outcomes.{is_whole, print_other_0}
use Rattle.promises.proofs.HouseStyle.{house_style}

-- THE HOUSE STYLE AS A CALLER SEES IT.
pub called_print : (text out : List ℕ) → CalledPrint text out
unfolding printing_of output_of
called_print text out = given (print_into text (length out)) refl
  where
    given : (u : OrRefused (List ℕ)) → print_into text (length out) ≡ u → printing_refusal (printing_of u) ≡ 0 → PrintGiven text out
    given (taken ys) e z =
        let w = is_whole text (length out) ys e in
        let b = house_style.read_back text (length out) ys e in
        record {
          bytes = ys;
          told = ap (λ (u : OrRefused (List ℕ)). printing_length (printing_of u)) e;
          fits = w.3;
          holds = ap (λ (u : OrRefused (List ℕ)). output_of u out) e;
          in_style = subst (InStyle text) (sym w.1) (house_style.in_style text w.0);
          accepted_again = ap reading_refusal b.0;
          alike = b.1;
        }
    given (refused k s) e z = absurd (only_e (Other 0) (print_into text (length out)) k s (print_other_0 text (length out)) e z)

-- The house style as a caller sees it: by the numbers of the answer, and by the bytes that the output holds afterwards. (Its refusals are a part of demand 1.)
use Rattle.std.specs.Prelude.{ℕ, ◌≤◌, ◌≡◌, List, length}
use Rattle.laws.specs.Answers.{written}
use Rattle.printing.specs.Printing.{printing_refusal, printing_length}
use Rattle.promises.specs.Returned.{IsAccepted, print_told, print_left}
use Rattle.promises.specs.HouseStyle.{Alike, InStyle}

-- The output holds, at its front, as many bytes as are told, and beyond them what it held. They are in the style what the text says, and are read as what it is read as.
pub record PrintGiven (text out : List ℕ) : Type 0 where
  pub bytes : List ℕ
  pub told : printing_length (print_told text out) ≡ length bytes
  pub fits : length bytes ≤ length out
  pub holds : print_left text out ≡ written bytes out
  pub in_style : InStyle text bytes
  pub accepted_again : IsAccepted bytes
  pub alike : Alike text bytes

-- Any text, into any output: no refusal, and the print is given.
abbrev pub CalledPrint : List ℕ → List ℕ → Type 0
CalledPrint text out = printing_refusal (print_told text out) ≡ 0 → PrintGiven text out

-- What comes of bytes for an output, and of a text that is read: 10 to 18, then 34, then 33.
-- Assumes nothing.
use Prim.Native.Nat.{ℕ, ◌≤◌, ◌<◌}
use mathlib.Core.Path.{◌≡◌, ap, ◌∙◌}
use mathlib.Core.List.{List}
use lib.ListN.{length}
use borrow.Author.Tests.{lt-ltb, le-ltb}
use Rattle.laws.specs.Answers.{OrRefused, taken, refused, output_of}
use Rattle.laws.specs.Limits.{text_limit}
use Rattle.grammar.specs.Files.{File}
use Rattle.grammar.specs.Meaning.{IsFile}
use Rattle.grammar.specs.Reading.{parse}
use Rattle.grammar.proofs.Accepts.{accepts_iff}
use Rattle.reader.specs.Tables.{Accepted, Refused}
use Rattle.rule_file.specs.Whole.{reading}
use Rattle.style.specs.Printed.{print}
use Rattle.printing.specs.Printing as printing
use Rattle.writing.specs.inner.Puts.{put_in}
use Rattle.printing.specs.Printing.{print_of, fitted, after_reading, print_into, printing_of}
use Rattle.writing.proofs.Putting.{put_front}

-- The print of a text that is a file.
pub print_is : (text : List ℕ) (f : File) → IsFile text f → print_of (parse text) ≡ print f
unfolding print_of
print_is text f h = ap print_of ((accepts_iff text f).1 h)

-- Bytes for an output: 34, then 33, else all of them.
pub fitted_34 : (ys : List ℕ) (room : ℕ) → text_limit < length ys → fitted ys room ≡ refused 34 0
unfolding fitted
fitted_34 ys room l = rw (lt-ltb text_limit (length ys) l)

pub fitted_33 : (ys : List ℕ) (room : ℕ) → length ys ≤ text_limit → room < length ys → fitted ys room ≡ refused 33 0
unfolding fitted
fitted_33 ys room l s = rw (le-ltb text_limit (length ys) l, lt-ltb room (length ys) s)

pub fitted_all : (ys : List ℕ) (room : ℕ) → length ys ≤ text_limit → length ys ≤ room → fitted ys room ≡ taken ys
unfolding fitted
fitted_all ys room l s = rw (le-ltb text_limit (length ys) l, le-ltb room (length ys) s)

-- The reading's refusals stay, and an accepted text's print is fitted.
pub refused_first : (text : List ℕ) (room k n : ℕ) → (reading text).outcome ≡ Refused k n → print_into text room ≡ refused k n
unfolding print_into after_reading
refused_first text room k n o = rw o

pub then_fitted : (text : List ℕ) (room : ℕ) → (reading text).outcome ≡ Accepted → print_into text room ≡ fitted (print_of (parse text)) room
unfolding print_into after_reading
then_fitted text room o = rw o

-- What the code answers to a refusal and leaves in the output.
pub answer_refused : (u : OrRefused (List ℕ)) (k s : ℕ) (out : List ℕ) → u ≡ refused k s → (printing.Refused k s ≡ printing_of u) × (out ≡ output_of u out)
unfolding printing_of output_of
answer_refused u k s out e = (rw e, rw e)

-- The same for bytes taken, which stand at the front of the output.
pub answer_taken : (u : OrRefused (List ℕ)) (ys first out : List ℕ) (n : ℕ) → u ≡ taken ys → n ≡ length ys → out ≡ put_in first 0 ys → (printing.Printed n ≡ printing_of u) × (out ≡ output_of u first)
unfolding printing_of output_of
answer_taken u ys first out n e l p = (rw e (ap printing.Printed l), rw e (p ∙ put_front first ys))

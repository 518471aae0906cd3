-- The reading accepts a text with a file exactly when its tokens derive a tree that means that file within the limits.
-- Assumes nothing.
use Prim.Native.Nat.{ℕ}
use mathlib.Core.Path.{◌≡◌, sym, ◌∙◌}
use mathlib.Core.List.{List}
use mathlib.Core.Logic.{◌↔◌}
use Rattle.grammar.specs.Files.{File}
use Rattle.grammar.specs.Reading.{accepted, parse}
use Rattle.grammar.specs.Meaning.{IsFile}
use Rattle.grammar.proofs.Forward.{file_parsed}
use Rattle.grammar.proofs.Backward.{file_back, file_same}

-- A text is accepted with a file exactly when it is that file.
pub accepts_iff : (text : List ℕ) (f : File) → (parse text ≡ accepted f) ↔ IsFile text f
accepts_iff text f = (file_back text f, file_parsed text f)

-- A text is at most one file, by whatever tree.
pub one_meaning : (text : List ℕ) (f g : File) → IsFile text f → IsFile text g → f ≡ g
one_meaning text f g a b = file_same f g (sym (file_parsed text f a) ∙ file_parsed text g b)

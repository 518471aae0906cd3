-- What every name of a text has, every name of its file has; so each is the stretch of the text at its place.
-- Assumes nothing.
use Prim.Native.Nat.{ℕ}
use mathlib.Core.Path.{◌≡◌, sym, subst}
use mathlib.Core.List.{List, [], ◌∷◌, ◌++◌}
use Rattle.laws.specs.Listed.{Each}
use Rattle.laws.proofs.Listed.{each_last}
use Rattle.text.specs.Tokens.{Name, Token, word, name, CLOSE, COMMA, SEMICOLON, tokens}
use Rattle.text.specs.Cut.{OfName, Stands}
use Rattle.text.proofs.Cut.{names_stand}
use Rattle.grammar.specs.Files.{Slot, File}
use Rattle.grammar.specs.Grammar.{ValueListTree, LineTree, spell_values, spell_lines, spell_rules}
use Rattle.grammar.specs.Reading.{accepted, parse}
use Rattle.grammar.specs.Meaning.{MeansValues, means_value, means_values, means_line, MeansLines, no_lines, more_lines, IsFile}
use Rattle.grammar.specs.Standing.{NamedBy, SlotsStand}
use Rattle.grammar.proofs.Backward.{file_back}

module _ (P : Name → Type 0) where
  values_have : (vs : ValueListTree) (ns : List Name) (rest : List Token) → MeansValues vs ns → Each (OfName P) (spell_values vs rest) → Each P ns × Each (OfName P) rest
  values_have vs ns rest (means_value {n = n}) h = ((h.0, tt), h.1)
  values_have vs ns rest (means_values {vs = ws} {ns = ms} {n = n} g d) h =
      let r = values_have ws ms (word COMMA ∷ name n ∷ rest) g h in
      (each_last P ms n r.0 r.1.1.0, r.1.1.1)

  lines_have : (before : List Slot) (ts : List LineTree) (all : List Slot) (rest : List Token) → MeansLines before ts all → Each (NamedBy P) before
      → Each (OfName P) (spell_lines ts rest) → Each (NamedBy P) all
  lines_have before ts all rest no_lines b h = b
  lines_have before ts all rest (more_lines {s = x} {ts = us} (means_line {vs = vs} d g few) ms) b h =
      let r = values_have vs x.values (word CLOSE ∷ word SEMICOLON ∷ spell_lines us rest) g h.1.1.1 in
      lines_have (before ++ x ∷ []) us all rest ms (each_last (NamedBy P) before x b (h.1.0, r.0)) r.1.1.1

  -- What every name among the tokens of a text has, every name of its file has.
  pub names_have : (text : List ℕ) (f : File) → IsFile text f → Each (OfName P) (tokens text) → Each (NamedBy P) f.slots
  names_have text f a h =
      lines_have [] a.tree.lines f.slots (spell_rules a.tree.rules []) a.means.lines_are tt
      (subst (λ (ts : List Token). Each (OfName P) ts) (sym a.derives) h)

-- The names of an accepted file lie inside its text and are the text at their places.
pub file_stands : (text : List ℕ) (f : File) → parse text ≡ accepted f → SlotsStand text f.slots
file_stands text f e = names_have (Stands text) text f (file_back text f e) (names_stand text)

-- Document 01, 'Agreement': a text cut after each `;`, its reading by pieces, and a rearranged file: the same pieces, those of rules in any order among themselves, the others where they were.
use Rattle.std.specs.Prelude.{ℕ, suc, ◌+◌, ◌≤◌, ◌≡◌, Bool, true, false, cond, eqb, length}
use mathlib.Core.List.{List, [], ◌∷◌, ◌++◌, Forall₂}
use Rattle.laws.specs.Rearranged.{Perm}
use Rattle.text.specs.Tokens.{Token, word, WHEN, SEMICOLON, tokens_from, tokens}
use Rattle.model.specs.Rules.{Rule}
use Rattle.laws.specs.Limits.{text_limit, slot_limit, rule_limit}
use Rattle.grammar.specs.Files.{Slot, File}
use Rattle.grammar.specs.Reading.{took, begins_with, read_rule, read_line}

-- A byte before the first piece, where there is one.
abbrev pub lengthened : ℕ → List (List ℕ) → List (List ℕ)
lengthened x [] = []
lengthened x (b ∷ bs) = (x ∷ b) ∷ bs

-- The pieces of a text, each without the `;` (59) that ends it.
unfoldable pub pieces : List ℕ → List (List ℕ)
pieces [] = []
pieces (x ∷ xs) = cond (eqb x 59) ([] ∷ pieces xs) (lengthened x (pieces xs))

-- A byte before what follows the last `;`, where no `;` comes before that.
abbrev pub kept : List (List ℕ) → ℕ → List ℕ → List ℕ
kept [] x w = x ∷ w
kept (b ∷ bs) x w = w

-- What follows the last `;`.
unfoldable pub tail_piece : List ℕ → List ℕ
tail_piece [] = []
tail_piece (x ∷ xs) = cond (eqb x 59) (tail_piece xs) (kept (pieces xs) x (tail_piece xs))

-- Pieces put together again, each with its `;`, and `w` after the last.
abbrev pub joined : List (List ℕ) → List ℕ → List ℕ
joined [] w = w
joined (b ∷ bs) w = b ++ 59 ∷ joined bs w

-- A piece is read as a rule over these slots, wherever it stands and whatever follows its `;`.
abbrev pub ReadRule : List Slot → List ℕ → Rule → Type 0
ReadRule slots b r = (p : ℕ) (rest : List Token) → read_rule slots (tokens_from b 0 p ++ word SEMICOLON ∷ rest) ≡ took r rest

-- A piece is read as a slot at its place `p`, after the slots `before`, whatever follows its `;`.
abbrev pub ReadLine : List Slot → ℕ → List ℕ → Slot → Type 0
ReadLine before p b s = (rest : List Token) → read_line before (tokens_from b 0 p ++ word SEMICOLON ∷ rest) ≡ took s rest

-- Pieces from place `p` on are read one after the other as slots, after the slots `before`; `all` are the slots in the end.
pub data ReadLines : List Slot → ℕ → List (List ℕ) → List Slot → Type 0 where
  no_more_lines : {before : List Slot} {p : ℕ} → ReadLines before p [] before
  one_more_line : {before : List Slot} {p : ℕ} {b : List ℕ} {bs : List (List ℕ)} {s : Slot} {all : List Slot}
      → ReadLine before p b s → ReadLines (before ++ s ∷ []) (p + suc (length b)) bs all → ReadLines before p (b ∷ bs) all

-- A text is a file statement by statement: its first pieces are the slots, each of the others is a rule by itself over those slots, white follows the last `;`, and the limits are kept.
pub record ByStatements (text : List ℕ) (f : File) : Type 0 where
  pub slot_part : List (List ℕ)
  pub rule_part : List (List ℕ)
  pub whole : pieces text ≡ slot_part ++ rule_part
  pub slots_are : ReadLines [] 0 slot_part f.slots
  pub rules_are : Forall₂ (ReadRule f.slots) rule_part f.rules
  pub end_white : tokens (tail_piece text) ≡ []
  pub short : length text ≤ text_limit
  pub few_slots : length f.slots ≤ slot_limit
  pub few_rules : length f.rules ≤ rule_limit

-- The piece of a rule: it begins with WHEN.
unfoldable pub rule_piece : List ℕ → Bool
rule_piece b = begins_with WHEN (tokens b)

-- The pieces of rules, in order.
unfoldable pub rule_pieces : List (List ℕ) → List (List ℕ)
rule_pieces [] = []
rule_pieces (b ∷ bs) = cond (rule_piece b) (b ∷ rule_pieces bs) (rule_pieces bs)

-- A rule's piece where a rule's piece was, and any other piece where it was.
pub data SameOthers : List (List ℕ) → List (List ℕ) → Type 0 where
  no_pieces : SameOthers [] []
  same_other : {b : List ℕ} {bs cs : List (List ℕ)} → rule_piece b ≡ false → SameOthers bs cs → SameOthers (b ∷ bs) (b ∷ cs)
  some_rule : {b c : List ℕ} {bs cs : List (List ℕ)} → rule_piece b ≡ true → rule_piece c ≡ true → SameOthers bs cs → SameOthers (b ∷ bs) (c ∷ cs)

-- The second text is the first rearranged: its pieces of rules are those of the first in some order, and all else is where it was.
pub record Rearranges (t t' : List ℕ) : Type 0 where
  pub others : SameOthers (pieces t) (pieces t')
  pub rules : Perm (rule_pieces (pieces t)) (rule_pieces (pieces t'))
  pub end : tail_piece t' ≡ tail_piece t

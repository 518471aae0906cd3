-- Document 01, 'Rule text': the limits, each said once; those of texts and rules are the library's (document 02, section 7), and the program has its own.
use Rattle.std.specs.Prelude.{ℕ, ◌+◌}

-- Bytes in a text.
abbrev pub text_limit : ℕ
text_limit = 262144

-- Bytes in a text that the program takes.
abbrev pub program_text_limit : ℕ
program_text_limit = 65535

-- Bytes in a name.
abbrev pub name_limit : ℕ
name_limit = 24

-- Slots in a file.
abbrev pub slot_limit : ℕ
slot_limit = 32

-- Values declared in a slot; NONE is not counted.
abbrev pub value_limit : ℕ
value_limit = 15

-- Rules in a file.
abbrev pub rule_limit : ℕ
rule_limit = 2000

-- Rules in a file that the program takes.
abbrev pub program_rule_limit : ℕ
program_rule_limit = 255

-- Literals in a condition, TRUE not counted.
abbrev pub literal_limit : ℕ
literal_limit = 8

-- Assignments in a rule.
abbrev pub assignment_limit : ℕ
assignment_limit = 4

-- Slips answered, and slips refused, at which a tally is full.
abbrev pub tally_limit : ℕ
tally_limit = 9999

-- Editors, and so records in the lent table.
abbrev pub editor_limit : ℕ
editor_limit = 40

-- NONE, which is value 0, and the values of a slot: the places of one slot in an array indexed by pair.
abbrev pub row : ℕ
row = value_limit + 1

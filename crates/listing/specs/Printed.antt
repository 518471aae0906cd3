-- Document 01, 'The program': the bytes of a listing. Fields stand one space apart, and byte 10 ends each line.
use Rattle.std.specs.Prelude.{ℕ, zero, suc, ◌+◌, ◌-◌, ◌*◌, ◌^◌, ◌/◌, ◌%◌, Bool, true, false, cond, List, [], ◌∷◌, ◌++◌, ltb, length}
use Rattle.laws.specs.Quoted.{bytes}
use Rattle.laws.specs.Answers.{written}
use Rattle.laws.specs.Limits.{name_limit, slot_limit, program_rule_limit}
use Rattle.laws.specs.Packed.{byte_count}
use Rattle.cards.specs.Forms.{card_bits}
use Rattle.tally.specs.declared.Tally.{Tally}
use Rattle.listing.specs.Listing.{RuleLine, ChangeLine, Listing, listed, refusal}

-- The decimal digits of a number, of which there are at most `most`: the last one, after those of its tenth where it is 10 or above.
unfoldable pub digits : ℕ → ℕ → List ℕ
digits zero n = []
digits (suc most) n = cond (ltb n 10) [] (digits most (n / 10)) ++ (48 + n % 10) ∷ []

-- A number in decimal, without leading zeros.
unfoldable pub decimal : ℕ → List ℕ
decimal n = digits (suc n) n

-- The number that decimal digits stand for, each ten times that of the next (`decimal_back`).
unfoldable pub decimal_number : List ℕ → ℕ
decimal_number [] = 0
decimal_number (d ∷ ds) = (d - 48) * 10 ^ length ds + decimal_number ds

-- A hexadecimal digit, a capital where it is a letter.
abbrev pub hex_digit : ℕ → ℕ
hex_digit n = cond (ltb n 10) (48 + n) (55 + n)

-- A byte in hexadecimal: two digits.
abbrev pub hex_digits : ℕ → List ℕ
hex_digits b = hex_digit (b / 16) ∷ hex_digit (b % 16) ∷ []

-- Bytes in hexadecimal.
unfoldable pub hexadecimal : List ℕ → List ℕ
hexadecimal [] = []
hexadecimal (b ∷ bs) = hex_digits b ++ hexadecimal bs

-- The number that a hexadecimal digit stands for, and the bytes that hexadecimal digits stand for, two for each (`hexadecimal_back`).
abbrev pub hex_number : ℕ → ℕ
hex_number d = cond (ltb d 65) (d - 48) (d - 55)

unfoldable pub hexadecimal_bytes : List ℕ → List ℕ
hexadecimal_bytes [] = []
hexadecimal_bytes (d ∷ []) = []
hexadecimal_bytes (d ∷ e ∷ ds) = (16 * hex_number d + hex_number e) ∷ hexadecimal_bytes ds

-- The end of the line of a rule that fired, and of one that did not.
unfoldable pub fired_word : Bool → List ℕ
fired_word true = bytes " fired\n"
fired_word false = bytes " idle\n"

-- The line of rule n.
unfoldable pub rule_text : ℕ → RuleLine → List ℕ
rule_text n r = bytes "rule " ++ (decimal n ++ (bytes " stratum " ++ (decimal r.stratum ++ fired_word r.fired)))

-- The lines of rules, the first of which is rule n.
unfoldable pub rules_text : ℕ → List RuleLine → List ℕ
rules_text n [] = []
rules_text n (r ∷ rs) = rule_text n r ++ rules_text (suc n) rs

-- The line of a change.
unfoldable pub change_text : ChangeLine → List ℕ
change_text c = bytes "change " ++ (c.slot ++ (bytes " " ++ (c.value ++ bytes "\n")))

-- The lines of changes.
unfoldable pub changes_text : List ChangeLine → List ℕ
changes_text [] = []
changes_text (c ∷ cs) = change_text c ++ changes_text cs

-- The line of the new card.
unfoldable pub card_text : List ℕ → List ℕ
card_text card = bytes "card " ++ (hexadecimal card ++ bytes "\n")

-- The line of the tally: the editor, answered and refused.
unfoldable pub tally_text : ℕ → Tally → List ℕ
tally_text n y = bytes "tally " ++ (decimal n ++ (bytes " " ++ (decimal y.answered ++ (bytes " " ++ (decimal y.refused ++ bytes "\n")))))

-- The line of a refusal: its number and its second number.
unfoldable pub refusal_text : ℕ → ℕ → List ℕ
refusal_text k s = bytes "refused " ++ (decimal k ++ (bytes " " ++ (decimal s ++ bytes "\n")))

-- No line of a rule or a change has more bytes, nor that of a card or of the program's tally, and so nothing that the program prints has more than `page` (`listing_bounded`).
abbrev pub rule_text_most : ℕ
rule_text_most = 27

abbrev pub change_text_most : ℕ
change_text_most = 9 + 2 * name_limit

abbrev pub card_text_most : ℕ
card_text_most = 6 + 2 * byte_count (card_bits slot_limit)

abbrev pub tally_text_most : ℕ
tally_text_most = 13

abbrev pub page : ℕ
page = program_rule_limit * rule_text_most + slot_limit * change_text_most + card_text_most + tally_text_most

-- What the program prints of a listing: rules in number order, changes in slot order, the new card, the tally; or the one line of a refusal.
unfoldable pub printed : Listing → List ℕ
printed (listed rs cs card n y) = rules_text 1 rs ++ (changes_text cs ++ (card_text card ++ tally_text n y))
printed (refusal k s) = refusal_text k s

-- An output once bytes are listed into it: they stand at its front and the rest is as it was, where it has room for them; else it is as it was.
unfoldable pub placed : List ℕ → List ℕ → List ℕ
placed ys out = cond (ltb (length out) (length ys)) out (written ys out)

-- Numbers, bytes and lines as they are printed, by evaluation.
-- Assumes nothing.
use native.Mathlib.Omega.{arith}
use mathlib.Core.Path.{◌≡◌, refl}
use mathlib.Core.Bool.{true, false}
use mathlib.Core.List.{[], ◌∷◌, map}
use Rattle.laws.specs.Quoted.{bytes_from, bytes}
use Rattle.listing.specs.Listing.{listed, refusal}
use Rattle.listing.specs.Printed.{digits, decimal, decimal_number, hexadecimal, hexadecimal_bytes, fired_word, rule_text, rules_text, change_text, changes_text, card_text, tally_text, refusal_text, printed}
use Rattle.listing.proofs.Digits.{decimal_within}

-- Numbers in decimal: the digit of the highest place first, no zero before it.
decimals : map decimal (0 ∷ 9 ∷ 10 ∷ 99 ∷ 100 ∷ 255 ∷ [])
    ≡ map bytes ("0" ∷ "9" ∷ "10" ∷ "99" ∷ "100" ∷ "255" ∷ [])
unfolding decimal digits bytes bytes_from
decimals = refl

decimal_65535 : decimal 65535 ≡ bytes "65535"
unfolding digits bytes bytes_from
decimal_65535 = decimal_within 4 65535 (omega arith)

decimal_of_64_bits : decimal 18446744073709551615 ≡ bytes "18446744073709551615"
unfolding digits bytes bytes_from
decimal_of_64_bits = decimal_within 19 18446744073709551615 (omega arith)

numbers : map decimal_number (bytes "0" ∷ bytes "120" ∷ bytes "18446744073709551615" ∷ []) ≡ 0 ∷ 120 ∷ 18446744073709551615 ∷ []
unfolding decimal_number bytes bytes_from
numbers = refl

-- Bytes in hexadecimal: the high digit first, two for each.
hexadecimals : hexadecimal (12 ∷ 175 ∷ 144 ∷ []) ≡ bytes "0CAF90"
unfolding hexadecimal bytes bytes_from
hexadecimals = refl

hexadecimal_numbers : hexadecimal_bytes (bytes "0CAF90") ≡ 12 ∷ 175 ∷ 144 ∷ []
unfolding hexadecimal_bytes bytes bytes_from
hexadecimal_numbers = refl

-- The line of a rule whose number and stratum have more than one digit.
rule_line_128 : rule_text 128 (record { stratum = 12; fired = true }) ≡ bytes "rule 128 stratum 12 fired\n"
unfolding rule_text fired_word decimal digits bytes bytes_from
rule_line_128 = refl

-- A listing with several rules and changes, and a refusal.
page_of_changes :
    printed (listed
    (record { stratum = 10; fired = false } ∷ record { stratum = 1; fired = true } ∷ [])
    (record { slot = bytes "state-of-entry"; value = bytes "frozen" } ∷ record { slot = bytes "x"; value = bytes "1" } ∷ record { slot = bytes "label"; value = bytes "before-1800" } ∷ [])
    (12 ∷ 175 ∷ 144 ∷ []) 40 (record { answered = 1; refused = 20 }))
    ≡ bytes "rule 1 stratum 10 idle\nrule 2 stratum 1 fired\nchange state-of-entry frozen\nchange x 1\nchange label before-1800\ncard 0CAF90\ntally 40 1 20\n"
unfolding printed rules_text rule_text fired_word changes_text change_text card_text tally_text hexadecimal decimal digits bytes bytes_from
page_of_changes = refl

page_of_refusal : printed (refusal 12 255) ≡ bytes "refused 12 255\n"
unfolding printed refusal_text decimal digits bytes bytes_from
page_of_refusal = refl

-- True, False and Unknown: the RL paper, section 6.1. AND and NOT are the cases themselves, in the section's order (document 02, section 5).
use Rattle.std.specs.Prelude.{ℕ, Bool, true, false}
use Rattle.truths.specs.declared.Truth3.{Truth3}
use Rattle.truths.specs.declared.Truth3.TheVariants.{True, False, Unknown}

infixl 35 ◌AND₃◌
-- A rule is 3-enabled if and only if all its preconditions are evaluated to be True, and 3-non-enabled if and only if one of them is evaluated to be False; there are intermediate cases when it is neither. For two preconditions:
-- [p AND q] is True if p and q are True;
-- [p AND q] is False if p or q is False;
-- [p AND q] is Unknown otherwise.
unfoldable pub ◌AND₃◌ : Truth3 → Truth3 → Truth3
True AND₃ True = True
True AND₃ False = False
True AND₃ Unknown = Unknown
False AND₃ True = False
False AND₃ False = False
False AND₃ Unknown = False
Unknown AND₃ True = Unknown
Unknown AND₃ False = False
Unknown AND₃ Unknown = Unknown

-- [NOT p] is True if p is False; [NOT p] is False if p is True;
-- all other primitive conditions are evaluated to Unknown.
unfoldable pub NOT₃ : Truth3 → Truth3
NOT₃ False = True
NOT₃ True = False
NOT₃ Unknown = Unknown

-- A truth value is True.
unfoldable pub is_true : Truth3 → Bool
is_true True = true
is_true False = false
is_true Unknown = false

-- A truth value is False.
unfoldable pub is_false : Truth3 → Bool
is_false True = false
is_false False = true
is_false Unknown = false

-- False, Unknown and True as 0, 1 and 2.
unfoldable pub number : Truth3 → ℕ
number False = 0
number Unknown = 1
number True = 2

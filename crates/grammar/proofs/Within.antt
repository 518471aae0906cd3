-- Of two readings, the one with the smaller limits is the other with two refusals more.
-- Assumes nothing.
use mathlib.Core.Path.{◌≡◌, refl, sym, subst, ◌∙◌}
use mathlib.Core.Bool.{Bool, true, false, cond}
use mathlib.Core.List.{List, [], ◌∷◌, ◌++◌}
use mathlib.Core.Logic.{◌⊎◌, inl, inr, ⊎_elim}
use Prim.Native.Nat.{ℕ, zero, suc, ◌+◌, ◌≤◌, ◌<◌}
use native.Mathlib.Omega.{arith}
use native.Mathlib.Nat.{le_of_suc-le-suc}
use lib.ListN.{length, length-append}
use borrow.Author.Tests.{le-leb, lt-leb}
use Rattle.laws.proofs.Truth.{le_or_lt}
use Rattle.laws.specs.Limits.{text_limit, slot_limit, rule_limit, program_text_limit, program_rule_limit}
use Rattle.model.specs.Rules.{Rule}
use Rattle.text.specs.Tokens.{Token, SLOT, WHEN, tokens}
use Rattle.table.specs.declared.Limits.{Limits}
use Rattle.table.specs.declared.Limits.TheVariants.{Library, Program}
use Rattle.grammar.specs.Files.{Slot, File}
use Rattle.grammar.specs.Reading.{Part, took, stop, Parsed, accepted, refused, expects, ◌then◌, begins_with, if_next, go_on, read_rule, read_line, read_rules, read_lines, read_tokens, parse_within, parse, parse_by, bytes_by, rules_by}
use Rattle.grammar.proofs.Backward.{refused_never}
use Rattle.grammar.proofs.Halting.{refused_same}
use Rattle.grammar.specs.Within.{RulesAtMost, Beyond, Smaller, too_long, too_many, the_same}

-- A reading came to at least so many rules.
abbrev AtLeast : ℕ → Parsed → Type 0
AtLeast least (accepted f) = least ≤ length f.rules
AtLeast least (refused k n) = least ≤ n

longer : (rs : List Rule) (r : Rule) → length (rs ++ r ∷ []) ≡ suc (length rs)
longer rs r = length-append rs (r ∷ []) ∙ omega arith

lower : (x : Parsed) (n m : ℕ) → n ≤ m → AtLeast m x → AtLeast n x
lower (accepted f) n m h a = omega arith
lower (refused k j) n m h a = omega arith

-- One that came to a rule more came beyond.
more_beyond : (x : Parsed) (n m : ℕ) → n < m → AtLeast m x → Beyond n x
more_beyond (accepted f) n m h a = omega arith
more_beyond (refused k j) n m h a = omega arith

on_grows : {A : Type 0} (n : ℕ) (p : Part A) (f : A → List Token → Parsed) → ((a : A) (ts : List Token) → AtLeast n (f a ts)) → AtLeast n (go_on n p f)
unfolding go_on
on_grows n (took a ts) f h = h a ts
on_grows n (stop k) f h = omega arith

-- What comes after some rules comes to at least as many.
grows : (room : ℕ) (slots : List Slot) (sofar : List Rule) (ts : List Token) → AtLeast (length sofar) (read_rules room slots sofar ts)
unfolding read_rules
grows zero slots sofar [] = omega arith
grows zero slots sofar (t ∷ ts) = on_grows (length sofar) (expects WHEN (t ∷ ts)) (λ u rest. refused 15 (length sofar)) (λ u rest. omega arith)
grows (suc room) slots sofar [] = omega arith
grows (suc room) slots sofar (t ∷ ts) =
    on_grows (length sofar) (read_rule slots (t ∷ ts)) (λ r rest. read_rules room slots (sofar ++ r ∷ []) rest)
    (λ r rest. lower (read_rules room slots (sofar ++ r ∷ []) rest) (length sofar) (length (sofar ++ r ∷ [])) (omega (arith, longer sofar r)) (grows room slots (sofar ++ r ∷ []) rest))

-- Two readings that agree up to a number of rules, or of which the first stops there with 15.
abbrev AgreeTo : ℕ → Parsed → Parsed → Type 0
AgreeTo most x y = ((x ≡ y) × RulesAtMost most y) ⊎ ((x ≡ refused 15 most) × Beyond most y)

-- They agree after a part that both read.
on_agree : {A : Type 0} (n most : ℕ) → n ≤ most → (p : Part A) (f g : A → List Token → Parsed) → ((a : A) (ts : List Token) → AgreeTo most (f a ts) (g a ts)) → AgreeTo most (go_on n p f) (go_on n p g)
unfolding go_on
on_agree n most l (took a ts) f g h = h a ts
on_agree n most l (stop k) f g h = inl (refl, l)

-- Where one may read no rule more, and the other may, both stop where no WHEN stands.
on_beyond : {A : Type 0} (n : ℕ) (p : Part A) (f : A → List Token → Parsed) → ((a : A) (ts : List Token) → Beyond n (f a ts)) → Beyond n (go_on n p f)
unfolding go_on
on_beyond n (took a ts) f h = h a ts
on_beyond n (stop k) f h = omega arith

when_agree : {A : Type 0} (n : ℕ) (p : Part (Unit {0})) (f : Unit {0} → List Token → Part A) (g : A → List Token → Parsed) → ((a : A) (ts : List Token) → Beyond n (g a ts))
    → AgreeTo n (go_on n p (λ u ts. refused 15 n)) (go_on n (p then f) g)
unfolding go_on ◌then◌
when_agree n (took u ts) f g h = inr (refl, on_beyond n (f u ts) g h)
when_agree n (stop k) f g h = inl (refl, omega arith)

-- Rules, where fewer and more may come after some.
rules_agree : (most more : ℕ) (slots : List Slot) (sofar : List Rule) (ts : List Token) → most ≤ more → AgreeTo (length sofar + most) (read_rules most slots sofar ts) (read_rules more slots sofar ts)
unfolding read_rules read_rule
rules_agree zero zero slots sofar [] h = inl (refl, omega arith)
rules_agree zero (suc more) slots sofar [] h = inl (refl, omega arith)
rules_agree (suc most) zero slots sofar ts h = absurd (omega arith)
rules_agree (suc most) (suc more) slots sofar [] h = inl (refl, omega arith)
rules_agree zero zero slots sofar (t ∷ ts) h =
    on_agree (length sofar) (length sofar + 0) (omega arith) (expects WHEN (t ∷ ts)) _ (λ u rest. refused 15 (length sofar)) (λ u rest. inl (refl, omega arith))
rules_agree zero (suc more) slots sofar (t ∷ ts) h =
    let e : length sofar ≡ length sofar + 0 = omega arith in
    subst (λ (n : ℕ). AgreeTo n (read_rules zero slots sofar (t ∷ ts)) (read_rules (suc more) slots sofar (t ∷ ts))) e
    (when_agree (length sofar) (expects WHEN (t ∷ ts)) _ (λ r rest. read_rules more slots (sofar ++ r ∷ []) rest)
    (λ r rest. more_beyond (read_rules more slots (sofar ++ r ∷ []) rest) (length sofar) (length (sofar ++ r ∷ [])) (omega (arith, longer sofar r)) (grows more slots (sofar ++ r ∷ []) rest)))
rules_agree (suc most) (suc more) slots sofar (t ∷ ts) h =
    on_agree (length sofar) (length sofar + suc most) (omega arith) (read_rule slots (t ∷ ts)) (λ r rest. read_rules most slots (sofar ++ r ∷ []) rest) (λ r rest. read_rules more slots (sofar ++ r ∷ []) rest)
    (λ r rest. let e : length (sofar ++ r ∷ []) + most ≡ length sofar + suc most = omega (arith, longer sofar r) in
    subst (λ (n : ℕ). AgreeTo n (read_rules most slots (sofar ++ r ∷ []) rest) (read_rules more slots (sofar ++ r ∷ []) rest)) e
    (rules_agree most more slots (sofar ++ r ∷ []) rest (le_of_suc-le-suc h)))

all_agree : (most more : ℕ) (slots : List Slot) (ts : List Token) → most ≤ more → AgreeTo most (read_rules most slots [] ts) (read_rules more slots [] ts)
all_agree most more slots ts h =
    let e : 0 + most ≡ most = omega arith in
    subst (λ (n : ℕ). AgreeTo n (read_rules most slots [] ts) (read_rules more slots [] ts)) e (rules_agree most more slots [] ts h)

-- The lines of slots before them are read by both.
next_agree : (most : ℕ) (b : Bool) (f f' g g' : List Token → Parsed) (ts : List Token) → AgreeTo most (f ts) (f' ts) → AgreeTo most (g ts) (g' ts)
    → AgreeTo most (cond {A = List Token → Parsed} b f g ts) (cond {A = List Token → Parsed} b f' g' ts)
next_agree most true f f' g g' ts x y = x
next_agree most false f f' g g' ts x y = y

lines_agree : (most more room : ℕ) (slots : List Slot) (ts : List Token) → most ≤ more → AgreeTo most (read_lines most room slots ts) (read_lines more room slots ts)
unfolding read_lines if_next
lines_agree most more zero slots ts h =
    next_agree most (begins_with SLOT ts) (λ next. refused 15 0) (λ next. refused 15 0) (read_rules most slots []) (read_rules more slots []) ts (inl (refl, omega arith)) (all_agree most more slots ts h)
lines_agree most more (suc room) slots ts h =
    next_agree most (begins_with SLOT ts) (λ next. go_on 0 (read_line slots next) (λ s rest. read_lines most room (slots ++ s ∷ []) rest)) (λ next. go_on 0 (read_line slots next) (λ s rest. read_lines more room (slots ++ s ∷ []) rest))
    (read_rules most slots []) (read_rules more slots []) ts
    (on_agree 0 most (omega arith) (read_line slots ts) _ _ (λ s rest. lines_agree most more room (slots ++ s ∷ []) rest h)) (all_agree most more slots ts h)

-- The law, of any two readings of which one takes fewer bytes and fewer rules.
pub smaller : (bytes most large more : ℕ) (text : List ℕ) → bytes ≤ large → most ≤ more → Smaller bytes most text (parse_within large more text) (parse_within bytes most text)
unfolding parse_within read_tokens
smaller bytes most large more text h l = ⊎_elim short long (le_or_lt (length text) bytes)
  where
    agreed : length text ≤ bytes → AgreeTo most (read_lines most slot_limit [] (tokens text)) (read_lines more slot_limit [] (tokens text))
        → Smaller bytes most text (read_lines more slot_limit [] (tokens text)) (read_lines most slot_limit [] (tokens text))
    agreed s (inl e) = rw e.0 (the_same s e.1)
    agreed s (inr e) = rw e.0 (too_many s e.1)

    short : length text ≤ bytes → Smaller bytes most text (parse_within large more text) (parse_within bytes most text)
    short s = rw (le-leb (length text) bytes s, le-leb (length text) large (omega arith)) (agreed s (lines_agree most more slot_limit [] (tokens text) l))

    long : bytes < length text → Smaller bytes most text (parse_within large more text) (parse_within bytes most text)
    long s = rw (lt-leb (length text) bytes s) (too_long s)

-- Of a text that is short enough: the same where the larger reading came to no rule too many, 15 where it came to more.
pub smaller_same : (bytes most : ℕ) (text : List ℕ) (larger y : Parsed) → length text ≤ bytes → (Beyond most larger → ⊥) → Smaller bytes most text larger y → y ≡ larger
smaller_same bytes most text larger y h n (too_long s) = absurd (let z = s in omega arith)
smaller_same bytes most text larger y h n (too_many s b) = absurd (n b)
smaller_same bytes most text larger y h n (the_same s a) = refl

pub smaller_many : (bytes most : ℕ) (text : List ℕ) (larger y : Parsed) → length text ≤ bytes → (RulesAtMost most larger → ⊥) → Smaller bytes most text larger y → y ≡ refused 15 most
smaller_many bytes most text larger y h n (too_long s) = absurd (let z = s in omega arith)
smaller_many bytes most text larger y h n (too_many s b) = refl
smaller_many bytes most text larger y h n (the_same s a) = absurd (n a)

pub smaller_either : (bytes most : ℕ) (text : List ℕ) (larger y : Parsed) → length text ≤ bytes → Smaller bytes most text larger y → (y ≡ larger) ⊎ (y ≡ refused 15 most)
smaller_either bytes most text larger y h (too_long s) = absurd (let z = s in omega arith)
smaller_either bytes most text larger y h (too_many s b) = inr refl
smaller_either bytes most text larger y h (the_same s a) = inl refl

-- One that is accepted with the smaller limits is with the larger, as the same file.
pub smaller_accepted : (bytes most large more : ℕ) (text : List ℕ) (f : File) → bytes ≤ large → most ≤ more → parse_within bytes most text ≡ accepted f → (parse_within large more text ≡ accepted f) × (length f.rules ≤ most)
smaller_accepted bytes most large more text f h l e = go (parse_within large more text) (parse_within bytes most text) refl e (smaller bytes most large more text h l)
  where
    go : (x y : Parsed) → parse_within large more text ≡ x → y ≡ accepted f → Smaller bytes most text x y → (parse_within large more text ≡ accepted f) × (length f.rules ≤ most)
    go x y p q (too_long s) = refused_never 10 0 f q
    go x y p q (too_many s b) = refused_never 15 most f q
    go x y p q (the_same s a) = (p ∙ q, subst (RulesAtMost most) q a)

-- One that is refused is refused with 10, with 15, or as with the larger.
smaller_refused : (bytes most large more : ℕ) (text : List ℕ) (k n : ℕ) → bytes ≤ large → most ≤ more → parse_within bytes most text ≡ refused k n → (k ≡ 10) ⊎ ((k ≡ 15) ⊎ (parse_within large more text ≡ refused k n))
smaller_refused bytes most large more text k n h l e = go (parse_within large more text) (parse_within bytes most text) refl e (smaller bytes most large more text h l)
  where
    go : (x y : Parsed) → parse_within large more text ≡ x → y ≡ refused k n → Smaller bytes most text x y → (k ≡ 10) ⊎ ((k ≡ 15) ⊎ (parse_within large more text ≡ refused k n))
    go x y p q (too_long s) = inl (sym (refused_same 10 0 k n q).0)
    go x y p q (too_many s b) = inr (inl (sym (refused_same 15 most k n q).0))
    go x y p q (the_same s a) = inr (inr (p ∙ q))

-- By the program's limits a text is accepted as the library accepts it, with no more rules than the program takes.
pub accepted_by : (l : Limits) (text : List ℕ) (f : File) → parse_by l text ≡ accepted f → (parse text ≡ accepted f) × (length f.rules ≤ rules_by l)
accepted_by Library text f = smaller_accepted text_limit rule_limit text_limit rule_limit text f (omega arith) (omega arith)
accepted_by Program text f = smaller_accepted program_text_limit program_rule_limit text_limit rule_limit text f (omega arith) (omega arith)

pub refused_by : (l : Limits) (text : List ℕ) (k n : ℕ) → parse_by l text ≡ refused k n → (k ≡ 10) ⊎ ((k ≡ 15) ⊎ (parse text ≡ refused k n))
refused_by Library text k n = smaller_refused text_limit rule_limit text_limit rule_limit text k n (omega arith) (omega arith)
refused_by Program text k n = smaller_refused program_text_limit program_rule_limit text_limit rule_limit text k n (omega arith) (omega arith)

-- No limits are above the library's.
pub rules_low : (l : Limits) → rules_by l ≤ rule_limit
rules_low Library = omega arith
rules_low Program = omega arith

pub bytes_low : (l : Limits) → bytes_by l ≤ text_limit
bytes_low Library = omega arith
bytes_low Program = omega arith

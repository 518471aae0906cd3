-- The steps of the reading of a slot line.
-- Assumes nothing.
use Prim.Native.Nat.{ℕ, zero, suc, ◌+◌, ◌-◌, ◌≤◌, ◌<◌}
use native.Mathlib.Omega.{arith}
use mathlib.Core.Path.{◌≡◌, refl, ap, ◌∙◌}
use mathlib.Core.List.{List, [], ◌∷◌, ◌++◌}
use lib.ListN.{length, take, drop, set, length-drop}
use lib.Seq.{take_all, drop-drop}
use Rattle.text.specs.Tokens.{Name, Token, place, SLOT, OPEN, CLOSE, COMMA, SEMICOLON}
use Rattle.laws.specs.Limits.{text_limit, value_limit}
use Rattle.grammar.specs.Files.{Slot, spellings, slot_names}
use Rattle.grammar.specs.Reading.{Part, took, stop, ◌then◌, expects, a_name, new, new_name, no_value, read_list, read_values, read_line}
use Rattle.steps.specs.inner.Places.{Choice, which}
use Rattle.lines.specs.inner.Index.{span_name, span_names}
use Rattle.lines.specs.inner.Lines.{read_head, ValuesLie}
use Rattle.lines.specs.inner.Remainder.{Remainder}
use Rattle.steps.proofs.Places.{follow, fork_which}
use Rattle.lines.proofs.Index.{names_more}

-- A name to be declared: none there, one that is declared already, one that is new.
pub new_none : (names : List Name) (ts : List Token) (k : ℕ) → a_name ts ≡ stop k → new_name names ts ≡ stop k
unfolding new_name ◌then◌
new_none names ts k e = rw e

pub new_taken : (names : List Name) (ts left : List Token) (n : Name) (p : ℕ) → a_name ts ≡ took n left → suc p ≡ place n.letters (spellings names) → new_name names ts ≡ stop 14
unfolding new_name ◌then◌ new
new_taken names ts left n p e f = rw (e, ← f)

pub new_free : (names : List Name) (ts left : List Token) (n : Name) → a_name ts ≡ took n left → 0 ≡ place n.letters (spellings names) → new_name names ts ≡ took n left
unfolding new_name ◌then◌ new
new_free names ts left n e f = rw (e, ← f)

-- The values, where `room` more may come: no new name; one too many; one more, and what follows it.
pub values_fault : (room : ℕ) (sofar : List Name) (ts : List Token) (k : ℕ) → new_name sofar ts ≡ stop k → read_values room sofar ts ≡ stop k
unfolding read_values read_list no_value ◌then◌
values_fault zero sofar ts k e = rw e
values_fault (suc room) sofar ts k e = rw e

pub values_full : (room : ℕ) (sofar : List Name) (ts left : List Token) (n : Name) → room ≡ 0 → new_name sofar ts ≡ took n left → read_values room sofar ts ≡ stop 15
unfolding read_values read_list no_value ◌then◌
values_full room sofar ts left n z e = rw (z, e)

pub values_on : (room more : ℕ) (sofar : List Name) (ts left : List Token) (n : Name) (c : Choice) → room ≡ suc more → new_name sofar ts ≡ took n left → which COMMA CLOSE left ≡ c
    → read_values room sofar ts ≡ follow (λ rest. read_values more (sofar ++ n ∷ []) rest) (took (sofar ++ n ∷ [])) c
unfolding read_values read_list ◌then◌
values_on room more sofar ts left n c z e w =
    rw (z, e) (fork_which COMMA CLOSE (λ rest. read_values more (sofar ++ n ∷ []) rest) (took (sofar ++ n ∷ [])) left
    ∙ ap (follow (λ rest. read_values more (sofar ++ n ∷ []) rest) (took (sofar ++ n ∷ []))) w)

-- The same with the values so far by their spans.
pub values_step : (text spans : List ℕ) (count k : ℕ) (ts left : List Token) (c : Choice) → ValuesLie text spans count → count < value_limit
    → new_name (span_names text spans count) ts ≡ took (span_name text k) left → which COMMA CLOSE left ≡ c
    → read_values (value_limit - count) (span_names text spans count) ts
    ≡ follow (λ rest. read_values (value_limit - (count + 1)) (span_names text (set spans count k) (count + 1)) rest) (took (span_names text (set spans count k) (count + 1))) c
values_step text spans count k ts left c L h e w =
    let p = L.places in
    rw (names_more text spans count k (omega arith)) (values_on (value_limit - count) (value_limit - (count + 1)) (span_names text spans count) ts left (span_name text k) c (omega arith) e w)

-- A slot line from after SLOT up to its `{`.
pub head_name : (slots : List Slot) (ts : List Token) (k : ℕ) → new_name (slot_names slots) ts ≡ stop k → read_head slots ts ≡ stop k
unfolding read_head ◌then◌
head_name slots ts k e = rw e

pub head_open : (slots : List Slot) (ts t1 : List Token) (n : Name) (k : ℕ) → new_name (slot_names slots) ts ≡ took n t1 → expects OPEN t1 ≡ stop k → read_head slots ts ≡ stop k
unfolding read_head ◌then◌
head_open slots ts t1 n k e f = rw (e, f)

pub head_read : (slots : List Slot) (ts t1 t2 : List Token) (n : Name) → new_name (slot_names slots) ts ≡ took n t1 → expects OPEN t1 ≡ took tt t2 → read_head slots ts ≡ took n t2
unfolding read_head ◌then◌
head_read slots ts t1 t2 n e f = rw (e, f)

-- What follows it.
unfoldable values_then : Name → List Token → Part Slot
values_then n ts =
    read_values value_limit [] ts then λ vs rest.
    expects SEMICOLON rest then λ u left.
    took (record { name = n; values = vs }) left

line_then : (slots : List Slot) (ts begin : List Token) → expects SLOT ts ≡ took tt begin → read_line slots ts ≡ (read_head slots begin then values_then)
unfolding read_line read_head ◌then◌ values_then
line_then slots ts begin e = rw e (first (new_name (slot_names slots) begin))
  where
    second : (m : Part (Unit {0})) (n : Name)
        → (m then λ u t3. read_values value_limit [] t3 then λ vs t4. expects SEMICOLON t4 then λ w t5. took (record { name = n; values = vs }) t5)
        ≡ ((m then λ u t3. took n t3) then values_then)
    second (took u t3) n = refl
    second (stop k) n = refl

    first : (m : Part Name)
        → (m then λ n t2. expects OPEN t2 then λ u t3. read_values value_limit [] t3 then λ vs t4. expects SEMICOLON t4 then λ w t5. took (record { name = n; values = vs }) t5)
        ≡ ((m then λ n t2. expects OPEN t2 then λ u t3. took n t3) then values_then)
    first (took n t2) = second (expects OPEN t2) n
    first (stop k) = refl

-- A slot line after its SLOT: no `name {`; no values; and what stands after them.
pub line_head : (slots : List Slot) (ts begin : List Token) (k : ℕ) → expects SLOT ts ≡ took tt begin → read_head slots begin ≡ stop k → read_line slots ts ≡ stop k
unfolding ◌then◌
line_head slots ts begin k w e = line_then slots ts begin w ∙ rw e

pub line_values : (slots : List Slot) (ts begin left : List Token) (n : Name) (k : ℕ) → expects SLOT ts ≡ took tt begin → read_head slots begin ≡ took n left → read_values value_limit [] left ≡ stop k
    → read_line slots ts ≡ stop k
unfolding ◌then◌ values_then
line_values slots ts begin left n k w e f = line_then slots ts begin w ∙ rw (e, f)

pub line_stop : (slots : List Slot) (ts begin left more : List Token) (n : Name) (vs : List Name) (k : ℕ)
    → expects SLOT ts ≡ took tt begin → read_head slots begin ≡ took n left → read_values value_limit [] left ≡ took vs more → expects SEMICOLON more ≡ stop k
    → read_line slots ts ≡ stop k
unfolding ◌then◌ values_then
line_stop slots ts begin left more n vs k w e f g = line_then slots ts begin w ∙ rw (e, f, g)

pub line_end : (slots : List Slot) (ts begin left more last : List Token) (n : Name) (vs : List Name)
    → expects SLOT ts ≡ took tt begin → read_head slots begin ≡ took n left → read_values value_limit [] left ≡ took vs more → expects SEMICOLON more ≡ took tt last
    → read_line slots ts ≡ took (record { name = n; values = vs }) last
unfolding ◌then◌ values_then
line_end slots ts begin left more last n vs w e f g = line_then slots ts begin w ∙ rw (e, f, g)

-- The whole text is its own remainder; and the remainder after a step.
pub remainder_whole : (text : List ℕ) → length text ≤ text_limit → Remainder text text 0
remainder_whole text h = record { begins = refl; short = h }

pub remainder_next : (text rest : List ℕ) (base next : ℕ) → Remainder text rest base → Remainder text (take (length rest - next) (drop next rest)) (base + next)
remainder_next text rest base next R =
    let h : length (drop next rest) ≤ length rest - next = simp length-drop (omega arith) in
    record { begins = take_all (length rest - next) (drop next rest) h ∙ ap (drop next) R.begins ∙ drop-drop next base text; short = R.short }

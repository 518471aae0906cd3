-- Looking a name up among spans.
-- Assumes nothing.
use Prim.Native.Nat.{ℕ, zero, suc, ◌+◌, ◌≤◌, ◌<◌}
use native.Mathlib.Omega.{arith}
use native.Mathlib.Numerals.{add-one}
use mathlib.Core.Path.{◌≡◌, refl, sym, ap, ap₂, ◌∙◌}
use mathlib.Core.Bool.{Bool, true, false}
use mathlib.Core.List.{List, [], ◌∷◌}
use lib.ListN.{length, drop, get_or, drop_of_length-le}
use lib.Seq.{drop-cons}
use Rattle.text.specs.Tokens.{Name, Token, word, NONE, same_letters, place}
use Rattle.text.specs.declared.Token as code
use Rattle.text.specs.declared.Token.TheVariants as v
use Rattle.grammar.specs.Files.{Slot, spellings, place_in, slot_names, values_of}
use Rattle.grammar.specs.Reading.{Part, took, stop, ◌then◌, a_name, if_next, known_value, known_slot, read_slot, read_place, read_value}
use Rattle.text.proofs.Covering.{same_letters_eq}
use Rattle.text.proofs.Steps.{counted, place_counted}
use Rattle.steps.specs.inner.Spans.{key_of, span_letters, SpanLies, Listed, place_part, number_part}
use Rattle.steps.specs.inner.Places.{shown_past}
use Rattle.std.specs.Prelude.{Result, Ok, Err}
use Rattle.text.specs.declared.Word.TheVariants as w
use Rattle.steps.specs.declared.step.Fault.{Fault}
use Rattle.steps.specs.declared.step.Read.{Read}
use Rattle.steps.proofs.Places.{other_number}

-- The empty name has key 0.
pub key_empty : (n : List ℕ) → length n ≡ 0 → 0 ≡ key_of n
unfolding key_of
key_empty [] e = refl
key_empty (x ∷ xs) e = absurd (omega (arith, e))

-- Names with other keys are other names.
pub key_other : (a b : List ℕ) → (key_of b ≡ key_of a → ⊥) → same_letters a b ≡ false
key_other a b n = go (same_letters a b) refl
  where
    go : (t : Bool) → same_letters a b ≡ t → same_letters a b ≡ false
    go true e = absurd (n (ap key_of (sym (same_letters_eq a b e))))
    go false e = e

-- After `i` spans without the name, its place is its place among the names that are left, counted on.
pub record Left (text spans letters : List ℕ) (names : List (List ℕ)) (i : ℕ) : Type 0 where
  pub rest : List (List ℕ)
  pub listed : Listed text (drop i spans) rest
  pub same : counted (suc i) letters rest ≡ place letters names

pub left_start : (text spans letters : List ℕ) (names : List (List ℕ)) → Listed text spans names → Left text spans letters names 0
left_start text spans letters names l = record { rest = names; listed = l; same = sym (place_counted letters names) }

-- Where no span is left, or the next is 0, the name has no place.
none_left : (text letters : List ℕ) (i : ℕ) (rest : List (List ℕ)) → Listed text [] rest → counted i letters rest ≡ 0
none_left text letters i [] l = refl
none_left text letters i (n ∷ ns) l = absurd l

pub left_end : (text spans letters : List ℕ) (names : List (List ℕ)) (i : ℕ) → Left text spans letters names i → length spans ≤ i → 0 ≡ place letters names
left_end text spans letters names i L h =
    sym (none_left text letters (suc i) L.rest (rw (drop_of_length-le spans h) at L.listed)) ∙ L.same

none_here : (text letters : List ℕ) (i k : ℕ) (ks : List ℕ) (rest : List (List ℕ)) → k ≡ 0 → Listed text (k ∷ ks) rest → counted i letters rest ≡ 0
none_here text letters i k ks [] e l = refl
none_here text letters i k ks (n ∷ ns) e l = absurd (omega (arith, l.0))

pub left_zero : (text spans letters : List ℕ) (names : List (List ℕ)) (i : ℕ) → Left text spans letters names i → i < length spans → get_or spans i 0 ≡ 0 → 0 ≡ place letters names
left_zero text spans letters names i L h e =
    sym (none_here text letters (suc i) (get_or spans i 0) (drop (suc i) spans) L.rest e (rw (drop-cons spans i 0 h) at L.listed)) ∙ L.same

-- What is known of a span that is not 0: the name there is found, or the names go on.
next_here : (text letters : List ℕ) (i k : ℕ) (ks : List ℕ) (rest : List (List ℕ)) (b : Bool) → (k ≡ 0 → ⊥) → Listed text (k ∷ ks) rest
    → (SpanLies text k → b ≡ same_letters letters (span_letters text k))
    → (b ≡ true → counted i letters rest ≡ i) × (b ≡ false → (more : List (List ℕ)) × Listed text ks more × (counted (suc i) letters more ≡ counted i letters rest))
next_here text letters i k ks [] b z l f = absurd (z l)
next_here text letters i k ks (n ∷ ns) b z l f =
    let e : same_letters letters n ≡ b = sym (f l.1 ∙ ap (same_letters letters) l.2) in
    (λ t. rw (e, t), λ t. (ns, l.3, rw (e, t)))

-- Where the name stands there, that is its place; where another does, the names go on.
pub left_found : (text spans letters : List ℕ) (names : List (List ℕ)) (i : ℕ) (b : Bool) → Left text spans letters names i → i < length spans → (get_or spans i 0 ≡ 0 → ⊥)
    → (SpanLies text (get_or spans i 0) → b ≡ same_letters letters (span_letters text (get_or spans i 0))) → b ≡ true → i + 1 ≡ place letters names
left_found text spans letters names i b L h z f t =
    let n = next_here text letters (suc i) (get_or spans i 0) (drop (suc i) spans) L.rest b z (rw (drop-cons spans i 0 h) at L.listed) f in
    add-one i ∙ sym (n.0 t) ∙ L.same

pub left_next : (text spans letters : List ℕ) (names : List (List ℕ)) (i : ℕ) (b : Bool) → Left text spans letters names i → i < length spans → (get_or spans i 0 ≡ 0 → ⊥)
    → (SpanLies text (get_or spans i 0) → b ≡ same_letters letters (span_letters text (get_or spans i 0))) → b ≡ false → Left text spans letters names (i + 1)
left_next text spans letters names i b L h z f t =
    let n = next_here text letters (suc i) (get_or spans i 0) (drop (suc i) spans) L.rest b z (rw (drop-cons spans i 0 h) at L.listed) f in
    let m = n.1 t in
    record { rest = m.0; listed = rw (add-one i) m.1; same = rw (add-one i) (m.2 ∙ L.same) }

-- A name read and looked up.
pub place_none : (names : List Name) (ts : List Token) (k : ℕ) → a_name ts ≡ stop k → read_place names ts ≡ stop k
unfolding read_place ◌then◌
place_none names ts k e = rw e

pub place_lacking : (names : List Name) (ts left : List Token) (n : Name) (p : ℕ) → a_name ts ≡ took n left → p ≡ place n.letters (spellings names) → p ≡ 0 → read_place names ts ≡ stop 16
unfolding read_place ◌then◌ known_value
place_lacking names ts left n p e f z = rw (e, ← f, z)

pub place_found : (names : List Name) (ts left : List Token) (n : Name) (p : ℕ) → a_name ts ≡ took n left → p ≡ place n.letters (spellings names) → (p ≡ 0 → ⊥) → read_place names ts ≡ took p left
unfolding read_place ◌then◌ known_value
place_found names ts left n zero e f z = absurd (z refl)
place_found names ts left n (suc p) e f z = rw (e, ← f)

-- A slot's number is its name's place less one.
slot_then : (m : Part Name) (names : List Name) (n : ℕ) (left : List Token) → (m then λ x rest. known_value (place_in names x) rest) ≡ took (suc n) left
    → (m then λ x rest. known_slot (place_in names x) rest) ≡ took n left
unfolding ◌then◌ known_value known_slot
slot_then (took x rest) names n left e = go (place_in names x) e
  where
    go : (p : ℕ) → known_value p rest ≡ took (suc n) left → known_slot p rest ≡ took n left
    go zero f = absurd (let z : ◌≡◌ {A = ℕ} 0 1 = cc in omega arith)
    go (suc p) f = let z : suc p ≡ suc n = cc in let y : rest ≡ left = cc in let w : p ≡ n = omega arith in ap₂ took w y
slot_then (stop k) names n left e = absurd (let z : ◌≡◌ {A = ℕ} 0 1 = cc in omega arith)

slot_stop : (m : Part Name) (names : List Name) (k : ℕ) → (m then λ x rest. known_value (place_in names x) rest) ≡ stop k
    → (m then λ x rest. known_slot (place_in names x) rest) ≡ stop k
unfolding ◌then◌ known_value known_slot
slot_stop (took x rest) names k e = go (place_in names x) e
  where
    go : (p : ℕ) → known_value p rest ≡ stop k → known_slot p rest ≡ stop k
    go zero f = f
    go (suc p) f = absurd (let z : ◌≡◌ {A = ℕ} 0 1 = cc in omega arith)
slot_stop (stop j) names k e = e

pub slot_part : (slots : List Slot) (ts : List Token) (rest : List ℕ) (base : ℕ) (r : Result (Read ℕ) Fault) → read_place (slot_names slots) ts ≡ place_part rest base r → read_slot slots ts ≡ number_part rest base r
unfolding read_place read_slot
slot_part slots ts rest base (Ok r) e = slot_then (a_name ts) (slot_names slots) r.value _ e
slot_part slots ts rest base (Err k) e = slot_stop (a_name ts) (slot_names slots) _ e

-- A value where NONE stands is taken for 0.
pub none_taken : (slots : List Slot) (s : ℕ) (ts : List Token) → read_value slots s (word NONE ∷ ts) ≡ took 0 ts
unfolding read_value if_next
none_taken slots s ts = refl

-- Where another token stands, a value is read by its name.
pub value_by_name : (slots : List Slot) (s : ℕ) (rest : List ℕ) (base : ℕ) (t : code.Token) (ts : List Token) → (t ≡ v.Word w.None → ⊥)
    → read_value slots s (shown_past rest base t ts) ≡ read_place (values_of slots s) (shown_past rest base t ts)
unfolding read_value if_next
value_by_name slots s rest base v.End ts h = refl
value_by_name slots s rest base (v.Word u) ts h = rw (other_number u w.None h)
value_by_name slots s rest base (v.Name n) ts h = refl
value_by_name slots s rest base v.Long ts h = refl
value_by_name slots s rest base v.Bad ts h = refl

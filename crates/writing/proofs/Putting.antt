-- Bytes put into an output one part after the other.
-- Assumes nothing.
use Prim.Native.Nat.{ℕ, suc, ◌+◌, ◌≤◌, ◌<◌}
use native.Mathlib.Omega.{arith}
use mathlib.Core.Path.{◌≡◌, refl, sym, ap, subst, ◌∙◌}
use mathlib.Core.List.{List, [], ◌∷◌, ◌++◌, append_assoc}
use lib.ListN.{length, get_or, set, take, drop, length-append, length-drop, take-append-drop}
use lib.Seq.{length-take-le, take_at, drop_at, drop-drop, drop-cons, set_at}
use Rattle.writing.specs.inner.Puts.{longest, put_in, Puts, PutsOn}
use Rattle.writing.specs.declared.sheet.Sheet.{Sheet}

-- No bytes change nothing.
pub put_none : (out : List ℕ) (at : ℕ) → put_in out at [] ≡ out
unfolding put_in
put_none out at = let z : at + 0 ≡ at = omega arith in rw z (take-append-drop at out)

-- At the front they are followed by what stood beyond them.
pub put_front : (out b : List ℕ) → put_in out 0 b ≡ b ++ drop (length b) out
unfolding put_in
put_front out b = let z : 0 + length b ≡ length b = omega arith in rw z

put_parts : (out : List ℕ) (at : ℕ) (b : List ℕ) → at + length b ≤ length out
    → (take (at + length b) (put_in out at b) ≡ take at out ++ b) × (drop (at + length b) (put_in out at b) ≡ drop (at + length b) out)
unfolding put_in
put_parts out at b h =
    let l : length (take at out ++ b) ≡ at + length b = let k = length-append (take at out) b in let j = length-take-le at out (omega arith) in omega arith in (
      rw (← append_assoc (take at out) b (drop (at + length b) out)) (take_at (take at out ++ b) (drop (at + length b) out) (at + length b) l),
      rw (← append_assoc (take at out) b (drop (at + length b) out)) (drop_at (take at out ++ b) (drop (at + length b) out) (at + length b) l),
    )

-- The output stays as long as it was.
pub put_length : (out : List ℕ) (at : ℕ) (b : List ℕ) → at + length b ≤ length out → length (put_in out at b) ≡ length out
unfolding put_in
put_length out at b h =
    let k = length-append (take at out) (b ++ drop (at + length b) out) in
    let i = length-append b (drop (at + length b) out) in
    let j = length-take-le at out (omega arith) in
    let d = length-drop (at + length b) out in
    omega arith

put_as : (out : List ℕ) (at : ℕ) (b front rest : List ℕ) → take at out ≡ front → drop (at + length b) out ≡ rest → put_in out at b ≡ front ++ (b ++ rest)
unfolding put_in
put_as out at b front rest e d = rw (e, d)

-- TWO PARTS PUT ONE AFTER THE OTHER are one.
pub put_on : (out : List ℕ) (at : ℕ) (a b : List ℕ) → at + length a ≤ length out → put_in (put_in out at a) (at + length a) b ≡ put_in out at (a ++ b)
put_on out at a b h =
    let p = put_parts out at a h in
    let z : at + length (a ++ b) ≡ at + length a + length b = let k = length-append a b in omega arith in
    put_as (put_in out at a) (at + length a) b (take at out ++ a) (drop (at + length a + length b) out) p.0
    (sym (drop-drop (length b) (at + length a) (put_in out at a)) ∙ ap (drop (length b)) p.1 ∙ drop-drop (length b) (at + length a) out)
    ∙ append_assoc (take at out) a (b ++ drop (at + length a + length b) out)
    ∙ ap (λ (y : List ℕ). take at out ++ y) (sym (append_assoc a b (drop (at + length a + length b) out)))
    ∙ sym (put_as out at (a ++ b) (take at out) (drop (at + length a + length b) out) refl (ap (λ (k : ℕ). drop k out) z))

-- A byte put after a part.
pub put_byte : (out : List ℕ) (at : ℕ) (a : List ℕ) (x : ℕ) → at + length a < length out → set (put_in out at a) (at + length a) x ≡ put_in out at (a ++ x ∷ [])
put_byte out at a x h =
    let l : length (take at out ++ a) ≡ at + length a = let k = length-append (take at out) a in let j = length-take-le at out (omega arith) in omega arith in
    let z : at + length (a ++ x ∷ []) ≡ suc (at + length a) = let k = length-append a (x ∷ []) in omega arith in
    ap (λ (o : List ℕ). set o (at + length a) x)
    (put_as out at a (take at out) (get_or out (at + length a) 0 ∷ drop (suc (at + length a)) out) refl (drop-cons out (at + length a) 0 h)
    ∙ sym (append_assoc (take at out) a (get_or out (at + length a) 0 ∷ drop (suc (at + length a)) out)))
    ∙ set_at (take at out ++ a) (get_or out (at + length a) 0) (drop (suc (at + length a)) out) x (at + length a) l
    ∙ append_assoc (take at out) a (x ∷ drop (suc (at + length a)) out)
    ∙ ap (λ (y : List ℕ). take at out ++ y) (sym (append_assoc a (x ∷ []) (drop (suc (at + length a)) out)))
    ∙ sym (put_as out at (a ++ x ∷ []) (take at out) (drop (suc (at + length a)) out) refl (ap (λ (k : ℕ). drop k out) z))

-- No bytes put.
pub puts_none : (s : Sheet) → PutsOn s [] s
puts_none s = record { same_output = refl; puts = record { ends = omega arith; same_length = refl; there = λ h. sym (put_none s.out.now s.at) } }

-- Bytes put, and then others after them.
pub puts_on : {s s1 s2 : Sheet} {a b : List ℕ} → PutsOn s a s1 → PutsOn s1 b s2 → PutsOn s (a ++ b) s2
puts_on {s} {s1} {s2} {a} {b} p q =
    let l = length-append a b in
    let e = p.puts.ends in
    let f = q.puts.ends in
    let k = p.puts.same_length in
    record {
      same_output = q.same_output ∙ p.same_output;
      puts = record {
        ends = omega arith;
        same_length = q.puts.same_length ∙ k;
        there = λ h. q.puts.there (omega arith) ∙ rw (e, p.puts.there (omega arith)) (put_on s.out.now s.at a b (omega arith));
      };
    }

-- The same bytes said otherwise.
pub puts_as : {s s1 : Sheet} {a b : List ℕ} → a ≡ b → PutsOn s a s1 → PutsOn s b s1
puts_as {s} {s1} e p = subst (λ (ys : List ℕ). PutsOn s ys s1) e p

-- What a sheet leaves in its output.
pub puts_in : {s s1 : Sheet} {ys out : List ℕ} → PutsOn s ys s1 → out ≡ s1.out.now → Puts s.out.now s.at ys out s1.at
puts_in p e = rw e p.puts

-- What has room for two parts has room for the first, and then for the second.
pub room_first : (at : ℕ) (a b : List ℕ) {n : ℕ} → at + length (a ++ b) ≤ n → at + length a ≤ n
room_first at a b h = let l = length-append a b in omega arith

pub room_rest : {s s1 : Sheet} {a : List ℕ} (b : List ℕ) {n : ℕ} → PutsOn s a s1 → s.at + length (a ++ b) ≤ n → s1.at + length b ≤ n
room_rest {s} {s1} {a} b p h = let l = length-append a b in let e = p.puts.ends in omega arith

-- What is left to put: whoever puts `rest` on the sheet `now` has put `whole` on the sheet `first`; and there is room for it.
pub record Left (first : Sheet) (whole : List ℕ) (now : Sheet) (rest : List ℕ) : Type 0 where
  pub on : {after : Sheet} → PutsOn now rest after → PutsOn first whole after
  pub room : now.at + length rest ≤ longest

-- At first all is left.
pub left_start : (s : Sheet) (whole : List ℕ) → s.at + length whole ≤ longest → Left s whole s whole
left_start s whole h = record { on = λ p. p; room = h }

-- A part is put, and the others are left.
pub left_on : {first s s1 : Sheet} {whole part : List ℕ} (rest : List ℕ) → Left first whole s (part ++ rest) → PutsOn s part s1 → Left first whole s1 rest
left_on rest l p = record { on = λ q. l.on (puts_on p q); room = room_rest rest p l.room }

-- There is room for the next part.
pub left_room : {first s : Sheet} {whole : List ℕ} (part rest : List ℕ) → Left first whole s (part ++ rest) → s.at + length part ≤ longest
left_room {s = s} part rest l = room_first s.at part rest l.room

-- The same said otherwise.
pub left_as : {first s : Sheet} {whole a b : List ℕ} → a ≡ b → Left first whole s a → Left first whole s b
left_as {first} {s} {whole} e l = subst (λ (ys : List ℕ). Left first whole s ys) e l

-- Nothing is left.
pub left_end : {first s : Sheet} {whole : List ℕ} → Left first whole s [] → PutsOn first whole s
left_end {s = s} l = l.on (puts_none s)

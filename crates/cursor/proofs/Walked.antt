-- The reader and the tokens of the text: what is peeked while advancing from the start is each token of the text in its turn.
-- Assumes nothing.
use Prim.Native.Nat.{ℕ, zero, suc, ◌+◌, ◌≤◌}
use native.Mathlib.Omega.{arith}
use mathlib.Core.Path.{◌≡◌, refl, sym, ap, ◌∙◌}
use mathlib.Core.List.{List, []}
use lib.ListN.{length, take, drop, length-drop, drop_of_length-le}
use lib.Seq.{length-take-le}
use denote.Ref.{Bor}
use Rattle.text.specs.Tokens.{Token, tokens_from, tokens}
use Rattle.text.specs.Next.{tokens_at, shown, Lies}
use Rattle.text.specs.declared.Token as code
use Rattle.text.specs.declared.Token.TheVariants as v
use Rattle.text.proofs.Numbers.{word_numbered}
use Rattle.text.proofs.Position.{tokens_next, next_lies}
use Rattle.cursor.specs.Readers.{at_start, peeked, advanced, advanced_by, nth_token}
use Rattle.cursor.specs.declared.Reader.{Reader}

-- A stretch inside a text has its length.
stretch_length : (s : List ℕ) (at len next : ℕ) → at + len ≡ next → next ≤ length s → length (take len (drop at s)) ≡ len
stretch_length s at len next e h = let l = length-drop at s in length-take-le len (drop at s) (omega arith)

-- Past the text there are no tokens.
tokens_over : (s : List ℕ) (at : ℕ) → length s ≤ at → tokens_at s at ≡ []
unfolding tokens_at tokens_from
tokens_over s at h = rw (drop_of_length-le s h)

-- A token shown before others is the first of them.
shown_first : (s : List ℕ) (from next : ℕ) (t : code.Token) (ts : List Token) → Lies (length s) from t next → nth_token (shown s t ts) 0 ≡ t
shown_first s from next v.End ts h = refl
shown_first s from next (v.Word w) ts h = ap v.Word (word_numbered w)
shown_first s from next (v.Name m) ts h = ap (λ (k : ℕ). v.Name (record { start = m.start; size = k })) (stretch_length s m.start m.size next h.3 h.4)
shown_first s from next v.Long ts h = refl
shown_first s from next v.Bad ts h = refl

-- The others follow it.
shown_rest : (s : List ℕ) (from next : ℕ) (t : code.Token) (n : ℕ) → Lies (length s) from t next → nth_token (shown s t (tokens_at s next)) (suc n) ≡ nth_token (tokens_at s next) n
shown_rest s from next v.End n h = rw (tokens_over s next h.1)
shown_rest s from next (v.Word w) n h = refl
shown_rest s from next (v.Name m) n h = refl
shown_rest s from next v.Long n h = refl
shown_rest s from next v.Bad n h = refl

-- After `n` steps from any position the reader is at the token with number `n` of those from there on.
pub nth_walked : (n : ℕ) (r : Reader) → (peeked (advanced_by n r)).token ≡ nth_token (tokens_at r.text.now r.at) n
nth_walked zero r =
    let s : List ℕ = r.text.now in
    sym (ap (λ (ts : List Token). nth_token ts 0) (tokens_next s r.at) ∙ shown_first s r.at _ (peeked r).token _ (next_lies s r.at))
nth_walked (suc n) r =
    let s : List ℕ = r.text.now in
    nth_walked n (advanced r) ∙ sym (ap (λ (ts : List Token). nth_token ts (suc n)) (tokens_next s r.at) ∙ shown_rest s r.at _ (peeked r).token n (next_lies s r.at))

-- THE TOKENS ONE AFTER THE OTHER: peeking after `n` steps from the start of a text gives the token of the text with number `n`, and the end where there is none.
pub tokens_walked : (text : Bor (List ℕ)) (n : ℕ) → (peeked (advanced_by n (at_start text))).token ≡ nth_token (tokens text.now) n
unfolding tokens tokens_at
tokens_walked text n = nth_walked n (at_start text)

-- The reader keeps its text.
pub text_kept : (n : ℕ) (r : Reader) → (advanced_by n r).text ≡ r.text
text_kept zero r = refl
text_kept (suc n) r = text_kept n (advanced r)

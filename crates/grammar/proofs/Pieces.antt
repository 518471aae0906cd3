-- Laws of texts cut after each `;`.
-- Assumes nothing.
use Prim.Native.Nat.{ℕ, suc, ◌+◌}
use native.Mathlib.Omega.{arith}
use mathlib.Core.Path.{◌≡◌, refl, sym, ap, ap₂, ◌∙◌}
use mathlib.Core.Bool.{Bool, true, false, cond}
use mathlib.Core.List.{List, [], ◌∷◌, ◌++◌}
use lib.Dec.{eqb}
use lib.ListN.{length, length-append}
use borrow.Author.Tests.{eqb-true}
use Rattle.laws.specs.Rearranged.{Perm, p_nil, p_skip, p_swap, p_trans}
use Rattle.text.specs.Tokens.{word, SEMICOLON, tokens_from}
use Rattle.text.specs.Cut.{NoSemi}
use Rattle.text.proofs.Cut.{tokens_cut}
use Rattle.grammar.specs.Pieces.{lengthened, pieces, kept, tail_piece, joined}

-- No piece has a `;` in it.
abbrev pub Plain : List (List ℕ) → Type 0
Plain [] = Unit
Plain (b ∷ bs) = NoSemi b × Plain bs

-- Cutting loses nothing.
pub cut_joined : (t : List ℕ) → joined (pieces t) (tail_piece t) ≡ t
unfolding pieces tail_piece
cut_joined [] = refl
cut_joined (x ∷ xs) = go (eqb x 59) (λ e. eqb-true x 59 e) (pieces xs) (tail_piece xs) (cut_joined xs)
  where
    go : (c : Bool) → (c ≡ true → x ≡ 59) → (ps : List (List ℕ)) (w : List ℕ) → joined ps w ≡ xs → joined (cond c ([] ∷ ps) (lengthened x ps)) (cond c w (kept ps x w)) ≡ x ∷ xs
    go true h ps w e = ap₂ (λ (y : ℕ) (ys : List ℕ). y ∷ ys) (sym (h refl)) e
    go false h [] w e = ap (λ (ys : List ℕ). x ∷ ys) e
    go false h (b ∷ ps) w e = ap (λ (ys : List ℕ). x ∷ ys) e

-- It leaves no `;` in a piece.
pub pieces_plain : (t : List ℕ) → Plain (pieces t)
unfolding pieces
pieces_plain [] = tt
pieces_plain (x ∷ xs) = go (eqb x 59) refl (pieces xs) (pieces_plain xs)
  where
    go : (c : Bool) → eqb x 59 ≡ c → (ps : List (List ℕ)) → Plain ps → Plain (cond c ([] ∷ ps) (lengthened x ps))
    go true e ps h = (tt, h)
    go false e [] h = tt
    go false e (b ∷ ps) h = ((e, h.0), h.1)

-- Nor in what follows the last `;`.
pub tail_plain : (t : List ℕ) → NoSemi (tail_piece t)
unfolding tail_piece
tail_plain [] = tt
tail_plain (x ∷ xs) = go (eqb x 59) refl (pieces xs) (tail_piece xs) (tail_plain xs)
  where
    go : (c : Bool) → eqb x 59 ≡ c → (ps : List (List ℕ)) (w : List ℕ) → NoSemi w → NoSemi (cond c w (kept ps x w))
    go true e ps w h = h
    go false e [] w h = (e, h)
    go false e (b ∷ ps) w h = h

-- The tokens of a joined text: those of its first piece, `;`, and those of the rest from its own place on.
pub joined_cut : (b : List ℕ) (bs : List (List ℕ)) (w : List ℕ) (p : ℕ)
    → tokens_from (joined (b ∷ bs) w) 0 p ≡ tokens_from b 0 p ++ word SEMICOLON ∷ tokens_from (joined bs w) 0 (p + suc (length b))
joined_cut b bs w p = tokens_cut b (joined bs w) 0 p (p + suc (length b)) (omega arith) refl

-- The bytes of pieces with their `;`.
abbrev sizes : List (List ℕ) → ℕ
sizes [] = 0
sizes (b ∷ bs) = suc (length b) + sizes bs

joined_length : (bs : List (List ℕ)) (w : List ℕ) → length (joined bs w) ≡ sizes bs + length w
joined_length [] w = omega arith
joined_length (b ∷ bs) w = let x = length-append b (59 ∷ joined bs w) in let y = joined_length bs w in omega arith

sizes_append : (xs ys : List (List ℕ)) → sizes (xs ++ ys) ≡ sizes xs + sizes ys
sizes_append [] ys = omega arith
sizes_append (b ∷ bs) ys = let x = sizes_append bs ys in omega arith

sizes_perm : {bs cs : List (List ℕ)} → Perm bs cs → sizes bs ≡ sizes cs
sizes_perm p_nil = refl
sizes_perm (p_skip p) = let x = sizes_perm p in omega arith
sizes_perm p_swap = omega arith
sizes_perm (p_trans p q) = sizes_perm p ∙ sizes_perm q

-- A text whose last pieces are rearranged is as long.
pub same_length : (ss rs rs' : List (List ℕ)) (w : List ℕ) → Perm rs rs' → length (joined (ss ++ rs') w) ≡ length (joined (ss ++ rs) w)
same_length ss rs rs' w p =
    omega (arith, joined_length (ss ++ rs') w, joined_length (ss ++ rs) w, sizes_append ss rs', sizes_append ss rs, sizes_perm p)

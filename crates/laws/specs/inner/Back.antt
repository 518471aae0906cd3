-- The rearrangement back.
use Rattle.std.specs.Prelude.{List}
use Rattle.laws.specs.Rearranged.{Perm, p_nil, p_skip, p_swap, p_trans}

-- From the second list to the first.
unfoldable pub p_sym : {A : Type 0} {l m : List A} → Perm l m → Perm m l
p_sym p_nil = p_nil
p_sym (p_skip p) = p_skip (p_sym p)
p_sym p_swap = p_swap
p_sym (p_trans p q) = p_trans (p_sym q) (p_sym p)

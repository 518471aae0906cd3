use Rattle.std.proofs.Common.{ℕ, ◌≡◌, refl, sym, ◌∙◌, ◌<◌, length, List, map, zero, suc, Bool, arith}
use lib.Dec.{T, eqb, eqb→eq}
use lib.ListN.{get_or}
use Rattle.std.proofs.Math.ListN.{get_or-map}
use Rattle.std.specs.List.{range_with_len}
use Rattle.laws.proofs.Tables.{every, at}
use Rattle.classes.specs.declared.Class.{Class}
use Rattle.classes.specs.declared.Class.TheVariants.{Other, White, Alphanumeric, Hyphen, Single, Double}
use Rattle.classes.specs.Classes.{class_of, class_number}
use Rattle.classes.proofs.table.Goals as goal

-- An entry is the class of its place.
right : ℕ → ℕ → Bool
right k x = eqb x (class_of k)

-- A table of 256 that passes the test has the class of each byte at its place.
ruled : (xs : List Class) → T (every right 0 (map class_number xs)) → length (map class_number xs) ≡ 256 → (k : ℕ) → k < 256 → class_number (get_or xs k Other) ≡ class_of k
unfolding right
ruled xs t l k h = sym (get_or-map class_number xs k Other) ∙ eqb→eq (get_or (map class_number xs) k 0) (class_of k) (at right (map class_number xs) t k (omega arith))

case : ℕ → Class
case zero = Other
case (suc zero) = White
case (suc (suc zero)) = Alphanumeric
case (suc (suc (suc zero))) = Hyphen
case (suc (suc (suc (suc zero)))) = Single
case (suc (suc (suc (suc (suc n))))) = Double

entries : List Class
entries = map (λ b. case (class_of b)) (range_with_len 0 256)

pub invariant_of-result : goal.invariant_of-result
unfolding right class_of case entries
invariant_of-result c = record { ruled = ruled entries tt refl }

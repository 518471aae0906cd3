-- A field put into bytes, as the code puts one after the other.
use Rattle.std.specs.Prelude.{ℕ, ◌+◌, ◌/◌, ◌%◌, List, ◌++◌, get_or, take, drop}
use Rattle.laws.specs.Packed.{bits, byte_count, pack}

-- Bytes with a field of w bits put at place p: the bits before it stay, zero bits fill the byte that it ends in, and the bytes after that one stay.
unfoldable pub put_at : List ℕ → ℕ → ℕ → ℕ → List ℕ
put_at ys p w x = take (p / 8) ys ++ pack (take (p % 8) (bits 8 (get_or ys (p / 8) 0)) ++ bits w x) ++ drop (byte_count (p + w)) ys

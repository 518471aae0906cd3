-- The bytes of a quoted text, so that examples can be read.
use Rattle.std.specs.Prelude.{ℕ, zero, suc, List, [], ◌∷◌}
use Prim.Native.Char.{code}
use Prim.Native.String.{String, len, char_at}

-- The next `k` bytes of an ASCII text from place `i` on.
unfoldable pub bytes_from : ℕ → ℕ → String → List ℕ
bytes_from zero i s = []
bytes_from (suc k) i s = code (char_at s i) ∷ bytes_from k (suc i) s

-- The bytes of an ASCII text.
unfoldable pub bytes : String → List ℕ
bytes s = bytes_from (len s) 0 s

-- What a test, an unpacking, a packing or a printing comes to: document 01, 'Refusals by who can cause them'. A refusal has its number and its second number.
use Rattle.std.specs.Prelude.{List, ◌++◌, ℕ, length, drop}

-- What a test says.
pub data Verdict : Type 0 where
  passed : Verdict
  fault : ℕ → ℕ → Verdict

-- What is taken: a form that is unpacked, the bytes of one that is packed or printed; or a refusal with both its numbers.
pub data OrRefused (A : Type 0) : Type 0 where
  taken : A → OrRefused A
  refused : ℕ → ℕ → OrRefused A

-- What comes after a test: where it is not passed, its refusal.
unfoldable pub after : {A : Type 0} → Verdict → OrRefused A → OrRefused A
after passed u = u
after (fault k s) u = refused k s

-- An output once bytes are written to its front: what stands beyond them stays.
abbrev pub written : List ℕ → List ℕ → List ℕ
written ys out = ys ++ drop (length ys) out

-- An output after bytes for it are taken or refused: a refusal leaves all.
unfoldable pub output_of : OrRefused (List ℕ) → List ℕ → List ℕ
output_of (taken ys) out = written ys out
output_of (refused k s) out = out

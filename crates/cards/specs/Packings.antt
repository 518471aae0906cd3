-- What a packing comes to: how many bytes are written, or a refusal with its number and its second number.
use Rattle.std.specs.Prelude.{ℕ}

pub data Packing : Type 0 where
  Packed : ℕ → Packing
  Refused : ℕ → ℕ → Packing

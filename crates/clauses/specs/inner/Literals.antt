-- What the steps over literals mean.
use Rattle.std.specs.Prelude.{ℕ, ◌+◌, ◌*◌, ◌≤◌, ◌<◌, ◌≡◌, Result, Ok, Err, Bool, false, List, length, take, drop}
use Rattle.laws.specs.Limits.{value_limit, row}
use Rattle.text.specs.Tokens.{Token}
use Rattle.model.specs.Rules.{Literal}
use Rattle.table.specs.Link.{literal_of}
use Rattle.grammar.specs.Files.{Slot, spellings, slot_names, values_of}
use Rattle.grammar.specs.Reading.{Part, took, ◌then◌, read_value, read_literal, plain_literal}
use Rattle.model.specs.Result.{pair}
use Rattle.steps.specs.inner.Places.{tokens_past, read_part}
use Rattle.steps.specs.inner.Spans.{Listed}
use Rattle.clauses.specs.declared.literal.Nots.{Nots}
use Rattle.table.specs.declared.Literal as code
use Rattle.text.specs.Next.{next_at}
use Rattle.steps.specs.declared.step.Fault.{Fault}
use Rattle.steps.specs.declared.step.Read.{Read}

-- The spans in `slotspans` are those of the slots' names, and in `valuespans`, from place s * 16 + 1 on, those of slot s's values.
pub record Looked (text : List ℕ) (slots : List Slot) (slotspans valuespans : List ℕ) : Type 0 where
  pub slotspans_listed : Listed text slotspans (spellings (slot_names slots))
  pub valuespans_listed : (s : ℕ) → s < length slots → Listed text (take value_limit (drop (s * row + 1) valuespans)) (spellings (values_of slots s))

-- NOTs from position `start` on were passed over: what stands after them, from position `at` on, is a plain literal, whose first token is `next`.
pub record NotsRead (rest : List ℕ) (start : ℕ) (r : Nots) : Type 0 where
  pub at : ℕ
  pub later : start ≤ at
  pub nots : (base : ℕ) (slots : List Slot) → read_literal (tokens_past rest base start) slots false ≡ plain_literal slots r.negated (tokens_past rest base at)
  pub here : r.next ≡ next_at rest at

-- The value of a literal, after its slot and its mark.
unfoldable pub value_literal : List Slot → ℕ → Bool → Bool → List Token → Part Literal
value_literal slots s becomes negated ts = read_value slots s ts then λ v left. took (record { becomes = becomes; negated = negated; pair = pair s v }) left

-- A literal read.
abbrev pub literal_part : List ℕ → ℕ → Result (Read code.Literal) Fault → Part Literal
literal_part rest base r = read_part literal_of rest base r

abbrev pub LiteralLies : ℕ → ℕ → Result (Read code.Literal) Fault → Type 0
LiteralLies size from (Ok r) = (from < r.next) × (r.next ≤ size)
LiteralLies size from (Err k) = Unit

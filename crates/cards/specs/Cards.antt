-- The four entry points: 31 first, then the tests and forms by how many values each slot of the table has.
use Rattle.std.specs.Prelude.{ℕ, cond, List, map, length, get_or, replicate, Result, Ok, Err}
use Rattle.laws.specs.Filled.{filled}
use Rattle.laws.specs.Tabulated.{tabulate}
use Rattle.model.specs.Rules.{Pair}
use Rattle.model.specs.Result.{pair}
use Rattle.table.specs.declared.Table.{Table}
use Rattle.laws.specs.Limits.{slot_limit}
use Rattle.table.specs.Link.{value_counts}
use Rattle.soundness.specs.Sound.{sound}
use Rattle.cards.specs.declared.Card.{Card}
use Rattle.cards.specs.declared.Change.{Change}
use Rattle.cards.specs.declared.Slip.{Slip}
use Rattle.cards.specs.Outcomes.{FormOutcome, CardRead, SlipRead}
use Rattle.cards.specs.Outcomes as outcome
use Rattle.cards.specs.Packings.{Packing}
use Rattle.cards.specs.Packings as packing
use Rattle.refusals.specs.declared.Refusal.{Refusal}
use Rattle.refusals.specs.Numbers.{refusal_number, refusal_second}
use Rattle.laws.specs.Answers.{OrRefused, taken, refused}
use Rattle.cards.specs.Forms.{read_card, read_slip, write_card, write_slip}

-- The values of an unpacked card, as many as it counts; a place that the array lacks gives 0.
unfoldable pub card_values : Card → List ℕ
card_values c = tabulate (λ i. get_or c.values i 0) c.count

-- The card of some values; the unused places are zero.
unfoldable pub card_of : List ℕ → Card
card_of vs = record { values = filled slot_limit 0 vs; count = length vs }

-- A change that is not used, and what reading past the end gives.
abbrev pub no_change : Change
no_change = record { slot = 0; value = 0 }

-- A change as a pair, and a pair as a change.
abbrev pub pair_of : Change → Pair
pair_of x = pair x.slot x.value

abbrev pub change_of : Pair → Change
change_of p = record { slot = p.slot; value = p.value }

-- The changes of an unpacked slip, as many as it counts.
unfoldable pub changes_of : Slip → List Pair
changes_of s = tabulate (λ j. pair_of (get_or s.changes j no_change)) s.count

-- The slip of some changes; the unused places are zero.
unfoldable pub slip_of : List Pair → Slip
slip_of ps = record { changes = filled slot_limit no_change (map change_of ps); count = length ps }

-- The forms without slots or changes, which go with a refusal.
abbrev pub no_card : Card
no_card = record { values = replicate slot_limit 0; count = 0 }

abbrev pub no_slip : Slip
no_slip = record { changes = replicate slot_limit no_change; count = 0 }

-- 31 before all else.
unfoldable pub if_sound : {A : Type 0} → Table → OrRefused A → OrRefused A
if_sound t u = cond (sound t) u (refused 31 0)

-- Unpacking a card and a slip.
unfoldable pub unpacked_card : Table → List ℕ → OrRefused (List ℕ)
unpacked_card t ys = if_sound t (read_card (value_counts t) ys)

unfoldable pub unpacked_slip : Table → List ℕ → OrRefused (List Pair)
unpacked_slip t ys = if_sound t (read_slip (value_counts t) ys)

-- Packing a card and a slip into so much room.
unfoldable pub packed_card : Table → Card → ℕ → OrRefused (List ℕ)
packed_card t c room = if_sound t (write_card (value_counts t) (card_values c) room)

unfoldable pub packed_slip : Table → Slip → ℕ → OrRefused (List ℕ)
packed_slip t s room = if_sound t (write_slip (value_counts t) (changes_of s) room)

-- What is answered to bytes unpacked as a card, and as a slip.
unfoldable pub card_read : OrRefused (List ℕ) → CardRead
card_read (taken vs) = record { outcome = outcome.Accepted; card = card_of vs }
card_read (refused k s) = record { outcome = outcome.Refused k s; card = no_card }

unfoldable pub slip_read : OrRefused (List Pair) → SlipRead
slip_read (taken ps) = record { outcome = outcome.Accepted; slip = slip_of ps }
slip_read (refused k s) = record { outcome = outcome.Refused k s; slip = no_slip }

-- What is answered to a form that is packed: how many bytes it takes.
unfoldable pub packing_of : OrRefused (List ℕ) → Packing
packing_of (taken ys) = packing.Packed (length ys)
packing_of (refused k s) = packing.Refused k s

-- The code's results as such answers: a refusal by its numbers, with the empty form.
abbrev pub card_read_of : Result Card Refusal → CardRead
card_read_of (Ok c) = record { outcome = outcome.Accepted; card = c }
card_read_of (Err r) = record { outcome = outcome.Refused (refusal_number r) (refusal_second r); card = no_card }

abbrev pub slip_read_of : Result Slip Refusal → SlipRead
slip_read_of (Ok s) = record { outcome = outcome.Accepted; slip = s }
slip_read_of (Err r) = record { outcome = outcome.Refused (refusal_number r) (refusal_second r); slip = no_slip }

abbrev pub packing_said : Result ℕ Refusal → Packing
packing_said (Ok n) = packing.Packed n
packing_said (Err r) = packing.Refused (refusal_number r) (refusal_second r)

-- The number of a refusal, 0 for none, and its second number.
abbrev pub unpacking_refusal : FormOutcome → ℕ
unpacking_refusal outcome.Accepted = 0
unpacking_refusal (outcome.Refused k s) = k

abbrev pub unpacking_second : FormOutcome → ℕ
unpacking_second outcome.Accepted = 0
unpacking_second (outcome.Refused k s) = s

-- The same of a packing, and the length that it says.
abbrev pub packing_refusal : Packing → ℕ
packing_refusal (packing.Packed n) = 0
packing_refusal (packing.Refused k s) = k

abbrev pub packing_second : Packing → ℕ
packing_second (packing.Packed n) = 0
packing_second (packing.Refused k s) = s

abbrev pub packing_length : Packing → ℕ
packing_length (packing.Packed n) = n
packing_length (packing.Refused k s) = 0

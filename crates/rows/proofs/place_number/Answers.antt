-- `rows::place_number` meets its contract.
use mathlib.Core.Path.{◌≡◌}
use Prim.Native.Nat.{◌+◌, ◌*◌, ◌/◌, ◌%◌}
use native.Mathlib.Omega.{arith}
use Rattle.laws.specs.Limits.{row}
use Rattle.table.specs.inner.Flat.{pair_places}
use Rattle.rows.proofs.place_number.Goals as goal

pub returns : goal.returns
returns c =
    let p = c.requires in
    let a : (c.args.slot * 16 + c.args.value) % pair_places / row ≡ c.args.slot = omega (arith, p.in_slots, p.in_row) in
    let b : (c.args.slot * 16 + c.args.value) % pair_places % row ≡ c.args.value = omega (arith, p.in_slots, p.in_row) in
    (λ i. record { slot = a i; value = b i }, omega (arith, p.in_slots, p.in_row))

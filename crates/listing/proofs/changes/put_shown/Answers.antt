-- `changes::put_shown` meets its contract.
use Prim.Native.Nat.{ℕ}
use mathlib.Core.Path.{◌≡◌}
use mathlib.Core.List.{List}
use borrow.Author.Tests.{eq-eqb}
use Rattle.laws.specs.Quoted.{bytes_from, bytes}
use Rattle.names.specs.Names.{show_value_of}
use Rattle.listing.specs.Listing.{value_listed}
use Rattle.listing.proofs.changes.put_shown.Goals as goal

-- Value 0 is NONE.
none_is : (value : ℕ) (name : List ℕ) → value ≡ 0 → value_listed value name ≡ bytes "NONE"
none_is value name e = rw (eq-eqb value 0 e)

pub put-requires : goal.put-requires
unfolding bytes bytes_from
put-requires c = rw (none_is c.args.value (show_value_of c.args.text.now c.args.s c.args.value).part c.if-value-eq0.true) at c.requires

pub returns-then-value-eq0 : goal.returns-then-value-eq0
unfolding bytes bytes_from
returns-then-value-eq0 c = rw (none_is c.args.value (show_value_of c.args.text.now c.args.s c.args.value).part c.if-value-eq0.true) c.put.ensures

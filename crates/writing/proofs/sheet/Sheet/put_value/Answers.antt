-- `sheet::Sheet::put_value` meets its contract.
use Prim.Native.Nat.{ℕ, ◌+◌, ◌*◌}
use mathlib.Core.Path.{◌≡◌}
use mathlib.Core.List.{List}
use lib.ListN.{get_or}
use borrow.Author.Tests.{eq-eqb, ne_eqb}
use Rattle.laws.specs.Quoted.{bytes_from, bytes}
use Rattle.laws.specs.Limits.{row}
use Rattle.model.specs.Result.{pair}
use Rattle.writing.specs.inner.Spelled.{spelled, spelled_value}
use Rattle.writing.proofs.sheet.Sheet.put_value.Goals as goal

-- Value 0 is NONE, any other the name at its place.
none_is : (text vs : List ℕ) (slot value : ℕ) → value ≡ 0 → spelled_value text vs (pair slot value) ≡ bytes "NONE"
unfolding spelled_value
none_is text vs slot value e = rw (eq-eqb value 0 e)

name-is : (text vs : List ℕ) (slot value p : ℕ) → (value ≡ 0 → ⊥) → p ≡ slot * row + value → spelled_value text vs (pair slot value) ≡ spelled text (get_or vs p 0)
unfolding spelled_value
name-is text vs slot value p e i = rw (ne_eqb value 0 e, i)

pub put-requires : goal.put-requires
unfolding bytes bytes_from
put-requires c = rw (none_is c.args.spelling.text.now c.args.spelling.valuespans.now c.args.slot c.args.value c.if-value-eq0.true) at c.requires.1

pub returns-then-value-eq0 : goal.returns-then-value-eq0
unfolding bytes bytes_from
returns-then-value-eq0 c = rw (none_is c.args.spelling.text.now c.args.spelling.valuespans.now c.args.slot c.args.value c.if-value-eq0.true) c.put.ensures

pub put_name-requires : goal.put_name-requires
put_name-requires c = rw (name-is c.args.spelling.text.now c.args.spelling.valuespans.now c.args.slot c.args.value c.place.result c.if-value-eq0.false c.place.ensures.is) at c.requires.1

pub returns : goal.returns
returns c =
    rw (name-is c.args.spelling.text.now c.args.spelling.valuespans.now c.args.slot c.args.value c.place.result c.if-value-eq0.false c.place.ensures.is) c.put_name.ensures

-- `lines::enter` meets its contract.
use Prim.Native.Nat.{ℕ, ◌+◌, ◌*◌, ◌-◌, ◌≤◌}
use native.Mathlib.Omega.{arith}
use mathlib.Core.Path.{◌≡◌, refl, sym, ap, ◌∙◌}
use mathlib.Core.List.{List, ◌++◌, append_assoc}
use lib.ListN.{length, take}
use borrow.Author.Rules.{rules}
use borrow.Rule.Slice.PartMut.{put_mid}
use Rattle.std.proofs.lemmas.List.{drop-drop}
use Rattle.std.proofs.lemmas.List.Edits.{sets, sets-eq}
use Rattle.lines.proofs.enter.Goals as goal

-- A list copied over the part from a place on.
copied : (a : ℕ) (xs zs : List ℕ) → a + length zs ≤ length xs → put_mid a (length zs) xs zs ≡ sets xs a zs
copied a xs zs h = ap (λ (t : List ℕ). take a xs ++ (zs ++ t)) (drop-drop (length zs) a xs) ∙ sym (append_assoc (take a xs) zs _) ∙ sym (sets-eq zs xs a h)

pub returns : goal.returns
returns c =
    let a = c.args in
    let k : length a.spans ≡ 15 = search rules in
    let v : length a.valuespans.now ≡ 512 = search rules in
    let n = c.requires in
    let e : a.number * 16 + 1 + 15 - (a.number * 16 + 1) ≡ length a.spans = omega arith in
    (refl, rw (c.copy_from_slice.ensures.after, e) (copied (a.number * 16 + 1) a.valuespans.now a.spans (omega arith)))

-- `testing::truth::enter_changes` meets its contract.
use Rattle.std.proofs.Common.{◌≡◌, ◌∙◌, ◌++◌, List, [], Bool, take, drop, length, ap, arith, length-drop}
use Rattle.std.proofs.Math.ListN.{drop_of_length-le}
use Rattle.std.proofs.lemmas.List.{append-nil}
use borrow.Rule.Slice.PartMut.{put_mid}
use Rattle.testing.proofs.truth.enter_changes.Goals as goal

put_half : (old new now : List Bool) → length old ≡ 1024 → new ≡ now → put_mid 512 512 old new ≡ take 512 old ++ now
put_half old new now l e =
    let p : drop 512 (drop 512 old) ≡ [] = drop_of_length-le (drop 512 old) {i = 512} (omega (arith, length-drop 512 old)) in
    ap (λ (zs : List Bool). take 512 old ++ zs) (ap (λ (zs : List Bool). new ++ zs) p ∙ append-nil new ∙ e)

pub returns : goal.returns
returns c = put_half _ _ _ c.told-truth c.copy_from_slice.ensures.after

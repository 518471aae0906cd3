-- Bytes that are counted first and then put at the front of an output.
-- Assumes nothing.
use Prim.Native.Nat.{ℕ, ◌≤◌, ◌<◌}
use native.Mathlib.Omega.{arith}
use mathlib.Core.Path.{◌≡◌, ◌∙◌}
use mathlib.Core.List.{List}
use lib.ListN.{length}
use borrow.Author.Tests.{lt-ltb, le-ltb}
use Rattle.writing.specs.inner.Puts.{Puts}
use Rattle.writing.proofs.Putting.{put_front}
use Rattle.listing.specs.Printed.{placed}

-- Bytes that are counted to be more than an output holds leave it as it is.
pub placed_none : {some other ys out : List ℕ} {n : ℕ} → Puts some 0 ys other n → length out < n → (n ≡ length ys) × (out ≡ placed ys out)
unfolding placed
placed_none {ys = ys} {out} {n} p h =
    let e = p.ends in
    let l : length out < length ys = omega arith in
    (omega arith, rw (lt-ltb (length out) (length ys) l))

-- Others are at its front, and the rest of it is as it was.
pub placed_all : {some other ys first out : List ℕ} {n m : ℕ} → Puts some 0 ys other n → n ≤ length first → Puts first 0 ys out m → (m ≡ length ys) × (out ≡ placed ys first)
unfolding placed
placed_all {ys = ys} {first} {out} {n} {m} p h q =
    let e = p.ends in
    let f = q.ends in
    let l : length ys ≤ length first = omega arith in
    (omega arith, rw (le-ltb (length first) (length ys) l) (q.there (omega arith) ∙ put_front first ys))

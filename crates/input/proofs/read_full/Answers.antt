-- The bytes of a read come behind those before it, in the room as in the input.
use Rattle.std.proofs.Common.{◌≡◌, ℕ, ◌+◌, ◌-◌, ◌≤◌, List, ◌++◌, rules, length, take, sym, ap, ◌∙◌, subst, le_refl, drop_at, length-take-le}
use Rattle.std.specs.Io.KnownBytes.{Consumes}
use Rattle.std.proofs.lemmas.Slice.{take-put_mid_below}
use Rattle.std.proofs.KnownBytes.{Consumes-trans}
use borrow.Rule.Slice.PartMut.{put_mid, post_of}
use lib.Seq.{take-add, take-append-le}
use Rattle.input.proofs.read_full.Goals as goal

-- Bytes put behind the first `a` of a room stand behind them.
behind : (a k n : ℕ) (room part : List ℕ) → a ≤ length room → n ≤ length part → take a room ++ take n part ≡ take (a + n) (put_mid a k room part)
behind a k n room part within fits =
    let after = post_of a k room in
    let front : take a (put_mid a k room part) ≡ take a room = take-put_mid_below _ _ _ _ _ (le_refl _) within in
    let back = ap (take n) (drop_at (take a room) (part ++ after) a (length-take-le a room within)) ∙ take-append-le n part after fits in
    ap (λ l. l ++ take n part) (sym front) ∙ ap (λ l. take a (put_mid a k room part) ++ l) (sym back) ∙ sym (take-add a n (put_mid a k room part))

pub loop-done-preserved : goal.loop-done-preserved
loop-done-preserved g c =
    let l = c.loop-done in
    let joined = behind l.done (length l.room - l.done) c.in_ok-more.more l.room c.read.new.buf l.invariant.1 c.in_ok-more.ensures.bound.0 in
    (search rules, search rules, subst (Consumes _ _) joined (Consumes-trans _ _ _ _ _ l.invariant.2 c.in_ok-more.ensures.bytes.0))

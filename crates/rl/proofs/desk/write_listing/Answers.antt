-- What is listed goes onto a page.
use Rattle.std.proofs.Common.{arith, sym, length-take-le}
use Rattle.listing.proofs.Bounded.{listing_bounded}
use Rattle.rl.proofs.desk.write_listing.Goals as goal

pub slice_bounds-out-end : goal.slice_bounds-out-end
slice_bounds-out-end g c =
    let a = c.args in
    omega (arith, c.list-n.ensures.0, c.blank-out.ensures, listing_bounded a.text.now a.card.now a.slip.now a.editor.now)

pub slice_bounds-write_all-end : goal.slice_bounds-write_all-end
slice_bounds-write_all-end g c =
    let a = c.args in
    sym (length-take-le _ _ (omega (arith, c.list-n.ensures.0, c.blank-out.ensures, listing_bounded a.text.now a.card.now a.slip.now a.editor.now)))

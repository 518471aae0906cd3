-- `library::places::name_place` meets its contract.
use Rattle.library.proofs.Standing.{place_shown}
use Rattle.library.proofs.places.name_place.Goals as goal

pub returns : goal.returns
returns c =
    let shown = rw c.in_ok-part.ensures.ok_part at c.stretch.ensures in
    place_shown c.args.text.now c.args.name c.in_ok-part.part.now shown.0 shown.1.0

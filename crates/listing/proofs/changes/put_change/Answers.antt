-- `changes::put_change` meets its contract.
use mathlib.Core.Path.{refl}
use Rattle.laws.specs.Quoted.{bytes_from, bytes}
use Rattle.names.specs.Names.{show_name}
use Rattle.names.proofs.Names.{shown_part}
use Rattle.listing.specs.Printed.{change_text}
use Rattle.writing.proofs.Putting.{puts_on}
use Rattle.listing.proofs.changes.put_change.Goals as goal

pub returns : goal.returns
unfolding change_text bytes bytes_from
returns c = puts_on c.put.ensures (puts_on (rw (shown_part _ (show_name c.args.text.now c.args.s.name) _ _ _ c.unwrap_or.ensures refl c.stretch.ensures) at c.put-2.ensures) (puts_on c.put-3.ensures (puts_on c.put_shown.ensures c.put-4.ensures)))

-- `results::records::count_fired` meets its contract.
use Rattle.std.proofs.Common.{rules, ◌≡◌, ◌∙◌}
use Rattle.std.specs.Int.Count.{ones}
use Rattle.std.specs.List.{sum_by}
use Rattle.results.proofs.Bits.{ones_sum}
use Rattle.results.proofs.records.count_fired.Goals as goal

pub returns : goal.returns
returns c =
    let e : c.sum.result ≡ sum_by (λ x. ones x) c.args.bytes.now = search rules in
    e ∙ ones_sum c.args.bytes.now

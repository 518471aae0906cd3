-- Each token but the end moves the reader on within its text.
use Rattle.std.proofs.Common.{◌-◌, length}
use Rattle.token_cases.proofs.token_list.write_tokens.Given as goal

abbrev pub decreases-loop-reader : goal.decreases-loop-reader
decreases-loop-reader g l = length l.reader.text.now - l.reader.at

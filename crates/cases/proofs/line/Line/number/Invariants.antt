use Rattle.std.proofs.Common.{◌-◌, length}
use Rattle.cases.proofs.line.Line.number.Given as goal

abbrev pub decreases-loop-digit : goal.decreases-loop-digit
decreases-loop-digit l = length l.self.bytes.now - l.self.at

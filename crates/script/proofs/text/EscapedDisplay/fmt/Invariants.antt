use Rattle.std.proofs.Common.{take}
use Rattle.std.specs.Fmt.{HasWritten, IsPlainFormatter}
use Rattle.script.specs.Escapes.{escaped}
use Rattle.script.proofs.text.EscapedDisplay.fmt.Given as goal

-- where the formatter was plain, the bytes so far are written
abbrev pub invariant-loop-b : goal.invariant-loop-b
invariant-loop-b g l = IsPlainFormatter l.initial.f → HasWritten g.W.Write.write_str_gives l.initial.f (escaped (take l.b-index l.self.0.now)) l.f

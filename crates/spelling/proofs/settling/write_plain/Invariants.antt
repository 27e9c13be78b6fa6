use Rattle.std.proofs.Common.{◌≡◌, map, take}
use Rattle.spelling.specs.Settling.{plain}
use Rattle.spelling.proofs.settling.write_plain.Given as goal

-- the bytes so far are written
abbrev pub invariant-loop-i : goal.invariant-loop-i
invariant-loop-i l = take l.i l.out ≡ map plain (take l.i l.text)

use Rattle.std.proofs.Common.{◌≡◌, ◌≤◌, ◌++◌, take, drop}
use Rattle.spelling.specs.Settling.{trim_left, merge_runs}
use Rattle.spelling.proofs.Squeezing.{squeezed}
use Rattle.spelling.proofs.settling.squeezed.Given as goal

-- what is at the front, and what is still to come, make up the answer
abbrev pub invariant-loop-i : goal.invariant-loop-i
invariant-loop-i l =
    record {
      behind : l.len ≤ l.i;
      rest : take l.len l.bytes ++ squeezed l.after_slash (drop l.i l.bytes) ≡ trim_left (merge_runs l.initial.bytes);
    }

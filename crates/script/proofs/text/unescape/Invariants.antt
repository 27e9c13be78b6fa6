use Rattle.std.proofs.Common.{◌≡◌, length, vec_items}
use Rattle.std.specs.Slice.Iter.{iter_rest}
use Rattle.script.specs.Escapes.{unescaped}
use Rattle.script.proofs.Escapes.{onto}
use Rattle.script.proofs.text.unescape.Given as goal

abbrev pub invariant-loop-byte : goal.invariant-loop-byte
invariant-loop-byte l = onto (vec_items l.unescaped) (unescaped (iter_rest l.bytes)) ≡ unescaped l.text

abbrev pub decreases-loop-byte : goal.decreases-loop-byte
decreases-loop-byte l = length (iter_rest l.bytes)

-- The faces of settling: how each tells what `settle` gives.
use Rattle.std.specs.Prelude.{ℕ, List, ◌++◌, length, drop, ℤ, pos, neg_ℤ, Ok, Err, Result}
use Rattle.std.specs.Result.{result_map_both}
use Rattle.refusal.specs.Numbers.{number_of}
use Rattle.refusal.specs.declared.Reason.{Reason}

-- what was granted, read by f
abbrev pub map_ok : {T U : Type 0} → (T → U) → Result T Reason → Result U Reason
map_ok f r = result_map_both f (λ reason. reason) r

-- a caller's buffer: a spelling is written over its front, and a refusal leaves it
abbrev pub buffer_after : Result (List ℕ) Reason → List ℕ → List ℕ
buffer_after (Ok s) out = s ++ drop (length s) out
buffer_after (Err reason) out = out

-- the C face: the length, or minus the refusal's number
abbrev pub code_of : Result (List ℕ) Reason → ℤ
code_of (Ok s) = pos (length s)
code_of (Err reason) = neg_ℤ (pos (number_of reason))

-- An answer and no attribute: so the check calls the theorem refused, and not without a proof, and tests/planted can
-- tell.
use Rattle.model.proofs.PromiseKept.{theorem}
use Rattle.model.proofs.promise_is_kept.Goals as goal

pub returns : goal.returns
returns c = theorem

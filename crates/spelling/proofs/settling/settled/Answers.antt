use Rattle.spelling.proofs.Cases.{length_passes}
use Rattle.spelling.proofs.Shape.{spelled_settled}
use Rattle.spelling.proofs.settling.settled.Goals as goal

pub returns-clause-settled : goal.returns-clause-settled
returns-clause-settled c =
    let text = c.args.text.now in
    let fits = length_passes _ (rw c.spelled-left.ensures at c.in_ok-check_left.ensures) in
    rw c.spelled-left.ensures (spelled_settled text c.requires.allowed fits.0 fits.1)

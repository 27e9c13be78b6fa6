use Rattle.std.proofs.Common.{arith}
use Rattle.std.proofs.lemmas.Grind.{common_steps}
use Rattle.script.proofs.Escapes.{undoes}
use Rattle.script.proofs.text.unescape.Goals as goal

pub returns-clause-undoes : goal.returns-clause-undoes
returns-clause-undoes c = λ bs small e. grind (arith, common_steps, undoes bs small)

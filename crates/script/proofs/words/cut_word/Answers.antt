use Rattle.std.proofs.Common.{Some, ap, ◌∙◌, rules}
use Rattle.std.proofs.lemmas.List.{take_rest}
use Rattle.script.proofs.Cuts.{at_space, no_space}
use Rattle.script.proofs.words.cut_word.Goals as goal

pub returns-in-Some : goal.returns-in-Some
returns-in-Some c =
    let cut = at_space c.args.line.now c.in-Some.i (search rules) (search rules) (search rules) in
    record { word = cut.0; rest = ap (λ l. Some l) (take_rest c.args.line.now _) ∙ cut.1 }

pub returns-in-None : goal.returns-in-None
returns-in-None c =
    let whole = no_space c.args.line.now (search rules) in
    record { word = whole.0; rest = whole.1 }

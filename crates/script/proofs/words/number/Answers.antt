use Rattle.std.proofs.Common.{sym, ◌∙◌}
use Rattle.script.proofs.Digits.{no_text}
use Rattle.script.proofs.words.number.Goals as goal

pub returns-in_err-ok : goal.returns-in_err-ok
returns-in_err-ok c = c.from_residual.ensures ∙ no_text _ c.args.word.now c.from_utf8.result c.from_utf8.ensures.cases (sym c.ok.ensures.value ∙ c.in_err-ok.was)

-- The answer to each line of a script, from the rules of settling and of the script language.
use Rattle.std.specs.Prelude.{ℕ, List, Some, None, codes, Option}
use Rattle.script.specs.Answering.{settling_answer}
use Rattle.script.specs.Lines.{Said, passed_over, invalid, settle_text, line_of}
use Rattle.spelling.specs.Settling.{settle_into}

abbrev pub answer_to_said : Said → Option (List ℕ)
answer_to_said passed_over = None
answer_to_said invalid = Some (codes "invalid")
answer_to_said (settle_text size text) = Some (settling_answer (settle_into size text))

-- the answer to a line, if it gets one
abbrev pub answer_to : List ℕ → Option (List ℕ)
answer_to line = answer_to_said (line_of line)

-- How answers are written (docs/RULES.md, the script language).
use Rattle.std.specs.Prelude.{ℕ, suc, List, [], ◌∷◌, ◌++◌, length, take, ℤ, pos, negsuc, Ok, Err, Result, codes, decimal}
use Rattle.refusal.specs.Numbers.{number_of}
use Rattle.refusal.specs.declared.Reason.{Reason}
use Rattle.script.specs.declared.answer.Answer.{Answer}
use Rattle.script.specs.declared.answer.Answer.TheVariants.{SettleText, Settled, NotSettled}
use Rattle.script.specs.declared.answer.Called.{Called}
use Rattle.script.specs.declared.answer.Collected.{Collected}
use Rattle.script.specs.declared.answer.Summary.{Summary}
use Rattle.script.specs.Escapes.{escaped}

-- LEN TEXT
abbrev pub sized : List ℕ → List ℕ
sized bs = decimal (length bs) ++ (32 ∷ escaped bs)

-- -NUM
abbrev pub minus : ℕ → List ℕ
minus n = 45 ∷ decimal n

-- LEN TEXT, or -NUM where the settling was refused
abbrev pub settling_answer : Result (List ℕ) Reason → List ℕ
settling_answer (Ok s) = sized s
settling_answer (Err reason) = minus (number_of reason)

-- an answer holds its text in a slice
abbrev pub answer_text : Answer → List ℕ
answer_text (SettleText (Ok settled)) = settling_answer (Ok settled.now)
answer_text (SettleText (Err reason)) = settling_answer (Err reason)
answer_text (Settled text) = sized text.now
answer_text (NotSettled number) = minus number

-- the line for what the face for C returned: the length of the text at the front of the buffer, or minus a refusal's
-- number; `negsuc n` is minus (n + 1)
abbrev pub settled_line : ℤ → List ℕ → List ℕ
settled_line (pos n) buffer = sized (take n buffer)
settled_line (negsuc n) buffer = minus (suc n)

-- n and the words after it, before the rest
abbrev pub counted : ℕ → List ℕ → List ℕ → List ℕ
counted n words rest = decimal n ++ (words ++ rest)

abbrev pub called_text : Called → List ℕ
called_text s = counted s.calls (codes " calls, ") (counted s.granted (codes " granted, ") (counted s.refused (codes " refused") []))

abbrev pub collected_text : Collected → List ℕ
collected_text s = counted s.cycles (codes " cycles, ") (counted s.reachable (codes " reachable, ") (counted s.weak (codes " weak, ") (counted s.neither (codes " neither") [])))

abbrev pub summary_text : Summary → List ℕ
summary_text s = codes "done " ++ (called_text s.called ++ (codes ", " ++ collected_text s.collected))

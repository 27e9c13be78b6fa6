-- What a line of a script says (docs/RULES.md, "The script language of replay").
use Rattle.std.specs.Prelude.{◌≡◌, ℕ, Bool, cond, List, [], ◌∷◌, Some, None, Ok, Err, vec_items, codes, Option, Result, ◌==◌}
use Rattle.std.specs.Str.{bytes_eq}
use Rattle.script.specs.declared.call.Call.{Call}
use Rattle.script.specs.declared.call.Call.TheVariants.{SettleText}
use Rattle.script.specs.declared.error.LineError.{LineError}
use Rattle.script.specs.declared.error.LineError.TheVariants.{Invalid, OutOfMemory}
use Rattle.script.specs.Escapes.{unescaped}
use Rattle.script.specs.Words.{first_word, after_word, word_number}

-- what a line says
pub data Said : Type 0 where
  passed_over : Said
  invalid : Said
  settle_text : ℕ → List ℕ → Said

-- the line that asks for a call, whose text is a `Vec`
abbrev pub said : Call → Said
said (SettleText size text) = settle_text size (vec_items text)

-- what reading a call gave is what the line says; where memory ran out, that is left open
abbrev pub ReadsCall : Result Call LineError → Said → Type 0
ReadsCall (Ok call) s = s ≡ said call
ReadsCall (Err Invalid) s = s ≡ invalid
ReadsCall (Err (OutOfMemory e)) s = Unit {0}

-- the same of a line, which may ask for no call
abbrev pub Reads : Result (Option Call) LineError → Said → Type 0
Reads (Ok None) s = s ≡ passed_over
Reads (Ok (Some call)) s = ReadsCall (Ok call) s
Reads (Err e) s = ReadsCall (Err e) s

-- what a read of a line gave, without the newline that ended it
abbrev pub without_newline : List ℕ → List ℕ
without_newline [] = []
without_newline (b ∷ []) = cond (b == 10) [] (b ∷ [])
without_newline (b ∷ c ∷ bs) = b ∷ without_newline (c ∷ bs)

-- TEXT is the rest of the line after one space, and empty where the line ends before that space
abbrev pub text_part : Option (List ℕ) → Option (List ℕ)
text_part None = Some []
text_part (Some bs) = unescaped bs

-- both the number and the text have to be readable
abbrev pub sized_text : Option ℕ → Option (List ℕ) → Said
sized_text None t = invalid
sized_text (Some n) None = invalid
sized_text (Some n) (Some bs) = settle_text n bs

-- SIZE TEXT, which follows the call's name after one space
abbrev pub settletext_of : Option (List ℕ) → Said
settletext_of None = invalid
settletext_of (Some bs) = sized_text (word_number (first_word bs)) (text_part (after_word bs))

-- the one call so far; its text asks for memory, which may be wanting
abbrev pub is_settletext : List ℕ → Bool
is_settletext name = bytes_eq name (codes "settletext")

abbrev pub call_of : List ℕ → Option (List ℕ) → Said
call_of name rest = cond (is_settletext name) (settletext_of rest) invalid

-- an empty line and a comment are passed over; 35 is #
abbrev pub line_of : List ℕ → Said
line_of [] = passed_over
line_of (b ∷ bs) = cond (b == 35) passed_over (call_of (first_word (b ∷ bs)) (after_word (b ∷ bs)))

-- an error as text; where memory ran out, in std's words
abbrev pub error_text : LineError → List ℕ
error_text Invalid = codes "invalid line"
error_text (OutOfMemory e) = codes "memory allocation failed"

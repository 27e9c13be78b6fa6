-- Text with escapes, as a line has it, and as an answer has it (docs/RULES.md, the script language).
use Rattle.std.specs.Prelude.{ℕ, ◌+◌, ◌*◌, ◌/◌, ◌%◌, ◌<◌, Bool, cond, not, ◌&&◌, List, [], ◌∷◌, Some, None, Option, ◌==◌, nat_le, nat_lt}
use Rattle.std.specs.Option.{option_map}
use Rattle.std.specs.Char.{digit_value, digit_char}
use Rattle.std.specs.List.{All, flat_map}

-- `digit_value` counts 0 to 9, then a to z in either case from 10 on, and has 36 for any other byte
abbrev pub is_hex : ℕ → Bool
is_hex c = nat_lt (digit_value c) 16

-- what a hex digit of either case counts
abbrev pub hex_value : ℕ → Option ℕ
hex_value c = cond (is_hex c) (Some (digit_value c)) None

-- b before what a text stands for, where that is known
abbrev pub prepended : ℕ → Option (List ℕ) → Option (List ℕ)
prepended b o = option_map (λ bs. b ∷ bs) o

abbrev mutual
  -- the bytes that a text stands for; none where it is unreadable. 92 is the backslash
  pub unescaped : List ℕ → Option (List ℕ)
  unescaped [] = Some []
  unescaped (b ∷ bs) = cond (b == 92) (after_backslash bs) (prepended b (unescaped bs))

  -- a second backslash, or x, which is 120
  pub after_backslash : List ℕ → Option (List ℕ)
  after_backslash [] = None
  after_backslash (b ∷ bs) = cond (b == 92) (prepended 92 (unescaped bs)) (cond (b == 120) (after_x bs) None)

  -- two hex digits are one byte
  pub after_x : List ℕ → Option (List ℕ)
  after_x [] = None
  after_x (h ∷ []) = None
  after_x (h ∷ l ∷ bs) = cond (is_hex h && is_hex l) (prepended (16 * digit_value h + digit_value l) (unescaped bs)) None

-- an answer has these bytes as they are: 0x20 to 0x7E but the backslash
abbrev pub is_plain : ℕ → Bool
is_plain b = nat_le 32 b && (nat_le b 126 && not (b == 92))

-- any other is written with two hex digits in lower case, which `digit_char` gives
abbrev pub escaped_byte : ℕ → List ℕ
escaped_byte b = cond (is_plain b) (b ∷ []) (92 ∷ 120 ∷ digit_char (b / 16) ∷ digit_char (b % 16) ∷ [])

abbrev pub escaped : List ℕ → List ℕ
escaped bs = flat_map escaped_byte bs

abbrev pub Bytes : List ℕ → Type 0
Bytes bs = All (λ b. b < 256) bs

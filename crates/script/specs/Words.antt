-- How a line is cut into words, and which number a word is (docs/RULES.md, the script language).
use Rattle.std.specs.Prelude.{ℕ, ◌+◌, ◌-◌, ◌*◌, ◌^◌, Bool, cond, ◌&&◌, List, [], ◌∷◌, length, Some, None, Option, ◌==◌, nat_lt}
use Rattle.std.specs.Str.{all_ascii_digits}

-- the first word of a line: what stands before the first space, which is 32, or all of it
abbrev pub first_word : List ℕ → List ℕ
first_word [] = []
first_word (b ∷ bs) = cond (b == 32) [] (b ∷ first_word bs)

-- what follows the first space, if there is one
abbrev pub after_word : List ℕ → Option (List ℕ)
after_word [] = None
after_word (b ∷ bs) = cond (b == 32) (Some bs) (after_word bs)

-- the number that decimal digits write after those that gave n
abbrev pub digits_after : ℕ → List ℕ → ℕ
digits_after n [] = n
digits_after n (c ∷ cs) = digits_after (10 * n + (c - 48)) cs

-- a number is one digit or more, and fits 32 bits
abbrev pub is_number : List ℕ → Bool
is_number ds = nat_lt 0 (length ds) && (all_ascii_digits ds && nat_lt (digits_after 0 ds) (2 ^ 32))

abbrev pub word_number : List ℕ → Option ℕ
word_number ds = cond (is_number ds) (Some (digits_after 0 ds)) None

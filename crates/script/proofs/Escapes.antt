-- Reading text with escapes, byte by byte.
use Rattle.std.proofs.Common.{◌≡◌, ℕ, ◌+◌, ◌*◌, ◌/◌, ◌%◌, ◌<◌, false, eqb, leb, List, [], ◌∷◌, ◌++◌, Some, None, Option, sym, refl, ap, ◌∙◌, append_assoc, arith}
use Rattle.std.specs.Option.{option_map}
use Rattle.std.specs.Char.{digit_value, digit_char}
use Rattle.std.proofs.lemmas.Bool.{ne_eqb, lt-ltb, and_parts, not-true, cond_both}
use Rattle.std.proofs.lemmas.Str.{digit_value-digit_char}
use Rattle.std.proofs.lemmas.List.Elements.{All-head, All-tail}
use Rattle.script.specs.Escapes.{prepended, unescaped, after_backslash, is_plain, escaped_byte, escaped, Bytes}

-- what was read, before what the rest stands for
abbrev pub onto : List ℕ → Option (List ℕ) → Option (List ℕ)
onto xs o = option_map (λ bs. xs ++ bs) o

pub onto_more : (xs : List ℕ) (b : ℕ) (o : Option (List ℕ)) → onto (xs ++ b ∷ []) o ≡ onto xs (prepended b o)
onto_more xs b None = refl
onto_more xs b (Some bs) = ap (λ l. Some l) (append_assoc xs (b ∷ []) bs)

pub byte_read : (xs rest after : List ℕ) (b : ℕ) → rest ≡ b ∷ after → (b ≡ 92 → ⊥) → onto (xs ++ b ∷ []) (unescaped after) ≡ onto xs (unescaped rest)
byte_read xs rest after b e other = onto_more xs b (unescaped after) ∙ sym (rw (e, ne_eqb b 92 other))

pub escape_read : (xs rest after left : List ℕ) (b : ℕ) → rest ≡ 92 ∷ after → after_backslash after ≡ prepended b (unescaped left) → onto (xs ++ b ∷ []) (unescaped left) ≡ onto xs (unescaped rest)
escape_read xs rest after left b e read = onto_more xs b (unescaped left) ∙ sym (rw (e, read))

-- escaping and then reading
byte_back : (b : ℕ) (t : List ℕ) → b < 256 → unescaped (escaped_byte b ++ t) ≡ prepended b (unescaped t)
byte_back b t small =
    cond_both (is_plain b) (b ∷ []) (92 ∷ 120 ∷ digit_char (b / 16) ∷ digit_char (b % 16) ∷ []) (λ l. unescaped (l ++ t) ≡ prepended b (unescaped t))
    (λ e. let ne : eqb b 92 ≡ false = not-true _ (and_parts (leb b 126) _ (and_parts (leb 32 b) _ e).1).1 in rw ne)
    (λ e.
    let x : digit_value (digit_char (b / 16)) ≡ b / 16 = digit_value-digit_char (b / 16) (omega arith) in
    let y : digit_value (digit_char (b % 16)) ≡ b % 16 = digit_value-digit_char (b % 16) (omega arith) in
    let back : 16 * (b / 16) + b % 16 ≡ b = omega arith in
    rw (x, y, lt-ltb (b / 16) 16 (omega arith), lt-ltb (b % 16) 16 (omega arith), back))

pub undoes : (bs : List ℕ) → Bytes bs → unescaped (escaped bs) ≡ Some bs
undoes [] all = refl
undoes (b ∷ bs) all = byte_back b (escaped bs) (All-head (λ c. c < 256) b bs all) ∙ ap (prepended b) (undoes bs (All-tail (λ c. c < 256) b bs all))

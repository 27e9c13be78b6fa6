-- What `parse` reads, in the words of the format.
use Rattle.std.proofs.Common.{◌≡◌, ℕ, ◌^◌, ◌<◌, true, List, length, get_or, Some, None, Ok, Err, IsUtf8, Result, Bor, sym, arith, rules}
use Rattle.std.specs.Str.Parse.{ParsesUnsigned}
use Rattle.std.specs.Result.{result_ok, OkIff, MatchResult}
use Rattle.std.proofs.lemmas.Option.{none-some}
use Rattle.std.specs.Str.{all_ascii_digits}
use Rattle.std.proofs.lemmas.Str.Parse.{IsNumeralModel, numerals_by_fold, parse_plain}
use Rattle.std.proofs.lemmas.Fmt.{IsAscii-from_digits}
use Rattle.std.proofs.lemmas.Str.{IsUtf8-from_ascii}
use Rattle.std.proofs.lemmas.Bool.Decides.{nat_tests}
use Rattle.script.specs.Words.{digits_after, is_number, word_number}

pub own : IsNumeralModel (λ ds. all_ascii_digits ds ≡ true) (digits_after 0)
own = numerals_by_fold _ (search rules) digits_after (search rules)

-- what `is_number` tests
parts : (ds : List ℕ) → is_number ds ≡ true → (all_ascii_digits ds ≡ true) × (0 < length ds) × (digits_after 0 ds < 2 ^ 32)
parts ds h = grind (arith, nat_tests)

pub none_unless : (ds : List ℕ) → (is_number ds ≡ true → ⊥) → None ≡ word_number ds
none_unless ds never = grind (arith, nat_tests)

pub not_text : (ds : List ℕ) → (IsUtf8 ds → ⊥) → None ≡ word_number ds
not_text ds bad = none_unless ds (λ e. bad (IsUtf8-from_ascii ds (IsAscii-from_digits ds (own.to ds (parts ds e).0))))

converted : {E : Type 0} (ds : List ℕ) (r : Result ℕ E) → OkIff r ((all_ascii_digits ds ≡ true) × (0 < length ds) × (digits_after 0 ds < 2 ^ 32)) (digits_after 0 ds) → result_ok r ≡ word_number ds
converted ds (Ok x) h = grind (arith, nat_tests)
converted ds (Err e) h = grind (arith, nat_tests)

pub parsed : {E : Type 0} (ds : List ℕ) (r : Result ℕ E) → (get_or ds 0 0 ≡ 43 → ⊥) → ParsesUnsigned 32 10 ds r → result_ok r ≡ word_number ds
parsed ds r plain h = converted ds r (parse_plain own 32 ds r h plain)

-- a word as text, if it is text
pub text_of : {E : Type 0} (P : E → Type 0) (ds : List ℕ) (r : Result (Bor (List ℕ)) E) (t : Bor (List ℕ)) → MatchResult r (λ s. (s.now ≡ ds) × IsUtf8 ds) P → result_ok r ≡ Some t → t.now ≡ ds
text_of P ds (Ok s) t h e = let same : s ≡ t = cc in rw same at h.0
text_of P ds (Err d) t h e = absurd (none-some t e)

pub no_text : {E : Type 0} (P : E → Type 0) (ds : List ℕ) (r : Result (Bor (List ℕ)) E) → MatchResult r (λ s. (s.now ≡ ds) × IsUtf8 ds) (λ d. (IsUtf8 ds → ⊥) × P d) → result_ok r ≡ None → None ≡ word_number ds
no_text P ds (Ok s) h e = absurd (none-some s (sym e))
no_text P ds (Err d) h e = not_text ds h.0

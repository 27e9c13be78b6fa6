-- The end of a line.
use Rattle.std.proofs.Common.{◌≡◌, ℕ, ◌+◌, ◌-◌, true, false, eqb, length, take, drop, List, [], ◌∷◌, ◌++◌, Some, None, Option, Bor, sym, refl, ap, ◌∙◌}
use Rattle.std.specs.Option.{MatchOption, unwrap_or}
use Rattle.std.specs.Cmp.Lexicographic.{pointwise}
use Rattle.std.proofs.lemmas.Slice.Eq.{strip_suffix_is}
use Rattle.std.proofs.lemmas.Bool.Decides.{Decides-eqb}
use Rattle.std.proofs.lemmas.Bool.{ne_eqb}
use Rattle.script.specs.Lines.{without_newline}

cut_off : (l : List ℕ) → without_newline (l ++ 10 ∷ []) ≡ l
cut_off [] = refl
cut_off (b ∷ []) = refl
cut_off (b ∷ c ∷ bs) = ap (λ l. b ∷ l) (cut_off (c ∷ bs))

pub no_newline : (s : List ℕ) → ((l : List ℕ) → s ≡ l ++ 10 ∷ [] → ⊥) → s ≡ without_newline s
no_newline [] never = refl
no_newline (b ∷ []) never = rw (ne_eqb b 10 (λ e. never [] (ap (λ n. n ∷ []) e)))
no_newline (b ∷ c ∷ bs) never = ap (λ l. b ∷ l) (no_newline (c ∷ bs) (λ l e. never (b ∷ l) (ap (λ k. b ∷ k) e)))

-- what is left of a line without the newline that it may end with
stripped : (read : Bor (List ℕ)) (o : Option (Bor (List ℕ))) → MatchOption o ((l : List ℕ) → read.now ≡ l ++ 10 ∷ [] → ⊥) (λ x. read.now ≡ x.now ++ 10 ∷ []) → (unwrap_or o read).now ≡ without_newline read.now
stripped read None never = no_newline read.now never
stripped read (Some x) e = sym (ap without_newline e ∙ cut_off x.now)

-- the same, from what `strip_suffix` tells
pub line_stripped : (read : Bor (List ℕ)) (o : Option (Bor (List ℕ))) → MatchOption o (pointwise eqb (drop (length read.now - 1) read.now) (10 ∷ []) ≡ false) (λ x. (pointwise eqb (drop (length read.now - 1) read.now) (10 ∷ []) ≡ true) × (x.now ≡ take (length read.now - 1) read.now) × (length x.now + 1 ≡ length read.now)) → (unwrap_or o read).now ≡ without_newline read.now
line_stripped read o ends = stripped read o (strip_suffix_is Decides-eqb read.now (10 ∷ []) o ends)

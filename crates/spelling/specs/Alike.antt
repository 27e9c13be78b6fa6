-- When two texts name the same path: they differ only in letter case, in the kind of slash, in how many slashes
-- stand in a run, and in slashes at the ends. 65 to 90 are A to Z, 92 is the backslash, 47 the slash.
use Rattle.std.specs.Prelude.{ℕ, ◌+◌, ◌≤◌, List, [], ◌∷◌, ◌++◌}

pub data Alike : List ℕ → List ℕ → Type 0 where
  -- one change, between any two parts
  letter : (before after : List ℕ) (b : ℕ) → 65 ≤ b → b ≤ 90 → Alike (before ++ b ∷ after) (before ++ (b + 32) ∷ after)
  kind : (before after : List ℕ) → Alike (before ++ 92 ∷ after) (before ++ 47 ∷ after)
  run : (before after : List ℕ) → Alike (before ++ 47 ∷ 47 ∷ after) (before ++ 47 ∷ after)
  left_end : (text : List ℕ) → Alike (47 ∷ text) text
  right_end : (text : List ℕ) → Alike (text ++ 47 ∷ []) text
  -- any number of changes, there and back
  none : (text : List ℕ) → Alike text text
  back : (t u : List ℕ) → Alike t u → Alike u t
  then : (t u v : List ℕ) → Alike t u → Alike u v → Alike t v

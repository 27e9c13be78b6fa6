-- The laws of settling, in words of texts and paths.
use Rattle.std.specs.Prelude.{◌≡◌, ℕ, ◌≤◌, List, length, Ok}
use Rattle.spelling.specs.Alike.{Alike}
use Rattle.spelling.specs.Settled.{Settled}
use Rattle.spelling.specs.Settling.{settle}

-- what holds of every text
pub record Lawful (text : List ℕ) : Type 0 where
  -- what is granted is settled, and names the same path as the text
  pub grants_settled : (s : List ℕ) → settle text ≡ Ok s → Settled s
  pub grants_same_path : (s : List ℕ) → settle text ≡ Ok s → Alike text s
  -- a settled text is given back
  pub gives_back : Settled text → settle text ≡ Ok text
  -- texts that name the same path settle alike, if neither is over the length
  pub settles_alike : (other : List ℕ) → Alike text other → length text ≤ 120 → length other ≤ 120 → settle text ≡ settle other
  -- texts that name different paths never get one spelling
  pub keeps_apart : (other s : List ℕ) → settle text ≡ Ok s → settle other ≡ Ok s → Alike text other

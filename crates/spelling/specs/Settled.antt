-- What a settled text looks like, said of its bytes alone. 65 to 90 are A to Z, 92 is the backslash, 47 the slash.
-- Past the end of a list `slice_index` gives 0, which is none of these.
use Rattle.std.specs.Prelude.{◌≡◌, ℕ, ◌+◌, ◌-◌, ◌<◌, ◌≤◌, List, ◌++◌, length, replicate, ◌≢◌, slice_index}

-- each byte is from 0x20 to 0x7E
abbrev pub Printable : List ℕ → Type 0
Printable text = (k : ℕ) → k < length text → (32 ≤ slice_index text k) × (slice_index text k ≤ 126)

abbrev pub NoCapital : List ℕ → Type 0
NoCapital text = (k : ℕ) → 65 ≤ slice_index text k → slice_index text k ≤ 90 → ⊥

abbrev pub NoBackslash : List ℕ → Type 0
NoBackslash text = (k : ℕ) → slice_index text k ≢ 92

-- no two slashes stand together
abbrev pub NoRun : List ℕ → Type 0
NoRun text = (k : ℕ) → slice_index text k ≡ 47 → slice_index text (k + 1) ≢ 47

-- no slash stands at an end
abbrev pub NoSlashAtEnds : List ℕ → Type 0
NoSlashAtEnds text = (slice_index text 0 ≢ 47) × (slice_index text (length text - 1) ≢ 47)

abbrev pub OneToForty : List ℕ → Type 0
OneToForty text = (1 ≤ length text) × (length text ≤ 40)

-- all of this together
pub record Settled (text : List ℕ) : Type 0 where
  pub printable : Printable text
  pub lower_case : NoCapital text
  pub forward : NoBackslash text
  pub merged : NoRun text
  pub trimmed : NoSlashAtEnds text
  pub short : OneToForty text

-- how a `Spelling` keeps a text: in 40 bytes, with zeros after it
abbrev pub padded : List ℕ → List ℕ
padded text = text ++ replicate (40 - length text) 0

-- The worked cases of settling.
use Rattle.std.specs.Prelude.{◌≡◌, ℕ, List, [], ◌∷◌, ◌++◌, replicate, Ok, Err, codes, Result}
use Rattle.refusal.specs.Numbers.{number_of}
use Rattle.refusal.specs.declared.Reason.{Reason}
use Rattle.spelling.specs.Settling.{settle, settle_into}

-- the number of a refusal, and 0 for a grant
abbrev pub refusal : Result (List ℕ) Reason → ℕ
refusal (Ok s) = 0
refusal (Err reason) = number_of reason

-- so many letters `a`
abbrev pub letters : ℕ → List ℕ
letters n = replicate n 97

-- so many slashes, and then the letter `a`
abbrev pub after_slashes : ℕ → List ℕ
after_slashes n = replicate n 47 ++ letters 1

pub record SettlingCases : Type 0 where
  pub path : settle (codes "//Depot\\Art//Rock.FBX/") ≡ Ok (codes "depot/art/rock.fbx")
  pub spellings : settle (codes "art\\rock") ≡ settle (codes "Art/Rock")
  pub slash : refusal (settle (codes "/")) ≡ 3
  pub nothing : refusal (settle []) ≡ 3
  pub forty : settle (letters 40) ≡ Ok (letters 40)
  pub forty_one : refusal (settle (letters 41)) ≡ 4
  -- 120 bytes pass the length, and 121 do not
  pub longest : settle (after_slashes 119) ≡ Ok (letters 1)
  pub too_long : refusal (settle (after_slashes 120)) ≡ 1
  -- 0x20 and 0x7E are allowed, and their neighbours are not
  pub allowed : settle (32 ∷ 126 ∷ []) ≡ Ok (32 ∷ 126 ∷ [])
  pub too_low : refusal (settle (31 ∷ [])) ≡ 2
  pub too_high : refusal (settle (127 ∷ [])) ≡ 2
  -- a buffer of 40 bytes suffices, and one of 39 does not; the other refusals come first
  pub room : settle_into 40 (letters 40) ≡ Ok (letters 40)
  pub no_room : refusal (settle_into 39 (letters 1)) ≡ 8
  pub first_refusal : refusal (settle_into 39 (codes "/")) ≡ 3

-- Settling a text: the one spelling under which a path is filed. Texts are lists of bytes; 92 is the backslash, 47 the
-- slash.
use Rattle.std.specs.Prelude.{ℕ, Bool, cond, ◌&&◌, List, [], ◌∷◌, map, reverse, length, Ok, Err, Result, ◌==◌, nat_le}
use Rattle.std.specs.Char.{to_ascii_lowercase}
use Rattle.std.specs.List.{list_all}
use Rattle.refusal.specs.declared.Reason.{Reason}
use Rattle.refusal.specs.declared.Reason.TheVariants.{TextTooLong, ByteNotAllowed, SettledEmpty, SettledTooLong, BufferTooShort}

-- the bytes that a text may hold: 0x20 to 0x7E
abbrev pub allowed : ℕ → Bool
allowed b = nat_le 32 b && nat_le b 126

abbrev pub is_slash : ℕ → Bool
is_slash b = b == 47

-- a backslash becomes a slash
abbrev pub forward : ℕ → ℕ
forward b = cond (b == 92) 47 b

-- A to Z become a to z (`to_ascii_lowercase`, of std), and a backslash becomes a slash
abbrev pub plain : ℕ → ℕ
plain b = forward (to_ascii_lowercase b)

-- slashes at the left end go
abbrev pub trim_left : List ℕ → List ℕ
trim_left [] = []
trim_left (b ∷ bs) = cond (is_slash b) (trim_left bs) (b ∷ bs)

-- slashes at the right end go
abbrev pub trim_right : List ℕ → List ℕ
trim_right bs = reverse (trim_left (reverse bs))

-- a run of slashes becomes one slash: after a slash, the slashes that follow go
abbrev pub merge_runs : List ℕ → List ℕ
merge_runs [] = []
merge_runs (b ∷ bs) = b ∷ cond (is_slash b) (trim_left (merge_runs bs)) (merge_runs bs)

-- what is left of a text, before the limits are looked at
unfoldable pub spelled : List ℕ → List ℕ
spelled text = trim_right (trim_left (merge_runs (map plain text)))

-- goes on if a test passes, else refuses
abbrev pub ask : {X : Type 0} → Bool → Reason → Result X Reason → Result X Reason
ask passed reason next = cond passed next (Err reason)

-- the limits on a text, and those on the length of what is left of it
abbrev pub text_limits : {X : Type 0} → List ℕ → Result X Reason → Result X Reason
text_limits text next = ask (nat_le (length text) 120) TextTooLong (ask (list_all allowed text) ByteNotAllowed next)

abbrev pub length_limits : {X : Type 0} → ℕ → Result X Reason → Result X Reason
length_limits n next = ask (nat_le 1 n) SettledEmpty (ask (nat_le n 40) SettledTooLong next)

-- settling: the spelling, or the first refusal that applies
unfoldable pub settle : List ℕ → Result (List ℕ) Reason
settle text = text_limits text (length_limits (length (spelled text)) (Ok (spelled text)))

-- settling into a buffer with room for so many bytes: one more refusal, tested last
abbrev pub with_room : ℕ → Result (List ℕ) Reason → Result (List ℕ) Reason
with_room room (Ok s) = ask (nat_le 40 room) BufferTooShort (Ok s)
with_room room (Err reason) = Err reason

abbrev pub settle_into : ℕ → List ℕ → Result (List ℕ) Reason
settle_into room text = with_room room (settle text)

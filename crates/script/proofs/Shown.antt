-- Writing text in escapes, byte by byte.
use Rattle.std.proofs.Common.{◌≡◌, ℕ, ◌-◌, ◌^◌, ◌<◌, false, [], ◌∷◌, sym}
use Rattle.std.specs.Fmt.{padded_integral, format_spec, digits}
use Rattle.std.proofs.lemmas.Fmt.{hex_byte}
use Rattle.script.specs.Escapes.{is_plain, escaped_byte}

-- a byte in an escape, as `\\x{:02x}` writes it
pub hex_shown : (b : ℕ) → b < 256 → false ≡ is_plain b → 92 ∷ 120 ∷ padded_integral (format_spec 32 0 4 2 (2 ^ 64 - 1)) false [] (digits 16 false b) ≡ escaped_byte b
hex_shown b small other = rw (hex_byte false b small, sym other)

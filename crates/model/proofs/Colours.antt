-- Colours and the tests on them.
use Rattle.std.proofs.Common.{◌≡◌, ℕ, true, false, ◌≢◌, ◌⊎◌, sym, refl, ◌∙◌, inl, inr, Option, Some, None}
use Rattle.model.specs.declared.Colour.{Colour}
use Rattle.model.specs.declared.Colour.TheVariants.{Black, Grey, White}
use Rattle.model.specs.declared.Phase.{Phase}
use Rattle.model.specs.Machine.{Cell, at, colour, free, is_free, is_grey, is_white, slots, used}
use Rattle.model.proofs.Invariant.{Kept, Marked}
use Rattle.model.proofs.TableLaws.{at_nil}

pub some_none : (c : Colour) → Some c ≢ None
some_none c e = cc

pub free_white : {l : Option Colour} → l ≡ None → l ≡ Some White → ⊥
free_white a b = cc

pub grey_white : {l : Option Colour} → l ≡ Some Grey → l ≡ Some White → ⊥
grey_white a b = cc

pub black_or : (l : Option Colour) → (l ≡ Some Black) ⊎ (l ≢ Some Black)
black_or (Some Black) = inl refl
black_or _ = inr (λ e. cc)

pub free_slots : (x : Cell) → colour x ≡ None → (i : ℕ) → at (slots x) i ≡ 0
free_slots free e i = at_nil i
free_slots (used c k l) e i = absurd (some_none c e)

pub marked_used : (x : Cell) → Marked (colour x) → colour x ≢ None
marked_used free l e = absurd l
marked_used (used c k l) m e = some_none c e

pub free_is : (x : Cell) → is_free x ≡ true → colour x ≡ None
free_is free e = refl
free_is (used c k l) e = cc

pub free_not : (x : Cell) → is_free x ≡ false → colour x ≢ None
free_not free e = cc
free_not (used c k l) e = some_none c

pub white_is : (x : Cell) → is_white x ≡ true → colour x ≡ Some White
white_is (used White k l) e = refl
white_is _ e = cc

pub white_not : (x : Cell) → is_white x ≡ false → colour x ≢ Some White
white_not (used White k l) e z = cc
white_not _ e z = cc

pub is_white_at : (x : Cell) → colour x ≡ Some White → is_white x ≡ true
is_white_at (used White k l) z = refl
is_white_at _ z = cc

pub grey_is : (x : Cell) → is_grey x ≡ true → colour x ≡ Some Grey
grey_is (used Grey k l) e = refl
grey_is _ e = cc

pub grey_not : (x : Cell) → is_grey x ≡ false → colour x ≢ Some Grey
grey_not (used Grey k l) e z = cc
grey_not _ e z = cc

pub kept_colour : (p : Phase) (cur d : ℕ) (x y : Cell) → colour y ≡ colour x → Kept p cur d x → Kept p cur d y
kept_colour p cur d x y e h = record { in_use = λ z. h.in_use (sym e ∙ z); spared = λ z. h.spared (sym e ∙ z) }

-- Greying one cell by a call keeps the invariant: the barriers of find, settle and store.
use Rattle.std.proofs.Common.{◌≡◌, ℕ, Bool, true, false, cond, ◌&&◌, ◌≢◌, ◌⊎◌, sym, refl, ap, ◌∙◌, subst, inl, inr, Option, Some, None}
use Rattle.std.proofs.lemmas.Bool.{cond_both}
use Rattle.model.specs.declared.Colour.{Colour}
use Rattle.model.specs.declared.Colour.TheVariants.{Grey, White}
use Rattle.model.specs.declared.Phase.{Phase}
use Rattle.model.specs.declared.Phase.TheVariants.{Tracing}
use Rattle.model.specs.Book.{Book}
use Rattle.model.specs.Cycle.{grey_if, greyed, repeating}
use Rattle.model.specs.Machine.{Cell, State, colour, is_white, upd}
use Rattle.model.proofs.Colours.{grey_white, white_is, white_not}
use Rattle.model.proofs.GreyingKeeps.{AllGreyer, Greys, Repeats, Turn, grey_one, greyed_grey, greyer_greyed, greyer_refl, greying_keeps, greys_refl, marked_one, stays, turns}
use Rattle.model.proofs.Invariant.{ColourOk, Greying, Inv, Marked, Spared}
use Rattle.model.proofs.PhaseCases.{greying_cases}
use Rattle.model.proofs.TableLaws.{upd_elim}

greying_spared : (p : Phase) (cur d : ℕ) → Greying p → Spared p cur d
greying_spared p cur d = greying_cases (λ q. Spared q cur d) tt tt tt tt p

greying_grey : (p : Phase) (cur d : ℕ) → Greying p → ColourOk (repeating p) cur d (Some Grey)
greying_grey p cur d = greying_cases (λ q. ColourOk (repeating q) cur d (Some Grey)) (λ z. cc) tt tt tt p

greying_colour : (p : Phase) (cur d : ℕ) (l : Option Colour) → Greying p → ColourOk p cur d l → ColourOk (repeating p) cur d l
greying_colour p cur d l = greying_cases (λ q. ColourOk q cur d l → ColourOk (repeating q) cur d l) (λ h. h) (λ h. tt) (λ h. tt)
    (λ h. tt) p

pub repeats_repeating : (p : Phase) → Repeats p (repeating p)
repeats_repeating Tracing = turns
repeats_repeating _ = stays

-- cells and phase after a call greyed cell c, if a test passed
abbrev pub cells_if : Bool → (ℕ → Cell) → ℕ → ℕ → Cell
cells_if t f c = cond t (upd f c (greyed (f c))) f

abbrev pub phase_if : Bool → Cell → Phase → Phase
phase_if t x p = cond (t && is_white x) (repeating p) p

pub greyer_if : (t : Bool) (f : ℕ → Cell) (c : ℕ) → AllGreyer f (cells_if t f c)
greyer_if true f c = grey_one f c
greyer_if false f c = λ d. greyer_refl (f d)

pub marked_if : (t : Bool) (f : ℕ → Cell) (c : ℕ) → t ≡ true → colour (f c) ≢ None → Marked (colour (cells_if t f c c))
marked_if true f c e n = marked_one f c n
marked_if false f c e n = cc

-- what is grey or black was so, or is the cell greyed
pub marked_was : (t : Bool) (f : ℕ → Cell) (c d : ℕ) → Marked (colour (cells_if t f c d)) → Marked (colour (f d)) ⊎ (c ≡ d)
marked_was false f c d l = inl l
marked_was true f c d l = upd_elim (λ y. Marked (colour y) → Marked (colour (f d)) ⊎ (c ≡ d)) f c d (greyed (f c)) (λ e h. inr e)
    (λ e h. inl h) l

module _ (f : ℕ → Cell) (p : Phase) (cur c : ℕ) (greying : colour (f c) ≡ Some White → Greying p) where
  spare_one : (d : ℕ) → colour (f d) ≡ Some White → colour (upd f c (greyed (f c)) d) ≡ Some Grey → Spared p cur d
  spare_one d a b = upd_elim (λ y. colour y ≡ Some Grey → Spared p cur d) f c d (greyed (f c))
      (λ e z. greying_spared p cur d (greying (ap (λ (m : ℕ). colour (f m)) e ∙ a))) (λ n z. absurd (grey_white z a)) b

  colours_one : ((d : ℕ) → ColourOk p cur d (colour (f d))) →
      (d : ℕ) → ColourOk (phase_if true (f c) p) cur d (colour (upd f c (greyed (f c)) d))
  colours_one h d = cond_both (is_white (f c)) (repeating p) p (λ q. ColourOk q cur d (colour (upd f c (greyed (f c)) d)))
      (λ e. upd_elim (λ y. ColourOk (repeating p) cur d (colour y)) f c d (greyed (f c)) (λ q. turned (white_is (f c) e))
      (λ n. greying_colour p cur d _ (greying (white_is (f c) e)) (h d)))
      (λ e. upd_elim (λ y. ColourOk p cur d (colour y)) f c d (greyed (f c)) (λ q. still q (greyer_greyed (f c)).how e)
      (λ n. h d))
    where
      turned : colour (f c) ≡ Some White → ColourOk (repeating p) cur d (colour (greyed (f c)))
      turned e = subst (λ (l : Option Colour). ColourOk (repeating p) cur d l) (sym (greyed_grey (f c) e))
          (greying_grey p cur d (greying e))

      still : c ≡ d → Turn (colour (f c)) (colour (greyed (f c))) → is_white (f c) ≡ false →
          ColourOk p cur d (colour (greyed (f c)))
      still q (inl a) e = subst (λ (l : Option Colour). ColourOk p cur d l) (sym (a ∙ ap (λ (m : ℕ). colour (f m)) q)) (h d)
      still q (inr a) e = absurd (white_not (f c) e a.0)

  repeats_one : Repeats p (phase_if true (f c) p)
  repeats_one = cond_both (is_white (f c)) (repeating p) p (λ q. Repeats p q) (λ z. repeats_repeating p) (λ z. stays)

-- greying one cell is greying, where only spared records are greyed
pub greys_if : (t : Bool) (f : ℕ → Cell) (p : Phase) (cur c : ℕ) → (t ≡ true → colour (f c) ≡ Some White → Greying p) →
    Greys f (cells_if t f c) p (phase_if t (f c) p) cur
greys_if true f p cur c greying = record {
  greyer = grey_one f c;
  repeats = repeats_one f p cur c (greying refl);
  spare = spare_one f p cur c (greying refl);
  colours = colours_one f p cur c (greying refl);
}
greys_if false f p cur c greying = greys_refl f p cur

pub grey_keeps : (s : State) (b : Book) (place : ℕ → ℕ) (t : Bool) (c : ℕ) → Inv s b place →
    (t ≡ true → colour (s.cell c) ≡ Some White → Greying s.phase) → Inv (grey_if t s c) b place
grey_keeps s b place t c inv greying = greying_keeps s b place (cells_if t s.cell c) (phase_if t (s.cell c) s.phase) inv
    (greys_if t s.cell s.phase s.cursor c greying)

-- Greying keeps the invariant, whatever spared records become grey.
use Rattle.std.proofs.Common.{◌≡◌, ℕ, zero, suc, Bool, ◌≢◌, ◌⊎◌, List, [], ◌∷◌, sym, refl, ap, ◌∙◌, subst, inl, inr, Option, Some, None, arith}
use Rattle.model.specs.declared.Colour.{Colour}
use Rattle.model.specs.declared.Colour.TheVariants.{Black, Grey, White}
use Rattle.model.specs.declared.Phase.{Phase}
use Rattle.model.specs.declared.Phase.TheVariants.{Cleaning, Repeat, Tracing}
use Rattle.model.specs.Book.{Book}
use Rattle.model.specs.Cycle.{grey_all, greyed}
use Rattle.model.specs.Machine.{Card, Cell, Job, State, at, at_phase, card_of, colour, slots, upd, with_cells}
use Rattle.model.proofs.Carried.{Shrinks, cards_move, job_move, leads_move, protected_map, recs_move}
use Rattle.model.proofs.Colours.{grey_white}
use Rattle.model.proofs.Invariant.{CardsOk, ColourOk, Flags, Greying, HeapOk, Inv, JobOk, Kept, Live, Marked, Marking, Protected, Spared}
use Rattle.model.proofs.TableLaws.{upd_elim}

-- a colour stays, or turns from white to grey
abbrev pub Turn : Option Colour → Option Colour → Type 0
Turn a b = (b ≡ a) ⊎ ((a ≡ Some White) × (b ≡ Some Grey))

-- a cell before and after: the same record, perhaps turned from white to grey
pub record Greyer (x y : Cell) : Type 0 where
  pub same_slots : slots y ≡ slots x
  pub same_card : card_of y ≡ card_of x
  pub how : Turn (colour x) (colour y)

pub greyer_refl : (x : Cell) → Greyer x x
greyer_refl x = grind arith

greyer_trans : {x y z : Cell} → Greyer x y → Greyer y z → Greyer x z
greyer_trans a b = grind arith

pub greyer_greyed : (x : Cell) → Greyer x (greyed x)
greyer_greyed x = grind arith

abbrev pub AllGreyer : (ℕ → Cell) → (ℕ → Cell) → Type 0
AllGreyer f g = (d : ℕ) → Greyer (f d) (g d)

pub grey_one : (f : ℕ → Cell) (c : ℕ) → AllGreyer f (upd f c (greyed (f c)))
grey_one f c = grind arith

pub grey_list : (f : ℕ → Cell) (l : List ℕ) → AllGreyer f (grey_all f l)
unfolding grey_all
grey_list f [] d = greyer_refl (f d)
grey_list f (v ∷ vs) d = greyer_trans (grey_one f v d) (grey_list (upd f v (greyed (f v))) vs d)

pub marked_greyer : {x y : Cell} → Greyer x y → Marked (colour x) → Marked (colour y)
marked_greyer a l = grind arith

pub used_greyer : {x y : Cell} → Greyer x y → colour x ≢ None → colour y ≢ None
used_greyer a n = grind arith

pub unused_greyer : {x y : Cell} → Greyer x y → colour y ≢ None → colour x ≢ None
unused_greyer a n = grind arith

black_greyer : {x y : Cell} → Greyer x y → colour y ≡ Some Black → colour x ≡ Some Black
black_greyer a v = grind arith

pub none_greyer : {x y : Cell} → Greyer x y → colour x ≡ None → colour y ≡ None
none_greyer a v = grind arith

pub greyed_grey : (x : Cell) → colour x ≡ Some White → colour (greyed x) ≡ Some Grey
greyed_grey x e = grind arith

pub marked_one : (f : ℕ → Cell) (c : ℕ) → colour (f c) ≢ None → Marked (colour (upd f c (greyed (f c)) c))
marked_one f c n = grind arith

pub marked_list : (f : ℕ → Cell) (l : List ℕ) (i : ℕ) → at l i ≢ 0 → colour (f (at l i)) ≢ None →
    Marked (colour (grey_all f l (at l i)))
unfolding grey_all
marked_list f [] zero h n = absurd (h refl)
marked_list f [] (suc i) h n = absurd (h refl)
marked_list f (v ∷ vs) zero h n = absurd (h refl)
marked_list f (v ∷ vs) (suc zero) h n = marked_greyer (grey_list (upd f v (greyed (f v))) vs v) (marked_one f v n)
marked_list f (v ∷ vs) (suc (suc i)) h n = marked_list (upd f v (greyed (f v))) vs (suc i) h (used_greyer (grey_one f v _) n)

-- what is grey or black after greying a list was so, or stands in the list
pub marked_in : (f : ℕ → Cell) (l : List ℕ) (d : ℕ) → Marked (colour (grey_all f l d)) →
    Marked (colour (f d)) ⊎ ((i : ℕ) × (at l i ≡ d))
unfolding grey_all
marked_in f [] d h = inl h
marked_in f (v ∷ vs) d h = go (marked_in (upd f v (greyed (f v))) vs d h)
  where
    one : Marked (colour (upd f v (greyed (f v)) d)) → Marked (colour (f d)) ⊎ ((i : ℕ) × (at (v ∷ vs) i ≡ d))
    one = upd_elim (λ y. Marked (colour y) → Marked (colour (f d)) ⊎ ((i : ℕ) × (at (v ∷ vs) i ≡ d))) f v d (greyed (f v))
        (λ e z. inr (1, e)) (λ e z. inl z)

    after : (i : ℕ) → at vs i ≡ d → Marked (colour (f d)) ⊎ ((i : ℕ) × (at (v ∷ vs) i ≡ d))
    after zero e = inr (0, e)
    after (suc i) e = inr (suc (suc i), e)

    go : Marked (colour (upd f v (greyed (f v)) d)) ⊎ ((i : ℕ) × (at vs i ≡ d)) →
        Marked (colour (f d)) ⊎ ((i : ℕ) × (at (v ∷ vs) i ≡ d))
    go (inl z) = one z
    go (inr z) = after z.0 z.1

-- the phase stays, or goes from TRACING to REPEAT
pub data Repeats : Phase → Phase → Type 0 where
  stays : {p : Phase} → Repeats p p
  turns : Repeats Tracing Repeat

pub repeats_marking : {p q : Phase} → Repeats p q → Marking q → Marking p
repeats_marking h t = grind arith

pub repeats_greying : {p q : Phase} → Repeats p q → Greying p → Greying q
repeats_greying h t = grind arith

repeats_flags : {p q : Phase} (a o : Bool) → Repeats p q → Flags p a o → Flags q a o
repeats_flags a o h t = grind arith

repeats_uncleaning : {p q : Phase} → Repeats p q → q ≡ Cleaning → p ≡ Cleaning
repeats_uncleaning h e = grind arith

-- cells and phase before and after some records were greyed: only spared ones
pub record Greys (f g : ℕ → Cell) (p q : Phase) (cur : ℕ) : Type 0 where
  pub greyer : AllGreyer f g
  pub repeats : Repeats p q
  pub spare : (d : ℕ) → colour (f d) ≡ Some White → colour (g d) ≡ Some Grey → Spared p cur d
  pub colours : ((d : ℕ) → ColourOk p cur d (colour (f d))) → (d : ℕ) → ColourOk q cur d (colour (g d))

pub greys_refl : (f : ℕ → Cell) (p : Phase) (cur : ℕ) → Greys f f p p cur
greys_refl f p cur = record {
  greyer = λ d. greyer_refl (f d);
  repeats = stays;
  spare = λ d a b. absurd (grey_white b a);
  colours = λ h. h;
}

module _ {f g : ℕ → Cell} {p q : Phase} {cur : ℕ} (gr : Greys f g p q cur) where
  pub grey_keep : (d : ℕ) → Kept p cur d (f d) → Kept q cur d (g d)
  grey_keep d k = grind arith

  pub grey_unkeep : (d : ℕ) → Kept q cur d (g d) → Kept p cur d (f d)
  grey_unkeep d k = grind arith

  pub grey_live : (x : Card) → Live f p x → Live g q x
  grey_live x l = grind arith

  grey_unlive : (x : Card) → Live g q x → Live f p x
  grey_unlive x l = grind arith

  grey_protected : {c : ℕ} → Protected f c → Protected g c
  grey_protected = protected_map f g (λ d l. marked_greyer (gr.greyer d) l)
      (λ r i n z. inr ((λ e. n (black_greyer (gr.greyer r) e)), ap (λ (l : List ℕ). at l i) (gr.greyer r).same_slots))

  grey_shrinks : Shrinks f g p q cur cur
  grey_shrinks = grind arith

  grey_heap : (size : ℕ) → HeapOk size f p cur → HeapOk size g q cur
  grey_heap size ok = record {
    no_zero = none_greyer (gr.greyer 0) ok.no_zero;
    inside = λ c n. ok.inside c (unused_greyer (gr.greyer c) n);
    colours = gr.colours ok.colours;
    leads = leads_move grey_shrinks grey_keep ok.leads;
    protects = λ t c e i. subst (λ (l : List ℕ). at l i ≢ 0 → Protected g (at l i)) (sym (gr.greyer c).same_slots)
        (λ z. grey_protected (ok.protects (repeats_marking gr.repeats t) c (black_greyer (gr.greyer c) e) i z));
  }

  grey_job : (j : ℕ) (b : Job) → JobOk f p cur j b → JobOk g q cur j b
  grey_job j b ok = job_move j b grey_keep
      (λ t w h z. grey_protected (ok.protected (repeats_marking gr.repeats t) w h z))
      (repeats_flags b.armed b.owes gr.repeats) ok

  grey_cards : (card : ℕ → Card) → CardsOk f p cur card → CardsOk g q cur card
  grey_cards card ok = cards_move grey_shrinks.kept grey_shrinks.same_card (record {
    unlive = λ k. grey_unlive (card k);
    lives = λ k l h. grey_keep _ h;
    clears = λ e k lo hi n z. go _ _ (ok.cleared (repeats_uncleaning gr.repeats e) k lo hi n) z
        (gr.greyer (card k).record_at).how;
  }) ok
    where
      go : (x y : Option Colour) → x ≢ Some White → y ≡ Some White → Turn x y → ⊥
      go x y a z (inl h) = a (sym h ∙ z)
      go x y a z (inr h) = a h.0

pub greying_keeps : (s : State) (b : Book) (place : ℕ → ℕ) (g : ℕ → Cell) (q : Phase) → Inv s b place →
    Greys s.cell g s.phase q s.cursor → Inv (at_phase (with_cells s g) q s.cursor s.rounds) b place
greying_keeps s b place g q inv gr = record {
  heap = grey_heap gr s.size inv.heap;
  jobs = λ j. grey_job gr j (s.job j) (inv.jobs j);
  cards = grey_cards gr s.card inv.cards;
  hands = inv.hands;
  recs = recs_move
      (grey_shrinks gr) (λ k. grey_unlive gr (s.card k)) (λ d n. used_greyer (gr.greyer d) n)
      (λ d n. unused_greyer (gr.greyer d) n) inv.recs;
  lasts = inv.lasts;
}

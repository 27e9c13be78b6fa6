-- The visit of a grey cell by a trace step keeps the invariant.
use Rattle.std.proofs.Common.{◌≡◌, ℕ, ◌≢◌, ◌⊎◌, List, sym, refl, ap, ◌∙◌, subst, inl, inr, Some, None}
use Rattle.std.proofs.lemmas.Bool.{cases_eq}
use Rattle.model.specs.declared.Colour.TheVariants.{Black, Grey}
use Rattle.model.specs.declared.Phase.TheVariants.{Repeat}
use Rattle.model.specs.Book.{Book}
use Rattle.model.specs.Cycle.{grey_all, scanned}
use Rattle.model.specs.Machine.{Cell, State, at, at_phase, card_of, colour, free, painted, slots, upd, used, with_cells}
use Rattle.model.proofs.Carried.{Shrinks, cards_move, job_move, leads_move, protected_map, recs_move}
use Rattle.model.proofs.GreyingKeeps.{Greyer, Repeats, grey_list, greying_keeps, marked_list, used_greyer}
use Rattle.model.proofs.Invariant.{Inv, Kept, Live, Marked, Protected, Spared, marked}
use Rattle.model.proofs.TableLaws.{upd_all, upd_elim, upd_other}

-- blackening a grey cell whose slots are grey or black
black_slots : (x : Cell) → slots (painted Black x) ≡ slots x
black_slots free = refl
black_slots (used c k l) = refl

black_card : (x : Cell) → card_of (painted Black x) ≡ card_of x
black_card free = refl
black_card (used c k l) = refl

pub black_colour : (x : Cell) → colour x ≢ None → colour (painted Black x) ≡ Some Black
black_colour free n = absurd (n refl)
black_colour (used c k l) n = refl

module _ (f : ℕ → Cell) (cur c : ℕ) (n : colour (f c) ≢ None) (all : (i : ℕ) → at (slots (f c)) i ≢ 0 →
    Marked (colour (f (at (slots (f c)) i)))) where
  abbrev g : ℕ → Cell
  g = upd f c (painted Black (f c))

  black_same : (d : ℕ) → (slots (g d) ≡ slots (f d)) × (card_of (g d) ≡ card_of (f d))
  black_same d = upd_elim (λ y. (slots y ≡ slots (f d)) × (card_of y ≡ card_of (f d))) f c d (painted Black (f c))
      (λ e. (black_slots (f c) ∙ ap (λ (m : ℕ). slots (f m)) e, black_card (f c) ∙ ap (λ (m : ℕ). card_of (f m)) e))
      (λ e. (refl, refl))

  black_to : (d : ℕ) → colour (f d) ≢ None → colour (g d) ≢ None
  black_to d h = upd_elim (λ y. colour y ≢ None) f c d (painted Black (f c)) (λ e z. let w = black_colour (f c) n in cc)
      (λ e. h)

  black_from : (d : ℕ) → colour (g d) ≢ None → colour (f d) ≢ None
  black_from d = upd_elim (λ y. colour y ≢ None → colour (f d) ≢ None) f c d (painted Black (f c))
      (λ e h z. n (ap (λ (m : ℕ). colour (f m)) e ∙ z)) (λ e h. h)

  black_marked : (d : ℕ) → Marked (colour (f d)) → Marked (colour (g d))
  black_marked d h = upd_elim (λ y. Marked (colour y)) f c d (painted Black (f c))
      (λ e. subst Marked (sym (black_colour (f c) n)) tt) (λ e. h)

  black_protected : {d : ℕ} → Protected f d → Protected g d
  black_protected = protected_map f g black_marked (λ q i u z. go q i u z (cases_eq c q))
    where
      go : (q i : ℕ) → colour (f q) ≢ Some Black → at (slots (f q)) i ≢ 0 → (c ≡ q) ⊎ (c ≡ q → ⊥) →
          Marked (colour (g (at (slots (f q)) i))) ⊎ ((colour (g q) ≢ Some Black) × (at (slots (g q)) i ≡ at (slots (f q)) i))
      go q i u z (inl e) = inl (black_marked _
          (subst (λ (m : ℕ). at (slots (f m)) i ≢ 0 → Marked (colour (f (at (slots (f m)) i)))) e (all i) z))
      go q i u z (inr e) = inr (subst (λ (y : Cell). (colour y ≢ Some Black) × (at (slots y) i ≡ at (slots (f q)) i))
          (sym (upd_other f c q (painted Black (f c)) e)) (u, refl))

black_keeps : (s : State) (b : Book) (place : ℕ → ℕ) (c : ℕ) → Inv (at_phase s Repeat s.cursor s.rounds) b place →
    colour (s.cell c) ≢ None → ((i : ℕ) → at (slots (s.cell c)) i ≢ 0 → Marked (colour (s.cell (at (slots (s.cell c)) i)))) →
    Inv (at_phase (with_cells s (upd s.cell c (painted Black (s.cell c)))) Repeat s.cursor s.rounds) b place
black_keeps s b place c inv n all = record {
  heap = record {
    no_zero = upd_elim (λ y. colour y ≡ None) f c 0 (painted Black (f c))
        (λ e. absurd (n (ap (λ (m : ℕ). colour (f m)) e ∙ inv.heap.no_zero))) (λ e. inv.heap.no_zero);
    inside = λ d h. inv.heap.inside d (black_from f cur c n all d h);
    colours = λ d. tt;
    leads = leads_move sh keep inv.heap.leads;
    protects = λ t. upd_all (λ d y. colour y ≡ Some Black → (i : ℕ) → at (slots y) i ≢ 0 →
        Protected (upd f c (painted Black (f c))) (at (slots y) i)) f c (painted Black (f c))
        (λ h. subst (λ (l : List ℕ). (i : ℕ) → at l i ≢ 0 → Protected (upd f c (painted Black (f c))) (at l i))
        (sym (black_slots (f c))) (λ i z. marked (black_marked f cur c n all _ (all i z))))
        (λ d e h i z. black_protected f cur c n all (inv.heap.protects tt d h i z));
  };
  jobs = λ j. job_move j (s.job j) keep (λ t o h z. black_protected f cur c n all ((inv.jobs j).protected t o h z)) (λ g. g)
      (inv.jobs j);
  cards = cards_move sh.kept sh.same_card (record { unlive = unlive; lives = λ k l h. keep _ h; clears = λ q. cc })
      inv.cards;
  hands = inv.hands;
  recs = recs_move sh unlive (black_to f cur c n all) (black_from f cur c n all) inv.recs;
  lasts = inv.lasts;
}
  where
    f : ℕ → Cell
    f = s.cell

    cur : ℕ
    cur = s.cursor

    keep : (d : ℕ) → Kept Repeat cur d (f d) → Kept Repeat cur d (upd f c (painted Black (f c)) d)
    keep d k = record { in_use = black_to f cur c n all d k.in_use; spared = λ e. tt }

    unlive : (k : ℕ) → Live (upd f c (painted Black (f c))) Repeat (s.card k) → Live f Repeat (s.card k)
    unlive k l = record { filled = l.filled; not_white = λ q. cc }

    sh : Shrinks f (upd f c (painted Black (f c))) Repeat Repeat cur cur
    sh = record {
      kept = λ d k. record { in_use = black_from f cur c n all d k.in_use; spared = λ e. tt };
      same_slots = λ d k. (black_same f cur c n all d).0;
      same_card = λ d k. (black_same f cur c n all d).1;
    }

-- a trace step at a grey cell
pub scan_keeps : (s : State) (b : Book) (place : ℕ → ℕ) → Inv s b place → Repeats s.phase Repeat →
    ((d : ℕ) → Spared s.phase s.cursor d) → colour (s.cell s.cursor) ≡ Some Grey → Inv (scanned s) b place
unfolding scanned
scan_keeps s b place inv rep spare e = black_keeps (at_phase (with_cells s g) Repeat s.cursor s.rounds) b place s.cursor
    (greying_keeps s b place g Repeat inv (record { greyer = bl; repeats = rep; spare = λ d a z. spare d; colours = λ h d. tt }))
    (used_greyer (bl s.cursor) used_c)
    (subst (λ (l : List ℕ). (i : ℕ) → at l i ≢ 0 → Marked (colour (g (at l i)))) (sym (bl s.cursor).same_slots)
    (λ i z. marked_list s.cell (slots (s.cell s.cursor)) i z
    (inv.heap.leads s.cursor (record { in_use = used_c; spared = λ q. spare s.cursor }) i z).in_use))
  where
    g : ℕ → Cell
    g = grey_all s.cell (slots (s.cell s.cursor))

    bl : (d : ℕ) → Greyer (s.cell d) (g d)
    bl = grey_list s.cell (slots (s.cell s.cursor))

    used_c : colour (s.cell s.cursor) ≢ None
    used_c z = cc

-- The sweep's visit of a cell keeps the invariant.
use Rattle.std.proofs.Common.{◌≡◌, ℕ, suc, ◌<◌, ◌≢◌, sym, refl, ap, ◌∙◌, subst, arith, Some, None}
use Rattle.model.specs.declared.Colour.TheVariants.{Black, Grey}
use Rattle.model.specs.declared.Phase.TheVariants.{Sweeping}
use Rattle.model.specs.Book.{Book}
use Rattle.model.specs.Cycle.{swept, swept_cell}
use Rattle.model.specs.Machine.{Cell, State, at_phase, card_of, colour, free, slots, upd, used}
use Rattle.model.specs.Runs.{standing}
use Rattle.model.proofs.Carried.{Shrinks, cards_move, job_move, leads_move, rec_move}
use Rattle.model.proofs.Invariant.{Inv, Kept, Live, RecOk, StandsFor}
use Rattle.model.proofs.TableLaws.{upd_all, upd_elim}

-- a record whose cell is still used keeps its place
standing_stays : (place : ℕ → ℕ) (s : State) (r : ℕ) → colour (s.cell (place r)) ≢ None → standing place s r ≡ place r
standing_stays place s r n = grind arith

standing_zero : (place : ℕ → ℕ) (s : State) (r : ℕ) → place r ≡ 0 → standing place s r ≡ 0
standing_zero place s r z = grind arith

-- a record that has a place had it before, and its cell is used
pub standing_was : (place : ℕ → ℕ) (s : State) (r : ℕ) → standing place s r ≢ 0 →
    (standing place s r ≡ place r) × (colour (s.cell (place r)) ≢ None)
standing_was place s r h = grind arith

standing_for : (place : ℕ → ℕ) (s : State) (r v : ℕ) → (v ≢ 0 → colour (s.cell v) ≢ None) → StandsFor place r v →
    StandsFor (standing place s) r v
standing_for place s r v n h = grind arith

-- a step that frees nothing leaves every place
pub standing_same : (s : State) (b : Book) (place : ℕ → ℕ) → Inv s b place → Inv s b (standing place s)
standing_same s b place inv = grind arith

-- what the sweep makes of a cell
swept_kept : (cur : ℕ) (x : Cell) → Kept Sweeping (suc cur) cur (swept_cell x) →
    Kept Sweeping cur cur x × (slots (swept_cell x) ≡ slots x) × (card_of (swept_cell x) ≡ card_of x)
swept_kept cur x k = grind arith

swept_keep : (cur : ℕ) (x : Cell) → Kept Sweeping cur cur x → Kept Sweeping (suc cur) cur (swept_cell x)
swept_keep cur x k = grind arith

swept_colour : (cur : ℕ) (x : Cell) → colour x ≢ Some Grey →
    (colour (swept_cell x) ≢ Some Grey) × (colour (swept_cell x) ≢ Some Black)
swept_colour cur x n = grind arith

swept_used : (x : Cell) → colour (swept_cell x) ≢ None → colour x ≢ None
swept_used x n = grind arith

pub sweep_keeps : (s : State) (b : Book) (place : ℕ → ℕ) (r : ℕ) → Inv (at_phase s Sweeping s.cursor s.rounds) b place →
    Inv (at_phase (swept s) Sweeping (suc s.cursor) r) b (standing place (swept s))
sweep_keeps s b place r inv = record {
  heap = record {
    no_zero = upd_elim (λ y. colour y ≡ None) f c 0 (swept_cell (f c))
        (λ e. vac0 (f c) (ap (λ (m : ℕ). colour (f m)) e ∙ inv.heap.no_zero)) (λ e. inv.heap.no_zero);
    inside = λ d n. inv.heap.inside d (from d n);
    colours = upd_all (λ d y. (colour y ≢ Some Grey) × (d < suc c → colour y ≢ Some Black)) f c (swept_cell (f c))
        (let h = swept_colour c (f c) (inv.heap.colours c).0 in (h.0, λ q. h.1))
        (λ d e. ((inv.heap.colours d).0, λ q. (inv.heap.colours d).1 (less d e q)));
    leads = leads_move sh keep inv.heap.leads;
    protects = λ t. absurd t;
  };
  jobs = λ j. job_move j (s.job j) keep (λ t. absurd t) (λ g. g) (inv.jobs j);
  cards = cards_move sh.kept sh.same_card (record { unlive = unlive; lives = λ k l h. keep _ h; clears = λ q. cc })
      inv.cards;
  hands = λ j h. standing_for place (swept s) _ _ (λ n. (keep _ ((inv.jobs j).roots h n)).in_use) (inv.hands j h);
  recs = record {
    none_at = standing_zero place (swept s) 0 inv.recs.none_at;
    unmade = λ t h. standing_zero place (swept s) t (inv.recs.unmade t h);
    unmade_slots = inv.recs.unmade_slots;
    one_place = λ t u e n. let a = standing_was place (swept s) t n in let d = standing_was place (swept s) u (λ z. n (e ∙ z)) in
        inv.recs.one_place t u (sym a.0 ∙ e ∙ d.0) (λ z. n (a.0 ∙ z));
    stands = λ t n. let a = standing_was place (swept s) t n in subst (λ (m : ℕ). colour (g m) ≢ None) (sym a.0) a.1;
    owner = λ d n. let o = inv.recs.owner d (from d n) in
        (o.0, standing_stays place (swept s) o.0 (subst (λ (m : ℕ). colour (g m) ≢ None) (sym o.1) n) ∙ o.1);
    recs = λ t n. let a = standing_was place (swept s) t n in subst (λ (m : ℕ). Kept Sweeping (suc c) m (g m) →
        RecOk s.card (standing place (swept s)) (b.width t) (b.slot t) (b.name t) (g m)) (sym a.0)
        (λ k. again t (λ z. n (a.0 ∙ z)) k);
    newest = λ k l. standing_stays place (swept s) _
        (subst (λ (m : ℕ). colour (g m) ≢ None) (sym (inv.recs.newest k (unlive k l)))
        (keep _ (inv.cards.live k (unlive k l)).0).in_use) ∙ inv.recs.newest k (unlive k l);
  };
  lasts = inv.lasts;
}
  where
    f : ℕ → Cell
    f = s.cell

    c : ℕ
    c = s.cursor

    g : ℕ → Cell
    g = upd f c (swept_cell (f c))

    vac0 : (x : Cell) → colour x ≡ None → colour (swept_cell x) ≡ None
    vac0 free e = refl
    vac0 (used c k l) e = cc

    less : (d : ℕ) → c ≢ d → d < suc c → d < c
    less d n h = omega arith

    from : (d : ℕ) → colour (g d) ≢ None → colour (f d) ≢ None
    from = upd_all (λ d y. colour y ≢ None → colour (f d) ≢ None) f c (swept_cell (f c)) (swept_used (f c)) (λ d e n. n)

    keep : (d : ℕ) → Kept Sweeping c d (f d) → Kept Sweeping (suc c) d (g d)
    keep = upd_all (λ d y. Kept Sweeping c d (f d) → Kept Sweeping (suc c) d y) f c (swept_cell (f c)) (swept_keep c (f c))
        (λ d e k. record { in_use = k.in_use; spared = λ q. let h = k.spared q in omega arith })

    old : (d : ℕ) → Kept Sweeping (suc c) d (g d) →
        Kept Sweeping c d (f d) × (slots (g d) ≡ slots (f d)) × (card_of (g d) ≡ card_of (f d))
    old = upd_all (λ d y. Kept Sweeping (suc c) d y →
        Kept Sweeping c d (f d) × (slots y ≡ slots (f d)) × (card_of y ≡ card_of (f d))) f c (swept_cell (f c))
        (swept_kept c (f c)) (λ d e k. (record { in_use = k.in_use; spared = λ q. less d e (k.spared q) }, refl, refl))

    sh : Shrinks f g Sweeping Sweeping c (suc c)
    sh = record { kept = λ d k. (old d k).0; same_slots = λ d k. (old d k).1; same_card = λ d k. (old d k).2 }

    unlive : (k : ℕ) → Live g Sweeping (s.card k) → Live f Sweeping (s.card k)
    unlive k l = record { filled = l.filled; not_white = λ q. cc }

    again : (t : ℕ) → place t ≢ 0 → Kept Sweeping (suc c) (place t) (g (place t)) →
        RecOk s.card (standing place (swept s)) (b.width t) (b.slot t) (b.name t) (g (place t))
    again t n k = record {
      wide = o.wide;
      holds = λ i. standing_for place (swept s) _ _ (λ z. (leads_move sh keep inv.heap.leads (place t) k i z).in_use)
          (o.holds i);
      bears = o.bears;
    }
      where
        o : RecOk s.card place (b.width t) (b.slot t) (b.name t) (g (place t))
        o = rec_move (f (place t)) (g (place t)) (old (place t) k).1 (old (place t) k).2
            (inv.recs.recs t n (old (place t) k).0)

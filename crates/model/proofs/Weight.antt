-- The weight of the heap: 2 for each white cell, 1 for each grey one. While tracing no call of a job makes it heavier, and
-- one that turns TRACING into REPEAT makes it lighter.
use Rattle.std.proofs.Common.{◌≡◌, ℕ, zero, suc, ◌+◌, ◌*◌, ◌<◌, ◌≤◌, Bool, true, false, ◌&&◌, T, ◌≢◌, ◌⊎◌, List, sym, refl, ap, ◌∙◌, subst, inl, inr, arith, Option, Some, None}
use Rattle.std.proofs.lemmas.Bool.{cases_eq, cond_both}
use Rattle.model.specs.declared.Colour.{Colour}
use Rattle.model.specs.declared.Colour.TheVariants.{Grey, White}
use Rattle.model.specs.declared.Phase.{Phase}
use Rattle.model.specs.declared.Phase.TheVariants.{Repeat, Tracing}
use Rattle.model.specs.Book.{Book}
use Rattle.model.specs.Calls.{Action, text}
use Rattle.model.specs.Cycle.{grey_if, greyed, new_colour, nodded, repeating}
use Rattle.model.specs.Machine.{Card, Cell, Job, State, at, colour, filed, is_tracing, is_white, slots, upd, with_cards, with_jobs}
use Rattle.model.specs.Tables.{barrier, filed_on, find_greys, found_into, job_effect, set_slot, settle_on, store_greys_new, stored, taken, vacant_card}
use Rattle.model.proofs.BarrierKeeps.{greyer_if, repeats_repeating}
use Rattle.model.proofs.CallsByEffect.{Effect, finds, makes, nods, rows_alone, settles_name, stores}
use Rattle.model.proofs.Colours.{white_is}
use Rattle.model.proofs.GreyingKeeps.{Greyer, Repeats, grey_one, greyed_grey, none_greyer, stays, turns, unused_greyer}
use Rattle.model.proofs.Invariant.{Inv}
use Rattle.model.proofs.JobRowsKeep.{nod_greys}
use Rattle.model.proofs.PhaseCases.{tracing_cases}
use Rattle.model.proofs.SlotWriteKeeps.{slot_same_colour}
use Rattle.model.proofs.TableLaws.{upd_elim, upd_same}

abbrev pub weight : Option Colour → ℕ
weight (Some White) = 2
weight (Some Grey) = 1
weight _ = 0

-- the weight of cells 1 to n
pub total : (ℕ → Cell) → ℕ → ℕ
total f zero = 0
total f (suc n) = weight (colour (f (suc n))) + total f n

weight_most : (l : Option Colour) → weight l ≤ 2
weight_most l = grind arith

pub total_most : (f : ℕ → Cell) (n : ℕ) → total f n ≤ 2 * n
unfolding total
total_most f zero = omega arith
total_most f (suc n) = let a = total_most f n in let b = weight_most (colour (f (suc n))) in omega arith

-- no cell is heavier
abbrev pub Lighter : (ℕ → Cell) → (ℕ → Cell) → Type 0
Lighter f g = (d : ℕ) → weight (colour (g d)) ≤ weight (colour (f d))

pub total_le : (f g : ℕ → Cell) (n : ℕ) → Lighter f g → total g n ≤ total f n
unfolding total
total_le f g zero h = omega arith
total_le f g (suc n) h = let a = total_le f g n h in let b = h (suc n) in omega arith

pub total_lt : (f g : ℕ → Cell) (n c : ℕ) → Lighter f g → 1 ≤ c → c ≤ n → weight (colour (g c)) < weight (colour (f c)) →
    total g n < total f n
unfolding total
total_lt f g zero c h lo hi lt = absurd (omega arith)
total_lt f g (suc n) c h lo hi lt = go (cases_eq (suc n) c) (total_le f g n h) (λ small. total_lt f g n c h lo small lt)
  where
    go : (suc n ≡ c) ⊎ (suc n ≡ c → ⊥) → total g n ≤ total f n → (c ≤ n → total g n < total f n) →
        weight (colour (g (suc n))) + total g n < weight (colour (f (suc n))) + total f n
    go (inl e) a r = let b = subst (λ (m : ℕ). weight (colour (g m)) < weight (colour (f m))) (sym e) lt in omega arith
    go (inr e) a r = let q : c ≤ n = omega arith in let b = r q in let d = h (suc n) in omega arith

pub greyer_weight : (x y : Cell) → Greyer x y → weight (colour y) ≤ weight (colour x)
greyer_weight x y h = grind arith

-- what a call of a job may change while tracing
pub record Steady (s s' : State) : Type 0 where
  pub size_is : s'.size ≡ s.size
  pub rounds_is : s'.rounds ≡ s.rounds
  pub cursor_is : s'.cursor ≡ s.cursor
  pub repeats : Repeats s.phase s'.phase
  pub lighter : T (is_tracing s.phase) → Lighter s.cell s'.cell
  pub falls : s.phase ≡ Tracing → s'.phase ≡ Repeat → total s'.cell s.size < total s.cell s.size

repeats_after : {p q : Phase} → Repeats p q → p ≡ Repeat → Repeats Tracing q
repeats_after stays e = subst (λ (r : Phase). Repeats Tracing r) (sym e) turns
repeats_after turns e = cc

repeats_trans : {p q r : Phase} → Repeats p q → Repeats q r → Repeats p r
repeats_trans stays b = b
repeats_trans turns b = repeats_after b refl

repeats_tracing : {p q : Phase} → Repeats p q → T (is_tracing p) → T (is_tracing q)
repeats_tracing h t = grind arith

repeats_cases : {p q : Phase} → Repeats p q → p ≡ Tracing → (q ≡ Tracing) ⊎ (q ≡ Repeat)
repeats_cases h e = grind arith

steady_trans : {s s1 s2 : State} → Steady s s1 → Steady s1 s2 → Steady s s2
steady_trans {s} {s1} {s2} a b = record {
  size_is = b.size_is ∙ a.size_is;
  rounds_is = b.rounds_is ∙ a.rounds_is;
  cursor_is = b.cursor_is ∙ a.cursor_is;
  repeats = repeats_trans a.repeats b.repeats;
  lighter = λ t d. let u = a.lighter t d in let v = b.lighter (repeats_tracing a.repeats t) d in omega arith;
  falls = λ e q. go e q (repeats_cases a.repeats e);
}
  where
    go : s.phase ≡ Tracing → s2.phase ≡ Repeat → (s1.phase ≡ Tracing) ⊎ (s1.phase ≡ Repeat) →
        total s2.cell s.size < total s.cell s.size
    go e q (inl m) = let u = subst (λ (n : ℕ). total s2.cell n < total s1.cell n) a.size_is (b.falls m q) in let v =
        total_le s.cell s1.cell s.size (a.lighter (subst (λ (p : Phase). T (is_tracing p)) (sym e) tt)) in omega arith
    go e q (inr m) = let u = a.falls e m in let v = total_le s1.cell s2.cell s.size
        (b.lighter (subst (λ (p : Phase). T (is_tracing p)) (sym m) tt)) in omega arith

-- cells grow no heavier, and the phase stays
steady_cells : (s s' : State) → s'.size ≡ s.size → s'.rounds ≡ s.rounds → s'.cursor ≡ s.cursor → s'.phase ≡ s.phase →
    (T (is_tracing s.phase) → Lighter s.cell s'.cell) → Steady s s'
steady_cells s s' size rounds cursor phase lighter = record {
  size_is = size;
  rounds_is = rounds;
  cursor_is = cursor;
  repeats = subst (λ (p : Phase). Repeats s.phase p) (sym phase) stays;
  lighter = lighter;
  falls = λ a b. cc;
}

pub steady_rows : (s : State) (rows : ℕ → Job) (l : ℕ) → Steady s (with_jobs s rows l)
steady_rows s rows l = steady_cells s (with_jobs s rows l) refl refl refl refl (λ t d. omega arith)

steady_cards : (s : State) (f : ℕ → Card) (l : ℕ) → Steady s (with_cards s f l)
steady_cards s f l = steady_cells s (with_cards s f l) refl refl refl refl (λ t d. omega arith)

steady_slot : (s : State) (c i v : ℕ) → Steady s (set_slot s c i v)
unfolding set_slot
steady_slot s c i v = steady_cells s (set_slot s c i v) refl refl refl refl
    (λ t d. let q = ap weight (slot_same_colour s.cell c i v d) in omega arith)

steady_taken : (s : State) (pick k w : ℕ) → Steady s (taken s pick k w)
unfolding taken
steady_taken s pick k w = steady_cells s (taken s pick k w) refl refl refl refl
    (λ t d. upd_elim (λ y. weight (colour y) ≤ weight (colour (s.cell d))) s.cell pick d _
    (λ e. let q = new_black s.phase s.cursor pick t in omega arith) (λ e. omega arith))
  where
    new_black : (p : Phase) (cur c : ℕ) → T (is_tracing p) → weight (Some (new_colour p cur c)) ≤ 0
    new_black p cur c = tracing_cases (λ q. weight (Some (new_colour q cur c)) ≤ 0) (omega arith) (omega arith) p

pub steady_nod : (s : State) (j : ℕ) → Steady s (nodded s j)
unfolding nodded
steady_nod s j = steady_cells s (nodded s j) refl refl refl refl
    (λ t d. greyer_weight _ _ ((nod_greys s.phase s.cell (s.job j).hands s.cursor).greyer d))

-- greying one cell by a call
steady_grey : (s : State) (t : Bool) (c : ℕ) → colour (s.cell 0) ≡ None → ((d : ℕ) → colour (s.cell d) ≢ None → d ≤ s.size) →
    Steady s (grey_if t s c)
steady_grey s false c no_zero inside = steady_rows s s.job s.last_job
steady_grey s true c no_zero inside = record {
  size_is = refl;
  rounds_is = refl;
  cursor_is = refl;
  repeats = cond_both (is_white (s.cell c)) (repeating s.phase) s.phase (λ q. Repeats s.phase q)
      (λ z. repeats_repeating s.phase) (λ z. stays);
  lighter = λ u d. greyer_weight _ _ (grey_one s.cell c d);
  falls = λ e. cond_both (is_white (s.cell c)) (repeating s.phase) s.phase (λ p. p ≡ Repeat →
      total (upd s.cell c (greyed (s.cell c))) s.size < total s.cell s.size) (λ z w. strict (white_is _ z))
      (λ z w. cc);
}
  where
    strict : colour (s.cell c) ≡ Some White → total (upd s.cell c (greyed (s.cell c))) s.size < total s.cell s.size
    strict z = total_lt s.cell (upd s.cell c (greyed (s.cell c))) s.size c
        (λ d. greyer_weight (s.cell d) (upd s.cell c (greyed (s.cell c)) d) (grey_one s.cell c d)) (pos (cases_eq c 0))
        (inside c (λ w. cc)) less
      where
        pos : (c ≡ 0) ⊎ (c ≡ 0 → ⊥) → 1 ≤ c
        pos (inl w) = let u = ap (λ (m : ℕ). colour (s.cell m)) w ∙ no_zero in cc
        pos (inr w) = omega arith

        less : weight (colour (upd s.cell c (greyed (s.cell c)) c)) < weight (colour (s.cell c))
        less = let u = ap (λ (x : Cell). weight (colour x)) (upd_same s.cell c (greyed (s.cell c))) in let v =
            ap weight (greyed_grey (s.cell c) z) in let w = ap weight z in omega arith

module _ (s : State) (b : Book) (place : ℕ → ℕ) (pick : ℕ) (inv : Inv s b place) where
  steady_found : (j h c : ℕ) → Steady s (found_into s j h c)
  unfolding found_into
  steady_found j h c = steady_trans (steady_grey s (find_greys s.phase (s.job j).owes) c inv.heap.no_zero
      inv.heap.inside) (steady_rows (grey_if (find_greys s.phase (s.job j).owes) s c) _ _)

  steady_stored : (j c i v : ℕ) → Steady s (stored s j c i v)
  unfolding stored barrier
  steady_stored j c i v = steady_trans (steady_trans
      (steady_grey s (s.job j).armed (at (slots (s.cell c)) i) inv.heap.no_zero inv.heap.inside)
      (steady_grey s1 ((s.job j).armed && store_greys_new s.phase) v (none_greyer (greyer 0) inv.heap.no_zero)
      (λ d n. inv.heap.inside d (unused_greyer (greyer d) n)))) (steady_slot _ c i v)
    where
      s1 : State
      s1 = grey_if (s.job j).armed s (at (slots (s.cell c)) i)

      greyer : (d : ℕ) → Greyer (s.cell d) (s1.cell d)
      greyer d = greyer_if (s.job j).armed s.cell (at (slots (s.cell c)) i) d

  steady_settle : (k j : ℕ) (t : List ℕ) (h w : ℕ) → Steady s (settle_on k s j t h w pick).after
  unfolding filed_on
  steady_settle zero j t h w = steady_trans (steady_trans (steady_taken s pick (vacant_card s) w)
      (steady_cards (taken s pick (vacant_card s) w) _ _))
      (steady_rows (filed_on (taken s pick (vacant_card s) w) (vacant_card s) t pick) _ _)
  steady_settle (suc k) j t h w = steady_found j h _

  pub steady_job : (j : ℕ) (a : Action) → Effect s j pick a → Steady s (job_effect s j a pick).after
  steady_job j a (rows_alone rows e) = subst (λ (x : State). Steady s x) (sym e) (steady_rows s rows s.last_job)
  steady_job j a nods = steady_nod s j
  steady_job j a (makes h w) = steady_trans (steady_taken s pick 0 w) (steady_rows (taken s pick 0 w) _ _)
  steady_job j a (settles_name name h w) = steady_settle (filed s (text name)) j (text name) h w
  steady_job j a (finds name h) = steady_found j h _
  steady_job j a (stores g i h) = steady_stored j _ i _

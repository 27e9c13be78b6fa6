-- One job's row changes: a record goes into a hand, a job opens, closes, is parked, woken, or nods.
use Rattle.std.proofs.Common.{◌≡◌, ℕ, ◌≤◌, true, false, cond, ◌≢◌, List, sym, ◌∙◌, subst, arith}
use borrow.Author.Tests.{both_ways}
use Rattle.std.proofs.lemmas.Bool.{cond_both}
use Rattle.model.specs.declared.JobState.{JobState}
use Rattle.model.specs.declared.Phase.{Phase}
use Rattle.model.specs.declared.Phase.TheVariants.{Scanning}
use Rattle.model.specs.Book.{Book, hold}
use Rattle.model.specs.Cycle.{grey_all, nodded, nodded_job}
use Rattle.model.specs.Machine.{Cell, Job, State, at, closed_row, empty_hands, in_phase, is_open, is_running, put, set_hand, upd, with_cells, with_jobs}
use Rattle.model.specs.Tables.{opened_job}
use Rattle.model.proofs.GreyingKeeps.{Greys, grey_list, greying_keeps, greys_refl, marked_list, stays}
use Rattle.model.proofs.Invariant.{Flags, Inv, JobOk, Kept, Marking, Protected, StandsFor, marked}
use Rattle.model.proofs.PhaseCases.{marking_cases, phase_is}
use Rattle.model.proofs.TableLaws.{at_zeros, length_put, put_elim, upd_elim}

pub at_none : (h : ℕ) → at empty_hands h ≡ 0
at_none h = at_zeros 8 h

-- one row changes, and that job's hands in the book
pub row_keeps : (s : State) (b : Book) (place : ℕ → ℕ) (j l : ℕ) (y : Job) (w : ℕ → ℕ) → Inv s b place → l ≤ 16 →
    JobOk s.cell s.phase s.cursor j y → ((g : ℕ) → StandsFor place (w g) (at y.hands g)) →
    Inv (with_jobs s (upd s.job j y) l) (record b { holds = upd b.holds j w }) place
row_keeps s b place j l y w inv small ok rel = grind arith

-- one row changes, and the book stays
pub row_alone_keeps : (s : State) (b : Book) (place : ℕ → ℕ) (j l : ℕ) (y : Job) → Inv s b place → l ≤ 16 →
    JobOk s.cell s.phase s.cursor j y → ((g : ℕ) → StandsFor place (b.holds j g) (at y.hands g)) →
    Inv (with_jobs s (upd s.job j y) l) b place
row_alone_keeps s b place j l y inv small ok rel = grind arith

pub running_open : (t : JobState) → is_running t ≡ true → is_open t ≡ true
running_open t h = grind arith

-- what may go into a hand of a job
pub record MayHold (f : ℕ → Cell) (p : Phase) (cur : ℕ) (b : Job) (place : ℕ → ℕ) (r v : ℕ) : Type 0 where
  pub rel : StandsFor place r v
  pub kept : v ≢ 0 → Kept p cur v (f v)
  pub safe : Marking p → b.owes ≡ false → v ≢ 0 → Protected f v

job_hand : (f : ℕ → Cell) (p : Phase) (cur : ℕ) (j : ℕ) (b : Job) (place : ℕ → ℕ) (r h v : ℕ) → JobOk f p cur j b →
    is_open b.status ≡ true → 1 ≤ h → h ≤ 8 → MayHold f p cur b place r v →
    JobOk f p cur j (record b { hands = put b.hands h v })
job_hand f p cur j b place r h v ok o lo hi m = record {
  range = ok.range;
  eight = length_put b.hands h v ∙ ok.eight;
  shut = λ c. absurd (both_ways (is_open b.status) c o);
  flags = ok.flags;
  roots = λ g. put_elim (λ x. x ≢ 0 → Kept p cur x (f x)) b.hands h g v (λ e. m.kept) (λ n. ok.roots g) lo
      (omega (arith, ok.eight));
  protected = λ t w g. put_elim (λ x. x ≢ 0 → Protected f x) b.hands h g v (λ e. m.safe t w) (λ n. ok.protected t w g) lo
      (omega (arith, ok.eight));
}

pub hand_keeps : (s : State) (b : Book) (place : ℕ → ℕ) (j h r v : ℕ) → Inv s b place → is_open (s.job j).status ≡ true →
    (1 ≤ h) × (h ≤ 8) → MayHold s.cell s.phase s.cursor (s.job j) place r v →
    Inv (set_hand s j h v) (hold b j h r) place
hand_keeps s b place j h r v inv o rng m = row_keeps s b place j s.last_job _ _ inv inv.lasts.1
    (job_hand s.cell s.phase s.cursor j (s.job j) place r h v (inv.jobs j) o rng.0 rng.1 m) one
  where
    one : (g : ℕ) → StandsFor place (upd (b.holds j) h r g) (at (put (s.job j).hands h v) g)
    one g = put_elim (λ x. StandsFor place (upd (b.holds j) h r g) x) (s.job j).hands h g v
        (λ e. upd_elim (λ y. StandsFor place y v) (b.holds j) h g r (λ q. m.rel) (λ q. absurd (q e)))
        (λ n. upd_elim (λ y. StandsFor place y (at (s.job j).hands g)) (b.holds j) h g r (λ q. absurd (n q))
        (λ q. inv.hands j g)) rng.0 (omega (arith, (inv.jobs j).eight))

pub open_ok : (f : ℕ → Cell) (p : Phase) (cur j : ℕ) → 1 ≤ j → j ≤ 16 → JobOk f p cur j (opened_job p)
open_ok f p cur j lo hi = grind arith

pub close_ok : (f : ℕ → Cell) (p : Phase) (cur j : ℕ) → JobOk f p cur j closed_row
close_ok f p cur j = grind arith

pub stand_ok : (f : ℕ → Cell) (p : Phase) (cur j : ℕ) (b : Job) (t : JobState) → is_open t ≡ true → is_open b.status ≡ true →
    JobOk f p cur j b → JobOk f p cur j (record b { status = t })
stand_ok f p cur j b t o w ok = grind arith

-- the nod
abbrev nod_cells : Phase → (ℕ → Cell) → List ℕ → ℕ → Cell
nod_cells p f l = cond (in_phase Scanning p) (grey_all f l) f

pub nod_greys : (p : Phase) (f : ℕ → Cell) (l : List ℕ) (cur : ℕ) → Greys f (nod_cells p f l) p p cur
nod_greys p f l cur = cond_both (in_phase Scanning p) (grey_all f l) f (λ g. Greys f g p p cur)
    (λ e. subst (λ (q : Phase). Greys f (grey_all f l) q q cur) (sym (phase_is Scanning p e))
    (record { greyer = grey_list f l; repeats = stays; spare = λ d a b. tt; colours = λ h d. tt }))
    (λ e. greys_refl f p cur)

nod_flags : (p : Phase) (row : Job) → Flags p row.armed row.owes → Flags p (nodded_job p row).armed false
nod_flags p row h = grind arith

nod_protects : (p : Phase) (f : ℕ → Cell) (cur j : ℕ) (row : Job) → is_open row.status ≡ true → JobOk f p cur j row →
    Marking p → (h : ℕ) → at row.hands h ≢ 0 → Protected (nod_cells p f row.hands) (at row.hands h)
nod_protects p f cur j row o ok m = marking_cases (λ q. JobOk f q cur j row → (h : ℕ) → at row.hands h ≢ 0 →
    Protected (nod_cells q f row.hands) (at row.hands h))
    (λ ok h n. marked (marked_list f row.hands h n (ok.roots h n).in_use)) (λ ok h n. ok.protected tt (ok.flags o).1 h n)
    (λ ok h n. ok.protected tt (ok.flags o).1 h n) p m ok

pub nod_keeps : (s : State) (b : Book) (place : ℕ → ℕ) (j : ℕ) → is_open (s.job j).status ≡ true → Inv s b place →
    Inv (nodded s j) b place
unfolding nodded
nod_keeps s b place j o inv = row_alone_keeps greyed_hands b place j s.last_job (nodded_job s.phase (s.job j)) one
    inv.lasts.1 row_ok (inv.hands j)
  where
    greyed_hands : State
    greyed_hands = with_cells s (nod_cells s.phase s.cell (s.job j).hands)

    one : Inv greyed_hands b place
    one = greying_keeps s b place (nod_cells s.phase s.cell (s.job j).hands) s.phase inv
        (nod_greys s.phase s.cell (s.job j).hands s.cursor)

    row_ok : JobOk (nod_cells s.phase s.cell (s.job j).hands) s.phase s.cursor j (nodded_job s.phase (s.job j))
    row_ok = record {
      range = (inv.jobs j).range;
      eight = (inv.jobs j).eight;
      shut = (inv.jobs j).shut;
      flags = λ e. nod_flags s.phase (s.job j) ((inv.jobs j).flags o);
      roots = (one.jobs j).roots;
      protected = λ t w. nod_protects s.phase s.cell s.cursor j (s.job j) o (inv.jobs j) t;
    }

-- The phase moves on, while cells and cards stay: every such move keeps the invariant, the commit among them.
use Rattle.std.proofs.Common.{◌≡◌, ℕ, suc, ◌<◌, ◌≤◌, Bool, true, false, cond, ◌&&◌, ◌≢◌, refl, subst, inl, inr, arith, Option, Some, None}
use borrow.Author.Tests.{both_ways}
use Rattle.std.proofs.lemmas.Bool.{cases_eq}
use Rattle.model.specs.declared.Colour.{Colour}
use Rattle.model.specs.declared.Colour.TheVariants.{Black, Grey, White}
use Rattle.model.specs.declared.JobState.{JobState}
use Rattle.model.specs.declared.JobState.TheVariants.{Closed, Parked, Running}
use Rattle.model.specs.declared.Phase.{Phase}
use Rattle.model.specs.declared.Phase.TheVariants.{Arming, Cleaning, Normal, Parting, Repeat, Scanning, Sweeping, Tracing}
use Rattle.model.specs.Book.{Book}
use Rattle.model.specs.Cycle.{all_owe, owes_as, owing}
use Rattle.model.specs.Machine.{Job, State, at, at_phase, colour, is_open, is_parked, is_running, slots, with_jobs}
use Rattle.model.proofs.Carried.{cards_move, recs_move}
use Rattle.model.proofs.Invariant.{ColourOk, Flags, Inv, Keeps, Kept, Live, LiveCard, Marked, Marking, Protected, Spared, marked, via}
use Rattle.model.proofs.TableLaws.{first_none}

-- every open job owes a nod from now on, if a test passes
abbrev owing_if : Bool → Job → Job
owing_if t row = record row { owes = cond t (is_open row.status) row.owes }

abbrev moved : State → Bool → Phase → ℕ → ℕ → State
moved s t p cur r = at_phase (with_jobs s (λ j. owing_if t (s.job j)) s.last_job) p cur r

-- what a move to phase q, at cursor cur, has to show: of the kept records ...
record KeptMove (s : State) (q : Phase) (cur : ℕ) : Type 0 where
  pub unspare : (d : ℕ) → colour (s.cell d) ≡ Some White → Spared q cur d → Spared s.phase s.cursor d
  pub hand : (j h : ℕ) → at (s.job j).hands h ≢ 0 → Keeps s (at (s.job j).hands h) →
      Kept q cur (at (s.job j).hands h) (s.cell (at (s.job j).hands h))
  pub slot : (c i : ℕ) → Kept q cur c (s.cell c) → at (slots (s.cell c)) i ≢ 0 → Keeps s (at (slots (s.cell c)) i) →
      Kept q cur (at (slots (s.cell c)) i) (s.cell (at (slots (s.cell c)) i))
  pub card : (k : ℕ) → Live s.cell q (s.card k) → Keeps s (s.card k).record_at →
      Kept q cur (s.card k).record_at (s.cell (s.card k).record_at)

-- ... of the cards ...
record CardMove (s : State) (q : Phase) (cur : ℕ) : Type 0 where
  pub unlive : (k : ℕ) → Live s.cell q (s.card k) → LiveCard s k
  pub clears : q ≡ Cleaning → (k : ℕ) → 1 ≤ k → k < cur → (s.card k).record_at ≢ 0 →
      colour (s.cell (s.card k).record_at) ≢ Some White

-- ... of protection ...
record MarkingMove (s : State) (t : Bool) (q : Phase) : Type 0 where
  pub protects : Marking q → (c : ℕ) → colour (s.cell c) ≡ Some Black → (i : ℕ) → at (slots (s.cell c)) i ≢ 0 →
      Protected s.cell (at (slots (s.cell c)) i)
  pub protected : Marking q → (j : ℕ) → (owing_if t (s.job j)).owes ≡ false → (h : ℕ) → at (s.job j).hands h ≢ 0 →
      Protected s.cell (at (s.job j).hands h)

-- ... and of colours and flags
record PhaseMove (s : State) (t : Bool) (q : Phase) (cur : ℕ) : Type 0 where
  pub kept : KeptMove s q cur
  pub cards : CardMove s q cur
  pub marking : MarkingMove s t q
  pub colours : (d : ℕ) → ColourOk q cur d (colour (s.cell d))
  pub flags : (j : ℕ) → is_open (s.job j).status ≡ true → Flags q (s.job j).armed (owing_if t (s.job j)).owes

-- what was spared stays spared
even : (s : State) (q : Phase) (cur : ℕ) → ((d : ℕ) → colour (s.cell d) ≡ Some White → Spared q cur d →
    Spared s.phase s.cursor d) → ((d : ℕ) → colour (s.cell d) ≡ Some White → Spared s.phase s.cursor d →
    Spared q cur d) → KeptMove s q cur
even s q cur unspare spare = grind arith

-- neither phase is CLEANING
not_cleaning : (s : State) (q : Phase) (cur : ℕ) → s.phase ≢ Cleaning → q ≢ Cleaning → CardMove s q cur
not_cleaning s q cur n m = grind arith

-- the new phase is none of marking
not_marking : (s : State) (t : Bool) (q : Phase) → (Marking q → ⊥) → MarkingMove s t q
not_marking s t q n = grind arith

phase_keeps : (s : State) (b : Book) (place : ℕ → ℕ) (t : Bool) (q : Phase) (cur r : ℕ) → Inv s b place → PhaseMove s t q cur →
    Inv (moved s t q cur r) b place
phase_keeps s b place t q cur r inv m = record {
  heap = record {
    no_zero = inv.heap.no_zero;
    inside = inv.heap.inside;
    colours = m.colours;
    leads = λ c k i n. m.kept.slot c i k n (inv.heap.leads c (unkeep c k) i n);
    protects = m.marking.protects;
  };
  jobs = λ j. record {
    range = (inv.jobs j).range;
    eight = (inv.jobs j).eight;
    shut = (inv.jobs j).shut;
    flags = m.flags j;
    roots = λ h n. m.kept.hand j h n ((inv.jobs j).roots h n);
    protected = λ tr o. m.marking.protected tr j o;
  };
  cards = cards_move unkeep (λ d k. refl) (record { unlive = m.cards.unlive; lives = m.kept.card; clears = m.cards.clears })
      inv.cards;
  hands = inv.hands;
  recs = recs_move (record { kept = unkeep; same_slots = λ d k. refl; same_card = λ d k. refl }) m.cards.unlive (λ d n. n)
      (λ d n. n) inv.recs;
  lasts = inv.lasts;
}
  where
    unkeep : (d : ℕ) → Kept q cur d (s.cell d) → Keeps s d
    unkeep d k = record { in_use = k.in_use; spared = λ e. m.kept.unspare d e (k.spared e) }

-- no open job owes a nod
abbrev pub NoneOwe : State → Type 0
NoneOwe s = (j : ℕ) → is_open (s.job j).status ≡ true → (s.job j).owes ≡ false

-- where a step moves on, no job owes
pub no_owes : (s : State) (b : Book) (place : ℕ → ℕ) → Inv s b place → owing is_parked s ≡ 0 → owing is_running s ≡ 0 → NoneOwe s
no_owes s b place inv p r j o = go (s.job j).status (s.job j).owes refl o
    (first_none (owes_as is_parked s) 1 16 (omega arith) p j rng.0 (let q = rng.1 in omega arith))
    (first_none (owes_as is_running s) 1 16 (omega arith) r j rng.0 (let q = rng.1 in omega arith))
  where
    rng : (1 ≤ j) × (j ≤ 16)
    rng = (inv.jobs j).range o

    go : (t : JobState) (w : Bool) → (s.job j).owes ≡ w → is_open t ≡ true → (is_parked t && w) ≡ false →
        (is_running t && w) ≡ false → w ≡ false
    go Closed w e o a c = cc
    go Running w e o a c = c
    go Parked w e o a c = a

-- a hand of a job that is not open is empty, and the other hands are protected
all_protected : (s : State) (b : Book) (place : ℕ → ℕ) → Inv s b place → Marking s.phase → NoneOwe s →
    (j h : ℕ) → at (s.job j).hands h ≢ 0 → Protected s.cell (at (s.job j).hands h)
all_protected s b place inv t no_owed j h n = grind arith

module _ (s : State) (b : Book) (place : ℕ → ℕ) (inv : Inv s b place) where
  -- the store, its phase written out
  abbrev from : Phase → State
  from p = at_phase s p s.cursor s.rounds

  pub sound_from : (p : Phase) → s.phase ≡ p → Inv (from p) b place
  sound_from p e = grind arith

  move : (p : Phase) → s.phase ≡ p → (t : Bool) (q : Phase) (cur r : ℕ) → PhaseMove (from p) t q cur →
      Inv (moved s t q cur r) b place
  move p e t q cur r m = phase_keeps (from p) b place t q cur r (sound_from p e) m

  -- cell 0 has no colour
  zero_not : (d : ℕ) (c : Colour) → d < 1 → colour (s.cell d) ≢ Some c
  zero_not d c h = grind arith

  pub begin_keeps : s.phase ≡ Normal → Inv (at_phase (all_owe s) Arming 0 0) b place
  begin_keeps e = grind arith

  pub to_scanning : s.phase ≡ Arming → (r : ℕ) → NoneOwe s → Inv (at_phase (all_owe s) Scanning 0 r) b place
  to_scanning e r none_owe = grind arith

  pub to_tracing : s.phase ≡ Scanning → (r : ℕ) → NoneOwe s → Inv (at_phase s Tracing 1 r) b place
  to_tracing e r none_owe = grind arith

  -- a trace step goes on to the next cell
  pub trace_next : s.phase ≡ Tracing → (r : ℕ) → colour (s.cell s.cursor) ≢ Some Grey →
      Inv (at_phase s Tracing (suc s.cursor) r) b place
  trace_next e r not_grey = grind arith

  pub repeat_next : s.phase ≡ Repeat → (cur r : ℕ) → Inv (at_phase s Repeat cur r) b place
  repeat_next e cur r = grind arith

  -- a new round
  pub round_next : s.phase ≡ Repeat → (r : ℕ) → Inv (at_phase s Tracing 1 r) b place
  round_next e r = grind arith

  -- the commit: nothing is grey, so what is protected is black
  protected_black : ((d : ℕ) → colour (s.cell d) ≢ Some Grey) → {c : ℕ} → Protected s.cell c → colour (s.cell c) ≡ Some Black
  protected_black no_grey (marked {c = c} l) = go (colour (s.cell c)) refl l
    where
      go : (l : Option Colour) → colour (s.cell c) ≡ l → Marked l → l ≡ Some Black
      go (Some Grey) e h = absurd (no_grey c e)
      go (Some Black) e h = refl
      go _ e h = absurd h
  protected_black no_grey (via i g n e z) = absurd (n (protected_black no_grey g))

  pub commit_keeps : s.phase ≡ Tracing → (r : ℕ) → ((d : ℕ) → colour (s.cell d) ≢ Some Grey) →
      Inv (at_phase s Cleaning 1 r) b place
  commit_keeps e r no_grey = move Tracing e false Cleaning 1 r (record {
    kept = record {
      unspare = λ d a z. tt;
      hand = λ j h n k. black_kept _ (protected_black no_grey
          (all_protected (from Tracing) b place (sound_from Tracing e) tt (λ i o. (((sound_from Tracing e).jobs i).flags o).1) j h
          n));
      slot = λ c i k n u. black_kept _ (protected_black no_grey
          ((sound_from Tracing e).heap.protects tt c (is_black c (colour (s.cell c)) refl k) i n));
      card = λ k l u. record { in_use = u.in_use; spared = λ z. l.not_white refl z };
    };
    cards = record {
      unlive = λ k l. record { filled = l.filled; not_white = λ q. cc };
      clears = λ q k lo hi. absurd (omega arith);
    };
    marking = not_marking (from Tracing) false Cleaning (λ m. m);
    colours = no_grey;
    flags = λ j o. tt;
  })
    where
      black_kept : (c : ℕ) → colour (s.cell c) ≡ Some Black → Kept Cleaning 1 c (s.cell c)
      black_kept c d = record { in_use = λ z. cc; spared = λ z. cc }

      is_black : (c : ℕ) (l : Option Colour) → colour (s.cell c) ≡ l → Kept Cleaning 1 c (s.cell c) →
          colour (s.cell c) ≡ Some Black
      is_black c None q k = absurd (k.in_use q)
      is_black c (Some White) q k = absurd (k.spared q)
      is_black c (Some Grey) q k = absurd (no_grey c q)
      is_black c (Some Black) q k = q

  pub clean_next : s.phase ≡ Cleaning → (r : ℕ) →
      ((s.card s.cursor).record_at ≢ 0 → colour (s.cell (s.card s.cursor).record_at) ≢ Some White) →
      Inv (at_phase s Cleaning (suc s.cursor) r) b place
  clean_next e r is_clean = move Cleaning e false Cleaning (suc s.cursor) r (record {
    kept = even (from Cleaning) Cleaning (suc s.cursor) (λ d a z. z) (λ d a z. z);
    cards = record {
      unlive = λ k l. l;
      clears = λ q k lo hi. elim (cases_eq s.cursor k) [
        | inl w ↦ subst (λ (m : ℕ). (s.card m).record_at ≢ 0 →
            colour (s.cell (s.card m).record_at) ≢ Some White) w is_clean
        | inr w ↦ (sound_from Cleaning e).cards.cleared refl k
            lo (omega arith)
      ];
    };
    marking = not_marking (from Cleaning) false Cleaning (λ m. m);
    colours = (sound_from Cleaning e).heap.colours;
    flags = λ j o. tt;
  })

  pub to_parting : s.phase ≡ Cleaning → (r : ℕ) → 512 < s.cursor → Inv (at_phase (all_owe s) Parting 0 r) b place
  to_parting e r past = move Cleaning e true Parting 0 r (record {
    kept = even (from Cleaning) Parting 0 (λ d a z. z) (λ d a z. z);
    cards = record {
      unlive = λ k l. record {
        filled = l.filled;
        not_white = λ q. let h = inv.cards.ranged k l.filled in (sound_from Cleaning e).cards.cleared refl k h.0
            (omega arith) l.filled;
      };
      clears = λ q. cc;
    };
    marking = not_marking (from Cleaning) true Parting (λ m. m);
    colours = (sound_from Cleaning e).heap.colours;
    flags = λ j o q. absurd (both_ways _ q o);
  })

  pub to_sweeping : s.phase ≡ Parting → (r : ℕ) → NoneOwe s → Inv (at_phase s Sweeping 1 r) b place
  to_sweeping e r none_owe = move Parting e false Sweeping 1 r (record {
    kept = even (from Parting) Sweeping 1 (λ d a z. zero_not d White z a) (λ d a z. absurd z);
    cards = not_cleaning (from Parting) Sweeping 1 (λ q. cc) (λ q. cc);
    marking = not_marking (from Parting) false Sweeping (λ m. m);
    colours = λ d. ((sound_from Parting e).heap.colours d, zero_not d Black);
    flags = λ j o. ((sound_from Parting e).jobs j).flags o (none_owe j o);
  })

  pub to_normal : s.phase ≡ Sweeping → (r : ℕ) → s.size < s.cursor → Inv (at_phase s Normal 0 r) b place
  to_normal e r past = grind arith

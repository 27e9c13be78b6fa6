-- Cells, phase and cursor move on, while cards, book and places stay: what is carried over.
use Rattle.std.proofs.Common.{◌≡◌, ℕ, ◌<◌, ◌≤◌, false, ◌≢◌, ◌⊎◌, List, sym, ◌∙◌, subst, inl, inr, Option, Some, None, arith}
use Rattle.model.specs.declared.Colour.TheVariants.{Black, White}
use Rattle.model.specs.declared.Phase.{Phase}
use Rattle.model.specs.declared.Phase.TheVariants.{Cleaning}
use Rattle.model.specs.Machine.{Card, Cell, Job, at, card_of, colour, slots}
use Rattle.model.proofs.Invariant.{CardsOk, Flags, JobOk, Kept, Live, Marked, Marking, Protected, RecOk, RecsOk, marked, via}

-- what is protected stays protected
pub protected_map : (f f' : ℕ → Cell)
    → ((d : ℕ) → Marked (colour (f d)) → Marked (colour (f' d)))
    → ((q i : ℕ) → colour (f q) ≢ Some Black → at (slots (f q)) i ≢ 0 →
    Marked (colour (f' (at (slots (f q)) i))) ⊎ ((colour (f' q) ≢ Some Black) × (at (slots (f' q)) i ≡ at (slots (f q)) i)))
    → {c : ℕ} → Protected f c → Protected f' c
protected_map f f' a b (marked l) = marked (a _ l)
protected_map f f' a b (via {q = q} {c = c} i g n e z) = go (b q i n (λ w. z (sym e ∙ w))) (protected_map f f' a b g)
  where
    go : Marked (colour (f' (at (slots (f q)) i))) ⊎ ((colour (f' q) ≢ Some Black) × (at (slots (f' q)) i ≡ at (slots (f q)) i)) →
        Protected f' q → Protected f' c
    go (inl l) h = marked (subst (λ (m : ℕ). Marked (colour (f' m))) e l)
    go (inr t) h = via i h t.0 (t.1 ∙ e) z

-- a cell with the same slots and card says the same of its record
pub rec_move : {card : ℕ → Card} {place : ℕ → ℕ} {w : ℕ} {slot : ℕ → ℕ} {n : Option (List ℕ)} (x y : Cell) → slots y ≡ slots x →
    card_of y ≡ card_of x → RecOk card place w slot n x → RecOk card place w slot n y
rec_move x y e q ok = grind arith

-- what is kept now was kept, and is the same record
pub record Shrinks (f f' : ℕ → Cell) (p p' : Phase) (cur cur' : ℕ) : Type 0 where
  pub kept : (d : ℕ) → Kept p' cur' d (f' d) → Kept p cur d (f d)
  pub same_slots : (d : ℕ) → Kept p' cur' d (f' d) → slots (f' d) ≡ slots (f d)
  pub same_card : (d : ℕ) → Kept p' cur' d (f' d) → card_of (f' d) ≡ card_of (f d)

-- cards that are live now were live, and their records are still kept
pub record CardsMove (f f' : ℕ → Cell) (p p' : Phase) (cur cur' : ℕ) (card : ℕ → Card) : Type 0 where
  pub unlive : (k : ℕ) → Live f' p' (card k) → Live f p (card k)
  pub lives : (k : ℕ) → Live f' p' (card k) → Kept p cur (card k).record_at (f (card k).record_at) →
      Kept p' cur' (card k).record_at (f' (card k).record_at)
  pub clears : p' ≡ Cleaning → (k : ℕ) → 1 ≤ k → k < cur' → (card k).record_at ≢ 0 → colour (f' (card k).record_at) ≢ Some White

module _ {f f' : ℕ → Cell} {p p' : Phase} {cur cur' : ℕ} where
  pub leads_move : Shrinks f f' p p' cur cur' → ((d : ℕ) → Kept p cur d (f d) → Kept p' cur' d (f' d)) →
      ((c : ℕ) → Kept p cur c (f c) → (i : ℕ) → at (slots (f c)) i ≢ 0 → Kept p cur (at (slots (f c)) i) (f (at (slots (f c)) i)))
      →
      (c : ℕ) → Kept p' cur' c (f' c) → (i : ℕ) → at (slots (f' c)) i ≢ 0 →
      Kept p' cur' (at (slots (f' c)) i) (f' (at (slots (f' c)) i))
  leads_move sh keep old c k i h = grind arith

  pub cards_move : {card : ℕ → Card} → ((d : ℕ) → Kept p' cur' d (f' d) → Kept p cur d (f d)) →
      ((d : ℕ) → Kept p' cur' d (f' d) → card_of (f' d) ≡ card_of (f d)) → CardsMove f f' p p' cur cur' card →
      CardsOk f p cur card → CardsOk f' p' cur' card
  cards_move kept same_no m ok = grind arith

  pub recs_move : {card : ℕ → Card} {count : ℕ} {width : ℕ → ℕ} {slot : ℕ → ℕ → ℕ} {name : ℕ → Option (List ℕ)} {place : ℕ → ℕ} →
      Shrinks f f' p p' cur cur' → ((k : ℕ) → Live f' p' (card k) → Live f p (card k)) →
      ((d : ℕ) → colour (f d) ≢ None → colour (f' d) ≢ None) → ((d : ℕ) → colour (f' d) ≢ None → colour (f d) ≢ None) →
      RecsOk f p cur card count width slot name place → RecsOk f' p' cur' card count width slot name place
  recs_move sh unlive to from ok = grind arith

  pub job_move : (j : ℕ) (row : Job) → ((d : ℕ) → Kept p cur d (f d) → Kept p' cur' d (f' d)) →
      (Marking p' → row.owes ≡ false → (h : ℕ) → at row.hands h ≢ 0 → Protected f' (at row.hands h)) →
      (Flags p row.armed row.owes → Flags p' row.armed row.owes) → JobOk f p cur j row → JobOk f' p' cur' j row
  job_move j row keep protect flags ok = grind arith

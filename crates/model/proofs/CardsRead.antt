-- How cards read: a card that does not read as empty is live, and its spelling is on file.
use Rattle.std.proofs.Common.{◌≡◌, ℕ, true, false, not, ◌&&◌, eqb, ◌≢◌, ◌⊎◌, List, ap, inl, inr, arith, ne_eqb, bytes_eq}
use Rattle.std.proofs.lemmas.Slice.Eq.{bytes_eq-Decides}
use borrow.Author.Tests.{both_ways, eqb-false, not-true}
use Rattle.std.proofs.lemmas.Bool.{and_from, and_parts, cases_Bool, not_from_false, or_from, or_parts}
use Rattle.model.specs.declared.Phase.TheVariants.{Cleaning}
use Rattle.model.specs.Book.{Book}
use Rattle.model.specs.Machine.{State, bears, filed, in_phase, is_white, reads_empty}
use Rattle.model.proofs.Colours.{is_white_at, white_is}
use Rattle.model.proofs.Invariant.{Inv, LiveCard}
use Rattle.model.proofs.PhaseCases.{phase_is}
use Rattle.model.proofs.TableLaws.{first_none, first_passes}

bears_live : (s : State) (t : List ℕ) (k : ℕ) → bears s t k ≡ true → LiveCard s k × ((s.card k).spelling ≡ t)
bears_live s t k e = (
  record {
    filled = eqb-false _ 0 em.0;
    not_white = λ q z. both_ways _ em.1 (and_from _ _ (ap (in_phase Cleaning) q) (is_white_at _ z));
  },
  (bytes_eq-Decides _ _).0
      pr.1,
)
  where
    pr : (not (reads_empty s k) ≡ true) × (bytes_eq (s.card k).spelling t ≡ true)
    pr = and_parts _ _ e

    em : (eqb (s.card k).record_at 0 ≡ false) ×
        ((in_phase Cleaning s.phase && is_white (s.cell (s.card k).record_at)) ≡ false)
    em = or_parts _ _ (not-true _ pr.0)

-- the card that has a spelling on file
pub filed_live : (s : State) (t : List ℕ) → filed s t ≢ 0 → LiveCard s (filed s t) × ((s.card (filed s t)).spelling ≡ t)
unfolding filed
filed_live s t n = bears_live s t _ (first_passes (bears s t) 1 512 n)

-- a live card does not read as empty
live_reads : (s : State) (k : ℕ) → LiveCard s k → reads_empty s k ≡ false
live_reads s k l = or_from _ _ (ne_eqb _ 0 l.filled)
    (go (cases_Bool (in_phase Cleaning s.phase && is_white (s.cell (s.card k).record_at))))
  where
    go : ((in_phase Cleaning s.phase && is_white (s.cell (s.card k).record_at)) ≡ true) ⊎
        ((in_phase Cleaning s.phase && is_white (s.cell (s.card k).record_at)) ≡ false) →
        (in_phase Cleaning s.phase && is_white (s.cell (s.card k).record_at)) ≡ false
    go (inl e) = absurd (l.not_white (phase_is Cleaning _ (and_parts _ _ e).0) (white_is _ (and_parts _ _ e).1))
    go (inr e) = e

-- a card that reads as empty is not live
pub empty_dead : (s : State) (k : ℕ) → reads_empty s k ≡ true → LiveCard s k → ⊥
empty_dead s k e l = both_ways _ (live_reads s k l) e

-- a live card has its spelling on file
pub on_file : (s : State) (b : Book) (place : ℕ → ℕ) → Inv s b place → (t : List ℕ) (k : ℕ) → LiveCard s k →
    (s.card k).spelling ≡ t → filed s t ≢ 0
unfolding filed
on_file s b place inv t k l e z = both_ways _ (first_none (bears s t) 1 512 (omega arith) z k (inv.cards.live k l).2
    (let h = (inv.cards.live k l).3 in omega arith))
    (and_from _ _ (not_from_false _ (live_reads s k l)) ((bytes_eq-Decides _ _).1 e))

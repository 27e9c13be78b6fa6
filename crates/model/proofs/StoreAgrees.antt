-- What follows from the invariant at one moment: reached records stand, store and book agree, a name has one record.
use Rattle.std.proofs.Common.{◌≡◌, ℕ, ◌≢◌, List, sym, ap, ◌∙◌, subst, Option, Some}
use Rattle.model.specs.declared.Phase.{Phase}
use Rattle.model.specs.Book.{Book, Leads, Reached, bearer, from_hand, here, through}
use Rattle.model.specs.Machine.{State, at, card_of, colour, filed, slots}
use Rattle.model.specs.Promise.{Agree, Bears}
use Rattle.model.proofs.CardsRead.{on_file}
use Rattle.model.proofs.Invariant.{Inv, Keeps, LiveCard, RecOk, Spared, StandsFor}

-- a record of the book that stands in a kept cell
pub record Stands (s : State) (place : ℕ → ℕ) (r : ℕ) : Type 0 where
  pub placed : place r ≢ 0
  pub kept : Keeps s (place r)

-- the card of a record that stands and has a name
pub record Carded (s : State) (place : ℕ → ℕ) (r : ℕ) (t : List ℕ) (k : ℕ) : Type 0 where
  pub live : LiveCard s k
  pub spell : (s.card k).spelling ≡ t
  pub points : (s.card k).record_at ≡ place r

module _ (s : State) (b : Book) (place : ℕ → ℕ) (inv : Inv s b place) where
  pub leads_stands : {r t : ℕ} → Leads b r t → Stands s place r → Stands s place t
  leads_stands here h = h
  leads_stands (through {r = r} i n l) h = leads_stands l (record {
    placed = λ z. n (rel.none_is (rel.is ∙ z));
    kept = subst (λ (m : ℕ). Keeps s m) rel.is (inv.heap.leads (place r) h.kept i (λ z. n (rel.none_is z)));
  })
    where
      rel : StandsFor place (b.slot r i) (at (slots (s.cell (place r))) i)
      rel = (inv.recs.recs r h.placed h.kept).holds i

  pub reached_stands : {r : ℕ} → Reached b r → Stands s place r
  reached_stands (from_hand j h n l) = leads_stands l (record {
    placed = λ z. n ((inv.hands j h).none_is ((inv.hands j h).is ∙ z));
    kept = subst (λ (m : ℕ). Keeps s m) (inv.hands j h).is ((inv.jobs j).roots h (λ z. n ((inv.hands j h).none_is z)));
  })

  pub agree : Agree s b place
  agree = record {
    hands = λ j h. (inv.hands j h).is;
    in_use = λ r h. (reached_stands h).kept.in_use;
    apart = λ r t h g e. inv.recs.one_place r t e (reached_stands h).placed;
    widths = λ r h. (rec h).wide;
    contents = λ r h i. ((rec h).holds i).is;
    names = λ r h. (rec h).bears;
  }
    where
      rec : {r : ℕ} → Reached b r → RecOk s.card place (b.width r) (b.slot r) (b.name r) (s.cell (place r))
      rec {r} h = inv.recs.recs r (reached_stands h).placed (reached_stands h).kept

  pub carded : (r : ℕ) (t : List ℕ) → Stands s place r → b.name r ≡ Some t → Carded s place r t (card_of (s.cell (place r)))
  carded r t h e = record {
    live = record {
      filled = λ z. h.placed (sym back ∙ z);
      not_white = λ q z. subst (λ (p : Phase). Spared p s.cursor (place r)) q
          (h.kept.spared (ap (λ (m : ℕ). colour (s.cell m)) (sym back) ∙ z));
    };
    spell = named.1;
    points = back;
  }
    where
      named : (card_of (s.cell (place r)) ≢ 0) × ((s.card (card_of (s.cell (place r)))).spelling ≡ t)
      named = subst (λ (n : Option (List ℕ)). Bears s.card n (card_of (s.cell (place r)))) e
          (inv.recs.recs r h.placed h.kept).bears

      back : (s.card (card_of (s.cell (place r)))).record_at ≡ place r
      back = inv.cards.back (place r) h.kept named.0

  -- the name of a standing record is on file, and stands for that record
  pub files : (r : ℕ) (t : List ℕ) → Stands s place r → b.name r ≡ Some t → (filed s t ≢ 0) × (bearer b t ≡ r)
  files r t h e = (
    on_file s b place inv t _ cd.live cd.spell,
    sym
        (inv.recs.one_place r _ (sym cd.points ∙ sym (inv.recs.newest _ cd.live)
        ∙ ap (λ (u : List ℕ). place (bearer b u))
        cd.spell) h.placed),
  )
    where
      cd : Carded s place r t (card_of (s.cell (place r)))
      cd = carded r t h e

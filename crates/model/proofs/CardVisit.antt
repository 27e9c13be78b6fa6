-- The visit of a card whose record is white, in CLEANING, keeps the invariant.
use Rattle.std.proofs.Common.{◌≡◌, ℕ, ◌<◌, ◌≤◌, ◌≢◌, ◌⊎◌, List, sym, refl, ap, ◌∙◌, subst, inl, inr, Option, Some, None}
use Rattle.std.proofs.lemmas.Bool.{cases_eq}
use Rattle.model.specs.declared.Colour.TheVariants.{White}
use Rattle.model.specs.declared.Phase.{Phase}
use Rattle.model.specs.declared.Phase.TheVariants.{Cleaning}
use Rattle.model.specs.Book.{Book, latest}
use Rattle.model.specs.Machine.{Card, Cell, State, card_of, colour, upd, with_cards}
use Rattle.model.specs.Promise.{Bears}
use Rattle.model.proofs.Invariant.{Inv, Kept, Live, Spared}
use Rattle.model.proofs.TableLaws.{upd_all, upd_elim, upd_other, upd_same}

pub clean_keeps : (s : State) (b : Book) (place : ℕ → ℕ) → Inv s b place → s.phase ≡ Cleaning →
    colour (s.cell (s.card s.cursor).record_at) ≡ Some White →
    Inv (with_cards s (upd s.card s.cursor (record { spelling = (s.card s.cursor).spelling; record_at = 0 }))
    s.last_card) b place
clean_keeps s b place inv e z = record {
  heap = inv.heap;
  jobs = inv.jobs;
  cards = record {
    ranged = upd_all (λ k x. x.record_at ≢ 0 → (1 ≤ k) × (k ≤ 512)) s.card c C (λ n. absurd (n refl))
        (λ k n. inv.cards.ranged k);
    live = upd_all (λ k x. Live f p x → Kept p cur x.record_at (f x.record_at) × (card_of (f x.record_at) ≡ k) ×
        (1 ≤ k) × (k ≤ 512)) s.card c C (λ l. absurd (l.filled refl)) (λ k n. inv.cards.live k);
    back = λ d k n. ap (λ (x : Card). x.record_at)
        (upd_other s.card c (card_of (f d)) C
        (λ q. dead d k (ap (λ (m : ℕ). (s.card m).record_at) q ∙ inv.cards.back d k n))) ∙ inv.cards.back d k n;
    distinct = λ k m a d. inv_distinct k m (cases_eq c k) (cases_eq c m) a d;
    cleared = λ q. upd_all (λ k x. 1 ≤ k → k < cur → x.record_at ≢ 0 → colour (f x.record_at) ≢ Some White) s.card c C
        (λ lo hi n. absurd (n refl)) (λ k n. inv.cards.cleared q k);
  };
  hands = inv.hands;
  recs = record {
    none_at = inv.recs.none_at;
    unmade = inv.recs.unmade;
    unmade_slots = inv.recs.unmade_slots;
    one_place = inv.recs.one_place;
    stands = inv.recs.stands;
    owner = inv.recs.owner;
    recs = λ r n k. let o = inv.recs.recs r n k in record {
      wide = o.wide;
      holds = o.holds;
      bears = bears (b.name r) _ o.bears;
    };
    newest = upd_all (λ k x. Live f p x → place (latest b.name b.count x.spelling) ≡ x.record_at) s.card c C
        (λ l. absurd (l.filled refl)) (λ k n. inv.recs.newest k);
  };
  lasts = inv.lasts;
}
  where
    f : ℕ → Cell
    f = s.cell

    p : Phase
    p = s.phase

    cur : ℕ
    cur = s.cursor

    c : ℕ
    c = s.cursor

    C : Card
    C = record { spelling = (s.card s.cursor).spelling; record_at = 0 }

    dead : (d : ℕ) → Kept p cur d (f d) → (s.card c).record_at ≡ d → ⊥
    dead d k q = subst (λ (r : Phase). Spared r cur d) e (k.spared (ap (λ (m : ℕ). colour (f m)) (sym q) ∙ z))

    bears : (n : Option (List ℕ)) (k : ℕ) → Bears s.card n k → Bears (upd s.card c C) n k
    bears None k h = h
    bears (Some sp) k h = (
      h.0,
      upd_elim (λ x. x.spelling ≡ sp) s.card c k C
          (λ q. ap (λ (m : ℕ). (s.card m).spelling) q ∙ h.1) (λ q. h.1),
    )

    inv_distinct : (k m : ℕ) → (c ≡ k) ⊎ (c ≡ k → ⊥) → (c ≡ m) ⊎ (c ≡ m → ⊥) → Live f p (upd s.card c C k) →
        Live f p (upd s.card c C m) → (upd s.card c C k).spelling ≡ (upd s.card c C m).spelling → k ≡ m
    inv_distinct k m (inl a) d = λ x. absurd (x.filled (ap (λ (i : ℕ). (upd s.card c C i).record_at) (sym a)
        ∙ ap (λ (y : Card). y.record_at) (upd_same s.card c C)))
    inv_distinct k m (inr a) (inl d) = λ y x. absurd
        (x.filled (ap (λ (i : ℕ). (upd s.card c C i).record_at) (sym d)
        ∙ ap (λ (y : Card). y.record_at) (upd_same s.card c C)))
    inv_distinct k m (inr a) (inr d) = rw (upd_other s.card c k C a, upd_other s.card c m C d) (inv.cards.distinct k m)

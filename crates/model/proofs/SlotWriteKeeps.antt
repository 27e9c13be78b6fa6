-- Writing a slot of a record keeps the invariant, where the barrier has run.
use Rattle.std.proofs.Common.{◌≡◌, ℕ, ◌<◌, ◌≤◌, ◌≢◌, ◌⊎◌, List, length, sym, refl, ap, ◌∙◌, subst, inl, inr, Option, Some, None}
use Rattle.std.proofs.lemmas.Bool.{cases_eq}
use Rattle.model.specs.declared.Colour.{Colour}
use Rattle.model.specs.declared.Colour.TheVariants.{Black}
use Rattle.model.specs.declared.Phase.{Phase}
use Rattle.model.specs.Book.{Book, write_slot}
use Rattle.model.specs.Machine.{Card, Cell, Job, State, at, card_of, colour, free, put, slots, upd, used, with_slot}
use Rattle.model.specs.Promise.{Bears}
use Rattle.model.specs.Tables.{set_slot}
use Rattle.model.proofs.Carried.{cards_move, job_move, protected_map}
use Rattle.model.proofs.Colours.{kept_colour}
use Rattle.model.proofs.Invariant.{CardsOk, ColourOk, HeapOk, Inv, JobOk, Keeps, Kept, Live, Marked, Marking, Protected, RecOk, RecsOk, StandsFor}
use Rattle.model.proofs.TableLaws.{length_put, put_elim, upd_all, upd_elim, upd_other, upd_same}

slot_colour : (i v : ℕ) (x : Cell) → colour (with_slot i v x) ≡ colour x
slot_colour i v free = refl
slot_colour i v (used c k l) = refl

slot_card : (i v : ℕ) (x : Cell) → card_of (with_slot i v x) ≡ card_of x
slot_card i v free = refl
slot_card i v (used c k l) = refl

slot_slots : (i v : ℕ) (x : Cell) → colour x ≢ None → slots (with_slot i v x) ≡ put (slots x) i v
slot_slots i v free n = absurd (n refl)
slot_slots i v (used c k l) n = refl

-- a write changes no cell's colour
pub slot_same_colour : (f : ℕ → Cell) (c i v d : ℕ) → colour (upd f c (with_slot i v (f c)) d) ≡ colour (f d)
slot_same_colour f c i v d = upd_elim (λ y. colour y ≡ colour (f d)) f c d (with_slot i v (f c))
    (λ e. slot_colour i v (f c) ∙ ap (λ (m : ℕ). colour (f m)) e) (λ n. refl)

module _ (f : ℕ → Cell) (p : Phase) (cur c i v : ℕ) (kept : Kept p cur c (f c)) (lo : 1 ≤ i) (hi : i ≤ length (slots (f c)))
    (old : Marking p → at (slots (f c)) i ≢ 0 → Marked (colour (f (at (slots (f c)) i)))) where
  abbrev g : ℕ → Cell
  g = upd f c (with_slot i v (f c))

  same_colour : (d : ℕ) → colour (g d) ≡ colour (f d)
  same_colour = slot_same_colour f c i v

  same_no : (d : ℕ) → card_of (g d) ≡ card_of (f d)
  same_no d = upd_elim (λ y. card_of y ≡ card_of (f d)) f c d (with_slot i v (f c))
      (λ e. slot_card i v (f c) ∙ ap (λ (m : ℕ). card_of (f m)) e) (λ n. refl)

  keep : (d : ℕ) → Kept p cur d (f d) → Kept p cur d (g d)
  keep d = kept_colour p cur d (f d) (g d) (same_colour d)

  unkeep : (d : ℕ) → Kept p cur d (g d) → Kept p cur d (f d)
  unkeep d = kept_colour p cur d (g d) (f d) (sym (same_colour d))

  -- a property of the slots of the changed record
  slot_elim : (P : ℕ → Type 0) (m : ℕ) → (i ≡ m → P v) → (i ≢ m → P (at (slots (f c)) m)) → P (at (slots (with_slot i v (f c))) m)
  slot_elim P m a b = subst (λ (l : List ℕ). P (at l m)) (sym (slot_slots i v (f c) kept.in_use))
      (put_elim P (slots (f c)) i m v a b lo hi)

  slot_protected : Marking p → {d : ℕ} → Protected f d → Protected g d
  slot_protected t = protected_map f g (λ d l. subst Marked (sym (same_colour d)) l)
      (λ q m n z. go q m n z (cases_eq c q) (cases_eq i m))
    where
      go : (q m : ℕ) → colour (f q) ≢ Some Black → at (slots (f q)) m ≢ 0 → (c ≡ q) ⊎ (c ≡ q → ⊥) → (i ≡ m) ⊎ (i ≡ m → ⊥) →
          Marked (colour (g (at (slots (f q)) m))) ⊎ ((colour (g q) ≢ Some Black) × (at (slots (g q)) m ≡ at (slots (f q)) m))
      go q m n z (inl a) (inl b) = inl (subst Marked (sym (same_colour _))
          (subst (λ (k : ℕ). Marked (colour (f (at (slots (f q)) k)))) b
          (subst (λ (k : ℕ). Marked (colour (f (at (slots (f k)) i)))) a
          (old t (λ w. z (ap (λ (k : ℕ). at (slots (f q)) k) (sym b) ∙ ap (λ (k : ℕ). at (slots (f k)) i) (sym a)
          ∙ w))))))
      go q m n z (inl a) (inr b) = inr (
        (λ e. n (sym (same_colour q) ∙ e)),
        subst
            (λ (k : ℕ). at (slots (g k)) m ≡ at (slots (f k)) m) a
            (rw (upd_same f c (with_slot i v (f c)))
            (slot_elim (λ y. y ≡ at (slots (f c)) m) m (λ e. absurd (b e)) (λ e. refl))),
      )
      go q m n z (inr a) b = inr (
        (λ e. n (sym (same_colour q) ∙ e)),
        ap (λ (y : Cell). at (slots y) m)
            (upd_other f c q (with_slot i v (f c)) a),
      )

  module _ (new_kept : v ≢ 0 → Kept p cur v (f v)) (new_protected : Marking p → v ≢ 0 → Protected f v) where
    slot_heap : (size : ℕ) → HeapOk size f p cur → HeapOk size g p cur
    slot_heap size ok = record {
      no_zero = same_colour 0 ∙ ok.no_zero;
      inside = λ d n. ok.inside d (λ e. n (same_colour d ∙ e));
      colours = λ d. subst (λ (l : Option Colour). ColourOk p cur d l) (sym (same_colour d)) (ok.colours d);
      leads = upd_all (λ d y. Kept p cur d y → (m : ℕ) → at (slots y) m ≢ 0 → Kept p cur (at (slots y) m) (g (at (slots y) m))) f
          c (with_slot i v (f c))
          (λ h m. slot_elim (λ x. x ≢ 0 → Kept p cur x (g x)) m (λ e n. keep v (new_kept n))
          (λ e n. keep _ (ok.leads c kept m n)))
          (λ d e h m n. keep _ (ok.leads d h m n));
      protects = λ t. upd_all (λ d y. colour y ≡ Some Black → (m : ℕ) → at (slots y) m ≢ 0 → Protected g (at (slots y) m)) f c
          (with_slot i v (f c))
          (λ h m. slot_elim (λ x. x ≢ 0 → Protected g x) m (λ e n. slot_protected t (new_protected t n))
          (λ e n. slot_protected t (ok.protects t c (sym (slot_colour i v (f c)) ∙ h) m n)))
          (λ d e h m n. slot_protected t (ok.protects t d h m n));
    }

    slot_job : (j : ℕ) (b : Job) → JobOk f p cur j b → JobOk g p cur j b
    slot_job j b ok = job_move j b keep (λ t o h z. slot_protected t (ok.protected t o h z)) (λ g. g) ok

    slot_unlive : (x : Card) → Live g p x → Live f p x
    slot_unlive x l = record { filled = l.filled; not_white = λ e z. l.not_white e (same_colour _ ∙ z) }

    slot_cards : (card : ℕ → Card) → CardsOk f p cur card → CardsOk g p cur card
    slot_cards card ok = cards_move unkeep (λ d h. same_no d) (record {
      unlive = λ k. slot_unlive (card k);
      lives = λ k l h. keep _ h;
      clears = λ e k a b n z. ok.cleared e k a b n (sym (same_colour _) ∙ z);
    }) ok

    module _ (card : ℕ → Card) (count : ℕ) (width : ℕ → ℕ) (slot : ℕ → ℕ → ℕ) (name : ℕ → Option (List ℕ)) (place : ℕ →
        ℕ) (r y : ℕ) (rc : StandsFor place r c) (nz : c ≢ 0) (yv : StandsFor place y v) where
      slot_recs : RecsOk f p cur card count width slot name place →
          RecsOk g p cur card count width (upd slot r (upd (slot r) i y)) name place
      slot_recs ok = record {
        none_at = ok.none_at;
        unmade = ok.unmade;
        one_place = ok.one_place;
        unmade_slots = λ t m h. ap (λ (z : ℕ → ℕ). z m)
            (upd_other slot r t (upd (slot r) i y) (λ e. nz (rc.is ∙ ok.unmade r (subst (λ (u : ℕ). count < u) (sym e) h))))
            ∙ ok.unmade_slots t m h;
        stands = λ t n e. ok.stands t n (sym (same_colour _) ∙ e);
        owner = λ d n. ok.owner d (λ e. n (same_colour d ∙ e));
        recs = λ t. go t (cases_eq r t);
        newest = λ k l. ok.newest k (slot_unlive (card k) l);
      }
        where
          this : RecOk card place (width r) (slot r) (name r) (f c) →
              RecOk card place (width r) (upd (slot r) i y) (name r) (with_slot i v (f c))
          this o = record {
            wide = ap length (slot_slots i v (f c) kept.in_use) ∙ length_put (slots (f c)) i v ∙ o.wide;
            holds = λ m. slot_elim (λ x. StandsFor place (upd (slot r) i y m) x) m
                (λ e. upd_elim (λ z. StandsFor place z v) (slot r) i m y (λ q. yv) (λ q. absurd (q e)))
                (λ n. upd_elim (λ z. StandsFor place z (at (slots (f c)) m)) (slot r) i m y (λ q. absurd (n q))
                (λ q. o.holds m));
            bears = subst (λ (k : ℕ). Bears card (name r) k) (sym (slot_card i v (f c))) o.bears;
          }

          go : (t : ℕ) → (r ≡ t) ⊎ (r ≡ t → ⊥) → place t ≢ 0 → Kept p cur (place t) (g (place t)) →
              RecOk card place (width t) (upd slot r (upd (slot r) i y) t) (name t) (g (place t))
          go t (inl a) = subst (λ (m : ℕ). place m ≢ 0 → Kept p cur (place m) (g (place m)) →
              RecOk card place (width m) (upd slot r (upd (slot r) i y) m) (name m) (g (place m))) a
              (rw (upd_same slot r (upd (slot r) i y), ← rc.is, upd_same f c (with_slot i v (f c)))
              (λ n h. this (subst (λ (m : ℕ). RecOk card place (width r) (slot r) (name r) (f m)) (sym rc.is)
              (ok.recs r (λ z. nz (rc.is ∙ z)) (subst (λ (m : ℕ). Kept p cur m (f m)) rc.is kept)))))
          go t (inr a) = λ n. rw (
            upd_other slot r t (upd (slot r) i y) a,
            upd_other f c (place t) (with_slot i v (f c))
                (λ e. a (ok.one_place r t (sym rc.is ∙ e) (λ z. nz (rc.is ∙ z)))),
          ) (λ h. ok.recs t n h)

-- what may be stored
pub record MayStore (s : State) (place : ℕ → ℕ) (c i v r y : ℕ) : Type 0 where
  pub kept : Keeps s c
  pub lo : 1 ≤ i
  pub hi : i ≤ length (slots (s.cell c))
  pub old : Marking s.phase → at (slots (s.cell c)) i ≢ 0 → Marked (colour (s.cell (at (slots (s.cell c)) i)))
  pub new_kept : v ≢ 0 → Keeps s v
  pub new_protected : Marking s.phase → v ≢ 0 → Protected s.cell v
  pub nz : c ≢ 0
  pub rc : StandsFor place r c
  pub yv : StandsFor place y v

pub slot_keeps : (s : State) (b : Book) (place : ℕ → ℕ) (c i v r y : ℕ) → Inv s b place → MayStore s place c i v r y →
    Inv (set_slot s c i v) (write_slot b r i y) place
unfolding set_slot
slot_keeps s b place c i v r y inv m = record {
  heap = slot_heap s.cell s.phase s.cursor c i v m.kept m.lo m.hi m.old m.new_kept m.new_protected
      s.size inv.heap;
  jobs = λ j. slot_job s.cell s.phase s.cursor c i v m.kept m.lo m.hi m.old m.new_kept m.new_protected
      j (s.job j) (inv.jobs j);
  cards = slot_cards s.cell s.phase s.cursor c i v m.kept m.lo m.hi m.old m.new_kept m.new_protected
      s.card inv.cards;
  hands = inv.hands;
  recs = slot_recs s.cell s.phase s.cursor c i v m.kept m.lo m.hi m.old m.new_kept m.new_protected
      s.card b.count b.width b.slot b.name place r y m.rc m.nz m.yv inv.recs;
  lasts = inv.lasts;
}

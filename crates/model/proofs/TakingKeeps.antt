-- A new record in a cell that was free keeps the invariant, unnamed or filed on a card.
use Rattle.std.proofs.Common.{◌≡◌, ℕ, zero, suc, ◌<◌, ◌≤◌, true, false, ltb, ◌≢◌, ◌⊎◌, List, replicate, sym, refl, ap, ◌∙◌, subst, inl, inr, suc-ne-zero, arith, ltb-false, ltb-true, Option, Some, None}
use lib.ListN.{length-replicate}
use Rattle.std.proofs.lemmas.Bool.{cases_eq, cond_both}
use Rattle.model.specs.declared.Colour.TheVariants.{Black, Grey, White}
use Rattle.model.specs.declared.Phase.{Phase}
use Rattle.model.specs.declared.Phase.TheVariants.{Cleaning, Normal, Parting, Repeat, Scanning, Sweeping, Tracing}
use Rattle.model.specs.Book.{is_named, latest}
use Rattle.model.specs.Cycle.{new_colour}
use Rattle.model.specs.Machine.{Card, Cell, Job, at, bears, card_of, colour, slots, upd, used}
use Rattle.model.specs.Promise.{Bears}
use Rattle.model.proofs.Carried.{job_move, protected_map}
use Rattle.model.proofs.Colours.{free_slots, marked_used, some_none}
use Rattle.model.proofs.Invariant.{CardsOk, ColourOk, HeapOk, JobOk, Kept, Live, Marked, Protected, RecOk, RecsOk, Spared, StandsFor}
use Rattle.model.proofs.TableLaws.{at_zeros, upd_all, upd_elim, upd_other, upd_same}

new_colour_ok : (p : Phase) (cur c : ℕ) → ColourOk p cur c (Some (new_colour p cur c))
new_colour_ok Normal cur c = ((λ e. cc), (λ e. cc))
new_colour_ok Scanning cur c = tt
new_colour_ok Tracing cur c = λ h e. cc
new_colour_ok Repeat cur c = tt
new_colour_ok Sweeping cur c = cond_both (ltb c cur) White Black (λ y. (Some y ≢ Some Grey) × (c < cur → Some y ≢ Some Black))
    (λ t. ((λ e. cc), (λ h e. cc))) (λ t. ((λ e. cc), (λ h. let q = ltb-false c cur t in absurd (omega arith))))
new_colour_ok _ cur c = λ e. cc

new_spared : (p : Phase) (cur c : ℕ) → Some (new_colour p cur c) ≡ Some White → Spared p cur c
new_spared Cleaning cur c e = cc
new_spared Parting cur c e = cc
new_spared Sweeping cur c e = cond_both (ltb c cur) White Black (λ y. Some y ≡ Some White → c < cur) (λ t q. ltb-true c cur t)
    (λ t q. cc) e
new_spared _ cur c e = tt

new_cleaning : (p : Phase) (cur c : ℕ) → p ≡ Cleaning → Some (new_colour p cur c) ≢ Some White
new_cleaning p cur c e = subst (λ (q : Phase). Some (new_colour q cur c) ≢ Some White) (sym e) (λ z. cc)

-- the latest record of a spelling
pub latest_most : (f : ℕ → Option (List ℕ)) (n : ℕ) (sp : List ℕ) → latest f n sp ≤ n
unfolding latest
latest_most f zero sp = omega arith
latest_most f (suc n) sp = cond_both (is_named (f (suc n)) sp) (suc n) (latest f n sp) (λ r. r ≤ suc n) (λ e. omega arith)
    (λ e. let q = latest_most f n sp in omega arith)

latest_below : (f : ℕ → Option (List ℕ)) (m n : ℕ) (v : Option (List ℕ)) (sp : List ℕ) → n < m →
    latest (upd f m v) n sp ≡ latest f n sp
unfolding latest
latest_below f m zero v sp h = refl
latest_below f m (suc n) v sp h = rw (upd_other f m (suc n) v (λ e. omega arith), latest_below f m n v sp (omega arith)) refl

pub latest_new : (f : ℕ → Option (List ℕ)) (n : ℕ) (v : Option (List ℕ)) (sp : List ℕ) → is_named v sp ≡ true →
    latest (upd f (suc n) v) (suc n) sp ≡ suc n
unfolding latest
latest_new f n v sp h = rw (upd_same f (suc n) v, h) refl

pub latest_old : (f : ℕ → Option (List ℕ)) (n : ℕ) (v : Option (List ℕ)) (sp : List ℕ) → is_named v sp ≡ false →
    latest (upd f (suc n) v) (suc n) sp ≡ latest f n sp
unfolding latest
latest_old f n v sp h = rw (upd_same f (suc n) v, h) (latest_below f (suc n) n v sp (omega arith))

module _ (f : ℕ → Cell) (p : Phase) (cur pick k w : ℕ) (vac : colour (f pick) ≡ None) where
  not_pick : (d : ℕ) → colour (f d) ≢ None → pick ≢ d
  not_pick d n e = n (subst (λ (m : ℕ). colour (f m) ≡ None) e vac)

  take_old : (x : Cell) (d : ℕ) → colour (f d) ≢ None → upd f pick x d ≡ f d
  take_old x d n = upd_other f pick d x (not_pick d n)

  take_keep : (x : Cell) (d : ℕ) → Kept p cur d (f d) → Kept p cur d (upd f pick x d)
  take_keep x d h = subst (λ (y : Cell). Kept p cur d y) (sym (take_old x d h.in_use)) h

  take_protected : (x : Cell) {d : ℕ} → Protected f d → Protected (upd f pick x) d
  take_protected x = protected_map f (upd f pick x)
      (λ d l. subst (λ (y : Cell). Marked (colour y)) (sym (take_old x d (marked_used (f d) l))) l)
      (λ q i n z. inr (upd_elim (λ y. (colour y ≢ Some Black) × (at (slots y) i ≡ at (slots (f q)) i)) f pick q x
      (λ e. absurd (z (free_slots (f q) (subst (λ (m : ℕ). colour (f m) ≡ None) e vac) i))) (λ e. (n, refl))))

  abbrev X : Cell
  X = used (new_colour p cur pick) k (replicate w 0)

  pub new_kept : Kept p cur pick X
  new_kept = record { in_use = some_none (new_colour p cur pick); spared = new_spared p cur pick }

  pub take_heap : (size : ℕ) → 1 ≤ pick → pick ≤ size → HeapOk size f p cur → HeapOk size (upd f pick X) p cur
  take_heap size lo hi ok = record {
    no_zero = ap colour (upd_other f pick 0 X (λ e. omega arith)) ∙ ok.no_zero;
    inside = upd_all (λ c y. colour y ≢ None → c ≤ size) f pick X (λ n. hi) (λ c e. ok.inside c);
    colours = upd_all (λ c y. ColourOk p cur c (colour y)) f pick X (new_colour_ok p cur pick) (λ c e. ok.colours c);
    leads = upd_all (λ c y. Kept p cur c y → (i : ℕ) → at (slots y) i ≢ 0 →
        Kept p cur (at (slots y) i) (upd f pick X (at (slots y) i))) f pick X
        (λ h i n. absurd (n (at_zeros w i))) (λ c e h i n. take_keep X _ (ok.leads c h i n));
    protects = λ t. upd_all (λ c y. colour y ≡ Some Black → (i : ℕ) → at (slots y) i ≢ 0 →
        Protected (upd f pick X) (at (slots y) i)) f pick X
        (λ h i n. absurd (n (at_zeros w i))) (λ c e h i n. take_protected X (ok.protects t c h i n));
  }

  pub take_job : (j : ℕ) (b : Job) → JobOk f p cur j b → JobOk (upd f pick X) p cur j b
  take_job j b ok = job_move j b (take_keep X) (λ t o h z. take_protected X (ok.protected t o h z)) (λ g. g) ok

  pub take_unlive : (x : Card) → Live (upd f pick X) p x → Live f p x
  take_unlive x l = record {
    filled = l.filled;
    not_white = λ e z. l.not_white e (ap colour (take_old X _ (λ v. cc)) ∙ z);
  }

  take_clear : (card : ℕ → Card) → CardsOk f p cur card → p ≡ Cleaning → (m : ℕ) → 1 ≤ m → m < cur → (card m).record_at ≢ 0 →
      colour (upd f pick X (card m).record_at) ≢ Some White
  take_clear card ok e m lo hi n = upd_elim (λ y. colour y ≢ Some White) f pick (card m).record_at X
      (λ q. new_cleaning p cur pick e) (λ q. ok.cleared e m lo hi n)

  take_live : (card : ℕ → Card) → CardsOk f p cur card → (m : ℕ) → Live (upd f pick X) p (card m) →
      Kept p cur (card m).record_at (upd f pick X (card m).record_at) × (card_of (upd f pick X (card m).record_at) ≡ m) ×
      (1 ≤ m) × (m ≤ 512)
  take_live card ok m l = let o = ok.live m (take_unlive (card m) l) in
      (take_keep X _ o.0, ap card_of (take_old X _ o.0.in_use) ∙ o.1, o.2, o.3)

  -- the cards, if none is filed
  pub take_cards : k ≡ 0 → (card : ℕ → Card) → CardsOk f p cur card → CardsOk (upd f pick X) p cur card
  take_cards z card ok = record {
    ranged = ok.ranged;
    live = take_live card ok;
    back = upd_all (λ c y. Kept p cur c y → card_of y ≢ 0 → (card (card_of y)).record_at ≡ c) f pick X (λ h n. absurd (n z))
        (λ c e. ok.back c);
    distinct = λ m n a b e. ok.distinct m n (take_unlive (card m) a) (take_unlive (card n) b) e;
    cleared = take_clear card ok;
  }

  -- a kept record's card is not one that reads as empty
  pub not_empty : (card : ℕ → Card) (size : ℕ) → HeapOk size f p cur → CardsOk f p cur card → (Live f p (card k) → ⊥) →
      (c : ℕ) → Kept p cur c (f c) → card_of (f c) ≢ 0 → k ≢ card_of (f c)
  not_empty card size hp ok dead c h n e = dead
      (record {
        filled = λ z. h.in_use (ap (λ (m : ℕ). colour (f m)) (sym r ∙ z) ∙ hp.no_zero);
        not_white = λ q z. subst (λ (s : Phase). Spared s cur c) q (h.spared (ap (λ (m : ℕ). colour (f m)) (sym r) ∙ z));
      })
    where
      r : (card k).record_at ≡ c
      r = ap (λ (m : ℕ). (card m).record_at) e ∙ ok.back c h n

  -- the cards, with the new record filed on card k
  pub file_cards : (sp : List ℕ) (card : ℕ → Card) (size : ℕ) → HeapOk size f p cur → 1 ≤ k → k ≤ 512 → 1 ≤ pick →
      (Live f p (card k) → ⊥) → ((m : ℕ) → Live f p (card m) → (card m).spelling ≢ sp) →
      CardsOk f p cur card → CardsOk (upd f pick X) p cur (upd card k (record { spelling = sp; record_at = pick }))
  file_cards sp card size hp lo hi pos dead off ok = record {
    ranged = upd_all (λ m y. y.record_at ≢ 0 → (1 ≤ m) × (m ≤ 512)) card k C (λ n. (lo, hi)) (λ m e. ok.ranged m);
    live = upd_all (λ m y. Live (upd f pick X) p y →
        Kept p cur y.record_at (upd f pick X y.record_at) × (card_of (upd f pick X y.record_at) ≡ m) × (1 ≤ m) ×
        (m ≤ 512)) card k C
        (λ l. (
          subst (λ (y : Cell). Kept p cur pick y) (sym (upd_same f pick X)) new_kept,
          ap card_of (upd_same f pick X),
          lo,
          hi,
        )) (λ m e. take_live card ok m);
    back = upd_all (λ c y. Kept p cur c y → card_of y ≢ 0 → (upd card k C (card_of y)).record_at ≡ c) f pick X
        (λ h n. ap (λ (y : Card). y.record_at) (upd_same card k C))
        (λ c e h n. ap (λ (y : Card). y.record_at) (upd_other card k (card_of (f c)) C (not_empty card size hp ok dead c h n))
        ∙ ok.back c h n);
    distinct = λ m n. go m n (cases_eq k m) (cases_eq k n);
    cleared = λ e. upd_all (λ m y. 1 ≤ m → m < cur → y.record_at ≢ 0 → colour (upd f pick X y.record_at) ≢ Some White) card k
        C
        (λ a b c. subst (λ (y : Cell). colour y ≢ Some White) (sym (upd_same f pick X)) (new_cleaning p cur pick e))
        (λ m n. take_clear card ok e m);
  }
    where
      C : Card
      C = record { spelling = sp; record_at = pick }

      go : (m n : ℕ) → (k ≡ m) ⊎ (k ≡ m → ⊥) → (k ≡ n) ⊎ (k ≡ n → ⊥) → Live (upd f pick X) p (upd card k C m) →
          Live (upd f pick X) p (upd card k C n) → (upd card k C m).spelling ≡ (upd card k C n).spelling → m ≡ n
      go m n (inl a) (inl b) = λ x y e. sym a ∙ b
      go m n (inl a) (inr b) = rw (upd_other card k n C b)
          (subst (λ (v : ℕ). Live (upd f pick X) p (upd card k C v) → Live (upd f pick X) p (card n) →
          (upd card k C v).spelling ≡ (card n).spelling →
          v ≡ n) a (rw (upd_same card k C) (λ x y e. absurd (off n (take_unlive (card n) y) (sym e)))))
      go m n (inr a) (inl b) = rw (upd_other card k m C a)
          (subst (λ (v : ℕ). Live (upd f pick X) p (card m) → Live (upd f pick X) p (upd card k C v) →
          (card m).spelling ≡ (upd card k C v).spelling →
          m ≡ v) b (rw (upd_same card k C) (λ x y e. absurd (off m (take_unlive (card m) x) e))))
      go m n (inr a) (inr b) = rw (upd_other card k m C a, upd_other card k n C b)
          (λ x y e. ok.distinct m n (take_unlive (card m) x) (take_unlive (card n) y) e)

  -- the book's new record
  module _ (card card' : ℕ → Card) (count : ℕ) (width : ℕ → ℕ) (slot : ℕ → ℕ → ℕ) (name : ℕ → Option (List ℕ)) (place : ℕ →
      ℕ) (nm : Option (List ℕ)) (ok : RecsOk f p cur card count width slot name place) where
    pub take_rel : (r v : ℕ) → StandsFor place r v → StandsFor (upd place (suc count) pick) r v
    take_rel r v h = record { is = h.is ∙ sym (upd_other place (suc count) r pick ne); none_is = h.none_is }
      where
        ne : suc count ≢ r
        ne e = suc-ne-zero count (e ∙ h.none_is (h.is ∙ ok.unmade r (omega arith)))

    pub take_recs : colour (f 0) ≡ None → 1 ≤ pick →
        ((c : ℕ) → Kept p cur c (f c) → card_of (f c) ≢ 0 → card' (card_of (f c)) ≡ card (card_of (f c))) →
        Bears card' nm k →
        ((m : ℕ) → Live (upd f pick X) p (card' m) →
        upd place (suc count) pick (latest (upd name (suc count) nm) (suc count) (card' m).spelling) ≡ (card' m).record_at) →
        RecsOk (upd f pick X) p cur card' (suc count) (upd width (suc count) w) (upd slot (suc count) (λ i. 0))
        (upd name (suc count) nm) (upd place (suc count) pick)
    take_recs nz pos stay bears newest = record {
      none_at = upd_other place (suc count) 0 pick (suc-ne-zero count) ∙ ok.none_at;
      unmade = λ r h. upd_other place (suc count) r pick (λ e. omega arith) ∙ ok.unmade r (omega arith);
      unmade_slots = λ r i h. ap (λ (f : ℕ → ℕ). f i) (upd_other slot (suc count) r (λ i. 0) (λ e. omega arith))
          ∙ ok.unmade_slots r i (omega arith);
      one_place = λ r t. one r t (cases_eq (suc count) r) (cases_eq (suc count) t);
      stands = upd_all (λ r y. y ≢ 0 → colour (upd f pick X y) ≢ None) place (suc count) pick
          (λ n. subst (λ (y : Cell). colour y ≢ None) (sym (upd_same f pick X)) (some_none (new_colour p cur pick)))
          (λ r e n. subst (λ (y : Cell). colour y ≢ None) (sym (take_old X _ (ok.stands r n))) (ok.stands r n));
      owner = upd_all (λ c y. colour y ≢ None → (r : ℕ) × (upd place (suc count) pick r ≡ c)) f pick X
          (λ n. (suc count, upd_same place (suc count) pick))
          (λ c e n. let o = ok.owner c n in (
            o.0,
            upd_other place (suc count) o.0 pick (λ q. new_owner c e n o.0 o.1 q)
                ∙ o.1,
          ));
      recs = λ r. new_rec r (cases_eq (suc count) r);
      newest = newest;
    }
      where
        one : (r t : ℕ) → (suc count ≡ r) ⊎ (suc count ≡ r → ⊥) → (suc count ≡ t) ⊎ (suc count ≡ t → ⊥) →
            upd place (suc count) pick r ≡ upd place (suc count) pick t → upd place (suc count) pick r ≢ 0 → r ≡ t
        one r t (inl a) (inl b) e n = sym a ∙ b
        one r t (inl a) (inr b) e n = absurd (ok.stands t (λ z. omega (arith, q)) (subst (λ (m : ℕ). colour (f m) ≡ None) q vac))
          where
            q : pick ≡ place t
            q = sym (upd_same place (suc count) pick) ∙ ap (upd place (suc count) pick) a ∙ e
                ∙ upd_other place (suc count) t pick b
        one r t (inr a) (inl b) e n = absurd (ok.stands r (λ z. omega (arith, q)) (subst (λ (m : ℕ). colour (f m) ≡ None) q vac))
          where
            q : pick ≡ place r
            q = sym (upd_same place (suc count) pick) ∙ ap (upd place (suc count) pick) b ∙ sym e
                ∙ upd_other place (suc count) r pick a
        one r t (inr a) (inr b) e n = ok.one_place r t (sym (upd_other place (suc count) r pick a) ∙ e
            ∙ upd_other place (suc count) t pick b) (λ z. n (upd_other place (suc count) r pick a ∙ z))

        new_owner : (c : ℕ) → pick ≢ c → colour (f c) ≢ None → (r : ℕ) → place r ≡ c → suc count ≡ r → ⊥
        new_owner c e n r q z = n (ap (λ (m : ℕ). colour (f m)) (sym q ∙ ok.unmade r (omega arith)) ∙ nz)

        newest_rec : RecOk card' (upd place (suc count) pick) w (λ i. 0) nm X
        newest_rec = record {
          wide = length-replicate w 0;
          holds = λ i. record {
            is = at_zeros w i ∙ sym (upd_other place (suc count) 0 pick (suc-ne-zero count) ∙ ok.none_at);
            none_is = λ e. refl;
          };
          bears = bears;
        }

        old_bears : (n : Option (List ℕ)) (c : ℕ) → Kept p cur c (f c) → Bears card n (card_of (f c)) →
            Bears card' n (card_of (f c))
        old_bears None c h b = b
        old_bears (Some sp) c h b = (b.0, ap (λ (y : Card). y.spelling) (stay c h b.0) ∙ b.1)

        old_rec : (r : ℕ) → RecOk card place (width r) (slot r) (name r) (f (place r)) → Kept p cur (place r) (f (place r)) →
            RecOk card' (upd place (suc count) pick) (width r) (slot r) (name r) (f (place r))
        old_rec r o h = record {
          wide = o.wide;
          holds = λ i. take_rel (slot r i) _ (o.holds i);
          bears = old_bears (name r) (place r) h o.bears;
        }

        new_rec : (r : ℕ) → (suc count ≡ r) ⊎ (suc count ≡ r → ⊥) → upd place (suc count) pick r ≢ 0 →
            Kept p cur (upd place (suc count) pick r) (upd f pick X (upd place (suc count) pick r)) →
            RecOk card' (upd place (suc count) pick) (upd width (suc count) w r) (upd slot (suc count) (λ i. 0) r)
            (upd name (suc count) nm r) (upd f pick X (upd place (suc count) pick r))
        new_rec r (inl a) = subst (λ (m : ℕ). upd place (suc count) pick m ≢ 0 →
            Kept p cur (upd place (suc count) pick m) (upd f pick X (upd place (suc count) pick m)) →
            RecOk card' (upd place (suc count) pick) (upd width (suc count) w m) (upd slot (suc count) (λ i. 0) m)
            (upd name (suc count) nm m) (upd f pick X (upd place (suc count) pick m))) a
            (rw (
              upd_same width (suc count) w,
              upd_same slot (suc count) (λ i. 0),
              upd_same name (suc count) nm,
              upd_same place
                  (suc count) pick,
              upd_same f pick X,
            ) (λ n h. newest_rec))
        new_rec r (inr a) = rw (
          upd_other width (suc count) r w a,
          upd_other slot (suc count) r (λ i. 0) a,
          upd_other name
              (suc count) r nm a,
          upd_other place (suc count) r pick a,
        )
            (λ n. rw (take_old X (place r) (ok.stands r n)) (λ h. old_rec r (ok.recs r n h) h))

-- What no hand reaches from begin to the commit is freed by the cycle's end.
use Rattle.std.proofs.Common.{◌≡◌, ℕ, ◌<◌, ◌≤◌, ◌≢◌, ◌⊎◌, sym, refl, ap, ◌∙◌, subst, inl, inr, arith, Option, Some, None}
use Rattle.std.proofs.lemmas.Bool.{cases_lt}
use Rattle.model.specs.declared.Colour.{Colour}
use Rattle.model.specs.declared.Colour.TheVariants.{Black, Grey}
use Rattle.model.specs.declared.Phase.{Phase}
use Rattle.model.specs.declared.Phase.TheVariants.{Cleaning, Normal}
use Rattle.model.specs.Book.{Book, Leads, Reached, from_hand, here, through}
use Rattle.model.specs.Calls.{Call, begin, step}
use Rattle.model.specs.Machine.{Cell, at, colour, first, hand, slots}
use Rattle.model.specs.Runs.{Commits, Granted, Later, Picks, Run, Through, Unreached, World, more, next, now}
use Rattle.model.proofs.CallChanges.{Touched, from_marked, in_hand, in_slot}
use Rattle.model.proofs.Colours.{marked_used}
use Rattle.model.proofs.Granted.{granted_next, next_cases}
use Rattle.model.proofs.Invariant.{ColourOk, Keeps, Kept, Marked, Sound}
use Rattle.model.proofs.PhaseCases.{phase_is}
use Rattle.model.proofs.RunsKeep.{next_sound, run_sound, through_sound}
use Rattle.model.proofs.StepChanges.{next_changes, next_count, next_edge, next_place, step_book}

-- a record that was made, and that nothing marked leads to
record Untraced (x : World) (t : ℕ) : Type 0 where
  pub made : t ≤ x.book.count
  pub no_path : (c : ℕ) → Marked (colour (x.state.cell c)) → (r : ℕ) → x.place r ≡ c → Leads x.book r t → ⊥

marked_kept : (p : Phase) (cur c : ℕ) (x : Cell) → Marked (colour x) → Kept p cur c x
marked_kept p cur c x l = grind arith

module _ (x : World) (c : Call) (pick : ℕ) (right : Picks x.state pick) (inv : Sound x) (t : ℕ) (far : Unreached t x)
    (far' : Unreached t (next x c pick)) where
  abbrev y : World
  y = next x c pick

  inv' : Sound y
  inv' = next_sound x pick inv right c

  -- a path to the record after the call was there before it: a new edge would lead from a hand
  leads_back : {r : ℕ} → Leads y.book r t → Leads x.book r t
  leads_back here = here
  leads_back (through {r = r} i n l) = go (next_edge x c pick right inv r i n) (leads_back l)
    where
      go : (x.book.slot r i ≡ y.book.slot r i) ⊎ ((j : ℕ) × (h : ℕ) × (y.book.holds j h ≡ y.book.slot r i)) →
          Leads x.book (y.book.slot r i) t → Leads x.book r t
      go (inl e) m = through i (λ z. n (sym e ∙ z)) (subst (λ (v : ℕ). Leads x.book v t) (sym e) m)
      go (inr h) m = absurd (far' (from_hand h.0 h.1 (λ z. n (sym h.2 ∙ z))
          (subst (λ (v : ℕ). Leads y.book v t) (sym h.2) l)))

  -- a record made by this call leads nowhere
  new_leads : (r : ℕ) → x.book.count < r → t ≤ x.book.count → Leads y.book r t → ⊥
  new_leads r new old here = omega arith
  new_leads r new old (through i n l) = go (next_edge x c pick right inv r i n)
    where
      go : (x.book.slot r i ≡ y.book.slot r i) ⊎ ((j : ℕ) × (h : ℕ) × (y.book.holds j h ≡ y.book.slot r i)) → ⊥
      go (inl e) = n (sym e ∙ inv.recs.unmade_slots r i new)
      go (inr h) = far' (from_hand h.0 h.1 (λ z. n (sym h.2 ∙ z))
          (subst (λ (v : ℕ). Leads y.book v t) (sym h.2) l))

  -- a slot of a standing record leads where the book says
  slot_record : (u i d r : ℕ) → x.place u ≢ 0 → Keeps x.state (x.place u) → at (slots (x.state.cell (x.place u))) i ≡ d →
      x.place r ≡ d → d ≢ 0 → r ≡ x.book.slot u i
  slot_record u i d r placed kept content at_d n = grind arith

  -- where a marked record's slot leads to r, and r to the record, so does the marked one
  via_slot : (u i d r : ℕ) → r ≡ x.book.slot u i → x.place r ≡ d → d ≢ 0 → Leads x.book r t → Leads x.book u t
  via_slot u i d r is_slot at_d n l = through i (λ z. n (sym at_d ∙ ap x.place (is_slot ∙ z) ∙ inv.recs.none_at))
      (subst (λ (v : ℕ). Leads x.book v t) is_slot l)

  next_untraced : Untraced x t → Untraced y t
  next_untraced un = record {
    made = let a = next_count x c pick right inv in let b = un.made in omega arith;
    no_path = λ d l r e ld. by_age d l r e ld (cases_lt x.book.count r);
  }
    where
      nz : (d : ℕ) → Marked (colour (y.state.cell d)) → d ≢ 0
      nz d l z = marked_used (y.state.cell d) l (ap (λ (m : ℕ). colour (y.state.cell m)) z ∙ inv'.heap.no_zero)

      touched : (d : ℕ) → d ≢ 0 → (r : ℕ) → y.place r ≡ d → x.place r ≡ d → Leads y.book r t →
          Marked (colour (x.state.cell d)) ⊎ Touched x.state y.state d → ⊥
      touched d n r e o ld (inl l) = un.no_path d l r o (leads_back ld)
      touched d n r e o ld (inr (in_hand j h q)) =
          far' (from_hand j h (λ z. n (sym q ∙ (inv'.hands j h).is ∙ ap y.place z ∙ inv'.recs.none_at))
          (subst (λ (v : ℕ). Leads y.book v t) same_record ld))
        where
          same_record : r ≡ y.book.holds j h
          same_record = inv'.recs.one_place r _ (e ∙ sym q ∙ (inv'.hands j h).is) (λ z. n (sym e ∙ z))
      touched d n r e o ld (inr (in_slot j g i m q)) =
          far (from_hand j g (λ z. m (at_g ∙ ap x.place z ∙ inv.recs.none_at))
          (via_slot (x.book.holds j g) i d r from_slot o n (leads_back ld)))
        where
          at_g : hand x.state j g ≡ x.place (x.book.holds j g)
          at_g = (inv.hands j g).is

          from_slot : r ≡ x.book.slot (x.book.holds j g) i
          from_slot = slot_record (x.book.holds j g) i d r (λ z. m (at_g ∙ z))
              (subst (λ (v : ℕ). Keeps x.state v) at_g ((inv.jobs j).roots g m))
              (sym (ap (λ (v : ℕ). at (slots (x.state.cell v)) i) at_g) ∙ q) o n
      touched d n r e o ld (inr (from_marked w i l q)) = un.no_path w l u at_u (via_slot u i d r from_slot o n (leads_back ld))
        where
          own : (r : ℕ) × (x.place r ≡ w)
          own = inv.recs.owner w (marked_used (x.state.cell w) l)

          u : ℕ
          u = own.0

          at_u : x.place u ≡ w
          at_u = own.1

          wz : w ≢ 0
          wz z = marked_used (x.state.cell w) l (ap (λ (m : ℕ). colour (x.state.cell m)) z ∙ inv.heap.no_zero)

          from_slot : r ≡ x.book.slot u i
          from_slot = slot_record u i d r (λ z. wz (sym at_u ∙ z))
              (subst (λ (v : ℕ). Keeps x.state v) (sym at_u)
              (marked_kept x.state.phase x.state.cursor w (x.state.cell w) l))
              (ap (λ (v : ℕ). at (slots (x.state.cell v)) i) at_u ∙ q) o n

      by_age : (d : ℕ) → Marked (colour (y.state.cell d)) → (r : ℕ) → y.place r ≡ d → Leads y.book r t →
          (x.book.count < r) ⊎ (r ≤ x.book.count) → ⊥
      by_age d l r e ld (inl new) = new_leads r new un.made ld
      by_age d l r e ld (inr old) = touched d (nz d l) r e (sym (next_place x c pick right inv r old (λ z. nz d l (sym e ∙ z)))
          ∙ e) ld ((next_changes x c pick right inv).marks d l)

-- after the commit: the record is gone or doomed
record Doomed (x : World) (t : ℕ) : Type 0 where
  pub made : t ≤ x.book.count
  pub doom : x.place t ≢ 0 → Keeps x.state (x.place t) → ⊥

next_doomed : (x : World) (c : Call) (pick : ℕ) → Picks x.state pick → Sound x → (t : ℕ) → Doomed x t →
    Doomed (next x c pick) t
next_doomed x c pick right inv t dm = record {
  made = let a = next_count x c pick right inv in let b = dm.made in omega arith;
  doom = λ n k. go n ((next_changes x c pick right inv).back ((next x c pick).place t) k);
}
  where
    go : (next x c pick).place t ≢ 0 → Keeps x.state ((next x c pick).place t) ⊎
        (colour (x.state.cell ((next x c pick).place t)) ≡ None) → ⊥
    go n (inl k) = let e = next_place x c pick right inv t dm.made n in dm.doom (λ z. n (e ∙ z))
        (subst (λ (v : ℕ). Keeps x.state v) e k)
    go n (inr k) = let e = next_place x c pick right inv t dm.made n in inv.recs.stands t (λ z. n (e ∙ z))
        (ap (λ (v : ℕ). colour (x.state.cell v)) (sym e) ∙ k)

cleaning_marked : (x : Cell) (cur c : ℕ) → Kept Cleaning cur c x → Marked (colour x)
cleaning_marked x cur c k = grind arith

commit_dooms : (x : World) (t : ℕ) → Untraced x t → x.state.phase ≡ Cleaning → Doomed x t
commit_dooms x t un e = record {
  made = un.made;
  doom = λ n k. un.no_path (x.place t) (cleaning_marked _ x.state.cursor (x.place t)
      (subst (λ (p : Phase). Kept p x.state.cursor (x.place t) (x.state.cell (x.place t))) e k)) t refl here;
}

normal_gone : (x : World) (t : ℕ) → Sound x → Doomed x t → x.state.phase ≡ Normal → x.place t ≡ 0
normal_gone x t inv dm e = grind arith

through_last : {P : World → Type 0} {x y : World} → Through P x y → P y
through_last h = grind arith

through_untraced : {t : ℕ} {x y : World} → Through (Unreached t) x y → Sound x → Untraced x t → Untraced y t
through_untraced (now far) g p = p
through_untraced {t} (more {y = y} q c pick right far) g p = next_untraced y c pick right (through_sound q g) t
    (through_last q) far (through_untraced q g p)

later_doomed : {x y : World} (t : ℕ) → Later x y → Sound x → Doomed x t → Doomed y t
later_doomed t (now p) g d = d
later_doomed t (more {y = y} l c pick right p) g d = next_doomed y c pick right (through_sound l g) t (later_doomed t l g d)

-- begin: nothing is grey or black
begin_untraced : (x : World) (t pick : ℕ) → Picks x.state pick → Sound x → x.place t ≢ 0 →
    Granted x begin pick → Untraced (next x begin pick) t
begin_untraced x t pick right inv n e = record {
  made = let more = next_count x begin pick right inv in elim (cases_lt x.book.count t)
      [ inl w ↦ absurd (n (inv.recs.unmade t w)) | inr w ↦ omega arith ];
  no_path = λ d l r p ld. none_marked (colour (x.state.cell d)) (white d).0 (white d).1
      (subst (λ (c : Cell). Marked (colour c)) (same_cell d) l);
}
  where
    same_cell : (d : ℕ) → (next x begin pick).state.cell d ≡ x.state.cell d
    same_cell d = next_cases x begin pick (λ y. y.state.cell d ≡ x.state.cell d) refl (λ p. refl)

    white : (d : ℕ) → ColourOk Normal x.state.cursor d (colour (x.state.cell d))
    white d = subst (λ (p : Phase). ColourOk p x.state.cursor d (colour (x.state.cell d)))
        (phase_is Normal _ (granted_next x begin pick e).0.0) (inv.heap.colours d)

    none_marked : (l : Option Colour) → l ≢ Some Grey → l ≢ Some Black → Marked l → ⊥
    none_marked (Some Grey) g b h = g refl
    none_marked (Some Black) g b h = b refl
    none_marked _ g b h = h

pub frees : (x y z : World) → Run x → (r first last : ℕ) → x.place r ≢ 0 →
    Picks x.state first → Granted x begin first → Through (Unreached r) (next x begin first) y →
    Picks y.state last → Commits y step last → Later (next y step last) z → z.state.phase ≡ Normal → z.place r ≡ 0
frees x y z run r first last n right e quiet right' cm later nm = normal_gone z r (through_sound later sound2)
    (later_doomed r later sound2 (commit_dooms (next y step last) r untraced2 cm.after)) nm
  where
    sound1 : Sound (next x begin first)
    sound1 = next_sound x first (run_sound run) right begin

    sound_y : Sound y
    sound_y = through_sound quiet sound1

    sound2 : Sound (next y step last)
    sound2 = next_sound y last sound_y right' step

    untraced2 : Untraced (next y step last) r
    untraced2 = next_untraced y step last right' sound_y r (through_last quiet)
        (λ h. through_last quiet (subst (λ (b : Book). Reached b r) (step_book y step last refl) h))
        (through_untraced quiet sound1 (begin_untraced x r first right (run_sound run) n e))

-- The book's slots hold what the last granted store put there, and a granted load gives just that.
use Rattle.std.proofs.Common.{◌≡◌, ℕ, suc, ◌<◌, ◌≤◌, Bool, true, false, ◌≢◌, ◌⊎◌, length, Ok, Err, Result, sym, refl, ap, ◌∙◌, subst, inl, inr, arith, is_ok}
use borrow.Author.Tests.{both_ways}
use Rattle.std.proofs.lemmas.Bool.{cases_eq}
use Rattle.refusal.specs.declared.Refusal.{Refusal}
use Rattle.model.specs.Book.{Book, is_found, write, write_settle}
use Rattle.model.specs.Calls.{Answer, Call, Grant, by, load, make, settle, store, text}
use Rattle.model.specs.Machine.{Job, State, at, hand, held, set_hand, slots, upd}
use Rattle.model.specs.Runs.{Granted, LastPut, Picks, Puts, Run, World, earlier, granted, never, next, next_by, puts, start, called, this}
use Rattle.model.specs.Tables.{job_checks, job_effect, outcome, running}
use Rattle.model.proofs.Granted.{Passed, granted_next, hand_range, not_zero}
use Rattle.model.proofs.Invariant.{Keeps, Sound}
use Rattle.model.proofs.RunsKeep.{run_sound}
use Rattle.model.proofs.TableLaws.{put_elim, upd_elim, upd_same}

-- a call leaves the slots of all records, and is no store
record SlotsStay (b : Book) (c : Call) (a : Answer) : Type 0 where
  pub same_slot : (r i : ℕ) → (write b c a).slot r i ≡ b.slot r i
  pub no_store : (j g i h : ℕ) → c ≢ by j (store g i h)

record IsStore (c : Call) : Type 0 where
  pub job : ℕ
  pub of : ℕ
  pub at_slot : ℕ
  pub from : ℕ
  pub is : c ≡ by job (store of at_slot from)

-- no record was made beyond the count, so its slots are empty
abbrev UnmadeEmpty : Book → Type 0
UnmadeEmpty b = (r i : ℕ) → b.count < r → b.slot r i ≡ 0

new_slots : (b : Book) → UnmadeEmpty b → (r i : ℕ) → upd b.slot (suc b.count) (λ k. 0) r i ≡ b.slot r i
new_slots b u r i = grind arith

-- a call leaves all slots, or is a store
slots_stay_or_store : (b : Book) (c : Call) (a : Answer) → UnmadeEmpty b → SlotsStay b c a ⊎ IsStore c
slots_stay_or_store b (by j (make h w)) a u = inl (record { same_slot = new_slots b u; no_store = λ j g i h e. cc })
slots_stay_or_store b (by j (settle name h w)) a u =
    inl (record { same_slot = go (is_found a); no_store = λ j g i h e. cc })
  where
    go : (t : Bool) (r i : ℕ) → (write_settle t b j (text name) h w).slot r i ≡ b.slot r i
    go true r i = refl
    go false r i = new_slots b u r i
slots_stay_or_store b (by j (store g k h)) a u = inr (record { job = j; of = g; at_slot = k; from = h; is = refl })
slots_stay_or_store b _ a u = inl (record { same_slot = λ r i. refl; no_store = λ j g i h e. cc })

-- a store that puts something into a slot is a store of that slot
puts_is : {b : Book} {r i v : ℕ} {c : Call} → Puts b r i v c →
    (j : ℕ) × (g : ℕ) × (h : ℕ) × (c ≡ by j (store g i h)) × (b.holds j g ≡ r)
puts_is h = grind arith

-- a granted store of slot k of what hand g holds: it is slot i of record r, or leaves that one
stored_last : {x : World} (run : Run x) (j g k h pick : ℕ) (right : Picks x.state pick) (r i : ℕ) →
    Granted x (by j (store g k h)) pick → LastPut r i (x.book.slot r i) x run →
    LastPut r i (upd x.book.slot (x.book.holds j g) (upd (x.book.slot (x.book.holds j g)) k (x.book.holds j h)) r i)
    (next x (by j (store g k h)) pick) (called run (by j (store g k h)) pick right)
stored_last {x} run j g k h pick right r i ok old = go (cases_eq (b.holds j g) r) (cases_eq k i)
  where
    b : Book
    b = x.book

    after : ℕ → Type 0
    after v = LastPut r i v (next x (by j (store g k h)) pick) (called run (by j (store g k h)) pick right)

    slot : ℕ → ℕ → ℕ
    slot = upd b.slot (b.holds j g) (upd (b.slot (b.holds j g)) k (b.holds j h))

    -- another slot
    miss : ((b.holds j g ≡ r) × (k ≡ i) → ⊥) → after (slot r i)
    miss n = subst after (sym same_slot) (earlier (λ u q p. let s = puts_is p in n (holds_is s.3 s.4, slot_is s.3)) old)
      where
        same_slot : slot r i ≡ b.slot r i
        same_slot = upd_elim (λ f. f i ≡ b.slot r i) b.slot (b.holds j g) r _
            (λ w. upd_elim (λ y. y ≡ b.slot r i) (b.slot (b.holds j g)) k i (b.holds j h) (λ e. absurd (n (w, e)))
            (λ e. ap (λ (m : ℕ). b.slot m i) w)) (λ w. refl)

        holds_is : {j' g' h' : ℕ} → by j (store g k h) ≡ by j' (store g' i h') → b.holds j' g' ≡ r → b.holds j g ≡ r
        holds_is {j'} {g'} {h'} e f = let a : j ≡ j' = cc in let c : g ≡ g' = cc in subst (λ (m : ℕ). b.holds m g ≡ r) (sym a)
            (subst (λ (m : ℕ). b.holds j' m ≡ r) (sym c) f)

        slot_is : {j' g' h' : ℕ} → by j (store g k h) ≡ by j' (store g' i h') → k ≡ i
        slot_is e = cc

    go : (b.holds j g ≡ r) ⊎ (b.holds j g ≡ r → ⊥) → (k ≡ i) ⊎ (k ≡ i → ⊥) → after (slot r i)
    go (inl p) (inl q) = subst after (sym hit)
        (this ok (subst (λ (m : ℕ). Puts b r m (b.holds j h) (by j (store g k h))) q (puts j g h p refl)))
      where
        hit : slot r i ≡ b.holds j h
        hit = upd_elim (λ f. f i ≡ b.holds j h) b.slot (b.holds j g) r _
            (λ w. upd_elim (λ y. y ≡ b.holds j h) (b.slot (b.holds j g)) k i (b.holds j h) (λ e. refl) (λ n. absurd (n q)))
            (λ n. absurd (n p))
    go (inl p) (inr q) = miss (λ t. q t.1)
    go (inr p) q = miss (λ t. p t.0)

pub slots_last_put : {x : World} (run : Run x) (r i : ℕ) → LastPut r i (x.book.slot r i) x run
unfolding next
slots_last_put (start n w small) r i = never
slots_last_put (called {x = y} run c pick right) r i = by_outcome (outcome y.state c pick) refl (slots_last_put run r i)
  where
    after : Call → ℕ → Type 0
    after d v = LastPut r i v (next y d pick) (called run d pick right)

    by_outcome : (o : Result Grant Refusal) → outcome y.state c pick ≡ o → LastPut r i (y.book.slot r i) y run →
        after c ((next_by y c pick o).book.slot r i)
    by_outcome (Err e) q h = earlier (λ u g p. both_ways _ (ap is_ok q) g) h
    by_outcome (Ok a) q h = on (slots_stay_or_store y.book c a.answer (run_sound run).recs.unmade_slots)
      where
        on : SlotsStay y.book c a.answer ⊎ IsStore c → after c ((write y.book c a.answer).slot r i)
        on (inl s) = subst (after c) (sym (s.same_slot r i))
            (earlier (λ u g p. let t = puts_is p in s.no_store t.0 t.1 i t.2 t.3) h)
        on (inr s) = subst (λ (d : Call). Granted y d pick → after d ((write y.book d a.answer).slot r i)) (sym s.is)
            (λ ok. stored_last run s.job s.of s.at_slot s.from pick right r i ok h) (ap is_ok q)

-- a new edge between records leads to what a hand holds
pub new_edge : (b : Book) (c : Call) (a : Answer) → UnmadeEmpty b →
    (r i : ℕ) → (write b c a).slot r i ≢ 0 → (b.slot r i ≡ (write b c a).slot r i) ⊎
    ((j : ℕ) × (h : ℕ) × ((write b c a).holds j h ≡ (write b c a).slot r i))
new_edge b c a u r i = go (slots_stay_or_store b c a u)
  where
    Edge : Call → ℕ → Type 0
    Edge d v = (b.slot r i ≡ v) ⊎ ((j : ℕ) × (h : ℕ) × ((write b d a).holds j h ≡ v))

    stored : (j g k h : ℕ) → Edge (by j (store g k h)) ((write b (by j (store g k h)) a).slot r i)
    stored j g k h = upd_elim (λ f. Edge (by j (store g k h)) (f i)) b.slot (b.holds j g) r
        (upd (b.slot (b.holds j g)) k (b.holds j h))
        (λ q. upd_elim (λ y. Edge (by j (store g k h)) y) (b.slot (b.holds j g)) k i (b.holds j h) (λ w. inr (j, h, refl))
        (λ w. inl (ap (λ (m : ℕ). b.slot m i) (sym q)))) (λ q. inl refl)

    go : SlotsStay b c a ⊎ IsStore c → (write b c a).slot r i ≢ 0 → Edge c ((write b c a).slot r i)
    go (inl h) n = inl (sym (h.same_slot r i))
    go (inr h) n = subst (λ (d : Call). Edge d ((write b d a).slot r i)) (sym h.is)
        (stored h.job h.of h.at_slot h.from)

pub hand_now : (s : State) (j h v : ℕ) → 1 ≤ h → h ≤ length (s.job j).hands → hand (set_hand s j h v) j h ≡ v
hand_now s j h v lo hi = ap (λ (y : Job). at y.hands h) (upd_same s.job j _) ∙ put_elim (λ x. x ≡ v) (s.job j).hands h h v
    (λ e. refl) (λ n. absurd (n refl)) lo hi

pub loads : (x : World) (run : Run x) (j g i h pick : ℕ) → Picks x.state pick → Granted x (by j (load g i h)) pick →
    (v : ℕ) × LastPut (x.book.holds j g) i v x run × (hand (next x (by j (load g i h)) pick).state j h ≡ x.place v)
loads x run j g i h pick right ok = (
  x.book.slot (x.book.holds j g) i,
  slots_last_put run (x.book.holds j g) i,
  ap (λ (y : World). hand y.state j h) gn.1 ∙ loaded gn.0,
)
  where
    gn : Passed (job_checks x.state j (load g i h)) ×
        (next x (by j (load g i h)) pick ≡ granted x (by j (load g i h)) pick (job_effect x.state j (load g i h) pick))
    gn = granted_next x (by j (load g i h)) pick ok

    inv : Sound x
    inv = run_sound run

    loaded : Passed (job_checks x.state j (load g i h)) →
        hand (set_hand x.state j h (at (slots (held x.state j g)) i)) j h ≡ x.place (x.book.slot (x.book.holds j g) i)
    loaded (gs, (hs, (running, (some_held, rest)))) = hand_now x.state j h _ (hand_range h hs).0
        (let u = (inv.jobs j).eight in let v = (hand_range h hs).1 in omega arith) ∙ content
      where
        held_at : hand x.state j g ≡ x.place (x.book.holds j g)
        held_at = (inv.hands j g).is

        content : at (slots (held x.state j g)) i ≡ x.place (x.book.slot (x.book.holds j g) i)
        content = ap (λ (m : ℕ). at (slots (x.state.cell m)) i) held_at ∙ ((inv.recs.recs (x.book.holds j g)
            (λ z. not_zero _ some_held (held_at ∙ z))
            (subst (λ (m : ℕ). Keeps x.state m) held_at ((inv.jobs j).roots g (not_zero _ some_held)))).holds i).is

-- records are only added
pub write_count : (b : Book) (c : Call) (a : Answer) → b.count ≤ (write b c a).count
write_count b c a = grind arith

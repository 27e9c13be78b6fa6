-- A name goes off file only at a commit, unreached, and with every name whose record leads to its own.
use Rattle.std.proofs.Common.{◌≡◌, ℕ, ◌<◌, ◌≤◌, ◌≢◌, ◌⊎◌, List, sym, ap, ◌∙◌, subst, inl, inr, Some}
use Rattle.std.proofs.lemmas.Bool.{cases_eq, cases_lt}
use Rattle.model.specs.declared.Phase.{Phase}
use Rattle.model.specs.declared.Phase.TheVariants.{Cleaning, Tracing}
use Rattle.model.specs.Book.{Book, Leads, bearer}
use Rattle.model.specs.Calls.{Call}
use Rattle.model.specs.Machine.{Card, State, card_of, colour, filed}
use Rattle.model.specs.Promise.{Lost}
use Rattle.model.specs.Runs.{Loses, Picks, Run, World, next}
use Rattle.model.proofs.CallChanges.{Commit, SameNames}
use Rattle.model.proofs.CardsRead.{filed_live, on_file}
use Rattle.model.proofs.Invariant.{Keeps, Live, LiveCard, Sound, Spared}
use Rattle.model.proofs.RunsKeep.{next_sound, run_sound}
use Rattle.model.proofs.StepChanges.{next_changes, next_place, step_book}
use Rattle.model.proofs.StoreAgrees.{Carded, Stands, carded, leads_stands, reached_stands}
use Rattle.model.proofs.TakingKeeps.{latest_most}

module _ (x : World) (c : Call) (pick : ℕ) (right : Picks x.state pick) (inv : Sound x) (t : List ℕ) (lose : Loses x c pick t)
  where
    abbrev s : State
    s = x.state

    abbrev y : World
    y = next x c pick

    abbrev s' : State
    s' = (next x c pick).state

    abbrev k : ℕ
    k = filed x.state t

    inv' : Sound y
    inv' = next_sound x pick inv right c

    was_live : LiveCard s k × ((s.card k).spelling ≡ t)
    was_live = filed_live s t lose.0

    commits : Commit c s s'
    commits = go (next_changes x c pick right inv).names
      where
        go : SameNames s s' ⊎ Commit c s s' → Commit c s s'
        go (inl h) = let l = h k was_live.0 in absurd
            (on_file s' y.book y.place inv' t k l.0 (l.1 ∙ was_live.1) lose.1)
        go (inr h) = h

    stood : (x.place (bearer x.book t) ≢ 0) × (x.place (bearer x.book t) ≡ (s.card k).record_at)
    stood = ((λ z. was_live.0.filled (sym at_k ∙ z)), at_k)
      where
        at_k : x.place (bearer x.book t) ≡ (s.card k).record_at
        at_k = ap (λ (w : List ℕ). x.place (bearer x.book w)) (sym was_live.1) ∙ inv.recs.newest k was_live.0

    -- if its record stood in a kept cell after the commit, its card would still be live
    not_stands : Stands s' y.place (bearer x.book t) → ⊥
    not_stands h = on_file s' y.book y.place inv' t k
        (subst (λ (z : Card). Live s'.cell s'.phase z) (sym (commits.cards k)) (record {
          filled = was_live.0.filled;
          not_white = λ e z. subst (λ (p : Phase). Spared p s'.cursor (y.place (bearer x.book t))) e
              (h.kept.spared (ap (λ (m : ℕ). colour (s'.cell m))
              (next_place x c pick right inv _ (latest_most x.book.name x.book.count t) h.placed ∙ stood.1) ∙ z));
        }))
        (ap (λ (z : Card). z.spelling) (commits.cards k) ∙ was_live.1) lose.1

    module _ (q : ℕ) (u : List ℕ) (n : x.place q ≢ 0) (e : x.book.name q ≡ Some u) where
      stands_q : Stands s x.place q
      stands_q = record {
        placed = n;
        kept = record {
          in_use = inv.recs.stands q n;
          spared = λ z. subst (λ (p : Phase). Spared p s.cursor (x.place q)) (sym commits.before) tt;
        };
      }

      card_q : Carded s x.place q u (card_of (s.cell (x.place q)))
      card_q = carded s x.book x.place inv q u stands_q e

      -- a record whose name is still on file after the commit stands in a kept cell
      still_stands : filed s' u ≢ 0 → Stands s' y.place q
      still_stands z = record { placed = λ w. n (sym stays_at ∙ w); kept = subst (λ (d : ℕ). Keeps s' d) (sym stays_at) kept_q }
        where
          m : ℕ
          m = filed s' u

          now_live : LiveCard s' m × ((s'.card m).spelling ≡ u)
          now_live = filed_live s' u z

          then_live : LiveCard s m
          then_live = record {
            filled = λ w. now_live.0.filled (ap (λ (z : Card). z.record_at) (commits.cards m) ∙ w);
            not_white = λ w. absurd (tracing_cleaning commits.before w);
          }
            where
              tracing_cleaning : {p : Phase} → p ≡ Tracing → p ≡ Cleaning → ⊥
              tracing_cleaning a b = cc

          at_q : (s'.card m).record_at ≡ x.place q
          at_q = ap (λ (z : Card). z.record_at) (commits.cards m) ∙ ap (λ (i : ℕ). (s.card i).record_at)
              (inv.cards.distinct m _ then_live card_q.live (ap (λ (z : Card). z.spelling) (sym (commits.cards m))
              ∙ now_live.1 ∙ sym card_q.spell)) ∙ card_q.points

          kept_q : Keeps s' (x.place q)
          kept_q = subst (λ (d : ℕ). Keeps s' d) at_q (inv'.cards.live m now_live.0).0

          -- the record that owns that cell is still q
          own : (r : ℕ) × (y.place r ≡ x.place q)
          own = inv'.recs.owner (x.place q) kept_q.in_use

          made_before : own.0 ≤ x.book.count
          made_before = elim (cases_lt x.book.count own.0) [
            | inl w ↦ absurd (n (sym own.1 ∙ inv'.recs.unmade own.0
                (subst (λ (b : Book). b.count < own.0) (sym (step_book x c pick commits.by_step)) w)))
            | inr w ↦ w
          ]

          was_at : x.place own.0 ≡ x.place q
          was_at = sym (next_place x c pick right inv own.0 made_before (λ w. n (sym own.1 ∙ w))) ∙ own.1

          stays_at : y.place q ≡ x.place q
          stays_at = ap y.place (sym (inv.recs.one_place own.0 q was_at (λ w. n (sym was_at ∙ w)))) ∙ own.1

      with_it : Leads x.book q (bearer x.book t) → Loses x c pick u
      with_it l = (on_file s x.book x.place inv u _ card_q.live card_q.spell, go (cases_eq (filed s' u) 0))
        where
          go : (filed s' u ≡ 0) ⊎ (filed s' u ≡ 0 → ⊥) → filed s' u ≡ 0
          go (inl z) = z
          go (inr z) = absurd (not_stands (leads_stands s' y.book y.place inv'
              (subst (λ (b : Book). Leads b q (bearer x.book t)) (sym (step_book x c pick commits.by_step)) l)
              (still_stands z)))

pub names_lost : (x : World) → Run x → (c : Call) (pick : ℕ) → Picks x.state pick → (t : List ℕ) → Loses x c pick t →
    Lost x c pick t
names_lost x run c pick right t lose = record {
  commit = record { by_step = commit.by_step; before = commit.before; after = commit.after };
  stood = stood x c pick right inv t lose;
  unreached = λ h. not_stands x c pick right inv t lose
      (reached_stands (next x c pick).state (next x c pick).book (next x c pick).place (next_sound x pick inv right c) h);
  with_it = with_it x c pick right inv t lose;
}
  where
    inv : Sound x
    inv = run_sound run

    commit : Commit c x.state (next x c pick).state
    commit = commits x c pick right inv t lose
